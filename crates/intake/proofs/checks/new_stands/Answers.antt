-- `intake::checks::new_stands` meets its contract: the four checks in their order.
use Rattle.intake.proofs.Checking.{new_code, new_stranger, new_known, new_full, new_good}
use borrow.Author.Rules.{rules}
use Rattle.intake.proofs.checks.new_stands.Goals as goal

pub returns-then-not-is_code : goal.returns-then-not-is_code
returns-then-not-is_code c = search (rules, new_code)

pub returns-then-is_stranger : goal.returns-then-is_stranger
returns-then-is_stranger c = search (rules, new_stranger)

pub returns-then-holder_among-ne0 : goal.returns-then-holder_among-ne0
returns-then-holder_among-ne0 c = search (rules, new_known)

pub returns-then-record_for-eq0 : goal.returns-then-record_for-eq0
returns-then-record_for-eq0 c = search (rules, new_full)

pub returns : goal.returns
returns c = search (rules, new_good)
