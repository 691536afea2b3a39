-- BodyLength, CheckSum and the values of the header decide.
use Rattle.fix.proofs.Verdict.{settle_header, settle_length, settle_sum, settle_good}
use Rattle.std.proofs.Common.{rules}
use Rattle.fix.proofs.frame.settled.Goals as goal

pub returns-then-saturating_sub-count : goal.returns-then-saturating_sub-count
returns-then-saturating_sub-count c = search (rules, settle_length)

pub returns-then-not-sums : goal.returns-then-not-sums
returns-then-not-sums c = search (rules, settle_sum)

pub returns-then-not-right : goal.returns-then-not-right
returns-then-not-right c = search (rules, settle_header)

pub returns : goal.returns
returns c = search (rules, settle_good)
