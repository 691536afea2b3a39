-- `canonical::read_exactly` meets its contract.
use Rattle.decimal.proofs.Canon.{exactly_other, exactly_not, exactly_yes}
use borrow.Author.Rules.{rules}
use Rattle.decimal.proofs.canonical.read_exactly.Goals as goal

pub returns-then-s-k : goal.returns-then-s-k
returns-then-s-k c = search (rules, exactly_other)

pub returns-then-digit_run-k : goal.returns-then-digit_run-k
returns-then-digit_run-k c = search (rules, exactly_not)

pub returns : goal.returns
returns c = search (rules, exactly_yes)
