-- `changes::refused_other`: the byte there is no change.
use borrow.Author.Rules.{rules}
use Rattle.trials.proofs.Counting.{to_same, to_other}
use Rattle.trials.proofs.changed.refused_other.Goals as goal

pub returns-then-b-wide : goal.returns-then-b-wide
returns-then-b-wide c = search (rules, to_same)

pub returns : goal.returns
returns c = search (rules, to_other)
