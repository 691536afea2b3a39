-- `read::length_at` meets its contract.
use Rattle.report.proofs.Frames.{one_digit, nine_not, nine_within, nine_none, nine_yes, nine_wrong}
use borrow.Author.Rules.{rules}
use Rattle.report.proofs.read.length_at.Goals as goal

pub label_at-requires : goal.label_at-requires
label_at-requires c = search (rules, one_digit)

pub value_end-e-requires : goal.value_end-e-requires
value_end-e-requires c = search (rules, nine_within)

pub returns-then-e-s : goal.returns-then-e-s
returns-then-e-s c = search (rules, nine_yes, c.in_ok-n.was)

pub returns-in_err-n : goal.returns-in_err-n
returns-in_err-n c = rw c.from_residual.ensures (search (rules, nine_wrong, c.in_err-n.was))

pub returns-else-e-s : goal.returns-else-e-s
returns-else-e-s c = search (rules, nine_none)

pub returns-else-label_at : goal.returns-else-label_at
returns-else-label_at c = search (rules, nine_not)
