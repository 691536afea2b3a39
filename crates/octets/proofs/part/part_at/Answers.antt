-- `octets::part_at` meets its contract.
use Rattle.octets.proofs.Parts.{lent_none, lent_rest, lent_part}
use borrow.Author.Rules.{rules}
use Rattle.octets.proofs.part.part_at.Goals as goal

pub returns-then-end-p : goal.returns-then-end-p
returns-then-end-p c = search (lent_none, rules)

pub returns-then-end-p-2 : goal.returns-then-end-p-2
returns-then-end-p-2 c = search (lent_rest, rules)

pub returns : goal.returns
returns c = lent_part _ _ _
