-- `rows::copy_row` meets its contract. The invariant: what is still to do gives the end.
use Rattle.feed.specs.Rows.{copy_field, yes797}
use Rattle.feed.proofs.Weaving.{Weaving}
use Rattle.feed.proofs.rows.copy_row.Given as goal

abbrev pub invariant-loop-at : goal.invariant-loop-at
invariant-loop-at l = Weaving (λ f. f.tag) (copy_field l.number l.width) yes797 l.initial.row l.row l.held l.behind l.at
