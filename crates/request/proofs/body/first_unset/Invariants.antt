-- The first tag with nothing in the row. Invariant: it is the first from i on.
use Rattle.request.proofs.Answers.{Unset}
use Rattle.request.proofs.body.first_unset.Given as goal

abbrev pub invariant-loop-t : goal.invariant-loop-t
invariant-loop-t l = Unset l.tags l.rows.lens l.t-index
