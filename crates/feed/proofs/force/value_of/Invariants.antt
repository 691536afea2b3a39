-- `force::value_of` meets its contract. The invariant: what is left decides.
use Rattle.feed.proofs.Shown.{Sought}
use Rattle.feed.proofs.force.value_of.Given as goal

abbrev pub invariant-loop-field : goal.invariant-loop-field
invariant-loop-field l = Sought l.tag l.field-items l.field-index
