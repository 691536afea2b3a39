-- The tag at the front. Invariant: the first i bytes are digits, at most four, and say n.
use Rattle.fix.proofs.Spelling.{Spelled}
use Rattle.fix.proofs.fields.tag_of.Given as goal

abbrev pub invariant-loop-i : goal.invariant-loop-i
invariant-loop-i l = Spelled l.s l.n l.i
