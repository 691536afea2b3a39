-- `audit::is_unseen` meets its contract: unseen tells of the numbers passed.
use Rattle.audit.proofs.Marked.{Unseen}
use Rattle.audit.proofs.marks.is_unseen.Given as goal

abbrev pub invariant-loop-i : goal.invariant-loop-i
invariant-loop-i l = Unseen l.seen l.x l.n l.unseen l.i
