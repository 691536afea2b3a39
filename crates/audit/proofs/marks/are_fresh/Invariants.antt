-- `audit::are_fresh` meets its contract: the numbers passed are distinct and below the next number, are noted, and their keys have marks.
use Rattle.octets.proofs.Ranges.{Passed}
use Rattle.audit.specs.Checking.{number_at}
use Rattle.audit.proofs.Marked.{Marked, Noted, key_at, fresh}
use Rattle.audit.proofs.marks.are_fresh.Given as goal

abbrev pub invariant-loop-j : goal.invariant-loop-j
invariant-loop-j l = Passed (fresh (number_at l.t l.p) l.next) l.n l.j × Marked (key_at (number_at l.t l.p)) l.marks.at l.j × Noted (number_at l.t l.p) l.seen l.j
