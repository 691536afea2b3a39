-- `audit::is_filled` meets its contract.
use Rattle.audit.proofs.Filled.{Filling}
use Rattle.audit.proofs.characters.Characters.is_filled.Given as goal

abbrev pub invariant-loop-i : goal.invariant-loop-i
invariant-loop-i l = Filling l.self.low l.self.span l.room l.t l.p l.n l.good l.i
