-- `changes::refused_in`. Invariant: k counts the changes at the places below i.
use Prim.Native.Nat.{◌*◌, ◌≤◌}
use mathlib.Core.Path.{◌≡◌}
use Rattle.trials.specs.Changes.{refused_in}
use Rattle.trials.proofs.changed.refused_in.Given as goal

abbrev pub invariant-loop-i : goal.invariant-loop-i
invariant-loop-i l = (l.k ≡ refused_in l.q l.again l.s l.i) × (l.k ≤ 256 * l.i)
