-- `changes::refused_at`. Invariant: k counts the values below b.
use Prim.Native.Nat.{◌≤◌}
use mathlib.Core.Path.{◌≡◌}
use Rattle.trials.specs.Changes.{refused_at}
use Rattle.trials.proofs.changed.refused_at.Given as goal

abbrev pub invariant-loop-b : goal.invariant-loop-b
invariant-loop-b l = (l.k ≡ refused_at l.q l.again l.s l.i l.b) × (l.k ≤ l.b)
