-- The events of a step are exact, each on the book that the ones before it have left.
use mathlib.Core.Path.{◌≡◌, refl, sym}
use mathlib.Core.Bool.{true}
use mathlib.Core.List.{List, [], ◌∷◌}
use mathlib.Core.Logic.{◌≢◌}
use Prim.Native.Nat.{ℕ}
use native.Mathlib.Omega.{arith}
use Rattle.octets.proofs.Bools.{not_both}
use Rattle.matching.specs.declared.Event.{Event}
use Rattle.matching.specs.declared.Event.TheVariants.{Accepted, Replaced, Withdrawn, Canceled, Decremented, Traded, Killed, Expired}
use Rattle.matching.specs.Matching.{Book, at, open_of, who, after}
use Rattle.matching.specs.Held.{In}
use Rattle.matching.specs.Happens.{moves, Fit, Fits}
use Rattle.matching.proofs.Events.{after_other}
use Rattle.matching.proofs.Steps.{Pair, Meeting, trade, newest, oldest, equal, less, more, Stepped, rests, kills, expires, matched, step_fits}
use Rattle.promises.proofs.Tells.{Exact}

abbrev pub Exacts : Book → List Event → Type 0
Exacts b [] = Unit {0}
Exacts b (e ∷ es) = Exact b e × Exacts (after b e) es

-- an event leaves what is exact of another order's
module _ (b : Book) (e : Event) (f : Fit b e) where
  pub exact_after : (g : Event) → moves g ≡ true → who g ≢ who e → Exact b g → Exact (after b e) g
  exact_after (Accepted n o) m d x = absurd (not_both m refl)
  exact_after (Replaced n l q p) m d x = absurd (not_both m refl)
  exact_after (Withdrawn n q) m d x = rw (after_other b e f n d) x
  exact_after (Canceled n q) m d x = rw (after_other b e f n d) x
  exact_after (Decremented n q) m d x = rw (after_other b e f n d) x
  exact_after (Traded n k q l) m d x = tt
  exact_after (Killed n q) m d x = rw (after_other b e f n d) x
  exact_after (Expired n q) m d x = rw (after_other b e f n d) x

-- ---- a step
module _ (b : Book) (w r : ℕ) (i : In b w) (p : Pair b w r) where
  meeting_exact : {es : List Event} → Fits b es → Meeting b w r es → Exacts b es
  meeting_exact f (trade o) = (tt, (tt, tt))
  meeting_exact f newest = (refl, tt)
  meeting_exact f oldest = (refl, tt)
  meeting_exact f (equal h) = (refl, (exact_after b _ f.0 (Canceled w (open_of (at b w))) refl (λ e. p.apart (sym e)) refl, tt))
  meeting_exact f (less h) = (refl, (exact_after b _ f.0 (Decremented r (open_of (at b w))) refl p.apart (omega arith), tt))
  meeting_exact f (more h) = (refl, (exact_after b _ f.0 (Decremented w (open_of (at b r))) refl (λ e. p.apart (sym e)) (omega arith), tt))

pub step_exact : (b : Book) (w v : ℕ) {es : List Event} → In b w → Stepped b w es v → Exacts b es
step_exact b w v i (rests z t) = tt
step_exact b w v i (kills h) = (refl, tt)
step_exact b w v i (expires z h) = (refl, tt)
step_exact b w v i (matched p m) = meeting_exact b w _ i p (step_fits b w w i (matched p m)) m
