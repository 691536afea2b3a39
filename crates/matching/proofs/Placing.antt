-- The place of an order after a requested replacement: when it is kept and when another is taken, what holds either way, and
-- wrong answers that it does not give.
use mathlib.Core.Path.{◌≡◌, refl}
use mathlib.Core.Bool.{◌&&◌}
use mathlib.Core.Logic.{◌≢◌}
use Prim.Native.Nat.{ℕ, ◌*◌, ◌≤◌, ◌<◌}
use lib.Dec.{leb, eqb}
use borrow.Author.Tests.{eq-eqb, ne_eqb, le-leb, lt-leb}
use Rattle.octets.proofs.Bools.{split, both_i, both_not_l, both_not_r}
use native.Mathlib.Omega.{arith}
use Rattle.matching.specs.declared.Order.{Order}
use Rattle.matching.specs.declared.Event.TheVariants.{Replaced}
use Rattle.matching.specs.Matching.{better, place_after, amounts, change}
use Rattle.matching.specs.Rehearsed.{yield, sell}

-- what holds of the place it has and of the one given holds of the place after the replacement
pub place_either : (P : ℕ → Type 0) (o : Order) (level quantity given : ℕ) → P o.place → P given → P (place_after o level quantity given)
unfolding place_after
place_either P o level quantity given own other =
    split (eqb level o.level && leb quantity o.qty) (λ t. rw t own) (λ t. rw t other)

module _ (o : Order) (level quantity given : ℕ) where
  -- kept with the same yield and a quantity not above the one in force
  pub place_kept : level ≡ o.level → quantity ≤ o.qty → place_after o level quantity given ≡ o.place
  unfolding place_after
  place_kept l q = rw (both_i (eq-eqb level o.level l) (le-leb quantity o.qty q))

  -- lost with a greater one, and with another yield
  pub place_raised : o.qty < quantity → place_after o level quantity given ≡ given
  unfolding place_after
  place_raised q = rw (both_not_r (eqb level o.level) (leb quantity o.qty) (lt-leb quantity o.qty q))

  pub place_elsewhere : level ≢ o.level → place_after o level quantity given ≡ given
  unfolding place_after
  place_elsewhere l = rw (both_not_l (eqb level o.level) (leb quantity o.qty) (ne_eqb level o.level l))

  -- who keeps its place stands to every other order as before
  pub turn_kept : (n : ℕ) (other : Order) → level ≡ o.level → quantity ≤ o.qty
      → (better (change (Replaced n level quantity given) o) other ≡ better o other)
      × (better other (change (Replaced n level quantity given) o) ≡ better other o)
  unfolding better change
  turn_kept n other l q = rw (place_kept l q, l) (refl, refl)

-- ---- wrong answers: of a sell of 200 at 0.100 that has place 1, where place 3 is given
one : Order
one = sell 200 (yield 100) 1 11

-- a raise would keep its place
raise_keeps : place_after one (yield 100) 201 3 ≢ 1
unfolding place_after one
raise_keeps e = let z : ◌≡◌ {A = ℕ} 3 1 = e in omega arith

-- a reduction at another yield would keep it
reduction_elsewhere_keeps : place_after one (yield 101) 150 3 ≢ 1
unfolding place_after one
reduction_elsewhere_keeps e = let z : ◌≡◌ {A = ℕ} 3 1 = e in omega arith

-- a reduction at the same yield would lose it
reduction_loses : place_after one (yield 100) 150 3 ≢ 3
unfolding place_after one
reduction_loses e = let z : ◌≡◌ {A = ℕ} 1 3 = e in omega arith

-- one with the same quantity would lose it
unchanged_loses : place_after one (yield 100) 200 3 ≢ 3
unfolding place_after one
unchanged_loses e = let z : ◌≡◌ {A = ℕ} 1 3 = e in omega arith

-- 38 would be compared with what is open: 100 of the 200 are executed, 150 is a reduction
open_compared : place_after (amounts one 100 0 0 (100 * yield 100)) (yield 100) 150 3 ≢ 3
unfolding place_after one
open_compared e = let z : ◌≡◌ {A = ℕ} 1 3 = e in omega arith
