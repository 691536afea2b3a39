-- What the code's last lines want: each law says a return of one function in plain numbers and tests.
use mathlib.Core.Path.{◌≡◌}
use mathlib.Core.Bool.{Bool, true, false, cond, not, ◌&&◌, ◌||◌}
use mathlib.Core.Logic.{◌≢◌}
use Prim.Native.Nat.{ℕ, ◌+◌, ◌*◌, ◌≤◌}
use native.Mathlib.Nat.{mul-le-mul_left}
use native.Mathlib.Omega.{arith}
use mir.Val.{Fits}
use mir.Syntax.{w64}
use lib.Dec.{eqb}
use borrow.Author.Tests.{ne_eqb}
use Rattle.matching.specs.declared.Order.{Order}
use Rattle.matching.specs.declared.Event.{Event}
use Rattle.matching.specs.declared.Event.TheVariants.{Traded}
use Rattle.matching.specs.Matching.{open_of, ahead, buys}
use Rattle.matching.specs.Held.{Sound, May}
use Rattle.matching.specs.Depth.{stands, behind, nearer, on_level, share}

-- the side of an order, where it is not the buys that are asked for
pub side_not : (s x : ℕ) (b : Bool) → b ≡ eqb x 1 → s ≢ 1 → not b ≡ cond (eqb s 1) (eqb x 1) (not (eqb x 1))
side_not s x b e n = rw (ne_eqb s 1 n, e)

-- the level of an order that is nearer, and of one that is not
pub nearer_yes : (s x c : ℕ) (o : Order) (a d e : Bool) → a ≡ stands s o → d ≡ behind s x o.level → e ≡ ahead (buys s) o.level c
    → (a && d && (eqb c 0 || e)) ≡ true → o.level ≡ nearer s x c o
unfolding nearer
nearer_yes s x c o a d e p q r t = rw (← p, ← q, ← r, t)

pub nearer_no : (s x c : ℕ) (o : Order) (a d e : Bool) → a ≡ stands s o → d ≡ behind s x o.level → e ≡ ahead (buys s) o.level c
    → (a && d && (eqb c 0 || e)) ≡ false → c ≡ nearer s x c o
unfolding nearer
nearer_no s x c o a d e p q r t = rw (← p, ← q, ← r, t)

-- what is open is at most the quantity, which is below 1,000,000,000
pub open_most : (o : Order) → Sound o → open_of o ≤ 999_999_999
unfolding open_of
open_most o s = omega (arith, s.qty_high)

-- an order on the level adds what it has open, another adds nothing
pub share_yes : (s l h x : ℕ) (o : Order) (a : Bool) → a ≡ on_level s l o → a ≡ true → x ≡ open_of o → h + x ≡ h + share s l o
unfolding share
share_yes s l h x o a p t e = rw (← p, t, e)

pub share_no : (s l h : ℕ) (o : Order) (a : Bool) → a ≡ on_level s l o → a ≡ false → h ≡ h + share s l o
unfolding share
share_no s l h o a p t = rw (← p, t) (omega arith)

-- so the total with one more fits
pub share_fits : (h x : ℕ) (o : Order) → Sound o → x ≡ open_of o → h ≤ 254 * 999_999_999 → Fits w64 (h + x)
share_fits h x o s e l = record { fits = omega (arith, open_most o s) }

-- a trade's value and the sum with it fit
module _ (e : Event) (o : Order) (n k q l : ℕ) (s : Sound o) (m : May e o) (t : e ≡ Traded n k q l) where
  level_most : l ≤ 1_999_999_999
  level_most = rw t at m.priced

  pub value_fits : Fits w64 (q * l)
  unfolding open_of
  value_fits =
      let h : q ≤ open_of o = rw t at m.enough in
      record { fits = omega (arith, mul-le-mul_left q level_most, s.qty_high) }

  pub sum_fits : Fits w64 (o.sum + q * l)
  unfolding open_of
  sum_fits =
      let h : q ≤ open_of o = rw t at m.enough in
      record { fits = omega (arith, mul-le-mul_left q level_most, s.qty_high, s.covered, s.sum_high) }
