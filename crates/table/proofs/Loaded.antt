-- What the numbers that are read of a record come to: four and eight bytes as one number, what is open, who buys.
use mathlib.Core.Path.{◌≡◌, refl, sym, ap}
use mathlib.Core.List.{List}
use Prim.Native.Nat.{ℕ, suc, ◌+◌, ◌*◌, ◌-◌}
use native.Mathlib.Omega.{arith}
use lib.Dec.{eqb, ltb}
use lib.ListN.{get_or}
use borrow.Author.Tests.{ltb-true, ltb-false, lt-ltb, le-ltb}
use Rattle.octets.specs.Octets.{le_at}
use Rattle.octets.proofs.Bools.{split}
use Rattle.matching.specs.declared.Order.{Order}
use Rattle.matching.specs.Matching.{open_of, is_open, is_buy}
use Rattle.table.specs.Orders.{order_at}

-- ---- numbers of four and eight bytes

le_at_first : (n : ℕ) (t : List ℕ) (p : ℕ) → le_at (suc n) t p ≡ get_or t p 0 + 256 * le_at n t (p + 1)
unfolding le_at
le_at_first n t p = refl

le_at_zero : (t : List ℕ) (p : ℕ) → le_at 0 t p ≡ 0
unfolding le_at
le_at_zero t p = refl

le_at_four : (t : List ℕ) (p : ℕ)
    → le_at 4 t p ≡ get_or t p 0 + 256 * get_or t (p + 1) 0 + 65536 * get_or t (p + 1 + 1) 0 + 16777216 * get_or t (p + 1 + 1 + 1) 0
le_at_four t p =
    let a : le_at 4 t p ≡ get_or t p 0 + 256 * le_at 3 t (p + 1) = le_at_first 3 t p in
    let b : le_at 3 t (p + 1) ≡ get_or t (p + 1) 0 + 256 * le_at 2 t (p + 1 + 1) = le_at_first 2 t (p + 1) in
    let c : le_at 2 t (p + 1 + 1) ≡ get_or t (p + 1 + 1) 0 + 256 * le_at 1 t (p + 1 + 1 + 1) = le_at_first 1 t (p + 1 + 1) in
    let d : le_at 1 t (p + 1 + 1 + 1) ≡ get_or t (p + 1 + 1 + 1) 0 + 256 * le_at 0 t (p + 1 + 1 + 1 + 1) = le_at_first 0 t (p + 1 + 1 + 1) in
    let z : le_at 0 t (p + 1 + 1 + 1 + 1) ≡ 0 = le_at_zero t (p + 1 + 1 + 1 + 1) in
    omega (arith, a, b, c, d, z)

-- the number at place p, by the bytes that were read
pub four_read : (t : List ℕ) (p a b c d : ℕ) → a ≡ get_or t p 0 → b ≡ get_or t (p + 1) 0 → c ≡ get_or t (p + 2) 0 → d ≡ get_or t (p + 3) 0
    → a + 256 * b + 65536 * c + 16777216 * d ≡ le_at 4 t p
four_read t p a b c d e f g h =
    let x : p + 2 ≡ p + 1 + 1 = omega arith in
    let y : p + 3 ≡ p + 1 + 1 + 1 = omega arith in
    let j : get_or t (p + 2) 0 ≡ get_or t (p + 1 + 1) 0 = ap (λ (k : ℕ). get_or t k 0) x in
    let k : get_or t (p + 3) 0 ≡ get_or t (p + 1 + 1 + 1) 0 = ap (λ (k : ℕ). get_or t k 0) y in
    let w : le_at 4 t p ≡ get_or t p 0 + 256 * get_or t (p + 1) 0 + 65536 * get_or t (p + 1 + 1) 0 + 16777216 * get_or t (p + 1 + 1 + 1) 0 = le_at_four t p in
    omega (arith, e, f, g, h, j, k, w)

le_at_halves : (t : List ℕ) (p q : ℕ) → q ≡ p + 4 → le_at 8 t p ≡ le_at 4 t p + 4294967296 * le_at 4 t q
le_at_halves t p q e =
    let f : p + 1 + 1 + 1 + 1 ≡ q = omega arith in
    let g : le_at 4 t (p + 1 + 1 + 1 + 1) ≡ le_at 4 t q = ap (le_at 4 t) f in
    let a : le_at 8 t p ≡ get_or t p 0 + 256 * le_at 7 t (p + 1) = le_at_first 7 t p in
    let b : le_at 7 t (p + 1) ≡ get_or t (p + 1) 0 + 256 * le_at 6 t (p + 1 + 1) = le_at_first 6 t (p + 1) in
    let c : le_at 6 t (p + 1 + 1) ≡ get_or t (p + 1 + 1) 0 + 256 * le_at 5 t (p + 1 + 1 + 1) = le_at_first 5 t (p + 1 + 1) in
    let d : le_at 5 t (p + 1 + 1 + 1) ≡ get_or t (p + 1 + 1 + 1) 0 + 256 * le_at 4 t (p + 1 + 1 + 1 + 1) = le_at_first 4 t (p + 1 + 1 + 1) in
    let h : le_at 4 t p ≡ get_or t p 0 + 256 * get_or t (p + 1) 0 + 65536 * get_or t (p + 1 + 1) 0 + 16777216 * get_or t (p + 1 + 1 + 1) 0 = le_at_four t p in
    omega (arith, a, b, c, d, g, h)

-- the same, by the halves that were read
pub eight_read : (t : List ℕ) (p a b : ℕ) → a ≡ le_at 4 t p → b ≡ le_at 4 t (p + 4) → a + 4294967296 * b ≡ le_at 8 t p
eight_read t p a b e f = rw (e, f) (sym (le_at_halves t p (p + 4) (omega arith)))

-- ---- what is open, and who buys

-- something is open exactly if less is used than OrderQty
pub open_used : (o : Order) → ltb (o.executed + o.decremented + o.canceled) o.qty ≡ is_open o
unfolding open_of
open_used o =
    let u : ℕ = o.executed + o.decremented + o.canceled in
    split (ltb u o.qty)
    (λ e. rw e (sym (lt-ltb 0 (o.qty - u) (omega (arith, ltb-true)))))
    (λ e. rw e (sym (le-ltb 0 (o.qty - u) (omega (arith, ltb-false)))))

-- the same of record i, by the numbers that were read
pub open_read : (t : List ℕ) (i a b c q : ℕ) → a ≡ le_at 4 t (128 * i + 72) → b ≡ le_at 4 t (128 * i + 76) → c ≡ le_at 4 t (128 * i + 80)
    → q ≡ le_at 4 t (128 * i + 52) → ltb (a + b + c) q ≡ is_open (order_at t i)
unfolding order_at
open_read t i a b c q e f g h = rw (e, f, g, h) (open_used (order_at t i))

pub buy_read : (t : List ℕ) (i x : ℕ) → x ≡ get_or t (128 * i + 44) 0 → eqb x 1 ≡ is_buy (order_at t i)
unfolding order_at
buy_read t i x e = rw e
