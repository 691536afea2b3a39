-- The laws that looking for a level wants: the next level, an order on and at the end; the levels one after another; the
-- sums of a level.
use mathlib.Core.Path.{◌≡◌, refl, sym, ap, ◌∙◌}
use mathlib.Core.Bool.{◌&&◌, ◌||◌}
use mathlib.Core.List.{List}
use mathlib.Core.Logic.{⊎_elim}
use Prim.Native.Nat.{ℕ, zero, suc, ◌+◌, ◌≤◌, ◌<◌}
use native.Mathlib.Numerals.{add-one}
use native.Mathlib.Omega.{arith}
use lib.Dec.{eqb}
use lib.ListN.{length}
use borrow.Author.Tests.{eq-eqb, ne_eqb}
use Rattle.std.specs.Prelude.{Option, None, Some, cond}
use Rattle.octets.proofs.Bools.{split}
use Rattle.octets.proofs.Places.{below_or}
use Rattle.decimal.specs.declared.Instrument.{Instrument}
use Rattle.decimal.specs.Instruments.{highest}
use Rattle.matching.specs.declared.Order.{Order}
use Rattle.matching.specs.declared.Level.{Level}
use Rattle.matching.specs.Matching.{Book, at, buys, ahead}
use Rattle.matching.specs.Depth.{stands, behind, nearer, next, level_at, total, orders, depth}
use Rattle.matching.specs.Held.{Sound}
use Rattle.matching.specs.Quoted.{AllQuoted}
use Rattle.table.specs.Orders.{order_at, filled, book_of}
use Rattle.table.specs.Best.{stands_on}
use Rattle.table.specs.Facts.{Market}
use Rattle.table.proofs.Books.{length_book, at_book}
use Rattle.table.proofs.Lookups.{market_sound}

-- the order that a turn over the records loads
pub loaded : (t : List ℕ) (n i : ℕ) (r : Order) → n ≡ filled t → i < n → r ≡ order_at t (i + 1) → at (book_of t) (suc i) ≡ r
loaded t n i r e h p = at_book t (suc i) (omega arith) (omega arith) ∙ ap (λ (j : ℕ). order_at t j) (sym (add-one i)) ∙ sym p

pub loaded_sound : (t : List ℕ) (n i : ℕ) (r : Order) → Market t → n ≡ filled t → i < n → r ≡ order_at t (i + 1) → Sound r
loaded_sound t n i r m e h p = rw p (market_sound t (i + 1) m (omega arith) (omega arith))

-- ---- the next level

module _ (t : List ℕ) (n s x : ℕ) where
  pub next_none : 0 ≡ next (book_of t) s x 0
  unfolding next
  next_none = refl

  pub next_one : (i c v : ℕ) (r : Order) → n ≡ filled t → i < n → r ≡ order_at t (i + 1) → c ≡ next (book_of t) s x i
      → v ≡ nearer s x c r → v ≡ next (book_of t) s x (i + 1)
  unfolding next
  next_one i c v r e h p q z = rw (z, q, add-one i, loaded t n i r e h p)

-- ---- the levels one after another

module _ (t : List ℕ) (n s : ℕ) (e : n ≡ filled t) where
  size : length (book_of t) ≡ n
  size = length_book t ∙ sym e

  pub level_first : (x : ℕ) → x ≡ next (book_of t) s 0 n → x ≡ level_at (book_of t) s 0
  unfolding level_at
  level_first x p = p ∙ rw size

  pub level_next : (i x y : ℕ) → x ≡ level_at (book_of t) s i → (x ≡ 0 → ⊥) → y ≡ next (book_of t) s x n → y ≡ level_at (book_of t) s (i + 1)
  unfolding level_at
  level_next i x y p d q = rw (add-one i, ← p, ne_eqb x 0 d, size) q

-- behind no level there is none
none_behind : (b : Book) (s i k : ℕ) → level_at b s i ≡ 0 → i ≤ k → level_at b s k ≡ 0
unfolding level_at
none_behind b s i zero p h = let e : i ≡ 0 = omega arith in rw e at p
none_behind b s i (suc k) p h =
    ⊎_elim (λ (l : i < suc k). rw (eq-eqb (level_at b s k) 0 (none_behind b s i k p (omega arith))))
    (λ (l : suc k ≤ i). let e : i ≡ suc k = omega arith in rw e at p) (below_or i (suc k))

pub level_none : (b : Book) (s i k x : ℕ) → x ≡ level_at b s i → x ≡ 0 → i ≤ k → 0 ≡ level_at b s k
level_none b s i k x p z h = sym (none_behind b s i k (sym p ∙ z) h)

-- ---- the sums of a level

module _ (b : Book) (s l : ℕ) (r : Level) (e : r ≡ stands_on b s l) where
  pub sums_total : r.total ≡ total b s l
  unfolding stands_on
  sums_total = ap (λ (x : Level). x.total) e

  pub sums_orders : r.orders ≡ orders b s l
  unfolding stands_on
  sums_orders = ap (λ (x : Level). x.orders) e

-- ---- what a market may have

-- no level is above the market's highest
pub next_highest : (q : Instrument) (b : Book) (s : ℕ) → AllQuoted q b → (x n : ℕ) → n ≤ length b → next b s x n ≤ highest q
unfolding next nearer
next_highest q b s all x zero h = omega arith
next_highest q b s all x (suc n) h =
    let c = next b s x n in
    let o = at b (suc n) in
    split (stands s o && behind s x o.level && (eqb c 0 || ahead (buys s) o.level c))
    (λ t. rw t (all (suc n) (record { low = omega arith; high = h })).level)
    (λ t. rw t (next_highest q b s all x n (omega arith)))

-- ---- the answer

module _ (b : Book) (s k : ℕ) (r : Option ℕ) (p : r ≡ cond (eqb (level_at b s k) 0) None (Some (level_at b s k))) where
  pub depth_none : r ≡ None → None ≡ depth b s k
  unfolding depth
  depth_none q =
      split (eqb (level_at b s k) 0)
      (λ e. rw e)
      (λ e. let n : None ≡ Some (level_at b s k) = sym q ∙ (rw e at p) in cc)

  pub depth_level : (l : ℕ) → r ≡ Some l → (x : Level) → x ≡ stands_on b s l → Some x ≡ depth b s k
  unfolding depth stands_on
  depth_level l q x y =
      split (eqb (level_at b s k) 0)
      (λ e. let n : Some l ≡ None = sym q ∙ (rw e at p) in cc)
      (λ e.
      let n : Some l ≡ Some (level_at b s k) = sym q ∙ (rw e at p) in
      let z : l ≡ level_at b s k = cc in
      rw (e, ← z) (ap Some y))
