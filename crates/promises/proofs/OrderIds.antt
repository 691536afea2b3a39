-- OrderIDs of a table: which record has one, if any has, and what is open of its order.
use mathlib.Core.Path.{◌≡◌, refl}
use mathlib.Core.List.{List}
use mathlib.Core.Logic.{◌≢◌}
use Prim.Native.Nat.{ℕ, ◌≤◌}
use native.Mathlib.Omega.{arith}
use lib.Dec.{eqb}
use borrow.Author.Tests.{eqb-true, eqb-false}
use Rattle.octets.proofs.Bools.{split}
use Rattle.matching.specs.Matching.{at, open_of}
use Rattle.matching.specs.Held.{In}
use Rattle.table.specs.Heading.{next_of}
use Rattle.table.specs.Orders.{order_id_at, filled, book_of}
use Rattle.table.specs.Facts.{Market}
use Rattle.table.proofs.Books.{length_book}
use Rattle.table.proofs.Lookups.{First, first_none, first_some}
use Rattle.promises.specs.Whole.{record_by, open_by}

-- no order has the OrderID
abbrev pub Nobody : List ℕ → ℕ → Type 0
Nobody t n = (i : ℕ) → In (book_of t) i → order_id_at t i ≢ n

pub in_filled : (t : List ℕ) (i : ℕ) → In (book_of t) i → i ≤ filled t
in_filled t i h = omega (arith, h.high, length_book t)

pub filled_in : (t : List ℕ) (i : ℕ) → 1 ≤ i → i ≤ filled t → In (book_of t) i
filled_in t i l h = record { low = l; high = omega (arith, length_book t) }

-- one order, one OrderID; it is below the next number
pub ids_apart : (t : List ℕ) → Market t → (i j : ℕ) → In (book_of t) i → In (book_of t) j → order_id_at t i ≡ order_id_at t j → i ≡ j
ids_apart t m i j h k e = m.order_ids.apart i j h.low (in_filled t i h) k.low (in_filled t j k) e

pub nobody_yet : (t : List ℕ) → Market t → (n : ℕ) → next_of t ≤ n → Nobody t n
nobody_yet t m n l i h e = omega (arith, m.order_ids.below i h.low (in_filled t i h))

-- ---- the record that has one
module _ (t : List ℕ) (n : ℕ) where
  pub by_none : record_by t n ≡ 0 → Nobody t n
  unfolding record_by
  by_none h i l = eqb-false (order_id_at t i) n (first_none (λ j. eqb (order_id_at t j) n) (filled t) h i l.low (in_filled t i l))

  found : (i : ℕ) → record_by t n ≡ i → 1 ≤ i → First (λ j. eqb (order_id_at t j) n) (filled t) i
  unfolding record_by
  found i h l = first_some (λ j. eqb (order_id_at t j) n) (filled t) i h l

  pub by_some : (i : ℕ) → record_by t n ≡ i → 1 ≤ i → order_id_at t i ≡ n
  by_some i h l = eqb-true (order_id_at t i) n (found i h l).holds

  pub by_in : (i : ℕ) → record_by t n ≡ i → 1 ≤ i → In (book_of t) i
  by_in i h l = filled_in t i l (found i h l).within

  pub open_is : (i : ℕ) → record_by t n ≡ i → open_by t n ≡ open_of (at (book_of t) i)
  unfolding open_by
  open_is i h = rw h

  -- nothing is open of an order that no record has
  pub open_none : Nobody t n → open_by t n ≡ 0
  unfolding open_of
  open_none g =
      split (eqb (record_by t n) 0)
      (λ z. open_is 0 (eqb-true (record_by t n) 0 z))
      (λ z.
      let l : 1 ≤ record_by t n = omega (arith, eqb-false (record_by t n) 0 z) in
      absurd (g (record_by t n) (by_in (record_by t n) refl l) (by_some (record_by t n) refl l)))

-- of one that a record has, what is open there
pub open_there : (t : List ℕ) → Market t → (i : ℕ) → In (book_of t) i → open_by t (order_id_at t i) ≡ open_of (at (book_of t) i)
open_there t m i h =
    let n : ℕ = order_id_at t i in
    split (eqb (record_by t n) 0)
    (λ z. absurd (by_none t n (eqb-true (record_by t n) 0 z) i h refl))
    (λ z.
    let l : 1 ≤ record_by t n = omega (arith, eqb-false (record_by t n) 0 z) in
    open_is t n i (ids_apart t m (record_by t n) i (by_in t n (record_by t n) refl l) h (by_some t n (record_by t n) refl l)))
