-- The book of a table: its length, its orders, and the book of a table in which one record has changed or one was added.
use mathlib.Core.Path.{◌≡◌, refl, sym, ap, ◌∙◌}
use mathlib.Core.List.{List}
use Prim.Native.Nat.{ℕ, zero, suc, ◌+◌, ◌≤◌, ◌<◌}
use native.Mathlib.Nat.{not-suc-le-zero, add-zero}
use native.Mathlib.Omega.{arith}
use lib.Dec.{eqb}
use lib.ListN.{length, get_or}
use lib.Seq.{ext_get_or}
use borrow.Author.Tests.{eqb-true, eqb-false}
use Rattle.octets.proofs.Bools.{split}
use Rattle.matching.specs.declared.Order.{Order}
use Rattle.matching.specs.Matching.{none, at, put}
use Rattle.matching.proofs.Books.{at_put_same, at_put_other, length_put}
use Rattle.table.specs.Orders.{order_at, filled, orders_from, book_of}

pub length_orders : (t : List ℕ) (i n : ℕ) → length (orders_from t i n) ≡ n
unfolding orders_from
length_orders t i zero = refl
length_orders t i (suc n) = ap suc (length_orders t (i + 1) n)

pub orders_at : (t : List ℕ) (i n k : ℕ) (d : Order) → k < n → get_or (orders_from t i n) k d ≡ order_at t (i + k)
unfolding orders_from
orders_at t i zero k d h = absurd (not-suc-le-zero h)
orders_at t i (suc n) zero d h = ap (λ (j : ℕ). order_at t j) (sym (add-zero i))
orders_at t i (suc n) (suc k) d h = orders_at t (i + 1) n k d (omega arith) ∙ ap (λ (j : ℕ). order_at t j) (omega arith)

-- as many orders as filled records; order k is record k
pub length_book : (t : List ℕ) → length (book_of t) ≡ filled t
unfolding book_of
length_book t = length_orders t 1 (filled t)

pub at_book : (t : List ℕ) (k : ℕ) → 1 ≤ k → k ≤ filled t → at (book_of t) k ≡ order_at t k
unfolding book_of
at_book t zero l h = absurd (omega arith)
at_book t (suc k) l h = orders_at t 1 (filled t) k none (omega arith) ∙ ap (λ (j : ℕ). order_at t j) (omega arith)

-- one order changed or added, all others as they were
pub book_put : (t u : List ℕ) (k : ℕ) (o : Order) → 1 ≤ k → k ≤ suc (length (book_of t)) → filled u ≡ length (put (book_of t) k o) → order_at u k ≡ o
    → ((j : ℕ) → 1 ≤ j → j ≤ filled u → (j ≡ k → ⊥) → j ≤ filled t) → ((j : ℕ) → 1 ≤ j → j ≤ filled t → (j ≡ k → ⊥) → order_at u j ≡ order_at t j)
    → book_of u ≡ put (book_of t) k o
book_put t u k o l h e here within there =
    let n : length (book_of u) ≡ filled u = length_book u in
    ext_get_or none (book_of u) (put (book_of t) k o) (n ∙ e)
    (λ j i. at_book u (suc j) (omega arith) (omega arith) ∙ each (suc j) (omega arith) (omega arith))
  where
    each : (j : ℕ) → 1 ≤ j → j ≤ filled u → order_at u j ≡ at (put (book_of t) k o) j
    each j a c =
        split (eqb j k)
        (λ z. rw (eqb-true j k z) (here ∙ sym (at_put_same (book_of t) k o l h)))
        (λ z.
        let d = eqb-false j k z in
        let m = within j a c d in
        there j a m d ∙ sym (at_book t j a m) ∙ sym (at_put_other (book_of t) k j o h d))

-- one order changed
pub book_changed : (t u : List ℕ) (k : ℕ) (o : Order) → filled u ≡ filled t → 1 ≤ k → k ≤ filled t → order_at u k ≡ o
    → ((j : ℕ) → 1 ≤ j → j ≤ filled t → (j ≡ k → ⊥) → order_at u j ≡ order_at t j) → book_of u ≡ put (book_of t) k o
book_changed t u k o e l h here there =
    let m : length (book_of t) ≡ filled t = length_book t in
    book_put t u k o l (omega arith) (omega (arith, length_put (book_of t) k o (omega arith))) here (λ j a c d. omega arith) there
