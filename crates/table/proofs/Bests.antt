-- The best levels in the heading: how many bytes they are, when a table has them, their ranges, and that on a market they read as the
-- book has them.
use mathlib.Core.Path.{◌≡◌, refl, sym, ap, ◌∙◌}
use mathlib.Core.Bool.{true}
use mathlib.Core.List.{List, []}
use Prim.Native.Nat.{ℕ, ◌+◌, ◌*◌, ◌^◌, ◌≤◌, ◌<◌}
use native.Mathlib.Nat.{add_assoc}
use native.Mathlib.Omega.{arith}
use lib.Dec.{eqb, lit≤}
use lib.ListN.{length, get_or, replicate}
use lib.Seq.{take_all}
use borrow.Author.Tests.{eqb-false, eq-eqb, ne_eqb}
use Rattle.octets.specs.Octets.{le_at, bytes_of, put, part_at, all_zero}
use Rattle.octets.proofs.Bools.{split}
use Rattle.octets.proofs.Places.{le_at_ext, le_at_bytes_of}
use Rattle.octets.proofs.Parts.{length_part, get_d_part, part_ext, part_in_lem, same_is, is_same}
use Rattle.octets.proofs.Zeros.{zero_is}
use Rattle.std.specs.Prelude.{None}
use Rattle.matching.specs.Matching.{Book, count_of}
use Rattle.matching.specs.Depth.{level_at, next, on_level, total, orders, depth}
use Rattle.matching.proofs.Books.{count_most}
use Rattle.matching.proofs.Levels.{total_least, total_each, orders_some, next_most}
use Rattle.matching.specs.declared.Level.{Level}
use Rattle.table.specs.Places.{table_bytes}
use Rattle.table.specs.Heading.{work_of}
use Rattle.table.specs.Orders.{book_of}
use Rattle.table.specs.Best.{in_numbers, in_words, best_on, best_at, orders_bytes, levels_bytes, totals_bytes, best_row, book_row, best_due}
use Rattle.table.specs.Market.{has_best}
use Rattle.table.specs.Facts.{Market}
use Rattle.table.proofs.Same.{Same, put_below, part_same, work_same, filled_few}
use Rattle.table.proofs.Books.{length_book}
use Rattle.table.proofs.Stores.{length_row}
use Rattle.table.proofs.Applied.{book_best}

-- ---- the bytes

module _ (t : List ℕ) where
  pub length_book_row : length (book_row t) ≡ 31
  unfolding book_row
  length_book_row = length_row (best_on (book_of t) 1) (best_on (book_of t) 2)

  -- those that are due while nothing is in work, and while an order is
  pub due_idle : work_of t ≡ 0 → best_due t ≡ book_row t
  unfolding best_due
  due_idle e = rw (eq-eqb (work_of t) 0 e)

  pub due_busy : 1 ≤ work_of t → best_due t ≡ replicate 31 0
  unfolding best_due
  due_busy l = rw (ne_eqb (work_of t) 0 (λ e. omega arith))

  pub length_due : length (best_due t) ≡ 31
  unfolding best_due
  length_due = split (eqb (work_of t) 0) (λ e. rw e length_book_row) (λ e. rw e)

-- ---- a table that has them

-- the test, as an equation
module _ (t : List ℕ) where
  pub best_is : has_best t ≡ true → part_at t 97 31 ≡ best_due t
  unfolding has_best
  best_is h = same_is (part_at t 97 31) (best_due t) h

  pub is_best_lem : part_at t 97 31 ≡ best_due t → has_best t ≡ true
  unfolding has_best
  is_best_lem e = rw e (is_same (best_due t))

-- the bytes that are due hang on the work and on the book
due_same : (t u : List ℕ) → work_of u ≡ work_of t → book_of u ≡ book_of t → best_due u ≡ best_due t
unfolding best_due book_row
due_same t u w b = rw (w, b)

-- put, they are there
pub has_best_put : (t : List ℕ) → length t ≡ table_bytes → has_best (put t 97 (best_due t)) ≡ true
unfolding part_at
has_best_put t long =
    let vs : List ℕ = best_due t in
    let v : List ℕ = put t 97 vs in
    let n = length_due t in
    let w : work_of v ≡ work_of t = work_same (put_below t 97 vs 32 33 (lit≤ tt)) in
    let b : book_of v ≡ book_of t = book_best t vs long (omega arith) in
    let p : part_at v 97 31 ≡ part_at vs 0 31 = part_in_lem t 97 vs 0 31 (omega arith) (omega arith) in
    let q : part_at vs 0 31 ≡ vs = take_all 31 vs (omega arith) in
    is_best_lem v (p ∙ q ∙ sym (due_same t v w b))

-- kept where those bytes, the book and what is in work are kept, and while an order is in work where those bytes are
pub has_best_same : (t u : List ℕ) → Same u t 97 128 → work_of u ≡ work_of t → book_of u ≡ book_of t → has_best t ≡ true → has_best u ≡ true
has_best_same t u s w b h = is_best_lem u (part_same 97 31 128 s (lit≤ tt) ∙ best_is t h ∙ sym (due_same t u w b))

pub has_best_busy : (t u : List ℕ) → Same u t 97 128 → 1 ≤ work_of t → 1 ≤ work_of u → has_best t ≡ true → has_best u ≡ true
has_best_busy t u s l k h =
    is_best_lem u (part_same 97 31 128 s (lit≤ tt) ∙ best_is t h ∙ due_busy t l ∙ sym (due_busy u k))

-- zeros, where there is no order
row_empty : (t : List ℕ) → book_of t ≡ [] → book_row t ≡ replicate 31 0
unfolding book_row best_row orders_bytes levels_bytes totals_bytes bytes_of best_on depth level_at next
row_empty t b = rw b

pub has_best_none : (t : List ℕ) → length t ≡ table_bytes → work_of t ≡ 0 → book_of t ≡ [] → all_zero (part_at t 97 31) ≡ true → has_best t ≡ true
has_best_none t long w b z =
    let n : length (part_at t 97 31) ≡ 31 = length_part t 97 31 (omega arith) in
    is_best_lem t (zero_is (part_at t 97 31) z ∙ ap (λ (k : ℕ). replicate k 0) n ∙ sym (due_idle t w ∙ row_empty t b))

-- ---- on a market

-- a level is none, or in its ranges
pub data Ranged (b : Level) : Type 0 where
  none : b.level ≡ 0 → b.total ≡ 0 → b.orders ≡ 0 → Ranged b
  some : 1 ≤ b.level → b.level ≤ 1999999999 → 1 ≤ b.orders → b.orders ≤ 255 → b.orders ≤ b.total → b.total ≤ b.orders * 999999999 → Ranged b

-- the best level of a side of the book is such
pub best_ranged : (t : List ℕ) (s : ℕ) → Market t → Ranged (best_on (book_of t) s)
unfolding best_on depth level_at total orders
best_ranged t s m =
    let b : Book = book_of t in
    let sound = m.held.sound in
    let n : ℕ = length b in
    let size = length_book t in
    let few = filled_few t in
    let l : ℕ = next b s 0 n in
    split (eqb l 0)
    (λ e. rw e (none refl refl refl))
    (λ e.
    let p : 0 < l = omega (arith, eqb-false l 0 e) in
    let c = count_most (on_level s l) b n in
    rw e
    (some p (next_most b s sound 0 n (omega arith)) (orders_some b s sound 0 n p) (omega arith) (total_least b s sound l n)
    (total_each b s sound l n (omega arith))))

-- so its numbers are of their widths
small_level : (b : Level) → Ranged b → b.level < 256 ^ 4
small_level b (none x y z) = omega arith
small_level b (some x y z u v w) = omega arith

small_total : (b : Level) → Ranged b → b.total < 256 ^ 8
small_total b (none x y z) = omega arith
small_total b (some x y z u v w) = omega arith

small_orders : (b : Level) → Ranged b → b.orders < 256 ^ 1
small_orders b (none x y z) = omega arith
small_orders b (some x y z u v w) = omega arith

-- and Depth's answer can be had back from them
pub words_best : (t : List ℕ) (s : ℕ) → Market t → in_words (best_on (book_of t) s) ≡ depth (book_of t) s 0
unfolding in_words best_on depth level_at orders
words_best t s m =
    let b : Book = book_of t in
    let n : ℕ = length b in
    let l : ℕ = next b s 0 n in
    split (eqb l 0)
    (λ e. rw e)
    (λ e.
    let p = orders_some b s m.held.sound 0 n (omega (arith, eqb-false l 0 e)) in
    rw (e, ne_eqb (count_of (on_level s l) b n) 0 (λ z. omega arith)))

-- ---- the bytes of two levels, read

-- the heading keeps these two, each none or in its ranges
pub record Told (t : List ℕ) (buy sell : Level) : Type 0 where
  pub row : part_at t 97 31 ≡ best_row buy sell
  pub buy_ranged : Ranged buy
  pub sell_ranged : Ranged sell

-- a number among these bytes
part_number : (t : List ℕ) (n k : ℕ) → k + n ≤ 31 → le_at n t (97 + k) ≡ le_at n (part_at t 97 31) k
part_number t n k h =
    le_at_ext n t (part_at t 97 31) (97 + k) k
    (λ j l. ap (λ (q : ℕ). get_or t q 0) (add_assoc 97 k j) ∙ sym (get_d_part t 97 31 (k + j) (omega arith)))

byte_number : (t : List ℕ) (p : ℕ) → get_or t p 0 ≡ le_at 1 t p
unfolding le_at
byte_number t p = omega arith

module _ (t : List ℕ) (buy sell : Level) (k : Told t buy sell) where
  got : (n p v : ℕ) → p + n ≤ 31 → le_at n (best_row buy sell) p ≡ le_at n (bytes_of n v) 0 → v < 256 ^ n → le_at n t (97 + p) ≡ v
  got n p v h e small = part_number t n p h ∙ ap (λ (xs : List ℕ). le_at n xs p) k.row ∙ e ∙ le_at_bytes_of n v small

  pub buy_told : best_at t 1 ≡ buy
  unfolding best_at best_row orders_bytes levels_bytes totals_bytes bytes_of le_at
  buy_told =
      let r = k.buy_ranged in
      λ j. record {
        level = got 4 3 buy.level (lit≤ tt) refl (small_level buy r) j;
        total = got 8 15 buy.total (lit≤ tt) refl (small_total buy r) j;
        orders = (byte_number t 97 ∙ got 1 0 buy.orders (lit≤ tt) refl (small_orders buy r)) j;
      }

  pub sell_told : best_at t 2 ≡ sell
  unfolding best_at best_row orders_bytes levels_bytes totals_bytes bytes_of le_at
  sell_told =
      let r = k.sell_ranged in
      λ j. record {
        level = got 4 7 sell.level (lit≤ tt) refl (small_level sell r) j;
        total = got 8 23 sell.total (lit≤ tt) refl (small_total sell r) j;
        orders = (byte_number t 98 ∙ got 1 1 sell.orders (lit≤ tt) refl (small_orders sell r)) j;
      }

  -- the unused bytes among them are zero
  gap : (p n : ℕ) → length t ≡ table_bytes → p + n ≤ 31 → part_at t (97 + p) n ≡ part_at (best_row buy sell) p n
  gap p n long h =
      part_ext t (part_at t 97 31) (97 + p) p n (omega arith) (omega (arith, length_part t 97 31 (omega arith)))
      (λ j l. ap (λ (q : ℕ). get_or t q 0) (add_assoc 97 p j) ∙ sym (get_d_part t 97 31 (p + j) (omega arith)))
      ∙ ap (λ (xs : List ℕ). part_at xs p n) k.row

  pub orders_gap : length t ≡ table_bytes → all_zero (part_at t 99 1) ≡ true
  unfolding best_row orders_bytes levels_bytes totals_bytes bytes_of part_at all_zero
  orders_gap long = ap all_zero (gap 2 1 long (lit≤ tt))

  pub levels_gap : length t ≡ table_bytes → all_zero (part_at t 108 4) ≡ true
  unfolding best_row orders_bytes levels_bytes totals_bytes bytes_of part_at all_zero
  levels_gap long = ap all_zero (gap 11 4 long (lit≤ tt))

-- ---- the two that a market keeps: those of its book, or none while an order is in work

pub told_idle : (t : List ℕ) → Market t → work_of t ≡ 0 → Told t (best_on (book_of t) 1) (best_on (book_of t) 2)
unfolding book_row
told_idle t m w =
    record { row = best_is t m.best ∙ due_idle t w; buy_ranged = best_ranged t 1 m; sell_ranged = best_ranged t 2 m }

pub told_busy : (t : List ℕ) → Market t → 1 ≤ work_of t → Told t (in_numbers None) (in_numbers None)
unfolding best_row orders_bytes levels_bytes totals_bytes bytes_of
told_busy t m l =
    record { row = best_is t m.best ∙ due_busy t l; buy_ranged = none refl refl refl; sell_ranged = none refl refl refl }
