-- The best level of a side found by looking over the records: one record by what is read of it, the level nearest to the best, the
-- sums of a level, and that this is what the heading is to keep.
use mathlib.Core.Path.{◌≡◌, refl, sym, ap, ◌∙◌}
use mathlib.Core.Bool.{Bool, true, false, not, cond, ◌&&◌, ◌||◌}
use mathlib.Core.List.{List}
use Prim.Native.Nat.{ℕ, suc, ◌+◌, ◌*◌, ◌-◌, ◌≤◌, ◌<◌}
use native.Mathlib.Nat.{add-zero}
use native.Mathlib.Numerals.{add-one}
use native.Mathlib.Omega.{arith}
use lib.Dec.{eqb}
use lib.ListN.{length, get_or}
use borrow.Author.Tests.{ltb-true, ltb-false, eq-eqb, ne_eqb, not-true, not-false}
use Rattle.octets.specs.Octets.{le_at, put}
use Rattle.octets.proofs.Bools.{split, both_l, both_not_r}
use Rattle.matching.specs.declared.Order.{Order}
use Rattle.std.specs.Prelude.{None}
use Rattle.matching.specs.Matching.{at, open_of, is_open, is_buy, buys, ahead, sum_over, count_of}
use Rattle.matching.specs.Depth.{on_side, stands, behind, nearer, next, level_at, on_level, share, total, orders, depth}
use Rattle.matching.specs.declared.Level.{Level}
use Rattle.table.specs.Orders.{order_at, filled, book_of}
use Rattle.table.specs.Best.{in_numbers, best_on, stands_on, best_at, best_row, book_row, put_best}
use Rattle.table.proofs.Same.{filled_few}
use Rattle.table.proofs.Books.{length_book, at_book}

-- ---- one record, by what is read of it

pub side_one : (s : ℕ) (o : Order) (b : Bool) → b ≡ is_buy o → s ≡ 1 → b ≡ on_side s o
side_one s o b e h = rw (eq-eqb s 1 h) e

pub side_other : (s : ℕ) (o : Order) (b : Bool) → b ≡ is_buy o → (s ≡ 1 → ⊥) → not b ≡ on_side s o
side_other s o b e h = rw (ne_eqb s 1 h, e)

-- the level of an order of another side is passed by, and so is one that is not nearer to the best than the one found so far
module _ (s c : ℕ) (o : Order) (x : Bool) (p : x ≡ on_side s o) where
  pub nearer_other : not x ≡ true → c ≡ nearer s 0 c o
  unfolding nearer stands
  nearer_other h = let z : on_side s o ≡ false = sym p ∙ not-true _ h in rw (both_not_r (is_open o) (on_side s o) z)

  module _ (k : not x ≡ false) (level : ℕ) (e : level ≡ o.level) (a : Bool) (f : a ≡ ahead (buys s) level c) where
    near : (eqb c 0 || a) ≡ (eqb c 0 || ahead (buys s) o.level c)
    near = rw (f, e)

    pub nearer_far : not (eqb c 0 || a) ≡ true → c ≡ nearer s 0 c o
    unfolding nearer
    nearer_far h = rw (both_not_r (stands s o && behind s 0 o.level) _ (sym near ∙ not-true _ h))

    module _ (h : not (eqb c 0 || a) ≡ false) (y : Bool) (q : y ≡ is_open o) where
      close : (eqb c 0 || ahead (buys s) o.level c) ≡ true
      close = sym near ∙ not-false _ h

      standing : y ≡ stands s o
      unfolding stands
      standing = let z : on_side s o ≡ true = sym p ∙ not-false _ k in rw (z, q) (sym (both_true (is_open o)))
        where
          both_true : (b : Bool) → (b && true) ≡ b
          both_true true = refl
          both_true false = refl

      pub nearer_yes : y ≡ true → level ≡ nearer s 0 c o
      unfolding nearer behind
      nearer_yes g = rw (sym standing ∙ g, close) e

      pub nearer_no : y ≡ false → c ≡ nearer s 0 c o
      unfolding nearer behind
      nearer_no g = rw (sym standing ∙ g)

-- what is open of record i, by the numbers that were read
module _ (t : List ℕ) (i a b c q : ℕ) (e : a ≡ le_at 4 t (128 * i + 72)) (f : b ≡ le_at 4 t (128 * i + 76)) (g : c ≡ le_at 4 t (128 * i + 80))
    (h : q ≡ le_at 4 t (128 * i + 52)) where
  pub open_some : q - (a + b + c) ≡ open_of (order_at t i)
  unfolding open_of order_at
  open_some = rw (e, f, g, h)

  pub open_none : q ≤ a + b + c → 0 ≡ open_of (order_at t i)
  open_none l = let z : q - (a + b + c) ≡ 0 = omega arith in sym z ∙ open_some

-- what an order adds to a level
module _ (s l : ℕ) (o : Order) (b : Bool) (f : b ≡ on_side s o) where
  pub share_other : not b ≡ true → 0 ≡ share s l o
  unfolding share on_level stands
  share_other g =
      let z : on_side s o ≡ false = sym f ∙ not-true _ g in
      let y : (is_open o && on_side s o) ≡ false = both_not_r (is_open o) (on_side s o) z in
      rw y

  module _ (g : not b ≡ false) (x : ℕ) (e : x ≡ o.level) where
    pub share_off : (x ≡ l → ⊥) → 0 ≡ share s l o
    unfolding share on_level
    share_off n = rw (both_not_r (stands s o) (eqb o.level l) (ne_eqb o.level l (λ z. n (e ∙ z))))

    pub share_on : x ≡ l → (v : ℕ) → v ≡ open_of o → v ≡ share s l o
    unfolding share on_level stands
    share_on h v z =
        let y : on_side s o ≡ true = sym f ∙ not-false _ g in
        let w : eqb o.level l ≡ true = eq-eqb o.level l (sym e ∙ h) in
        split (is_open o)
        (λ u. rw (u, y, w) z)
        (λ u. rw u (omega (arith, ltb-false 0 (open_of o) u)))

-- and to its number of orders, x being what it adds to the total
module _ (s l : ℕ) (o : Order) (x : ℕ) (e : x ≡ share s l o) (had : ℕ) where
  pub nothing_more : x ≡ 0 → had ≡ had + share s l o
  nothing_more z = omega arith

  pub none_more : x ≡ 0 → had ≡ had + cond (on_level s l o) 1 0
  unfolding share on_level stands
  none_more z =
      split (on_level s l o)
      (λ u.
      let y : open_of o ≡ x = sym (e ∙ rw u) in
      absurd (omega (arith, ltb-true 0 (open_of o) (both_l _ _ (both_l _ _ u)))))
      (λ u. rw (u, add-zero))

  pub some_more : had + x ≡ had + share s l o
  some_more = omega arith

  pub one_more_lem : (x ≡ 0 → ⊥) → had + 1 ≡ had + cond (on_level s l o) 1 0
  unfolding share
  one_more_lem n = split (on_level s l o) (λ u. rw u) (λ u. absurd (n (e ∙ rw u)))

-- ---- the level nearest to the best, of the first i records

pub next_below : (t : List ℕ) (n i : ℕ) → n ≡ filled t → i < n → i + 1 < 256
next_below t n i e h = omega (arith, filled_few t)

module _ (t : List ℕ) (n s : ℕ) where
  -- the order of the record that is looked at
  there : (i : ℕ) → n ≡ filled t → i < n → at (book_of t) (suc i) ≡ order_at t (i + 1)
  there i e h = at_book t (suc i) (omega arith) (omega arith) ∙ ap (λ (j : ℕ). order_at t j) (sym (add-one i))

  pub nearest_none : 0 ≡ next (book_of t) s 0 0
  unfolding next
  nearest_none = refl

  pub nearest_more : (i c v : ℕ) → n ≡ filled t → i < n → c ≡ next (book_of t) s 0 i → v ≡ nearer s 0 c (order_at t (i + 1))
      → v ≡ next (book_of t) s 0 (i + 1)
  unfolding next
  nearest_more i c v e h p q = rw (q, p, ← there i e h, add-one i)

  pub nearest_end : (i c : ℕ) → i ≤ n → n ≤ i → c ≡ next (book_of t) s 0 i → c ≡ next (book_of t) s 0 n
  nearest_end i c h l p = let e : i ≡ n = omega arith in p ∙ rw e

-- ---- what stands on a level, of the first i records

pub record Counted (t : List ℕ) (s l i : ℕ) (b : Level) : Type 0 where
  pub on : b.level ≡ l
  pub added : b.total ≡ sum_over (share s l) (book_of t) i
  pub counted : b.orders ≡ count_of (on_level s l) (book_of t) i
  pub few : b.orders ≤ i
  pub small : b.total ≤ i * 4294967296

pub counted_none : (t : List ℕ) (s l : ℕ) (b : Level) → b.level ≡ l → b.total ≡ 0 → b.orders ≡ 0 → Counted t s l 0 b
unfolding count_of sum_over
counted_none t s l b e f g = record { on = e; added = f; counted = g; few = omega arith; small = omega arith }

module _ (t : List ℕ) (n s l i : ℕ) (b : Level) (p : Counted t s l i b) (e : n ≡ filled t) (h : i < n) where
  -- both sums stay far below 2^64
  pub total_fits : b.total ≤ 1099511627776
  total_fits = omega (arith, p.small, filled_few t)

  pub orders_fit : b.orders ≤ 255
  orders_fit = omega (arith, p.few, filled_few t)

  pub counted_more : (r : Level) → r.level ≡ b.level → r.total ≡ b.total + share s b.level (order_at t (i + 1))
      → r.orders ≡ b.orders + cond (on_level s b.level (order_at t (i + 1))) 1 0 → r.total ≤ b.total + 4294967295 → Counted t s l (i + 1) r
  unfolding count_of sum_over
  counted_more r u v w z =
      let o = there t n s i e h in
      let one : cond (on_level s b.level (order_at t (i + 1))) 1 0 ≤ 1 = most (on_level s b.level (order_at t (i + 1))) in
      record {
        on = u ∙ p.on;
        added = v ∙ rw (p.on, p.added, ← o, add-one i);
        counted = w ∙ rw (p.on, p.counted, ← o, add-one i);
        few = omega (arith, p.few);
        small = omega (arith, p.small);
      }
    where
      most : (f : Bool) → cond {A = ℕ} f 1 0 ≤ 1
      most true = omega arith
      most false = omega arith

pub counted_all : (t : List ℕ) (n s l i : ℕ) (b : Level) → n ≡ filled t → i ≤ n → n ≤ i → Counted t s l i b → b ≡ stands_on (book_of t) s l
unfolding stands_on total orders
counted_all t n s l i b e h k p =
    let z : i ≡ length (book_of t) = omega (arith, length_book t) in
    let x : b.total ≡ total (book_of t) s l = p.added ∙ ap (λ (k : ℕ). sum_over (share s l) (book_of t) k) z in
    let y : b.orders ≡ orders (book_of t) s l = p.counted ∙ ap (λ (k : ℕ). count_of (on_level s l) (book_of t) k) z in
    λ j. record { level = p.on j; total = x j; orders = y j }

-- ---- the best level

pub none_on : (b r : Level) → b.level ≡ 0 → r.level ≡ 0 → r.total ≡ 0 → r.orders ≡ 0 → r ≡ cond (eqb b.level 0) (in_numbers None) b
none_on b r e f g h = rw (eq-eqb b.level 0 e) (λ j. record { level = f j; total = g j; orders = h j })

pub some_on : (b : Level) → (b.level ≡ 0 → ⊥) → b ≡ cond (eqb b.level 0) (in_numbers None) b
some_on b e = rw (ne_eqb b.level 0 e)

pub best_on_lem : (t : List ℕ) (n s l : ℕ) (b r : Level) → n ≡ filled t → l ≡ next (book_of t) s 0 n → b ≡ stands_on (book_of t) s l
    → r ≡ cond (eqb b.level 0) (in_numbers None) b → r ≡ best_on (book_of t) s
unfolding best_on depth stands_on level_at
best_on_lem t n s l b r e p q z =
    let w : length (book_of t) ≡ n = length_book t ∙ sym e in
    z ∙ rw (w, ← p, q) (split (eqb l 0) (λ u. rw u) (λ u. rw u))

-- ---- reading them, and writing

module _ (t : List ℕ) (s l n k : ℕ) where
  pub read_buy : s ≡ 1 → l ≡ le_at 4 t 100 → n ≡ le_at 8 t 112 → k ≡ get_or t 97 0 → record { level = l; total = n; orders = k } ≡ best_at t s
  unfolding best_at
  read_buy e p q r = rw (eq-eqb s 1 e, p, q, r)

  pub read_sell : (s ≡ 1 → ⊥) → l ≡ le_at 4 t 104 → n ≡ le_at 8 t 120 → k ≡ get_or t 98 0 → record { level = l; total = n; orders = k } ≡ best_at t s
  unfolding best_at
  read_sell e p q r = rw (ne_eqb s 1 e, p, q, r)

pub best_put : (t u : List ℕ) (buy sell : Level) → buy ≡ best_on (book_of t) 1 → sell ≡ best_on (book_of t) 2 → u ≡ put t 97 (best_row buy sell)
    → u ≡ put_best t
unfolding book_row
best_put t u buy sell e f g = rw (g, e, f)
