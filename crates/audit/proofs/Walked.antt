-- What the passes over the book come to, in the words of Market and of matching: one order more, and at the end.
use Rattle.std.proofs.Common.{◌≡◌, ℕ, zero, suc, ◌+◌, ◌-◌, ◌*◌, ◌<◌, ◌≤◌, Bool, true, false, cond, not, ◌&&◌, ◌||◌, eqb, ltb, leb, List, length, get_or, drop, replicate, sym, refl, ap, ◌∙◌, ⊎_elim, zero-le, add-one, arith, take_all, ltb-true, le-ltb, lt-ltb, eq-eqb, ne_eqb, eqb-true, leb-true}
use mathlib.Core.Bool.{and_assoc, and-true, and-false}
use lib.ListN.{get_or-eq_default}
use Rattle.octets.specs.Octets.{put, part_at, same_bytes, all_zero, Bytes}
use Rattle.octets.proofs.Bools.{split, both_l, both_r, both_not_r}
use Rattle.octets.proofs.Places.{below_or, length_put}
use Rattle.octets.proofs.Parts.{part_in_lem}
use Rattle.octets.proofs.Searches.{record_at_lem}
use Rattle.decimal.specs.declared.Instrument.{Instrument}
use Rattle.matching.specs.declared.Order.{Order}
use Rattle.matching.specs.Matching.{none, at, open_of, is_open, is_immediate, minimum_of, opposite, opposed, opposed_to, sum_over, count_of}
use Rattle.matching.proofs.Books.{open_in}
use Rattle.table.specs.Heading.{next_of, work_of, kind_number, decided_of}
use Rattle.matching.specs.declared.Level.{Level}
use Rattle.table.specs.Orders.{order_at, filled, book_of}
use Rattle.table.specs.Best.{best_row, book_row, best_due}
use Rattle.table.specs.Market.{has_length, has_settings, has_next, has_work, has_kind, rest_zero, is_ranged, is_order, has_orders, has_ids, has_order_ids, has_places, no_ioc, no_cross, has_numbers, is_book, has_decision, has_best, is_market, is_of, is_market_of}
use Rattle.table.proofs.Facts.{market_facts}
use Rattle.table.proofs.Stores.{length_row}
use Rattle.table.proofs.Books.{length_book, at_book}
use Rattle.audit.specs.declared.book.Sides.{Sides}
use Rattle.audit.specs.Widths.{RoomySides}
use Rattle.audit.specs.Checking.{with_open, with_order, sides_of, apart, row_of}
use Rattle.audit.proofs.Amounts.{narrow_order}
use Rattle.audit.proofs.Marked.{at_record, book_length}
use Rattle.audit.proofs.Bounds.{uncrossed_is, best_buy, best_sell, sides_done, buy_upto, sell_upto}

-- ---- one order, by the tests that the code makes of it
module _ (s : Sides) (o : Order) (u : ℕ) (e : u ≡ o.executed + o.decremented + o.canceled) where
  pub order_shut : o.qty ≤ u → s ≡ with_order s o
  unfolding with_order open_of
  order_shut h = rw (le-ltb 0 (o.qty - (o.executed + o.decremented + o.canceled)) (omega (arith, e)))

  open_is : u < o.qty → is_open o ≡ true
  unfolding open_of
  open_is h = lt-ltb 0 (o.qty - (o.executed + o.decremented + o.canceled)) (omega (arith, e))

  pub order_buys : (i : Bool) (m : Level) → u < o.qty → i ≡ is_immediate o → o.side ≡ 1 → m ≡ with_open 1 s.buy o.level (o.qty - u)
      → record { buy = m; sell = s.sell; done = s.done && not i } ≡ with_order s o
  unfolding with_order open_of
  order_buys i m h f g k = rw (open_is h, eq-eqb o.side 1 g, k, e, f)

  pub order_sells : (i : Bool) (m : Level) → u < o.qty → i ≡ is_immediate o → (o.side ≡ 1 → ⊥) → m ≡ with_open 2 s.sell o.level (o.qty - u)
      → record { buy = s.buy; sell = m; done = s.done && not i } ≡ with_order s o
  unfolding with_order open_of
  order_sells i m h f g k = rw (open_is h, ne_eqb o.side 1 g, k, e, f)

pub record_apart : (t : List ℕ) (k w : ℕ) (s : Sides) → k ≡ w → s ≡ cond (eqb k w) s (with_order s (order_at t k))
record_apart t k w s e = rw (eq-eqb k w e)

pub record_with_lem : (t : List ℕ) (k w : ℕ) (s r : Sides) (o : Order) → (k ≡ w → ⊥) → o ≡ order_at t k → r ≡ with_order s o
    → r ≡ cond (eqb k w) s (with_order s (order_at t k))
record_with_lem t k w s r o n e f = rw (ne_eqb k w n, ← e) f

module _ (had : ℕ) (x y : Bool) (o r : Order) (e : x ≡ is_open r) (f : y ≡ opposite o r) where
  pub count_yes : (x && y) ≡ true → had + 1 ≡ had + cond (opposed o r) 1 0
  unfolding opposed
  count_yes h =
      let g = rw (e, f) at h in
      rw g

  pub count_no : (x && y) ≡ false → had ≡ had + cond (opposed o r) 1 0
  unfolding opposed
  count_no h =
      let g = rw (e, f) at h in
      rw g (omega arith)

-- ---- both sides of the k records passed, apart from order w
pub record Swept (t : List ℕ) (w n : ℕ) (s : Sides) (k : ℕ) : Type 0 where
  pub within : k ≤ n
  pub sides_are : s ≡ sides_of (book_of t) w k

pub swept_none : {t : List ℕ} {w n : ℕ} → Swept t w n (record { buy = record { level = 0; total = 0; orders = 0 }; sell = record { level = 0; total = 0; orders = 0 }; done = true }) 0
unfolding sides_of
swept_none = record { within = zero-le; sides_are = refl }

pub swept_more : {t : List ℕ} {w n k : ℕ} {s : Sides} (r : Sides) → Swept t w n s k → n ≡ filled t → k < n
    → r ≡ cond (eqb (k + 1) w) s (with_order s (order_at t (k + 1))) → Swept t w n r (k + 1)
unfolding sides_of
swept_more {t} {w} {n} {k} {s} r p e l f =
    let g : order_at t (k + 1) ≡ at (book_of t) (suc k) = sym (at_record t n k e l) in
    record { within = omega arith; sides_are = f ∙ rw (g, add-one k, p.sides_are) }

pub swept_end : {t : List ℕ} {w n k : ℕ} {s : Sides} → Swept t w n s k → n ≤ k → s ≡ sides_of (book_of t) w n
swept_end {t} {w} {n} {k} {s} p l =
    let q : k ≡ n = omega (arith, p.within) in
    rw (← q) p.sides_are

-- what is open is of its width, whatever the bytes are
open_small : (t : List ℕ) → Bytes t → (k : ℕ) → open_of (at (book_of t) k) < 4294967296
unfolding open_of
open_small t b zero = omega arith
open_small t b (suc k) =
    ⊎_elim
    (λ (l : k < filled t). rw (at_book t (suc k) (omega arith) l) (omega (arith, (narrow_order t (suc k) b).qty)))
    (λ (l : filled t ≤ k).
    let e : at (book_of t) (suc k) ≡ none = get_or-eq_default (book_of t) none (rw length_book l) in
    rw e (omega arith))
    (below_or k (filled t))

pub swept_roomy : {t : List ℕ} {w n k : ℕ} {s : Sides} → Swept t w n s k → Bytes t → k < n → n ≤ 255 → RoomySides s
swept_roomy {t} {w} {n} {k} {s} p b l m =
    let x = buy_upto (book_of t) w (open_small t b) k in
    let y = sell_upto (book_of t) w (open_small t b) k in
    rw p.sides_are
    (record {
      buy = record { total = omega (arith, x.total); orders = omega (arith, x.orders) };
      sell = record { total = omega (arith, y.total); orders = omega (arith, y.orders) };
    })

-- ---- open opposite orders, of the k records passed
pub record Counted (t : List ℕ) (o : Order) (n c k : ℕ) : Type 0 where
  pub within : k ≤ n
  pub count_is : c ≡ count_of (opposed o) (book_of t) k
  pub few : c ≤ k

pub counted_none : {t : List ℕ} {o : Order} {n : ℕ} → Counted t o n 0 0
unfolding count_of sum_over
counted_none = record { within = zero-le; count_is = refl; few = zero-le }

one_or_none : (x : Bool) → cond x 1 0 ≤ 1
one_or_none true = omega arith
one_or_none false = omega arith

pub counted_more : {t : List ℕ} {o : Order} {n c k : ℕ} (r : Order) (x : ℕ) → Counted t o n c k → n ≡ filled t → k < n → r ≡ order_at t (k + 1)
    → x ≡ c + cond (opposed o r) 1 0 → Counted t o n x (k + 1)
unfolding count_of sum_over
counted_more {t} {o} {n} {c} {k} r x s e l f h =
    let g : r ≡ at (book_of t) (suc k) = f ∙ sym (at_record t n k e l) in
    record {
      within = omega arith;
      count_is = h ∙ rw (add-one k, g, s.count_is);
      few = omega (arith, h, one_or_none (opposed o r), s.few);
    }

pub counted_end : {t : List ℕ} {o : Order} {n c k : ℕ} → Counted t o n c k → n ≤ k → c ≡ count_of (opposed o) (book_of t) n
counted_end {t} {o} {n} {c} {k} s l =
    let q : k ≡ n = omega (arith, s.within) in
    s.count_is ∙ rw q

-- ---- the numbers that the order in work may need
module _ (t : List ℕ) (n w next : ℕ) (e : n ≡ filled t) where
  pub numbers_none : w ≡ 0 → true ≡ has_numbers (book_of t) w next
  unfolding has_numbers open_of
  numbers_none z = rw z

  pub numbers_past : n < w → true ≡ has_numbers (book_of t) w next
  unfolding has_numbers open_of
  numbers_past l = go w refl
    where
      go : (v : ℕ) → v ≡ w → true ≡ (not (is_open (at (book_of t) w)) || leb (next + 2 * opposed_to (book_of t) w + 1) 1000000000)
      go zero q = absurd (omega arith)
      go (suc v) q =
          let d : at (book_of t) (suc v) ≡ none = get_or-eq_default (book_of t) none (rw (length_book t) (omega arith)) in
          rw (← q, d)

  pub numbers_shut : (o : Order) (x : Bool) → (w ≡ 0 → ⊥) → w ≤ n → o ≡ order_at t w → x ≡ is_open o → x ≡ false → true ≡ has_numbers (book_of t) w next
  unfolding has_numbers
  numbers_shut o x z l f g h =
      let d : at (book_of t) w ≡ o = at_book t w (omega (arith, z)) (omega arith) ∙ sym f in
      let i : is_open (at (book_of t) w) ≡ false = rw d (sym g ∙ h) in
      rw i

  pub numbers_is : (o : Order) (x : Bool) (c : ℕ) → (w ≡ 0 → ⊥) → w ≤ n → o ≡ order_at t w → x ≡ is_open o → x ≡ true
      → c ≡ count_of (opposed o) (book_of t) n → leb (next + 2 * c + 1) 1000000000 ≡ has_numbers (book_of t) w next
  unfolding has_numbers opposed_to
  numbers_is o x c z l f g h i =
      let d : at (book_of t) w ≡ o = at_book t w (omega (arith, z)) (omega arith) ∙ sym f in
      let j : is_open (at (book_of t) w) ≡ true = rw d (sym g ∙ h) in
      rw (j, i, book_length t n e, d)

-- ---- the decision on the order in work
module _ (t : List ℕ) (n w d : ℕ) (e : n ≡ filled t) where
  pub decision_none : d ≡ 0 → true ≡ has_decision (book_of t) w d
  unfolding has_decision
  decision_none z = rw z

  -- no order has no minimum
  at_none : at (book_of t) w ≡ none → (d ≡ 0 → ⊥) → false ≡ has_decision (book_of t) w d
  unfolding has_decision minimum_of
  at_none q z = rw (q, ne_eqb d 0 z) (sym (both_not_r (eqb d 1) false refl))

  pub decision_idle : (d ≡ 0 → ⊥) → w ≡ 0 → false ≡ has_decision (book_of t) w d
  decision_idle z q = at_none (rw q) z

  pub decision_past : (d ≡ 0 → ⊥) → n < w → false ≡ has_decision (book_of t) w d
  decision_past z l = go w refl
    where
      go : (v : ℕ) → v ≡ w → false ≡ has_decision (book_of t) w d
      go zero q = absurd (omega arith)
      go (suc v) q =
          let g : at (book_of t) (suc v) ≡ none = get_or-eq_default (book_of t) none (rw (length_book t) (omega arith)) in
          at_none (rw (← q) g) z

  pub decision_is : (o : Order) (m : ℕ) → (d ≡ 0 → ⊥) → (w ≡ 0 → ⊥) → w ≤ n → o ≡ order_at t w → m ≡ minimum_of o
      → (eqb d 1 && ltb 0 m) ≡ has_decision (book_of t) w d
  unfolding has_decision
  decision_is o m z x l f g =
      let h : at (book_of t) w ≡ o = at_book t w (omega (arith, x)) (omega arith) ∙ sym f in
      rw (ne_eqb d 0 z, h, g)

-- ---- the best levels: the row that the heading is to have is compared
put_all : (t vs : List ℕ) (n : ℕ) → length t ≡ n → length vs ≡ n → put t 0 vs ≡ vs
unfolding part_at
put_all t vs n k l =
    let p : part_at (put t 0 vs) 0 n ≡ part_at vs 0 n = part_in_lem t 0 vs 0 n (omega arith) (omega arith) in
    let q : part_at (put t 0 vs) 0 n ≡ put t 0 vs = take_all n (put t 0 vs) (omega (arith, length_put t 0 vs)) in
    sym q ∙ p ∙ take_all n vs (omega arith)

module _ (t kept : List ℕ) (w : ℕ) (s : Sides) (x : Bool) (e : kept ≡ part_at t 97 31) where
  pub row_busy : (w ≡ 0 → ⊥) → x ≡ same_bytes kept (replicate 31 0) → x ≡ same_bytes (part_at t 97 31) (row_of w s)
  row_busy z h = h ∙ rw (ne_eqb w 0 z, e)

  pub row_idle : w ≡ 0 → (row : List ℕ) → row ≡ put (replicate 31 0) 0 (best_row s.buy s.sell) → x ≡ same_bytes kept row
      → x ≡ same_bytes (part_at t 97 31) (row_of w s)
  row_idle z row r h =
      let d : row ≡ best_row s.buy s.sell = r ∙ put_all (replicate 31 0) (best_row s.buy s.sell) 31 refl (length_row s.buy s.sell) in
      h ∙ rw (eq-eqb w 0 z, d, e)

-- ---- the book of orders that are in their ranges
module _ (t : List ℕ) (n w : ℕ) (s : Sides) (e : n ≡ filled t) (h : has_orders t ≡ true) (within : w ≤ n) (f : s ≡ sides_of (book_of t) w n) where
  level_high : (k : ℕ) → is_open (at (book_of t) k) ≡ true → 0 < (at (book_of t) k).level
  unfolding has_orders is_order is_ranged
  level_high k x =
      let i = open_in (book_of t) k (ltb-true _ _ x) in
      let l : k ≤ filled t = omega (arith, i.high, length_book t) in
      let o = record_at_lem (is_order t) (filled t) h k i.low l in
      rw (at_book t k i.low l) (leb-true 1 _ (search (both_l, both_r) depth 14))

  done_is : s.done ≡ no_ioc (book_of t) w
  unfolding no_ioc
  done_is = rw (f, book_length t n e) (sides_done (book_of t) w n)

  cross_is : apart s ≡ no_cross (book_of t) w
  cross_is = rw f (uncrossed_is (book_of t) w (rw (book_length t n e) within) level_high n (sym (book_length t n e)))

  row_is : w ≡ work_of t → same_bytes (part_at t 97 31) (row_of w s) ≡ has_best t
  unfolding has_best best_due book_row
  row_is g =
      split (eqb w 0)
      (λ z.
      let p : s ≡ sides_of (book_of t) 0 (length (book_of t)) = f ∙ rw (eqb-true w 0 z, book_length t n e) in
      rw (← g, z, p, best_buy (book_of t) level_high, best_sell (book_of t) level_high))
      (λ z. rw (← g, z))

  pub book_is : (next : ℕ) (a m x : Bool) → w ≡ work_of t → a ≡ has_places (book_of t) next → m ≡ has_numbers (book_of t) w next → x ≡ same_bytes (part_at t 97 31) (row_of w s)
      → (a && s.done && apart s && m && x) ≡ (is_book (book_of t) w next && has_best t)
  unfolding is_book
  book_is next a m x g p q r = rw (p, q, r, done_is, cross_is, row_is g)

-- ---- a market, by its clauses
pub book_with : (t : List ℕ) (w next d : ℕ) (a b : Bool) → w ≡ work_of t → next ≡ next_of t → d ≡ decided_of t → a ≡ (is_book (book_of t) w next && has_best t)
    → b ≡ has_decision (book_of t) w d
    → (a && b) ≡ (is_book (book_of t) (work_of t) (next_of t) && has_decision (book_of t) (work_of t) (decided_of t) && has_best t)
book_with t w next d a b e f g h i =
    rw (h, i, e, f, g) (swap (is_book (book_of t) (work_of t) (next_of t)) (has_best t) (has_decision (book_of t) (work_of t) (decided_of t)))
  where
    swap : (x y z : Bool) → (x && y && z) ≡ (x && z && y)
    swap x true z = rw (and-true x) (sym (and-true (x && z)))
    swap x false z = rw (and-false x) (sym (and-false (x && z)))

pub not_long : (t : List ℕ) → (length t ≡ 32768 → ⊥) → false ≡ is_market t
unfolding is_market has_length
not_long t h = rw (ne_eqb (length t) 32768 h)

pub records_are : (t : List ℕ) (n : ℕ) (a b c d e f : Bool) → n ≡ filled t → a ≡ has_settings t → b ≡ has_next t → c ≡ has_work t → d ≡ has_kind t
    → e ≡ all_zero (drop (128 * (n + 1)) t) → f ≡ has_orders t
    → (a && b && c && d && e && f) ≡ (has_settings t && has_next t && has_work t && has_kind t && rest_zero t && has_orders t)
unfolding rest_zero
records_are t n a b c d e f pn pa pb pc pd pe pf = rw (pa, pb, pc, pd, pe, pf, pn)

module _ (t : List ℕ) (r : Bool) (l : length t ≡ 32768) (e : r ≡ (has_settings t && has_next t && has_work t && has_kind t && rest_zero t && has_orders t)) where
  pub no_records : r ≡ false → false ≡ is_market t
  unfolding is_market has_length
  no_records h = rw (eq-eqb (length t) 32768 l, sym e ∙ h)

  pub records_orders : r ≡ true → has_orders t ≡ true
  records_orders h = both_r (has_settings t && has_next t && has_work t && has_kind t && rest_zero t) (has_orders t) (sym e ∙ h)

  pub records_work : (n : ℕ) → n ≡ filled t → r ≡ true → work_of t ≤ n
  unfolding has_work
  records_work n f h =
      let g : (has_settings t && has_next t && has_work t && has_kind t && rest_zero t && has_orders t) ≡ true = sym e ∙ h in
      rw f (leb-true (work_of t) (filled t) (search (both_l, both_r) depth 9))

  pub market_is : (g o h : Bool) → r ≡ true → g ≡ has_ids t → o ≡ has_order_ids t
      → h ≡ (is_book (book_of t) (work_of t) (next_of t) && has_decision (book_of t) (work_of t) (decided_of t) && has_best t)
      → (g && o && h) ≡ is_market t
  unfolding is_market has_length
  market_is g o h q pg po ph =
      rw (eq-eqb (length t) 32768 l, pg, po, ph, sym e ∙ q)
      (regroup (has_ids t && has_order_ids t) (is_book (book_of t) (work_of t) (next_of t)) (has_decision (book_of t) (work_of t) (decided_of t)) (has_best t))
    where
      regroup : (x y z v : Bool) → (x && (y && z && v)) ≡ (x && y && z && v)
      regroup x y z v = sym (and_assoc x (y && z) v) ∙ ap (λ (u : Bool). u && v) (sym (and_assoc x y z))

-- a market of bonds, or one of equities
pub market_not : (q : Instrument) (t : List ℕ) (a : Bool) → a ≡ is_market t → a ≡ false → false ≡ is_market_of q t
unfolding is_market_of
market_not q t a e f = rw (sym e ∙ f)

pub market_kind : (q : Instrument) (t : List ℕ) (a : Bool) (k : ℕ) → a ≡ is_market t → a ≡ true → k ≡ kind_number q → eqb (get_or t 55 0) k ≡ is_market_of q t
unfolding is_market_of is_of
market_kind q t a k e f g = rw (sym e ∙ f, g)

pub market_inside : (t : List ℕ) (a : Bool) → a ≡ is_market t → a ≡ true → 55 < length t
market_inside t a e f = omega (arith, (market_facts t (sym e ∙ f)).long)
