-- The test and the facts are the same: what is_market says, as facts, and from the facts the test again.
use mathlib.Core.Path.{◌≡◌, refl}
use mathlib.Core.Bool.{Bool, true, false, not, ◌&&◌, ◌||◌}
use mathlib.Core.List.{List}
use mathlib.Core.Logic.{⊎_elim}
use Prim.Native.Nat.{ℕ, zero, suc, ◌+◌, ◌*◌, ◌-◌, ◌≤◌, ◌<◌}
use native.Mathlib.Nat.{mul-le-mul_left}
use native.Mathlib.Omega.{arith}
use lib.Dec.{eqb, leb, ltb}
use lib.ListN.{length, get_or, get_or-eq_default}
use Rattle.octets.proofs.Places.{below_or}
use borrow.Author.Tests.{ltb-true, ltb-false, leb-true, leb-false, eqb-true, eqb-false, lt-ltb, le-ltb, le-leb, lt-leb, eq-eqb, ne_eqb, not-true}
use Rattle.octets.specs.Octets.{same_bytes}
use Rattle.octets.specs.Tests.{all_up_to}
use Rattle.octets.proofs.Bools.{split, both_i, both_l, both_r, or_l, or_r, not_both}
use Rattle.octets.proofs.Ranges.{all_at, all_from}
use Rattle.octets.proofs.Searches.{upto_at, upto_from, record_at_lem, record_from}
use Rattle.decimal.specs.declared.Instrument.{Instrument}
use Rattle.matching.specs.declared.Order.{Order}
use Rattle.matching.specs.Matching.{Book, none, at, open_of, is_buy, is_open, is_immediate, crosses, opposed_to}
use Rattle.matching.specs.Held.{Sound, In, Held}
use Rattle.matching.specs.Quoted.{Quoted}
use Rattle.matching.proofs.Books.{open_low, open_high}
use Rattle.matching.proofs.Quoting.{side_any, highest_most}
use Rattle.table.specs.Heading.{next_of, work_of, instrument_of, is_listed}
use Rattle.table.specs.Orders.{cl_ord_id_at, order_id_at, order_at, filled, book_of}
use Rattle.table.specs.Market.{has_length, has_next, has_work, is_record, is_ranged, is_known, is_within, is_shut, is_priced, is_order, has_orders, is_fresh_id, has_ids, has_order_ids, has_places, is_done, no_ioc, is_clear, no_cross, has_numbers, is_book, is_market}
use Rattle.table.specs.Facts.{FreshNumbers, Market}
use Rattle.table.proofs.Books.{length_book, at_book}
use Rattle.table.proofs.Fresh.{fresh_facts, facts_fresh}

-- ---- tests taken apart

or_second : (a b : Bool) → b ≡ true → (a || b) ≡ true
or_second true b h = refl
or_second false b h = h

not_i : {a : Bool} → a ≡ false → not a ≡ true
not_i h = rw h

-- ---- one order

-- its side is one of the market's, its level and its sum are what the market's levels can come to
pub quoted_facts : (q : Instrument) (o : Order) → is_ranged q o ≡ true → is_priced q o ≡ true → Quoted q o
unfolding is_ranged is_priced
quoted_facts q o r p =
    record {
      side = search (both_l, both_r) depth 9;
      level = leb-true _ _ (search (both_l, both_r) depth 9);
      sum = leb-true _ _ (search both_r);
    }

pub sound_facts : (q : Instrument) (o : Order) → is_ranged q o ≡ true → is_within o ≡ true → is_shut o ≡ true → is_priced q o ≡ true → Sound o
unfolding is_ranged is_within is_shut is_priced
sound_facts q o r w s p =
    let t = quoted_facts q o r p in
    let top = highest_most q in
    record {
      sides = side_any q o.side t.side;
      tifs = search (both_l, both_r) depth 10;
      minimum = search (both_l, both_r) depth 10;
      level_low = leb-true _ _ (search (both_l, both_r) depth 9);
      level_high = omega (arith, t.level);
      qty_low = leb-true _ _ (search (both_l, both_r));
      qty_high = leb-true _ _ (search (both_l, both_r));
      covered = leb-true _ _ w;
      dead = λ c. eqb-true _ _ (or_r _ _ s (ne_eqb o.canceled 0 (λ e. omega arith)));
      sum_low = leb-true _ _ (search both_l);
      sum_high = omega (arith, t.sum, mul-le-mul_left o.executed top);
      place_low = leb-true _ _ (search both_r);
    }

pub sound_ranged : (q : Instrument) (o : Order) → Sound o → Quoted q o → is_ranged q o ≡ true
unfolding is_ranged
sound_ranged q o h t =
    both_i (both_i (both_i (both_i (both_i (both_i (both_i
    t.side h.tifs) h.minimum)
    (le-leb _ _ h.level_low)) (le-leb _ _ t.level))
    (le-leb _ _ h.qty_low)) (le-leb _ _ h.qty_high)) (le-leb _ _ h.place_low)

pub sound_within : (o : Order) → Sound o → is_within o ≡ true
unfolding is_within
sound_within o h = le-leb _ _ h.covered

pub sound_shut : (o : Order) → Sound o → is_shut o ≡ true
unfolding is_shut
sound_shut o h =
    split (eqb o.canceled 0) (λ e. or_l _ (eqb (open_of o) 0) e)
    (λ e. or_second (eqb o.canceled 0) _ (eq-eqb _ _ (h.dead (omega (arith, eqb-false)))))

pub sound_priced : (q : Instrument) (o : Order) → Sound o → Quoted q o → is_priced q o ≡ true
unfolding is_priced
sound_priced q o h t = both_i (le-leb _ _ h.sum_low) (le-leb _ _ t.sum)

-- an immediate order that is done has nothing open
done_order : (o : Order) → is_done o ≡ true → is_immediate o ≡ true → open_of o ≡ 0
unfolding is_done
done_order o h e =
    let g : (is_immediate o && is_open o) ≡ false = not-true _ h in
    let f : ltb 0 (open_of o) ≡ false = rw e at g in
    omega (arith, ltb-false)

order_done : (o : Order) → (is_immediate o ≡ true → open_of o ≡ 0) → is_done o ≡ true
unfolding is_done
order_done o h =
    split (is_immediate o)
    (λ e.
    let f : ltb 0 (open_of o) ≡ false = le-ltb 0 (open_of o) (omega (arith, h e)) in
    rw (e, f))
    (λ e. rw e)

-- an open buy and an open sell that are clear of each other
clear_order : (o r : Order) → is_clear o r ≡ true → is_buy o ≡ true → is_buy r ≡ false → 0 < open_of o → 0 < open_of r → r.level < o.level
unfolding is_clear
clear_order o r h bo br oo or =
    let g : (is_open o && is_buy o && (is_open r && not (is_buy r)) && crosses o.level r.level) ≡ false = not-true _ h in
    leb-false _ _ (rw (lt-ltb 0 (open_of o) oo, lt-ltb 0 (open_of r) or, bo, br) at g)

order_clear : (o r : Order)
    → (is_buy o ≡ true → is_buy r ≡ false → 0 < open_of o → 0 < open_of r → r.level < o.level) → is_clear o r ≡ true
unfolding is_clear
order_clear o r h =
    split (is_open o)
    (λ oo. split (is_buy o)
    (λ bo. split (is_open r)
    (λ or. split (is_buy r) (λ br. rw (oo, bo, or, br))
    (λ br. rw (oo, bo, or, br) (not_i (lt-leb _ _ (h bo br (ltb-true _ _ oo) (ltb-true _ _ or))))))
    (λ or. rw (oo, bo, or)))
    (λ bo. rw (oo, bo)))
    (λ oo. rw oo)

-- ---- the book

module _ (b : Book) (w next : ℕ) where
  work_or : (k : ℕ) (x : Bool) → (eqb k w || x) ≡ true → (k ≡ w → ⊥) → x ≡ true
  work_or k x h n = or_r (eqb k w) x h (ne_eqb k w n)

  or_work : (k : ℕ) (x : Bool) → ((k ≡ w → ⊥) → x ≡ true) → (eqb k w || x) ≡ true
  or_work k x h = split (eqb k w) (λ e. or_l (eqb k w) x e) (λ e. or_second (eqb k w) x (h (eqb-false k w e)))

  -- no IOC is open
  done_facts : no_ioc b w ≡ true → (k : ℕ) → 1 ≤ k → k ≤ length b → (k ≡ w → ⊥) → is_immediate (at b k) ≡ true → open_of (at b k) ≡ 0
  unfolding no_ioc
  done_facts h k l m n e =
      done_order (at b k) (work_or k (is_done (at b k)) (upto_at (λ j. eqb j w || is_done (at b j)) (length b) h k l m) n) e

  facts_done : ((k : ℕ) → 1 ≤ k → k ≤ length b → (k ≡ w → ⊥) → is_immediate (at b k) ≡ true → open_of (at b k) ≡ 0) → no_ioc b w ≡ true
  unfolding no_ioc
  facts_done h =
      upto_from (λ j. eqb j w || is_done (at b j)) (length b)
      (λ k l m. or_work k (is_done (at b k)) (λ n. order_done (at b k) (h k l m n)))

  -- no open buy meets an open sell
  cross_facts : no_cross b w ≡ true → (j k : ℕ) → 1 ≤ j → j ≤ length b → 1 ≤ k → k ≤ length b → (j ≡ w → ⊥) → (k ≡ w → ⊥)
      → is_clear (at b j) (at b k) ≡ true
  unfolding no_cross
  cross_facts h j k jl jm kl km nj nk =
      let f : ℕ → ℕ → Bool = λ j k. eqb j w || eqb k w || is_clear (at b j) (at b k) in
      let g = upto_at (f j) (length b) (upto_at (λ (j : ℕ). all_up_to (λ k. f j (suc k)) (length b)) (length b) h j jl jm) k kl km in
      or_r (eqb j w || eqb k w) (is_clear (at b j) (at b k)) g (rw (ne_eqb j w nj, ne_eqb k w nk))

  facts_cross : ((j k : ℕ) → (j ≡ w → ⊥) → (k ≡ w → ⊥) → is_clear (at b j) (at b k) ≡ true) → no_cross b w ≡ true
  unfolding no_cross
  facts_cross h =
      let f : ℕ → ℕ → Bool = λ j k. eqb j w || eqb k w || is_clear (at b j) (at b k) in
      upto_from (λ (j : ℕ). all_up_to (λ k. f j (suc k)) (length b)) (length b) (λ j jl jm. upto_from (f j) (length b) (λ k kl km.
      split (eqb j w) (λ e. rw e)
      (λ e.
      rw e
      (or_work k (is_clear (at b j) (at b k)) (λ n. h j k (eqb-false j w e) n)))))

  -- the numbers
  number_facts : has_numbers b w next ≡ true → 0 < open_of (at b w) → next + 2 * opposed_to b w + 1 ≤ 1000000000
  unfolding has_numbers
  number_facts h o =
      leb-true (next + 2 * opposed_to b w + 1) 1000000000
      (or_r (not (is_open (at b w))) _ h (rw (lt-ltb 0 (open_of (at b w)) o)))

  facts_number : (0 < open_of (at b w) → next + 2 * opposed_to b w + 1 ≤ 1000000000) → has_numbers b w next ≡ true
  unfolding has_numbers
  facts_number h =
      split (is_open (at b w))
      (λ e. or_second (not (is_open (at b w))) _ (le-leb _ _ (h (ltb-true 0 (open_of (at b w)) e))))
      (λ e. or_l (not (is_open (at b w))) (leb (next + 2 * opposed_to b w + 1) 1000000000) (not_i e))

-- places
place_facts : (b : Book) (next : ℕ) → has_places b next ≡ true → FreshNumbers (λ i. (at b i).place) next (length b)
unfolding has_places
place_facts b next h = fresh_facts (λ i. (at b i).place) next (length b) h

facts_place : (b : Book) (next : ℕ) → FreshNumbers (λ i. (at b i).place) next (length b) → has_places b next ≡ true
unfolding has_places
facts_place b next h = facts_fresh (λ i. (at b i).place) next (length b) h

-- an order out of the book is not immediate
ioc_in : (b : Book) (k : ℕ) → is_immediate (at b k) ≡ true → (1 ≤ k) × (k ≤ length b)
ioc_in b zero e = absurd (not_both e refl)
ioc_in b (suc k) e = (
  omega arith,
  ⊎_elim (λ (l : k < length b). l)
      (λ (l : length b ≤ k).
      let d : get_or b k none ≡ none = get_or-eq_default b none l in
      absurd (not_both (rw d at e) refl))
      (below_or k (length b)),
)

-- ---- the table

module _ (t : List ℕ) where
  id_facts : has_ids t ≡ true → (j k : ℕ) → 1 ≤ j → j < k → k ≤ filled t → same_bytes (cl_ord_id_at t j) (cl_ord_id_at t k) ≡ false
  unfolding has_ids is_fresh_id
  id_facts h j k l m n =
      let e : k - 1 + 1 ≡ k = omega arith in
      let f : ℕ → Bool = λ i. not (same_bytes (cl_ord_id_at t i) (cl_ord_id_at t (k - 1 + 1))) in
      let g : f j ≡ true = record_at_lem f (k - 1) (all_at (is_fresh_id t) (filled t) h (k - 1) (omega arith)) j l (omega arith) in
      let n : same_bytes (cl_ord_id_at t j) (cl_ord_id_at t (k - 1 + 1)) ≡ false = not-true _ g in
      rw e at n

  facts_id : ((j k : ℕ) → 1 ≤ j → j < k → k ≤ filled t → same_bytes (cl_ord_id_at t j) (cl_ord_id_at t k) ≡ false) → has_ids t ≡ true
  unfolding has_ids is_fresh_id
  facts_id h =
      all_from (is_fresh_id t) (filled t) (λ j l.
      record_from (λ i. not (same_bytes (cl_ord_id_at t i) (cl_ord_id_at t (j + 1)))) j (λ i m n. not_i (h i (j + 1) m (omega arith) (omega arith))))

  order_sound : (i : ℕ) → is_order t i ≡ true → Sound (order_at t i)
  unfolding is_order
  order_sound i h = sound_facts (instrument_of t) (order_at t i) (search (both_l, both_r)) (search (both_l, both_r)) (search (both_l, both_r)) (search (both_l, both_r))

  order_quoted : (i : ℕ) → is_order t i ≡ true → Quoted (instrument_of t) (order_at t i)
  unfolding is_order
  order_quoted i h = quoted_facts (instrument_of t) (order_at t i) (search (both_l, both_r)) (search both_r)

  order_record : (i : ℕ) → is_order t i ≡ true → is_record t i ≡ true
  unfolding is_order
  order_record i h = search (both_l, both_r)

  order_known : (i : ℕ) → is_order t i ≡ true → is_known t (order_at t i).mpid ≡ true
  unfolding is_order
  order_known i h = search (both_l, both_r)

  facts_order : (i : ℕ) → is_record t i ≡ true → is_known t (order_at t i).mpid ≡ true → Sound (order_at t i) → Quoted (instrument_of t) (order_at t i) → is_order t i ≡ true
  unfolding is_order
  facts_order i r k h x =
      let q : Instrument = instrument_of t in
      let o : Order = order_at t i in
      both_i (both_i (both_i (both_i (both_i r (sound_ranged q o h x)) k) (sound_within o h)) (sound_shut o h)) (sound_priced q o h x)

  work_within : has_work t ≡ true → work_of t ≤ filled t
  unfolding has_work
  work_within h = leb-true _ _ (search both_l)

  -- what matching works with
  book_facts : has_next t ≡ true → has_work t ≡ true → ((i : ℕ) → 1 ≤ i → i ≤ filled t → is_order t i ≡ true)
      → is_book (book_of t) (work_of t) (next_of t) ≡ true → Held (is_listed t) (next_of t) (book_of t) (work_of t)
  unfolding is_book has_next is_known
  book_facts n g is h =
      let b : Book = book_of t in
      let w : ℕ = work_of t in
      let x : ℕ = next_of t in
      let size : length b ≡ filled t = length_book t in
      let within = work_within g in
      let a : has_places b x ≡ true = search (both_l, both_r) in
      let p = place_facts b x a in
      let i : no_ioc b w ≡ true = search (both_l, both_r) in
      let c : no_cross b w ≡ true = search (both_l, both_r) in
      let m : has_numbers b w x ≡ true = search (both_l, both_r) in
      record {
        work = omega arith;
        sound = λ k l. rw (at_book t k l.low (omega (arith, l.high))) (order_sound k (is k l.low (omega (arith, l.high))));
        owned = λ k l. rw (at_book t k l.low (omega (arith, l.high))) (order_known k (is k l.low (omega (arith, l.high))));
        places_apart = λ j k jl kl e. p.apart j k jl.low jl.high kl.low kl.high e;
        places_below = λ k l. p.below k l.low l.high;
        no_ioc_lem = λ k nk e. let l = ioc_in b k e in done_facts b w x i k l.0 l.1 nk e;
        uncrossed = λ j k nj nk bj bk oj ok.
            clear_order (at b j) (at b k) (cross_facts b w x c j k (open_low b j oj) (open_high b j oj) (open_low b k ok) (open_high b k ok) nj nk) bj bk oj ok;
        next_high = leb-true _ _ (both_r (leb 1 (next_of t)) _ n);
        numbers = number_facts b w x m;
      }

  facts_book : Held (is_listed t) (next_of t) (book_of t) (work_of t) → is_book (book_of t) (work_of t) (next_of t) ≡ true
  unfolding is_book
  facts_book h =
      let b : Book = book_of t in
      let w : ℕ = work_of t in
      let x : ℕ = next_of t in
      both_i (both_i (both_i
      (facts_place b x
      (record {
        below = λ k l m. h.places_below k (record { low = l; high = m });
        apart = λ j k l m n o e. h.places_apart j k (record { low = l; high = m }) (record { low = n; high = o }) e;
      }))
      (facts_done b w x (λ k l m. h.no_ioc_lem k)))
      (facts_cross b w x (λ j k nj nk. order_clear (at b j) (at b k) (h.uncrossed j k nj nk))))
      (facts_number b w x h.numbers)

  order_id_facts : has_order_ids t ≡ true → FreshNumbers (order_id_at t) (next_of t) (filled t)
  unfolding has_order_ids
  order_id_facts h = fresh_facts (order_id_at t) (next_of t) (filled t) h

  facts_order_id : FreshNumbers (order_id_at t) (next_of t) (filled t) → has_order_ids t ≡ true
  unfolding has_order_ids
  facts_order_id h = facts_fresh (order_id_at t) (next_of t) (filled t) h

  -- what the test says of a market
  pub market_facts : is_market t ≡ true → Market t
  unfolding is_market has_length has_next has_orders
  market_facts h =
      let n : has_next t ≡ true = search (both_l, both_r) depth 13 in
      let w : has_work t ≡ true = search (both_l, both_r) depth 13 in
      let o : has_orders t ≡ true = search (both_l, both_r) depth 13 in
      let b : is_book (book_of t) (work_of t) (next_of t) ≡ true = search (both_l, both_r) depth 13 in
      let is : (i : ℕ) → 1 ≤ i → i ≤ filled t → is_order t i ≡ true = record_at_lem (is_order t) (filled t) o in
      record {
        long = eqb-true _ _ (search both_l depth 14);
        settings = search (both_l, both_r) depth 13;
        next_low = leb-true _ _ (both_l _ (leb (next_of t) 1000000000) n);
        work = w;
        kind = search (both_l, both_r) depth 13;
        rest = search (both_l, both_r) depth 13;
        records = λ i l m. order_record i (is i l m);
        ids = id_facts (search (both_l, both_r) depth 13);
        order_ids = order_id_facts (search (both_l, both_r) depth 13);
        decision = search (both_l, both_r) depth 13;
        held = book_facts n w is b;
        quoted = λ i l m. order_quoted i (is i l m);
        best = search both_r;
      }

  -- and back
  pub facts_market : Market t → is_market t ≡ true
  unfolding is_market has_length has_next has_orders is_known
  facts_market m =
      let h = m.held in
      let size : length (book_of t) ≡ filled t = length_book t in
      let in_book : (i : ℕ) → 1 ≤ i → i ≤ filled t → In (book_of t) i = λ i l n. record { low = l; high = omega arith } in
      both_i (both_i (both_i (both_i (both_i (both_i (both_i (both_i (both_i (both_i (both_i
      (eq-eqb _ _ m.long) m.settings)
      (both_i (le-leb _ _ m.next_low) (le-leb _ _ h.next_high))) m.work) m.kind) m.rest)
      (record_from (is_order t) (filled t) (λ i l n.
      facts_order i (m.records i l n)
      (rw (at_book t i l n) at (h.owned i (in_book i l n)))
      (rw (at_book t i l n) at (h.sound i (in_book i l n)))
      (m.quoted i l n))))
      (facts_id m.ids))
      (facts_order_id m.order_ids))
      (facts_book h))
      m.decision) m.best
