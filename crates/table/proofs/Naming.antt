-- A record takes a new ClOrdID: the table stays formed if the ClOrdID is good and no order has it.
use mathlib.Core.Path.{◌≡◌, sym, ap, ◌∙◌}
use mathlib.Core.Bool.{true, false, ◌&&◌}
use mathlib.Core.List.{List}
use mathlib.Core.Logic.{⊎_elim}
use Prim.Native.Nat.{ℕ, ◌+◌, ◌*◌, ◌≤◌, ◌<◌}
use native.Mathlib.Omega.{arith}
use lib.Dec.{eqb, lit≤}
use lib.ListN.{length, get_or, drop}
use borrow.Author.Tests.{eqb-true, eqb-false, leb-true, le-leb}
use Rattle.octets.specs.Octets.{part_at, text_bytes, same_bytes, all_zero}
use Rattle.octets.proofs.Bools.{split, both_i, both_l, both_r}
use Rattle.octets.proofs.Places.{below_or}
use Rattle.octets.proofs.Parts.{length_text_bytes, text_put_first, same_not, not_same}
use Rattle.table.specs.Places.{record_at}
use Rattle.table.specs.Heading.{instrument_of, is_listed}
use Rattle.table.specs.Orders.{cl_ord_id_at, order_id_at, capacity_at, classification_at, cash_at, margin_at, marks_at, order_at, filled, book_of, put_id}
use Rattle.table.specs.Market.{is_printable, is_text, rest_zero, is_capacity, is_class, is_cash, is_marked, is_record}
use Rattle.table.specs.Facts.{FreshNumbers, Named}
use Rattle.table.proofs.Same.{Same, same_in, put_below, put_above, is_text_same, part_same, rest_same, marks_same, record_parts, order_same, id_same, order_id_same, instrument_same, settings_same, kind_same, listed_same, filled_few, book_same}
use Rattle.table.proofs.Stores.{id_got, id_keeps}
use Rattle.table.proofs.Texts.{is_text_put}
use Rattle.table.proofs.Fresh.{fresh_same}
use Rattle.table.proofs.Frames.{Formed, filled_byte, free_byte, filled_is, id_short}

-- the same bytes, either way round
pub same_flip : (xs ys : List ℕ) → same_bytes xs ys ≡ false → same_bytes ys xs ≡ false
same_flip xs ys h = not_same ys xs (λ e. same_not xs ys h (sym e))

-- "the rest is zero", taken apart by the number of filled records
pub rest_zero_lem : (t : List ℕ) → rest_zero t ≡ true → all_zero (drop (record_at (filled t + 1)) t) ≡ true
unfolding rest_zero
rest_zero_lem t h = h

pub zero_rest : (t : List ℕ) (n : ℕ) → filled t ≡ n → all_zero (drop (record_at (n + 1)) t) ≡ true → rest_zero t ≡ true
unfolding rest_zero
zero_rest t n e h = rw e h

-- the parts of a good record
module _ (t : List ℕ) (i : ℕ) where
  pub parts_record : is_text is_printable 1 32 t (record_at i) ≡ true → is_text is_printable 0 10 t (record_at i + 33) ≡ true
      → is_marked (instrument_of t) (marks_at t i) ≡ true → 1 ≤ order_id_at t i
      → all_zero (part_at t (record_at i + 94) 34) ≡ true → is_record t i ≡ true
  unfolding is_record
  parts_record a b c g e = both_i (both_i (both_i (both_i a b) c) (le-leb 1 (order_id_at t i) g)) e

  module _ (h : is_record t i ≡ true) where
    pub record_id : is_text is_printable 1 32 t (record_at i) ≡ true
    unfolding is_record
    record_id = search both_l

    pub record_account : is_text is_printable 0 10 t (record_at i + 33) ≡ true
    unfolding is_record
    record_account = search (both_l, both_r)

    pub record_marked : is_marked (instrument_of t) (marks_at t i) ≡ true
    unfolding is_record
    record_marked = search (both_l, both_r)

    pub record_capacity : is_capacity (capacity_at t i) ≡ true
    unfolding is_marked marks_at
    record_capacity = both_l (is_capacity (capacity_at t i)) _ (both_l _ _ record_marked)

    pub record_class : is_class (classification_at t i) ≡ true
    unfolding is_marked marks_at
    record_class = both_r (is_capacity (capacity_at t i)) _ (both_l _ _ record_marked)

    pub record_cash : is_cash (instrument_of t) (cash_at t i) (margin_at t i) ≡ true
    unfolding is_marked marks_at
    record_cash = both_r (is_capacity (capacity_at t i) && is_class (classification_at t i)) _ record_marked

    pub record_order_id : 1 ≤ order_id_at t i
    unfolding is_record
    record_order_id = leb-true 1 (order_id_at t i) (search (both_l, both_r))

    pub record_spare_lem : all_zero (part_at t (record_at i + 94) 34) ≡ true
    unfolding is_record
    record_spare_lem = search both_r

module _ (t : List ℕ) (k : ℕ) (xs : List ℕ) (f : Formed t) (low : 1 ≤ k) (high : k ≤ filled t) (g : Named t xs) where
  room : record_at k + 128 ≤ length t
  room = omega (arith, filled_few t, f.long)

  wide : length (text_bytes 32 xs) ≡ 33
  wide = length_text_bytes 32 xs g.short

  -- all bytes but those of the ClOrdID are as they were
  pub named_heading : Same (put_id t k xs) t 0 128
  named_heading = put_below t (128 * k) (text_bytes 32 xs) 0 128 (omega arith)

  pub named_instrument : instrument_of (put_id t k xs) ≡ instrument_of t
  named_instrument = instrument_same (same_in 55 56 named_heading (lit≤ tt) (lit≤ tt))

  named_behind : (e : ℕ) → Same (put_id t k xs) t (128 * k + 33) e
  named_behind e = put_above t (128 * k) (text_bytes 32 xs) (128 * k + 33) e (omega (arith, wide))

  named_other : (i : ℕ) → (i ≡ k → ⊥) → Same (put_id t k xs) t (128 * i) (128 * i + 128)
  named_other i n =
      ⊎_elim (λ (l : k < i). put_above t (128 * k) (text_bytes 32 xs) (128 * i) (128 * i + 128) (omega (arith, wide)))
      (λ (l : i ≤ k). put_below t (128 * k) (text_bytes 32 xs) (128 * i) (128 * i + 128) (omega arith)) (below_or k i)

  named_byte : get_or (put_id t k xs) (128 * k) 0 ≡ length xs
  named_byte = text_put_first 32 t (128 * k) xs (omega (arith, room)) g.short

  -- as many records are filled
  pub named_filled : filled (put_id t k xs) ≡ filled t
  named_filled =
      let few = filled_few t in
      filled_is (put_id t k xs) (filled t) few
      (λ i l h e.
      split (eqb i k)
      (λ z.
      let q : i ≡ k = eqb-true i k z in
      let x : get_or (put_id t k xs) (128 * k) 0 ≡ 0 = rw q at e in
      omega (arith, named_byte, g.some))
      (λ z. filled_byte t i l h (sym ((named_other i (eqb-false i k z)).byte (128 * i) (omega arith) (omega arith)) ∙ e)))
      (λ h. (named_other (filled t + 1) (λ e. omega arith)).byte (128 * (filled t + 1)) (omega arith) (omega arith) ∙ free_byte t h)

  named_record : (i : ℕ) → 1 ≤ i → i ≤ filled t → is_record (put_id t k xs) i ≡ true
  named_record i l h =
      let r = f.records i l h in
      split (eqb i k)
      (λ z. let q = eqb-true i k z in rw q here)
      (λ z.
      let s = named_other i (eqb-false i k z) in
      record_parts i (same_in 55 56 named_heading (lit≤ tt) (lit≤ tt)) (same_in (128 * i) (128 * i + 44) s (omega arith) (omega arith)) (same_in (128 * i + 46) (128 * i + 48) s (omega arith) (omega arith))
      (same_in (128 * i + 84) (128 * i + 128) s (omega arith) (omega arith))
      ∙ r)
    where
      here : is_record (put_id t k xs) k ≡ true
      here =
          let r = f.records k low high in
          let s = named_behind (128 * k + 128) in
          let c : marks_at (put_id t k xs) k ≡ marks_at t k =
          marks_same k (same_in (128 * k + 46) (128 * k + 48) s (omega arith) (omega arith)) (same_in (128 * k + 84) (128 * k + 128) s (omega arith) (omega arith)) in
          let d = named_instrument in
          parts_record (put_id t k xs) k
          (is_text_put 32 t (128 * k) xs (omega (arith, room)) g.short is_printable 1 g.some g.printable)
          (is_text_same is_printable 0 10 (128 * k + 33) (128 * k + 128) s (omega arith) ∙ record_account t k r)
          (rw (d, c) (record_marked t k r))
          (rw (order_id_same k (same_in (128 * k + 84) (128 * k + 128) s (omega arith) (omega arith))) (record_order_id t k r))
          (ap all_zero (part_same (128 * k + 94) 34 (128 * k + 128) (same_in (128 * k + 94) (128 * k + 128) s (omega arith) (omega arith)) (omega arith))
          ∙ record_spare_lem t k r)

  -- the ClOrdIDs afterwards
  pub named_id : cl_ord_id_at (put_id t k xs) k ≡ xs
  named_id = id_got t k xs g.short room

  pub named_keeps : (i : ℕ) → 1 ≤ i → i ≤ filled t → (i ≡ k → ⊥) → cl_ord_id_at (put_id t k xs) i ≡ cl_ord_id_at t i
  named_keeps i l h n =
      id_same i (same_in (128 * i) (128 * i + 33) (named_other i n) (omega arith) (omega arith)) (id_short t i (f.records i l h))

  named_ids : (i j : ℕ) → 1 ≤ i → i < j → j ≤ filled t → same_bytes (cl_ord_id_at (put_id t k xs) i) (cl_ord_id_at (put_id t k xs) j) ≡ false
  named_ids i j l h m =
      split (eqb i k)
      (λ z.
      let q = eqb-true i k z in
      let a : cl_ord_id_at (put_id t k xs) i ≡ xs = rw q named_id in
      let b = named_keeps j (omega arith) m (λ e. omega arith) in
      rw (a, b) (same_flip _ _ (g.fresh j (omega arith) m)))
      (λ z.
      let a = named_keeps i l (omega arith) (eqb-false i k z) in
      split (eqb j k)
      (λ y.
      let q = eqb-true j k y in
      let b : cl_ord_id_at (put_id t k xs) j ≡ xs = rw q named_id in
      rw (a, b) (g.fresh i l (omega arith)))
      (λ y. let b = named_keeps j (omega arith) m (eqb-false j k y) in rw (a, b) (f.ids i j l h m)))

  -- the table is formed
  pub named_formed : Formed (put_id t k xs)
  named_formed =
      let e = named_filled in
      let s = named_heading in
      record {
        long = s.size ∙ f.long;
        settings = settings_same (same_in 0 28 s (lit≤ tt) (lit≤ tt)) (same_in 55 96 s (lit≤ tt) (lit≤ tt)) ∙ f.settings;
        kind = kind_same (same_in 55 56 s (lit≤ tt) (lit≤ tt)) ∙ f.kind;
        rest = rest;
        records = λ i l h. named_record i l (omega arith);
        ids = λ i j l h m. named_ids i j l h (omega arith);
      }
    where
      rest : rest_zero (put_id t k xs) ≡ true
      rest =
          let e = named_filled in
          let d = rest_same (128 * (filled t + 1)) (same_in (128 * (filled t + 1)) (length t) (named_behind (length t)) (omega arith) (omega arith)) in
          zero_rest (put_id t k xs) (filled t) e (rw d (rest_zero_lem t f.rest))

  -- the OrderIDs, the book, and who is listed
  pub named_order_ids : (next more : ℕ) → next ≤ more → FreshNumbers (order_id_at t) next (filled t)
      → FreshNumbers (order_id_at (put_id t k xs)) more (filled (put_id t k xs))
  named_order_ids next more l h =
      fresh_same (order_id_at t) (order_id_at (put_id t k xs)) next more (filled t) (filled (put_id t k xs)) l named_filled
      (λ i a b.
      split (eqb i k)
      (λ z.
      let q = eqb-true i k z in
      order_id_same i (same_in (128 * i + 84) (128 * i + 128) (named_behind (128 * i + 128)) (omega arith) (omega arith)))
      (λ z. order_id_same i (same_in (128 * i + 84) (128 * i + 128) (named_other i (eqb-false i k z)) (omega arith) (omega arith))))
      h

  pub named_order : (i : ℕ) → order_at (put_id t k xs) i ≡ order_at t i
  named_order i =
      split (eqb i k)
      (λ z. let q = eqb-true i k z in rw q (id_keeps t k xs g.short room))
      (λ z.
      order_same i (same_in (128 * i + 44) (128 * i + 92) (named_other i (eqb-false i k z)) (omega arith) (omega arith)))

  pub named_book : book_of (put_id t k xs) ≡ book_of t
  named_book = book_same (put_id t k xs) t named_filled (λ i l h. named_order i)

  pub named_listed : is_listed (put_id t k xs) ≡ is_listed t
  named_listed = λ j m. listed_same (same_in 56 96 named_heading (lit≤ tt) (lit≤ tt)) m j
