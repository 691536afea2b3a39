-- A new order is written as a record, the next one or that of an order with nothing open: the table stays formed, its OrderIDs are
-- those of the other records and the next number, and its book is the old one with the order put there.
use mathlib.Core.Path.{◌≡◌, sym, ap, ◌∙◌}
use mathlib.Core.Bool.{true, false}
use mathlib.Core.List.{List}
use mathlib.Core.Logic.{⊎_elim}
use Prim.Native.Nat.{ℕ, ◌+◌, ◌*◌, ◌-◌, ◌^◌, ◌≤◌, ◌<◌}
use native.Mathlib.Omega.{arith}
use lib.Dec.{eqb, lit≤}
use lib.ListN.{length, get_or, drop}
use lib.Seq.{get_or-drop}
use borrow.Author.Tests.{eqb-true, eqb-false}
use Rattle.octets.specs.Octets.{text_bytes, same_bytes, all_zero}
use Rattle.octets.proofs.Bools.{split}
use Rattle.octets.proofs.Places.{below_or, length_put}
use Rattle.octets.proofs.Parts.{text_put_first}
use Rattle.octets.proofs.Zeros.{zero_at, zero_from}
use Rattle.matching.specs.declared.Order.{Order}
use Rattle.matching.specs.Matching.{put as put_order}
use Rattle.matching.specs.Held.{Takes}
use Rattle.matching.proofs.Conserved.{takes_low, takes_high}
use Rattle.matching.proofs.Requests.{takes_more, takes_in, takes_back, takes_most}
use Rattle.table.specs.declared.record.Marks.{Marks}
use Rattle.table.specs.Places.{record_at}
use Rattle.table.specs.Heading.{instrument_of, is_listed}
use Rattle.table.specs.Orders.{cl_ord_id_at, order_id_at, filled, book_of, put_id, record_of, accepted}
use Rattle.table.specs.Market.{every, is_printable, rest_zero, is_marked, is_record}
use Rattle.table.specs.Facts.{FreshNumbers, Named}
use Rattle.table.proofs.Same.{Same, same_in, same_then, put_below, put_above, is_text_same, rest_same, record_parts, order_same, id_same, order_id_same, instrument_same, settings_same, kind_same, listed_same, filled_few}
use Rattle.table.proofs.Stores.{Sized, put_texts, length_record, accepted_texts, accepted_behind, accepted_id, accepted_order_id, accepted_marks, accepted_spare, accepted_order}
use Rattle.table.proofs.Books.{length_book, book_put}
use Rattle.table.proofs.Instruments.{marked_bytes}
use Rattle.table.proofs.Texts.{is_text_put}
use Rattle.table.proofs.Fresh.{fresh_taken}
use Rattle.table.proofs.Frames.{Formed, filled_byte, filled_is, id_short}
use Rattle.table.proofs.Naming.{same_flip, rest_zero_lem, zero_rest, parts_record}

-- where the rest of a table is zero, so is each byte of it, and what is left behind a later place
zero_byte : (t : List ℕ) (q p : ℕ) → all_zero (drop q t) ≡ true → q ≤ p → get_or t p 0 ≡ 0
zero_byte t q p h l =
    let e : q + (p - q) ≡ p = omega arith in
    ap (λ (k : ℕ). get_or t k 0) (sym e) ∙ sym (get_or-drop q t (p - q) 0) ∙ zero_at (drop q t) h (p - q)

zero_later : (t : List ℕ) (q p : ℕ) → all_zero (drop q t) ≡ true → q ≤ p → all_zero (drop p t) ≡ true
zero_later t q p h l = zero_from (drop p t) (λ k m. get_or-drop p t k 0 ∙ zero_byte t q (p + k) h (omega arith))

-- the order o is written as record k of t, which it may take, with a new OrderID and ClOrdID
module _ (t : List ℕ) (k order_id : ℕ) (cl_ord_id account : List ℕ) (marks : Marks) (o : Order) (f : Formed t) (x : Takes (book_of t) k) (small : k ≤ 255)
    (g : Named t cl_ord_id) (few : length account ≤ 10) (printable : every is_printable account ≡ true) (a : is_marked (instrument_of t) marks ≡ true)
    (some : 1 ≤ order_id) (sized : order_id < 256 ^ 4) where
  -- the table afterwards, and its number of filled records
  abbrev pub after : List ℕ
  after = accepted t k order_id cl_ord_id account marks o

  abbrev pub count : ℕ
  count = length (put_order (book_of t) k o)

  low : 1 ≤ k
  low = takes_low (book_of t) k x

  inside : k ≤ count
  inside = (takes_in (book_of t) k o x).high

  most : count ≤ 255
  most = takes_most (book_of t) k o x small (omega (arith, length_book t, filled_few t))

  more : filled t ≤ count
  more = omega (arith, takes_more (book_of t) k o x, length_book t)

  -- every other record was there before
  others : (i : ℕ) → 1 ≤ i → i ≤ count → (i ≡ k → ⊥) → i ≤ filled t
  others i l h n = omega (arith, (takes_back (book_of t) k o x i n (record { low = l; high = h })).high, length_book t)

  room : record_at k + 128 ≤ length t
  room = omega (arith, f.long)

  -- all bytes but those of the record are as they were
  pub entered_heading : Same after t 0 128
  unfolding accepted
  entered_heading = let l = low in put_below t (128 * k) (record_of order_id cl_ord_id account marks o) 0 128 (omega arith)

  pub entered_instrument : instrument_of after ≡ instrument_of t
  entered_instrument = instrument_same (same_in 55 56 entered_heading (lit≤ tt) (lit≤ tt))

  entered_behind : (e : ℕ) → Same after t (128 * k + 128) e
  entered_behind = accepted_behind t k order_id cl_ord_id account marks o g.short few room

  entered_other : (i : ℕ) → (i ≡ k → ⊥) → Same after t (128 * i) (128 * i + 128)
  unfolding accepted
  entered_other i n =
      let s = length_record t k order_id cl_ord_id account marks o g.short few room in
      ⊎_elim (λ (l : k < i). put_above t (128 * k) (record_of order_id cl_ord_id account marks o) (128 * i) (128 * i + 128) (omega arith))
      (λ (l : i ≤ k). put_below t (128 * k) (record_of order_id cl_ord_id account marks o) (128 * i) (128 * i + 128) (omega arith)) (below_or k i)

  -- its texts
  texts : Same after (put_texts t k cl_ord_id account) (128 * k) (128 * k + 44)
  texts = accepted_texts t k order_id cl_ord_id account marks o g.short few room

  id_texts : Same after (put_id t k cl_ord_id) (128 * k) (128 * k + 33)
  id_texts =
      same_then (same_in (128 * k) (128 * k + 33) texts (omega arith) (omega arith))
      (put_below (put_id t k cl_ord_id) (128 * k + 33) (text_bytes 10 account) (128 * k) (128 * k + 33) (omega arith))

  entered_byte : get_or after (128 * k) 0 ≡ length cl_ord_id
  entered_byte =
      id_texts.byte (128 * k) (omega arith) (omega arith)
      ∙ text_put_first 32 t (128 * k) cl_ord_id (omega (arith, room)) g.short

  -- as many records are filled as the book has orders then
  pub entered_filled : filled after ≡ count
  entered_filled =
      filled_is after count most
      (λ i l h e.
      split (eqb i k)
      (λ z.
      let q = eqb-true i k z in
      let y : get_or after (128 * k) 0 ≡ 0 = rw q at e in
      omega (arith, entered_byte, g.some))
      (λ z.
      let n = eqb-false i k z in
      filled_byte t i l (others i l h n) (sym ((entered_other i n).byte (128 * i) (omega arith) (omega arith)) ∙ e)))
      (λ h.
      let u = inside in
      let v = more in
      (entered_other (count + 1) (λ e. omega arith)).byte (128 * (count + 1)) (omega arith) (omega arith)
      ∙ zero_byte t (128 * (filled t + 1)) (128 * (count + 1)) (rest_zero_lem t f.rest) (omega arith))

  -- the OrderIDs afterwards
  pub entered_order_id : order_id_at after k ≡ order_id
  entered_order_id = accepted_order_id t k order_id cl_ord_id account marks o g.short few room sized

  other_order_id : (i : ℕ) → (i ≡ k → ⊥) → order_id_at after i ≡ order_id_at t i
  other_order_id i n = order_id_same i (same_in (128 * i + 84) (128 * i + 128) (entered_other i n) (omega arith) (omega arith))

  pub entered_order_ids : FreshNumbers (order_id_at t) order_id (filled t) → FreshNumbers (order_id_at after) (order_id + 1) (filled after)
  entered_order_ids h =
      let e = entered_filled in
      rw e
      (fresh_taken (order_id_at t) (order_id_at after) order_id (filled t) count k
      (λ i l m n. (others i l m n, other_order_id i n)) entered_order_id h)

  new_record : is_record after k ≡ true
  new_record =
      let p : ℕ = 128 * k in
      let long = length_put t p (text_bytes 32 cl_ord_id) in
      let c = accepted_marks t k order_id cl_ord_id account marks o g.short few room (marked_bytes (instrument_of t) marks a) in
      let d = entered_instrument in
      parts_record after k
      (is_text_same is_printable 1 32 p (p + 33) id_texts (omega arith)
      ∙ is_text_put 32 t p cl_ord_id (omega (arith, room)) g.short is_printable 1 g.some g.printable)
      (is_text_same is_printable 0 10 (p + 33) (p + 44) (same_in (p + 33) (p + 44) texts (omega arith) (omega arith)) (omega arith)
      ∙ is_text_put 10 (put_id t k cl_ord_id) (p + 33) account (omega (arith, room)) few is_printable 0 (omega arith) printable)
      (rw (d, c) a)
      (rw entered_order_id some)
      (accepted_spare t k order_id cl_ord_id account marks o g.short few room)

  entered_record : (i : ℕ) → 1 ≤ i → i ≤ count → is_record after i ≡ true
  entered_record i l h =
      split (eqb i k)
      (λ z. let q = eqb-true i k z in rw q new_record)
      (λ z.
      let n = eqb-false i k z in
      let s = entered_other i n in
      record_parts i (same_in 55 56 entered_heading (lit≤ tt) (lit≤ tt)) (same_in (128 * i) (128 * i + 44) s (omega arith) (omega arith)) (same_in (128 * i + 46) (128 * i + 48) s (omega arith) (omega arith))
      (same_in (128 * i + 84) (128 * i + 128) s (omega arith) (omega arith))
      ∙ f.records i l (others i l h n))

  -- the ClOrdIDs afterwards
  pub entered_id : cl_ord_id_at after k ≡ cl_ord_id
  entered_id = accepted_id t k order_id cl_ord_id account marks o g.short few room

  pub entered_keeps : (i : ℕ) → 1 ≤ i → i ≤ count → (i ≡ k → ⊥) → cl_ord_id_at after i ≡ cl_ord_id_at t i
  entered_keeps i l h n =
      id_same i (same_in (128 * i) (128 * i + 33) (entered_other i n) (omega arith) (omega arith)) (id_short t i (f.records i l (others i l h n)))

  entered_ids : (i j : ℕ) → 1 ≤ i → i < j → j ≤ count → same_bytes (cl_ord_id_at after i) (cl_ord_id_at after j) ≡ false
  entered_ids i j l h m =
      split (eqb i k)
      (λ z.
      let q = eqb-true i k z in
      let c : cl_ord_id_at after i ≡ cl_ord_id = rw q entered_id in
      let d = entered_keeps j (omega arith) m (λ e. omega arith) in
      rw (c, d) (same_flip _ _ (g.fresh j (omega arith) (others j (omega arith) m (λ e. omega arith)))))
      (λ z.
      let u = eqb-false i k z in
      let c = entered_keeps i l (omega arith) u in
      split (eqb j k)
      (λ y.
      let q = eqb-true j k y in
      let d : cl_ord_id_at after j ≡ cl_ord_id = rw q entered_id in
      rw (c, d) (g.fresh i l (others i l (omega arith) u)))
      (λ y.
      let v = eqb-false j k y in
      let d = entered_keeps j (omega arith) m v in
      rw (c, d) (f.ids i j l h (others j (omega arith) m v))))

  -- the table is formed
  pub entered_formed : Formed after
  entered_formed =
      let e = entered_filled in
      let s = entered_heading in
      record {
        long = s.size ∙ f.long;
        settings = settings_same (same_in 0 28 s (lit≤ tt) (lit≤ tt)) (same_in 55 96 s (lit≤ tt) (lit≤ tt)) ∙ f.settings;
        kind = kind_same (same_in 55 56 s (lit≤ tt) (lit≤ tt)) ∙ f.kind;
        rest = rest;
        records = λ i l h. entered_record i l (rw e at h);
        ids = λ i j l h m. entered_ids i j l h (rw e at m);
      }
    where
      rest : rest_zero after ≡ true
      rest =
          let u = inside in
          let v = more in
          let p : ℕ = 128 * (count + 1) in
          let d = rest_same p (same_in p (length t) (entered_behind (length t)) (omega arith) (omega arith)) in
          zero_rest after count entered_filled
          (rw d (zero_later t (128 * (filled t + 1)) p (rest_zero_lem t f.rest) (omega arith)))

  -- the book, and who is listed
  pub entered_book : Sized o → book_of after ≡ put_order (book_of t) k o
  entered_book z =
      let e = entered_filled in
      book_put t after k o low (takes_high (book_of t) k x) e
      (accepted_order t k order_id cl_ord_id account marks o g.short few room z)
      (λ j l h n. others j l (rw e at h) n)
      (λ j l h n. order_same j (same_in (128 * j + 44) (128 * j + 92) (entered_other j n) (omega arith) (omega arith)))

  pub entered_listed : is_listed after ≡ is_listed t
  entered_listed = λ j m. listed_same (same_in 56 96 entered_heading (lit≤ tt) (lit≤ tt)) m j
