-- What Submit writes of is legible: a new order, a replacement and a cancel that are taken, each on the table after its record has
-- changed and before the next number is raised; and what is said of a cancel or replacement that is rejected. The texts of the
-- message are asked for by the places where they stand.
use Prim.Native.Nat.{ℕ, ◌+◌, ◌*◌, ◌≤◌, ◌<◌}
use native.Mathlib.Omega.{arith}
use mathlib.Core.Bool.{Bool, true}
use mathlib.Core.Path.{◌≡◌, refl, ap, ◌∙◌}
use mathlib.Core.List.{List, [], ◌∷◌}
use lib.Dec.{eqb, ltb, lit≤, lit<}
use lib.ListN.{length, replicate}
use borrow.Author.Tests.{eqb-false}
use Rattle.octets.specs.Octets.{bytes_of, text_bytes, part_at}
use Rattle.octets.proofs.Bools.{split}
use Rattle.octets.proofs.Places.{length_bytes_of, length_put}
use Rattle.octets.proofs.Parts.{length_text_bytes}
use Rattle.decimal.specs.Instruments.{highest}
use Rattle.decimal.specs.Reading.{is_time}
use Rattle.decimal.proofs.Times.{time_short}
use Rattle.matching.specs.declared.Order.{Order}
use Rattle.matching.specs.declared.Event.{Event}
use Rattle.matching.specs.declared.Event.TheVariants.{Accepted, Replaced, Withdrawn}
use Rattle.matching.specs.Matching.{at, open_of, who, change}
use Rattle.matching.specs.Held.{In, Enters, Renews}
use Rattle.matching.specs.Quoted.{Quoted}
use Rattle.matching.proofs.Conserved.{takes_low}
use Rattle.table.specs.declared.record.Marks.{Marks}
use Rattle.table.specs.Places.{table_bytes}
use Rattle.table.specs.Heading.{next_of, work_of, instrument_of, is_listed, put_work}
use Rattle.table.specs.Orders.{order_at, filled, book_of, term_bytes, amount_bytes, record_of, put_id, accepted, replaced, withdrawn}
use Rattle.table.specs.Best.{book_row, put_best, clear_best}
use Rattle.table.specs.Market.{every, is_printable, is_marked}
use Rattle.table.specs.Facts.{Market, Named}
use Rattle.table.specs.Changes.{numbered, entered, renewed, taken}
use Rattle.table.proofs.Same.{same_sym, put_below, work_same, filled_few}
use Rattle.table.proofs.Stores.{work_got}
use Rattle.table.proofs.Books.{length_book, at_book}
use Rattle.table.proofs.Frames.{Framed, framed_long, framed_filled, framed_instrument, framed_listed, framed_heading, framed_best, framed_then, framed_formed, framed_order_ids, market_formed, quoted_book}
use Rattle.table.proofs.Applied.{book_next, book_work, book_best, framed_amounts}
use Rattle.table.proofs.Bests.{length_book_row}
use Rattle.table.proofs.Naming.{named_formed, named_filled}
use Rattle.table.proofs.Kept.{taken_kept, renewed_kept, entered_kept}
use Rattle.report.specs.declared.Place.{Place}
use Rattle.rows.specs.Rows.{text, status_of}
use Rattle.ticket.specs.declared.Cause.{Cause}
use Rattle.ticket.specs.Tickets.{unchanged_on}
use Rattle.ticket.specs.Legible.{text_by, Placed, is_among, Headed, Details, Legible, LegibleUnchanged, Holder}
use Rattle.ticket.proofs.Formed.{formed_headed, Orderly, market_orderly, orderly_recorded}

-- ---- texts of the message

module _ (message t : List ℕ) (start len : ℕ) where
  pub sent_text : text_by message t (record { sent = true; start = start; length = len }) ≡ part_at message start len
  unfolding text
  sent_text = refl

  pub sent_placed : (f : ℕ → Bool) (low high : ℕ) → low ≤ length (part_at message start len) → len ≤ high → every f (part_at message start len) ≡ true
      → Placed f low high message t (record { sent = true; start = start; length = len })
  unfolding text
  sent_placed f low high l h g = record { least = l; most = h; good = g }

-- ---- the table before its heading was written is orderly, if the one after that is a market

framed_back : (u v : List ℕ) → length u ≡ table_bytes → Framed u v → Framed v u
framed_back u v long f =
    let e = framed_filled u v long f in
    let z = f.names.size in
    record {
      names = same_sym f.names;
      lists = same_sym f.lists;
      texts = λ i l h. same_sym (f.texts i l (omega arith));
      kinds = λ i l h. same_sym (f.kinds i l (omega arith));
      spares = λ i l h. same_sym (f.spares i l (omega arith));
      behind = rw (e, z) (same_sym f.behind);
    }

orderly_back : (u v : List ℕ) → length u ≡ table_bytes → Framed u v → book_of v ≡ book_of u → Market v → Orderly u
orderly_back u v long f b m =
    let g = framed_back u v long f in
    record {
      formed = framed_formed v u m.long g (market_formed v m);
      order_ids = framed_order_ids v u m.long g (next_of v) 1000000000 m.held.next_high m.order_ids;
      sound = rw b at m.held.sound;
      quoted = rw (b, framed_instrument u v long f) at (quoted_book v (instrument_of v) m.quoted);
      owned = rw (b, framed_listed u v long f) at m.held.owned;
    }

module _ (u : List ℕ) (long : length u ≡ table_bytes) where
  framed_numbered : Framed u (numbered u 1)
  unfolding numbered
  framed_numbered = framed_heading u 28 (bytes_of 4 (next_of u + 1)) (lit≤ tt) (omega (arith, length_bytes_of 4 (next_of u + 1)))

  book_numbered : book_of (numbered u 1) ≡ book_of u
  unfolding numbered
  book_numbered = book_next u (next_of u + 1) long

  numbered_long : length (numbered u 1) ≡ table_bytes
  numbered_long = framed_long u (numbered u 1) long framed_numbered

  pub orderly_numbered : Market (put_best (numbered u 1)) → Orderly u
  orderly_numbered m =
      let v : List ℕ = numbered u 1 in
      let n = length_book_row v in
      orderly_back u (put_best v) long (framed_then u v (put_best v) long framed_numbered (framed_best v (book_row v) (omega arith)))
      (book_best v (book_row v) numbered_long (omega arith) ∙ book_numbered) m

  module _ (w : ℕ) (stamp : List ℕ) (short : length stamp ≤ 21) where
    framed_worked : Framed u (put_work (numbered u 1) w stamp)
    framed_worked =
        framed_then u (numbered u 1) (put_work (numbered u 1) w stamp) long framed_numbered
        (framed_heading (numbered u 1) 32 (w ∷ text_bytes 21 stamp) (lit≤ tt) (omega (arith, length_text_bytes 21 stamp short)))

    worked_long : length (put_work (numbered u 1) w stamp) ≡ table_bytes
    worked_long = framed_long u (put_work (numbered u 1) w stamp) long framed_worked

    book_worked : book_of (clear_best (put_work (numbered u 1) w stamp)) ≡ book_of u
    book_worked =
        book_best (put_work (numbered u 1) w stamp) (replicate 31 0) worked_long (lit≤ tt)
        ∙ book_work (numbered u 1) w stamp numbered_long short ∙ book_numbered

    pub orderly_worked : Market (clear_best (put_work (numbered u 1) w stamp)) → Orderly u
    orderly_worked m =
        let v : List ℕ = put_work (numbered u 1) w stamp in
        orderly_back u (clear_best v) long (framed_then u v (clear_best v) long framed_worked (framed_best v (replicate 31 0) (lit≤ tt))) book_worked m

    -- and the order in work is one of its book
    pub worked_in : 1 ≤ w → Market (clear_best (put_work (numbered u 1) w stamp)) → In (book_of u) w
    worked_in low m =
        let z = numbered_long in
        let v : List ℕ = put_work (numbered u 1) w stamp in
        let e : work_of (clear_best v) ≡ w = work_same (put_below v 97 (replicate 31 0) 32 33 (lit≤ tt)) ∙ work_got (numbered u 1) w stamp (omega arith) short in
        record { low = low; high = omega (arith, m.held.work, ap length book_worked) }

-- ---- what is taken

told : (u message : List ℕ) (n : ℕ) (c : Cause) (e : Event) → Orderly u → In (book_of u) (who e) → 1 ≤ n → n < 1000000000
    → is_time (text_by message u c.time) ≡ true → Details u message n c e → Legible u message n c e
told u message n c e o i low high s d =
    record { heading = formed_headed u o.formed message n c.time low high s; order = orderly_recorded u o (who e) i; details = d }

-- a new order, as record k: the number of the report is its OrderID
module _ (t message : List ℕ) (k : ℕ) (cl_ord_id account : List ℕ) (marks : Marks) (o : Order) (c : Cause) where
  pub new_legible : Market t → work_of t ≡ 0 → Named t cl_ord_id → length account ≤ 10 → every is_printable account ≡ true
      → is_marked (instrument_of t) marks ≡ true → Quoted (instrument_of t) o → Enters (is_listed t) (next_of t) (book_of t) k o
      → is_time (text_by message (accepted t k (next_of t) cl_ord_id account marks o) c.time) ≡ true
      → Legible (accepted t k (next_of t) cl_ord_id account marks o) message (next_of t) c (Accepted k o)
  unfolding entered accepted
  new_legible m idle g few printable a b e s =
      let u : List ℕ = accepted t k (next_of t) cl_ord_id account marks o in
      let long : length u ≡ table_bytes = length_put t (128 * k) (record_of (next_of t) cl_ord_id account marks o) ∙ m.long in
      let stamp : List ℕ = text_by message u c.time in
      let v = entered_kept t k cl_ord_id account marks o m g few printable a e stamp b idle s in
      told u message (next_of t) c (Accepted k o) (orderly_worked u long k stamp (time_short stamp s) v)
      (worked_in u long k stamp (time_short stamp s) (takes_low (book_of t) k e.number) v) m.next_low (omega (arith, e.numbered)) s tt

module _ (t message cl_ord_id : List ℕ) (k : ℕ) (c : Cause) (m : Market t) (idle : work_of t ≡ 0) (i : In (book_of t) k) (g : Named t cl_ord_id) where
  -- a replacement
  module _ (l q p : ℕ) where
    pub replaced_legible : Renews (next_of t) (book_of t) k l q p → l ≤ highest (instrument_of t) → is_time (text_by message (replaced t cl_ord_id (Replaced k l q p)) c.time) ≡ true
        → Placed is_printable 1 32 message (replaced t cl_ord_id (Replaced k l q p)) c.orig
        → Legible (replaced t cl_ord_id (Replaced k l q p)) message (next_of t) c (Replaced k l q p)
    unfolding renewed replaced
    replaced_legible a h s d =
        let u : List ℕ = replaced t cl_ord_id (Replaced k l q p) in
        let long : length u ≡ table_bytes =
        length_put (put_id t k cl_ord_id) (128 * k + 48) (term_bytes (change (Replaced k l q p) (order_at t k))) ∙ length_put t (128 * k) (text_bytes 32 cl_ord_id) ∙ m.long in
        let stamp : List ℕ = text_by message u c.time in
        let v = renewed_kept t k cl_ord_id m idle i g l q p stamp a h s in
        told u message (next_of t) c (Replaced k l q p) (orderly_worked u long k stamp (time_short stamp s) v)
        (worked_in u long k stamp (time_short stamp s) i.low v) m.next_low (omega (arith, a.numbered)) s d

  -- a cancel
  high : k ≤ filled t
  high = omega (arith, i.high, length_book t)

  -- it leaves as many records filled
  withdrawn_filled : (q : ℕ) → filled (withdrawn t cl_ord_id (Withdrawn k q)) ≡ filled t
  unfolding withdrawn
  withdrawn_filled q =
      let f = market_formed t m in
      let t1 : List ℕ = put_id t k cl_ord_id in
      let z = named_filled t k cl_ord_id f i.low high g in
      let x = named_formed t k cl_ord_id f i.low high g in
      let o : Order = change (Withdrawn k q) (order_at t k) in
      framed_filled t1 (withdrawn t cl_ord_id (Withdrawn k q)) x.long (framed_amounts t1 k o x.long i.low (omega (arith, high))) ∙ z

  withdrawn_long : (q : ℕ) → length (withdrawn t cl_ord_id (Withdrawn k q)) ≡ table_bytes
  unfolding withdrawn
  withdrawn_long q =
      length_put (put_id t k cl_ord_id) (128 * k + 64) (amount_bytes (change (Withdrawn k q) (order_at t k)))
      ∙ length_put t (128 * k) (text_bytes 32 cl_ord_id) ∙ m.long

  withdrawn_market : (q : ℕ) → open_of (at (book_of t) k) ≡ q → next_of t ≤ 999998976 → Market (put_best (numbered (withdrawn t cl_ord_id (Withdrawn k q)) 1))
  unfolding taken
  withdrawn_market q e low = rw e at (taken_kept t k cl_ord_id m idle i g low)

  pub withdrawn_legible : next_of t ≤ 999998976 → is_time (text_by message (withdrawn t cl_ord_id (Withdrawn k (open_of (order_at t k)))) c.time) ≡ true
      → Placed is_printable 1 32 message (withdrawn t cl_ord_id (Withdrawn k (open_of (order_at t k)))) c.orig
      → Legible (withdrawn t cl_ord_id (Withdrawn k (open_of (order_at t k)))) message (next_of t) c (Withdrawn k (open_of (order_at t k)))
  withdrawn_legible low s d =
      let q : ℕ = open_of (order_at t k) in
      let u : List ℕ = withdrawn t cl_ord_id (Withdrawn k q) in
      let v : Market (put_best (numbered u 1)) = withdrawn_market q (ap open_of (at_book t k i.low high)) low in
      told u message (next_of t) c (Withdrawn k q) (orderly_numbered u (withdrawn_long q) v)
      (record { low = i.low; high = omega (arith, length_book u, withdrawn_filled q, high) }) m.next_low (omega arith) s d

-- ---- what is rejected

-- the record that has the 41, or none
pub market_holder : (t : List ℕ) (i : ℕ) → Market t → i ≤ filled t → Holder t i
market_holder t i m h =
    record {
      long = m.long;
      high = omega (arith, filled_few t);
      numbered = λ l. (market_orderly t m).order_ids.below i l h;
      covered = λ l.
          let j : In (book_of t) i = record { low = l; high = omega (arith, length_book t) } in
          rw (at_book t i l h) at (m.held.sound i j).covered;
    }

-- 39 of an order is 0, 1, 2 or 4
status_among : (o : Order) → is_among (0 ∷ 1 ∷ 2 ∷ 4 ∷ 8 ∷ []) (status_of o) ≡ true
unfolding status_of
status_among o =
    split (ltb 0 o.canceled) (λ a. rw a)
    (λ a. rw a (split (eqb (open_of o) 0) (λ b. rw b) (λ b. rw b (split (ltb 0 o.executed) (λ d. rw d) (λ d. rw d)))))

module _ (t message : List ℕ) (n : ℕ) (time : Place) (i : ℕ) (id orig : Place) (reason response : ℕ) where
  pub unchanged_legible : Headed t message n time → Holder t i → Placed is_printable 1 32 message t id → Placed is_printable 1 32 message t orig
      → is_among (0 ∷ 1 ∷ 2 ∷ []) reason ≡ true → is_among (1 ∷ 2 ∷ []) response ≡ true
      → LegibleUnchanged t message n time (unchanged_on t i id orig reason response)
  unfolding unchanged_on
  unchanged_legible h l a b c d =
      record {
        heading = h;
        cl_ord_id = a;
        orig = b;
        orderid = split (eqb i 0) (λ e. rw e (lit< tt)) (λ e. rw e (l.numbered (omega (arith, eqb-false i 0 e))));
        status = split (eqb i 0) (λ e. rw e) (λ e. rw e (status_among (order_at t i)));
        reason = c;
        response = d;
      }
