-- A market stays a market: one step of the order in work, a report about no order, a requested cancel, a replacement and a
-- new order each leave a market, with the numbers that they use.
use mathlib.Core.Path.{◌≡◌, refl, sym, ap, ◌∙◌, subst}
use mathlib.Core.Bool.{Bool, true, ◌||◌}
use mathlib.Core.List.{List, [], ◌∷◌}
use Prim.Native.Nat.{ℕ, ◌+◌, ◌*◌, ◌^◌, ◌≤◌, ◌<◌}
use native.Mathlib.Omega.{arith}
use lib.Dec.{eqb, lit≤}
use lib.ListN.{length, replicate}
use borrow.Author.Tests.{eqb-true, eqb-false, leb-true, ltb-true}
use Rattle.octets.specs.Octets.{bytes_of, put, text_bytes}
use Rattle.octets.specs.Tests.{all_up_to}
use Rattle.octets.proofs.Bools.{split, both_l, both_r, or_r}
use Rattle.octets.proofs.Ranges.{all_at}
use Rattle.octets.proofs.Places.{length_bytes_of}
use Rattle.octets.proofs.Parts.{length_text_bytes}
use Rattle.decimal.specs.Instruments.{highest}
use Rattle.decimal.specs.Reading.{is_time}
use Rattle.decimal.proofs.Times.{time_short}
use Rattle.matching.specs.declared.Order.{Order}
use Rattle.matching.specs.declared.Event.{Event}
use Rattle.matching.specs.declared.Event.TheVariants.{Accepted, Replaced, Withdrawn}
use Rattle.matching.specs.Matching.{Book, at, open_of, minimum_of, decided_after, who, change, after, partner, happens, book_after, work_after}
use Rattle.matching.specs.Quoted.{Quoted, AllQuoted}
use Rattle.matching.specs.Held.{In, Held, Ready, Enters, Renews}
use Rattle.matching.proofs.Conserved.{takes_low}
use Rattle.matching.proofs.Placing.{place_either}
use Rattle.matching.proofs.Events.{play_minimum}
use Rattle.matching.proofs.Sounds.{minimum_most}
use Rattle.matching.proofs.Steps.{happens_fits}
use Rattle.matching.proofs.Holding.{step_ready, step_held}
use Rattle.matching.proofs.Quoting.{step_quoted, moved_quoted, renewed_quoted, accepted_quoted}
use Rattle.matching.proofs.Requests.{later_held, takes_in, accepted_held, replaced_held, withdrawn_fits, withdrawn_held}
use Rattle.table.specs.declared.record.Marks.{Marks}
use Rattle.table.specs.Places.{table_bytes}
use Rattle.table.specs.Heading.{next_of, work_of, instrument_of, decided_of, mpid_at, entries, entry_of, mode_of, is_listed, put_next, put_work, put_decided}
use Rattle.table.specs.Orders.{order_id_at, order_at, filled, book_of, term_bytes, amount_bytes, record_of, put_id, put_terms, put_amounts, applied, withdrawn, replaced, accepted}
use Rattle.table.specs.Best.{best_due, book_row, put_best, clear_best}
use Rattle.table.specs.Market.{every, is_printable, is_entry, has_list, has_settings, has_work, is_marked, has_decision}
use Rattle.table.specs.Facts.{FreshNumbers, Market, Named}
use Rattle.table.specs.Changes.{played, misses_now, step_events, step_work, numbered, stepped, entered, renewed, taken}
use Rattle.octets.proofs.Searches.{first_holds}
use Rattle.table.proofs.Same.{Same, same_in, same_then, put_below, put_above, next_same, work_same, instrument_same, decided_same}
use Rattle.table.proofs.Instruments.{instrument_below, instrument_above}
use Rattle.table.proofs.Stores.{Terms, Sized, next_got, work_got, decided_got}
use Rattle.table.proofs.Books.{length_book, at_book}
use Rattle.table.proofs.Frames.{Framed, framed_long, framed_filled, framed_instrument, framed_listed, framed_order_ids, framed_self, framed_then, framed_heading, framed_decided, framed_best, Formed, Unnoted, Untopped, quoted_book, topped_market, market_formed, framed_formed}
use Rattle.table.proofs.Applied.{Played, all_played, fits_move, heading_applied, framed_applied, book_applied, framed_terms, book_terms, book_next, book_work, book_decided, book_best, sound_amounts}
use Rattle.table.proofs.Naming.{named_formed, named_heading, named_instrument, named_order_ids, named_book, named_order, named_filled, named_listed}
use Rattle.table.proofs.Entering.{entered_formed, entered_heading, entered_instrument, entered_order_ids, entered_filled, entered_book, entered_listed}
use Rattle.table.proofs.Bests.{length_due, due_idle, due_busy, has_best_put, has_best_same, has_best_busy}
use Rattle.table.proofs.Working.{has_work_kept, has_work_put, has_work_none, undecided, idle_undecided, least_undecided, decided_after_lem}

-- ---- the next number

framed_next : (t : List ℕ) (n : ℕ) → Framed t (put_next t n)
framed_next t n = framed_heading t 28 (bytes_of 4 n) (lit≤ tt) (omega (arith, length_bytes_of 4 n))

work_next : (t : List ℕ) (n : ℕ) → Same (put_next t n) t 32 55
work_next t n = put_above t 28 (bytes_of 4 n) 32 55 (omega (arith, length_bytes_of 4 n))

decided_next : (t : List ℕ) (n : ℕ) → decided_of (put_next t n) ≡ decided_of t
decided_next t n = decided_same (put_above t 28 (bytes_of 4 n) 96 97 (omega (arith, length_bytes_of 4 n)))

-- a table with the frame of a formed one, its work in order and its book held, once its next number is set
module _ (t u : List ℕ) (m : Formed t) (f : Framed t u) (w : has_work u ≡ true) (n : ℕ) (low : 1 ≤ n) (ids : FreshNumbers (order_id_at t) n (filled t))
    (h : Held (is_listed t) n (book_of u) (work_of u)) (quoted : AllQuoted (instrument_of t) (book_of u)) where
  long : length u ≡ table_bytes
  long = framed_long t u m.long f

  pub renumbered : Unnoted (put_next u n)
  renumbered =
      let v : List ℕ = put_next u n in
      let z = long in
      let e : next_of v ≡ n = next_got u n (omega (arith, h.next_high)) (omega arith) in
      let x : work_of v ≡ work_of u = work_same (same_in 32 33 (work_next u n) (lit≤ tt) (lit≤ tt)) in
      let b : book_of v ≡ book_of u = book_next u n z in
      let g : filled v ≡ filled u = framed_filled u v z (framed_next u n) in
      let k : Framed t v = framed_then t u v m.long f (framed_next u n) in
      record {
        formed = framed_formed t v m.long k m;
        work = has_work_kept u v z (work_next u n) (omega arith) w;
        next_low = omega arith;
        order_ids = framed_order_ids t v m.long k n (next_of v) (omega arith) ids;
        held = rw (e, x, b, framed_listed t v m.long k) h;
        quoted = rw (b, framed_instrument t v m.long k) quoted;
      }

  -- with its decision as it was, where nothing is decided
  pub renumbered_idle : decided_of u ≡ 0 → Untopped (put_next u n)
  renumbered_idle d = record { unnoted = renumbered; decision = undecided _ _ _ (decided_next u n ∙ d) }

-- ---- the work ends

framed_work : (t : List ℕ) (w : ℕ) (stamp : List ℕ) → length stamp ≤ 21 → Framed t (put_work t w stamp)
framed_work t w stamp h = framed_heading t 32 (w ∷ text_bytes 21 stamp) (lit≤ tt) (omega (arith, length_text_bytes 21 stamp h))

decided_work : (t : List ℕ) (w : ℕ) (stamp : List ℕ) → length stamp ≤ 21 → decided_of (put_work t w stamp) ≡ decided_of t
decided_work t w stamp h = decided_same (put_above t 32 (w ∷ text_bytes 21 stamp) 96 97 (omega (arith, length_text_bytes 21 stamp h)))

-- ---- the decision is noted

module _ (t : List ℕ) (u : Unnoted t) (d : ℕ) (g : has_decision (book_of t) (work_of t) d ≡ true) where
  pub noted_kept : Untopped (put_decided t d)
  noted_kept =
      let v : List ℕ = put_decided t d in
      let long = u.formed.long in
      let f : Framed t v = framed_decided t d in
      let e : next_of v ≡ next_of t = next_same (put_below t 96 (d ∷ []) 28 32 (lit≤ tt)) in
      let s : Same v t 32 55 = put_below t 96 (d ∷ []) 32 55 (lit≤ tt) in
      let x : work_of v ≡ work_of t = work_same (same_in 32 33 s (lit≤ tt) (lit≤ tt)) in
      let b : book_of v ≡ book_of t = book_decided t d long in
      let n : decided_of v ≡ d = decided_got t d (omega arith) in
      let z : filled v ≡ filled t = framed_filled t v long f in
      record {
        unnoted =
            record {
              formed = framed_formed t v long f u.formed;
              work = has_work_kept t v long s (omega arith) u.work;
              next_low = rw e u.next_low;
              order_ids = framed_order_ids t v long f (next_of t) (next_of v) (omega arith) u.order_ids;
              held = rw (e, x, b, framed_listed t v long f) u.held;
              quoted = rw (b, framed_instrument t v long f) u.quoted;
            };
        decision = rw (b, x, n) g;
      }

-- ---- the best levels are told

module _ (t : List ℕ) (u : Untopped t) where
  told : Market (put t 97 (best_due t))
  told =
      let vs : List ℕ = best_due t in
      let v : List ℕ = put t 97 vs in
      let w = u.unnoted in
      let long = w.formed.long in
      let size = length_due t in
      let f : Framed t v = framed_best t vs (omega arith) in
      let s : Same v t 0 97 = put_below t 97 vs 0 97 (lit≤ tt) in
      let e : next_of v ≡ next_of t = next_same (same_in 28 32 s (lit≤ tt) (lit≤ tt)) in
      let x : work_of v ≡ work_of t = work_same (same_in 32 33 s (lit≤ tt) (lit≤ tt)) in
      let d : decided_of v ≡ decided_of t = decided_same (same_in 96 97 s (lit≤ tt) (lit≤ tt)) in
      let b : book_of v ≡ book_of t = book_best t vs long (omega arith) in
      let z : filled v ≡ filled t = framed_filled t v long f in
      topped_market v
      (record {
        unnoted =
            record {
              formed = framed_formed t v long f w.formed;
              work = has_work_kept t v long (same_in 32 55 s (lit≤ tt) (lit≤ tt)) (omega arith) w.work;
              next_low = rw e w.next_low;
              order_ids = framed_order_ids t v long f (next_of t) (next_of v) (omega arith) w.order_ids;
              held = rw (e, x, b, framed_listed t v long f) w.held;
              quoted = rw (b, framed_instrument t v long f) w.quoted;
            };
        decision = rw (b, x, d) u.decision;
      })
      (has_best_put t long)

  -- those of the book while nothing is in work, and none while an order is
  pub put_best_kept : work_of t ≡ 0 → Market (put_best t)
  put_best_kept e = subst (λ (vs : List ℕ). Market (put t 97 vs)) (due_idle t e) told

  pub clear_best_kept : 1 ≤ work_of t → Market (clear_best t)
  clear_best_kept l = subst (λ (vs : List ℕ). Market (put t 97 vs)) (due_busy t l) told

-- the same, and with another order in work or none
module _ (t u : List ℕ) (m : Formed t) (f : Framed t u) (n : ℕ) (low : 1 ≤ n) (ids : FreshNumbers (order_id_at t) n (filled t))
    (w : ℕ) (stamp : List ℕ) (short : length stamp ≤ 21) (h : Held (is_listed t) n (book_of u) w)
    (quoted : AllQuoted (instrument_of t) (book_of u)) where
  numbered_long : length (put_next u n) ≡ table_bytes
  numbered_long = framed_long t (put_next u n) m.long (framed_then t u (put_next u n) m.long f (framed_next u n))

  pub reworked : has_work (put_work (put_next u n) w stamp) ≡ true → Unnoted (put_work (put_next u n) w stamp)
  reworked work =
      let x : List ℕ = put_next u n in
      let v : List ℕ = put_work x w stamp in
      let z = framed_long t u m.long f in
      let y = numbered_long in
      let s : Same v x 28 32 = put_below x 32 (w ∷ text_bytes 21 stamp) 28 32 (lit≤ tt) in
      let e : next_of v ≡ n = next_same s ∙ next_got u n (omega (arith, h.next_high)) (omega arith) in
      let d : work_of v ≡ w = work_got x w stamp (omega arith) short in
      let b : book_of v ≡ book_of u = book_work x w stamp y short ∙ book_next u n z in
      let k : Framed t v = framed_then t x v m.long (framed_then t u x m.long f (framed_next u n)) (framed_work x w stamp short) in
      record {
        formed = framed_formed t v m.long k m;
        work = work;
        next_low = omega arith;
        order_ids = framed_order_ids t v m.long k n (next_of v) (omega arith) ids;
        held = rw (e, d, b, framed_listed t v m.long k) h;
        quoted = rw (b, framed_instrument t v m.long k) quoted;
      }

  -- with its decision as it was, where nothing is decided
  reworked_idle : has_work (put_work (put_next u n) w stamp) ≡ true → decided_of u ≡ 0 → Untopped (put_work (put_next u n) w stamp)
  reworked_idle work d =
      record { unnoted = reworked work; decision = undecided _ _ _ (decided_work (put_next u n) w stamp short ∙ decided_next u n ∙ d) }

  -- and with no best levels
  pub reworked_cleared : has_work (put_work (put_next u n) w stamp) ≡ true → decided_of u ≡ 0 → 1 ≤ w → Market (clear_best (put_work (put_next u n) w stamp))
  reworked_cleared work d l =
      let z = numbered_long in
      clear_best_kept (put_work (put_next u n) w stamp) (reworked_idle work d) (omega (arith, work_got (put_next u n) w stamp (omega arith) short))

-- ---- one step

-- the order in work stays in work, or nothing does
work_stays : (missed : Bool) (b : Book) (w : ℕ) → (work_after missed b w ≡ 0 → ⊥) → work_after missed b w ≡ w
unfolding work_after
work_stays missed b w n =
    split (missed || eqb (partner b w) 0)
    (λ t. absurd (n (rw t)))
    (λ t. rw t)

-- a market's OrderIDs are below any later number too
later_order_ids : (t : List ℕ) (n : ℕ) → Market t → next_of t ≤ n → FreshNumbers (order_id_at t) n (filled t)
later_order_ids t n m l = framed_order_ids t t m.long (framed_self t) (next_of t) n l m.order_ids

-- what it asks of each order, told of its book
pub market_quoted : (t : List ℕ) → Market t → AllQuoted (instrument_of t) (book_of t)
market_quoted t m = quoted_book t (instrument_of t) m.quoted

-- a step on a market with an order in work leaves a market
pub stepped_kept : (t : List ℕ) → Market t → 1 ≤ work_of t → Market (stepped t)
unfolding stepped step_events step_work numbered
stepped_kept t m l =
    let b : Book = book_of t in
    let w : ℕ = work_of t in
    let d : Bool = misses_now t in
    let es : List Event = happens (mode_of t) d b w in
    let i : In b w = record { low = l; high = m.held.work } in
    let p : Played t es =
    all_played es t m.long (fits_move es b (happens_fits (mode_of t) d b w i)) (step_ready (is_listed t) (mode_of t) d (next_of t) b w i m.held) in
    let u : List ℕ = played t es in
    let e : next_of u ≡ next_of t = next_same (same_in 28 32 p.heading (lit≤ tt) (lit≤ tt)) in
    let y : work_of u ≡ w = work_same (same_in 32 33 p.heading (lit≤ tt) (lit≤ tt)) in
    let c : book_of u ≡ book_after (mode_of t) d b w = p.book in
    let n : ℕ = next_of t + length es in
    let low : 1 ≤ n = omega (arith, m.next_low) in
    let v : ℕ = work_after d b w in
    let h : Held (is_listed t) n (book_of u) v = rw c (step_held (is_listed t) (mode_of t) d (next_of t) b w i m.held) in
    let ids : FreshNumbers (order_id_at t) n (filled t) = later_order_ids t n m (omega arith) in
    let quoted : AllQuoted (instrument_of t) (book_of u) = rw c (step_quoted (instrument_of t) (mode_of t) d b w i (market_quoted t m)) in
    let z : length (put_next u n) ≡ table_bytes = numbered_long t u (market_formed t m) p.framed n low ids v [] (lit≤ tt) h quoted in
    split (eqb v 0)
    (λ x.
    let q : v ≡ 0 = eqb-true v 0 x in
    let r = reworked t u (market_formed t m) p.framed n low ids 0 [] (lit≤ tt) (subst (λ (k : ℕ). Held (is_listed t) n (book_of u) k) q h) quoted (has_work_none (put_next u n) z) in
    let v1 : List ℕ = put_work (put_next u n) 0 [] in
    let y1 : work_of (put_decided v1 0) ≡ 0 = work_same (put_below v1 96 (0 ∷ []) 32 33 (lit≤ tt)) ∙ work_got (put_next u n) 0 [] (omega arith) (lit≤ tt) in
    rw (x, e) (put_best_kept (put_decided v1 0) (noted_kept v1 r 0 (undecided _ _ 0 refl)) y1))
    (λ x.
    let q : v ≡ w = work_stays d b w (eqb-false v 0 x) in
    let g : has_work u ≡ true = has_work_kept t u m.long (same_in 32 55 p.heading (lit≤ tt) (lit≤ tt)) (omega (arith, framed_filled t u m.long p.framed)) m.work in
    let r = renumbered t u (market_formed t m) p.framed g n low ids (subst (λ (k : ℕ). Held (is_listed t) n (book_of u) k) (q ∙ sym y) h) quoted in
    let a : book_of (put_next u n) ≡ book_after (mode_of t) d b w = book_next u n (framed_long t u m.long p.framed) ∙ c in
    let j : work_of (put_next u n) ≡ w = work_same (same_in 32 33 (work_next u n) (lit≤ tt) (lit≤ tt)) ∙ y in
    let o : minimum_of (at (book_after (mode_of t) d b w) w) ≡ minimum_of (at b w) = play_minimum w es b (happens_fits (mode_of t) d b w i) in
    let d1 : ℕ = decided_after b w in
    let y1 : work_of (put_decided (put_next u n) d1) ≡ w = work_same (put_below (put_next u n) 96 (d1 ∷ []) 32 33 (lit≤ tt)) ∙ j in
    let s1 : Same (put_decided (put_next u n) d1) t 97 128 =
    same_then (put_above (put_next u n) 96 (d1 ∷ []) 97 128 (lit≤ tt))
    (same_then (put_above u 28 (bytes_of 4 n) 97 128 (omega (arith, length_bytes_of 4 n))) (same_in 97 128 p.heading (lit≤ tt) (lit≤ tt))) in
    rw (x, e)
    (topped_market (put_decided (put_next u n) d1) (noted_kept (put_next u n) r d1 (rw (a, j) (decided_after_lem b (book_after (mode_of t) d b w) w o)))
    (has_best_busy t (put_decided (put_next u n) d1) s1 l (omega arith) m.best)))

-- ---- a report about no order

-- nothing is decided while nothing is in work
pub idle_decided : (t : List ℕ) → Market t → work_of t ≡ 0 → decided_of t ≡ 0
idle_decided t m e = idle_undecided (book_of t) (decided_of t) (rw e at m.decision)

-- nor of an order that has no minimum
pub minimum_undecided : (t : List ℕ) → Market t → minimum_of (at (book_of t) (work_of t)) ≡ 0 → decided_of t ≡ 0
minimum_undecided t m e = least_undecided (book_of t) (work_of t) (decided_of t) e m.decision

pub numbered_kept : (t : List ℕ) (n : ℕ) → Market t → work_of t ≡ 0 → next_of t + n ≤ 1000000000 → Market (numbered t n)
unfolding numbered
numbered_kept t n m e h =
    let held : Held (is_listed t) (next_of t) (book_of t) 0 = rw e at m.held in
    let later : Held (is_listed t) (next_of t + n) (book_of t) (work_of t) =
    rw e (later_held (is_listed t) (next_of t) (next_of t + n) (book_of t) held (omega arith) h) in
    let v : List ℕ = put_next t (next_of t + n) in
    let s : Same v t 97 128 = put_above t 28 (bytes_of 4 (next_of t + n)) 97 128 (omega (arith, length_bytes_of 4 (next_of t + n))) in
    let w : work_of v ≡ work_of t = work_same (same_in 32 33 (work_next t (next_of t + n)) (lit≤ tt) (lit≤ tt)) in
    topped_market v
    (renumbered_idle t t (market_formed t m) (framed_self t) m.work (next_of t + n) (omega (arith, m.next_low)) (later_order_ids t (next_of t + n) m (omega arith)) later (market_quoted t m) (idle_decided t m e))
    (has_best_same t v s w (book_next t (next_of t + n) m.long) m.best)

-- ---- a replacement's terms are of their widths, whether it keeps its place or takes the one given

pub renewed_terms : (t : List ℕ) (k : ℕ) → Market t → In (book_of t) k → (l q p : ℕ) → Renews (next_of t) (book_of t) k l q p
    → Terms (change (Replaced k l q p) (order_at t k))
unfolding change
renewed_terms t k m i l q p a =
    let there : at (book_of t) k ≡ order_at t k = at_book t k i.low (omega (arith, i.high, length_book t)) in
    let own : (order_at t k).place < next_of t = rw there at (m.held.places_below k i) in
    record {
      level = omega (arith, a.level_high);
      qty = omega (arith, a.qty_high);
      place = place_either (λ x. x < 4294967296) (order_at t k) l q p (omega (arith, a.numbered)) (omega (arith, a.newest, a.numbered));
    }

-- ---- a requested cancel

module _ (t : List ℕ) (k : ℕ) (cl_ord_id : List ℕ) (m : Market t) (e : work_of t ≡ 0) (i : In (book_of t) k) (g : Named t cl_ord_id) where
  high : k ≤ filled t
  high = omega (arith, i.high, length_book t)

  formed : Formed (put_id t k cl_ord_id)
  formed = named_formed t k cl_ord_id (market_formed t m) i.low high g

  heading : Same (put_id t k cl_ord_id) t 0 128
  heading = named_heading t k cl_ord_id (market_formed t m) i.low high g

  book : book_of (put_id t k cl_ord_id) ≡ book_of t
  book = named_book t k cl_ord_id (market_formed t m) i.low high g

  order : order_at (put_id t k cl_ord_id) k ≡ order_at t k
  order = named_order t k cl_ord_id (market_formed t m) i.low high g k

  there : at (book_of t) k ≡ order_at t k
  there = at_book t k i.low high

  filled_there : filled (put_id t k cl_ord_id) ≡ filled t
  filled_there = named_filled t k cl_ord_id (market_formed t m) i.low high g

  held : Held (is_listed t) (next_of t) (book_of t) 0
  held = rw e at m.held

  kind : instrument_of (put_id t k cl_ord_id) ≡ instrument_of t
  kind = named_instrument t k cl_ord_id (market_formed t m) i.low high g

  order_ids : FreshNumbers (order_id_at (put_id t k cl_ord_id)) (next_of t + 1) (filled (put_id t k cl_ord_id))
  order_ids = named_order_ids t k cl_ord_id (market_formed t m) i.low high g (next_of t) (next_of t + 1) (omega arith) m.order_ids

  -- what a market asks of the work, while nothing is in work
  idle : (u : List ℕ) → Same u (put_id t k cl_ord_id) 0 128 → filled u ≡ filled t → has_work u ≡ true
  idle u s z = has_work_kept t u m.long (same_in 32 55 (same_then s heading) (lit≤ tt) (lit≤ tt)) (omega arith) m.work

  pub taken_kept : next_of t ≤ 999998976 → Market (taken t cl_ord_id (Withdrawn k (open_of (at (book_of t) k))))
  unfolding taken withdrawn numbered applied
  taken_kept low =
      let v : Event = Withdrawn k (open_of (at (book_of t) k)) in
      let t1 : List ℕ = put_id t k cl_ord_id in
      let fit = withdrawn_fits (is_listed t) (next_of t) (book_of t) k held i low in
      let r : Ready (book_of t1) v =
      rw book (record { inside = i; sound = held.sound k i; may = record { enough = fit.enough; priced = lit≤ tt } }) in
      let u : List ℕ = applied t1 v in
      let f = framed_applied t1 v formed.long refl r in
      let s = heading_applied t1 v i.low in
      let b : book_of u ≡ after (book_of t) v = book_applied t1 v formed.long refl r ∙ ap (λ (c : Book). after c v) book in
      let n : next_of u ≡ next_of t = next_same (same_in 28 32 (same_then s heading) (lit≤ tt) (lit≤ tt)) in
      let w : work_of u ≡ 0 = work_same (same_in 32 33 (same_then s heading) (lit≤ tt) (lit≤ tt)) ∙ e in
      let z : filled u ≡ filled t = framed_filled t1 u formed.long f ∙ filled_there in
      let h : Held (is_listed t1) (next_of t + 1) (book_of u) (work_of u) =
      rw (b, w, named_listed t k cl_ord_id (market_formed t m) i.low high g) (withdrawn_held (is_listed t) (next_of t) (book_of t) k held i low) in
      let quoted : AllQuoted (instrument_of t1) (book_of u) =
      rw (b, kind) (moved_quoted (instrument_of t) (book_of t) v fit (omega arith) (market_quoted t m)) in
      let x : put_amounts t1 k (change v (order_at t k)) ≡ u = rw order in
      let d : decided_of u ≡ 0 = decided_same (same_in 96 97 (same_then s heading) (lit≤ tt) (lit≤ tt)) ∙ idle_decided t m e in
      let y : work_of (put_next u (next_of t + 1)) ≡ 0 = work_same (same_in 32 33 (work_next u (next_of t + 1)) (lit≤ tt) (lit≤ tt)) ∙ w in
      rw (x, n) (put_best_kept (put_next u (next_of t + 1)) (renumbered_idle t1 u formed f (idle u s z) (next_of t + 1) (omega arith) order_ids h quoted d) y)

  -- ---- a replacement

  pub renewed_kept : (l q p : ℕ) (stamp : List ℕ) → Renews (next_of t) (book_of t) k l q p → l ≤ highest (instrument_of t) → is_time stamp ≡ true
      → Market (renewed t cl_ord_id (Replaced k l q p) stamp)
  unfolding renewed replaced numbered change after
  renewed_kept l q p stamp a top time =
      let v : Event = Replaced k l q p in
      let t1 : List ℕ = put_id t k cl_ord_id in
      let c : Order = change v (order_at t k) in
      let u : List ℕ = put_terms t1 k c in
      let long = formed.long in
      let widths : Terms c = renewed_terms t k m i l q p a in
      let inside : k ≤ filled t1 = omega (arith, filled_there, high) in
      let f = framed_terms t1 k c long i.low inside in
      let s : Same u t1 0 128 = put_below t1 (128 * k + 48) (term_bytes c) 0 128 (omega (arith, i.low)) in
      let b : book_of u ≡ after (book_of t) v = book_terms t1 k c long i.low inside widths ∙ rw (book, order, there) in
      let n : next_of u ≡ next_of t = next_same (same_in 28 32 (same_then s heading) (lit≤ tt) (lit≤ tt)) in
      let h : Held (is_listed t1) (next_of t + 1) (book_of u) k =
      rw (b, named_listed t k cl_ord_id (market_formed t m) i.low high g) (replaced_held (is_listed t) (next_of t) (book_of t) k l q p held a) in
      let quoted : AllQuoted (instrument_of t1) (book_of u) =
      rw (b, kind) (renewed_quoted (instrument_of t) (book_of t) k l q p i top (market_quoted t m)) in
      let x : List ℕ = put_next u (next_of t + 1) in
      let short = time_short stamp time in
      let longer = numbered_long t1 u formed f (next_of t + 1) (omega arith) order_ids k stamp short h quoted in
      let same : filled (put_work x k stamp) ≡ filled t =
      framed_filled x (put_work x k stamp) longer (framed_work x k stamp short)
      ∙ framed_filled u x (framed_long t1 u long f) (framed_next u (next_of t + 1))
      ∙ framed_filled t1 u long f ∙ filled_there in
      let d : decided_of u ≡ 0 = decided_same (same_in 96 97 (same_then s heading) (lit≤ tt) (lit≤ tt)) ∙ idle_decided t m e in
      rw n (reworked_cleared t1 u formed f (next_of t + 1) (omega arith) order_ids k stamp short h quoted (has_work_put x k stamp longer i.low (omega (arith, high)) time) d i.low)

-- ---- a new order

-- a listed MPID is at most 999,999
pub listed_small : (t : List ℕ) (m : ℕ) → has_settings t ≡ true → is_listed t m ≡ true → m ≤ 999999
unfolding has_settings has_list is_listed entry_of is_entry
listed_small t m h l =
    let k : ℕ = entry_of t m in
    let x : k < entries t = ltb-true _ _ l in
    let e : eqb (mpid_at t k) m ≡ true = first_holds (λ j. eqb (mpid_at t j) m) 0 (entries t) (omega arith) in
    let a : all_up_to (is_entry t) (entries t) ≡ true = search (both_l, both_r) in
    let r : is_entry t k ≡ true = all_at (is_entry t) (entries t) a k x in
    let s : mpid_at t k ≤ 999999 = leb-true _ _ (search both_l) in
    omega (arith, eqb-true (mpid_at t k) m e)

-- so an order that may enter is of its widths
enters_sized : (t : List ℕ) (n : ℕ) (o : Order) → Market t → Enters (is_listed t) (next_of t) (book_of t) n o → Sized o
enters_sized t n o m a =
    let s = a.sound in
    record {
      terms = record { level = omega (arith, s.level_high); qty = omega (arith, s.qty_high); place = omega (arith, a.newest, a.numbered) };
      amounts = sound_amounts o s;
      mpid =
          split (eqb o.mpid 0)
          (λ z. omega (arith, eqb-true o.mpid 0 z))
          (λ z. omega (arith, listed_small t o.mpid m.settings (or_r (eqb o.mpid 0) (is_listed t o.mpid) a.owned z)));
      minqty = omega (arith, minimum_most o s, s.qty_high);
    }

-- a new order as record k, with the next number as its OrderID: what stands afterwards, but for the number and the work
module _ (t : List ℕ) (k : ℕ) (cl_ord_id account : List ℕ) (marks : Marks) (o : Order) (m : Market t) (g : Named t cl_ord_id) (few : length account ≤ 10)
    (printable : every is_printable account ≡ true) (marked : is_marked (instrument_of t) marks ≡ true)
    (a : Enters (is_listed t) (next_of t) (book_of t) k o) where
  small_number : next_of t < 256 ^ 4
  small_number = omega (arith, a.numbered)

  pub new_formed : Formed (accepted t k (next_of t) cl_ord_id account marks o)
  new_formed =
      entered_formed t k (next_of t) cl_ord_id account marks o (market_formed t m) a.number a.free g few printable marked m.next_low small_number

  pub new_heading : Same (accepted t k (next_of t) cl_ord_id account marks o) t 0 128
  new_heading =
      entered_heading t k (next_of t) cl_ord_id account marks o (market_formed t m) a.number a.free g few printable marked m.next_low small_number

  pub new_filled : filled (accepted t k (next_of t) cl_ord_id account marks o) ≡ length (after (book_of t) (Accepted k o))
  unfolding after change
  new_filled =
      entered_filled t k (next_of t) cl_ord_id account marks o (market_formed t m) a.number a.free g few printable marked m.next_low small_number

  pub new_book : book_of (accepted t k (next_of t) cl_ord_id account marks o) ≡ after (book_of t) (Accepted k o)
  unfolding after change
  new_book =
      entered_book t k (next_of t) cl_ord_id account marks o (market_formed t m) a.number a.free g few printable marked m.next_low small_number
      (enters_sized t k o m a)

  new_order_ids : FreshNumbers (order_id_at (accepted t k (next_of t) cl_ord_id account marks o)) (next_of t + 1) (filled (accepted t k (next_of t) cl_ord_id account marks o))
  new_order_ids =
      entered_order_ids t k (next_of t) cl_ord_id account marks o (market_formed t m) a.number a.free g few printable marked m.next_low small_number
      m.order_ids

  new_listed : is_listed (accepted t k (next_of t) cl_ord_id account marks o) ≡ is_listed t
  new_listed =
      entered_listed t k (next_of t) cl_ord_id account marks o (market_formed t m) a.number a.free g few printable marked m.next_low small_number

  pub new_instrument : instrument_of (accepted t k (next_of t) cl_ord_id account marks o) ≡ instrument_of t
  new_instrument =
      entered_instrument t k (next_of t) cl_ord_id account marks o (market_formed t m) a.number a.free g few printable marked m.next_low small_number

  -- the record is one of the filled ones
  new_inside : k ≤ filled (accepted t k (next_of t) cl_ord_id account marks o)
  unfolding after change
  new_inside = rw new_filled (takes_in (book_of t) k o a.number).high

  pub entered_kept : (stamp : List ℕ) → Quoted (instrument_of t) o → work_of t ≡ 0 → is_time stamp ≡ true → Market (entered t k cl_ord_id account marks o stamp)
  unfolding entered numbered
  entered_kept stamp within e time =
      let u : List ℕ = accepted t k (next_of t) cl_ord_id account marks o in
      let s = new_heading in
      let n : next_of u ≡ next_of t = next_same (same_in 28 32 s (lit≤ tt) (lit≤ tt)) in
      let held : Held (is_listed t) (next_of t) (book_of t) 0 = rw e at m.held in
      let h : Held (is_listed u) (next_of t + 1) (book_of u) k =
      rw (new_book, new_listed) (accepted_held (is_listed t) (next_of t) (book_of t) k o held a) in
      let quoted : AllQuoted (instrument_of u) (book_of u) =
      rw (new_book, new_instrument) (accepted_quoted (instrument_of t) (book_of t) k o a.number within (market_quoted t m)) in
      let x : List ℕ = put_next u (next_of t + 1) in
      let short = time_short stamp time in
      let longer = numbered_long u u new_formed (framed_self u) (next_of t + 1) (omega arith) new_order_ids k stamp short h quoted in
      let same : filled (put_work x k stamp) ≡ filled u =
      framed_filled x (put_work x k stamp) longer (framed_work x k stamp short)
      ∙ framed_filled u x new_formed.long (framed_next u (next_of t + 1)) in
      let d : decided_of u ≡ 0 = decided_same (same_in 96 97 s (lit≤ tt) (lit≤ tt)) ∙ idle_decided t m e in
      let low = takes_low (book_of t) k a.number in
      let high = new_inside in
      rw n
      (reworked_cleared u u new_formed (framed_self u) (next_of t + 1) (omega arith) new_order_ids k stamp short h quoted
      (has_work_put x k stamp longer low (omega arith) time) d low)

-- ---- what the market trades is the same after each

instrument_next : (t : List ℕ) (n : ℕ) → instrument_of (put_next t n) ≡ instrument_of t
instrument_next t n = instrument_above t 28 (bytes_of 4 n) (omega (arith, length_bytes_of 4 n))

instrument_work : (t : List ℕ) (w : ℕ) (stamp : List ℕ) → length stamp ≤ 21 → instrument_of (put_work t w stamp) ≡ instrument_of t
instrument_work t w stamp h = instrument_above t 32 (w ∷ text_bytes 21 stamp) (omega (arith, length_text_bytes 21 stamp h))

instrument_decided : (t : List ℕ) (d : ℕ) → instrument_of (put_decided t d) ≡ instrument_of t
instrument_decided t d = instrument_below t 96 (d ∷ []) (lit≤ tt)

instrument_best : (t vs : List ℕ) → instrument_of (put t 97 vs) ≡ instrument_of t
instrument_best t vs = instrument_below t 97 vs (lit≤ tt)

pub stepped_instrument : (t : List ℕ) → Market t → 1 ≤ work_of t → instrument_of (stepped t) ≡ instrument_of t
unfolding stepped step_events step_work numbered
stepped_instrument t m l =
    let b : Book = book_of t in
    let w : ℕ = work_of t in
    let d : Bool = misses_now t in
    let es : List Event = happens (mode_of t) d b w in
    let i : In b w = record { low = l; high = m.held.work } in
    let p : Played t es =
    all_played es t m.long (fits_move es b (happens_fits (mode_of t) d b w i)) (step_ready (is_listed t) (mode_of t) d (next_of t) b w i m.held) in
    let u : List ℕ = played t es in
    let n : ℕ = next_of u + length es in
    let x : List ℕ = put_next u n in
    let same : instrument_of x ≡ instrument_of t = instrument_next u n ∙ instrument_same (same_in 55 56 p.heading (lit≤ tt) (lit≤ tt)) in
    split (eqb (work_after d b w) 0)
    (λ z. rw z
    (instrument_best (put_decided (put_work x 0 []) 0) (book_row (put_decided (put_work x 0 []) 0))
    ∙ instrument_decided (put_work x 0 []) 0 ∙ instrument_work x 0 [] (lit≤ tt) ∙ same))
    (λ z. rw z (instrument_decided x (decided_after b w) ∙ same))

pub numbered_instrument : (t : List ℕ) (n : ℕ) → instrument_of (numbered t n) ≡ instrument_of t
unfolding numbered
numbered_instrument t n = instrument_next t (next_of t + n)

pub taken_instrument : (t cl_ord_id : List ℕ) (e : Event) → 1 ≤ who e → instrument_of (taken t cl_ord_id e) ≡ instrument_of t
unfolding taken withdrawn
taken_instrument t cl_ord_id e l =
    let t1 : List ℕ = put_id t (who e) cl_ord_id in
    let u : List ℕ = put_amounts t1 (who e) (change e (order_at t (who e))) in
    instrument_best (numbered u 1) (book_row (numbered u 1)) ∙ numbered_instrument u 1
    ∙ instrument_below t1 (128 * who e + 64) (amount_bytes (change e (order_at t (who e)))) (omega arith)
    ∙ instrument_below t (128 * who e) (text_bytes 32 cl_ord_id) (omega arith)

pub renewed_instrument : (t cl_ord_id : List ℕ) (e : Event) (stamp : List ℕ) → 1 ≤ who e → is_time stamp ≡ true → instrument_of (renewed t cl_ord_id e stamp) ≡ instrument_of t
unfolding renewed replaced
renewed_instrument t cl_ord_id e stamp l time =
    let t1 : List ℕ = put_id t (who e) cl_ord_id in
    let c : Order = change e (order_at t (who e)) in
    let u : List ℕ = put_terms t1 (who e) c in
    instrument_best (put_work (numbered u 1) (who e) stamp) (replicate 31 0)
    ∙ instrument_work (numbered u 1) (who e) stamp (time_short stamp time) ∙ numbered_instrument u 1
    ∙ instrument_below t1 (128 * who e + 48) (term_bytes c) (omega arith)
    ∙ instrument_below t (128 * who e) (text_bytes 32 cl_ord_id) (omega arith)

pub entered_instruments : (t : List ℕ) (k : ℕ) (cl_ord_id account : List ℕ) (marks : Marks) (o : Order) (stamp : List ℕ) → 1 ≤ k → is_time stamp ≡ true
    → instrument_of (entered t k cl_ord_id account marks o stamp) ≡ instrument_of t
unfolding entered accepted
entered_instruments t k cl_ord_id account marks o stamp l time =
    let u : List ℕ = accepted t k (next_of t) cl_ord_id account marks o in
    instrument_best (put_work (numbered u 1) k stamp) (replicate 31 0)
    ∙ instrument_work (numbered u 1) k stamp (time_short stamp time) ∙ numbered_instrument u 1
    ∙ instrument_below t (128 * k) (record_of (next_of t) cl_ord_id account marks o) (omega arith)
