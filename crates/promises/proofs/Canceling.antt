-- How a desk brings it about: each message that is answered with a Canceled of an order of its MPID withdraws that order and nothing else;
-- when none is left on a side, its orders there are out of the way.
use mathlib.Core.Path.{◌≡◌, refl, sym, ap, ◌∙◌}
use mathlib.Core.Bool.{true, false}
use mathlib.Core.List.{List, [], ◌∷◌}
use mathlib.Core.Logic.{◌≢◌}
use Prim.Native.Nat.{ℕ, ◌+◌, ◌*◌, ◌≤◌}
use native.Mathlib.Omega.{arith}
use lib.Dec.{lit≤}
use lib.ListN.{length}
use borrow.Author.Tests.{eq-eqb, lt-ltb}
use Rattle.octets.specs.Octets.{bytes_of, text_bytes}
use Rattle.octets.proofs.Bools.{not_both}
use Rattle.octets.proofs.Places.{length_bytes_of}
use Rattle.octets.proofs.Parts.{length_text_bytes}
use Rattle.decimal.specs.declared.Instrument.{Instrument}
use Rattle.request.specs.declared.NewOrder.{NewOrder}
use Rattle.request.specs.declared.Replacement.{Replacement}
use Rattle.request.specs.declared.Cancellation.{Cancellation}
use Rattle.request.specs.declared.Asked.{Asked}
use Rattle.request.specs.declared.Asked.TheVariants as asked
use Rattle.matching.specs.declared.Order.{Order}
use Rattle.matching.specs.declared.Event.TheVariants.{Withdrawn}
use Rattle.matching.specs.Matching.{Book, at, open_of, change, after}
use Rattle.matching.specs.Held.{In}
use Rattle.matching.specs.Happens.{Fit}
use Rattle.matching.specs.Depth.{stands}
use Rattle.matching.specs.OutOfTheWay.{is_of}
use Rattle.matching.proofs.Books.{open_in}
use Rattle.matching.proofs.Events.{after_same, length_after}
use Rattle.matching.proofs.InTurn.{stands_open}
use Rattle.matching.proofs.Withdrawing.{Withdrew, withdrew_none, withdrew_more, withdrew_out}
use Rattle.table.specs.Heading.{next_of, instrument_of, mode_of}
use Rattle.table.specs.Orders.{cl_ord_id_at, order_at, book_of, put_id, amount_bytes, withdrawn}
use Rattle.table.specs.Market.{is_market_of}
use Rattle.table.specs.Facts.{Market}
use Rattle.table.specs.Best.{book_row}
use Rattle.table.specs.Changes.{numbered, taken}
use Rattle.table.proofs.Same.{Same, same_then, put_below, put_above, mode_of_same}
use Rattle.table.proofs.Stores.{length_amounts}
use Rattle.table.proofs.Books.{length_book, at_book}
use Rattle.table.proofs.Facts.{market_facts}
use Rattle.table.proofs.Instruments.{of_market, market_instrument}
use Rattle.report.specs.declared.Kind.{Kind}
use Rattle.report.specs.declared.Kind.TheVariants.{Accepted, Replaced, Canceled}
use Rattle.report.specs.Reports.{read_of}
use Rattle.std.specs.Prelude.{Result, Ok, Err}
use Rattle.calls.specs.declared.OrderReason.{OrderReason}
use Rattle.calls.specs.declared.ChangeReason.{ChangeReason}
use Rattle.calls.specs.Checks.{text_of, holder, new_stands, replace_stands, cancel_stands}
use Rattle.calls.specs.Submit.{faulted, new_rejected, change_rejected, new_taken, replacement_taken, cancel_taken, entering, replacing, canceling, handled, submitted}
use Rattle.intake.specs.Intake.{Asking}
use Rattle.intake.proofs.Standing.{cancel_in, cancel_at, cancel_named}
use Rattle.intake.proofs.Theorems.{submit_keeps}
use Rattle.intake.proofs.Keeping.{Comes, no_room, no_market, in_work, spent, heard, comes}
use Rattle.promises.specs.History.{Call, Submit, Run, Load, Depth, Top, Read, table_after}
use Rattle.promises.specs.OwnOrders.{Cancels, AllCancel, StandsClear}
use Rattle.promises.proofs.Leads.{is_silent}
use Rattle.promises.proofs.Requested.{book_told, long_withdrawn, book_withdrawn}
use Rattle.promises.proofs.Submitting.{Silent}
use Rattle.promises.proofs.Telling.{all_told}
use Rattle.promises.proofs.Fills.{SameId, behind_id, other_id, numbered_id, told_id, id_kept}

-- ---- one message

-- what its Submit leaves of table t: u
pub record CanceledAs (t u : List ℕ) (mpid : ℕ) : Type 0 where
  pub number : ℕ
  pub inside : In (book_of t) number
  pub owner : (at (book_of t) number).mpid ≡ mpid
  pub book : book_of u ≡ after (book_of t) (Withdrawn number (open_of (at (book_of t) number)))
  pub modes : (m : ℕ) → mode_of u m ≡ mode_of t m
  pub ids : (i : ℕ) → 1 ≤ i → i ≢ number → SameId u t i

silent_not : (k : Kind) → is_silent k ≡ true → k ≡ Canceled → ⊥
silent_not k h e = not_both (sym (ap is_silent e) ∙ h) refl

accepted_not : (k : Kind) → k ≡ Accepted → k ≡ Canceled → ⊥
accepted_not k h e = let z : ◌≡◌ {A = ℕ} 0 1 = cc in omega arith

replaced_not : (k : Kind) → k ≡ Replaced → k ≡ Canceled → ⊥
replaced_not k h e = let z : ◌≡◌ {A = ℕ} 0 1 = cc in omega arith

module _ (q : Instrument) (t message : List ℕ) (mpid : ℕ) where
  -- a report of what is rejected is none
  silent_none : (rs : List (List ℕ)) → Silent q rs → Cancels q mpid rs → ⊥
  silent_none [] s c = c
  silent_none (r ∷ rs) s c = silent_not (read_of q r).kind s c.0

  withdrawn_ids : (k : ℕ) (id : List ℕ) (x : ℕ) → length id ≤ 32 → (i : ℕ) → 1 ≤ i → i ≢ k → SameId (taken t id (Withdrawn k x)) t i
  unfolding taken withdrawn
  withdrawn_ids k id x short i l d =
      let o : Order = change (Withdrawn k x) (order_at t k) in
      let u : List ℕ = withdrawn t id (Withdrawn k x) in
      same_then (told_id (numbered u 1) i l)
      (same_then (numbered_id u i l 1)
      (same_then (behind_id (put_id t k id) i k 64 (amount_bytes o) (lit≤ tt) (omega (arith, length_amounts o)))
      (other_id t i k (text_bytes 32 id) d (omega (arith, length_text_bytes 32 id short)))))

  withdrawn_modes : (k : ℕ) (id : List ℕ) (x : ℕ) → 1 ≤ k → Same (taken t id (Withdrawn k x)) t 56 96
  unfolding taken withdrawn numbered
  withdrawn_modes k id x l =
      let o : Order = change (Withdrawn k x) (order_at t k) in
      let u : List ℕ = withdrawn t id (Withdrawn k x) in
      same_then (put_below (numbered u 1) 97 (book_row (numbered u 1)) 56 96 (lit≤ tt))
      (same_then (put_above u 28 (bytes_of 4 (next_of u + 1)) 56 96 (omega (arith, length_bytes_of 4 (next_of u + 1))))
      (same_then (put_below (put_id t k id) (128 * k + 64) (amount_bytes o) 56 96 (omega arith))
      (put_below t (128 * k) (text_bytes 32 id) 56 96 (omega arith))))

  owned : (k : ℕ) (id : List ℕ) (x : ℕ) → In (book_of t) k → x ≡ open_of (at (book_of t) k) → book_of (withdrawn t id (Withdrawn k x)) ≡ after (book_of t) (Withdrawn k x)
      → (order_at (withdrawn t id (Withdrawn k x)) k).mpid ≡ (at (book_of t) k).mpid
  unfolding change
  owned k id x h z b =
      let u : List ℕ = withdrawn t id (Withdrawn k x) in
      let f : Fit (book_of t) (Withdrawn k x) = record { moving = refl; inside = h; enough = omega arith; whole = λ l. z } in
      let size = ap length b ∙ length_after (book_of t) (Withdrawn k x) f in
      let e : order_at u k ≡ change (Withdrawn k x) (at (book_of t) k) =
      sym (at_book u k h.low (omega (arith, h.high, length_book u))) ∙ ap (λ (c : Book). at c k) b ∙ after_same (book_of t) (Withdrawn k x) f in
      ap (λ (o : Order). o.mpid) e

  cancel_canceled : (o : Cancellation) (s : Result (Unit {0}) ChangeReason) → cancel_stands t message o ≡ s → Asking t message (asked.Cancels o) → instrument_of t ≡ q
      → Cancels q mpid (canceling t message o s).reports → CanceledAs t (canceling t message o s).table mpid
  unfolding cancel_taken taken
  cancel_canceled o (Err n) e a i c = absurd (silent_none (change_rejected t message o.time o.id o.original (holder t (text_of message o.original)) n 1).reports ((all_told q).cancel_fails t message o n a i e) c)
  cancel_canceled o (Ok stands) e a i c =
      let k : ℕ = holder t (text_of message o.original) in
      let id = text_of message o.id in
      let h = cancel_in t message o a k refl e in
      let g = cancel_named t message o a k refl e in
      let z : open_of (order_at t k) ≡ open_of (at (book_of t) k) = ap open_of (sym (cancel_at t message o a k refl e)) in
      let b = book_withdrawn t k id a.market h g (open_of (order_at t k)) z in
      let long = long_withdrawn t k id a.market h g (open_of (order_at t k)) z in
      let tells = (all_told q).cancel t message o a i e in
      record {
        number = k;
        inside = h;
        owner = sym (owned k id (open_of (order_at t k)) h z b) ∙ sym tells.mpid ∙ c.1;
        book = book_told (withdrawn t id (Withdrawn k (open_of (order_at t k)))) 1 long ∙ b ∙ ap (λ (x : ℕ). after (book_of t) (Withdrawn k x)) z;
        modes = mode_of_same (withdrawn_modes k id (open_of (order_at t k)) h.low);
        ids = withdrawn_ids k id (open_of (order_at t k)) g.short;
      }

  new_canceled : (o : NewOrder) (s : Result (Unit {0}) OrderReason) → new_stands t message o ≡ s → Asking t message (asked.Enters o) → instrument_of t ≡ q → Cancels q mpid (entering t message o s).reports → ⊥
  unfolding new_taken
  new_canceled o (Err n) e a i c = silent_none (new_rejected t message o n).reports ((all_told q).new_fails t message o n a i e) c
  new_canceled o (Ok stands) e a i c = accepted_not _ ((all_told q).new t message o a i e).kind c.0

  replace_canceled : (o : Replacement) (s : Result (Unit {0}) ChangeReason) → replace_stands t message o ≡ s → Asking t message (asked.Replaces o) → instrument_of t ≡ q
      → Cancels q mpid (replacing t message o s).reports → ⊥
  unfolding replacement_taken
  replace_canceled o (Err n) e a i c = silent_none (change_rejected t message o.time o.id o.original (holder t (text_of message o.original)) n 2).reports ((all_told q).replace_fails t message o n a i e) c
  replace_canceled o (Ok stands) e a i c = replaced_not _ ((all_told q).replace t message o a i e).kind c.0

  handled_canceled : (x : Asked) → Asking t message x → instrument_of t ≡ q → Cancels q mpid (handled t message x).reports → CanceledAs t (handled t message x).table mpid
  handled_canceled asked.Garbled a i c = absurd c
  handled_canceled (asked.Refused r) a i c = absurd (silent_none (faulted t message r).reports ((all_told q).fault t message r a i) c)
  handled_canceled (asked.Enters o) a i c = absurd (new_canceled o (new_stands t message o) refl a i c)
  handled_canceled (asked.Replaces o) a i c = absurd (replace_canceled o (replace_stands t message o) refl a i c)
  handled_canceled (asked.Cancels o) a i c = cancel_canceled o (cancel_stands t message o) refl a i c

  pub submit_canceled : (room : ℕ) → Cancels q mpid (submitted q t message room).reports → CanceledAs t (submitted q t message room).table mpid
  submit_canceled room c = by (comes q t message room)
    where
      by : Comes q t message room → CanceledAs t (submitted q t message room).table mpid
      by (no_room a e) = absurd (rw e at c)
      by (no_market a n e) = absurd (rw e at c)
      by (in_work a n w e) = absurd (rw e at c)
      by (spent a n w h e) = absurd (rw e at c)
      by (heard a n x e) = rw e (handled_canceled _ x (market_instrument q t n) (rw e at c))

-- ---- message by message, the orders of an MPID are withdrawn
own_is : (mpid : ℕ) (o : Order) → 1 ≤ mpid → o.mpid ≡ mpid → is_of mpid o ≡ true
unfolding is_of
own_is mpid o l e = rw (lt-ltb 0 mpid l, e, eq-eqb mpid mpid refl)

module _ (side mpid : ℕ) (name : ℕ → List ℕ) (b : Book) (some : 1 ≤ mpid) where
  canceled_more : (t u : List ℕ) → Market t → CanceledAs t u mpid → Withdrew side mpid name b (cl_ord_id_at t) (book_of t) → Withdrew side mpid name b (cl_ord_id_at u) (book_of u)
  canceled_more t u m x h =
      rw x.book
      (withdrew_more side mpid name b (cl_ord_id_at t) (book_of t) x.number (cl_ord_id_at u) x.inside (own_is mpid (at (book_of t) x.number) some x.owner)
      (λ k e d.
      let i = open_in (book_of t) k (stands_open side (at (book_of t) k) e) in
      id_kept t u m k i (x.ids k i.low d))
      h)

  -- all of them
  pub record Removed (t u : List ℕ) : Type 0 where
    pub withdrew : Withdrew side mpid name b (cl_ord_id_at u) (book_of u)
    pub modes : (m : ℕ) → mode_of u m ≡ mode_of t m

  pub all_removed : (q : Instrument) (cs : List Call) (t : List ℕ) → is_market_of q t ≡ true → AllCancel q mpid t cs
      → Withdrew side mpid name b (cl_ord_id_at t) (book_of t) → Removed t (table_after q t cs)
  unfolding table_after
  all_removed q [] t m c h = record { withdrew = h; modes = λ n. refl }
  all_removed q (Submit message room ∷ cs) t m c h =
      let u : List ℕ = (submitted q t message room).table in
      let x = submit_canceled q t message mpid room c.0 in
      let g = all_removed q cs u (submit_keeps q t message room m) c.1 (canceled_more t u (market_facts t (of_market q t m)) x h) in
      record { withdrew = g.withdrew; modes = λ n. g.modes n ∙ x.modes n }
  all_removed q (Run room budget ∷ cs) t m c h = absurd c
  all_removed q (Load buffer room ∷ cs) t m c h = absurd c
  all_removed q (Depth s k ∷ cs) t m c h = absurd c
  all_removed q (Top s ∷ cs) t m c h = absurd c
  all_removed q (Read report ∷ cs) t m c h = absurd c

-- so when none of them is left on a side, they are out of the way there
pub canceled_clear : (q : Instrument) (side mpid : ℕ) (cs : List Call) (t : List ℕ) → is_market_of q t ≡ true → 1 ≤ mpid → AllCancel q mpid t cs
    → ((k : ℕ) → stands side (at (book_of (table_after q t cs)) k) ≡ true → is_of mpid (at (book_of (table_after q t cs)) k) ≡ false)
    → StandsClear side mpid t (table_after q t cs)
canceled_clear q side mpid cs t m some c clear =
    let g = all_removed side mpid (cl_ord_id_at t) (book_of t) some q cs t m c (withdrew_none side mpid (cl_ord_id_at t) (book_of t)) in
    withdrew_out side mpid (cl_ord_id_at t) (book_of t) (cl_ord_id_at (table_after q t cs)) (book_of (table_after q t cs)) g.withdrew clear

pub canceled_modes : (q : Instrument) (mpid : ℕ) (cs : List Call) (t : List ℕ) → is_market_of q t ≡ true → 1 ≤ mpid → AllCancel q mpid t cs
    → (m : ℕ) → mode_of (table_after q t cs) m ≡ mode_of t m
canceled_modes q mpid cs t m some c =
    (all_removed 1 mpid (cl_ord_id_at t) (book_of t) some q cs t m c (withdrew_none 1 mpid (cl_ord_id_at t) (book_of t))).modes
