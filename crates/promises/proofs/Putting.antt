-- What Submit puts in work, where nothing was in work before: an order with something open, not decided yet.
use mathlib.Core.Path.{◌≡◌, refl, ◌∙◌}
use mathlib.Core.List.{List, ◌∷◌}
use Prim.Native.Nat.{ℕ, ◌+◌, ◌*◌, ◌≤◌, ◌<◌}
use native.Mathlib.Omega.{arith}
use lib.Dec.{lit≤}
use lib.ListN.{length, replicate}
use Rattle.octets.specs.Octets.{bytes_of, text_bytes}
use Rattle.octets.proofs.Places.{length_bytes_of}
use Rattle.octets.proofs.Parts.{length_text_bytes}
use Rattle.decimal.specs.declared.Instrument.{Instrument}
use Rattle.decimal.proofs.Times.{time_short}
use Rattle.request.specs.declared.NewOrder.{NewOrder}
use Rattle.request.specs.declared.Replacement.{Replacement}
use Rattle.request.specs.declared.Cancellation.{Cancellation}
use Rattle.request.specs.declared.Asked.{Asked}
use Rattle.request.specs.declared.Asked.TheVariants.{Garbled, Refused, Enters, Replaces, Cancels}
use Rattle.matching.specs.declared.Order.{Order}
use Rattle.matching.specs.declared.Event.TheVariants.{Accepted, Replaced}
use Rattle.matching.specs.Matching.{at, open_of, change, after}
use Rattle.matching.proofs.Events.{after_here}
use Rattle.matching.proofs.Conserved.{takes_low, takes_high}
use Rattle.matching.proofs.Requests.{renews_renewed}
use Rattle.table.specs.Places.{table_bytes}
use Rattle.table.specs.Heading.{next_of, work_of, decided_of, is_listed, put_work}
use Rattle.table.specs.Orders.{order_at, book_of, record_for, put_id, put_terms, term_bytes, withdrawn, replaced}
use Rattle.table.specs.Best.{book_row, put_best, clear_best}
use Rattle.table.specs.Changes.{numbered, entered, renewed, taken}
use Rattle.table.proofs.Same.{Same, same_in, put_below, put_above, work_same, decided_same}
use Rattle.table.proofs.Stores.{work_got}
use Rattle.table.proofs.Kept.{idle_decided, new_heading}
use Rattle.std.specs.Prelude.{Result, Ok, Err}
use Rattle.calls.specs.declared.OrderReason.{OrderReason}
use Rattle.calls.specs.declared.ChangeReason.{ChangeReason}
use Rattle.calls.specs.Checks.{text_of, holder, new_stands, cancel_stands, replace_stands}
use Rattle.calls.specs.Submit.{rejecting, faulted, new_order_of, new_rejected, change_rejected, new_taken, replacement_taken, cancel_taken, entering, replacing, canceling, handled, submitted}
use Rattle.intake.specs.Intake.{Asking}
use Rattle.intake.proofs.Standing.{new_named, new_account, new_account_short, new_marked, new_enters, new_time, cancel_in, replace_in, replace_named, replace_renews, replace_time}
use Rattle.intake.proofs.Keeping.{Comes, no_room, no_market, in_work, spent, heard, comes}
use Rattle.promises.proofs.Requested.{long_numbered, book_working, long_accepted, book_accepted, long_replaced, book_replaced}

-- nothing is in work, or an order with something open that is not decided
pub data Put (u : List ℕ) : Type 0 where
  nothing : work_of u ≡ 0 → Put u
  undecided : 0 < open_of (at (book_of u) (work_of u)) → decided_of u ≡ 0 → Put u

-- ---- the heading
work_numbered : (t : List ℕ) (n : ℕ) → work_of (numbered t n) ≡ work_of t
unfolding numbered
work_numbered t n = work_same (put_above t 28 (bytes_of 4 (next_of t + n)) 32 33 (omega (arith, length_bytes_of 4 (next_of t + n))))

work_told : (t : List ℕ) (n : ℕ) → work_of (put_best (numbered t n)) ≡ work_of t
work_told t n = work_same (put_below (numbered t n) 97 (book_row (numbered t n)) 32 33 (lit≤ tt)) ∙ work_numbered t n

decided_numbered : (t : List ℕ) (n : ℕ) → decided_of (numbered t n) ≡ decided_of t
unfolding numbered
decided_numbered t n = decided_same (put_above t 28 (bytes_of 4 (next_of t + n)) 96 97 (omega (arith, length_bytes_of 4 (next_of t + n))))

-- an order is in work, and there are no best levels
cleared_below : (t : List ℕ) → Same (clear_best t) t 0 97
cleared_below t = put_below t 97 (replicate 31 0) 0 97 (lit≤ tt)

pub decided_working : (t : List ℕ) (n w : ℕ) (stamp : List ℕ) → length stamp ≤ 21 → decided_of (clear_best (put_work (numbered t n) w stamp)) ≡ decided_of t
decided_working t n w stamp h =
    decided_same (same_in 96 97 (cleared_below (put_work (numbered t n) w stamp)) (lit≤ tt) (lit≤ tt))
    ∙ decided_same (put_above (numbered t n) 32 (w ∷ text_bytes 21 stamp) 96 97 (omega (arith, length_text_bytes 21 stamp h))) ∙ decided_numbered t n

pub work_working : (t : List ℕ) (n w : ℕ) (stamp : List ℕ) → length t ≡ table_bytes → length stamp ≤ 21
    → work_of (clear_best (put_work (numbered t n) w stamp)) ≡ w
work_working t n w stamp long h =
    work_same (same_in 32 33 (cleared_below (put_work (numbered t n) w stamp)) (lit≤ tt) (lit≤ tt))
    ∙ work_got (numbered t n) w stamp (omega (arith, long_numbered t n long)) h

-- an order o, number w of the book of u, is put in work
put_working : (t u : List ℕ) (w : ℕ) (stamp : List ℕ) (o : Order) → decided_of t ≡ 0 → Same u t 0 128 → length u ≡ table_bytes → length stamp ≤ 21
    → at (book_of u) w ≡ o → 0 < open_of o → Put (clear_best (put_work (numbered u 1) w stamp))
put_working t u w stamp o d s long h e p =
    let x = work_working u 1 w stamp long h in
    let b : book_of (clear_best (put_work (numbered u 1) w stamp)) ≡ book_of u = book_working u 1 w stamp long h in
    undecided (rw (b, x, e) p) (decided_working u 1 w stamp h ∙ decided_same (same_in 96 97 s (lit≤ tt) (lit≤ tt)) ∙ d)

-- ---- each request
module _ (t message : List ℕ) where
  rejected_put : {x : Asked} → Asking t message x → Put (numbered t 1)
  rejected_put a = nothing (work_numbered t 1 ∙ a.idle)

  new_put : (o : NewOrder) (s : Result (Unit {0}) OrderReason) → new_stands t message o ≡ s → Asking t message (Enters o) → Put (entering t message o s).table
  unfolding new_taken new_rejected rejecting entered open_of change
  new_put o (Err n) e a = rejected_put a
  new_put o (Ok stands) e a =
      let few = new_account_short t message o a in
      let printable = new_account t message o a in
      let marked = new_marked t message o a in
      let g = new_named t message o a e in
      let n = new_enters t message o a e in
      let k : ℕ = record_for t in
      let long = long_accepted t k _ _ _ _ a.market g few printable marked n in
      let b = book_accepted t k _ _ _ _ a.market g few printable marked n in
      let x : Order = new_order_of t message o in
      let low = takes_low (book_of t) k n.number in
      let high = takes_high (book_of t) k n.number in
      let h : at (after (book_of t) (Accepted k x)) k ≡ x = after_here (book_of t) (Accepted k x) low high in
      put_working t _ k (text_of message o.time) x (idle_decided t a.market a.idle) (new_heading t k _ _ _ _ a.market g few printable marked n) long
      (time_short (text_of message o.time) (new_time t message o a)) (rw b h) (omega (arith, n.sound.qty_low))

  replace_put : (o : Replacement) (s : Result (Unit {0}) ChangeReason) → replace_stands t message o ≡ s → Asking t message (Replaces o) → Put (replacing t message o s).table
  unfolding replacement_taken change_rejected rejecting renewed replaced open_of change
  replace_put o (Err n) e a = rejected_put a
  replace_put o (Ok stands) e a =
      let k : ℕ = holder t (text_of message o.original) in
      let i = replace_in t message o a k refl e in
      let g = replace_named t message o a k refl e in
      let n = replace_renews t message o a k refl e in
      let held = rw a.idle at a.market.held in
      let r = renews_renewed (is_listed t) (next_of t) (book_of t) k _ _ _ held n in
      let v = Replaced k o.level o.quantity (next_of t) in
      let long = long_replaced t k _ a.market i g _ _ _ n in
      let b = book_replaced t k _ a.market i g _ _ _ n in
      let h = after_here (book_of t) v i.low (omega (arith, i.high)) in
      let id = text_of message o.id in
      let s : Same (put_terms (put_id t k id) k (change v (order_at t k))) t 0 128 =
      same_two (put_terms (put_id t k id) k (change v (order_at t k))) (put_id t k id) t
      (put_below (put_id t k id) (128 * k + 48) (term_bytes (change v (order_at t k))) 0 128 (omega (arith, i.low)))
      (put_below t (128 * k) (text_bytes 32 id) 0 128 (omega (arith, i.low))) in
      put_working t _ k (text_of message o.time) (change v (at (book_of t) k)) (idle_decided t a.market a.idle) s long
      (time_short (text_of message o.time) (replace_time t message o a k refl e)) (rw b h) (omega (arith, r.above, r.uncanceled))
    where
      same_two : (u v t : List ℕ) → Same u v 0 128 → Same v t 0 128 → Same u t 0 128
      same_two u v t p q = record { size = p.size ∙ q.size; byte = λ k l h. p.byte k l h ∙ q.byte k l h }

  cancel_put : (o : Cancellation) (s : Result (Unit {0}) ChangeReason) → cancel_stands t message o ≡ s → Asking t message (Cancels o) → Put (canceling t message o s).table
  unfolding cancel_taken change_rejected rejecting taken withdrawn
  cancel_put o (Err n) e a = rejected_put a
  cancel_put o (Ok stands) e a =
      let i = cancel_in t message o a (holder t (text_of message o.original)) refl e in
      nothing
      (work_told _ 1 ∙ work_same (put_below _ _ _ 32 33 (omega (arith, i.low))) ∙ work_same (put_below t _ _ 32 33 (omega (arith, i.low))) ∙ a.idle)

  handled_put : (x : Asked) → Asking t message x → Put (handled t message x).table
  unfolding faulted rejecting
  handled_put Garbled a = nothing a.idle
  handled_put (Refused r) a = rejected_put a
  handled_put (Enters o) a = new_put o (new_stands t message o) refl a
  handled_put (Replaces o) a = replace_put o (replace_stands t message o) refl a
  handled_put (Cancels o) a = cancel_put o (cancel_stands t message o) refl a

  pub submitted_put : (q : Instrument) (room : ℕ) → work_of t ≡ 0 → Put (submitted q t message room).table
  submitted_put q room z = by (comes q t message room)
    where
      by : Comes q t message room → Put (submitted q t message room).table
      by (no_room a e) = rw e (nothing z)
      by (no_market a n e) = rw e (nothing z)
      by (in_work a n w e) = absurd (omega arith)
      by (spent a n w h e) = rw e (nothing z)
      by (heard a n x e) = rw e (handled_put _ x)
