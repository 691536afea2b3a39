-- A replacement that is taken puts its order in work too, and leaves the side that it is matched with as it is; so own orders cost it no fills,
-- told by its reports from the Replaced on.
use mathlib.Core.Path.{◌≡◌, refl, sym, ap, ◌∙◌}
use mathlib.Core.Bool.{Bool, true, false, cond}
use mathlib.Core.List.{List, [], ◌∷◌, ◌++◌, map}
use mathlib.Core.Logic.{◌≢◌}
use Prim.Native.Nat.{ℕ, suc, ◌+◌, ◌*◌, ◌≤◌, ◌<◌}
use native.Mathlib.Omega.{arith}
use lib.Dec.{eqb, lit≤}
use lib.ListN.{length}
use borrow.Author.Tests.{eq-eqb}
use Rattle.octets.specs.Octets.{text_bytes}
use Rattle.octets.proofs.Bools.{split, not_both}
use Rattle.octets.proofs.Parts.{length_text_bytes}
use Rattle.decimal.specs.declared.Instrument.{Instrument}
use Rattle.decimal.proofs.Times.{time_short}
use Rattle.request.specs.declared.Replacement.{Replacement}
use Rattle.request.specs.declared.Asked.TheVariants.{Replaces}
use Rattle.matching.specs.declared.Order.{Order}
use Rattle.matching.specs.declared.Event.TheVariants.{Replaced}
use Rattle.matching.specs.Matching.{at, open_of, minimum_of, buys, change, after}
use Rattle.matching.specs.Held.{In}
use Rattle.matching.specs.Depth.{stands}
use Rattle.matching.proofs.Books.{length_put, open_in}
use Rattle.matching.proofs.Events.{after_here}
use Rattle.matching.proofs.Requests.{renews_renewed}
use Rattle.matching.proofs.InTurn.{stands_side, stands_open}
use Rattle.matching.proofs.Withdrawing.{event_still}
use Rattle.table.specs.Heading.{next_of, work_of, instrument_of, decided_of, mode_of, is_listed}
use Rattle.table.specs.Orders.{cl_ord_id_at, order_id_at, order_at, book_of, put_id, term_bytes, replaced}
use Rattle.table.specs.Market.{is_market_of}
use Rattle.table.specs.Changes.{renewed}
use Rattle.table.proofs.Same.{Same, same_in, same_then, put_below, mode_of_same, decided_same}
use Rattle.table.proofs.Stores.{length_terms}
use Rattle.table.proofs.OrderIds.{replaced_order_id}
use Rattle.table.proofs.Kept.{idle_decided}
use Rattle.table.proofs.Facts.{market_facts}
use Rattle.table.proofs.Instruments.{of_market, market_instrument}
use Rattle.report.specs.declared.Kind.{Kind}
use Rattle.report.specs.declared.Kind.TheVariants as kind
use Rattle.report.specs.declared.Reading.{Reading}
use Rattle.report.specs.Reports.{read_of}
use Rattle.readback.specs.Says.{says}
use Rattle.std.specs.Prelude.{Result, Ok, Err}
use Rattle.calls.specs.declared.ChangeReason.{ChangeReason}
use Rattle.calls.specs.Checks.{text_of, holder, replace_stands}
use Rattle.calls.specs.Submit.{change_rejected, rejecting, replacement_taken, replacing, handled, submitted, submit_number}
use Rattle.intake.specs.Intake.{Asking}
use Rattle.intake.proofs.Standing.{replace_in, replace_named, replace_renews, replace_time}
use Rattle.intake.proofs.Theorems.{submit_keeps}
use Rattle.intake.proofs.Keeping.{Comes, no_room, no_market, in_work, spent, heard, comes}
use Rattle.promises.specs.History.{Call, Submit, table_after, reports_after, no_submit}
use Rattle.promises.specs.Tallies.{Account, blank, after_report, noted, account_from}
use Rattle.promises.specs.OwnOrders.{fills_in, is_resting, SameFills, other_side, StandsClear, RenewedAs, replaced_on, Alike}
use Rattle.promises.proofs.Tells.{account_in}
use Rattle.promises.proofs.Requested.{book_working, ids_working, long_replaced, book_replaced}
use Rattle.promises.proofs.Putting.{decided_working, work_working}
use Rattle.promises.proofs.Telling.{all_told}
use Rattle.promises.proofs.Standing.{account_here}
use Rattle.promises.proofs.Fills.{SameId, behind_id, other_id, id_kept, Fillings}
use Rattle.promises.proofs.Filled.{after_fills}
use Rattle.promises.proofs.Alike.{PutAs, TalliedAs, same_told}
use Rattle.promises.proofs.OwnOrders.{working_modes, working_ids}

-- ---- accounts that begin with a Replaced

-- what is left and what was canceled are the same, if they were before
pub record Level (a c : Account) : Type 0 where
  pub left : a.left ≡ c.left
  pub cancels : a.cancels ≡ c.cancels

report_level : (k : Kind) (r : Reading) (a c : Account) → Level a c → Level (after_report k r a) (after_report k r c)
report_level kind.Accepted r a c h = record { left = refl; cancels = h.cancels }
report_level kind.Replaced r a c h =
    split (eqb (says 378 r) 100) (λ e. rw e (record { left = refl; cancels = h.cancels })) (λ e. rw e (record { left = refl; cancels = h.cancels }))
report_level kind.Canceled r a c h = record { left = refl; cancels = omega (arith, h.left, h.cancels) }
report_level kind.Trade r a c h = record { left = refl; cancels = h.cancels }
report_level kind.Rejected r a c h = h
report_level kind.CancelReject r a c h = h
report_level kind.SessionReject r a c h = h
report_level kind.Refused r a c h = h

noted_level : (n : ℕ) (r : Reading) (a c : Account) → Level a c → Level (noted n a r) (noted n c r)
unfolding noted
noted_level n r a c h = split (eqb (says 37 r) n) (λ e. rw e (report_level r.kind r a c h)) (λ e. rw e h)

from_level : (n : ℕ) (rs : List Reading) (a c : Account) → Level a c → Level (account_from n a rs) (account_from n c rs)
unfolding account_from
from_level n [] a c h = h
from_level n (r ∷ rs) a c h = from_level n rs (noted n a r) (noted n c r) (noted_level n r a c h)

-- a requested Replaced makes what is left the same
replaced_level : (n : ℕ) (r : Reading) (a c : Account) → says 37 r ≡ n → r.kind ≡ kind.Replaced → says 378 r ≡ 0 → a.cancels ≡ c.cancels → Level (noted n a r) (noted n c r)
unfolding noted
replaced_level n r a c e k z h = rw (eq-eqb (says 37 r) n e) (terms r.kind k)
  where
    terms : (j : Kind) → j ≡ kind.Replaced → Level (after_report j r a) (after_report j r c)
    terms j k = rw (k, z) (record { left = refl; cancels = h })

-- ---- what the Submit of a replacement leaves: u, with the reports rs
pub record ChangedAs (q : Instrument) (t message : List ℕ) (o : Replacement) (u : List ℕ) (rs : List (List ℕ)) : Type 0 where
  pub inside : In (book_of t) (holder t (text_of message o.original))
  pub some : 0 < open_of (change (Replaced (holder t (text_of message o.original)) o.level o.quantity (next_of t)) (replaced_on t message o))
  pub uncanceled : (replaced_on t message o).canceled ≡ 0
  pub book : book_of u ≡ after (book_of t) (Replaced (holder t (text_of message o.original)) o.level o.quantity (next_of t))
  pub work : work_of u ≡ holder t (text_of message o.original)
  pub modes : (mpid : ℕ) → mode_of u mpid ≡ mode_of t mpid
  pub decided : decided_of u ≡ 0
  pub ids : (i : ℕ) → 1 ≤ i → i ≢ holder t (text_of message o.original) → SameId u t i
  pub order_id : order_id_at u (holder t (text_of message o.original)) ≡ order_id_at t (holder t (text_of message o.original))
  pub report : List ℕ
  pub reports : rs ≡ report ∷ []
  pub named : says 37 (read_of q report) ≡ order_id_at t (holder t (text_of message o.original))
  pub kind_is : (read_of q report).kind ≡ kind.Replaced
  pub reason : says 378 (read_of q report) ≡ 0

replaced_ids : (t : List ℕ) (k : ℕ) (id : List ℕ) (l x p : ℕ) → length id ≤ 32 → (i : ℕ) → i ≢ k → SameId (replaced t id (Replaced k l x p)) t i
unfolding replaced
replaced_ids t k id l x p short i d =
    let y : Order = change (Replaced k l x p) (order_at t k) in
    same_then (behind_id (put_id t k id) i k 48 (term_bytes y) (lit≤ tt) (omega (arith, length_terms y)))
    (other_id t i k (text_bytes 32 id) d (omega (arith, length_text_bytes 32 id short)))

replaced_heading : (t : List ℕ) (k : ℕ) (id : List ℕ) (l x p : ℕ) → 1 ≤ k → Same (replaced t id (Replaced k l x p)) t 0 128
unfolding replaced
replaced_heading t k id l x p h =
    same_then (put_below (put_id t k id) (128 * k + 48) (term_bytes (change (Replaced k l x p) (order_at t k))) 0 128 (omega arith))
    (put_below t (128 * k) (text_bytes 32 id) 0 128 (omega arith))

module _ (t message : List ℕ) (o : Replacement) (q : Instrument) where
  replace_changed : Asking t message (Replaces o) → replace_stands t message o ≡ Ok tt → instrument_of t ≡ q → ChangedAs q t message o (replacement_taken t message o (holder t (text_of message o.original))).table (replacement_taken t message o (holder t (text_of message o.original))).reports
  unfolding replacement_taken renewed open_of change
  replace_changed a s z =
      let k : ℕ = holder t (text_of message o.original) in
      let id = text_of message o.id in
      let i = replace_in t message o a k refl s in
      let g = replace_named t message o a k refl s in
      let n = replace_renews t message o a k refl s in
      let r = renews_renewed (is_listed t) (next_of t) (book_of t) k o.level o.quantity (next_of t) (rw a.idle at a.market.held) n in
      let stamp = text_of message o.time in
      let short = time_short stamp (replace_time t message o a k refl s) in
      let u : List ℕ = replaced t id (Replaced k o.level o.quantity (next_of t)) in
      let long = long_replaced t k id a.market i g o.level o.quantity (next_of t) n in
      let top = replaced_heading t k id o.level o.quantity (next_of t) i.low in
      let kept = replaced_order_id t k id (Replaced k o.level o.quantity (next_of t)) g.short in
      let tells = (all_told q).replace t message o a z s in
      record {
        inside = i;
        some = omega (arith, r.above, r.uncanceled);
        uncanceled = r.uncanceled;
        book = book_working u 1 k stamp long short ∙ book_replaced t k id a.market i g o.level o.quantity (next_of t) n;
        work = work_working u 1 k stamp long short;
        modes = mode_of_same (same_then (working_modes u k stamp short) (same_in 56 96 top (lit≤ tt) (lit≤ tt)));
        decided = decided_working u 1 k stamp short ∙ decided_same (same_in 96 97 top (lit≤ tt) (lit≤ tt)) ∙ idle_decided t a.market a.idle;
        ids = λ j l d. same_then (working_ids u k stamp short j l) (replaced_ids t k id o.level o.quantity (next_of t) g.short j d);
        order_id = ids_working u 1 k stamp short k ∙ kept;
        report = _;
        reports = refl;
        named = tells.order ∙ kept;
        kind_is = tells.kind;
        reason = tells.reason;
      }

  replacing_changed : (s : Result (Unit {0}) ChangeReason) → replace_stands t message o ≡ s → Asking t message (Replaces o) → instrument_of t ≡ q → submit_number (replacing t message o s).answer ≡ 0
      → ChangedAs q t message o (replacing t message o s).table (replacing t message o s).reports
  unfolding change_rejected rejecting
  replacing_changed (Ok stands) e a z n = replace_changed a e z
  replacing_changed (Err r) e a z n = absurd (omega arith)

  pub renewed_changed : (room : ℕ) → RenewedAs q t message room o → ChangedAs q t message o (submitted q t message room).table (submitted q t message room).reports
  renewed_changed room x = by (comes q t message room)
    where
      by : Comes q t message room → ChangedAs q t message o (submitted q t message room).table (submitted q t message room).reports
      by (no_room a e) = absurd (let n : ◌≡◌ {A = ℕ} 1 0 = rw e at x.taken in omega arith)
      by (no_market a n e) = absurd (let n : ◌≡◌ {A = ℕ} 2 0 = rw e at x.taken in omega arith)
      by (in_work a n w e) = absurd (let n : ◌≡◌ {A = ℕ} 3 0 = rw e at x.taken in omega arith)
      by (spent a n w h e) = absurd (let n : ◌≡◌ {A = ℕ} 4 0 = rw e at x.taken in omega arith)
      by (heard a n y e) =
          let f : submitted q t message room ≡ replacing t message o (replace_stands t message o) = e ∙ ap (handled t message) x.asks in
          rw f (replacing_changed (replace_stands t message o) refl (rw x.asks at y) (market_instrument q t n) (rw f at x.taken))

-- ---- it is put in work
replaced_silent : (q : Instrument) (r : List ℕ) → (read_of q r).kind ≡ kind.Replaced → fills_in q (r ∷ []) ≡ []
unfolding fills_in is_resting
replaced_silent q r e = rw e

-- an order does not stand on the side that it is matched with
not_facing : (o : Order) → stands (other_side o.side) o ≡ false
not_facing o =
    split (stands (other_side o.side) o)
    (λ e. absurd (wrong (buys o.side) (stands_side (other_side o.side) o e)))
    (λ e. e)
  where
    wrong : (y : Bool) → y ≡ buys (cond y 2 1) → ⊥
    wrong true e = not_both refl e
    wrong false e = not_both e refl

module _ (q : Instrument) (t message : List ℕ) (o : Replacement) (u : List ℕ) (rs : List (List ℕ)) (m : is_market_of q t ≡ true) (x : ChangedAs q t message o u rs) where
  abbrev k : ℕ
  k = holder t (text_of message o.original)

  abbrev before : Order
  before = replaced_on t message o

  abbrev order : Order
  order = change (Replaced k o.level o.quantity (next_of t)) before

  high : k ≤ suc (length (book_of t))
  high = omega (arith, x.inside.high)

  order_here : at (book_of u) k ≡ order
  order_here = rw x.book (after_here (book_of t) (Replaced k o.level o.quantity (next_of t)) x.inside.low high)

  order_in : In (book_of u) k
  unfolding after
  order_in = record { low = x.inside.low; high = rw x.book (omega (arith, x.inside.high, size)) }
    where
      size : length (after (book_of t) (Replaced k o.level o.quantity (next_of t))) ≡ length (book_of t)
      size = length_put (book_of t) k order x.inside.high

  pub changed_put : PutAs q t u rs order
  unfolding change
  changed_put =
      record {
        number = k;
        inside = order_in;
        here = order_here;
        some = x.some;
        uncanceled = x.uncanceled;
        work = x.work;
        modes = x.modes;
        decided = x.decided;
        still =
            rw x.book
            (event_still (other_side before.side) (cl_ord_id_at t) (book_of t) (Replaced k o.level o.quantity (next_of t)) (cl_ord_id_at u) x.inside.low high
            (not_facing before)
            (rw (after_here (book_of t) (Replaced k o.level o.quantity (next_of t)) x.inside.low high) (not_facing order))
            (λ i e d.
            let h = open_in (book_of t) i (stands_open (other_side before.side) (at (book_of t) i) e) in
            id_kept t u (market_facts t (of_market q t m)) i h (x.ids i h.low d)));
        silent = rw x.reports (replaced_silent q x.report x.kind_is);
      }

-- ---- with nothing but calls
module _ (q : Instrument) (message : List ℕ) (o : Replacement) where
  changed_tallied : (t : List ℕ) (room : ℕ) (later : List Call) → is_market_of q t ≡ true
      → (x : ChangedAs q t message o (submitted q t message room).table (submitted q t message room).reports)
      → Fillings q (submitted q t message room).table (table_after q (submitted q t message room).table later) (reports_after q (submitted q t message room).table later)
      → TalliedAs q ((submitted q t message room).reports ++ reports_after q (submitted q t message room).table later)
      (at (book_of (table_after q (submitted q t message room).table later)) (holder t (text_of message o.original)))
  unfolding table_after reports_after account_from
  changed_tallied t room later m x f =
      let k : ℕ = holder t (text_of message o.original) in
      let u : List ℕ = (submitted q t message room).table in
      let ss = map (read_of q) (reports_after q u later) in
      let r : Reading = read_of q x.report in
      let h = order_in q t message o u (submitted q t message room).reports m x in
      let e =
      account_here q (Submit message room ∷ later) t k k m x.inside
      (record { low = h.low; high = omega (arith, h.high, f.by.size) })
      (f.by.steps.ids k ∙ x.order_id) in
      let l =
      from_level (order_id_at t k) ss (noted (order_id_at t k) blank r) (noted (order_id_at t k) (account_in (at (book_of t) k)) r)
      (replaced_level (order_id_at t k) r blank (account_in (at (book_of t) k)) x.named x.kind_is x.reason (sym x.uncanceled)) in
      let d = rw x.reports at e in
      rw x.reports (record { left = rw x.named (l.left ∙ ap (λ (a : Account). a.left) d); cancels = rw x.named (l.cancels ∙ ap (λ (a : Account). a.cancels) d) })

  pub renewed_alike : (t a : List ℕ) (room area : ℕ) (later others : List Call) → is_market_of q t ≡ true → is_market_of q a ≡ true
      → Alike (replaced_on t message o) (replaced_on a message o)
      → StandsClear (other_side (replaced_on t message o).side) (replaced_on t message o).mpid t a
      → mode_of t (replaced_on t message o).mpid ≡ 2 → mode_of a (replaced_on a message o).mpid ≡ 2
      → RenewedAs q t message room o → RenewedAs q a message area o → no_submit later ≡ true → no_submit others ≡ true
      → work_of (table_after q t (Submit message room ∷ later)) ≡ 0 → work_of (table_after q a (Submit message area ∷ others)) ≡ 0
      → SameFills q (reports_after q t (Submit message room ∷ later)) (reports_after q a (Submit message area ∷ others))
  unfolding table_after reports_after minimum_of open_of change changed_put
  renewed_alike t a room area later others m n s h two there x y d e z i =
      let u : List ℕ = (submitted q t message room).table in
      let b : List ℕ = (submitted q a message area).table in
      let f = after_fills q later u (submit_keeps q t message room m) d in
      let g = after_fills q others b (submit_keeps q a message area n) e in
      let k = renewed_changed t message o q room x in
      let l = renewed_changed a message o q area y in
      same_told q t u (table_after q u later) (submitted q t message room).reports (reports_after q u later)
      a b (table_after q b others) (submitted q a message area).reports (reports_after q b others)
      (change (Replaced (holder t (text_of message o.original)) o.level o.quantity (next_of t)) (replaced_on t message o))
      (change (Replaced (holder a (text_of message o.original)) o.level o.quantity (next_of a)) (replaced_on a message o))
      (record {
        side = s.side;
        level = refl;
        tif = s.tif;
        minimum = rw (s.tif, s.minqty);
        mpid = s.mpid;
        quantity = omega (arith, s.used, k.uncanceled, l.uncanceled);
      })
      (changed_put q t message o u (submitted q t message room).reports m k) (changed_put q a message o b (submitted q a message area).reports n l) two there f g z i h
      (changed_tallied t room later m k f) (changed_tallied a area others n l g)
