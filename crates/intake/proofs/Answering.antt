-- What the message asks is what Submit does: by the answer of the checks, by the request, and by the first refusals of the call.
use mathlib.Core.Path.{◌≡◌, refl, sym, subst, ◌∙◌}
use mathlib.Core.Bool.{Bool, true, false, not}
use mathlib.Core.List.{List}
use Prim.Native.Nat.{ℕ, ◌≤◌, ◌<◌}
use native.Mathlib.Omega.{arith}
use lib.ListN.{length}
use borrow.Author.Tests.{eq-eqb, ne_eqb, lt-ltb, le-ltb, not-false}
use Rattle.octets.specs.Octets.{put}
use Rattle.decimal.specs.declared.Instrument.{Instrument}
use Rattle.request.specs.declared.Refusal.{Refusal as Fault}
use Rattle.request.specs.declared.NewOrder.{NewOrder}
use Rattle.request.specs.declared.Replacement.{Replacement}
use Rattle.request.specs.declared.Cancellation.{Cancellation}
use Rattle.request.specs.declared.Asked.{Asked}
use Rattle.request.specs.declared.Asked.TheVariants.{Garbled, Refused, Enters, Replaces, Cancels}
use Rattle.request.specs.Asks.{asked_of}
use Rattle.table.specs.Places.{table_bytes}
use Rattle.table.specs.Heading.{venue_of, port_of, next_of, work_of, instrument_of}
use Rattle.table.specs.Market.{is_market_of}
use Rattle.table.specs.Facts.{Market}
use Rattle.table.proofs.Instruments.{of_market, market_instrument}
use Rattle.table.proofs.Facts.{market_facts}
use Rattle.std.specs.Prelude.{Result, Ok, Err}
use Rattle.refusals.specs.declared.Refusal.{Refusal}
use Rattle.refusals.specs.declared.Refusal.TheVariants.{NoRoom, NoMarket, InWork, NumbersSpent}
use Rattle.refusals.specs.declared.Refusal.TheVariants as refusal
use Rattle.calls.specs.declared.OrderReason.{OrderReason}
use Rattle.calls.specs.declared.ChangeReason.{ChangeReason}
use Rattle.calls.specs.declared.Reply.{Reply}
use Rattle.calls.specs.Told.{joined}
use Rattle.calls.specs.Checks.{text_of, holder, new_stands, cancel_stands, replace_stands}
use Rattle.calls.specs.Submit.{unchanged, faulted, new_rejected, change_rejected, new_taken, replacement_taken, cancel_taken, entering, replacing, canceling, handled, submitted}
use Rattle.intake.specs.Intake.{Ready, Asking, Left}

-- ---- by the checks

-- what a check said is what stands
pub checked : {R : Type 0} (s x y : Result (Unit {0}) R) → s ≡ x → s ≡ y → x ≡ y
checked s x y e h = sym e ∙ h

module _ (t message area : List ℕ) (r : Result Reply Refusal) (u after : List ℕ) where
  -- a new order
  module _ (o : NewOrder) (s : Result (Unit {0}) OrderReason) (e : s ≡ new_stands t message o) where
    pub enters_yes : s ≡ Ok tt → Left (new_taken t message o) area r u after → Left (entering t message o (new_stands t message o)) area r u after
    enters_yes h l = rw (← e, h) l

    pub enters_no : (reason : OrderReason) → s ≡ Err reason → Left (new_rejected t message o reason) area r u after
        → Left (entering t message o (new_stands t message o)) area r u after
    enters_no reason h l = rw (← e, h) l

  -- a replacement
  module _ (o : Replacement) (k : ℕ) (q : k ≡ holder t (text_of message o.original)) (s : Result (Unit {0}) ChangeReason) (e : s ≡ replace_stands t message o) where
    pub replaces_yes : s ≡ Ok tt → Left (replacement_taken t message o k) area r u after → Left (replacing t message o (replace_stands t message o)) area r u after
    replaces_yes h l = rw (← e, h, ← q) l

    pub replaces_no : (reason : ChangeReason) → s ≡ Err reason → Left (change_rejected t message o.time o.id o.original k reason 2) area r u after
        → Left (replacing t message o (replace_stands t message o)) area r u after
    replaces_no reason h l = rw (← e, h, ← q) l

  -- a cancel
  module _ (o : Cancellation) (k : ℕ) (q : k ≡ holder t (text_of message o.original)) (s : Result (Unit {0}) ChangeReason) (e : s ≡ cancel_stands t message o) where
    pub cancels_yes : s ≡ Ok tt → Left (cancel_taken t message o k) area r u after → Left (canceling t message o (cancel_stands t message o)) area r u after
    cancels_yes h l = rw (← e, h, ← q) l

    pub cancels_no : (reason : ChangeReason) → s ≡ Err reason → Left (change_rejected t message o.time o.id o.original k reason 1) area r u after
        → Left (canceling t message o (cancel_stands t message o)) area r u after
    cancels_no reason h l = rw (← e, h, ← q) l

-- ---- by the request

pub asking_is : (t message : List ℕ) (a x : Asked) → Asking t message a → a ≡ x → Asking t message x
asking_is t message a x p e = subst (λ (y : Asked). Asking t message y) e p

-- nothing is changed
pub unchanged_left : (t area : List ℕ) (x : Refusal) → Left (unchanged t x) area (Err x) t area
unfolding joined put
unchanged_left t area x = record { answers = refl; table_is = refl; area_is = refl }

pub handled_garbled : (t message area : List ℕ) (a : Asked) → a ≡ Garbled → Left (handled t message a) area (Err refusal.Garbled) t area
handled_garbled t message area a e = rw e (unchanged_left t area refusal.Garbled)

module _ (t message area : List ℕ) (a : Asked) (r : Result Reply Refusal) (u after : List ℕ) where
  pub handled_fault : (f : Fault) → a ≡ Refused f → Left (faulted t message f) area r u after → Left (handled t message a) area r u after
  handled_fault f e l = rw e l

  pub handled_new : (o : NewOrder) → a ≡ Enters o → Left (entering t message o (new_stands t message o)) area r u after → Left (handled t message a) area r u after
  handled_new o e l = rw e l

  pub handled_replace : (o : Replacement) → a ≡ Replaces o → Left (replacing t message o (replace_stands t message o)) area r u after → Left (handled t message a) area r u after
  handled_replace o e l = rw e l

  pub handled_cancel : (o : Cancellation) → a ≡ Cancels o → Left (canceling t message o (cancel_stands t message o)) area r u after → Left (handled t message a) area r u after
  handled_cancel o e l = rw e l

-- ---- by the first refusals

module _ (i : Instrument) (t message area : List ℕ) where
  pub no_room : length area < 1024 → Left (submitted i t message (length area)) area (Err NoRoom) t area
  unfolding submitted
  no_room h = rw (lt-ltb (length area) 1024 h) (unchanged_left t area NoRoom)

  module _ (room : 1024 ≤ length area) (f : Bool) (p : f ≡ is_market_of i t) where
    pub no_market : not f ≡ true → Left (submitted i t message (length area)) area (Err NoMarket) t area
    unfolding submitted
    no_market h = rw (le-ltb (length area) 1024 room, ← p, h) (unchanged_left t area NoMarket)

    module _ (m : not f ≡ false) where
      market_of : is_market_of i t ≡ true
      market_of = sym p ∙ not-false f m

      pub market_is : Market t
      market_is = market_facts t (of_market i t market_of)

      pub market_long : length t ≡ table_bytes
      market_long = market_is.long

      module _ (w : ℕ) (q : w ≡ work_of t) where
        pub in_work : (w ≡ 0 → ⊥) → Left (submitted i t message (length area)) area (Err InWork) t area
        unfolding submitted
        in_work h = rw (le-ltb (length area) 1024 room, ← p, m, ← q, ne_eqb w 0 h) (unchanged_left t area InWork)

        module _ (z : w ≡ 0) (n : ℕ) (s : n ≡ next_of t) where
          pub numbers_spent : 999998976 < n → Left (submitted i t message (length area)) area (Err NumbersSpent) t area
          unfolding submitted
          numbers_spent h =
              rw (le-ltb (length area) 1024 room, ← p, m, ← q, eq-eqb w 0 z, ← s, lt-ltb 999998976 n h) (unchanged_left t area NumbersSpent)

          pub ready : n ≤ 999998976 → Ready i t
          ready l = record { market = market_of; idle = sym q ∙ z; numbers = omega arith }

-- ---- a market that can take the message

module _ (i : Instrument) (t message : List ℕ) (y : Ready i t) where
  ready_market : Market t
  ready_market = market_facts t (of_market i t y.market)

  pub ready_long : length t ≡ table_bytes
  ready_long = ready_market.long

  module _ (venue port : List ℕ) (v : venue ≡ venue_of t) (o : port ≡ port_of t) (a : Asked) (e : a ≡ asked_of i venue port message) where
    asks : a ≡ asked_of (instrument_of t) (venue_of t) (port_of t) message
    asks = e ∙ rw (v, o, market_instrument i t y.market)

    pub asked_of_lem : Asking t message a
    asked_of_lem = record { market = ready_market; idle = y.idle; numbers = y.numbers; asks = sym asks }

    pub submitted_left : (area : List ℕ) → 1024 ≤ length area → (r : Result Reply Refusal) (u after : List ℕ) → Left (handled t message a) area r u after
        → Left (submitted i t message (length area)) area r u after
    unfolding submitted
    submitted_left area room r u after h =
        rw (
          le-ltb (length area) 1024 room,
          y.market,
          eq-eqb (work_of t) 0 y.idle,
          le-ltb 999998976 (next_of t) y.numbers,
        )
        (rw asks at h)
