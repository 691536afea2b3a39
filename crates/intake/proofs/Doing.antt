-- What the functions that take a request need at each call: from what is asked and stands to what the table's stores and the
-- report ask for.
use mathlib.Core.Path.{◌≡◌, ap, ◌∙◌}
use mathlib.Core.Bool.{true, ◌||◌}
use mathlib.Core.List.{List}
use Prim.Native.Nat.{ℕ, ◌+◌, ◌*◌, ◌≤◌, ◌<◌}
use native.Mathlib.Omega.{arith}
use lib.Dec.{eqb}
use lib.ListN.{length}
use borrow.Author.Tests.{eqb-true}
use Rattle.octets.specs.Octets.{text_bytes}
use Rattle.octets.proofs.Bools.{split, or_r}
use Rattle.octets.proofs.Places.{length_put}
use Rattle.decimal.specs.declared.Instrument.TheVariants.{Equities}
use Rattle.request.specs.declared.NewOrder.{NewOrder}
use Rattle.request.specs.declared.Replacement.{Replacement}
use Rattle.request.specs.declared.Cancellation.{Cancellation}
use Rattle.request.specs.declared.Asked.TheVariants.{Enters, Replaces, Cancels}
use Rattle.request.proofs.Saying.{enters_spelt, replaces_spelt, cancels_spelt}
use Rattle.matching.specs.declared.Order.{Order}
use Rattle.matching.specs.declared.Event.{Event}
use Rattle.matching.specs.declared.Event.TheVariants.{Accepted, Replaced, Withdrawn}
use Rattle.matching.specs.Matching.{open_of, is_side_of, is_immediate, who, change}
use Rattle.matching.specs.Held.{Covered, Sound}
use Rattle.table.specs.declared.record.Marks.{Marks}
use Rattle.table.specs.Places.{table_bytes}
use Rattle.table.specs.Heading.{next_of, instrument_of}
use Rattle.table.specs.Orders.{order_at, filled, record_for, term_bytes, amount_bytes, record_of, put_id, accepted, replaced, withdrawn}
use Rattle.table.specs.Facts.{InBytes, Market, Due}
use Rattle.table.proofs.Instruments.{marked_bytes}
use Rattle.table.proofs.Lookups.{market_sound}
use Rattle.ticket.specs.declared.Cause.{Cause}
use Rattle.ticket.specs.Legible.{Legible}
use Rattle.std.specs.Prelude.{Ok}
use Rattle.calls.specs.Checks.{text_of, holder, new_stands, cancel_stands, replace_stands}
use Rattle.calls.specs.Submit.{sent_at, no_text, cause_of, marks_of, new_order_of}
use Rattle.intake.specs.Intake.{Asking, order_with}
use Rattle.intake.proofs.Standing.{new_sound, new_marked, cancel_holds}
use Rattle.intake.proofs.Checking.{holder_below, below_256}
use Rattle.intake.proofs.Legibles.{enter_legible, cancel_due, cancel_legible, replace_due, replace_legible}

one_small : (x a b : ℕ) → a < 256 → b < 256 → (eqb x a || eqb x b) ≡ true → x < 256
one_small x a b l m h =
    split (eqb x a) (λ e. omega (arith, eqb-true x a e)) (λ e. omega (arith, eqb-true x b (or_r (eqb x a) (eqb x b) h e)))

-- a time in force is a byte
force_small : (x : Order) → Sound x → x.tif < 256
force_small x h =
    split (eqb x.tif 0)
    (λ e. omega (arith, eqb-true x.tif 0 e))
    (λ e. one_small x.tif 3 4 (omega arith) (omega arith) (or_r (eqb x.tif 0) (is_immediate x) h.tifs e))

-- and so is a side
side_byte_lem : (x : ℕ) → is_side_of Equities x ≡ true → x < 256
unfolding is_side_of
side_byte_lem x h =
    split (eqb x 1 || eqb x 2)
    (λ e. one_small x 1 2 (omega arith) (omega arith) e)
    (λ e. one_small x 5 6 (omega arith) (omega arith) (rw e at h))

-- ---- a new order

-- the order of its terms
pub order_new : (t message : List ℕ) (o : NewOrder) (n : ℕ) (x : Order) → n ≡ next_of t → x ≡ order_with o.terms n → x ≡ new_order_of t message o
order_new t message o n x q y = y ∙ rw q

module _ (t message : List ℕ) (o : NewOrder) (a : Asking t message (Enters o)) where
  -- its marks fit their bytes
  pub marks_small : InBytes (marks_of o)
  marks_small = marked_bytes (instrument_of t) (marks_of o) (new_marked t message o a)

  pub new_id_short : (xs : List ℕ) → xs ≡ text_of message o.id → length xs ≤ 32
  new_id_short xs e = rw e (enters_spelt _ _ _ message o a.asks).id.short

  pub account_short : (xs : List ℕ) → xs ≡ text_of message o.account → length xs ≤ 10
  account_short xs e = rw e (enters_spelt _ _ _ message o a.asks).account.short

  pub new_stamp_short : length (text_of message o.time) ≤ 21
  new_stamp_short = omega (arith, (enters_spelt _ _ _ message o a.asks).time.spelt.short)

  module _ (x : Order) (y : x ≡ new_order_of t message o) where
    pub side_small : x.side < 256
    side_small = rw y (side_byte_lem o.terms.side (new_sound t message o a).sides)

    pub tif_small : x.tif < 256
    tif_small = rw y (force_small (new_order_of t message o) (new_sound t message o a))

  module _ (s : new_stands t message o ≡ Ok tt) (k : ℕ) (g : k ≡ record_for t) where
    pub enter_told : (n : ℕ) → n ≡ next_of t → (x : Order) → x ≡ order_with o.terms n → (c : Cause) → c ≡ cause_of o.time no_text → (u : List ℕ)
        → u ≡ accepted t k n (text_of message o.id) (text_of message o.account) (marks_of o) x
        → Legible u message n c (Accepted k x)
    enter_told n q x y c b u z = let w = order_new t message o n x q y in rw (z, q, b, g, w) (enter_legible t message o a s)

-- the length after the record is written
pub accepted_long : (t u id account : List ℕ) (k orderid : ℕ) (marks : Marks) (x : Order) → length t ≡ table_bytes
    → u ≡ accepted t k orderid id account marks x → length u ≡ table_bytes
unfolding accepted
accepted_long t u id account k orderid marks x h e = ap length e ∙ length_put t (128 * k) (record_of orderid id account marks x) ∙ h

pub replaced_long : (t u id : List ℕ) (e : Event) → length t ≡ table_bytes → u ≡ replaced t id e → length u ≡ table_bytes
unfolding replaced
replaced_long t u id e h z =
    ap length z ∙ length_put (put_id t (who e) id) (128 * who e + 48) (term_bytes (change e (order_at t (who e)))) ∙ length_put t (128 * who e) (text_bytes 32 id) ∙ h

pub withdrawn_long : (t u id : List ℕ) (e : Event) → length t ≡ table_bytes → u ≡ withdrawn t id e → length u ≡ table_bytes
unfolding withdrawn
withdrawn_long t u id e h z =
    ap length z ∙ length_put (put_id t (who e) id) (128 * who e + 64) (amount_bytes (change e (order_at t (who e)))) ∙ length_put t (128 * who e) (text_bytes 32 id) ∙ h

-- ---- a replacement

module _ (t message : List ℕ) (o : Replacement) (a : Asking t message (Replaces o)) (k : ℕ) (h : k ≡ holder t (text_of message o.original)) where
  pub replaced_small : k < 256
  replaced_small = below_256 t k (holder_below t (text_of message o.original) k h)

  pub replaced_id_short : (xs : List ℕ) → xs ≡ text_of message o.id → length xs ≤ 32
  replaced_id_short xs e = rw e (replaces_spelt _ _ _ message o a.asks).id.short

  pub replaced_stamp_short : length (text_of message o.time) ≤ 21
  replaced_stamp_short = omega (arith, (replaces_spelt _ _ _ message o a.asks).time.spelt.short)

  module _ (s : replace_stands t message o ≡ Ok tt) (n : ℕ) (q : n ≡ next_of t) where
    pub renew_due : Due t k (Replaced k o.level o.quantity n)
    renew_due = rw q (replace_due t message o a k h s)

    pub renew_told : (id : List ℕ) → id ≡ text_of message o.id → (c : Cause) → c ≡ cause_of o.time (sent_at o.original) → (u : List ℕ)
        → u ≡ replaced t id (Replaced k o.level o.quantity n) → Legible u message n c (Replaced k o.level o.quantity n)
    renew_told id i c b u z = rw (z, q, b, i) (replace_legible t message o a k h s)

-- ---- a cancel

module _ (t message : List ℕ) (o : Cancellation) (a : Asking t message (Cancels o)) (k : ℕ) (h : k ≡ holder t (text_of message o.original)) where
  pub canceled_few : k ≤ filled t
  canceled_few = holder_below t (text_of message o.original) k h

  pub canceled_id_short : (xs : List ℕ) → xs ≡ text_of message o.id → length xs ≤ 32
  canceled_id_short xs e = rw e (cancels_spelt _ _ _ message o a.asks).id.short

  module _ (s : cancel_stands t message o ≡ Ok tt) where
    pub canceled_some : 1 ≤ k
    canceled_some = (cancel_holds t message o k h s).known

    module _ (x : ℕ) (y : x ≡ open_of (order_at t k)) where
      pub withdraw_due : Due t k (Withdrawn k x)
      withdraw_due = rw y (cancel_due t message o a k h s)

      pub withdraw_told : (n : ℕ) → n ≡ next_of t → (id : List ℕ) → id ≡ text_of message o.id → (c : Cause) → c ≡ cause_of o.time (sent_at o.original)
          → (u : List ℕ) → u ≡ withdrawn t id (Withdrawn k x) → Legible u message n c (Withdrawn k x)
      withdraw_told n q id i c b u z = rw (z, q, b, i, y) (cancel_legible t message o a k h s)

-- what is open of a record
module _ (t : List ℕ) (k : ℕ) (had : Order) (l : had ≡ order_at t k) where
  pub open_covered : Market t → 1 ≤ k → k ≤ filled t → Covered had
  open_covered m low high = rw l (market_sound t k m low high).covered

  pub open_is : (x : ℕ) → x ≡ open_of had → x ≡ open_of (order_at t k)
  open_is x y = y ∙ ap open_of l
