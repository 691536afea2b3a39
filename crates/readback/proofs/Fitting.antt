-- Every row that the market can write fits the slots of its kind, so that it can be read: one line for each field.
use Prim.Native.Nat.{ℕ, ◌≤◌}
use native.Mathlib.Omega.{arith}
use mathlib.Core.Path.{◌≡◌, refl}
use mathlib.Core.Bool.{true}
use mathlib.Core.List.{List}
use mathlib.Core.Logic.{◌⊎◌, inl, inr}
use lib.ListN.{take}
use Rattle.decimal.specs.declared.Instrument.{Instrument}
use Rattle.decimal.specs.declared.Instrument.TheVariants.{Bonds, Equities}
use Rattle.decimal.specs.Writing.{decimal}
use Rattle.table.specs.Market.{is_cash}
use Rattle.report.specs.declared.Value.{Value}
use Rattle.report.specs.declared.Value.TheVariants.{Absent}
use Rattle.report.specs.declared.Shape.TheVariants as shape
use Rattle.report.specs.declared.Kind.TheVariants.{Accepted, Replaced, Canceled, Trade, Rejected, CancelReject, SessionReject}
use Rattle.report.specs.Fields.{label}
use Rattle.report.specs.Frame.{trailer}
use Rattle.report.specs.Slots.{own_slot, last_slot, other_slot, count_slot, accepted_slots, replaced_slots, canceled_slots, trade_slots, rejected_slots, cancel_reject_slots, session_reject_slots, slots_of}
use Rattle.report.proofs.ReadOnly.{kinds_proper}
use Rattle.report.proofs.Back.{Fits}
use Rattle.rows.specs.declared.Stamp.{Stamp}
use Rattle.rows.specs.declared.Shown.{Shown}
use Rattle.rows.specs.declared.Ground.{Ground}
use Rattle.rows.specs.declared.Fill.{Fill}
use Rattle.rows.specs.declared.Refused.{Refused}
use Rattle.rows.specs.declared.Unchanged.{Unchanged}
use Rattle.rows.specs.declared.Faulty.{Faulty}
use Rattle.rows.specs.Rows.{text, own_field, last_field, other_field, count_field, requested, prevented, decremented, expired, header, figures_of, padded, accepted_fields, accepted_row, replaced_fields, replaced_row, canceled_fields, canceled_row, trade_fields, trade_row, rejected_row, cancel_reject_row, session_reject_row}
use Rattle.rows.proofs.Widths.{of_both}
use Rattle.readback.specs.Right.{TextRight, StampRight, ShownRight, ReplacedRight, replaced_on_request, by_decrement, CanceledRight, canceled_on_request, by_prevention, at_the_end, FillRight, RefusedRight, UnchangedRight, FaultyRight}
use Rattle.readback.proofs.Takes.{Takes, equities_cash, char_takes, word_takes, group_takes, cash_takes, margin_takes, number_takes, or_number_takes, or_nobody_takes, side_takes, tif_takes, replaced_takes, traded_takes, capacity_takes, class_takes, status_takes, listed_takes, refusal_takes, reason_takes, two_takes, fault_takes, text_takes, code_takes, time_takes, level_takes, average_takes, zero_takes, open_takes, executed_takes, quantity_takes, least_takes}
use Rattle.readback.proofs.Rowed.{Entry, all_fit}

infixr 40 ◌&◌
◌&◌ : {A B : Type 0} → A → B → A × B
a & b = (a, b)

module _ (sent stored : List ℕ) where
  maybe_text : (most low : ℕ) (v : Value) → (v ≡ Absent) ⊎ TextRight sent stored most low v → (v ≡ Absent) ⊎ Takes sent stored (shape.Text most low) v
  maybe_text most low v (inl e) = inl e
  maybe_text most low v (inr r) = inr (text_takes sent stored most low v r)

  -- what only one of the markets has
  own_entry : (q : Instrument) (o : Shown) → is_cash q o.cash o.margin ≡ true → Entry sent stored (own_slot q).optional (own_slot q).shape (own_field q o).value
  unfolding own_field
  own_entry Bonds o h = listed_takes sent stored 9 9 9 9 9 9 9 9 9 (omega arith) refl
  own_entry Equities o h = let c = equities_cash o.cash o.margin h in cash_takes sent stored o.cash c.low c.high

  last_entry : (q : Instrument) (o : Shown) → is_cash q o.cash o.margin ≡ true → Entry sent stored (last_slot q).optional (last_slot q).shape (last_field q o).value
  unfolding last_field
  last_entry Bonds o h = inl refl
  last_entry Equities o h = let c = equities_cash o.cash o.margin h in margin_takes sent stored o.margin c.most

  other_entry : (q : Instrument) (f : Fill) → f.other ≤ 999999 → Entry sent stored (other_slot q).optional (other_slot q).shape (other_field q f).value
  unfolding other_field
  other_entry Bonds f h = number_takes sent stored 0 999999 f.other (omega arith) h (omega (arith, h))
  other_entry Equities f h = inl refl

  count_entry : (q : Instrument) → Entry sent stored (count_slot q).optional (count_slot q).shape (count_field q).value
  unfolding count_field
  count_entry Bonds = listed_takes sent stored 1 1 1 1 1 1 1 1 1 (omega arith) refl
  count_entry Equities = inl refl

  -- Accepted
  pub accepted_fits : (sum : ℕ) (s : Stamp) (o : Shown) → StampRight sent stored s → ShownRight sent stored s.of o → Fits sent stored (trailer sum) (slots_of s.of Accepted) (padded (accepted_row s o))
  unfolding accepted_slots accepted_fields figures_of own_field last_field header label decimal
  accepted_fits sum s o i j =
      all_fit sent stored 7 sum (take 29 (accepted_slots s.of)) (accepted_row s o) (kinds_proper s.of Accepted)
      (of_both s.of (λ e. rw e) (λ e. rw e))
      (char_takes sent stored 56
      & number_takes sent stored 1 999999999 s.number i.number_low i.number_high (omega (arith, i.number_high))
      & text_takes sent stored 8 33 s.venue i.venue_right
      & group_takes sent stored s.of
      & time_takes sent stored s.time i.time_right
      & text_takes sent stored 8 33 s.port i.port_right
      & maybe_text 10 32 o.account j.account_right
      & average_takes sent stored s.of o.order j.order_right j.quoted_right
      & text_takes sent stored 32 32 o.id j.id_right
      & executed_takes sent stored o.order j.order_right
      & number_takes sent stored 1 999999999 s.number i.number_low i.number_high (omega (arith, i.number_high))
      & char_takes sent stored 48
      & number_takes sent stored 1 999999999 o.orderid j.orderid_low j.orderid_high (omega (arith, j.orderid_high))
      & quantity_takes sent stored o.order j.order_right
      & char_takes sent stored 48
      & char_takes sent stored 50
      & level_takes sent stored s.of o.order.level j.order_right.level_low j.quoted_right.level
      & capacity_takes sent stored o.capacity j.capacity_right
      & side_takes sent stored s.of o.order.side j.quoted_right.side
      & code_takes sent stored s.of o.code j.code_right
      & tif_takes sent stored o.order j.order_right
      & time_takes sent stored s.time i.time_right
      & or_number_takes sent stored 1 999999 o.order.mpid (omega arith) j.mpid_right (omega (arith, j.mpid_right))
      & least_takes sent stored o.order j.order_right
      & char_takes sent stored 48
      & open_takes sent stored o.order j.order_right
      & own_entry s.of o j.cash_right
      & class_takes sent stored o.class j.class_right
      & last_entry s.of o j.cash_right
      & tt)

  -- Replaced, by what 41 and 378 take
  pub replaced_takes_fits : (sum : ℕ) (s : Stamp) (o : Shown) (w : Ground) → StampRight sent stored s → ShownRight sent stored s.of o → Takes sent stored (shape.Text 32 32) w.orig → (w.reason ≡ Absent) ⊎ Takes sent stored (shape.Listed 100 100 100 100 100 100 100 100) w.reason → Fits sent stored (trailer sum) (slots_of s.of Replaced) (padded (replaced_row s o w))
  unfolding replaced_slots replaced_fields figures_of own_field last_field header label decimal
  replaced_takes_fits sum s o w i j a b =
      all_fit sent stored 5 sum (take 31 (replaced_slots s.of)) (replaced_row s o w) (kinds_proper s.of Replaced)
      (of_both s.of (λ e. rw e) (λ e. rw e))
      (char_takes sent stored 56
      & number_takes sent stored 1 999999999 s.number i.number_low i.number_high (omega (arith, i.number_high))
      & text_takes sent stored 8 33 s.venue i.venue_right
      & group_takes sent stored s.of
      & time_takes sent stored s.time i.time_right
      & text_takes sent stored 8 33 s.port i.port_right
      & maybe_text 10 32 o.account j.account_right
      & average_takes sent stored s.of o.order j.order_right j.quoted_right
      & text_takes sent stored 32 32 o.id j.id_right
      & executed_takes sent stored o.order j.order_right
      & number_takes sent stored 1 999999999 s.number i.number_low i.number_high (omega (arith, i.number_high))
      & char_takes sent stored 48
      & number_takes sent stored 1 999999999 o.orderid j.orderid_low j.orderid_high (omega (arith, j.orderid_high))
      & quantity_takes sent stored o.order j.order_right
      & replaced_takes sent stored o.order
      & char_takes sent stored 50
      & a
      & level_takes sent stored s.of o.order.level j.order_right.level_low j.quoted_right.level
      & capacity_takes sent stored o.capacity j.capacity_right
      & side_takes sent stored s.of o.order.side j.quoted_right.side
      & code_takes sent stored s.of o.code j.code_right
      & tif_takes sent stored o.order j.order_right
      & time_takes sent stored s.time i.time_right
      & or_number_takes sent stored 1 999999 o.order.mpid (omega arith) j.mpid_right (omega (arith, j.mpid_right))
      & least_takes sent stored o.order j.order_right
      & char_takes sent stored 53
      & open_takes sent stored o.order j.order_right
      & b
      & own_entry s.of o j.cash_right
      & class_takes sent stored o.class j.class_right
      & last_entry s.of o j.cash_right
      & tt)

  -- Canceled, by what 41 and 378 take
  pub canceled_takes_fits : (sum : ℕ) (s : Stamp) (o : Shown) (w : Ground) → StampRight sent stored s → ShownRight sent stored s.of o → (w.orig ≡ Absent) ⊎ Takes sent stored (shape.Text 32 32) w.orig → (w.reason ≡ Absent) ⊎ Takes sent stored (shape.Listed 99 100 100 100 100 100 100 100) w.reason → Fits sent stored (trailer sum) (slots_of s.of Canceled) (padded (canceled_row s o w))
  unfolding canceled_slots canceled_fields figures_of own_field last_field header label decimal
  canceled_takes_fits sum s o w i j a b =
      all_fit sent stored 5 sum (take 31 (canceled_slots s.of)) (canceled_row s o w) (kinds_proper s.of Canceled)
      (of_both s.of (λ e. rw e) (λ e. rw e))
      (char_takes sent stored 56
      & number_takes sent stored 1 999999999 s.number i.number_low i.number_high (omega (arith, i.number_high))
      & text_takes sent stored 8 33 s.venue i.venue_right
      & group_takes sent stored s.of
      & time_takes sent stored s.time i.time_right
      & text_takes sent stored 8 33 s.port i.port_right
      & maybe_text 10 32 o.account j.account_right
      & average_takes sent stored s.of o.order j.order_right j.quoted_right
      & text_takes sent stored 32 32 o.id j.id_right
      & executed_takes sent stored o.order j.order_right
      & number_takes sent stored 1 999999999 s.number i.number_low i.number_high (omega (arith, i.number_high))
      & char_takes sent stored 48
      & number_takes sent stored 1 999999999 o.orderid j.orderid_low j.orderid_high (omega (arith, j.orderid_high))
      & quantity_takes sent stored o.order j.order_right
      & char_takes sent stored 52
      & char_takes sent stored 50
      & a
      & level_takes sent stored s.of o.order.level j.order_right.level_low j.quoted_right.level
      & capacity_takes sent stored o.capacity j.capacity_right
      & side_takes sent stored s.of o.order.side j.quoted_right.side
      & code_takes sent stored s.of o.code j.code_right
      & tif_takes sent stored o.order j.order_right
      & time_takes sent stored s.time i.time_right
      & or_number_takes sent stored 1 999999 o.order.mpid (omega arith) j.mpid_right (omega (arith, j.mpid_right))
      & least_takes sent stored o.order j.order_right
      & char_takes sent stored 52
      & open_takes sent stored o.order j.order_right
      & b
      & own_entry s.of o j.cash_right
      & class_takes sent stored o.class j.class_right
      & last_entry s.of o j.cash_right
      & tt)

  -- Replaced, as requested or by a decrement
  pub replaced_fits : (sum : ℕ) (s : Stamp) (o : Shown) (w : Ground) → StampRight sent stored s → ShownRight sent stored s.of o → ReplacedRight sent stored o w
      → Fits sent stored (trailer sum) (slots_of s.of Replaced) (padded (replaced_row s o w))
  replaced_fits sum s o w i j (replaced_on_request {orig} r) =
      replaced_takes_fits sum s o (requested orig) i j (text_takes sent stored 32 32 orig r) (inl refl)
  replaced_fits sum s o w i j by_decrement =
      replaced_takes_fits sum s o (decremented o) i j (text_takes sent stored 32 32 o.id j.id_right)
      (inr (listed_takes sent stored 100 100 100 100 100 100 100 100 100 (omega arith) refl))

  -- Canceled, as requested, by prevention, or an immediate order that was killed or whose rest expired
  pub canceled_fits : (sum : ℕ) (s : Stamp) (o : Shown) (w : Ground) → StampRight sent stored s → ShownRight sent stored s.of o → CanceledRight sent stored w
      → Fits sent stored (trailer sum) (slots_of s.of Canceled) (padded (canceled_row s o w))
  canceled_fits sum s o w i j (canceled_on_request {orig} r) =
      canceled_takes_fits sum s o (requested orig) i j (inr (text_takes sent stored 32 32 orig r)) (inl refl)
  canceled_fits sum s o w i j by_prevention =
      canceled_takes_fits sum s o prevented i j (inl refl) (inr (listed_takes sent stored 99 100 100 100 100 100 100 100 100 (omega arith) refl))
  canceled_fits sum s o w i j at_the_end =
      canceled_takes_fits sum s o expired i j (inl refl) (inr (listed_takes sent stored 99 100 100 100 100 100 100 100 99 (omega arith) refl))

  -- a Trade
  pub trade_fits : (sum : ℕ) (s : Stamp) (o : Shown) (f : Fill) → StampRight sent stored s → ShownRight sent stored s.of o → FillRight s.of f → Fits sent stored (trailer sum) (slots_of s.of Trade) (padded (trade_row s o f))
  unfolding trade_slots trade_fields figures_of own_field last_field other_field count_field header label decimal
  trade_fits sum s o f i j k =
      all_fit sent stored 1 sum (take 35 (trade_slots s.of)) (trade_row s o f) (kinds_proper s.of Trade)
      (of_both s.of (λ e. rw e) (λ e. rw e))
      (char_takes sent stored 56
      & number_takes sent stored 1 999999999 s.number i.number_low i.number_high (omega (arith, i.number_high))
      & text_takes sent stored 8 33 s.venue i.venue_right
      & group_takes sent stored s.of
      & time_takes sent stored s.time i.time_right
      & text_takes sent stored 8 33 s.port i.port_right
      & maybe_text 10 32 o.account j.account_right
      & average_takes sent stored s.of o.order j.order_right j.quoted_right
      & text_takes sent stored 32 32 o.id j.id_right
      & executed_takes sent stored o.order j.order_right
      & number_takes sent stored 1 999999999 s.number i.number_low i.number_high (omega (arith, i.number_high))
      & char_takes sent stored 48
      & level_takes sent stored s.of f.level k.level_low k.level_high
      & number_takes sent stored 0 999999999 f.quantity (omega arith) k.quantity_right (omega (arith, k.quantity_right))
      & number_takes sent stored 1 999999999 o.orderid j.orderid_low j.orderid_high (omega (arith, j.orderid_high))
      & quantity_takes sent stored o.order j.order_right
      & traded_takes sent stored o.order
      & char_takes sent stored 50
      & level_takes sent stored s.of o.order.level j.order_right.level_low j.quoted_right.level
      & capacity_takes sent stored o.capacity j.capacity_right
      & side_takes sent stored s.of o.order.side j.quoted_right.side
      & code_takes sent stored s.of o.code j.code_right
      & tif_takes sent stored o.order j.order_right
      & time_takes sent stored s.time i.time_right
      & or_number_takes sent stored 1 999999 o.order.mpid (omega arith) j.mpid_right (omega (arith, j.mpid_right))
      & least_takes sent stored o.order j.order_right
      & traded_takes sent stored o.order
      & open_takes sent stored o.order j.order_right
      & other_entry s.of f k.other_right
      & count_entry s.of
      & own_entry s.of o j.cash_right
      & two_takes sent stored f.liquidity k.liquidity_right
      & number_takes sent stored 1 999999999 f.first k.first_low k.first_high (omega (arith, k.first_high))
      & class_takes sent stored o.class j.class_right
      & last_entry s.of o j.cash_right
      & tt)

  -- Rejected
  pub rejected_fits : (sum : ℕ) (s : Stamp) (r : Refused) → StampRight sent stored s → RefusedRight sent stored s.of r → Fits sent stored (trailer sum) (slots_of s.of Rejected) (padded (rejected_row s r))
  unfolding rejected_slots rejected_row header label decimal
  rejected_fits sum s r i j =
      all_fit sent stored 17 sum (take 19 (rejected_slots s.of)) (rejected_row s r) (kinds_proper s.of Rejected) refl
      (char_takes sent stored 56
      & number_takes sent stored 1 999999999 s.number i.number_low i.number_high (omega (arith, i.number_high))
      & text_takes sent stored 8 33 s.venue i.venue_right
      & group_takes sent stored s.of
      & time_takes sent stored s.time i.time_right
      & text_takes sent stored 8 33 s.port i.port_right
      & zero_takes sent stored s.of
      & text_takes sent stored 32 32 (text r.id) j.id_right
      & listed_takes sent stored 0 0 0 0 0 0 0 0 0 (omega arith) refl
      & number_takes sent stored 1 999999999 s.number i.number_low i.number_high (omega (arith, i.number_high))
      & char_takes sent stored 48
      & word_takes sent stored 78 79 78 69
      & number_takes sent stored 0 999999999 r.quantity (omega arith) j.quantity_right (omega (arith, j.quantity_right))
      & char_takes sent stored 56
      & side_takes sent stored s.of r.side j.side_right
      & code_takes sent stored s.of (text r.code) j.code_right
      & refusal_takes sent stored r.reason j.reason_right
      & char_takes sent stored 56
      & listed_takes sent stored 0 0 0 0 0 0 0 0 0 (omega arith) refl
      & tt)

  -- a Cancel reject
  pub cancel_reject_fits : (sum : ℕ) (s : Stamp) (u : Unchanged) → StampRight sent stored s → UnchangedRight sent stored u → Fits sent stored (trailer sum) (slots_of s.of CancelReject) (padded (cancel_reject_row s u))
  unfolding cancel_reject_slots cancel_reject_row header label decimal
  cancel_reject_fits sum s u i j =
      all_fit sent stored 24 sum (take 12 (cancel_reject_slots s.of)) (cancel_reject_row s u) (kinds_proper s.of CancelReject) refl
      (char_takes sent stored 57
      & number_takes sent stored 1 999999999 s.number i.number_low i.number_high (omega (arith, i.number_high))
      & text_takes sent stored 8 33 s.venue i.venue_right
      & group_takes sent stored s.of
      & time_takes sent stored s.time i.time_right
      & text_takes sent stored 8 33 s.port i.port_right
      & text_takes sent stored 32 32 (text u.id) j.id_right
      & or_nobody_takes sent stored u.orderid j.orderid_right
      & status_takes sent stored u.status j.status_right
      & text_takes sent stored 32 32 (text u.orig) j.orig_right
      & reason_takes sent stored u.reason j.reason_right
      & two_takes sent stored u.response j.response_right
      & tt)

  -- a Session Reject
  pub session_reject_fits : (sum : ℕ) (s : Stamp) (f : Faulty) → StampRight sent stored s → FaultyRight sent stored f → Fits sent stored (trailer sum) (slots_of s.of SessionReject) (padded (session_reject_row s f))
  unfolding session_reject_slots session_reject_row header label decimal
  session_reject_fits sum s f i j =
      all_fit sent stored 26 sum (take 10 (session_reject_slots s.of)) (session_reject_row s f) (kinds_proper s.of SessionReject) refl
      (char_takes sent stored 51
      & number_takes sent stored 1 999999999 s.number i.number_low i.number_high (omega (arith, i.number_high))
      & text_takes sent stored 8 33 s.venue i.venue_right
      & group_takes sent stored s.of
      & time_takes sent stored s.time i.time_right
      & text_takes sent stored 8 33 s.port i.port_right
      & number_takes sent stored 1 999999999 f.sequence j.sequence_low j.sequence_high (omega (arith, j.sequence_high))
      & number_takes sent stored 1 9999 f.tag j.tag_low j.tag_high (omega (arith, j.tag_high))
      & text_takes sent stored 2 32 (text f.kind) j.kind_right
      & fault_takes sent stored f.reason j.reason_right
      & tt)
