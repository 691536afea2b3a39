-- No report is longer than 512 bytes (document 01, "The reports"), whatever its kind, if what its row is made from is in range; so
-- 1,024 free bytes hold two. Each row is at most 489 bytes, which is what the writer of a whole report asks for.
use Prim.Native.Nat.{ℕ, ◌≤◌}
use native.Mathlib.Nat.{le_trans}
use mathlib.Core.List.{List, [], ◌∷◌}
use lib.Dec.{lit≤, lit<}
use lib.ListN.{length}
use Rattle.decimal.specs.Writing.{decimal}
use Rattle.report.specs.declared.Field.{Field}
use Rattle.report.specs.Fields.{row_bytes}
use Rattle.report.specs.Frame.{report_bytes}
use Rattle.report.proofs.Bytes.{report_length}
use Rattle.rows.specs.declared.Stamp.{Stamp}
use Rattle.rows.specs.declared.Shown.{Shown}
use Rattle.rows.specs.declared.Ground.{Ground}
use Rattle.rows.specs.declared.Fill.{Fill}
use Rattle.rows.specs.declared.Refused.{Refused}
use Rattle.rows.specs.declared.Unchanged.{Unchanged}
use Rattle.rows.specs.declared.Faulty.{Faulty}
use Rattle.rows.specs.Rows.{own_field, last_field, other_field, count_field, header, figures_of, trade_status, replaced_status, padded, accepted_fields, accepted_row, replaced_fields, replaced_row, canceled_fields, canceled_row, trade_fields, trade_row, rejected_row, cancel_reject_row, session_reject_row}
use Rattle.rows.specs.Ranges.{StampIn, ShownIn, GroundIn, FillIn, RefusedIn, UnchangedIn, FaultyIn}
use Rattle.rows.proofs.Widths.{of_both, Fit, room_of, row_room, row_padded, ◌&◌, char_short, word_short, number_short, digit_short, text_short, or_number_short, or_nobody_short, level_short, mean_short, zero_short, group_short, own_short, last_short, other_short, count_short, open_short, executed_short, quantity_short, least_short}

module _ (sent stored : List ℕ) where
  -- a row that fits the widths, which come to at most 489 bytes
  short_row : (ns : List ℕ) (row : List Field) → Fit sent stored ns row → room_of ns row ≤ 489 → length (row_bytes sent stored row) ≤ 489
  short_row ns row h l = le_trans (row_room sent stored ns row h) l

  -- Accepted
  pub accepted_short : (s : Stamp) (o : Shown) → StampIn sent stored s → ShownIn sent stored s.of o → length (row_bytes sent stored (accepted_row s o)) ≤ 489
  unfolding accepted_fields header figures_of own_field last_field decimal
  accepted_short s o i j =
      short_row (1 ∷ 9 ∷ 8 ∷ 4 ∷ 21 ∷ 8 ∷ 10 ∷ 14 ∷ 32 ∷ 9 ∷ 9 ∷ 1 ∷ 9 ∷ 9 ∷ 1 ∷ 1 ∷ 11 ∷ 1 ∷ 1 ∷ 9 ∷ 1 ∷ 21 ∷ 6 ∷ 9 ∷ 1 ∷ 9 ∷ 1 ∷ 1 ∷ 1 ∷ []) (accepted_row s o)
      (char_short sent stored 56
      & number_short sent stored 8 s.number i.number_in
      & i.venue_in
      & group_short sent stored s.of
      & i.time_in_lem
      & i.port_in
      & j.account_in_lem
      & mean_short sent stored s.of o.order j.order_in j.quoted_in
      & j.id_in
      & executed_short sent stored o.order j.order_in
      & number_short sent stored 8 s.number i.number_in
      & char_short sent stored 48
      & number_short sent stored 8 o.orderid j.orderid_in
      & quantity_short sent stored o.order j.order_in
      & char_short sent stored 48
      & char_short sent stored 50
      & level_short sent stored s.of o.order.level j.order_in.level_low j.quoted_in.level
      & char_short sent stored o.capacity
      & digit_short sent stored o.order.side
      & j.code_in
      & digit_short sent stored o.order.tif
      & i.time_in_lem
      & or_number_short sent stored 5 o.order.mpid j.mpid_in
      & least_short sent stored o.order j.order_in
      & char_short sent stored 48
      & open_short sent stored o.order j.order_in
      & own_short sent stored s.of o
      & digit_short sent stored o.class
      & last_short sent stored s.of o
      & tt)
      (of_both s.of (λ e. rw e (lit≤ tt)) (λ e. rw e (lit≤ tt)))

  -- Replaced
  pub replaced_short : (s : Stamp) (o : Shown) (w : Ground) → StampIn sent stored s → ShownIn sent stored s.of o → GroundIn sent stored w → length (row_bytes sent stored (replaced_row s o w)) ≤ 489
  unfolding replaced_fields header figures_of own_field last_field decimal
  replaced_short s o w i j k =
      short_row (1 ∷ 9 ∷ 8 ∷ 4 ∷ 21 ∷ 8 ∷ 10 ∷ 14 ∷ 32 ∷ 9 ∷ 9 ∷ 1 ∷ 9 ∷ 9 ∷ 1 ∷ 1 ∷ 32 ∷ 11 ∷ 1 ∷ 1 ∷ 9 ∷ 1 ∷ 21 ∷ 6 ∷ 9 ∷ 1 ∷ 9 ∷ 3 ∷ 1 ∷ 1 ∷ 1 ∷ []) (replaced_row s o w)
      (char_short sent stored 56
      & number_short sent stored 8 s.number i.number_in
      & i.venue_in
      & group_short sent stored s.of
      & i.time_in_lem
      & i.port_in
      & j.account_in_lem
      & mean_short sent stored s.of o.order j.order_in j.quoted_in
      & j.id_in
      & executed_short sent stored o.order j.order_in
      & number_short sent stored 8 s.number i.number_in
      & char_short sent stored 48
      & number_short sent stored 8 o.orderid j.orderid_in
      & quantity_short sent stored o.order j.order_in
      & digit_short sent stored (replaced_status o.order)
      & char_short sent stored 50
      & k.orig_in
      & level_short sent stored s.of o.order.level j.order_in.level_low j.quoted_in.level
      & char_short sent stored o.capacity
      & digit_short sent stored o.order.side
      & j.code_in
      & digit_short sent stored o.order.tif
      & i.time_in_lem
      & or_number_short sent stored 5 o.order.mpid j.mpid_in
      & least_short sent stored o.order j.order_in
      & char_short sent stored 53
      & open_short sent stored o.order j.order_in
      & k.reason_in
      & own_short sent stored s.of o
      & digit_short sent stored o.class
      & last_short sent stored s.of o
      & tt)
      (of_both s.of (λ e. rw e (lit≤ tt)) (λ e. rw e (lit≤ tt)))

  -- Canceled
  pub canceled_short : (s : Stamp) (o : Shown) (w : Ground) → StampIn sent stored s → ShownIn sent stored s.of o → GroundIn sent stored w → length (row_bytes sent stored (canceled_row s o w)) ≤ 489
  unfolding canceled_fields header figures_of own_field last_field decimal
  canceled_short s o w i j k =
      short_row (1 ∷ 9 ∷ 8 ∷ 4 ∷ 21 ∷ 8 ∷ 10 ∷ 14 ∷ 32 ∷ 9 ∷ 9 ∷ 1 ∷ 9 ∷ 9 ∷ 1 ∷ 1 ∷ 32 ∷ 11 ∷ 1 ∷ 1 ∷ 9 ∷ 1 ∷ 21 ∷ 6 ∷ 9 ∷ 1 ∷ 9 ∷ 3 ∷ 1 ∷ 1 ∷ 1 ∷ []) (canceled_row s o w)
      (char_short sent stored 56
      & number_short sent stored 8 s.number i.number_in
      & i.venue_in
      & group_short sent stored s.of
      & i.time_in_lem
      & i.port_in
      & j.account_in_lem
      & mean_short sent stored s.of o.order j.order_in j.quoted_in
      & j.id_in
      & executed_short sent stored o.order j.order_in
      & number_short sent stored 8 s.number i.number_in
      & char_short sent stored 48
      & number_short sent stored 8 o.orderid j.orderid_in
      & quantity_short sent stored o.order j.order_in
      & char_short sent stored 52
      & char_short sent stored 50
      & k.orig_in
      & level_short sent stored s.of o.order.level j.order_in.level_low j.quoted_in.level
      & char_short sent stored o.capacity
      & digit_short sent stored o.order.side
      & j.code_in
      & digit_short sent stored o.order.tif
      & i.time_in_lem
      & or_number_short sent stored 5 o.order.mpid j.mpid_in
      & least_short sent stored o.order j.order_in
      & char_short sent stored 52
      & open_short sent stored o.order j.order_in
      & k.reason_in
      & own_short sent stored s.of o
      & digit_short sent stored o.class
      & last_short sent stored s.of o
      & tt)
      (of_both s.of (λ e. rw e (lit≤ tt)) (λ e. rw e (lit≤ tt)))

  -- a Trade
  pub trade_short : (s : Stamp) (o : Shown) (f : Fill) → StampIn sent stored s → ShownIn sent stored s.of o → FillIn s.of f → length (row_bytes sent stored (trade_row s o f)) ≤ 489
  unfolding trade_fields header figures_of own_field last_field other_field count_field decimal
  trade_short s o f i j k =
      short_row (1 ∷ 9 ∷ 8 ∷ 4 ∷ 21 ∷ 8 ∷ 10 ∷ 14 ∷ 32 ∷ 9 ∷ 9 ∷ 1 ∷ 11 ∷ 9 ∷ 9 ∷ 9 ∷ 1 ∷ 1 ∷ 11 ∷ 1 ∷ 1 ∷ 9 ∷ 1 ∷ 21 ∷ 6 ∷ 9 ∷ 1 ∷ 9 ∷ 6 ∷ 1 ∷ 1 ∷ 1 ∷ 9 ∷ 1 ∷ 1 ∷ []) (trade_row s o f)
      (char_short sent stored 56
      & number_short sent stored 8 s.number i.number_in
      & i.venue_in
      & group_short sent stored s.of
      & i.time_in_lem
      & i.port_in
      & j.account_in_lem
      & mean_short sent stored s.of o.order j.order_in j.quoted_in
      & j.id_in
      & executed_short sent stored o.order j.order_in
      & number_short sent stored 8 s.number i.number_in
      & char_short sent stored 48
      & level_short sent stored s.of f.level k.level_low k.level_high
      & number_short sent stored 8 f.quantity k.quantity_in
      & number_short sent stored 8 o.orderid j.orderid_in
      & quantity_short sent stored o.order j.order_in
      & digit_short sent stored (trade_status o.order)
      & char_short sent stored 50
      & level_short sent stored s.of o.order.level j.order_in.level_low j.quoted_in.level
      & char_short sent stored o.capacity
      & digit_short sent stored o.order.side
      & j.code_in
      & digit_short sent stored o.order.tif
      & i.time_in_lem
      & or_number_short sent stored 5 o.order.mpid j.mpid_in
      & least_short sent stored o.order j.order_in
      & digit_short sent stored (trade_status o.order)
      & open_short sent stored o.order j.order_in
      & other_short sent stored s.of f k.other_in
      & count_short sent stored s.of
      & own_short sent stored s.of o
      & number_short sent stored 0 f.liquidity k.liquidity_in
      & number_short sent stored 8 f.first k.first_in
      & digit_short sent stored o.class
      & last_short sent stored s.of o
      & tt)
      (of_both s.of (λ e. rw e (lit≤ tt)) (λ e. rw e (lit≤ tt)))

  -- Rejected
  pub rejected_short : (s : Stamp) (r : Refused) → StampIn sent stored s → RefusedIn r → length (row_bytes sent stored (rejected_row s r)) ≤ 489
  unfolding rejected_row header decimal
  rejected_short s r i j =
      short_row (1 ∷ 9 ∷ 8 ∷ 4 ∷ 21 ∷ 8 ∷ 14 ∷ 32 ∷ 1 ∷ 9 ∷ 1 ∷ 4 ∷ 9 ∷ 1 ∷ 1 ∷ 9 ∷ 2 ∷ 1 ∷ 1 ∷ []) (rejected_row s r)
      (char_short sent stored 56
      & number_short sent stored 8 s.number i.number_in
      & i.venue_in
      & group_short sent stored s.of
      & i.time_in_lem
      & i.port_in
      & zero_short sent stored s.of
      & text_short sent stored r.id 32 j.id_in
      & number_short sent stored 0 (0) (lit< tt)
      & number_short sent stored 8 s.number i.number_in
      & char_short sent stored 48
      & word_short sent stored 78 79 78 69
      & number_short sent stored 8 r.quantity j.quantity_in
      & char_short sent stored 56
      & digit_short sent stored r.side
      & text_short sent stored r.code 9 j.code_in
      & number_short sent stored 1 r.reason j.reason_in
      & char_short sent stored 56
      & number_short sent stored 0 (0) (lit< tt)
      & tt)
      (lit≤ tt)

  -- a Cancel reject
  pub cancel_reject_short : (s : Stamp) (u : Unchanged) → StampIn sent stored s → UnchangedIn u → length (row_bytes sent stored (cancel_reject_row s u)) ≤ 489
  unfolding cancel_reject_row header decimal
  cancel_reject_short s u i j =
      short_row (1 ∷ 9 ∷ 8 ∷ 4 ∷ 21 ∷ 8 ∷ 32 ∷ 9 ∷ 1 ∷ 32 ∷ 1 ∷ 1 ∷ []) (cancel_reject_row s u)
      (char_short sent stored 57
      & number_short sent stored 8 s.number i.number_in
      & i.venue_in
      & group_short sent stored s.of
      & i.time_in_lem
      & i.port_in
      & text_short sent stored u.id 32 j.id_in
      & or_nobody_short sent stored u.orderid j.orderid_in
      & digit_short sent stored u.status
      & text_short sent stored u.orig 32 j.orig_in
      & number_short sent stored 0 u.reason j.reason_in
      & number_short sent stored 0 u.response j.response_in
      & tt)
      (lit≤ tt)

  -- a Session Reject
  pub session_reject_short : (s : Stamp) (f : Faulty) → StampIn sent stored s → FaultyIn f → length (row_bytes sent stored (session_reject_row s f)) ≤ 489
  unfolding session_reject_row header decimal
  session_reject_short s f i j =
      short_row (1 ∷ 9 ∷ 8 ∷ 4 ∷ 21 ∷ 8 ∷ 9 ∷ 4 ∷ 2 ∷ 2 ∷ []) (session_reject_row s f)
      (char_short sent stored 51
      & number_short sent stored 8 s.number i.number_in
      & i.venue_in
      & group_short sent stored s.of
      & i.time_in_lem
      & i.port_in
      & number_short sent stored 8 f.sequence j.sequence_in
      & number_short sent stored 3 f.tag j.tag_in
      & text_short sent stored f.kind 2 j.kind_in
      & number_short sent stored 1 f.reason j.reason_in
      & tt)
      (lit≤ tt)

  -- so the whole report is at most 512 bytes, and the padded row is as short
  pub report_short : (row : List Field) → length (row_bytes sent stored row) ≤ 489 → length (report_bytes (row_bytes sent stored row)) ≤ 512
  report_short row h = report_length (row_bytes sent stored row) h

  pub padded_short : (row : List Field) → length (row_bytes sent stored row) ≤ 489 → length (row_bytes sent stored (padded row)) ≤ 489
  padded_short row h = rw (row_padded sent stored row) h
