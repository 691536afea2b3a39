-- Every report that the market can write is read as what it was written from (document 01, "The reports"): its kind, and the fields
-- of its row, where a text is given by its place in the report, which has the text's own bytes there. The fields are 36, and those
-- behind the row have no value.
use Prim.Native.Nat.{ℕ, ◌+◌, ◌%◌}
use mathlib.Core.Path.{◌≡◌, refl, sym, ◌∙◌}
use mathlib.Core.Bool.{true}
use mathlib.Core.List.{List}
use lib.Dec.{eqb}
use lib.ListN.{get_or}
use Rattle.octets.proofs.Bools.{split}
use Rattle.decimal.specs.declared.Instrument.{Instrument}
use Rattle.decimal.specs.Writing.{decimal}
use Rattle.matching.specs.declared.Order.{Order}
use Rattle.matching.specs.Matching.{open_of}
use Rattle.report.specs.declared.Value.TheVariants.{Absent}
use Rattle.report.specs.declared.Field.{Field}
use Rattle.report.specs.declared.Kind.{Kind}
use Rattle.report.specs.declared.Kind.TheVariants.{Accepted, Replaced, Canceled, Trade, Rejected, CancelReject, SessionReject, Refused}
use Rattle.report.specs.declared.Reading.{Reading}
use Rattle.report.specs.Fields.{field, value_bytes, label, row_bytes}
use Rattle.report.specs.Frame.{report_bytes}
use Rattle.report.specs.Parse.{Rows, row, bad}
use Rattle.report.specs.Slots.{slots_of}
use Rattle.report.specs.Reports.{execution_for, kind_of, one_reason, agreed, refused, reading_of, read_framed, read_of}
use Rattle.rows.specs.declared.Stamp.{Stamp}
use Rattle.rows.specs.declared.Shown.{Shown}
use Rattle.rows.specs.declared.Ground.{Ground}
use Rattle.rows.specs.declared.Fill.{Fill}
use Rattle.rows.specs.declared.Refused.{Refused as Rejection}
use Rattle.rows.specs.declared.Unchanged.{Unchanged}
use Rattle.rows.specs.declared.Faulty.{Faulty}
use Rattle.rows.specs.Rows.{header, figures_of, digit, trade_status, padded, accepted_fields, accepted_row, replaced_fields, replaced_row, canceled_fields, canceled_row, trade_fields, trade_row, rejected_row, cancel_reject_row, session_reject_row}
use Rattle.readback.specs.AsRead.{as_read}
use Rattle.readback.specs.Right.{StampRight, ShownRight, ReplacedRight, CanceledRight, canceled_on_request, by_prevention, at_the_end, FillRight, RefusedRight, UnchangedRight, FaultyRight}
use Rattle.readback.specs.Says.{number_of, says, SaysOrder, SaysFill}
use Rattle.readback.proofs.Takes.{part_here}
use Rattle.readback.proofs.Fitting.{accepted_fits, replaced_fits, canceled_fits, trade_fits, rejected_fits, cancel_reject_fits, session_reject_fits}
use Rattle.readback.proofs.ReadBack.{execution_read, cancel_reject_read, session_reject_read}
use Rattle.readback.proofs.Texts.{report_there}
use Rattle.readback.proofs.Said.{row_says, ends_none, deal_378, accepted_said, replaced_said, canceled_said, trade_said, fill_said}

module _ (sent stored : List ℕ) where
  -- the reading of a report: this kind, and the fields of this row
  abbrev pub Reads : Instrument → Kind → List Field → Type 0
  Reads q k fs = read_of q (report_bytes (row_bytes sent stored fs)) ≡ record { kind = k; fields = as_read sent stored fs }

  pub accepted_is_read : (s : Stamp) (o : Shown) → StampRight sent stored s → ShownRight sent stored s.of o → Reads s.of Accepted (accepted_row s o)
  unfolding accepted_fields header figures_of label decimal execution_for
  accepted_is_read s o i j = execution_read s.of sent stored (accepted_row s o) Accepted 24 48 (λ sum. accepted_fits sent stored sum s o i j) refl refl refl refl refl

  pub replaced_is_read : (s : Stamp) (o : Shown) (w : Ground) → StampRight sent stored s → ShownRight sent stored s.of o → ReplacedRight sent stored o w
      → Reads s.of Replaced (replaced_row s o w)
  unfolding replaced_fields header figures_of label decimal execution_for
  replaced_is_read s o w i j k =
      execution_read s.of sent stored (replaced_row s o w) Replaced 25 53 (λ sum. replaced_fits sent stored sum s o w i j k) refl refl refl refl refl

  one_ground : (s : Stamp) (o : Shown) (w : Ground) → CanceledRight sent stored w → one_reason (padded (canceled_row s o w)) ≡ true
  unfolding canceled_fields header figures_of one_reason
  one_ground s o w (canceled_on_request {orig} r) = rw (part_here orig r.a_text)
  one_ground s o w by_prevention = refl
  one_ground s o w at_the_end = refl

  pub canceled_is_read : (s : Stamp) (o : Shown) (w : Ground) → StampRight sent stored s → ShownRight sent stored s.of o → CanceledRight sent stored w
      → Reads s.of Canceled (canceled_row s o w)
  unfolding canceled_fields header figures_of label decimal execution_for
  canceled_is_read s o w i j k =
      execution_read s.of sent stored (canceled_row s o w) Canceled 25 52 (λ sum. canceled_fits sent stored sum s o w i j k) refl refl refl refl (one_ground s o w k)

  trade_status_lem : (o : Order) → execution_for (48 + trade_status o % 10) ≡ Trade
  unfolding trade_status execution_for
  trade_status_lem o = split (eqb (open_of o) 0) (λ e. rw e) (λ e. rw e)

  pub trade_is_read : (s : Stamp) (o : Shown) (f : Fill) → StampRight sent stored s → ShownRight sent stored s.of o → FillRight s.of f → Reads s.of Trade (trade_row s o f)
  unfolding trade_fields header figures_of digit label decimal
  trade_is_read s o f i j k =
      execution_read s.of sent stored (trade_row s o f) Trade 26 (48 + trade_status o.order % 10) (λ sum. trade_fits sent stored sum s o f i j k) refl refl refl
      (trade_status_lem o.order) refl

  pub rejected_is_read : (s : Stamp) (r : Rejection) → StampRight sent stored s → RefusedRight sent stored s.of r → Reads s.of Rejected (rejected_row s r)
  unfolding rejected_row header label decimal execution_for
  rejected_is_read s r i j = execution_read s.of sent stored (rejected_row s r) Rejected 17 56 (λ sum. rejected_fits sent stored sum s r i j) refl refl refl refl refl

  pub cancel_reject_is_read : (s : Stamp) (u : Unchanged) → StampRight sent stored s → UnchangedRight sent stored u → Reads s.of CancelReject (cancel_reject_row s u)
  unfolding cancel_reject_row header
  cancel_reject_is_read s u i j = cancel_reject_read s.of sent stored (cancel_reject_row s u) (λ sum. cancel_reject_fits sent stored sum s u i j) refl

  pub session_reject_is_read : (s : Stamp) (f : Faulty) → StampRight sent stored s → FaultyRight sent stored f → Reads s.of SessionReject (session_reject_row s f)
  unfolding session_reject_row header
  session_reject_is_read s f i j = session_reject_read s.of sent stored (session_reject_row s f) (λ sum. session_reject_fits sent stored sum s f i j) refl

  -- ---- each field that is read has the bytes that were written, the texts that are read standing in the report
  pub bytes_are_read : (other : List ℕ) (fs : List Field) (i : ℕ)
      → value_bytes (report_bytes (row_bytes sent stored fs)) other (get_or (as_read sent stored fs) i (field 0 Absent)).value
      ≡ value_bytes sent stored (get_or (padded fs) i (field 0 Absent)).value
  bytes_are_read other fs i = report_there sent stored other fs i

  -- ---- what the numbers of a report say
  abbrev pub reading_as : Instrument → List Field → Reading
  reading_as q fs = read_of q (report_bytes (row_bytes sent stored fs))

  pub accepted_says : (s : Stamp) (o : Shown) → StampRight sent stored s → ShownRight sent stored s.of o → SaysOrder (reading_as s.of (accepted_row s o)) s o
  accepted_says s o i j =
      accepted_said (reading_as s.of (accepted_row s o)) s o j.order_right j.cash_right
      (row_says sent stored Accepted (accepted_row s o) (reading_as s.of (accepted_row s o)) (accepted_is_read s o i j))

  pub replaced_says : (s : Stamp) (o : Shown) (w : Ground) → StampRight sent stored s → ShownRight sent stored s.of o → ReplacedRight sent stored o w
      → SaysOrder (reading_as s.of (replaced_row s o w)) s o
  replaced_says s o w i j k =
      replaced_said (reading_as s.of (replaced_row s o w)) s o j.order_right j.cash_right w
      (row_says sent stored Replaced (replaced_row s o w) (reading_as s.of (replaced_row s o w)) (replaced_is_read s o w i j k))

  pub canceled_says : (s : Stamp) (o : Shown) (w : Ground) → StampRight sent stored s → ShownRight sent stored s.of o → CanceledRight sent stored w
      → SaysOrder (reading_as s.of (canceled_row s o w)) s o
  canceled_says s o w i j k =
      canceled_said (reading_as s.of (canceled_row s o w)) s o j.order_right j.cash_right w
      (row_says sent stored Canceled (canceled_row s o w) (reading_as s.of (canceled_row s o w)) (canceled_is_read s o w i j k))

  pub trade_says : (s : Stamp) (o : Shown) (f : Fill) → StampRight sent stored s → ShownRight sent stored s.of o → FillRight s.of f → SaysOrder (reading_as s.of (trade_row s o f)) s o
  trade_says s o f i j k =
      trade_said (reading_as s.of (trade_row s o f)) s o j.order_right j.cash_right f
      (row_says sent stored Trade (trade_row s o f) (reading_as s.of (trade_row s o f)) (trade_is_read s o f i j k))

  pub fill_says : (s : Stamp) (o : Shown) (f : Fill) → StampRight sent stored s → ShownRight sent stored s.of o → FillRight s.of f → SaysFill s.of (reading_as s.of (trade_row s o f)) f
  fill_says s o f i j k =
      fill_said (reading_as s.of (trade_row s o f)) s o j.order_right j.cash_right f
      (row_says sent stored Trade (trade_row s o f) (reading_as s.of (trade_row s o f)) (trade_is_read s o f i j k))

  -- 378: absent unless the order was canceled or decremented by prevention, was killed, or is an immediate order's rest
  pub accepted_says_378 : (s : Stamp) (o : Shown) → StampRight sent stored s → ShownRight sent stored s.of o → says 378 (reading_as s.of (accepted_row s o)) ≡ 0
  unfolding accepted_fields header figures_of
  accepted_says_378 s o i j =
      row_says sent stored Accepted (accepted_row s o) (reading_as s.of (accepted_row s o)) (accepted_is_read s o i j) 378
      ∙ ends_none s.of o (digit o.class) 378 refl

  pub replaced_says_378 : (s : Stamp) (o : Shown) (w : Ground) → StampRight sent stored s → ShownRight sent stored s.of o → ReplacedRight sent stored o w
      → says 378 (reading_as s.of (replaced_row s o w)) ≡ number_of w.reason
  unfolding replaced_fields header figures_of
  replaced_says_378 s o w i j k = row_says sent stored Replaced (replaced_row s o w) (reading_as s.of (replaced_row s o w)) (replaced_is_read s o w i j k) 378

  pub canceled_says_378 : (s : Stamp) (o : Shown) (w : Ground) → StampRight sent stored s → ShownRight sent stored s.of o → CanceledRight sent stored w
      → says 378 (reading_as s.of (canceled_row s o w)) ≡ number_of w.reason
  unfolding canceled_fields header figures_of
  canceled_says_378 s o w i j k = row_says sent stored Canceled (canceled_row s o w) (reading_as s.of (canceled_row s o w)) (canceled_is_read s o w i j k) 378

  pub trade_says_378 : (s : Stamp) (o : Shown) (f : Fill) → StampRight sent stored s → ShownRight sent stored s.of o → FillRight s.of f → says 378 (reading_as s.of (trade_row s o f)) ≡ 0
  unfolding trade_fields header figures_of
  trade_says_378 s o f i j k =
      row_says sent stored Trade (trade_row s o f) (reading_as s.of (trade_row s o f)) (trade_is_read s o f i j k) 378
      ∙ deal_378 s.of o f (digit o.class)

-- ---- bytes that are read as a kind are of that kind by their 35 and 150, so of no other
read_kind : (k j : Kind) (q : Rows) → (reading_of k q).kind ≡ j → (j ≡ Refused → ⊥) → k ≡ j
read_kind k j (row fs n) e h =
    split (agreed k fs) (λ t. rw t at e) (λ t. let z : refused.kind ≡ j = rw t at e in absurd (h (sym z)))
read_kind k j bad e h = absurd (h (sym e))

pub kind_is_by_type : (q : Instrument) (s : List ℕ) (k : Kind) → (read_of q s).kind ≡ k → (k ≡ Refused → ⊥) → kind_of s ≡ k
unfolding read_of
kind_is_by_type q s k e h = read_kind (kind_of s) k (read_framed s (slots_of q (kind_of s))) e h
