-- What comes of handing a feed one report (document 02, T-01): a refusal with nothing changed, no copy and the same number, or the bytes of
-- the copy and the next number. And what is a copy: bytes that are read as a report is, by the slots of a copy. A feed copies the reports of
-- one market: q is what it trades. Assumes nothing.
use Rattle.std.specs.Prelude.{ℕ, ◌+◌, Bool, true, false, cond, not, ◌||◌, List, [], eqb, ltb, length, Some, None, Result, Ok, Err, unwrap_or}
use Rattle.decimal.specs.declared.Instrument.{Instrument}
use Rattle.report.specs.declared.Field.{Field}
use Rattle.report.specs.declared.Kind.{Kind}
use Rattle.report.specs.declared.Kind.TheVariants.{Accepted, Replaced, Canceled, Trade, Rejected, CancelReject, SessionReject, Refused}
use Rattle.report.specs.declared.Reading.{Reading}
use Rattle.report.specs.Fields.{row_bytes}
use Rattle.report.specs.Frame.{report_bytes}
use Rattle.report.specs.Slots.{slots_of}
use Rattle.report.specs.Reports.{kind_of, read_framed, reading_of, read_of}
use Rattle.refusals.specs.declared.Refusal.{Refusal}
use Rattle.refusals.specs.declared.Refusal.TheVariants as refusal
use Rattle.refusals.specs.Refusals.{answer_number}
use Rattle.feed.specs.declared.Answer.{Answer}
use Rattle.feed.specs.Rows.{copy_row, copy_slots}
use Rattle.feed.specs.Settings.{client_of, is_setting, copied_by}

-- ---- copying

-- what a feed leaves: its answer, and the bytes from the start of the area on, none where nothing is copied
pub record Fed : Type 0 where
  pub answer : Result Answer Refusal
  pub bytes : List ℕ

-- nothing is written
abbrev pub unfed : Result Answer Refusal → Fed
unfed a = record { answer = a; bytes = [] }

-- no copy, and the same number
abbrev pub not_copied : ℕ → Result Answer Refusal
not_copied next = Ok (record { len = None; next = next })

-- a copy of so many bytes, and the next number
abbrev pub copied : ℕ → ℕ → Result Answer Refusal
copied len next = Ok (record { len = Some len; next = next })

-- bytes that are no report are of this kind
abbrev pub is_none : Kind → Bool
is_none Accepted = false
is_none Replaced = false
is_none Canceled = false
is_none Trade = false
is_none Rejected = false
is_none CancelReject = false
is_none SessionReject = false
is_none Refused = true

-- the copy with this number and this text of 109, of a report with these fields: 8, 9 and 10 are worked out anew
unfoldable pub copy_bytes : List ℕ → ℕ → List ℕ → List Field → List ℕ
copy_bytes report number client fs = report_bytes (row_bytes report client (copy_row number (length client) fs))

abbrev pub fed_with : ℕ → List ℕ → Fed
fed_with number bytes = record { answer = copied (length bytes) (number + 1); bytes = bytes }

-- next is the feed's next number, room the length of its area
unfoldable pub fed : Instrument → List ℕ → ℕ → ℕ → List ℕ → List ℕ → ℕ → ℕ → Fed
fed q report subscription shows port group next room =
    cond (ltb room 1024) (unfed (Err refusal.NoRoom))
    (cond (is_none (read_of q report).kind) (unfed (Err refusal.NoReport))
    (cond (not (is_setting q subscription shows port group)) (unfed (Err refusal.BadFeed))
    (cond (eqb next 0 || ltb 999999999 next) (unfed (Err refusal.NumbersSpent))
    (cond (copied_by subscription (read_of q report).kind)
    (fed_with next (copy_bytes report next (client_of shows port group) (read_of q report).fields))
    (unfed (not_copied next))))))

-- the paper's number
abbrev pub copy_number : Result Answer Refusal → ℕ
copy_number a = answer_number a

-- the length of the copy, 0 where there is none
abbrev pub copy_length : Result Answer Refusal → ℕ
copy_length (Ok c) = unwrap_or c.len 0
copy_length (Err r) = 0

-- the feed's next number after it, 0 where it is refused
abbrev pub copy_next : Result Answer Refusal → ℕ
copy_next (Ok c) = c.next
copy_next (Err r) = 0

-- ---- reading copies

-- the kinds that are copied, by a full feed
abbrev pub copy_kind : Kind → Kind
copy_kind k = cond (copied_by 2 k) k Refused

-- what the bytes are: a copy of a kind with its fields, or none, which is refusal 11
unfoldable pub read_copy_of : Instrument → List ℕ → Reading
read_copy_of q s = reading_of (copy_kind (kind_of s)) (read_framed s (copy_slots q (slots_of q (copy_kind (kind_of s)))))
