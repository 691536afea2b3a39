-- What was written is read back: a field, a row, a whole report. One theorem over rows that fit their slots; and no such row is
-- longer than its slots allow.
use Prim.Native.Nat.{ℕ, zero, suc, ◌+◌, ◌-◌, ◌≤◌, ◌<◌, zero-le}
use mathlib.Core.Path.{◌≡◌, refl, sym, ap, ◌∙◌, subst}
use mathlib.Core.Bool.{true, false}
use mathlib.Core.List.{List, [], ◌∷◌, ◌++◌, append_assoc}
use native.Mathlib.Omega.{arith}
use native.Mathlib.Nat.{add-zero}
use lib.ListN.{length, take, drop, get_or, length-append}
use lib.Seq.{take_at, drop_at}
use borrow.Author.Tests.{eq-eqb, ne_eqb, le-leb}
use Rattle.octets.specs.Octets.{part_at, same_bytes}
use Rattle.decimal.specs.Writing.{decimal}
use Rattle.decimal.specs.Canonical.{bare_of, within}
use Rattle.decimal.proofs.RoundTrip.{bare_back}
use Rattle.report.specs.declared.Value.{Value}
use Rattle.report.specs.declared.Value.TheVariants.{Absent, Number, Char, Word, Sent, Stored, Level, Mean}
use Rattle.report.specs.declared.Field.{Field}
use Rattle.report.specs.declared.Slot.{Slot}
use Rattle.report.specs.declared.Kind.{Kind}
use Rattle.report.specs.declared.Kind.TheVariants.{Accepted, Replaced, Canceled, Trade, Rejected, CancelReject, SessionReject, Refused}
use Rattle.report.specs.Fields.{field, is_absent, value_bytes, label, written, field_bytes, row_bytes}
use Rattle.report.specs.Frame.{check_sum, version, front, trailer, report_bytes}
use Rattle.report.specs.Shapes.{number_in, value_in}
use Rattle.report.specs.Parse.{starts, len_to, field_at, row, cons_row, next_rows, read_row, found}
use Rattle.report.specs.Reports.{length_slot, body_at, trailer_at, checked, read_framed, one_reason, agreed, reading_of, part}
use Rattle.report.proofs.Bytes.{field_none}
use Rattle.report.proofs.Parses.{value_is}
use Rattle.report.proofs.Taken.{NoSoh, Taken, Proper, taken, width_of}
use Rattle.std.proofs.Common.{Some}

len_to_back : (v post : List ℕ) → NoSoh v → len_to (v ++ (1 ∷ post)) ≡ length v
len_to_back [] post p = refl
len_to_back (b ∷ v) post p = rw (ne_eqb b 1 p.0) (ap suc (len_to_back v post p.1))

pub starts_back : (p s : List ℕ) → starts p (p ++ s) ≡ true
starts_back [] s = refl
starts_back (a ∷ p) s = rw (eq-eqb a a refl) (starts_back p s)

pub same_back : (s : List ℕ) → same_bytes s s ≡ true
unfolding same_bytes
same_back [] = refl
same_back (a ∷ s) = rw (eq-eqb a a refl) (same_back s)

-- ---- a field is read back where it stands, if its value is
pub field_back : (pre value post : List ℕ) (slot : Slot) (x : Value) → NoSoh value
    → value_in slot.shape (length pre + length (label slot.tag)) value ≡ Some x
    → field_at (pre ++ (written slot.tag value ++ post)) (length pre) slot ≡ found x (length pre + length (written slot.tag value))
unfolding field_at written
field_back pre value post slot x n e =
    let t = label slot.tag in
    let s = pre ++ ((t ++ value ++ (1 ∷ [])) ++ post) in
    let v = length pre + length t in
    let here : drop (length pre) s ≡ t ++ (value ++ (1 ∷ post)) = drop_at pre ((t ++ value ++ (1 ∷ [])) ++ post) (length pre) refl ∙ simp append_assoc in
    let s_is : s ≡ (pre ++ t) ++ (value ++ (1 ∷ post)) = simp append_assoc in
    let there : drop v s ≡ value ++ (1 ∷ post) = ap (drop v) s_is ∙ drop_at (pre ++ t) (value ++ (1 ∷ post)) v (length-append pre t) in
    let st : starts t (drop (length pre) s) ≡ true = ap (starts t) here ∙ starts_back t (value ++ (1 ∷ post)) in
    let to : len_to (drop v s) ≡ length value = ap len_to there ∙ len_to_back value post n in
    let end : v + length value ≡ v + len_to (drop v s) = omega (arith, to) in
    let less : v + length value < length s =
    omega (arith, ap length s_is, length-append (pre ++ t) (value ++ (1 ∷ post)), length-append pre t, length-append value (1 ∷ post)) in
    let sub : v + length value - v ≡ length value = omega arith in
    let cut : take (v + length value - v) (drop v s) ≡ value = rw (sub, there) (take_at value (1 ∷ post) (length value) refl) in
    let last : v + length value + 1 ≡ length pre + length (t ++ value ++ (1 ∷ [])) = omega (arith, length-append (t ++ value) (1 ∷ []), length-append t value) in
    rw st
    (sym (value_is s v slot.shape (v + length value) end less (Some x) (sym (ap (value_in slot.shape v) cut ∙ e)))
    ∙ ap (λ (k : ℕ). found x k) last)

-- ---- a row that fits its slots

-- a value as it is read back at a place: a text stands in the report
abbrev pub moved : List ℕ → List ℕ → ℕ → Value → Value
moved sent stored place Absent = Absent
moved sent stored place (Number n) = Number n
moved sent stored place (Char c) = Char c
moved sent stored place (Word w x y z) = Word w x y z
moved sent stored place (Sent from len) = Sent place (length (part_at sent from len))
moved sent stored place (Stored from len) = Sent place (length (part_at stored from len))
moved sent stored place (Level q level) = Level q level
moved sent stored place (Mean q mean) = Mean q mean

-- a field is one of the slot's
pub record Fit (sent stored : List ℕ) (slot : Slot) (f : Field) : Type 0 where
  pub tag_is : f.tag ≡ slot.tag
  pub here : is_absent f.value ≡ false
  pub proper : Proper slot.shape
  pub picked : (place : ℕ) → value_in slot.shape place (value_bytes sent stored f.value) ≡ Some (moved sent stored place f.value)

-- fields slot by slot; one that may be missing is, and what follows has another tag
pub data Fits (sent stored post : List ℕ) : List Slot → List Field → Type 0 where
  fits_none : Fits sent stored post [] []
  fits_some : {slot : Slot} {f : Field} {slots : List Slot} {fs : List Field} → Fit sent stored slot f → Fits sent stored post slots fs
      → Fits sent stored post (slot ∷ slots) (f ∷ fs)
  fits_skip : {slot : Slot} {f : Field} {slots : List Slot} {fs : List Field} → f ≡ field slot.tag Absent → slot.optional ≡ true
      → starts (label slot.tag) (row_bytes sent stored fs ++ post) ≡ false → Fits sent stored post slots fs
      → Fits sent stored post (slot ∷ slots) (f ∷ fs)

-- the fields as they are read back from place at on
abbrev pub backs : List ℕ → List ℕ → ℕ → List Field → List Field
backs sent stored at [] = []
backs sent stored at (f ∷ fs) =
    field f.tag (moved sent stored (at + length (label f.tag)) f.value) ∷ backs sent stored (at + length (field_bytes sent stored f)) fs

skip_back : (pre rest : List ℕ) (slot : Slot) → slot.optional ≡ true → starts (label slot.tag) rest ≡ false
    → field_at (pre ++ rest) (length pre) slot ≡ found Absent (length pre)
unfolding field_at
skip_back pre rest slot o e = rw (ap (starts (label slot.tag)) (drop_at pre rest (length pre) refl) ∙ e, o)

pub fit_bytes : (sent stored : List ℕ) (slot : Slot) (f : Field) → Fit sent stored slot f → field_bytes sent stored f ≡ written slot.tag (value_bytes sent stored f.value)
unfolding field_bytes
fit_bytes sent stored slot f p = rw (p.here, p.tag_is)

fit_taken : (sent stored : List ℕ) (slot : Slot) (f : Field) (place : ℕ) → Fit sent stored slot f
    → Taken (value_bytes sent stored f.value) (width_of slot.shape) place (moved sent stored place f.value)
fit_taken sent stored slot f place p = taken slot.shape place (value_bytes sent stored f.value) (moved sent stored place f.value) p.proper (p.picked place)

pub rows_back : (sent stored post pre : List ℕ) (slots : List Slot) (fs : List Field) → Fits sent stored post slots fs
    → read_row (pre ++ (row_bytes sent stored fs ++ post)) (length pre) slots ≡ row (backs sent stored (length pre) fs) (length pre + length (row_bytes sent stored fs))
unfolding field_bytes field_at label
rows_back sent stored post pre slots fs fits_none = ap (λ (k : ℕ). row [] k) (sym (add-zero (length pre)))
rows_back sent stored post pre slots fs (fits_skip {slot} {f} {slots = ss} {fs = gs} fe o e p) =
    subst (λ (g : Field). read_row (pre ++ ((field_bytes sent stored g ++ row_bytes sent stored gs) ++ post)) (length pre) (slot ∷ ss)
    ≡ row (backs sent stored (length pre) (g ∷ gs)) (length pre + length (field_bytes sent stored g ++ row_bytes sent stored gs))) (sym fe)
    (skipped (rows_back sent stored post pre ss gs p))
  where
    none : field_bytes sent stored (field slot.tag Absent) ≡ []
    none = field_none sent stored (field slot.tag Absent) refl

    skipped : read_row (pre ++ (row_bytes sent stored gs ++ post)) (length pre) ss ≡ row (backs sent stored (length pre) gs) (length pre + length (row_bytes sent stored gs))
        → read_row (pre ++ ((field_bytes sent stored (field slot.tag Absent) ++ row_bytes sent stored gs) ++ post)) (length pre) (slot ∷ ss)
        ≡ row (backs sent stored (length pre) (field slot.tag Absent ∷ gs)) (length pre + length (field_bytes sent stored (field slot.tag Absent) ++ row_bytes sent stored gs))
    skipped ih =
        rw none
        (ap (λ g. next_rows slot.tag g (λ n. read_row (pre ++ (row_bytes sent stored gs ++ post)) n ss)) (skip_back pre (row_bytes sent stored gs ++ post) slot o e)
        ∙ ap (cons_row (field slot.tag Absent)) ih
        ∙ ap (λ (k : ℕ). row (field slot.tag Absent ∷ backs sent stored k gs) (length pre + length (row_bytes sent stored gs))) (sym (add-zero (length pre))))
rows_back sent stored post pre slots fs (fits_some {slot} {f} {slots = ss} {fs = gs} p r) =
    let b = field_bytes sent stored f in
    let t = row_bytes sent stored gs in
    let s = pre ++ ((b ++ t) ++ post) in
    let v = value_bytes sent stored f.value in
    let s_is : s ≡ pre ++ (b ++ (t ++ post)) = simp append_assoc in
    let s_is₂ : s ≡ (pre ++ b) ++ (t ++ post) = simp append_assoc in
    let next : length (pre ++ b) ≡ length pre + length b = length-append pre b in
    let last : length pre + length (b ++ t) ≡ length (pre ++ b) + length t = omega (arith, next, length-append b t) in
    let y = moved sent stored (length pre + length (label slot.tag)) f.value in
    let clean = (fit_taken sent stored slot f 0 p).clean in
    let one : field_at s (length pre) slot ≡ found y (length pre + length b) =
    rw (s_is, fit_bytes sent stored slot f p) (field_back pre v (t ++ post) slot y clean (p.picked (length pre + length (label slot.tag)))) in
    let rest : read_row s (length pre + length b) ss ≡ row (backs sent stored (length pre + length b) gs) (length pre + length (b ++ t)) =
    rw (last, s_is₂, ← next) (rows_back sent stored post (pre ++ b) ss gs r) in
    ap (λ g. next_rows slot.tag g (λ n. read_row s n ss)) one
    ∙ ap (cons_row (field slot.tag y)) rest
    ∙ ap (λ (g : ℕ). row (field g (moved sent stored (length pre + length (label g)) f.value) ∷ backs sent stored (length pre + length b) gs) (length pre + length (b ++ t))) (sym p.tag_is)

-- ---- how long a row is at most
written_is : (tag : ℕ) (v : List ℕ) → written tag v ≡ label tag ++ v ++ (1 ∷ [])
unfolding written
written_is tag v = refl

abbrev pub widths : List Slot → ℕ
widths [] = 0
widths (slot ∷ slots) = length (label slot.tag) + width_of slot.shape + 1 + widths slots

pub fits_short : (sent stored post : List ℕ) (slots : List Slot) (fs : List Field) → Fits sent stored post slots fs → length (row_bytes sent stored fs) ≤ widths slots
fits_short sent stored post slots fs fits_none = zero-le
fits_short sent stored post slots fs (fits_skip {slot} {f} {slots = ss} {fs = gs} fe o e p) =
    let none : field_bytes sent stored f ≡ [] = ap (field_bytes sent stored) fe ∙ field_none sent stored (field slot.tag Absent) refl in
    omega (arith, length-append (field_bytes sent stored f) (row_bytes sent stored gs), ap length none, fits_short sent stored post ss gs p)
fits_short sent stored post slots fs (fits_some {slot} {f} {slots = ss} {fs = gs} p r) =
    let v = value_bytes sent stored f.value in
    let bytes : field_bytes sent stored f ≡ label slot.tag ++ v ++ (1 ∷ []) = fit_bytes sent stored slot f p ∙ written_is slot.tag v in
    omega (
      arith,
      length-append (field_bytes sent stored f) (row_bytes sent stored gs),
      ap length bytes,
      length-append (label slot.tag ++ v) (1 ∷ []),
      length-append (label slot.tag) v,
      (fit_taken sent stored slot f 0 p).few,
      fits_short sent stored post ss gs r,
    )

-- ---- a whole report

-- where the body begins
abbrev pub start : List ℕ → ℕ
start body = length (written 8 version ++ written 9 (decimal (length body)))

ten : length (written 8 version) ≡ 10
unfolding written label version decimal
ten = refl

length_back : (body : List ℕ) → 1 ≤ length body → length body ≤ 489 → field_at (report_bytes body) 10 length_slot ≡ found (Number (length body)) (start body)
unfolding report_bytes front
length_back body l h =
    let n = length body in
    let tail = trailer (check_sum (written 8 version ++ written 9 (decimal n) ++ body)) in
    let s_is : written 8 version ++ written 9 (decimal n) ++ body ++ tail ≡ written 8 version ++ (written 9 (decimal n) ++ (body ++ tail)) = simp append_assoc in
    let says : within 1 999 (bare_of 9 (decimal n)) ≡ Some n = rw (bare_back 8 n (omega arith) (omega arith)) (simp (le-leb 1 n l, le-leb n 999 (omega arith))) in
    let picked : (place : ℕ) → value_in length_slot.shape place (decimal n) ≡ Some (Number n) = λ place. ap number_in says in
    let clean = (taken length_slot.shape 0 (decimal n) (Number n) tt (picked 0)).clean in
    ap (λ (s : List ℕ). field_at s 10 length_slot) s_is
    ∙ ap (λ (k : ℕ). field_at (written 8 version ++ (written 9 (decimal n) ++ (body ++ tail))) k length_slot) (sym ten)
    ∙ field_back (written 8 version) (decimal n) (body ++ tail) length_slot (Number n) clean (picked (length (written 8 version) + length (label 9)))
    ∙ ap (λ (k : ℕ). found (Number n) k) (sym (length-append (written 8 version) (written 9 (decimal n))))

body_back : (body : List ℕ) → 1 ≤ length body → length body ≤ 489 → body_at (report_bytes body) ≡ part (start body) (length body)
unfolding body_at report_bytes front
body_back body l h =
    let n = length body in
    let tail = trailer (check_sum (written 8 version ++ written 9 (decimal n) ++ body)) in
    let s = written 8 version ++ written 9 (decimal n) ++ body ++ tail in
    let s_is : s ≡ written 8 version ++ (written 9 (decimal n) ++ (body ++ tail)) = simp append_assoc in
    let st : starts (written 8 version) s ≡ true = ap (starts (written 8 version)) s_is ∙ starts_back (written 8 version) (written 9 (decimal n) ++ (body ++ tail)) in
    let len : start body + n ≤ length s =
    omega (arith, length-append (written 8 version ++ written 9 (decimal n) ++ body) tail, length-append (written 8 version ++ written 9 (decimal n)) body) in
    rw (st, length_back body l h) (simp (le-leb (start body + n) (length s) len))

framed_in : (s : List ℕ) (slots : List Slot) (from len : ℕ) → body_at s ≡ part from len → read_framed s slots ≡ checked s (from + len) (read_row s from slots)
unfolding read_framed
framed_in s slots from len e = rw e

-- a written report is read back: its fields, each text where it stands in the report
pub framed_back : (sent stored : List ℕ) (slots : List Slot) (fs : List Field) → 1 ≤ length (row_bytes sent stored fs) → length (row_bytes sent stored fs) ≤ 489
    → Fits sent stored (trailer (check_sum (front (row_bytes sent stored fs)))) slots fs
    → read_framed (report_bytes (row_bytes sent stored fs)) slots
    ≡ row (backs sent stored (start (row_bytes sent stored fs)) fs) (start (row_bytes sent stored fs) + length (row_bytes sent stored fs))
unfolding report_bytes front trailer_at
framed_back sent stored slots fs l h f =
    let body = row_bytes sent stored fs in
    let n = length body in
    let pre = written 8 version ++ written 9 (decimal n) in
    let tail = trailer (check_sum (pre ++ body)) in
    let s = pre ++ body ++ tail in
    let s_is : s ≡ pre ++ (body ++ tail) = append_assoc pre body tail in
    let read : read_row s (start body) slots ≡ row (backs sent stored (start body) fs) (start body + n) =
    ap (λ (w : List ℕ). read_row w (start body) slots) s_is ∙ rows_back sent stored tail pre slots fs f in
    let end : length (pre ++ body) ≡ start body + n = length-append pre body in
    let before : take (start body + n) s ≡ pre ++ body = take_at (pre ++ body) tail (start body + n) end in
    let after : drop (start body + n) s ≡ tail = drop_at (pre ++ body) tail (start body + n) end in
    let sum : same_bytes (drop (start body + n) s) (trailer (check_sum (take (start body + n) s))) ≡ true = rw (before, after) (same_back tail) in
    framed_in s slots (start body) n (body_back body l h)
    ∙ ap (checked s (start body + n)) read
    ∙ simp (eq-eqb (start body + n) (start body + n) refl, sum)

-- ---- where a value is read back says nothing of whether it is there
moved_absent : (sent stored : List ℕ) (place : ℕ) (v : Value) → is_absent (moved sent stored place v) ≡ is_absent v
moved_absent sent stored place Absent = refl
moved_absent sent stored place (Number n) = refl
moved_absent sent stored place (Char c) = refl
moved_absent sent stored place (Word w x y z) = refl
moved_absent sent stored place (Sent from len) = refl
moved_absent sent stored place (Stored from len) = refl
moved_absent sent stored place (Level q level) = refl
moved_absent sent stored place (Mean q mean) = refl

module _ (sent stored : List ℕ) where
  backs_absent : (at i : ℕ) (fs : List Field) → is_absent (get_or (backs sent stored at fs) i (field 0 Absent)).value ≡ is_absent (get_or fs i (field 0 Absent)).value
  backs_absent at i [] = refl
  backs_absent at zero (f ∷ fs) = moved_absent sent stored (at + length (label f.tag)) f.value
  backs_absent at (suc i) (f ∷ fs) = backs_absent (at + length (field_bytes sent stored f)) i fs

  agreed_back : (k : Kind) (at : ℕ) (fs : List Field) → agreed k (backs sent stored at fs) ≡ agreed k fs
  unfolding one_reason
  agreed_back Accepted at fs = refl
  agreed_back Replaced at fs = refl
  agreed_back Canceled at fs = rw (backs_absent at 16 fs, backs_absent at 27 fs)
  agreed_back Trade at fs = refl
  agreed_back Rejected at fs = refl
  agreed_back CancelReject at fs = refl
  agreed_back SessionReject at fs = refl
  agreed_back Refused at fs = refl

  -- what is read of a row that fits the slots, as a report of a kind that its fields agree with
  pub reading_back : (k : Kind) (slots : List Slot) (fs : List Field) → ((sum : ℕ) → Fits sent stored (trailer sum) slots fs)
      → 1 ≤ length (row_bytes sent stored fs) → length (row_bytes sent stored fs) ≤ 489 → agreed k fs ≡ true
      → reading_of k (read_framed (report_bytes (row_bytes sent stored fs)) slots) ≡ record { kind = k; fields = backs sent stored (start (row_bytes sent stored fs)) fs }
  reading_back k slots fs f some short a =
      let body = row_bytes sent stored fs in
      ap (reading_of k) (framed_back sent stored slots fs some short (f (check_sum (front body))))
      ∙ rw (agreed_back k (start body) fs ∙ a)
