-- What a copy is to its report (document 02, T-01), of every kind that is copied, with any number of a feed and any text of 109 that its
-- settings can give: it has at most 512 bytes; it is read as a copy of the report's kind; every field but 34, 17, 109 and 797, and of a
-- Fill or Kill 59 and 110 (T-05), has the report's own bytes, and these have the number, the number, the text and Y, and 3 and 38's value.
-- 8, 9 and 10 are those of every report.
use Prim.Native.Nat.{ℕ, zero, suc, ◌+◌, ◌≤◌}
use mathlib.Core.Path.{◌≡◌, refl, sym, ap, ◌∙◌, subst}
use mathlib.Core.Bool.{true, false, false≢true}
use mathlib.Core.List.{List, [], ◌∷◌, ◌++◌}
use native.Mathlib.Omega.{arith}
use lib.Dec.{eqb}
use lib.ListN.{length, take, drop, get_or, take-append-drop, length-append}
use lib.Seq.{take-length}
use borrow.Author.Tests.{not-true}
use Rattle.octets.specs.Octets.{part_at}
use Rattle.octets.proofs.Bools.{split}
use Rattle.decimal.specs.Writing.{decimal}
use Rattle.decimal.specs.declared.Instrument.{Instrument}
use Rattle.report.specs.declared.Value.{Value}
use Rattle.report.specs.declared.Value.TheVariants.{Absent, Number, Char, Stored}
use Rattle.report.specs.declared.Field.{Field}
use Rattle.report.specs.declared.Slot.{Slot}
use Rattle.report.specs.declared.Kind.{Kind}
use Rattle.report.specs.declared.Kind.TheVariants.{Refused}
use Rattle.report.specs.declared.Reading.{Reading}
use Rattle.report.specs.Fields.{field, value_bytes, field_bytes, row_bytes}
use Rattle.report.specs.Frame.{trailer}
use Rattle.report.specs.Parse.{Rows, row, bad}
use Rattle.report.specs.Slots.{unused, slots_of}
use Rattle.report.specs.Reports.{kind_for, kind_of, agreed, reading_of, read_framed, read_of}
use Rattle.report.proofs.Bytes.{report_length, length_written}
use Rattle.report.proofs.Frames.{body_within}
use Rattle.report.proofs.Only.{framed_found, framed_only}
use Rattle.report.proofs.Back.{fit_bytes, backs, start, reading_back}
use Rattle.report.proofs.Tables.{row_short as report_short}
use Rattle.report.proofs.ReadOnly.{kinds_proper}
use Rattle.report.proofs.Texts.{read_there}
use Rattle.feed.specs.Rows.{is_four, is_fill_or_kill, value_of, ioc_value, shown_row, copy_value, copy_row, copy_slots}
use Rattle.feed.specs.Settings.{copied_by}
use Rattle.feed.specs.Copies.{is_none, copy_bytes, copy_kind, read_copy_of}
use Rattle.feed.specs.Kept.{at_tag, is_kept}
use Rattle.feed.proofs.Filled.{Filled, filled_none, filled_some, filled_skip, filled_front, filled_fits, read_fills, read_says, unused_never, first_byte, head_in, kind_in}
use Rattle.feed.proofs.Shown.{through, Tagged, filled_tagged, kept_other, shown_kept, shown_new, back_four, shown_slots, shown_fills}
use Rattle.feed.proofs.Copied.{Given, row_fills, row_fits, row_short, woven_kept, last_kept, woven_new, woven_797, report_distinct, last_unused, begins, Copyable, kinds_copyable, agreed_kept}

-- ---- what Read takes
record Opened (k : Kind) (rows : Rows) : Type 0 where
  pub next : ℕ
  pub is_row : rows ≡ row (reading_of k rows).fields next
  pub is_kind : (reading_of k rows).kind ≡ k
  pub agrees : agreed k (reading_of k rows).fields ≡ true

reading_opened : (k : Kind) (rows : Rows) → is_none (reading_of k rows).kind ≡ false → Opened k rows
reading_opened k (row fs n) e =
    split (agreed k fs)
    (λ t. record { next = n; is_row = rw t; is_kind = rw t; agrees = rw t t })
    (λ t. let z : is_none Refused ≡ false = rw t at e in absurd (false≢true (sym z)))
reading_opened k bad e = absurd (false≢true (sym e))

filled_back : (s stored : List ℕ) (n : ℕ) (slots : List Slot) (fs : List Field) → Filled s stored slots fs → Filled s stored (drop n slots) (drop n fs)
filled_back s stored zero slots fs p = p
filled_back s stored (suc n) slots fs filled_none = filled_none
filled_back s stored (suc n) slots fs (filled_some {slots = ss} {fs = gs} p r) = filled_back s stored n ss gs r
filled_back s stored (suc n) slots fs (filled_skip {slots = ss} {fs = gs} e o r) = filled_back s stored n ss gs r

no_field : (s stored : List ℕ) (fs : List Field) → Filled s stored [] fs → fs ≡ []
no_field s stored fs filled_none = refl

only_unused : (s stored : List ℕ) (fs : List Field) → Filled s stored (unused ∷ []) fs → fs ≡ field 0 Absent ∷ []
only_unused s stored fs (filled_some {f} p r) = absurd (false≢true (sym (unused_never s stored unused f p)))
only_unused s stored fs (filled_skip {fs = gs} e o r) = ap (λ (f : Field). f ∷ gs) e ∙ ap (λ (l : List Field). field 0 Absent ∷ l) (no_field s stored gs r)

some_bytes : (s stored : List ℕ) (slots : List Slot) (fs : List Field) → Filled s stored slots fs → begins slots ≡ true → 1 ≤ length (row_bytes s stored fs)
some_bytes s stored slots fs filled_none e = absurd (false≢true e)
some_bytes s stored slots fs (filled_some {slot} {f} {fs = gs} p r) e =
    omega (
      arith,
      length-append (field_bytes s stored f) (row_bytes s stored gs),
      ap length (fit_bytes s stored slot f p),
      length_written slot.tag (value_bytes s stored f.value),
    )
some_bytes s stored slots fs (filled_skip {slot} x o r) e = absurd (false≢true (sym (not-true slot.optional e) ∙ o))

-- what the fields say of a tag where they are read back, if each says it
back_says : (sent stored : List ℕ) {B : Type 0} (f h : Value → B) (none : B) (g at : ℕ) (fs : List Field)
    → ((i : ℕ) → f (get_or (backs sent stored at fs) i (field 0 Absent)).value ≡ h (get_or fs i (field 0 Absent)).value)
    → at_tag f none g (backs sent stored at fs) ≡ at_tag h none g fs
back_says sent stored f h none g at [] p = refl
back_says sent stored f h none g at (x ∷ fs) p =
    split (eqb x.tag g)
    (λ t. rw t (p 0))
    (λ t. rw t (back_says sent stored f h none g (at + length (field_bytes sent stored x)) fs (λ i. p (suc i))))

module _ (q : Instrument) (report : List ℕ) (some : is_none (read_of q report).kind ≡ false) where
  abbrev kind : Kind
  kind = (read_of q report).kind

  abbrev fields : List Field
  fields = (read_of q report).fields

  opened : Opened (kind_of report) (read_framed report (slots_of q (kind_of report)))
  unfolding read_of
  opened = reading_opened (kind_of report) (read_framed report (slots_of q (kind_of report))) some

  by_type : kind_of report ≡ kind
  unfolding read_of
  by_type = sym opened.is_kind

  framed : read_framed report (slots_of q kind) ≡ row fields opened.next
  unfolding read_of
  framed = ap (λ (k : Kind). read_framed report (slots_of q k)) (sym by_type) ∙ opened.is_row

  agrees : agreed kind fields ≡ true
  unfolding read_of
  agrees = ap (λ (k : Kind). agreed k fields) (sym by_type) ∙ opened.agrees

  -- the row that was read fills its kind's slots
  pub fills : (stored : List ℕ) → Filled report stored (slots_of q kind) fields
  fills stored =
      let f = framed_found report (slots_of q kind) fields opened.next framed in
      read_fills report stored f.from (slots_of q kind) fields opened.next (omega (arith, body_within report f.from f.len f.body)) (kinds_proper q kind) f.fields

  -- with 59 and 110 as a copy shows them
  abbrev shown : List Field
  shown = shown_row fields

  last : shown ≡ take 35 shown ++ (field 0 Absent ∷ [])
  last =
      let p = filled_back report [] 35 (shown_slots q kind) shown (shown_fills report [] q kind fields (fills [])) in
      sym (take-append-drop 35 shown)
      ∙ ap (λ (l : List Field). take 35 shown ++ l) (only_unused report [] (drop 35 shown) (subst (λ (l : List Slot). Filled report [] l (drop 35 shown)) (last_unused q kind) p))

  module _ (client : List ℕ) (number : ℕ) (given : Given q report client number) where
    abbrev copied : List Field
    copied = copy_row number (length client) fields

    abbrev copy : List ℕ
    copy = copy_bytes report number client fields

    -- ---- its length
    pub row_few : length (row_bytes report client copied) ≤ 489
    row_few = row_short q report client number given kind fields (fills client)

    pub at_most_512 : length copy ≤ 512
    unfolding copy_bytes
    at_most_512 = report_length (row_bytes report client copied) row_few

    -- what the row says of a tag that is kept
    row_shown : {B : Type 0} (h : Value → B) (none : B) (g : ℕ) → is_kept false g ≡ true → at_tag h none g copied ≡ at_tag h none g shown
    unfolding copy_row
    row_shown h none g k =
        woven_kept h none g k number (length client) (take 35 shown)
        ∙ sym (ap (at_tag h none g) last ∙ last_kept h none g k number (length client) (take 35 shown))

    pub row_kept : {B : Type 0} (h : Value → B) (none : B) (g : ℕ) → is_kept (is_fill_or_kill fields) g ≡ true → at_tag h none g copied ≡ at_tag h none g fields
    row_kept h none g k = row_shown h none g (kept_other (is_fill_or_kill fields) g k) ∙ shown_kept h none g fields k

    -- ---- its kind
    module _ (c : copied_by 2 kind ≡ true) where
      table : Copyable q (slots_of q kind)
      table = kinds_copyable q kind c

      was : kind_of report ≡ kind_for (head_in report client 35 fields) (head_in report client 150 fields)
      was =
          ap kind_of (framed_only report client (slots_of q kind) fields opened.next (kinds_proper q kind) framed)
          ∙ kind_in report client (slots_of q kind) fields (fills client)
          (report_short q kind report client (trailer 0) fields (filled_fits report client 0 (slots_of q kind) fields (fills client) (report_distinct q kind)))
          table.type_told table.status_told

      pub kind_kept : kind_of copy ≡ kind
      unfolding copy_bytes is_kept
      kind_kept =
          kind_in report client (copy_slots q (slots_of q kind)) copied (row_fills q report client number given kind fields (fills client)) row_few table.copy_type table.copy_status
          ∙ ap (λ (a : ℕ). kind_for a (head_in report client 150 copied)) (row_kept (first_byte report client) 0 35 refl)
          ∙ ap (kind_for (head_in report client 35 fields)) (row_kept (first_byte report client) 0 150 refl)
          ∙ sym was
          ∙ by_type

      -- ---- it is read as a copy of this kind, with the fields of its row
      pub is_read : read_copy_of q copy ≡ record { kind = kind; fields = backs report client (start (row_bytes report client copied)) copied }
      unfolding read_copy_of copy_bytes
      is_read =
          let same : copy_kind kind ≡ kind = rw c in
          ap (λ (k : Kind). reading_of (copy_kind k) (read_framed copy (copy_slots q (slots_of q (copy_kind k))))) kind_kept
          ∙ ap (λ (k : Kind). reading_of k (read_framed copy (copy_slots q (slots_of q k)))) same
          ∙ reading_back report client kind (copy_slots q (slots_of q kind)) copied (row_fits q report client number given kind fields (fills client))
          (some_bytes report client (copy_slots q (slots_of q kind)) copied (row_fills q report client number given kind fields (fills client)) table.first)
          row_few
          (agreed_kept report client number (length client) q kind fields (fills client) ∙ agrees)

      -- ---- its fields, tag by tag, as read_copy and Read give them
      abbrev as_read : List Field
      as_read = (read_copy_of q copy).fields

      says : (g : ℕ) → at_tag (value_bytes copy []) [] g as_read ≡ at_tag (value_bytes report client) [] g copied
      unfolding copy_bytes
      says g =
          ap (λ (r : Reading). at_tag (value_bytes copy []) [] g r.fields) is_read
          ∙ back_says report client (value_bytes copy []) (value_bytes report client) [] g (start (row_bytes report client copied)) copied (λ i. read_there report client [] copied i)

      own_bytes : (g : ℕ) → at_tag (value_bytes report client) [] g fields ≡ at_tag (value_bytes report []) [] g fields
      own_bytes g =
          let f = framed_found report (slots_of q kind) fields opened.next framed in
          read_says report client [] g f.from (slots_of q kind) fields opened.next f.fields

      -- every field but 34, 17, 109 and 797, and of a Fill or Kill 59 and 110, has the report's own bytes
      pub all_else_kept : (g : ℕ) → is_kept (is_fill_or_kill fields) g ≡ true → at_tag (value_bytes copy []) [] g as_read ≡ at_tag (value_bytes report []) [] g fields
      all_else_kept g k =
          says g ∙ row_kept (value_bytes report client) [] g k ∙ own_bytes g

      -- and these four are the feed's
      tagged : Tagged (take 35 (shown_slots q kind)) (take 35 shown)
      tagged = filled_tagged report client (take 35 (shown_slots q kind)) (take 35 shown) (filled_front report client 35 (shown_slots q kind) shown (shown_fills report client q kind fields (fills client)))

      pub row_34 : {B : Type 0} (h : Value → B) (none : B) → at_tag h none 34 copied ≡ h (Number number)
      unfolding copy_row copy_value
      row_34 h none = woven_new h none number (length client) 34 (Number number) (λ old. refl) (take 35 (shown_slots q kind)) (take 35 shown) tagged table.has_34

      pub row_17 : {B : Type 0} (h : Value → B) (none : B) → at_tag h none 17 copied ≡ h (Number number)
      unfolding copy_row copy_value
      row_17 h none = woven_new h none number (length client) 17 (Number number) (λ old. refl) (take 35 (shown_slots q kind)) (take 35 shown) tagged table.has_17

      row_109 : at_tag (value_bytes report client) [] 109 copied ≡ value_bytes report client (Stored 0 (length client))
      unfolding copy_row copy_value
      row_109 = woven_new (value_bytes report client) [] number (length client) 109 (Stored 0 (length client)) (λ old. refl) (take 35 (shown_slots q kind)) (take 35 shown) tagged table.has_109

      row_797 : at_tag (value_bytes report client) [] 797 copied ≡ 89 ∷ []
      unfolding copy_row
      row_797 = woven_797 (value_bytes report client) [] number (length client) (take 35 (shown_slots q kind)) (take 35 shown) tagged table.not_797

      pub number_34 : at_tag (value_bytes copy []) [] 34 as_read ≡ decimal number
      number_34 = says 34 ∙ row_34 (value_bytes report client) []

      pub number_17 : at_tag (value_bytes copy []) [] 17 as_read ≡ decimal number
      number_17 = says 17 ∙ row_17 (value_bytes report client) []

      pub client_109 : at_tag (value_bytes copy []) [] 109 as_read ≡ client
      unfolding part_at
      client_109 = says 109 ∙ row_109 ∙ take-length client

      pub yes_797 : at_tag (value_bytes copy []) [] 797 as_read ≡ 89 ∷ []
      yes_797 = says 797 ∙ row_797

      -- ---- a Fill or Kill is shown as Immediate or Cancel, its minimum the quantity that it has in report and copy
      module _ (kill : is_fill_or_kill fields ≡ true) where
        row_59 : {B : Type 0} (h : Value → B) (none : B) → at_tag h none 59 copied ≡ h (Char 51)
        unfolding is_kept ioc_value
        row_59 h none = row_shown h none 59 refl ∙ shown_new h none 59 fields (Char 51) kill (λ old. refl) (slots_of q kind) (filled_tagged report client (slots_of q kind) fields (fills client)) table.has_59

        row_110 : {B : Type 0} (h : Value → B) (none : B) → at_tag h none 110 copied ≡ h (value_of 38 fields)
        unfolding is_kept ioc_value
        row_110 h none =
            row_shown h none 110 refl
            ∙ shown_new h none 110 fields (value_of 38 fields) kill (λ old. refl) (slots_of q kind) (filled_tagged report client (slots_of q kind) fields (fills client)) table.has_110

        pub ioc_59 : at_tag (value_bytes copy []) [] 59 as_read ≡ 51 ∷ []
        ioc_59 = says 59 ∙ row_59 (value_bytes report client) []

        pub minimum_110 : at_tag (value_bytes copy []) [] 110 as_read ≡ at_tag (value_bytes report []) [] 38 fields
        minimum_110 = says 110 ∙ row_110 (value_bytes report client) [] ∙ through (value_bytes report client) 38 fields ∙ own_bytes 38

        pub minimum_38 : at_tag (value_bytes copy []) [] 110 as_read ≡ at_tag (value_bytes copy []) [] 38 as_read
        unfolding is_kept
        minimum_38 = minimum_110 ∙ sym (all_else_kept 38 refl)

      -- so no copy shows a Fill or Kill
      row_not_four : is_fill_or_kill copied ≡ false
      unfolding is_fill_or_kill is_kept
      row_not_four =
          split (is_fill_or_kill fields)
          (λ t. row_59 t is_four false)
          (λ t. let k : is_kept (is_fill_or_kill fields) 59 ≡ true = rw t in row_kept is_four false 59 k ∙ t)

      pub never_four : is_fill_or_kill as_read ≡ false
      never_four = ap (λ (r : Reading). is_fill_or_kill r.fields) is_read ∙ back_four report client (start (row_bytes report client copied)) copied ∙ row_not_four
