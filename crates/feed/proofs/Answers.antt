-- What a feed answers and leaves: what each answer rests on, and what writing the copy asks for.
use Prim.Native.Nat.{ℕ, ◌+◌, ◌≤◌, ◌<◌}
use mathlib.Core.Path.{◌≡◌, sym, ap, ◌∙◌, subst}
use mathlib.Core.Bool.{Bool, true, false, ◌||◌}
use mathlib.Core.List.{List}
use native.Mathlib.Omega.{arith}
use native.Mathlib.Nat.{le_trans}
use lib.Dec.{eqb, ltb}
use lib.ListN.{length, take, replicate}
use mir.Syntax.{w64}
use mir.Val.{Fits}
use borrow.Author.Tests.{lt-ltb, le-ltb, eqb-false, ltb-false}
use Rattle.octets.specs.Octets.{put}
use Rattle.octets.specs.Written.{Wrote}
use Rattle.octets.proofs.Runs.{wrote_front}
use Rattle.octets.proofs.Bools.{neither_l, neither_r}
use Rattle.decimal.specs.declared.Instrument.{Instrument}
use Rattle.report.specs.declared.Field.{Field}
use Rattle.report.specs.declared.Slot.{Slot}
use Rattle.report.specs.declared.Kind.{Kind}
use Rattle.report.specs.declared.Reading.{Reading}
use Rattle.report.specs.Fields.{row_bytes}
use Rattle.report.specs.Frame.{report_bytes}
use Rattle.report.specs.Slots.{slots_of}
use Rattle.report.specs.Reports.{kind_of, read_framed, reading_of, read_of}
use Rattle.std.proofs.Common.{Result, Err}
use Rattle.refusals.specs.declared.Refusal.{Refusal}
use Rattle.refusals.specs.declared.Refusal.TheVariants as refusal
use Rattle.feed.specs.declared.Answer.{Answer}
use Rattle.feed.specs.Rows.{copy_row, copy_slots}
use Rattle.feed.specs.Settings.{client_of, is_setting, copied_by}
use Rattle.feed.specs.Copies.{Fed, unfed, not_copied as passed_over, copied as copied_so, fed_with, is_none, copy_bytes, fed, copy_kind, read_copy_of}
use Rattle.feed.proofs.Clients.{longest_most, setting_short, setting_text}
use Rattle.feed.proofs.Copied.{Given}
use Rattle.feed.proofs.Theorems.{row_few}

-- ---- writing a copy: the text of 109 in an array of its own
module _ {client text : List ℕ} {width : ℕ} (w : Wrote (replicate 30 0) 0 client width text) (h : length client ≤ 30) where
  text_is : take width text ≡ client
  text_is = wrote_front w (record { fits = omega (arith, h) })

  width_is : width ≡ length client
  width_is = omega (arith, w.place)

  pub text_width : width ≡ length (take width text)
  text_width = width_is ∙ sym (ap length text_is)

  module _ (report : List ℕ) (number : ℕ) (fields copied : List Field) (e : copied ≡ copy_row number width fields) where
    copied_is : row_bytes report (take width text) copied ≡ row_bytes report client (copy_row number (length client) fields)
    copied_is =
        ap (row_bytes report (take width text)) e
        ∙ ap (λ (t : List ℕ). row_bytes report t (copy_row number width fields)) text_is
        ∙ ap (λ (k : ℕ). row_bytes report client (copy_row number k fields)) width_is

    pub copied_room : length (row_bytes report client (copy_row number (length client) fields)) ≤ 489 → length (row_bytes report (take width text) copied) ≤ 489
    copied_room l = subst (λ (b : List ℕ). length b ≤ 489) (sym copied_is) l

    pub copied_wrote : {area after : List ℕ} {n : ℕ} → Wrote area 0 (report_bytes (row_bytes report (take width text) copied)) n after
        → Wrote area 0 (copy_bytes report number client fields) n after
    unfolding copy_bytes
    copied_wrote {area} {after} {n} v = subst (λ (b : List ℕ). Wrote area 0 (report_bytes b) n after) copied_is v

-- ---- the answers, in their order
module _ (q : Instrument) (report : List ℕ) (subscription shows : ℕ) (port group : List ℕ) (next : ℕ) (area : List ℕ) where
  abbrev all : Fed
  all = fed q report subscription shows port group next (length area)

  abbrev client : List ℕ
  client = client_of shows port group

  unfed_is : (a : Result Answer Refusal) → all ≡ unfed a → (a ≡ all.answer) × (area ≡ put area 0 all.bytes)
  unfolding put
  unfed_is a e = (sym (ap (λ (f : Fed). f.answer) e), sym (ap (λ (f : Fed). put area 0 f.bytes) e))

  no_room_is : length area < 1024 → all ≡ unfed (Err refusal.NoRoom)
  unfolding fed
  no_room_is h = rw (lt-ltb (length area) 1024 h)

  pub no_room : length area < 1024 → (Err refusal.NoRoom ≡ all.answer) × (area ≡ put area 0 all.bytes)
  no_room h = unfed_is (Err refusal.NoRoom) (no_room_is h)

  module _ (room : 1024 ≤ length area) (r : Reading) (re : r ≡ read_of q report) (t : Bool) (te : t ≡ is_none r.kind) where
    none_is : is_none (read_of q report).kind ≡ t
    none_is = sym (te ∙ ap (λ (x : Reading). is_none x.kind) re)

    no_report_is : t ≡ true → all ≡ unfed (Err refusal.NoReport)
    unfolding fed
    no_report_is y = rw (le-ltb (length area) 1024 room, none_is ∙ y)

    pub no_report : t ≡ true → (Err refusal.NoReport ≡ all.answer) × (area ≡ put area 0 all.bytes)
    no_report y = unfed_is (Err refusal.NoReport) (no_report_is y)

    module _ (some : t ≡ false) (u : Bool) (ue : u ≡ is_setting q subscription shows port group) where
      bad_setting_is : u ≡ false → all ≡ unfed (Err refusal.BadFeed)
      unfolding fed
      bad_setting_is y = rw (le-ltb (length area) 1024 room, none_is ∙ some, sym ue ∙ y)

      pub bad_setting : u ≡ false → (Err refusal.BadFeed ≡ all.answer) × (area ≡ put area 0 all.bytes)
      bad_setting y = unfed_is (Err refusal.BadFeed) (bad_setting_is y)

      module _ (set : u ≡ true) where
        set_is : is_setting q subscription shows port group ≡ true
        set_is = sym ue ∙ set

        spent_is : (eqb next 0 || ltb 999999999 next) ≡ true → all ≡ unfed (Err refusal.NumbersSpent)
        unfolding fed
        spent_is y = rw (le-ltb (length area) 1024 room, none_is ∙ some, set_is, y)

        pub spent : (eqb next 0 || ltb 999999999 next) ≡ true → (Err refusal.NumbersSpent ≡ all.answer) × (area ≡ put area 0 all.bytes)
        spent y = unfed_is (Err refusal.NumbersSpent) (spent_is y)

        module _ (left : (eqb next 0 || ltb 999999999 next) ≡ false) (v : Bool) (ve : v ≡ copied_by subscription r.kind) where
          copied_by_lem : copied_by subscription (read_of q report).kind ≡ v
          copied_by_lem = sym (ve ∙ ap (λ (x : Reading). copied_by subscription x.kind) re)

          not_copied_is : v ≡ false → all ≡ unfed (passed_over next)
          unfolding fed
          not_copied_is n = rw (le-ltb (length area) 1024 room, none_is ∙ some, set_is, left, copied_by_lem ∙ n)

          pub not_copied : v ≡ false → (passed_over next ≡ all.answer) × (area ≡ put area 0 all.bytes)
          not_copied n = unfed_is (passed_over next) (not_copied_is n)

          -- what writing asks for
          low : 1 ≤ next
          low = let z = eqb-false next 0 (neither_l (eqb next 0) (ltb 999999999 next) left) in omega (arith, z)

          high : next ≤ 999999999
          high = ltb-false 999999999 next (neither_r (eqb next 0) (ltb 999999999 next) left)

          pub next_fits : Fits w64 (next + 1)
          next_fits = record { fits = omega (arith, high) }

          given : Given q report client next
          given = record { low = low; high = high; text = setting_text q subscription shows port group set_is; short = setting_short q subscription shows port group set_is }

          pub client_short : length client ≤ 30
          client_short = le_trans (setting_short q subscription shows port group set_is) (longest_most q)

          pub row_room : length (row_bytes report client (copy_row next (length client) r.fields)) ≤ 489
          row_room =
              subst (λ (x : Reading). length (row_bytes report client (copy_row next (length client) x.fields)) ≤ 489) (sym re)
              (row_few q report (none_is ∙ some) client next given)

          pub area_room : 512 ≤ length area
          area_room = omega (arith, room)

          copied_is_all : v ≡ true → all ≡ fed_with next (copy_bytes report next client (read_of q report).fields)
          unfolding fed
          copied_is_all y = rw (le-ltb (length area) 1024 room, none_is ∙ some, set_is, left, copied_by_lem ∙ y)

          pub copied : v ≡ true → (n : ℕ) (after : List ℕ) → Wrote area 0 (copy_bytes report next client r.fields) n after
              → (copied_so n (next + 1) ≡ all.answer) × (after ≡ put area 0 all.bytes)
          copied y n after w =
              let e = copied_is_all y in
              let f = ap (λ (x : Reading). copy_bytes report next client x.fields) re in
              let place : n ≡ length (copy_bytes report next client r.fields) = omega (arith, w.place) in (
                ap (λ (k : ℕ). copied_so k (next + 1)) (place ∙ ap length f) ∙ sym (ap (λ (x : Fed). x.answer) e),
                w.bytes_in ∙ ap (put area 0) f ∙ sym (ap (λ (x : Fed). put area 0 x.bytes) e),
              )

-- ---- reading a copy
pub read_copy_is : (q : Instrument) (s : List ℕ) (j k : Kind) (slots copied : List Slot) (x : Reading) → j ≡ kind_of s → k ≡ copy_kind j → slots ≡ slots_of q k → copied ≡ copy_slots q slots
    → x ≡ reading_of k (read_framed s copied) → x ≡ read_copy_of q s
unfolding read_copy_of
read_copy_is q s j k slots copied x je ke se ce xe =
    xe
    ∙ ap (λ (l : List Slot). reading_of k (read_framed s l)) (ce ∙ ap (copy_slots q) se)
    ∙ ap (λ (i : Kind). reading_of i (read_framed s (copy_slots q (slots_of q i)))) (ke ∙ ap copy_kind je)
