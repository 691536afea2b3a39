-- The frame of a report: what each answer of its readers rests on.
use Prim.Native.Nat.{ℕ, ◌+◌, ◌-◌, ◌^◌, ◌≤◌, ◌<◌}
use mathlib.Core.Path.{◌≡◌, refl, sym, ap, ◌∙◌}
use mathlib.Core.Bool.{Bool, true, false, cond, not, ◌&&◌, and-false}
use mathlib.Core.List.{List, [], ◌∷◌}
use native.Mathlib.Omega.{arith}
use lib.Dec.{leb, eqb}
use lib.ListN.{length, take, drop, replicate, length-drop}
use lib.Seq.{take_all}
use mir.Syntax.{w64}
use mir.Val.{Fits}
use borrow.Author.Tests.{le-leb, lt-leb, leb-true, not-true, not-false}
use Rattle.octets.specs.Octets.{part_at, same_bytes}
use Rattle.octets.specs.Written.{Room}
use Rattle.octets.proofs.Bools.{split}
use Rattle.report.specs.declared.Value.TheVariants.{Absent, Number, Char, Word, Sent, Stored, Level, Mean}
use Rattle.report.specs.declared.Slot.{Slot}
use Rattle.report.specs.declared.Row.{Row}
use Rattle.report.specs.declared.Value.{Value}
use Rattle.report.specs.declared.Got.{Got}
use Rattle.fix.specs.declared.frame.Part.{Part}
use Rattle.report.specs.declared.Kind.{Kind}
use Rattle.report.specs.declared.Reading.{Reading}
use Rattle.report.specs.Fields.{label, written}
use Rattle.report.specs.Frame.{version, trailer, check_sum}
use Rattle.report.specs.Shapes.{number_in}
use Rattle.report.specs.Parse.{starts, len_to, field_at, Rows, row, bad, read_row, row_of, found}
use Rattle.report.specs.Reports.{part, length_is, length_in, length_slot, body_at, trailer_at, checked, read_framed, agreed, refused, reading_of}
use Rattle.report.proofs.Bytes.{version_bytes, trailer_length}
use Rattle.report.proofs.Labels.{starts_length}
use Rattle.report.proofs.Parses.{label_within, field_yes, field_wrong, value_none, value_yes, value_no}
use Rattle.decimal.specs.Writing.{decimal}
use Rattle.decimal.specs.Canonical.{bare_of, within}
use Rattle.std.proofs.Common.{Option, Some, None, option_map, option_and_then, unwrap_or}

-- ---- 9
module _ (g : Got) (len n : ℕ) (e : g.value ≡ Number len) where
  pub length_past : n < g.next → None ≡ length_in g n
  length_past h = rw e (simp (lt-leb (g.next + len) n (omega arith)))

  pub length_more : n - g.next < len → None ≡ length_in g n
  length_more l = rw e (simp (lt-leb (g.next + len) n (omega arith)))

  pub length_yes : g.next ≤ n → len ≤ n - g.next → part g.next len ≡ length_in g n
  length_yes h l = rw e (simp (le-leb (g.next + len) n (omega arith)))

-- a part is one place and one length
pub part_start : (a b m n : ℕ) → part a m ≡ part b n → a ≡ b
part_start a b m n e = ap (λ (p : Option Part). unwrap_or (option_map (λ q. q.start) p) 0) e

pub part_len : (a b m n : ℕ) → part a m ≡ part b n → m ≡ n
part_len a b m n e = ap (λ (p : Option Part). unwrap_or (option_map (λ q. q.len) p) 0) e

-- the body ends within the bytes
length_within : (v : Value) (next n from len : ℕ) → length_is v next n ≡ part from len → from + len ≤ n
length_within (Number k) next n from len e = by (leb (next + k) n) refl e
  where
    by : (t : Bool) → leb (next + k) n ≡ t → cond t (part next k) None ≡ part from len → from + len ≤ n
    by true p e = omega (arith, part_start next from k len e, part_len next from k len e, leb-true (next + k) n p)
    by false p e = let z : ◌≡◌ {A = ℕ} 0 1 = cc in absurd (omega arith)
length_within Absent next n from len e = let z : ◌≡◌ {A = ℕ} 0 1 = cc in absurd (omega arith)
length_within (Char c) next n from len e = let z : ◌≡◌ {A = ℕ} 0 1 = cc in absurd (omega arith)
length_within (Word w x y k) next n from len e = let z : ◌≡◌ {A = ℕ} 0 1 = cc in absurd (omega arith)
length_within (Sent f l) next n from len e = let z : ◌≡◌ {A = ℕ} 0 1 = cc in absurd (omega arith)
length_within (Stored f l) next n from len e = let z : ◌≡◌ {A = ℕ} 0 1 = cc in absurd (omega arith)
length_within (Level q l) next n from len e = let z : ◌≡◌ {A = ℕ} 0 1 = cc in absurd (omega arith)
length_within (Mean q l) next n from len e = let z : ◌≡◌ {A = ℕ} 0 1 = cc in absurd (omega arith)

got_within : (g : Option Got) (n from len : ℕ) → option_and_then (λ got. length_in got n) g ≡ part from len → from + len ≤ n
got_within (Some got) n from len e = length_within got.value got.next n from len e
got_within None n from len e = let z : ◌≡◌ {A = ℕ} 0 1 = cc in absurd (omega arith)

-- 9 as it stands behind 8
pub one_digit : 1 ≡ length (decimal 9)
unfolding decimal
one_digit = refl

module _ (s : List ℕ) (h : 10 ≤ length s) (t : Bool) (te : t ≡ starts (label 9) (drop 10 s)) where
  pub nine_not : t ≡ false → None ≡ field_at s 10 length_slot
  nine_not n = field_wrong s 10 length_slot 1 one_digit h t te n refl

  module _ (y : t ≡ true) where
    pub nine_within : 12 ≤ length s
    nine_within = label_within s 10 9 1 one_digit h t te y

    module _ (e : ℕ) (k : e ≡ 12 + len_to (drop 12 s)) where
      pub nine_none : length s ≤ e → None ≡ field_at s 10 length_slot
      nine_none l = field_yes s 10 length_slot 1 one_digit h t te y None (value_none s 12 length_slot.shape e k l)

      module _ (l : e < length s) (q : Option ℕ) (qe : q ≡ within 1 999 (bare_of 9 (take (e - 12) (drop 12 s)))) where
        pub nine_yes : (n : ℕ) → q ≡ Some n → found (Number n) (e + 1) ≡ field_at s 10 length_slot
        nine_yes n i =
            field_yes s 10 length_slot 1 one_digit h t te y (found (Number n) (e + 1))
            (value_yes s 12 length_slot.shape e k l (number_in q) (ap number_in qe) (Number n) (ap number_in i))

        pub nine_wrong : q ≡ None → None ≡ field_at s 10 length_slot
        nine_wrong i = field_yes s 10 length_slot 1 one_digit h t te y None (value_no s 12 length_slot.shape e k l (number_in q) (ap number_in qe) (ap number_in i))

-- ---- 8: the first bytes are the version's
pub same_starts : (p s : List ℕ) → same_bytes (take (length p) s) p ≡ starts p s
unfolding same_bytes
same_starts [] s = refl
same_starts (a ∷ p) [] = refl
same_starts (a ∷ p) (b ∷ s) = let ih = same_starts p s in split (eqb b a) (λ e. rw (e, ih)) (λ e. rw e)

module _ (s p : List ℕ) (pe : p ≡ part_at s 0 10) (t : Bool) (te : t ≡ same_bytes p (56 ∷ 61 ∷ 70 ∷ 73 ∷ 88 ∷ 46 ∷ 52 ∷ 46 ∷ 50 ∷ 1 ∷ [])) where
  begins : t ≡ starts (written 8 version) s
  unfolding part_at
  begins =
      te ∙ ap (λ (l : List ℕ). same_bytes l (56 ∷ 61 ∷ 70 ∷ 73 ∷ 88 ∷ 46 ∷ 52 ∷ 46 ∷ 50 ∷ 1 ∷ [])) pe
      ∙ same_starts (56 ∷ 61 ∷ 70 ∷ 73 ∷ 88 ∷ 46 ∷ 52 ∷ 46 ∷ 50 ∷ 1 ∷ []) s ∙ ap (λ (l : List ℕ). starts l s) version_bytes

  pub body_yes : t ≡ true → (g : Got) (f : Option Part) → field_at s 10 length_slot ≡ Some g → f ≡ length_in g (length s) → f ≡ body_at s
  unfolding body_at
  body_yes y g f ge fe = rw (sym begins ∙ y, ge) fe

  pub body_none : t ≡ true → field_at s 10 length_slot ≡ None → None ≡ body_at s
  unfolding body_at
  body_none y ge = rw (sym begins ∙ y, ge)

  pub body_not : t ≡ false → None ≡ body_at s
  unfolding body_at
  body_not n = rw (sym begins ∙ n)

  -- there are ten bytes
  pub ten_within : t ≡ true → 10 ≤ length s
  unfolding written label version decimal
  ten_within y = starts_length (written 8 version) s (sym begins ∙ y)

pub body_within : (s : List ℕ) (from len : ℕ) → body_at s ≡ part from len → from + len ≤ length s
unfolding body_at
body_within s from len e =
    split (starts (written 8 version) s)
    (λ t. got_within (field_at s 10 length_slot) (length s) from len (rw t at e))
    (λ t. let z : None ≡ part from len = rw t at e in let y : ◌≡◌ {A = ℕ} 0 1 = cc in absurd (omega arith))

-- ---- 10
pub trailer_room : (sum : ℕ) → Room (replicate 8 0) 0 (trailer sum)
trailer_room sum = record { fits = omega (arith, trailer_length sum) }

-- the bytes behind the body against what was written
module _ (s : List ℕ) (end : ℕ) (h : end ≤ length s) (sum : ℕ) (e : sum ≡ check_sum (take end s)) where
  pub trailer_is : (t : Bool) (x : List ℕ) → x ≡ trailer sum → t ≡ same_bytes (take (length s - end) (drop end s)) x → t ≡ trailer_at s end
  unfolding trailer_at
  trailer_is t x xe te =
      te ∙ ap (λ (l : List ℕ). same_bytes l x) (take_all (length s - end) (drop end s) (omega (arith, length-drop end s)))
      ∙ ap (same_bytes (drop end s)) (xe ∙ ap trailer e)

-- ---- the whole: a report of a kind, or none
module _ (s : List ℕ) (slots : List Slot) (k : Kind) where
  abbrev Read : Reading
  Read = reading_of k (read_framed s slots)

  pub frame_not : body_at s ≡ None → (x : Reading) → x ≡ refused → x ≡ Read
  unfolding read_framed
  frame_not e x xe = rw e xe

  module _ (body : Part) (e : body_at s ≡ Some body) where
    pub end_within : body.start + body.len ≤ length s
    end_within = body_within s body.start body.len e

    pub from_within : body.start ≤ length s
    from_within = omega (arith, end_within)

    pub end_fits : length s < 2 ^ 64 → Fits w64 (body.start + body.len)
    end_fits l = record { fits = omega (arith, end_within) }

    framed : read_framed s slots ≡ checked s (body.start + body.len) (read_row s body.start slots)
    unfolding read_framed
    framed = rw e

    module _ (t : Bool) (te : t ≡ trailer_at s (body.start + body.len)) where
      no_sum : (q : Rows) → trailer_at s (body.start + body.len) ≡ false → checked s (body.start + body.len) q ≡ bad
      no_sum (row fs n) u = rw (u, and-false (eqb n (body.start + body.len)))
      no_sum bad u = refl

      -- 10 is not true
      pub sum_not : not t ≡ true → (x : Reading) → x ≡ refused → x ≡ Read
      sum_not n x xe = xe ∙ sym (ap (reading_of k) (framed ∙ no_sum (read_row s body.start slots) (sym te ∙ not-true t n)))

      -- it is, and there is no row
      no_fields_lem : (q : Rows) → row_of q ≡ None → reading_of k (checked s (body.start + body.len) q) ≡ refused
      no_fields_lem (row fs n) z = let y : ◌≡◌ {A = ℕ} 0 1 = cc in absurd (omega arith)
      no_fields_lem bad z = refl

      pub row_none : None ≡ row_of (read_row s body.start slots) → (x : Reading) → x ≡ refused → x ≡ Read
      row_none z x xe = xe ∙ sym (ap (reading_of k) framed ∙ no_fields_lem (read_row s body.start slots) (sym z))

      -- it is: the fields fill the body, and are those of the kind
      module _ (y : not t ≡ false) (r : Row) (re : Some r ≡ row_of (read_row s body.start slots)) (a : Bool) (ae : a ≡ agreed k r.fields) where
        abbrev Told : Reading
        Told = cond (eqb r.next (body.start + body.len) && a) (record { kind = k; fields = r.fields }) refused

        by_row : (q : Rows) → row_of q ≡ Some r → trailer_at s (body.start + body.len) ≡ true → Told ≡ reading_of k (checked s (body.start + body.len) q)
        by_row (row fs n) z u =
            let i : record { next = n; fields = fs } ≡ r = cc in
            rw (ae, ← i, u) (split (eqb n (body.start + body.len)) (λ v. rw v) (λ v. rw v))
        by_row bad z u = let y : ◌≡◌ {A = ℕ} 0 1 = cc in absurd (omega arith)

        told : Told ≡ Read
        told = by_row (read_row s body.start slots) (sym re) (sym te ∙ not-false t y) ∙ sym (ap (reading_of k) framed)

        pub row_read : (eqb r.next (body.start + body.len) && a) ≡ true → record { kind = k; fields = r.fields } ≡ Read
        row_read v = sym (ap (λ (b : Bool). cond b (record { kind = k; fields = r.fields }) refused) v) ∙ told

        pub row_not : (eqb r.next (body.start + body.len) && a) ≡ false → (x : Reading) → x ≡ refused → x ≡ Read
        row_not v x xe = xe ∙ sym (ap (λ (b : Bool). cond b (record { kind = k; fields = r.fields }) refused) v) ∙ told
