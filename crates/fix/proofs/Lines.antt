-- The order of the fields by the row: the header first, 10 last; and the SOH at the end.
use Rattle.std.proofs.Common.{Option, Some, None, ◌≡◌, ℕ, zero, suc, ◌+◌, ◌-◌, ◌*◌, ◌<◌, ◌≤◌, Bool, true, false, cond, not, ◌&&◌, eqb, List, [], ◌∷◌, ◌++◌, length, get_or, drop, sym, refl, ap, ◌∙◌, subst, ⊎_elim, not-suc-le-zero, zero-add, suc-ne-zero, arith, eqb-true}
use mathlib.Core.Bool.{and-false}
use borrow.Author.Tests.{eqb-false, not-true, not-false}
use Rattle.octets.proofs.Bools.{split, both_l, both_r, neither_l, neither_r, not_both}
use Rattle.octets.proofs.Places.{below_or}
use Rattle.fix.specs.declared.frame.Part.{Part}
use Rattle.fix.specs.declared.frame.Opening.{Opening}
use Rattle.fix.specs.declared.frame.Head.{Head}
use Rattle.fix.specs.declared.pass.Walked.{Walked}
use Rattle.fix.specs.Fields.{Fld, field_of, fields_after, fields_from, fields_of, find_tag, has_tag, repeats, clean_fields, last_tag_or, value_from, value_len}
use Rattle.fix.specs.Garbled.{headed_by, header, ordered, part_of, end_of, garbled_message, frame_of}
use Rattle.fix.specs.Steps.{fld, field_at, row_fields, part_row, Ready, Rowed, WalkSays, Headed, Counted, Lined, Laid, Framed}
use Rattle.fix.proofs.Opening.{garbled_order, garbled_heads}
use Rattle.fix.proofs.Verdict.{garbled_frame, plain_unclean, plain_other, is_good_lem}
use Rattle.fix.proofs.Walk.{field_in}
use Rattle.fix.proofs.Plain.{clear_unbroken}
use Rattle.fix.proofs.Bodies.{ten_from, body_held}
use Rattle.fix.proofs.Sums.{carried_sum}
use Rattle.fix.proofs.Rows.{row_length, row_more, last_append, find_last}

-- ---- a message that is not garbled ends with SOH
abbrev last_byte : List ℕ → ℕ
last_byte [] = 0
last_byte (b ∷ []) = b
last_byte (b ∷ (c ∷ s)) = last_byte (c ∷ s)

last_at : (s : List ℕ) → last_byte s ≡ get_or s (length s - 1) 0
last_at [] = refl
last_at (b ∷ []) = refl
last_at (b ∷ (c ∷ s)) =
    let z : suc (suc (length s)) - 1 ≡ suc (length s) = omega arith in
    let y : suc (length s) - 1 ≡ length s = omega arith in
    last_at (c ∷ s) ∙ rw (y, z)

last_more : (b : ℕ) (s : List ℕ) → 0 < length s → last_byte s ≡ 1 → last_byte (b ∷ s) ≡ 1
last_more b [] h e = absurd (not-suc-le-zero h)
last_more b (c ∷ s) h e = e

soh_of : (b : Bool) (n : ℕ) → eqb (cond b n 0) 0 ≡ false → b ≡ true
soh_of true n e = refl
soh_of false n e = absurd (eqb-false 0 0 e refl)

soh_last : (s : List ℕ) (k at : ℕ) → k < length s → has_tag 0 (fields_after k at s) ≡ false → last_byte s ≡ 1
unfolding fields_after has_tag field_of
soh_last [] k at h e = absurd (not-suc-le-zero h)
soh_last (b ∷ s) (suc k) at h e = last_more b s (omega arith) (soh_last s k (suc at) (omega arith) e)
soh_last (b ∷ s) zero at h e =
    let v = value_from (b ∷ s) + value_len (b ∷ s) in
    let some = neither_l (eqb (field_of at (b ∷ s)).tag 0) _ e in
    let r : has_tag 0 (fields_after v (suc at) s) ≡ false = rw some at (neither_r (eqb (field_of at (b ∷ s)).tag 0) _ e) in
    let i : v < suc (length s) = field_in at (b ∷ s) some in
    ⊎_elim (λ (l : v < length s). last_more b s (omega arith) (soh_last s v (suc at) l r))
    (λ (l : length s ≤ v).
    let z : v ≡ suc (length s) - 1 = omega arith in
    let q : get_or (b ∷ s) v 0 ≡ 1 = eqb-true _ 1 (soh_of (eqb (get_or (b ∷ s) v 0) 1) _ some) in
    last_at (b ∷ s) ∙ (rw z at q))
    (below_or v (length s))

module _ (s : List ℕ) where
  pub open_frame : (length s ≡ 0 → ⊥) → (get_or s (length s - 1) 0 ≡ 1 → ⊥) → None ≡ frame_of s
  unfolding fields_from
  open_frame h n =
      split (garbled_message s) (λ y. garbled_frame s y)
      (λ g. absurd (n (sym (last_at s) ∙ soh_last s 0 0 (omega arith) (clear_unbroken s g))))

  pub ready : (row : List ℕ) → length s ≤ 1024 → get_or s (length s - 1) 0 ≡ 1 → length row ≡ 1023 → Ready s row
  ready row h e r = record { closed = record { soh = e }; short = h; room = r }

  pub walk_wrong : (row : List ℕ) (r : Option Walked) → WalkSays s row r → r ≡ None → None ≡ frame_of s
  walk_wrong row r w g = garbled_frame s (plain_unclean s (subst (WalkSays s row) g w))

  pub walk_rowed : (row : List ℕ) (r : Option Walked) (x : Walked) → WalkSays s row r → r ≡ Some x → Rowed s row x.count x.from x.sum
  walk_rowed row r x w g = subst (WalkSays s row) g w

-- ---- the header first
headed_long : (ts : List ℕ) (fs : List Fld) → headed_by ts fs ≡ true → length ts ≤ length fs
unfolding headed_by
headed_long [] fs h = omega arith
headed_long (t ∷ ts) [] h = absurd (not_both h refl)
headed_long (t ∷ ts) (f ∷ fs) h = omega (arith, headed_long ts fs (both_r (eqb f.tag t) _ h))

abbrev last_of : ℕ → List ℕ → ℕ
last_of d [] = d
last_of d (t ∷ ts) = last_of t ts

headed_last : (d : ℕ) (ts : List ℕ) (fs : List Fld) → headed_by ts fs ≡ true → length fs ≡ length ts → last_tag_or d fs ≡ last_of d ts
unfolding headed_by last_tag_or
headed_last d [] [] h e = refl
headed_last d [] (f ∷ fs) h e = absurd (omega (arith, e))
headed_last d (t ∷ ts) [] h e = absurd (not_both h refl)
headed_last d (t ∷ ts) (f ∷ fs) h e =
    headed_last f.tag ts fs (both_r (eqb f.tag t) _ h) (omega (arith, e)) ∙ rw (eqb-true f.tag t (both_l (eqb f.tag t) _ h))

-- header and 10 are eight fields
short_unordered : (fs : List Fld) → length fs < 8 → ordered fs ≡ false
unfolding ordered
short_unordered fs h =
    split (headed_by header fs)
    (λ y.
    let l : 7 ≤ length fs = headed_long header fs y in
    let q : last_tag_or 0 fs ≡ 56 = headed_last 0 header fs y (omega arith) in
    rw q (and-false (clean_fields fs && headed_by header fs)))
    (λ n. simp (n, and-false))

-- the fields that the tags ts name, by the row
abbrev head_list : List ℕ → List ℕ → ℕ → List Fld
head_list [] row j = []
head_list (t ∷ ts) row j = fld t (part_row row j) ∷ head_list ts row (j + 1)

record Shape (ts row : List ℕ) (j : ℕ) (fs : List Fld) : Type 0 where
  rest : List Fld
  whole : fs ≡ head_list ts row j ++ rest

named : (row : List ℕ) (j t : ℕ) → (field_at row j).tag ≡ t → field_at row j ≡ fld t (part_row row j)
unfolding field_at part_row
named row j t e = rw e

shape : (ts row : List ℕ) (j n : ℕ) → headed_by ts (row_fields row j n) ≡ true → Shape ts row j (row_fields row j n)
unfolding headed_by row_fields
shape [] row j n h = record { rest = row_fields row j n; whole = refl }
shape (t ∷ ts) row j zero h = absurd (not_both h refl)
shape (t ∷ ts) row j (suc n) h =
    let i = shape ts row (j + 1) n (both_r (eqb (field_at row j).tag t) _ h) in
    record {
      rest = i.rest;
      whole = ap (λ (l : List Fld). field_at row j ∷ l) i.whole
          ∙ ap (λ (f : Fld). f ∷ (head_list ts row (j + 1) ++ i.rest)) (named row j t (eqb-true (field_at row j).tag t (both_l (eqb (field_at row j).tag t) _ h)));
    }

-- ---- the row of a message
module _ (s row : List ℕ) (count from sum : ℕ) (short : length s ≤ 1024) (w : Rowed s row count from sum) where
  pub ordered_short : count < 8 → None ≡ frame_of s
  ordered_short h =
      let l : length (fields_of s) ≡ count = rw w.fields (row_length row 0 count) in
      garbled_frame s (garbled_order s (short_unordered (fields_of s) (omega arith)))

  module _ (h : 8 ≤ count) where
    same_head : headed_by header (fields_of s) ≡ headed_by header (row_fields row 0 7)
    unfolding headed_by row_fields
    same_head =
        let z : count ≡ suc (suc (suc (suc (suc (suc (suc (count - 7))))))) = omega arith in
        rw (w.fields, z)

    module _ (m : ℕ) (em : m ≡ count - 1) where
      fields : fields_of s ≡ row_fields row 0 m ++ (field_at row m ∷ [])
      fields =
          let z : count ≡ suc m = omega arith in
          w.fields ∙ rw z (row_more row 0 m ∙ rw zero-add)

      last_tag : get_or row (m * 3) 0 ≡ last_tag_or 0 (fields_of s)
      unfolding field_at
      last_tag = sym (rw fields (last_append 0 (row_fields row 0 m) (field_at row m)))

    pub ordered_last : (get_or row ((count - 1) * 3) 0 ≡ 10 → ⊥) → None ≡ frame_of s
    ordered_last n = garbled_frame s (plain_other s (get_or row ((count - 1) * 3) 0) (last_tag (count - 1) refl) n)

    pub ordered_room : count - 1 < 341
    ordered_room = omega (arith, w.few)

    module _ (b : Bool) (eb : b ≡ headed_by header (row_fields row 0 7)) where
      pub ordered_heads : not b ≡ true → None ≡ frame_of s
      ordered_heads g = garbled_frame s (garbled_heads s (same_head ∙ sym eb ∙ not-true b g))

      module _ (g : not b ≡ false) (m : ℕ) (em : m ≡ count - 1) where
        module _ (ten : get_or row (m * 3) 0 ≡ 10) where
          is_ten : (field_at row m).tag ≡ 10
          unfolding field_at
          is_ten = ten

          once : repeats (fields_of s) ≡ false
          unfolding clean_fields
          once = not-true _ (both_r (not (has_tag 0 (fields_of s))) _ w.clean)

          found : find_tag 10 (fields_of s) ≡ Some (part_row row m)
          unfolding field_at part_row
          found =
              let o : repeats (row_fields row 0 m ++ (field_at row m ∷ [])) ≡ false = rw (fields m em) at once in
              rw (fields m em) (rw (← is_ten) (find_last (row_fields row 0 m) (field_at row m) o))

          head : Headed s row
          head =
              let x = shape header row 0 count (rw (← w.fields) (same_head ∙ sym eb ∙ not-false b g)) in
              record { rest = x.rest; whole = w.fields ∙ x.whole }

          begins : from ≡ (part_row row m).start - 3
          unfolding part_row field_at field_of
          begins =
              let l = (w.last m (omega arith)).field in
              let a : (field_of from (drop from s)).tag ≡ 10 = ap (λ (f : Fld). f.tag) (sym l) ∙ ten in
              let c : get_or row (m * 3 + 1) 0 ≡ from + value_from (drop from s) = ap (λ (f : Fld). f.start) l in
              omega (arith, ten_from from (drop from s) a)

          pub ordered_is : sum < 256 → Lined s row m from sum
          ordered_is v =
              record {
                short = short;
                room = omega (arith, w.few);
                headed = head;
                ended = record {
                  clean = w.clean;
                  last = sym (last_tag m em) ∙ ten;
                  ten = found;
                  place = begins;
                  sums = carried_sum s sum from v (w.last m (omega arith)).sums;
                };
              }

-- ---- the places of the header
module _ (s row : List ℕ) (m t sum : ℕ) (l : Lined s row m t sum) where
  pub lined_headed : Headed s row
  lined_headed = l.headed

  pub lined_room : m < 341
  lined_room = l.room

  pub lined_laid : (o : Opening) (k n d e g p : Part) → Counted s o.count o.next
      → k ≡ part_row row 2 → n ≡ part_row row 3 → d ≡ part_row row 4 → e ≡ part_row row 5 → g ≡ part_row row 6 → p ≡ part_row row m
      → Laid s o.count o.next (record { kind = k; number = n; sender = d; time = e; target = g }) (g.start + g.len + 1) p t sum
  unfolding part_of find_tag headed_by end_of
  lined_laid o k n d e g p w ek en ed ee eg ep =
      record {
        short = l.short;
        counted = w;
        placed = record {
          headed = rw l.headed.whole;
          kind = rw (ek, l.headed.whole);
          number = rw (en, l.headed.whole);
          sender = rw (ed, l.headed.whole);
          time = rw (ee, l.headed.whole);
          target = rw (eg, l.headed.whole);
          ends = refl;
        };
        ended = rw ep l.ended;
      }

-- ---- the parts with the row
pub framed_garbled : (s row : List ℕ) → None ≡ frame_of s → Framed s row None
framed_garbled s row e = record { frame = e; held = λ h g. let z : ◌≡◌ {A = ℕ} 0 1 = cc in absurd (suc-ne-zero 0 (sym z)) }

-- a message that is not garbled has eight fields at least
eight : (s row : List ℕ) (count : ℕ) → fields_of s ≡ row_fields row 0 count → garbled_message s ≡ false → 8 ≤ count
eight s row count e g =
    ⊎_elim (λ (h : count < 8).
    let l : length (fields_of s) ≡ count = rw e (row_length row 0 count) in
    absurd (not_both (garbled_order s (short_unordered (fields_of s) (omega arith))) g))
    (λ h. h) (below_or count 8)

framed_is : (s row : List ℕ) (count from sum : ℕ) (r : Option Head) → Rowed s row count from sum → r ≡ frame_of s → Framed s row r
framed_is s row count from sum r w e =
    record {
      frame = e;
      held = λ h g.
          let n : garbled_message s ≡ false = sym (is_good_lem s r e h g) in
          body_held s n row count (eight s row count w.fields n) w.few w.fields;
    }

pub framed_walked : (s row : List ℕ) (w : Option Walked) (x : Walked) (r : Option Head) → WalkSays s row w → w ≡ Some x → r ≡ frame_of s → Framed s row r
framed_walked s row w x r y g e = framed_is s row x.count x.from x.sum r (walk_rowed s row w x y g) e
