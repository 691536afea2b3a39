-- The clauses by which a message is garbled, and 8 and 9 by the row.
use Rattle.std.proofs.Common.{Option, Some, None, ◌≡◌, ℕ, ◌+◌, ◌*◌, Bool, true, false, not, List, get_or, sym, refl, ap, ◌∙◌}
use mathlib.Core.Bool.{and-false}
use borrow.Author.Tests.{not-true, not-false}
use Rattle.octets.specs.Octets.{part_at, same_bytes}
use Rattle.decimal.specs.Reading.{num_of}
use Rattle.fix.specs.declared.frame.Part.{Part}
use Rattle.fix.specs.Fields.{fields_of, found_in, find_tag, value_of}
use Rattle.fix.specs.Garbled.{headed_by, header, ordered, fix42, header_right, as_part, part_of, end_of, length_true, sum_true, garbled_message}
use Rattle.fix.specs.Steps.{part_row, Headed, Counted}

-- ---- a clause that fails
module _ (s : List ℕ) where
  pub garbled_order : ordered (fields_of s) ≡ false → garbled_message s ≡ true
  unfolding garbled_message
  garbled_order h = simp (h, and-false)

  pub garbled_heads : headed_by header (fields_of s) ≡ false → garbled_message s ≡ true
  unfolding ordered
  garbled_heads h = garbled_order (simp (h, and-false))

  pub garbled_header : header_right s ≡ false → garbled_message s ≡ true
  unfolding garbled_message
  garbled_header h = simp (h, and-false)

  pub garbled_length : length_true s ≡ false → garbled_message s ≡ true
  unfolding garbled_message
  garbled_length h = simp (h, and-false)

  pub garbled_sum : sum_true s ≡ false → garbled_message s ≡ true
  unfolding garbled_message
  garbled_sum h = simp (h, and-false)

-- ---- the value of a tag is the part where it stands
found_part : (s : List ℕ) (f : Option Part) → part_at s (as_part f).start (as_part f).len ≡ found_in s f
unfolding part_at
found_part s (Some p) = refl
found_part s None = refl

pub value_part : (s : List ℕ) (t : ℕ) → part_at s (part_of s t).start (part_of s t).len ≡ value_of s t
unfolding part_of value_of
value_part s t = found_part s (find_tag t (fields_of s))

-- ---- a place by the row
pub place_is : (row : List ℕ) (j a b : ℕ) → a ≡ get_or row (j * 3 + 1) 0 → b ≡ get_or row (j * 3 + 2) 0 → record { start = a; len = b } ≡ part_row row j
unfolding part_row
place_is row j a b ea eb = rw (ea, eb)

-- ---- 8 and 9, where they stand
module _ (s row : List ℕ) (o : Headed s row) where
  part_8 : part_of s 8 ≡ part_row row 0
  unfolding part_of find_tag
  part_8 = rw o.whole

  part_9 : part_of s 9 ≡ part_row row 1
  unfolding part_of find_tag
  part_9 = rw o.whole

  module _ (e : Part) (ee : e ≡ part_row row 0) (v : List ℕ) (ev : v ≡ part_at s e.start e.len) (b : Bool) (eb : b ≡ same_bytes v fix42) where
    value_8 : v ≡ value_of s 8
    value_8 = ev ∙ rw (ee, ← part_8) (value_part s 8)

    pub opens_begin : not b ≡ true → garbled_message s ≡ true
    unfolding header_right
    opens_begin h =
        let z : same_bytes (value_of s 8) fix42 ≡ false = rw (← value_8) (sym eb ∙ not-true b h) in
        garbled_header s (simp z)

    module _ (n : Part) (en : n ≡ part_row row 1) (w : List ℕ) (ew : w ≡ part_at s n.start n.len) (x : Option ℕ) (ex : x ≡ num_of 4 w) where
      said_9 : x ≡ num_of 4 (value_of s 9)
      said_9 = ex ∙ ap (num_of 4) (ew ∙ rw (en, ← part_9) (value_part s 9))

      pub opens_wrong : x ≡ None → garbled_message s ≡ true
      unfolding length_true
      opens_wrong h = garbled_length s (rw (← said_9, h))

      pub opens_is : (count : ℕ) → not b ≡ false → x ≡ Some count → Counted s count (n.start + n.len + 1)
      unfolding end_of
      opens_is count h g =
          record {
            begins = rw (← value_8) (sym eb ∙ not-false b h);
            says = sym said_9 ∙ g;
            ends = rw (part_9, en);
          }
