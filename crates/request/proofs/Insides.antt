-- The fields of a part lie within it.
use Prim.Native.Nat.{ℕ, zero, suc, ◌+◌, ◌-◌, ◌≤◌}
use mathlib.Core.Path.{◌≡◌}
use mathlib.Core.List.{List, [], ◌∷◌}
use mathlib.Core.Bool.{not, ◌&&◌}
use native.Mathlib.Omega.{arith}
use native.Mathlib.Nat.{zero-add}
use lib.Dec.{ltb, leb, eqb}
use lib.ListN.{length, get_or, drop, length-drop}
use borrow.Author.Tests.{eqb-true}
use Rattle.octets.proofs.Bools.{split, both_r}
use Rattle.decimal.specs.Reading.{digit_run}
use Rattle.decimal.proofs.Scans.{run_le}
use Rattle.fix.specs.Fields.{is_text, starts_tag, tag_of, value_from, value_len, Fld, field_of, fields_after, fields_from, fields_of}
use Rattle.fix.proofs.Spelling.{there}

-- each of the fields ends within the first n bytes
abbrev pub Inside : ℕ → List Fld → Type 0
Inside n [] = Unit {0}
Inside n (f ∷ fs) = (f.start + f.len ≤ n) × Inside n fs

-- where the value of what s starts with starts
from_inside : (s : List ℕ) → 1 ≤ length s → value_from s ≤ length s
unfolding value_from tag_of starts_tag
from_inside s h =
    split (starts_tag s)
    (λ y.
    let e : get_or s (digit_run s) 0 ≡ 61 =
    eqb-true (get_or s (digit_run s) 0) 61 (both_r (ltb 0 (digit_run s) && leb (digit_run s) 4 && not (eqb (get_or s 0 0) 48)) (eqb (get_or s (digit_run s) 0) 61) y) in
    rw y (omega (arith, there s (digit_run s) 60 e)))
    (λ n. rw n h)

value_inside : (s : List ℕ) → 1 ≤ length s → value_from s + value_len s ≤ length s
unfolding value_len
value_inside s h =
    let v = from_inside s h in
    let l : length (drop (value_from s) s) ≡ length s - value_from s = length-drop (value_from s) s in
    omega (arith, run_le is_text (drop (value_from s) s))

inside_after : (s : List ℕ) (k at n : ℕ) → at + length s ≡ n → Inside n (fields_after k at s)
unfolding fields_after field_of
inside_after [] k at n e = tt
inside_after (b ∷ s) (suc k) at n e = inside_after s k (suc at) n (omega arith)
inside_after (b ∷ s) zero at n e =
    (omega (arith, value_inside (b ∷ s) (omega arith)), inside_after s _ (suc at) n (omega arith))

pub fields_inside : (s : List ℕ) → Inside (length s) (fields_of s)
unfolding fields_from
fields_inside s = inside_after s 0 0 (length s) (zero-add (length s))
