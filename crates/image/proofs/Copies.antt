-- A table copied from its start on: the loops that copy it, and what is read in its place and put back.
use mathlib.Core.Path.{◌≡◌, refl, sym, ap, ◌∙◌}
use mathlib.Core.Bool.{Bool}
use mathlib.Core.List.{List, [], ◌∷◌, ◌++◌}
use Prim.Native.Nat.{ℕ, ◌+◌, ◌*◌, ◌≤◌, ◌<◌}
use native.Mathlib.Nat.{add-zero}
use native.Mathlib.Numerals.{add-one}
use native.Mathlib.Omega.{arith}
use lib.ListN.{length, get_or, set, take, length-set}
use lib.Seq.{take-suc, take-suc-set, take_all}
use Rattle.decimal.specs.declared.Instrument.{Instrument}
use Rattle.table.specs.Places.{table_bytes}
use Rattle.table.specs.Market.{is_market_of}
use Rattle.image.specs.Image.{table_in}

-- the first n bytes of a table are copied
pub record Copied (from to : List ℕ) (n : ℕ) : Type 0 where
  pub long : length to ≡ table_bytes
  pub within : n ≤ table_bytes
  pub front : take n to ≡ take n from

-- byte by byte, j of the piece at p
pub piece_none : (from to : List ℕ) (p : ℕ) → length to ≡ table_bytes → p ≤ table_bytes → take p to ≡ take p from → Copied from to (p + 0)
piece_none from to p e l h = rw (add-zero p) (record { long = e; within = l; front = h })

pub piece_more : {from to : List ℕ} (p j : ℕ) → Copied from to (p + j) → length from ≡ table_bytes → p + j < table_bytes
    → Copied from (set to (p + j) (get_or from (p + j) 0)) (p + (j + 1))
piece_more {from} {to} p j h e l =
    let n : ℕ = p + j in
    let x : ℕ = get_or from n 0 in
    let z : p + (j + 1) ≡ n + 1 = omega arith in
    rw z
    (record {
      long = length-set to n x ∙ h.long;
      within = omega arith;
      front =
          ap (λ (i : ℕ). take i (set to n x)) (add-one n) ∙ take-suc-set to n x (omega (arith, h.long)) ∙ ap (λ (l : List ℕ). l ++ (x ∷ [])) h.front
          ∙ sym (take-suc from n 0 (omega arith)) ∙ ap (λ (i : ℕ). take i from) (sym (add-one n));
    })

pub piece_end : {from to : List ℕ} (p j : ℕ) → Copied from to (p + j) → j ≤ 4096 → 4096 ≤ j → take (p + 4096) to ≡ take (p + 4096) from
piece_end p j h l m =
    let z : j ≡ 4096 = omega arith in
    rw z at h.front

-- piece by piece, k of them
pub copied_none : (from to : List ℕ) → length to ≡ table_bytes → Copied from to (4096 * 0)
copied_none from to e = record { long = e; within = omega arith; front = refl }

pub copied_more : (from to : List ℕ) (k : ℕ) → length to ≡ table_bytes → k < 8 → take (4096 * k + 4096) to ≡ take (4096 * k + 4096) from → Copied from to (4096 * (k + 1))
copied_more from to k e l h =
    let z : 4096 * (k + 1) ≡ 4096 * k + 4096 = omega arith in
    rw z (record { long = e; within = omega arith; front = h })

pub copied_end : {from to : List ℕ} (k : ℕ) → Copied from to (4096 * k) → length from ≡ table_bytes → 8 ≤ k → to ≡ from
copied_end {from} {to} k h e l =
    sym (take_all (4096 * k) to (omega (arith, h.long))) ∙ h.front ∙ take_all (4096 * k) from (omega arith)

-- ---- what is read in a table's place, told by a test of it; and the table put back
pub read_told : (q : Instrument) (t image : List ℕ) (m b : Bool) → t ≡ table_in image → m ≡ is_market_of q t → m ≡ b → b ≡ is_market_of q (table_in image)
read_told q t image m b e f h = sym h ∙ f ∙ ap (is_market_of q) e

pub put_back : (t before after : List ℕ) → before ≡ t → after ≡ before → after ≡ t
put_back t before after e f = f ∙ e
