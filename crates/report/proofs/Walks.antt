-- Walks over bytes: what is left at each byte decides, or counts, what the whole does.
use Prim.Native.Nat.{ℕ, suc, ◌+◌, ◌-◌, ◌%◌, ◌^◌, ◌≤◌, ◌<◌}
use mathlib.Core.Path.{◌≡◌, refl, sym, ap, ◌∙◌}
use mathlib.Core.Bool.{Bool, true, false, ◌&&◌, ◌||◌, false≢true}
use mathlib.Core.List.{List, [], ◌∷◌}
use native.Mathlib.Omega.{arith}
use native.Mathlib.Numerals.{add-one}
use lib.Dec.{ltb, eqb}
use lib.ListN.{length, drop, get_or, length-drop, drop_of_length-le}
use lib.Seq.{drop-cons, drop-drop}
use native.Mathlib.Nat.{not-suc-le-zero}
use mir.Syntax.{w64}
use mir.Val.{Fits}
use Rattle.octets.proofs.Bools.{split, both_r, both_i, not_both}
use borrow.Author.Tests.{eq-eqb, ne_eqb, eqb-true, eqb-false, lt-ltb, le-ltb, ltb-true, ltb-false}
use Rattle.decimal.specs.Writing.{decimal}
use Rattle.decimal.proofs.Digits.{length_most}
use Rattle.decimal.proofs.RoundTrip.{decimal_some}
use Rattle.report.proofs.Labels.{starts_length, label_other, label_start, match_not}
use Rattle.report.specs.Fields.{label}
use Rattle.report.specs.Search.{Passes, Cleared}
use Rattle.report.specs.Shapes.{all_from}
use Rattle.report.specs.Parse.{starts, len_to, hop, place_of}

-- ---- every byte from low on
module _ (low : ℕ) (v : List ℕ) (i : ℕ) (inv : all_from low v ≡ all_from low (drop i v)) where
  pub all_low : i < length v → get_or v i 0 < low → false ≡ all_from low v
  all_low h l = sym (inv ∙ rw (drop-cons v i 0 h) (simp (lt-ltb (get_or v i 0) low l)))

  pub all_high : i < length v → low ≤ get_or v i 0 → 126 < get_or v i 0 → false ≡ all_from low v
  all_high h l u = sym (inv ∙ rw (drop-cons v i 0 h) (simp (le-ltb (get_or v i 0) low l, lt-ltb 126 (get_or v i 0) u)))

  pub all_on : i < length v → low ≤ get_or v i 0 → get_or v i 0 ≤ 126 → all_from low v ≡ all_from low (drop (i + 1) v)
  all_on h l u = inv ∙ rw (add-one i, drop-cons v i 0 h) (simp (le-ltb (get_or v i 0) low l, le-ltb 126 (get_or v i 0) u))

  pub all_end : length v ≤ i → true ≡ all_from low v
  all_end h = sym (inv ∙ rw (drop_of_length-le v {i = i} h))

-- ---- to the next SOH
module _ (s : List ℕ) (i : ℕ) where
  pub soh_end : length s ≤ i → len_to (drop i s) ≡ 0
  soh_end h = rw (drop_of_length-le s {i = i} h)

  pub soh_here : i < length s → get_or s i 0 ≡ 1 → len_to (drop i s) ≡ 0
  soh_here h e = rw (drop-cons s i 0 h) (simp (eq-eqb (get_or s i 0) 1 e))

  pub soh_on : i < length s → (get_or s i 0 ≡ 1 → ⊥) → len_to (drop i s) ≡ suc (len_to (drop (i + 1) s))
  soh_on h n = rw (add-one i, drop-cons s i 0 h) (simp (ne_eqb (get_or s i 0) 1 n))

pub hop_soh : (s : List ℕ) → len_to s < length s → hop s ≡ len_to s + 1
unfolding hop
hop_soh [] h = absurd (not-suc-le-zero h)
hop_soh (b ∷ s) h = split (eqb b 1) (λ e. rw e) (λ e. rw e (let z : suc (len_to s) < suc (length s) = rw e at h in omega (arith, hop_soh s (omega arith))))

pub hop_none : (s : List ℕ) → length s ≤ len_to s → hop s ≡ len_to s
unfolding hop
hop_none [] h = refl
hop_none (b ∷ s) h =
    split (eqb b 1) (λ e. let z : suc (length s) ≤ 0 = rw e at h in absurd (not-suc-le-zero z))
    (λ e. rw e (ap suc (hop_none s (let z : suc (length s) ≤ suc (len_to s) = rw e at h in omega arith))))

-- the place behind the next SOH
module _ (s : List ℕ) (at e : ℕ) (h : at ≤ length s) (q : e ≡ at + len_to (drop at s)) where
  pub past_some : e < length s → e + 1 ≡ at + hop (drop at s)
  past_some l = omega (arith, hop_soh (drop at s) (omega (arith, length-drop at s)), length-drop at s)

  pub past_none : length s ≤ e → e ≡ at + hop (drop at s)
  past_none l = omega (arith, hop_none (drop at s) (omega (arith, length-drop at s)), length-drop at s)

-- ---- looking for a label, field by field
pub hop_some : (s : List ℕ) → 0 < length s → 0 < hop s
unfolding hop
hop_some [] h = absurd (not-suc-le-zero h)
hop_some (b ∷ s) h = split (eqb b 1) (λ e. rw e (omega arith)) (λ e. rw e (omega arith))

pub hop_within : (s : List ℕ) → hop s ≤ length s
unfolding hop
hop_within [] = omega arith
hop_within (b ∷ s) = let ih = hop_within s in split (eqb b 1) (λ e. rw e (omega arith)) (λ e. rw e (omega arith))

-- from within a field on, the next one begins behind its SOH
stale : (lab s : List ℕ) → place_of lab false s ≡ hop s + place_of lab true (drop (hop s) s)
unfolding hop place_of
stale lab [] = omega arith
stale lab (b ∷ s) =
    split (eqb b 1)
    (λ e. rw e (omega arith))
    (λ e. rw e (let ih = stale lab s in omega arith))

pub fresh : (lab s : List ℕ) → starts lab s ≡ false → 0 < length s → place_of lab true s ≡ hop s + place_of lab true (drop (hop s) s)
unfolding hop place_of
fresh lab [] n h = absurd (not-suc-le-zero h)
fresh lab (b ∷ s) n h =
    rw n
    (split (eqb b 1)
    (λ e. rw e (omega arith))
    (λ e. rw e (let ih = stale lab s in omega arith)))

pub found : (lab s : List ℕ) → starts lab s ≡ true → 0 < length s → place_of lab true s ≡ 0
unfolding place_of
found lab [] e h = absurd (not-suc-le-zero h)
found lab (b ∷ s) e h = rw e

pub nowhere : (lab : List ℕ) (f : Bool) → place_of lab f [] ≡ 0
unfolding place_of
nowhere lab f = refl

-- the search so far: at bytes are passed
pub record Sought (lab s : List ℕ) (at : ℕ) : Type 0 where
  pub within : at ≤ length s
  pub left : place_of lab true s ≡ at + place_of lab true (drop at s)

pub sought_first : (lab s : List ℕ) → Sought lab s 0
sought_first lab s = record { within = omega arith; left = omega arith }

module _ (lab s : List ℕ) (at : ℕ) (inv : Sought lab s at) where
  pub sought_end : length s ≤ at → at ≡ place_of lab true s
  sought_end h =
      let z : place_of lab true (drop at s) ≡ 0 = ap (place_of lab true) (drop_of_length-le s {i = at} h) ∙ nowhere lab true in
      omega (arith, inv.left)

  module _ (h : at < length s) (t : Bool) (e : t ≡ starts lab (drop at s)) where
    pub sought_here : t ≡ true → at ≡ place_of lab true s
    sought_here y = omega (arith, found lab (drop at s) (sym e ∙ y) (omega (arith, length-drop at s)), inv.left)

-- ---- looking for it, many bytes at a time

-- a field that does not begin with the label is passed like any byte
unmarked : (lab s : List ℕ) → starts lab s ≡ false → place_of lab true s ≡ place_of lab false s
unfolding place_of
unmarked lab [] n = refl
unmarked lab (b ∷ s) n = rw n

no_first : (a b : Bool) → b ≡ true → (a && b) ≡ false → a ≡ false
no_first a b e h = split a (λ y. absurd (not_both (both_i y e) h)) (λ n. n)

neither_l : (a b : Bool) → (a || b) ≡ false → a ≡ false
neither_l true b h = absurd (false≢true (sym h))
neither_l false b h = refl

neither_r : (a b : Bool) → (a || b) ≡ false → b ≡ false
neither_r true b h = absurd (false≢true (sym h))
neither_r false b h = h

-- the label does not stand behind place i, by its last two bytes
module _ (tag : ℕ) (s : List ℕ) (i k : ℕ) (f : tag < 2 ^ 64) (ke : k ≡ length (decimal tag)) (h : i + k + 1 < length s) where
  no_label : (eqb (get_or s (i + k) 0) (48 + tag % 10) && eqb (get_or s (i + k + 1) 0) 61) ≡ false → starts (label tag) (drop (i + 1) s) ≡ false
  no_label n =
      let x = eqb (get_or s (i + k) 0) (48 + tag % 10) in
      let y = eqb (get_or s (i + k + 1) 0) 61 in
      let u : i + 1 + k ≡ i + k + 1 = omega arith in
      let w : i + 1 + (k - 1) ≡ i + k = omega (arith, decimal_some tag f) in
      let l : k < length s - (i + 1) = omega arith in
      split y
      (λ e. let q : get_or s (i + 1 + k) 0 ≡ 61 = ap (λ (j : ℕ). get_or s j 0) u ∙ eqb-true (get_or s (i + k + 1) 0) 61 e in
      let z : get_or s (i + 1 + (k - 1)) 0 ≡ 48 + tag % 10 → ⊥ = λ p. eqb-false (get_or s (i + k) 0) (48 + tag % 10) (no_first x y e n) (sym (ap (λ (j : ℕ). get_or s j 0) w) ∙ p) in
      sym (match_not s (i + 1) tag k k tag (label_start s (i + 1) tag k (omega arith) f ke l q) (omega (arith, decimal_some tag f)) z))
      (λ e. let z : get_or s (i + 1 + k) 0 ≡ 61 → ⊥ = λ p. eqb-false (get_or s (i + k + 1) 0) 61 e (sym (ap (λ (j : ℕ). get_or s j 0) u) ∙ p) in
      sym (label_other s (i + 1) tag k (omega arith) f ke l z))

  one : (eqb (get_or s i 0) 1 && eqb (get_or s (i + k) 0) (48 + tag % 10) && eqb (get_or s (i + k + 1) 0) 61) ≡ false
      → place_of (label tag) false (drop i s) ≡ 1 + place_of (label tag) false (drop (i + 1) s)
  unfolding place_of
  one n =
      let x = eqb (get_or s (i + k) 0) (48 + tag % 10) in
      let y = eqb (get_or s (i + k + 1) 0) 61 in
      let d : drop i s ≡ get_or s i 0 ∷ drop (i + 1) s = drop-cons s i 0 (omega arith) ∙ ap (λ (j : ℕ). get_or s i 0 ∷ drop j s) (sym (add-one i)) in
      ap (place_of (label tag) false) d
      ∙ split (eqb (get_or s i 0) 1)
      (λ e. let z : (x && y) ≡ false = rw e at n in
      rw e (let m = unmarked (label tag) (drop (i + 1) s) (no_label z) in omega (arith, m)))
      (λ e. rw e (omega arith))

  -- one byte
  pub pass_one : Passes tag s i 1 (eqb (get_or s i 0) 1 && eqb (get_or s (i + k) 0) (48 + tag % 10) && eqb (get_or s (i + k + 1) 0) 61)
  pass_one = record { none = one }

-- several: j of them are passed, of at most 32
pub record Passing (tag : ℕ) (s : List ℕ) (at j : ℕ) (may : Bool) : Type 0 where
  pub few : j ≤ 32
  pub so_far : Passes tag s at j may

pub passing_none : (tag : ℕ) (s : List ℕ) (at : ℕ) → Passing tag s at 0 false
passing_none tag s at = record { few = omega arith; so_far = record { none = λ e. let z : at + 0 ≡ at = omega arith in rw z (omega arith) } }

pub passing_more : (tag : ℕ) (s : List ℕ) (at j : ℕ) (may : Bool) → Passing tag s at j may → j < 32 → (b : Bool) → Passes tag s (at + j) 1 b → Passing tag s at (j + 1) (may || b)
passing_more tag s at j may p h b q =
    record {
      few = omega arith;
      so_far =
          record {
            none = λ e. let z : at + j + 1 ≡ at + (j + 1) = omega arith in
                let d = ap (λ (m : ℕ). place_of (label tag) false (drop m s)) z in
                omega (arith, p.so_far.none (neither_l may b e), q.none (neither_r may b e), d);
          };
    }

pub passing_end : (tag : ℕ) (s : List ℕ) (at j : ℕ) (may : Bool) → Passing tag s at j may → 32 ≤ j → Passes tag s at 32 may
passing_end tag s at j may p h = let z : j ≡ 32 = omega (arith, p.few) in rw z at p.so_far

-- 32 bytes after another
pub cleared_none : (tag : ℕ) (s : List ℕ) (at : ℕ) → at ≤ length s → Cleared tag s at at
cleared_none tag s at h = record { on = omega arith; within = h; none = refl }

module _ (tag : ℕ) (s : List ℕ) (at to : ℕ) (c : Cleared tag s at to) where
  pub width_fits : tag < 2 ^ 64 → (k : ℕ) → k ≡ length (decimal tag) → Fits w64 (k + 32)
  width_fits f k e = record { fits = omega (arith, length_most tag f) }

  pub cleared_more : (k : ℕ) → k + 32 < length s - to → (may : Bool) → Passes tag s to 32 may → may ≡ false → Cleared tag s at (to + 32)
  cleared_more k h may p e = record { on = omega (arith, c.on); within = omega arith; none = omega (arith, c.none, p.none e) }

  -- and the field behind them
  module _ (h : at < length s) (next : ℕ) (q : next ≡ to + hop (drop to s)) where
    pub sought_on : Sought (label tag) s at → (t : Bool) → t ≡ starts (label tag) (drop at s) → t ≡ false → Sought (label tag) s next
    sought_on inv t e n =
        let d : drop (hop (drop to s)) (drop to s) ≡ drop next s = drop-drop (hop (drop to s)) to s ∙ ap (λ (k : ℕ). drop k s) (sym q) in
        record {
          within = omega (arith, hop_within (drop to s), length-drop to s, c.within);
          left =
              omega
              (arith, inv.left, unmarked (label tag) (drop at s) (sym e ∙ n), c.none, stale (label tag) (drop to s), ap (place_of (label tag) true) d);
        }

    pub sought_less : length s - next < length s - at
    sought_less =
        split (ltb to (length s))
        (λ e. omega (arith, c.on, ltb-true to (length s) e, hop_some (drop to s) (omega (arith, ltb-true to (length s) e, length-drop to s))))
        (λ e. omega (arith, ltb-false to (length s) e, c.within))

-- a label that is found stands within the bytes
pub place_within : (lab s : List ℕ) (f : Bool) → place_of lab f s < length s → place_of lab f s + length lab ≤ length s
unfolding place_of
place_within lab [] f h = absurd (not-suc-le-zero h)
place_within lab (b ∷ s) f h =
    split (f && starts lab (b ∷ s))
    (λ e. rw e (omega (arith, starts_length lab (b ∷ s) (both_r f (starts lab (b ∷ s)) e))))
    (λ e. rw e (let z : suc (place_of lab (eqb b 1) s) < suc (length s) = rw e at h in let ih = place_within lab s (eqb b 1) (omega arith) in omega arith))
