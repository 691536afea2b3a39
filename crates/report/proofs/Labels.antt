-- Whether a label stands at a place: from its last byte to the first; that it stands where it was written; and that it does not where
-- another is.
use Prim.Native.Nat.{ℕ, suc, ◌+◌, ◌-◌, ◌/◌, ◌%◌, ◌^◌, ◌≤◌, ◌<◌, zero-le}
use mathlib.Core.Path.{◌≡◌, refl, sym, ap, ◌∙◌}
use mathlib.Core.Bool.{Bool, true, false, cond, ◌&&◌, and-true, and-false, false≢true}
use mathlib.Core.List.{List, [], ◌∷◌, ◌++◌, append_assoc}
use native.Mathlib.Omega.{arith}
use native.Mathlib.Nat.{not-suc-le-zero}
use lib.Dec.{ltb, eqb}
use lib.ListN.{length, drop, get_or, length-drop, length-append}
use lib.Seq.{get_or-drop, drop-cons}
use mir.Syntax.{w8}
use mir.Val.{Fits}
use borrow.Author.Tests.{eq-eqb, ne_eqb, ltb-true, ltb-false}
use Rattle.octets.proofs.Bools.{split}
use Rattle.decimal.specs.Writing.{decimal, places}
use Rattle.decimal.proofs.Digits.{decimal_is, length_places, length_more}
use Rattle.decimal.proofs.RoundTrip.{decimal_some}
use Rattle.report.specs.Fields.{label, written}
use Rattle.report.specs.Parse.{starts}

pub starts_length : (p s : List ℕ) → starts p s ≡ true → length p ≤ length s
starts_length [] s e = zero-le
starts_length (a ∷ p) [] e = absurd (false≢true e)
starts_length (a ∷ p) (b ∷ s) e =
    split (eqb b a) (λ t. let z : starts p s ≡ true = rw t at e in omega (arith, starts_length p s z)) (λ t. let z : false ≡ true = rw t at e in absurd (false≢true z))

pub label_length : (tag : ℕ) → length (label tag) ≡ length (decimal tag) + 1
unfolding label
label_length tag = length-append (decimal tag) (61 ∷ [])

-- too few bytes
pub starts_long : (p s : List ℕ) → length s < length p → starts p s ≡ false
starts_long [] s h = absurd (not-suc-le-zero h)
starts_long (a ∷ p) [] h = refl
starts_long (a ∷ p) (b ∷ s) h = split (eqb b a) (λ e. rw e (starts_long p s (omega arith))) (λ e. rw e)

-- where there are enough, the last byte decides with those before it
pub starts_last : (p : List ℕ) (d : ℕ) (s : List ℕ) → length p < length s → starts (p ++ (d ∷ [])) s ≡ (starts p s && eqb (get_or s (length p) 0) d)
starts_last [] d [] h = absurd (not-suc-le-zero h)
starts_last [] d (b ∷ s) h = split (eqb b d) (λ e. rw e) (λ e. rw e)
starts_last (a ∷ p) d [] h = absurd (not-suc-le-zero h)
starts_last (a ∷ p) d (b ∷ s) h = split (eqb b a) (λ e. rw e (starts_last p d s (omega arith))) (λ e. rw e)

-- what is still to be compared decides: i digits of m
pub record Matching (s : List ℕ) (at tag k i m : ℕ) : Type 0 where
  pub within : i ≤ k
  pub room : at + k < length s
  pub left : starts (label tag) (drop at s) ≡ starts (places i m) (drop at s)

module _ (s : List ℕ) (at tag k : ℕ) (h : at ≤ length s) (f : tag < 2 ^ 64) (e : k ≡ length (decimal tag)) where
  pub label_short : length s - at ≤ k → false ≡ starts (label tag) (drop at s)
  unfolding label
  label_short l =
      sym (starts_long (decimal tag ++ (61 ∷ [])) (drop at s) (omega (arith, length-drop at s, length-append (decimal tag) (61 ∷ []))))

  last : k < length s - at → starts (label tag) (drop at s) ≡ (starts (decimal tag) (drop at s) && eqb (get_or s (at + k) 0) 61)
  unfolding label
  last l =
      starts_last (decimal tag) 61 (drop at s) (omega (arith, length-drop at s))
      ∙ ap (λ (b : ℕ). starts (decimal tag) (drop at s) && eqb b 61) (ap (λ (j : ℕ). get_or (drop at s) j 0) (sym e) ∙ get_or-drop at s k 0)

  pub label_other : k < length s - at → (get_or s (at + k) 0 ≡ 61 → ⊥) → false ≡ starts (label tag) (drop at s)
  label_other l n = sym (last l ∙ rw (ne_eqb (get_or s (at + k) 0) 61 n) (and-false (starts (decimal tag) (drop at s))))

  pub label_start : k < length s - at → get_or s (at + k) 0 ≡ 61 → Matching s at tag k k tag
  label_start l q =
      record {
        within = omega arith;
        room = omega arith;
        left =
            last l ∙ rw (eq-eqb (get_or s (at + k) 0) 61 q) (and-true (starts (decimal tag) (drop at s)))
            ∙ ap (λ (p : List ℕ). starts p (drop at s)) (decimal_is tag f ∙ ap (λ (j : ℕ). places j tag) (sym e));
      }

module _ (s : List ℕ) (at tag k i m : ℕ) (c : Matching s at tag k i m) where
  pub match_end : i ≤ 0 → true ≡ starts (label tag) (drop at s)
  unfolding places
  match_end h = let z : i ≡ 0 = omega arith in sym (c.left ∙ rw z)

module _ (s : List ℕ) (at tag k j m : ℕ) (c : Matching s at tag k (suc j) m) where
  turn : starts (label tag) (drop at s) ≡ (starts (places j (m / 10)) (drop at s) && eqb (get_or s (at + j) 0) (48 + m % 10))
  unfolding places
  turn =
      c.left
      ∙ starts_last (places j (m / 10)) (48 + m % 10) (drop at s) (omega (arith, length-drop at s, length_places j (m / 10), c.within, c.room))
      ∙ ap (λ (b : ℕ). starts (places j (m / 10)) (drop at s) && eqb b (48 + m % 10)) (ap (λ (q : ℕ). get_or (drop at s) q 0) (length_places j (m / 10)) ∙ get_or-drop at s j 0)

  turn_same : get_or s (at + j) 0 ≡ 48 + m % 10 → Matching s at tag k j (m / 10)
  turn_same q =
      record {
        within = omega (arith, c.within);
        room = c.room;
        left = turn ∙ rw (eq-eqb (get_or s (at + j) 0) (48 + m % 10) q) (and-true (starts (places j (m / 10)) (drop at s)));
      }

  turn_other : (get_or s (at + j) 0 ≡ 48 + m % 10 → ⊥) → false ≡ starts (label tag) (drop at s)
  turn_other n = sym (turn ∙ rw (ne_eqb (get_or s (at + j) 0) (48 + m % 10) n) (and-false (starts (places j (m / 10)) (drop at s))))

less_one : (i : ℕ) → 0 < i → i ≡ suc (i - 1)
less_one i h = omega arith

module _ (s : List ℕ) (at tag k i m : ℕ) (c : Matching s at tag k i m) (h : 0 < i) where
  one_less : Matching s at tag k (suc (i - 1)) m
  one_less = rw (less_one i h) at c

  pub match_more : get_or s (at + (i - 1)) 0 ≡ 48 + m % 10 → Matching s at tag k (i - 1) (m / 10)
  match_more q = turn_same s at tag k (i - 1) m one_less q

  pub match_not : (get_or s (at + (i - 1)) 0 ≡ 48 + m % 10 → ⊥) → false ≡ starts (label tag) (drop at s)
  match_not n = turn_other s at tag k (i - 1) m one_less n

-- ---- two digits
two_below : (tag : ℕ) → tag < 2 ^ 64 → 2 ≡ length (decimal tag) → tag < 100
two_below tag f e =
    split (ltb tag 100)
    (λ t. ltb-true tag 100 t)
    (λ t. let h : 100 ≤ tag = ltb-false tag 100 t in
    absurd (omega (arith, length_more tag (omega arith) f, length_more (tag / 10) (omega arith) (omega arith), decimal_some (tag / 10 / 10) (omega arith))))

module _ (s : List ℕ) (at tag k : ℕ) (h : at ≤ length s) (f : tag < 2 ^ 64) (e : k ≡ length (decimal tag)) (two : k ≡ 2) where
  below : tag < 100
  below = two_below tag f (sym two ∙ e)

  pub two_fits : Fits w8 (tag / 10)
  two_fits = record { fits = omega (arith, below) }

  pub two_sum : Fits w8 (48 + tag / 10)
  two_sum = record { fits = omega (arith, below) }

  pub two_is : k < length s - at → get_or s (at + k) 0 ≡ 61 → (eqb (get_or s at 0) (48 + tag / 10) && eqb (get_or s (at + 1) 0) (48 + tag % 10)) ≡ starts (label tag) (drop at s)
  unfolding places
  two_is l q =
      let c : Matching s at tag 2 2 tag = rw two at (label_start s at tag k h f e l q) in
      let w : tag / 10 % 10 ≡ tag / 10 = omega (arith, below) in
      let d : drop at s ≡ get_or s at 0 ∷ drop (suc at) s = drop-cons s at 0 (omega arith) in
      sym
      (turn s at tag 2 1 tag c
      ∙ ap (λ (p : List ℕ). starts (places 1 (tag / 10)) p && eqb (get_or s (at + 1) 0) (48 + tag % 10)) d
      ∙ rw w (split (eqb (get_or s at 0) (48 + tag / 10)) (λ t. rw t) (λ t. rw t)))

-- ---- labels of other tags

-- they have different bytes at one place
abbrev pub differ : List ℕ → List ℕ → Bool
differ [] q = false
differ (a ∷ p) [] = false
differ (a ∷ p) (b ∷ q) = cond (eqb b a) (differ p q) true

pub differ_starts : (p q rest : List ℕ) → differ p q ≡ true → starts p (q ++ rest) ≡ false
differ_starts [] q rest e = absurd (false≢true e)
differ_starts (a ∷ p) [] rest e = absurd (false≢true e)
differ_starts (a ∷ p) (b ∷ q) rest e =
    split (eqb b a) (λ t. rw t (differ_starts p q rest (rw t at e))) (λ t. rw t)

pub written_starts : (g tag : ℕ) (v rest : List ℕ) → differ (label g) (label tag) ≡ true → starts (label g) (written tag v ++ rest) ≡ false
unfolding written
written_starts g tag v rest e =
    let z : label tag ++ v ++ (1 ∷ []) ++ rest ≡ label tag ++ (v ++ (1 ∷ rest)) = simp append_assoc in
    ap (starts (label g)) z ∙ differ_starts (label g) (label tag) (v ++ (1 ∷ rest)) e
