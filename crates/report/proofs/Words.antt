-- Words of three or four characters: how many there are, how they are compared and written.
use Prim.Native.Nat.{ℕ, ◌≤◌}
use mathlib.Core.Path.{◌≡◌, sym, ap, ◌∙◌, subst}
use mathlib.Core.Bool.{Bool, true, false, cond}
use mathlib.Core.List.{List, [], ◌∷◌}
use lib.Dec.{eqb, lit≤}
use lib.ListN.{length, take}
use borrow.Author.Tests.{eq-eqb, ne_eqb}
use Rattle.octets.specs.Octets.{same_bytes}
use Rattle.octets.specs.Written.{Room, Wrote}
use Rattle.octets.proofs.Bools.{split}
use Rattle.report.specs.declared.Value.TheVariants.{Word}
use Rattle.report.specs.Fields.{word_bytes}
use Rattle.report.specs.Shapes.{word_in}
use Rattle.std.proofs.Common.{Some, None}

-- ---- how many there are
pub word_counts_three : (z : ℕ) → z ≡ 0 → (◌≡◌ {A = ℕ} 3 (cond (eqb z 0) 3 4)) × (3 ≤ 4)
word_counts_three z e = (rw (eq-eqb z 0 e), lit≤ tt)

pub word_counts_four : (z : ℕ) → (z ≡ 0 → ⊥) → (◌≡◌ {A = ℕ} 4 (cond (eqb z 0) 3 4)) × (4 ≤ 4)
word_counts_four z n = (rw (ne_eqb z 0 n), lit≤ tt)

module _ (w x y z : ℕ) where
  -- as many of four as there are
  word_front : (n : ℕ) → n ≡ cond (eqb z 0) 3 4 → take n (w ∷ x ∷ y ∷ z ∷ []) ≡ word_bytes w x y z
  word_front n e = rw e (split (eqb z 0) (λ t. rw t) (λ t. rw t))

  pub word_part : (n : ℕ) → n ≡ cond (eqb z 0) 3 4 → n ≡ length (take n (w ∷ x ∷ y ∷ z ∷ []))
  word_part n e = rw e (split (eqb z 0) (λ t. rw t) (λ t. rw t))

  -- ---- comparing
  module _ (v : List ℕ) (n : ℕ) (e : n ≡ cond (eqb z 0) 3 4) (b : Bool) (be : b ≡ same_bytes v (take n (w ∷ x ∷ y ∷ z ∷ []))) where
    same_word : same_bytes v (word_bytes w x y z) ≡ b
    same_word = sym (be ∙ ap (same_bytes v) (word_front n e))

    pub word_taken : b ≡ true → Some (Word w x y z) ≡ word_in w x y z v
    unfolding word_in
    word_taken t = rw (same_word ∙ t)

    pub word_not : b ≡ false → None ≡ word_in w x y z v
    unfolding word_in
    word_not t = rw (same_word ∙ t)

  -- ---- writing
  module _ (n : ℕ) (e : n ≡ cond (eqb z 0) 3 4) {area : List ℕ} {at : ℕ} where
    pub word_room : Room area at (word_bytes w x y z) → Room area at (take n (w ∷ x ∷ y ∷ z ∷ []))
    word_room r = subst (λ (l : List ℕ). Room area at l) (sym (word_front n e)) r

    pub word_wrote : {next : ℕ} {after : List ℕ} → Wrote area at (take n (w ∷ x ∷ y ∷ z ∷ [])) next after → Wrote area at (word_bytes w x y z) next after
    word_wrote {next} {after} v = subst (λ (l : List ℕ). Wrote area at l next after) (word_front n e) v
