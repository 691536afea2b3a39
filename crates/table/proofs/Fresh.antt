-- Numbers given to records that are distinct and below the next number, as places and OrderIDs are: the test and the facts; the
-- same numbers, or a later next number; and one record takes the next number.
use mathlib.Core.Path.{◌≡◌, sym, ap, ◌∙◌}
use mathlib.Core.Bool.{true, false, not, ◌&&◌}
use mathlib.Core.Logic.{⊎_elim}
use Prim.Native.Nat.{ℕ, ◌+◌, ◌-◌, ◌≤◌, ◌<◌}
use native.Mathlib.Omega.{arith}
use lib.Dec.{eqb, ltb}
use borrow.Author.Tests.{ltb-true, lt-ltb, eqb-true, eqb-false, ne_eqb, not-true}
use Rattle.octets.specs.Tests.{all_up_to}
use Rattle.octets.proofs.Bools.{split, both_i, both_l, both_r}
use Rattle.octets.proofs.Places.{below_or}
use Rattle.octets.proofs.Ranges.{all_at, all_from}
use Rattle.octets.proofs.Searches.{all_ext, record_at_lem}
use Rattle.table.specs.Market.{is_fresh, are_fresh}
use Rattle.table.specs.Facts.{FreshNumbers}

-- ---- the test and the facts

module _ (f : ℕ → ℕ) (next n : ℕ) where
  module _ (h : are_fresh f next n ≡ true) where
    one : (j : ℕ) → j < n → (ltb (f (j + 1)) next && is_fresh f j) ≡ true
    unfolding are_fresh
    one j l = all_at (λ i. ltb (f (i + 1)) next && is_fresh f i) n h j l

    under : (i : ℕ) → 1 ≤ i → i ≤ n → f i < next
    under i l m =
        let e : i - 1 + 1 ≡ i = omega arith in
        let a : f (i - 1 + 1) < next = ltb-true _ _ (both_l _ (is_fresh f (i - 1)) (one (i - 1) (omega arith))) in
        rw e at a

    before : (i j : ℕ) → 1 ≤ i → i < j → j ≤ n → f i ≡ f j → ⊥
    unfolding is_fresh
    before i j l m k e =
        let q : j - 1 + 1 ≡ j = omega arith in
        let a : all_up_to (λ x. not (eqb (f (x + 1)) (f (j - 1 + 1)))) (j - 1) ≡ true = both_r (ltb (f (j - 1 + 1)) next) _ (one (j - 1) (omega arith)) in
        let b : not (eqb (f i) (f (j - 1 + 1))) ≡ true = record_at_lem (λ x. not (eqb (f x) (f (j - 1 + 1)))) (j - 1) a i l (omega arith) in
        let c : not (eqb (f i) (f j)) ≡ true = rw q at b in
        eqb-false (f i) (f j) (not-true _ c) e

    pub fresh_facts : FreshNumbers f next n
    fresh_facts =
        record {
          below = under;
          apart = λ i j li hi lj hj e.
              ⊎_elim (λ (m : i < j). absurd (before i j li m hj e))
              (λ (m : j ≤ i).
              ⊎_elim (λ (k : j < i). absurd (before j i lj k hi (sym e)))
              (λ (k : i ≤ j). omega arith) (below_or j i))
              (below_or i j);
        }

  pub facts_fresh : FreshNumbers f next n → are_fresh f next n ≡ true
  unfolding are_fresh is_fresh
  facts_fresh m =
      all_from (λ j. ltb (f (j + 1)) next && is_fresh f j) n
      (λ j l.
      both_i (lt-ltb _ _ (m.below (j + 1) (omega arith) (omega arith)))
      (all_from (λ i. not (eqb (f (i + 1)) (f (j + 1)))) j
      (λ i h.
      let d : eqb (f (i + 1)) (f (j + 1)) ≡ false =
      ne_eqb _ _ (λ e. omega (arith, m.apart (i + 1) (j + 1) (omega arith) (omega arith) (omega arith) (omega arith) e)) in
      rw d)))

-- the test looks at the numbers of the n records alone
one_ext : (f g : ℕ → ℕ) (j : ℕ) → ((i : ℕ) → 1 ≤ i → i ≤ j + 1 → f i ≡ g i) → is_fresh f j ≡ is_fresh g j
unfolding is_fresh
one_ext f g j s =
    all_ext (λ i. not (eqb (f (i + 1)) (f (j + 1)))) (λ i. not (eqb (g (i + 1)) (g (j + 1)))) j
    (λ i h.
    let a : f (j + 1) ≡ g (j + 1) = s (j + 1) (omega arith) (omega arith) in
    let b : f (i + 1) ≡ g (i + 1) = s (i + 1) (omega arith) (omega arith) in
    rw (a, b))

pub fresh_ext : (f g : ℕ → ℕ) (next n : ℕ) → ((i : ℕ) → 1 ≤ i → i ≤ n → f i ≡ g i) → are_fresh f next n ≡ are_fresh g next n
unfolding are_fresh
fresh_ext f g next n s =
    all_ext (λ j. ltb (f (j + 1)) next && is_fresh f j) (λ j. ltb (g (j + 1)) next && is_fresh g j) n
    (λ j l.
    let a : f (j + 1) ≡ g (j + 1) = s (j + 1) (omega arith) (omega arith) in
    let b : is_fresh f j ≡ is_fresh g j = one_ext f g j (λ i h m. s i h (omega arith)) in
    rw (a, b))

-- ---- from facts to facts

-- of no record
pub fresh_none : (f : ℕ → ℕ) (next n : ℕ) → n ≡ 0 → FreshNumbers f next n
fresh_none f next n e = record { below = λ i l h. absurd (omega arith); apart = λ i j li hi lj hj q. absurd (omega arith) }

-- the same numbers, of as many records, below a next number that may have grown
pub fresh_same : (f g : ℕ → ℕ) (next more n m : ℕ) → next ≤ more → m ≡ n → ((i : ℕ) → 1 ≤ i → i ≤ n → g i ≡ f i)
    → FreshNumbers f next n → FreshNumbers g more m
fresh_same f g next more n m l e s h =
    record {
      below = λ i a b.
          let q = s i a (omega arith) in
          omega (arith, h.below i a (omega arith));
      apart = λ i j a b c d q. h.apart i j a (omega arith) c (omega arith) (sym (s i a (omega arith)) ∙ q ∙ s j c (omega arith));
    }

-- record k has taken the next number; the others, of m records, have theirs as before
pub fresh_taken : (f g : ℕ → ℕ) (next n m k : ℕ) → ((i : ℕ) → 1 ≤ i → i ≤ m → (i ≡ k → ⊥) → (i ≤ n) × (g i ≡ f i)) → g k ≡ next
    → FreshNumbers f next n → FreshNumbers g (next + 1) m
fresh_taken f g next n m k s e h =
    record {
      below = λ i a b.
          split (eqb i k)
          (λ t. omega (arith, new i (eqb-true i k t)))
          (λ t. omega (arith, old i a b (eqb-false i k t)));
      apart = λ i j a b c d q.
          split (eqb i k)
          (λ t. split (eqb j k)
          (λ u. eqb-true i k t ∙ sym (eqb-true j k u))
          (λ u. absurd (omega (arith, new i (eqb-true i k t), old j c d (eqb-false j k u), q))))
          (λ t. let x = eqb-false i k t in
          split (eqb j k)
          (λ u. absurd (omega (arith, new j (eqb-true j k u), old i a b x, q)))
          (λ u.
          let y = eqb-false j k u in
          h.apart i j a (s i a b x).0 c (s j c d y).0 (sym (s i a b x).1 ∙ q ∙ (s j c d y).1)));
    }
  where
    new : (i : ℕ) → i ≡ k → g i ≡ next
    new i q = ap g q ∙ e

    old : (i : ℕ) → 1 ≤ i → i ≤ m → (i ≡ k → ⊥) → g i < next
    old i a b x = let z = (s i a b x).1 in omega (arith, h.below i a (s i a b x).0)
