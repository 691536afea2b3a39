-- A `match` on a number, and a definition that asks whether a number is one of a list.
use Prim.Native.Nat.{ℕ}
use mathlib.Core.Path.{◌≡◌, refl, sym, subst}
use mathlib.Core.List.{List, [], ◌∷◌}
use mathlib.Core.Logic.{inl, inr, ⊎_elim}
use mathlib.Core.Bool.{Bool, true, false, ◌||◌, ◌&&◌}
use lib.Dec.{eqb}
use types.Run.{OneOf}
use borrow.Author.Tests.{ne_eqb, eqb-true}
use Rattle.octets.proofs.Bools.{split, both_l, both_r, not_both}
use Rattle.request.specs.Session.{one_of}

-- P of each key
abbrev pub Each : (ℕ → Type 0) → List ℕ → Type 0
Each P [] = Unit {0}
Each P (k ∷ ks) = P k × Each P ks

-- what holds of each key holds of a number that is one of them
pub by_key : (P : ℕ → Type 0) (ks : List ℕ) (x : ℕ) → Each P ks → OneOf ks x → P x
by_key P [] x all o = absurd o
by_key P (k ∷ []) x all e = subst P (sym e) all.0
by_key P (k ∷ (l ∷ ks)) x all o = ⊎_elim (λ e. subst P (sym e) all.0) (λ r. by_key P (l ∷ ks) x all.1 r) o

pub not_key : (ks : List ℕ) (x : ℕ) → (OneOf ks x → ⊥) → one_of x ks ≡ false
unfolding one_of
not_key [] x h = refl
not_key (k ∷ []) x h = rw (ne_eqb x k h)
not_key (k ∷ (l ∷ ks)) x h = rw (ne_eqb x k (λ e. h (inl e))) (not_key (l ∷ ks) x (λ o. h (inr o)))

-- each of a list is one of three lists of keys: a test that computes
unfoldable pub covered : List ℕ → List ℕ → List ℕ → List ℕ → Bool
covered [] ks ls ms = true
covered (k ∷ list) ks ls ms = (one_of k ks || one_of k ls || one_of k ms) && covered list ks ls ms

-- a number that is none of the keys is none of a list that they cover
module _ (ks ls ms : List ℕ) (x : ℕ) (f : OneOf ks x → ⊥) (g : OneOf ls x → ⊥) (h : OneOf ms x → ⊥) where
  pub none_of : (list : List ℕ) → covered list ks ls ms ≡ true → one_of x list ≡ false
  unfolding one_of covered
  none_of [] e = refl
  none_of (k ∷ list) e =
      let c = both_l (one_of k ks || one_of k ls || one_of k ms) (covered list ks ls ms) e in
      let differ : x ≡ k → ⊥ = λ same.
      not_both c (rw (rw same at (not_key ks x f), rw same at (not_key ls x g), rw same at (not_key ms x h))) in
      rw (ne_eqb x k differ) (none_of list (both_r (one_of k ks || one_of k ls || one_of k ms) (covered list ks ls ms) e))

-- a test that holds of each of a list
unfoldable pub each_is : (ℕ → Bool) → List ℕ → Bool
each_is p [] = true
each_is p (k ∷ ks) = p k && each_is p ks

pub each_at : (p : ℕ → Bool) (ks : List ℕ) (x : ℕ) → each_is p ks ≡ true → one_of x ks ≡ true → p x ≡ true
unfolding each_is one_of
each_at p [] x e o = absurd (not_both o refl)
each_at p (k ∷ ks) x e o =
    split (eqb x k) (λ y. rw (eqb-true x k y) (both_l (p k) (each_is p ks) e))
    (λ n. each_at p ks x (both_r (p k) (each_is p ks) e) (rw n at o))
