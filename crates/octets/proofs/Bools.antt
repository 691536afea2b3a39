-- Taking tests apart: a Bool split into its two cases, both halves of `&&`, neither half of `||`.
use mathlib.Core.Path.{◌≡◌, refl, sym}
use mathlib.Core.Bool.{Bool, true, false, ◌&&◌, ◌||◌}
use Prim.Native.Nat.{ℕ}
use native.Mathlib.Omega.{arith}

-- by cases on a test: `split t (λ e. rw e ..) (λ e. rw e ..)`
pub split : {G : Type 0} (t : Bool) → (t ≡ true → G) → (t ≡ false → G) → G
split true p q = p refl
split false p q = q refl

-- a test is not both
pub not_both : {t : Bool} → t ≡ true → t ≡ false → ⊥
not_both p q = let z : ◌≡◌ {A = ℕ} 0 1 = cc in omega arith

-- ---- `&&`
pub both_i : {a b : Bool} → a ≡ true → b ≡ true → (a && b) ≡ true
both_i {a} {b} p q = rw (p, q)

pub both_l : (a b : Bool) → (a && b) ≡ true → a ≡ true
both_l true b h = refl
both_l false b h = h

pub both_r : (a b : Bool) → (a && b) ≡ true → b ≡ true
both_r true b h = h
both_r false b h = let z : true ≡ false = sym h in cc

pub both_not_l : (a b : Bool) → a ≡ false → (a && b) ≡ false
both_not_l a b h = rw h

pub both_not_r : (a b : Bool) → b ≡ false → (a && b) ≡ false
both_not_r true b h = h
both_not_r false b h = refl

-- ---- `||`
pub or_l : (a b : Bool) → a ≡ true → (a || b) ≡ true
or_l a b h = rw h

pub or_r : (a b : Bool) → (a || b) ≡ true → a ≡ false → b ≡ true
or_r a b e p = rw p at e

pub neither_l : (a b : Bool) → (a || b) ≡ false → a ≡ false
neither_l true b e = let z : true ≡ false = e in cc
neither_l false b e = refl

pub neither_r : (a b : Bool) → (a || b) ≡ false → b ≡ false
neither_r true b e = let z : true ≡ false = e in cc
neither_r false b e = e
