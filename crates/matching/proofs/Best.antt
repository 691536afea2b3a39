-- Nothing that an order meets is better than the best; and a run goes on where another stopped.
use mathlib.Core.Path.{◌≡◌, refl, sym, ap, ◌∙◌}
use mathlib.Core.Bool.{Bool, true, false, cond, not, ◌&&◌, ◌||◌}
use mathlib.Core.List.{List, ◌++◌, append_assoc}
use Prim.Native.Nat.{ℕ, zero, suc, ◌+◌, ◌≤◌, ◌<◌}
use native.Mathlib.Nat.{suc-add, zero-add}
use native.Mathlib.Omega.{arith}
use lib.ListN.{length}
use lib.Dec.{ltb, eqb}
use borrow.Author.Tests.{ltb-true, ltb-false, eqb-true, eqb-false, lt-ltb, eq-eqb, ne_eqb}
use Rattle.octets.proofs.Bools.{split, not_both, both_i, both_l, both_r, or_r}
use Rattle.matching.specs.declared.Order.{Order}
use Rattle.matching.specs.declared.Event.{Event}
use Rattle.matching.specs.Held.{In}
use Rattle.matching.specs.Matching.{Book, at, is_buy, is_open, partner, ahead, better, faces, choose, best, happens, book_after, work_after, run}
use Rattle.matching.specs.Runs.{GoesOn}
use Rattle.matching.proofs.Steps.{faces_opposite, best_none, both_no}
use Rattle.matching.proofs.Ends.{idle}

-- ---- levels one ahead of another, on a side
pub ahead_trans : (s : Bool) (x y z : ℕ) → ahead s x y ≡ true → ahead s y z ≡ true → ahead s x z ≡ true
ahead_trans true x y z p q = lt-ltb x z (omega (arith, ltb-true x y p, ltb-true y z q))
ahead_trans false x y z p q = lt-ltb z x (omega (arith, ltb-true y x p, ltb-true z y q))

pub ahead_self : (s : Bool) (x : ℕ) → ahead s x x ≡ true → ⊥
ahead_self true x p = omega (arith, ltb-true x x p)
ahead_self false x p = omega (arith, ltb-true x x p)

-- of two levels that differ one is ahead
pub ahead_other : (s : Bool) (x y : ℕ) → ahead s x y ≡ false → eqb x y ≡ false → ahead s y x ≡ true
ahead_other true x y p q = lt-ltb y x (omega (arith, ltb-false x y p, eqb-false x y q))
ahead_other false x y p q = lt-ltb x y (omega (arith, ltb-false y x p, eqb-false x y q))

-- ---- orders of one side
-- a better order is of a better level, or of the same and an earlier place
pub better_level : (a c : Order) → better a c ≡ true → eqb a.level c.level ≡ false → ahead (is_buy a) a.level c.level ≡ true
unfolding better
better_level a c e t = rw t at e

pub better_place : (a c : Order) → better a c ≡ true → eqb a.level c.level ≡ true → ltb a.place c.place ≡ true
unfolding better
better_place a c e t = rw t at e

pub by_level : (a c : Order) → ahead (is_buy a) a.level c.level ≡ true → better a c ≡ true
unfolding better
by_level a c h =
    split (eqb a.level c.level)
    (λ t. absurd (ahead_self (is_buy a) c.level (rw (eqb-true a.level c.level t) at h)))
    (λ t. rw t h)

pub by_place : (a c : Order) → a.level ≡ c.level → a.place < c.place → better a c ≡ true
unfolding better
by_place a c e h = rw (eq-eqb a.level c.level e) (lt-ltb _ _ h)

pub better_trans : (a b c : Order) → is_buy b ≡ is_buy a → better a b ≡ true → better b c ≡ true → better a c ≡ true
better_trans a b c s p q =
    split (eqb a.level b.level)
    (λ t. split (eqb b.level c.level)
    (λ u. by_place a c (eqb-true a.level b.level t ∙ eqb-true b.level c.level u)
    (omega (arith, ltb-true a.place b.place (better_place a b p t), ltb-true b.place c.place (better_place b c q u))))
    (λ u. by_level a c (rw (s, ← eqb-true a.level b.level t) at (better_level b c q u))))
    (λ t. split (eqb b.level c.level)
    (λ u. by_level a c (rw (eqb-true b.level c.level u) at (better_level a b p t)))
    (λ u. by_level a c (ahead_trans (is_buy a) a.level b.level c.level (better_level a b p t) (rw s at (better_level b c q u)))))

pub better_self : (a : Order) → better a a ≡ true → ⊥
better_self a e = omega (arith, ltb-true a.place a.place (better_place a a e (eq-eqb a.level a.level refl)))

-- orders opposite to one order are of one side
one_side : (x y z : Bool) → cond x (not y) y ≡ true → cond x (not z) z ≡ true → z ≡ y
one_side true true z p q = absurd (not_both p refl)
one_side true false true p q = absurd (not_both q refl)
one_side true false false p q = refl
one_side false y z p q = q ∙ sym p

-- ---- nothing is better than the best
pub best_is_best : (b : Book) (o : Order) (n k : ℕ) → 0 < k → k ≤ n → faces o (at b k) ≡ true → better (at b k) (at b (best b o n)) ≡ true → ⊥
unfolding best choose
best_is_best b o zero k l h f e = omega arith
best_is_best b o (suc n) k l h f e =
    let c = best b o n in
    let r = at b (suc n) in
    split (faces o r && (eqb c 0 || better r (at b c)))
    (λ t.
    let g : better (at b k) r ≡ true = rw t at e in
    split (eqb k (suc n))
    (λ u. better_self r (rw (eqb-true k (suc n) u) at g))
    (λ u.
    let m : k ≤ n = omega (arith, eqb-false) in
    let fr : faces o r ≡ true = both_l _ (eqb c 0 || better r (at b c)) t in
    split (eqb c 0)
    (λ v. not_both f (best_none b o n (eqb-true c 0 v) k l m))
    (λ v.
    best_is_best b o n k l m f
    (better_trans (at b k) r (at b c) (one_side (is_buy o) (is_buy (at b k)) (is_buy r) (faces_opposite o _ f) (faces_opposite o _ fr)) g
    (or_r (eqb c 0) (better r (at b c)) (both_r (faces o r) _ t) v)))))
    (λ t.
    let g : better (at b k) (at b c) ≡ true = rw t at e in
    split (eqb k (suc n))
    (λ u.
    let q = eqb-true k (suc n) u in
    not_both (both_i (rw q at f) (last (eqb c 0) (better r (at b c)) (rw q at g))) t)
    (λ u. best_is_best b o n k l (omega (arith, eqb-false)) f g))
  where
    last : (x y : Bool) → y ≡ true → (x || y) ≡ true
    last true y h = refl
    last false y h = h

-- so the order that w is matched with is the best of those it meets
pub partner_best : (b : Book) (w r k : ℕ) → partner b w ≡ r → 0 < r → In b k → faces (at b w) (at b k) ≡ true → better (at b k) (at b r) ≡ false
unfolding partner
partner_best b w r k e p i f =
    split (is_open (at b w))
    (λ t.
    let q : best b (at b w) (length b) ≡ r = rw t at e in
    split (better (at b k) (at b r))
    (λ u. absurd (best_is_best b (at b w) (length b) k i.low i.high f (rw q u)))
    (λ u. u))
    (λ t. absurd (let q : 0 ≡ r = rw t at e in omega arith))

-- a number that is not the first
no_first : (m : ℕ) → eqb (suc m) 0 ≡ false
no_first m = ne_eqb (suc m) 0 (λ e. omega arith)

-- ---- a run of m and then of n steps is a run of m + n; whether a minimum is missed is asked for by the first step there is
pub run_on : (modes : ℕ → ℕ) (missed : Bool) (m n : ℕ) (b : Book) (w : ℕ)
    → let first = run modes missed m b w in
    GoesOn first (run modes (eqb m 0 && missed) n first.book first.work) (run modes missed (m + n) b w)
unfolding run
run_on modes missed zero n b w = simp zero-add (record { book = refl; work = refl; events = refl; steps = sym (zero-add _) })
run_on modes missed (suc m) n b zero = simp (suc-add, idle) (record { book = refl; work = refl; events = refl; steps = refl })
run_on modes missed (suc m) n b (suc k) =
    let es = happens modes missed b (suc k) in
    let g = run_on modes false m n (book_after modes missed b (suc k)) (work_after missed b (suc k)) in
    let h = rw (both_no (eqb m 0)) at g in
    simp (suc-add, no_first m)
    (record {
      book = h.book;
      work = h.work;
      events = ap (λ (fs : List Event). es ++ fs) h.events ∙ sym (append_assoc es _ _);
      steps = ap suc h.steps ∙ sym (suc-add _ _);
    })
