-- Turns: on one side an earlier turn is a better order, no two orders of a book have one turn, and every turn is before the end.
use mathlib.Core.Path.{◌≡◌, sym, ap, ◌∙◌}
use mathlib.Core.Bool.{Bool, true, false, cond}
use Prim.Native.Nat.{ℕ, ◌+◌, ◌-◌, ◌*◌, ◌≤◌, ◌<◌}
use native.Mathlib.Nat.{suc-mul, mul-le-mul_right}
use native.Mathlib.Omega.{arith}
use lib.ListN.{length}
use lib.Dec.{eqb}
use borrow.Author.Tests.{ltb-true, ltb-false, eqb-true}
use Rattle.octets.proofs.Bools.{split}
use Rattle.matching.specs.declared.Order.{Order}
use Rattle.matching.specs.Matching.{Book, at, is_buy, ahead, better}
use Rattle.matching.specs.Held.{In, Held}
use Rattle.matching.specs.Looked.{turn_of, end_of}
use Rattle.matching.proofs.Events.{Terms, terms_of}
use Rattle.matching.proofs.Best.{ahead_other}

-- a level of a side as its distance from the best
abbrev depth_of : Bool → ℕ → ℕ
depth_of buy l = cond buy l (1_999_999_999 - l)

ahead_depth : (s : Bool) (x y : ℕ) → x ≤ 1_999_999_999 → y ≤ 1_999_999_999 → ahead s x y ≡ true → depth_of s x < depth_of s y
ahead_depth true x y h l p = ltb-true x y p
ahead_depth false x y h l p = omega (arith, ltb-true y x p)

depth_high : (s : Bool) (x : ℕ) → x ≤ 1_999_999_999 → depth_of s x ≤ 1_999_999_999
depth_high true x h = h
depth_high false x h = omega arith

-- a smaller distance comes before any place
in_front : (d e next p r : ℕ) → d < e → p < next → d * next + p < e * next + r
in_front d e next p r h l = omega (arith, suc-mul d next, mul-le-mul_right next h)

-- ---- two orders of one side, in their ranges
module _ (next : ℕ) (a c : Order) (s : is_buy a ≡ is_buy c) (x : a.level ≤ 1_999_999_999) (y : c.level ≤ 1_999_999_999)
    (u : a.place < next) (v : c.place < next) where
  ahead_turn : ahead (is_buy a) a.level c.level ≡ true → turn_of next a < turn_of next c
  unfolding turn_of
  ahead_turn h =
      rw (← s) (in_front (depth_of (is_buy a) a.level) (depth_of (is_buy a) c.level) next a.place c.place (ahead_depth (is_buy a) _ _ x y h) u)

  behind_turn : ahead (is_buy a) c.level a.level ≡ true → turn_of next c < turn_of next a
  unfolding turn_of
  behind_turn h =
      rw (← s) (in_front (depth_of (is_buy a) c.level) (depth_of (is_buy a) a.level) next c.place a.place (ahead_depth (is_buy a) _ _ y x h) v)

  -- at one level the place decides
  level_turn : a.level ≡ c.level → turn_of next a + c.place ≡ turn_of next c + a.place
  unfolding turn_of
  level_turn e = rw (s, e) (omega arith)

  pub better_turn : better a c ≡ true → turn_of next a < turn_of next c
  unfolding better
  better_turn h =
      split (eqb a.level c.level)
      (λ t. omega (arith, level_turn (eqb-true _ _ t), ltb-true a.place c.place (rw t at h)))
      (λ t. ahead_turn (rw t at h))

  pub not_better_turn : better a c ≡ false → turn_of next c ≤ turn_of next a
  unfolding better
  not_better_turn h =
      split (eqb a.level c.level)
      (λ t. omega (arith, level_turn (eqb-true _ _ t), ltb-false a.place c.place (rw t at h)))
      (λ t. omega (arith, behind_turn (ahead_other (is_buy a) a.level c.level (rw t at h) t)))

  pub turn_better : turn_of next a < turn_of next c → better a c ≡ true
  turn_better h = split (better a c) (λ t. t) (λ t. absurd (omega (arith, not_better_turn t)))

  pub turn_place : turn_of next a ≡ turn_of next c → a.place ≡ c.place
  turn_place e =
      split (eqb a.level c.level)
      (λ t. omega (arith, level_turn (eqb-true _ _ t)))
      (λ t. split (ahead (is_buy a) a.level c.level)
      (λ o. absurd (omega (arith, ahead_turn o)))
      (λ o. absurd (omega (arith, behind_turn (ahead_other (is_buy a) a.level c.level o t)))))

pub turn_end : (next : ℕ) (r : Order) → r.level ≤ 1_999_999_999 → r.place < next → turn_of next r < end_of next
unfolding turn_of end_of
turn_end next r h l =
    omega (arith, in_front (depth_of (is_buy r) r.level) 2_000_000_000 next r.place 0 (omega (arith, depth_high (is_buy r) r.level h)) l)

-- orders of the same terms have the same turn
pub turn_alike : (next : ℕ) (a c : Order) → terms_of a ≡ terms_of c → turn_of next a ≡ turn_of next c
unfolding turn_of
turn_alike next a c e = rw (ap (λ (t : Terms). t.side) e, ap (λ (t : Terms). t.level) e, ap (λ (t : Terms). t.place) e)

-- ---- a book whose orders have their turns
pub record Placed (next : ℕ) (b : Book) : Type 0 where
  pub high : (k : ℕ) → In b k → (at b k).level ≤ 1_999_999_999
  pub below : (k : ℕ) → In b k → (at b k).place < next
  pub apart : (i j : ℕ) → In b i → In b j → (at b i).place ≡ (at b j).place → i ≡ j

pub held_placed : (listed : ℕ → Bool) (next : ℕ) (b : Book) (w : ℕ) → Held listed next b w → Placed next b
held_placed listed next b w h = record { high = λ k i. (h.sound k i).level_high; below = h.places_below; apart = h.places_apart }

-- terms that stay keep it
pub placed_kept : (next : ℕ) (b c : Book) → ((k : ℕ) → terms_of (at c k) ≡ terms_of (at b k)) → length c ≡ length b → Placed next b → Placed next c
placed_kept next b c e l p =
    record {
      high = λ k i. rw (ap (λ (t : Terms). t.level) (e k)) (p.high k (back k i));
      below = λ k i. rw (place k) (p.below k (back k i));
      apart = λ i j x y q. p.apart i j (back i x) (back j y) (sym (place i) ∙ q ∙ place j);
    }
  where
    back : (k : ℕ) → In c k → In b k
    back k i = record { low = i.low; high = rw l at i.high }

    place : (k : ℕ) → (at c k).place ≡ (at b k).place
    place k = ap (λ (t : Terms). t.place) (e k)

module _ (next : ℕ) (b : Book) (p : Placed next b) where
  pub placed_end : (k : ℕ) → In b k → turn_of next (at b k) < end_of next
  placed_end k i = turn_end next (at b k) (p.high k i) (p.below k i)

  module _ (i j : ℕ) (x : In b i) (y : In b j) (s : is_buy (at b i) ≡ is_buy (at b j)) where
    pub placed_turn : better (at b i) (at b j) ≡ false → turn_of next (at b j) ≤ turn_of next (at b i)
    placed_turn h = not_better_turn next (at b i) (at b j) s (p.high i x) (p.high j y) (p.below i x) (p.below j y) h

    pub placed_apart : turn_of next (at b i) ≡ turn_of next (at b j) → i ≡ j
    placed_apart e = p.apart i j x y (turn_place next (at b i) (at b j) s (p.high i x) (p.high j y) (p.below i x) (p.below j y) e)
