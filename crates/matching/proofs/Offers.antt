-- What the orders of a book offer to the one in work, in their turn: sums before a turn, from one turn to the next, and what one match
-- does to them.
use mathlib.Core.Path.{◌≡◌, refl, sym, ap, ◌∙◌}
use mathlib.Core.Bool.{Bool, true, false, cond, not, ◌&&◌}
use mathlib.Core.Logic.{◌≢◌}
use Prim.Native.Nat.{ℕ, zero, suc, ◌+◌, ◌*◌, ◌≤◌, ◌<◌, min}
use native.Mathlib.Omega.{arith}
use lib.ListN.{length}
use lib.Dec.{ltb, eqb}
use borrow.Author.Tests.{ltb-true, ltb-false, lt-ltb, le-ltb, eqb-true, eqb-false, eq-eqb}
use Rattle.octets.proofs.Bools.{split, not_both, both_i, both_l, both_r}
use Rattle.matching.specs.declared.Order.{Order}
use Rattle.matching.specs.Matching.{Book, at, open_of, is_open, is_buy, opposite, meets, faces, same_owner, sum_over, partner, best}
use Rattle.matching.specs.Held.{In}
use Rattle.matching.specs.Looked.{turn_of, end_of, offered, tradable, sum_before, offered_to, tradable_to, own}
use Rattle.matching.proofs.Books.{sum_same, sum_le, sum_add, sum_most}
use Rattle.matching.proofs.Events.{Terms, terms_of}
use Rattle.matching.proofs.Steps.{faces_opposite, faces_of, faces_closed, not_opposite, best_none}
use Rattle.matching.proofs.Minimum.{Matched}
use Rattle.matching.proofs.Turns.{turn_alike, Placed, placed_end, placed_turn, placed_apart}

-- ---- sums

-- of which only the term of r differs
sum_moved : (f g : Order → ℕ) (b c : Book) (n r : ℕ) → ((k : ℕ) → 0 < k → k ≤ n → k ≢ r → f (at b k) ≡ g (at c k)) → 0 < r → r ≤ n
    → sum_over f b n + g (at c r) ≡ sum_over g c n + f (at b r)
unfolding sum_over
sum_moved f g b c zero r h l m = absurd (omega arith)
sum_moved f g b c (suc n) r h l m =
    split (eqb r (suc n))
    (λ t.
    let e = eqb-true r (suc n) t in
    let s = sum_same f g b c n (λ k i j. h k i (omega arith) (omega arith)) in
    rw e (omega arith))
    (λ t.
    let z = sum_moved f g b c n r (λ k i j. h k i (omega arith)) l (omega (arith, eqb-false r (suc n) t)) in
    omega (arith, h (suc n) (omega arith) (omega arith) (λ e. eqb-false r (suc n) t (sym e))))

sum_none : (f : Order → ℕ) (b : Book) (n : ℕ) → ((k : ℕ) → 0 < k → k ≤ n → f (at b k) ≡ 0) → sum_over f b n ≡ 0
sum_none f b n h = omega (arith, sum_most f b n 0 (λ k i j. omega (arith, h k i j)))

-- ---- what an order offers

pub offered_of : (o r : Order) → opposite o r ≡ true → meets o r ≡ true → offered o r ≡ open_of r
unfolding offered
offered_of o r p m =
    split (is_open r)
    (λ t. rw (faces_of o r (ltb-true _ _ t) p m))
    (λ t. let z : open_of r ≡ 0 = omega (arith, ltb-false 0 (open_of r) t) in rw (faces_closed o r z, z))

pub offered_none : (o r : Order) → faces o r ≡ false → offered o r ≡ 0
unfolding offered
offered_none o r t = rw t

pub offered_self : (o : Order) → offered o o ≡ 0
offered_self o = split (faces o o) (λ t. absurd (not_opposite (is_buy o) (faces_opposite o o t))) (λ t. offered_none o o t)

pub offered_le : (o r : Order) → offered o r ≤ open_of r
unfolding offered
offered_le o r = split (faces o r) (λ t. rw t (omega arith)) (λ t. rw t (omega arith))

pub tradable_own : (o r : Order) → same_owner o r ≡ true → tradable o r ≡ 0
unfolding tradable
tradable_own o r t = rw t

pub tradable_other : (o r : Order) → same_owner o r ≡ false → tradable o r ≡ offered o r
unfolding tradable
tradable_other o r t = rw t

pub tradable_le : (o r : Order) → tradable o r ≤ offered o r
tradable_le o r = split (same_owner o r) (λ t. omega (arith, tradable_own o r t)) (λ t. omega (arith, tradable_other o r t))

-- one of one's own is met, and of the same owner
pub own_faces : (o r : Order) → own o r ≡ true → faces o r ≡ true
unfolding own
own_faces o r h = both_l _ _ h

pub own_owner : (o r : Order) → own o r ≡ true → same_owner o r ≡ true
unfolding own
own_owner o r h = both_r (faces o r) _ h

pub own_of : (o r : Order) → faces o r ≡ true → same_owner o r ≡ true → own o r ≡ true
unfolding own
own_of o r f s = both_i f s

-- by the terms of both, and what is open
module _ (o p r s : Order) (x : terms_of o ≡ terms_of p) (y : terms_of r ≡ terms_of s) where
  opposite_alike : opposite o r ≡ opposite p s
  opposite_alike = rw (ap (λ (t : Terms). t.side) x, ap (λ (t : Terms). t.side) y)

  meets_alike : meets o r ≡ meets p s
  unfolding meets
  meets_alike = rw (ap (λ (t : Terms). t.side) x, ap (λ (t : Terms). t.level) x, ap (λ (t : Terms). t.level) y)

  owner_alike : same_owner o r ≡ same_owner p s
  unfolding same_owner
  owner_alike = rw (ap (λ (t : Terms). t.mpid) x, ap (λ (t : Terms). t.mpid) y)

  pub faces_alike : open_of r ≡ open_of s → faces o r ≡ faces p s
  unfolding faces
  faces_alike e = rw (e, opposite_alike, meets_alike)

  offered_alike : open_of r ≡ open_of s → offered o r ≡ offered p s
  unfolding offered
  offered_alike e = rw (faces_alike e, e)

-- orders opposite to one order are of one side
pub one_side : (x y z : Bool) → cond x (not y) y ≡ true → cond x (not z) z ≡ true → y ≡ z
one_side true true z p q = absurd (not_both p refl)
one_side true false true p q = absurd (not_both q refl)
one_side true false false p q = refl
one_side false y z p q = p ∙ sym q

-- ---- sums before a turn

-- before the end is all, and behind it is nothing
module _ (next : ℕ) (f : Order → ℕ) (b : Book) (p : Placed next b) where
  pub before_end : (y : ℕ) → end_of next ≤ y → sum_before next f b y ≡ sum_over f b (length b)
  unfolding sum_before
  before_end y h =
      sum_same _ _ b b (length b)
      (λ k i j.
      let l = placed_end next b p k (record { low = i; high = j }) in
      rw (lt-ltb (turn_of next (at b k)) y (omega arith)))

-- before turn 0 is nothing
pub before_zero : (next : ℕ) (f : Order → ℕ) (b : Book) → sum_before next f b 0 ≡ 0
unfolding sum_before
before_zero next f b = sum_none _ b (length b) (λ k i j. rw (le-ltb (turn_of next (at b k)) 0 (omega arith)))

-- where each has at most n, all before a turn have at most n times their number
pub before_most : (next : ℕ) (f : Order → ℕ) (b : Book) (x n : ℕ) → ((k : ℕ) → In b k → f (at b k) ≤ n) → sum_before next f b x ≤ length b * n
unfolding sum_before
before_most next f b x n h =
    sum_most _ b (length b) n
    (λ k i j. split (ltb (turn_of next (at b k)) x) (λ t. rw t (h k (record { low = i; high = j }))) (λ t. rw t (omega arith)))

pub tradable_offered : (next : ℕ) (b : Book) (w x : ℕ) → tradable_to next b w x ≤ offered_to next b w x
unfolding tradable_to offered_to sum_before
tradable_offered next b w x =
    sum_le _ _ b b (length b)
    (λ k i j. split (ltb (turn_of next (at b k)) x) (λ t. rw t (tradable_le (at b w) (at b k))) (λ t. rw t (omega arith)))

-- nothing is offered before x where nobody that w meets has his turn there
offered_before : (next : ℕ) (b : Book) (w x : ℕ) → ((k : ℕ) → In b k → faces (at b w) (at b k) ≡ true → x ≤ turn_of next (at b k)) → offered_to next b w x ≡ 0
unfolding offered_to sum_before
offered_before next b w x h =
    sum_none _ b (length b)
    (λ k i j. split (faces (at b w) (at b k))
    (λ t. rw (le-ltb _ _ (h k (record { low = i; high = j }) t)))
    (λ t. rw (offered_none _ _ t) (split (ltb (turn_of next (at b k)) x) (λ u. rw u) (λ u. rw u))))

-- ---- from one turn to the next

-- an order of the first n that a test holds of, or none
data Sought (f : Order → Bool) (b : Book) (n : ℕ) : Type 0 where
  here : (k : ℕ) → 0 < k → k ≤ n → f (at b k) ≡ true → Sought f b n
  nowhere : ((k : ℕ) → 0 < k → k ≤ n → f (at b k) ≡ false) → Sought f b n

sought : (f : Order → Bool) (b : Book) (n : ℕ) → Sought f b n
sought f b zero = nowhere (λ k l h. absurd (omega arith))
sought f b (suc n) = split (f (at b (suc n))) (λ t. here (suc n) (omega arith) (omega arith) t) (λ t. longer t (sought f b n))
  where
    longer : f (at b (suc n)) ≡ false → Sought f b n → Sought f b (suc n)
    longer t (here k l h e) = here k l (omega arith) e
    longer t (nowhere g) =
        nowhere
        (λ k l h. split (eqb k (suc n))
        (λ u. rw (eqb-true k (suc n) u) t)
        (λ u. g k l (omega (arith, eqb-false k (suc n) u))))

-- the quantities before x and before x + 1, of all (m and n) and tradable (i and j): the one at x is of one's own, or is not
pub data Turn (m n i j : ℕ) : Type 0 where
  turn_own : i ≡ j → Turn m n i j
  turn_other : j + m ≡ i + n → Turn m n i j

module _ (next : ℕ) (b : Book) (w x : ℕ) (p : Placed next b) where
  abbrev here_own : Order → Bool
  here_own r = own (at b w) r && eqb (turn_of next r) x

  -- terms before x and before x + 1 differ only at x
  later : (r : Order) (q : ℕ) → (turn_of next r ≡ x → q ≡ 0) → cond (ltb (turn_of next r) x) q 0 ≡ cond (ltb (turn_of next r) (x + 1)) q 0
  later r q h =
      split (ltb (turn_of next r) x)
      (λ t. let l = ltb-true (turn_of next r) x t in rw (t, lt-ltb (turn_of next r) (x + 1) (omega arith)))
      (λ t. let l = ltb-false (turn_of next r) x t in
      split (ltb (turn_of next r) (x + 1))
      (λ u. let g = ltb-true (turn_of next r) (x + 1) u in rw (t, u) (sym (h (omega arith))))
      (λ u. rw (t, u)))

  later_both : (r : Order) (q o : ℕ) → (turn_of next r ≡ x → q ≡ o)
      → cond (ltb (turn_of next r) (x + 1)) q 0 + cond (ltb (turn_of next r) x) o 0 ≡ cond (ltb (turn_of next r) x) q 0 + cond (ltb (turn_of next r) (x + 1)) o 0
  later_both r q o h =
      split (ltb (turn_of next r) x)
      (λ t. let l = ltb-true (turn_of next r) x t in rw (t, lt-ltb (turn_of next r) (x + 1) (omega arith)))
      (λ t. let l = ltb-false (turn_of next r) x t in
      split (ltb (turn_of next r) (x + 1))
      (λ u. let g = ltb-true (turn_of next r) (x + 1) u in rw (t, u) (omega (arith, h (omega arith))))
      (λ u. rw (t, u)))

  tradable_none : (r : Order) → faces (at b w) r ≡ false → tradable (at b w) r ≡ 0
  tradable_none r h = omega (arith, tradable_le (at b w) r, offered_none (at b w) r h)

  -- whoever is met at x is the one of one's own that is there
  only_own : (k j : ℕ) → In b k → In b j → here_own (at b k) ≡ true → turn_of next (at b j) ≡ x → tradable (at b w) (at b j) ≡ 0
  only_own k j i l h e =
      let o = both_l (own (at b w) (at b k)) _ h in
      let t = eqb-true (turn_of next (at b k)) x (both_r (own (at b w) (at b k)) _ h) in
      split (faces (at b w) (at b j))
      (λ f.
      let a = placed_apart next b p k j i l
      (one_side (is_buy (at b w)) (is_buy (at b k)) (is_buy (at b j)) (faces_opposite (at b w) (at b k) (own_faces _ _ o)) (faces_opposite (at b w) (at b j) f))
      (t ∙ sym e) in
      tradable_own (at b w) (at b j) (rw a at (own_owner _ _ o)))
      (λ f. tradable_none (at b j) f)

  no_own : (r : Order) → here_own r ≡ false → turn_of next r ≡ x → tradable (at b w) r ≡ offered (at b w) r
  unfolding own
  no_own r h e =
      split (faces (at b w) r)
      (λ f. split (same_owner (at b w) r)
      (λ s. absurd (not_both (both_i (both_i f s) (eq-eqb (turn_of next r) x e)) h))
      (λ s. tradable_other (at b w) r s))
      (λ f. omega (arith, tradable_none r f, offered_none (at b w) r f))

  pub one_turn : Turn (offered_to next b w x) (offered_to next b w (x + 1)) (tradable_to next b w x) (tradable_to next b w (x + 1))
  unfolding offered_to tradable_to sum_before
  one_turn = go (sought here_own b (length b))
    where
      go : Sought here_own b (length b) → Turn (offered_to next b w x) (offered_to next b w (x + 1)) (tradable_to next b w x) (tradable_to next b w (x + 1))
      go (here k l h e) =
          turn_own
          (sum_same _ _ b b (length b)
          (λ j u v. later (at b j) (tradable (at b w) (at b j)) (only_own k j (record { low = l; high = h }) (record { low = u; high = v }) e)))
      go (nowhere g) =
          let f = tradable (at b w) in
          let o = offered (at b w) in
          turn_other
          (sym (sum_add (λ r. cond (ltb (turn_of next r) (x + 1)) (f r) 0) (λ r. cond (ltb (turn_of next r) x) (o r) 0) b (length b))
          ∙ sum_same _ _ b b (length b) (λ j u v. later_both (at b j) (f (at b j)) (o (at b j)) (no_own (at b j) (g j u v)))
          ∙ sum_add (λ r. cond (ltb (turn_of next r) x) (f r) 0) (λ r. cond (ltb (turn_of next r) (x + 1)) (o r) 0) b (length b))

-- ---- one match

-- the quantities before turn x, of all (m, then n) and of those that are not of the owner of w (i, then j), where r has a open and
-- then v: nothing is there, or r has its turn there
pub data Cut (same : Bool) (turn x a v m n i j : ℕ) : Type 0 where
  outside : x ≤ turn → m ≡ 0 → n ≡ 0 → i ≡ 0 → j ≡ 0 → Cut same turn x a v m n i j
  inside_own : turn < x → same ≡ true → m + v ≡ n + a → i ≡ j → Cut same turn x a v m n i j
  inside : turn < x → same ≡ false → m + v ≡ n + a → i + v ≡ j + a → Cut same turn x a v m n i j

module _ (modes : ℕ → ℕ) (next : ℕ) (b c : Book) (w r : ℕ) (s : Matched modes b c w r) where
  pub alike_in : (k : ℕ) → In c k → In b k
  alike_in k i = record { low = i.low; high = rw s.size at i.high }

  pub turn_kept : (k : ℕ) → turn_of next (at c k) ≡ turn_of next (at b k)
  turn_kept k = turn_alike next (at c k) (at b k) (s.alike k)

  pub owner_kept : (k : ℕ) → same_owner (at c w) (at c k) ≡ same_owner (at b w) (at b k)
  owner_kept k = owner_alike (at c w) (at b w) (at c k) (at b k) (s.alike w) (s.alike k)

  pub mode_kept : modes (at c w).mpid ≡ modes (at b w).mpid
  mode_kept = rw (ap (λ (t : Terms). t.mpid) (s.alike w))

  offered_kept : (k : ℕ) → k ≢ r → offered (at b w) (at b k) ≡ offered (at c w) (at c k)
  offered_kept k n =
      split (eqb k w)
      (λ t. rw (eqb-true k w t) (offered_self (at b w) ∙ sym (offered_self (at c w))))
      (λ t. sym (offered_alike (at c w) (at b w) (at c k) (at b k) (s.alike w) (s.alike k) (s.rest k (eqb-false k w t) n)))

  tradable_kept : (k : ℕ) → k ≢ r → tradable (at b w) (at b k) ≡ tradable (at c w) (at c k)
  unfolding tradable
  tradable_kept k n = rw (owner_kept k, offered_kept k n)

  offered_before_r : offered (at b w) (at b r) ≡ open_of (at b r)
  offered_before_r = offered_of (at b w) (at b r) s.pair.opposed s.pair.meet

  offered_after_r : offered (at c w) (at c r) ≡ open_of (at c r)
  offered_after_r =
      offered_of (at c w) (at c r)
      (opposite_alike (at c w) (at b w) (at c r) (at b r) (s.alike w) (s.alike r) ∙ s.pair.opposed)
      (meets_alike (at c w) (at b w) (at c r) (at b r) (s.alike w) (s.alike r) ∙ s.pair.meet)

  -- what is met after a match was met before it
  pub faces_back : (k : ℕ) → faces (at c w) (at c k) ≡ true → faces (at b w) (at b k) ≡ true
  faces_back k f =
      split (eqb k r)
      (λ t. rw (eqb-true k r t) (faces_of (at b w) (at b r) s.pair.r_open s.pair.opposed s.pair.meet))
      (λ t. split (eqb k w)
      (λ u. absurd (not_opposite (is_buy (at c w)) (faces_opposite (at c w) (at c w) (rw (eqb-true k w u) at f))))
      (λ u. sym (faces_alike (at c w) (at b w) (at c k) (at b k) (s.alike w) (s.alike k) (s.rest k (eqb-false k w u) (eqb-false k r t))) ∙ f))

  -- f before the match and g after it, alike but of r
  module _ (f g : Order → ℕ) (h : (k : ℕ) → k ≢ r → f (at b k) ≡ g (at c k)) (x : ℕ) where
    moved_inside : ltb (turn_of next (at b r)) x ≡ true → sum_before next f b x + g (at c r) ≡ sum_before next g c x + f (at b r)
    unfolding sum_before
    moved_inside t =
        let e = sum_moved (λ p. cond (ltb (turn_of next p) x) (f p) 0) (λ p. cond (ltb (turn_of next p) x) (g p) 0) b c (length b) r
        (λ k i j n. rw (turn_kept k, h k n)) s.pair.inside.low s.pair.inside.high in
        rw s.size (rw (turn_kept r, t) at e)

    moved_outside : ltb (turn_of next (at b r)) x ≡ false → sum_before next f b x ≡ sum_before next g c x
    unfolding sum_before
    moved_outside t =
        let e = sum_moved (λ p. cond (ltb (turn_of next p) x) (f p) 0) (λ p. cond (ltb (turn_of next p) x) (g p) 0) b c (length b) r
        (λ k i j n. rw (turn_kept k, h k n)) s.pair.inside.low s.pair.inside.high in
        rw s.size (omega (arith, rw (turn_kept r, t) at e))

  module _ (p : Placed next b) where
    pub first_turn : (k : ℕ) → In b k → faces (at b w) (at b k) ≡ true → turn_of next (at b r) ≤ turn_of next (at b k)
    first_turn k i f =
        placed_turn next b p k r i s.pair.inside
        (one_side (is_buy (at b w)) (is_buy (at b k)) (is_buy (at b r)) (faces_opposite (at b w) (at b k) f) s.pair.opposed)
        (s.best k i f)

    pub cut : (x : ℕ)
        → Cut (same_owner (at b w) (at b r)) (turn_of next (at b r)) x (open_of (at b r)) (open_of (at c r)) (offered_to next b w x) (offered_to next c w x)
        (tradable_to next b w x) (tradable_to next c w x)
    unfolding offered_to tradable_to
    cut x =
        split (ltb (turn_of next (at b r)) x)
        (λ t.
        let l = ltb-true (turn_of next (at b r)) x t in
        let m = rw (offered_before_r, offered_after_r) at (moved_inside (offered (at b w)) (offered (at c w)) offered_kept x t) in
        let i = moved_inside (tradable (at b w)) (tradable (at c w)) tradable_kept x t in
        split (same_owner (at b w) (at b r))
        (λ o.
        let y = tradable_own (at b w) (at b r) o in
        let z = tradable_own (at c w) (at c r) (owner_kept r ∙ o) in
        inside_own l o m (omega arith))
        (λ o.
        let y = tradable_other (at b w) (at b r) o in
        let z = tradable_other (at c w) (at c r) (owner_kept r ∙ o) in
        inside l o m (omega (arith, offered_before_r, offered_after_r))))
        (λ t.
        let l = ltb-false (turn_of next (at b r)) x t in
        let m = offered_before next b w x (λ k i f. omega (arith, first_turn k i f)) in
        let n = moved_outside (offered (at b w)) (offered (at c w)) offered_kept x t in
        let j = moved_outside (tradable (at b w)) (tradable (at c w)) tradable_kept x t in
        let i = tradable_offered next b w x in
        outside l m (sym n ∙ m) (omega arith) (omega arith))

-- a step that matches w with none: nothing is open of it, or nothing is offered
pub nothing_left : (next : ℕ) (b : Book) (w x : ℕ) → partner b w ≡ 0 → min (open_of (at b w)) (offered_to next b w x) ≡ 0
unfolding partner
nothing_left next b w x e =
    split (is_open (at b w))
    (λ t.
    let z : best b (at b w) (length b) ≡ 0 = rw t at e in
    omega (arith, offered_before next b w x (λ k i f. absurd (not_both f (best_none b (at b w) (length b) z k i.low i.high)))))
    (λ t. omega (arith, ltb-false 0 (open_of (at b w)) t))
