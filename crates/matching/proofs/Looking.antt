-- What is found by looking at the book is what the steps execute, under each mode. A run is followed match by match: what is offered
-- before a turn, what of it is tradable, what is open of the order in work and what it has executed move together.
use mathlib.Core.Path.{◌≡◌, refl, sym, ◌∙◌}
use mathlib.Core.Bool.{Bool, true, false}
use mathlib.Core.Logic.{◌≢◌}
use Prim.Native.Nat.{ℕ, zero, suc, ◌+◌, ◌-◌, ◌*◌, ◌≤◌, ◌<◌, min}
use native.Mathlib.Omega.{arith}
use lib.ListN.{length}
use lib.Dec.{ltb, eqb}
use borrow.Author.Tests.{ltb-true, ltb-false, eqb-true, eqb-false}
use Rattle.octets.proofs.Bools.{split, not_both}
use Rattle.matching.specs.declared.Order.{Order}
use Rattle.matching.specs.Matching.{Book, at, open_of, is_buy, same_owner, partner, would_trade}
use Rattle.matching.specs.Held.{In, Held}
use Rattle.matching.specs.Looked.{turn_of, end_of, offered, tradable, offered_to, tradable_to, own, own_turn, Reaches, traded_to, traded_at, looked}
use Rattle.matching.proofs.Steps.{faces_opposite, faces_of, not_opposite}
use Rattle.matching.proofs.Ends.{left}
use Rattle.matching.proofs.Minimum.{left_length, executed_by, Way, traded, newer, older, lowered, Matched, run_shows, would_execute}
use Rattle.matching.proofs.Turns.{Placed, held_placed, placed_kept, placed_end, placed_apart}
use Rattle.matching.proofs.Offers.{own_faces, own_owner, own_of, faces_alike, one_side, before_end, before_zero, before_most, offered_le, tradable_offered, nothing_left}
use Rattle.matching.proofs.Offers.{Turn, turn_own, turn_other, one_turn, Cut, outside, inside_own, inside, alike_in, turn_kept, owner_kept, mode_kept, first_turn, cut, faces_back}

-- ---- any mode but 1 and 2: at every turn two bounds

-- having executed e, with q open, m offered before the turn and i of it tradable, w executes up to x
pub record Bounds (e q m i x : ℕ) : Type 0 where
  pub low : e + min q m + i ≤ x + m
  pub high : x ≤ e + i + (q - m)

bounds_step : {mode : ℕ} {same : Bool} {q a e u v d turn y m n i j : ℕ} (x : ℕ) → mode ≢ 1 → mode ≢ 2 → Way mode same q a e u v d
    → Cut same turn y a v m n i j → Bounds d u n j x → Bounds e q m i x
bounds_step x o p (traded t s k l f g) (outside y a b c d) h = record { low = omega arith; high = omega arith }
bounds_step x o p (traded t s k l f g) (inside_own y z a b) h = absurd (not_both z s)
bounds_step x o p (traded t s k l f g) (inside y z a b) h = record { low = omega arith; high = omega arith }
bounds_step x o p (newer s k l f g) c h = absurd (o k)
bounds_step x o p (older s k l f g) c h = absurd (p k)
bounds_step x o p (lowered t s y z k l f g) (outside w a b c d) h = record { low = omega arith; high = omega arith }
bounds_step x o p (lowered t s y z k l f g) (inside_own w r a b) h = record { low = omega arith; high = omega arith }
bounds_step x o p (lowered t s y z k l f g) (inside w r a b) h = absurd (not_both s r)

module _ (modes : ℕ → ℕ) (next w y : ℕ) where
  abbrev Bounded : Book → ℕ → Type 0
  Bounded b x =
      Placed next b → modes (at b w).mpid ≢ 1 → modes (at b w).mpid ≢ 2
      → Bounds (at b w).executed (open_of (at b w)) (offered_to next b w y) (tradable_to next b w y) x

  bounded_stop : (b : Book) → In b w → partner b w ≡ 0 → Bounded b (at b w).executed
  bounded_stop b i z p m n =
      let a = nothing_left next b w y z in
      let c = tradable_offered next b w y in
      record { low = omega arith; high = omega arith }

  bounded_step : (b c : Book) (r x : ℕ) → In b w → Matched modes b c w r → Bounded c x → Bounded b x
  bounded_step b c r x i s h p m n =
      bounds_step x m n s.way (cut modes next b c w r s p y)
      (h (placed_kept next b c s.alike s.size p) (λ e. m (sym (mode_kept modes next b c w r s) ∙ e)) (λ e. n (sym (mode_kept modes next b c w r s) ∙ e)))

  pub bounded : (n : ℕ) (b : Book) → In b w → left b w < n → Bounded b (executed_by modes n b w)
  bounded n b i l = run_shows modes w Bounded bounded_stop bounded_step n b i l

-- ---- mode 2: all that is tradable
oldest_step : {mode : ℕ} {same : Bool} {q a e u v d turn y m n i j : ℕ} (x : ℕ) → mode ≡ 2 → turn < y → Way mode same q a e u v d
    → Cut same turn y a v m n i j → x ≡ d + min u j → x ≡ e + min q i
oldest_step x o p w (outside y a b c d) h = absurd (omega arith)
oldest_step x o p (traded t s k l f g) (inside_own y z a b) h = absurd (not_both z s)
oldest_step x o p (traded t s k l f g) (inside y z a b) h = omega arith
oldest_step x o p (newer s k l f g) (inside_own y z a b) h = absurd (omega arith)
oldest_step x o p (newer s k l f g) (inside y z a b) h = absurd (omega arith)
oldest_step x o p (older s k l f g) (inside_own y z a b) h = omega arith
oldest_step x o p (older s k l f g) (inside y z a b) h = absurd (not_both s z)
oldest_step x o p (lowered t s y z k l f g) (inside_own w r a b) h = absurd (z o)
oldest_step x o p (lowered t s y z k l f g) (inside w r a b) h = absurd (z o)

module _ (modes : ℕ → ℕ) (next w : ℕ) where
  abbrev Oldest : Book → ℕ → Type 0
  Oldest b x = Placed next b → modes (at b w).mpid ≡ 2 → x ≡ (at b w).executed + min (open_of (at b w)) (tradable_to next b w (end_of next))

  oldest_stop : (b : Book) → In b w → partner b w ≡ 0 → Oldest b (at b w).executed
  oldest_stop b i z p m =
      let a = nothing_left next b w (end_of next) z in
      let c = tradable_offered next b w (end_of next) in
      omega arith

  oldest_keeps : (b c : Book) (r x : ℕ) → In b w → Matched modes b c w r → Oldest c x → Oldest b x
  oldest_keeps b c r x i s h p m =
      oldest_step x m (placed_end next b p r s.pair.inside) s.way (cut modes next b c w r s p (end_of next))
      (h (placed_kept next b c s.alike s.size p) (mode_kept modes next b c w r s ∙ m))

  pub oldest_all : (n : ℕ) (b : Book) → In b w → left b w < n → Oldest b (executed_by modes n b w)
  oldest_all n b i l = run_shows modes w Oldest oldest_stop oldest_keeps n b i l

-- ---- mode 1: what is tradable before the first order of one's own

-- turn y is that of an order of one's own, or the end
pub data Found (next : ℕ) (b : Book) (w y : ℕ) : Type 0 where
  ends : y ≡ end_of next → Found next b w y
  found : (k : ℕ) → In b k → own (at b w) (at b k) ≡ true → turn_of next (at b k) ≡ y → Found next b w y

-- and none of one's own has its turn before it
pub record FirstOwn (next : ℕ) (b : Book) (w y : ℕ) : Type 0 where
  pub first : (k : ℕ) → In b k → own (at b w) (at b k) ≡ true → y ≤ turn_of next (at b k)
  pub is : Found next b w y

-- own_turn is that turn
own_turn_first : (next : ℕ) (o : Order) (b : Book) (n k : ℕ) → 0 < k → k ≤ n → own o (at b k) ≡ true → own_turn next o b n ≤ turn_of next (at b k)
unfolding own_turn
own_turn_first next o b zero k l h e = absurd (omega arith)
own_turn_first next o b (suc n) k l h e =
    split (eqb k (suc n))
    (λ t. let q = eqb-true k (suc n) t in rw q (rw (rw q at e) (omega arith)))
    (λ t.
    let g = own_turn_first next o b n k l (omega (arith, eqb-false k (suc n) t)) e in
    split (own o (at b (suc n))) (λ u. rw u (omega arith)) (λ u. rw u g))

min_is : (G : ℕ → Type 0) (x y : ℕ) → G x → G y → G (min x y)
min_is G x y g h =
    split (ltb x y)
    (λ t. let e : min x y ≡ x = omega (arith, ltb-true x y t) in rw e g)
    (λ t. let e : min x y ≡ y = omega (arith, ltb-false x y t) in rw e h)

own_turn_found : (next : ℕ) (b : Book) (w n : ℕ) → n ≤ length b → Found next b w (own_turn next (at b w) b n)
unfolding own_turn
own_turn_found next b w zero h = ends refl
own_turn_found next b w (suc n) h =
    let g = own_turn_found next b w n (omega arith) in
    split (own (at b w) (at b (suc n)))
    (λ t. rw t (min_is (Found next b w) (turn_of next (at b (suc n))) (own_turn next (at b w) b n) (found (suc n) (record { low = omega arith; high = h }) t refl) g))
    (λ t. rw t g)

pub own_turn_lem : (next : ℕ) (b : Book) (w : ℕ) → FirstOwn next b w (own_turn next (at b w) b (length b))
own_turn_lem next b w =
    record { first = λ k i e. own_turn_first next (at b w) b (length b) k i.low i.high e; is = own_turn_found next b w (length b) (omega arith) }

newest_step : {mode : ℕ} {same : Bool} {q a e u v d turn y m n i j : ℕ} (x : ℕ) → mode ≡ 1 → (same ≡ true → y ≤ turn) → (same ≡ false → turn < y)
    → Way mode same q a e u v d → Cut same turn y a v m n i j → x ≡ d + min u j → x ≡ e + min q i
newest_step x o p w (traded t s k l f g) (outside y a b c d) h = let z = w s in absurd (omega arith)
newest_step x o p w (traded t s k l f g) (inside_own y z a b) h = absurd (not_both z s)
newest_step x o p w (traded t s k l f g) (inside y z a b) h = omega arith
newest_step x o p w (newer s k l f g) (outside y a b c d) h = omega arith
newest_step x o p w (newer s k l f g) (inside_own y z a b) h = let r = p s in absurd (omega arith)
newest_step x o p w (newer s k l f g) (inside y z a b) h = absurd (not_both s z)
newest_step x o p w (older s k l f g) c h = absurd (omega arith)
newest_step x o p w (lowered t s y z k l f g) c h = absurd (y o)

-- the order that is met and of one's own is left as it is
own_left : {mode : ℕ} {same : Bool} {q a e u v d : ℕ} → mode ≡ 1 → same ≡ true → Way mode same q a e u v d → v ≡ a
own_left o p (traded t s k l f g) = absurd (not_both p s)
own_left o p (newer s k l f g) = f
own_left o p (older s k l f g) = absurd (omega arith)
own_left o p (lowered t s y z k l f g) = absurd (y o)

module _ (modes : ℕ → ℕ) (next : ℕ) (b c : Book) (w r y : ℕ) (s : Matched modes b c w r) (p : Placed next b) (m : modes (at b w).mpid ≡ 1) (f : FirstOwn next b w y) where
  own_back : (k : ℕ) → own (at c w) (at c k) ≡ true → own (at b w) (at b k) ≡ true
  own_back k h =
      own_of (at b w) (at b k) (faces_back modes next b c w r s k (own_faces _ _ h)) (sym (owner_kept modes next b c w r s k) ∙ own_owner _ _ h)

  own_open : (k : ℕ) → own (at b w) (at b k) ≡ true → open_of (at c k) ≡ open_of (at b k)
  own_open k h =
      split (eqb k r)
      (λ t. let q = eqb-true k r t in rw q (own_left m (own_owner _ _ (rw q at h)) s.way))
      (λ t. s.rest k (λ q. not_opposite (is_buy (at b w)) (faces_opposite (at b w) (at b w) (rw q at (own_faces _ _ h)))) (eqb-false k r t))

  own_on : (k : ℕ) → own (at b w) (at b k) ≡ true → own (at c w) (at c k) ≡ true
  own_on k h =
      own_of (at c w) (at c k)
      (faces_alike (at c w) (at b w) (at c k) (at b k) (s.alike w) (s.alike k) (own_open k h) ∙ own_faces _ _ h)
      (owner_kept modes next b c w r s k ∙ own_owner _ _ h)

  found_kept : Found next b w y → Found next c w y
  found_kept (ends e) = ends e
  found_kept (found k i h e) = found k (record { low = i.low; high = rw s.size i.high }) (own_on k h) (turn_kept modes next b c w r s k ∙ e)

  first_kept : FirstOwn next c w y
  first_kept =
      record {
        first = λ k i h. rw (turn_kept modes next b c w r s k) (f.first k (alike_in modes next b c w r s k i) (own_back k h));
        is = found_kept f.is;
      }

  own_behind : same_owner (at b w) (at b r) ≡ true → y ≤ turn_of next (at b r)
  own_behind e = f.first r s.pair.inside (own_of _ _ (faces_of _ _ s.pair.r_open s.pair.opposed s.pair.meet) e)

  other_before_lem : Found next b w y → same_owner (at b w) (at b r) ≡ false → turn_of next (at b r) < y
  other_before_lem (ends e) o = omega (arith, placed_end next b p r s.pair.inside)
  other_before_lem (found k i h e) o =
      split (ltb (turn_of next (at b r)) y)
      (λ t. ltb-true _ _ t)
      (λ t.
      let q = ltb-false (turn_of next (at b r)) y t in
      let z = first_turn modes next b c w r s p k i (own_faces _ _ h) in
      let a = placed_apart next b p k r i s.pair.inside
      (one_side (is_buy (at b w)) (is_buy (at b k)) (is_buy (at b r)) (faces_opposite (at b w) (at b k) (own_faces _ _ h)) s.pair.opposed)
      (omega arith) in
      absurd (not_both (own_owner _ _ h) (rw a o)))

module _ (modes : ℕ → ℕ) (next w y : ℕ) where
  abbrev Newest : Book → ℕ → Type 0
  Newest b x = Placed next b → modes (at b w).mpid ≡ 1 → FirstOwn next b w y → x ≡ (at b w).executed + min (open_of (at b w)) (tradable_to next b w y)

  newest_stop : (b : Book) → In b w → partner b w ≡ 0 → Newest b (at b w).executed
  newest_stop b i z p m f =
      let a = nothing_left next b w y z in
      let c = tradable_offered next b w y in
      omega arith

  newest_keeps : (b c : Book) (r x : ℕ) → In b w → Matched modes b c w r → Newest c x → Newest b x
  newest_keeps b c r x i s h p m f =
      newest_step x m (own_behind modes next b c w r y s p m f) (other_before_lem modes next b c w r y s p m f f.is) s.way (cut modes next b c w r s p y)
      (h (placed_kept next b c s.alike s.size p) (mode_kept modes next b c w r s ∙ m) (first_kept modes next b c w r y s p m f))

  pub newest_first : (n : ℕ) (b : Book) → In b w → left b w < n → Newest b (executed_by modes n b w)
  newest_first n b i l = run_shows modes w Newest newest_stop newest_keeps n b i l

-- ---- whatever the mode: no more than all that is tradable
most_step : {mode : ℕ} {same : Bool} {q a e u v d turn y m n i j : ℕ} (x : ℕ) → turn < y → Way mode same q a e u v d → Cut same turn y a v m n i j
    → x ≤ d + j → x ≤ e + i
most_step x p w (outside y a b c d) h = absurd (omega arith)
most_step x p (traded t s k l f g) (inside_own y z a b) h = absurd (not_both z s)
most_step x p (traded t s k l f g) (inside y z a b) h = omega arith
most_step x p (newer s k l f g) (inside_own y z a b) h = omega arith
most_step x p (newer s k l f g) (inside y z a b) h = absurd (not_both s z)
most_step x p (older s k l f g) (inside_own y z a b) h = omega arith
most_step x p (older s k l f g) (inside y z a b) h = absurd (not_both s z)
most_step x p (lowered t s y z k l f g) (inside_own w r a b) h = omega arith
most_step x p (lowered t s y z k l f g) (inside w r a b) h = absurd (not_both s r)

module _ (modes : ℕ → ℕ) (next w : ℕ) where
  abbrev Most : Book → ℕ → Type 0
  Most b x = Placed next b → x ≤ (at b w).executed + tradable_to next b w (end_of next)

  most_keeps : (b c : Book) (r x : ℕ) → In b w → Matched modes b c w r → Most c x → Most b x
  most_keeps b c r x i s h p =
      most_step x (placed_end next b p r s.pair.inside) s.way (cut modes next b c w r s p (end_of next)) (h (placed_kept next b c s.alike s.size p))

  pub at_most_all : (n : ℕ) (b : Book) → In b w → left b w < n → Most b (executed_by modes n b w)
  at_most_all n b i l = run_shows modes w Most (λ c j z p. omega arith) most_keeps n b i l

-- ---- what is found is what the steps execute

-- of w, which has executed e before and has q open, and executes x by the end: m offered and i tradable before a turn, n and j up to it
reached : (e q x m n i j : ℕ) → m ≤ q → q ≤ n → Turn m n i j → Bounds e q m i x → Bounds e q n j x → x ≡ e + min (i + (q - m)) j
reached e q x m n i j a c (turn_own t) g h = omega (arith, g.low, g.high, h.low, h.high)
reached e q x m n i j a c (turn_other t) g h = omega (arith, g.low, g.high, h.low, h.high)

all_reached : (e q x m i : ℕ) → m ≤ q → x ≤ e + i → Bounds e q m i x → x ≡ e + min (i + (q - m)) i
all_reached e q x m i a c g = omega (arith, g.low)

-- how far w reaches: to the end, where all that is offered does not exceed what is open of it, or to a turn
pub reaches_end : (next : ℕ) (b : Book) (w : ℕ) → offered_to next b w (end_of next) ≤ open_of (at b w) → Reaches next b w (end_of next)
reaches_end next b w h = record { enough = h; spent = λ l. absurd (omega arith) }

pub reaches_turn : (next : ℕ) (b : Book) (w x : ℕ) → offered_to next b w x ≤ open_of (at b w) → open_of (at b w) < offered_to next b w (x + 1)
    → Reaches next b w x
reaches_turn next b w x h l = record { enough = h; spent = λ z. l }

-- nothing is offered before turn 0
pub offered_zero : (next : ℕ) (b : Book) (w : ℕ) → offered_to next b w 0 ≡ 0
unfolding offered_to
offered_zero next b w = before_zero next (offered (at b w)) b

module _ (listed : ℕ → Bool) (next : ℕ) (b : Book) (w : ℕ) (h : Held listed next b w) where
  open_most : (k : ℕ) → In b k → open_of (at b k) ≤ 999_999_999
  unfolding open_of
  open_most k i = omega (arith, (h.sound k i).qty_high)

  -- turns and sums fit
  pub end_most : end_of next ≤ 2_000_000_000_000_000_000
  unfolding end_of
  end_most = omega (arith, h.next_high)

  pub turn_most : (k : ℕ) → In b k → turn_of next (at b k) < 2_000_000_000_000_000_000
  turn_most k i = omega (arith, end_most, placed_end next b (held_placed listed next b w h) k i)

  pub offered_most : (x : ℕ) → offered_to next b w x ≤ length b * 999_999_999
  unfolding offered_to
  offered_most x = before_most next (offered (at b w)) b x 999_999_999 (λ k i. omega (arith, offered_le (at b w) (at b k), open_most k i))

  pub tradable_most : (x : ℕ) → tradable_to next b w x ≤ length b * 999_999_999
  tradable_most x = omega (arith, tradable_offered next b w x, offered_most x)

module _ (listed : ℕ → Bool) (modes : ℕ → ℕ) (next : ℕ) (b : Book) (w : ℕ) (h : Held listed next b w) (i : In b w) where
  placed : Placed next b
  placed = held_placed listed next b w h

  enough_steps : left b w < length b + 1
  enough_steps = omega (arith, left_length b w)

  pub looked_newest : modes (at b w).mpid ≡ 1 → traded_to next b w (own_turn next (at b w) b (length b)) ≡ would_trade modes b w
  unfolding traded_to
  looked_newest m =
      would_execute modes b w _
      (newest_first modes next w (own_turn next (at b w) b (length b)) (length b + 1) b i enough_steps placed m (own_turn_lem next b w))

  pub looked_oldest : modes (at b w).mpid ≡ 2 → traded_to next b w (end_of next) ≡ would_trade modes b w
  unfolding traded_to
  looked_oldest m = would_execute modes b w _ (oldest_all modes next w (length b + 1) b i enough_steps placed m)

  module _ (m : modes (at b w).mpid ≢ 1) (n : modes (at b w).mpid ≢ 2) where
    bounds : (y : ℕ) → Bounds (at b w).executed (open_of (at b w)) (offered_to next b w y) (tradable_to next b w y) (executed_by modes (length b + 1) b w)
    bounds y = bounded modes next w y (length b + 1) b i enough_steps placed m n

    -- w reaches to a turn
    looked_turn : (x : ℕ) → Reaches next b w x → x < end_of next → traded_at next b w x ≡ would_trade modes b w
    unfolding traded_at
    looked_turn x r l =
        would_execute modes b w _
        (reached _ _ _ _ _ _ _ r.enough (omega (arith, r.spent l)) (one_turn next b w x placed) (bounds x) (bounds (x + 1)))

    -- or beyond all, and trades all that is tradable
    looked_beyond : (x : ℕ) → Reaches next b w x → end_of next ≤ x → traded_at next b w x ≡ would_trade modes b w
    unfolding traded_at tradable_to
    looked_beyond x r l =
        let f = tradable (at b w) in
        let e = before_end next f b placed x l in
        let g = before_end next f b placed (x + 1) (omega arith) in
        let a = before_end next f b placed (end_of next) (omega arith) in
        let o = at_most_all modes next w (length b + 1) b i enough_steps placed in
        rw (g ∙ sym e) (would_execute modes b w _ (all_reached _ _ _ _ _ r.enough (rw (e ∙ sym a) o) (bounds x)))

    pub looked_other : (x : ℕ) → Reaches next b w x → traded_at next b w x ≡ would_trade modes b w
    looked_other x r =
        split (ltb x (end_of next)) (λ t. looked_turn x r (ltb-true _ _ t)) (λ t. looked_beyond x r (ltb-false _ _ t))

    pub looked_all : offered_to next b w (end_of next) ≤ open_of (at b w) → tradable_to next b w (end_of next) ≡ would_trade modes b w
    unfolding tradable_to
    looked_all l =
        would_execute modes b w _
        (omega (arith, (bounds (end_of next)).low, at_most_all modes next w (length b + 1) b i enough_steps placed))

  -- by the mode; where to look to is asked for under neither 1 nor 2
  pub looked_right : (x : ℕ) → (modes (at b w).mpid ≢ 1 → modes (at b w).mpid ≢ 2 → Reaches next b w x)
      → looked (modes (at b w).mpid) next b w x ≡ would_trade modes b w
  unfolding looked
  looked_right x r =
      split (eqb (modes (at b w).mpid) 1)
      (λ t. rw t (looked_newest (eqb-true _ _ t)))
      (λ t. rw t
      (split (eqb (modes (at b w).mpid) 2)
      (λ u. rw u (looked_oldest (eqb-true _ _ u)))
      (λ u.
      let m = eqb-false (modes (at b w).mpid) 1 t in
      let n = eqb-false (modes (at b w).mpid) 2 u in
      rw u (looked_other m n x (r m n)))))
