-- The open orders of a side in turn: what stands in the list and how often, who is met first, and what becomes of the list when orders
-- change or are closed. No two orders of the book need differ in their places: of two alike the lower number comes first.
use mathlib.Core.Path.{◌≡◌, refl, sym, ap, ◌∙◌}
use mathlib.Core.Bool.{Bool, true, false, cond, not, ◌&&◌, ◌||◌}
use mathlib.Core.List.{List, [], ◌∷◌}
use mathlib.Core.Logic.{◌≢◌}
use Prim.Native.Nat.{ℕ, zero, suc, ◌+◌, ◌≤◌, ◌<◌}
use native.Mathlib.Nat.{add_comm, zero-add, suc-add}
use native.Mathlib.Omega.{arith}
use lib.ListN.{length, get_or}
use lib.Dec.{ltb, leb, eqb}
use borrow.Author.Tests.{ltb-true, ltb-false, leb-true, leb-false, eqb-true, eqb-false, lt-ltb, le-leb, eq-eqb, ne_eqb}
use Rattle.octets.proofs.Bools.{split, not_both, both_i, both_l, both_r}
use Rattle.matching.specs.declared.Order.{Order}
use Rattle.matching.specs.Matching.{Book, at, open_of, is_open, is_buy, buys, ahead, opposite, meets, better, faces, choose, best, partner, sum_over, count_of}
use Rattle.matching.specs.Depth.{on_side, stands, orders_on}
use Rattle.matching.specs.InTurn.{joins, turns_of, in_turn}
use Rattle.matching.specs.OutOfTheWay.{those}
use Rattle.matching.specs.Held.{In}
use Rattle.matching.proofs.Books.{open_in}
use Rattle.matching.proofs.Steps.{both_no}
use Rattle.matching.proofs.Best.{ahead_trans, ahead_other, better_level, better_place, by_level, better_trans, better_self}

-- ---- orders of one side

-- which side an order is of that stands on side s
pub side_buys : (s : ℕ) (o : Order) → on_side s o ≡ true → is_buy o ≡ buys s
side_buys s o h = one (buys s) (is_buy o) h
  where
    one : (x y : Bool) → cond x y (not y) ≡ true → y ≡ x
    one true y h = h
    one false true h = sym h
    one false false h = refl

pub stands_side : (s : ℕ) (o : Order) → stands s o ≡ true → is_buy o ≡ buys s
unfolding stands
stands_side s o h = side_buys s o (both_r (is_open o) (on_side s o) h)

pub stands_open : (s : ℕ) (o : Order) → stands s o ≡ true → 0 < open_of o
unfolding stands
stands_open s o h = ltb-true 0 (open_of o) (both_l (is_open o) (on_side s o) h)

-- of two that do not go before one another in turn, the first does not go before the last
pub not_better_trans : (a b c : Order) → is_buy b ≡ is_buy a → better a b ≡ false → better b c ≡ false → better a c ≡ false
unfolding better
not_better_trans a b c s p q =
    split (better a c) (λ t. absurd (no t)) (λ t. t)
  where
    level : eqb a.level b.level ≡ false → ahead (is_buy a) b.level a.level ≡ true
    level u = ahead_other (is_buy a) a.level b.level (rw u at p) u

    no : better a c ≡ true → ⊥
    no t =
        split (eqb a.level c.level)
        (λ v.
        let g = eqb-true a.level c.level v in
        split (eqb a.level b.level)
        (λ u.
        let e : eqb b.level c.level ≡ true = eq-eqb b.level c.level (sym (eqb-true a.level b.level u) ∙ g) in
        let x : ltb a.place b.place ≡ false = rw u at p in
        let y : ltb b.place c.place ≡ false = rw e at q in
        omega (arith, ltb-false a.place b.place x, ltb-false b.place c.place y, ltb-true a.place c.place (better_place a c t v)))
        (λ u. not_both (by_level b c (rw (s, ← g) (level u))) q))
        (λ v. split (eqb a.level b.level)
        (λ u. not_both (by_level b c (rw (s, ← eqb-true a.level b.level u) (better_level a c t v))) q)
        (λ u. not_both (by_level b c (rw s (ahead_trans (is_buy a) b.level a.level c.level (level u) (better_level a c t v)))) q))

-- an order that goes before another is met by whoever meets that one
module _ (o a c : Order) (x : opposite o a ≡ true) (s : is_buy c ≡ is_buy a) where
  pub better_meets : better a c ≡ true → meets o c ≡ true → meets o a ≡ true
  unfolding better meets
  better_meets h m =
      split (eqb a.level c.level)
      (λ t. rw (eqb-true a.level c.level t) m)
      (λ t. nearer (is_buy o) (is_buy a) x (rw t at h) m)
    where
      nearer : (u v : Bool) → cond u (not v) v ≡ true → ahead v a.level c.level ≡ true
          → cond u (leb o.level c.level) (leb c.level o.level) ≡ true → cond u (leb o.level a.level) (leb a.level o.level) ≡ true
      nearer true true x h m = absurd (not_both x refl)
      nearer true false x h m = le-leb o.level a.level (omega (arith, ltb-true c.level a.level h, leb-true o.level c.level m))
      nearer false true x h m = le-leb a.level o.level (omega (arith, ltb-true a.level c.level h, leb-true c.level o.level m))
      nearer false false x h m = absurd (not_both x refl)

-- and whoever meets one that does not go before another meets that one too
pub not_better_meets : (o a c : Order) → opposite o c ≡ true → is_buy c ≡ is_buy a → better a c ≡ false → meets o a ≡ true → meets o c ≡ true
unfolding better meets
not_better_meets o a c x s h m =
    split (eqb a.level c.level)
    (λ t. rw (← eqb-true a.level c.level t) m)
    (λ t. nearer (is_buy o) (is_buy c) x (ahead_other (is_buy c) a.level c.level (rw s (rw t at h)) t) m)
  where
    nearer : (u v : Bool) → cond u (not v) v ≡ true → ahead v c.level a.level ≡ true
        → cond u (leb o.level a.level) (leb a.level o.level) ≡ true → cond u (leb o.level c.level) (leb c.level o.level) ≡ true
    nearer true true x h m = absurd (not_both x refl)
    nearer true false x h m = le-leb o.level c.level (omega (arith, ltb-true a.level c.level h, leb-true o.level a.level m))
    nearer false true x h m = le-leb c.level o.level (omega (arith, ltb-true c.level a.level h, leb-true a.level o.level m))
    nearer false false x h m = absurd (not_both x refl)

-- ---- a statement about each of a list
abbrev pub Each : (ℕ → Type 0) → List ℕ → Type 0
Each P [] = Unit {0}
Each P (x ∷ xs) = P x × Each P xs

pub each_imp : (P Q : ℕ → Type 0) → ((k : ℕ) → P k → Q k) → (l : List ℕ) → Each P l → Each Q l
each_imp P Q f [] h = tt
each_imp P Q f (x ∷ xs) h = (f x h.0, each_imp P Q f xs h.1)

-- of those that a test holds of, what was said of all, and the test
pub each_those : (P : ℕ → Type 0) (keep : ℕ → Bool) (l : List ℕ) → Each P l → Each P (those keep l)
unfolding those
each_those P keep [] h = tt
each_those P keep (x ∷ xs) h = split (keep x) (λ t. rw t (h.0, each_those P keep xs h.1)) (λ t. rw t (each_those P keep xs h.1))

pub those_hold : (keep : ℕ → Bool) (l : List ℕ) → Each (λ k. keep k ≡ true) (those keep l)
unfolding those
those_hold keep [] = tt
those_hold keep (x ∷ xs) = split (keep x) (λ t. rw t (t, those_hold keep xs)) (λ t. rw t (those_hold keep xs))

each_joins : (P : ℕ → Type 0) (b : Book) (k : ℕ) (l : List ℕ) → P k → Each P l → Each P (joins b k l)
unfolding joins
each_joins P b k [] p h = (p, tt)
each_joins P b k (x ∷ xs) p h =
    split (better (at b k) (at b x)) (λ t. rw t (p, h)) (λ t. rw t (h.0, each_joins P b k xs p h.1))

pub each_at : (P : ℕ → Type 0) (l : List ℕ) → Each P l → (i : ℕ) → i < length l → P (get_or l i 0)
each_at P [] h i r = absurd (omega arith)
each_at P (x ∷ xs) h zero r = h.0
each_at P (x ∷ xs) h (suc i) r = each_at P xs h.1 i (omega arith)

-- ---- lists in order: open orders of side s, none of which goes before one in front of it
abbrev pub Ordered : Book → ℕ → List ℕ → Type 0
Ordered b s [] = Unit {0}
Ordered b s (x ∷ xs) = (stands s (at b x) ≡ true) × Each (λ y. better (at b y) (at b x) ≡ false) xs × Ordered b s xs

pub ordered_stands : (b : Book) (s : ℕ) (l : List ℕ) → Ordered b s l → Each (λ k. stands s (at b k) ≡ true) l
ordered_stands b s [] h = tt
ordered_stands b s (x ∷ xs) h = (h.0, ordered_stands b s xs h.2)

module _ (b : Book) (s k : ℕ) (here : stands s (at b k) ≡ true) where
  one_side : (x : ℕ) → stands s (at b x) ≡ true → is_buy (at b x) ≡ is_buy (at b k)
  one_side x h = stands_side s (at b x) h ∙ sym (stands_side s (at b k) here)

  -- whoever goes before the first goes before all
  before_all : (x : ℕ) (l : List ℕ) → stands s (at b x) ≡ true → better (at b k) (at b x) ≡ true
      → Each (λ y. better (at b y) (at b x) ≡ false) l → Each (λ y. stands s (at b y) ≡ true) l → Each (λ y. better (at b k) (at b y) ≡ true) l
  before_all x [] a t h e = tt
  before_all x (y ∷ l) a t h e = (
    split (better (at b k) (at b y)) (λ u. u)
        (λ u. absurd (not_both t (not_better_trans (at b k) (at b y) (at b x) (one_side y e.0) u h.0))),
    before_all x l a t h.1 e.1,
  )

  before_those : (x : ℕ) (xs : List ℕ) → Ordered b s (x ∷ xs) → better (at b k) (at b x) ≡ true → Each (λ y. better (at b k) (at b y) ≡ true) (x ∷ xs)
  before_those x xs h t = (t, before_all x xs h.0 t h.1 (ordered_stands b s xs h.2))

  before_joins : (l : List ℕ) → Each (λ y. better (at b k) (at b y) ≡ true) l → joins b k l ≡ k ∷ l
  unfolding joins
  before_joins [] h = refl
  before_joins (x ∷ xs) h = rw h.0

  better_not : (x : ℕ) → stands s (at b x) ≡ true → better (at b k) (at b x) ≡ true → better (at b x) (at b k) ≡ false
  better_not x h t =
      split (better (at b x) (at b k))
      (λ u. absurd (better_self (at b k) (better_trans (at b k) (at b x) (at b k) (one_side x h) t u)))
      (λ u. u)

  none_before : (l : List ℕ) → Each (λ y. stands s (at b y) ≡ true) l → Each (λ y. better (at b k) (at b y) ≡ true) l → Each (λ y. better (at b y) (at b k) ≡ false) l
  none_before [] e h = tt
  none_before (x ∷ xs) e h = (better_not x e.0 h.0, none_before xs e.1 h.1)

  ordered_joins : (l : List ℕ) → Ordered b s l → Ordered b s (joins b k l)
  unfolding joins
  ordered_joins [] h = (here, tt, tt)
  ordered_joins (x ∷ xs) h =
      split (better (at b k) (at b x))
      (λ t. let e = ordered_stands b s (x ∷ xs) h in rw t (here, none_before (x ∷ xs) e (before_those x xs h t), h))
      (λ t. rw t (h.0, each_joins (λ y. better (at b y) (at b x) ≡ false) b k xs t h.1, ordered_joins xs h.2))

  -- joining first and taking out then, or the other way round
  those_joins : (keep : ℕ → Bool) (l : List ℕ) → Ordered b s l → those keep (joins b k l) ≡ cond (keep k) (joins b k (those keep l)) (those keep l)
  unfolding joins those
  those_joins keep [] h = split (keep k) (λ t. rw t) (λ t. rw t)
  those_joins keep (x ∷ xs) h =
      split (better (at b k) (at b x))
      (λ t. rw t
      (split (keep k)
      (λ u. rw u (sym (before_joins _ (each_those (λ y. better (at b k) (at b y) ≡ true) keep (x ∷ xs) (before_those x xs h t)))))
      (λ u. rw u)))
      (λ t. rw t (split (keep x) (λ u. rw u (ap (λ (z : List ℕ). x ∷ z) (those_joins keep xs h.2) ∙ behind x _ t)) (λ u. rw u (those_joins keep xs h.2))))
    where
      behind : (x : ℕ) (l : List ℕ) → better (at b k) (at b x) ≡ false → x ∷ cond (keep k) (joins b k l) l ≡ cond (keep k) (joins b k (x ∷ l)) (x ∷ l)
      behind x l t = split (keep k) (λ v. rw v (rw t)) (λ v. rw v)

-- ---- the orders of a side, in turn
pub turns_ordered : (b : Book) (s n : ℕ) → Ordered b s (turns_of b s n)
unfolding turns_of
turns_ordered b s zero = tt
turns_ordered b s (suc n) =
    split (stands s (at b (suc n)))
    (λ t. rw t (ordered_joins b s (suc n) t (turns_of b s n) (turns_ordered b s n)))
    (λ t. rw t (turns_ordered b s n))

-- in turn, and each of them is an open order of the side
pub in_turn_ordered : (b : Book) (s : ℕ) → Ordered b s (in_turn b s)
unfolding in_turn
in_turn_ordered b s = turns_ordered b s (length b)

pub in_turn_stands : (b : Book) (s : ℕ) → Each (λ k. stands s (at b k) ≡ true) (in_turn b s)
in_turn_stands b s = ordered_stands b s (in_turn b s) (in_turn_ordered b s)

-- by the places in the list: none goes before one in front of it
ordered_at : (b : Book) (s : ℕ) (l : List ℕ) → Ordered b s l → (i j : ℕ) → i < j → j < length l → better (at b (get_or l j 0)) (at b (get_or l i 0)) ≡ false
ordered_at b s [] h i j x y = absurd (omega arith)
ordered_at b s (z ∷ l) h i zero x y = absurd (omega arith)
ordered_at b s (z ∷ l) h zero (suc j) x y = each_at (λ k. better (at b k) (at b z) ≡ false) l h.1 j (omega arith)
ordered_at b s (z ∷ l) h (suc i) (suc j) x y = ordered_at b s l h.2 i j (omega arith) (omega arith)

pub in_turn_order : (b : Book) (s i j : ℕ) → i < j → j < length (in_turn b s) → better (at b (get_or (in_turn b s) j 0)) (at b (get_or (in_turn b s) i 0)) ≡ false
in_turn_order b s i j x y = ordered_at b s (in_turn b s) (in_turn_ordered b s) i j x y

-- behind the last order of the book there is none
turns_more : (b : Book) (s d : ℕ) → turns_of b s (d + length b) ≡ in_turn b s
unfolding in_turn turns_of stands
turns_more b s zero = rw (zero-add (length b))
turns_more b s (suc d) =
    rw (suc-add d (length b))
    (split (is_open (at b (suc (d + length b))))
    (λ t. absurd (omega (arith, (open_in b (suc (d + length b)) (ltb-true _ _ t)).high)))
    (λ t. rw t (turns_more b s d)))

-- ---- every open order of the side once, and nothing else
unfoldable pub times : ℕ → List ℕ → ℕ
times k [] = 0
times k (x ∷ xs) = cond (eqb k x) 1 0 + times k xs

times_joins : (b : Book) (j k : ℕ) (l : List ℕ) → times k (joins b j l) ≡ times k (j ∷ l)
unfolding joins times
times_joins b j k [] = refl
times_joins b j k (x ∷ xs) = split (better (at b j) (at b x)) (λ t. rw t) (λ t. rw t (omega (arith, times_joins b j k xs)))

module _ (b : Book) (s : ℕ) where
  times_other : (k n : ℕ) → k ≢ suc n → times k (turns_of b s (suc n)) ≡ times k (turns_of b s n)
  unfolding turns_of times
  times_other k n h =
      split (stands s (at b (suc n))) (λ t. rw (t, times_joins b (suc n) k (turns_of b s n), ne_eqb k (suc n) h) (omega arith)) (λ t. rw t)

  times_none : (k n : ℕ) → n < k → times k (turns_of b s n) ≡ 0
  unfolding turns_of times
  times_none k zero h = refl
  times_none k (suc n) h = times_other k n (λ e. omega arith) ∙ times_none k n (omega arith)

  times_zero : (n : ℕ) → times 0 (turns_of b s n) ≡ 0
  unfolding turns_of times
  times_zero zero = refl
  times_zero (suc n) = times_other 0 n (λ e. omega arith) ∙ times_zero n

  times_last : (n : ℕ) → times (suc n) (turns_of b s (suc n)) ≡ cond (stands s (at b (suc n))) 1 0
  unfolding turns_of times
  times_last n =
      split (stands s (at b (suc n)))
      (λ t. rw (t, times_joins b (suc n) (suc n) (turns_of b s n), eq-eqb (suc n) (suc n) refl) (omega (arith, times_none (suc n) n (omega arith))))
      (λ t. rw t (times_none (suc n) n (omega arith)))

  times_one : (k n : ℕ) → 0 < k → k ≤ n → times k (turns_of b s n) ≡ cond (stands s (at b k)) 1 0
  times_one k zero l h = absurd (omega arith)
  times_one k (suc n) l h =
      split (eqb k (suc n))
      (λ t. rw (eqb-true k (suc n) t) (times_last n))
      (λ t. times_other k n (eqb-false k (suc n) t) ∙ times_one k n l (omega (arith, eqb-false k (suc n) t)))

  shut_stands : (k : ℕ) → (In b k → ⊥) → ◌≡◌ {A = ℕ} 0 (cond (stands s (at b k)) 1 0)
  shut_stands k h = split (stands s (at b k)) (λ t. absurd (h (open_in b k (stands_open s (at b k) t)))) (λ t. rw t)

  pub in_turn_once : (k : ℕ) → times k (in_turn b s) ≡ cond (stands s (at b k)) 1 0
  unfolding in_turn
  in_turn_once zero = times_zero (length b) ∙ shut_stands 0 (λ i. omega (arith, i.low))
  in_turn_once (suc j) =
      split (leb (suc j) (length b))
      (λ u. times_one (suc j) (length b) (omega arith) (leb-true (suc j) (length b) u))
      (λ u. times_none (suc j) (length b) (leb-false (suc j) (length b) u) ∙ shut_stands (suc j) (λ i. omega (arith, i.high, leb-false (suc j) (length b) u)))

-- as many as there are
length_joins : (b : Book) (k : ℕ) (l : List ℕ) → length (joins b k l) ≡ suc (length l)
unfolding joins
length_joins b k [] = refl
length_joins b k (x ∷ xs) = split (better (at b k) (at b x)) (λ t. rw t) (λ t. rw t (ap suc (length_joins b k xs)))

turns_length : (b : Book) (s n : ℕ) → length (turns_of b s n) ≡ count_of (stands s) b n
unfolding turns_of count_of sum_over
turns_length b s zero = refl
turns_length b s (suc n) =
    split (stands s (at b (suc n)))
    (λ t. rw (t, length_joins b (suc n) (turns_of b s n)) (omega (arith, turns_length b s n)))
    (λ t. rw t (omega (arith, turns_length b s n)))

pub in_turn_length : (b : Book) (s : ℕ) → length (in_turn b s) ≡ orders_on b s
unfolding in_turn orders_on
in_turn_length b s = turns_length b s (length b)

-- ---- who is met first

-- the first of a list; 0 for none
abbrev pub front : List ℕ → ℕ
front l = get_or l 0 0

module _ (b : Book) (o : Order) (s : ℕ) (against : buys s ≡ not (is_buy o)) where
  on_side_lem : (r : Order) → opposite o r ≡ on_side s r
  on_side_lem r = rw against (turned (is_buy o) (is_buy r))
    where
      turned : (x y : Bool) → cond x (not y) y ≡ cond (not x) y (not y)
      turned true y = refl
      turned false y = refl

  pub faces_stands : (r : Order) → faces o r ≡ (stands s r && meets o r)
  unfolding faces stands
  faces_stands r = rw (on_side_lem r)

  stands_opposite : (r : Order) → stands s r ≡ true → opposite o r ≡ true
  unfolding stands
  stands_opposite r h = on_side_lem r ∙ both_r (is_open r) (on_side s r) h

  some : (x : ℕ) → stands s (at b x) ≡ true → eqb x 0 ≡ false
  some x h = ne_eqb x 0 (λ e. omega (arith, (open_in b x (stands_open s (at b x) h)).low))

  -- the better of the first in turn, if it is met, and an order that joins them
  front_joins : (k : ℕ) (l : List ℕ) → Ordered b s l → stands s (at b k) ≡ true
      → let c = cond (meets o (at b (front l))) (front l) 0 in
      cond (meets o (at b k) && (eqb c 0 || better (at b k) (at b c))) k c ≡ cond (meets o (at b (front (joins b k l)))) (front (joins b k l)) 0
  unfolding joins
  front_joins k [] h t =
      split (meets o (at b 0))
      (λ u. rw u (split (meets o (at b k)) (λ v. rw v) (λ v. rw v)))
      (λ u. rw u (split (meets o (at b k)) (λ v. rw v) (λ v. rw v)))
  front_joins k (x ∷ xs) h t =
      let same = stands_side s (at b x) h.0 ∙ sym (stands_side s (at b k) t) in
      split (meets o (at b x))
      (λ u. rw (u, some x h.0)
      (split (better (at b k) (at b x))
      (λ v. rw (v, better_meets o (at b k) (at b x) (stands_opposite (at b k) t) same v u))
      (λ v. rw (v, u, both_no (meets o (at b k))))))
      (λ u. rw u
      (split (better (at b k) (at b x))
      (λ v. rw v (split (meets o (at b k)) (λ y. rw y) (λ y. rw y)))
      (λ v. rw (v, u)
      (split (meets o (at b k))
      (λ y. absurd (not_both (not_better_meets o (at b k) (at b x) (stands_opposite (at b x) h.0) same v y) u))
      (λ y. rw y)))))

  -- the best of the first n is the first of them in turn, if it is met
  best_front : (n : ℕ) → best b o n ≡ cond (meets o (at b (front (turns_of b s n)))) (front (turns_of b s n)) 0
  unfolding best choose turns_of
  best_front zero = split (meets o (at b 0)) (λ t. rw t) (λ t. rw t)
  best_front (suc n) =
      rw (best_front n, faces_stands (at b (suc n)))
      (split (stands s (at b (suc n)))
      (λ t. rw t (front_joins (suc n) (turns_of b s n) (turns_ordered b s n) t))
      (λ t. rw t))

-- an order with something open is matched with the first in turn of the other side, if it meets that one, and with none otherwise
pub head_partner : (b : Book) (w s : ℕ) → buys s ≡ not (is_buy (at b w)) → 0 < open_of (at b w)
    → partner b w ≡ cond (meets (at b w) (at b (front (in_turn b s)))) (front (in_turn b s)) 0
unfolding partner in_turn
head_partner b w s e h = rw (lt-ltb 0 (open_of (at b w)) h) (best_front b (at b w) s e (length b))

-- ---- another book

-- of the orders of side s in book b those that a test holds of stand in book c too, at their levels and places, and no other does
pub record Stay (b c : Book) (s : ℕ) (keep : ℕ → Bool) : Type 0 where
  pub stay : (k : ℕ) → stands s (at c k) ≡ (stands s (at b k) && keep k)
  pub level : (k : ℕ) → stands s (at c k) ≡ true → (at c k).level ≡ (at b k).level
  pub place : (k : ℕ) → stands s (at c k) ≡ true → (at c k).place ≡ (at b k).place

module _ (b c : Book) (s : ℕ) (keep : ℕ → Bool) (h : Stay b c s keep) where
  stay_stands : (k : ℕ) → stands s (at b k) ≡ true → keep k ≡ true → stands s (at c k) ≡ true
  stay_stands k t u = h.stay k ∙ both_i t u

  stay_better : (i j : ℕ) → stands s (at b i) ≡ true → keep i ≡ true → stands s (at b j) ≡ true → keep j ≡ true → better (at c i) (at c j) ≡ better (at b i) (at b j)
  unfolding better
  stay_better i j t u v w =
      let x = stay_stands i t u in
      let y = stay_stands j v w in
      rw (h.level i x, h.level j y, h.place i x, h.place j y, stands_side s (at c i) x, stands_side s (at b i) t)

  stay_joins : (k : ℕ) (l : List ℕ) → stands s (at b k) ≡ true → keep k ≡ true → Each (λ x. stands s (at b x) ≡ true) l → Each (λ x. keep x ≡ true) l → joins c k l ≡ joins b k l
  unfolding joins
  stay_joins k [] t u e f = refl
  stay_joins k (x ∷ xs) t u e f = rw (stay_better k x t u e.0 f.0, stay_joins k xs t u e.1 f.1)

  turns_stay : (n : ℕ) → turns_of c s n ≡ those keep (turns_of b s n)
  unfolding turns_of those
  turns_stay zero = refl
  turns_stay (suc n) =
      rw (h.stay (suc n), turns_stay n)
      (split (stands s (at b (suc n)))
      (λ t. rw (t, those_joins b s (suc n) t keep (turns_of b s n) (turns_ordered b s n))
      (split (keep (suc n))
      (λ u. rw u
      (stay_joins (suc n) _ t u
      (each_those (λ x. stands s (at b x) ≡ true) keep (turns_of b s n) (ordered_stands b s (turns_of b s n) (turns_ordered b s n)))
      (those_hold keep (turns_of b s n))))
      (λ u. rw u)))
      (λ t. rw t))

  -- then those are in turn there
  pub in_turn_stay : in_turn c s ≡ those keep (in_turn b s)
  in_turn_stay =
      sym (turns_more c s (length b)) ∙ ap (λ (n : ℕ). turns_of c s n) (add_comm (length b) (length c))
      ∙ turns_stay (length c + length b) ∙ ap (those keep) (turns_more b s (length c))

-- all of them
pub those_all : {A : Type 0} (keep : A → Bool) (l : List A) → ((x : A) → keep x ≡ true) → those keep l ≡ l
unfolding those
those_all keep [] h = refl
those_all keep (x ∷ xs) h = rw (h x, those_all keep xs h)

-- what an order shows to those who stand in turn
pub record Alike (a c : Order) : Type 0 where
  pub live : is_open c ≡ is_open a
  pub side : c.side ≡ a.side
  pub level : c.level ≡ a.level
  pub place : c.place ≡ a.place

pub alike_stands : (s : ℕ) (a c : Order) → Alike a c → stands s c ≡ stands s a
unfolding stands
alike_stands s a c h = rw (h.live, h.side)

pub and_true : (x : Bool) → (x && true) ≡ x
and_true true = refl
and_true false = refl

-- a change that keeps of every order its side, level, place and whether it is open keeps the turns
pub in_turn_same : (b c : Book) (s : ℕ) → ((k : ℕ) → Alike (at b k) (at c k)) → in_turn c s ≡ in_turn b s
in_turn_same b c s h =
    in_turn_stay b c s (λ k. true)
    (record {
      stay = λ k. alike_stands s (at b k) (at c k) (h k) ∙ sym (and_true (stands s (at b k)));
      level = λ k t. (h k).level;
      place = λ k t. (h k).place;
    })
    ∙ those_all (λ k. true) (in_turn b s) (λ k. refl)

-- one with nothing open any more is taken out, and the others stay in turn
pub closed_stands : (s : ℕ) (o : Order) → open_of o ≡ 0 → stands s o ≡ false
unfolding stands
closed_stands s o z = rw z

pub in_turn_closed : (b c : Book) (s r : ℕ) → open_of (at c r) ≡ 0 → ((k : ℕ) → k ≢ r → Alike (at b k) (at c k)) → in_turn c s ≡ those (λ k. not (eqb k r)) (in_turn b s)
in_turn_closed b c s r z h =
    in_turn_stay b c s (λ k. not (eqb k r))
    (record {
      stay = λ k.
          split (eqb k r)
          (λ t. rw (t, eqb-true k r t, closed_stands s (at c r) z) (sym (both_no (stands s (at b r)))))
          (λ t. rw t (alike_stands s (at b k) (at c k) (h k (eqb-false k r t)) ∙ sym (and_true (stands s (at b k)))));
      level = λ k t. (h k (other k t)).level;
      place = λ k t. (h k (other k t)).place;
    })
  where
    other : (k : ℕ) → stands s (at c k) ≡ true → k ≢ r
    other k t e = not_both t (rw e (closed_stands s (at c r) z))

-- the one in front taken out leaves those behind it
times_those : (r : ℕ) (l : List ℕ) → times r l ≡ 0 → those (λ k. not (eqb k r)) l ≡ l
unfolding those times
times_those r [] e = refl
times_those r (x ∷ xs) e =
    split (eqb x r)
    (λ t. absurd (let z = rw (eqb-true x r t, eq-eqb r r refl) at e in omega arith))
    (λ t. rw t (ap (λ (z : List ℕ). x ∷ z) (times_those r xs (omega arith))))

pub front_once : (b : Book) (s r : ℕ) (l : List ℕ) → in_turn b s ≡ r ∷ l → times r l ≡ 0
unfolding times
front_once b s r l e =
    let once : cond (eqb r r) 1 0 + times r l ≡ cond (stands s (at b r)) 1 0 = rw e at (in_turn_once b s r) in
    let one = rw (eq-eqb r r refl) at once in
    split (stands s (at b r)) (λ t. let z = rw t at one in omega arith) (λ t. let z = rw t at one in omega arith)

pub front_closed : (b : Book) (s r : ℕ) (l : List ℕ) → in_turn b s ≡ r ∷ l → those (λ k. not (eqb k r)) (in_turn b s) ≡ l
unfolding those
front_closed b s r l e = rw (e, eq-eqb r r refl) (times_those r l (front_once b s r l e))

-- none of a list that r is not in is r
pub times_apart : (r : ℕ) (l : List ℕ) → times r l ≡ 0 → Each (λ k. k ≢ r) l
unfolding times
times_apart r [] e = tt
times_apart r (x ∷ xs) e =
    split (eqb r x)
    (λ t. absurd (let z = rw t at e in omega arith))
    (λ t. (λ q. eqb-false r x t (sym q), times_apart r xs (omega arith)))
