-- Notes, turns with a quantity for each: their sums before a turn, the first of one's own, the turns of a window, and how far a
-- quantity reaches. Lists and numbers alone: what is noted is said in Looks.
use mathlib.Core.Path.{◌≡◌, refl, sym, ◌∙◌}
use mathlib.Core.Bool.{Bool, true, false, cond, ◌&&◌}
use mathlib.Core.List.{List}
use Prim.Native.Nat.{ℕ, zero, suc, ◌+◌, ◌-◌, ◌*◌, ◌/◌, ◌≤◌, ◌<◌, min}
use native.Mathlib.Nat.{mul-le-mul_left}
use native.Mathlib.Numerals.{add-one}
use native.Mathlib.Omega.{arith}
use lib.Dec.{ltb, leb, eqb}
use lib.ListN.{length, get_or, set}
use lib.Seq.{get_or-set_same, get_or-set_other}
use mir.Syntax.{w64}
use mir.Val.{Fits}
use borrow.Author.Tests.{le-ltb, lt-ltb, ltb-true, ltb-false, leb-true, leb-false, eqb-true, eqb-false}
use Rattle.octets.proofs.Bools.{split, both_l}
use Rattle.table.specs.Looks.{sum_of, least_own, Notes, Clear, Between, Shrunk}

-- ---- sums of notes

-- one of two by a test
pub where_before : (u v r a b : ℕ) → u < v → r ≡ a → r ≡ cond (ltb u v) a b
where_before u v r a b h e = rw (lt-ltb u v h) e

pub where_not : (u v r a b : ℕ) → v ≤ u → r ≡ b → r ≡ cond (ltb u v) a b
where_not u v r a b h e = rw (le-ltb u v h) e

-- the same of any test
pub where_true : (t : Bool) (r a b : ℕ) → t ≡ true → r ≡ a → r ≡ cond t a b
where_true t r a b h e = rw h e

pub where_false : (t : Bool) (r a b : ℕ) → t ≡ false → r ≡ b → r ≡ cond t a b
where_false t r a b h e = rw h e

-- where one number is below another, the next fits
pub next_fits : (t : Bool) (u x : ℕ) → Fits w64 x → (ltb u x && t) ≡ true → Fits w64 (u + 1)
next_fits t u x f h = omega (arith, ltb-true u x (both_l (ltb u x) t h))

pub notes_early : {turns amounts : List ℕ} {n i : ℕ} → Notes turns amounts n → i < n → get_or turns i 0 < 2_000_000_000_000_000_000
notes_early {i = i} q l = q.early i l

pub notes_small : {turns amounts : List ℕ} {n i : ℕ} → Notes turns amounts n → i < n → get_or amounts i 0 ≤ 999_999_999
notes_small {i = i} q l = q.small i l

-- the test as a quotient
module _ (u v x : ℕ) (h : u < 2_000_000_000_000_000_000) (l : x ≤ 4_000_000_000_000_000_000) where
  pub counted_fits : v ≤ 999_999_999 → Fits w64 (v * ((9_223_372_036_854_775_808 + x - u - 1) / 9_223_372_036_854_775_808))
  counted_fits m =
      let e : (9_223_372_036_854_775_808 + x - u - 1) / 9_223_372_036_854_775_808 ≤ 1 = omega arith in
      omega (arith, mul-le-mul_left v e)

  pub counted_is : v * ((9_223_372_036_854_775_808 + x - u - 1) / 9_223_372_036_854_775_808) ≡ cond (ltb u x) v 0
  counted_is =
      split (ltb u x)
      (λ t.
      let e : (9_223_372_036_854_775_808 + x - u - 1) / 9_223_372_036_854_775_808 ≡ 1 = omega (arith, ltb-true u x t) in
      rw (t, e) (omega arith))
      (λ t.
      let e : (9_223_372_036_854_775_808 + x - u - 1) / 9_223_372_036_854_775_808 ≡ 0 = omega (arith, ltb-false u x t) in
      rw (t, e) (omega arith))

counted_le : (t : Bool) (a : ℕ) → cond t a 0 ≤ a
counted_le t a = split t (λ e. rw e (omega arith)) (λ e. rw e (omega arith))

module _ (turns amounts : List ℕ) (x : ℕ) where
  sum_none : sum_of turns amounts x 0 ≡ 0
  unfolding sum_of
  sum_none = refl

  sum_next : (n : ℕ) → sum_of turns amounts x (n + 1) ≡ sum_of turns amounts x n + cond (ltb (get_or turns n 0) x) (get_or amounts n 0) 0
  unfolding sum_of
  sum_next n = rw add-one

-- before turn 0 is nothing
sum_zero : (turns amounts : List ℕ) (n : ℕ) → sum_of turns amounts 0 n ≡ 0
unfolding sum_of
sum_zero turns amounts zero = refl
sum_zero turns amounts (suc n) = rw (sum_zero turns amounts n, le-ltb (get_or turns n 0) 0 (omega arith))

-- a later turn has no less before it, and as much where no turn lies between
sum_later : (turns amounts : List ℕ) (a b n : ℕ) → a ≤ b → sum_of turns amounts a n ≤ sum_of turns amounts b n
unfolding sum_of
sum_later turns amounts a b zero h = omega arith
sum_later turns amounts a b (suc n) h =
    split (ltb (get_or turns n 0) a)
    (λ t. rw (t, lt-ltb (get_or turns n 0) b (omega (arith, ltb-true (get_or turns n 0) a t))) (omega (arith, sum_later turns amounts a b n h)))
    (λ t. rw t (omega (arith, sum_later turns amounts a b n h)))

sum_order : (turns amounts : List ℕ) (a b n q : ℕ) → sum_of turns amounts a n ≤ q → q < sum_of turns amounts b n → a < b
sum_order turns amounts a b n q h l =
    split (ltb a b) (λ t. ltb-true a b t) (λ t. absurd (omega (arith, sum_later turns amounts b a n (ltb-false a b t))))

sum_clear : (turns amounts : List ℕ) (a b n : ℕ) → a ≤ b → ((k : ℕ) → k < n → a ≤ get_or turns k 0 → b ≤ get_or turns k 0)
    → sum_of turns amounts a n ≡ sum_of turns amounts b n
unfolding sum_of
sum_clear turns amounts a b zero h g = refl
sum_clear turns amounts a b (suc n) h g =
    split (ltb (get_or turns n 0) a)
    (λ t. rw (t, lt-ltb (get_or turns n 0) b (omega (arith, ltb-true (get_or turns n 0) a t)), sum_clear turns amounts a b n h (λ k l. g k (omega arith))))
    (λ t.
    rw (
      t,
      le-ltb (get_or turns n 0) b (g n (omega arith) (ltb-false (get_or turns n 0) a t)),
      sum_clear turns amounts a b n h (λ k l. g k (omega arith)),
    ))

clear_sum : {turns : List ℕ} {a b n : ℕ} (amounts : List ℕ) → Clear turns n a b → sum_of turns amounts a n ≡ sum_of turns amounts b n
clear_sum {turns} {a} {b} {n} amounts c = sum_clear turns amounts a b n c.ordered c.none

-- a note behind those that are summed changes nothing, and then counts
module _ (turns amounts : List ℕ) (x m u v : ℕ) where
  sum_kept : (n : ℕ) → n ≤ m → sum_of (set turns m u) (set amounts m v) x n ≡ sum_of turns amounts x n
  unfolding sum_of
  sum_kept zero h = refl
  sum_kept (suc n) h =
      rw (sum_kept n (omega arith), get_or-set_other turns m n u 0 (λ e. omega arith), get_or-set_other amounts m n v 0 (λ e. omega arith))

  pub sum_noted : m < length turns → m < length amounts
      → sum_of (set turns m u) (set amounts m v) x (m + 1) ≡ sum_of turns amounts x m + cond (ltb u x) v 0
  sum_noted h l =
      sum_next (set turns m u) (set amounts m v) x m
      ∙ rw (sum_kept m (omega arith), get_or-set_same turns m u 0 h, get_or-set_same amounts m v 0 l)

-- the sum so far, of i of n
pub record Summing (turns amounts : List ℕ) (x n r i : ℕ) : Type 0 where
  pub within : i ≤ n
  pub is : r ≡ sum_of turns amounts x i
  pub small : r ≤ i * 999_999_999

pub summing_none : {turns amounts : List ℕ} {x n : ℕ} → Summing turns amounts x n 0 0
summing_none {turns} {amounts} {x} = record { within = omega arith; is = sym (sum_none turns amounts x); small = omega arith }

module _ {turns amounts : List ℕ} {x n r i c : ℕ} (q : Notes turns amounts n) (s : Summing turns amounts x n r i) (l : i < n)
    (e : c ≡ cond (ltb (get_or turns i 0) x) (get_or amounts i 0) 0) where
  part : c ≤ 999_999_999
  part = omega (arith, q.small i l, counted_le (ltb (get_or turns i 0) x) (get_or amounts i 0))

  pub summing_fits : Fits w64 (r + c)
  summing_fits = omega (arith, part, s.small, q.few)

  pub summing_more : Summing turns amounts x n (r + c) (i + 1)
  summing_more =
      record {
        within = omega arith;
        is = rw (s.is, e) (sym (sum_next turns amounts x i));
        small = omega (arith, part, s.small);
      }

module _ {turns amounts : List ℕ} {x n r i : ℕ} (s : Summing turns amounts x n r i) (l : n ≤ i) where
  all_summed : i ≡ n
  all_summed = omega (arith, s.within)

  pub summing_end : r ≡ sum_of turns amounts x n
  summing_end = s.is ∙ rw all_summed

  pub summing_most : r ≤ n * 999_999_999
  summing_most = omega (arith, s.small, s.within)

-- ---- the first of one's own

module _ (turns all others : List ℕ) (end : ℕ) where
  least_none : least_own turns all others end 0 ≡ end
  unfolding least_own
  least_none = refl

  pub least_next : (n : ℕ) → least_own turns all others end (n + 1)
      ≡ cond (ltb (get_or others n 0) (get_or all n 0)) (min (get_or turns n 0) (least_own turns all others end n)) (least_own turns all others end n)
  unfolding least_own
  least_next n = rw add-one

  pub least_most : (n : ℕ) → least_own turns all others end n ≤ end
  unfolding least_own
  least_most zero = omega arith
  least_most (suc n) =
      split (ltb (get_or others n 0) (get_or all n 0))
      (λ t. rw t (omega (arith, least_most n)))
      (λ t. rw t (least_most n))

  module _ (m u v y : ℕ) where
    pub least_kept : (n : ℕ) → n ≤ m → least_own (set turns m u) (set all m v) (set others m y) end n ≡ least_own turns all others end n
    unfolding least_own
    least_kept zero h = refl
    least_kept (suc n) h =
        rw (
          least_kept n (omega arith),
          get_or-set_other turns m n u 0 (λ e. omega arith),
          get_or-set_other all m n v 0 (λ e. omega arith),
          get_or-set_other others m n y 0 (λ e. omega arith),
        )

-- the nearest so far, of i of n
pub record Nearing (turns all others : List ℕ) (end n x i : ℕ) : Type 0 where
  pub within : i ≤ n
  pub is : x ≡ least_own turns all others end i

pub nearing_none : {turns all others : List ℕ} {end n : ℕ} → Nearing turns all others end n end 0
nearing_none {turns} {all} {others} {end} = record { within = omega arith; is = sym (least_none turns all others end) }

pub nearing_more : {turns all others : List ℕ} {end n x i : ℕ} (y : ℕ) → Nearing turns all others end n x i → i < n
    → y ≡ cond (ltb (get_or others i 0) (get_or all i 0)) (min (get_or turns i 0) x) x → Nearing turns all others end n y (i + 1)
nearing_more {turns} {all} {others} {end} {n} {x} {i} y s l e =
    record { within = omega arith; is = e ∙ rw s.is (sym (least_next turns all others end i)) }

pub nearing_end : {turns all others : List ℕ} {end n x i : ℕ} → Nearing turns all others end n x i → n ≤ i → x ≡ least_own turns all others end n
nearing_end {n = n} {i = i} s l = let e : i ≡ n = omega (arith, s.within) in s.is ∙ rw e

-- ---- the first turn from x on, and the last before it, of i turns so far

pub clear_none : (turns : List ℕ) (a b : ℕ) → a ≤ b → Clear turns 0 a b
clear_none turns a b h = record { ordered = h; none = λ k l. absurd (omega arith) }

pub clear_end : {turns : List ℕ} {i a b : ℕ} (n : ℕ) → Clear turns i a b → i ≤ n → n ≤ i → Clear turns n a b
clear_end {i = i} n c h l = let e : i ≡ n = omega arith in rw e at c

-- one more
clear_more : {turns : List ℕ} {i a b : ℕ} → a ≤ b → ((k : ℕ) → k < i → a ≤ get_or turns k 0 → b ≤ get_or turns k 0)
    → (a ≤ get_or turns i 0 → b ≤ get_or turns i 0) → Clear turns (i + 1) a b
clear_more {turns} {i} {a} {b} h g f =
    record {
      ordered = h;
      none = λ k l.
          split (eqb k i)
          (λ t. rw (eqb-true k i t) f)
          (λ t. g k (omega (arith, eqb-false k i t)));
    }

module _ (turns : List ℕ) (i x r y : ℕ) where
  pub first_more : Clear turns i x r → y ≡ cond (leb x (get_or turns i 0) && ltb (get_or turns i 0) r) (get_or turns i 0) r → Clear turns (i + 1) x y
  first_more c e =
      split (leb x (get_or turns i 0))
      (λ t. split (ltb (get_or turns i 0) r)
      (λ u.
      let z : y ≡ get_or turns i 0 = rw (t, u) at e in
      let d : get_or turns i 0 < r = ltb-true (get_or turns i 0) r u in
      rw z (clear_more (leb-true x (get_or turns i 0) t) (λ k l m. omega (arith, c.none k l m)) (λ m. omega arith)))
      (λ u.
      let z : y ≡ r = rw (t, u) at e in
      rw z (clear_more c.ordered c.none (λ m. ltb-false (get_or turns i 0) r u))))
      (λ t.
      let z : y ≡ r = rw t at e in
      rw z (clear_more c.ordered c.none (λ m. absurd (omega (arith, leb-false x (get_or turns i 0) t)))))

  pub last_more : Clear turns i r x → y ≡ cond (ltb (get_or turns i 0) x && leb r (get_or turns i 0)) (get_or turns i 0 + 1) r → Clear turns (i + 1) y x
  last_more c e =
      split (ltb (get_or turns i 0) x)
      (λ t. split (leb r (get_or turns i 0))
      (λ u.
      let z : y ≡ get_or turns i 0 + 1 = rw (t, u) at e in
      let d : r ≤ get_or turns i 0 = leb-true r (get_or turns i 0) u in
      rw z (clear_more (omega (arith, ltb-true (get_or turns i 0) x t)) (λ k l m. c.none k l (omega arith)) (λ m. absurd (omega arith))))
      (λ u.
      let z : y ≡ r = rw (t, u) at e in
      rw z (clear_more c.ordered c.none (λ m. absurd (omega (arith, leb-false r (get_or turns i 0) u))))))
      (λ t.
      let z : y ≡ r = rw t at e in
      rw z (clear_more c.ordered c.none (λ m. ltb-false (get_or turns i 0) x t)))

-- ---- how far q reaches, by halves

module _ {turns amounts : List ℕ} {n q low high : ℕ} (g : Between turns amounts n q low high) where
  between_ordered : low < high
  between_ordered = sum_order turns amounts low high n q g.enough g.more

  pub between_below : low ≤ high
  between_below = omega (arith, between_ordered)

  -- a window without the turns at its sides that nobody has
  module _ {l h : ℕ} (c : Clear turns n low l) (d : Clear turns n h high) where
    pub between_clear : Between turns amounts n q l h
    between_clear =
        record {
          enough = omega (arith, g.enough, clear_sum amounts c);
          more = omega (arith, g.more, clear_sum amounts d);
          early = omega (arith, g.early, d.ordered);
        }

    -- and then halved
    pub clear_shrunk : {i k : ℕ} → Shrunk l h i k → 1 < high - low → k - i < high - low
    clear_shrunk {i} {k} s o =
        split (ltb 1 (h - l))
        (λ t. omega (arith, s.less (ltb-true 1 (h - l) t), c.ordered, d.ordered))
        (λ t. omega (arith, s.most, ltb-false 1 (h - l) t))

  pub one_turn : high - low ≤ 1 → Between turns amounts n q low (low + 1)
  one_turn h = let e : high ≡ low + 1 = omega (arith, between_ordered) in rw e at g

-- all turns, where q is not enough for all
pub between_all : {turns amounts : List ℕ} {n q end s : ℕ} → s ≡ sum_of turns amounts end n → q < s → end ≤ 2_000_000_000_000_000_000
    → Between turns amounts n q 0 end
between_all {turns} {amounts} {n} e h l = record { enough = omega (arith, sum_zero turns amounts n); more = rw (← e) h; early = l }

pub shrunk_most : {low high l h i k : ℕ} → Shrunk low high l h → k - i ≤ h - l → Shrunk low high i k
shrunk_most {low} {high} {l} {h} {i} {k} a b = record { most = omega (arith, a.most); less = λ z. omega (arith, a.less z) }
