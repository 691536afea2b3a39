-- The levels of a side: each is behind the one before it, together they hold every open order of the side once, and there are
-- at most as many as orders. Levels in use are above 0, which is what "no level" is written as.
use mathlib.Core.Path.{◌≡◌, refl, sym, subst, ◌∙◌}
use mathlib.Core.Bool.{Bool, true, false, cond, ◌&&◌, ◌||◌}
use Prim.Native.Nat.{ℕ, zero, suc, ◌+◌, ◌*◌, ◌≤◌, ◌<◌}
use native.Mathlib.Omega.{arith}
use lib.ListN.{length}
use lib.Dec.{eqb}
use borrow.Author.Tests.{ltb-true, eqb-true, eqb-false, eq-eqb, ne_eqb}
use Rattle.octets.proofs.Bools.{split, not_both, both_l, both_r, or_r, neither_l, neither_r}
use Rattle.matching.specs.declared.Order.{Order}
use Rattle.matching.specs.Matching.{Book, at, open_of, is_open, buys, ahead, sum_over, count_of}
use Rattle.matching.specs.Held.{In, Sound}
use Rattle.matching.specs.Depth.{stands, behind, nearer, next, level_at, on_level, share, total, orders, depth, total_of, orders_of, over_levels, open_on, orders_on}
use Rattle.matching.proofs.Books.{open_in, sum_same, sum_add, sum_most}
use Rattle.matching.proofs.Values.{open_most}
use Rattle.matching.proofs.Best.{ahead_trans, ahead_self, ahead_other}

not_ahead_self : (s : Bool) (x : ℕ) → ahead s x x ≡ false
not_ahead_self s x = split (ahead s x x) (λ t. absurd (ahead_self s x t)) (λ t. t)

-- ---- the next level behind x
module _ (b : Book) (s x : ℕ) where
  -- the order that gives it stands behind x
  pub next_behind : (n : ℕ) → 0 < next b s x n → behind s x (next b s x n) ≡ true
  unfolding next nearer
  next_behind zero p = absurd (omega arith)
  next_behind (suc n) p =
      let c = next b s x n in
      let o = at b (suc n) in
      split (stands s o && behind s x o.level && (eqb c 0 || ahead (buys s) o.level c))
      (λ t. rw t (both_r (stands s o) _ (both_l _ _ t)))
      (λ t. rw t (next_behind n (rw t at p)))

  -- and no order that stands behind x is ahead of it
  module _ (high : (k : ℕ) → stands s (at b k) ≡ true → 0 < (at b k).level) where
    pub next_first : (n k : ℕ) → 0 < k → k ≤ n → stands s (at b k) ≡ true → behind s x (at b k).level ≡ true
        → (0 < next b s x n) × (ahead (buys s) (at b k).level (next b s x n) ≡ false)
    unfolding next nearer
    next_first zero k l h p q = absurd (omega arith)
    next_first (suc n) k l h p q =
        let c = next b s x n in
        let o = at b (suc n) in
        split (stands s o && behind s x o.level && (eqb c 0 || ahead (buys s) o.level c))
        (λ t. rw t (
          high (suc n) (both_l _ _ (both_l _ _ t)),
          split (eqb k (suc n))
              (λ u. rw (eqb-true k (suc n) u) (not_ahead_self (buys s) o.level))
              (λ u.
              let g = next_first n k l (omega (arith, eqb-false k (suc n) u)) p q in
              let z = or_r (eqb c 0) _ (both_r (stands s o && behind s x o.level) _ t) (ne_eqb c 0 (omega (arith, g.0))) in
              split (ahead (buys s) (at b k).level o.level)
              (λ v. absurd (not_both (ahead_trans (buys s) (at b k).level o.level c v z) g.1))
              (λ v. v)),
        ))
        (λ t. rw t
        (split (eqb k (suc n))
        (λ u.
        let e = eqb-true k (suc n) u in
        let z = simp (rw e at p, rw e at q) at t in
        (omega (arith, eqb-false c 0 (neither_l (eqb c 0) _ z)), rw e (neither_r (eqb c 0) _ z)))
        (λ u. next_first n k l (omega (arith, eqb-false k (suc n) u)) p q)))

-- ---- what stands behind x stands on the next level, or behind that
-- what an order that stands behind x counts for, and one on level y
unfoldable pub past : (Order → ℕ) → ℕ → ℕ → Order → ℕ
past f s x o = cond (stands s o && behind s x o.level) (f o) 0

unfoldable pub here : (Order → ℕ) → ℕ → ℕ → Order → ℕ
here f s y o = cond (on_level s y o) (f o) 0

module _ (f : Order → ℕ) (s x y : ℕ) (o : Order) (pos : 0 < y) (first : behind s x y ≡ true)
    (least : stands s o ≡ true → behind s x o.level ≡ true → ahead (buys s) o.level y ≡ false) where
  y_not : eqb y 0 ≡ false
  y_not = ne_eqb y 0 (omega arith)

  -- behind x and behind the next level
  on_past : stands s o ≡ true → past f s x o ≡ here f s y o + past f s y o
  unfolding past here on_level behind
  on_past t =
      split (eqb o.level y)
      (λ u.
      let e = eqb-true o.level y u in
      rw (t, u, y_not) (rw (e, first, not_ahead_self (buys s) y) (omega arith)))
      (λ u.
      split (behind s x o.level)
      (λ v. rw (t, u, v, y_not) (rw (ahead_other (buys s) o.level y (least t v) u) (omega arith)))
      (λ v. rw (t, u, v, y_not)
      (split (ahead (buys s) y o.level)
      (λ z. absurd (not_both (further z) v))
      (λ z. rw z))))
    where
      further : ahead (buys s) y o.level ≡ true → behind s x o.level ≡ true
      further z =
          split (eqb x 0)
          (λ q. rw q)
          (λ q. rw q (ahead_trans (buys s) x y o.level (or_r (eqb x 0) _ first q) z))

  pub past_next : past f s x o ≡ here f s y o + past f s y o
  unfolding past here on_level
  past_next = split (stands s o) on_past (λ t. rw t)

-- ---- the levels of one side of one book, f being what an order counts for
module _ (f : Order → ℕ) (b : Book) (s : ℕ) (high : (k : ℕ) → stands s (at b k) ≡ true → 0 < (at b k).level) where
  -- all that stands behind x, and all that stands on level y; no level holds nothing
  over : ℕ → ℕ
  over x = sum_over (past f s x) b (length b)

  on : ℕ → ℕ
  on y = sum_over (here f s y) b (length b)

  kept : (ℕ → ℕ) → ℕ → ℕ
  kept g y = cond (eqb y 0) 0 (g y)

  over_next : (x y : ℕ) → next b s x (length b) ≡ y → 0 < y → over x ≡ on y + over y
  unfolding over on
  over_next x y e p =
      sum_same (past f s x) (λ o. here f s y o + past f s y o) b b (length b)
      (λ k l h.
      past_next f s x y (at b k) p (rw e at (next_behind b s x (length b) (rw e p)))
      (λ t u. rw e at (next_first b s x high (length b) k l h t u).1))
      ∙ sum_add (here f s y) (past f s y) b (length b)

  over_none : (x : ℕ) → next b s x (length b) ≡ 0 → over x ≡ 0
  unfolding over past
  over_none x e =
      omega (
        arith,
        sum_most (past f s x) b (length b) 0
            (λ k l h.
            split (stands s (at b k) && behind s x (at b k).level)
            (λ t. absurd (omega (arith, (next_first b s x high (length b) k l h (both_l _ _ t) (both_r (stands s (at b k)) _ t)).0)))
            (λ t. rw t (omega arith))),
      )

  -- so what stands behind x is on the next level or behind it
  over_step : (x y : ℕ) → next b s x (length b) ≡ y → over x ≡ kept on y + kept over y
  unfolding kept
  over_step x y e =
      split (eqb y 0)
      (λ t. rw t (over_none x (e ∙ eqb-true y 0 t)))
      (λ t. rw t (over_next x y e (omega (arith, eqb-false y 0 t))))

  -- the first n levels, and what they leave
  firsts : ℕ → ℕ
  firsts zero = 0
  firsts (suc n) = firsts n + kept on (level_at b s n)

  rest : ℕ → ℕ
  rest zero = over 0
  rest (suc n) = kept over (level_at b s n)

  rest_step : (n : ℕ) → rest n ≡ kept on (level_at b s n) + rest (suc n)
  unfolding rest level_at
  rest_step zero = over_step 0 _ refl
  rest_step (suc n) =
      split (eqb (level_at b s n) 0)
      (λ t. unfold kept in rw t)
      (λ t. rw t (unfold kept in rw t (over_step (level_at b s n) _ refl)))

  add_up : (n : ℕ) → firsts n + rest n ≡ over 0
  unfolding firsts
  add_up zero = unfold rest in omega arith
  add_up (suc n) = omega (arith, add_up n, rest_step n)

-- ---- a level has an order on it
one : Order → ℕ
one o = 1

some_more : (b : Book) (s y n : ℕ) → 0 < sum_over (here one s y) b n → 0 < sum_over (here one s y) b (suc n)
unfolding sum_over
some_more b s y n p = omega arith

on_some : (b : Book) (s x n : ℕ) → 0 < next b s x n → 0 < sum_over (here one s (next b s x n)) b n
unfolding next nearer sum_over here one on_level
on_some b s x zero p = absurd (omega arith)
on_some b s x (suc n) p =
    let c = next b s x n in
    let o = at b (suc n) in
    split (stands s o && behind s x o.level && (eqb c 0 || ahead (buys s) o.level c))
    (λ t. let a : stands s o ≡ true = both_l _ _ (both_l _ _ t) in rw (t, a, eq-eqb o.level o.level refl) (omega arith))
    (λ t.
    let e : next b s x (suc n) ≡ next b s x n = rw t in
    subst (λ (y : ℕ). 0 < sum_over (here one s y) b (suc n)) (sym e) (some_more b s (next b s x n) n (on_some b s x n (rw e at p))))

module _ (b : Book) (s : ℕ) (high : (k : ℕ) → stands s (at b k) ≡ true → 0 < (at b k).level) where
  level_some : (n : ℕ) → 0 < level_at b s n → 0 < on one b s high (level_at b s n)
  unfolding level_at on
  level_some zero p = on_some b s 0 (length b) p
  level_some (suc n) p =
      split (eqb (level_at b s n) 0)
      (λ t. absurd (let q = rw t at p in omega arith))
      (λ t. rw t (on_some b s (level_at b s n) (length b) (rw t at p)))

  level_before : (n : ℕ) → 0 < level_at b s (suc n) → 0 < level_at b s n
  unfolding level_at
  level_before n p =
      split (eqb (level_at b s n) 0) (λ t. absurd (let q = rw t at p in omega arith)) (λ t. omega (arith, eqb-false (level_at b s n) 0 t))

  level_count : (n : ℕ) → 0 < level_at b s n → suc n ≤ firsts one b s high (suc n)
  unfolding firsts kept
  level_count zero p = rw (ne_eqb (level_at b s 0) 0 (omega arith)) (omega (arith, level_some 0 p))
  level_count (suc n) p =
      rw (ne_eqb (level_at b s (suc n)) 0 (omega arith))
      (omega (arith, level_some (suc n) p, level_count n (level_before n p)))

  over_length : over one b s high 0 ≤ length b
  unfolding over past one
  over_length =
      omega (
        arith,
        sum_most (past one s 0) b (length b) 1
            (λ k l h. split (stands s (at b k) && behind s 0 (at b k).level) (λ t. rw t (omega arith)) (λ t. rw t (omega arith))),
      )

  -- there are at most as many levels as orders
  pub no_more : level_at b s (length b) ≡ 0
  no_more =
      split (eqb (level_at b s (length b)) 0)
      (λ t. eqb-true _ _ t)
      (λ t.
      absurd (omega (arith, level_count (length b) (omega (arith, eqb-false (level_at b s (length b)) 0 t)), over_length, add_up one b s high (suc (length b)))))

  -- each level is ahead of the one after it
  pub levels_ahead : (n : ℕ) → 0 < level_at b s (suc n) → ahead (buys s) (level_at b s n) (level_at b s (suc n)) ≡ true
  unfolding level_at
  levels_ahead n p =
      split (eqb (level_at b s n) 0)
      (λ t. absurd (let q = rw t at p in omega arith))
      (λ t. rw t (unfold behind in or_r (eqb (level_at b s n) 0) _ (next_behind b s (level_at b s n) (length b) (rw t at p)) t))

  -- and no open order of the side is ahead of the best
  pub best_level : (k : ℕ) → In b k → stands s (at b k) ≡ true → ahead (buys s) (at b k).level (level_at b s 0) ≡ false
  unfolding level_at behind
  best_level k i t = (next_first b s 0 high (length b) k i.low i.high t refl).1

  all_behind : (f : Order → ℕ) → over f b s high 0 ≡ sum_over (λ o. cond (stands s o) (f o) 0) b (length b)
  unfolding over past behind
  all_behind f =
      sum_same _ _ b b (length b)
      (λ k l h. split (stands s (at b k)) (λ t. rw t) (λ t. rw t))

  firsts_all : (f : Order → ℕ) → firsts f b s high (length b) ≡ sum_over (λ o. cond (stands s o) (f o) 0) b (length b)
  unfolding rest kept
  firsts_all f = omega (arith, add_up f b s high (length b), all_behind f, none_left)
    where
      none_left : rest f b s high (length b) ≡ 0
      none_left = rest_step f b s high (length b) ∙ rw no_more

  -- ---- in the words of Depth
  level_total : (k : ℕ) → total_of (depth b s k) ≡ kept open_of b s high (on open_of b s high) (level_at b s k)
  unfolding depth kept on total share here
  level_total k = split (eqb (level_at b s k) 0) (λ t. rw t) (λ t. rw t)

  level_orders : (k : ℕ) → orders_of (depth b s k) ≡ kept one b s high (on one b s high) (level_at b s k)
  unfolding depth kept on orders count_of here one
  level_orders k = split (eqb (level_at b s k) 0) (λ t. rw t) (λ t. rw t)

  totals : (n : ℕ) → over_levels total_of b s n ≡ firsts open_of b s high n
  unfolding over_levels firsts
  totals zero = refl
  totals (suc n) = omega (arith, totals n, level_total n)

  counts : (n : ℕ) → over_levels orders_of b s n ≡ firsts one b s high n
  unfolding over_levels firsts
  counts zero = refl
  counts (suc n) = omega (arith, counts n, level_orders n)

  -- the totals of all levels are all that is open, and their orders are all open orders
  pub totals_add_up : over_levels total_of b s (length b) ≡ open_on b s
  unfolding open_on
  totals_add_up = totals (length b) ∙ firsts_all open_of

  pub orders_add_up : over_levels orders_of b s (length b) ≡ orders_on b s
  unfolding orders_on count_of one
  orders_add_up = counts (length b) ∙ firsts_all one

-- ---- in a book whose orders are in their ranges
module _ (b : Book) (s : ℕ) (sound : (k : ℕ) → In b k → Sound (at b k)) where
  -- levels in use are above 0
  pub standing_high : (k : ℕ) → stands s (at b k) ≡ true → 0 < (at b k).level
  unfolding stands
  standing_high k t = (sound k (open_in b k (ltb-true _ _ (both_l _ _ t)))).level_low

  -- the total of the first n orders is far below 2^64
  pub total_most : (l n : ℕ) → n ≤ length b → sum_over (share s l) b n ≤ n * 999_999_999
  unfolding share
  total_most l n h =
      sum_most (share s l) b n 999_999_999
      (λ k p q.
      split (on_level s l (at b k))
      (λ t. rw t (open_most (at b k) (sound k (record { low = p; high = omega arith }))))
      (λ t. rw t (omega arith)))

  -- ---- a level in numbers

  -- what an order adds to its level is 1 to 999,999,999
  share_low : (l : ℕ) (o : Order) → cond (on_level s l o) 1 0 ≤ share s l o
  unfolding share on_level stands
  share_low l o =
      split (is_open o)
      (λ t. split (on_level s l o) (λ u. rw u (ltb-true 0 (open_of o) t)) (λ u. rw u (omega arith)))
      (λ t. rw t (omega arith))

  share_high : (l k : ℕ) → In b k → share s l (at b k) ≤ cond (on_level s l (at b k)) 1 0 * 999_999_999
  unfolding share
  share_high l k i =
      split (on_level s l (at b k))
      (λ t. rw t (omega (arith, open_most (at b k) (sound k i))))
      (λ t. rw t (omega arith))

  -- so the total of the first n orders is at least their number, and at most as many times 999,999,999
  pub total_least : (l n : ℕ) → count_of (on_level s l) b n ≤ sum_over (share s l) b n
  unfolding count_of sum_over
  total_least l zero = omega arith
  total_least l (suc n) = omega (arith, total_least l n, share_low l (at b (suc n)))

  pub total_each : (l n : ℕ) → n ≤ length b → sum_over (share s l) b n ≤ count_of (on_level s l) b n * 999_999_999
  unfolding count_of sum_over
  total_each l zero h = omega arith
  total_each l (suc n) h =
      omega (arith, total_each l n (omega arith), share_high l (suc n) (record { low = omega arith; high = h }))

  -- a level that there is has an order, and is at most 1,999,999,999
  pub orders_some : (x n : ℕ) → 0 < next b s x n → 0 < count_of (on_level s (next b s x n)) b n
  unfolding count_of here one
  orders_some x n p = on_some b s x n p

  pub next_most : (x n : ℕ) → n ≤ length b → next b s x n ≤ 1_999_999_999
  unfolding next nearer
  next_most x zero h = omega arith
  next_most x (suc n) h =
      let c = next b s x n in
      let o = at b (suc n) in
      split (stands s o && behind s x o.level && (eqb c 0 || ahead (buys s) o.level c))
      (λ t. rw t (sound (suc n) (record { low = omega arith; high = h })).level_high)
      (λ t. rw t (next_most x n (omega arith)))
