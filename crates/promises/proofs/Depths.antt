-- The levels that Depth answers, of a market with nothing in work, add up to all that is open.
use mathlib.Core.Path.{◌≡◌, refl, sym, ap, ◌∙◌}
use mathlib.Core.Bool.{true, false, cond}
use mathlib.Core.List.{List}
use Prim.Native.Nat.{ℕ, zero, suc, ◌+◌, ◌-◌, ◌≤◌}
use native.Mathlib.Omega.{arith}
use lib.ListN.{length}
use borrow.Author.Tests.{eq-eqb, ltb-false}
use Rattle.std.specs.Prelude.{Option, None, Ok}
use Rattle.octets.proofs.Bools.{split}
use Rattle.decimal.specs.declared.Instrument.{Instrument}
use Rattle.matching.specs.declared.Order.{Order}
use Rattle.matching.specs.declared.Level.{Level}
use Rattle.matching.specs.Matching.{Book, at, open_of, is_open, is_buy, sum_over, count_of}
use Rattle.matching.specs.Held.{Sound, In}
use Rattle.matching.specs.Depth.{stands, level_at, depth, total_of, orders_of, over_levels, open_on, orders_on}
use Rattle.matching.proofs.Books.{sum_same, sum_add}
use Rattle.matching.proofs.Theorems.{depth_totals, depth_orders, depth_ends}
use Rattle.table.specs.Heading.{work_of}
use Rattle.table.specs.Orders.{filled, book_of}
use Rattle.table.specs.Market.{is_market_of}
use Rattle.table.proofs.Instruments.{of_market}
use Rattle.table.proofs.Facts.{market_facts}
use Rattle.table.proofs.Books.{length_book}
use Rattle.market.specs.Depth.{is_side, depth_answer}
use Rattle.promises.specs.Whole.{open_in, orders_in, over_depth}

-- ---- there is no level behind the last
module _ (b : Book) (s : ℕ) where
  next_none : (k : ℕ) → level_at b s k ≡ 0 → level_at b s (suc k) ≡ 0
  unfolding level_at
  next_none k z = rw (eq-eqb (level_at b s k) 0 z)

  no_level : (k : ℕ) → level_at b s k ≡ 0 → depth b s k ≡ None
  unfolding depth
  no_level k z = rw (eq-eqb (level_at b s k) 0 z)

  level_none : (n m : ℕ) → level_at b s n ≡ 0 → level_at b s (n + m) ≡ 0
  level_none n zero e = ap (λ (k : ℕ). level_at b s k) (omega arith) ∙ e
  level_none n (suc m) e = ap (λ (k : ℕ). level_at b s k) (omega arith) ∙ next_none (n + m) (level_none n m e)

  over_one : (f : Option Level → ℕ) (n : ℕ) → over_levels f b s (suc n) ≡ over_levels f b s n + f (depth b s n)
  unfolding over_levels
  over_one f n = refl

  over_more : (f : Option Level → ℕ) → f None ≡ 0 → (n m : ℕ) → level_at b s n ≡ 0 → over_levels f b s (n + m) ≡ over_levels f b s n
  over_more f z n zero e = ap (λ (k : ℕ). over_levels f b s k) (omega arith)
  over_more f z n (suc m) e =
      let d : depth b s (n + m) ≡ None = no_level (n + m) (level_none n m e) in
      let g : f (depth b s (n + m)) ≡ 0 = ap f d ∙ z in
      ap (λ (k : ℕ). over_levels f b s k) (omega arith) ∙ over_one f (n + m) ∙ omega (arith, over_more f z n m e)

-- ---- both sides together are all
open_none : (o : Order) → is_open o ≡ false → open_of o ≡ 0
open_none o z = omega (arith, ltb-false 0 (open_of o) z)

both_open : (o : Order) → cond (stands 1 o) (open_of o) 0 + cond (stands 2 o) (open_of o) 0 ≡ open_of o
unfolding stands
both_open o =
    split (is_open o)
    (λ z. split (is_buy o) (λ w. rw (z, w) (omega arith)) (λ w. rw (z, w) (omega arith)))
    (λ z. rw z (sym (open_none o z)))

both_count : (o : Order) → cond (stands 1 o) 1 0 + cond (stands 2 o) 1 0 ≡ cond (is_open o) 1 0
unfolding stands
both_count o =
    split (is_open o)
    (λ z. split (is_buy o) (λ w. rw (z, w)) (λ w. rw (z, w)))
    (λ z. rw z)

sides_open : (b : Book) → open_on b 1 + open_on b 2 ≡ sum_over open_of b (length b)
unfolding open_on
sides_open b =
    sym (sum_add (λ o. cond (stands 1 o) (open_of o) 0) (λ o. cond (stands 2 o) (open_of o) 0) b (length b))
    ∙ sum_same _ _ b b (length b) (λ k l h. both_open (at b k))

sides_count : (b : Book) → orders_on b 1 + orders_on b 2 ≡ count_of is_open b (length b)
unfolding orders_on count_of
sides_count b =
    sym (sum_add (λ o. cond (stands 1 o) 1 0) (λ o. cond (stands 2 o) 1 0) b (length b))
    ∙ sum_same _ _ b b (length b) (λ k l h. both_count (at b k))

-- ---- Depth on a market with nothing in work
module _ (q : Instrument) (t : List ℕ) (m : is_market_of q t ≡ true) (idle : work_of t ≡ 0) where
  pub found : (s k : ℕ) → is_side s ≡ true → depth_answer q t s k ≡ Ok (depth (book_of t) s k)
  unfolding depth_answer
  found s k e = rw (m, eq-eqb (work_of t) 0 idle, e)

  over_depth_lem : (f : Option Level → ℕ) (s n : ℕ) → is_side s ≡ true → over_depth q f t s n ≡ over_levels f (book_of t) s n
  unfolding over_depth over_levels
  over_depth_lem f s zero e = refl
  over_depth_lem f s (suc n) e = rw (found s n e, over_depth_lem f s n e)

  sound : (k : ℕ) → In (book_of t) k → Sound (at (book_of t) k)
  sound = (market_facts t (of_market q t m)).held.sound

  over_all : (f : Option Level → ℕ) → f None ≡ 0 → (s n : ℕ) → is_side s ≡ true → filled t ≤ n → over_depth q f t s n ≡ over_levels f (book_of t) s (length (book_of t))
  over_all f z s n e h =
      let l = length_book t in
      let p : n ≡ length (book_of t) + (n - length (book_of t)) = omega arith in
      over_depth_lem f s n e ∙ ap (λ (k : ℕ). over_levels f (book_of t) s k) p
      ∙ over_more (book_of t) s f z (length (book_of t)) (n - length (book_of t)) (depth_ends (book_of t) s sound)

  module _ (n : ℕ) (h : filled t ≤ n) where
    pub totals_open : over_depth q total_of t 1 n + over_depth q total_of t 2 n ≡ open_in t
    unfolding open_in
    totals_open =
        let a = over_all total_of refl 1 n refl h in
        let b = over_all total_of refl 2 n refl h in
        let c = depth_totals (book_of t) 1 sound in
        let d = depth_totals (book_of t) 2 sound in
        rw (← length_book t) (omega (arith, sides_open (book_of t)))

    pub orders_open : over_depth q orders_of t 1 n + over_depth q orders_of t 2 n ≡ orders_in t
    unfolding orders_in
    orders_open =
        let a = over_all orders_of refl 1 n refl h in
        let b = over_all orders_of refl 2 n refl h in
        let c = depth_orders (book_of t) 1 sound in
        let d = depth_orders (book_of t) 2 sound in
        rw (← length_book t) (omega (arith, sides_count (book_of t)))
