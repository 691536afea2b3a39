-- The best levels in one pass against looking for them and comparing every buy with every sell: they are those of the book apart from
-- the order in work, with what stands on each, and a book is uncrossed exactly if the best buy level is above the best sell level.
use Rattle.std.proofs.Common.{◌≡◌, ℕ, zero, suc, ◌+◌, ◌*◌, ◌<◌, ◌≤◌, Bool, true, false, cond, ◌&&◌, ◌||◌, eqb, ltb, length, sym, refl, subst, ap, ◌∙◌, arith, ltb-false, ltb-true, eq-eqb, ne_eqb, eqb-true, le-leb}
use mathlib.Core.Bool.{and-true}
use borrow.Author.Tests.{eqb-false, lt-leb, not-true}
use Rattle.octets.specs.Tests.{all_up_to}
use Rattle.octets.proofs.Bools.{split, not_both, both_l, both_r, both_not_r, or_r, neither_l, neither_r}
use Rattle.octets.proofs.Ranges.{all_from, all_not}
use Rattle.matching.specs.declared.Order.{Order}
use Rattle.matching.specs.Matching.{Book, none, at, put, open_of, is_open, is_buy, is_immediate, buys, ahead, sum_over, count_of}
use Rattle.matching.specs.Depth.{stands, behind, nearer, next, level_at, on_level, share, total, orders, depth}
use Rattle.matching.proofs.Books.{at_put_same, at_put_other, sum_most}
use Rattle.matching.proofs.Levels.{next_first}
use Rattle.matching.specs.declared.Level.{Level}
use Rattle.table.specs.Best.{best_on}
use Rattle.table.specs.Market.{is_done, is_clear, no_cross}
use Rattle.audit.specs.declared.book.Sides.{Sides}
use Rattle.audit.specs.Checking.{with_open, with_order, sides_of, apart}

-- ---- an order on a level, by the tests that the code makes of it
module _ (side : ℕ) (c : Level) (level x : ℕ) (a : Bool) (e : a ≡ ahead (buys side) level c.level) where
  pub open_new : (eqb c.level 0 || a) ≡ true → record { level = level; total = x; orders = 1 } ≡ with_open side c level x
  unfolding with_open
  open_new h = rw (rw e at h)

  pub open_same : (eqb c.level 0 || a) ≡ false → level ≡ c.level → record { level = level; total = c.total + x; orders = c.orders + 1 } ≡ with_open side c level x
  unfolding with_open
  open_same h f = rw (rw e at h, eq-eqb level c.level f)

  pub open_worse : (eqb c.level 0 || a) ≡ false → (level ≡ c.level → ⊥) → c ≡ with_open side c level x
  unfolding with_open
  open_worse h f = rw (rw e at h, ne_eqb level c.level f)

-- ---- the best level of side s among the first n orders, with what stands on it
unfoldable pub standing : Book → ℕ → ℕ → Level
standing b s n =
    let l = next b s 0 n in
    record { level = l; total = sum_over (share s l) b n; orders = count_of (on_level s l) b n }

three : {l m t u n o : ℕ} → l ≡ m → t ≡ u → n ≡ o → ◌≡◌ {A = Level} (record { level = l; total = t; orders = n }) (record { level = m; total = u; orders = o })
three p q r = λ j. record { level = p j; total = q j; orders = r j }

module _ (b : Book) (s : ℕ) (high : (k : ℕ) → stands s (at b k) ≡ true → 0 < (at b k).level) where
  -- a level that no open order of the side has
  empty_total : (l n : ℕ) → ((k : ℕ) → 0 < k → k ≤ n → on_level s l (at b k) ≡ false) → sum_over (share s l) b n ≡ 0
  unfolding share
  empty_total l n h = omega (arith, sum_most (share s l) b n 0 (λ k p q. rw (h k p q) (omega arith)))

  empty_orders : (l n : ℕ) → ((k : ℕ) → 0 < k → k ≤ n → on_level s l (at b k) ≡ false) → count_of (on_level s l) b n ≡ 0
  unfolding count_of
  empty_orders l n h = omega (arith, sum_most (λ o. cond (on_level s l o) 1 0) b n 0 (λ k p q. rw (h k p q) (omega arith)))

  -- such is one that is better than the best
  none_better : (l n : ℕ) → (eqb (next b s 0 n) 0 || ahead (buys s) l (next b s 0 n)) ≡ true → (k : ℕ) → 0 < k → k ≤ n → on_level s l (at b k) ≡ false
  unfolding on_level behind
  none_better l n h k p q =
      split (stands s (at b k))
      (λ t. split (eqb (at b k).level l)
      (λ u.
      let g = next_first b s 0 high n k p q t refl in
      let e : (at b k).level ≡ l = eqb-true _ _ u in
      absurd (not_both (or_r (eqb (next b s 0 n) 0) _ h (ne_eqb (next b s 0 n) 0 (λ z. omega (arith, g.0)))) (rw e at g.1)))
      (λ u. rw (t, u)))
      (λ t. rw t)

  -- and level 0
  none_at_zero : (k : ℕ) → on_level s 0 (at b k) ≡ false
  unfolding on_level
  none_at_zero k = split (stands s (at b k)) (λ t. rw (t, ne_eqb (at b k).level 0 (λ z. omega (arith, high k t)))) (λ t. rw t)

  -- one order more
  standing_is : (n m x y : ℕ) → next b s 0 (suc n) ≡ m → x ≡ sum_over (share s m) b n + share s m (at b (suc n))
      → y ≡ count_of (on_level s m) b n + cond (on_level s m (at b (suc n))) 1 0 → standing b s (suc n) ≡ record { level = m; total = x; orders = y }
  unfolding standing count_of sum_over
  standing_is n m x y e f g =
      subst
      (λ (k : ℕ). ◌≡◌ {A = Level}
      (record { level = k; total = sum_over (share s k) b (suc n); orders = count_of (on_level s k) b (suc n) })
      (record { level = m; total = x; orders = y }))
      (sym e) (three refl (sym f) (sym g))

  -- the best level stays, with what the order adds to it
  standing_same : (n : ℕ) (x y : ℕ) → next b s 0 (suc n) ≡ next b s 0 n → share s (next b s 0 n) (at b (suc n)) ≡ x → cond (on_level s (next b s 0 n) (at b (suc n))) 1 0 ≡ y
      → standing b s (suc n) ≡ record { level = next b s 0 n; total = (standing b s n).total + x; orders = (standing b s n).orders + y }
  unfolding standing
  standing_same n x y e f g = standing_is n (next b s 0 n) _ _ e (omega (arith, f)) (omega (arith, g))

  standing_kept : (n : ℕ) → next b s 0 (suc n) ≡ next b s 0 n → on_level s (next b s 0 n) (at b (suc n)) ≡ false → standing b s (suc n) ≡ standing b s n
  unfolding share standing
  standing_kept n e f = standing_same n 0 0 e (rw f) (rw f) ∙ three refl (omega arith) (omega arith)

  module _ (n : ℕ) where
    abbrev better : Bool
    better = eqb (next b s 0 n) 0 || ahead (buys s) (at b (suc n)).level (next b s 0 n)

    stays : (stands s (at b (suc n)) && behind s 0 (at b (suc n)).level && better) ≡ false → next b s 0 (suc n) ≡ next b s 0 n
    unfolding next nearer
    stays h = rw h

    moves : stands s (at b (suc n)) ≡ true → better ≡ true → next b s 0 (suc n) ≡ (at b (suc n)).level
    unfolding next nearer behind
    moves t u = rw (t, u)

    abbrev With : Type 0
    With = standing b s (suc n) ≡ with_open s (standing b s n) (at b (suc n)).level (open_of (at b (suc n)))

    more_new : stands s (at b (suc n)) ≡ true → better ≡ true → With
    unfolding standing share on_level
    more_new t u =
        let l : ℕ = (at b (suc n)).level in
        let e = none_better l n u in
        let f = eq-eqb l l refl in
        standing_is n l (open_of (at b (suc n))) 1 (moves t u) (rw (t, f) (omega (arith, empty_total l n e))) (rw (t, f) (omega (arith, empty_orders l n e)))
        ∙ open_new s (standing b s n) l (open_of (at b (suc n))) _ refl u

    more_same : stands s (at b (suc n)) ≡ true → better ≡ false → eqb (at b (suc n)).level (next b s 0 n) ≡ true → With
    unfolding standing share on_level
    more_same t u v =
        let l : ℕ = (at b (suc n)).level in
        let e : l ≡ next b s 0 n = eqb-true l (next b s 0 n) v in
        standing_same n (open_of (at b (suc n))) 1 (stays (both_not_r (stands s (at b (suc n)) && behind s 0 l) better u)) (rw (t, v)) (rw (t, v))
        ∙ three (sym e) refl refl ∙ open_same s (standing b s n) l (open_of (at b (suc n))) _ refl u e

    more_worse : stands s (at b (suc n)) ≡ true → better ≡ false → eqb (at b (suc n)).level (next b s 0 n) ≡ false → With
    unfolding standing on_level
    more_worse t u v =
        let l : ℕ = (at b (suc n)).level in
        standing_kept n (stays (both_not_r (stands s (at b (suc n)) && behind s 0 l) better u)) (rw (t, v))
        ∙ open_worse s (standing b s n) l (open_of (at b (suc n))) _ refl u (eqb-false l (next b s 0 n) v)

    more_none : stands s (at b (suc n)) ≡ false → standing b s (suc n) ≡ standing b s n
    unfolding on_level
    more_none t = standing_kept n (stays (rw t)) (rw t)

    standing_more : standing b s (suc n) ≡ cond (stands s (at b (suc n))) (with_open s (standing b s n) (at b (suc n)).level (open_of (at b (suc n)))) (standing b s n)
    standing_more =
        split (stands s (at b (suc n)))
        (λ t. rw t
        (split better (more_new t)
        (λ u. split (eqb (at b (suc n)).level (next b s 0 n)) (more_same t u) (more_worse t u))))
        (λ t. rw t (more_none t))

  -- the best level of the book
  pub best_standing : standing b s (length b) ≡ best_on b s
  unfolding standing best_on depth level_at total orders
  best_standing =
      let n : ℕ = length b in
      split (eqb (next b s 0 n) 0)
      (λ e.
      let z = eqb-true (next b s 0 n) 0 e in
      rw e (rw z (three refl (empty_total 0 n (λ k p q. none_at_zero k)) (empty_orders 0 n (λ k p q. none_at_zero k)))))
      (λ e. rw e)

  -- an order that the best level is of
  pub record Has (n l : ℕ) : Type 0 where
    pub number : ℕ
    pub low : 0 < number
    pub most : number ≤ n
    pub counts : stands s (at b number) ≡ true
    pub level : (at b number).level ≡ l

  next_has : (n : ℕ) → 0 < next b s 0 n → Has n (next b s 0 n)
  unfolding next nearer
  next_has zero p = absurd (omega arith)
  next_has (suc n) p =
      let o : Order = at b (suc n) in
      let c : ℕ = next b s 0 n in
      split (stands s o && behind s 0 o.level && (eqb c 0 || ahead (buys s) o.level c))
      (λ t. rw t (record { number = suc n; low = omega arith; most = omega arith; counts = both_l _ _ (both_l _ _ t); level = refl }))
      (λ t.
      let h = next_has n (rw t at p) in
      rw t (record { number = h.number; low = h.low; most = omega (arith, h.most); counts = h.counts; level = h.level }))

-- ---- two orders: clear of each other if the sell is lower, not clear if an open buy and an open sell meet
clear_if : (o r : Order) → (is_open o ≡ true → is_buy o ≡ true → is_open r ≡ true → is_buy r ≡ false → r.level < o.level) → is_clear o r ≡ true
unfolding is_clear
clear_if o r h =
    split (is_open o)
    (λ oo. split (is_buy o)
    (λ bo. split (is_open r)
    (λ or. split (is_buy r)
    (λ br. rw (oo, bo, or, br))
    (λ br. rw (oo, bo, or, br, lt-leb o.level r.level (h oo bo or br))))
    (λ or. rw (oo, bo, or)))
    (λ bo. rw (oo, bo)))
    (λ oo. rw oo)

not_clear : (o r : Order) → stands 1 o ≡ true → stands 2 r ≡ true → o.level ≤ r.level → is_clear o r ≡ false
unfolding is_clear stands
not_clear o r t u l =
    let br : is_buy r ≡ false = not-true _ (both_r (is_open r) _ u) in
    rw (both_l (is_open o) _ t, both_r (is_open o) _ t, both_l (is_open r) _ u, br, le-leb o.level r.level l)

-- ---- the book apart from order w
unfoldable pub rest : Book → ℕ → Book
rest b w = put b w none

none_stands : (s : ℕ) → stands s none ≡ false
unfolding stands open_of
none_stands s = refl

rest_none : (b : Book) (w : ℕ) → w ≤ length b → at (rest b w) w ≡ none
unfolding rest
rest_none b zero l = refl
rest_none b (suc w) l = at_put_same b (suc w) none (omega arith) (omega arith)

module _ (b : Book) (w : ℕ) (within : w ≤ length b) (high : (k : ℕ) → is_open (at b k) ≡ true → 0 < (at b k).level) where
  rest_gone : (k : ℕ) → eqb k w ≡ true → at (rest b w) k ≡ none
  rest_gone k e = rw (eqb-true k w e) (rest_none b w within)

  rest_at : (k : ℕ) → eqb k w ≡ false → at (rest b w) k ≡ at b k
  unfolding rest
  rest_at k e = at_put_other b w k none (omega arith) (eqb-false k w e)

  -- order w does not stand in it; any other is that of the book
  rest_other : (s k : ℕ) → stands s (at (rest b w) k) ≡ true → eqb k w ≡ false
  rest_other s k t =
      split (eqb k w)
      (λ e.
      let d = rest_gone k e in
      absurd (not_both (rw d at t) (none_stands s)))
      (λ e. e)

  rest_stands : (s k : ℕ) → stands s (at (rest b w) k) ≡ true → stands s (at b k) ≡ true
  rest_stands s k t = rw (rest_at k (rest_other s k t)) at t

  rest_high : (s k : ℕ) → stands s (at (rest b w) k) ≡ true → 0 < (at (rest b w) k).level
  rest_high s k t = rw (rest_at k (rest_other s k t)) (high k (unfold stands in both_l _ _ (rest_stands s k t)))

  -- the pass
  no_more : (s n : ℕ) → eqb (suc n) w ≡ true → standing (rest b w) s (suc n) ≡ standing (rest b w) s n
  no_more s n e =
      let z : stands s (at (rest b w) (suc n)) ≡ false = ap (stands s) (rest_gone (suc n) e) ∙ none_stands s in
      standing_more (rest b w) s (rest_high s) n ∙ rw z

  one_more_lem : (s n : ℕ) → eqb (suc n) w ≡ false
      → standing (rest b w) s (suc n) ≡ cond (stands s (at b (suc n))) (with_open s (standing (rest b w) s n) (at b (suc n)).level (open_of (at b (suc n)))) (standing (rest b w) s n)
  one_more_lem s n e = standing_more (rest b w) s (rest_high s) n ∙ rw (rest_at (suc n) e)

  with_buy : (n : ℕ) → (sides_of b w n).buy ≡ standing (rest b w) 1 n
      → (with_order (sides_of b w n) (at b (suc n))).buy ≡ cond (stands 1 (at b (suc n))) (with_open 1 (standing (rest b w) 1 n) (at b (suc n)).level (open_of (at b (suc n)))) (standing (rest b w) 1 n)
  unfolding with_order stands
  with_buy n h =
      split (is_open (at b (suc n)))
      (λ x. split (is_buy (at b (suc n))) (λ y. rw (x, y, h)) (λ y. rw (x, y, h)))
      (λ x. rw (x, h))

  pub sides_buy : (n : ℕ) → (sides_of b w n).buy ≡ standing (rest b w) 1 n
  unfolding sides_of
  sides_buy zero = unfold standing next sum_over count_of in refl
  sides_buy (suc n) =
      split (eqb (suc n) w)
      (λ e. rw e (sides_buy n ∙ sym (no_more 1 n e)))
      (λ e. rw e (with_buy n (sides_buy n) ∙ sym (one_more_lem 1 n e)))

  with_sell : (n : ℕ) → (sides_of b w n).sell ≡ standing (rest b w) 2 n
      → (with_order (sides_of b w n) (at b (suc n))).sell ≡ cond (stands 2 (at b (suc n))) (with_open 2 (standing (rest b w) 2 n) (at b (suc n)).level (open_of (at b (suc n)))) (standing (rest b w) 2 n)
  unfolding with_order stands
  with_sell n h =
      split (is_open (at b (suc n)))
      (λ x. split (is_buy (at b (suc n))) (λ y. rw (x, y, h)) (λ y. rw (x, y, h)))
      (λ x. rw (x, h))

  pub sides_sell : (n : ℕ) → (sides_of b w n).sell ≡ standing (rest b w) 2 n
  unfolding sides_of
  sides_sell zero = unfold standing next sum_over count_of in refl
  sides_sell (suc n) =
      split (eqb (suc n) w)
      (λ e. rw e (sides_sell n ∙ sym (no_more 2 n e)))
      (λ e. rw e (with_sell n (sides_sell n) ∙ sym (one_more_lem 2 n e)))

  -- ---- a book is uncrossed, apart from order w, exactly if no buy is at or below a sell
  abbrev pair : ℕ → ℕ → Bool
  pair i j = eqb (suc i) w || eqb (suc j) w || is_clear (at b (suc i)) (at b (suc j))

  -- the best buy level and the best sell level of the first n orders
  low : ℕ → ℕ
  low n = next (rest b w) 1 0 n

  top : ℕ → ℕ
  top n = next (rest b w) 2 0 n

  -- an order of the side is not ahead of them
  not_ahead : (n s k : ℕ) → 0 < k → k ≤ n → eqb k w ≡ false → stands s (at b k) ≡ true
      → (0 < next (rest b w) s 0 n) × (ahead (buys s) (at b k).level (next (rest b w) s 0 n) ≡ false)
  unfolding behind
  not_ahead n s k p q e t =
      let d = rest_at k e in
      rw d at (next_first (rest b w) s 0 (rest_high s) n k p q (rw d t) refl)

  pair_clear : (n i j : ℕ) → i < n → j < n → (eqb (low n) 0 || ltb (top n) (low n)) ≡ true → pair i j ≡ true
  unfolding low top stands
  pair_clear n i j l m h =
      split (eqb (suc i) w)
      (λ e. rw e)
      (λ e. split (eqb (suc j) w)
      (λ f. rw (e, f))
      (λ f. rw (e, f) (clear_if (at b (suc i)) (at b (suc j)) (λ oo bo or br.
      let x = not_ahead n 1 (suc i) (omega arith) (omega arith) e (rw (oo, bo)) in
      let y = not_ahead n 2 (suc j) (omega arith) (omega arith) f (rw (or, br)) in
      let z = or_r (eqb (low n) 0) (ltb (top n) (low n)) h (ne_eqb (low n) 0 (λ q. omega (arith, x.0))) in
      omega (arith, ltb-false (at b (suc i)).level (low n) x.1, ltb-false (top n) (at b (suc j)).level y.1, ltb-true (top n) (low n) z)))))

  crossed : (n : ℕ) → (eqb (low n) 0 || ltb (top n) (low n)) ≡ false → all_up_to (λ i. all_up_to (pair i) n) n ≡ false
  unfolding low top
  crossed n h =
      let p : 0 < low n = omega (arith, eqb-false (low n) 0 (neither_l _ _ h)) in
      let q : low n ≤ top n = ltb-false _ _ (neither_r (eqb (low n) 0) _ h) in
      let r = next_has (rest b w) 1 (rest_high 1) n p in
      let s = next_has (rest b w) 2 (rest_high 2) n (omega arith) in
      go r.number s.number r.low r.most s.low s.most r.counts s.counts (omega (arith, r.level, s.level))
    where
      go : (p q : ℕ) → 0 < p → p ≤ n → 0 < q → q ≤ n → stands 1 (at (rest b w) p) ≡ true → stands 2 (at (rest b w) q) ≡ true
          → (at (rest b w) p).level ≤ (at (rest b w) q).level → all_up_to (λ i. all_up_to (pair i) n) n ≡ false
      go zero q p0 pn q0 qn c d h = absurd (omega arith)
      go (suc p) zero p0 pn q0 qn c d h = absurd (omega arith)
      go (suc p) (suc q) p0 pn q0 qn c d h =
          let e = rest_other 1 (suc p) c in
          let f = rest_other 2 (suc q) d in
          let m : (at b (suc p)).level ≤ (at b (suc q)).level = rw (rest_at (suc p) e, rest_at (suc q) f) at h in
          let z = not_clear (at b (suc p)) (at b (suc q)) (rest_stands 1 (suc p) c) (rest_stands 2 (suc q) d) m in
          all_not (λ i. all_up_to (pair i) n) n p pn (all_not (pair p) n q qn (rw (e, f) z))

  pub uncrossed_is : (n : ℕ) → n ≡ length b → apart (sides_of b w n) ≡ no_cross b w
  unfolding no_cross
  uncrossed_is n e =
      let x : (sides_of b w n).buy.level ≡ low n = ap (λ (c : Level). c.level) (sides_buy n) ∙ unfold standing low in refl in
      let y : (sides_of b w n).sell.level ≡ top n = ap (λ (c : Level). c.level) (sides_sell n) ∙ unfold standing top in refl in
      rw (x, y) (rw (← e)
      (split (eqb (low n) 0 || ltb (top n) (low n))
      (λ t. rw t (sym (all_from (λ i. all_up_to (pair i) n) n (λ i l. all_from (pair i) n (λ j m. pair_clear n i j l m t)))))
      (λ t. rw t (sym (crossed n t)))))

-- ---- with nothing in work they are the best levels of the book
module _ (b : Book) (high : (k : ℕ) → is_open (at b k) ≡ true → 0 < (at b k).level) where
  idle_high : (s k : ℕ) → stands s (at b k) ≡ true → 0 < (at b k).level
  unfolding stands
  idle_high s k t = high k (both_l _ _ t)

  pub best_buy : (sides_of b 0 (length b)).buy ≡ best_on b 1
  best_buy = sides_buy b 0 (omega arith) high (length b) ∙ unfold rest in best_standing b 1 (idle_high 1)

  pub best_sell : (sides_of b 0 (length b)).sell ≡ best_on b 2
  best_sell = sides_sell b 0 (omega arith) high (length b) ∙ unfold rest in best_standing b 2 (idle_high 2)

-- ---- no immediate order is open
with_done : (s : Sides) (o : Order) → (with_order s o).done ≡ (s.done && is_done o)
unfolding with_order is_done
with_done s o =
    split (is_open o)
    (λ x. split (is_immediate o) (λ y. rw (x, y)) (λ y. rw (x, y)))
    (λ x. split (is_immediate o) (λ y. rw (x, y) (sym (and-true _))) (λ y. rw (x, y) (sym (and-true _))))

pub sides_done : (b : Book) (w n : ℕ) → (sides_of b w n).done ≡ all_up_to (λ k. eqb (suc k) w || is_done (at b (suc k))) n
unfolding sides_of all_up_to
sides_done b w zero = refl
sides_done b w (suc n) =
    split (eqb (suc n) w)
    (λ e. rw e (sides_done b w n ∙ sym (and-true _)))
    (λ e. rw e (with_done (sides_of b w n) (at b (suc n)) ∙ ap (λ (x : Bool). x && is_done (at b (suc n))) (sides_done b w n)))

-- ---- what they come to fits
pub record Upto (n : ℕ) (c : Level) : Type 0 where
  pub total : c.total ≤ n * 4294967296
  pub orders : c.orders ≤ n

upto_more : {n : ℕ} {c : Level} → Upto n c → Upto (suc n) c
upto_more {n} {c} h = record { total = omega (arith, h.total); orders = omega (arith, h.orders) }

upto_open : (n s l x : ℕ) (c : Level) → x < 4294967296 → Upto n c → Upto (suc n) (with_open s c l x)
unfolding with_open
upto_open n s l x c small h =
    split (eqb c.level 0 || ahead (buys s) l c.level)
    (λ t. rw t (record { total = omega arith; orders = omega arith }))
    (λ t. split (eqb l c.level)
    (λ u. rw (t, u) (record { total = omega (arith, h.total); orders = omega (arith, h.orders) }))
    (λ u. rw (t, u) (upto_more h)))

module _ (b : Book) (w : ℕ) (small : (k : ℕ) → open_of (at b k) < 4294967296) where
  pub buy_upto : (n : ℕ) → Upto n (sides_of b w n).buy
  unfolding sides_of with_order
  buy_upto zero = record { total = omega arith; orders = omega arith }
  buy_upto (suc n) =
      split (eqb (suc n) w)
      (λ e. rw e (upto_more (buy_upto n)))
      (λ e. rw e
      (split (is_open (at b (suc n)))
      (λ x. rw x
      (split (is_buy (at b (suc n)))
      (λ y. rw y (upto_open n 1 _ _ _ (small (suc n)) (buy_upto n)))
      (λ y. rw y (upto_more (buy_upto n)))))
      (λ x. rw x (upto_more (buy_upto n)))))

  pub sell_upto : (n : ℕ) → Upto n (sides_of b w n).sell
  unfolding sides_of with_order
  sell_upto zero = record { total = omega arith; orders = omega arith }
  sell_upto (suc n) =
      split (eqb (suc n) w)
      (λ e. rw e (upto_more (sell_upto n)))
      (λ e. rw e
      (split (is_open (at b (suc n)))
      (λ x. rw x
      (split (is_buy (at b (suc n)))
      (λ y. rw y (upto_more (sell_upto n)))
      (λ y. rw y (upto_open n 2 _ _ _ (small (suc n)) (sell_upto n)))))
      (λ x. rw x (upto_more (sell_upto n)))))
