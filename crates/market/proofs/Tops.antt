-- The laws of Top: its answers test by test in the order of the refusals, and on a market the answer of Depth for k = 0.
use mathlib.Core.Path.{◌≡◌, refl, sym, ap, ◌∙◌}
use mathlib.Core.Bool.{Bool, true, false, cond, not, ◌&&◌}
use mathlib.Core.List.{List}
use Prim.Native.Nat.{ℕ, ◌*◌, ◌≤◌, ◌<◌}
use native.Mathlib.Omega.{arith}
use lib.Dec.{eqb, leb}
use lib.ListN.{length, get_or}
use borrow.Author.Tests.{eqb-true, eqb-false, eq-eqb, ne_eqb, le-leb, lt-leb, lt-ltb, not-true, not-false}
use Rattle.std.specs.Prelude.{Option, None, Some, Result, Ok, Err}
use Rattle.octets.proofs.Bools.{split, both_i, both_l, both_r, or_r}
use Rattle.decimal.specs.declared.Instrument.{Instrument}
use Rattle.decimal.specs.Instruments.{highest}
use Rattle.refusals.specs.declared.Refusal.{Refusal}
use Rattle.refusals.specs.declared.Refusal.TheVariants.{NoMarket, InWork, BadSide}
use Rattle.matching.specs.declared.Level.{Level}
use Rattle.matching.specs.Matching.{buys}
use Rattle.matching.specs.Depth.{next, level_at, depth}
use Rattle.table.specs.Places.{table_bytes}
use Rattle.table.specs.Heading.{work_of, kind_number, instrument_of, decided_of}
use Rattle.table.specs.Orders.{filled, book_of}
use Rattle.table.specs.Best.{best_on, best_at, in_words}
use Rattle.table.specs.Market.{has_length, has_settings, has_next, has_stamp, has_work, has_decision, is_market, is_of, is_market_of}
use Rattle.table.specs.Facts.{Market}
use Rattle.table.proofs.Instruments.{of_instrument, of_market}
use Rattle.table.proofs.Facts.{market_facts}
use Rattle.table.proofs.Kept.{idle_decided, market_quoted}
use Rattle.table.proofs.Bests.{Ranged, none, some, Told, told_idle, told_busy, buy_told, sell_told, orders_gap, levels_gap, words_best}
use Rattle.market.specs.Depth.{is_side, depth_answer}
use Rattle.market.specs.Top.{is_none, is_best, has_levels, has_note, has_gaps, has_heading, top_answer}
use Rattle.market.proofs.LevelLaws.{next_highest}

-- ---- a level, by the tests that are made of its numbers

module _ (q : Instrument) (b : Level) (a : Bool) (e : a ≡ is_none b) where
  pub best_none : a ≡ true → true ≡ is_best q b
  unfolding is_best
  best_none h = rw (← e, h)

  pub best_many : a ≡ false → 255 < b.orders → false ≡ is_best q b
  unfolding is_best
  best_many h l = rw (← e, h, lt-leb b.orders 255 l)

  pub best_level : a ≡ false → b.orders ≤ 255 → (top : ℕ) → top ≡ highest q
      → (leb 1 b.orders && leb 1 b.level && leb b.level top && leb b.orders b.total && leb b.total (b.orders * 999999999)) ≡ is_best q b
  unfolding is_best
  best_level h l top y = rw (← e, h, le-leb b.orders 255 l, y)

-- the levels of both sides
module _ (q : Instrument) (t : List ℕ) (w : ℕ) (f : w ≡ work_of t) (buy sell : Level) (d : buy ≡ best_at t 1) (e : sell ≡ best_at t 2) (x y : Bool) where
  pub levels_idle : w ≡ 0 → x ≡ is_best q buy → y ≡ is_best q sell → (x && y) ≡ has_levels q t
  unfolding has_levels
  levels_idle z g h = rw (g, h, d, e, eq-eqb (work_of t) 0 (sym f ∙ z))

  pub levels_busy : (w ≡ 0 → ⊥) → x ≡ is_none buy → y ≡ is_none sell → (x && y) ≡ has_levels q t
  unfolding has_levels
  levels_busy z g h = rw (g, h, d, e, ne_eqb (work_of t) 0 (λ u. z (f ∙ u)))

-- ---- the heading

-- what the market trades, as it is noted
pub of_noted : (q : Instrument) (t : List ℕ) (n : ℕ) → n ≡ kind_number q → eqb (get_or t 55 0) n ≡ is_of q t
unfolding is_of
of_noted q t n e = rw e

module _ (q : Instrument) (t : List ℕ) (f : Bool) (p : f ≡ is_of q t) where
  -- the heading of another market
  pub heading_other : not f ≡ true → false ≡ has_heading q t
  unfolding has_heading
  heading_other h = rw (← p, not-true f h)

  module _ (h : not f ≡ false) where
    pub heading_of : q ≡ instrument_of t
    heading_of = sym (of_instrument q t (sym p ∙ not-false f h))

    -- each clause by its own test
    pub heading_is : (a b c d e g : Bool) → a ≡ has_settings t → b ≡ has_next t → c ≡ has_stamp t → d ≡ has_note t → e ≡ has_gaps t → g ≡ has_levels q t
        → (a && b && c && d && e && g) ≡ has_heading q t
    unfolding has_heading
    heading_is a b c d e g u v w x y z = rw (u, v, w, x, y, z, ← p, not-false f h)

-- ---- the answers

pub words_none : (b : Level) → b.orders ≡ 0 → None ≡ in_words b
unfolding in_words
words_none b z = rw (eq-eqb b.orders 0 z)

pub words_level : (b : Level) → (b.orders ≡ 0 → ⊥) → Some b ≡ in_words b
unfolding in_words
words_level b z = rw (ne_eqb b.orders 0 z)

-- of both best levels, that of a side
module _ (t : List ℕ) (side : ℕ) where
  same_buys : buys side ≡ true → best_at t 1 ≡ best_at t side
  unfolding best_at
  same_buys e = rw e

  same_sells : buys side ≡ false → best_at t 2 ≡ best_at t side
  unfolding best_at
  same_sells e = rw e

  pub side_picked : (buy sell b : Level) → buy ≡ best_at t 1 → sell ≡ best_at t 2 → b ≡ cond (buys side) buy sell → b ≡ best_at t side
  side_picked buy sell b d e h =
      split (buys side)
      (λ z. (rw z at h) ∙ d ∙ same_buys z)
      (λ z. (rw z at h) ∙ e ∙ same_sells z)

-- what Depth and Top ask of the work and of the side, before they answer x
abbrev pub asked : {A : Type 0} → List ℕ → ℕ → Result A Refusal → Result A Refusal
asked t side x = cond (not (eqb (work_of t) 0)) (Err InWork) (cond (not (is_side side)) (Err BadSide) x)

module _ (t : List ℕ) (side : ℕ) (r : Result (Unit {0}) Refusal) (p : r ≡ asked t side (Ok tt)) where
  pub asked_err : (e : Refusal) → r ≡ Err e → {A : Type 0} (x : Result A Refusal) → Err e ≡ asked t side x
  asked_err e q x =
      split (eqb (work_of t) 0)
      (λ w.
      split (is_side side)
      (λ s. let n : Err e ≡ Ok tt = sym q ∙ (rw (w, s) at p) in cc)
      (λ s. let n : Err e ≡ Err BadSide = sym q ∙ (rw (w, s) at p) in let z : e ≡ BadSide = cc in rw (w, s) (ap Err z)))
      (λ w. let n : Err e ≡ Err InWork = sym q ∙ (rw w at p) in let z : e ≡ InWork = cc in rw w (ap Err z))

  pub asked_idle : (u : Unit {0}) → r ≡ Ok u → eqb (work_of t) 0 ≡ true
  asked_idle u q = split (eqb (work_of t) 0) (λ w. w) (λ w. let n : Ok u ≡ Err InWork = sym q ∙ (rw w at p) in cc)

  pub asked_side : (u : Unit {0}) → r ≡ Ok u → is_side side ≡ true
  asked_side u q =
      split (is_side side)
      (λ s. s)
      (λ s. let n : Ok u ≡ Err BadSide = sym q ∙ (rw (asked_idle u q, s) at p) in cc)

  pub asked_ok : (u : Unit {0}) → r ≡ Ok u → {A : Type 0} (x : Result A Refusal) → x ≡ asked t side x
  asked_ok u q x = rw (asked_idle u q, asked_side u q)

module _ (i : Instrument) (t : List ℕ) (side : ℕ) where
  pub top_short : (length t ≡ table_bytes → ⊥) → Err NoMarket ≡ top_answer i t side
  unfolding top_answer has_length
  top_short h = rw (ne_eqb (length t) 32768 h)

  module _ (l : length t ≡ table_bytes) (f : Bool) (p : f ≡ has_heading i t) where
    pub top_wrong : not f ≡ true → Err NoMarket ≡ top_answer i t side
    unfolding top_answer has_length
    top_wrong h = rw (eq-eqb (length t) 32768 l, ← p, h)

    module _ (g : not f ≡ false) (r : Result (Unit {0}) Refusal) (q : r ≡ asked t side (Ok tt)) where
      top_asked : top_answer i t side ≡ asked t side (Ok (in_words (best_at t side)))
      unfolding top_answer has_length
      top_asked = rw (eq-eqb (length t) 32768 l, ← p, g)

      pub top_refused : (e : Refusal) → r ≡ Err e → Err e ≡ top_answer i t side
      top_refused e h = rw top_asked (asked_err t side r q e h _)

      pub top_found : (u : Unit {0}) → r ≡ Ok u → (b : Level) → b ≡ best_at t side → (d : Option Level) → d ≡ in_words b → Ok d ≡ top_answer i t side
      top_found u h b x d y = rw (top_asked, y, x) (asked_ok t side r q u h _)

-- ---- on a market

-- a level in its ranges is one that the heading may keep
ranged_best : (q : Instrument) (b : Level) → b.level ≤ highest q → Ranged b → is_best q b ≡ true
unfolding is_best is_none
ranged_best q b h (none x y z) = rw (x, y, z)
ranged_best q b h (some x y z u v w) =
    rw (ne_eqb b.level 0 (λ e. omega arith))
    (both_i (both_i (both_i (both_i (both_i (le-leb _ _ u) (le-leb _ _ z)) (le-leb _ _ x)) (le-leb _ _ h)) (le-leb _ _ v)) (le-leb _ _ w))

-- the best level of a side is none, or at most the market's highest
best_highest : (t : List ℕ) (s : ℕ) → Market t → (best_on (book_of t) s).level ≤ highest (instrument_of t)
unfolding best_on depth level_at
best_highest t s m =
    let b = book_of t in
    split (eqb (next b s 0 (length b)) 0)
    (λ e. rw e (omega arith))
    (λ e. rw e (next_highest (instrument_of t) b s (market_quoted t m) 0 (length b) (omega arith)))

module _ (q : Instrument) (t : List ℕ) (m : Market t) (of : is_of q t ≡ true) where
  market_next : has_next t ≡ true
  unfolding has_next
  market_next = both_i (le-leb _ _ m.next_low) (le-leb _ _ m.held.next_high)

  market_stamp : has_stamp t ≡ true
  unfolding has_work
  market_stamp = both_r (leb (work_of t) (filled t)) (has_stamp t) m.work

  market_note : has_note t ≡ true
  unfolding has_note has_decision
  market_note =
      split (eqb (decided_of t) 0)
      (λ e. rw e)
      (λ e.
      let d = or_r (eqb (decided_of t) 0) _ m.decision e in
      rw e
      (both_i (both_l (eqb (decided_of t) 1) _ d)
      (split (eqb (work_of t) 0)
      (λ z. absurd (eqb-false (decided_of t) 0 e (idle_decided t m (eqb-true (work_of t) 0 z))))
      (λ z. lt-ltb 0 (work_of t) (omega (arith, eqb-false (work_of t) 0 z))))))

  market_gaps : {buy sell : Level} → Told t buy sell → has_gaps t ≡ true
  unfolding has_gaps
  market_gaps k = both_i (orders_gap t _ _ k m.long) (levels_gap t _ _ k m.long)

  best_high : (s : ℕ) → (best_on (book_of t) s).level ≤ highest q
  best_high s = rw (of_instrument q t of) at (best_highest t s m)

  market_levels : (has_gaps t ≡ true) × (has_levels q t ≡ true)
  unfolding has_levels
  market_levels =
      split (eqb (work_of t) 0)
      (λ e.
      let k = told_idle t m (eqb-true (work_of t) 0 e) in
      (market_gaps k, rw (e, buy_told t _ _ k, sell_told t _ _ k) (both_i (ranged_best q _ (best_high 1) k.buy_ranged) (ranged_best q _ (best_high 2) k.sell_ranged))))
      (λ e.
      let k = told_busy t m (omega (arith, eqb-false (work_of t) 0 e)) in
      (market_gaps k, rw (e, buy_told t _ _ k, sell_told t _ _ k) none_both))
    where
      none_both : (is_none (record { level = 0; total = 0; orders = 0 }) && is_none (record { level = 0; total = 0; orders = 0 })) ≡ true
      none_both = unfold is_none in refl

  pub market_heading : has_heading q t ≡ true
  unfolding has_heading
  market_heading =
      both_i (both_i (both_i (both_i (both_i (both_i of m.settings) market_next) market_stamp) market_note) market_levels.0) market_levels.1

-- what the heading keeps of a side is what Depth tells of it
pub market_words : (t : List ℕ) → Market t → work_of t ≡ 0 → (side : ℕ) → is_side side ≡ true → in_words (best_at t side) ≡ depth (book_of t) side 0
market_words t m w side s =
    let k = told_idle t m w in
    split (eqb side 1)
    (λ e.
    let z = eqb-true side 1 e in
    rw (z, buy_told t _ _ k) (words_best t 1 m))
    (λ e.
    let z = eqb-true side 2 (or_r (eqb side 1) (eqb side 2) s e) in
    rw (z, sell_told t _ _ k) (words_best t 2 m))

-- so on a market the answer is that of Depth for the best level
market_of : (q : Instrument) (t : List ℕ) → is_market_of q t ≡ true → is_of q t ≡ true
unfolding is_market_of
market_of q t h = both_r (is_market t) (is_of q t) h

pub top_is_depth : (q : Instrument) (t : List ℕ) (side : ℕ) → is_market_of q t ≡ true → top_answer q t side ≡ depth_answer q t side 0
unfolding top_answer depth_answer has_length
top_is_depth q t side h =
    let m = market_facts t (of_market q t h) in
    rw (eq-eqb (length t) 32768 m.long, market_heading q t m (market_of q t h), h)
    (split (eqb (work_of t) 0)
    (λ w.
    rw w
    (split (is_side side)
    (λ s. rw s (ap Ok (market_words t m (eqb-true (work_of t) 0 w) side s)))
    (λ s. rw s)))
    (λ w. rw w))
