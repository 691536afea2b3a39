-- Trades by their 880: of each there are two or none, and the two of one 880 are not of one MPID. Reports one after the other are so if
-- those before some number and those from it on are.
use mathlib.Core.Path.{◌≡◌, refl, sym, ap, ◌∙◌}
use mathlib.Core.Bool.{Bool, true, false, ◌&&◌}
use mathlib.Core.List.{List, [], ◌∷◌, ◌++◌}
use Prim.Native.Nat.{ℕ, ◌+◌, ◌≤◌, ◌<◌}
use native.Mathlib.Omega.{arith}
use lib.Dec.{eqb, ltb}
use borrow.Author.Tests.{eqb-true, eq-eqb, ltb-true, ltb-false}
use Rattle.octets.proofs.Bools.{split}
use Rattle.report.specs.declared.Reading.{Reading}
use Rattle.readback.specs.Says.{says}
use Rattle.promises.specs.Tallies.{is_trade, is_trade_of, trades_of, are_self_trade, self_trades_with, self_trades}

-- ---- how many Trades have an 880
pub trades_append : (n : ℕ) (rs qs : List Reading) → trades_of n (rs ++ qs) ≡ trades_of n rs + trades_of n qs
unfolding trades_of
trades_append n [] qs = omega arith
trades_append n (r ∷ rs) qs = omega (arith, trades_append n rs qs)

-- one more where the first is such a Trade
trades_here : (n : ℕ) (r : Reading) (rs : List Reading) → is_trade_of n r ≡ true → trades_of n (r ∷ rs) ≡ 1 + trades_of n rs
unfolding trades_of
trades_here n r rs e = rw e

trades_more : (n : ℕ) (r : Reading) (rs : List Reading) → trades_of n rs ≤ trades_of n (r ∷ rs)
unfolding trades_of
trades_more n r rs = omega arith

-- a report that is no Trade has no part in it
pub no_trade_of : (n : ℕ) (r : Reading) → is_trade r.kind ≡ false → is_trade_of n r ≡ false
unfolding is_trade_of
no_trade_of n r e = rw e

-- a Trade has its own 880, and no other
pub trade_of : (n : ℕ) (r : Reading) → is_trade r.kind ≡ true → says 880 r ≡ n → is_trade_of n r ≡ true
unfolding is_trade_of
trade_of n r e h = rw (e, eq-eqb (says 880 r) n h)

pub trade_of_other : (n k : ℕ) (r : Reading) → says 880 r ≡ n → eqb n k ≡ false → is_trade_of k r ≡ false
unfolding is_trade_of
trade_of_other n k r h z = rw (h, z) (no (is_trade r.kind))
  where
    no : (b : Bool) → (b && false) ≡ false
    no true = refl
    no false = refl

-- ---- self-trades

-- r is in none with reports of which no Trade has its 880
alone : (r s : Reading) → (is_trade r.kind ≡ true → is_trade_of (says 880 r) s ≡ false) → are_self_trade r s ≡ false
unfolding are_self_trade
alone r s h = split (is_trade r.kind) (λ e. rw (e, h e)) (λ e. rw e)

with_none : (r : Reading) (qs : List Reading) → (is_trade r.kind ≡ true → trades_of (says 880 r) qs ≡ 0) → self_trades_with r qs ≡ 0
unfolding self_trades_with
with_none r [] h = refl
with_none r (s ∷ qs) h =
    let z : are_self_trade r s ≡ false =
    alone r s
    (λ e.
    split (is_trade_of (says 880 r) s)
    (λ t. absurd (omega (arith, h e, trades_here (says 880 r) s qs t)))
    (λ t. t)) in
    let w : self_trades_with r qs ≡ 0 = with_none r qs (λ e. omega (arith, h e, trades_more (says 880 r) s qs)) in
    rw z (omega (arith, w))

with_append : (r : Reading) (rs qs : List Reading) → self_trades_with r (rs ++ qs) ≡ self_trades_with r rs + self_trades_with r qs
unfolding self_trades_with
with_append r [] qs = omega arith
with_append r (s ∷ rs) qs = omega (arith, with_append r rs qs)

-- none between reports that have no 880 in common
pub self_append : (rs qs : List Reading) → ((n : ℕ) → 0 < trades_of n rs → trades_of n qs ≡ 0) → self_trades (rs ++ qs) ≡ self_trades rs + self_trades qs
unfolding self_trades
self_append [] qs h = omega arith
self_append (r ∷ rs) qs h =
    let z : self_trades_with r qs ≡ 0 =
    with_none r qs
    (λ e.
    let t : is_trade_of (says 880 r) r ≡ true = trade_of _ r e refl in
    h (says 880 r) (omega (arith, trades_here _ r rs t))) in
    let w : self_trades (rs ++ qs) ≡ self_trades rs + self_trades qs = self_append rs qs (λ n l. h n (omega (arith, trades_more n r rs))) in
    omega (arith, with_append r rs qs, z, w)

-- none without a Trade
self_none : (rs : List Reading) → ((n : ℕ) → trades_of n rs ≡ 0) → self_trades rs ≡ 0
unfolding self_trades
self_none [] h = refl
self_none (r ∷ rs) h =
    let rest : (n : ℕ) → trades_of n rs ≡ 0 = λ n. omega (arith, h n, trades_more n r rs) in
    omega (arith, with_none r rs (λ e. rest (says 880 r)), self_none rs rest)

-- ---- reports whose Trades have 880s from low on and below high
pub record Paired (low high : ℕ) (rs : List Reading) : Type 0 where
  pub rises : low ≤ high
  pub from : (n : ℕ) → 0 < trades_of n rs → low ≤ n
  pub below : (n : ℕ) → 0 < trades_of n rs → n < high
  pub twos : (n : ℕ) → 0 < trades_of n rs → trades_of n rs ≡ 2
  pub fair : self_trades rs ≡ 0

pub paired_none : (low high : ℕ) (rs : List Reading) → low ≤ high → ((n : ℕ) → trades_of n rs ≡ 0) → Paired low high rs
paired_none low high rs l h =
    record {
      rises = l;
      from = λ n p. absurd (omega (arith, h n));
      below = λ n p. absurd (omega (arith, h n));
      twos = λ n p. absurd (omega (arith, h n));
      fair = self_none rs h;
    }

-- one after the other
module _ (low mid high : ℕ) (rs qs : List Reading) (a : Paired low mid rs) (b : Paired mid high qs) where
  -- an 880 is of the one or of the other
  apart : (n : ℕ) → 0 < trades_of n rs → trades_of n qs ≡ 0
  apart n p =
      split (ltb 0 (trades_of n qs))
      (λ t. absurd (omega (arith, a.below n p, b.from n (ltb-true 0 (trades_of n qs) t))))
      (λ t. omega (arith, ltb-false 0 (trades_of n qs) t))

  either : {G : Type 0} (n : ℕ) → 0 < trades_of n (rs ++ qs) → (0 < trades_of n rs → trades_of n qs ≡ 0 → G) → (trades_of n rs ≡ 0 → 0 < trades_of n qs → G) → G
  either n p f g =
      split (ltb 0 (trades_of n rs))
      (λ t. let l = ltb-true 0 (trades_of n rs) t in f l (apart n l))
      (λ t.
      let z : trades_of n rs ≡ 0 = omega (arith, ltb-false 0 (trades_of n rs) t) in
      g z (omega (arith, trades_append n rs qs)))

  pub paired_then : Paired low high (rs ++ qs)
  paired_then =
      record {
        rises = omega (arith, a.rises, b.rises);
        from = λ n p. either n p (λ l z. a.from n l) (λ z l. omega (arith, a.rises, b.from n l));
        below = λ n p. either n p (λ l z. omega (arith, b.rises, a.below n l)) (λ z l. b.below n l);
        twos = λ n p.
            either n p (λ l z. omega (arith, trades_append n rs qs, a.twos n l)) (λ z l. omega (arith, trades_append n rs qs, b.twos n l));
        fair = omega (arith, self_append rs qs apart, a.fair, b.fair);
      }

-- the two Trades of number n
module _ (r s : Reading) (n : ℕ) (a : is_trade r.kind ≡ true) (b : is_trade s.kind ≡ true) (x : says 880 r ≡ n)
    (y : says 880 s ≡ n) (o : says 109 r ≡ says 109 s → says 109 r ≡ 0) where
  two_here : trades_of n (r ∷ s ∷ []) ≡ 2
  unfolding trades_of
  two_here = rw (trade_of n r a x, trade_of n s b y)

  two_there : (k : ℕ) → eqb n k ≡ false → trades_of k (r ∷ s ∷ []) ≡ 0
  unfolding trades_of
  two_there k z = rw (trade_of_other n k r x z, trade_of_other n k s y z)

  two_is : (k : ℕ) → 0 < trades_of k (r ∷ s ∷ []) → n ≡ k
  two_is k p =
      split (eqb n k)
      (λ z. eqb-true n k z)
      (λ z. absurd (omega (arith, two_there k z)))

  -- they do not bear one MPID
  two_fair : are_self_trade r s ≡ false
  unfolding are_self_trade
  two_fair =
      split (eqb (says 109 r) (says 109 s))
      (λ e.
      let z : eqb (says 109 r) 0 ≡ true = eq-eqb (says 109 r) 0 (o (eqb-true (says 109 r) (says 109 s) e)) in
      rw (a, trade_of (says 880 r) s b (y ∙ sym x), e, z))
      (λ e. rw (a, trade_of (says 880 r) s b (y ∙ sym x), e))

  pub paired_two : (high : ℕ) → n < high → Paired n high (r ∷ s ∷ [])
  unfolding self_trades self_trades_with
  paired_two high h =
      record {
        rises = omega arith;
        from = λ k p. omega (arith, two_is k p);
        below = λ k p. omega (arith, two_is k p);
        twos = λ k p. ap (λ (j : ℕ). trades_of j (r ∷ s ∷ [])) (sym (two_is k p)) ∙ two_here;
        fair = rw two_fair;
      }
