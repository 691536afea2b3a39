-- A level in range as a signed yield or price of 64 bits; and every level that Depth finds, or that top of book gives, is in range.
use mathlib.Core.Path.{◌≡◌, refl, ◌∙◌}
use mathlib.Core.Bool.{Bool, true, false, cond, not, ◌&&◌, ◌||◌}
use mathlib.Core.List.{List}
use Prim.Native.Nat.{ℕ, zero, suc, ◌≤◌, ◌-◌}
use native.Mathlib.Omega.{arith}
use lib.Dec.{eqb, ltb}
use borrow.Author.Tests.{eqb-true, leb-true, not-false}
use lib.IntN.{ℤ, pos, negsuc, sub_ℕ, ◌-ℤ◌}
use lib.ListN.{length}
use mir.Syntax.{w64}
use mir.Val.{SFits, to_z, of_z}
use mir.Facts.{to_z-of_z}
use Rattle.std.specs.Prelude.{Option, Some, None, Ok, Err}
use Rattle.octets.proofs.Bools.{split, both_l, both_r, or_r}
use Rattle.decimal.specs.declared.Instrument.{Instrument}
use Rattle.decimal.specs.declared.Instrument.TheVariants.{Bonds, Equities}
use Rattle.decimal.specs.Instruments.{highest}
use Rattle.refusals.specs.declared.Refusal.TheVariants.{NoMarket, InWork, BadSide}
use Rattle.matching.specs.declared.Level.{Level}
use Rattle.matching.specs.Matching.{Book, at, ahead, buys}
use Rattle.matching.specs.Held.{Sound, In}
use Rattle.matching.proofs.Quoting.{highest_most}
use Rattle.matching.specs.Depth.{stands, behind, nearer, next, level_at, depth}
use Rattle.table.specs.Heading.{work_of}
use Rattle.table.specs.Orders.{book_of}
use Rattle.table.specs.Best.{best_at, in_words}
use Rattle.table.specs.Market.{has_length, is_market_of}
use Rattle.table.specs.Facts.{Market}
use Rattle.table.proofs.Facts.{market_facts}
use Rattle.table.proofs.Instruments.{of_market}
use Rattle.market.specs.Depth.{DepthAnswer, is_side, depth_answer, level_is}
use Rattle.market.specs.Top.{is_none, is_best, has_levels, has_heading, top_answer}
use Rattle.kamurjesh.specs.Numbers.{level_in, signed_of, quote_of}

-- ---- the numbers

-- so much less than 1,000,000,000
less : (l : ℕ) → pos 1_000_000_000 -ℤ pos l ≡ sub_ℕ 1_000_000_000 l
less zero = refl
less (suc l) = refl

module _ (l : ℕ) (h : l ≤ 1_999_999_999) where
  pub level_fits : SFits w64 (pos l)
  level_fits = record { sfits = omega arith }

  same : to_z w64 l ≡ pos l
  same = to_z-of_z {w = w64} {z = pos l} level_fits

  above : (b : Bool) → SFits w64 (cond b (negsuc (1_000_000_000 - suc l)) (pos (l - 1_000_000_000)))
  above true = record { sfits = omega arith }
  above false = record { sfits = omega arith }

  below : (b : Bool) → SFits w64 (cond b (negsuc (l - 1_000_000_001)) (pos (1_000_000_000 - l)))
  below true = record { sfits = omega arith }
  below false = record { sfits = omega arith }

  -- a yield: 1,000,000,000 less
  pub yield_fits : SFits w64 (to_z w64 l -ℤ pos 1_000_000_000)
  yield_fits = rw same (above (ltb l 1_000_000_000))

  pub yield_is : to_z w64 (of_z w64 (to_z w64 l -ℤ pos 1_000_000_000)) ≡ signed_of Bonds l
  unfolding signed_of
  yield_is = to_z-of_z {w = w64} yield_fits ∙ rw same

  -- a price: less than 1,000,000,000 by so much
  pub price_fits : SFits w64 (pos 1_000_000_000 -ℤ to_z w64 l)
  price_fits = rw (same, less l) (below (ltb 1_000_000_000 l))

  pub price_is : to_z w64 (of_z w64 (pos 1_000_000_000 -ℤ to_z w64 l)) ≡ signed_of Equities l
  unfolding signed_of
  price_is = to_z-of_z {w = w64} price_fits ∙ rw (same, less l)

  -- either
  signed_fits : (q : Instrument) → SFits w64 (signed_of q l)
  unfolding signed_of
  signed_fits Bonds = above (ltb l 1_000_000_000)
  signed_fits Equities = below (ltb 1_000_000_000 l)

  signed_kept : (q : Instrument) (z : ℤ) → z ≡ signed_of q l → to_z w64 (of_z w64 z) ≡ signed_of q l
  signed_kept q z p = rw p (to_z-of_z {w = w64} {z = signed_of q l} (signed_fits q))

-- a yield or a price that is handed on as the bits of a signed number
pub handed : (q : Instrument) (d : Option Level) (z : ℤ) → level_is d ≤ 1_999_999_999 → z ≡ quote_of q d → to_z w64 (of_z w64 z) ≡ quote_of q d
unfolding quote_of
handed q (Some l) z h p = signed_kept l.level h q z p
handed q None z h p = rw p refl

-- ---- the levels

one_of : (b : Bool) (x y m : ℕ) → x ≤ m → y ≤ m → cond b x y ≤ m
one_of true x y m p q = p
one_of false x y m p q = q

module _ (b : Book) (s : ℕ) (sound : (k : ℕ) → In b k → Sound (at b k)) where
  next_low : (x n : ℕ) → n ≤ length b → next b s x n ≤ 1_999_999_999
  unfolding next nearer
  next_low x zero h = omega arith
  next_low x (suc n) h =
      one_of (stands s (at b (suc n)) && behind s x (at b (suc n)).level && (eqb (next b s x n) 0 || ahead (buys s) (at b (suc n)).level (next b s x n))) _ _ _ (sound (suc n) (record { low = omega arith; high = h })).level_high (next_low x n (omega arith))

  level_low : (k : ℕ) → level_at b s k ≤ 1_999_999_999
  unfolding level_at
  level_low zero = next_low 0 (length b) (omega arith)
  level_low (suc k) = one_of (eqb (level_at b s k) 0) _ _ _ (omega arith) (next_low (level_at b s k) (length b) (omega arith))

there : (e : Bool) (l : Level) (m : ℕ) → l.level ≤ m → level_is (cond e None (Some l)) ≤ m
there true l m h = omega arith
there false l m h = h

depth_low : (t : List ℕ) (side k : ℕ) → Market t → level_is (depth (book_of t) side k) ≤ 1_999_999_999
unfolding depth
depth_low t side k m = there (eqb (level_at (book_of t) side k) 0) _ _ (level_low (book_of t) side m.held.sound k)

chosen : (m w s : Bool) (d : Option Level) (most : ℕ) → (m ≡ true → w ≡ false → s ≡ false → level_is d ≤ most)
    → level_is (level_in (cond (not m) (Err NoMarket) (cond w (Err InWork) (cond s (Err BadSide) (Ok d))))) ≤ most
chosen true true s d most f = omega arith
chosen true false true d most f = omega arith
chosen true false false d most f = f refl refl refl
chosen false w s d most f = omega arith

answer_low : (q : Instrument) (t : List ℕ) (side k : ℕ) → level_is (level_in (depth_answer q t side k)) ≤ 1_999_999_999
unfolding depth_answer
answer_low q t side k =
    chosen (is_market_of q t) (not (eqb (work_of t) 0)) (not (is_side side)) _ _ (λ e w s. depth_low t side k (market_facts t (of_market q t e)))

pub found_low : (q : Instrument) (t : List ℕ) (side k : ℕ) (a : DepthAnswer) → a ≡ depth_answer q t side k → level_is (level_in a) ≤ 1_999_999_999
found_low q t side k a p = rw p (answer_low q t side k)

-- ---- the best level of a heading in its ranges

best_low : (q : Instrument) (b : Level) → is_best q b ≡ true → b.level ≤ 1_999_999_999
unfolding is_best is_none
best_low q b h =
    split (is_none b)
    (λ n. omega (arith, eqb-true b.level 0 (search both_l)))
    (λ n.
    let r = or_r (is_none b) _ h n in
    omega (arith, highest_most q, leb-true b.level (highest q) (search (both_l, both_r))))

words_low : (q : Instrument) (b : Level) → is_best q b ≡ true → level_is (in_words b) ≤ 1_999_999_999
unfolding in_words
words_low q b h = there (eqb b.orders 0) _ _ (best_low q b h)

heading_levels : (q : Instrument) (t : List ℕ) → has_heading q t ≡ true → has_levels q t ≡ true
unfolding has_heading
heading_levels q t h = search both_r

heading_low : (q : Instrument) (t : List ℕ) (side : ℕ) → has_heading q t ≡ true → eqb (work_of t) 0 ≡ true → is_side side ≡ true → level_is (in_words (best_at t side)) ≤ 1_999_999_999
unfolding has_levels
heading_low q t side h w s =
    let l : (is_best q (best_at t 1) && is_best q (best_at t 2)) ≡ true = rw w at (heading_levels q t h) in
    split (eqb side 1)
    (λ e. rw (eqb-true side 1 e) (words_low q (best_at t 1) (both_l (is_best q (best_at t 1)) (is_best q (best_at t 2)) l)))
    (λ e. rw (eqb-true side 2 (or_r (eqb side 1) (eqb side 2) s e)) (words_low q (best_at t 2) (both_r (is_best q (best_at t 1)) (is_best q (best_at t 2)) l)))

top_answer_low : (q : Instrument) (t : List ℕ) (side : ℕ) → level_is (level_in (top_answer q t side)) ≤ 1_999_999_999
unfolding top_answer
top_answer_low q t side =
    split (has_length t)
    (λ e. rw e (chosen (has_heading q t) (not (eqb (work_of t) 0)) (not (is_side side)) _ _ (λ h w s. heading_low q t side h (not-false _ w) (not-false _ s))))
    (λ e. rw e (omega arith))

pub top_low : (q : Instrument) (t : List ℕ) (side : ℕ) (a : DepthAnswer) → a ≡ top_answer q t side → level_is (level_in a) ≤ 1_999_999_999
top_low q t side a p = rw p (top_answer_low q t side)
