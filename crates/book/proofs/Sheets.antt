-- The sheet, test by test: the heading alone, or with the lines of both sides behind it.
use mathlib.Core.Path.{◌≡◌, refl, sym, ◌∙◌}
use mathlib.Core.Bool.{Bool, true, false, not}
use mathlib.Core.List.{List}
use Prim.Native.Nat.{ℕ, ◌+◌, ◌≤◌, ◌<◌}
use native.Mathlib.Omega.{arith}
use lib.ListN.{length}
use borrow.Author.Tests.{eq-eqb, ne_eqb}
use Rattle.octets.specs.Written.{Wrote}
use Rattle.octets.proofs.Runs.{then, wrote_length}
use Rattle.decimal.specs.declared.Instrument.{Instrument}
use Rattle.decimal.specs.declared.Instrument.TheVariants.{Bonds, Equities}
use Rattle.table.specs.Places.{table_bytes}
use Rattle.table.specs.Heading.{instrument_of, work_of}
use Rattle.table.specs.Orders.{book_of}
use Rattle.table.specs.Market.{is_market_of}
use Rattle.table.specs.Facts.{Market}
use Rattle.table.proofs.Same.{filled_few}
use Rattle.table.proofs.Books.{length_book}
use Rattle.table.proofs.Kept.{market_quoted}
use Rattle.table.proofs.Facts.{market_facts}
use Rattle.table.proofs.Instruments.{of_market, market_instrument}
use Rattle.book.specs.Sheet.{heading, side_lines, both_sides, sheet_of}
use Rattle.book.proofs.Lines.{lines_short}

-- the lines of a side of a market
pub side_short : (q : Instrument) (t : List ℕ) (s : ℕ) → Market t → instrument_of t ≡ q → s < 10 → length (side_lines q (book_of t) s) ≤ 8160
unfolding side_lines
side_short q t s m e h =
    let few : length (book_of t) ≤ 255 = omega (arith, length_book t, filled_few t) in
    omega (arith, few, lines_short q (book_of t) s m.held.sound (rw e at (market_quoted t m)) few h (length (book_of t)))

-- ---- one side after the other

module _ {q : Instrument} (t : List ℕ) {out after : List ℕ} {at at₂ : ℕ} (m : Market t) (e : instrument_of t ≡ q)
    (w : Wrote out at (side_lines q (book_of t) 1) at₂ after) where
  pub second_room : at + 16320 ≤ length out → at₂ + 8160 ≤ length after
  second_room h = omega (arith, h, w.place, wrote_length w, side_short q t 1 m e (omega arith))

  pub both_wrote : {at₃ : ℕ} {after₂ : List ℕ} → Wrote after at₂ (side_lines q (book_of t) 2) at₃ after₂ → Wrote out at (both_sides q (book_of t)) at₃ after₂
  unfolding both_sides
  both_wrote v = then w v

-- ---- the whole

pub heading_short : (q : Instrument) → length (heading q) ≡ 27
heading_short Bonds = refl
heading_short Equities = refl

-- the words of each market
module _ (q : Instrument) (out : List ℕ) (at place : ℕ) (after : List ℕ) where
  pub yield_heading : q ≡ Bonds → Wrote out at (heading Bonds) place after → Wrote out at (heading q) place after
  yield_heading e w = rw e w

  pub price_heading : q ≡ Equities → Wrote out at (heading Equities) place after → Wrote out at (heading q) place after
  price_heading e w = rw e w

-- what is_market_of says
module _ (q : Instrument) (t : List ℕ) (f : Bool) (p : f ≡ is_market_of q t) (h : not f ≡ false) where
  yes : (b : Bool) → not b ≡ false → b ≡ true
  yes true e = refl
  yes false e = sym e

  is : is_market_of q t ≡ true
  is = sym p ∙ yes f h

  pub sheet_market : Market t
  sheet_market = market_facts t (of_market q t is)

  pub sheet_long : length t ≡ table_bytes
  sheet_long = sheet_market.long

  pub sheet_kind : instrument_of t ≡ q
  sheet_kind = market_instrument q t is

module _ (q : Instrument) (t : List ℕ) {out after : List ℕ} {at : ℕ} (w : Wrote out 0 (heading q) at after) where
  pub sides_room : 16384 ≤ length out → at + 16320 ≤ length after
  sides_room h = omega (arith, h, w.place, wrote_length w, heading_short q)

  module _ (f : Bool) (p : f ≡ is_market_of q t) where
    pub sheet_none : not f ≡ true → Wrote out 0 (sheet_of q t) at after
    unfolding sheet_of
    sheet_none h = rw (sym p ∙ no f h) w
      where
        no : (b : Bool) → not b ≡ true → b ≡ false
        no true e = sym e
        no false e = refl

    module _ (h : not f ≡ false) (k : ℕ) (e : k ≡ work_of t) where
      pub sheet_busy : 0 < k → Wrote out 0 (sheet_of q t) at after
      unfolding sheet_of
      sheet_busy l = rw (is q t f p h, ← e, ne_eqb k 0 (λ z. omega arith)) w

      pub sheet_whole : k ≤ 0 → {at₂ : ℕ} {after₂ : List ℕ} → Wrote after at (both_sides q (book_of t)) at₂ after₂ → Wrote out 0 (sheet_of q t) at₂ after₂
      unfolding sheet_of
      sheet_whole l u = rw (is q t f p h, ← e, eq-eqb k 0 (omega arith)) (then w u)
