-- The answers of the calls, test by test in the order of the refusals.
use mathlib.Core.Path.{◌≡◌, refl, sym, ◌∙◌}
use mathlib.Core.Bool.{Bool, true, false, not}
use mathlib.Core.List.{List}
use Prim.Native.Nat.{ℕ}
use native.Mathlib.Omega.{arith}
use lib.ListN.{length}
use borrow.Author.Tests.{eqb-true}
use Rattle.decimal.specs.declared.Instrument.{Instrument}
use Rattle.refusals.specs.declared.Refusal.{Refusal}
use Rattle.refusals.specs.declared.Refusal.TheVariants.{NoMarket}
use Rattle.matching.specs.declared.Level.{Level}
use Rattle.matching.specs.Depth.{depth}
use Rattle.table.specs.Places.{table_bytes}
use Rattle.table.specs.Heading.{work_of}
use Rattle.table.specs.Orders.{book_of}
use Rattle.table.specs.Best.{in_words, best_at}
use Rattle.table.specs.Market.{is_market_of}
use Rattle.table.specs.Facts.{Market}
use Rattle.table.proofs.Instruments.{of_market}
use Rattle.table.proofs.Facts.{market_facts}
use Rattle.std.specs.Prelude.{Option, Result, Ok, Err}
use Rattle.octets.proofs.Bools.{split}
use Rattle.market.specs.Depth.{depth_answer}
use Rattle.market.proofs.Tops.{asked, asked_err, asked_idle, asked_side, asked_ok, market_words}

-- what the check of a market says
module _ (i : Instrument) (t : List ℕ) (f : Bool) (p : f ≡ is_market_of i t) where
  no_market : not f ≡ true → not (is_market_of i t) ≡ true
  no_market h = rw (← p) h

  some_market : not f ≡ false → not (is_market_of i t) ≡ false
  some_market h = rw (← p) h

  pub checked : not f ≡ false → Market t
  checked h = market_facts t (of_market i t (sym p ∙ yes f h))
    where
      yes : (b : Bool) → not b ≡ false → b ≡ true
      yes true e = refl
      yes false e = sym e

  pub checked_long : not f ≡ false → length t ≡ table_bytes
  checked_long h = (checked h).long

-- ---- Depth

module _ (i : Instrument) (t : List ℕ) (side k : ℕ) (f : Bool) (p : f ≡ is_market_of i t) where
  pub depth_none : not f ≡ true → Err NoMarket ≡ depth_answer i t side k
  unfolding depth_answer
  depth_none h = rw (no_market i t f p h)

  module _ (m : not f ≡ false) (r : Result (Unit {0}) Refusal) (q : r ≡ asked t side (Ok tt)) where
    depth_asked : depth_answer i t side k ≡ asked t side (Ok (depth (book_of t) side k))
    unfolding depth_answer
    depth_asked = rw (some_market i t f p m)

    pub depth_refused : (e : Refusal) → r ≡ Err e → Err e ≡ depth_answer i t side k
    depth_refused e h = rw depth_asked (asked_err t side r q e h _)

    pub depth_found : (u : Unit {0}) → r ≡ Ok u → (d : Option Level) → d ≡ depth (book_of t) side k → Ok d ≡ depth_answer i t side k
    depth_found u h d e = rw (depth_asked, e) (asked_ok t side r q u h _)

    -- the best level, as the heading keeps it
    pub depth_best : (u : Unit {0}) → r ≡ Ok u → k ≡ 0 → (b : Level) → b ≡ best_at t side → (d : Option Level) → d ≡ in_words b
        → Ok d ≡ depth_answer i t side k
    depth_best u h z b x d y =
        let idle : work_of t ≡ 0 = eqb-true (work_of t) 0 (asked_idle t side r q u h) in
        let found : in_words (best_at t side) ≡ depth (book_of t) side 0 =
        market_words t (checked i t f p m) idle side (asked_side t side r q u h) in
        depth_found u h d (rw (y, x, z) found)
