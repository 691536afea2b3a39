-- Levels of an equities market said in prices: which order goes before another, which meet, and that an uncrossed book is one whose buy
-- prices lie below its sell prices.
use mathlib.Core.Path.{◌≡◌, sym}
use mathlib.Core.Bool.{true, false}
use Prim.Native.Nat.{◌≤◌, ◌<◌}
use native.Mathlib.Omega.{arith}
use lib.Dec.{leb}
use borrow.Author.Tests.{ne_eqb, lt-ltb, le-leb, leb-true, leb-false, lt-leb}
use Rattle.octets.proofs.Bools.{split}
use Rattle.matching.specs.declared.Order.{Order}
use Rattle.matching.specs.Matching.{is_buy, meets, better}
use Rattle.promises.specs.Prices.{price_of}

module _ (o r : Order) where
  -- of two buys the higher price is better, of two sells the lower
  pub higher_first : is_buy o ≡ true → price_of r < price_of o → better o r ≡ true
  unfolding better
  higher_first b h = rw (ne_eqb o.level r.level (λ e. omega arith), b) (lt-ltb o.level r.level (omega arith))

  pub lower_first : is_buy o ≡ false → price_of o < price_of r → better o r ≡ true
  unfolding better
  lower_first b h = rw (ne_eqb o.level r.level (λ e. omega arith), b) (lt-ltb r.level o.level (omega arith))

  module _ (low : o.level ≤ 1_000_000_000) (high : r.level ≤ 1_000_000_000) where
    -- a buy meets a sell whose price is at most its own
    pub meets_price : is_buy o ≡ true → meets o r ≡ leb (price_of r) (price_of o)
    unfolding meets
    meets_price b =
        rw b
        (split (leb o.level r.level)
        (λ e. rw e (sym (le-leb (price_of r) (price_of o) (omega (arith, leb-true o.level r.level e)))))
        (λ e. rw e (sym (lt-leb (price_of r) (price_of o) (omega (arith, leb-false o.level r.level e))))))

    -- a level above another is a price below it
    pub price_below : r.level < o.level → price_of o < price_of r
    price_below h = omega arith
