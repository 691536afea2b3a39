-- Fields against each other, case by case: when 110 and 8214 are refused, and what is known where nothing is.
use Rattle.std.specs.Prelude.{Option, Some, None}
use Prim.Native.Nat.{ℕ, ◌≤◌, ◌<◌}
use mathlib.Core.Path.{◌≡◌, refl, sym}
use mathlib.Core.List.{[], ◌∷◌}
use mathlib.Core.Bool.{Bool, true, false, ◌||◌, or-true}
use native.Mathlib.Nat.{suc-ne-zero}
use lib.Dec.{ltb, eqb}
use borrow.Author.Tests.{lt-ltb, ltb-false}
use Rattle.octets.proofs.Bools.{split, not_both, neither_l, neither_r}
use Rattle.decimal.specs.declared.Instrument.{Instrument}
use Rattle.decimal.specs.declared.Instrument.TheVariants.{Bonds, Equities}
use Rattle.request.specs.Session.{one_of, minimum_clashes, margin_clashes, first_clashing}

pub some_none : (t : ℕ) → ◌≡◌ {A = Option ℕ} (Some t) None → ⊥
some_none t e = let z : ◌≡◌ {A = ℕ} 0 1 = cc in suc-ne-zero 0 (sym z)

module _ (has : ℕ → Bool) (says : ℕ → ℕ) where
  none_by : (q : Instrument) → minimum_clashes has says ≡ false → has 8214 ≡ false → first_clashing q has says ≡ None
  unfolding first_clashing margin_clashes
  none_by Bonds n a = rw n
  none_by Equities n a = rw (n, a)

  alone_by : (q : Instrument) → minimum_clashes has says ≡ false → has 544 ≡ false → first_clashing q has says ≡ None
  unfolding first_clashing margin_clashes
  alone_by Bonds n a = rw n
  alone_by Equities n a = split (has 8214) (λ y. rw (n, y, a)) (λ d. rw (n, d))

  -- ---- a market of equities refuses 8214 beside 544=1, after 110
  pub margin_cash : minimum_clashes has says ≡ false → has 8214 ≡ true → has 544 ≡ true → says 544 ≡ 1 → first_clashing Equities has says ≡ Some 8214
  unfolding first_clashing margin_clashes
  margin_cash n margin cash e = rw (n, margin, cash, e)

  -- a market of bonds never does
  pub margin_bonds : minimum_clashes has says ≡ false → first_clashing Bonds has says ≡ None
  unfolding first_clashing margin_clashes
  margin_bonds n = rw n

  -- where nothing is refused, 8214 stands beside no 544=1
  pub margin_apart : first_clashing Equities has says ≡ None → has 8214 ≡ true → has 544 ≡ true → eqb (says 544) 1 ≡ false
  unfolding first_clashing margin_clashes
  margin_apart agrees margin cash =
      split (minimum_clashes has says)
      (λ y. absurd (some_none 110 (rw y at agrees)))
      (λ n. split (eqb (says 544) 1) (λ y. absurd (some_none 8214 (rw (n, margin, cash, y) at agrees))) (λ d. d))

module _ (q : Instrument) (has : ℕ → Bool) (says : ℕ → ℕ) where
  -- ---- refused: a minimum on a Day order, beside 59=4, or above 38
  module _ (minimum : has 110 ≡ true) where
    pub minimum_day : has 59 ≡ true → says 59 ≡ 0 → first_clashing q has says ≡ Some 110
    unfolding first_clashing minimum_clashes
    minimum_day tif e = rw (minimum, tif, e)

    pub minimum_kill : has 59 ≡ true → says 59 ≡ 4 → first_clashing q has says ≡ Some 110
    unfolding first_clashing minimum_clashes
    minimum_kill tif e = rw (minimum, tif, e)

    pub minimum_above : has 38 ≡ true → says 38 < says 110 → first_clashing q has says ≡ Some 110
    unfolding first_clashing minimum_clashes
    minimum_above quantity l = rw (minimum, quantity, lt-ltb (says 38) (says 110) l, or-true)

  -- ---- 110 is not refused: no minimum, or neither 59 nor 38 beside it
  pub minimum_none : has 110 ≡ false → minimum_clashes has says ≡ false
  unfolding minimum_clashes
  minimum_none n = rw n

  pub minimum_alone : has 59 ≡ false → has 38 ≡ false → minimum_clashes has says ≡ false
  unfolding minimum_clashes
  minimum_alone tif quantity = split (has 110) (λ y. rw (y, tif, quantity)) (λ n. rw n)

  -- ---- nor is anything refused without 8214, or without 544 beside it
  module _ (n : minimum_clashes has says ≡ false) where
    pub margin_none : has 8214 ≡ false → first_clashing q has says ≡ None
    margin_none a = none_by has says q n a

    pub margin_alone : has 544 ≡ false → first_clashing q has says ≡ None
    margin_alone a = alone_by has says q n a

  -- ---- where nothing is refused and a minimum stands beside 59 and 38: it goes with 59=3 and is not above 38
  module _ (agrees : first_clashing q has says ≡ None) where
    minimum_not : minimum_clashes has says ≡ false
    unfolding first_clashing
    minimum_not = split (minimum_clashes has says) (λ y. absurd (some_none 110 (rw y at agrees))) (λ n. n)

    module _ (minimum : has 110 ≡ true) (tif : has 59 ≡ true) (quantity : has 38 ≡ true) where
      apart : ((eqb (says 59) 0 || eqb (says 59) 4) || ltb (says 38) (says 110)) ≡ false
      unfolding minimum_clashes
      apart = rw (minimum, tif, quantity) at minimum_not

      pub minimum_below : says 110 ≤ says 38
      minimum_below = ltb-false (says 38) (says 110) (neither_r (eqb (says 59) 0 || eqb (says 59) 4) (ltb (says 38) (says 110)) apart)

      pub minimum_tif : one_of (says 59) (0 ∷ 3 ∷ 4 ∷ []) ≡ true → eqb (says 59) 3 ≡ true
      unfolding one_of
      minimum_tif h =
          let n = neither_l (eqb (says 59) 0 || eqb (says 59) 4) (ltb (says 38) (says 110)) apart in
          let a = neither_l (eqb (says 59) 0) (eqb (says 59) 4) n in
          let d = neither_r (eqb (says 59) 0) (eqb (says 59) 4) n in
          split (eqb (says 59) 3) (λ y. y) (λ c. absurd (not_both (rw (a, c, d) at h) refl))
