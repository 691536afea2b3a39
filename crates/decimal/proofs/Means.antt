-- AvgPx: a share is the nearest thousandth, halves up; dividing first and then the rest gives the same; a mean and its mirror
-- below zero round alike; the range of a mean.
use Prim.Native.Nat.{ℕ, ◌+◌, ◌-◌, ◌*◌, ◌/◌, ◌%◌, ◌≤◌, ◌<◌}
use mathlib.Core.Path.{◌≡◌, refl, ap, ◌∙◌}
use native.Mathlib.Omega.{arith}
use native.Mathlib.Decide.{dec_lt}
use native.Mathlib.Nat.{add-mul, div-add-mod', div-le_self, div-le_of_le-mul, mod-lt, mul-add-div_right, mul-add-mod_self_right, mul-le-mul_right}
use mir.Val.{Fits}
use mir.Syntax.{w64}
use borrow.Author.Tests.{eq-eqb, ne_eqb, lt-ltb, le-ltb}
use Rattle.decimal.specs.declared.Instrument.{Instrument}
use Rattle.decimal.specs.declared.Instrument.TheVariants.{Bonds, Equities}
use Rattle.decimal.specs.Instruments.{highest, highest_mean}
use Rattle.decimal.specs.Writing.{share_of, mean_of}

-- ---- nearest

-- q is n / e to the nearest, halves up: above it by at most a half, below it by less than a half (each times 2 e)
pub record Nearest (n e q : ℕ) : Type 0 where
  pub at_most_half_above : 2 * (q * e) ≤ 2 * n + e
  pub less_than_half_below : 2 * n < 2 * (q * e) + e

module _ (d e : ℕ) where
  pub share_down : 2 * (d * 1000 % e) < e → d * 1000 / e ≡ share_of d e
  unfolding share_of
  share_down l = simp (lt-ltb (2 * (d * 1000 % e)) e l)

  pub share_up : e ≤ 2 * (d * 1000 % e) → d * 1000 / e + 1 ≡ share_of d e
  unfolding share_of
  share_up l = simp (le-ltb (2 * (d * 1000 % e)) e l)

  -- what a share is, with no word of how it is worked out
  pub share_nearest : 0 < e → Nearest (d * 1000) e (share_of d e)
  share_nearest h =
      let parts = div-add-mod' (d * 1000) e in
      let rest = mod-lt (d * 1000) h in
      elim (dec_lt (2 * (d * 1000 % e)) e) [
        | yes p ↦ rw (← share_down p) (record { at_most_half_above = omega arith; less_than_half_below = omega arith })
        | no p ↦
            let more = add-mul (d * 1000 / e) 1 e in
            rw (← share_up (omega (arith, p))) (record { at_most_half_above = omega (arith, p); less_than_half_below = omega arith })
      ]

-- no other number is
nearest_least : (n e p q : ℕ) → Nearest n e p → Nearest n e q → p ≤ q
nearest_least n e p q a b =
    elim (dec_lt q p) [
      | no l ↦ omega (arith, l)
      | yes l ↦ let m : (q + 1) * e ≤ p * e = mul-le-mul_right e (omega (arith, l)) in omega (arith, add-mul q 1 e)
    ]

pub nearest_one : (n e p q : ℕ) → Nearest n e p → Nearest n e q → p ≡ q
nearest_one n e p q a b = omega (arith, nearest_least n e p q a b, nearest_least n e q p b a)

-- what is shared sets the bound of a share
pub share_most : (d e m : ℕ) → 0 < e → d * 1000 ≤ m * e → share_of d e ≤ m
share_most d e m h l =
    let near = share_nearest d e h in
    elim (dec_lt m (share_of d e)) [
      | no p ↦ omega (arith, p)
      | yes p ↦ let k : (m + 1) * e ≤ share_of d e * e = mul-le-mul_right e (omega (arith, p)) in omega (arith, add-mul m 1 e)
    ]

-- ---- by the whole part and the rest, so that nothing is larger than it need be
module _ (d e : ℕ) (some : 0 < e) where
  in_parts : d * 1000 ≡ d / e * 1000 * e + d % e * 1000
  in_parts = omega (arith, ap (λ (k : ℕ). k * 1000) (div-add-mod' d e))

  cut_parts : d * 1000 / e ≡ d / e * 1000 + d % e * 1000 / e
  cut_parts = ap (λ (k : ℕ). k / e) in_parts ∙ mul-add-div_right some (d / e * 1000) (d % e * 1000)

  rest_parts : d * 1000 % e ≡ d % e * 1000 % e
  rest_parts = ap (λ (k : ℕ). k % e) in_parts ∙ mul-add-mod_self_right (d / e * 1000) e (d % e * 1000)

  pub parts_down : 2 * (d % e * 1000 % e) < e → d / e * 1000 + d % e * 1000 / e ≡ share_of d e
  parts_down l = rw (← cut_parts) (share_down d e (rw rest_parts l))

  pub parts_up : e ≤ 2 * (d % e * 1000 % e) → d / e * 1000 + d % e * 1000 / e + 1 ≡ share_of d e
  parts_up l = rw (← cut_parts) (share_up d e (rw rest_parts l))

  -- a share of at most a thousand million each is at most 1,000,000,000,000 thousandths
  pub share_size : (r : ℕ) → d ≤ e * 1000000000 → r ≡ share_of d e → r ≤ 1000000000000
  share_size r l q = rw q (share_most d e 1000000000000 some (omega arith))

  -- the parts are small
  module _ (few : e < 1000000000) (l : d ≤ e * 1000000000) where
    whole_small : d / e ≤ 1000000000
    whole_small = div-le_of_le-mul e l

    pub rest_fits : Fits w64 (d % e * 1000)
    rest_fits = record { fits = omega (arith, mod-lt d some) }

    pub whole_fits : Fits w64 (d / e * 1000)
    whole_fits = record { fits = omega (arith, whole_small) }

    pub cut_fits : Fits w64 (d / e * 1000 + d % e * 1000 / e)
    cut_fits = record { fits = omega (arith, whole_small, mod-lt d some, div-le_self (d % e * 1000) e) }

    pub next_fits : Fits w64 (d / e * 1000 + d % e * 1000 / e + 1)
    next_fits = record { fits = omega (arith, whole_small, mod-lt d some, div-le_self (d % e * 1000) e) }

    pub twice_fits : Fits w64 (2 * (d % e * 1000 % e))
    twice_fits = record { fits = omega (arith, mod-lt (d % e * 1000) some) }

-- ---- the mean
module _ (sum e : ℕ) where
  pub mean_none : e ≡ 0 → 1000000000000 ≡ mean_of sum e
  unfolding mean_of
  mean_none h = simp (eq-eqb e 0 h)

  pub mean_below : (r : ℕ) → (e ≡ 0 → ⊥) → sum < e * 1000000000 → r ≡ share_of (e * 1000000000 - sum) e → 1000000000000 - r ≡ mean_of sum e
  unfolding mean_of
  mean_below r h l q = simp (ne_eqb e 0 h, lt-ltb sum (e * 1000000000) l, q)

  pub mean_above : (r : ℕ) → (e ≡ 0 → ⊥) → e * 1000000000 ≤ sum → r ≡ share_of (sum - e * 1000000000) e → 1000000000000 + r ≡ mean_of sum e
  unfolding mean_of
  mean_above r h l q = simp (ne_eqb e 0 h, le-ltb sum (e * 1000000000) l, q)

-- the mean of yields with their signs turned round is the mean with its sign turned round
module _ (sum e : ℕ) (some : 0 < e) where
  mirror_below : sum < e * 1000000000 → mean_of (e * 2000000000 - sum) e + mean_of sum e ≡ 2000000000000
  mirror_below l =
      let same : e * 2000000000 - sum - e * 1000000000 ≡ e * 1000000000 - sum = omega arith in
      let most = share_most (e * 1000000000 - sum) e 1000000000000 some (omega arith) in
      let above = mean_above (e * 2000000000 - sum) e (share_of (e * 1000000000 - sum) e) (λ z. omega arith) (omega arith) (rw same) in
      let below = mean_below sum e _ (λ z. omega arith) l refl in
      omega arith

  mirror_above : e * 1000000000 < sum → sum ≤ e * 2000000000 → mean_of (e * 2000000000 - sum) e + mean_of sum e ≡ 2000000000000
  mirror_above l h =
      let same : e * 1000000000 - (e * 2000000000 - sum) ≡ sum - e * 1000000000 = omega arith in
      let most = share_most (sum - e * 1000000000) e 1000000000000 some (omega arith) in
      let above = mean_above sum e _ (λ z. omega arith) (omega arith) refl in
      let below = mean_below (e * 2000000000 - sum) e (share_of (sum - e * 1000000000) e) (λ z. omega arith) (omega arith) (rw same) in
      omega arith

  mirror_zero : sum ≡ e * 1000000000 → mean_of (e * 2000000000 - sum) e + mean_of sum e ≡ 2000000000000
  mirror_zero q =
      let most = share_most (sum - e * 1000000000) e 0 some (omega arith) in
      let same : e * 2000000000 - sum ≡ sum = omega arith in
      let here = mean_above sum e _ (λ z. omega arith) (omega arith) refl in
      rw same (omega arith)

pub mean_mirror : (sum e : ℕ) → sum ≤ e * 2000000000 → mean_of (e * 2000000000 - sum) e + mean_of sum e ≡ 2000000000000
mean_mirror sum e h =
    elim (dec_lt 0 e) [
      | no p ↦ omega (arith, p, mean_none (e * 2000000000 - sum) e (omega (arith, p)), mean_none sum e (omega (arith, p)))
      | yes p ↦
          elim (dec_lt sum (e * 1000000000)) [
            | yes q ↦ mirror_below sum e p q
            | no q ↦
                elim (dec_lt (e * 1000000000) sum) [
                  | yes r ↦ mirror_above sum e p r h
                  | no r ↦ mirror_zero sum e p (omega (arith, q, r))
                ]
          ]
    ]

-- levels from 1 to the highest have a mean from 1 to the highest: yields of at most 999999.999 in size one of at most that size, and
-- prices of at most 99999999.9 one that is not below zero and at most that
module _ (sum e : ℕ) (some : 0 < e) where
  mean_low : e ≤ sum → sum < e * 1000000000 → (0 < mean_of sum e) × (mean_of sum e ≤ 1000000000000)
  mean_low l h =
      let m = mean_below sum e _ (λ z. omega arith) h refl in
      omega (arith, m, share_most (e * 1000000000 - sum) e 999999999000 some (omega (arith, l)))

  mean_high : (most : ℕ) → e * 1000000000 ≤ sum → sum ≤ e * 1000000000 + e * most → (0 < mean_of sum e) × (mean_of sum e ≤ 1000000000000 + most * 1000)
  mean_high most l h =
      let m = mean_above sum e _ (λ z. omega arith) l refl in
      let t : (sum - e * 1000000000) * 1000 ≤ most * 1000 * e = omega (arith, h) in
      omega (arith, m, share_most (sum - e * 1000000000) e (most * 1000) some t)

pub mean_range : (q : Instrument) (sum e : ℕ) → e ≤ sum → sum ≤ e * highest q → (0 < mean_of sum e) × (mean_of sum e ≤ highest_mean q)
mean_range Bonds sum e l h =
    elim (dec_lt 0 e) [
      | no p ↦ omega (arith, mean_none sum e (omega (arith, p)))
      | yes p ↦
          elim (dec_lt sum (e * 1000000000)) [
            | yes r ↦ omega (arith, mean_low sum e p l r)
            | no r ↦ omega (arith, mean_high sum e p 999999999 (omega (arith, r)) (omega (arith, h)))
          ]
    ]
mean_range Equities sum e l h =
    elim (dec_lt 0 e) [
      | no p ↦ omega (arith, mean_none sum e (omega (arith, p)))
      | yes p ↦
          elim (dec_lt sum (e * 1000000000)) [
            | yes r ↦ omega (arith, mean_low sum e p l r)
            | no r ↦ omega (arith, mean_high sum e p 0 (omega (arith, r)) (omega (arith, h)))
          ]
    ]
