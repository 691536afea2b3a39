-- What each answer of the canonical readers rests on: the tests that led to it, and the definition's case.
use Prim.Native.Nat.{ℕ, ◌+◌, ◌-◌, ◌*◌, ◌^◌, ◌≤◌}
use mathlib.Core.Path.{◌≡◌, refl, sym, ap, ◌∙◌}
use mathlib.Core.List.{List}
use mathlib.Core.Bool.{true, false, not, ◌||◌, and-false}
use native.Mathlib.Omega.{arith}
use native.Mathlib.Nat.{pow-le-pow_right, mul-le-mul_right}
use lib.Dec.{eqb, lit<, lit≤}
use lib.ListN.{length, get_or, take, drop, get_or-eq_default}
use mir.Syntax.{w64}
use mir.Val.{Fits}
use borrow.Author.Tests.{eq-eqb, ne_eqb}
use Rattle.std.specs.Prelude.{Option, Some, None}
use Rattle.decimal.specs.declared.Instrument.{Instrument}
use Rattle.decimal.specs.declared.Instrument.TheVariants.{Bonds, Equities}
use Rattle.decimal.specs.Instruments.{decimals}
use Rattle.decimal.specs.Reading.{digit_run, number, num_of}
use Rattle.decimal.specs.Writing.{Scale}
use Rattle.decimal.specs.Canonical.{bare, bare_of, exactly_of, amount_of, below_zero, fixed_of, level_in, mean_in}
use Rattle.decimal.proofs.Scans.{rest_is, byte_within}
use Rattle.decimal.proofs.RoundTrip.{bare_small, exactly_small, amount_small}

-- ---- numbers without needless zero
module _ (m : ℕ) (s : List ℕ) (b : ℕ) (e : b ≡ get_or s 0 0) where
  pub bare_yes : (p : Option ℕ) → (eqb (length s) 1 || not (eqb b 48)) ≡ true → p ≡ num_of m s → p ≡ bare_of m s
  unfolding bare_of bare
  bare_yes p t q = rw (← e, t) q

  pub bare_no : (eqb (length s) 1 || not (eqb b 48)) ≡ false → None ≡ bare_of m s
  unfolding bare_of bare
  bare_no t = rw (← e, t)

-- ---- exactly k digits
module _ (k : ℕ) (s : List ℕ) where
  pub exactly_other : (length s ≡ k → ⊥) → None ≡ exactly_of k s
  unfolding exactly_of
  exactly_other h = simp (ne_eqb (length s) k h)

  pub exactly_not : (n : ℕ) → n ≡ digit_run s → (n ≡ k → ⊥) → None ≡ exactly_of k s
  unfolding exactly_of
  exactly_not n e h = simp (← e, ne_eqb n k h, and-false)

  pub exactly_yes : (n r : ℕ) → length s ≡ k → n ≡ digit_run s → n ≡ k → r ≡ number s → Some r ≡ exactly_of k s
  unfolding exactly_of
  exactly_yes n r l e h q = simp (← e, eq-eqb (length s) k l, eq-eqb n k h, q)

-- ---- amounts
module _ (most k : ℕ) (s : List ℕ) (w : ℕ) (e : w ≡ digit_run s) where
  pub amount_end : length s ≤ w → None ≡ amount_of most k s
  unfolding amount_of
  amount_end h = rw (← e, get_or-eq_default s 0 {n = w} h)

  pub amount_other : (get_or s w 0 ≡ 46 → ⊥) → None ≡ amount_of most k s
  unfolding amount_of
  amount_other h = rw (← e) (simp (ne_eqb (get_or s w 0) 46 h))

  module _ (h : get_or s w 0 ≡ 46) (p : Option ℕ) (pe : p ≡ bare_of most (take w s)) where
    pub amount_whole : p ≡ None → None ≡ amount_of most k s
    unfolding amount_of
    amount_whole pw = rw (← e) (simp (eq-eqb (get_or s w 0) 46 h, ← pe, pw))

    module _ (a : ℕ) (pa : p ≡ Some a) (q : Option ℕ) (qe : q ≡ exactly_of k (take (length s - (w + 1)) (drop (w + 1) s))) where
      part : q ≡ exactly_of k (drop (w + 1) s)
      part = qe ∙ ap (exactly_of k) (rest_is s (w + 1))

      pub amount_part : q ≡ None → None ≡ amount_of most k s
      unfolding amount_of
      amount_part qw = let z = part in rw (← e) (simp (eq-eqb (get_or s w 0) 46 h, ← pe, pa, ← z, qw))

      module _ (unit : ℕ) (scale : Scale k unit) (b : ℕ) (qb : q ≡ Some b) where
        pub amount_yes : Some (a * unit + b) ≡ amount_of most k s
        unfolding amount_of
        amount_yes = let z = part in let u : unit ≡ 10 ^ k = scale.unit_is in rw (← e) (simp (eq-eqb (get_or s w 0) 46 h, ← pe, pa, ← z, qb, u))

-- a whole part of at most eight digits and the decimals fit
module _ (most : ℕ) (few : most ≤ 8) (k : ℕ) (unit : ℕ) (scale : Scale k unit) (s t : List ℕ) (p : Option ℕ) (pe : p ≡ bare_of most s) (a : ℕ) (pa : p ≡ Some a) where
  whole_small : a * unit ≤ 100000000 * unit
  whole_small =
      let l = bare_small most s a (omega arith) (sym pe ∙ pa) in
      let m : 10 ^ most ≤ 100000000 = pow-le-pow_right {n = 10} (omega arith) few in
      mul-le-mul_right unit (omega (arith, l, m))

  pub whole_fits : Fits w64 (a * unit)
  whole_fits = record { fits = omega (arith, whole_small, scale.most) }

  pub part_fits : (q : Option ℕ) → q ≡ exactly_of k t → (b : ℕ) → q ≡ Some b → Fits w64 (a * unit + b)
  part_fits q qe b qb =
      let n = exactly_small k t b (sym qe ∙ qb) in
      record { fits = omega (arith, whole_small, scale.most, scale.unit_is) }

-- ---- numbers with k decimals
module _ (k unit : ℕ) (scale : Scale k unit) (s : List ℕ) (b : ℕ) (be : b ≡ get_or s 0 0) where
  module _ (h : b ≡ 45) where
    pub minus_some : 1 ≤ length s
    minus_some = byte_within s 0 44 (sym be ∙ h)

    module _ (p : Option ℕ) (pe : p ≡ amount_of 6 k (take (length s - 1) (drop 1 s))) where
      below : p ≡ amount_of 6 k (drop 1 s)
      below = pe ∙ ap (amount_of 6 k) (rest_is s 1)

      pub below_wrong : p ≡ None → None ≡ fixed_of Bonds k s
      unfolding fixed_of
      below_wrong pw = let z = below in rw (← be) (simp (eq-eqb b 45 h, ← z, pw))

      module _ (m : ℕ) (pm : p ≡ Some m) where
        pub below_none : m ≡ 0 → None ≡ fixed_of Bonds k s
        unfolding fixed_of
        below_none n = let z = below in rw (← be) (simp (eq-eqb b 45 h, ← z, pm, eq-eqb m 0 n))

        pub below_some : (m ≡ 0 → ⊥) → Some (unit * 1000000 - m) ≡ fixed_of Bonds k s
        unfolding fixed_of
        below_some n = let z = below in let u : unit ≡ 10 ^ k = scale.unit_is in rw (← be) (simp (eq-eqb b 45 h, ← z, pm, ne_eqb m 0 n, u))

        pub below_le : m ≤ unit * 1000000
        below_le = let l = amount_small 6 k (drop 1 s) m (omega arith) (sym below ∙ pm) in omega (arith, scale.unit_is)

    -- no price has a minus
    no_minus : (p : Option ℕ) → below_zero Equities k p ≡ None
    no_minus (Some m) = refl
    no_minus None = refl

    pub price_minus : None ≡ fixed_of Equities k s
    unfolding fixed_of
    price_minus = rw (← be, eq-eqb b 45 h) (sym (no_minus (amount_of 8 k (drop 1 s))))

  module _ (h : b ≡ 45 → ⊥) (p : Option ℕ) where
    module _ (pe : p ≡ amount_of 6 k s) where
      pub above_wrong : p ≡ None → None ≡ fixed_of Bonds k s
      unfolding fixed_of
      above_wrong pw = rw (← be) (simp (ne_eqb b 45 h, ← pe, pw))

      module _ (m : ℕ) (pm : p ≡ Some m) where
        pub above_some : Some (unit * 1000000 + m) ≡ fixed_of Bonds k s
        unfolding fixed_of
        above_some = let u : unit ≡ 10 ^ k = scale.unit_is in rw (← be) (simp (ne_eqb b 45 h, ← pe, pm, u))

        pub above_fits : Fits w64 (unit * 1000000 + m)
        above_fits = let l = amount_small 6 k s m (omega arith) (sym pe ∙ pm) in record { fits = omega (arith, scale.unit_is, scale.most) }

    module _ (pe : p ≡ amount_of 8 k s) where
      pub price_wrong : p ≡ None → None ≡ fixed_of Equities k s
      unfolding fixed_of
      price_wrong pw = rw (← be) (simp (ne_eqb b 45 h, ← pe, pw))

      module _ (m : ℕ) (pm : p ≡ Some m) where
        pub price_some : Some (unit * 100000000 - m) ≡ fixed_of Equities k s
        unfolding fixed_of
        price_some = let u : unit ≡ 10 ^ k = scale.unit_is in rw (← be) (simp (ne_eqb b 45 h, ← pe, pm, u))

        pub price_le : m ≤ unit * 100000000
        price_le = let l = amount_small 8 k s m (omega arith) (sym pe ∙ pm) in omega (arith, scale.unit_is)

-- ---- levels and means, by what is traded
module _ (q : Instrument) (k : ℕ) (s : List ℕ) (r : Option ℕ) where
  pub fixed_bonds : q ≡ Bonds → r ≡ fixed_of Bonds k s → r ≡ fixed_of q k s
  fixed_bonds e h = rw e h

  pub fixed_equities : q ≡ Equities → r ≡ fixed_of Equities k s → r ≡ fixed_of q k s
  fixed_equities e h = rw e h

  pub level_is_lem : k ≡ decimals q → r ≡ fixed_of q k s → r ≡ level_in q s
  unfolding level_in
  level_is_lem e h = h ∙ ap (λ (n : ℕ). fixed_of q n s) e

  pub mean_is : k ≡ decimals q → r ≡ fixed_of q (k + 3) s → r ≡ mean_in q s
  unfolding mean_in
  mean_is e h = h ∙ ap (λ (n : ℕ). fixed_of q (n + 3) s) e

-- the decimals of each, with their unit
decimals_scale : (q : Instrument) → Scale (decimals q) (10 ^ decimals q)
decimals_scale Bonds = record { unit_is = refl; some = lit< tt; most = lit≤ tt }
decimals_scale Equities = record { unit_is = refl; some = lit< tt; most = lit≤ tt }

mean_decimals_scale : (q : Instrument) → Scale (decimals q + 3) (10 ^ decimals q * 1000)
mean_decimals_scale Bonds = record { unit_is = refl; some = lit< tt; most = lit≤ tt }
mean_decimals_scale Equities = record { unit_is = refl; some = lit< tt; most = lit≤ tt }

module _ (q : Instrument) (k u : ℕ) (ke : k ≡ decimals q) (ue : u ≡ 10 ^ decimals q) where
  pub level_scale : Scale k u
  level_scale = rw (ke, ue) (decimals_scale q)

  pub mean_scale : Scale (k + 3) (u * 1000)
  mean_scale = rw (ke, ue) (mean_decimals_scale q)
