-- What a value of each shape says, test by test.
use Rattle.std.specs.Prelude.{Option, Some, None, Ok, Err, ok_or}
use Rattle.std.specs.List.{list_any}
use Prim.Native.Nat.{ℕ, ◌-◌}
use mathlib.Core.Path.{◌≡◌, refl, sym, ◌∙◌}
use mathlib.Core.List.{List, [], ◌∷◌}
use mathlib.Core.Bool.{Bool, true, false, not, ◌&&◌}
use lib.Dec.{leb, eqb}
use lib.ListN.{length, get_or}
use borrow.Author.Tests.{eq-eqb, ne_eqb, eqb-true, eqb-false, not-true, not-false}
use Rattle.octets.proofs.Bools.{split}
use Rattle.octets.specs.Characters.{bytes}
use Rattle.decimal.specs.declared.Instrument.{Instrument}
use Rattle.decimal.specs.declared.Instrument.TheVariants.{Bonds, Equities}
use Rattle.decimal.specs.Reading.{is_digit, num_of, level_of, time_shaped, time_ranged}
use Rattle.request.specs.declared.Reason.TheVariants.{UndefinedTag, ValueIncorrect, IncorrectDataFormat}
use Rattle.request.specs.Session.{Judged, one_of, Text, Digits, Amount, Quote, Time, Among, code_shape, side_shape, cash_shape, margin_shape, char_says, look_as}

module _ (at n : ℕ) (v : List ℕ) where
  pub text_is : (leb 1 (length v) && leb (length v) n) ≡ true → Ok at ≡ look_as at (Text n) v
  unfolding look_as
  text_is h = rw h

  pub text_not : (leb 1 (length v) && leb (length v) n) ≡ false → Err IncorrectDataFormat ≡ look_as at (Text n) v
  unfolding look_as
  text_not h = rw h

  module _ (x : Option ℕ) (e : x ≡ num_of n v) where
    pub digits_is : (m : ℕ) → x ≡ Some m → Ok at ≡ look_as at (Digits n) v
    unfolding look_as
    digits_is m g = rw (← e, g)

    pub digits_not : x ≡ None → Err IncorrectDataFormat ≡ look_as at (Digits n) v
    unfolding look_as
    digits_not g = rw (← e, g)

    pub amount_zero : (m : ℕ) → x ≡ Some m → m ≡ 0 → Err ValueIncorrect ≡ look_as at (Amount n) v
    unfolding look_as
    amount_zero m g h = rw (← e, g) (simp h)

    pub amount_is : (m : ℕ) → x ≡ Some m → (m ≡ 0 → ⊥) → Ok m ≡ look_as at (Amount n) v
    unfolding look_as
    amount_is m g h = rw (← e, g) (simp (ne_eqb m 0 h))

    pub amount_not : x ≡ None → Err IncorrectDataFormat ≡ look_as at (Amount n) v
    unfolding look_as
    amount_not g = rw (← e, g)

module _ (at : ℕ) (v : List ℕ) where
  pub level_is_lem : (q : Instrument) (x : Option ℕ) (r : Judged) → x ≡ level_of q v → r ≡ ok_or x IncorrectDataFormat → r ≡ look_as at (Quote q) v
  unfolding look_as
  level_is_lem q x r e g = g ∙ rw e

  module _ (a : Bool) (ea : a ≡ time_shaped v) where
    pub time_misshapen : not a ≡ true → Err IncorrectDataFormat ≡ look_as at Time v
    unfolding look_as
    time_misshapen h = rw (sym ea ∙ not-true a h)

    module _ (b : Bool) (eb : b ≡ time_ranged v) (h : not a ≡ false) where
      pub time_outside : not b ≡ true → Err ValueIncorrect ≡ look_as at Time v
      unfolding look_as
      time_outside g = rw (sym ea ∙ not-false a h, sym eb ∙ not-true b g)

      pub time_is : not b ≡ false → Ok at ≡ look_as at Time v
      unfolding look_as
      time_is g = rw (sym ea ∙ not-false a h, sym eb ∙ not-false b g)

  module _ (cs : List ℕ) where
    pub among_long : (length v ≡ 1 → ⊥) → Err IncorrectDataFormat ≡ look_as at (Among cs) v
    unfolding look_as
    among_long h = rw (ne_eqb (length v) 1 h)

    module _ (h : length v ≡ 1) (b : Bool) (e : b ≡ one_of (get_or v 0 0) cs) where
      pub among_outside : not b ≡ true → Err ValueIncorrect ≡ look_as at (Among cs) v
      unfolding look_as
      among_outside g = rw (eq-eqb (length v) 1 h, sym e ∙ not-true b g)

      pub among_is : (n : ℕ) → not b ≡ false → n ≡ char_says (get_or v 0 0) → Ok n ≡ look_as at (Among cs) v
      unfolding look_as
      among_is n g en = rw (eq-eqb (length v) 1 h, sym e ∙ not-false b g, en)

-- ---- the number that a character says
module _ (c : ℕ) (b : Bool) (e : b ≡ is_digit c) where
  pub char_digit : (n : ℕ) → b ≡ true → n ≡ c - 48 → n ≡ char_says c
  unfolding char_says
  char_digit n h en = en ∙ rw (sym e ∙ h)

  pub char_other : (n : ℕ) → b ≡ false → n ≡ c → n ≡ char_says c
  unfolding char_says
  char_other n h en = en ∙ rw (sym e ∙ h)

-- ---- one of a list, as `contains` says it
turned : (a b : ℕ) → eqb a b ≡ eqb b a
turned a b = split (eqb a b) (λ y. y ∙ sym (eq-eqb b a (sym (eqb-true a b y)))) (λ n. n ∙ sym (ne_eqb b a (λ e. eqb-false a b n (sym e))))

pub any_one : (c : ℕ) (cs : List ℕ) → list_any (λ y. eqb y c) cs ≡ one_of c cs
unfolding one_of
any_one c [] = refl
any_one c (d ∷ cs) = rw (turned d c, any_one c cs)

-- ---- shapes by what is traded
module _ (q : Instrument) (at : ℕ) (v : List ℕ) (r : Judged) where
  module _ (e : q ≡ Bonds) where
    pub code_bonds : r ≡ look_as at (Digits 9) v → r ≡ look_as at (code_shape q) v
    code_bonds h = rw e h

    pub side_bonds : r ≡ look_as at (Among (bytes "12")) v → r ≡ look_as at (side_shape q) v
    side_bonds h = rw e h

  module _ (e : q ≡ Equities) where
    pub code_equities : r ≡ look_as at (Text 9) v → r ≡ look_as at (code_shape q) v
    code_equities h = rw e h

    pub side_equities : r ≡ look_as at (Among (bytes "1256")) v → r ≡ look_as at (side_shape q) v
    side_equities h = rw e h

    pub cash_equities : r ≡ look_as at (Among (bytes "123")) v → r ≡ look_as at (cash_shape q) v
    cash_equities h = rw e h

    pub margin_equities : r ≡ look_as at (Among (bytes "12")) v → r ≡ look_as at (margin_shape q) v
    margin_equities h = rw e h

pub cash_none : (q : Instrument) (at : ℕ) (v : List ℕ) → q ≡ Bonds → Err UndefinedTag ≡ look_as at (cash_shape q) v
unfolding look_as
cash_none q at v e = rw e

pub margin_none : (q : Instrument) (at : ℕ) (v : List ℕ) → q ≡ Bonds → Err UndefinedTag ≡ look_as at (margin_shape q) v
unfolding look_as
margin_none q at v e = rw e
