-- What a market trades: how the heading tells it, that a market is one of bonds or one of equities, and what its marks are.
use mathlib.Core.Path.{◌≡◌, refl, sym, ◌∙◌}
use mathlib.Core.Bool.{true, ◌&&◌}
use mathlib.Core.List.{List}
use Prim.Native.Nat.{ℕ, ◌+◌, ◌≤◌, ◌<◌}
use native.Mathlib.Omega.{arith}
use lib.Dec.{eqb, leb}
use lib.ListN.{length, get_or}
use borrow.Author.Tests.{leb-true, eqb-true, eqb-false, eq-eqb, ne_eqb}
use Rattle.octets.specs.Characters.{byte}
use Rattle.octets.specs.Octets.{put}
use Rattle.octets.proofs.Bools.{split, both_i, both_l, both_r, or_r}
use Rattle.decimal.specs.declared.Instrument.{Instrument}
use Rattle.decimal.specs.declared.Instrument.TheVariants.{Bonds, Equities}
use Rattle.table.specs.declared.record.Marks.{Marks}
use Rattle.table.specs.Heading.{kind_number, instrument_of}
use Rattle.table.specs.Market.{is_capacity, is_class, is_cash, is_marked, has_kind, is_market, is_of, is_market_of}
use Rattle.table.specs.Facts.{InBytes}
use Rattle.table.proofs.Same.{put_below, put_above, instrument_same}

-- ---- how it is told

-- by the number that is noted
pub kind_bonds : (t : List ℕ) → get_or t 55 0 ≡ 0 → instrument_of t ≡ Bonds
unfolding instrument_of
kind_bonds t e = rw (eq-eqb (get_or t 55 0) 0 e)

pub kind_equities : (t : List ℕ) → (get_or t 55 0 ≡ 0 → ⊥) → instrument_of t ≡ Equities
unfolding instrument_of
kind_equities t n = rw (ne_eqb (get_or t 55 0) 0 n)

pub bonds_read : (t : List ℕ) (x : ℕ) → x ≡ get_or t 55 0 → x ≡ 0 → Bonds ≡ instrument_of t
bonds_read t x e z = sym (kind_bonds t (sym e ∙ z))

pub equities_read : (t : List ℕ) (x : ℕ) → x ≡ get_or t 55 0 → (x ≡ 0 → ⊥) → Equities ≡ instrument_of t
equities_read t x e n = sym (kind_equities t (λ z. n (e ∙ z)))

pub kind_noted : (q : Instrument) (t : List ℕ) → get_or t 55 0 ≡ kind_number q → instrument_of t ≡ q
kind_noted Bonds t e = kind_bonds t e
kind_noted Equities t e = kind_equities t (λ z. omega arith)

kind_small : (q : Instrument) → leb (kind_number q) 1 ≡ true
kind_small Bonds = refl
kind_small Equities = refl

pub noted_kind : (q : Instrument) (t : List ℕ) → get_or t 55 0 ≡ kind_number q → has_kind t ≡ true
unfolding has_kind
noted_kind q t e = rw e (kind_small q)

-- ---- one of bonds or one of equities

of_noted : (q : Instrument) (t : List ℕ) → is_of q t ≡ true → get_or t 55 0 ≡ kind_number q
unfolding is_of
of_noted q t h = eqb-true _ _ h

noted_of : (q : Instrument) (t : List ℕ) → get_or t 55 0 ≡ kind_number q → is_of q t ≡ true
unfolding is_of
noted_of q t e = eq-eqb _ _ e

pub of_instrument : (q : Instrument) (t : List ℕ) → is_of q t ≡ true → instrument_of t ≡ q
of_instrument q t h = kind_noted q t (of_noted q t h)

-- each market is of what its heading tells
pub own_instrument : (t : List ℕ) → has_kind t ≡ true → is_of (instrument_of t) t ≡ true
unfolding has_kind
own_instrument t h =
    split (eqb (get_or t 55 0) 0)
    (λ e. let z = eqb-true (get_or t 55 0) 0 e in rw (kind_bonds t z) (noted_of Bonds t z))
    (λ e. let n = eqb-false (get_or t 55 0) 0 e in
    let z : get_or t 55 0 ≡ 1 = omega (arith, leb-true (get_or t 55 0) 1 h) in
    rw (kind_equities t n) (noted_of Equities t z))

module _ (q : Instrument) (t : List ℕ) where
  pub of_market : is_market_of q t ≡ true → is_market t ≡ true
  unfolding is_market_of
  of_market h = both_l _ _ h

  pub market_instrument : is_market_of q t ≡ true → instrument_of t ≡ q
  unfolding is_market_of
  market_instrument h = of_instrument q t (both_r (is_market t) _ h)

  pub instrument_market : is_market t ≡ true → has_kind t ≡ true → instrument_of t ≡ q → is_market_of q t ≡ true
  unfolding is_market_of
  instrument_market m h e = both_i m (rw e at (own_instrument t h))

-- ---- it is kept by a store elsewhere

pub instrument_below : (t : List ℕ) (i : ℕ) (vs : List ℕ) → 56 ≤ i → instrument_of (put t i vs) ≡ instrument_of t
instrument_below t i vs h = instrument_same (put_below t i vs 55 56 h)

pub instrument_above : (t : List ℕ) (i : ℕ) (vs : List ℕ) → i + length vs ≤ 55 → instrument_of (put t i vs) ≡ instrument_of t
instrument_above t i vs h = instrument_same (put_above t i vs 55 56 h)

-- ---- marks

capacity_small : (c : ℕ) → is_capacity c ≡ true → c < 256
unfolding is_capacity
capacity_small c h =
    split (eqb c (byte "A"))
    (λ e. omega (arith, eqb-true c 65 e))
    (λ e. omega (arith, eqb-true c 80 (or_r (eqb c 65) _ h e)))

class_small : (c : ℕ) → is_class c ≡ true → c < 256
unfolding is_class
class_small c h =
    split (eqb c 1)
    (λ e. omega (arith, eqb-true c 1 e))
    (λ e. omega (arith, leb-true c 6 (both_r (leb 3 c) _ (or_r (eqb c 1) _ h e))))

-- CashMargin is at most 3 and MarginTransactionType at most 2
pub cash_small : (q : Instrument) (cash margin : ℕ) → is_cash q cash margin ≡ true → (cash ≤ 3) × (margin ≤ 2)
unfolding is_cash
cash_small Bonds cash margin h = (omega (arith, eqb-true cash 0 (both_l _ _ h)), omega (arith, eqb-true margin 0 (both_r (eqb cash 0) _ h)))
cash_small Equities cash margin h = (leb-true cash 3 (search (both_l, both_r)), leb-true margin 2 (search (both_l, both_r)))

-- good marks fit their bytes
pub marked_bytes : (q : Instrument) (marks : Marks) → is_marked q marks ≡ true → InBytes marks
unfolding is_marked
marked_bytes q marks h =
    let c = cash_small q marks.cash marks.margin (both_r (is_capacity marks.capacity && is_class marks.class) _ h) in
    record {
      capacity = capacity_small _ (both_l (is_capacity marks.capacity) (is_class marks.class) (both_l _ _ h));
      class = class_small _ (both_r (is_capacity marks.capacity) (is_class marks.class) (both_l _ _ h));
      cash = omega (arith, c.0);
      margin = omega (arith, c.1);
    }
