-- What a shape takes: each value that a report is written from, where it is right, is read back as it was written.
use Prim.Native.Nat.{ℕ, ◌+◌, ◌^◌, ◌%◌, ◌≤◌, ◌<◌, zero-le}
use native.Mathlib.Omega.{arith}
use mathlib.Core.Path.{◌≡◌, refl, ap}
use mathlib.Core.Bool.{true, false, not, ◌&&◌, ◌||◌, false≢true}
use mathlib.Core.List.{List, [], ◌∷◌}
use mathlib.Core.Logic.{◌⊎◌, inl, inr}
use lib.Dec.{leb, eqb}
use lib.ListN.{length}
use borrow.Author.Tests.{eq-eqb, ne_eqb, le-leb, le-ltb, eqb-true, eqb-false, leb-true}
use Rattle.octets.specs.Octets.{same_bytes}
use Rattle.octets.proofs.Bools.{split, both_l, both_r, or_r}
use Rattle.decimal.specs.declared.Instrument.{Instrument}
use Rattle.decimal.specs.declared.Instrument.TheVariants.{Bonds, Equities}
use Rattle.decimal.specs.Instruments.{highest, highest_mean}
use Rattle.decimal.specs.Reading.{is_digit, run_of, digit_run, num_of}
use Rattle.decimal.specs.Writing.{decimal, mean_of}
use Rattle.decimal.specs.Canonical.{bare_of, within}
use Rattle.decimal.proofs.Means.{mean_range}
use Rattle.decimal.proofs.Afters.{digits_decimal}
use Rattle.decimal.proofs.RoundTrip.{bare_back, level_back, mean_back}
use Rattle.matching.specs.declared.Order.{Order}
use Rattle.matching.specs.Matching.{is_side_of, open_of, is_immediate}
use Rattle.matching.specs.Held.{Sound}
use Rattle.matching.specs.Quoted.{Quoted}
use Rattle.matching.proofs.Sounds.{minimum_most}
use Rattle.table.specs.Market.{is_capacity, is_class, is_cash}
use Rattle.report.specs.declared.Value.{Value}
use Rattle.report.specs.declared.Value.TheVariants.{Absent, Number, Char, Word, Sent, Stored, Level, Mean}
use Rattle.report.specs.declared.Shape.{Shape}
use Rattle.report.specs.declared.Shape.TheVariants as shape
use Rattle.report.specs.Fields.{is_absent, value_bytes, word_bytes, group_of}
use Rattle.report.specs.Shapes.{one_in, number_in, word_in, order_id_in, text_in, time_in, quote_in, average_in, value_in}
use Rattle.report.specs.Slots.{one_of, exact, sides, symbols}
use Rattle.report.proofs.Taken.{same_is}
use Rattle.report.proofs.Back.{moved, same_back}
use Rattle.rows.specs.Rows.{group, digit, or_digit, or_number, or_nobody, avg_px, replaced_status, trade_status}
use Rattle.ticket.specs.Legible.{is_among}
use Rattle.readback.specs.Right.{is_part, TextRight, CodeRight, TimeRight}
use Rattle.std.proofs.Common.{Some}

-- the shape takes the value and gives it back, a text at its place in the report
pub record Takes (sent stored : List ℕ) (f : Shape) (v : Value) : Type 0 where
  pub here : is_absent v ≡ false
  pub picked : (place : ℕ) → value_in f place (value_bytes sent stored v) ≡ Some (moved sent stored place v)

-- ---- a number of a list: what holds of each holds of it
abbrev pub Each : (ℕ → Type 0) → List ℕ → Type 0
Each P [] = Unit {0}
Each P (x ∷ xs) = P x × Each P xs

pub among_each : (P : ℕ → Type 0) (xs : List ℕ) (n : ℕ) → is_among xs n ≡ true → Each P xs → P n
among_each P [] n e p = absurd (false≢true e)
among_each P (x ∷ xs) n e p =
    split (eqb n x) (λ t. rw (eqb-true n x t) p.0) (λ t. among_each P xs n (or_r (eqb n x) (is_among xs n) e t) p.1)

-- a side of equities is one of four
among_sides : (n : ℕ) → is_side_of Equities n ≡ true → is_among (1 ∷ 2 ∷ 5 ∷ 6 ∷ []) n ≡ true
unfolding is_side_of
among_sides n e =
    split (eqb n 1) (λ a. rw a)
    (λ a. rw a (split (eqb n 2) (λ b. rw b)
    (λ b. rw b (split (eqb n 5) (λ c. rw c)
    (λ c. rw (c, or_r (eqb n 1 || eqb n 2 || eqb n 5) (eqb n 6) e (rw (a, b, c))))))))

-- ---- CashMargin and MarginTransactionType

-- equities: 1 to 3, and at most 2
pub record Cashed (cash margin : ℕ) : Type 0 where
  pub low : 1 ≤ cash
  pub high : cash ≤ 3
  pub most : margin ≤ 2

pub equities_cash : (cash margin : ℕ) → is_cash Equities cash margin ≡ true → Cashed cash margin
unfolding is_cash
equities_cash cash margin e =
    let abc = both_l (leb 1 cash && leb cash 3 && leb margin 2) (not (eqb cash 1) || eqb margin 0) e in
    let ab = both_l (leb 1 cash && leb cash 3) (leb margin 2) abc in
    record {
      low = leb-true 1 cash (both_l (leb 1 cash) (leb cash 3) ab);
      high = leb-true cash 3 (both_r (leb 1 cash) (leb cash 3) ab);
      most = leb-true margin 2 (both_r (leb 1 cash && leb cash 3) (leb margin 2) abc);
    }

-- bonds: none
pub bonds_cash : (cash margin : ℕ) → is_cash Bonds cash margin ≡ true → (cash ≡ 0) × (margin ≡ 0)
unfolding is_cash
bonds_cash cash margin e =
    (eqb-true cash 0 (both_l (eqb cash 0) (eqb margin 0) e), eqb-true margin 0 (both_r (eqb cash 0) (eqb margin 0) e))

-- a text is read back as its place and its length
pub part_moved : (sent stored : List ℕ) (place : ℕ) (v : Value) → is_part v ≡ true → Sent place (length (value_bytes sent stored v)) ≡ moved sent stored place v
part_moved sent stored place Absent e = absurd (false≢true e)
part_moved sent stored place (Number n) e = absurd (false≢true e)
part_moved sent stored place (Char c) e = absurd (false≢true e)
part_moved sent stored place (Word w x y z) e = absurd (false≢true e)
part_moved sent stored place (Sent from len) e = refl
part_moved sent stored place (Stored from len) e = refl
part_moved sent stored place (Level q level) e = absurd (false≢true e)
part_moved sent stored place (Mean q mean) e = absurd (false≢true e)

pub part_here : (v : Value) → is_part v ≡ true → is_absent v ≡ false
part_here Absent e = absurd (false≢true e)
part_here (Number n) e = refl
part_here (Char c) e = refl
part_here (Word w x y z) e = refl
part_here (Sent from len) e = refl
part_here (Stored from len) e = refl
part_here (Level q level) e = refl
part_here (Mean q mean) e = refl

within_back : (least most n : ℕ) → least ≤ n → n ≤ most → n < 10 ^ 9 → within least most (bare_of 9 (decimal n)) ≡ Some n
within_back least most n l h f = rw (bare_back 8 n f (omega arith)) (simp (le-leb least n l, le-leb n most h))

module _ (sent stored : List ℕ) where
  -- ---- characters and words
  pub char_takes : (c : ℕ) → Takes sent stored (shape.OneOf c c c c c) (Char c)
  unfolding one_in
  char_takes c = record { here = refl; picked = λ place. rw (eq-eqb c c refl) }

  pub word_takes : (w x y z : ℕ) → Takes sent stored (shape.Exact w x y z) (Word w x y z)
  unfolding word_in
  word_takes w x y z = record { here = refl; picked = λ place. rw (same_back (word_bytes w x y z)) }

  -- 50
  pub group_takes : (q : Instrument) → Takes sent stored (exact (group_of q)) (group q)
  unfolding group
  group_takes Bonds = word_takes 68 74 71 66
  group_takes Equities = word_takes 68 65 89 0

  -- ---- numbers
  pub number_takes : (least most n : ℕ) → least ≤ n → n ≤ most → n < 10 ^ 9 → Takes sent stored (shape.Range least most) (Number n)
  number_takes least most n l h f = record { here = refl; picked = λ place. ap number_in (within_back least most n l h f) }

  -- an MPID or a MinQty, or none
  pub or_number_takes : (least most n : ℕ) → least ≤ 1 → n ≤ most → n < 10 ^ 9 → (or_number n ≡ Absent) ⊎ Takes sent stored (shape.Range least most) (or_number n)
  unfolding or_number
  or_number_takes least most n l h f =
      split (eqb n 0) (λ e. rw e (inl refl))
      (λ e. rw e (inr (number_takes least most n (omega (arith, l, eqb-false n 0 e)) h f)))

  -- an OrderID, or NONE: digits are not NONE
  none_digits : digit_run (78 ∷ 79 ∷ 78 ∷ 69 ∷ []) ≡ 0
  unfolding run_of is_digit
  none_digits = refl

  not_none : (n : ℕ) → n ≤ 999999999 → same_bytes (decimal n) (78 ∷ 79 ∷ 78 ∷ 69 ∷ []) ≡ false
  not_none n h =
      split (same_bytes (decimal n) (78 ∷ 79 ∷ 78 ∷ 69 ∷ []))
      (λ e.
      let z : digit_run (78 ∷ 79 ∷ 78 ∷ 69 ∷ []) ≡ 4 = rw (same_is (decimal n) (78 ∷ 79 ∷ 78 ∷ 69 ∷ []) e) at (digits_decimal n (omega arith)) in
      absurd (omega (arith, z, none_digits)))
      (λ e. e)

  pub or_nobody_takes : (n : ℕ) → n ≤ 999999999 → Takes sent stored shape.OrderId (or_nobody n)
  unfolding or_nobody order_id_in
  or_nobody_takes n h =
      split (eqb n 0)
      (λ e. rw e (record { here = refl; picked = λ place. rw (same_back (78 ∷ 79 ∷ 78 ∷ 69 ∷ [])) }))
      (λ e. let l : 1 ≤ n = omega (arith, eqb-false n 0 e) in
      rw e (record { here = refl; picked = λ place. rw (not_none n h) (ap number_in (within_back 1 999999999 n l h (omega arith))) }))

  -- ---- digits as characters
  abbrev Digit : Shape → ℕ → Type 0
  Digit f n = Takes sent stored f (digit n)

  -- a digit of a shape's five
  one_digit : (a b c d e n : ℕ) → n < 10 → (eqb (48 + n) a || eqb (48 + n) b || eqb (48 + n) c || eqb (48 + n) d || eqb (48 + n) e) ≡ true
      → Digit (shape.OneOf a b c d e) n
  unfolding one_in digit
  one_digit a b c d e n h t =
      let z : 48 + n % 10 ≡ 48 + n = omega arith in
      record { here = refl; picked = λ place. rw z (simp t) }

  either : (P : ℕ → Type 0) (n a b : ℕ) → (eqb n a || eqb n b) ≡ true → P a → P b → P n
  either P n a b e p q =
      split (eqb n a) (λ t. rw (eqb-true n a t) p) (λ t. rw (eqb-true n b (or_r (eqb n a) (eqb n b) e t)) q)

  -- side and time in force
  pub side_takes : (q : Instrument) (n : ℕ) → is_side_of q n ≡ true → Digit (sides q) n
  unfolding is_side_of
  side_takes Bonds n e =
      either (Digit (sides Bonds)) n 1 2 e
      (one_digit 49 50 50 50 50 1 (omega arith) refl) (one_digit 49 50 50 50 50 2 (omega arith) refl)
  side_takes Equities n e =
      among_each (Digit (sides Equities)) (1 ∷ 2 ∷ 5 ∷ 6 ∷ []) n (among_sides n e) (
        one_digit 49 50 53 54 54 1 (omega arith) refl,
        (
          one_digit 49 50 53 54 54 2 (omega arith) refl,
          (
            one_digit 49 50 53 54 54 5 (omega arith) refl,
            (one_digit 49 50 53 54 54 6 (omega arith) refl, tt),
          ),
        ),
      )

  pub tif_takes : (o : Order) → Sound o → Digit (shape.OneOf 48 51 52 52 52) o.tif
  tif_takes o h =
      split (eqb o.tif 0) (λ t. rw (eqb-true o.tif 0 t) (one_digit 48 51 52 52 52 0 (omega arith) refl))
      (λ t. either (Digit (shape.OneOf 48 51 52 52 52)) o.tif 3 4 (or_r (eqb o.tif 0) (is_immediate o) h.tifs t)
      (one_digit 48 51 52 52 52 3 (omega arith) refl) (one_digit 48 51 52 52 52 4 (omega arith) refl))

  -- 39 of Replaced and of a Trade
  pub replaced_takes : (o : Order) → Digit (shape.OneOf 49 53 53 53 53) (replaced_status o)
  unfolding replaced_status
  replaced_takes o =
      split (eqb o.executed 0) (λ e. rw e (one_digit 49 53 53 53 53 5 (omega arith) refl)) (λ e. rw e (one_digit 49 53 53 53 53 1 (omega arith) refl))

  pub traded_takes : (o : Order) → Digit (shape.OneOf 49 50 50 50 50) (trade_status o)
  unfolding trade_status
  traded_takes o =
      split (eqb (open_of o) 0) (λ e. rw e (one_digit 49 50 50 50 50 2 (omega arith) refl)) (λ e. rw e (one_digit 49 50 50 50 50 1 (omega arith) refl))

  -- capacity and classification
  pub capacity_takes : (c : ℕ) → is_capacity c ≡ true → Takes sent stored (shape.OneOf 65 80 80 80 80) (Char c)
  unfolding is_capacity one_in
  capacity_takes c e =
      either (λ x. Takes sent stored (shape.OneOf 65 80 80 80 80) (Char x)) c 65 80 e
      (record { here = refl; picked = λ place. refl }) (record { here = refl; picked = λ place. refl })

  pub class_takes : (c : ℕ) → is_class c ≡ true → Digit (shape.OneOf 49 51 52 53 54) c
  unfolding is_class
  class_takes c e =
      split (eqb c 1)
      (λ t. rw (eqb-true c 1 t) (one_digit 49 51 52 53 54 1 (omega arith) refl))
      (λ t.
      let r = or_r (eqb c 1) (leb 3 c && leb c 6) e t in
      let l = leb-true 3 c (both_l (leb 3 c) (leb c 6) r) in
      let h = leb-true c 6 (both_r (leb 3 c) (leb c 6) r) in
      among_each (Digit (shape.OneOf 49 51 52 53 54)) (3 ∷ 4 ∷ 5 ∷ 6 ∷ []) c (some c l h) (
        one_digit 49 51 52 53 54 3 (omega arith) refl,
        (
          one_digit 49 51 52 53 54 4 (omega arith) refl,
          (
            one_digit 49 51 52 53 54 5 (omega arith) refl,
            (one_digit 49 51 52 53 54 6 (omega arith) refl, tt),
          ),
        ),
      ))
    where
      some : (c : ℕ) → 3 ≤ c → c ≤ 6 → is_among (3 ∷ 4 ∷ 5 ∷ 6 ∷ []) c ≡ true
      some c l h =
          split (eqb c 3) (λ t. rw t)
          (λ t. rw t (split (eqb c 4) (λ u. rw u) (λ u. rw u (split (eqb c 5) (λ v. rw v) (λ v. rw v
          (rw (eq-eqb c 6 (omega (arith, eqb-false c 3 t, eqb-false c 4 u, eqb-false c 5 v)))))))))

  -- 544 and 8214
  pub cash_takes : (n : ℕ) → 1 ≤ n → n ≤ 3 → Digit (one_of "123") n
  cash_takes n l h =
      split (eqb n 1) (λ t. rw (eqb-true n 1 t) (one_digit 49 50 51 51 51 1 (omega arith) refl))
      (λ t. split (eqb n 2) (λ u. rw (eqb-true n 2 u) (one_digit 49 50 51 51 51 2 (omega arith) refl))
      (λ u.
      let z : n ≡ 3 = omega (arith, eqb-false n 1 t, eqb-false n 2 u) in
      rw z (one_digit 49 50 51 51 51 3 (omega arith) refl)))

  pub margin_takes : (n : ℕ) → n ≤ 2 → (or_digit n ≡ Absent) ⊎ Takes sent stored (one_of "12") (or_digit n)
  unfolding or_digit
  margin_takes n h =
      split (eqb n 0) (λ t. rw t (inl refl))
      (λ t. rw t (inr (split (eqb n 1) (λ u. rw (eqb-true n 1 u) (one_digit 49 50 50 50 50 1 (omega arith) refl))
      (λ u.
      let z : n ≡ 2 = omega (arith, eqb-false n 0 t, eqb-false n 1 u) in
      rw z (one_digit 49 50 50 50 50 2 (omega arith) refl)))))

  -- 39 of a Cancel reject
  pub status_takes : (n : ℕ) → is_among (0 ∷ 1 ∷ 2 ∷ 4 ∷ 8 ∷ []) n ≡ true → Digit (shape.OneOf 48 49 50 52 56) n
  status_takes n e =
      among_each (Digit (shape.OneOf 48 49 50 52 56)) (0 ∷ 1 ∷ 2 ∷ 4 ∷ 8 ∷ []) n e (
        one_digit 48 49 50 52 56 0 (omega arith) refl,
        (
          one_digit 48 49 50 52 56 1 (omega arith) refl,
          (
            one_digit 48 49 50 52 56 2 (omega arith) refl,
            (
              one_digit 48 49 50 52 56 4 (omega arith) refl,
              (one_digit 48 49 50 52 56 8 (omega arith) refl, tt),
            ),
          ),
        ),
      )

  -- ---- one of eight numbers
  pub listed_takes : (a b c d e f g h n : ℕ) → n < 10 ^ 9 → (eqb n a || eqb n b || eqb n c || eqb n d || eqb n e || eqb n f || eqb n g || eqb n h) ≡ true
      → Takes sent stored (shape.Listed a b c d e f g h) (Number n)
  listed_takes a b c d e f g h n l t =
      record { here = refl; picked = λ place. rw (bare_back 8 n l (omega arith)) (simp t) }

  -- 103, 102, 434, 373, 851
  pub refusal_takes : (n : ℕ) → is_among (0 ∷ 1 ∷ 6 ∷ 99 ∷ []) n ≡ true → Takes sent stored (shape.Listed 0 1 6 99 99 99 99 99) (Number n)
  refusal_takes n e =
      among_each (λ x. Takes sent stored (shape.Listed 0 1 6 99 99 99 99 99) (Number x)) (0 ∷ 1 ∷ 6 ∷ 99 ∷ []) n e (
        listed_takes 0 1 6 99 99 99 99 99 0 (omega arith) refl,
        (
          listed_takes 0 1 6 99 99 99 99 99 1 (omega arith) refl,
          (
            listed_takes 0 1 6 99 99 99 99 99 6 (omega arith) refl,
            (listed_takes 0 1 6 99 99 99 99 99 99 (omega arith) refl, tt),
          ),
        ),
      )

  pub reason_takes : (n : ℕ) → is_among (0 ∷ 1 ∷ 2 ∷ []) n ≡ true → Takes sent stored (shape.Listed 0 1 2 2 2 2 2 2) (Number n)
  reason_takes n e =
      among_each (λ x. Takes sent stored (shape.Listed 0 1 2 2 2 2 2 2) (Number x)) (0 ∷ 1 ∷ 2 ∷ []) n e (
        listed_takes 0 1 2 2 2 2 2 2 0 (omega arith) refl,
        (
          listed_takes 0 1 2 2 2 2 2 2 1 (omega arith) refl,
          (listed_takes 0 1 2 2 2 2 2 2 2 (omega arith) refl, tt),
        ),
      )

  pub two_takes : (n : ℕ) → is_among (1 ∷ 2 ∷ []) n ≡ true → Takes sent stored (shape.Listed 1 2 2 2 2 2 2 2) (Number n)
  two_takes n e =
      among_each (λ x. Takes sent stored (shape.Listed 1 2 2 2 2 2 2 2) (Number x)) (1 ∷ 2 ∷ []) n e
      (listed_takes 1 2 2 2 2 2 2 2 1 (omega arith) refl, (listed_takes 1 2 2 2 2 2 2 2 2 (omega arith) refl, tt))

  pub fault_takes : (n : ℕ) → is_among (1 ∷ 2 ∷ 3 ∷ 4 ∷ 5 ∷ 6 ∷ 9 ∷ 11 ∷ []) n ≡ true → Takes sent stored (shape.Listed 1 2 3 4 5 6 9 11) (Number n)
  fault_takes n e =
      among_each (λ x. Takes sent stored (shape.Listed 1 2 3 4 5 6 9 11) (Number x)) (1 ∷ 2 ∷ 3 ∷ 4 ∷ 5 ∷ 6 ∷ 9 ∷ 11 ∷ []) n e (
        listed_takes 1 2 3 4 5 6 9 11 1 (omega arith) refl,
        (
          listed_takes 1 2 3 4 5 6 9 11 2 (omega arith) refl,
          (
            listed_takes 1 2 3 4 5 6 9 11 3 (omega arith) refl,
            (
              listed_takes 1 2 3 4 5 6 9 11 4 (omega arith) refl,
              (
                listed_takes 1 2 3 4 5 6 9 11 5 (omega arith) refl,
                (
                  listed_takes 1 2 3 4 5 6 9 11 6 (omega arith) refl,
                  (
                    listed_takes 1 2 3 4 5 6 9 11 9 (omega arith) refl,
                    (listed_takes 1 2 3 4 5 6 9 11 11 (omega arith) refl, tt),
                  ),
                ),
              ),
            ),
          ),
        ),
      )

  -- ---- texts
  pub text_takes : (most low : ℕ) (v : Value) → TextRight sent stored most low v → Takes sent stored (shape.Text most low) v
  unfolding text_in
  text_takes most low v r =
      let b = value_bytes sent stored v in
      record {
        here = part_here v r.a_text;
        picked = λ place.
            rw (ne_eqb (length b) 0 (λ e. omega (arith, e, r.some)), le-ltb most (length b) r.few, r.all)
            (ap Some (part_moved sent stored place v r.a_text));
      }

  pub code_takes : (q : Instrument) (v : Value) → CodeRight sent stored q v → Takes sent stored (symbols q) v
  unfolding num_of
  code_takes Bonds v r =
      record { here = part_here v r.a_text; picked = λ place. rw r.digits (ap Some (part_moved sent stored place v r.a_text)) }
  code_takes Equities v r = text_takes 9 32 v r

  pub time_takes : (v : Value) → TimeRight sent stored v → Takes sent stored shape.Time v
  unfolding time_in
  time_takes v r =
      record { here = part_here v r.a_text; picked = λ place. rw r.time (ap Some (part_moved sent stored place v r.a_text)) }

  -- ---- yields, prices and AvgPx
  pub level_takes : (q : Instrument) (l : ℕ) → 0 < l → l ≤ highest q → Takes sent stored (shape.Level q) (Level q l)
  level_takes q l a b = record { here = refl; picked = λ place. ap (quote_in q) (level_back q l a b) }

  pub mean_takes : (q : Instrument) (m : ℕ) → 0 < m → m ≤ highest_mean q → Takes sent stored (shape.Average q) (Mean q m)
  mean_takes q m a b = record { here = refl; picked = λ place. ap (average_in q) (mean_back q m a b) }

  pub average_takes : (q : Instrument) (o : Order) → Sound o → Quoted q o → Takes sent stored (shape.Average q) (Mean q (avg_px o))
  unfolding avg_px
  average_takes q o h k =
      let r = mean_range q o.sum o.executed h.sum_low k.sum in
      mean_takes q (mean_of o.sum o.executed) r.0 r.1

  -- before any execution
  pub zero_takes : (q : Instrument) → Takes sent stored (shape.Average q) (Mean q (mean_of 0 0))
  zero_takes q = let r = mean_range q 0 0 zero-le zero-le in mean_takes q (mean_of 0 0) r.0 r.1

  -- ---- the quantities of an order
  pub open_takes : (o : Order) → Sound o → Takes sent stored (shape.Range 0 999999999) (Number (open_of o))
  unfolding open_of
  open_takes o h = number_takes 0 999999999 (open_of o) (omega arith) (omega (arith, h.qty_high)) (omega (arith, h.qty_high))

  pub executed_takes : (o : Order) → Sound o → Takes sent stored (shape.Range 0 999999999) (Number o.executed)
  executed_takes o h = number_takes 0 999999999 o.executed (omega arith) (omega (arith, h.qty_high, h.covered)) (omega (arith, h.qty_high, h.covered))

  pub quantity_takes : (o : Order) → Sound o → Takes sent stored (shape.Range 0 999999999) (Number o.qty)
  quantity_takes o h = number_takes 0 999999999 o.qty (omega arith) (omega (arith, h.qty_high)) (omega (arith, h.qty_high))

  pub least_takes : (o : Order) → Sound o → (or_number o.minqty ≡ Absent) ⊎ Takes sent stored (shape.Range 0 999999999) (or_number o.minqty)
  least_takes o h =
      let m = minimum_most o h in
      or_number_takes 0 999999999 o.minqty (omega arith) (omega (arith, m, h.qty_high)) (omega (arith, m, h.qty_high))
