-- What a value that a shape takes is like: it has no SOH and at most so many bytes, and writing what was read gives it again.
use Prim.Native.Nat.{ℕ, suc, ◌-◌, ◌/◌, ◌^◌, ◌≤◌, ◌<◌}
use mathlib.Core.Path.{◌≡◌, refl, sym, ap, ◌∙◌, subst}
use mathlib.Core.Bool.{Bool, true, false, cond, ◌&&◌, ◌||◌, false≢true}
use mathlib.Core.List.{List, [], ◌∷◌, ◌++◌}
use native.Mathlib.Omega.{arith}
use native.Mathlib.Nat.{div-le_self}
use lib.Dec.{ltb, leb, eqb, lit<, lit≤}
use lib.ListN.{length, get_or}
use borrow.Author.Tests.{eqb-true, ltb-false, leb-true}
use Rattle.octets.specs.Octets.{part_at, same_bytes}
use Rattle.octets.proofs.Bools.{split, both_l, both_r}
use Rattle.decimal.specs.declared.Instrument.{Instrument}
use Rattle.decimal.specs.declared.Instrument.TheVariants.{Bonds, Equities}
use Rattle.decimal.specs.Reading.{digit_run, number, is_number, num_of, is_time}
use Rattle.decimal.specs.Instruments.{amount_from, signed, decimals, mean_decimals, highest, highest_mean}
use Rattle.decimal.specs.Writing.{decimal, places, plain, fixed, zero_of, level_text, mean_text}
use Rattle.decimal.specs.Canonical.{bare_of, within, level_in, mean_in}
use Rattle.decimal.proofs.Numbers.{digit_low}
use Rattle.std.proofs.lemmas.Option.{cond_some}
use Rattle.decimal.proofs.Times.{time_short, time_low}
use Rattle.decimal.proofs.Afters.{digits_head, digits_tail, digits_decimal, digits_places}
use Rattle.decimal.proofs.Digits.{decimal_few}
use Rattle.decimal.proofs.RoundTrip.{bare_only, bare_small, level_only, level_within, level_length, mean_only, mean_within, mean_length}
use Rattle.report.specs.declared.Value.{Value}
use Rattle.report.specs.declared.Value.TheVariants.{Number, Char, Word, Sent, Level, Mean}
use Rattle.report.specs.declared.Shape.{Shape}
use Rattle.report.specs.declared.Shape.TheVariants as shape
use Rattle.report.specs.Fields.{is_absent, word_bytes, value_bytes}
use Rattle.report.specs.Shapes.{one_in, number_in, listed_in, word_in, order_id_in, all_from, text_in, place_in, time_in, quote_in, average_in, value_in}
use Rattle.std.proofs.Common.{Option, Some, None}

-- ---- no byte is SOH
abbrev pub NoSoh : List ℕ → Type 0
NoSoh [] = Unit {0}
NoSoh (b ∷ s) = (b ≡ 1 → ⊥) × NoSoh s

pub clean_append : (xs ys : List ℕ) → NoSoh xs → NoSoh ys → NoSoh (xs ++ ys)
clean_append [] ys p q = q
clean_append (x ∷ xs) ys p q = (p.0, clean_append xs ys p.1 q)

pub clean_digits : (s : List ℕ) → digit_run s ≡ length s → NoSoh s
clean_digits [] e = tt
clean_digits (b ∷ s) e = ((λ q. omega (arith, digit_low b (digits_head b s e))), clean_digits s (digits_tail b s e))

clean_plain : (k m : ℕ) → m < 2 ^ 64 → NoSoh (plain k m)
unfolding plain
clean_plain k m f =
    clean_append (decimal (m / 10 ^ k) ++ (46 ∷ [])) (places k m)
    (clean_append (decimal (m / 10 ^ k)) (46 ∷ []) (clean_digits (decimal (m / 10 ^ k)) (digits_decimal (m / 10 ^ k) (omega (arith, div-le_self m (10 ^ k))))) ((λ q. omega (arith, q)), tt))
    (clean_digits (places k m) (digits_places k m))

amount_small : (q : Instrument) (origin v : ℕ) → origin < 2 ^ 64 → v < 2 ^ 64 → amount_from q origin v < 2 ^ 64
amount_small Bonds origin v z h = omega arith
amount_small Equities origin v z h = omega arith

clean_fixed : (q : Instrument) (k v : ℕ) → zero_of q k < 2 ^ 64 → v < 2 ^ 64 → NoSoh (fixed q k v)
unfolding fixed
clean_fixed q k v z h =
    split (signed q && ltb v (zero_of q k))
    (λ e. rw e ((λ q. omega (arith, q)), clean_plain k (zero_of q k - v) (omega arith)))
    (λ e. rw e (clean_plain k (amount_from q (zero_of q k) v) (amount_small q (zero_of q k) v z h)))

highest_small : (q : Instrument) → (highest q < 2 ^ 64) × (highest_mean q < 2 ^ 64)
highest_small Bonds = (lit< tt, lit< tt)
highest_small Equities = (lit< tt, lit< tt)

zero_small : (q : Instrument) → (zero_of q (decimals q) < 2 ^ 64) × (zero_of q (mean_decimals q) < 2 ^ 64)
zero_small Bonds = (lit< tt, lit< tt)
zero_small Equities = (lit< tt, lit< tt)

pub clean_level : (q : Instrument) (v : ℕ) → v ≤ highest q → NoSoh (level_text q v)
unfolding level_text
clean_level q v h = clean_fixed q (decimals q) v (zero_small q).0 (omega (arith, h, (highest_small q).0))

pub clean_mean : (q : Instrument) (v : ℕ) → v ≤ highest_mean q → NoSoh (mean_text q v)
unfolding mean_text
clean_mean q v h = clean_fixed q (mean_decimals q) v (zero_small q).1 (omega (arith, h, (highest_small q).1))

from_turn : (t u r : Bool) → cond t false (cond u false r) ≡ true → (t ≡ false) × (r ≡ true)
from_turn true u r e = absurd (false≢true e)
from_turn false true r e = absurd (false≢true e)
from_turn false false r e = (refl, e)

clean_from : (low : ℕ) (s : List ℕ) → 1 < low → all_from low s ≡ true → NoSoh s
clean_from low [] h e = tt
clean_from low (b ∷ s) h e =
    let p = from_turn (ltb b low) (ltb 126 b) (all_from low s) e in
    ((λ q. omega (arith, q, ltb-false b low p.0)), clean_from low s h p.1)

-- ---- the same bytes are the same list
pub same_is : (a b : List ℕ) → same_bytes a b ≡ true → a ≡ b
unfolding same_bytes
same_is [] [] e = refl
same_is [] (y ∷ ys) e = absurd (false≢true e)
same_is (x ∷ xs) [] e = absurd (false≢true e)
same_is (x ∷ xs) (y ∷ ys) e =
    let p = eqb-true x y (both_l (eqb x y) (same_bytes xs ys) e) in
    rw (p, same_is xs ys (both_r (eqb x y) (same_bytes xs ys) e))

-- ---- what a value that was taken is like
pub record Taken (v : List ℕ) (most : ℕ) (from : ℕ) (x : Value) : Type 0 where
  pub clean : NoSoh v
  pub few : length v ≤ most
  pub here : is_absent x ≡ false
  pub bytes : (s stored : List ℕ) → part_at s from (length v) ≡ v → value_bytes s stored x ≡ v

-- how many bytes a shape takes at most
abbrev pub width_of : Shape → ℕ
width_of shape.Nothing = 0
width_of (shape.OneOf a b c d e) = 1
width_of (shape.Range least most) = 9
width_of (shape.Listed a b c d e f g h) = 9
width_of (shape.Exact w x y z) = 4
width_of shape.OrderId = 9
width_of (shape.Text most low) = most
width_of shape.Digits = 9
width_of shape.Time = 21
width_of (shape.Level q) = 11
width_of (shape.Average q) = 14

is_injective : (x y : Value) → Some x ≡ Some y → x ≡ y
is_injective x y e = cc

no_never : (x : Value) → None ≡ Some x → ⊥
no_never x e = let z : ◌≡◌ {A = ℕ} 0 1 = cc in omega arith

cond_is : (t : Bool) (y x : Value) → cond t (Some y) None ≡ Some x → (t ≡ true) × (y ≡ x)
cond_is true y x e = (refl, is_injective y x e)
cond_is false y x e = absurd (no_never x e)

-- numbers
taken_bare : (v : List ℕ) (from n : ℕ) → bare_of 9 v ≡ Some n → Taken v 9 from (Number n)
taken_bare v from n e =
    let w = bare_only 9 v n (omega arith) e in
    let m : n < 10 ^ 9 = bare_small 9 v n (omega arith) e in
    record {
      clean = rw w (clean_digits (decimal n) (digits_decimal n (omega (arith, m))));
      few = rw w (decimal_few 8 n m);
      here = refl;
      bytes = λ s stored p. sym w;
    }

within_says : (low high n : ℕ) (q : Option ℕ) → within low high q ≡ Some n → q ≡ Some n
within_says low high n (Some m) e = by (leb low m && leb m high) e
  where
    by : (t : Bool) → cond t (Some m) None ≡ Some n → Some m ≡ Some n
    by true e = e
    by false e = let z : ◌≡◌ {A = ℕ} 0 1 = cc in absurd (omega arith)
within_says low high n None e = let z : ◌≡◌ {A = ℕ} 0 1 = cc in absurd (omega arith)

record SaidSo (q : Option ℕ) (x : Value) (f : ℕ → Value) : Type 0 where
  pub said : ℕ
  pub says : q ≡ Some said
  pub is : f said ≡ x

number_says : (q : Option ℕ) (x : Value) → number_in q ≡ Some x → SaidSo q x Number
number_says (Some n) x e = record { said = n; says = refl; is = is_injective (Number n) x e }
number_says None x e = absurd (no_never x e)

taken_number : (v : List ℕ) (from : ℕ) (x : Value) (low high : ℕ) → number_in (within low high (bare_of 9 v)) ≡ Some x → Taken v 9 from x
taken_number v from x low high e =
    let n = number_says (within low high (bare_of 9 v)) x e in
    rw (← n.is) (taken_bare v from n.said (within_says low high n.said (bare_of 9 v) n.says))

listed_says : (a b c d e f g h : ℕ) (q : Option ℕ) (x : Value) → listed_in a b c d e f g h q ≡ Some x → SaidSo q x Number
listed_says a b c d e f g h (Some n) x q =
    record { said = n; says = refl; is = (cond_is (eqb n a || eqb n b || eqb n c || eqb n d || eqb n e || eqb n f || eqb n g || eqb n h) (Number n) x q).1 }
listed_says a b c d e f g h None x q = absurd (no_never x q)

-- one character
one_byte : (v : List ℕ) → length v ≡ 1 → v ≡ get_or v 0 0 ∷ []
one_byte (b ∷ []) e = refl
one_byte [] e = absurd (omega (arith, e))
one_byte (b ∷ c ∷ v) e = absurd (omega (arith, e))

five : (x a b c d e : ℕ) → (eqb x a || eqb x b || eqb x c || eqb x d || eqb x e) ≡ true → (a ≡ 1 → ⊥) × (b ≡ 1 → ⊥) × (c ≡ 1 → ⊥) × (d ≡ 1 → ⊥) × (e ≡ 1 → ⊥) → x ≡ 1 → ⊥
five x a b c d e t n q =
    either (eqb x a || eqb x b || eqb x c || eqb x d) (eqb x e) t
    (λ t. either (eqb x a || eqb x b || eqb x c) (eqb x d) t
    (λ t. either (eqb x a || eqb x b) (eqb x c) t
    (λ t. either (eqb x a) (eqb x b) t (λ t. n.0 (sym (eqb-true x a t) ∙ q)) (λ t. n.1 (sym (eqb-true x b t) ∙ q)))
    (λ t. n.2 (sym (eqb-true x c t) ∙ q)))
    (λ t. n.3 (sym (eqb-true x d t) ∙ q)))
    (λ t. n.4 (sym (eqb-true x e t) ∙ q))
  where
    either : (p r : Bool) → (p || r) ≡ true → (p ≡ true → ⊥) → (r ≡ true → ⊥) → ⊥
    either true r e f g = f refl
    either false r e f g = g e

-- what a table may have as a shape: no SOH among its characters
abbrev pub Proper : Shape → Type 0
Proper shape.Nothing = Unit {0}
Proper (shape.OneOf a b c d e) = (a ≡ 1 → ⊥) × (b ≡ 1 → ⊥) × (c ≡ 1 → ⊥) × (d ≡ 1 → ⊥) × (e ≡ 1 → ⊥)
Proper (shape.Range least most) = Unit {0}
Proper (shape.Listed a b c d e f g h) = Unit {0}
Proper (shape.Exact w x y z) = NoSoh (w ∷ x ∷ y ∷ z ∷ [])
Proper shape.OrderId = Unit {0}
Proper (shape.Text most low) = 1 < low
Proper shape.Digits = Unit {0}
Proper shape.Time = Unit {0}
Proper (shape.Level q) = Unit {0}
Proper (shape.Average q) = Unit {0}

taken_one : (v : List ℕ) (from : ℕ) (x : Value) (a b c d e : ℕ) → (a ≡ 1 → ⊥) × (b ≡ 1 → ⊥) × (c ≡ 1 → ⊥) × (d ≡ 1 → ⊥) × (e ≡ 1 → ⊥) → one_in a b c d e v ≡ Some x → Taken v 1 from x
unfolding one_in
taken_one v from x a b c d e n q =
    split (eqb (length v) 1)
    (λ l.
    let w = one_byte v (eqb-true (length v) 1 l) in
    let p = cond_is (eqb (get_or v 0 0) a || eqb (get_or v 0 0) b || eqb (get_or v 0 0) c || eqb (get_or v 0 0) d || eqb (get_or v 0 0) e) (Char (get_or v 0 0)) x (rw l at q) in
    let clean : NoSoh (get_or v 0 0 ∷ []) = (five (get_or v 0 0) a b c d e p.0 n, tt) in
    let whole : Taken v 1 from (Char (get_or v 0 0)) = record { clean = subst (λ (u : List ℕ). NoSoh u) (sym w) clean; few = omega (arith, eqb-true (length v) 1 l); here = refl; bytes = λ s stored z. sym w } in
    subst (λ (u : Value). Taken v 1 from u) p.1 whole)
    (λ l. let z : None ≡ Some x = rw l at q in absurd (no_never x z))

-- a word
clean_word : (w x y z : ℕ) → NoSoh (w ∷ x ∷ y ∷ z ∷ []) → NoSoh (word_bytes w x y z)
clean_word w x y z n = (n.0, (n.1.0, (n.1.1.0, by)))
  where
    by : NoSoh (cond (eqb z 0) [] (z ∷ []))
    by = split (eqb z 0) (λ e. rw e tt) (λ e. rw e n.1.1.1)

word_few : (w x y z : ℕ) → length (word_bytes w x y z) ≤ 4
word_few w x y z = split (eqb z 0) (λ e. rw e (lit≤ tt)) (λ e. rw e (lit≤ tt))

taken_word : (v : List ℕ) (from : ℕ) (x : Value) (a b c d : ℕ) → NoSoh (a ∷ b ∷ c ∷ d ∷ []) → word_in a b c d v ≡ Some x → Taken v 4 from x
unfolding word_in
taken_word v from x a b c d n q =
    let p = cond_is (same_bytes v (word_bytes a b c d)) (Word a b c d) x q in
    let w = same_is v (word_bytes a b c d) p.0 in
    subst (λ (u : Value). Taken v 4 from u) p.1
    (record {
      clean = subst (λ (u : List ℕ). NoSoh u) (sym w) (clean_word a b c d n);
      few = omega (arith, ap length w, word_few a b c d);
      here = refl;
      bytes = λ s stored z. sym w;
    })

wider : (v : List ℕ) (m n from : ℕ) (x : Value) → m ≤ n → Taken v m from x → Taken v n from x
wider v m n from x h t = record { clean = t.clean; few = omega (arith, t.few); here = t.here; bytes = t.bytes }

taken_order_id : (v : List ℕ) (from : ℕ) (x : Value) → order_id_in v ≡ Some x → Taken v 9 from x
unfolding order_id_in word_in
taken_order_id v from x q =
    split (same_bytes v (78 ∷ 79 ∷ 78 ∷ 69 ∷ []))
    (λ t. let z : Some (Word 78 79 78 69) ≡ Some x = rw t at q in
    wider v 4 9 from x (omega arith) (taken_word v from x 78 79 78 69 ((λ e. omega (arith, e)), ((λ e. omega (arith, e)), ((λ e. omega (arith, e)), ((λ e. omega (arith, e)), tt)))) (rw t z)))
    (λ t. taken_number v from x 1 999999999 (rw t at q))

-- texts
taken_text : (v : List ℕ) (from : ℕ) (x : Value) (most low : ℕ) → 1 < low → text_in most low from v ≡ Some x → Taken v most from x
unfolding text_in
taken_text v from x most low n q =
    split (eqb (length v) 0)
    (λ t. let z : None ≡ Some x = rw t at q in absurd (no_never x z))
    (λ t.
    let q₂ : cond (ltb most (length v)) None (cond (all_from low v) (Some (Sent from (length v))) None) ≡ Some x = rw t at q in
    split (ltb most (length v))
    (λ u. let z : None ≡ Some x = rw u at q₂ in absurd (no_never x z))
    (λ u.
    let p = cond_is (all_from low v) (Sent from (length v)) x (rw u at q₂) in
    subst (λ (y : Value). Taken v most from y) p.1
    (record { clean = clean_from low v n p.0; few = omega (arith, ltb-false most (length v) u); here = refl; bytes = λ s stored z. z })))

place_says : (from len : ℕ) (q : Option ℕ) (x : Value) → place_in from len q ≡ Some x → SaidSo q x (λ n. Sent from len)
place_says from len (Some n) x e = record { said = n; says = refl; is = is_injective (Sent from len) x e }
place_says from len None x e = absurd (no_never x e)

taken_digits : (v : List ℕ) (from : ℕ) (x : Value) → place_in from (length v) (num_of 9 v) ≡ Some x → Taken v 9 from x
unfolding num_of is_number
taken_digits v from x q =
    let n = place_says from (length v) (num_of 9 v) x q in
    let p = cond_some (is_number 9 v) (number v) n.said n.says in
    let a = ltb 0 (length v) in
    let b = both_l (a && leb (length v) 9) (eqb (digit_run v) (length v)) p.0 in
    subst (λ (y : Value). Taken v 9 from y) n.is
    (record {
      clean = clean_digits v (eqb-true (digit_run v) (length v) (both_r (a && leb (length v) 9) (eqb (digit_run v) (length v)) p.0));
      few = leb-true (length v) 9 (both_r a (leb (length v) 9) b);
      here = refl;
      bytes = λ s stored z. z;
    })

-- yields and prices, and AvgPx
quote_says : (i : Instrument) (q : Option ℕ) (x : Value) → quote_in i q ≡ Some x → SaidSo q x (Level i)
quote_says i (Some n) x e = record { said = n; says = refl; is = is_injective (Level i n) x e }
quote_says i None x e = absurd (no_never x e)

average_says : (i : Instrument) (q : Option ℕ) (x : Value) → average_in i q ≡ Some x → SaidSo q x (Mean i)
average_says i (Some n) x e = record { said = n; says = refl; is = is_injective (Mean i n) x e }
average_says i None x e = absurd (no_never x e)

taken_quote : (i : Instrument) (v : List ℕ) (from : ℕ) (x : Value) → quote_in i (level_in i v) ≡ Some x → Taken v 11 from x
taken_quote i v from x q =
    let n = quote_says i (level_in i v) x q in
    let w = level_only i v n.said n.says in
    let r = level_within i v n.said n.says in
    subst (λ (y : Value). Taken v 11 from y) n.is
    (record {
      clean = subst (λ (u : List ℕ). NoSoh u) (sym w) (clean_level i n.said r.1);
      few = omega (arith, ap length w, level_length i n.said r.0 r.1);
      here = refl;
      bytes = λ s stored z. sym w;
    })

taken_average : (i : Instrument) (v : List ℕ) (from : ℕ) (x : Value) → average_in i (mean_in i v) ≡ Some x → Taken v 14 from x
taken_average i v from x q =
    let n = average_says i (mean_in i v) x q in
    let w = mean_only i v n.said n.says in
    let r = mean_within i v n.said n.says in
    subst (λ (y : Value). Taken v 14 from y) n.is
    (record {
      clean = subst (λ (u : List ℕ). NoSoh u) (sym w) (clean_mean i n.said r.1);
      few = omega (arith, ap length w, mean_length i n.said r.0 r.1);
      here = refl;
      bytes = λ s stored z. sym w;
    })

-- times
clean_by : (s : List ℕ) → ((i : ℕ) → i < length s → 32 ≤ get_or s i 0) → NoSoh s
clean_by [] h = tt
clean_by (b ∷ s) h = ((λ q. omega (arith, h 0 (omega arith))), clean_by s (λ i l. h (suc i) (omega arith)))

taken_time : (v : List ℕ) (from : ℕ) (x : Value) → time_in from v ≡ Some x → Taken v 21 from x
unfolding time_in
taken_time v from x q =
    let p = cond_is (is_time v) (Sent from (length v)) x q in
    subst (λ (y : Value). Taken v 21 from y) p.1
    (record { clean = clean_by v (time_low v p.0); few = time_short v p.0; here = refl; bytes = λ s stored z. z })

-- ---- whatever the shape
pub taken : (f : Shape) (from : ℕ) (v : List ℕ) (x : Value) → Proper f → value_in f from v ≡ Some x → Taken v (width_of f) from x
taken shape.Nothing from v x n q = absurd (no_never x q)
taken (shape.OneOf a b c d e) from v x n q = taken_one v from x a b c d e n q
taken (shape.Range least most) from v x n q = taken_number v from x least most q
taken (shape.Listed a b c d e f g h) from v x n q =
    let s = listed_says a b c d e f g h (bare_of 9 v) x q in
    subst (λ (y : Value). Taken v 9 from y) s.is (taken_bare v from s.said s.says)
taken (shape.Exact w x₁ y z) from v x n q = taken_word v from x w x₁ y z n q
taken shape.OrderId from v x n q = taken_order_id v from x q
taken (shape.Text most low) from v x n q = taken_text v from x most low n q
taken shape.Digits from v x n q = taken_digits v from x q
taken shape.Time from v x n q = taken_time v from x q
taken (shape.Level i) from v x n q = taken_quote i v from x q
taken (shape.Average i) from v x n q = taken_average i v from x q
