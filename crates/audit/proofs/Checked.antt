-- What the code that checks texts and the heading comes to, in the words of Market.
use Rattle.std.proofs.Common.{◌≡◌, ℕ, zero, suc, ◌+◌, ◌-◌, ◌*◌, ◌<◌, ◌≤◌, Bool, true, false, not, ◌&&◌, eqb, leb, List, [], ◌∷◌, length, get_or, take, drop, sym, refl, ap, ◌∙◌, zero-le, add-zero, add-one, arith, drop-cons, drop-drop, take-add, eq-eqb, ne_eqb, eqb-true, le-leb}
use mathlib.Core.Bool.{and-true, and-false}
use native.Mathlib.Nat.{sub-zero}
use borrow.Author.Tests.{not-true, not-false, lt-leb, eqb-false}
use Rattle.octets.specs.Octets.{le_at, part_at, text_at, all_zero}
use Rattle.octets.proofs.Bools.{split, both_not_r}
use Rattle.octets.proofs.Parts.{lent_part}
use Rattle.octets.proofs.Zeros.{zero_append}
use Rattle.decimal.specs.declared.Instrument.{Instrument}
use Rattle.decimal.specs.declared.Instrument.TheVariants.{Bonds, Equities}
use Rattle.decimal.specs.Reading.{is_digit, is_time}
use Rattle.table.specs.Places.{table_bytes}
use Rattle.table.specs.Heading.{work_of, stamp_of, instrument_of, mpid_at, mode_at}
use Rattle.table.specs.Orders.{filled}
use Rattle.table.specs.Market.{every, is_code_character, is_padded, is_text, has_names, is_cash, has_stamp, has_work}
use Rattle.audit.specs.Rows.{bounds_of, bound, between, is_filled, list_ends}
use Rattle.audit.proofs.Filled.{take_none, part_empty, part_more, row_bound}

-- ---- two numbers that were read are the same, or differ
pub differ_not : (a b x y : ℕ) → x ≡ a → y ≡ b → x ≡ y → not (eqb a b) ≡ false
differ_not a b x y p q e = rw (eq-eqb a b (sym p ∙ e ∙ q))

pub differ_yes : (a b x y : ℕ) → x ≡ a → y ≡ b → (x ≡ y → ⊥) → not (eqb a b) ≡ true
differ_yes a b x y p q n = rw (ne_eqb a b (λ e. n (p ∙ e ∙ sym q)))

-- ---- zeros: n bytes are zero exactly if their number is; parts in a row
both_zero : (x r : ℕ) → eqb (x + 256 * r) 0 ≡ (eqb x 0 && eqb r 0)
both_zero x r =
    split (eqb x 0)
    (λ e. split (eqb r 0)
    (λ f. rw (e, f) (eq-eqb (x + 256 * r) 0 (omega (arith, eqb-true x 0 e, eqb-true r 0 f))))
    (λ f. rw (e, f) (ne_eqb (x + 256 * r) 0 (λ z. eqb-false r 0 f (omega arith)))))
    (λ e. rw e (ne_eqb (x + 256 * r) 0 (λ z. eqb-false x 0 e (omega arith))))

number_zero : (n : ℕ) (t : List ℕ) (p : ℕ) → p + n ≤ length t → eqb (le_at n t p) 0 ≡ all_zero (part_at t p n)
unfolding le_at part_at all_zero
number_zero zero t p h = refl
number_zero (suc n) t p h =
    let turn : drop p t ≡ get_or t p 0 ∷ drop (p + 1) t = rw add-one (drop-cons t p 0 (omega arith)) in
    rw turn (both_zero (get_or t p 0) (le_at n t (p + 1)) ∙ ap (λ (b : Bool). eqb (get_or t p 0) 0 && b) (number_zero n t (p + 1) (omega arith)))

pub zeros_read : (n : ℕ) (t : List ℕ) (p r : ℕ) → r ≡ le_at n t p → p + n ≤ length t → eqb r 0 ≡ all_zero (part_at t p n)
zeros_read n t p r e h = rw e (number_zero n t p h)

zero_join : (t : List ℕ) (p m n : ℕ) {a b : Bool} → a ≡ all_zero (part_at t p m) → b ≡ all_zero (part_at t (p + m) n) → (a && b) ≡ all_zero (part_at t p (m + n))
unfolding part_at
zero_join t p m n e f = rw (e, f, take-add, zero_append, drop-drop)

-- the same where a sum is 0 exactly if each part of it is
sum_zero : (x y : ℕ) → eqb (x + y) 0 ≡ (eqb x 0 && eqb y 0)
sum_zero x y =
    split (eqb x 0)
    (λ e. split (eqb y 0)
    (λ f. rw (e, f) (eq-eqb (x + y) 0 (omega (arith, eqb-true x 0 e, eqb-true y 0 f))))
    (λ f. rw (e, f) (ne_eqb (x + y) 0 (λ z. eqb-false y 0 f (omega arith)))))
    (λ e. rw e (ne_eqb (x + y) 0 (λ z. eqb-false x 0 e (omega arith))))

-- two parts in a row: where the first is not zero the whole is not, and where it is the second tells
zero_first : (t : List ℕ) (p m n : ℕ) (a : Bool) → a ≡ all_zero (part_at t p m) → a ≡ false → false ≡ all_zero (part_at t p (m + n))
zero_first t p m n a e f = sym (ap (λ (b : Bool). b && all_zero (part_at t (p + m) n)) f) ∙ zero_join t p m n e refl

zero_second : (t : List ℕ) (p m n : ℕ) (a z : Bool) → a ≡ all_zero (part_at t p m) → a ≡ true → z ≡ all_zero (part_at t (p + m) n) → z ≡ all_zero (part_at t p (m + n))
zero_second t p m n a z e f g = sym (ap (λ (b : Bool). b && z) f) ∙ zero_join t p m n e g

-- the room of an account, by the sum of its first two numbers
module _ (t : List ℕ) (p a b : ℕ) (e : a ≡ le_at 4 t p) (f : b ≡ le_at 4 t (p + 4)) (l : p + 10 ≤ length t) where
  eight : eqb (a + b) 0 ≡ all_zero (part_at t p 8)
  eight = sum_zero a b ∙ zero_join t p 4 4 (zeros_read 4 t p a e (omega arith)) (zeros_read 4 t (p + 4) b f (omega arith))

  pub empty_not : (a + b ≡ 0 → ⊥) → false ≡ all_zero (part_at t p 10)
  empty_not n = zero_first t p 8 2 (eqb (a + b) 0) eight (ne_eqb (a + b) 0 n)

  pub empty_is : (z : Bool) → a + b ≡ 0 → z ≡ all_zero (part_at t (p + 8) 2) → z ≡ all_zero (part_at t p 10)
  empty_is z h g = zero_second t p 8 2 (eqb (a + b) 0) z eight (eq-eqb (a + b) 0 h) g

-- the unused bytes, by the first 32 of them
module _ (t : List ℕ) (p : ℕ) (a : Bool) (e : a ≡ all_zero (take (p + 32 - p) (drop p t))) where
  most : a ≡ all_zero (part_at t p 32)
  most = e ∙ ap all_zero (lent_part t p 32)

  pub unused_not : not a ≡ true → false ≡ all_zero (part_at t p 34)
  unused_not n = zero_first t p 32 2 a most (not-true a n)

  pub unused_is : (z : Bool) → not a ≡ false → z ≡ all_zero (part_at t (p + 32) 2) → z ≡ all_zero (part_at t p 34)
  unused_is z n g = zero_second t p 32 2 a z most (not-false a n) g

-- ---- a loop that has found nothing from entry n up to entry k: at the start, one turn on, where it stops, and at the end
mpids_turn : (t : List ℕ) (k : ℕ) → length t ≡ table_bytes → k < 8
    → all_zero (part_at t (56 + 4 * k) (4 * (8 - k))) ≡ (eqb (mpid_at t k) 0 && all_zero (part_at t (56 + 4 * (k + 1)) (4 * (8 - (k + 1)))))
mpids_turn t k s l =
    let a : 4 * (8 - k) ≡ 4 + 4 * (8 - (k + 1)) = omega arith in
    let b : 56 + 4 * (k + 1) ≡ 56 + 4 * k + 4 = omega arith in
    rw (a, b) (sym (zero_join t (56 + 4 * k) 4 (4 * (8 - (k + 1))) (number_zero 4 t (56 + 4 * k) (omega arith)) refl))

modes_turn : (t : List ℕ) (k : ℕ) → length t ≡ table_bytes → k < 8
    → all_zero (part_at t (88 + k) (8 - k)) ≡ (eqb (mode_at t k) 0 && all_zero (part_at t (88 + (k + 1)) (8 - (k + 1))))
unfolding all_zero
modes_turn t k s l =
    let a : 8 - k ≡ suc (8 - (k + 1)) = omega arith in
    let b : 88 + k + 1 ≡ 88 + (k + 1) = omega arith in
    rw (a, part_more t (88 + k) (8 - (k + 1)) (omega arith), b)

pub record Ending (t : List ℕ) (n k : ℕ) : Type 0 where
  pub within : k ≤ 8
  pub left : list_ends t k ≡ list_ends t n

pub ending_none : {t : List ℕ} {n : ℕ} → n ≤ 8 → Ending t n n
ending_none l = record { within = l; left = refl }

module _ {t : List ℕ} {n k m d : ℕ} (s : length t ≡ table_bytes) (p : Ending t n k) (l : k < 8) (e : m ≡ mpid_at t k) (f : d ≡ mode_at t k) where
  pub ending_more : m + d ≡ 0 → Ending t n (k + 1)
  unfolding list_ends
  ending_more z =
      let a : m ≡ 0 = omega arith in
      let b : d ≡ 0 = omega arith in
      let turn : list_ends t k ≡ list_ends t (k + 1) = rw (mpids_turn t k s l, modes_turn t k s l, ← e, ← f, a, b) in
      record { within = omega arith; left = sym turn ∙ p.left }

  pub ending_stop : (m + d ≡ 0 → ⊥) → false ≡ list_ends t n
  unfolding list_ends
  ending_stop z =
      let both : (eqb m 0 && eqb d 0) ≡ false = sym (sum_zero m d) ∙ ne_eqb (m + d) 0 z in
      let turn : list_ends t k ≡ false =
      rw (mpids_turn t k s l, modes_turn t k s l, ← e, ← f) (split (eqb m 0)
      (λ g. let h : eqb d 0 ≡ false = rw g at both in rw (g, h, and-false))
      (λ g. rw g)) in
      sym turn ∙ p.left

pub ending_end : {t : List ℕ} {n k : ℕ} → Ending t n k → 8 ≤ k → true ≡ list_ends t n
unfolding list_ends all_zero
ending_end {t} {n} {k} p l =
    let e : k ≡ 8 = omega (arith, p.within) in
    let none : list_ends t 8 ≡ true = rw (part_empty t (56 + 4 * 8), part_empty t (88 + 8)) in
    sym (ap (list_ends t) e ∙ none) ∙ p.left

-- ---- CashMargin and MarginTransactionType: a bond order has neither
part_two : (t : List ℕ) (p : ℕ) → p + 2 ≤ length t → part_at t p 2 ≡ get_or t p 0 ∷ get_or t (p + 1) 0 ∷ []
unfolding part_at
part_two t p l =
    let a : drop p t ≡ get_or t p 0 ∷ drop (p + 1) t = rw add-one (drop-cons t p 0 (omega arith)) in
    let b : drop (p + 1) t ≡ get_or t (p + 1) 0 ∷ drop (suc (p + 1)) t = drop-cons t (p + 1) 0 (omega arith) in
    rw (a, b, take_none (drop (suc (p + 1)) t))

pub cash_bonds : (t : List ℕ) (p r : ℕ) (z : Bool) → r ≡ p + 92 → p + 94 ≤ length t → z ≡ all_zero (part_at t r 2) → z ≡ is_cash Bonds (get_or t (p + 92) 0) (get_or t (p + 93) 0)
unfolding is_cash all_zero
cash_bonds t p r z d l e =
    let one : p + 92 + 1 ≡ p + 93 = omega arith in
    e ∙ rw (d, part_two t (p + 92) (omega arith), one, and-true)

pub cash_equities : (t : List ℕ) (p r cash margin : ℕ) (c : Bool) → r ≡ p + 92 → cash ≡ get_or t r 0 → margin ≡ get_or t (r + 1) 0 → c ≡ is_cash Equities cash margin
    → c ≡ is_cash Equities (get_or t (p + 92) 0) (get_or t (p + 93) 0)
cash_equities t p r cash margin c d e f g =
    let one : p + 92 + 1 ≡ p + 93 = omega arith in
    g ∙ rw (e, f, d, one)

-- ---- a text of no bytes is zeros in all its room
pub text_empty : (f : ℕ → Bool) (room : ℕ) (t : List ℕ) (p n : ℕ) (z : Bool) → n ≡ get_or t p 0 → n ≡ 0 → z ≡ all_zero (part_at t (p + 1) room)
    → z ≡ is_text f 0 room t p
unfolding is_text is_padded text_at every
text_empty f room t p n z d e h =
    let g : get_or t p 0 ≡ 0 = sym d ∙ e in
    h ∙ rw (g, part_empty, add-zero, sub-zero, le-leb 0 room zero-le)

-- ---- a text: too short, too long, or tested by its bytes and the zeros behind it
module _ (f : ℕ → Bool) (least room : ℕ) (t : List ℕ) (p n : ℕ) (e : n ≡ get_or t p 0) where
  pub text_short : n < least → false ≡ is_text f least room t p
  unfolding is_text
  text_short l = rw (← e, lt-leb least n l)

  pub text_long : room < n → false ≡ is_text f least room t p
  unfolding is_text
  text_long l = rw (← e, lt-leb n room l, both_not_r (leb least n) false refl)

pub text_whole : (low span : List ℕ) (least room : ℕ) (t : List ℕ) (p n : ℕ) (r : Bool) → n ≡ get_or t p 0 → least ≤ n → n ≤ room
    → r ≡ is_filled low span room t (p + 1) n → r ≡ is_text (between low span) least room t p
unfolding is_text is_padded is_filled text_at
text_whole low span least room t p n r e l m g = g ∙ rw (← e, le-leb least n l, le-leb n room m)

-- ---- the bounds of two rows that are known
pub text_of : (x y least room : ℕ) (t : List ℕ) (p : ℕ) (low span : List ℕ) (a : Bool) → low ≡ bounds_of x → span ≡ bounds_of y
    → a ≡ is_text (between low span) least room t p → a ≡ is_text (λ c. leb x c && leb c (x + y)) least room t p
text_of x y least room t p low span a e f h =
    h ∙ ap (λ (b : ℕ). is_text (λ c. leb b c && leb c (b + bound span)) least room t p) (row_bound low x e)
    ∙ ap (λ (b : ℕ). is_text (λ c. leb x c && leb c (x + b)) least room t p) (row_bound span y f)

-- ---- the heading: the names, the code by what the market trades
module _ (t low span : List ℕ) (q : Instrument) (a : Bool) where
  pub code_digits : q ≡ Bonds → low ≡ bounds_of 48 → span ≡ bounds_of 9 → a ≡ is_text (between low span) 1 9 t 18 → a ≡ is_text (is_code_character q) 1 9 t 18
  unfolding is_code_character is_digit
  code_digits k e f h = rw k (text_of 48 9 1 9 t 18 low span a e f h)

  pub code_graphic : q ≡ Equities → low ≡ bounds_of 33 → span ≡ bounds_of 93 → a ≡ is_text (between low span) 1 9 t 18 → a ≡ is_text (is_code_character q) 1 9 t 18
  unfolding is_code_character
  code_graphic k e f h = rw k (text_of 33 93 1 9 t 18 low span a e f h)

pub names_are : (t : List ℕ) (q : Instrument) (low span : List ℕ) (a b c : Bool) → q ≡ instrument_of t → low ≡ bounds_of 33 → span ≡ bounds_of 93
    → a ≡ is_text (between low span) 1 8 t 0 → b ≡ is_text (between low span) 1 8 t 9 → c ≡ is_text (is_code_character q) 1 9 t 18 → (a && b && c) ≡ has_names t
unfolding has_names
names_are t q low span a b c e l m f g h = rw (text_of 33 93 1 8 t 0 low span a l m f, text_of 33 93 1 8 t 9 low span b l m g, h, e)

-- ---- the order in work and its 52
module _ (t : List ℕ) (w : ℕ) (e : w ≡ work_of t) where
  pub stamp_none : (xs : List ℕ) (r : Bool) → w ≡ 0 → xs ≡ part_at t 33 22 → r ≡ all_zero xs → r ≡ has_stamp t
  unfolding has_stamp
  stamp_none xs r z x h =
      let g : work_of t ≡ 0 = sym e ∙ z in
      h ∙ rw (x, g)

  pub stamp_some : (m k : ℕ) (s ys : List ℕ) (a z : Bool) → (w ≡ 0 → ⊥) → m ≡ get_or t 33 0 → k ≡ 21 - m → s ≡ stamp_of t
      → ys ≡ part_at t (34 + m) k → a ≡ is_time s → z ≡ all_zero ys → (a && z) ≡ has_stamp t
  unfolding has_stamp is_padded
  stamp_some m k s ys a z some f g x y h i =
      let b : eqb (work_of t) 0 ≡ false = rw e at (ne_eqb w 0 some) in
      rw (h, i, x, y, g, f, b)

  pub work_is : (n : ℕ) (a : Bool) → n ≡ filled t → a ≡ has_stamp t → (leb w n && a) ≡ has_work t
  unfolding has_work
  work_is n a d f = rw (f, d, e)
