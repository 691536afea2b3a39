-- A value that a shape takes at one place it takes at every other: only the place of a text is another then.
use Prim.Native.Nat.{ℕ}
use mathlib.Core.Path.{◌≡◌, refl, sym, ap, ◌∙◌}
use mathlib.Core.Bool.{Bool, true, false, cond, ◌||◌, false≢true}
use mathlib.Core.List.{List, [], ◌∷◌}
use native.Mathlib.Omega.{arith}
use lib.Dec.{ltb, eqb}
use lib.ListN.{length, get_or}
use Rattle.octets.specs.Octets.{part_at, same_bytes}
use Rattle.decimal.specs.declared.Instrument.{Instrument}
use Rattle.decimal.specs.Reading.{num_of, is_time}
use Rattle.decimal.specs.Canonical.{bare_of, within, level_in, mean_in}
use Rattle.report.specs.declared.Value.{Value}
use Rattle.report.specs.declared.Value.TheVariants.{Absent, Number, Char, Word, Sent, Stored, Level, Mean}
use Rattle.report.specs.declared.Shape.{Shape}
use Rattle.report.specs.declared.Shape.TheVariants as shape
use Rattle.report.specs.Fields.{word_bytes}
use Rattle.report.specs.Shapes.{one_in, number_in, listed_in, word_in, order_id_in, all_from, text_in, place_in, time_in, quote_in, average_in, value_in}
use Rattle.report.proofs.Back.{moved}
use Rattle.std.proofs.Common.{Option, Some, None}

pub is_never : (x : Value) → None ≡ Some x → ⊥
is_never x e = let z : ◌≡◌ {A = ℕ} 0 1 = cc in omega arith

pub is_same : (x y : Value) → Some x ≡ Some y → x ≡ y
is_same x y e = cc

-- ---- what is no text
abbrev plain : Value → Bool
plain Absent = true
plain (Number n) = true
plain (Char c) = true
plain (Word w x y z) = true
plain (Sent from len) = false
plain (Stored from len) = false
plain (Level q level) = true
plain (Mean q mean) = true

abbrev plainly : Option Value → Bool
plainly (Some v) = plain v
plainly None = true

plain_cond : (t : Bool) (p q : Option Value) → plainly p ≡ true → plainly q ≡ true → plainly (cond t p q) ≡ true
plain_cond true p q e f = e
plain_cond false p q e f = f

plain_one : (a b c d e : ℕ) (v : List ℕ) → plainly (one_in a b c d e v) ≡ true
unfolding one_in
plain_one a b c d e v =
    plain_cond (eqb (length v) 1) _ None
    (plain_cond (eqb (get_or v 0 0) a || eqb (get_or v 0 0) b || eqb (get_or v 0 0) c || eqb (get_or v 0 0) d || eqb (get_or v 0 0) e) (Some (Char (get_or v 0 0))) None refl refl)
    refl

plain_number : (q : Option ℕ) → plainly (number_in q) ≡ true
plain_number (Some n) = refl
plain_number None = refl

plain_listed : (a b c d e f g h : ℕ) (q : Option ℕ) → plainly (listed_in a b c d e f g h q) ≡ true
plain_listed a b c d e f g h (Some n) =
    plain_cond (eqb n a || eqb n b || eqb n c || eqb n d || eqb n e || eqb n f || eqb n g || eqb n h) (Some (Number n)) None refl refl
plain_listed a b c d e f g h None = refl

plain_word : (w x y z : ℕ) (v : List ℕ) → plainly (word_in w x y z v) ≡ true
unfolding word_in
plain_word w x y z v = plain_cond (same_bytes v (word_bytes w x y z)) (Some (Word w x y z)) None refl refl

plain_order_id : (v : List ℕ) → plainly (order_id_in v) ≡ true
unfolding order_id_in
plain_order_id v = plain_cond (same_bytes v (78 ∷ 79 ∷ 78 ∷ 69 ∷ [])) (Some (Word 78 79 78 69)) (number_in (within 1 999999999 (bare_of 9 v))) refl (plain_number (within 1 999999999 (bare_of 9 v)))

plain_quote : (i : Instrument) (q : Option ℕ) → plainly (quote_in i q) ≡ true
plain_quote i (Some n) = refl
plain_quote i None = refl

plain_average : (i : Instrument) (q : Option ℕ) → plainly (average_in i q) ≡ true
plain_average i (Some n) = refl
plain_average i None = refl

module _ (s stored : List ℕ) (place : ℕ) where
  moved_plain : (v : Value) → plain v ≡ true → moved s stored place v ≡ v
  moved_plain Absent e = refl
  moved_plain (Number n) e = refl
  moved_plain (Char c) e = refl
  moved_plain (Word w x y z) e = refl
  moved_plain (Sent from len) e = absurd (false≢true e)
  moved_plain (Stored from len) e = absurd (false≢true e)
  moved_plain (Level q level) e = refl
  moved_plain (Mean q mean) e = refl

  same_plain : (p : Option Value) (x : Value) → plainly p ≡ true → p ≡ Some x → p ≡ Some (moved s stored place x)
  same_plain p x h e = e ∙ ap (λ (v : Value). Some v) (sym (moved_plain x (sym (ap plainly e) ∙ h)))

  -- ---- what is a text
  same_text : (a b c : Bool) (from len : ℕ) (x : Value) → length (part_at s from len) ≡ len → cond a None (cond b None (cond c (Some (Sent from len)) None)) ≡ Some x
      → cond a None (cond b None (cond c (Some (Sent place len)) None)) ≡ Some (moved s stored place x)
  same_text true b c from len x h e = absurd (is_never x e)
  same_text false true c from len x h e = absurd (is_never x e)
  same_text false false false from len x h e = absurd (is_never x e)
  same_text false false true from len x h e =
      ap (λ (k : ℕ). Some (Sent place k)) (sym h) ∙ ap (λ (v : Value). Some (moved s stored place v)) (is_same (Sent from len) x e)

  same_digits : (q : Option ℕ) (from len : ℕ) (x : Value) → length (part_at s from len) ≡ len → place_in from len q ≡ Some x → place_in place len q ≡ Some (moved s stored place x)
  same_digits (Some n) from len x h e = same_text false false true from len x h e
  same_digits None from len x h e = absurd (is_never x e)

  -- ---- whatever the shape
  pub again : (f : Shape) (from : ℕ) (v : List ℕ) (x : Value) → length (part_at s from (length v)) ≡ length v → value_in f from v ≡ Some x
      → value_in f place v ≡ Some (moved s stored place x)
  unfolding text_in time_in
  again shape.Nothing from v x h e = absurd (is_never x e)
  again (shape.OneOf a b c d g) from v x h e = same_plain (one_in a b c d g v) x (plain_one a b c d g v) e
  again (shape.Range least most) from v x h e = same_plain (number_in (within least most (bare_of 9 v))) x (plain_number (within least most (bare_of 9 v))) e
  again (shape.Listed a b c d g i j k) from v x h e = same_plain (listed_in a b c d g i j k (bare_of 9 v)) x (plain_listed a b c d g i j k (bare_of 9 v)) e
  again (shape.Exact w y z u) from v x h e = same_plain (word_in w y z u v) x (plain_word w y z u v) e
  again shape.OrderId from v x h e = same_plain (order_id_in v) x (plain_order_id v) e
  again (shape.Text most low) from v x h e = same_text (eqb (length v) 0) (ltb most (length v)) (all_from low v) from (length v) x h e
  again shape.Digits from v x h e = same_digits (num_of 9 v) from (length v) x h e
  again shape.Time from v x h e = same_text false false (is_time v) from (length v) x h e
  again (shape.Level i) from v x h e = same_plain (quote_in i (level_in i v)) x (plain_quote i (level_in i v)) e
  again (shape.Average i) from v x h e = same_plain (average_in i (mean_in i v)) x (plain_average i (mean_in i v)) e
