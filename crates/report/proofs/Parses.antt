-- Reading fields slot by slot: what each answer rests on, and what the loop over the slots knows after i of them.
use Prim.Native.Nat.{ℕ, suc, ◌+◌, ◌-◌, ◌^◌, ◌≤◌, ◌<◌}
use mathlib.Core.Path.{◌≡◌, refl, sym, ap, ◌∙◌}
use mathlib.Core.Bool.{Bool, true, false, cond}
use mathlib.Core.List.{List, [], ◌∷◌, ◌++◌}
use native.Mathlib.Omega.{arith}
use native.Mathlib.Numerals.{add-one}
use lib.Dec.{ltb}
use lib.ListN.{length, take, drop, get_or, set, replicate, length-drop, length-append, drop_of_length-le}
use lib.Seq.{drop-cons, set_at, append_snoc}
use mir.Syntax.{w64}
use mir.Val.{Fits}
use borrow.Author.Tests.{lt-ltb, le-ltb, ltb-true}
use Rattle.octets.proofs.Bools.{split}
use Rattle.decimal.specs.Writing.{decimal}
use Rattle.report.proofs.Labels.{starts_length, label_length}
use Rattle.report.specs.declared.Value.{Value}
use Rattle.report.specs.declared.Value.TheVariants.{Absent}
use Rattle.report.specs.declared.Field.{Field}
use Rattle.report.specs.declared.Shape.{Shape}
use Rattle.report.specs.declared.Slot.{Slot}
use Rattle.report.specs.declared.Got.{Got}
use Rattle.report.specs.Fields.{field, label}
use Rattle.report.specs.Shapes.{value_in}
use Rattle.report.specs.Parse.{starts, len_to, got_of, value_at, field_at, Rows, row, bad, cons_row, next_rows, read_row, found}
use Rattle.std.proofs.Common.{Option, Some, None, option_map, unwrap_or}

-- ---- values
module _ (s : List ℕ) (v : ℕ) (shape : Shape) (e : ℕ) (k : e ≡ v + len_to (drop v s)) where
  pub value_none : length s ≤ e → None ≡ value_at s v shape
  unfolding value_at
  value_none h = rw (← k, le-ltb e (length s) h)

  module _ (h : e < length s) (p : Option Value) (q : p ≡ value_in shape v (take (e - v) (drop v s))) where
    pub value_is : got_of p (e + 1) ≡ value_at s v shape
    unfolding value_at
    value_is =
        let l : len_to (drop v s) ≡ e - v = omega (arith, k) in
        let m : v + (e - v) ≡ e = omega (arith, k) in
        rw (l, m, lt-ltb e (length s) h, q)

    pub value_yes : (x : Value) → p ≡ Some x → found x (e + 1) ≡ value_at s v shape
    value_yes x i = sym (ap (λ w. got_of w (e + 1)) i) ∙ value_is

    pub value_no : p ≡ None → None ≡ value_at s v shape
    value_no i = sym (ap (λ w. got_of w (e + 1)) i) ∙ value_is

-- ---- fields
module _ (s : List ℕ) (at tag k : ℕ) (e : k ≡ length (decimal tag)) (h : at ≤ length s) (t : Bool) (st : t ≡ starts (label tag) (drop at s)) where
  pub label_within : t ≡ true → at + k + 1 ≤ length s
  label_within y = omega (arith, starts_length (label tag) (drop at s) (sym st ∙ y), label_length tag, length-drop at s)

  pub label_fits : length s < 2 ^ 64 → t ≡ true → Fits w64 (at + k)
  label_fits l y = record { fits = omega (arith, label_within y) }

  pub value_fits : length s < 2 ^ 64 → t ≡ true → Fits w64 (at + k + 1)
  value_fits l y = record { fits = omega (arith, label_within y) }

  pub end_there : t ≡ true → (n : ℕ) → n ≡ at + k + 1 + len_to (drop (at + k + 1) s) → n ≡ cond (starts (label tag) (drop at s)) (at + k + 1 + len_to (drop (at + k + 1) s)) at
  end_there y n q = rw (sym st ∙ y) q

  pub end_none : t ≡ false → at ≡ cond (starts (label tag) (drop at s)) (at + k + 1 + len_to (drop (at + k + 1) s)) at
  end_none n = rw (sym st ∙ n)

module _ (s : List ℕ) (at : ℕ) (slot : Slot) (k : ℕ) (e : k ≡ length (decimal slot.tag)) (h : at ≤ length s) (t : Bool) (st : t ≡ starts (label slot.tag) (drop at s)) where
  pub field_yes : t ≡ true → (g : Option Got) → g ≡ value_at s (at + k + 1) slot.shape → g ≡ field_at s at slot
  unfolding field_at
  field_yes y g q =
      let v : at + length (label slot.tag) ≡ at + k + 1 = omega (arith, label_length slot.tag) in
      rw (sym st ∙ y, v) q

  pub field_skip : t ≡ false → slot.optional ≡ true → found Absent at ≡ field_at s at slot
  unfolding field_at
  field_skip n o = rw (sym st ∙ n, o)

  pub field_wrong : t ≡ false → slot.optional ≡ false → None ≡ field_at s at slot
  unfolding field_at
  field_wrong n o = rw (sym st ∙ n, o)

-- the field at a place, by where its value ends
module _ (s : List ℕ) (at : ℕ) (slot : Slot) (k : ℕ) (ke : k ≡ length (decimal slot.tag)) (h : at ≤ length s) (e : ℕ) (q : e ≡ cond (starts (label slot.tag) (drop at s)) (at + k + 1 + len_to (drop (at + k + 1) s)) at) where
  there : at < e → starts (label slot.tag) (drop at s) ≡ true
  there l = split (starts (label slot.tag) (drop at s)) (λ t. t) (λ t. let z : e ≡ at = rw t at q in absurd (omega arith))

  nowhere : e ≤ at → starts (label slot.tag) (drop at s) ≡ false
  nowhere l =
      split (starts (label slot.tag) (drop at s))
      (λ t. let z : e ≡ at + k + 1 + len_to (drop (at + k + 1) s) = rw t at q in absurd (omega arith))
      (λ t. t)

  pub there_fits : length s < 2 ^ 64 → at < e → Fits w64 (at + k)
  there_fits f l = label_fits s at slot.tag k ke h true (sym (there l)) f refl

  pub there_from : length s < 2 ^ 64 → at < e → Fits w64 (at + k + 1)
  there_from f l = value_fits s at slot.tag k ke h true (sym (there l)) f refl

  pub there_ends : at < e → e ≡ at + k + 1 + len_to (drop (at + k + 1) s)
  there_ends l = rw (there l) at q

  pub there_yes : at < e → (g : Option Got) → g ≡ value_at s (at + k + 1) slot.shape → g ≡ field_at s at slot
  there_yes l = field_yes s at slot k ke h true (sym (there l)) refl

  pub there_skip : e ≤ at → slot.optional ≡ true → found Absent at ≡ field_at s at slot
  there_skip l = field_skip s at slot k ke h false (sym (nowhere l)) refl

  pub there_wrong : e ≤ at → slot.optional ≡ false → None ≡ field_at s at slot
  there_wrong l = field_wrong s at slot k ke h false (sym (nowhere l)) refl

-- what was found is one value at one place
pub found_next : (x y : Value) (m n : ℕ) → found x m ≡ found y n → n ≡ m
found_next x y m n e = sym (ap (λ (g : Option Got). unwrap_or (option_map (λ h. h.next) g) 0) e)

pub found_value : (x y : Value) (m n : ℕ) → found x m ≡ found y n → x ≡ y
found_value x y m n e = ap (λ (g : Option Got). unwrap_or (option_map (λ h. h.value) g) Absent) e

-- the place behind a field is within the bytes
module _ (s : List ℕ) (x : Value) (n : ℕ) where
  got_within : (p : Option Value) (t : Bool) (m : ℕ) → ltb m (length s) ≡ t → cond t (got_of p (m + 1)) None ≡ found x n → n ≤ length s
  got_within (Some y) true m e q = omega (arith, found_next y x (m + 1) n q, ltb-true m (length s) e)
  got_within None true m e q = let z : ◌≡◌ {A = ℕ} 0 1 = cc in absurd (omega arith)
  got_within p false m e q = let z : ◌≡◌ {A = ℕ} 0 1 = cc in absurd (omega arith)

  value_within : (v : ℕ) (shape : Shape) → value_at s v shape ≡ found x n → n ≤ length s
  unfolding value_at
  value_within v shape e = got_within (value_in shape v (take (len_to (drop v s)) (drop v s))) (ltb (v + len_to (drop v s)) (length s)) (v + len_to (drop v s)) refl e

  skip_within : (at : ℕ) (o : Bool) → at ≤ length s → cond o (found Absent at) None ≡ found x n → n ≤ length s
  skip_within at true h e = omega (arith, found_next Absent x at n e)
  skip_within at false h e = let z : ◌≡◌ {A = ℕ} 0 1 = cc in absurd (omega arith)

  pub field_within : (at : ℕ) (slot : Slot) → at ≤ length s → field_at s at slot ≡ found x n → n ≤ length s
  unfolding field_at
  field_within at slot h e =
      split (starts (label slot.tag) (drop at s))
      (λ t. value_within (at + length (label slot.tag)) slot.shape (rw t at e))
      (λ t. skip_within at slot.optional h (rw t at e))

-- ---- rows: fields that were read before the rest
abbrev pub prepend : List Field → Rows → Rows
prepend [] r = r
prepend (y ∷ ys) r = cons_row y (prepend ys r)

prepend_snoc : (ys : List Field) (x : Field) (r : Rows) → prepend (ys ++ (x ∷ [])) r ≡ prepend ys (cons_row x r)
prepend_snoc [] x r = refl
prepend_snoc (y ∷ ys) x r = ap (cons_row y) (prepend_snoc ys x r)

prepend_bad : (ys : List Field) → prepend ys bad ≡ bad
prepend_bad [] = refl
prepend_bad (y ∷ ys) = ap (cons_row y) (prepend_bad ys)

prepend_row : (ys xs : List Field) (n : ℕ) → prepend ys (row xs n) ≡ row (ys ++ xs) n
prepend_row [] xs n = refl
prepend_row (y ∷ ys) xs n = ap (cons_row y) (prepend_row ys xs n)

-- what the loop knows after i turns
pub record SoFar (s : List ℕ) (at : ℕ) (slots : List Slot) (fields : List Field) (next i : ℕ) : Type 0 where
  pub read : List Field
  pub many : length read ≡ i
  pub stored : fields ≡ read ++ replicate (36 - i) (field 0 Absent)
  pub rest : read_row s at slots ≡ prepend read (read_row s next (drop i slots))
  pub all : length slots ≡ 36
  pub few : i ≤ 36
  pub within : next ≤ length s

pub so_first : (s : List ℕ) (at : ℕ) (slots : List Slot) → at ≤ length s → length slots ≡ 36 → SoFar s at slots (replicate 36 (field 0 Absent)) at 0
so_first s at slots h l = record { read = []; many = refl; stored = refl; rest = refl; all = l; few = omega arith; within = h }

module _ (s : List ℕ) (at : ℕ) (slots : List Slot) (fields : List Field) (next i : ℕ) (f : SoFar s at slots fields next i) where
  pub so_done : 36 ≤ i → read_row s at slots ≡ row fields next
  so_done h =
      let z : 36 - i ≡ 0 = omega (arith, h) in
      f.rest
      ∙ ap (λ (q : List Slot). prepend f.read (read_row s next q)) (drop_of_length-le slots {i = i} (omega (arith, h, f.all)))
      ∙ prepend_row f.read [] next
      ∙ ap (λ (q : List Field). row q next) (ap (λ (m : ℕ). f.read ++ replicate m (field 0 Absent)) (sym z) ∙ sym f.stored)

  module _ (h : i < 36) (d : Slot) where
    here : read_row s at slots ≡ prepend f.read (next_rows (get_or slots i d).tag (field_at s next (get_or slots i d)) (λ m. read_row s m (drop (suc i) slots)))
    here = f.rest ∙ ap (λ (q : List Slot). prepend f.read (read_row s next q)) (drop-cons slots i d (omega (arith, f.all)))

    pub so_wrong : field_at s next (get_or slots i d) ≡ None → read_row s at slots ≡ bad
    so_wrong e =
        here
        ∙ ap (λ (g : Option Got). prepend f.read (next_rows (get_or slots i d).tag g (λ m. read_row s m (drop (suc i) slots)))) e
        ∙ prepend_bad f.read

    pub so_more : (x : Value) (n : ℕ) → field_at s next (get_or slots i d) ≡ found x n → SoFar s at slots (set fields i (field (get_or slots i d).tag x)) n (i + 1)
    so_more x n e =
        let r : 36 - i ≡ suc (36 - (i + 1)) = omega (arith, h) in
        let y : Field = field (get_or slots i d).tag x in
        record {
          read = f.read ++ (y ∷ []);
          many = omega (arith, length-append f.read (y ∷ []), f.many);
          stored =
              ap (λ (q : List Field). set q i y) (f.stored ∙ ap (λ (m : ℕ). f.read ++ replicate m (field 0 Absent)) r)
              ∙ set_at f.read (field 0 Absent) (replicate (36 - (i + 1)) (field 0 Absent)) y i f.many
              ∙ sym (append_snoc f.read y (replicate (36 - (i + 1)) (field 0 Absent)));
          rest =
              here
              ∙ ap (λ (g : Option Got). prepend f.read (next_rows (get_or slots i d).tag g (λ m. read_row s m (drop (suc i) slots)))) e
              ∙ sym (prepend_snoc f.read y (read_row s n (drop (suc i) slots)))
              ∙ ap (λ (j : ℕ). prepend (f.read ++ (y ∷ [])) (read_row s n (drop j slots))) (sym (add-one i));
          all = f.all;
          few = omega arith;
          within = field_within s x n next (get_or slots i d) f.within e;
        }
