-- The list of fields, step by step: what a cursor's step says of the fields that are left.
use Rattle.std.proofs.Common.{◌≡◌, ℕ, zero, suc, ◌+◌, ◌-◌, ◌<◌, ◌≤◌, Bool, true, false, cond, eqb, ltb, List, [], ◌∷◌, length, get_or, drop, sym, refl, ap, ◌∙◌, subst, not-suc-le-zero, add-zero, add-suc, suc-add, arith, length-drop, drop_of_length-le, drop-drop, ltb-false, ltb-true, eqb-true}
use lib.Seq.{drop-nil}
use borrow.Author.Tests.{eqb-false}
use Rattle.octets.proofs.Bools.{split}
use Rattle.fix.specs.declared.fields.Cursor.{Cursor}
use Rattle.fix.specs.declared.fields.Field.{Field}
use Rattle.fix.specs.declared.fields.Field.TheVariants.{Good, Broken, End}
use Rattle.fix.specs.Fields.{Fld, field_of, step_of, fields_after, fields_from, value_from, value_len}
use Rattle.fix.proofs.Spelling.{there}

-- ---- the list, past the bytes of a field
fields_skip : (k at : ℕ) (s : List ℕ) → fields_after k at s ≡ fields_after 0 (at + k) (drop k s)
unfolding fields_after
fields_skip k at [] = rw drop-nil
fields_skip zero at (b ∷ s) = rw add-zero
fields_skip (suc k) at (b ∷ s) = fields_skip k (suc at) s ∙ rw (suc-add, add-suc)

fields_over : (at : ℕ) (s : List ℕ) → fields_after (length s) at s ≡ []
unfolding fields_after
fields_over at [] = refl
fields_over at (b ∷ s) = fields_over (suc at) s

-- what s starts with is a field: the list goes on past its SOH
fields_more : (at : ℕ) (s : List ℕ) → 0 < length s → eqb (field_of at s).tag 0 ≡ false
    → fields_after 0 at s ≡ field_of at s ∷ fields_after 0 (suc at + (value_from s + (field_of at s).len)) (drop (suc (value_from s + (field_of at s).len)) s)
unfolding fields_after
fields_more at [] h e = absurd (not-suc-le-zero h)
fields_more at (b ∷ s) h e = rw e (ap (λ (l : List Fld). field_of at (b ∷ s) ∷ l) (fields_skip _ (suc at) s))

-- it is none: the list ends
fields_stop : (at : ℕ) (s : List ℕ) → 0 < length s → eqb (field_of at s).tag 0 ≡ true → fields_after 0 at s ≡ field_of at s ∷ []
unfolding fields_after
fields_stop at [] h e = absurd (not-suc-le-zero h)
fields_stop at (b ∷ s) h e = rw e (ap (λ (l : List Fld). field_of at (b ∷ s) ∷ l) (fields_over (suc at) s))

-- a part of a part, by its place in s
onward : (at j k m : ℕ) (s : List ℕ) → k ≡ m → at + j ≡ m → fields_after 0 k (drop j (drop at s)) ≡ fields_from m s
unfolding fields_from
onward at j k m s p q = rw (drop-drop, p, q)

-- ---- what a step that gave a field says
pub record Stepped (s : List ℕ) (at t start len next : ℕ) : Type 0 where
  pub fields : fields_from at s ≡ record { tag = t; start = start; len = len } ∷ fields_from next s
  pub ahead : at < next
  pub within : next ≤ length s
  pub value : start + len + 1 ≡ next
  pub some : t ≡ 0 → ⊥

-- what each answer of a step says of the fields that are left
abbrev pub Says : List ℕ → ℕ → Field → Type 0
Says s at (Good t start len next) = Stepped s at t start len next.at
Says s at Broken = fields_from at s ≡ record { tag = 0; start = (field_of at (drop at s)).start; len = (field_of at (drop at s)).len } ∷ []
Says s at End = fields_from at s ≡ []

-- a field ends within the message
pub field_in : (at : ℕ) (s : List ℕ) → eqb (field_of at s).tag 0 ≡ false → value_from s + value_len s < length s
unfolding field_of
field_in at s e =
    split (eqb (get_or s (value_from s + value_len s) 0) 1)
    (λ y. there s (value_from s + value_len s) 0 (eqb-true _ 1 y))
    (λ n. absurd (eqb-false 0 0 (rw n at e) refl))

module _ (s : List ℕ) (at : ℕ) where
  abbrev here : Fld
  here = field_of at (drop at s)

  broken : at < length s → eqb here.tag 0 ≡ true → Says s at Broken
  unfolding fields_from
  broken h e = fields_stop at (drop at s) (simp length-drop (omega arith)) e ∙ rw (eqb-true here.tag 0 e)

  good : at < length s → eqb here.tag 0 ≡ false → Stepped s at here.tag here.start here.len (here.start + here.len + 1)
  unfolding fields_from field_of
  good h e =
      let v = value_from (drop at s) in
      let n = value_len (drop at s) in
      let w : v + n < length s - at = rw length-drop at (field_in at (drop at s) e) in
      record {
        fields = fields_more at (drop at s) (simp length-drop (omega arith)) e
            ∙ ap (λ (l : List Fld). here ∷ l) (onward at (suc (v + n)) (suc at + (v + n)) (at + v + n + 1) s (omega arith) (omega arith));
        ahead = omega arith;
        within = omega arith;
        value = refl;
        some = eqb-false here.tag 0 e;
      }

  pub step_says : Says s at (step_of s at)
  unfolding step_of fields_from fields_after
  step_says = go (ltb at (length s)) refl (eqb here.tag 0) refl
    where
      go : (a : Bool) → ltb at (length s) ≡ a → (b : Bool) → eqb here.tag 0 ≡ b
          → Says s at (cond a (cond b Broken (Good here.tag here.start here.len (record { at = here.start + here.len + 1 }))) End)
      go true ea true eb = broken (ltb-true at (length s) ea) eb
      go true ea false eb = good (ltb-true at (length s) ea) eb
      go false ea b eb = rw (drop_of_length-le s {i = at} (ltb-false at (length s) ea))

  pub step_good : (r : Field) (t start len : ℕ) (next : Cursor) → r ≡ step_of s at → r ≡ Good t start len next → Stepped s at t start len next.at
  step_good r t start len next e g = subst (Says s at) (sym e ∙ g) step_says

  pub step_broken : (r : Field) → r ≡ step_of s at → r ≡ Broken → Says s at Broken
  step_broken r e g = subst (Says s at) (sym e ∙ g) step_says

  pub step_end : (r : Field) → r ≡ step_of s at → r ≡ End → fields_from at s ≡ []
  step_end r e g = subst (Says s at) (sym e ∙ g) step_says

-- each step comes nearer to the end
pub step_less : (s : List ℕ) (at : ℕ) (r : Field) (t start len : ℕ) (next : Cursor) → r ≡ step_of s at → r ≡ Good t start len next → length s - next.at < length s - at
step_less s at r t start len next e g = let w = step_good s at r t start len next e g in omega arith

-- a step's tag is no 0
pub step_some : (s : List ℕ) (at : ℕ) (r : Field) (t start len : ℕ) (next : Cursor) → r ≡ step_of s at → r ≡ Good t start len next → 0 < t
step_some s at r t start len next e g = let w = (step_good s at r t start len next e g).some in omega arith
