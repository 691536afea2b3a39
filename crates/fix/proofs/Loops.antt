-- The loop that looks for a tag among the fields: what each need asks, by the answer of the step.
use Rattle.std.proofs.Common.{Option, Some, None, ◌≡◌, ℕ, zero, suc, ◌+◌, ◌-◌, ◌^◌, ◌<◌, ◌≤◌, Bool, true, false, cond, eqb, List, [], ◌∷◌, length, take, drop, sym, refl, ap, ◌∙◌, zero-add, arith, w64, Fits, eq-eqb, ne_eqb, eqb-true}
use native.Mathlib.Nat.{add-sub_cancel_left}
use Rattle.fix.specs.declared.fields.Cursor.{Cursor}
use Rattle.fix.specs.declared.frame.Part.{Part}
use Rattle.fix.specs.declared.fields.Field.{Field}
use Rattle.fix.specs.declared.fields.Field.TheVariants.{Good, Broken, End}
use Rattle.fix.specs.Fields.{Fld, field_of, step_of, fields_after, fields_from, fields_of, find_tag, value_of, value_from, value_len}
use Rattle.fix.proofs.Walk.{step_good, step_broken, step_end, field_in}

-- ---- the first field with a tag
module _ (s : List ℕ) (tag at : ℕ) (r : Field) (inv : find_tag tag (fields_of s) ≡ find_tag tag (fields_from at s)) (e : r ≡ step_of s at) where
  module _ (t start len : ℕ) (next : Cursor) (g : r ≡ Good t start len next) where
    pub find_here : t ≡ tag → Some (record { start = start; len = len }) ≡ find_tag tag (fields_of s)
    unfolding find_tag
    find_here h = sym (inv ∙ rw (step_good s at r t start len next e g).fields (simp (eq-eqb t tag h)))

    pub find_next : (t ≡ tag → ⊥) → find_tag tag (fields_of s) ≡ find_tag tag (fields_from next.at s)
    unfolding find_tag
    find_next h = inv ∙ rw (step_good s at r t start len next e g).fields (simp (ne_eqb t tag h))

  pub find_broken : 0 < tag → r ≡ Broken → None ≡ find_tag tag (fields_of s)
  unfolding find_tag
  find_broken h g = sym (inv ∙ rw (step_broken s at r e g) (simp (ne_eqb 0 tag (omega arith))))

  pub find_end : r ≡ End → None ≡ find_tag tag (fields_of s)
  unfolding find_tag
  find_end g = sym (inv ∙ rw (step_end s at r e g))

-- two parts that are the same start at one place and are as long as each other
pub parts_same : (a b c d : ℕ) → ◌≡◌ {A = Option Part} (Some (record { start = a; len = b })) (Some (record { start = c; len = d })) → (a ≡ c) × (b ≡ d)
parts_same a b c d e =
    let q : ◌≡◌ {A = Part} (record { start = a; len = b }) (record { start = c; len = d }) = cc in
    (ap (λ (p : Part). p.start) q, ap (λ (p : Part). p.len) q)

-- a value that was found lies within the message
found_within : (s : List ℕ) (k at t start len : ℕ) → 0 < t → find_tag t (fields_after k at s) ≡ Some (record { start = start; len = len }) → start + len < at + length s
unfolding find_tag fields_after field_of
found_within [] k at t start len h e = let z : ◌≡◌ {A = ℕ} 0 1 = cc in omega arith
found_within (b ∷ s) (suc k) at t start len h e = omega (arith, found_within s k (suc at) t start len h e)
found_within (b ∷ s) zero at t start len h e =
    go (eqb f.tag t) refl e (found_within s _ (suc at) t start len h)
  where
    f : Fld
    f = field_of at (b ∷ s)

    go : (a : Bool) → eqb f.tag t ≡ a
        → cond a (Some (record { start = f.start; len = f.len })) (find_tag t (fields_after (cond (eqb f.tag 0) (length s) (value_from (b ∷ s) + f.len)) (suc at) s)) ≡ Some (record { start = start; len = len })
        → (find_tag t (fields_after (cond (eqb f.tag 0) (length s) (value_from (b ∷ s) + f.len)) (suc at) s) ≡ Some (record { start = start; len = len }) → start + len < suc at + length s)
        → start + len < at + suc (length s)
    go true ea e ih =
        let p = parts_same f.start f.len start len e in
        let z : value_from (b ∷ s) + value_len (b ∷ s) < suc (length s) = field_in at (b ∷ s) (ne_eqb f.tag 0 (λ y. omega (arith, eqb-true f.tag t ea))) in
        omega arith
    go false ea e ih = omega (arith, ih e)

pub found_inside : (s : List ℕ) (t start len : ℕ) → 0 < t → find_tag t (fields_of s) ≡ Some (record { start = start; len = len }) → start + len < length s
unfolding fields_from
found_inside s t start len h e = rw zero-add at (found_within s 0 0 t start len h e)

module _ (s : List ℕ) (t : ℕ) (r : Option Part) (e : r ≡ find_tag t (fields_of s)) where
  module _ (start len : ℕ) (g : r ≡ Some (record { start = start; len = len })) where
    pub value_within : 0 < t → start + len < length s
    value_within h = found_inside s t start len h (sym e ∙ g)

    pub value_end : 0 < t → start + len ≤ length s
    value_end h = omega (arith, value_within h)

    pub value_fits : 0 < t → length s < 2 ^ 64 → Fits w64 (start + len)
    value_fits h l = record { fits = omega (arith, value_within h) }

    pub value_is : take (start + len - start) (drop start s) ≡ value_of s t
    unfolding value_of
    value_is = simp (← e, g, add-sub_cancel_left)

  pub value_none : r ≡ None → [] ≡ value_of s t
  unfolding value_of
  value_none g = simp (← e, g)
