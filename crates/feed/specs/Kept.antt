-- How a row is compared with another, tag by tag (document 02, T-01 and T-05: everything else equals the original report). Assumes nothing.
use Rattle.std.specs.Prelude.{ℕ, Bool, cond, not, ◌&&◌, ◌||◌, List, [], ◌∷◌, eqb}
use Rattle.report.specs.declared.Value.{Value}
use Rattle.report.specs.declared.Field.{Field}

-- f of the value of the first field with this tag, and none where no field has it
abbrev pub at_tag : {B : Type 0} → (Value → B) → B → ℕ → List Field → B
at_tag f none g [] = none
at_tag f none g (x ∷ xs) = cond (eqb x.tag g) (f x.value) (at_tag f none g xs)

-- the tags whose fields are the report's own in a copy, where kill says whether the report's order is Fill or Kill. Of no report are 34, 17,
-- 109 and 797 among them, and 0 is no tag; 8, 9 and 10 are in no row. 59 and 110 are the report's own of every order but a Fill or
-- Kill, and of that neither is
unfoldable pub is_kept : Bool → ℕ → Bool
is_kept kill g =
    not (eqb g 0) && not (eqb g 34) && not (eqb g 17) && not (eqb g 109) && not (eqb g 797) && not ((eqb g 59 || eqb g 110) && kill)
