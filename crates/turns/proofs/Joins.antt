-- Reports one behind the other, and how many there are.
use mathlib.Core.Path.{◌≡◌, refl, sym, ap, ◌∙◌}
use mathlib.Core.List.{List, [], ◌∷◌, ◌++◌, append_assoc}
use Prim.Native.Nat.{ℕ, suc, ◌+◌}
use lib.ListN.{length}
use Rattle.matching.specs.declared.Event.{Event}
use Rattle.table.specs.Orders.{applied}
use Rattle.calls.specs.Told.{joined}
use Rattle.calls.specs.Run.{event_reports}

pub joined_append : (rs qs : List (List ℕ)) → joined (rs ++ qs) ≡ joined rs ++ joined qs
unfolding joined
joined_append [] qs = refl
joined_append (r ∷ rs) qs = ap (λ (xs : List ℕ). r ++ xs) (joined_append rs qs) ∙ sym (append_assoc r (joined rs) (joined qs))

-- one report for each event
pub reports_length : (es : List Event) (t : List ℕ) (n : ℕ) → length (event_reports t n es) ≡ length es
unfolding event_reports
reports_length [] t n = refl
reports_length (e ∷ es) t n = ap suc (reports_length es (applied t e) (n + 1))
