-- Steps within a budget and room: what they keep, and that some steps and then others are as many at once.
use mathlib.Core.Path.{◌≡◌, refl, sym, ap, ◌∙◌}
use mathlib.Core.Bool.{true, false}
use mathlib.Core.List.{List, ◌++◌, append_assoc}
use Prim.Native.Nat.{ℕ, zero, suc, ◌+◌, ◌-◌, ◌≤◌}
use native.Mathlib.Nat.{zero-add, suc-add}
use native.Mathlib.Omega.{arith}
use lib.Dec.{eqb, ltb}
use lib.ListN.{length, length-append}
use borrow.Author.Tests.{eqb-false, ltb-false}
use Rattle.octets.proofs.Bools.{split, neither_l, neither_r}
use Rattle.table.specs.Heading.{work_of, instrument_of}
use Rattle.table.specs.Facts.{Market}
use Rattle.table.specs.Changes.{stepped}
use Rattle.table.proofs.Kept.{stepped_kept, stepped_instrument}
use Rattle.calls.specs.Told.{joined, room_asked}
use Rattle.calls.specs.Run.{step_reports, stops, still, one_more, worked}
use Rattle.turns.specs.Runs.{GoesOn}
use Rattle.turns.proofs.Joins.{joined_append}

-- where no step is taken, and where one is
module _ (t : List ℕ) (room : ℕ) where
  pub stops_still : (n : ℕ) → stops t room ≡ true → worked n t room ≡ still t
  unfolding worked
  stops_still zero e = refl
  stops_still (suc n) e = rw e

  pub goes_one : (n : ℕ) → stops t room ≡ false
      → worked (suc n) t room ≡ one_more (step_reports t) (worked n (stepped t) (room - length (joined (step_reports t))))
  unfolding worked
  goes_one n e = rw e

  pub goes_busy : stops t room ≡ false → 1 ≤ work_of t
  goes_busy e = omega (arith, eqb-false (work_of t) 0 (neither_l (eqb (work_of t) 0) (ltb room room_asked) e))

  pub goes_room : stops t room ≡ false → room_asked ≤ room
  goes_room e = ltb-false room room_asked (neither_r (eqb (work_of t) 0) (ltb room room_asked) e)

-- a market stays a market
pub worked_kept : (n : ℕ) (t : List ℕ) (room : ℕ) → Market t → Market (worked n t room).table
unfolding worked
worked_kept zero t room m = m
worked_kept (suc n) t room m =
    split (stops t room)
    (λ e. rw e m)
    (λ e. rw e (worked_kept n (stepped t) (room - length (joined (step_reports t))) (stepped_kept t m (goes_busy t room e))))

-- that trades the same
pub worked_instrument : (n : ℕ) (t : List ℕ) (room : ℕ) → Market t → instrument_of (worked n t room).table ≡ instrument_of t
unfolding worked
worked_instrument zero t room m = refl
worked_instrument (suc n) t room m =
    split (stops t room)
    (λ e. rw e)
    (λ e.
    let l = goes_busy t room e in
    rw e
    (worked_instrument n (stepped t) (room - length (joined (step_reports t))) (stepped_kept t m l) ∙ stepped_instrument t m l))

-- no more steps than the budget
pub worked_few : (n : ℕ) (t : List ℕ) (room : ℕ) → (worked n t room).steps ≤ n
unfolding worked
worked_few zero t room = omega arith
worked_few (suc n) t room =
    split (stops t room)
    (λ e. rw e (omega arith))
    (λ e. rw e (omega (arith, worked_few n (stepped t) (room - length (joined (step_reports t))))))

-- m steps and then n, with the room that is left, are m + n
pub worked_on : (m n : ℕ) (t : List ℕ) (room : ℕ)
    → let first = worked m t room in
    GoesOn first (worked n first.table (room - length (joined first.reports))) (worked (m + n) t room)
unfolding worked joined
worked_on zero n t room =
    let e : room - 0 ≡ room = omega arith in
    simp (zero-add, e) (record { table = refl; reports = refl; steps = sym (zero-add _) })
worked_on (suc m) n t room =
    split (stops t room)
    (λ e.
    let z : room - 0 ≡ room = omega arith in
    let s = stops_still t room n e in
    simp (suc-add, e, z, s) (record { table = refl; reports = refl; steps = refl }))
    (λ e.
    let rs = step_reports t in
    let left : ℕ = room - length (joined rs) in
    let first = worked m (stepped t) left in
    let g = worked_on m n (stepped t) left in
    let q : room - length (joined (rs ++ first.reports)) ≡ left - length (joined first.reports) =
    rw (joined_append rs first.reports) (omega (arith, length-append (joined rs) (joined first.reports))) in
    rw (suc-add, e)
    (rw q
    (record {
      table = g.table;
      reports = ap (λ (qs : List (List ℕ)). rs ++ qs) g.reports ∙ sym (append_assoc rs _ _);
      steps = ap suc g.steps ∙ sym (suc-add _ _);
    })))
