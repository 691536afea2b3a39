-- Where there is room for the reports of every step, steps on a table are matching's steps on its book, and so the work ends.
use mathlib.Core.Path.{◌≡◌, refl, ap, ◌∙◌}
use mathlib.Core.Bool.{Bool, true, false}
use mathlib.Core.List.{List, [], ◌++◌}
use Prim.Native.Nat.{ℕ, zero, suc, ◌+◌, ◌-◌, ◌*◌, ◌≤◌}
use native.Mathlib.Omega.{arith}
use lib.Dec.{eqb, ltb}
use lib.ListN.{length, length-append}
use borrow.Author.Tests.{eqb-true, eqb-false, eq-eqb, le-ltb}
use Rattle.octets.proofs.Bools.{split, or_l}
use Rattle.matching.specs.Matching.{Book, met_by, happens, book_after, work_after, run}
use Rattle.matching.proofs.Theorems as matching
use Rattle.table.specs.Heading.{work_of, mode_of}
use Rattle.table.specs.Orders.{book_of}
use Rattle.table.specs.Facts.{Market}
use Rattle.table.specs.Changes.{misses_now, step_events, step_work, stepped}
use Rattle.table.proofs.Kept.{stepped_kept}
use Rattle.calls.specs.Told.{joined, room_asked}
use Rattle.calls.specs.Run.{step_reports, stops, worked}
use Rattle.turns.specs.Turns.{Busy}
use Rattle.turns.specs.Runs.{Agrees, Ended}
use Rattle.turns.proofs.Stepping.{step_work_lem, step_book, step_modes, step_decided, step_short, step_count}
use Rattle.turns.proofs.Taking.{stops_still, worked_on}

-- one step of matching's run, of an order in work, and none where there is none
pub run_one : (modes : ℕ → ℕ) (missed : Bool) (n : ℕ) (b : Book) (w : ℕ) → 1 ≤ w
    → run modes missed (suc n) b w
    ≡ (let rest = run modes false n (book_after modes missed b w) (work_after missed b w) in
    record { book = rest.book; work = rest.work; events = happens modes missed b w ++ rest.events; steps = suc rest.steps })
unfolding run
run_one modes missed n b zero l = absurd (omega arith)
run_one modes missed n b (suc k) l = refl

run_none : (modes : ℕ → ℕ) (missed : Bool) (n : ℕ) (b : Book) (w : ℕ) → w ≡ 0 → run modes missed (suc n) b w ≡ record { book = b; work = 0; events = []; steps = 0 }
unfolding run
run_none modes missed n b w e = rw e

idle_stops : (t : List ℕ) (room : ℕ) → work_of t ≡ 0 → stops t room ≡ true
idle_stops t room e = or_l (eqb (work_of t) 0) (ltb room room_asked) (eq-eqb (work_of t) 0 e)

-- one step more
one_agrees : (t : List ℕ) (room n : ℕ) (y : Busy t) → stops t room ≡ false
    → Agrees (worked n (stepped t) (room - length (joined (step_reports t)))) (run (mode_of t) false n (book_after (mode_of t) (misses_now t) (book_of t) (work_of t)) (step_work t))
    → Agrees (worked (suc n) t room) (run (mode_of t) (misses_now t) (suc n) (book_of t) (work_of t))
unfolding worked step_events step_work
one_agrees t room n y q g =
    let rs = step_reports t in
    let qs = (worked n (stepped t) (room - length (joined rs))).reports in
    let es = happens (mode_of t) (misses_now t) (book_of t) (work_of t) in
    let fs = (run (mode_of t) false n (book_after (mode_of t) (misses_now t) (book_of t) (work_of t)) (step_work t)).events in
    rw (q, run_one (mode_of t) (misses_now t) n (book_of t) (work_of t) y.work)
    (record {
      book = g.book;
      work = g.work;
      steps = ap suc g.steps;
      reports = omega (arith, length-append rs qs, length-append es fs, step_count t y, g.reports);
    })

pub agrees : (n : ℕ) (t : List ℕ) (room : ℕ) → Market t → 1024 * n ≤ room → Agrees (worked n t room) (run (mode_of t) (misses_now t) n (book_of t) (work_of t))
unfolding worked run
agrees zero t room m h = record { book = refl; work = refl; steps = refl; reports = refl }
agrees (suc n) t room m h =
    split (eqb (work_of t) 0)
    (λ e.
    let z : work_of t ≡ 0 = eqb-true (work_of t) 0 e in
    rw (stops_still t room (suc n) (idle_stops t room z), run_none (mode_of t) (misses_now t) n (book_of t) (work_of t) z)
    (record { book = refl; work = z; steps = refl; reports = refl }))
    (λ e.
    let l : 1 ≤ work_of t = omega (arith, eqb-false (work_of t) 0 e) in
    let y : Busy t = record { market = m; work = l } in
    let rs = step_reports t in
    let q : stops t room ≡ false = rw (e, le-ltb room 1024 (omega arith)) in
    let rest = worked n (stepped t) (room - length (joined rs)) in
    let g : Agrees rest (run (mode_of (stepped t)) (misses_now (stepped t)) n (book_of (stepped t)) (work_of (stepped t))) =
    agrees n (stepped t) (room - length (joined rs)) (stepped_kept t m l) (omega (arith, step_short t y)) in
    let d = rw (step_decided t m l, step_modes t m l, step_book t m l, step_work_lem t m l) at g in
    one_agrees t room n y q d)

-- the work ends within m + 1 steps, m being the open opposite orders that it meets
pub work_ends : (n : ℕ) (t : List ℕ) (room : ℕ) → Market t → met_by (book_of t) (work_of t) + 1 ≤ n → 1024 * (met_by (book_of t) (work_of t) + 1) ≤ room
    → Ended n t room (met_by (book_of t) (work_of t))
work_ends n t room m l h =
    let b : Book = book_of t in
    let w : ℕ = work_of t in
    let k : ℕ = met_by b w + 1 in
    let first = worked k t room in
    let left : ℕ = room - length (joined first.reports) in
    let a = agrees k t room m h in
    let d = matching.done (mode_of t) (misses_now t) b w m.held.work in
    let z : work_of first.table ≡ 0 = a.work ∙ d.ended in
    let e : n ≡ k + (n - k) = omega arith in
    let s = stops_still first.table left (n - k) (idle_stops first.table left z) in
    let g = rw s at (worked_on k (n - k) t room) in
    rw e (record { ended = ap work_of g.table ∙ z; within = omega (arith, g.steps, a.steps, d.within) })
