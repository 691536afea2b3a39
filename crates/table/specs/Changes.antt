-- The table after what a call does to it (document 01, "The table and its calls" and "Matching, step by step"; document 02,
-- T-06 and T-09): one step of the order in work, a report about no order, a new order, a replacement, a requested cancel. Each of
-- them is a few named writes. Assumes nothing; that a market stays a market is a theorem.
use Rattle.std.specs.Prelude.{Bool, cond, List, [], ◌∷◌, ℕ, ◌+◌, eqb, length}
use Rattle.matching.specs.declared.Order.{Order}
use Rattle.matching.specs.declared.Event.{Event}
use Rattle.matching.specs.Matching.{who, happens, work_after, misses, decided_after}
use Rattle.table.specs.declared.record.Marks.{Marks}
use Rattle.table.specs.Heading.{next_of, work_of, decided_of, mode_of, put_next, put_work, put_decided, end_work}
use Rattle.table.specs.Orders.{book_of, applied, withdrawn, replaced, accepted}
use Rattle.table.specs.Best.{put_best, clear_best}

-- after events that change amounts, one by one
unfoldable pub played : List ℕ → List Event → List ℕ
played t [] = t
played t (e ∷ es) = played (applied t e) es

-- whether the order in work, where it is not decided yet, misses its minimum
unfoldable pub misses_now : List ℕ → Bool
misses_now t = misses (mode_of t) (decided_of t) (book_of t) (work_of t)

-- the events of the next step of the order in work
unfoldable pub step_events : List ℕ → List Event
step_events t = happens (mode_of t) (misses_now t) (book_of t) (work_of t)

-- after the n reports of something, the next number is n more
unfoldable pub numbered : List ℕ → ℕ → List ℕ
numbered t n = put_next t (next_of t + n)

-- who is in work after it
unfoldable pub step_work : List ℕ → ℕ
step_work t = work_after (misses_now t) (book_of t) (work_of t)

-- after one step: the amounts of its events and a number for the report of each; if it ends the work, nothing in work and the best
-- levels, and otherwise the decision noted
unfoldable pub stepped : List ℕ → List ℕ
stepped t =
    let after = numbered (played t (step_events t)) (length (step_events t)) in
    cond (eqb (step_work t) 0) (put_best (end_work after)) (put_decided after (decided_after (book_of t) (work_of t)))

-- after a new order, o, is accepted as record k: the number of the report is its OrderID, and it is in work, with the 52 of its
-- message and no best levels
unfoldable pub entered : List ℕ → ℕ → List ℕ → List ℕ → Marks → Order → List ℕ → List ℕ
entered t k cl_ord_id account marks o stamp =
    clear_best (put_work (numbered (accepted t k (next_of t) cl_ord_id account marks o) 1) k stamp)

-- after event e replaces its order: it is in work, with the 52 of its message and no best levels
unfoldable pub renewed : List ℕ → List ℕ → Event → List ℕ → List ℕ
renewed t cl_ord_id e stamp = clear_best (put_work (numbered (replaced t cl_ord_id e) 1) (who e) stamp)

-- after event e withdraws its order: the best levels are those of what is left
unfoldable pub taken : List ℕ → List ℕ → Event → List ℕ
taken t cl_ord_id e = put_best (numbered (withdrawn t cl_ord_id e) 1)
