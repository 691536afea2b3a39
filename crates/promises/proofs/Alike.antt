-- The same order is put in work on two markets, on the second of which its owner's orders on the other side are out of the way: what matching
-- promises of two books is what the reports of both tell.
use mathlib.Core.Path.{◌≡◌, sym, ap, ◌∙◌}
use mathlib.Core.List.{List, [], ◌++◌, map}
use Prim.Native.Nat.{ℕ, ◌<◌}
use native.Mathlib.Omega.{arith}
use Rattle.decimal.specs.declared.Instrument.{Instrument}
use Rattle.matching.specs.declared.Order.{Order}
use Rattle.matching.specs.Matching.{at, open_of, misses, Ran, run}
use Rattle.matching.specs.Held.{In}
use Rattle.matching.specs.OutOfTheWay.{facing, SameOrder, OutOfTheWay, fills, lapsed}
use Rattle.matching.specs.OutOfTheWay as between
use Rattle.matching.proofs.OutOfTheWay.{decided_sums}
use Rattle.matching.proofs.Withdrawing.{Still, still_out}
use Rattle.matching.proofs.Theorems as matching
use Rattle.table.specs.Heading.{work_of, decided_of, mode_of}
use Rattle.table.specs.Orders.{cl_ord_id_at, book_of}
use Rattle.table.specs.Changes.{misses_now}
use Rattle.report.specs.Reports.{read_of}
use Rattle.promises.specs.Tallies.{account_of}
use Rattle.promises.specs.OwnOrders.{fills_in, first_id, SameFills, other_side, StandsClear}
use Rattle.promises.proofs.Fills.{fill_of, fills_append, Fillings}

-- a message has put order o in work: u is what its Submit leaves of table t, with the reports rs
pub record PutAs (q : Instrument) (t u : List ℕ) (rs : List (List ℕ)) (o : Order) : Type 0 where
  pub number : ℕ
  pub inside : In (book_of u) number
  pub here : at (book_of u) number ≡ o
  pub some : 0 < open_of o
  pub uncanceled : o.canceled ≡ 0
  pub work : work_of u ≡ number
  pub modes : (mpid : ℕ) → mode_of u mpid ≡ mode_of t mpid
  pub decided : decided_of u ≡ 0
  pub still : Still (other_side o.side) (cl_ord_id_at t) (book_of t) (cl_ord_id_at u) (book_of u)
  pub silent : fills_in q rs ≡ []

-- what reports tell of the order that the first of them is of, of which o is left
pub record TalliedAs (q : Instrument) (rs : List (List ℕ)) (o : Order) : Type 0 where
  pub left : (account_of (first_id q rs) (map (read_of q) rs)).left ≡ open_of o
  pub cancels : (account_of (first_id q rs) (map (read_of q) rs)).cancels ≡ o.canceled

-- ---- one market: from u, where the order is in work, to v, where nothing is
module _ (q : Instrument) (t u v : List ℕ) (rs ss : List (List ℕ)) (o : Order) (x : PutAs q t u rs o) (two : mode_of t o.mpid ≡ 2) (f : Fillings q u v ss) (z : work_of v ≡ 0) where
  abbrev w : ℕ
  w = x.number

  abbrev ended : Ran
  ended = run (mode_of u) (misses (mode_of u) 0 (book_of u) w) f.number (book_of u) w

  misses_now_lem : misses_now u ≡ misses (mode_of u) 0 (book_of u) w
  unfolding misses_now
  misses_now_lem = rw (x.decided, x.work)

  same_run : run (mode_of u) (misses_now u) f.number (book_of u) (work_of u) ≡ ended
  same_run = rw (misses_now_lem, x.work)

  ended_work : ended.work ≡ 0
  ended_work = sym (f.by.steps.work ∙ ap (λ (r : Ran). r.work) same_run) ∙ z

  ended_book : book_of v ≡ ended.book
  ended_book = f.by.steps.book ∙ ap (λ (r : Ran). r.book) same_run

  told_fills : fills_in q (rs ++ ss) ≡ map (fill_of q) (fills (cl_ord_id_at u) w ended.events)
  told_fills =
      fills_append q rs ss
      ∙ rw x.silent
      (f.by.fills
      ∙ ap (λ (k : ℕ). map (fill_of q) (fills (cl_ord_id_at u) k (run (mode_of u) (misses_now u) f.number (book_of u) (work_of u)).events)) x.work
      ∙ ap (λ (r : Ran). map (fill_of q) (fills (cl_ord_id_at u) w r.events)) same_run)

  mode_two : mode_of u (at (book_of u) w).mpid ≡ 2
  mode_two = rw x.here (x.modes o.mpid ∙ two)

  open_first : 0 < open_of (at (book_of u) w)
  open_first = rw x.here x.some

  -- its account
  module _ (tallied : TalliedAs q (rs ++ ss) (at (book_of v) w)) where
    left_is : (account_of (first_id q (rs ++ ss)) (map (read_of q) (rs ++ ss))).left ≡ open_of (at ended.book w)
    left_is = tallied.left ∙ rw ended_book

    back_is : (account_of (first_id q (rs ++ ss)) (map (read_of q) (rs ++ ss))).cancels ≡ lapsed ended.events
    back_is =
        let g = (decided_sums (cl_ord_id_at u) (mode_of u) (book_of u) w x.inside mode_two 0 f.number open_first ended_work).canceled in
        let e : (at (book_of u) w).canceled ≡ 0 = rw x.here x.uncanceled in
        tallied.cancels ∙ rw ended_book (omega arith)

-- ---- both: t, which comes to v by u, and a, which comes to c by b
module _ (q : Instrument) (t u v : List ℕ) (rs ss : List (List ℕ)) (a b c : List ℕ) (os ps : List (List ℕ)) (o p : Order) (same : SameOrder o p)
    (x : PutAs q t u rs o) (y : PutAs q a b os p) (two : mode_of t o.mpid ≡ 2) (there : mode_of a p.mpid ≡ 2)
    (f : Fillings q u v ss) (g : Fillings q b c ps) (z : work_of v ≡ 0) (i : work_of c ≡ 0) (h : StandsClear (other_side o.side) o.mpid t a) where
  there_still : Still (other_side o.side) (cl_ord_id_at a) (book_of a) (cl_ord_id_at b) (book_of b)
  there_still = rw same.side y.still

  aside : OutOfTheWay (facing (at (book_of u) x.number)) (at (book_of u) x.number).mpid (cl_ord_id_at u) (book_of u) (cl_ord_id_at b) (book_of b)
  unfolding facing
  aside =
      rw x.here
      (still_out (other_side o.side) o.mpid (cl_ord_id_at t) (book_of t) (cl_ord_id_at a) (book_of a) (cl_ord_id_at u) (book_of u) (cl_ord_id_at b) (book_of b) x.still there_still h)

  runs_alike : between.SameFills (cl_ord_id_at u) x.number (ended q t u v rs ss o x two f z) (cl_ord_id_at b) y.number (ended q a b c os ps p y there g i)
  runs_alike =
      matching.own_orders_cost_no_minimum (cl_ord_id_at u) (book_of u) x.number (cl_ord_id_at b) (book_of b) y.number (rw (x.here, y.here) same) aside (mode_of u) (mode_of b)
      (mode_two q t u v rs ss o x two f z) (rw (x.here, same.mpid) (y.modes p.mpid ∙ there)) x.inside y.inside
      0 f.number g.number (open_first q t u v rs ss o x two f z)
      (ended_work q t u v rs ss o x two f z) (ended_work q a b c os ps p y there g i)

  pub same_told : TalliedAs q (rs ++ ss) (at (book_of v) x.number) → TalliedAs q (os ++ ps) (at (book_of c) y.number) → SameFills q (rs ++ ss) (os ++ ps)
  same_told d e =
      record {
        trades = told_fills q a b c os ps p y there g i ∙ ap (map (fill_of q)) runs_alike.trades ∙ sym (told_fills q t u v rs ss o x two f z);
        left = left_is q a b c os ps p y there g i e ∙ runs_alike.left ∙ sym (left_is q t u v rs ss o x two f z d);
        back = back_is q a b c os ps p y there g i e ∙ runs_alike.back ∙ sym (back_is q t u v rs ss o x two f z d);
      }
