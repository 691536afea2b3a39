-- The OrderIDs of a table afterwards: whatever a call does to a table keeps that of every record, but for a new order, whose record
-- has the number of the report that accepts it.
use mathlib.Core.Path.{◌≡◌, refl, ◌∙◌}
use mathlib.Core.List.{List, [], ◌∷◌}
use mathlib.Core.Logic.{⊎_elim}
use Prim.Native.Nat.{ℕ, ◌+◌, ◌*◌, ◌^◌, ◌≤◌, ◌<◌}
use native.Mathlib.Omega.{arith}
use lib.Dec.{eqb, lit≤}
use lib.ListN.{length, replicate}
use Rattle.octets.specs.Octets.{bytes_of, put, text_bytes}
use Rattle.octets.proofs.Bools.{split}
use Rattle.octets.proofs.Places.{below_or, le_at_below, le_at_above, length_bytes_of}
use Rattle.octets.proofs.Parts.{length_text_bytes}
use Rattle.matching.specs.declared.Order.{Order}
use Rattle.matching.specs.declared.Event.{Event}
use Rattle.matching.specs.Matching.{who, change, decided_after}
use Rattle.table.specs.declared.record.Marks.{Marks}
use Rattle.table.specs.Places.{record_at}
use Rattle.table.specs.Heading.{next_of, work_of, put_work, put_decided}
use Rattle.table.specs.Orders.{order_id_at, order_at, book_of, term_bytes, amount_bytes, record_of, put_id, put_terms, put_amounts, applied, withdrawn, replaced, accepted}
use Rattle.table.specs.Best.{book_row, put_best, clear_best}
use Rattle.table.specs.Changes.{played, step_events, step_work, numbered, stepped, entered, renewed, taken}
use Rattle.table.proofs.Bests.{length_book_row}
use Rattle.table.proofs.Stores.{length_amounts, length_terms, length_record, accepted_order_id}

-- ---- writes before the OrderID of a record, and in the heading

order_id_kept : (t : List ℕ) (k a : ℕ) (vs : List ℕ) (i : ℕ) → a + length vs ≤ 84 → order_id_at (put t (record_at k + a) vs) i ≡ order_id_at t i
order_id_kept t k a vs i h =
    ⊎_elim (λ (l : i < k). le_at_below 4 t (128 * k + a) vs (128 * i + 84) (omega arith))
    (λ (l : k ≤ i). le_at_above 4 t (128 * k + a) vs (128 * i + 84) (omega arith)) (below_or i k)

order_id_heading : (t : List ℕ) (a : ℕ) (vs : List ℕ) (i : ℕ) → a + length vs ≤ 84 → order_id_at (put t a vs) i ≡ order_id_at t i
order_id_heading t a vs i h = le_at_above 4 t a vs (128 * i + 84) (omega arith)

module _ (t : List ℕ) (i : ℕ) where
  id_order_id : (k : ℕ) (xs : List ℕ) → length xs ≤ 32 → order_id_at (put_id t k xs) i ≡ order_id_at t i
  id_order_id k xs short =
      let n = length_text_bytes 32 xs short in
      ⊎_elim (λ (l : i < k). le_at_below 4 t (128 * k) (text_bytes 32 xs) (128 * i + 84) (omega arith))
      (λ (l : k ≤ i). le_at_above 4 t (128 * k) (text_bytes 32 xs) (128 * i + 84) (omega arith)) (below_or i k)

  amounts_order_id : (k : ℕ) (o : Order) → order_id_at (put_amounts t k o) i ≡ order_id_at t i
  amounts_order_id k o = order_id_kept t k 64 (amount_bytes o) i (omega (arith, length_amounts o))

  terms_order_id : (k : ℕ) (o : Order) → order_id_at (put_terms t k o) i ≡ order_id_at t i
  terms_order_id k o = order_id_kept t k 48 (term_bytes o) i (omega (arith, length_terms o))

  pub worked_order_id : (w : ℕ) (stamp : List ℕ) → length stamp ≤ 21 → order_id_at (put_work t w stamp) i ≡ order_id_at t i
  worked_order_id w stamp short =
      order_id_heading t 32 (w ∷ text_bytes 21 stamp) i (omega (arith, length_text_bytes 21 stamp short))

  pub numbered_order_id : (n : ℕ) → order_id_at (numbered t n) i ≡ order_id_at t i
  unfolding numbered
  numbered_order_id n = order_id_heading t 28 (bytes_of 4 (next_of t + n)) i (omega (arith, length_bytes_of 4 (next_of t + n)))

  decided_order_id : (d : ℕ) → order_id_at (put_decided t d) i ≡ order_id_at t i
  decided_order_id d =
      ⊎_elim (λ (l : 0 < i). le_at_above 4 t 96 (d ∷ []) (128 * i + 84) (omega arith))
      (λ (l : i ≤ 0). le_at_below 4 t 96 (d ∷ []) (128 * i + 84) (omega arith)) (below_or 0 i)

  best_order_id : (vs : List ℕ) → length vs ≤ 31 → order_id_at (put t 97 vs) i ≡ order_id_at t i
  best_order_id vs h =
      ⊎_elim (λ (l : 0 < i). le_at_above 4 t 97 vs (128 * i + 84) (omega arith))
      (λ (l : i ≤ 0). le_at_below 4 t 97 vs (128 * i + 84) (omega arith)) (below_or 0 i)

  pub told_order_id : order_id_at (put_best t) i ≡ order_id_at t i
  told_order_id = best_order_id (book_row t) (omega (arith, length_book_row t))

  pub cleared_order_id : order_id_at (clear_best t) i ≡ order_id_at t i
  cleared_order_id = best_order_id (replicate 31 0) (lit≤ tt)

-- ---- events

pub applied_order_id : (t : List ℕ) (e : Event) (i : ℕ) → order_id_at (applied t e) i ≡ order_id_at t i
unfolding applied
applied_order_id t e i = amounts_order_id t i (who e) (change e (order_at t (who e)))

pub played_order_id : (es : List Event) (t : List ℕ) (i : ℕ) → order_id_at (played t es) i ≡ order_id_at t i
unfolding played
played_order_id [] t i = refl
played_order_id (e ∷ es) t i = played_order_id es (applied t e) i ∙ applied_order_id t e i

module _ (t : List ℕ) (i : ℕ) (cl_ord_id : List ℕ) (e : Event) (short : length cl_ord_id ≤ 32) where
  pub withdrawn_order_id : order_id_at (withdrawn t cl_ord_id e) i ≡ order_id_at t i
  unfolding withdrawn
  withdrawn_order_id = amounts_order_id (put_id t (who e) cl_ord_id) i (who e) (change e (order_at t (who e))) ∙ id_order_id t i (who e) cl_ord_id short

  pub replaced_order_id : order_id_at (replaced t cl_ord_id e) i ≡ order_id_at t i
  unfolding replaced
  replaced_order_id = terms_order_id (put_id t (who e) cl_ord_id) i (who e) (change e (order_at t (who e))) ∙ id_order_id t i (who e) cl_ord_id short

  -- ---- a requested cancel, and a replacement

  pub taken_order_id : order_id_at (taken t cl_ord_id e) i ≡ order_id_at t i
  unfolding taken
  taken_order_id = told_order_id (numbered (withdrawn t cl_ord_id e) 1) i ∙ numbered_order_id (withdrawn t cl_ord_id e) i 1 ∙ withdrawn_order_id

  pub renewed_order_id : (stamp : List ℕ) → length stamp ≤ 21 → order_id_at (renewed t cl_ord_id e stamp) i ≡ order_id_at t i
  unfolding renewed
  renewed_order_id stamp brief =
      cleared_order_id (put_work (numbered (replaced t cl_ord_id e) 1) (who e) stamp) i
      ∙ worked_order_id (numbered (replaced t cl_ord_id e) 1) i (who e) stamp brief ∙ numbered_order_id (replaced t cl_ord_id e) i 1 ∙ replaced_order_id

-- ---- a step

pub stepped_order_id : (t : List ℕ) (i : ℕ) → order_id_at (stepped t) i ≡ order_id_at t i
unfolding stepped
stepped_order_id t i =
    let es = step_events t in
    let u : List ℕ = numbered (played t es) (length es) in
    let s : order_id_at u i ≡ order_id_at t i = numbered_order_id (played t es) i (length es) ∙ played_order_id es t i in
    split (eqb (step_work t) 0)
    (λ e. rw e (told_order_id (put_decided (put_work u 0 []) 0) i ∙ decided_order_id (put_work u 0 []) i 0 ∙ worked_order_id u i 0 [] (lit≤ tt) ∙ s))
    (λ e. rw e (decided_order_id u i (decided_after (book_of t) (work_of t)) ∙ s))

-- ---- a new order, as record k

module _ (t : List ℕ) (k order_id : ℕ) (cl_ord_id account : List ℕ) (marks : Marks) (o : Order) (short : length cl_ord_id ≤ 32) (few : length account ≤ 10)
    (room : record_at k + 128 ≤ length t) where
  pub accepted_others : (i : ℕ) → (i ≡ k → ⊥) → order_id_at (accepted t k order_id cl_ord_id account marks o) i ≡ order_id_at t i
  unfolding accepted
  accepted_others i n =
      let w = length_record t k order_id cl_ord_id account marks o short few room in
      ⊎_elim (λ (l : i < k). le_at_below 4 t (128 * k) (record_of order_id cl_ord_id account marks o) (128 * i + 84) (omega arith))
      (λ (l : k ≤ i). le_at_above 4 t (128 * k) (record_of order_id cl_ord_id account marks o) (128 * i + 84) (omega arith)) (below_or i k)

module _ (t : List ℕ) (k : ℕ) (cl_ord_id account : List ℕ) (marks : Marks) (o : Order) (stamp : List ℕ) (short : length cl_ord_id ≤ 32)
    (few : length account ≤ 10) (brief : length stamp ≤ 21) (room : record_at k + 128 ≤ length t) where
  heading_order_id : (i : ℕ) → order_id_at (entered t k cl_ord_id account marks o stamp) i ≡ order_id_at (accepted t k (next_of t) cl_ord_id account marks o) i
  unfolding entered
  heading_order_id i =
      let u : List ℕ = accepted t k (next_of t) cl_ord_id account marks o in
      cleared_order_id (put_work (numbered u 1) k stamp) i ∙ worked_order_id (numbered u 1) i k stamp brief ∙ numbered_order_id u i 1

  pub entered_own : next_of t < 256 ^ 4 → order_id_at (entered t k cl_ord_id account marks o stamp) k ≡ next_of t
  entered_own small = heading_order_id k ∙ accepted_order_id t k (next_of t) cl_ord_id account marks o short few room small

  pub entered_others : (i : ℕ) → (i ≡ k → ⊥) → order_id_at (entered t k cl_ord_id account marks o stamp) i ≡ order_id_at t i
  entered_others i n = heading_order_id i ∙ accepted_others t k (next_of t) cl_ord_id account marks o short few room i n
