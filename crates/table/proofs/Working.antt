-- What is in work: the clauses of a market about it and about the decision on its minimum, kept by stores elsewhere and made by putting an
-- order in work or ending the work.
use mathlib.Core.Path.{◌≡◌, refl, sym, ◌∙◌}
use mathlib.Core.Bool.{true, false, ◌&&◌}
use mathlib.Core.List.{List, [], ◌∷◌}
use Prim.Native.Nat.{ℕ, ◌≤◌}
use native.Mathlib.Omega.{arith}
use lib.Dec.{eqb, ltb, leb, lit≤}
use lib.ListN.{length, get_or, drop, length-take, length-drop}
use borrow.Author.Tests.{leb-true, le-leb, eqb-true, eqb-false, eq-eqb, ne_eqb}
use Rattle.octets.specs.Octets.{put, part_at, text_at, text_bytes, put_text, all_zero}
use Rattle.octets.proofs.Bools.{split, both_i, both_l, both_r, or_r, not_both}
use Rattle.octets.proofs.Places.{length_put, put_put}
use Rattle.octets.proofs.Parts.{part_in_lem}
use Rattle.octets.proofs.Zeros.{zero_replicate}
use Rattle.decimal.specs.Reading.{is_time}
use Rattle.decimal.proofs.Times.{time_short}
use Rattle.matching.specs.Matching.{Book, at, minimum_of, decided_after}
use Rattle.table.specs.Places.{table_bytes}
use Rattle.table.specs.Heading.{work_of, stamp_of, put_work}
use Rattle.table.specs.Orders.{filled}
use Rattle.table.specs.Market.{is_padded, has_stamp, has_work, has_decision}
use Rattle.table.proofs.Same.{Same, same_in, part_same, text_same, padded_same}
use Rattle.table.proofs.Stores.{work_got, stamp_got}
use Rattle.table.proofs.Texts.{padded_put}

-- the length byte of a stored time is small, since a time has at most 21 bytes
stamp_byte_lem : (t : List ℕ) → length t ≡ table_bytes → is_time (stamp_of t) ≡ true → get_or t 33 0 ≤ 21
unfolding text_at part_at
stamp_byte_lem t long h =
    let a = length-take (get_or t 33 0) (drop 34 t) in
    let b = length-drop 34 t in
    let c = time_short (stamp_of t) h in
    omega arith

module _ (t : List ℕ) where
  pub work_low : has_work t ≡ true → work_of t ≤ filled t
  unfolding has_work
  work_low h = leb-true _ _ (search both_l)

  pub work_none : has_work t ≡ true → work_of t ≡ 0 → all_zero (part_at t 33 22) ≡ true
  unfolding has_work has_stamp
  work_none h e = rw (eq-eqb (work_of t) 0 e) at (both_r (leb (work_of t) (filled t)) _ h)

  pub work_some : has_work t ≡ true → (work_of t ≡ 0 → ⊥) → (is_time (stamp_of t) && is_padded 21 t 33) ≡ true
  unfolding has_work has_stamp
  work_some h e = rw (ne_eqb (work_of t) 0 e) at (both_r (leb (work_of t) (filled t)) _ h)

  pub none_work : work_of t ≡ 0 → all_zero (part_at t 33 22) ≡ true → has_work t ≡ true
  unfolding has_work has_stamp
  none_work e z = both_i (le-leb (work_of t) (filled t) (omega arith)) (rw (eq-eqb (work_of t) 0 e) z)

  pub some_work : (work_of t ≡ 0 → ⊥) → work_of t ≤ filled t → is_time (stamp_of t) ≡ true → is_padded 21 t 33 ≡ true → has_work t ≡ true
  unfolding has_work has_stamp
  some_work n l h p = both_i (le-leb _ _ l) (rw (ne_eqb (work_of t) 0 n) (both_i h p))

-- kept where those bytes and the number of filled records are kept
pub has_work_kept : (t u : List ℕ) → length t ≡ table_bytes → Same u t 32 55 → filled t ≤ filled u → has_work t ≡ true → has_work u ≡ true
has_work_kept t u long s f h =
    let e : work_of u ≡ work_of t = s.byte 32 (lit≤ tt) (lit≤ tt) in
    split (eqb (work_of t) 0)
    (λ z.
    let n = eqb-true (work_of t) 0 z in
    let p : part_at u 33 22 ≡ part_at t 33 22 = part_same 33 22 55 (same_in 33 55 s (lit≤ tt) (lit≤ tt)) (lit≤ tt) in
    none_work u (e ∙ n) (rw p (work_none t h n)))
    (λ z.
    let n = eqb-false (work_of t) 0 z in
    let q = work_some t h n in
    let i : is_time (stamp_of t) ≡ true = both_l (is_time (stamp_of t)) (is_padded 21 t 33) q in
    let x : stamp_of u ≡ stamp_of t = text_same 33 21 55 (same_in 33 55 s (lit≤ tt) (lit≤ tt)) (lit≤ tt) (stamp_byte_lem t long i) in
    let y : is_padded 21 u 33 ≡ is_padded 21 t 33 = padded_same 33 21 55 (same_in 33 55 s (lit≤ tt) (lit≤ tt)) (lit≤ tt) in
    some_work u (λ d. n (sym e ∙ d)) (omega (arith, work_low t h)) (rw x i) (y ∙ both_r (is_time (stamp_of t)) (is_padded 21 t 33) q))

-- made by putting a filled record in work, with a time
pub has_work_put : (t : List ℕ) (w : ℕ) (stamp : List ℕ) → length t ≡ table_bytes → 1 ≤ w → w ≤ filled (put_work t w stamp) → is_time stamp ≡ true
    → has_work (put_work t w stamp) ≡ true
has_work_put t w stamp long low high i =
    let short = time_short stamp i in
    let e = work_got t w stamp (omega arith) short in
    let x = stamp_got t w stamp (omega arith) short in
    some_work (put_work t w stamp) (λ d. omega arith) (omega arith) (rw x i) (padded short)
  where
    padded : length stamp ≤ 21 → is_padded 21 (put_work t w stamp) 33 ≡ true
    padded short =
        let a = length_put t 32 (w ∷ []) in
        let e : put_work t w stamp ≡ put_text 21 (put t 32 (w ∷ [])) 33 stamp = sym (put_put t 32 (w ∷ []) (text_bytes 21 stamp)) in
        rw e (padded_put 21 (put t 32 (w ∷ [])) 33 stamp (omega arith) short)

-- made by putting nothing in work
pub has_work_none : (t : List ℕ) → length t ≡ table_bytes → has_work (put_work t 0 []) ≡ true
unfolding text_bytes part_at
has_work_none t long =
    let e = work_got t 0 [] (omega arith) (lit≤ tt) in
    let p : part_at (put_work t 0 []) 33 22 ≡ part_at (0 ∷ text_bytes 21 []) 1 22 = part_in_lem t 32 (0 ∷ text_bytes 21 []) 1 22 (lit≤ tt) (omega arith) in
    none_work (put_work t 0 []) e (rw p (zero_replicate 22))

-- ---- the decision

-- none is noted
pub undecided : (b : Book) (w d : ℕ) → d ≡ 0 → has_decision b w d ≡ true
unfolding has_decision
undecided b w d e = rw (eq-eqb d 0 e)

-- and so it is of an order that has no minimum, and while nothing is in work
pub least_undecided : (b : Book) (w d : ℕ) → minimum_of (at b w) ≡ 0 → has_decision b w d ≡ true → d ≡ 0
unfolding has_decision
least_undecided b w d z h =
    split (eqb d 0)
    (λ e. eqb-true d 0 e)
    (λ e. absurd (not_both (both_r (eqb d 1) false (or_r (eqb d 0) _ (rw z at h) e)) refl))

pub idle_undecided : (b : Book) (d : ℕ) → has_decision b 0 d ≡ true → d ≡ 0
unfolding minimum_of
idle_undecided b d h = least_undecided b 0 d refl h

-- what is noted after a step that does not end the work, in a book where the order's minimum is the same
pub decided_after_lem : (b c : Book) (w : ℕ) → minimum_of (at c w) ≡ minimum_of (at b w) → has_decision c w (decided_after b w) ≡ true
unfolding has_decision decided_after
decided_after_lem b c w m =
    split (ltb 0 (minimum_of (at b w)))
    (λ e. rw (e, m, e))
    (λ e. rw e)
