-- A message comes to its end: each match closes one of the two orders, so there are at most m + 1 steps, and at most two
-- reports for each open opposite order and one more.
use mathlib.Core.Path.{◌≡◌, refl, sym, ap}
use mathlib.Core.Bool.{Bool, true, false, cond}
use mathlib.Core.List.{List, []}
use mathlib.Core.Logic.{◌≢◌}
use Prim.Native.Nat.{ℕ, zero, suc, ◌+◌, ◌-◌, ◌*◌, ◌≤◌, ◌<◌, min}
use native.Mathlib.Omega.{arith}
use lib.ListN.{length, length-append}
use lib.Dec.{ltb, eqb}
use borrow.Author.Tests.{ltb-true, lt-ltb, eq-eqb, ne_eqb}
use Rattle.octets.proofs.Bools.{split, not_both, both_i, both_l, both_r}
use Rattle.matching.specs.declared.Event.{Event}
use Rattle.matching.specs.declared.Prevention.TheVariants.{CancelNewest, CancelOldest, Decrement}
use Rattle.matching.specs.declared.Outcome.{Outcome}
use Rattle.matching.specs.declared.Outcome.TheVariants.{Trade, Prevented, Kills, Expires, Rests}
use Rattle.matching.specs.Matching.{causes, preventing, reports, Book, at, open_of, is_open, is_buy, meets, faces, opposed, count_of, met_by, opposed_to, most_reports, play, happens, book_after, work_after, run}
use Rattle.matching.specs.Held.{In, amount}
use Rattle.matching.specs.Accounts.{tally}
use Rattle.matching.specs.Runs.{Ended}
use Rattle.matching.specs.Happens.{Fits}
use Rattle.matching.proofs.Books.{count_lt}
use Rattle.matching.proofs.Events.{Terms, play_terms, play_open, length_play}
use Rattle.matching.proofs.Steps.{Pair, Meeting, trade, newest, oldest, equal, less, more, Stepped, rests, kills, expires, matched, step_is, happens_fits, first_in, next_in}

-- ---- one of the two is closed
pub closes : (b : Book) (w r : ℕ) {es : List Event} → r ≢ w → Meeting b w r es
    → min (open_of (at b w) - tally amount w es) (open_of (at b r) - tally amount r es) ≡ 0
unfolding tally
closes b w r n (trade o) = simp (eq-eqb w w refl, eq-eqb r r refl, ne_eqb r w n, ne_eqb w r (λ q. n (sym q))) (omega arith)
closes b w r n newest = simp (eq-eqb w w refl) (omega arith)
closes b w r n oldest = simp (eq-eqb r r refl) (omega arith)
closes b w r n (equal h) = simp (eq-eqb w w refl, eq-eqb r r refl, ne_eqb r w n, ne_eqb w r (λ q. n (sym q))) (omega arith)
closes b w r n (less h) = simp (eq-eqb w w refl, eq-eqb r r refl, ne_eqb r w n, ne_eqb w r (λ q. n (sym q))) (omega arith)
closes b w r n (more h) = simp (eq-eqb w w refl, eq-eqb r r refl, ne_eqb r w n, ne_eqb w r (λ q. n (sym q))) (omega arith)

-- so where w is still open, r is not
pub closed : (b : Book) (w r : ℕ) {es : List Event} → Fits b es → Pair b w r → Meeting b w r es → 0 < open_of (at (play b es) w) → open_of (at (play b es) r) ≡ 0
closed b w r {es} f p m h = omega (arith, closes b w r p.apart m, play_open w es b f, play_open r es b f)

-- ---- what is opposed or met afterwards was so before
module _ (b : Book) (es : List Event) (f : Fits b es) (w k : ℕ) where
  same_side : (j : ℕ) → is_buy (at (play b es) j) ≡ is_buy (at b j)
  same_side j = ap (λ (t : Terms). eqb t.side 1) (play_terms j es b f)

  same_level : (j : ℕ) → (at (play b es) j).level ≡ (at b j).level
  same_level j = ap (λ (t : Terms). t.level) (play_terms j es b f)

  pub play_opposed : opposed (at (play b es) w) (at (play b es) k) ≡ true → opposed (at b w) (at b k) ≡ true
  unfolding opposed
  play_opposed h =
      let o : 0 < open_of (at b k) = omega (arith, ltb-true 0 (open_of (at (play b es) k)) (both_l _ _ h), play_open k es b f) in
      both_i (lt-ltb 0 (open_of (at b k)) o) (rw (same_side w, same_side k) at (both_r (is_open (at (play b es) k)) _ h))

  pub play_faces : faces (at (play b es) w) (at (play b es) k) ≡ true → faces (at b w) (at b k) ≡ true
  unfolding faces meets opposed
  play_faces h =
      let a = opposed (at (play b es) w) (at (play b es) k) in
      both_i (play_opposed (both_l a _ h)) (rw (same_side w, same_level w, same_level k) at (both_r a _ h))

-- ---- so there are fewer of them
module _ (b : Book) (w r : ℕ) {es : List Event} (f : Fits b es) (p : Pair b w r) (m : Meeting b w r es) (still : 0 < open_of (at (play b es) w)) where
  pub fewer_opposed : opposed_to (play b es) w < opposed_to b w
  unfolding opposed_to opposed
  fewer_opposed =
      rw (length_play es b f)
      (count_lt _ _ (play b es) b (length b) (λ k. play_opposed b es f w k) r p.inside.low p.inside.high
      (rw (closed b w r f p m still))
      (both_i (lt-ltb 0 (open_of (at b r)) p.r_open) p.opposed))

  pub fewer_met : met_by (play b es) w < met_by b w
  unfolding met_by faces
  fewer_met =
      rw (length_play es b f)
      (count_lt _ _ (play b es) b (length b) (λ k. play_faces b es f w k) r p.inside.low p.inside.high
      (rw (closed b w r f p m still))
      (both_i (both_i (lt-ltb 0 (open_of (at b r)) p.r_open) p.opposed) p.meet))

-- ---- steps: at most one for each order met, and one that ends the work

-- how many orders w can still be matched with
unfoldable pub left : Book → ℕ → ℕ
left b w = cond (is_open (at b w)) (met_by b w) 0

pub met_pos : (b : Book) (w r : ℕ) → Pair b w r → 0 < met_by b w
unfolding met_by faces count_of
met_pos b w r p =
    omega (
      arith,
      count_lt (λ o. false) (faces (at b w)) b b (length b) (λ k z. absurd (not_both z refl)) r p.inside.low p.inside.high refl
          (both_i (both_i (lt-ltb 0 (open_of (at b r)) p.r_open) p.opposed) p.meet),
    )

pub opposed_pos : (b : Book) (w r : ℕ) → Pair b w r → 0 < opposed_to b w
unfolding opposed_to opposed
opposed_pos b w r p =
    omega (
      arith,
      count_lt (λ o. false) (opposed (at b w)) b b (length b) (λ k z. absurd (not_both z refl)) r p.inside.low p.inside.high refl
          (both_i (lt-ltb 0 (open_of (at b r)) p.r_open) p.opposed),
    )

-- each match leaves fewer to come
pub match_less : (b : Book) (w r : ℕ) {es : List Event} → Fits b es → Pair b w r → Meeting b w r es → left (play b es) w < left b w
unfolding left
match_less b w r {es} f p m =
    rw (lt-ltb 0 (open_of (at b w)) p.w_open)
    (split (is_open (at (play b es) w))
    (λ u. rw u (fewer_met b w r f p m (ltb-true _ _ u)))
    (λ u. rw u (met_pos b w r p)))

pub left_most : (b : Book) (w : ℕ) → left b w ≤ met_by b w
unfolding left
left_most b w = split (is_open (at b w)) (λ t. rw t (omega arith)) (λ t. rw t (omega arith))

-- with nothing in work nothing is run
pub idle : (modes : ℕ → ℕ) (missed : Bool) (n : ℕ) (b : Book) → run modes missed n b 0 ≡ record { book = b; work = 0; events = []; steps = 0 }
unfolding run
idle modes missed zero b = refl
idle modes missed (suc n) b = refl

-- the work ends within m + 1 steps
pub run_ends : (modes : ℕ → ℕ) (missed : Bool) (n : ℕ) (b : Book) (w : ℕ) → w ≤ length b → left b w < n → Ended modes missed n b w (left b w)
unfolding run
run_ends modes missed zero b w h l = absurd (omega arith)
run_ends modes missed (suc n) b zero h l = record { ended = refl; within = omega arith }
run_ends modes missed (suc n) b (suc k) h l =
    let g = go _ _ (happens_fits modes missed b (suc k) (first_in b k h)) (next_in modes missed b k h) (step_is modes missed b (suc k)) (run_ends modes false n) in
    record { ended = g.0; within = g.1 }
  where
    go : (es : List Event) (v : ℕ) → Fits b es → v ≤ length (play b es) → Stepped b (suc k) es v
        → ((c : Book) (v : ℕ) → v ≤ length c → left c v < n → Ended modes false n c v (left c v))
        → ((run modes false n (play b es) v).work ≡ 0) × (suc (run modes false n (play b es) v).steps ≤ left b (suc k) + 1)
    go es v f i (rests z t) ih = simp idle (refl, omega arith)
    go es v f i (kills x) ih = simp idle (refl, omega arith)
    go es v f i (expires z x) ih = simp idle (refl, omega arith)
    go es v f i (matched {r = r} p m) ih =
        let d = match_less b (suc k) r f p m in
        let g = ih (play b es) (suc k) i (omega arith) in
        (g.ended, omega (arith, g.within))

-- ---- reports: none, one or two a step, and what a step writes is taken off what can still be written

pub meeting_two : {b : Book} {w r : ℕ} {es : List Event} → Meeting b w r es → length es ≤ 2
meeting_two (trade o) = omega arith
meeting_two newest = omega arith
meeting_two oldest = omega arith
meeting_two (equal h) = omega arith
meeting_two (less h) = omega arith
meeting_two (more h) = omega arith

pub step_two : (b : Book) (w v : ℕ) {es : List Event} → Stepped b w es v → length es ≤ 2
step_two b w v (rests z t) = omega arith
step_two b w v (kills h) = omega arith
step_two b w v (expires z h) = omega arith
step_two b w v (matched p m) = meeting_two m

-- as many as the outcome says
pub causes_length : (w r : ℕ) (o : Outcome) → length (causes w r o) ≡ reports o
unfolding causes preventing
causes_length w r (Trade q l) = refl
causes_length w r (Prevented (CancelNewest q)) = refl
causes_length w r (Prevented (CancelOldest q)) = refl
causes_length w r (Prevented (Decrement x y)) =
    split (eqb x y) (λ t. rw t) (λ t. rw t (split (ltb x y) (λ u. rw u) (λ u. rw u)))
causes_length w r (Kills q) = refl
causes_length w r (Expires q) = refl
causes_length w r Rests = refl

-- nothing is in work, so nothing is to be written
pub none_most : (b : Book) → most_reports b 0 ≡ 0
unfolding most_reports open_of
none_most b = refl

pub shut_most : (b : Book) (w : ℕ) → is_open (at b w) ≡ false → most_reports b w ≡ 0
unfolding most_reports
shut_most b w h = rw h

-- an order in work with something open can still be written of
pub some_most : (b : Book) (w : ℕ) → 0 < open_of (at b w) → most_reports b w ≡ 2 * opposed_to b w + 1
unfolding most_reports
some_most b w h = rw (lt-ltb 0 (open_of (at b w)) h)

pub most_reports_lem : (b : Book) (w : ℕ) → most_reports b w ≤ 2 * opposed_to b w + 1
unfolding most_reports
most_reports_lem b w = split (is_open (at b w)) (λ t. rw t (omega arith)) (λ t. rw t (omega arith))

pub step_reports_lem : (b : Book) (w v : ℕ) {es : List Event} → Fits b es → Stepped b w es v → length es + most_reports (play b es) v ≤ most_reports b w
step_reports_lem b w v f (rests z t) = rw (none_most (play b [])) (omega arith)
step_reports_lem b w v {es} f (kills h) = omega (arith, none_most (play b es), some_most b w h)
step_reports_lem b w v {es} f (expires z h) = omega (arith, none_most (play b es), some_most b w h)
step_reports_lem b w v {es} f (matched {r = r} p m) =
    split (is_open (at (play b es) w))
    (λ u.
    let h = ltb-true 0 (open_of (at (play b es) w)) u in
    omega (arith, meeting_two m, some_most b w p.w_open, some_most (play b es) w h, fewer_opposed b w r f p m h))
    (λ u. omega (arith, meeting_two m, some_most b w p.w_open, shut_most (play b es) w u, opposed_pos b w r p))

-- the rule on numbers, kept by a step: the next number, raised by the reports, and those still to come
pub rule_kept : (modes : ℕ → ℕ) (missed : Bool) (next most : ℕ) (b : Book) (w : ℕ) → In b w → next ≤ most → (0 < open_of (at b w) → next + 2 * opposed_to b w + 1 ≤ most)
    → let c = book_after modes missed b w in
    let later = next + length (happens modes missed b w) in
    (later ≤ most) × (0 < open_of (at c (work_after missed b w)) → later + 2 * opposed_to c (work_after missed b w) + 1 ≤ most)
rule_kept modes missed next most b w i h r =
    let t = step_reports_lem b w (work_after missed b w) (happens_fits modes missed b w i) (step_is modes missed b w) in
    let before : next + most_reports b w ≤ most =
    split (is_open (at b w))
    (λ u. let o = ltb-true 0 (open_of (at b w)) u in omega (arith, some_most b w o, r o))
    (λ u. omega (arith, shut_most b w u)) in
    (omega arith, λ o. omega (arith, some_most (book_after modes missed b w) (work_after missed b w) o))

-- all reports of a run, and those still to come
pub run_reports_lem : (modes : ℕ → ℕ) (missed : Bool) (n : ℕ) (b : Book) (w : ℕ) → w ≤ length b
    → length (run modes missed n b w).events + most_reports (run modes missed n b w).book (run modes missed n b w).work ≤ most_reports b w
unfolding run
run_reports_lem modes missed zero b w h = omega arith
run_reports_lem modes missed (suc n) b zero h = omega arith
run_reports_lem modes missed (suc n) b (suc k) h =
    let es = happens modes missed b (suc k) in
    let fs = (run modes false n (play b es) (work_after missed b (suc k))).events in
    omega (
      arith,
      length-append es fs,
      step_reports_lem b (suc k) _ (happens_fits modes missed b (suc k) (first_in b k h)) (step_is modes missed b (suc k)),
      run_reports_lem modes false n (play b es) (work_after missed b (suc k)) (next_in modes missed b k h),
    )
