-- What an order would trade: any budget that is enough gives the same. What one match does to the quantities open, by the mode; and
-- how a thing is shown of what a run executes: of the end of the work, and of each match.
use mathlib.Core.Path.{◌≡◌, refl, sym, ap, ◌∙◌}
use mathlib.Core.Bool.{Bool, true, false, ◌&&◌}
use mathlib.Core.List.{List, [], ◌∷◌}
use mathlib.Core.Logic.{◌≢◌}
use Prim.Native.Nat.{ℕ, zero, suc, ◌+◌, ◌-◌, ◌≤◌, ◌<◌, min}
use native.Mathlib.Omega.{arith}
use lib.ListN.{length}
use lib.Dec.{ltb, eqb}
use borrow.Author.Tests.{eqb-true, eqb-false, ltb-true, ltb-false, eq-eqb, ne_eqb}
use Rattle.octets.proofs.Bools.{split}
use Rattle.matching.specs.declared.Event.{Event}
use Rattle.matching.specs.declared.Event.TheVariants.{Traded}
use Rattle.matching.specs.declared.Prevention.TheVariants.{CancelNewest, CancelOldest, Decrement}
use Rattle.matching.specs.Matching.{Book, at, open_of, is_open, faces, better, same_owner, partner, prevention, meeting, ending, outcome, preventing, causes, play, happens, book_after, work_after, Ran, run, would_trade, is_immediate, met_by}
use Rattle.matching.specs.Held.{In, amount}
use Rattle.matching.specs.Accounts.{tally, trades}
use Rattle.matching.specs.Happens.{Fits}
use Rattle.matching.proofs.Books.{count_most}
use Rattle.matching.proofs.Events.{terms_of, change_executed, play_tally, play_terms, play_open, length_play}
use Rattle.matching.proofs.Steps.{Pair, paired, Meeting, trade, newest, oldest, equal, less, more, meeting_is, happens_fits}
use Rattle.matching.proofs.Ends.{left, left_most, match_less, idle, run_ends}
use Rattle.matching.proofs.Best.{partner_best}
use Rattle.matching.proofs.Modes.{beyond}

-- ---- the budget

pub left_length : (b : Book) (w : ℕ) → left b w ≤ length b
unfolding met_by
left_length b w = omega (arith, left_most b w, count_most (faces (at b w)) b (length b))

module _ (modes : ℕ → ℕ) (b : Book) (w : ℕ) (h : w ≤ length b) where
  least : (n : ℕ) → left b w < n → run modes false n b w ≡ run modes false (left b w + 1) b w
  least n l =
      let m = left b w + 1 in
      let e : n ≡ m + (n - m) = omega arith in
      ap (λ (k : ℕ). run modes false k b w) e ∙ beyond modes false m (n - m) b w (run_ends modes false m b w h (omega arith)).ended

  -- every budget above the number of orders that w can be matched with leads to the same end
  pub any_budget : (m n : ℕ) → left b w < m → left b w < n → run modes false m b w ≡ run modes false n b w
  any_budget m n k l = least m k ∙ sym (least n l)

-- what w has executed after a run of at most n steps
unfoldable pub executed_by : (ℕ → ℕ) → ℕ → Book → ℕ → ℕ
executed_by modes n b w = (at (run modes false n b w).book w).executed

-- what each enough budget tells is what w would trade
pub would_trade_lem : (modes : ℕ → ℕ) (b : Book) (w : ℕ) → w ≤ length b → (n : ℕ) → met_by b w < n
    → executed_by modes n b w - (at b w).executed ≡ would_trade modes b w
unfolding would_trade executed_by
would_trade_lem modes b w h n l =
    ap (λ (r : Ran). (at r.book w).executed - (at b w).executed)
    (any_budget modes b w h n (length b + 1) (omega (arith, left_most b w)) (omega (arith, left_length b w)))

pub would_execute : (modes : ℕ → ℕ) (b : Book) (w v : ℕ) → executed_by modes (length b + 1) b w ≡ (at b w).executed + v → v ≡ would_trade modes b w
unfolding would_trade executed_by
would_execute modes b w v e = omega arith

-- ---- one match

-- what is open of the order in work, q before and u after, and of the other, a before and v after, and what the first has executed,
-- e before and d after; by the mode and by whether both are of one owner
pub data Way (mode : ℕ) (same : Bool) (q a e u v d : ℕ) : Type 0 where
  traded : (t : ℕ) → same ≡ false → t ≡ min q a → u + t ≡ q → v + t ≡ a → d ≡ e + t → Way mode same q a e u v d
  newer : same ≡ true → mode ≡ 1 → u ≡ 0 → v ≡ a → d ≡ e → Way mode same q a e u v d
  older : same ≡ true → mode ≡ 2 → u ≡ q → v ≡ 0 → d ≡ e → Way mode same q a e u v d
  lowered : (t : ℕ) → same ≡ true → mode ≢ 1 → mode ≢ 2 → t ≡ min q a → u + t ≡ q → v + t ≡ a → d ≡ e → Way mode same q a e u v d

-- the same of the orders w and r of book b, whose events are es
abbrev WayOf : ℕ → Bool → Book → ℕ → ℕ → List Event → Type 0
WayOf mode same b w r es =
    Way mode same (open_of (at b w)) (open_of (at b r)) (at b w).executed (open_of (at b w) - tally amount w es)
    (open_of (at b r) - tally amount r es) ((at b w).executed + tally trades w es)

module _ (b : Book) (w r mode : ℕ) (n : r ≢ w) where
  lowering : mode ≢ 1 → mode ≢ 2 → WayOf mode true b w r (preventing w r (Decrement (open_of (at b w)) (open_of (at b r))))
  unfolding preventing tally
  lowering o p =
      split (eqb (open_of (at b w)) (open_of (at b r)))
      (λ x.
      let e = eqb-true (open_of (at b w)) (open_of (at b r)) x in
      rw x
      (simp (eq-eqb w w refl, eq-eqb r r refl, ne_eqb r w n, ne_eqb w r (λ q. n (sym q)))
      (lowered (open_of (at b w)) refl o p (omega arith) (omega arith) (omega arith) (omega arith))))
      (λ x. rw x
      (split (ltb (open_of (at b w)) (open_of (at b r)))
      (λ y.
      let e = ltb-true (open_of (at b w)) (open_of (at b r)) y in
      rw y
      (simp (eq-eqb w w refl, eq-eqb r r refl, ne_eqb r w n, ne_eqb w r (λ q. n (sym q)))
      (lowered (open_of (at b w)) refl o p (omega arith) (omega arith) (omega arith) (omega arith))))
      (λ y.
      let e = ltb-false (open_of (at b w)) (open_of (at b r)) y in
      rw y
      (simp (eq-eqb w w refl, eq-eqb r r refl, ne_eqb r w n, ne_eqb w r (λ q. n (sym q)))
      (lowered (open_of (at b r)) refl o p (omega arith) (omega arith) (omega arith) (omega arith))))))

  newest_way : mode ≡ 1 → WayOf mode true b w r (preventing w r (CancelNewest (open_of (at b w))))
  unfolding preventing tally
  newest_way o = simp (eq-eqb w w refl, ne_eqb r w n) (newer refl o (omega arith) (omega arith) (omega arith))

  oldest_way : mode ≡ 2 → WayOf mode true b w r (preventing w r (CancelOldest (open_of (at b r))))
  unfolding preventing tally
  oldest_way o = simp (eq-eqb r r refl, ne_eqb w r (λ q. n (sym q))) (older refl o (omega arith) (omega arith) (omega arith))

  prevented_way : WayOf mode true b w r (preventing w r (prevention mode (open_of (at b w)) (open_of (at b r))))
  unfolding prevention
  prevented_way =
      split (eqb mode 1)
      (λ o. rw o (newest_way (eqb-true _ _ o)))
      (λ o. rw o
      (split (eqb mode 2) (λ p. rw p (oldest_way (eqb-true _ _ p))) (λ p. rw p (lowering (eqb-false _ _ o) (eqb-false _ _ p)))))

  trade_way : WayOf mode false b w r
      (Traded r w (min (open_of (at b w)) (open_of (at b r))) (at b r).level
      ∷ Traded w r (min (open_of (at b w)) (open_of (at b r))) (at b r).level
      ∷ [])
  unfolding tally
  trade_way =
      simp (eq-eqb w w refl, eq-eqb r r refl, ne_eqb r w n, ne_eqb w r (λ q. n (sym q)))
      (traded (min (open_of (at b w)) (open_of (at b r))) refl refl (omega arith) (omega arith) (omega arith))

  meeting_way : WayOf mode (same_owner (at b w) (at b r)) b w r (causes w r (meeting (at b w) (at b r) mode))
  unfolding causes meeting
  meeting_way = split (same_owner (at b w) (at b r)) (λ t. rw t prevented_way) (λ t. rw t trade_way)

-- no other order is touched
meeting_rest : {b : Book} {w r : ℕ} {es : List Event} → Meeting b w r es → (k : ℕ) → k ≢ w → k ≢ r → tally amount k es ≡ 0
unfolding tally
meeting_rest {b} {w} {r} (trade o) k x y = simp (ne_eqb k w x, ne_eqb k r y)
meeting_rest {b} {w} {r} newest k x y = simp (ne_eqb k w x)
meeting_rest {b} {w} {r} oldest k x y = simp (ne_eqb k r y)
meeting_rest {b} {w} {r} (equal h) k x y = simp (ne_eqb k w x, ne_eqb k r y)
meeting_rest {b} {w} {r} (less h) k x y = simp (ne_eqb k w x, ne_eqb k r y)
meeting_rest {b} {w} {r} (more h) k x y = simp (ne_eqb k w x, ne_eqb k r y)

-- a step that matches w with r leads from book b to book c
pub record Matched (modes : ℕ → ℕ) (b c : Book) (w r : ℕ) : Type 0 where
  pub pair : Pair b w r
  pub best : (k : ℕ) → In b k → faces (at b w) (at b k) ≡ true → better (at b k) (at b r) ≡ false
  pub alike : (k : ℕ) → terms_of (at c k) ≡ terms_of (at b k)
  pub size : length c ≡ length b
  pub rest : (k : ℕ) → k ≢ w → k ≢ r → open_of (at c k) ≡ open_of (at b k)
  pub way : Way (modes (at b w).mpid) (same_owner (at b w) (at b r)) (open_of (at b w)) (open_of (at b r)) (at b w).executed
      (open_of (at c w)) (open_of (at c r)) (at c w).executed
  pub fewer : left c w < left b w

-- what events that fit execute of an order
played_executed : (k : ℕ) (es : List Event) (b : Book) → Fits b es → (at (play b es) k).executed ≡ (at b k).executed + tally trades k es
played_executed k es b f = play_tally (λ o. o.executed) trades change_executed k es b f

module _ (modes : ℕ → ℕ) (b : Book) (w : ℕ) (i : In b w) where
  matching : eqb (partner b w) 0 ≡ false → happens modes false b w ≡ causes w (partner b w) (meeting (at b w) (at b (partner b w)) (modes (at b w).mpid))
  unfolding happens outcome
  matching t = rw t

  matched_is : (r : ℕ) → partner b w ≡ r → 0 < r → (es : List Event) → Fits b es
      → es ≡ causes w r (meeting (at b w) (at b r) (modes (at b w).mpid)) → Matched modes b (play b es) w r
  matched_is r p l es f e =
      let pr = paired b w r p l in
      let m : Meeting b w r es = rw e (meeting_is b w r (modes (at b w).mpid)) in
      record {
        pair = pr;
        best = λ k j x. partner_best b w r k p l j x;
        alike = λ k. play_terms k es b f;
        size = length_play es b f;
        rest = λ k x y. omega (arith, play_open k es b f, meeting_rest m k x y);
        way = rw (play_open w es b f, play_open r es b f, played_executed w es b f, e) (meeting_way b w r (modes (at b w).mpid) pr.apart);
        fewer = match_less b w r f pr m;
      }

  pub step_matched : eqb (partner b w) 0 ≡ false → Matched modes b (book_after modes false b w) w (partner b w)
  step_matched t = matched_is (partner b w) refl (omega (arith, eqb-false)) (happens modes false b w) (happens_fits modes false b w i) (matching t)

  -- a step that matches w with none executes nothing
  unmatched : eqb (partner b w) 0 ≡ true → tally trades w (happens modes false b w) ≡ 0
  unfolding happens outcome ending causes tally
  unmatched t = rw t (split (is_immediate (at b w) && is_open (at b w)) (λ u. rw u (simp (eq-eqb w w refl))) (λ u. rw u))

  pub step_unmatched : eqb (partner b w) 0 ≡ true → (at (book_after modes false b w) w).executed ≡ (at b w).executed
  step_unmatched t = omega (arith, played_executed w (happens modes false b w) b (happens_fits modes false b w i), unmatched t)

-- ---- a run

work_goes_on : (b : Book) (w : ℕ) → eqb (partner b w) 0 ≡ false → work_after false b w ≡ w
unfolding work_after
work_goes_on b w t = rw t

work_over : (b : Book) (w : ℕ) → eqb (partner b w) 0 ≡ true → work_after false b w ≡ 0
unfolding work_after
work_over b w t = rw t

run_step : (modes : ℕ → ℕ) (n : ℕ) (b : Book) (w : ℕ) → 0 < w → (run modes false (suc n) b w).book ≡ (run modes false n (book_after modes false b w) (work_after false b w)).book
unfolding run
run_step modes n b zero l = absurd (omega arith)
run_step modes n b (suc k) l = refl

module _ (modes : ℕ → ℕ) (n : ℕ) (b : Book) (w : ℕ) (i : In b w) where
  executed_stop : eqb (partner b w) 0 ≡ true → executed_by modes (suc n) b w ≡ (at b w).executed
  unfolding executed_by
  executed_stop t =
      let e : (run modes false (suc n) b w).book ≡ book_after modes false b w =
      run_step modes n b w i.low ∙ rw (work_over b w t, idle modes false n (book_after modes false b w)) refl in
      ap (λ (c : Book). (at c w).executed) e ∙ step_unmatched modes b w i t

  executed_on : eqb (partner b w) 0 ≡ false → executed_by modes (suc n) b w ≡ executed_by modes n (book_after modes false b w) w
  unfolding executed_by
  executed_on t =
      let e : (run modes false (suc n) b w).book ≡ (run modes false n (book_after modes false b w) w).book =
      run_step modes n b w i.low ∙ rw (work_goes_on b w t) refl in
      ap (λ (c : Book). (at c w).executed) e

-- what holds where w is matched with none, and before a match where it holds after it, holds of what a run to the end executes
module _ (modes : ℕ → ℕ) (w : ℕ) (P : Book → ℕ → Type 0) (stop : (b : Book) → In b w → partner b w ≡ 0 → P b (at b w).executed)
    (step : (b c : Book) (r x : ℕ) → In b w → Matched modes b c w r → P c x → P b x) where
  pub run_shows : (n : ℕ) (b : Book) → In b w → left b w < n → P b (executed_by modes n b w)
  run_shows zero b i l = absurd (omega arith)
  run_shows (suc n) b i l =
      split (eqb (partner b w) 0)
      (λ t. rw (executed_stop modes n b w i t) (stop b i (eqb-true _ _ t)))
      (λ t.
      let c = book_after modes false b w in
      let m = step_matched modes b w i t in
      rw (executed_on modes n b w i t)
      (step b c (partner b w) _ i m (run_shows n c (record { low = i.low; high = rw m.size i.high }) (omega (arith, m.fewer)))))
