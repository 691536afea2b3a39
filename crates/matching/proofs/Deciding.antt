-- The decision on a minimum: when none is asked for, and what a run comes to that was decided: an order that misses its minimum is
-- killed whole in one step, and one that does not has traded it when its work has ended.
use mathlib.Core.Path.{◌≡◌, refl, sym, ap, ◌∙◌}
use mathlib.Core.Bool.{true, false}
use mathlib.Core.List.{[], ◌∷◌}
use mathlib.Core.Logic.{◌⊎◌, inl, inr}
use Prim.Native.Nat.{ℕ, zero, suc, ◌+◌, ◌-◌, ◌≤◌, ◌<◌}
use native.Mathlib.Omega.{arith}
use native.Mathlib.Nat.{add_comm}
use lib.ListN.{length}
use lib.Dec.{eqb, ltb}
use borrow.Author.Tests.{ltb-false, lt-ltb, le-ltb, eq-eqb, ne_eqb}
use Rattle.octets.proofs.Bools.{split, both_not_r}
use Rattle.matching.specs.declared.Event.TheVariants.{Killed}
use Rattle.matching.specs.Matching.{Book, at, open_of, outcome, causes, after, play, happens, work_after, Ran, run, minimum_of, would_trade, misses, decided_after}
use Rattle.matching.specs.Held.{In}
use Rattle.matching.specs.Accounts.{tally}
use Rattle.matching.specs.Happens.{Fits}
use Rattle.matching.specs.Runs.{KilledWhole}
use Rattle.matching.proofs.Events.{after_other, play_open}
use Rattle.matching.proofs.Steps.{happens_fits}
use Rattle.matching.proofs.Ends.{idle, run_ends}
use Rattle.matching.proofs.Modes.{beyond}
use Rattle.matching.proofs.Minimum.{left_length}

-- ---- no minimum is missed

-- by an order that has none, where nothing is in work, and by one that is decided
pub no_minimum : (modes : ℕ → ℕ) (decided : ℕ) (b : Book) (w : ℕ) → minimum_of (at b w) ≡ 0 → misses modes decided b w ≡ false
unfolding misses
no_minimum modes decided b w e =
    let z : ltb (would_trade modes b w) (minimum_of (at b w)) ≡ false = le-ltb (would_trade modes b w) (minimum_of (at b w)) (omega arith) in
    rw z (both_not_r (eqb decided 0) false refl)

pub idle_misses : (modes : ℕ → ℕ) (decided : ℕ) (b : Book) → misses modes decided b 0 ≡ false
unfolding minimum_of
idle_misses modes decided b = no_minimum modes decided b 0 refl

pub decided_misses : (modes : ℕ → ℕ) (decided : ℕ) (b : Book) (w : ℕ) → (decided ≡ 0 → ⊥) → misses modes decided b w ≡ false
unfolding misses
decided_misses modes decided b w n = rw (ne_eqb decided 0 n)

-- and so by none after a step, with the decision that was noted
pub noted_misses : (modes : ℕ → ℕ) (b c : Book) (w : ℕ) → minimum_of (at c w) ≡ minimum_of (at b w) → misses modes (decided_after b w) c w ≡ false
unfolding decided_after
noted_misses modes b c w m =
    split (ltb 0 (minimum_of (at b w)))
    (λ e. rw e (decided_misses modes 1 c w (λ z. omega arith)))
    (λ e. rw e (no_minimum modes 0 c w (m ∙ zero_of _ e)))
  where
    zero_of : (x : ℕ) → ltb 0 x ≡ false → x ≡ 0
    zero_of x e = omega (arith, ltb-false 0 x e)

-- ---- a run that was decided

module _ (modes : ℕ → ℕ) (b : Book) (w : ℕ) (i : In b w) where
  -- it is killed whole
  killed_events : 0 < open_of (at b w) → happens modes true b w ≡ Killed w (open_of (at b w)) ∷ []
  unfolding happens outcome causes
  killed_events o = rw (lt-ltb 0 (open_of (at b w)) o)

  killed_fits : 0 < open_of (at b w) → Fits b (Killed w (open_of (at b w)) ∷ [])
  killed_fits o = rw (killed_events o) at (happens_fits modes true b w i)

  killed_run : (n k : ℕ) → w ≡ suc k → 0 < open_of (at b w)
      → run modes true (suc n) b w
      ≡ record { book = after b (Killed w (open_of (at b w))); work = 0; events = Killed w (open_of (at b w)) ∷ []; steps = 1 }
  unfolding run work_after play
  killed_run n k e o =
      let h = rw e at (killed_events o) in
      rw (e, h, idle modes false n (after b (Killed (suc k) (open_of (at b (suc k))))))

  pub killed_whole : (n : ℕ) → 0 < open_of (at b w) → (run modes true n b w).work ≡ 0 → KilledWhole b w (run modes true n b w)
  unfolding run tally play
  killed_whole zero o z = absurd (omega (arith, i.low))
  killed_whole (suc n) o z = go w refl
    where
      go : (v : ℕ) → v ≡ w → KilledWhole b w (run modes true (suc n) b w)
      go zero e = absurd (omega (arith, i.low))
      go (suc k) e =
          let f = killed_fits o in
          rw (killed_run n k (sym e) o)
          (record {
            events = refl;
            shut = omega (arith, rw (eq-eqb w w refl) at (play_open w (Killed w (open_of (at b w)) ∷ []) b f));
            others = λ j d. after_other b (Killed w (open_of (at b w))) f.0 j d;
          })

  -- it has traded its minimum
  ended_trades : (n : ℕ) → (run modes false n b w).work ≡ 0 → (at (run modes false n b w).book w).executed - (at b w).executed ≡ would_trade modes b w
  unfolding would_trade
  ended_trades n z =
      let m = length b + 1 in
      let e = run_ends modes false m b w i.high (omega (arith, left_length b w)) in
      let p = beyond modes false n m b w z in
      let q = beyond modes false m n b w e.ended in
      let c : n + m ≡ m + n = add_comm n m in
      let s : run modes false n b w ≡ run modes false m b w = sym p ∙ ap (λ (k : ℕ). run modes false k b w) c ∙ q in
      ap (λ (r : Ran). (at r.book w).executed - (at b w).executed) s

  pub reached : (n : ℕ) → misses modes 0 b w ≡ false → (run modes false n b w).work ≡ 0
      → minimum_of (at b w) ≤ (at (run modes false n b w).book w).executed - (at b w).executed
  unfolding misses
  reached n e z = rw (ended_trades n z) (ltb-false _ _ e)

  -- the one or the other, by the decision before the first step
  pub decided_run : (n : ℕ) → 0 < open_of (at b w)
      → let r = run modes (misses modes 0 b w) n b w in
      r.work ≡ 0 → KilledWhole b w r ⊎ (minimum_of (at b w) ≤ (at r.book w).executed - (at b w).executed)
  decided_run n o z =
      split (misses modes 0 b w)
      (λ e. rw e (inl (killed_whole n o (rw e at z))))
      (λ e. rw e (inr (reached n e (rw e at z))))
