-- A run asks for one mode only, that of the MPID of the order in work; and a budget beyond the end of the work changes nothing.
use mathlib.Core.Path.{◌≡◌, refl, sym, ap, ◌∙◌}
use mathlib.Core.Bool.{Bool, false, ◌&&◌, ◌||◌}
use mathlib.Core.List.{[], ◌++◌, append-nil}
use Prim.Native.Nat.{ℕ, zero, suc, ◌+◌, ◌≤◌}
use native.Mathlib.Nat.{add-zero}
use lib.ListN.{length}
use lib.Dec.{eqb}
use Rattle.octets.proofs.Bools.{split}
use Rattle.matching.specs.Matching.{Book, at, partner, outcome, happens, work_after, Ran, run, play, would_trade, misses}
use Rattle.matching.proofs.Events.{Terms, play_terms, length_play}
use Rattle.matching.proofs.Steps.{happens_fits, first_in}
use Rattle.matching.proofs.Ends.{idle}
use Rattle.matching.proofs.Best.{run_on}

module _ (modes other : ℕ → ℕ) where
  same_happens : (missed : Bool) (b : Book) (w : ℕ) → modes (at b w).mpid ≡ other (at b w).mpid → happens modes missed b w ≡ happens other missed b w
  unfolding happens outcome
  same_happens missed b w e = rw e

  -- modes that agree on the MPID of w run alike
  pub same_modes : (missed : Bool) (n : ℕ) (b : Book) (w : ℕ) → w ≤ length b → modes (at b w).mpid ≡ other (at b w).mpid → run modes missed n b w ≡ run other missed n b w
  unfolding run work_after
  same_modes missed zero b w h e = refl
  same_modes missed (suc n) b zero h e = refl
  same_modes missed (suc n) b (suc k) h e =
      let es = happens modes missed b (suc k) in
      let c = play b es in
      let owner : (at c (suc k)).mpid ≡ (at b (suc k)).mpid =
      ap (λ (t : Terms). t.mpid) (play_terms (suc k) es b (happens_fits modes missed b (suc k) (first_in b k h))) in
      let g : run modes false n c (work_after missed b (suc k)) ≡ run other false n c (work_after missed b (suc k)) =
      split (missed || eqb (partner b (suc k)) 0)
      (λ t. rw t (idle modes false n c ∙ sym (idle other false n c)))
      (λ t. rw t (same_modes false n c (suc k) (rw (length_play es b (happens_fits modes missed b (suc k) (first_in b k h))) h) (rw owner e))) in
      rw (← same_happens missed b (suc k) e)
      (ap (λ (r : Ran). record { book = r.book; work = r.work; events = es ++ r.events; steps = suc r.steps }) g)

  -- and decide alike
  pub same_misses : (decided : ℕ) (b : Book) (w : ℕ) → w ≤ length b → modes (at b w).mpid ≡ other (at b w).mpid
      → misses modes decided b w ≡ misses other decided b w
  unfolding misses would_trade
  same_misses decided b w h e = rw (same_modes false (length b + 1) b w h e)

-- a budget beyond the end of the work
pub beyond : (modes : ℕ → ℕ) (missed : Bool) (n k : ℕ) (b : Book) (w : ℕ) → (run modes missed n b w).work ≡ 0 → run modes missed (n + k) b w ≡ run modes missed n b w
beyond modes missed n k b w z =
    let r = run modes missed n b w in
    let g = run_on modes missed n k b w in
    let i : run modes (eqb n 0 && missed) k r.book r.work ≡ record { book = r.book; work = 0; events = []; steps = 0 } = rw z (idle modes (eqb n 0 && missed) k r.book) in
    let p : (run modes missed (n + k) b w).book ≡ r.book = g.book ∙ ap (λ (x : Ran). x.book) i in
    let q : (run modes missed (n + k) b w).work ≡ r.work = g.work ∙ ap (λ (x : Ran). x.work) i ∙ sym z in
    let u : (run modes missed (n + k) b w).events ≡ r.events = g.events ∙ ap (λ (x : Ran). r.events ++ x.events) i ∙ append-nil _ in
    let v : (run modes missed (n + k) b w).steps ≡ r.steps = g.steps ∙ ap (λ (x : Ran). r.steps + x.steps) i ∙ add-zero _ in
    λ j. record { book = p j; work = q j; events = u j; steps = v j }
