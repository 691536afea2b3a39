-- A step keeps what a market asks of its book, with the next number raised by the reports written; so does a run of steps,
-- an acceptance, a replacement and a withdrawal as Submit makes them, and a report about no order.
use mathlib.Core.Path.{◌≡◌, refl, sym, ap, ◌∙◌}
use mathlib.Core.Bool.{Bool, true, false, ◌&&◌, ◌||◌}
use mathlib.Core.List.{List, [], ◌∷◌, ◌++◌}
use mathlib.Core.Logic.{◌≢◌}
use Prim.Native.Nat.{ℕ, zero, suc, ◌+◌, ◌*◌, ◌≤◌, ◌<◌}
use native.Mathlib.Nat.{add-zero}
use native.Mathlib.Omega.{arith}
use lib.ListN.{length, length-append}
use lib.Dec.{eqb}
use borrow.Author.Tests.{ltb-true, ltb-false, eqb-true, eqb-false, eq-eqb}
use Rattle.octets.proofs.Bools.{split}
use Rattle.matching.specs.declared.Order.{Order}
use Rattle.matching.specs.declared.Event.{Event}
use Rattle.matching.specs.Matching.{Book, at, open_of, is_open, is_immediate, opposed_to, most_reports, who, play, happens, book_after, work_after, run}
use Rattle.matching.specs.Held.{In, Uncrossed, Held, Readies, amount}
use Rattle.matching.specs.Accounts.{tally}
use Rattle.matching.specs.Happens.{Fits}
use Rattle.matching.proofs.Events.{Terms, play_terms, play_open, length_play}
use Rattle.matching.proofs.Steps.{Stepped, rests, kills, expires, matched, step_is, step_fits, first_in}
use Rattle.matching.proofs.Crossing.{step_uncrossed}
use Rattle.matching.proofs.Ends.{some_most, shut_most, step_reports_lem}
use Rattle.matching.proofs.Sounds.{Worths, step_worth, play_sound, play_ready}

-- ---- no immediate order is open afterwards but for the order in work
rest_closed : (o : Order) → (is_immediate o && is_open o) ≡ false → is_immediate o ≡ true → open_of o ≡ 0
rest_closed o t e =
    split (is_open o)
    (λ u. absurd (let z : true ≡ false = sym (simp (u, e)) ∙ t in let y : ◌≡◌ {A = ℕ} 0 1 = cc in omega arith))
    (λ u. omega (arith, ltb-false 0 (open_of o) u))

-- an event that takes all that is open of w closes it
all_closed : (b : Book) (w : ℕ) (e : Event) → who e ≡ w → amount e ≡ open_of (at b w) → Fits b (e ∷ []) → open_of (at (play b (e ∷ [])) w) ≡ 0
unfolding tally
all_closed b w e h a f = omega (arith, rw (h, eq-eqb w w refl) at (play_open w (e ∷ []) b f))

-- and so the last one of w leaves nothing open that may not rest
ended_no_ioc : (b : Book) (w : ℕ) (e : Event) → who e ≡ w → amount e ≡ open_of (at b w) → Fits b (e ∷ []) → ((k : ℕ) → k ≢ w → is_immediate (at b k) ≡ true → open_of (at b k) ≡ 0)
    → (k : ℕ) → is_immediate (at b k) ≡ true → open_of (at (play b (e ∷ [])) k) ≡ 0
ended_no_ioc b w e h a f n k i =
    split (eqb k w)
    (λ u. rw (eqb-true k w u) (all_closed b w e h a f))
    (λ u. omega (arith, play_open k (e ∷ []) b f, n k (eqb-false k w u) i))

step_no_ioc : (b : Book) (w v : ℕ) {es : List Event} → Fits b es → ((k : ℕ) → k ≢ w → is_immediate (at b k) ≡ true → open_of (at b k) ≡ 0) → Stepped b w es v
    → (k : ℕ) → k ≢ v → is_immediate (at b k) ≡ true → open_of (at (play b es) k) ≡ 0
step_no_ioc b w v f n (rests z t) k h e =
    split (eqb k w)
    (λ u. let q = eqb-true k w u in omega (arith, play_open k [] b f, rw (← q) at (rest_closed (at b w) t (rw q at e))))
    (λ u. omega (arith, play_open k [] b f, n k (eqb-false k w u) e))
step_no_ioc b w v f n (kills x) k h e = ended_no_ioc b w _ refl refl f n k e
step_no_ioc b w v f n (expires z x) k h e = ended_no_ioc b w _ refl refl f n k e
step_no_ioc b w v {es} f n (matched p m) k h e = omega (arith, play_open k es b f, n k h e)

-- ---- the rule on numbers: the next number and all that can still be written stay within 1,000,000,000
pub numbers_most : (listed : ℕ → Bool) (next : ℕ) (b : Book) (w : ℕ) → Held listed next b w → next + most_reports b w ≤ 1_000_000_000
numbers_most listed next b w h =
    split (is_open (at b w))
    (λ t. let o = ltb-true 0 (open_of (at b w)) t in omega (arith, some_most b w o, h.numbers o))
    (λ t. omega (arith, shut_most b w t, h.next_high))

pub most_numbers : (next : ℕ) (b : Book) (w : ℕ) → next + most_reports b w ≤ 1_000_000_000 → 0 < open_of (at b w) → next + 2 * opposed_to b w + 1 ≤ 1_000_000_000
most_numbers next b w h o = omega (arith, some_most b w o)

-- ---- events that fit and trade in range, whoever is in work after them
module _ (listed : ℕ → Bool) (next : ℕ) (b : Book) (w v : ℕ) (es : List Event) (h : Held listed next b w) (f : Fits b es) (u : Worths es) where
  back : (k : ℕ) → In (play b es) k → In b k
  back k j = record { low = j.low; high = rw (length_play es b f) at j.high }

  place_same : (k : ℕ) → (at (play b es) k).place ≡ (at b k).place
  place_same k = ap (λ (t : Terms). t.place) (play_terms k es b f)

  pub moved_held : v ≤ length b → ((k : ℕ) → k ≢ v → is_immediate (at b k) ≡ true → open_of (at (play b es) k) ≡ 0) → Uncrossed (play b es) v
      → next + length es + most_reports (play b es) v ≤ 1_000_000_000 → Held listed (next + length es) (play b es) v
  moved_held l ioc x m =
      record {
        work = rw (length_play es b f) l;
        sound = λ k j. play_sound k es b f u (h.sound k (back k j));
        owned = λ k j. rw (ap (λ (t : Terms). t.mpid) (play_terms k es b f)) (h.owned k (back k j));
        places_apart = λ k n j i e. h.places_apart k n (back k j) (back n i) (sym (place_same k) ∙ e ∙ place_same n);
        places_below = λ k j. omega (arith, place_same k, h.places_below k (back k j));
        no_ioc_lem = λ k n e. ioc k n (sym (ap (λ (t : Terms). eqb t.tif 3 || eqb t.tif 4) (play_terms k es b f)) ∙ e);
        uncrossed = x;
        next_high = omega arith;
        numbers = most_numbers (next + length es) (play b es) v m;
      }

-- ---- a step
stepped_in : (b : Book) (w v : ℕ) {es : List Event} → In b w → Stepped b w es v → v ≤ length b
stepped_in b w v i (rests z t) = omega arith
stepped_in b w v i (kills h) = omega arith
stepped_in b w v i (expires z h) = omega arith
stepped_in b w v i (matched p m) = i.high

module _ (listed : ℕ → Bool) (next : ℕ) (b : Book) (w v : ℕ) (es : List Event) (i : In b w) (h : Held listed next b w) (t : Stepped b w es v) where
  fits : Fits b es
  fits = step_fits b w v i t

  worth : Worths es
  worth = step_worth b w v h.sound t

  pub stepped_ready : Readies b es
  stepped_ready = play_ready es b fits worth h.sound

  pub stepped_held : Held listed (next + length es) (play b es) v
  stepped_held =
      moved_held listed next b w v es h fits worth (stepped_in b w v i t) (step_no_ioc b w v fits h.no_ioc_lem t)
      (step_uncrossed b w v fits h.uncrossed t) (omega (arith, numbers_most listed next b w h, step_reports_lem b w v fits t))

-- the step of the definition: its events are ready when their turn comes, and the book is held after them
module _ (listed : ℕ → Bool) (modes : ℕ → ℕ) (missed : Bool) (next : ℕ) (b : Book) (w : ℕ) (i : In b w) (h : Held listed next b w) where
  pub step_ready : Readies b (happens modes missed b w)
  step_ready = stepped_ready listed next b w _ _ i h (step_is modes missed b w)

  pub step_held : Held listed (next + length (happens modes missed b w)) (book_after modes missed b w) (work_after missed b w)
  step_held = stepped_held listed next b w _ _ i h (step_is modes missed b w)

-- a run of steps
pub run_held : (listed : ℕ → Bool) (modes : ℕ → ℕ) (missed : Bool) (n next : ℕ) (b : Book) (w : ℕ) → Held listed next b w
    → Held listed (next + length (run modes missed n b w).events) (run modes missed n b w).book (run modes missed n b w).work
unfolding run
run_held listed modes missed zero next b w h = rw (add-zero next) h
run_held listed modes missed (suc n) next b zero h = rw (add-zero next) h
run_held listed modes missed (suc n) next b (suc k) h =
    let es = happens modes missed b (suc k) in
    let fs = (run modes false n (play b es) (work_after missed b (suc k))).events in
    let g = run_held listed modes false n (next + length es) (play b es) (work_after missed b (suc k)) (step_held listed modes missed next b (suc k) (first_in b k h.work) h) in
    let e : next + length es + length fs ≡ next + length (es ++ fs) = omega (arith, length-append es fs) in
    rw e at g
