-- The shape of a step: it ends the work, by a kill, by an expiry or with nothing, or matches the order in work, w, with another, r, in
-- one of six ways. What a step does fits the book, and a run of steps plays its events.
use mathlib.Core.Path.{◌≡◌, refl, sym, ◌∙◌}
use mathlib.Core.Bool.{Bool, true, false, cond, not, ◌&&◌, ◌||◌}
use mathlib.Core.List.{List, [], ◌∷◌}
use mathlib.Core.Logic.{◌≢◌}
use Prim.Native.Nat.{ℕ, zero, suc, ◌≤◌, ◌<◌, min}
use native.Mathlib.Omega.{arith}
use lib.ListN.{length}
use lib.Dec.{ltb, eqb}
use borrow.Author.Tests.{ltb-true, ltb-false, eqb-true, eqb-false, lt-ltb}
use Rattle.octets.proofs.Bools.{split, not_both, both_l, both_r}
use Rattle.matching.specs.declared.Order.{Order}
use Rattle.matching.specs.declared.Event.{Event}
use Rattle.matching.specs.declared.Event.TheVariants.{Canceled, Decremented, Traded, Killed, Expired}
use Rattle.matching.specs.Matching.{Book, at, open_of, is_open, is_buy, opposite, meets, better, faces, choose, best, is_immediate, same_owner, prevention, meeting, ending, preventing, causes, who, play, partner, outcome, happens, work_after, run}
use Rattle.matching.specs.Held.{In, amount}
use Rattle.matching.specs.Accounts.{cancels}
use Rattle.matching.specs.Happens.{moves, Fit, Fits}
use Rattle.matching.proofs.Events.{two_fit, length_play, play_append, fits_append}

-- ---- an order that another meets

pub faces_open : (o r : Order) → faces o r ≡ true → 0 < open_of r
unfolding faces
faces_open o r e = ltb-true _ _ (both_l _ _ (both_l _ _ e))

pub faces_opposite : (o r : Order) → faces o r ≡ true → opposite o r ≡ true
unfolding faces
faces_opposite o r e = both_r (is_open r) _ (both_l _ _ e)

pub faces_meets : (o r : Order) → faces o r ≡ true → meets o r ≡ true
unfolding faces
faces_meets o r e = both_r (is_open r && opposite o r) _ e

pub faces_of : (o r : Order) → 0 < open_of r → opposite o r ≡ true → meets o r ≡ true → faces o r ≡ true
unfolding faces
faces_of o r h p m = rw (lt-ltb 0 (open_of r) h, p, m)

pub faces_closed : (o r : Order) → open_of r ≡ 0 → faces o r ≡ false
unfolding faces
faces_closed o r h = rw h

-- an order is not opposite to itself
pub not_opposite : (t : Bool) → cond t (not t) t ≡ true → ⊥
not_opposite true e = not_both e refl
not_opposite false e = not_both e refl

-- ---- the best

pub best_found : (b : Book) (o : Order) (n c : ℕ) → best b o n ≡ c → 0 < c → (c ≤ n) × (faces o (at b c) ≡ true)
unfolding best choose
best_found b o zero c e p = absurd (omega arith)
best_found b o (suc n) c e p =
    split (faces o (at b (suc n)) && (eqb (best b o n) 0 || better (at b (suc n)) (at b (best b o n))))
    (λ t. let g : suc n ≡ c = rw t at e in (omega arith, rw (← g) (both_l _ _ t)))
    (λ t. let g = best_found b o n c (rw t at e) p in (omega arith, g.1))

pub best_none : (b : Book) (o : Order) (n : ℕ) → best b o n ≡ 0 → (k : ℕ) → 0 < k → k ≤ n → faces o (at b k) ≡ false
unfolding best choose
best_none b o zero e k l h = absurd (omega arith)
best_none b o (suc n) e k l h =
    split (faces o (at b (suc n)) && (eqb (best b o n) 0 || better (at b (suc n)) (at b (best b o n))))
    (λ t. absurd (let y : suc n ≡ 0 = rw t at e in omega arith))
    (λ t.
    let z : best b o n ≡ 0 = rw t at e in
    split (eqb k (suc n))
    (λ u. rw (eqb-true k (suc n) u) (split (faces o (at b (suc n))) (λ v. sym (sym t ∙ rw (v, z))) (λ v. v)))
    (λ u. best_none b o n z k l (omega (arith, eqb-false))))

-- ---- a pair

-- what is known of the order r that w is matched with
pub record Pair (b : Book) (w r : ℕ) : Type 0 where
  pub inside : In b r
  pub w_open : 0 < open_of (at b w)
  pub r_open : 0 < open_of (at b r)
  pub opposed : opposite (at b w) (at b r) ≡ true
  pub meet : meets (at b w) (at b r) ≡ true
  pub apart : r ≢ w

pub paired : (b : Book) (w r : ℕ) → partner b w ≡ r → 0 < r → Pair b w r
unfolding partner
paired b w r e p =
    split (is_open (at b w))
    (λ t.
    let g = best_found b (at b w) (length b) r (rw t at e) p in
    let n = faces_opposite _ _ g.1 in
    record {
      inside = record { low = p; high = g.0 };
      w_open = ltb-true _ _ t;
      r_open = faces_open _ _ g.1;
      opposed = n;
      meet = faces_meets _ _ g.1;
      apart = λ q. not_opposite (is_buy (at b w)) (rw q at n);
    })
    (λ t. absurd (let q : 0 ≡ r = rw t at e in omega arith))

-- the events of a pair, with what is known in each case
pub data Meeting (b : Book) (w r : ℕ) : List Event → Type 0 where
  trade : same_owner (at b w) (at b r) ≡ false
      → Meeting b w r
      (Traded r w (min (open_of (at b w)) (open_of (at b r))) (at b r).level
      ∷ Traded w r (min (open_of (at b w)) (open_of (at b r))) (at b r).level
      ∷ [])
  newest : Meeting b w r (Canceled w (open_of (at b w)) ∷ [])
  oldest : Meeting b w r (Canceled r (open_of (at b r)) ∷ [])
  equal : open_of (at b w) ≡ open_of (at b r) → Meeting b w r (Canceled r (open_of (at b r)) ∷ Canceled w (open_of (at b w)) ∷ [])
  less : open_of (at b w) < open_of (at b r) → Meeting b w r (Canceled w (open_of (at b w)) ∷ Decremented r (open_of (at b w)) ∷ [])
  more : open_of (at b r) < open_of (at b w) → Meeting b w r (Canceled r (open_of (at b r)) ∷ Decremented w (open_of (at b r)) ∷ [])

pub meeting_is : (b : Book) (w r mode : ℕ) → Meeting b w r (causes w r (meeting (at b w) (at b r) mode))
unfolding causes meeting prevention preventing
meeting_is b w r mode =
    split (same_owner (at b w) (at b r))
    (λ t. rw t
    (split (eqb mode 1) (λ t. rw t newest)
    (λ t. rw t
    (split (eqb mode 2) (λ t. rw t oldest)
    (λ t. rw t
    (split (eqb (open_of (at b w)) (open_of (at b r))) (λ t. rw t (equal (eqb-true _ _ t)))
    (λ t. rw t
    (split (ltb (open_of (at b w)) (open_of (at b r))) (λ u. rw u (less (ltb-true _ _ u)))
    (λ u. rw u (more (omega (arith, eqb-false, ltb-false))))))))))))
    (λ t. rw t (trade t))

-- a trade or a decrement of some of what is open fits, and so does a cancel of all of it
part_fits : (b : Book) (e : Event) → moves e ≡ true → cancels e ≡ 0 → In b (who e) → amount e ≤ open_of (at b (who e)) → Fit b e
part_fits b e m z i h = record { moving = m; inside = i; enough = h; whole = λ l. absurd (omega arith) }

cancel_fits : (b : Book) (k : ℕ) → In b k → Fit b (Canceled k (open_of (at b k)))
cancel_fits b k i = record { moving = refl; inside = i; enough = omega arith; whole = λ l. refl }

module _ (b : Book) (w r : ℕ) (i : In b w) (p : Pair b w r) where
  pub meeting_fits : {es : List Event} → Meeting b w r es → Fits b es
  meeting_fits (trade o) =
      two_fit b _ _ (λ e. p.apart (sym e)) (part_fits b _ refl refl p.inside (omega arith)) (part_fits b _ refl refl i (omega arith))
  meeting_fits newest = (cancel_fits b w i, tt)
  meeting_fits oldest = (cancel_fits b r p.inside, tt)
  meeting_fits (equal h) = two_fit b _ _ (λ e. p.apart (sym e)) (cancel_fits b r p.inside) (cancel_fits b w i)
  meeting_fits (less h) = two_fit b _ _ p.apart (cancel_fits b w i) (part_fits b _ refl refl p.inside (omega arith))
  meeting_fits (more h) = two_fit b _ _ (λ e. p.apart (sym e)) (cancel_fits b r p.inside) (part_fits b _ refl refl i (omega arith))

-- what a step can do
pub data Stepped (b : Book) (w : ℕ) : List Event → ℕ → Type 0 where
  rests : partner b w ≡ 0 → (is_immediate (at b w) && is_open (at b w)) ≡ false → Stepped b w [] 0
  kills : 0 < open_of (at b w) → Stepped b w (Killed w (open_of (at b w)) ∷ []) 0
  expires : partner b w ≡ 0 → 0 < open_of (at b w) → Stepped b w (Expired w (open_of (at b w)) ∷ []) 0
  matched : {r : ℕ} {es : List Event} → Pair b w r → Meeting b w r es → Stepped b w es w

-- one with nothing open is matched with none
shut_alone : (b : Book) (w : ℕ) → is_open (at b w) ≡ false → partner b w ≡ 0
unfolding partner
shut_alone b w t = rw t

pub both_no : (x : Bool) → (x && false) ≡ false
both_no true = refl
both_no false = refl

pub step_is : (modes : ℕ → ℕ) (missed : Bool) (b : Book) (w : ℕ) → Stepped b w (happens modes missed b w) (work_after missed b w)
unfolding happens outcome ending causes work_after
step_is modes true b w =
    split (is_open (at b w))
    (λ t. rw t (kills (ltb-true _ _ t)))
    (λ t. rw (t, shut_alone b w t, both_no (is_immediate (at b w))) (rests (shut_alone b w t) (rw t (both_no (is_immediate (at b w))))))
step_is modes false b w =
    split (eqb (partner b w) 0)
    (λ t. rw t
    (split (is_immediate (at b w) && is_open (at b w))
    (λ u. rw u (expires (eqb-true _ _ t) (ltb-true _ _ (both_r (is_immediate (at b w)) _ u))))
    (λ u. rw u (rests (eqb-true _ _ t) u))))
    (λ t. rw t (matched (paired b w _ refl (omega (arith, eqb-false))) (meeting_is b w _ _)))

pub step_fits : (b : Book) (w v : ℕ) {es : List Event} → In b w → Stepped b w es v → Fits b es
step_fits b w v i (rests z t) = tt
step_fits b w v i (kills h) = (record { moving = refl; inside = i; enough = omega arith; whole = λ l. refl }, tt)
step_fits b w v i (expires z h) = (record { moving = refl; inside = i; enough = omega arith; whole = λ l. refl }, tt)
step_fits b w v i (matched p m) = meeting_fits b w _ i p m

-- what a step does fits the book
pub happens_fits : (modes : ℕ → ℕ) (missed : Bool) (b : Book) (w : ℕ) → In b w → Fits b (happens modes missed b w)
happens_fits modes missed b w i = step_fits b w _ i (step_is modes missed b w)

-- who is in work stays in the book
pub work_in : (missed : Bool) (b : Book) (w : ℕ) → w ≤ length b → work_after missed b w ≤ length b
unfolding work_after
work_in missed b w h = split (missed || eqb (partner b w) 0) (λ t. rw t (omega arith)) (λ t. rw t h)

-- ---- a run plays its events, and they fit
pub run_plays : (modes : ℕ → ℕ) (missed : Bool) (n : ℕ) (b : Book) (w : ℕ) → (run modes missed n b w).book ≡ play b (run modes missed n b w).events
unfolding run play
run_plays modes missed zero b w = refl
run_plays modes missed (suc n) b zero = refl
run_plays modes missed (suc n) b (suc k) = run_plays modes false n _ _ ∙ sym (play_append (happens modes missed b (suc k)) _ b)

pub first_in : (b : Book) (k : ℕ) → suc k ≤ length b → In b (suc k)
first_in b k h = record { low = omega arith; high = h }

pub next_in : (modes : ℕ → ℕ) (missed : Bool) (b : Book) (k : ℕ) → suc k ≤ length b → work_after missed b (suc k) ≤ length (play b (happens modes missed b (suc k)))
next_in modes missed b k h = rw (length_play _ b (happens_fits modes missed b (suc k) (first_in b k h))) (work_in missed b (suc k) h)

pub run_fits : (modes : ℕ → ℕ) (missed : Bool) (n : ℕ) (b : Book) (w : ℕ) → w ≤ length b → Fits b (run modes missed n b w).events
unfolding run play
run_fits modes missed zero b w h = tt
run_fits modes missed (suc n) b zero h = tt
run_fits modes missed (suc n) b (suc k) h =
    let es = happens modes missed b (suc k) in
    fits_append es _ b (happens_fits modes missed b (suc k) (first_in b k h))
    (run_fits modes false n (play b es) (work_after missed b (suc k)) (next_in modes missed b k h))

-- what a step leads from one (book, order in work) to the next keeps, a run keeps
pub run_keeps : (P : Book → ℕ → Type 0) (modes : ℕ → ℕ) (keeps : (missed : Bool) (b : Book) (w : ℕ) → In b w → P b w → P (play b (happens modes missed b w)) (work_after missed b w))
    (missed : Bool) (n : ℕ) (b : Book) (w : ℕ) → w ≤ length b → P b w → P (run modes missed n b w).book (run modes missed n b w).work
unfolding run
run_keeps P modes keeps missed zero b w h x = x
run_keeps P modes keeps missed (suc n) b zero h x = x
run_keeps P modes keeps missed (suc n) b (suc k) h x =
    run_keeps P modes keeps false n _ _ (next_in modes missed b k h) (keeps missed b (suc k) (first_in b k h) x)
