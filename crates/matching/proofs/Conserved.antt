-- Each order's accounts: over events that can happen, the quantity accepted is what the events since then execute, decrement and
-- cancel and what is open.
use mathlib.Core.Path.{◌≡◌, refl, sym, ap, ◌∙◌}
use mathlib.Core.Bool.{Bool, true}
use mathlib.Core.List.{List, [], ◌∷◌, ◌++◌}
use mathlib.Core.Logic.{◌⊎◌, inl, inr}
use Prim.Native.Nat.{ℕ, zero, suc, ◌+◌, ◌≤◌, ◌<◌}
use native.Mathlib.Omega.{arith}
use lib.ListN.{length}
use lib.Dec.{eqb}
use borrow.Author.Tests.{eqb-true, eqb-false}
use Rattle.octets.proofs.Bools.{split, not_both}
use Rattle.matching.specs.declared.Order.{Order}
use Rattle.matching.specs.declared.Event.{Event}
use Rattle.matching.specs.declared.Event.TheVariants.{Accepted, Replaced, Withdrawn, Canceled, Decremented, Traded, Killed, Expired}
use Rattle.matching.specs.Matching.{Book, at, open_of, who, change, after, play, run}
use Rattle.matching.specs.Held.{Covered, Takes, anew, over}
use Rattle.matching.specs.Accounts.{tally, trades, decrements, cancels, in_force, sum_with, tallied, accepted}
use Rattle.matching.specs.Happens.{moves, Fit, Fits, Asked, Follow}
use Rattle.matching.proofs.Steps.{run_fits}
use Rattle.matching.proofs.Events.{after_here, after_there, Terms, change_terms, change_executed, change_decremented, change_canceled, change_covered}

-- what an event does to the accounts of an order
pub record Booked (e : Event) (o p : Order) : Type 0 where
  pub qty : p.qty ≡ in_force o.qty e
  pub executed : p.executed ≡ sum_with trades o.executed e
  pub decremented : p.decremented ≡ sum_with decrements o.decremented e
  pub canceled : p.canceled ≡ sum_with cancels o.canceled e
  pub covered : Covered o → Covered p

-- an event that moves an amount adds to a sum, and leaves the quantity
sum_adds : (f : Event → ℕ) (e : Event) (x : ℕ) → moves e ≡ true → sum_with f x e ≡ x + f e
sum_adds f (Accepted n o) x m = absurd (not_both m refl)
sum_adds f (Replaced n l q p) x m = refl
sum_adds f (Withdrawn n q) x m = refl
sum_adds f (Canceled n q) x m = refl
sum_adds f (Decremented n q) x m = refl
sum_adds f (Traded n k q l) x m = refl
sum_adds f (Killed n q) x m = refl
sum_adds f (Expired n q) x m = refl

in_force_lem : (e : Event) (q : ℕ) → moves e ≡ true → in_force q e ≡ q
in_force_lem (Accepted n o) q m = absurd (not_both m refl)
in_force_lem (Replaced n l x p) q m = absurd (not_both m refl)
in_force_lem (Withdrawn n x) q m = refl
in_force_lem (Canceled n x) q m = refl
in_force_lem (Decremented n x) q m = refl
in_force_lem (Traded n k x l) q m = refl
in_force_lem (Killed n x) q m = refl
in_force_lem (Expired n x) q m = refl

fit_booked : (b : Book) (e : Event) → Fit b e → Booked e (at b (who e)) (change e (at b (who e)))
fit_booked b e f =
    let o = at b (who e) in
    let m = f.moving in
    record {
      qty = ap (λ (t : Terms). t.qty) (change_terms e o m) ∙ sym (in_force_lem e o.qty m);
      executed = change_executed e o m ∙ sym (sum_adds trades e o.executed m);
      decremented = change_decremented e o m ∙ sym (sum_adds decrements e o.decremented m);
      canceled = change_canceled e o m ∙ sym (sum_adds cancels e o.canceled m);
      covered = change_covered e o m f.enough;
    }

asked_booked : (b : Book) (e : Event) → Asked b e → Booked e (at b (who e)) (change e (at b (who e)))
unfolding change
asked_booked b (Accepted n o) a =
    record {
      qty = refl;
      executed = a.unexecuted;
      decremented = a.undecremented;
      canceled = a.uncanceled;
      covered = λ c. omega (arith, a.unexecuted, a.undecremented, a.uncanceled);
    }
asked_booked b (Replaced n l q p) a =
    record {
      qty = refl;
      executed = omega arith;
      decremented = omega arith;
      canceled = omega arith;
      covered = λ c. omega (arith, a.above, a.uncanceled);
    }
asked_booked b (Withdrawn n q) a = absurd a
asked_booked b (Canceled n q) a = absurd a
asked_booked b (Decremented n q) a = absurd a
asked_booked b (Traded n m q l) a = absurd a
asked_booked b (Killed n q) a = absurd a
asked_booked b (Expired n q) a = absurd a

-- the number that a new order takes is that of an order, or one past the last
pub takes_low : (b : Book) (n : ℕ) → Takes b n → 0 < n
takes_low b n (anew e) = omega arith
takes_low b n (over i z) = i.low

pub takes_high : (b : Book) (n : ℕ) → Takes b n → n ≤ suc (length b)
takes_high b n (anew e) = omega arith
takes_high b n (over i z) = omega (arith, i.high)

-- and so is that of any event that can happen
pub happen_low : (b : Book) (e : Event) → Fit b e ⊎ Asked b e → 0 < who e
happen_low b e (inl f) = f.inside.low
happen_low b (Accepted n o) (inr a) = takes_low b n a.number
happen_low b (Replaced n l q p) (inr a) = a.inside.low
happen_low b (Withdrawn n q) (inr a) = absurd a
happen_low b (Canceled n q) (inr a) = absurd a
happen_low b (Decremented n q) (inr a) = absurd a
happen_low b (Traded n m q l) (inr a) = absurd a
happen_low b (Killed n q) (inr a) = absurd a
happen_low b (Expired n q) (inr a) = absurd a

pub happen_high : (b : Book) (e : Event) → Fit b e ⊎ Asked b e → who e ≤ suc (length b)
happen_high b e (inl f) = omega (arith, f.inside.high)
happen_high b (Accepted n o) (inr a) = takes_high b n a.number
happen_high b (Replaced n l q p) (inr a) = omega (arith, a.inside.high)
happen_high b (Withdrawn n q) (inr a) = absurd a
happen_high b (Canceled n q) (inr a) = absurd a
happen_high b (Decremented n q) (inr a) = absurd a
happen_high b (Traded n m q l) (inr a) = absurd a
happen_high b (Killed n q) (inr a) = absurd a
happen_high b (Expired n q) (inr a) = absurd a

booked : (b : Book) (e : Event) → Fit b e ⊎ Asked b e → Booked e (at b (who e)) (change e (at b (who e)))
booked b e (inl f) = fit_booked b e f
booked b e (inr a) = asked_booked b e a

-- the accounts of order k, over any events that can happen, by what it had and what the events say
pub accounts : (k : ℕ) (es : List Event) (b : Book) → Follow b es → Covered (at b k)
    → accepted k (at b k).qty es
    ≡ tallied trades k (at b k).executed es + tallied decrements k (at b k).decremented es + tallied cancels k (at b k).canceled es
    + open_of (at (play b es) k)
unfolding accepted tallied play open_of
accounts k [] b f s = omega arith
accounts k (e ∷ es) b f s =
    let l = happen_low b e f.0 in
    let h = happen_high b e f.0 in
    let d = booked b e f.0 in
    split (eqb k (who e))
    (λ t.
    let q = eqb-true k (who e) t in
    let z : at (after b e) k ≡ change e (at b (who e)) = rw q (after_here b e l h) in
    let g = accounts k es (after b e) f.1 (rw z (d.covered (rw q at s))) in
    rw (t, ap (λ (n : ℕ). at b n) q) (rw (z, d.qty, d.executed, d.decremented, d.canceled) at g))
    (λ t.
    let z : at (after b e) k ≡ at b k = after_there b e l h k (eqb-false k (who e) t) in
    let g = accounts k es (after b e) f.1 (rw z s) in
    rw t (rw z at g))

-- from the first order on
pub conserved_from : (k : ℕ) (es : List Event) → Follow [] es
    → accepted k 0 es ≡ tallied trades k 0 es + tallied decrements k 0 es + tallied cancels k 0 es + open_of (at (play [] es) k)
conserved_from zero es f = accounts zero es [] f (omega arith)
conserved_from (suc k) es f = accounts (suc k) es [] f (omega arith)

-- events that fit can happen
pub fits_follow : (es : List Event) (b : Book) → Fits b es → Follow b es
fits_follow [] b f = tt
fits_follow (e ∷ es) b f = (inl f.0, fits_follow es (after b e) f.1)

-- they leave the quantity in force
pub fits_accepted : (k : ℕ) (q : ℕ) (es : List Event) (b : Book) → Fits b es → accepted k q es ≡ q
unfolding accepted
fits_accepted k q [] b f = refl
fits_accepted k q (e ∷ es) b f =
    split (eqb k (who e))
    (λ t. rw (t, in_force_lem e q f.0.moving) (fits_accepted k q es (after b e) f.1))
    (λ t. rw t (fits_accepted k q es (after b e) f.1))

-- and no acceptance among them begins a sum anew
pub fits_tallied : (f : Event → ℕ) (k x : ℕ) (es : List Event) (b : Book) → Fits b es → tallied f k x es ≡ x + tally f k es
unfolding tallied tally
fits_tallied f k x [] b p = omega arith
fits_tallied f k x (e ∷ es) b p =
    split (eqb k (who e))
    (λ t. rw (t, sum_adds f e x p.0.moving) (omega (arith, fits_tallied f k (x + f e) es (after b e) p.1)))
    (λ t. rw t (omega (arith, fits_tallied f k x es (after b e) p.1)))

-- one list of events after another
pub follow_append : (es fs : List Event) (b : Book) → Follow b es → Follow (play b es) fs → Follow b (es ++ fs)
unfolding play
follow_append [] fs b p q = q
follow_append (e ∷ es) fs b p q = (p.0, follow_append es fs (after b e) p.1 q)

-- a run of steps
pub run_follows : (modes : ℕ → ℕ) (missed : Bool) (n : ℕ) (b : Book) (w : ℕ) → w ≤ length b → Follow b (run modes missed n b w).events
run_follows modes missed n b w h = fits_follow (run modes missed n b w).events b (run_fits modes missed n b w h)
