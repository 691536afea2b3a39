-- Events of the book: what an event changes and what it leaves, one event and then any list of them.
use mathlib.Core.Path.{◌≡◌, refl, ap, ◌∙◌}
use mathlib.Core.Bool.{true, cond}
use mathlib.Core.List.{List, [], ◌∷◌, ◌++◌}
use mathlib.Core.Logic.{◌≢◌}
use Prim.Native.Nat.{ℕ, suc, ◌+◌, ◌-◌, ◌*◌, ◌≤◌, ◌<◌}
use native.Mathlib.Nat.{add-zero, zero-mul}
use native.Mathlib.Omega.{arith}
use lib.ListN.{length}
use lib.Dec.{eqb}
use borrow.Author.Tests.{eqb-true, eqb-false}
use Rattle.octets.proofs.Bools.{split, not_both}
use Rattle.matching.specs.declared.Order.{Order}
use Rattle.matching.specs.declared.Event.{Event}
use Rattle.matching.specs.declared.Event.TheVariants.{Accepted, Replaced, Withdrawn, Canceled, Decremented, Traded, Killed, Expired}
use Rattle.matching.specs.Matching.{Book, at, open_of, minimum_of, who, amounts, change, after, play}
use Rattle.matching.specs.Held.{Covered, amount, level_of}
use Rattle.matching.specs.Accounts.{tally, trades, decrements, cancels}
use Rattle.matching.specs.Happens.{moves, Fit, Fits}
use Rattle.matching.proofs.Books.{at_put_same, at_put_other, length_put}

-- ---- one event

-- a moving event adds to the four amounts of its order what it executes, decrements, cancels, and what that is worth
pub change_is : (e : Event) (o : Order) → moves e ≡ true
    → change e o ≡ amounts o (o.executed + trades e) (o.decremented + decrements e) (o.canceled + cancels e) (o.sum + trades e * level_of e)
unfolding change
change_is (Accepted n x) o m = absurd (not_both m refl)
change_is (Replaced n l q p) o m = absurd (not_both m refl)
change_is (Withdrawn n q) o m = simp (zero-mul, add-zero)
change_is (Canceled n q) o m = simp (zero-mul, add-zero)
change_is (Decremented n q) o m = simp (zero-mul, add-zero)
change_is (Traded n x q l) o m = simp add-zero
change_is (Killed n q) o m = simp (zero-mul, add-zero)
change_is (Expired n q) o m = simp (zero-mul, add-zero)

-- what an event takes is what it executes, decrements and cancels
pub amount_is : (e : Event) → amount e ≡ trades e + decrements e + cancels e
amount_is (Accepted n x) = refl
amount_is (Replaced n l q p) = refl
amount_is (Withdrawn n q) = omega arith
amount_is (Canceled n q) = omega arith
amount_is (Decremented n q) = omega arith
amount_is (Traded n x q l) = omega arith
amount_is (Killed n q) = omega arith
amount_is (Expired n q) = omega arith

-- the terms of an order, which no moving event changes
pub record Terms : Type 0 where
  pub side : ℕ
  pub tif : ℕ
  pub level : ℕ
  pub qty : ℕ
  pub place : ℕ
  pub mpid : ℕ
  pub minqty : ℕ

abbrev pub terms_of : Order → Terms
terms_of o = record { side = o.side; tif = o.tif; level = o.level; qty = o.qty; place = o.place; mpid = o.mpid; minqty = o.minqty }

module _ (e : Event) (o : Order) (m : moves e ≡ true) where
  pub change_terms : terms_of (change e o) ≡ terms_of o
  change_terms = ap terms_of (change_is e o m)

  pub change_executed : (change e o).executed ≡ o.executed + trades e
  change_executed = ap (λ (p : Order). p.executed) (change_is e o m)

  pub change_decremented : (change e o).decremented ≡ o.decremented + decrements e
  change_decremented = ap (λ (p : Order). p.decremented) (change_is e o m)

  pub change_canceled : (change e o).canceled ≡ o.canceled + cancels e
  change_canceled = ap (λ (p : Order). p.canceled) (change_is e o m)

  pub change_sum : (change e o).sum ≡ o.sum + trades e * level_of e
  change_sum = ap (λ (p : Order). p.sum) (change_is e o m)

  pub change_open : open_of (change e o) ≡ open_of o - amount e
  unfolding open_of
  change_open = rw (change_is e o m) (omega (arith, amount_is e))

  pub change_covered : amount e ≤ open_of o → Covered o → Covered (change e o)
  unfolding open_of
  change_covered h s = rw (change_is e o m) (omega (arith, amount_is e))

-- ---- the book after one event
module _ (b : Book) (e : Event) (l : 0 < who e) (h : who e ≤ suc (length b)) where
  pub after_here : at (after b e) (who e) ≡ change e (at b (who e))
  unfolding after
  after_here = at_put_same b (who e) _ l h

  pub after_there : (k : ℕ) → k ≢ who e → at (after b e) k ≡ at b k
  unfolding after
  after_there k n = at_put_other b (who e) k _ h n

module _ (b : Book) (e : Event) (f : Fit b e) where
  pub after_same : at (after b e) (who e) ≡ change e (at b (who e))
  after_same = after_here b e f.inside.low (omega (arith, f.inside.high))

  pub after_other : (k : ℕ) → k ≢ who e → at (after b e) k ≡ at b k
  after_other = after_there b e f.inside.low (omega (arith, f.inside.high))

  pub length_after : length (after b e) ≡ length b
  unfolding after
  length_after = length_put b (who e) _ f.inside.high

  -- a statement about orders that the event keeps holds of every order afterwards
  pub after_every : (P : Order → Type 0) (k : ℕ) → P (at b k) → (P (at b (who e)) → P (change e (at b (who e)))) → P (at (after b e) k)
  after_every P k h keeps =
      split (eqb k (who e))
      (λ t. let q = eqb-true k (who e) t in rw (q, after_same) (keeps (rw q at h)))
      (λ t. rw (after_other k (eqb-false k (who e) t)) h)

-- ---- the book after events, one by one

pub length_play : (es : List Event) (b : Book) → Fits b es → length (play b es) ≡ length b
unfolding play
length_play [] b f = refl
length_play (e ∷ es) b f = length_play es (after b e) f.1 ∙ length_after b e f.0

pub play_append : (es fs : List Event) (b : Book) → play b (es ++ fs) ≡ play (play b es) fs
unfolding play
play_append [] fs b = refl
play_append (e ∷ es) fs b = play_append es fs (after b e)

pub fits_append : (es fs : List Event) (b : Book) → Fits b es → Fits (play b es) fs → Fits b (es ++ fs)
unfolding play
fits_append [] fs b p q = q
fits_append (e ∷ es) fs b p q = (p.0, fits_append es fs (after b e) p.1 q)

-- a statement about an order that each event keeps
pub play_every : (P : Order → Type 0) (keeps : (e : Event) (o : Order) → moves e ≡ true → amount e ≤ open_of o → P o → P (change e o)) (k : ℕ) (es : List Event) (b : Book)
    → Fits b es → P (at b k) → P (at (play b es) k)
unfolding play
play_every P keeps k [] b f h = h
play_every P keeps k (e ∷ es) b f h =
    play_every P keeps k es (after b e) f.1 (after_every b e f.0 P k h (λ p. keeps e _ f.0.moving f.0.enough p))

pub play_covered : (k : ℕ) (es : List Event) (b : Book) → Fits b es → Covered (at b k) → Covered (at (play b es) k)
play_covered k es b f h = play_every Covered change_covered k es b f h

-- a field that each event raises by f is raised by f's sum
pub play_tally : (g : Order → ℕ) (f : Event → ℕ) (add : (e : Event) (o : Order) → moves e ≡ true → g (change e o) ≡ g o + f e) (k : ℕ) (es : List Event) (b : Book)
    → Fits b es → g (at (play b es) k) ≡ g (at b k) + tally f k es
unfolding play tally
play_tally g f add k [] b p = omega arith
play_tally g f add k (e ∷ es) b p =
    let ih = play_tally g f add k es (after b e) p.1 in
    split (eqb k (who e))
    (λ t.
    let q = eqb-true k (who e) t in
    let z : g (at (after b e) k) ≡ g (at b k) + f e = rw (q, after_same b e p.0) (add e _ p.0.moving) in
    rw t (omega arith))
    (λ t.
    let z : g (at (after b e) k) ≡ g (at b k) = rw (after_other b e p.0 k (eqb-false k (who e) t)) in
    rw t (omega arith))

pub play_terms : (k : ℕ) (es : List Event) (b : Book) → Fits b es → terms_of (at (play b es) k) ≡ terms_of (at b k)
unfolding play
play_terms k [] b f = refl
play_terms k (e ∷ es) b f =
    play_terms k es (after b e) f.1
    ∙ after_every b e f.0 (λ o. terms_of o ≡ terms_of (at b k)) k refl (λ h. change_terms e _ f.0.moving ∙ h)

-- and so the minimum
pub play_minimum : (k : ℕ) (es : List Event) (b : Book) → Fits b es → minimum_of (at (play b es) k) ≡ minimum_of (at b k)
unfolding minimum_of
play_minimum k es b f = ap (λ (t : Terms). cond (eqb t.tif 4) t.qty t.minqty) (play_terms k es b f)

-- what is open falls by what the events take
pub play_open : (k : ℕ) (es : List Event) (b : Book) → Fits b es → open_of (at (play b es) k) ≡ open_of (at b k) - tally amount k es
unfolding play tally
play_open k [] b p = omega arith
play_open k (e ∷ es) b p =
    let ih = play_open k es (after b e) p.1 in
    split (eqb k (who e))
    (λ t.
    let z : open_of (at (after b e) k) ≡ open_of (at b k) - amount e =
    rw (eqb-true k (who e) t, after_same b e p.0) (change_open e _ p.0.moving) in
    rw t (omega arith))
    (λ t.
    let z : open_of (at (after b e) k) ≡ open_of (at b k) = rw (after_other b e p.0 k (eqb-false k (who e) t)) in
    rw t (omega arith))

-- two events of different orders of the book
pub two_fit : (b : Book) (e f : Event) → who f ≢ who e → Fit b e → Fit b f → Fits b (e ∷ f ∷ [])
two_fit b e f n x y =
    let same = after_other b e x (who f) n in (
      x,
      (
        record {
          moving = y.moving;
          inside = record { low = y.inside.low; high = rw (length_after b e x) y.inside.high };
          enough = rw same y.enough;
          whole = rw same y.whole;
        },
        tt,
      ),
    )
