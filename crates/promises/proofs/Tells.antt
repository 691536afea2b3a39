-- What the report of an event says of its order, and what that makes of the order's account: exactly what the event makes of the
-- order's own amounts. The account of an accepted order begins with its report.
use mathlib.Core.Path.{◌≡◌, refl, sym, ap, ◌∙◌}
use mathlib.Core.Bool.{true, false}
use mathlib.Core.Logic.{◌≢◌}
use Prim.Native.Nat.{ℕ, ◌+◌, ◌-◌, ◌≤◌}
use native.Mathlib.Omega.{arith}
use borrow.Author.Tests.{eq-eqb, ne_eqb}
use Rattle.octets.proofs.Bools.{not_both}
use Rattle.matching.specs.declared.Order.{Order}
use Rattle.matching.specs.declared.Event.{Event}
use Rattle.matching.specs.declared.Event.TheVariants as event
use Rattle.matching.specs.Matching.{Book, at, open_of, who, change}
use Rattle.matching.specs.Accounts.{trades}
use Rattle.matching.specs.Happens.{moves, Fresh}
use Rattle.report.specs.declared.Kind.{Kind}
use Rattle.report.specs.declared.Reading.{Reading}
use Rattle.readback.specs.Says.{says}
use Rattle.readback.specs.Told.{kind_told, reason_told}
use Rattle.promises.specs.Tallies.{Account, blank, after_report, noted, is_refused}

-- ---- what a report says

-- the report r of event e, whose order has OrderID i and is o after it
pub record Tells (r : Reading) (i : ℕ) (e : Event) (o : Order) : Type 0 where
  pub kind : r.kind ≡ kind_told e
  pub order : says 37 r ≡ i
  pub quantity : says 38 r ≡ o.qty
  pub left : says 151 r ≡ open_of o
  pub executed : says 32 r ≡ trades e
  pub reason : says 378 r ≡ reason_told e
  pub side : says 54 r ≡ o.side
  pub mpid : says 109 r ≡ o.mpid

-- every event has a report that Read takes
told_read : (e : Event) → is_refused (kind_told e) ≡ false
told_read (event.Accepted n o) = refl
told_read (event.Replaced n l q p) = refl
told_read (event.Withdrawn n q) = refl
told_read (event.Canceled n q) = refl
told_read (event.Decremented n q) = refl
told_read (event.Traded n m q l) = refl
told_read (event.Killed n q) = refl
told_read (event.Expired n q) = refl

pub tells_read : (r : Reading) (i : ℕ) (e : Event) (o : Order) → Tells r i e o → is_refused r.kind ≡ false
tells_read r i e o t = ap is_refused t.kind ∙ told_read e

-- ---- what an event does to an order

-- an accepted order is new; what is canceled is all that is open, and what is decremented is open
abbrev pub Exact : Book → Event → Type 0
Exact b (event.Accepted n o) = Fresh b n o
Exact b (event.Replaced n l q p) = Unit {0}
Exact b (event.Withdrawn n q) = q ≡ open_of (at b n)
Exact b (event.Canceled n q) = q ≡ open_of (at b n)
Exact b (event.Decremented n q) = q ≤ open_of (at b n)
Exact b (event.Traded n m q l) = Unit {0}
Exact b (event.Killed n q) = q ≡ open_of (at b n)
Exact b (event.Expired n q) = q ≡ open_of (at b n)

-- ---- the account of an order by its own amounts
abbrev pub account_in : Order → Account
account_in o = record { accepted = o.qty; executions = o.executed; decrements = o.decremented; cancels = o.canceled; left = open_of o }

-- before an event: that of an accepted order begins with it
abbrev pub account_before : Book → Event → Account
account_before b (event.Accepted n o) = blank
account_before b (event.Replaced n l q p) = account_in (at b n)
account_before b (event.Withdrawn n q) = account_in (at b n)
account_before b (event.Canceled n q) = account_in (at b n)
account_before b (event.Decremented n q) = account_in (at b n)
account_before b (event.Traded n m q l) = account_in (at b n)
account_before b (event.Killed n q) = account_in (at b n)
account_before b (event.Expired n q) = account_in (at b n)

pub before_moves : (b : Book) (e : Event) → moves e ≡ true → account_before b e ≡ account_in (at b (who e))
before_moves b (event.Accepted n o) h = absurd (not_both h refl)
before_moves b (event.Replaced n l q p) h = refl
before_moves b (event.Withdrawn n q) h = refl
before_moves b (event.Canceled n q) h = refl
before_moves b (event.Decremented n q) h = refl
before_moves b (event.Traded n m q l) h = refl
before_moves b (event.Killed n q) h = refl
before_moves b (event.Expired n q) h = refl

-- two accounts with the same five numbers
same_account : (a c : Account) → a.accepted ≡ c.accepted → a.executions ≡ c.executions → a.decrements ≡ c.decrements → a.cancels ≡ c.cancels
    → a.left ≡ c.left → a ≡ c
same_account a c p q x y z = λ j. record { accepted = p j; executions = q j; decrements = x j; cancels = y j; left = z j }

-- the fall in what is open at a decrement is the decrement
fall : (o : Order) (n q x : ℕ) → q ≤ open_of o → x ≡ open_of (change (event.Decremented n q) o) → o.decremented + (open_of o - x) ≡ o.decremented + q
unfolding open_of change
fall o n q x h e = omega arith

-- after the report of an exact event
module _ (b : Book) (r : Reading) (i : ℕ) where
  pub account_after : (e : Event) → Exact b e → Tells r i e (change e (at b (who e)))
      → after_report (kind_told e) r (account_before b e) ≡ account_in (change e (at b (who e)))
  unfolding change
  account_after (event.Accepted n o) x t =
      same_account _ _ t.quantity (sym x.unexecuted) (sym x.undecremented) (sym x.uncanceled) t.left
  account_after (event.Replaced n l q p) x t =
      rw t.reason (same_account _ _ t.quantity refl refl refl t.left)
  account_after (event.Withdrawn n q) x t =
      same_account _ _ refl refl refl (ap (λ (y : ℕ). (at b n).canceled + y) (sym x)) t.left
  account_after (event.Canceled n q) x t =
      same_account _ _ refl refl refl (ap (λ (y : ℕ). (at b n).canceled + y) (sym x)) t.left
  account_after (event.Decremented n q) x t =
      let h : (at b n).decremented + (open_of (at b n) - says 151 r) ≡ (at b n).decremented + q = fall (at b n) n q _ x t.left in
      rw t.reason (same_account _ _ refl refl h refl t.left)
  account_after (event.Traded n k q l) x t =
      same_account _ _ refl (ap (λ (y : ℕ). (at b n).executed + y) t.executed) refl refl t.left
  account_after (event.Killed n q) x t =
      same_account _ _ refl refl refl (ap (λ (y : ℕ). (at b n).canceled + y) (sym x)) t.left
  account_after (event.Expired n q) x t =
      same_account _ _ refl refl refl (ap (λ (y : ℕ). (at b n).canceled + y) (sym x)) t.left

  -- the account of each OrderID after the report of an event
  pub noted_here : (e : Event) → Exact b e → Tells r i e (change e (at b (who e))) → noted i (account_before b e) r ≡ account_in (change e (at b (who e)))
  unfolding noted
  noted_here e x t =
      rw (eq-eqb (says 37 r) i t.order)
      (ap (λ (k : Kind). after_report k r (account_before b e)) t.kind ∙ account_after e x t)

  pub noted_there : (e : Event) (o : Order) → Tells r i e o → (n : ℕ) → n ≢ i → (a : Account) → noted n a r ≡ a
  unfolding noted
  noted_there e o t n d a = rw (ne_eqb (says 37 r) n (λ z. d (sym z ∙ t.order)))
