-- `rejects::unchanged_on` meets its contract: where no record has the 41, and where one has.
use Prim.Native.Nat.{ℕ}
use native.Mathlib.Omega.{arith}
use mathlib.Core.Path.{◌≡◌}
use mathlib.Core.List.{List}
use Rattle.matching.specs.declared.Order.{Order}
use Rattle.matching.specs.Held.{Covered}
use Rattle.table.specs.Orders.{order_id_at, order_at}
use Rattle.report.specs.declared.Place.{Place}
use Rattle.rows.specs.declared.Unchanged.{Unchanged}
use Rattle.rows.specs.Rows.{status_of}
use Rattle.ticket.specs.Tickets.{unchanged_on}
use Rattle.ticket.specs.Legible.{Holder}
use borrow.Author.Tests.{eq-eqb, ne_eqb}
use borrow.Author.Rules.{rules}
use Rattle.ticket.proofs.rejects.unchanged_on.Goals as goal

-- what is executed, decremented and canceled of the order that has the 41 is covered
held_covered : (t : List ℕ) (i : ℕ) (o : Order) → Holder t i → o ≡ order_at t i → (i ≡ 0 → ⊥) → Covered o
held_covered t i o h e n = rw e (h.covered (omega (arith, n)))

-- no record has it
nobody : (t : List ℕ) (i : ℕ) (id orig : Place) (reason response : ℕ) → i ≡ 0
    → ◌≡◌ {A = Unchanged} (record { id = id; orderid = 0; status = 8; orig = orig; reason = reason; response = response }) (unchanged_on t i id orig reason response)
unfolding unchanged_on
nobody t i id orig reason response e = rw (eq-eqb i 0 e)

-- record i has it
somebody : (t : List ℕ) (i : ℕ) (id orig : Place) (reason response : ℕ) (orderid : ℕ) (o : Order) (status : ℕ) → (i ≡ 0 → ⊥) → orderid ≡ order_id_at t i
    → o ≡ order_at t i → status ≡ status_of o
    → ◌≡◌ {A = Unchanged} (record { id = id; orderid = orderid; status = status; orig = orig; reason = reason; response = response }) (unchanged_on t i id orig reason response)
unfolding unchanged_on
somebody t i id orig reason response orderid o status n d e s = rw (ne_eqb i 0 n, d, s, e)

pub returns-then-i-eq0 : goal.returns-then-i-eq0
returns-then-i-eq0 c = let a = c.args in nobody a.t.now a.i a.id a.orig a.reason a.response c.if-i-eq0.true

pub status_of-requires : goal.status_of-requires
status_of-requires c = search (rules, held_covered)

pub returns-else-i-eq0 : goal.returns-else-i-eq0
returns-else-i-eq0 c =
    let a = c.args in
    somebody a.t.now a.i a.id a.orig a.reason a.response c.order_id.result c.load-o.result c.status_of.result
    c.if-i-eq0.false c.order_id.ensures.0 c.load-o.ensures c.status_of.ensures
