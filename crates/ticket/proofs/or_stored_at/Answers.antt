-- `ticket::or_stored_at` meets its contract: by the length byte.
use Prim.Native.Nat.{ℕ}
use mathlib.Core.Path.{◌≡◌}
use mathlib.Core.List.{List}
use lib.ListN.{get_or}
use Rattle.report.specs.declared.Value.{Value}
use Rattle.ticket.specs.Tickets.{stored_at, or_stored_at}
use borrow.Author.Tests.{eq-eqb, ne_eqb}
use Rattle.ticket.proofs.or_stored_at.Goals as goal

-- a length byte that is not 0
some : (t : List ℕ) (p : ℕ) (r : Value) → (get_or t p 0 ≡ 0 → ⊥) → r ≡ stored_at t p → r ≡ or_stored_at t p
unfolding or_stored_at
some t p r h e = rw (ne_eqb (get_or t p 0) 0 h) e

pub returns-then-t-p-eq0 : goal.returns-then-t-p-eq0
unfolding or_stored_at
returns-then-t-p-eq0 c = search (eq-eqb, ne_eqb)

pub returns : goal.returns
returns c = let s = c in some s.args.t.now s.args.p c.stored_at.result c.if-t-p-eq0.false c.stored_at.ensures
