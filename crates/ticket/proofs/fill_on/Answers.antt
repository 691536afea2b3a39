-- `ticket::fill_on` meets its contract: by whether the order is in work.
use Prim.Native.Nat.{ℕ, ◌-◌}
use mathlib.Core.Path.{◌≡◌, ap, sym, ◌∙◌}
use mathlib.Core.List.{List}
use Rattle.matching.specs.declared.Order.{Order}
use Rattle.table.specs.Heading.{work_of}
use Rattle.table.specs.Orders.{order_at}
use Rattle.rows.specs.declared.Fill.{Fill}
use Rattle.ticket.specs.Tickets.{fill_on}
use borrow.Author.Tests.{eq-eqb, ne_eqb}
use Rattle.ticket.proofs.fill_on.Goals as goal

-- the order in work, and any other
second : (t : List ℕ) (n i other q l : ℕ) → i ≡ work_of t
    → ◌≡◌ {A = Fill} (record { quantity = q; level = l; other = (order_at t other).mpid; first = n - 1; liquidity = 2 }) (fill_on t n i other q l)
second t n i other q l e = rw (eq-eqb i (work_of t) e)

first : (t : List ℕ) (n i other q l : ℕ) → (i ≡ work_of t → ⊥)
    → ◌≡◌ {A = Fill} (record { quantity = q; level = l; other = (order_at t other).mpid; first = n; liquidity = 1 }) (fill_on t n i other q l)
first t n i other q l e = rw (ne_eqb i (work_of t) e)

pub returns-then-i-work : goal.returns-then-i-work
returns-then-i-work c =
    let a = c.args in
    ap (λ (o : Order). record { quantity = a.quantity; level = a.level; other = o.mpid; first = a.n - 1; liquidity = 2 }) c.load-o.ensures
    ∙ second a.t.now a.n a.i a.other a.quantity a.level (c.if-i-work.true ∙ c.work.ensures.0)

pub returns-else-i-work : goal.returns-else-i-work
returns-else-i-work c =
    let a = c.args in
    ap (λ (o : Order). record { quantity = a.quantity; level = a.level; other = o.mpid; first = a.n; liquidity = 1 }) c.load-o.ensures
    ∙ first a.t.now a.n a.i a.other a.quantity a.level (λ h. c.if-i-work.false (h ∙ sym c.work.ensures.0))
