-- `octets::rest_zero` meets its contract: what is kept, and the rest, are zero exactly if all from place p on are.
use mathlib.Core.Path.{refl, sym, ◌∙◌}
use native.Mathlib.Omega.{arith}
use Rattle.octets.proofs.Zeros.{zero_out, kept_none, kept_two, kept_end}
use borrow.Author.Rules.{rules}
use Rattle.octets.proofs.zero.rest_zero.Goals as goal

pub returns-then-t-p : goal.returns-then-t-p
returns-then-t-p c = sym (zero_out _ _ c.if-t-p.true)

pub loop-j-init : goal.loop-j-init
loop-j-init c = let a = c.args in (kept_none a.t.now a.p, refl)

pub loop-j-preserved : goal.loop-j-preserved
loop-j-preserved c =
    let l = c.loop-j in
    let g = c.gather in
    (kept_two _ _ _ _ _ _ l.invariant.1 (omega arith) g.ensures c.gather-in-loop-j.ensures ∙ l.invariant.0, omega arith)

pub returns : goal.returns
returns c = search (rules, kept_end)
