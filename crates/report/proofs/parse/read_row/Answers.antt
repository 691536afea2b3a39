-- `parse::read_row` meets its contract. The invariant: i fields are read, and what is left decides.
use Rattle.report.proofs.Parses.{so_first, so_more, so_wrong, so_done}
use mathlib.Core.Path.{sym, ap, ◌∙◌}
use Rattle.report.specs.Parse.{row_of}
use native.Mathlib.Omega.{arith}
use borrow.Author.Rules.{rules}
use Rattle.report.proofs.parse.read_row.Goals as goal

pub loop-i-init : goal.loop-i-init
loop-i-init c = so_first _ _ _ (search rules) (search rules)

pub end_at-e-requires : goal.end_at-e-requires
end_at-e-requires c = (c.loop-i.invariant.within, search rules)

pub returns-in_err-got : goal.returns-in_err-got
returns-in_err-got c = let l = c.loop-i in let a = c.args in rw c.from_residual.ensures (ap row_of (sym (so_wrong a.s.now a.at a.slots l.fields l.next l.i l.invariant (omega arith) _ (sym c.field_at.ensures ∙ c.in_err-got.was))))

pub loop-i-preserved : goal.loop-i-preserved
loop-i-preserved c = let l = c.loop-i in let a = c.args in so_more a.s.now a.at a.slots l.fields l.next l.i l.invariant (omega arith) _ _ _ (sym c.field_at.ensures ∙ c.in_ok-got.was)

pub returns : goal.returns
returns c = let l = c.loop-i in let a = c.args in ap row_of (sym (so_done a.s.now a.at a.slots l.fields l.next l.i l.invariant (omega arith)))
