-- `rows::trade_row` meets its contract: the row is the table.
use mathlib.Core.Path.{ap}
use Rattle.rows.specs.declared.Figures.{Figures}
use Rattle.rows.specs.Rows.{padded, header, trade_fields}
use Rattle.rows.proofs.trade_row.Goals as goal

pub returns : goal.returns
unfolding trade_fields header
returns c =
    let a = c.args in
    rw c.group_of-group.ensures
    (rw c.other_field-other.ensures
    (rw c.count_field-count.ensures
    (ap (λ (g : Figures). padded (trade_fields a.s a.o g a.f)) c.figures_of-g.ensures)))
