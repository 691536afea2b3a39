-- `rows::canceled_row` meets its contract: the row is the table.
use mathlib.Core.Path.{ap}
use Rattle.rows.specs.declared.Figures.{Figures}
use Rattle.rows.specs.Rows.{padded, header, canceled_fields}
use Rattle.rows.proofs.canceled_row.Goals as goal

pub returns : goal.returns
unfolding canceled_fields header
returns c =
    let a = c.args in
    rw c.group_of-group.ensures (ap (λ (g : Figures). padded (canceled_fields a.s a.o g a.w)) c.figures_of-g.ensures)
