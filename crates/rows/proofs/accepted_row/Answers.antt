-- `rows::accepted_row` meets its contract: the row is the table.
use mathlib.Core.Path.{ap}
use Rattle.rows.specs.declared.Figures.{Figures}
use Rattle.rows.specs.Rows.{padded, header, accepted_fields}
use Rattle.rows.proofs.accepted_row.Goals as goal

pub returns : goal.returns
unfolding accepted_fields header
returns c =
    let a = c.args in
    rw c.group_of-group.ensures (ap (λ (g : Figures). padded (accepted_fields a.s a.o g)) c.figures_of-g.ensures)
