-- `rows::avg_px` meets its contract.
use Rattle.rows.specs.Rows.{avg_px}
use Rattle.rows.proofs.avg_px.Goals as goal

pub returns : goal.returns
unfolding avg_px
returns c = c.mean_of.ensures
