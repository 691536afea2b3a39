-- The numbers of a new order, by the row.
use Rattle.request.specs.Gathers.{terms_row}
use Rattle.request.proofs.body.Rows.terms.Goals as goal

pub returns : goal.returns
unfolding terms_row
returns c = cc
