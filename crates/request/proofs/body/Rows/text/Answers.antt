-- Where a text stands, by the rows.
use Rattle.request.proofs.body.Rows.text.Goals as goal

pub returns : goal.returns
returns c = cc
