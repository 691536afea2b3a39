-- `rows::text` meets its contract.
use Rattle.rows.specs.Rows.{text}
use Rattle.rows.proofs.text.Goals as goal

pub returns-then-p : goal.returns-then-p
unfolding text
returns-then-p c = rw c.if-p.true

pub returns : goal.returns
unfolding text
returns c = rw c.if-p.false
