-- The first seven tags of the row.
use mathlib.Core.Bool.{and-true}
use Rattle.fix.specs.Garbled.{headed_by}
use Rattle.fix.specs.Steps.{field_at, row_fields}
use Rattle.fix.proofs.frame.heads.Goals as goal

pub returns : goal.returns
unfolding headed_by row_fields field_at
returns c = simp and-true
