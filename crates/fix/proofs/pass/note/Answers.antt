-- The three numbers of a field, one behind another.
use Rattle.std.proofs.Common.{refl}
use Rattle.fix.specs.Steps.{noted}
use Rattle.fix.proofs.pass.note.Goals as goal

pub returns : goal.returns
unfolding noted
returns c = refl
