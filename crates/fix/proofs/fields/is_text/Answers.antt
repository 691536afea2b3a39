-- A byte from 20 to 7E hex is a character.
use Rattle.fix.specs.Fields.{is_text}
use Rattle.std.proofs.Common.{refl}
use Rattle.fix.proofs.fields.is_text.Goals as goal

pub returns : goal.returns
unfolding is_text
returns c = refl
