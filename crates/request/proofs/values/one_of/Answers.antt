-- One of the characters, as `contains` finds it.
use Rattle.request.proofs.Judging.{any_one}
use mathlib.Core.Path.{◌∙◌}
use Rattle.request.proofs.values.one_of.Goals as goal

pub returns : goal.returns
returns c = c.contains.ensures.value ∙ any_one c.args.c c.args.cs.now
