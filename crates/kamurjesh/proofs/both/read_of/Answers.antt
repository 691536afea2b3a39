-- `both::read_of` meets its contract: it is the kind that Read tells, as a number.
use mathlib.Core.Path.{◌∙◌, ap}
use Rattle.calls.specs.Read.{read_number, kind_number}
use Rattle.kamurjesh.proofs.both.read_of.Goals as goal

pub returns : goal.returns
returns c =
    let is = c.kind_read-is.ensures in
    (c.read_number.ensures ∙ ap read_number is, c.kind_number.ensures ∙ ap kind_number is)
