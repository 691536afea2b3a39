-- `both::copy_read_of` meets its contract: it is the reading of a copy, its kind as a number.
use mathlib.Core.Path.{◌∙◌, ap}
use Rattle.calls.specs.Read.{read_number, kind_number}
use Rattle.kamurjesh.proofs.both.copy_read_of.Goals as goal

pub returns : goal.returns
returns c =
    let reading = c.read_copy-reading.ensures in
    (c.read_number.ensures ∙ ap (λ x. read_number x.kind) reading, c.kind_number.ensures ∙ ap (λ x. kind_number x.kind) reading)
