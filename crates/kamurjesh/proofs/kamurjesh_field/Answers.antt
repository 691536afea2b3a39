-- `kamurjesh_field` meets its contract: the place that the field is found at, as numbers.
use mathlib.Core.Path.{◌∙◌, ap}
use Rattle.kamurjesh.specs.Numbers.{is_there, start_of, len_of}
use Rattle.kamurjesh.proofs.kamurjesh_field.Goals as goal

pub returns : goal.returns
returns c =
    let part = c.field-part.ensures in
    (c.is_there.ensures ∙ ap is_there part, c.start_of.ensures ∙ ap start_of part, c.len_of.ensures ∙ ap len_of part)
