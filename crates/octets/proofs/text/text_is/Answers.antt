-- `octets::text_is` meets its contract.
use mathlib.Core.Path.{◌∙◌}
use Rattle.octets.proofs.text.text_is.Goals as goal

pub returns : goal.returns
returns c = c.same.ensures ∙ rw c.text_at.ensures
