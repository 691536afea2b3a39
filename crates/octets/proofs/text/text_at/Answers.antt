-- `octets::text_at` meets its contract.
use mathlib.Core.Path.{◌∙◌}
use native.Mathlib.Omega.{arith}
use Rattle.octets.proofs.Parts.{no_text_lem, text_part}
use Rattle.octets.proofs.text.text_at.Goals as goal

pub returns-then-t-p : goal.returns-then-t-p
returns-then-t-p c = c.part_at.ensures ∙ no_text_lem _ _ c.if-t-p.true

pub overflow_cast-n : goal.overflow_cast-n
overflow_cast-n c = omega (arith, c.type_inv.t c.args.p)

pub returns : goal.returns
returns c = c.part_at-2.ensures ∙ text_part _ _
