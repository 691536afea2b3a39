-- The field at the cursor, read from the rest of the message.
use Rattle.std.proofs.Common.{◌∙◌, le-ltb, lt-ltb}
use Rattle.decimal.proofs.Scans.{rest_is}
use Rattle.fix.specs.Fields.{step_of}
use Rattle.fix.proofs.fields.Cursor.step.Goals as goal

pub returns-then-s-at : goal.returns-then-s-at
unfolding step_of
returns-then-s-at c = simp (le-ltb _ _ c.if-s-at.true)

pub returns : goal.returns
unfolding step_of
returns c = c.field_of.ensures ∙ simp (rest_is, lt-ltb _ _ c.if-s-at.false)
