-- `settings::copy_kind` meets its contract.
use mathlib.Core.Path.{sym, ◌∙◌}
use Rattle.feed.proofs.settings.copy_kind.Goals as goal

pub returns-then-is_copied : goal.returns-then-is_copied
returns-then-is_copied c = rw (sym c.is_copied.ensures ∙ c.if-is_copied.true)

pub returns : goal.returns
returns c = rw (sym c.is_copied.ensures ∙ c.if-is_copied.false)
