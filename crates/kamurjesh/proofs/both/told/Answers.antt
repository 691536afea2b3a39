-- `both::told` meets its contract: each number of the answer by its own function.
use mathlib.Core.Path.{◌∙◌, ap}
use Rattle.matching.specs.Depth.{total_of, orders_of}
use Rattle.market.specs.Depth.{has_level}
use Rattle.kamurjesh.specs.Numbers.{quote_of}
use Rattle.kamurjesh.proofs.Quotes.{handed}
use Rattle.kamurjesh.proofs.both.told.Goals as goal

pub quote_of-requires : goal.quote_of-requires
quote_of-requires c = rw c.level_in-level.ensures c.requires

pub returns : goal.returns
returns c =
    let level = c.level_in-level.ensures in (
      c.answer_number.ensures,
      c.has_level.ensures ∙ ap has_level level,
      handed _ c.level_in-level.result _ (rw level c.requires) c.quote_of.ensures ∙ ap (quote_of _) level,
      c.total_of.ensures ∙ ap total_of level,
      c.orders_of.ensures ∙ ap orders_of level,
    )
