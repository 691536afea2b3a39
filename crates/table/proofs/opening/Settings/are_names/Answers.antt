-- `table::opening::Settings::are_names` meets its contract: three names, the code by what the market trades.
use Rattle.table.proofs.Settings.{names_are}
use Rattle.table.proofs.opening.Settings.are_names.Goals as goal

pub returns : goal.returns
returns c = names_are _ _ _ _ _ _ _ c.is_name.ensures c.is_name-2.ensures c.is_code.ensures
