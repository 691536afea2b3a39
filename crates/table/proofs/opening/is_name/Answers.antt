-- `table::opening::is_name` meets its contract: three tests.
use Rattle.table.proofs.Settings.{name_is}
use Rattle.table.proofs.opening.is_name.Goals as goal

pub returns : goal.returns
returns c = name_is _ _ _ _ c.all_between.ensures
