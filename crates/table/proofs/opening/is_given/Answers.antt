-- `table::opening::is_given` meets its contract: five tests.
use Rattle.table.proofs.Settings.{given_is}
use Rattle.table.proofs.opening.is_given.Goals as goal

pub returns : goal.returns
returns c = given_is _ _ _ _ c.is_new.ensures
