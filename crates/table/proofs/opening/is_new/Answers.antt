-- `table::opening::is_new` meets its contract: none of the entries before has the MPID.
use Rattle.std.proofs.Common.{◌∙◌, ap, not, arith}
use Rattle.table.proofs.Settings.{new_is}
use Rattle.table.proofs.opening.is_new.Goals as goal

pub returns : goal.returns
returns c = ap not c.contains.ensures.value ∙ new_is _ _ (omega arith)
