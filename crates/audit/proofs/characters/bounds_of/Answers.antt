-- `audit::bounds_of` meets its contract.
use Rattle.audit.proofs.Filled.{row_wrote}
use Rattle.std.proofs.Common.{rules}
use Rattle.audit.proofs.characters.bounds_of.Goals as goal

pub returns : goal.returns
returns c = search (rules, row_wrote)
