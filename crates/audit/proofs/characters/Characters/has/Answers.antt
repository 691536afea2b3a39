-- `audit::Characters::has` meets its contract.
use Rattle.std.proofs.Common.{arith}
use Rattle.audit.proofs.Filled.{rows_bytes, wrapped_is}
use Rattle.audit.proofs.characters.Characters.has.Goals as goal

pub returns : goal.returns
returns c = wrapped_is _ _ _ (rows_bytes _ _ c.args.self.now.are_rows c.args.k) (omega arith)
