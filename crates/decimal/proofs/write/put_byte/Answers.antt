-- `write::put_byte` meets its contract.
use Rattle.octets.proofs.Runs.{wrote_one}
use Rattle.decimal.proofs.write.put_byte.Goals as goal

pub returns : goal.returns
returns c = wrote_one _ _ _
