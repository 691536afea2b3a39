-- `write::put_label` meets its contract: one writing after another.
use Rattle.octets.proofs.Runs.{then}
use Rattle.report.specs.Fields.{label}
use Rattle.report.proofs.write.put_label.Goals as goal

pub returns : goal.returns
unfolding label
returns c = then c.put_decimal-a.ensures c.put_byte.ensures
