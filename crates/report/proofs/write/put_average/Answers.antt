-- `write::put_average` meets its contract: one writing after another.
use Rattle.octets.proofs.Runs.{then}
use Rattle.report.specs.Fields.{written}
use Rattle.report.proofs.write.put_average.Goals as goal

pub returns : goal.returns
unfolding written
returns c = then (then c.put_label-a.ensures c.put_mean-b.ensures) c.put_byte.ensures
