-- `write::put_trailer` meets its contract: one writing after another.
use Rattle.octets.proofs.Runs.{then}
use Rattle.report.specs.Fields.{written}
use Rattle.report.specs.Frame.{trailer}
use Rattle.report.proofs.write.put_trailer.Goals as goal

pub returns : goal.returns
unfolding written trailer
returns c = then (then c.put_label-a.ensures c.put_places-b.ensures) c.put_byte.ensures
