-- `write::put_front` meets its contract: one writing after another.
use Rattle.octets.proofs.Runs.{room_first, room_then, then}
use Rattle.report.proofs.Bytes.{version_bytes}
use Rattle.report.proofs.write.put_front.Goals as goal

pub copy_into-a-requires : goal.copy_into-a-requires
copy_into-a-requires c = rw version_bytes (room_first _ _ c.requires)

pub put_number-requires : goal.put_number-requires
put_number-requires c = room_then _ c.requires (rw version_bytes at c.copy_into-a.ensures)

pub returns : goal.returns
returns c = then (rw version_bytes at c.copy_into-a.ensures) c.put_number.ensures
