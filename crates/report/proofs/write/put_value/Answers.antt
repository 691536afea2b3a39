-- `write::put_value` meets its contract, by the kind of the value.
use Rattle.octets.proofs.Runs.{wrote_none}
use Rattle.report.proofs.write.put_value.Goals as goal

pub put_decimal-requires : goal.put_decimal-requires
put_decimal-requires c = rw c.in-Number.is at c.requires

pub put_byte-requires : goal.put_byte-requires
put_byte-requires c = rw c.in-Char.is at c.requires

pub put_word-requires : goal.put_word-requires
put_word-requires c = rw c.in-Word.is at c.requires

pub copy_into-requires : goal.copy_into-requires
copy_into-requires c = rw c.part_at.ensures (rw c.in-Sent.is at c.requires)

pub copy_into-requires-in-Stored : goal.copy_into-requires-in-Stored
copy_into-requires-in-Stored c = rw c.part_at-in-Stored.ensures (rw c.in-Stored.is at c.requires)

pub put_level-requires : goal.put_level-requires
put_level-requires c = rw c.in-Level.is at c.requires

pub put_mean-requires : goal.put_mean-requires
put_mean-requires c = rw c.in-Mean.is at c.requires

pub returns-in-Absent : goal.returns-in-Absent
returns-in-Absent c = rw c.in-Absent.is (wrote_none _ _)

pub returns-in-Number : goal.returns-in-Number
returns-in-Number c = rw c.in-Number.is c.put_decimal.ensures

pub returns-in-Char : goal.returns-in-Char
returns-in-Char c = rw c.in-Char.is c.put_byte.ensures

pub returns-in-Word : goal.returns-in-Word
returns-in-Word c = rw c.in-Word.is c.put_word.ensures

pub returns-in-Sent : goal.returns-in-Sent
returns-in-Sent c = rw c.in-Sent.is (rw c.part_at.ensures at c.copy_into.ensures)

pub returns-in-Stored : goal.returns-in-Stored
returns-in-Stored c = rw c.in-Stored.is (rw c.part_at-in-Stored.ensures at c.copy_into-in-Stored.ensures)

pub returns-in-Level : goal.returns-in-Level
returns-in-Level c = rw c.in-Level.is c.put_level.ensures

pub returns-in-Mean : goal.returns-in-Mean
returns-in-Mean c = rw c.in-Mean.is c.put_mean.ensures
