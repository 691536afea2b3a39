-- `write::put_level` meets its contract, for each instrument.
use Rattle.decimal.proofs.Digits.{level_room_bonds, level_room_equities, level_wrote_bonds, level_wrote_equities}
use borrow.Author.Rules.{rules}
use Rattle.decimal.proofs.write.put_level.Goals as goal

pub put_signed-requires : goal.put_signed-requires
put_signed-requires c = (search rules, search (rules, level_room_bonds))

pub put_unsigned-requires : goal.put_unsigned-requires
put_unsigned-requires c = (search rules, search (rules, level_room_equities))

pub returns-in-Bonds : goal.returns-in-Bonds
returns-in-Bonds c = search (rules, level_wrote_bonds)

pub returns-in-Equities : goal.returns-in-Equities
returns-in-Equities c = search (rules, level_wrote_equities)
