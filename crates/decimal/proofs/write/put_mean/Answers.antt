-- `write::put_mean` meets its contract, for each instrument.
use Rattle.decimal.proofs.Digits.{mean_room_bonds, mean_room_equities, mean_wrote_bonds, mean_wrote_equities}
use borrow.Author.Rules.{rules}
use Rattle.decimal.proofs.write.put_mean.Goals as goal

pub put_signed-requires : goal.put_signed-requires
put_signed-requires c = (search rules, search (rules, mean_room_bonds))

pub put_unsigned-requires : goal.put_unsigned-requires
put_unsigned-requires c = (search rules, search (rules, mean_room_equities))

pub returns-in-Bonds : goal.returns-in-Bonds
returns-in-Bonds c = search (rules, mean_wrote_bonds)

pub returns-in-Equities : goal.returns-in-Equities
returns-in-Equities c = search (rules, mean_wrote_equities)
