-- `write::put_unsigned` meets its contract: the amount below what stands for zero.
use Rattle.decimal.proofs.Digits.{unsigned_room, unsigned_wrote}
use borrow.Author.Rules.{rules}
use Rattle.decimal.proofs.write.put_unsigned.Goals as goal

pub put_plain-requires : goal.put_plain-requires
put_plain-requires c = (search rules, search (rules, unsigned_room))

pub returns : goal.returns
returns c = search (rules, unsigned_wrote)
