-- `image::put_data` meets its contract.
use Rattle.image.proofs.Blocks.{data_room, data_short, zeros_room, data_put}
use borrow.Author.Rules.{rules}
use Rattle.image.proofs.block.put_data.Goals as goal

pub copy_into-next-requires : goal.copy_into-next-requires
copy_into-next-requires c = search (rules, data_room)

pub overflow_sub-data : goal.overflow_sub-data
overflow_sub-data c = search (rules, data_short)

pub put_zeros-requires : goal.put_zeros-requires
put_zeros-requires c = search (rules, zeros_room)

pub returns : goal.returns
returns c = search (rules, data_put)
