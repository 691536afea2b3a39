-- `image::read_block` meets its contract.
use Rattle.image.proofs.Blocks.{kept_room, kept_put}
use borrow.Author.Rules.{rules}
use Rattle.image.proofs.block.read_block.Goals as goal

pub copy_into-requires : goal.copy_into-requires
copy_into-requires c = search (rules, kept_room)

pub returns : goal.returns
returns c = search (rules, kept_put)
