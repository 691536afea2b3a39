-- `image::put_block` meets its contract.
use Rattle.image.proofs.Blocks.{block_put}
use borrow.Author.Rules.{rules}
use Rattle.image.proofs.block.put_block.Goals as goal

pub returns : goal.returns
returns c = search (rules, block_put)
