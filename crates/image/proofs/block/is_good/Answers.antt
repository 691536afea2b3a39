-- `image::is_good` meets its contract.
use Rattle.image.proofs.Blocks.{good_is}
use borrow.Author.Rules.{rules}
use Rattle.image.proofs.block.is_good.Goals as goal

pub returns : goal.returns
returns c = search (rules, good_is)
