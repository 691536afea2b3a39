-- `image::is_checked` meets its contract.
use Rattle.image.proofs.Blocks.{checked_is}
use borrow.Author.Rules.{rules}
use Rattle.image.proofs.block.is_checked.Goals as goal

pub returns : goal.returns
returns c = search (rules, checked_is)
