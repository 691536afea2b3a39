-- `image::weigh_check` meets its contract.
use native.Mathlib.Omega.{arith}
use Rattle.image.proofs.Blocks.{four_weigh}
use borrow.Author.Rules.{rules}
use Rattle.image.proofs.block.weigh_check.Goals as goal

pub returns : goal.returns
returns c = (search (rules, four_weigh), omega arith)
