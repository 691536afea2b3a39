-- `both::depth_of` meets its contract: every level that depth answers is in range.
use borrow.Author.Rules.{rules}
use Rattle.kamurjesh.proofs.Quotes.{found_low}
use Rattle.kamurjesh.proofs.both.depth_of.Goals as goal

pub told-requires : goal.told-requires
told-requires c = search (rules, found_low)

pub returns : goal.returns
returns c = rw (← c.depth.ensures) (c.told.ensures)
