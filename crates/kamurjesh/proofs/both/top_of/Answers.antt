-- `both::top_of` meets its contract: every level that top answers is in range.
use borrow.Author.Rules.{rules}
use Rattle.kamurjesh.proofs.Quotes.{top_low}
use Rattle.kamurjesh.proofs.both.top_of.Goals as goal

pub told-requires : goal.told-requires
told-requires c = search (rules, top_low)

pub returns : goal.returns
returns c = rw (← c.top.ensures) (c.told.ensures)
