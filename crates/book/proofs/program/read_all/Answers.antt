-- `book::program::read_all` meets its contract: what came so far, and then the next part.
use borrow.Author.Rules.{rules}
use Rattle.book.proofs.Programs.{came_then, sofar_more}
use Rattle.book.proofs.program.read_all.Goals as goal

pub loop-preserved : goal.loop-preserved
loop-preserved g c = search (rules, sofar_more)

pub returns-in_default : goal.returns-in_default
returns-in_default g c = (search (rules, came_then), search rules)
