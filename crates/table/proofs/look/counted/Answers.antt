-- `table::look::counted` meets its contract.
use Rattle.table.proofs.Notes.{counted_fits, counted_is}
use borrow.Author.Rules.{rules}
use Rattle.table.proofs.look.counted.Goals as goal

pub overflow_mul-result : goal.overflow_mul-result
overflow_mul-result c = search (rules, counted_fits)

pub returns : goal.returns
returns c = search (rules, counted_is)
