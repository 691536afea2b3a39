-- `table::look::Offers::half` meets its contract.
use Rattle.table.proofs.Notes.{between_below}
use borrow.Author.Rules.{rules}
use Rattle.table.proofs.look.Offers.half.Goals as goal

pub overflow_sub-h : goal.overflow_sub-h
overflow_sub-h c = search (rules, between_below)
