-- `read::field` meets its contract.
use Rattle.report.proofs.Readings.{part_within}
use borrow.Author.Rules.{rules}
use Rattle.report.proofs.read.field.Goals as goal

pub value_end-end-requires : goal.value_end-end-requires
value_end-end-requires c = search (rules, part_within)
