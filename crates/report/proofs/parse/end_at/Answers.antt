-- `parse::end_at` meets its contract.
use Rattle.report.proofs.Parses.{label_within}
use borrow.Author.Rules.{rules}
use Rattle.report.proofs.parse.end_at.Goals as goal

pub value_end-requires : goal.value_end-requires
value_end-requires c = search (rules, label_within)
