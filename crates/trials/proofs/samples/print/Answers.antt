-- `samples::print` meets its contract: the row is short enough, and what is printed lies in the area.
use Rattle.trials.proofs.Texts.{fine_short}
use borrow.Author.Rules.{rules}
use Rattle.trials.proofs.samples.print.Goals as goal

pub write_report-n-requires-clause-row_len_bound : goal.write_report-n-requires-clause-row_len_bound
write_report-n-requires-clause-row_len_bound g c = search (rules, fine_short)
