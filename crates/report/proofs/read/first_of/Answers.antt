-- `read::first_of` meets its contract.
use Rattle.report.proofs.Readings.{first_none, first_some, label_fits, value_fits}
use borrow.Author.Rules.{rules}
use Rattle.report.proofs.read.first_of.Goals as goal

pub returns-then-p-s : goal.returns-then-p-s
returns-then-p-s c = search (rules, first_none)

pub overflow_add-p : goal.overflow_add-p
overflow_add-p c = search (rules, label_fits)

pub overflow_add-p-2 : goal.overflow_add-p-2
overflow_add-p-2 c = search (rules, value_fits)

pub returns : goal.returns
returns c = search (rules, first_some)
