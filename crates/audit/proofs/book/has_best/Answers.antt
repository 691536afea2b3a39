-- `audit::has_best` meets its contract: the bytes of the best levels are compared with zeros, or with the row of the book.
use Rattle.audit.proofs.Walked.{row_busy, row_idle}
use Rattle.std.proofs.Common.{rules}
use Rattle.audit.proofs.book.has_best.Goals as goal

pub returns-then-w-ne0 : goal.returns-then-w-ne0
returns-then-w-ne0 c = search (rules, row_busy)

pub returns : goal.returns
returns c = search (rules, row_idle)
