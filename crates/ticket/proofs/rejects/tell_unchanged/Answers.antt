-- `rejects::tell_unchanged` meets its contract: the row of a cancel or a replacement that is refused, written.
use Rattle.ticket.proofs.Told.{unchanged_row_short, unchanged_told}
use borrow.Author.Rules.{rules}
use Rattle.ticket.proofs.rejects.tell_unchanged.Goals as goal

pub write_report-requires : goal.write_report-requires
write_report-requires c = record { row_len_bound = search (rules, unchanged_row_short); in_bounds = search rules }

pub returns : goal.returns
returns c = search (rules, unchanged_told)
