-- `rejects::tell_refused` meets its contract: the row of a new order that is refused, written.
use Rattle.ticket.proofs.Told.{refused_row_short, refused_told}
use borrow.Author.Rules.{rules}
use Rattle.ticket.proofs.rejects.tell_refused.Goals as goal

pub write_report-requires : goal.write_report-requires
write_report-requires c = record { row_len_bound = search (rules, refused_row_short); in_bounds = search rules }

pub returns : goal.returns
returns c = search (rules, refused_told)
