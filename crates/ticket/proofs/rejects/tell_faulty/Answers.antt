-- `rejects::tell_faulty` meets its contract: the row of a message with a fault, written.
use Rattle.ticket.proofs.Told.{faulty_row_short, faulty_told}
use borrow.Author.Rules.{rules}
use Rattle.ticket.proofs.rejects.tell_faulty.Goals as goal

pub write_report-requires : goal.write_report-requires
write_report-requires c = record { row_len_bound = search (rules, faulty_row_short); in_bounds = search rules }

pub returns : goal.returns
returns c = search (rules, faulty_told)
