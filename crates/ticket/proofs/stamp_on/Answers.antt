-- `ticket::stamp_on` meets its contract, part by part.
use Rattle.ticket.specs.Tickets.{stamp_on}
use Rattle.ticket.proofs.stamp_on.Goals as goal

pub returns : goal.returns
unfolding stamp_on
returns c = λ j. record { of = c.instrument-of.ensures j; number = c.args.n; time = c.text-when.ensures j; venue = c.stored_at-venue.ensures j; port = c.stored_at-port.ensures j }
