-- `turns::events::one` meets its contract: the event is applied, and its report written from the table after it.
use Rattle.turns.proofs.Happening.{one_legible, one_told}
use borrow.Author.Rules.{rules}
use Rattle.turns.proofs.events.one.Goals as goal

pub tell-bytes-requires : goal.tell-bytes-requires
tell-bytes-requires c = record { legible = search (rules, one_legible); in_bounds = search rules }

pub returns : goal.returns
returns c = search (rules, one_told)
