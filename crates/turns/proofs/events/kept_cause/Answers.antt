-- `turns::events::kept_cause` meets its contract: the 52 stands behind its length in the heading.
use borrow.Author.Rules.{rules}
use Rattle.turns.proofs.Happening.{kept_is}
use Rattle.turns.proofs.events.kept_cause.Goals as goal

pub returns : goal.returns
returns c = search (rules, kept_is)
