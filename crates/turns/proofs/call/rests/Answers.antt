-- `turns::call::rests` meets its contract.
use Rattle.turns.proofs.Going.{stops_asked}
use borrow.Author.Rules.{rules}
use Rattle.turns.proofs.call.rests.Goals as goal

pub returns : goal.returns
returns c = search (rules, stops_asked)
