-- The tables of the three types.
use Rattle.request.proofs.Gathering.{some_is}
use borrow.Author.Rules.{rules}
use Rattle.request.proofs.values.in_some.Goals as goal

pub returns : goal.returns
returns c = search (rules, some_is)
