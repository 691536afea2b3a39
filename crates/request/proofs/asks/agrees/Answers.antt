-- A tag that clashes, or what follows.
use Rattle.request.proofs.Answers.{agrees_clash, agrees_is}
use borrow.Author.Rules.{rules}
use Rattle.request.proofs.asks.agrees.Goals as goal

pub returns-in-Some : goal.returns-in-Some
returns-in-Some c = search (rules, agrees_clash)

pub returns-in-None : goal.returns-in-None
returns-in-None c = search (rules, agrees_is)
