-- A missing tag, or none.
use Rattle.request.proofs.Answers.{completes_missing, completes_is}
use borrow.Author.Rules.{rules}
use Rattle.request.proofs.asks.completes.Goals as goal

pub returns-in-Some : goal.returns-in-Some
returns-in-Some c = search (rules, completes_missing)

pub returns-in-None : goal.returns-in-None
returns-in-None c = search (rules, completes_is)
