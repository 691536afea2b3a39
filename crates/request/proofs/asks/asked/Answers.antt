-- Garbled, or what the head leads to.
use Rattle.request.proofs.Answers.{asked_garbled, asked_head, asked_good}
use mathlib.Core.Path.{refl}
use borrow.Author.Rules.{rules}
use Rattle.request.proofs.asks.asked.Goals as goal

pub framed_in-requires : goal.framed_in-requires
framed_in-requires c = refl

pub admits-requires : goal.admits-requires
admits-requires c = search (rules, asked_head)

pub returns-in-None : goal.returns-in-None
returns-in-None c = search (rules, asked_garbled)

pub returns-in-Some : goal.returns-in-Some
returns-in-Some c = search (rules, asked_good)
