-- The request of each type.
use Rattle.request.proofs.Answers.{request_new, request_replace, request_cancel, request_unknown}
use borrow.Author.Rules.{rules}
use Rattle.request.proofs.asks.request.Goals as goal

pub returns-in-NewOrder : goal.returns-in-NewOrder
returns-in-NewOrder c = search (rules, request_new)

pub returns-in-Replacement : goal.returns-in-Replacement
returns-in-Replacement c = search (rules, request_replace)

pub returns-in-Cancel : goal.returns-in-Cancel
returns-in-Cancel c = search (rules, request_cancel)

pub returns-in-Unknown : goal.returns-in-Unknown
returns-in-Unknown c = search (rules, request_unknown)
