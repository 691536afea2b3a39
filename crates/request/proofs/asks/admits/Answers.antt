-- A session Reject, or the request.
use Rattle.request.proofs.Answers.{blank, kind_part, admits_refusal, admits_request}
use borrow.Author.Rules.{rules}
use Rattle.request.proofs.asks.admits.Goals as goal

pub screens-requires : goal.screens-requires
screens-requires c = (search rules, search (rules, kind_part), blank)

pub returns-in-Err : goal.returns-in-Err
returns-in-Err c = search (rules, admits_refusal)

pub returns-in-Ok : goal.returns-in-Ok
returns-in-Ok c = search (rules, admits_request)
