-- The type, the port, the venue, then the body.
use Rattle.request.proofs.Answers.{admits_kind, admits_sender, admits_target, admits_body, admits_held}
use borrow.Author.Rules.{rules}
use Rattle.request.proofs.asks.screens.Goals as goal

pub returns-then-not-is_known : goal.returns-then-not-is_known
returns-then-not-is_known c = search (rules, admits_kind)

pub returns-then-not-same : goal.returns-then-not-same
returns-then-not-same c = search (rules, admits_sender)

pub returns-then-not-same-2 : goal.returns-then-not-same-2
returns-then-not-same-2 c = search (rules, admits_target)

pub decides-requires : goal.decides-requires
decides-requires c = (search (rules, admits_held), search rules)

pub returns : goal.returns
returns c = search (rules, admits_body)
