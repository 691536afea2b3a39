-- The table of each type.
use Rattle.request.proofs.Gathering.{by_kind, by_each, unknown_none}
use borrow.Author.Rules.{rules}
use Rattle.request.proofs.values.in_kind.Goals as goal

pub returns-in-NewOrder : goal.returns-in-NewOrder
returns-in-NewOrder c = search (rules, by_kind)

pub returns-in-Replacement : goal.returns-in-Replacement
returns-in-Replacement c = search (rules, by_each)

pub returns-in-Cancel : goal.returns-in-Cancel
returns-in-Cancel c = search (rules, by_each)

pub returns-in-Unknown : goal.returns-in-Unknown
returns-in-Unknown c = search (rules, unknown_none)
