-- The table of needed tags of each type.
use Rattle.request.proofs.Answers.{unset_kind, unset_unknown}
use borrow.Author.Rules.{rules}
use Rattle.request.proofs.body.missing.Goals as goal

pub returns-in-NewOrder : goal.returns-in-NewOrder
returns-in-NewOrder c = search (rules, unset_kind)

pub returns-in-Replacement : goal.returns-in-Replacement
returns-in-Replacement c = search (rules, unset_kind)

pub returns-in-Cancel : goal.returns-in-Cancel
returns-in-Cancel c = search (rules, unset_kind)

pub returns-in-Unknown : goal.returns-in-Unknown
returns-in-Unknown c = search (rules, unset_unknown)
