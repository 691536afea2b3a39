-- 3, 2, 4, then what the value says.
use Rattle.request.proofs.Gathering.{judge_type, judge_unlisted, judge_empty, judge_lent}
use borrow.Author.Rules.{rules}
use Rattle.request.proofs.body.judged.Goals as goal

pub returns-then-in_some : goal.returns-then-in_some
returns-then-in_some c = search (rules, judge_type)

pub returns-then-not-in_kind : goal.returns-then-not-in_kind
returns-then-not-in_kind c = search (rules, judge_unlisted)

pub returns-then-len-eq0 : goal.returns-then-len-eq0
returns-then-len-eq0 c = search (rules, judge_empty)

pub returns : goal.returns
returns c = search (rules, judge_lent)
