-- A yield as a level.
use Rattle.request.proofs.Judging.{level_is_lem}
use borrow.Author.Rules.{rules}
use Rattle.request.proofs.values.level.Goals as goal

pub returns : goal.returns
returns c = search (rules, level_is_lem)
