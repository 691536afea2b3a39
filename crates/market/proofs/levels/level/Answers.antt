-- `market::levels::level` meets its contract: the level is looked for, and then what stands on it.
use borrow.Author.Rules.{rules}
use Rattle.market.proofs.LevelLaws.{depth_none, depth_level}
use Rattle.market.proofs.levels.level.Goals as goal

pub returns-in_err-level : goal.returns-in_err-level
returns-in_err-level c = search (rules, depth_none)

pub returns : goal.returns
returns c = search (rules, depth_level)
