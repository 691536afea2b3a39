-- `market::levels::next_level` meets its contract: after i records the candidate is the next level of the first i.
use native.Mathlib.Omega.{arith}
use borrow.Author.Rules.{rules}
use Rattle.table.proofs.Same.{filled_few}
use Rattle.market.proofs.LevelLaws.{loaded_sound, next_none, next_one}
use Rattle.market.proofs.levels.next_level.Goals as goal

pub loop-i-init : goal.loop-i-init
loop-i-init c = next_none _ 0 _ _

pub load-requires : goal.load-requires
load-requires c = let p = c.requires in (p.0.long, omega (arith, filled_few c.args.t.now))

pub nearer-c-requires : goal.nearer-c-requires
nearer-c-requires c = let p = c.requires in (loaded_sound _ _ _ _ p.0 p.1 (omega arith) c.load.ensures).covered

pub loop-i-preserved : goal.loop-i-preserved
loop-i-preserved c = search (rules, next_one)
