-- `audit::is_filled` meets its contract.
use Rattle.std.proofs.Common.{rules}
use Rattle.audit.proofs.Filled.{filling_none, filling_more, filling_end}
use Rattle.audit.proofs.characters.Characters.is_filled.Goals as goal

pub loop-i-init : goal.loop-i-init
loop-i-init c = search (rules, filling_none)

pub loop-i-preserved : goal.loop-i-preserved
loop-i-preserved c = filling_more _ _ _ _ _ _ _ c.args.self.now.are_rows c.loop-i.invariant c.loop-i-test.true c.requires.1 c.requires.2 c.requires.0 c.has-good.ensures

pub returns : goal.returns
returns c = search (rules, filling_end)
