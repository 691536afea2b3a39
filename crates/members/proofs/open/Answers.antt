-- `members::open` meets its contract: what was taken apart tells what Open answers and writes.
use Rattle.members.proofs.Nine.{answer, whole_table}
use Rattle.std.proofs.Common.{◌∙◌, arith}
use Rattle.members.proofs.open.Goals as goal

pub returns : goal.returns
returns c =
    let a = c.take_apart.ensures in (
      c.open_table.ensures.0 ∙ answer _ _ _ _ _ _ c.args.members.now _ (omega arith) a.0 a.1,
      c.open_table.ensures.1 ∙ whole_table _ _ _ _ _ _ c.args.members.now _ (omega arith) a.0 a.1,
    )
