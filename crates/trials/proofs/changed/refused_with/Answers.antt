-- `changes::refused_with`: the copy is the bytes.
use mathlib.Core.Path.{◌≡◌}
use native.Mathlib.Omega.{arith}
use lib.ListN.{length, take}
use lib.Seq.{length-take-le}
use borrow.Author.Rules.{rules}
use Rattle.trials.proofs.Counting.{copy_same}
use Rattle.trials.proofs.changed.refused_with.Goals as goal

pub refused_now-requires : goal.refused_now-requires
refused_now-requires c =
    let e : length (take c.copy_into-n.result c.copy_into-n.new.out) ≡ c.copy_into-n.result = length-take-le _ _ (search rules) in
    (omega (arith, e), omega (arith, e))

pub returns : goal.returns
returns c = copy_same c.copy_into-n.ensures (search rules) _ _ _ _ _ c.refused_now.ensures
