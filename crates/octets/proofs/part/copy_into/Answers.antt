-- `octets::copy_into` meets its contract: after j bytes the first j are written.
use mathlib.Core.Path.{◌≡◌, refl}
use Prim.Native.Nat.{◌+◌}
use native.Mathlib.Omega.{arith}
use Rattle.octets.specs.Octets.{put}
use Rattle.octets.proofs.Runs.{copy_more}
use Rattle.octets.proofs.part.copy_into.Goals as goal

pub loop-j-init : goal.loop-j-init
unfolding put
loop-j-init c = record { place = refl; bytes_in = refl }

pub loop-j-preserved : goal.loop-j-preserved
loop-j-preserved c =
    let e : c.args.at + c.loop-j.j + 1 ≡ c.args.at + (c.loop-j.j + 1) = omega arith in
    rw e at (copy_more c.args.from.now c.loop-j.j c.loop-j-test.true c.loop-j.invariant)
