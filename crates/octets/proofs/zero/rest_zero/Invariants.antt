-- `octets::rest_zero` meets its contract: what is kept, and the rest, are zero exactly if all from place p on are.
use mathlib.Core.Path.{◌≡◌}
use mathlib.Core.Bool.{◌&&◌}
use Prim.Native.Nat.{◌+◌, ◌*◌}
use lib.ListN.{length, drop}
use Rattle.octets.specs.Octets.{all_zero}
use Rattle.octets.proofs.zero.rest_zero.Given as goal

abbrev pub invariant-loop-j : goal.invariant-loop-j
invariant-loop-j l =
    ((all_zero l.most && all_zero (drop (l.p + 256 * l.j) l.t)) ≡ all_zero (drop l.p l.t)) × (length l.most ≡ 128)
