-- `octets::put_text` meets its contract: the length byte, the bytes copied, the zeros behind them.
use mathlib.Core.Path.{ap, ◌∙◌}
use native.Mathlib.Omega.{arith}
use lib.ListN.{length, length-set}
use Rattle.octets.specs.Octets.{text_bytes}
use Rattle.octets.proofs.Places.{length_put}
use Rattle.octets.proofs.Runs.{wrote_length, wrote_text}
use Rattle.octets.proofs.text.put_text.Goals as goal

pub copy_into-q-requires : goal.copy_into-q-requires
copy_into-q-requires c = record { fits = simp length-set (omega arith) }

pub put_zeros-requires : goal.put_zeros-requires
put_zeros-requires c =
    let a = c.args in
    let w = c.copy_into-q.ensures in
    omega (arith, w.place, wrote_length w, length-set a.t.now a.p (length a.m.now))

pub returns : goal.returns
returns c = wrote_text _ _ _ c.copy_into-q.ensures c.put_zeros.ensures

pub shape_of-t : goal.shape_of-t
shape_of-t c =
    let a = c.args in
    ap length (returns c) ∙ length_put a.t.now a.p (text_bytes a.room a.m.now)
