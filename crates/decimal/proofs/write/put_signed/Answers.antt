-- `write::put_signed` meets its contract: a minus where the number is below zero, and the amount.
use Rattle.decimal.proofs.Digits.{signed_below, signed_above}
use Rattle.octets.proofs.Runs.{room_first, room_then, then}
use native.Mathlib.Omega.{arith}
use Rattle.decimal.proofs.write.put_signed.Goals as goal

pub put_byte-a-requires : goal.put_byte-a-requires
put_byte-a-requires c = let s = c in let e = signed_below s.args.k s.args.unit s.args.v s.requires.0 (omega arith) in room_first _ _ (rw e at s.requires.1)

pub put_plain-requires : goal.put_plain-requires
put_plain-requires c = let s = c in let e = signed_below s.args.k s.args.unit s.args.v s.requires.0 (omega arith) in (s.requires.0, room_then _ (rw e at s.requires.1) c.put_byte-a.ensures)

pub returns-then-v-zero : goal.returns-then-v-zero
returns-then-v-zero c = let s = c in let e = signed_below s.args.k s.args.unit s.args.v s.requires.0 (omega arith) in rw e (then c.put_byte-a.ensures c.put_plain.ensures)

pub put_plain-requires-2 : goal.put_plain-requires-2
put_plain-requires-2 c = let s = c in let e = signed_above s.args.k s.args.unit s.args.v s.requires.0 (omega arith) in (s.requires.0, rw e at s.requires.1)

pub returns : goal.returns
returns c = let s = c in let e = signed_above s.args.k s.args.unit s.args.v s.requires.0 (omega arith) in rw e c.put_plain-2.ensures
