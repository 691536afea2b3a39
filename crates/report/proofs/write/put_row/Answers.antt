-- `write::put_row` meets its contract. The invariant: the first i fields are written.
use lib.Seq.{take_all}
use Rattle.octets.proofs.Runs.{wrote_none, wrote_length}
use Rattle.report.proofs.Bytes.{next_room, next_wrote}
use borrow.Author.Rules.{rules}
use native.Mathlib.Omega.{arith}
use Rattle.report.proofs.write.put_row.Goals as goal

pub loop-i-init : goal.loop-i-init
loop-i-init c = (search rules, search rules, wrote_none _ _)

pub put_field-o-requires : goal.put_field-o-requires
put_field-o-requires c = let l = c in let s = l in next_room s.args.sent.now s.args.stored.now s.args.row l.loop-i.i (omega arith) s.requires l.loop-i.invariant.2

pub loop-i-preserved : goal.loop-i-preserved
loop-i-preserved c = let l = c in let s = l in (omega arith, l.loop-i.invariant.1, next_wrote s.args.sent.now s.args.stored.now s.args.row l.loop-i.i (omega arith) l.loop-i.invariant.2 c.put_field-o.ensures)

pub shape_of-out : goal.shape_of-out
shape_of-out c = wrote_length c.loop-i.invariant.2

pub returns : goal.returns
returns c = rw (take_all c.loop-i.i c.args.row (omega arith)) at c.loop-i.invariant.2
