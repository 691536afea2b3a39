-- `write::put_plain` meets its contract: one writing after another.
use Rattle.decimal.proofs.Digits.{plain_is}
use Rattle.octets.proofs.Runs.{room_first, room_then, then}
use Rattle.decimal.proofs.write.put_plain.Goals as goal

pub put_decimal-a-requires : goal.put_decimal-a-requires
put_decimal-a-requires c = let s = c in let e = plain_is s.args.k s.args.unit s.args.m s.requires.0 in room_first _ _ (room_first _ _ (rw e at s.requires.1))

pub put_byte-b-requires : goal.put_byte-b-requires
put_byte-b-requires c = let s = c in let e = plain_is s.args.k s.args.unit s.args.m s.requires.0 in room_then _ (room_first _ _ (rw e at s.requires.1)) c.put_decimal-a.ensures

pub put_places-requires : goal.put_places-requires
put_places-requires c = let s = c in let e = plain_is s.args.k s.args.unit s.args.m s.requires.0 in room_then _ (rw e at s.requires.1) (then c.put_decimal-a.ensures c.put_byte-b.ensures)

pub returns : goal.returns
returns c = let s = c in let e = plain_is s.args.k s.args.unit s.args.m s.requires.0 in rw e (then (then c.put_decimal-a.ensures c.put_byte-b.ensures) c.put_places.ensures)
