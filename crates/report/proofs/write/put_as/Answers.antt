-- `write::put_as` meets its contract: a label, the value, SOH.
use mathlib.Core.Path.{sym, ◌∙◌}
use Rattle.octets.proofs.Runs.{room_first, room_then, then, wrote_none}
use Rattle.report.specs.Fields.{field}
use Rattle.report.proofs.Bytes.{field_none, field_some}
use Rattle.report.proofs.write.put_as.Goals as goal

pub returns-then-is_absent : goal.returns-then-is_absent
returns-then-is_absent c = let s = c in rw (field_none s.args.sent.now s.args.stored.now (field s.args.tag s.args.value) (sym c.is_absent.ensures ∙ c.if-is_absent.true)) (wrote_none _ _)

pub put_label-a-requires : goal.put_label-a-requires
put_label-a-requires c = let s = c in let e = field_some s.args.sent.now s.args.stored.now (field s.args.tag s.args.value) (sym c.is_absent.ensures ∙ c.if-is_absent.false) in room_first _ _ (room_first _ _ (rw e at s.requires))

pub put_value-b-requires : goal.put_value-b-requires
put_value-b-requires c = let s = c in let e = field_some s.args.sent.now s.args.stored.now (field s.args.tag s.args.value) (sym c.is_absent.ensures ∙ c.if-is_absent.false) in room_then _ (room_first _ _ (rw e at s.requires)) c.put_label-a.ensures

pub put_byte-requires : goal.put_byte-requires
put_byte-requires c = let s = c in let e = field_some s.args.sent.now s.args.stored.now (field s.args.tag s.args.value) (sym c.is_absent.ensures ∙ c.if-is_absent.false) in room_then _ (rw e at s.requires) (then c.put_label-a.ensures c.put_value-b.ensures)

pub returns : goal.returns
returns c = let s = c in let e = field_some s.args.sent.now s.args.stored.now (field s.args.tag s.args.value) (sym c.is_absent.ensures ∙ c.if-is_absent.false) in rw e (then (then c.put_label-a.ensures c.put_value-b.ensures) c.put_byte.ensures)
