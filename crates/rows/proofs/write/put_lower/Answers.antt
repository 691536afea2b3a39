-- `write::put_lower` meets its contract: one part after another.
use mathlib.Core.List.{◌++◌}
use Rattle.report.proofs.Writing.{ahead_all}
use Rattle.octets.proofs.Runs.{wrote_length}
use Rattle.rows.specs.Parts.{details_part, state_part, others_part, reason_part, liquidity_part, last_part, lower_part}
use Rattle.rows.proofs.Executions.{part_room, part_more, last_room, last_wrote}
use Rattle.rows.proofs.write.put_lower.Goals as goal

pub put_details-a-requires : goal.put_details-a-requires
unfolding lower_part
put_details-a-requires c = let a = c.args in part_room a.sent.now a.stored.now (details_part a.s a.o) (state_part a.o a.v.kind ++ (others_part a.s.of a.v.fill ++ (reason_part a.s.of a.o a.v.reason ++ (liquidity_part a.v.fill ++ last_part a.s.of a.o)))) (ahead_all c.requires.room)

pub put_state-b-requires : goal.put_state-b-requires
unfolding lower_part
put_state-b-requires c = let a = c.args in record { covered = c.requires.covered; room = part_room a.sent.now a.stored.now (state_part a.o a.v.kind) (others_part a.s.of a.v.fill ++ (reason_part a.s.of a.o a.v.reason ++ (liquidity_part a.v.fill ++ last_part a.s.of a.o))) (part_more a.sent.now a.stored.now (details_part a.s a.o) (state_part a.o a.v.kind ++ (others_part a.s.of a.v.fill ++ (reason_part a.s.of a.o a.v.reason ++ (liquidity_part a.v.fill ++ last_part a.s.of a.o)))) (ahead_all c.requires.room) c.put_details-a.ensures) }

pub put_others-c-requires : goal.put_others-c-requires
unfolding lower_part
put_others-c-requires c = let a = c.args in part_room a.sent.now a.stored.now (others_part a.s.of a.v.fill) (reason_part a.s.of a.o a.v.reason ++ (liquidity_part a.v.fill ++ last_part a.s.of a.o)) (part_more a.sent.now a.stored.now (state_part a.o a.v.kind) (others_part a.s.of a.v.fill ++ (reason_part a.s.of a.o a.v.reason ++ (liquidity_part a.v.fill ++ last_part a.s.of a.o))) (part_more a.sent.now a.stored.now (details_part a.s a.o) (state_part a.o a.v.kind ++ (others_part a.s.of a.v.fill ++ (reason_part a.s.of a.o a.v.reason ++ (liquidity_part a.v.fill ++ last_part a.s.of a.o)))) (ahead_all c.requires.room) c.put_details-a.ensures) c.put_state-b.ensures)

pub put_reason-d-requires : goal.put_reason-d-requires
unfolding lower_part
put_reason-d-requires c = let a = c.args in part_room a.sent.now a.stored.now (reason_part a.s.of a.o a.v.reason) (liquidity_part a.v.fill ++ last_part a.s.of a.o) (part_more a.sent.now a.stored.now (others_part a.s.of a.v.fill) (reason_part a.s.of a.o a.v.reason ++ (liquidity_part a.v.fill ++ last_part a.s.of a.o)) (part_more a.sent.now a.stored.now (state_part a.o a.v.kind) (others_part a.s.of a.v.fill ++ (reason_part a.s.of a.o a.v.reason ++ (liquidity_part a.v.fill ++ last_part a.s.of a.o))) (part_more a.sent.now a.stored.now (details_part a.s a.o) (state_part a.o a.v.kind ++ (others_part a.s.of a.v.fill ++ (reason_part a.s.of a.o a.v.reason ++ (liquidity_part a.v.fill ++ last_part a.s.of a.o)))) (ahead_all c.requires.room) c.put_details-a.ensures) c.put_state-b.ensures) c.put_others-c.ensures)

pub put_liquidity-e-requires : goal.put_liquidity-e-requires
unfolding lower_part
put_liquidity-e-requires c = let a = c.args in part_room a.sent.now a.stored.now (liquidity_part a.v.fill) (last_part a.s.of a.o) (part_more a.sent.now a.stored.now (reason_part a.s.of a.o a.v.reason) (liquidity_part a.v.fill ++ last_part a.s.of a.o) (part_more a.sent.now a.stored.now (others_part a.s.of a.v.fill) (reason_part a.s.of a.o a.v.reason ++ (liquidity_part a.v.fill ++ last_part a.s.of a.o)) (part_more a.sent.now a.stored.now (state_part a.o a.v.kind) (others_part a.s.of a.v.fill ++ (reason_part a.s.of a.o a.v.reason ++ (liquidity_part a.v.fill ++ last_part a.s.of a.o))) (part_more a.sent.now a.stored.now (details_part a.s a.o) (state_part a.o a.v.kind ++ (others_part a.s.of a.v.fill ++ (reason_part a.s.of a.o a.v.reason ++ (liquidity_part a.v.fill ++ last_part a.s.of a.o)))) (ahead_all c.requires.room) c.put_details-a.ensures) c.put_state-b.ensures) c.put_others-c.ensures) c.put_reason-d.ensures)

pub put_last-requires : goal.put_last-requires
unfolding lower_part
put_last-requires c = let a = c.args in last_room (part_more a.sent.now a.stored.now (liquidity_part a.v.fill) (last_part a.s.of a.o) (part_more a.sent.now a.stored.now (reason_part a.s.of a.o a.v.reason) (liquidity_part a.v.fill ++ last_part a.s.of a.o) (part_more a.sent.now a.stored.now (others_part a.s.of a.v.fill) (reason_part a.s.of a.o a.v.reason ++ (liquidity_part a.v.fill ++ last_part a.s.of a.o)) (part_more a.sent.now a.stored.now (state_part a.o a.v.kind) (others_part a.s.of a.v.fill ++ (reason_part a.s.of a.o a.v.reason ++ (liquidity_part a.v.fill ++ last_part a.s.of a.o))) (part_more a.sent.now a.stored.now (details_part a.s a.o) (state_part a.o a.v.kind ++ (others_part a.s.of a.v.fill ++ (reason_part a.s.of a.o a.v.reason ++ (liquidity_part a.v.fill ++ last_part a.s.of a.o)))) (ahead_all c.requires.room) c.put_details-a.ensures) c.put_state-b.ensures) c.put_others-c.ensures) c.put_reason-d.ensures) c.put_liquidity-e.ensures)

pub returns : goal.returns
unfolding lower_part
returns c = let a = c.args in last_wrote (part_more a.sent.now a.stored.now (liquidity_part a.v.fill) (last_part a.s.of a.o) (part_more a.sent.now a.stored.now (reason_part a.s.of a.o a.v.reason) (liquidity_part a.v.fill ++ last_part a.s.of a.o) (part_more a.sent.now a.stored.now (others_part a.s.of a.v.fill) (reason_part a.s.of a.o a.v.reason ++ (liquidity_part a.v.fill ++ last_part a.s.of a.o)) (part_more a.sent.now a.stored.now (state_part a.o a.v.kind) (others_part a.s.of a.v.fill ++ (reason_part a.s.of a.o a.v.reason ++ (liquidity_part a.v.fill ++ last_part a.s.of a.o))) (part_more a.sent.now a.stored.now (details_part a.s a.o) (state_part a.o a.v.kind ++ (others_part a.s.of a.v.fill ++ (reason_part a.s.of a.o a.v.reason ++ (liquidity_part a.v.fill ++ last_part a.s.of a.o)))) (ahead_all c.requires.room) c.put_details-a.ensures) c.put_state-b.ensures) c.put_others-c.ensures) c.put_reason-d.ensures) c.put_liquidity-e.ensures) c.put_last.ensures

pub shape_of-out : goal.shape_of-out
shape_of-out c = wrote_length (returns c)
