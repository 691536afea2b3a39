-- `samples::canceled` meets its contract: its row is short enough to be written.
use Rattle.rows.specs.Rows.{canceled_row}
use Rattle.rows.proofs.Bounds.{canceled_short}
use Rattle.trials.proofs.Texts.{fine_row}
use Rattle.trials.proofs.samples.canceled.Goals as goal

pub print-requires : goal.print-requires
print-requires g c =
    let a = c.args in
    fine_row _ (canceled_row a.s a.o a.w) c.canceled_row.ensures (λ m t. canceled_short m t a.s a.o a.w (c.requires.0.stamp_in m t) (rw c.requires.0.of_is (c.requires.1.shown_in m t)) (c.requires.2.ground_in m t))
