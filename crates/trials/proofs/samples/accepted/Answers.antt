-- `samples::accepted` meets its contract: its row is short enough to be written.
use Rattle.rows.specs.Rows.{accepted_row}
use Rattle.rows.proofs.Bounds.{accepted_short}
use Rattle.trials.proofs.Texts.{fine_row}
use Rattle.trials.proofs.samples.accepted.Goals as goal

pub print-requires : goal.print-requires
print-requires g c =
    let a = c.args in
    fine_row _ (accepted_row a.s a.o) c.accepted_row.ensures (λ m t. accepted_short m t a.s a.o (c.requires.0.stamp_in m t) (rw c.requires.0.of_is (c.requires.1.shown_in m t)))
