-- `samples::rejected` meets its contract: its row is short enough to be written.
use Rattle.rows.specs.Rows.{rejected_row}
use Rattle.rows.proofs.Bounds.{rejected_short}
use Rattle.trials.proofs.Texts.{fine_row}
use Rattle.trials.proofs.samples.rejected.Goals as goal

pub print-requires : goal.print-requires
print-requires g c =
    let a = c.args in
    fine_row _ (rejected_row a.s a.r) c.rejected_row.ensures (λ m t. rejected_short m t a.s a.r (c.requires.0.stamp_in m t) c.requires.1)
