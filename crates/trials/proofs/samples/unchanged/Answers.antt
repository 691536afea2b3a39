-- `samples::unchanged` meets its contract: its row is short enough to be written.
use Rattle.rows.specs.Rows.{cancel_reject_row}
use Rattle.rows.proofs.Bounds.{cancel_reject_short}
use Rattle.trials.proofs.Texts.{fine_row}
use Rattle.trials.proofs.samples.unchanged.Goals as goal

pub print-requires : goal.print-requires
print-requires g c =
    let a = c.args in
    fine_row _ (cancel_reject_row a.s a.u) c.cancel_reject_row.ensures (λ m t. cancel_reject_short m t a.s a.u (c.requires.0.stamp_in m t) c.requires.1)
