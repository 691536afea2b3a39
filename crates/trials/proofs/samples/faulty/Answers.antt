-- `samples::faulty` meets its contract: its row is short enough to be written.
use Rattle.rows.specs.Rows.{session_reject_row}
use Rattle.rows.proofs.Bounds.{session_reject_short}
use Rattle.trials.proofs.Texts.{fine_row}
use Rattle.trials.proofs.samples.faulty.Goals as goal

pub print-requires : goal.print-requires
print-requires g c =
    let a = c.args in
    fine_row _ (session_reject_row a.s a.f) c.session_reject_row.ensures (λ m t. session_reject_short m t a.s a.f (c.requires.0.stamp_in m t) c.requires.1)
