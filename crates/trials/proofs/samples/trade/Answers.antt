-- `samples::trade` meets its contract: its row is short enough to be written.
use Rattle.rows.specs.Rows.{trade_row}
use Rattle.rows.proofs.Bounds.{trade_short}
use Rattle.trials.proofs.Texts.{fine_row}
use Rattle.trials.proofs.samples.trade.Goals as goal

pub print-requires : goal.print-requires
print-requires g c =
    let a = c.args in
    fine_row _ (trade_row a.s a.o a.f) c.trade_row.ensures (λ m t. trade_short m t a.s a.o a.f (c.requires.0.stamp_in m t) (rw c.requires.0.of_is (c.requires.1.shown_in m t)) (rw c.requires.0.of_is c.requires.2))
