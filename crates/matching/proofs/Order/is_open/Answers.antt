-- What is open is above 0.
use Rattle.matching.proofs.Order.is_open.Goals as goal

pub returns : goal.returns
returns c = simp c.open_of.ensures
