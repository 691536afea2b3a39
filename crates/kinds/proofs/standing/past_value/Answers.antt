-- `standing::past_value` meets its contract.
use Rattle.kinds.proofs.standing.past_value.Goals as goal

pub returns-in-Some : goal.returns-in-Some
returns-in-Some c = rw c.in-Some.is
