-- `changes::refused_now`: the byte is set, and 10 made true where that is asked.
use borrow.Author.Rules.{rules}
use Rattle.trials.proofs.Counting.{now_again, now_plain, now_length}
use Rattle.trials.proofs.changed.refused_now.Goals as goal

pub shape_of-s-then-again : goal.shape_of-s-then-again
shape_of-s-then-again c = search (rules, now_length)

pub returns-then-again : goal.returns-then-again
returns-then-again c = search (rules, now_again)

pub returns : goal.returns
returns c = search (rules, now_plain)
