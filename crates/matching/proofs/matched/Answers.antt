-- Of one owner the mode acts, else they trade.
use mathlib.Core.Path.{sym, ◌∙◌}
use Rattle.matching.specs.Matching.{meeting}
use Rattle.matching.proofs.matched.Goals as goal

pub returns-then-same_owner : goal.returns-then-same_owner
unfolding meeting
returns-then-same_owner c = let s = c in
    simp (c.prevented.ensures, s.open_of-w.ensures, s.open_of-r.ensures, sym s.same_owner.ensures ∙ c.if-same_owner.true)

pub returns : goal.returns
unfolding meeting
returns c = let s = c in
    simp (c.min.ensures, s.open_of-w.ensures, s.open_of-r.ensures, sym s.same_owner.ensures ∙ c.if-same_owner.false)
