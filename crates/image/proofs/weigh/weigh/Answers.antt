-- `image::weigh` meets its contract: c columns are added up.
use mathlib.Core.Path.{refl}
use lib.ListN.{length-set}
use native.Mathlib.Omega.{arith}
use borrow.Author.Rules.{rules}
use Rattle.image.proofs.Columned.{downs_none, downs_more, weigh_end}
use Rattle.image.proofs.weigh.weigh.Goals as goal

pub loop-c-init : goal.loop-c-init
loop-c-init c = (omega arith, refl, refl, downs_none)

pub loop-c-preserved : goal.loop-c-preserved
loop-c-preserved c = (omega arith, simp length-set (omega arith), simp length-set (omega arith), search (rules, downs_more))

pub returns : goal.returns
returns c = search (rules, weigh_end)
