-- One character, of some.
use Rattle.request.proofs.Judging.{among_long, among_outside, among_is}
use borrow.Author.Rules.{rules}
use Rattle.request.proofs.values.among.Goals as goal

pub returns-then-v-ne1 : goal.returns-then-v-ne1
returns-then-v-ne1 c = search (rules, among_long)

pub returns-then-not-one_of : goal.returns-then-not-one_of
returns-then-not-one_of c = search (rules, among_outside)

pub returns : goal.returns
returns c = search (rules, among_is)
