-- A text of 1 to `most` characters.
use Rattle.request.proofs.Judging.{text_is, text_not}
use borrow.Author.Rules.{rules}
use Rattle.request.proofs.values.text.Goals as goal

pub returns-then-v-most : goal.returns-then-v-most
returns-then-v-most c = search (rules, text_is)

pub returns-else-v-most : goal.returns-else-v-most
returns-else-v-most c = search (rules, text_not)
