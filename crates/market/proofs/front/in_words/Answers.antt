-- `market::front::in_words` meets its contract: a level without orders is none.
use Rattle.market.proofs.Tops.{words_none, words_level}
use borrow.Author.Rules.{rules}
use Rattle.market.proofs.front.in_words.Goals as goal

pub returns-then-b-eq0 : goal.returns-then-b-eq0
returns-then-b-eq0 c = search (rules, words_none)

pub returns-else-b-eq0 : goal.returns-else-b-eq0
returns-else-b-eq0 c = search (rules, words_level)
