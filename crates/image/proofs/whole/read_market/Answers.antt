-- `image::read_market` meets its contract: what is read stays, or the copy is put back.
use borrow.Author.Rules.{rules}
use Rattle.image.proofs.Copies.{read_told, put_back}
use Rattle.image.proofs.whole.read_market.Goals as goal

pub returns-then-is_market_of : goal.returns-then-is_market_of
returns-then-is_market_of c = (search (rules, read_told), search rules)

pub returns : goal.returns
returns c = (search (rules, read_told), search (rules, put_back))
