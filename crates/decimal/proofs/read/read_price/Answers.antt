-- A price: no minus, and its size.
use Rattle.decimal.proofs.Yields.{price_minus, price_room, price_plain, price_plain_wrong}
use borrow.Author.Rules.{rules}
use Rattle.decimal.proofs.read.read_price.Goals as goal

pub returns-then-byte_at-eq45 : goal.returns-then-byte_at-eq45
returns-then-byte_at-eq45 c = search (rules, price_minus)

pub overflow_sub-result : goal.overflow_sub-result
overflow_sub-result c = search (rules, price_room)

pub returns : goal.returns
returns c = search (rules, price_plain)

pub returns-in_err-t : goal.returns-in_err-t
returns-in_err-t c = search (rules, price_plain_wrong)
