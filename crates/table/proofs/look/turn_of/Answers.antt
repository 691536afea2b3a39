-- `table::look::turn_of` meets its contract.
use Rattle.table.proofs.Looks.{buy_mul, buy_add, buy_turn, sell_mul, sell_add, sell_turn}
use borrow.Author.Rules.{rules}
use Rattle.table.proofs.look.turn_of.Goals as goal

pub overflow_mul-result : goal.overflow_mul-result
overflow_mul-result c = search (rules, buy_mul)

pub overflow_add-result : goal.overflow_add-result
overflow_add-result c = search (rules, buy_add)

pub returns-then-is_buy : goal.returns-then-is_buy
returns-then-is_buy c = search (rules, buy_turn)

pub overflow_mul-result-2 : goal.overflow_mul-result-2
overflow_mul-result-2 c = search (rules, sell_mul)

pub overflow_add-result-2 : goal.overflow_add-result-2
overflow_add-result-2 c = search (rules, sell_add)

pub returns : goal.returns
returns c = search (rules, sell_turn)
