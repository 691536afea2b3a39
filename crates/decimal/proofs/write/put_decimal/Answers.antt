-- `write::put_decimal` meets its contract: one digit, two, or as many places as there are digits.
use Rattle.decimal.proofs.Digits.{small_room, small_wrote, two_room, two_wrote, decimal_room, decimal_wrote}
use native.Mathlib.Omega.{arith}
use borrow.Author.Rules.{rules}
use Rattle.decimal.proofs.write.put_decimal.Goals as goal

pub overflow_cast-n : goal.overflow_cast-n
overflow_cast-n c = omega arith

pub overflow_add-n : goal.overflow_add-n
overflow_add-n c = omega arith

pub put_byte-requires : goal.put_byte-requires
put_byte-requires c = search (rules, small_room)

pub returns-then-n-lt10 : goal.returns-then-n-lt10
returns-then-n-lt10 c = search (rules, small_wrote)

pub put_places-requires : goal.put_places-requires
put_places-requires c = search (rules, two_room)

pub returns-then-n-lt100 : goal.returns-then-n-lt100
returns-then-n-lt100 c = search (rules, two_wrote)

pub put_places-requires-2 : goal.put_places-requires-2
put_places-requires-2 c = search (rules, decimal_room)

pub returns : goal.returns
returns c = search (rules, decimal_wrote)
