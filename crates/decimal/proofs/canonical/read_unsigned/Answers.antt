-- `canonical::read_unsigned` meets its contract: no minus, and the amount below what stands for zero.
use Rattle.decimal.proofs.Canon.{price_minus, price_wrong, price_some, price_le}
use borrow.Author.Rules.{rules}
use Rattle.decimal.proofs.canonical.read_unsigned.Goals as goal

pub returns-then-byte_at-eq45 : goal.returns-then-byte_at-eq45
returns-then-byte_at-eq45 c = search (rules, price_minus)

pub returns-in_err-m : goal.returns-in_err-m
returns-in_err-m c = search (rules, price_wrong)

pub overflow_sub-result : goal.overflow_sub-result
overflow_sub-result c = search (rules, price_le)

pub returns : goal.returns
returns c = search (rules, price_some)
