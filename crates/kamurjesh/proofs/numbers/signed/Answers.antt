-- `numbers::signed` meets its contract: nothing is lost in the cast, nor in the difference.
use borrow.Author.Rules.{rules}
use Rattle.kamurjesh.proofs.Quotes.{level_fits, yield_fits, yield_is, price_fits, price_is}
use Rattle.kamurjesh.proofs.numbers.signed.Goals as goal

pub overflow_cast-result : goal.overflow_cast-result
overflow_cast-result c = search (rules, level_fits)

pub overflow_sub-result : goal.overflow_sub-result
overflow_sub-result c = yield_fits _ c.requires

pub overflow_cast-result-in-Equities : goal.overflow_cast-result-in-Equities
overflow_cast-result-in-Equities c = search (rules, level_fits)

pub overflow_sub-result-in-Equities : goal.overflow_sub-result-in-Equities
overflow_sub-result-in-Equities c = price_fits _ c.requires

pub returns-in-Bonds : goal.returns-in-Bonds
returns-in-Bonds c = rw c.in-Bonds.is (yield_is _ c.requires)

pub returns-in-Equities : goal.returns-in-Equities
returns-in-Equities c = rw c.in-Equities.is (price_is _ c.requires)
