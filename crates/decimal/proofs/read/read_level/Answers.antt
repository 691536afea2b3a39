-- `read::read_level` meets its contract, for each instrument.
use Rattle.decimal.proofs.Yields.{level_bonds, level_equities}
use borrow.Author.Rules.{rules}
use Rattle.decimal.proofs.read.read_level.Goals as goal

pub returns-in-Bonds : goal.returns-in-Bonds
returns-in-Bonds c = search (rules, level_bonds)

pub returns-in-Equities : goal.returns-in-Equities
returns-in-Equities c = search (rules, level_equities)
