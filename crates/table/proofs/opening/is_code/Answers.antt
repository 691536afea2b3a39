-- `table::opening::is_code` meets its contract: the code of a bond has digits, the symbol of a share any characters.
use Rattle.table.proofs.Settings.{code_digits, code_graphic}
use Rattle.table.proofs.opening.is_code.Goals as goal

pub returns-in-Bonds : goal.returns-in-Bonds
returns-in-Bonds c = rw c.in-Bonds.is (code_digits _ _ c.is_name.ensures)

pub returns-in-Equities : goal.returns-in-Equities
returns-in-Equities c = rw c.in-Equities.is (code_graphic _ _ c.is_name-in-Equities.ensures)
