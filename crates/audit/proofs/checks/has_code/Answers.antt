-- `audit::has_code` meets its contract.
use Rattle.audit.proofs.Checked.{code_digits, code_graphic}
use Rattle.std.proofs.Common.{rules}
use Rattle.audit.proofs.checks.has_code.Goals as goal

pub returns-in-Bonds : goal.returns-in-Bonds
returns-in-Bonds c = search (rules, code_digits)

pub returns-in-Equities : goal.returns-in-Equities
returns-in-Equities c = search (rules, code_graphic)
