-- `audit::is_priced` meets its contract.
use Rattle.audit.proofs.Amounts.{priced_fits, priced_is}
use Rattle.std.proofs.Common.{rules}
use Rattle.audit.proofs.sound.is_priced.Goals as goal

pub overflow_mul-result : goal.overflow_mul-result
overflow_mul-result c = search (rules, priced_fits)

pub returns : goal.returns
returns c = search (rules, priced_is)
