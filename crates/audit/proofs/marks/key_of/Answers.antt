-- `audit::key_of` meets its contract.
use Rattle.audit.proofs.Rooms.{key_fits, key_is}
use Rattle.std.proofs.Common.{refl, rules}
use Rattle.audit.proofs.marks.key_of.Goals as goal

pub overflow_add-result : goal.overflow_add-result
overflow_add-result c = search (rules, key_fits)

pub returns : goal.returns
returns c = key_is c.args.x _ _ _ refl refl refl
