-- `intake::handle::handle` meets its contract, request by request.
use Rattle.intake.proofs.Answering.{asking_is, handled_garbled, handled_fault, handled_new, handled_replace, handled_cancel}
use borrow.Author.Rules.{rules}
use Rattle.intake.proofs.handle.handle.Goals as goal

pub fault-requires : goal.fault-requires
fault-requires c = (search (rules, asking_is), search rules)

pub enters-requires : goal.enters-requires
enters-requires c = (search (rules, asking_is), search rules)

pub replaces-requires : goal.replaces-requires
replaces-requires c = (search (rules, asking_is), search rules)

pub cancels-requires : goal.cancels-requires
cancels-requires c = (search (rules, asking_is), search rules)

pub returns-in-Garbled : goal.returns-in-Garbled
returns-in-Garbled c = search (rules, handled_garbled)

pub returns-in-Refused : goal.returns-in-Refused
returns-in-Refused c = search (rules, handled_fault)

pub returns-in-Enters : goal.returns-in-Enters
returns-in-Enters c = search (rules, handled_new)

pub returns-in-Replaces : goal.returns-in-Replaces
returns-in-Replaces c = search (rules, handled_replace)

pub returns-in-Cancels : goal.returns-in-Cancels
returns-in-Cancels c = search (rules, handled_cancel)
