-- `standing::field` meets its contract: its label, the end of its value, the value.
use borrow.Author.Rules.{rules}
use Rattle.kinds.proofs.Standings.{from_within, stands_none, stands_end, stands_value}
use Rattle.kinds.proofs.standing.field.Goals as goal

pub returns-then-v-eq0 : goal.returns-then-v-eq0
returns-then-v-eq0 g c = λ x h. search (rules, stands_none)

pub value_end-e-requires : goal.value_end-e-requires
value_end-e-requires g c = search (rules, from_within)

pub returns-then-e-s : goal.returns-then-e-s
returns-then-e-s g c = λ x h. search (rules, stands_end)

pub returns : goal.returns
returns g c = λ x h. search (rules, stands_value)
