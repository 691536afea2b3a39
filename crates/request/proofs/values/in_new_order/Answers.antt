-- The table of a new order.
use mathlib.Core.Path.{◌≡◌, refl, ◌∙◌}
use mathlib.Core.List.{[], ◌∷◌}
use mathlib.Core.Bool.{true}
use denote.Enum.Bare.{sameb}
use Rattle.decimal.specs.declared.Instrument.{Instrument}
use Rattle.decimal.specs.declared.Instrument.TheVariants.{Bonds, Equities}
use Rattle.decimal.specs.contracts.Instrument.{the_type}
use Rattle.request.specs.Gathers.{is_equities}
use Rattle.request.specs.declared.Kind.TheVariants.{NewOrder}
use Rattle.request.specs.Session.{belongs}
use Rattle.request.proofs.Keys.{by_key}
use Rattle.request.proofs.Gathering.{commons, others, new_commons, new_others, new_own, new_none}
use Rattle.request.proofs.values.in_new_order.Goals as goal

same_equities : (q : Instrument) → sameb the_type q Equities ≡ is_equities q
same_equities Bonds = refl
same_equities Equities = refl

pub returns-in-1 : goal.returns-in-1
returns-in-1 c = let x = c.args in by_key (λ t. true ≡ belongs x.q NewOrder t) commons x.tag (new_commons x.q) c.in-1.is

pub returns-in-55 : goal.returns-in-55
returns-in-55 c = let x = c.args in by_key (λ t. true ≡ belongs x.q NewOrder t) others x.tag (new_others x.q) c.in-55.is

pub returns-in-544 : goal.returns-in-544
returns-in-544 c = let x = c.args in by_key (λ t. c.eq.result ≡ belongs x.q NewOrder t) (544 ∷ 8214 ∷ []) x.tag (new_own x.q c.eq.result (c.eq.ensures ∙ same_equities x.q)) c.in-544.is

pub returns-in_default : goal.returns-in_default
returns-in_default c = let x = c.args in new_none x.q x.tag c.in_default.in_default-own.rest.0.0.1 c.in_default.in_default-own.rest.0.1 c.in_default.in_default-own.rest.1
