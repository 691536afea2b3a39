-- The table of a replacement, which is the same in each market.
use mathlib.Core.Path.{◌≡◌, refl}
use mathlib.Core.List.{List, [], ◌∷◌}
use mathlib.Core.Bool.{true}
use Prim.Native.Nat.{ℕ}
use Rattle.request.specs.declared.Kind.TheVariants.{Replacement}
use Rattle.request.specs.Session.{needed, optional, belongs, one_of}
use Rattle.request.proofs.Keys.{by_key, covered, none_of}
use Rattle.request.proofs.Gathering.{none_belongs}
use Rattle.request.proofs.values.in_replacement.Goals as goal

abbrev keys : List ℕ
keys = 11 ∷ 21 ∷ 38 ∷ 40 ∷ 44 ∷ 54 ∷ 60 ∷ []

abbrev more : List ℕ
more = 41 ∷ 55 ∷ []

pub returns-in-11 : goal.returns-in-11
unfolding belongs one_of
returns-in-11 c = record { told = λ q. by_key (λ t. true ≡ belongs q Replacement t) keys c.args.tag (refl, (refl, (refl, (refl, (refl, (refl, (refl, tt))))))) c.in-11.is }

pub returns-in-41 : goal.returns-in-41
unfolding belongs one_of
returns-in-41 c = record { told = λ q. by_key (λ t. true ≡ belongs q Replacement t) more c.args.tag (refl, (refl, tt)) c.in-41.is }

pub returns-in_default : goal.returns-in_default
unfolding covered one_of
returns-in_default c =
    let t = c.args.tag in
    let f = c.in_default.in_default-own.rest.0.1 in
    let g = c.in_default.in_default-own.rest.1 in
    record { told = λ q. none_belongs q Replacement t (none_of keys more [] t f g (λ z. z) (needed q Replacement) refl) (none_of keys more [] t f g (λ z. z) (optional q Replacement) refl) }
