-- Trades come in twos, a buy with a sell, for one quantity, of different owners: so what is bought is sold, and no MPID
-- trades with itself.
use mathlib.Core.Path.{◌≡◌, refl, sym, ap, ◌∙◌}
use mathlib.Core.Bool.{Bool, true, false, cond, not}
use mathlib.Core.List.{List, [], ◌∷◌, ◌++◌}
use Prim.Native.Nat.{ℕ, zero, suc, ◌+◌, ◌≤◌}
use native.Mathlib.Omega.{arith}
use lib.ListN.{length}
use lib.Dec.{ltb}
use borrow.Author.Tests.{ltb-false, eq-eqb}
use Rattle.octets.proofs.Bools.{split, not_both}
use Rattle.matching.specs.declared.Order.{Order}
use Rattle.matching.specs.declared.Event.{Event}
use Rattle.matching.specs.declared.Event.TheVariants.{Traded}
use Rattle.matching.specs.Matching.{Book, at, is_buy, opposite, same_owner, who, play, happens, work_after, run}
use Rattle.matching.specs.Accounts.{trades, bought, sold, SelfTradeFree, self_trade_free, apart, quiet}
use Rattle.matching.proofs.Events.{Terms, terms_of, play_terms}
use Rattle.matching.proofs.Steps.{trade, newest, oldest, equal, less, more, Stepped, rests, kills, expires, matched, step_is, not_opposite, happens_fits, first_in, next_in}

-- by the sides and owners in b
pub data Fair (b : Book) : List Event → Type 0 where
  nothing : Fair b []
  other : {e : Event} {es : List Event} → trades e ≡ 0 → Fair b es → Fair b (e ∷ es)
  pair : {r w q l : ℕ} {es : List Event} → opposite (at b w) (at b r) ≡ true → same_owner (at b w) (at b r) ≡ false
      → Fair b es → Fair b (Traded r w q l ∷ Traded w r q l ∷ es)

pub fair_append : {b : Book} {es fs : List Event} → Fair b es → Fair b fs → Fair b (es ++ fs)
fair_append nothing y = y
fair_append (other z x) y = other z (fair_append x y)
fair_append (pair o s x) y = pair o s (fair_append x y)

pub step_fair : (b : Book) (w v : ℕ) {es : List Event} → Stepped b w es v → Fair b es
step_fair b w v (rests z t) = nothing
step_fair b w v (kills h) = other refl nothing
step_fair b w v (expires z h) = other refl nothing
step_fair b w v (matched p (trade o)) = pair p.opposed o nothing
step_fair b w v (matched p newest) = other refl nothing
step_fair b w v (matched p oldest) = other refl nothing
step_fair b w v (matched p (equal h)) = other refl (other refl nothing)
step_fair b w v (matched p (less h)) = other refl (other refl nothing)
step_fair b w v (matched p (more h)) = other refl (other refl nothing)

-- orders with the same terms are of the same sides and owners
fair_alike : (b c : Book) {es : List Event} → ((k : ℕ) → terms_of (at c k) ≡ terms_of (at b k)) → Fair c es → Fair b es
unfolding same_owner
fair_alike b c h nothing = nothing
fair_alike b c h (other z x) = other z (fair_alike b c h x)
fair_alike b c h (pair {r = r} {w = w} o s x) =
    let u = h w in
    let v = h r in
    pair {r = r} {w = w} (cc (o, ap (λ (t : Terms). t.side) u, ap (λ (t : Terms). t.side) v)) (cc (s, ap (λ (t : Terms). t.mpid) u, ap (λ (t : Terms). t.mpid) v)) (fair_alike b c h x)

pub run_fair : (modes : ℕ → ℕ) (missed : Bool) (n : ℕ) (b : Book) (w : ℕ) → w ≤ length b → Fair b (run modes missed n b w).events
unfolding run
run_fair modes missed zero b w h = nothing
run_fair modes missed (suc n) b zero h = nothing
run_fair modes missed (suc n) b (suc k) h =
    let es = happens modes missed b (suc k) in
    fair_append (step_fair b (suc k) _ (step_is modes missed b (suc k)))
    (fair_alike b (play b es) (λ j. play_terms j es b (happens_fits modes missed b (suc k) (first_in b k h)))
    (run_fair modes false n (play b es) (work_after missed b (suc k)) (next_in modes missed b k h)))

-- ---- bought is sold
both_sides_lem : (x y : Bool) (q m n : ℕ) → cond x (not y) y ≡ true → m ≡ n → cond y q 0 + (cond x q 0 + m) ≡ cond y 0 q + (cond x 0 q + n)
both_sides_lem true true q m n o e = absurd (not_opposite true o)
both_sides_lem true false q m n o e = omega arith
both_sides_lem false true q m n o e = omega arith
both_sides_lem false false q m n o e = absurd (not_opposite false o)

neither : (x : Bool) (q m n : ℕ) → q ≡ 0 → m ≡ n → cond x q 0 + m ≡ cond x 0 q + n
neither true q m n z e = omega arith
neither false q m n z e = omega arith

pub fair_balanced : (b : Book) {es : List Event} → Fair b es → bought b es ≡ sold b es
unfolding bought sold
fair_balanced b nothing = refl
fair_balanced b (other {e = e} z x) = neither (is_buy (at b (who e))) _ _ _ z (fair_balanced b x)
fair_balanced b (pair {r = r} {w = w} {q = q} o s x) = both_sides_lem (is_buy (at b w)) (is_buy (at b r)) q _ _ o (fair_balanced b x)

-- ---- no MPID trades with itself
owners_differ : (o r : Order) → same_owner o r ≡ false → o.mpid ≡ r.mpid → o.mpid ≡ 0
unfolding same_owner
owners_differ o r e q =
    split (ltb 0 o.mpid)
    (λ t. absurd (not_both (simp (t, eq-eqb o.mpid r.mpid q)) e))
    (λ t. omega (arith, ltb-false))

pub fair_owners : (b : Book) {es : List Event} → Fair b es → SelfTradeFree b es
fair_owners b nothing = self_trade_free
fair_owners b (other z x) = quiet z (fair_owners b x)
fair_owners b (pair o s x) = apart (λ q. q ∙ owners_differ _ _ s (sym q)) (apart (owners_differ _ _ s) (fair_owners b x))
