-- The book stays uncrossed: apart from the order in work at each step, and wholly once the work has ended.
use mathlib.Core.Path.{◌≡◌, refl, sym, ap, ◌∙◌}
use mathlib.Core.Bool.{true, false}
use mathlib.Core.List.{List, [], ◌∷◌}
use mathlib.Core.Logic.{◌≢◌}
use Prim.Native.Nat.{ℕ, ◌<◌}
use native.Mathlib.Omega.{arith}
use lib.ListN.{length}
use lib.Dec.{eqb}
use borrow.Author.Tests.{leb-false, eqb-true, eqb-false, eq-eqb, lt-ltb}
use Rattle.octets.proofs.Bools.{split}
use Rattle.matching.specs.declared.Order.{Order}
use Rattle.matching.specs.declared.Event.{Event}
use Rattle.matching.specs.declared.Event.TheVariants.{Killed}
use Rattle.matching.specs.Matching.{Book, at, open_of, is_buy, meets, faces, partner, play}
use Rattle.matching.specs.Held.{Uncrossed}
use Rattle.matching.specs.Accounts.{tally}
use Rattle.matching.specs.Happens.{Fits}
use Rattle.matching.proofs.Books.{open_low, open_high}
use Rattle.matching.proofs.Events.{Terms, play_terms, play_open}
use Rattle.matching.proofs.Steps.{best_none, Stepped, rests, kills, expires, matched}

-- events that fit only close orders
pub play_uncrossed : (b : Book) (es : List Event) (w : ℕ) → Fits b es → Uncrossed b w → Uncrossed (play b es) w
play_uncrossed b es w p x i j hi hj bi bj oi oj =
    let u = play_terms i es b p in
    let v = play_terms j es b p in
    omega (
      arith,
      ap (λ (t : Terms). t.level) u,
      ap (λ (t : Terms). t.level) v,
      x i j hi hj
          (sym (ap (λ (t : Terms). eqb t.side 1) u) ∙ bi) (sym (ap (λ (t : Terms). eqb t.side 1) v) ∙ bj)
          (omega (arith, play_open i es b p)) (omega (arith, play_open j es b p)),
    )

-- an order that o does not meet: a sell lies below a buy, a buy above a sell
below : (o r : Order) → faces o r ≡ false → is_buy o ≡ true → is_buy r ≡ false → 0 < open_of r → r.level < o.level
unfolding faces meets
below o r e bo br h = leb-false _ _ (simp (lt-ltb 0 (open_of r) h, bo, br) at e)

above : (o r : Order) → faces o r ≡ false → is_buy o ≡ false → is_buy r ≡ true → 0 < open_of r → o.level < r.level
unfolding faces meets
above o r e bo br h = leb-false _ _ (simp (lt-ltb 0 (open_of r) h, bo, br) at e)

-- one that is matched with none meets no open order
pub none_faces : (b : Book) (w k : ℕ) → partner b w ≡ 0 → 0 < open_of (at b w) → 0 < open_of (at b k) → faces (at b w) (at b k) ≡ false
unfolding partner
none_faces b w k e ow ok = best_none b (at b w) (length b) (rw (lt-ltb 0 (open_of (at b w)) ow) at e) k (open_low b k ok) (open_high b k ok)

pub ended_uncrossed : (b : Book) (w : ℕ) → partner b w ≡ 0 → Uncrossed b w → Uncrossed b 0
ended_uncrossed b w e x i j hi hj bi bj oi oj =
    split (eqb i w)
    (λ t. let q = eqb-true i w t in rw q (below (at b w) (at b j) (none_faces b w j e (rw q at oi) oj) (rw q at bi) bj oj))
    (λ t. split (eqb j w)
    (λ u. let q = eqb-true j w u in rw q (above (at b w) (at b i) (none_faces b w i e (rw q at oj) oi) (rw q at bj) bi oi))
    (λ u. x i j (eqb-false i w t) (eqb-false j w u) bi bj oi oj))

-- one that is killed is open no more
killed_uncrossed : (b : Book) (w : ℕ) → (p : Fits b (Killed w (open_of (at b w)) ∷ [])) → Uncrossed b w → Uncrossed (play b (Killed w (open_of (at b w)) ∷ [])) 0
unfolding tally
killed_uncrossed b w p x i j hi hj bi bj oi oj =
    let es = Killed w (open_of (at b w)) ∷ [] in
    let shut : open_of (at (play b es) w) ≡ 0 = omega (arith, rw (eq-eqb w w refl) at (play_open w es b p)) in
    let other : (k : ℕ) → 0 < open_of (at (play b es) k) → k ≢ w = λ k o e. omega (arith, shut, rw e at o) in
    play_uncrossed b es w p x i j (other i oi) (other j oj) bi bj oi oj

pub step_uncrossed : (b : Book) (w v : ℕ) {es : List Event} → Fits b es → Uncrossed b w → Stepped b w es v → Uncrossed (play b es) v
step_uncrossed b w v p x (rests z t) = play_uncrossed b _ 0 p (ended_uncrossed b w z x)
step_uncrossed b w v p x (kills h) = killed_uncrossed b w p x
step_uncrossed b w v p x (expires z h) = play_uncrossed b _ 0 p (ended_uncrossed b w z x)
step_uncrossed b w v p x (matched y m) = play_uncrossed b _ w p x
