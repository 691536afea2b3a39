-- The orders of a market keep to its sides and its levels: through every event of a step, through any number of steps, and through a
-- replacement to one of its levels. One law over what the market trades.
use mathlib.Core.Path.{◌≡◌, ap}
use mathlib.Core.Bool.{Bool, true, ◌||◌}
use mathlib.Core.List.{List, [], ◌∷◌}
use mathlib.Core.Logic.{◌≢◌}
use Prim.Native.Nat.{ℕ, suc, ◌+◌, ◌*◌, ◌≤◌, ◌<◌}
use native.Mathlib.Nat.{mul-le-mul_left, add-mul}
use native.Mathlib.Omega.{arith}
use lib.Dec.{eqb, lit≤}
use borrow.Author.Tests.{eqb-true, eqb-false}
use lib.ListN.{length}
use Rattle.octets.proofs.Bools.{split, or_l}
use Rattle.decimal.specs.declared.Instrument.{Instrument}
use Rattle.decimal.specs.declared.Instrument.TheVariants.{Bonds, Equities}
use Rattle.decimal.specs.Instruments.{highest}
use Rattle.matching.specs.declared.Order.{Order}
use Rattle.matching.specs.declared.Event.{Event}
use Rattle.matching.specs.declared.Event.TheVariants.{Accepted, Replaced}
use Rattle.matching.specs.Matching.{Book, at, is_side_of, who, change, after, play, happens, run}
use Rattle.matching.specs.Held.{Sound, In, level_of, Takes}
use Rattle.matching.specs.Accounts.{trades}
use Rattle.matching.specs.Happens.{moves, Fit, Fits}
use Rattle.matching.specs.Quoted.{Quoted, AllQuoted}
use Rattle.matching.proofs.Events.{Terms, change_terms, change_executed, change_sum, after_here, after_there, after_every, length_after, length_play}
use Rattle.matching.proofs.Books.{length_put}
use Rattle.matching.proofs.Conserved.{takes_low, takes_high}
use Rattle.matching.proofs.Requests.{takes_back}
use Rattle.matching.proofs.Steps.{Meeting, trade, newest, oldest, equal, less, more, Stepped, rests, kills, expires, matched, step_is, happens_fits, run_keeps}

-- ---- the sides and the levels

-- a side of either market is a side of equities
pub side_any : (q : Instrument) (s : ℕ) → is_side_of q s ≡ true → is_side_of Equities s ≡ true
unfolding is_side_of
side_any Bonds s h = or_l (eqb s 1 || eqb s 2 || eqb s 5) _ (or_l (eqb s 1 || eqb s 2) _ h)
side_any Equities s h = h

-- the highest level of either market is at least 1, and at most that of a yield
pub highest_low : (q : Instrument) → 1 ≤ highest q
highest_low Bonds = lit≤ tt
highest_low Equities = lit≤ tt

pub highest_most : (q : Instrument) → highest q ≤ 1_999_999_999
highest_most Bonds = lit≤ tt
highest_most Equities = lit≤ tt

-- ---- one order

-- a new one, with nothing executed
pub quoted_new : (q : Instrument) (o : Order) → is_side_of q o.side ≡ true → o.level ≤ highest q → o.sum ≡ 0 → Quoted q o
quoted_new q o s l z = record { side = s; level = l; sum = rw z (omega arith) }

-- a bond order in its ranges needs only its side
pub sound_quoted : (o : Order) → Sound o → is_side_of Bonds o.side ≡ true → Quoted Bonds o
sound_quoted o s h = record { side = h; level = s.level_high; sum = s.sum_high }

-- one event that moves an amount, at a level of the market
pub change_quoted : (q : Instrument) (e : Event) (o : Order) → moves e ≡ true → level_of e ≤ highest q → Quoted q o → Quoted q (change e o)
change_quoted q e o m h s =
    let t = change_terms e o m in
    let side : (change e o).side ≡ o.side = ap (λ (t : Terms). t.side) t in
    let level : (change e o).level ≡ o.level = ap (λ (t : Terms). t.level) t in
    let x = change_executed e o m in
    let y = change_sum e o m in
    record {
      side = rw side s.side;
      level = rw level s.level;
      sum = rw (x, y) (worth o.sum o.executed (trades e) (level_of e) (highest q) s.sum h);
    }
  where
    worth : (sum executed n l top : ℕ) → sum ≤ executed * top → l ≤ top → sum + n * l ≤ (executed + n) * top
    worth sum executed n l top a b = omega (arith, mul-le-mul_left n b, add-mul executed n top)

-- a replacement to a level of the market
pub replaced_quoted : (q : Instrument) (n l x p : ℕ) (o : Order) → l ≤ highest q → Quoted q o → Quoted q (change (Replaced n l x p) o)
unfolding change
replaced_quoted q n l x p o h s = record { side = s.side; level = h; sum = s.sum }

-- ---- events one after another

-- none trades above the highest level
abbrev pub Priced : Instrument → List Event → Type 0
Priced q [] = Unit {0}
Priced q (e ∷ es) = (level_of e ≤ highest q) × Priced q es

pub play_quoted : (q : Instrument) (k : ℕ) (es : List Event) (b : Book) → Fits b es → Priced q es → Quoted q (at b k) → Quoted q (at (play b es) k)
unfolding play
play_quoted q k [] b f v s = s
play_quoted q k (e ∷ es) b f v s =
    play_quoted q k es (after b e) f.1 v.1
    (after_every b e f.0 (Quoted q) k s (change_quoted q e _ f.0.moving v.0))

-- ---- a step, and any number of them

meeting_priced : (q : Instrument) (b : Book) (w r : ℕ) {es : List Event} → Quoted q (at b r) → Meeting b w r es → Priced q es
meeting_priced q b w r s (trade o) = (s.level, (s.level, tt))
meeting_priced q b w r s newest = (omega arith, tt)
meeting_priced q b w r s oldest = (omega arith, tt)
meeting_priced q b w r s (equal h) = (omega arith, (omega arith, tt))
meeting_priced q b w r s (less h) = (omega arith, (omega arith, tt))
meeting_priced q b w r s (more h) = (omega arith, (omega arith, tt))

-- what a step trades is at a level of the market
pub step_priced : (q : Instrument) (b : Book) (w v : ℕ) {es : List Event} → AllQuoted q b → Stepped b w es v → Priced q es
step_priced q b w v s (rests z t) = tt
step_priced q b w v s (kills h) = (omega arith, tt)
step_priced q b w v s (expires z h) = (omega arith, tt)
step_priced q b w v s (matched {r = r} p m) = meeting_priced q b w r (s r p.inside) m

module _ (q : Instrument) (modes : ℕ → ℕ) where
  pub step_quoted : (missed : Bool) (b : Book) (w : ℕ) → In b w → AllQuoted q b → AllQuoted q (play b (happens modes missed b w))
  step_quoted missed b w i s k j =
      let f = happens_fits modes missed b w i in
      play_quoted q k (happens modes missed b w) b f (step_priced q b w _ s (step_is modes missed b w))
      (s k (record { low = j.low; high = rw (length_play _ b f) at j.high }))

  pub run_quoted : (missed : Bool) (n : ℕ) (b : Book) (w : ℕ) → w ≤ length b → AllQuoted q b → AllQuoted q (run modes missed n b w).book
  run_quoted missed n b w h s = run_keeps (λ c v. AllQuoted q c) modes step_quoted missed n b w h s

-- ---- what a message asks for

-- one order is put, and the others were there
put_quoted : (q : Instrument) (b : Book) (e : Event) → 0 < who e → who e ≤ suc (length b) → Quoted q (change e (at b (who e)))
    → ((k : ℕ) → k ≢ who e → In (after b e) k → In b k) → AllQuoted q b → AllQuoted q (after b e)
put_quoted q b e l h x back s k j =
    split (eqb k (who e))
    (λ t. rw (eqb-true k (who e) t, after_here b e l h) x)
    (λ t. let n = eqb-false k (who e) t in rw (after_there b e l h k n) (s k (back k n j)))

-- a new order, under a number that it may take
pub accepted_quoted : (q : Instrument) (b : Book) (n : ℕ) (o : Order) → Takes b n → Quoted q o → AllQuoted q b → AllQuoted q (after b (Accepted n o))
unfolding change after
accepted_quoted q b n o t x s =
    put_quoted q b (Accepted n o) (takes_low b n t) (takes_high b n t) x (takes_back b n o t) s

-- a replacement to a level of the market
length_renewed : (b : Book) (n l x p : ℕ) → In b n → length (after b (Replaced n l x p)) ≡ length b
unfolding after
length_renewed b n l x p i = length_put b n _ i.high

pub renewed_quoted : (q : Instrument) (b : Book) (n l x p : ℕ) → In b n → l ≤ highest q → AllQuoted q b → AllQuoted q (after b (Replaced n l x p))
renewed_quoted q b n l x p i h s =
    put_quoted q b (Replaced n l x p) i.low (omega (arith, i.high)) (replaced_quoted q n l x p (at b n) h (s n i))
    (λ k d j. record { low = j.low; high = rw (length_renewed b n l x p i) at j.high }) s

-- an event that moves an amount, at a level of the market
pub moved_quoted : (q : Instrument) (b : Book) (e : Event) → Fit b e → level_of e ≤ highest q → AllQuoted q b → AllQuoted q (after b e)
moved_quoted q b e f h s k j =
    after_every b e f (Quoted q) k (s k (record { low = j.low; high = rw (length_after b e f) at j.high })) (change_quoted q e _ f.moving h)
