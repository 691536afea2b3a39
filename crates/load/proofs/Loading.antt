-- The messages of a buffer, one after another: each case of their definition, and what they keep.
use mathlib.Core.Path.{◌≡◌, refl, sym, ap, ◌∙◌}
use mathlib.Core.Bool.{Bool, true, false}
use mathlib.Core.List.{List}
use Prim.Native.Nat.{ℕ, ◌+◌, ◌-◌, ◌≤◌, ◌<◌}
use native.Mathlib.Omega.{arith}
use lib.Dec.{eqb, ltb}
use lib.ListN.{length, length-append, take, drop, length-drop}
use borrow.Author.Tests.{eq-eqb, ne_eqb, eqb-true, eqb-false, lt-ltb, le-ltb, ltb-true, ltb-false}
use Rattle.octets.proofs.Bools.{split, not_both}
use Rattle.decimal.specs.declared.Instrument.{Instrument}
use Rattle.table.specs.Heading.{next_of, work_of}
use Rattle.table.specs.Market.{is_market_of}
use Rattle.calls.specs.Told.{joined, room_asked}
use Rattle.intake.specs.Intake.{Ready}
use Rattle.calls.specs.Submit.{Submitted, submit_number}
use Rattle.turns.proofs.Joins.{joined_append}
use Rattle.load.specs.declared.Stop.{Stop}
use Rattle.load.specs.declared.Stop.TheVariants as stop
use Rattle.load.specs.Buffer.{starts_message, length_said, Lying, End, Unreadable, Then, lying_in}
use Rattle.load.specs.Load.{taken, halted, broken, one_more, loads}
use Rattle.load.specs.Resumes.{left_in}
use Rattle.std.specs.Prelude.{Option, Some, None, Result, Ok, Err, is_ok}
use Rattle.load.specs.Turn.{length_found, Idle, next_for}
use Rattle.load.proofs.Finding.{found_none, found_starts, found_said, lying_then, lying_not, lying_end}
use Rattle.load.proofs.Taking.{taken_number, submit_spent, taken_kept, taken_next, taken_fits}

-- the four cases at once
pub data Thens (kind : Instrument) (t message : List ℕ) (rest : Lying) (room : ℕ) : Type 0 where
  full : room < 1024 → loads kind t (Then message rest) room ≡ halted stop.Full t → Thens kind t message rest room
  spent : 1024 ≤ room → (taken kind t message room).number ≡ 4 → loads kind t (Then message rest) room ≡ halted stop.Spent t → Thens kind t message rest room
  more : 1024 ≤ room → eqb (taken kind t message room).number 4 ≡ false → work_of (taken kind t message room).table ≡ 0
      → loads kind t (Then message rest) room
      ≡ one_more message (taken kind t message room).reports (loads kind (taken kind t message room).table rest (room - length (joined (taken kind t message room).reports)))
      → Thens kind t message rest room
  inside : 1024 ≤ room → eqb (taken kind t message room).number 4 ≡ false → (work_of (taken kind t message room).table ≡ 0 → ⊥)
      → loads kind t (Then message rest) room ≡ broken message (taken kind t message room) → Thens kind t message rest room

-- the message in work, in number
pub left_idle : (t : List ℕ) → work_of t ≡ 0 → left_in t ≡ 0
unfolding left_in
left_idle t e = rw (eq-eqb (work_of t) 0 e)

pub left_busy : (t : List ℕ) → (work_of t ≡ 0 → ⊥) → left_in t ≡ 1
unfolding left_in
left_busy t e = rw (ne_eqb (work_of t) 0 e)

module _ (kind : Instrument) where
  -- ---- a message at the front, case by case

  module _ (t message : List ℕ) (rest : Lying) (room : ℕ) where
    pub then_full : room < 1024 → loads kind t (Then message rest) room ≡ halted stop.Full t
    unfolding loads
    then_full l = rw (lt-ltb room 1024 l)

    module _ (l : 1024 ≤ room) where
      pub then_spent : (taken kind t message room).number ≡ 4 → loads kind t (Then message rest) room ≡ halted stop.Spent t
      unfolding loads
      then_spent e = rw (le-ltb room 1024 l, eq-eqb (taken kind t message room).number 4 e)

      module _ (n : eqb (taken kind t message room).number 4 ≡ false) where
        pub then_more : work_of (taken kind t message room).table ≡ 0
            → loads kind t (Then message rest) room
            ≡ one_more message (taken kind t message room).reports (loads kind (taken kind t message room).table rest (room - length (joined (taken kind t message room).reports)))
        unfolding loads
        then_more e = rw (le-ltb room 1024 l, n, eq-eqb (work_of (taken kind t message room).table) 0 e)

        pub then_broken : (work_of (taken kind t message room).table ≡ 0 → ⊥) → loads kind t (Then message rest) room ≡ broken message (taken kind t message room)
        unfolding loads
        then_broken e = rw (le-ltb room 1024 l, n, ne_eqb (work_of (taken kind t message room).table) 0 e)

  pub thens : (t message : List ℕ) (rest : Lying) (room : ℕ) → Thens kind t message rest room
  thens t message rest room =
      split (ltb room 1024)
      (λ x. let l = ltb-true room 1024 x in full l (then_full t message rest room l))
      (λ x.
      let l = ltb-false room 1024 x in
      split (eqb (taken kind t message room).number 4)
      (λ n. let e = eqb-true (taken kind t message room).number 4 n in spent l e (then_spent t message rest room l e))
      (λ n.
      split (eqb (work_of (taken kind t message room).table) 0)
      (λ w. let e = eqb-true (work_of (taken kind t message room).table) 0 w in more l n e (then_more t message rest room l n e))
      (λ w. let e = eqb-false (work_of (taken kind t message room).table) 0 w in inside l n e (then_broken t message rest room l n e))))

  -- ---- what is kept

  pub loads_kept : (l : Lying) (t : List ℕ) (room : ℕ) → is_market_of kind t ≡ true → is_market_of kind (loads kind t l room).table ≡ true
  unfolding loads
  loads_kept End t room m = m
  loads_kept Unreadable t room m = split (ltb room room_asked) (λ e. rw e m) (λ e. rw e m)
  loads_kept (Then message rest) t room m = by (λ u r q. loads_kept rest u r q) (thens t message rest room)
    where
      by : ((u : List ℕ) (r : ℕ) → is_market_of kind u ≡ true → is_market_of kind (loads kind u rest r).table ≡ true)
          → Thens kind t message rest room → is_market_of kind (loads kind t (Then message rest) room).table ≡ true
      by go (full r e) = rw e m
      by go (spent r n e) = rw e m
      by go (more r n w e) = rw e (go (taken kind t message room).table (room - length (joined (taken kind t message room).reports)) (taken_kept kind t message room m))
      by go (inside r n w e) = rw e (taken_kept kind t message room m)

  -- every report takes a number
  pub loads_next : (l : Lying) (t : List ℕ) (room : ℕ) → is_market_of kind t ≡ true → next_of (loads kind t l room).table ≡ next_of t + length (loads kind t l room).reports
  unfolding loads
  loads_next End t room m = omega arith
  loads_next Unreadable t room m = split (ltb room room_asked) (λ e. rw e (omega arith)) (λ e. rw e (omega arith))
  loads_next (Then message rest) t room m = by (λ u r q. loads_next rest u r q) (thens t message rest room)
    where
      by : ((u : List ℕ) (r : ℕ) → is_market_of kind u ≡ true → next_of (loads kind u rest r).table ≡ next_of u + length (loads kind u rest r).reports)
          → Thens kind t message rest room → next_of (loads kind t (Then message rest) room).table ≡ next_of t + length (loads kind t (Then message rest) room).reports
      by go (full r e) = rw e (omega arith)
      by go (spent r n e) = rw e (omega arith)
      by go (more r n w e) =
          let k = taken kind t message room in
          let left : ℕ = room - length (joined k.reports) in
          rw e
          (omega (
            arith,
            go k.table left (taken_kept kind t message room m),
            taken_next kind t message room m,
            length-append k.reports (loads kind k.table rest left).reports,
          ))
      by go (inside r n w e) = rw e (taken_next kind t message room m)

  -- all reports fit the room
  pub loads_fits : (l : Lying) (t : List ℕ) (room : ℕ) → length (joined (loads kind t l room).reports) ≤ room
  unfolding loads joined
  loads_fits End t room = omega arith
  loads_fits Unreadable t room = split (ltb room room_asked) (λ e. rw e (omega arith)) (λ e. rw e (omega arith))
  loads_fits (Then message rest) t room = by (λ u r. loads_fits rest u r) (thens t message rest room)
    where
      by : ((u : List ℕ) (r : ℕ) → length (joined (loads kind u rest r).reports) ≤ r)
          → Thens kind t message rest room → length (joined (loads kind t (Then message rest) room).reports) ≤ room
      by go (full r e) = rw e (omega arith)
      by go (spent r n e) = rw e (omega arith)
      by go (more r n w e) =
          let k = taken kind t message room in
          let left : ℕ = room - length (joined k.reports) in
          let qs = (loads kind k.table rest left).reports in
          rw (e, joined_append k.reports qs)
          (omega (arith, go k.table left, taken_fits kind t message room r, length-append (joined k.reports) (joined qs)))
      by go (inside r n w e) = rw e (taken_fits kind t message room r)

-- ---- what is to be done next

-- the five cases at once
pub data Nexts (t s : List ℕ) (free : ℕ) : Type 0 where
  at_end : length s ≡ 0 → next_for t s free ≡ Err stop.Done → Nexts t s free
  at_narrow : 0 < length s → free < 1024 → next_for t s free ≡ Err stop.Full → Nexts t s free
  at_unread : 0 < length s → 1024 ≤ free → starts_message s ≡ false → next_for t s free ≡ Err stop.Unread → Nexts t s free
  at_spent : 1024 ≤ free → starts_message s ≡ true → 999998976 < next_of t → next_for t s free ≡ Err stop.Spent → Nexts t s free
  at_message : 1024 ≤ free → starts_message s ≡ true → next_of t ≤ 999998976 → next_for t s free ≡ Ok (length_said s) → Nexts t s free

nexts : (t s : List ℕ) (free : ℕ) → Nexts t s free
unfolding next_for
nexts t s free =
    split (eqb (length s) 0) (λ x. at_end (eqb-true (length s) 0 x) (rw x)) (λ x.
    let l : 0 < length s = omega (arith, eqb-false (length s) 0 x) in
    split (ltb free 1024) (λ y. at_narrow l (ltb-true free 1024 y) (rw (x, y))) (λ y.
    let r = ltb-false free 1024 y in
    split (starts_message s)
    (λ f.
    split (ltb 999998976 (next_of t))
    (λ n. at_spent r f (ltb-true 999998976 (next_of t) n) (rw (x, y, f, n)))
    (λ n. at_message r f (ltb-false 999998976 (next_of t) n) (rw (x, y, f, n))))
    (λ f. at_unread l r f (rw (x, y, f)))))

-- the code: one return a test
module _ (t buffer : List ℕ) (place free : ℕ) (h : place ≤ length buffer) where
  abbrev rest : List ℕ
  rest = drop place buffer

  pub next_done : place ≡ length buffer → Err stop.Done ≡ next_for t (drop place buffer) free
  unfolding next_for
  next_done e = let z : length rest ≡ 0 = length-drop place buffer ∙ omega arith in rw (eq-eqb (length rest) 0 z)

  module _ (g : place ≡ length buffer → ⊥) where
    some : eqb (length rest) 0 ≡ false
    some = ne_eqb (length rest) 0 (λ e. let z = sym (length-drop place buffer) ∙ e in g (omega arith))

    pub next_full : free < 1024 → Err stop.Full ≡ next_for t (drop place buffer) free
    unfolding next_for
    next_full l = rw (some, lt-ltb free 1024 l)

    module _ (l : 1024 ≤ free) (x : Option ℕ) (e : x ≡ length_found (drop place buffer)) where
      pub next_unread : x ≡ None → Err stop.Unread ≡ next_for t (drop place buffer) free
      unfolding next_for
      next_unread z = rw (some, le-ltb free 1024 l, found_none rest x e z)

      module _ (n : ℕ) (z : x ≡ Some n) (k : ℕ) (p : k ≡ next_of t) where
        pub next_spent : 999998976 < k → Err stop.Spent ≡ next_for t (drop place buffer) free
        unfolding next_for
        next_spent s = rw (some, le-ltb free 1024 l, found_starts rest x e n z, ← p, lt-ltb 999998976 k s)

        pub next_takes : k ≤ 999998976 → Ok n ≡ next_for t (drop place buffer) free
        unfolding next_for
        next_takes s = rw (some, le-ltb free 1024 l, found_starts rest x e n z, ← p, le-ltb 999998976 k s, found_said rest x e n z)

-- ---- and what that comes to, on a market with nothing in work

-- the message that s starts with can be taken by t, with so many bytes free, and has the length n
pub record Takes (kind : Instrument) (t s : List ℕ) (free n : ℕ) : Type 0 where
  pub ready : Ready kind t
  pub room : 1024 ≤ free
  pub starts : starts_message s ≡ true
  pub long : n ≡ length_said s

abbrev stop_of : Result ℕ Stop → Stop
stop_of (Err why) = why
stop_of (Ok n) = stop.Done

abbrev count_of : Result ℕ Stop → ℕ
count_of (Err why) = 0
count_of (Ok n) = n

module _ (kind : Instrument) (t s : List ℕ) (free : ℕ) (x : Result ℕ Stop) (y : Idle kind t) (e : x ≡ next_for t s free) where
  abbrev front : List ℕ
  front = take (length_said s) s

  abbrev behind : Lying
  behind = lying_in (drop (length_said s) s)

  pub says_stops : (why : Stop) → x ≡ Err why → loads kind t (lying_in s) free ≡ halted why t
  unfolding loads
  says_stops why d = by (nexts t s free)
    where
      is : (z : Result ℕ Stop) → next_for t s free ≡ z → why ≡ stop_of z
      is z f = ap stop_of (sym d ∙ e ∙ f)

      by : Nexts t s free → loads kind t (lying_in s) free ≡ halted why t
      by (at_end l f) = rw (lying_end s l, is (Err stop.Done) f)
      by (at_narrow l r f) =
          rw (is (Err stop.Full) f)
          (split (starts_message s)
          (λ m. rw (lying_then s m) (then_full kind t front behind free r))
          (λ m. rw (lying_not s m l, lt-ltb free 1024 r)))
      by (at_unread l r m f) = rw (is (Err stop.Unread) f, lying_not s m l, le-ltb free 1024 r)
      by (at_spent r m n f) =
          let p = ap (λ (a : Submitted). submit_number a.answer) (submit_spent kind t front free y.market y.idle r n) in
          rw (is (Err stop.Spent) f, lying_then s m) (then_spent kind t front behind free r (taken_number kind t front free ∙ p))
      by (at_message r m n f) = absurd (not_both refl (ap is_ok (sym f ∙ sym e ∙ d)))

  pub says_takes : (n : ℕ) → x ≡ Ok n → Takes kind t s free n
  says_takes n d = by (nexts t s free)
    where
      never : (why : Stop) → next_for t s free ≡ Err why → Takes kind t s free n
      never why f = absurd (not_both refl (ap is_ok (sym d ∙ e ∙ f)))

      by : Nexts t s free → Takes kind t s free n
      by (at_end l f) = never stop.Done f
      by (at_narrow l r f) = never stop.Full f
      by (at_unread l r m f) = never stop.Unread f
      by (at_spent r m w f) = never stop.Spent f
      by (at_message r m w f) =
          record {
            ready = record { market = y.market; idle = y.idle; numbers = w };
            room = r;
            starts = m;
            long = ap count_of (sym d ∙ e ∙ f);
          }
