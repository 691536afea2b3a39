-- While Run works, the report of every event of a step is legible: on the table after the event, between the two events of a step
-- too, with the 52 that the heading keeps and the numbers from the next one on.
use Prim.Native.Nat.{ℕ, ◌+◌, ◌≤◌, ◌<◌}
use native.Mathlib.Omega.{arith}
use mathlib.Core.Bool.{Bool, true}
use mathlib.Core.Path.{◌≡◌, ap}
use mathlib.Core.List.{List, [], ◌∷◌}
use lib.Dec.{lit≤}
use lib.ListN.{length}
use Rattle.octets.specs.Octets.{text_at}
use Rattle.octets.proofs.Bools.{both_l}
use Rattle.decimal.specs.Instruments.{highest}
use Rattle.decimal.specs.Reading.{is_time}
use Rattle.matching.specs.declared.Event.{Event}
use Rattle.matching.specs.declared.Event.TheVariants.{Accepted, Replaced, Withdrawn, Canceled, Decremented, Traded, Killed, Expired}
use Rattle.matching.specs.Matching.{Book, at, open_of, who, after, play, happens}
use Rattle.matching.specs.Held.{Sound, In, Ready, level_of}
use Rattle.matching.specs.Happens.{Fit, Fits}
use Rattle.matching.proofs.Events.{Terms, length_after, play_terms}
use Rattle.matching.proofs.Steps.{Meeting, trade, newest, oldest, equal, less, more, Pair, Stepped, rests, kills, expires, matched, step_is, step_fits}
use Rattle.matching.proofs.Sounds.{Worth, Worths, step_worth, play_sound, play_ready}
use Rattle.matching.proofs.Holding.{step_held}
use Rattle.matching.proofs.Quoting.{Priced, play_quoted, step_priced}
use Rattle.table.specs.Heading.{next_of, work_of, stamp_of, instrument_of, mode_of, is_listed}
use Rattle.table.specs.Orders.{filled, book_of, applied}
use Rattle.table.specs.Market.{has_work, is_padded}
use Rattle.table.specs.Facts.{Market}
use Rattle.table.specs.Changes.{misses_now, step_events}
use Rattle.table.proofs.Same.{Same, same_in, work_same}
use Rattle.table.proofs.Books.{length_book}
use Rattle.table.proofs.Frames.{Framed, framed_formed, framed_filled, framed_instrument, framed_listed, framed_order_ids, quoted_book}
use Rattle.table.proofs.Applied.{framed_applied, book_applied, heading_applied}
use Rattle.table.proofs.Working.{work_some, has_work_kept}
use Rattle.rows.specs.Rows.{text}
use Rattle.ticket.specs.Tickets.{kept_cause}
use Rattle.ticket.specs.Legible.{text_by, Details, Legible}
use Rattle.ticket.proofs.Formed.{formed_headed, Orderly, market_orderly, orderly_recorded}

-- ---- a table with an order in work: a market, and what it is after each event of a step

pub record Working (t : List ℕ) : Type 0 where
  pub orderly : Orderly t
  pub work : has_work t ≡ true
  pub some : 1 ≤ work_of t

pub market_working : (t : List ℕ) → Market t → 1 ≤ work_of t → Working t
market_working t m l = record { orderly = market_orderly t m; work = m.work; some = l }

-- ---- what a step trades: with an order of the table, at a level that is not 0; the order in work second

pub record Bargained (size w n i other quantity level : ℕ) : Type 0 where
  pub other_low : 1 ≤ other
  pub other_high : other ≤ size
  pub quantity_high : quantity < 1000000000
  pub level_low : 0 < level
  pub second : i ≡ w → 2 ≤ n

-- no event of a step is asked for by a message
abbrev pub Bargain : ℕ → ℕ → ℕ → Event → Type 0
Bargain size w n (Accepted i o) = ⊥
Bargain size w n (Replaced i l q p) = ⊥
Bargain size w n (Withdrawn i q) = ⊥
Bargain size w n (Canceled i q) = Unit {0}
Bargain size w n (Decremented i q) = Unit {0}
Bargain size w n (Traded i m q l) = Bargained size w n i m q l
Bargain size w n (Killed i q) = Unit {0}
Bargain size w n (Expired i q) = Unit {0}

-- events one after another, numbered from n on
abbrev pub Bargains : ℕ → ℕ → ℕ → List Event → Type 0
Bargains size w n [] = Unit {0}
Bargains size w n (e ∷ es) = Bargain size w n e × Bargains size w (n + 1) es

pub meeting_bargains : (b : Book) (w r n : ℕ) {es : List Event} → Sound (at b w) → Sound (at b r) → In b w → Pair b w r → 1 ≤ n → Meeting b w r es → Bargains (length b) w n es
unfolding open_of
meeting_bargains b w r n s z i p l (trade o) = (
  record {
    other_low = i.low;
    other_high = i.high;
    quantity_high = omega (arith, s.qty_high);
    level_low = z.level_low;
    second = λ e. absurd (p.apart e);
  },
  (
    record {
      other_low = p.inside.low;
      other_high = p.inside.high;
      quantity_high = omega (arith, s.qty_high);
      level_low = z.level_low;
      second = λ e. omega arith;
    },
    tt,
  ),
)
meeting_bargains b w r n s z i p l newest = (tt, tt)
meeting_bargains b w r n s z i p l oldest = (tt, tt)
meeting_bargains b w r n s z i p l (equal h) = (tt, (tt, tt))
meeting_bargains b w r n s z i p l (less h) = (tt, (tt, tt))
meeting_bargains b w r n s z i p l (more h) = (tt, (tt, tt))

pub step_bargains : (b : Book) (w v n : ℕ) {es : List Event} → ((k : ℕ) → In b k → Sound (at b k)) → In b w → 1 ≤ n → Stepped b w es v → Bargains (length b) w n es
step_bargains b w v n s i l (rests z t) = tt
step_bargains b w v n s i l (kills h) = (tt, tt)
step_bargains b w v n s i l (expires z h) = (tt, tt)
step_bargains b w v n s i l (matched {r = r} p m) = meeting_bargains b w r n (s w i) (s r p.inside) i p l m

-- ---- one event

module _ (t : List ℕ) (m : Working t) where
  -- the 52 that the heading keeps
  pub kept_time : is_time (text_by [] t (kept_cause t).time) ≡ true
  unfolding text text_at
  kept_time = both_l (is_time (stamp_of t)) (is_padded 21 t 33) (work_some t m.work (λ e. omega (arith, m.some)))

  details : (n : ℕ) (e : Event) → Bargain (filled t) (work_of t) n e → level_of e ≤ highest (instrument_of t) → Details t [] n (kept_cause t) e
  details n (Accepted i o) h p = tt
  details n (Replaced i l q p) h z = absurd h
  details n (Withdrawn i q) h p = absurd h
  details n (Canceled i q) h p = tt
  details n (Decremented i q) h p = tt
  details n (Traded i o q l) h p =
      let r = orderly_recorded t m.orderly o (record { low = h.other_low; high = omega (arith, h.other_high, length_book t) }) in
      record {
        other_in = r.high;
        other_owner = r.owner;
        quantity_high = h.quantity_high;
        level_low = h.level_low;
        level_high = p;
        second = h.second;
      }
  details n (Killed i q) h p = tt
  details n (Expired i q) h p = tt

  pub working_legible : (n : ℕ) (e : Event) → In (book_of t) (who e) → Bargain (filled t) (work_of t) n e → level_of e ≤ highest (instrument_of t) → 1 ≤ n → n < 1000000000
      → Legible t [] n (kept_cause t) e
  working_legible n e i h p low high =
      record {
        heading = formed_headed t m.orderly.formed [] n (kept_cause t).time low high kept_time;
        order = orderly_recorded t m.orderly (who e) i;
        details = details n e h p;
      }

  -- an event that fits, at a level of the market, leaves such a table
  module _ (e : Event) (f : Fit (book_of t) e) (v : Worth e) (p : level_of e ≤ highest (instrument_of t)) where
    ready : Ready (book_of t) e
    ready = (play_ready (e ∷ []) (book_of t) (f, tt) (v, tt) m.orderly.sound).0

    framed : Framed t (applied t e)
    framed = framed_applied t e m.orderly.formed.long f.moving ready

    heading : Same (applied t e) t 0 128
    heading = heading_applied t e f.inside.low

    pub applied_book : book_of (applied t e) ≡ after (book_of t) e
    applied_book = book_applied t e m.orderly.formed.long f.moving ready

    pub applied_filled : filled (applied t e) ≡ filled t
    applied_filled = framed_filled t (applied t e) m.orderly.formed.long framed

    pub applied_work : work_of (applied t e) ≡ work_of t
    applied_work = work_same (same_in 32 33 heading (lit≤ tt) (lit≤ tt))

    pub applied_instrument : instrument_of (applied t e) ≡ instrument_of t
    applied_instrument = framed_instrument t (applied t e) m.orderly.formed.long framed

    back : (k : ℕ) → In (after (book_of t) e) k → In (book_of t) k
    back k j = record { low = j.low; high = rw (length_after (book_of t) e f) at j.high }

    pub applied_orderly : Orderly (applied t e)
    unfolding play
    applied_orderly =
        record {
          formed = framed_formed t (applied t e) m.orderly.formed.long framed m.orderly.formed;
          order_ids = framed_order_ids t (applied t e) m.orderly.formed.long framed 1000000000 1000000000 (lit≤ tt) m.orderly.order_ids;
          sound = λ k j.
              let i = back k (rw applied_book at j) in
              rw applied_book (play_sound k (e ∷ []) (book_of t) (f, tt) (v, tt) (m.orderly.sound k i));
          quoted = λ k j.
              let i = back k (rw applied_book at j) in
              rw (applied_book, applied_instrument) (play_quoted (instrument_of t) k (e ∷ []) (book_of t) (f, tt) (p, tt) (m.orderly.quoted k i));
          owned = λ k j.
              let i = back k (rw applied_book at j) in
              let x : (at (after (book_of t) e) k).mpid ≡ (at (book_of t) k).mpid = ap (λ (y : Terms). y.mpid) (play_terms k (e ∷ []) (book_of t) (f, tt)) in
              rw (applied_book, x, framed_listed t (applied t e) m.orderly.formed.long framed) (m.orderly.owned k i);
        }

    pub applied_working : Working (applied t e)
    applied_working =
        record {
          orderly = applied_orderly;
          work = has_work_kept t (applied t e) m.orderly.formed.long (same_in 32 55 heading (lit≤ tt) (lit≤ tt)) (omega (arith, applied_filled)) m.work;
          some = omega (arith, applied_work, m.some);
        }

-- ---- events one after another, numbered from n on: each on the table after it

abbrev pub Legibles : List ℕ → ℕ → List Event → Type 0
Legibles t n [] = Unit {0}
Legibles t n (e ∷ es) = Legible (applied t e) [] n (kept_cause (applied t e)) e × Legibles (applied t e) (n + 1) es

pub all_legible : (es : List Event) (t : List ℕ) (n : ℕ) → Working t → Fits (book_of t) es → Worths es → Priced (instrument_of t) es
    → Bargains (filled t) (work_of t) n es → 1 ≤ n → n + length es ≤ 1000000000 → Legibles t n es
all_legible [] t n m f v p h low high = tt
all_legible (e ∷ es) t n m f v p h low high =
    let u = applied_working t m e f.0 v.0 p.0 in
    let b = applied_book t m e f.0 v.0 p.0 in
    let z = applied_filled t m e f.0 v.0 p.0 in
    let w = applied_work t m e f.0 v.0 p.0 in
    let q = applied_instrument t m e f.0 v.0 p.0 in
    let i : In (book_of (applied t e)) (who e) =
    record { low = f.0.inside.low; high = omega (arith, length_book (applied t e), length_book t, f.0.inside.high) } in (
      working_legible (applied t e) u n e i (rw (z, w) h.0) (rw q p.0) low (omega arith),
      all_legible es (applied t e) (n + 1) u (rw b f.1) v.1 (rw q p.1) (rw (z, w) h.1) (omega arith) (omega arith),
    )

-- ---- a step of a market

pub step_legibles : (t : List ℕ) → Market t → 1 ≤ work_of t → Legibles t (next_of t) (step_events t)
unfolding step_events
step_legibles t m l =
    let b : Book = book_of t in
    let w : ℕ = work_of t in
    let i : In b w = record { low = l; high = m.held.work } in
    let missed : Bool = misses_now t in
    let s = step_is (mode_of t) missed b w in
    let h = step_held (is_listed t) (mode_of t) missed (next_of t) b w i m.held in
    all_legible (happens (mode_of t) missed b w) t (next_of t) (market_working t m l) (step_fits b w _ i s) (step_worth b w _ m.held.sound s)
    (step_priced (instrument_of t) b w _ (quoted_book t (instrument_of t) m.quoted) s)
    (rw (length_book t) at (step_bargains b w _ (next_of t) m.held.sound i m.next_low s)) m.next_low h.next_high

-- its first event, and its second
pub step_legible_first : (t : List ℕ) (e : Event) (es : List Event) → Market t → 1 ≤ work_of t → step_events t ≡ e ∷ es
    → Legible (applied t e) [] (next_of t) (kept_cause (applied t e)) e
step_legible_first t e es m l h = let g : Legibles t (next_of t) (e ∷ es) = rw h at (step_legibles t m l) in g.0

pub step_legible_second : (t : List ℕ) (e f : Event) (es : List Event) → Market t → 1 ≤ work_of t → step_events t ≡ e ∷ f ∷ es
    → Legible (applied (applied t e) f) [] (next_of t + 1) (kept_cause (applied (applied t e) f)) f
step_legible_second t e f es m l h = let g : Legibles t (next_of t) (e ∷ f ∷ es) = rw h at (step_legibles t m l) in g.1.0
