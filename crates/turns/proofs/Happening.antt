-- Events that happen and are told: one, one after another, and those of every outcome.
use mathlib.Core.Path.{◌≡◌, refl, ap, ◌∙◌}
use mathlib.Core.Bool.{false}
use mathlib.Core.List.{List, [], ◌∷◌, ◌++◌, append-nil}
use Prim.Native.Nat.{ℕ, ◌+◌, ◌-◌, ◌*◌, ◌≤◌, ◌<◌}
use native.Mathlib.Omega.{arith}
use lib.ListN.{length, get_or, length-append, take, drop, length-take, length-drop}
use borrow.Author.Tests.{eq-eqb, ne_eqb, lt-ltb, le-ltb}
use mir.Syntax.{w64}
use mir.Val.{Fits}
use Rattle.octets.specs.Written.{Wrote}
use Rattle.octets.proofs.Runs.{then, wrote_length, wrote_none, wrote_rest}
use Rattle.matching.specs.declared.Event.{Event}
use Rattle.matching.specs.declared.Event.TheVariants.{Canceled, Decremented, Traded, Killed, Expired}
use Rattle.matching.specs.declared.Prevention.{Prevention}
use Rattle.matching.specs.declared.Prevention.TheVariants.{CancelNewest, CancelOldest, Decrement}
use Rattle.matching.specs.declared.Outcome.{Outcome}
use Rattle.matching.specs.declared.Outcome.TheVariants.{Trade, Prevented, Expires, Rests, Kills}
use Rattle.matching.specs.Matching.{preventing, causes}
use Rattle.table.specs.Orders.{applied}
use Rattle.table.specs.Changes.{played}
use Rattle.ticket.specs.declared.Cause.{Cause}
use Rattle.ticket.specs.Tickets.{ticket_of, kept_cause}
use Rattle.ticket.specs.Legible.{Legible}
use Rattle.ticket.proofs.Short.{ticket_short}
use Rattle.calls.specs.Told.{joined}
use Rattle.calls.specs.Run.{event_report, event_reports}
use Rattle.turns.specs.declared.events.Told.{Told}
use Rattle.turns.specs.Turns.{Telling, Tellings, Reported}

-- ---- one event

-- its cause: the 52 in the heading, as long as its length byte says
pub kept_is : (t : List ℕ) (k : ℕ) → k ≡ get_or t 33 0
    → record { time = record { sent = false; start = 34; length = k }; orig = record { sent = false; start = 0; length = 0 } } ≡ kept_cause t
kept_is t k e = rw e

module _ (t u : List ℕ) (n : ℕ) (c : Cause) (e : Event) (p : Telling t n e) (x : u ≡ applied t e) (y : c ≡ kept_cause u) where
  -- its report can be written
  pub one_legible : Legible u [] n c e
  one_legible = rw (y, x) p.legible

  -- and once it is, the event is told
  pub one_told : (out area : List ℕ) (b : ℕ) → Wrote out 0 (ticket_of u [] n c e) b area
      → Reported t out n (e ∷ []) (record { bytes = b; reports = 1 }) u area
  unfolding played event_reports event_report joined
  one_told out area b w = record { table = x; bytes_in = rw (append-nil, ← x, ← y) w; count = refl }

-- ---- reports are short

pub report_short : (t : List ℕ) (n : ℕ) (e : Event) → Telling t n e → length (event_report (applied t e) n e) ≤ 512
unfolding event_report
report_short t n e p = ticket_short (applied t e) [] n (kept_cause (applied t e)) e p.legible

pub reports_short : (es : List Event) (t : List ℕ) (n : ℕ) → Tellings t n es → length (joined (event_reports t n es)) ≤ 512 * length es
unfolding joined event_reports
reports_short [] t n p = omega arith
reports_short (e ∷ es) t n p =
    omega (
      arith,
      length-append (event_report (applied t e) n e) (joined (event_reports (applied t e) (n + 1) es)),
      report_short t n e p.0,
      reports_short es (applied t e) (n + 1) p.1,
    )

-- ---- one event and then another

module _ (t out : List ℕ) (n : ℕ) (e f : Event) (p : Tellings t n (e ∷ f ∷ [])) (room : 1024 ≤ length out) (r : Told) (u area : List ℕ)
    (x : Reported t out n (e ∷ []) r u area) where
  -- the first is short, and there is room behind it
  first_short : r.bytes ≤ 512
  first_short = omega (arith, x.bytes_in.place, reports_short (e ∷ []) t n (p.0, tt))

  pub first_within : r.bytes ≤ length area
  first_within = omega (arith, first_short, wrote_length x.bytes_in)

  pub rest_room : 512 ≤ length (take (length area - r.bytes) (drop r.bytes area))
  rest_room = simp (length-take, length-drop) (omega (arith, first_short, wrote_length x.bytes_in))

  -- the second can be told of
  pub second_telling : Telling u (n + 1) f
  unfolding played
  second_telling = rw x.table p.1.0

  module _ (s : Told) (v part : List ℕ) (y : Reported u (take (length area - r.bytes) (drop r.bytes area)) (n + 1) (f ∷ []) s v part) where
    pub both_fit : Fits w64 (r.bytes + s.bytes)
    both_fit = record { fits = omega (arith, first_short, y.bytes_in.place, reports_short (f ∷ []) u (n + 1) (second_telling, tt)) }

    -- both are told
    pub two_told : Reported t out n (e ∷ f ∷ []) (record { bytes = r.bytes + s.bytes; reports = 2 }) v
        (take r.bytes area ++ (part ++ drop (length area - r.bytes) (drop r.bytes area)))
    unfolding played event_reports joined
    two_told =
        let w = then x.bytes_in (wrote_rest area r.bytes first_within y.bytes_in) in
        record {
          table = y.table ∙ ap (λ (a : List ℕ). applied a f) x.table;
          bytes_in = rw (append-nil, x.table) at w;
          count = refl;
        }

-- ---- what prevention does

module _ (t : List ℕ) (n w r : ℕ) where
  module _ (a b : ℕ) (p : Tellings t n (preventing w r (Decrement a b))) where
    pub equal_tells : a ≡ b → Tellings t n (Canceled r b ∷ Canceled w a ∷ [])
    unfolding preventing
    equal_tells h = rw (eq-eqb a b h) at p

    pub less_tells : (a ≡ b → ⊥) → a < b → Tellings t n (Canceled w a ∷ Decremented r a ∷ [])
    unfolding preventing
    less_tells d h = rw (ne_eqb a b d, lt-ltb a b h) at p

    pub more_tells : (a ≡ b → ⊥) → b ≤ a → Tellings t n (Canceled r b ∷ Decremented w b ∷ [])
    unfolding preventing
    more_tells d h = rw (ne_eqb a b d, le-ltb a b h) at p

  module _ (out : List ℕ) (x : Told) (u area : List ℕ) (a b : ℕ) where
    pub equal_told : a ≡ b → Reported t out n (Canceled r b ∷ Canceled w a ∷ []) x u area → Reported t out n (preventing w r (Decrement a b)) x u area
    unfolding preventing
    equal_told h p = rw (eq-eqb a b h) p

    pub less_told : (a ≡ b → ⊥) → a < b → Reported t out n (Canceled w a ∷ Decremented r a ∷ []) x u area
        → Reported t out n (preventing w r (Decrement a b)) x u area
    unfolding preventing
    less_told d h p = rw (ne_eqb a b d, lt-ltb a b h) p

    pub more_told : (a ≡ b → ⊥) → b ≤ a → Reported t out n (Canceled r b ∷ Decremented w b ∷ []) x u area
        → Reported t out n (preventing w r (Decrement a b)) x u area
    unfolding preventing
    more_told d h p = rw (ne_eqb a b d, le-ltb a b h) p

  module _ (p : Prevention) (y : Tellings t n (preventing w r p)) where
    pub newest_tells : {q : ℕ} → p ≡ CancelNewest q → Telling t n (Canceled w q)
    unfolding preventing
    newest_tells h = (rw h at y).0

    pub oldest_tells : {q : ℕ} → p ≡ CancelOldest q → Telling t n (Canceled r q)
    unfolding preventing
    oldest_tells h = (rw h at y).0

    pub decrement_tells : {a b : ℕ} → p ≡ Decrement a b → Tellings t n (preventing w r (Decrement a b))
    decrement_tells h = rw h at y

  module _ (out : List ℕ) (x : Told) (u area : List ℕ) (p : Prevention) where
    pub newest_told : {q : ℕ} → p ≡ CancelNewest q → Reported t out n (Canceled w q ∷ []) x u area → Reported t out n (preventing w r p) x u area
    unfolding preventing
    newest_told h y = rw h y

    pub oldest_told : {q : ℕ} → p ≡ CancelOldest q → Reported t out n (Canceled r q ∷ []) x u area → Reported t out n (preventing w r p) x u area
    unfolding preventing
    oldest_told h y = rw h y

    pub decrement_told : {a b : ℕ} → p ≡ Decrement a b → Reported t out n (preventing w r (Decrement a b)) x u area
        → Reported t out n (preventing w r p) x u area
    decrement_told h y = rw h y

-- ---- what an outcome causes

module _ (t : List ℕ) (n w r : ℕ) (o : Outcome) where
  module _ (y : Tellings t n (causes w r o)) where
    pub trade_tells : {q l : ℕ} → o ≡ Trade q l → Tellings t n (Traded r w q l ∷ Traded w r q l ∷ [])
    unfolding causes
    trade_tells h = rw h at y

    pub prevented_tells : {p : Prevention} → o ≡ Prevented p → Tellings t n (preventing w r p)
    unfolding causes
    prevented_tells h = rw h at y

    pub kills_tells : {q : ℕ} → o ≡ Kills q → Telling t n (Killed w q)
    unfolding causes
    kills_tells h = (rw h at y).0

    pub expires_tells : {q : ℕ} → o ≡ Expires q → Telling t n (Expired w q)
    unfolding causes
    expires_tells h = (rw h at y).0

  module _ (out : List ℕ) (x : Told) (u area : List ℕ) where
    pub trade_told : {q l : ℕ} → o ≡ Trade q l → Reported t out n (Traded r w q l ∷ Traded w r q l ∷ []) x u area
        → Reported t out n (causes w r o) x u area
    unfolding causes
    trade_told h y = rw h y

    pub prevented_told : {p : Prevention} → o ≡ Prevented p → Reported t out n (preventing w r p) x u area → Reported t out n (causes w r o) x u area
    unfolding causes
    prevented_told h y = rw h y

    pub kills_told : {q : ℕ} → o ≡ Kills q → Reported t out n (Killed w q ∷ []) x u area → Reported t out n (causes w r o) x u area
    unfolding causes
    kills_told h y = rw h y

    pub expires_told : {q : ℕ} → o ≡ Expires q → Reported t out n (Expired w q ∷ []) x u area → Reported t out n (causes w r o) x u area
    unfolding causes
    expires_told h y = rw h y

  pub rests_told : (out : List ℕ) → o ≡ Rests → Reported t out n (causes w r o) (record { bytes = 0; reports = 0 }) t out
  unfolding causes played event_reports joined
  rests_told out h = rw h (record { table = refl; bytes_in = wrote_none out 0; count = refl })
