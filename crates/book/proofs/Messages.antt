-- A line as a message: the characters in turn; and a line longer than any message, which changes nothing whatever it says.
use mathlib.Core.Path.{◌≡◌, refl, sym, ap, ◌∙◌}
use mathlib.Core.Bool.{not}
use mathlib.Core.List.{List, [], ◌∷◌, ◌++◌, append-nil, append_assoc}
use Prim.Native.Nat.{ℕ, suc, ◌+◌, ◌≤◌, ◌<◌, zero-le}
use native.Mathlib.Numerals.{add-one}
use native.Mathlib.Omega.{arith}
use lib.Dec.{eqb, ltb}
use lib.ListN.{length, take, drop, get_or, set, length-set}
use lib.Seq.{drop-cons, take_all, drop-length, take-suc-set, drop-set-lt}
use borrow.Author.Tests.{eq-eqb, ne_eqb, le-leb, lt-leb}
use Rattle.octets.proofs.Bools.{split}
use Rattle.fix.specs.Garbled.{garbled_message}
use Rattle.request.specs.declared.Asked.TheVariants.{Garbled}
use Rattle.request.specs.Asks.{asked_of}
use Rattle.decimal.specs.declared.Instrument.{Instrument}
use Rattle.table.specs.Heading.{instrument_of, venue_of, port_of, next_of, work_of}
use Rattle.table.specs.Market.{is_market_of}
use Rattle.octets.proofs.Places.{length_put}
use Rattle.calls.specs.Told.{joined, area_after, room_asked}
use Rattle.calls.specs.Submit.{submitted}
use Rattle.calls.specs.Run.{ran}
use Rattle.book.specs.Book.{byte_for, message_of, area_bytes, steps_allowed, line_taken}

-- ---- a character

pub byte_soh : (c : ℕ) → c ≡ 124 → 1 ≡ byte_for c
byte_soh c e = rw (eq-eqb c 124 e)

pub byte_same : (c : ℕ) → (c ≡ 124 → ⊥) → c ≡ byte_for c
byte_same c d = rw (ne_eqb c 124 d)

-- ---- the characters in turn: i are done, and doing the rest gives the message

pub record Changed (line₀ line : List ℕ) (i : ℕ) : Type 0 where
  pub within : i ≤ length line
  pub kept : length line ≡ length line₀
  pub end : take i line ++ message_of (drop i line) ≡ message_of line₀

pub changed_none : (line : List ℕ) → Changed line line 0
changed_none line = record { within = zero-le; kept = refl; end = refl }

pub changed_one : {line₀ line : List ℕ} {i v : ℕ} → Changed line₀ line i → i < length line → v ≡ byte_for (get_or line i 0)
    → Changed line₀ (set line i v) (i + 1)
unfolding message_of
changed_one {line₀} {line} {i} {v} p h e =
    record {
      within = rw (length-set line i v) (omega arith);
      kept = length-set line i v ∙ p.kept;
      end =
          rw (add-one i, take-suc-set line i v h, drop-set-lt (suc i) line i v (omega arith), append_assoc, e)
          (rw (drop-cons line i 0 h) at p.end);
    }

pub changed_all : {line₀ line : List ℕ} {i : ℕ} → Changed line₀ line i → length line ≤ i → line ≡ message_of line₀
unfolding message_of
changed_all {line₀} {line} {i} p h =
    let e : i ≡ length line = omega (arith, p.within) in
    sym (append-nil line) ∙ rw (e, take_all (length line) line (omega arith), drop-length line) at p.end

pub length_message : (line : List ℕ) → length (message_of line) ≡ length line
unfolding message_of
length_message [] = refl
length_message (c ∷ s) = ap suc (length_message s)

-- ---- too long for a message

asked_long : (q : Instrument) (venue port m : List ℕ) → 1024 < length m → asked_of q venue port m ≡ Garbled
unfolding asked_of garbled_message
asked_long q venue port m h = rw (le-leb 1 (length m) (omega arith), lt-leb (length m) 1024 h)

submitted_long : (q : Instrument) (t m : List ℕ) (room : ℕ) → 1024 < length m → (submitted q t m room).table ≡ t
unfolding submitted
submitted_long q t m room h =
    split (ltb room room_asked) (λ a. rw a)
    (λ a. split (not (is_market_of q t)) (λ b. rw (a, b))
    (λ b. split (not (eqb (work_of t) 0)) (λ c. rw (a, b, c))
    (λ c. split (ltb 999998976 (next_of t)) (λ d. rw (a, b, c, d))
    (λ d. rw (a, b, c, d, asked_long (instrument_of t) (venue_of t) (port_of t) m h)))))

pub taken_long : (q : Instrument) (t l k : List ℕ) → 1024 < length l → 1024 < length k → line_taken q t l ≡ line_taken q t k
unfolding line_taken
taken_long q t l k h i =
    ap (λ (x : List ℕ). (ran q x area_bytes steps_allowed).table)
    (submitted_long q t (message_of l) area_bytes (omega (arith, h, length_message l))
    ∙ sym (submitted_long q t (message_of k) area_bytes (omega (arith, i, length_message k))))

-- ---- a line is taken: submitted, then run

module _ (q : Instrument) (t line area line₂ t₂ area₂ : List ℕ) (e : line₂ ≡ message_of line) (h : length area ≡ area_bytes)
    (p : t₂ ≡ (submitted q t line₂ (length area)).table) (o : area₂ ≡ area_after area (submitted q t line₂ (length area)).reports) where
  area_kept : length area₂ ≡ area_bytes
  area_kept = ap length o ∙ length_put area 0 (joined (submitted q t line₂ (length area)).reports) ∙ h

  pub line_table : {t₃ : List ℕ} → t₃ ≡ (ran q t₂ (length area₂) steps_allowed).table → t₃ ≡ line_taken q t line
  unfolding line_taken
  line_table r = r ∙ rw (area_kept, p, h, e)

  pub line_area : {area₃ : List ℕ} → area₃ ≡ area_after area₂ (ran q t₂ (length area₂) steps_allowed).reports → length area₃ ≡ area_bytes
  line_area r = ap length r ∙ length_put area₂ 0 (joined (ran q t₂ (length area₂) steps_allowed).reports) ∙ area_kept
