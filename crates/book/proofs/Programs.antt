-- The program as a whole: its market is opened, its input is read part by part, and what is printed is what the definition says.
use mathlib.Core.Path.{◌≡◌, refl, sym, ap, ◌∙◌}
use mathlib.Core.Bool.{true, ◌&&◌}
use mathlib.Core.List.{List, [], ◌∷◌, ◌++◌, append-nil}
use Prim.Native.Nat.{ℕ, ◌≤◌, zero-le}
use native.Mathlib.Omega.{arith}
use lib.Dec.{eqb}
use lib.ListN.{length, take, replicate, length-append, length-replicate}
use lib.Seq.{length-take-le}
use borrow.Author.Tests.{eq-eqb}
use Rattle.octets.specs.Octets.{put, text_bytes, bytes_of}
use Rattle.octets.specs.Written.{Wrote}
use Rattle.octets.specs.Tests.{all_up_to}
use Rattle.octets.proofs.Bools.{split, both_l}
use Rattle.octets.proofs.Runs.{wrote_length}
use Rattle.decimal.specs.declared.Instrument.{Instrument}
use Rattle.decimal.specs.declared.Instrument.TheVariants.{Bonds, Equities}
use Rattle.decimal.specs.Reading.{is_digit}
use Rattle.table.specs.Places.{table_bytes}
use Rattle.table.specs.Heading.{work_of, mpid_bytes}
use Rattle.table.specs.Orders.{book_of}
use Rattle.table.specs.Market.{every, is_code_character, is_market_of}
use Rattle.table.specs.Opened.{is_name, is_new, is_given, are_given, are_names, are_settings, named_table, fresh_table, is_opening, opened}
use Rattle.table.proofs.Facts.{market_facts}
use Rattle.table.proofs.Instruments.{of_market, market_instrument}
use Rattle.table.proofs.Theorems.{opening_makes_a_market}
use Rattle.book.specs.Sheet.{heading, side_lines, both_sides, sheet_of}
use Rattle.book.specs.Book.{area_bytes, lines_of, lines_taken, traded, rehearsal, book_printed}
use Rattle.book.specs.Reading.{read_on, line_bytes, Held, Onward, Came, Printed}
use Rattle.book.proofs.Sheets.{heading_short, side_short}
use Rattle.book.proofs.Readings.{onward_then, read_lines}

-- ---- its market

settings_right : (q : Instrument) → are_settings q (86 ∷ []) (80 ∷ []) (traded q) 1 (10 ∷ 11 ∷ 12 ∷ 13 ∷ 14 ∷ []) (1 ∷ 1 ∷ 1 ∷ 1 ∷ 1 ∷ []) ≡ true
unfolding are_settings are_names is_name every is_code_character is_digit are_given is_given is_new all_up_to
settings_right Bonds = refl
settings_right Equities = refl

-- the code of each market
module _ (q : Instrument) (code : List ℕ) where
  pub bond_coded : q ≡ Bonds → code ≡ traded Bonds → code ≡ traded q
  bond_coded e p = rw e p

  pub share_coded : q ≡ Equities → code ≡ traded Equities → code ≡ traded q
  share_coded e p = rw e p

pub rehearsal_opened : (q : Instrument) (t code : List ℕ) → length t ≡ table_bytes → code ≡ traded q → {t₂ : List ℕ}
    → t₂ ≡ opened q t (86 ∷ []) (80 ∷ []) code 1 (10 ∷ 11 ∷ 12 ∷ 13 ∷ 14 ∷ []) (1 ∷ 1 ∷ 1 ∷ 1 ∷ 1 ∷ []) → t₂ ≡ rehearsal q
unfolding opened is_opening rehearsal
rehearsal_opened q t code h e p = p ∙ rw (e, eq-eqb (length t) table_bytes h, settings_right q)

-- it is a market, with nothing in work
pub rehearsal_market : (q : Instrument) → is_market_of q (rehearsal q) ≡ true
unfolding is_opening
rehearsal_market q =
    rw (← rehearsal_opened q (replicate table_bytes 0) (traded q) (length-replicate {A = ℕ} table_bytes 0) refl refl)
    (opening_makes_a_market q (replicate table_bytes 0) (86 ∷ []) (80 ∷ []) (traded q) 1 (10 ∷ 11 ∷ 12 ∷ 13 ∷ 14 ∷ []) (1 ∷ 1 ∷ 1 ∷ 1 ∷ 1 ∷ [])
    (rw (eq-eqb (length (replicate {A = ℕ} table_bytes 0)) table_bytes (length-replicate {A = ℕ} table_bytes 0), settings_right q)))

pub rehearsal_idle : (q : Instrument) → work_of (rehearsal q) ≡ 0
unfolding rehearsal fresh_table named_table put text_bytes bytes_of mpid_bytes
rehearsal_idle Bonds = refl
rehearsal_idle Equities = refl

-- ---- what was read

pub came_none : {q : Instrument} {t line : List ℕ} {held : ℕ} → Held line held → Came q t line held t line held
came_none b = record { input = []; onward = record { buffer = b; same = λ u. refl } }

pub came_part : {q : Instrument} {t line : List ℕ} {held : ℕ} {s t₂ line₂ : List ℕ} {held₂ : ℕ} → Onward q t line held s t₂ line₂ held₂ → Came q t line held t₂ line₂ held₂
came_part {s = s} p = record { input = s; onward = p }

-- so far
pub record Sofar (q : Instrument) (t₀ line₀ t line area : List ℕ) (held : ℕ) : Type 0 where
  pub came : Came q t₀ line₀ 0 t line held
  pub room : length area ≡ area_bytes
  pub table : length t ≡ length t₀
  pub long : length line ≡ length line₀

pub sofar_none : (q : Instrument) (t line area : List ℕ) → length line ≡ line_bytes → length area ≡ area_bytes → Sofar q t line t line area 0
sofar_none q t line area h r =
    record { came = came_none (record { long = h; few = zero-le }); room = r; table = refl; long = refl }

module _ {q : Instrument} {t₀ line₀ t line area : List ℕ} {held : ℕ} (g : Sofar q t₀ line₀ t line area held) where
  pub sofar_held : Held line held
  sofar_held = g.came.onward.buffer

  module _ {t₂ line₂ : List ℕ} {held₂ : ℕ} (c : Came q t line held t₂ line₂ held₂) where
    pub came_then : Came q t₀ line₀ 0 t₂ line₂ held₂
    came_then = record { input = g.came.input ++ c.input; onward = onward_then g.came.onward c.onward }

    pub sofar_more : {area₂ : List ℕ} → length area₂ ≡ area_bytes → length t₂ ≡ length t → length line₂ ≡ length line → Sofar q t₀ line₀ t₂ line₂ area₂ held₂
    sofar_more r k l = record { came = came_then; room = r; table = k ∙ g.table; long = l ∙ g.long }

-- ---- what is printed

sheet_fits : (q : Instrument) (t : List ℕ) → length (sheet_of q t) ≤ 16384
unfolding sheet_of both_sides
sheet_fits q t =
    split (is_market_of q t && eqb (work_of t) 0)
    (λ e.
    let is = both_l _ _ e in
    let m = market_facts t (of_market q t is) in
    let k = market_instrument q t is in
    let b = book_of t in
    rw e
    (omega (
      arith,
      heading_short q,
      length-append (heading q) (side_lines q b 1 ++ side_lines q b 2),
      length-append (side_lines q b 1) (side_lines q b 2),
      side_short q t 1 m k (omega arith),
      side_short q t 2 m k (omega arith),
    )))
    (λ e. rw e (omega (arith, heading_short q)))

module _ {q : Instrument} {t₁ line t₂ line₂ t₃ : List ℕ} {held : ℕ} (o : t₁ ≡ rehearsal q) (c : Came q t₁ line 0 t₂ line₂ held)
    (e : t₃ ≡ read_on q t₂ (take held line₂) []) where
  table_is : t₃ ≡ lines_taken q (rehearsal q) (lines_of c.input)
  table_is =
      e ∙ sym (c.onward.same []) ∙ ap (λ (s : List ℕ). read_on q t₁ [] s) (append-nil c.input) ∙ rw o (read_lines q (rehearsal q) c.input)

  pub printed : {out after : List ℕ} {n : ℕ} → 16384 ≤ length out → Wrote out 0 (sheet_of q t₃) n after → Printed q out n after
  unfolding book_printed
  printed {after = after} {n = n} h w =
      let k : n ≤ length after = omega (arith, h, w.place, wrote_length w, sheet_fits q t₃) in
      record { input = c.input; wrote = rw (← table_is) w; fits = k; front = sym (length-take-le n after k) }
