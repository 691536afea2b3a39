-- The lines of a side, one after another: how long they can be, and what is written after some of them.
use mathlib.Core.Path.{◌≡◌, refl, sym, ◌∙◌}
use mathlib.Core.Bool.{cond}
use mathlib.Core.List.{List, [], ◌∷◌, ◌++◌, append-nil}
use mathlib.Core.Logic.{⊎_elim}
use Prim.Native.Nat.{ℕ, zero, suc, ◌+◌, ◌*◌, ◌≤◌, ◌<◌, zero-le}
use native.Mathlib.Numerals.{add-one}
use native.Mathlib.Omega.{arith}
use lib.Dec.{eqb, lit≤}
use lib.ListN.{length, length-append}
use borrow.Author.Tests.{ne_eqb, eqb-false}
use Rattle.octets.specs.Written.{Room, Wrote}
use Rattle.octets.proofs.Bools.{split}
use Rattle.octets.proofs.Places.{below_or}
use Rattle.octets.proofs.Runs.{then, wrote_none, wrote_length}
use Rattle.decimal.specs.declared.Instrument.{Instrument}
use Rattle.decimal.specs.Instruments.{highest}
use Rattle.decimal.specs.Writing.{decimal, level_text}
use Rattle.decimal.proofs.Digits.{decimal_few}
use Rattle.decimal.proofs.RoundTrip.{level_length}
use Rattle.matching.specs.Matching.{Book, at, count_of}
use Rattle.matching.specs.Depth.{next, level_at, on_level, total, orders, depth}
use Rattle.matching.specs.Held.{In, Sound}
use Rattle.matching.specs.Quoted.{AllQuoted}
use Rattle.matching.proofs.Books.{sum_most}
use Rattle.matching.proofs.Levels.{total_most}
use Rattle.table.specs.Heading.{instrument_of}
use Rattle.table.specs.Orders.{filled, book_of}
use Rattle.table.specs.Facts.{Market}
use Rattle.table.proofs.Same.{filled_few}
use Rattle.table.proofs.Books.{length_book}
use Rattle.table.proofs.Kept.{market_quoted}
use Rattle.market.proofs.LevelLaws.{level_first, level_next, level_none, next_highest}
use Rattle.book.specs.Sheet.{space, line_end, figure, level_line, line_of, lines, side_lines}

-- ---- how long a line can be

figure_short : (k n mark : ℕ) → length (decimal n) ≤ k → length (figure n mark) ≤ k + 1
unfolding figure
figure_short k n mark h = omega (arith, h, length-append (decimal n) (mark ∷ []))

-- side in one digit, a yield or a price in eleven characters, a total in twelve digits, orders in three
pub line_short : (q : Instrument) (side l t n : ℕ) → side < 10 → 0 < l → l ≤ highest q → t < 1_000_000_000_000 → n < 1000
    → length (level_line q side l t n) ≤ 32
unfolding level_line
line_short q side l t n a b c d e =
    let f = figure side space in
    let g = level_text q l in
    let h = figure t space in
    let i = figure n line_end in
    omega (
      arith,
      length-append (f ++ g ++ (space ∷ []) ++ h) i,
      length-append (f ++ g ++ (space ∷ [])) h,
      length-append (f ++ g) (space ∷ []),
      length-append f g,
      figure_short 1 side space (decimal_few 0 side a),
      level_length q l b c,
      figure_short 12 t space (decimal_few 11 t d),
      figure_short 3 n line_end (decimal_few 2 n e),
    )

-- ---- a level of a book whose orders are in their ranges

module _ (q : Instrument) (b : Book) (s : ℕ) (sound : (k : ℕ) → In b k → Sound (at b k)) (quoted : AllQuoted q b) where
  level_high : (k : ℕ) → level_at b s k ≤ highest q
  unfolding level_at
  level_high zero = next_highest q b s quoted 0 (length b) (omega arith)
  level_high (suc k) =
      split (eqb (level_at b s k) 0) (λ t. rw t zero-le) (λ t. rw t (next_highest q b s quoted (level_at b s k) (length b) (omega arith)))

  orders_few : (l : ℕ) → orders b s l ≤ length b
  unfolding orders count_of
  orders_few l =
      omega (
        arith,
        sum_most (λ o. cond (on_level s l o) 1 0) b (length b) 1
            (λ k p q. split (on_level s l (at b k)) (λ t. rw t (lit≤ tt)) (λ t. rw t zero-le)),
      )

  total_high : (l : ℕ) → total b s l ≤ length b * 999_999_999
  unfolding total
  total_high l = total_most b s sound l (length b) (omega arith)

  module _ (few : length b ≤ 255) (one : s < 10) where
    -- the line of a level that there is
    pub level_line_lem : (k : ℕ) → (level_at b s k ≡ 0 → ⊥) → length (level_line q s (level_at b s k) (total b s (level_at b s k)) (orders b s (level_at b s k))) ≤ 32
    level_line_lem k d =
        let l = level_at b s k in
        line_short q s l (total b s l) (orders b s l) one (omega (arith, d)) (level_high k) (omega (arith, total_high l)) (omega (arith, orders_few l))

    line_of_short : (k : ℕ) → length (line_of q s (depth b s k)) ≤ 32
    unfolding depth
    line_of_short k =
        split (eqb (level_at b s k) 0) (λ t. rw t zero-le) (λ t. rw t (level_line_lem k (eqb-false (level_at b s k) 0 t)))

    pub lines_short : (n : ℕ) → length (lines q b s n) ≤ n * 32
    unfolding lines
    lines_short zero = zero-le
    lines_short (suc n) =
        omega (arith, length-append (lines q b s n) (line_of q s (depth b s n)), lines_short n, line_of_short n)

-- ---- one line more

module _ (q : Instrument) (b : Book) (s : ℕ) where
  lines_one : (k x t n : ℕ) → x ≡ level_at b s k → (x ≡ 0 → ⊥) → t ≡ total b s x → n ≡ orders b s x
      → lines q b s (k + 1) ≡ lines q b s k ++ level_line q s x t n
  unfolding lines depth
  lines_one k x t n p d e r = rw (add-one k, ← p, ne_eqb x 0 d, e, r)

  -- where there is no level, no line is behind it
  lines_none : (k n : ℕ) → level_at b s k ≡ 0 → k ≤ n → lines q b s n ≡ lines q b s k
  unfolding lines depth
  lines_none k zero z h = let e : k ≡ 0 = omega arith in rw e
  lines_none k (suc n) z h =
      ⊎_elim
      (λ (l : k < suc n).
      rw (← level_none b s k n (level_at b s k) refl z (omega arith)) (append-nil (lines q b s n) ∙ lines_none k n z (omega arith)))
      (λ (l : suc n ≤ k). let e : k ≡ suc n = omega arith in rw e)
      (below_or k (suc n))

-- ---- the loop: the lines of k levels are written, and x is the level behind them
pub record Going (q : Instrument) (t : List ℕ) (n : ℕ) (out : List ℕ) (at side : ℕ) (after : List ℕ) (place x k : ℕ) : Type 0 where
  pub within : k ≤ n
  pub level : x ≡ level_at (book_of t) side k
  pub wrote : Wrote out at (lines q (book_of t) side k) place after
  pub kept : length after ≡ length out

module _ {q : Instrument} {t : List ℕ} {n : ℕ} {out : List ℕ} {at side : ℕ} where
  pub going_none : (x : ℕ) → n ≡ filled t → x ≡ next (book_of t) side 0 n → Going q t n out at side out at x 0
  unfolding lines
  going_none x e p = record { within = zero-le; level = level_first t n side e x p; wrote = wrote_none out at; kept = refl }

  module _ (m : Market t) (kind : instrument_of t ≡ q) (e : n ≡ filled t) (one : side < 10) (r : at + 8160 ≤ length out)
      {after : List ℕ} {place x k : ℕ} (g : Going q t n out at side after place x k) where
    book_few : length (book_of t) ≤ 255
    book_few = omega (arith, length_book t, filled_few t)

    all_quoted : AllQuoted q (book_of t)
    all_quoted = rw kind at (market_quoted t m)

    pub going_room : k < n → (x ≡ 0 → ⊥) → (a c : ℕ) → a ≡ total (book_of t) side x → c ≡ orders (book_of t) side x
        → Room after place (level_line q side x a c)
    going_room h d a c p o =
        let b = book_of t in
        let l = g.level in
        let z : length (level_line q side x a c) ≤ 32 = rw (p, o, l) (level_line_lem q b side m.held.sound all_quoted book_few one k (rw l at d)) in
        record { fits = omega (arith, z, lines_short q b side m.held.sound all_quoted book_few one k, g.wrote.place, g.kept, length_book t, filled_few t, e, r, h) }

    pub going_one : k < n → (x ≡ 0 → ⊥) → {a c y placed : ℕ} {then_out : List ℕ} → a ≡ total (book_of t) side x → c ≡ orders (book_of t) side x
        → Wrote after place (level_line q side x a c) placed then_out → y ≡ next (book_of t) side x n
        → Going q t n out at side then_out placed y (k + 1)
    going_one h d {a} {c} {y} p o w v =
        record {
          within = omega arith;
          level = level_next t n side e k x y g.level d v;
          wrote = rw (lines_one q (book_of t) side k x a c g.level d p o) (then g.wrote w);
          kept = wrote_length w ∙ g.kept;
        }

    -- no level is left, or as many lines are written as there are orders
    pub going_early : x ≡ 0 → Wrote out at (side_lines q (book_of t) side) place after
    unfolding side_lines
    going_early z = rw (lines_none q (book_of t) side k (length (book_of t)) (sym g.level ∙ z) (omega (arith, length_book t, g.within, e))) g.wrote

    pub going_end : n ≤ k → Wrote out at (side_lines q (book_of t) side) place after
    unfolding side_lines
    going_end h = let z : length (book_of t) ≡ k = omega (arith, length_book t, g.within, e) in rw z g.wrote
