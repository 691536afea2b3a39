-- The book after a store is the book after the event, for every kind of event; heading stores leave the book alone.
use mathlib.Core.Path.{◌≡◌, refl, sym, ap, ◌∙◌}
use mathlib.Core.Bool.{true}
use mathlib.Core.List.{List, [], ◌∷◌}
use Prim.Native.Nat.{ℕ, ◌+◌, ◌*◌, ◌≤◌}
use native.Mathlib.Nat.{mul-le-mul_left}
use native.Mathlib.Omega.{arith}
use lib.Dec.{lit≤}
use lib.ListN.{length}
use Rattle.octets.specs.Octets.{put, bytes_of, text_bytes}
use Rattle.octets.proofs.Places.{length_bytes_of}
use Rattle.octets.proofs.Parts.{length_text_bytes}
use Rattle.matching.specs.declared.Order.{Order}
use Rattle.matching.specs.declared.Event.{Event}
use Rattle.matching.specs.Matching.{Book, at, put as put_order, open_of, who, change, after, play, amounts, terms}
use Rattle.matching.specs.Held.{Sound, May, Ready, Readies}
use Rattle.matching.specs.Accounts.{trades}
use Rattle.matching.specs.Happens.{moves, Fits}
use Rattle.matching.proofs.Events.{change_is, amount_is, change_executed, change_decremented, change_canceled, change_sum}
use Rattle.table.specs.Places.{table_bytes, record_at}
use Rattle.table.specs.Heading.{put_next, put_work, put_decided}
use Rattle.table.specs.Orders.{order_at, filled, book_of, term_bytes, amount_bytes, put_terms, put_amounts, applied}
use Rattle.table.specs.Changes.{played}
use Rattle.table.proofs.Same.{Same, same_then, put_below, filled_few, book_same}
use Rattle.table.proofs.Stores.{Amounts, Terms, length_amounts, length_terms, amounts_got, terms_got}
use Rattle.table.proofs.Books.{length_book, at_book, book_changed}
use Rattle.table.proofs.Frames.{Framed, framed_self, framed_long, framed_filled, framed_put, framed_heading, framed_decided, framed_best, framed_then, order_elsewhere, order_below}

-- ---- the heading

-- a put below the records leaves the book alone
pub book_below : (t : List ℕ) (a : ℕ) (vs : List ℕ) → length t ≡ table_bytes → 28 ≤ a → a + length vs ≤ 55 → book_of (put t a vs) ≡ book_of t
book_below t a vs long l h =
    book_same (put t a vs) t (framed_filled t (put t a vs) long (framed_heading t a vs l h))
    (λ k i j. order_below t a vs k i (omega arith))

pub book_next : (t : List ℕ) (n : ℕ) → length t ≡ table_bytes → book_of (put_next t n) ≡ book_of t
book_next t n long = book_below t 28 (bytes_of 4 n) long (lit≤ tt) (omega (arith, length_bytes_of 4 n))

pub book_work : (t : List ℕ) (w : ℕ) (stamp : List ℕ) → length t ≡ table_bytes → length stamp ≤ 21 → book_of (put_work t w stamp) ≡ book_of t
book_work t w stamp long h = book_below t 32 (w ∷ text_bytes 21 stamp) long (lit≤ tt) (omega (arith, length_text_bytes 21 stamp h))

pub book_decided : (t : List ℕ) (d : ℕ) → length t ≡ table_bytes → book_of (put_decided t d) ≡ book_of t
book_decided t d long =
    book_same (put_decided t d) t (framed_filled t (put_decided t d) long (framed_decided t d))
    (λ k i j. order_below t 96 (d ∷ []) k i (lit≤ tt))

pub book_best : (t vs : List ℕ) → length t ≡ table_bytes → length vs ≤ 31 → book_of (put t 97 vs) ≡ book_of t
book_best t vs long h =
    book_same (put t 97 vs) t (framed_filled t (put t 97 vs) long (framed_best t vs h))
    (λ k i j. order_below t 97 vs k i (omega arith))

-- ---- amounts and terms of a filled record

module _ (t : List ℕ) (k : ℕ) (o : Order) (long : length t ≡ table_bytes) (low : 1 ≤ k) (high : k ≤ filled t) where
  room : record_at k + 128 ≤ length t
  room = omega (arith, filled_few t)

  pub framed_amounts : Framed t (put_amounts t k o)
  framed_amounts = framed_put t k 64 (amount_bytes o) low high (lit≤ tt) (omega (arith, length_amounts o))

  pub framed_terms : Framed t (put_terms t k o)
  framed_terms = framed_put t k 48 (term_bytes o) low high (lit≤ tt) (omega (arith, length_terms o))

  pub book_amounts : Amounts o
      → book_of (put_amounts t k o) ≡ put_order (book_of t) k (amounts (order_at t k) o.executed o.decremented o.canceled o.sum)
  book_amounts f =
      book_changed t (put_amounts t k o) k _ (framed_filled t (put_amounts t k o) long framed_amounts) low high
      (amounts_got t k o room f)
      (λ j l h n. order_elsewhere t k 64 (amount_bytes o) j n (omega (arith, length_amounts o)))

  pub book_terms : Terms o
      → book_of (put_terms t k o) ≡ put_order (book_of t) k (terms (order_at t k) o.level o.qty o.place)
  book_terms f =
      book_changed t (put_terms t k o) k _ (framed_filled t (put_terms t k o) long framed_terms) low high
      (terms_got t k o room f)
      (λ j l h n. order_elsewhere t k 48 (term_bytes o) j n (omega (arith, length_terms o)))

-- ---- events that change amounts

-- amounts that a held order can have are of their width
pub sound_amounts : (o : Order) → Sound o → Amounts o
sound_amounts o s =
    let c = s.covered in
    let q = s.qty_high in
    let h = s.sum_high in
    record { executed = omega arith; decremented = omega arith; canceled = omega arith; sum = omega arith }

-- and so are those after an event that may happen
pub change_amounts : (e : Event) (o : Order) → moves e ≡ true → Sound o → May e o → Amounts (change e o)
unfolding open_of
change_amounts e o m s y =
    let c = s.covered in
    let q = s.qty_high in
    let h = s.sum_high in
    let a = amount_is e in
    let n = y.enough in
    let v = mul-le-mul_left (trades e) y.priced in
    record {
      executed = omega (arith, change_executed e o m);
      decremented = omega (arith, change_decremented e o m);
      canceled = omega (arith, change_canceled e o m);
      sum = omega (arith, change_sum e o m);
    }

-- a moving event changes amounts alone
change_only : (e : Event) (o : Order) → moves e ≡ true
    → amounts o (change e o).executed (change e o).decremented (change e o).canceled (change e o).sum ≡ change e o
change_only e o m = rw (change_is e o m)

module _ (t : List ℕ) (e : Event) (long : length t ≡ table_bytes) (m : moves e ≡ true) (r : Ready (book_of t) e) where
  who_high : who e ≤ filled t
  who_high = omega (arith, r.inside.high, length_book t)

  pub order_there : at (book_of t) (who e) ≡ order_at t (who e)
  order_there = at_book t (who e) r.inside.low who_high

  pub framed_applied : Framed t (applied t e)
  unfolding applied
  framed_applied = framed_amounts t (who e) (change e (order_at t (who e))) long r.inside.low who_high

  pub book_applied : book_of (applied t e) ≡ after (book_of t) e
  unfolding applied after
  book_applied =
      let o : Order = order_at t (who e) in
      let s : Sound o = rw order_there at r.sound in
      let y : May e o = rw order_there at r.may in
      book_amounts t (who e) (change e o) long r.inside.low who_high (change_amounts e o m s y)
      ∙ ap (λ (p : Order). put_order (book_of t) (who e) p) (change_only e o m)
      ∙ ap (λ (p : Order). put_order (book_of t) (who e) (change e p)) (sym order_there)

-- events one by one
abbrev pub AllMove : List Event → Type 0
AllMove [] = Unit {0}
AllMove (e ∷ es) = (moves e ≡ true) × AllMove es

-- the table afterwards: its frame, its heading, its book
pub record Played (t : List ℕ) (es : List Event) : Type 0 where
  pub framed : Framed t (played t es)
  pub heading : Same (played t es) t 0 128
  pub book : book_of (played t es) ≡ play (book_of t) es

pub heading_applied : (t : List ℕ) (e : Event) → 1 ≤ who e → Same (applied t e) t 0 128
unfolding applied
heading_applied t e l = put_below t (128 * who e + 64) (amount_bytes (change e (order_at t (who e)))) 0 128 (omega arith)

pub all_played : (es : List Event) (t : List ℕ) → length t ≡ table_bytes → AllMove es → Readies (book_of t) es → Played t es
unfolding played play
all_played [] t long m r = record { framed = framed_self t; heading = record { size = refl; byte = λ k l h. refl }; book = refl }
all_played (e ∷ es) t long m r =
    let f = framed_applied t e long m.0 r.0 in
    let b = book_applied t e long m.0 r.0 in
    let g = all_played es (applied t e) (framed_long t (applied t e) long f) m.1 (rw b r.1) in
    record {
      framed = framed_then t (applied t e) (played (applied t e) es) long f g.framed;
      heading = same_then g.heading (heading_applied t e r.0.inside.low);
      book = g.book ∙ ap (λ (c : Book). play c es) b;
    }

-- events that fit the book all change amounts
pub fits_move : (es : List Event) (b : Book) → Fits b es → AllMove es
fits_move [] b f = tt
fits_move (e ∷ es) b f = (f.0.moving, fits_move es (after b e) f.1)
