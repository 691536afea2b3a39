-- The laws that applying an event wants: what the loaded order promises, and what the stores make of the table.
use mathlib.Core.Path.{◌≡◌, sym, ap, ◌∙◌}
use mathlib.Core.List.{List}
use Prim.Native.Nat.{ℕ, ◌<◌}
use native.Mathlib.Omega.{arith}
use lib.ListN.{length}
use Rattle.octets.specs.Octets.{text_bytes}
use Rattle.octets.proofs.Places.{length_put}
use Rattle.matching.specs.declared.Order.{Order}
use Rattle.matching.specs.declared.Event.{Event}
use Rattle.matching.specs.Matching.{at, who, change}
use Rattle.matching.specs.Held.{Sound, May}
use Rattle.table.specs.Places.{table_bytes}
use Rattle.table.specs.Orders.{order_at, book_of, put_id, put_terms, put_amounts, applied, withdrawn, replaced}
use Rattle.table.specs.Facts.{Due}
use Rattle.table.proofs.Same.{filled_few}
use Rattle.table.proofs.Books.{length_book, at_book}

module _ (t : List ℕ) (k : ℕ) (e : Event) (d : Due t k e) where
  pub due_low : k < 256
  due_low = omega (arith, d.whose, d.ready.inside.high, length_book t, filled_few t)

  due_order : at (book_of t) (who e) ≡ order_at t k
  due_order =
      at_book t (who e) d.ready.inside.low (omega (arith, d.ready.inside.high, length_book t)) ∙ ap (λ (j : ℕ). order_at t j) (sym d.whose)

  module _ (o : Order) (x : o ≡ order_at t k) where
    pub due_sound : Sound o
    due_sound = rw (x, ← due_order) d.ready.sound

    pub due_may : May e o
    due_may = rw (x, ← due_order) d.ready.may

    module _ (p : Order) (y : p ≡ change e o) where
      pub due_applied : (u : List ℕ) → u ≡ put_amounts t k p → u ≡ applied t e
      unfolding applied
      due_applied u z = rw (z, y, x, d.whose)

      pub due_withdrawn : (xs u v : List ℕ) → u ≡ put_id t k xs → v ≡ put_amounts u k p → v ≡ withdrawn t xs e
      unfolding withdrawn
      due_withdrawn xs u v w z = rw (z, w, y, x, d.whose)

      pub due_replaced : (xs u v : List ℕ) → u ≡ put_id t k xs → v ≡ put_terms u k p → v ≡ replaced t xs e
      unfolding replaced
      due_replaced xs u v w z = rw (z, w, y, x, d.whose)

-- the length after a new ClOrdID
pub named_long : (t u xs : List ℕ) (k : ℕ) → length t ≡ table_bytes → u ≡ put_id t k xs → length u ≡ table_bytes
named_long t u xs k h e = ap length e ∙ length_put t _ (text_bytes 32 xs) ∙ h
