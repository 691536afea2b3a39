-- A load is single calls: the tables, reports and messages of both, message by message.
use mathlib.Core.Path.{◌≡◌, refl, sym, ap, ◌∙◌}
use mathlib.Core.Bool.{false}
use mathlib.Core.List.{List, [], ◌∷◌, ◌++◌, append_assoc, append-nil}
use Prim.Native.Nat.{ℕ, zero, suc, ◌+◌, ◌-◌, ◌≤◌, ◌<◌}
use native.Mathlib.Nat.{zero-add, suc-add}
use native.Mathlib.Omega.{arith}
use lib.Dec.{eqb, ltb}
use lib.ListN.{length, take, drop}
use borrow.Author.Tests.{eq-eqb, ne_eqb, lt-ltb, le-ltb}
use Rattle.octets.proofs.Bools.{split}
use Rattle.decimal.specs.declared.Instrument.{Instrument}
use Rattle.table.specs.Heading.{work_of}
use Rattle.calls.specs.Told.{joined, room_asked}
use Rattle.calls.specs.Submit.{submitted}
use Rattle.load.specs.declared.Stop.{Stop}
use Rattle.load.specs.declared.Stop.TheVariants as stop
use Rattle.load.specs.Buffer.{Lying, End, Unreadable, Then, lying_in}
use Rattle.load.specs.Load.{Taken, taken, Loads, halted, broken, one_more, loads}
use Rattle.load.specs.Singles.{Single, table_after, reports_after, messages_of, calls_for, calls_in}
use Rattle.load.specs.Resumes.{left_in}
use Rattle.load.proofs.Finding.{lying_behind}
use Rattle.load.proofs.Loading.{Thens, full, spent, more, inside, thens, left_idle, left_busy}

module _ (kind : Instrument) where
  -- ---- one message

  module _ (t message : List ℕ) (room : ℕ) (cs : List Single) where
    one_table : table_after kind t (calls_for kind t message room ++ cs) ≡ table_after kind (taken kind t message room).table cs
    unfolding calls_for table_after taken
    one_table = split (eqb (work_of (submitted kind t message room).table) 0) (λ e. rw e) (λ e. rw e)

    one_reports : reports_after kind t (calls_for kind t message room ++ cs) ≡ (taken kind t message room).reports ++ reports_after kind (taken kind t message room).table cs
    unfolding calls_for reports_after taken
    one_reports =
        split (eqb (work_of (submitted kind t message room).table) 0)
        (λ e. rw e)
        (λ e. rw e (sym (append_assoc (submitted kind t message room).reports _ _)))

    one_message : messages_of (calls_for kind t message room ++ cs) ≡ message ∷ messages_of cs
    unfolding calls_for messages_of
    one_message = split (eqb (work_of (submitted kind t message room).table) 0) (λ e. rw e) (λ e. rw e)

  -- ---- one after another

  module _ (t message : List ℕ) (rest : Lying) (room : ℕ) where
    calls_full : room < 1024 → calls_in kind t (Then message rest) room ≡ []
    unfolding calls_in
    calls_full l = rw (lt-ltb room 1024 l)

    calls_spent : 1024 ≤ room → (taken kind t message room).number ≡ 4 → calls_in kind t (Then message rest) room ≡ []
    unfolding calls_in
    calls_spent l e = rw (le-ltb room 1024 l, eq-eqb (taken kind t message room).number 4 e)

    calls_more : 1024 ≤ room → eqb (taken kind t message room).number 4 ≡ false → work_of (taken kind t message room).table ≡ 0
        → calls_in kind t (Then message rest) room
        ≡ calls_for kind t message room ++ calls_in kind (taken kind t message room).table rest (room - length (joined (taken kind t message room).reports))
    unfolding calls_in
    calls_more l n e = rw (le-ltb room 1024 l, n, eq-eqb (work_of (taken kind t message room).table) 0 e)

    calls_inside : 1024 ≤ room → eqb (taken kind t message room).number 4 ≡ false → (work_of (taken kind t message room).table ≡ 0 → ⊥)
        → calls_in kind t (Then message rest) room ≡ calls_for kind t message room ++ []
    unfolding calls_in
    calls_inside l n e = rw (le-ltb room 1024 l, n, ne_eqb (work_of (taken kind t message room).table) 0 e)

  -- from table t and the bytes s, a load comes to what the calls come to
  pub record Called (s t : List ℕ) (l : Loads) (cs : List Single) : Type 0 where
    pub table_is : l.table ≡ table_after kind t cs
    pub reports_are : l.reports ≡ reports_after kind t cs
    pub messages_are : joined (messages_of cs) ≡ take l.place s
    pub count : l.finished + left_in l.table ≡ length (messages_of cs)

  none_called : (s t : List ℕ) (why : Stop) → work_of t ≡ 0 → Called s t (halted why t) []
  unfolding table_after reports_after messages_of joined
  none_called s t why e = record { table_is = refl; reports_are = refl; messages_are = refl; count = rw (left_idle t e) }

  take_none : (k : ℕ) → ◌≡◌ {A = List ℕ} (take k []) []
  take_none zero = refl
  take_none (suc k) = refl

  take_more : (m n : ℕ) (s : List ℕ) → take (m + n) s ≡ take m s ++ take n (drop m s)
  take_more zero n s = rw (zero-add n)
  take_more (suc m) n [] = take_none (suc m + n) ∙ sym (take_none n)
  take_more (suc m) n (b ∷ s) = rw (suc-add m n) (ap (λ (xs : List ℕ). b ∷ xs) (take_more m n s))

  module _ (s t message : List ℕ) (rest : Lying) (at : lying_in s ≡ Then message rest) (room : ℕ) where
    abbrev k : Taken
    k = taken kind t message room

    front : message ≡ take (length message) s
    front = (lying_behind s message rest at).front

    -- a message, and then what the calls behind it come to
    one_called : (l : Loads) (cs : List Single) → Called (drop (length message) s) k.table l cs
        → Called s t (one_more message k.reports l) (calls_for kind t message room ++ cs)
    unfolding joined
    one_called l cs c =
        record {
          table_is = c.table_is ∙ sym (one_table t message room cs);
          reports_are = ap (λ (qs : List (List ℕ)). k.reports ++ qs) c.reports_are ∙ sym (one_reports t message room cs);
          messages_are =
              rw (one_message t message room cs)
              (ap (λ (xs : List ℕ). message ++ xs) c.messages_are
              ∙ ap (λ (xs : List ℕ). xs ++ take l.place (drop (length message) s)) front
              ∙ sym (take_more (length message) l.place s));
          count = rw (one_message t message room cs) (omega (arith, c.count));
        }

    broken_called : (work_of k.table ≡ 0 → ⊥) → Called s t (broken message k) (calls_for kind t message room ++ [])
    unfolding joined table_after reports_after messages_of
    broken_called w =
        record {
          table_is = sym (one_table t message room []);
          reports_are = sym (append-nil k.reports) ∙ sym (one_reports t message room []);
          messages_are = rw (one_message t message room []) (append-nil message ∙ front);
          count = rw (one_message t message room [], left_busy k.table w);
        }

    then_called : work_of t ≡ 0 → (work_of k.table ≡ 0 → Called (drop (length message) s) k.table
        (loads kind k.table rest (room - length (joined k.reports))) (calls_in kind k.table rest (room - length (joined k.reports))))
        → Thens kind t message rest room → Called s t (loads kind t (Then message rest) room) (calls_in kind t (Then message rest) room)
    then_called i go (full a e) = rw (e, calls_full t message rest room a) (none_called s t stop.Full i)
    then_called i go (spent a n e) = rw (e, calls_spent t message rest room a n) (none_called s t stop.Spent i)
    then_called i go (more a n w e) = rw (e, calls_more t message rest room a n w) (one_called _ _ (go w))
    then_called i go (inside a n w e) = rw (e, calls_inside t message rest room a n w) (broken_called w)

  pub called : (l : Lying) (s : List ℕ) → lying_in s ≡ l → (t : List ℕ) (room : ℕ) → work_of t ≡ 0 → Called s t (loads kind t l room) (calls_in kind t l room)
  unfolding loads calls_in
  called End s at t room i = none_called s t stop.Done i
  called Unreadable s at t room i = split (ltb room room_asked) (λ e. rw e (none_called s t stop.Full i)) (λ e. rw e (none_called s t stop.Unread i))
  called (Then message rest) s at t room i =
      then_called s t message rest at room i
      (λ w. called rest (drop (length message) s) (lying_behind s message rest at).behind (taken kind t message room).table (room - length (joined (taken kind t message room).reports)) w)
      (thens kind t message rest room)
