-- The laws that the lookups want: the first record of which a test holds, the record with a ClOrdID and the one that a new order
-- takes, once the search has stopped.
use mathlib.Core.Path.{◌≡◌, refl, sym, ◌∙◌}
use mathlib.Core.Bool.{Bool, true, false, not}
use mathlib.Core.List.{List}
use Prim.Native.Nat.{ℕ, ◌+◌, ◌-◌, ◌≤◌, ◌<◌}
use native.Mathlib.Omega.{arith}
use lib.Dec.{ltb}
use lib.ListN.{length}
use borrow.Author.Tests.{le-ltb, lt-ltb, ltb-false, ltb-true, not-true}
use Rattle.octets.specs.Octets.{same_bytes}
use Rattle.octets.proofs.Parts.{same_is}
use Rattle.octets.proofs.Searches.{first_before, first_holds}
use Rattle.octets.specs.Tests.{first_from}
use mathlib.Core.Logic.{⊎_elim}
use Rattle.octets.proofs.Places.{below_or}
use Rattle.octets.proofs.Bools.{split, not_both}
use Rattle.octets.proofs.Ranges.{Sought, sought_here, sought_end}
use Rattle.matching.specs.Matching.{open_of, is_open, count_of}
use Rattle.matching.specs.Held.{Sound, Takes, anew, over}
use Rattle.table.specs.Orders.{cl_ord_id_at, order_at, filled, book_of, first_record, record_with, record_for}
use Rattle.matching.proofs.Books.{count_most, count_all, count_each}
use Rattle.table.specs.Facts.{Market}
use Rattle.table.proofs.Same.{filled_few}
use Rattle.table.proofs.Books.{length_book, at_book}

-- ---- the first record of which a test holds

-- record r is it: the test holds of it, and of none before it
pub record First (f : ℕ → Bool) (n r : ℕ) : Type 0 where
  pub within : r ≤ n
  pub holds : f r ≡ true
  pub lowest : (i : ℕ) → 1 ≤ i → i < r → f i ≡ false

module _ (f : ℕ → Bool) (n : ℕ) where
  first_here : (k : ℕ) → Sought (λ j. f (j + 1)) n k → k < n → f (k + 1) ≡ true → k + 1 ≡ first_record f n
  unfolding first_record
  first_here k s l h =
      let e : k ≡ first_from (λ j. f (j + 1)) 0 n = sought_here s l h in
      rw (← e, lt-ltb k n l)

  first_end : (k : ℕ) → Sought (λ j. f (j + 1)) n k → n ≤ k → 0 ≡ first_record f n
  unfolding first_record
  first_end k s l =
      let e : k ≡ first_from (λ j. f (j + 1)) 0 n = sought_end s l in
      rw (← e, le-ltb k n l)

  earlier : (i : ℕ) → 1 ≤ i → i ≤ first_from (λ j. f (j + 1)) 0 n → f i ≡ false
  earlier i l h =
      let e : i - 1 + 1 ≡ i = omega arith in
      let b : f (i - 1 + 1) ≡ false = first_before (λ j. f (j + 1)) 0 n (i - 1) (omega arith) (omega arith) in
      rw e at b

  -- there is none
  pub first_none : first_record f n ≡ 0 → (i : ℕ) → 1 ≤ i → i ≤ n → f i ≡ false
  unfolding first_record
  first_none h i l m =
      let r : ℕ = first_from (λ j. f (j + 1)) 0 n in
      split (ltb r n)
      (λ z. absurd (let x : r + 1 ≡ 0 = rw z at h in omega arith))
      (λ z. earlier i l (omega (arith, ltb-false)))

  -- there is one
  pub first_some : (r : ℕ) → first_record f n ≡ r → 0 < r → First f n r
  unfolding first_record
  first_some r h l =
      let q : ℕ = first_from (λ j. f (j + 1)) 0 n in
      split (ltb q n)
      (λ z.
      let x : q + 1 ≡ r = rw z at h in
      let y : f (q + 1) ≡ true = first_holds (λ j. f (j + 1)) 0 n (omega (arith, ltb-true)) in
      record { within = omega (arith, ltb-true); holds = rw x at y; lowest = λ i a b. earlier i a (omega arith) })
      (λ z. absurd (let x : 0 ≡ r = rw z at h in omega arith))

-- ---- the record with a ClOrdID

module _ (t : List ℕ) (n : ℕ) (xs : List ℕ) where
  pub id_here : (k : ℕ) → Sought (λ j. same_bytes (cl_ord_id_at t (j + 1)) xs) n k → k < n → same_bytes (cl_ord_id_at t (k + 1)) xs ≡ true
      → k + 1 ≡ record_with t n xs
  unfolding record_with
  id_here k s l h = first_here (λ i. same_bytes (cl_ord_id_at t i) xs) n k s l h

  pub id_none : (k : ℕ) → Sought (λ j. same_bytes (cl_ord_id_at t (j + 1)) xs) n k → n ≤ k → 0 ≡ record_with t n xs
  unfolding record_with
  id_none k s l = first_end (λ i. same_bytes (cl_ord_id_at t i) xs) n k s l

-- ---- the record that a new order takes

module _ (t : List ℕ) where
  -- while one is not filled, the next one
  pub takes_next : (n : ℕ) → n ≡ filled t → n < 255 → n + 1 ≡ record_for t
  unfolding record_for
  takes_next n e l = rw (← e, lt-ltb n 255 l)

  full : 255 ≤ filled t → record_for t ≡ first_record (λ i. not (is_open (order_at t i))) 255
  unfolding record_for
  full h = rw (le-ltb (filled t) 255 h)

  -- of a full table the first with nothing open, once the search for it has stopped
  pub takes_here : (n k : ℕ) → n ≡ filled t → 255 ≤ n → Sought (λ j. not (is_open (order_at t (j + 1)))) 255 k → k < 255
      → not (is_open (order_at t (k + 1))) ≡ true → k + 1 ≡ record_for t
  takes_here n k e h s l d = first_here (λ i. not (is_open (order_at t i))) 255 k s l d ∙ sym (full (omega arith))

  pub takes_none : (n k : ℕ) → n ≡ filled t → 255 ≤ n → Sought (λ j. not (is_open (order_at t (j + 1)))) 255 k → 255 ≤ k → 0 ≡ record_for t
  takes_none n k e h s l = first_end (λ i. not (is_open (order_at t i))) 255 k s l ∙ sym (full (omega arith))

  -- there is one, in a full table: the lowest-numbered with nothing open
  pub takes_lowest : 255 ≤ filled t → (r : ℕ) → record_for t ≡ r → 0 < r → First (λ i. not (is_open (order_at t i))) 255 r
  takes_lowest h r e l = first_some (λ i. not (is_open (order_at t i))) 255 r (sym (full h) ∙ e) l

  -- in any table: a number that a new order may take
  pub record_for_takes : (r : ℕ) → record_for t ≡ r → 0 < r → Takes (book_of t) r
  record_for_takes r e l =
      ⊎_elim
      (λ (h : filled t < 255). anew (omega (arith, takes_next (filled t) refl h, length_book t)))
      (λ (h : 255 ≤ filled t).
      let d = takes_lowest h r e l in
      let z : open_of (order_at t r) ≡ 0 = omega (arith, ltb-false 0 (open_of (order_at t r)) (shut d.holds)) in
      over (record { low = l; high = omega (arith, d.within, length_book t) }) (rw (at_book t r l (omega (arith, d.within))) z))
      (below_or (filled t) 255)
    where
      shut : {x : Bool} → not x ≡ true → x ≡ false
      shut {x} h = not-true x h

  pub record_for_small : (r : ℕ) → record_for t ≡ r → r ≤ 255
  record_for_small r e =
      ⊎_elim
      (λ (h : filled t < 255). omega (arith, takes_next (filled t) refl h))
      (λ (h : 255 ≤ filled t).
      split (ltb 0 r)
      (λ z. (takes_lowest h r e (ltb-true 0 r z)).within)
      (λ z. omega (arith, ltb-false 0 r z)))
      (below_or (filled t) 255)

  -- there is none exactly if 255 orders are open
  pub refused_full : record_for t ≡ 0 → filled t ≡ 255
  refused_full e =
      ⊎_elim
      (λ (h : filled t < 255). absurd (omega (arith, takes_next (filled t) refl h)))
      (λ (h : 255 ≤ filled t). omega (arith, filled_few t))
      (below_or (filled t) 255)

  pub refused_open : record_for t ≡ 0 → (i : ℕ) → 1 ≤ i → i ≤ 255 → is_open (order_at t i) ≡ true
  refused_open e i l h = open_is _ (first_none (λ i. not (is_open (order_at t i))) 255 (sym (full (omega (arith, refused_full e))) ∙ e) i l h)
    where
      open_is : (x : Bool) → not x ≡ false → x ≡ true
      open_is true h = refl
      open_is false h = sym h

  pub open_refused : filled t ≡ 255 → ((i : ℕ) → 1 ≤ i → i ≤ 255 → is_open (order_at t i) ≡ true) → record_for t ≡ 0
  open_refused e h =
      split (ltb 0 (record_for t))
      (λ z.
      let d = takes_lowest (omega arith) (record_for t) refl (ltb-true 0 (record_for t) z) in
      absurd (not_both (h (record_for t) (ltb-true 0 (record_for t) z) d.within) (not-true _ d.holds)))
      (λ z. omega (arith, ltb-false 0 (record_for t) z))

  pub refused_count : record_for t ≡ 0 → count_of is_open (book_of t) (length (book_of t)) ≡ 255
  refused_count e =
      let n : length (book_of t) ≡ 255 = length_book t ∙ refused_full e in
      count_all is_open (book_of t) (length (book_of t))
      (λ k l h. rw (at_book t k l (omega (arith, refused_full e))) (refused_open e k l (omega arith)))
      ∙ n

  pub count_refused : count_of is_open (book_of t) (length (book_of t)) ≡ 255 → record_for t ≡ 0
  count_refused e =
      let n : length (book_of t) ≡ 255 = omega (arith, count_most is_open (book_of t) (length (book_of t)), length_book t, filled_few t) in
      open_refused (omega (arith, length_book t))
      (λ i l h. rw (at_book t i l (omega (arith, length_book t))) at (count_each is_open (book_of t) (length (book_of t)) (e ∙ sym n) i l (omega arith)))

-- ---- what a market's records promise

pub market_sound : (t : List ℕ) (k : ℕ) → Market t → 1 ≤ k → k ≤ filled t → Sound (order_at t k)
market_sound t k m l h =
    let size : length (book_of t) ≡ filled t = length_book t in
    rw (at_book t k l h) at (m.held.sound k (record { low = l; high = omega arith }))

pub record_below : (t : List ℕ) (k n : ℕ) → n ≡ filled t → k ≤ n → k < 256
record_below t k n e h = omega (arith, filled_few t)

-- ---- what a search for a ClOrdID says

-- none of the records has it
pub record_none : (t : List ℕ) (n : ℕ) (xs : List ℕ) → record_with t n xs ≡ 0 → (i : ℕ) → 1 ≤ i → i ≤ n → same_bytes (cl_ord_id_at t i) xs ≡ false
unfolding record_with
record_none t n xs h i l m = first_none (λ i. same_bytes (cl_ord_id_at t i) xs) n h i l m

-- record r has it
pub record_found : (t : List ℕ) (n : ℕ) (xs : List ℕ) (r : ℕ) → record_with t n xs ≡ r → 0 < r → (r ≤ n) × (cl_ord_id_at t r ≡ xs)
unfolding record_with
record_found t n xs r h l =
    let d = first_some (λ i. same_bytes (cl_ord_id_at t i) xs) n r h l in
    (d.within, same_is (cl_ord_id_at t r) xs d.holds)
