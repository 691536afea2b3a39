-- Marks at keys against comparing every two: keys that were passed have a mark, so one without a mark is new; and the keys
-- of ClOrdIDs, of places and OrderIDs.
use Rattle.std.proofs.Common.{◌≡◌, ℕ, suc, ◌+◌, ◌<◌, ◌≤◌, Bool, true, false, not, ◌&&◌, eqb, ltb, List, length, get_or, set, sym, ap, ◌∙◌, not-suc-le-zero, add-one, arith, length-set, get_or-set_other, get_or-set_same, le-ltb, lt-ltb, ne_eqb, eqb-true}
use native.Mathlib.Decide.{ℕ_discrete}
use borrow.Author.Tests.{not-false}
use Rattle.octets.specs.Octets.{same_bytes, Bytes}
use Rattle.octets.proofs.Bools.{split, both_i, both_not_l, both_not_r}
use Rattle.octets.proofs.Parts.{not_same}
use Rattle.octets.specs.Tests.{all_up_to}
use Rattle.octets.proofs.Ranges.{all_none, all_from}
use Rattle.octets.proofs.Searches.{all_ext}
use Rattle.matching.specs.declared.Order.{Order}
use Rattle.matching.specs.Matching.{at}
use Rattle.table.specs.Heading.{next_of}
use Rattle.table.specs.Orders.{cl_ord_id_at, order_at, filled, book_of}
use Rattle.table.specs.Market.{has_orders, is_fresh_id, has_ids, is_fresh, are_fresh, has_places, has_order_ids}
use Rattle.table.proofs.Books.{length_book, at_book}
use Rattle.table.proofs.Fresh.{fresh_ext}
use Rattle.audit.specs.declared.marks.Id.{Id}
use Rattle.audit.specs.Checking.{id_from, id_at, key_of, low_part, high_part, is_unseen, number_key, number_at}
use Rattle.audit.proofs.Rooms.{id_is, same_ids, other_ids}

-- ---- the first j keys have a mark: at the start, one more, and what a key without a mark tells
pub record Marked (key : ℕ → ℕ) (mark : List ℕ) (j : ℕ) : Type 0 where
  pub size : length mark ≡ 2048
  pub mark_at : (i : ℕ) → i < j → get_or mark (key i) 0 ≡ 1

pub marked_none : {key : ℕ → ℕ} (mark : List ℕ) → length mark ≡ 2048 → Marked key mark 0
marked_none mark h = record { size = h; mark_at = λ i l. absurd (not-suc-le-zero l) }

pub unmarked : {key : ℕ → ℕ} {mark : List ℕ} {j : ℕ} (k : ℕ) → Marked key mark j → k ≡ key j → get_or mark k 0 ≡ 0
    → (i : ℕ) → i < j → key i ≡ key j → ⊥
unmarked {key} {mark} {j} k m e none i l same =
    let z : ◌≡◌ {A = ℕ} 1 0 = sym (m.mark_at i l) ∙ ap (λ (q : ℕ). get_or mark q 0) (same ∙ sym e) ∙ none in
    omega arith

pub marked_more : {key : ℕ → ℕ} {mark : List ℕ} {j : ℕ} (k : ℕ) → Marked key mark j → k ≡ key j → k < 2048 → Marked key (set mark k 1) (j + 1)
marked_more {key} {mark} {j} k m e small =
    record {
      size = length-set mark k 1 ∙ m.size;
      mark_at = λ i l. go i l (ℕ_discrete (key i) k);
    }
  where
    go : (i : ℕ) → i < j + 1 → Dec (key i ≡ k) → get_or (set mark k 1) (key i) 0 ≡ 1
    go i l (yes q) = rw q (get_or-set_same mark k 1 0 (omega (arith, m.size)))
    go i l (no n) = get_or-set_other mark k (key i) 1 0 n ∙ m.mark_at i (apart (ℕ_discrete i j))
      where
        apart : Dec (i ≡ j) → i < j
        apart (yes q) = absurd (n (ap key q ∙ sym e))
        apart (no d) = omega (arith, d)

-- ---- ClOrdIDs: one whose key is that of none before is new
abbrev pub id_key : List ℕ → ℕ → ℕ
id_key t i = key_of (id_at t (i + 1))

abbrev pub low_key : List ℕ → ℕ → ℕ
low_key t i = low_part (id_key t i)

abbrev pub high_key : List ℕ → ℕ → ℕ
high_key t i = high_part (id_key t i)

module _ (t : List ℕ) (long : length t ≡ 32768) (n : ℕ) (e : n ≡ filled t) (most : n ≤ 255) (h : has_orders t ≡ true) where
  id_new : (j : ℕ) → j < n → ((i : ℕ) → i < j → id_key t i ≡ id_key t j → ⊥) → is_fresh_id t j ≡ true
  unfolding is_fresh_id
  id_new j m f =
      all_from (λ i. not (same_bytes (cl_ord_id_at t (i + 1)) (cl_ord_id_at t (j + 1)))) j (λ i l.
      ap not (not_same (cl_ord_id_at t (i + 1)) (cl_ord_id_at t (j + 1)) (λ g.
      f i l (ap key_of (id_is t long n e most h i (omega arith) ∙ ap (λ (xs : List ℕ). id_from xs 0) g ∙ sym (id_is t long n e most h j m))))))

  -- the same by the marks of both parts, of which one is not there
  pub id_unmarked : (j x y : ℕ) {low high : List ℕ} (a b : Bool) → j < n → Marked (low_key t) low j → Marked (high_key t) high j → x ≡ low_key t j → y ≡ high_key t j
      → a ≡ not (eqb (get_or low x 0) 0) → b ≡ not (eqb (get_or high y 0) 0) → (a && b) ≡ false → is_fresh_id t j ≡ true
  id_unmarked j x y {low} {high} a b l m k p q c d h =
      let f : (not (eqb (get_or low x 0) 0) && not (eqb (get_or high y 0) 0)) ≡ false = rw (c, d) at h in
      split (eqb (get_or low x 0) 0)
      (λ z. id_new j l (λ i o same. unmarked x m p (eqb-true _ 0 z) i o (ap low_part same)))
      (λ z.
      let g : not (eqb (get_or high y 0) 0) ≡ false = rw z at f in
      id_new j l (λ i o same. unmarked y k q (eqb-true _ 0 (not-false _ g)) i o (ap high_part same)))

  -- one record, compared
  module _ (b : Bytes t) (i j : ℕ) (x y : Id) (l : j < n) (m : i < j) (p : x ≡ id_at t (i + 1)) (q : y ≡ id_at t (j + 1)) where
    pub id_old : x ≡ y → not (same_bytes (cl_ord_id_at t (i + 1)) (cl_ord_id_at t (j + 1))) ≡ false
    id_old f = ap not (same_ids t long n e most h b i j (omega arith) l (sym p ∙ f ∙ q))

    pub id_other : (x ≡ y → ⊥) → not (same_bytes (cl_ord_id_at t (i + 1)) (cl_ord_id_at t (j + 1))) ≡ true
    id_other f = ap not (other_ids t long n e most h b i j (omega arith) l (λ g. f (p ∙ g ∙ sym q)))

-- ---- order k + 1 of the book is record k + 1
pub at_record : (t : List ℕ) (n k : ℕ) → n ≡ filled t → k < n → at (book_of t) (suc k) ≡ order_at t (k + 1)
at_record t n k e l = at_book t (suc k) (omega arith) (omega arith) ∙ ap (order_at t) (sym (add-one k))

pub book_length : (t : List ℕ) (n : ℕ) → n ≡ filled t → length (book_of t) ≡ n
book_length t n e = length_book t ∙ sym e

-- ---- numbers of records, f i that of record i: one whose key is that of none before is new
abbrev pub key_at : (ℕ → ℕ) → ℕ → ℕ
key_at f i = number_key (f (i + 1))

pub number_new : (f : ℕ → ℕ) (j : ℕ) → ((i : ℕ) → i < j → key_at f i ≡ key_at f j → ⊥) → is_fresh f j ≡ true
unfolding is_fresh
number_new f j h =
    all_from (λ i. not (eqb (f (i + 1)) (f (j + 1)))) j (λ i l. ap not (ne_eqb (f (i + 1)) (f (j + 1)) (λ e. h i l (ap number_key e))))

-- the test of record j + 1, by the number that was read
module _ (f : ℕ → ℕ) (next : ℕ) where
  abbrev pub fresh : ℕ → Bool
  fresh j = ltb (f (j + 1)) next && is_fresh f j

  pub number_high : (j x : ℕ) → x ≡ f (j + 1) → next ≤ x → fresh j ≡ false
  number_high j x h m = both_not_l (ltb (f (j + 1)) next) (is_fresh f j) (le-ltb _ _ (rw h at m))

  pub number_old : (j : ℕ) → is_fresh f j ≡ false → fresh j ≡ false
  number_old j h = both_not_r (ltb (f (j + 1)) next) (is_fresh f j) h

  pub number_good : (j x : ℕ) → x ≡ f (j + 1) → x < next → is_fresh f j ≡ true → fresh j ≡ true
  number_good j x h m g = both_i (lt-ltb _ _ (rw h at m)) g

-- ---- the numbers seen: those of the first j records
pub record Noted (f : ℕ → ℕ) (seen : List ℕ) (j : ℕ) : Type 0 where
  pub size : length seen ≡ 256
  pub seen_at : (i : ℕ) → i < j → get_or seen i 0 ≡ f (i + 1)

pub noted_none : {f : ℕ → ℕ} (seen : List ℕ) → length seen ≡ 256 → Noted f seen 0
noted_none seen h = record { size = h; seen_at = λ i l. absurd (not-suc-le-zero l) }

pub noted_more : {f : ℕ → ℕ} {seen : List ℕ} {j : ℕ} (x : ℕ) → Noted f seen j → x ≡ f (j + 1) → j < 256 → Noted f (set seen j x) (j + 1)
noted_more {f} {seen} {j} x m e l =
    record {
      size = length-set seen j x ∙ m.size;
      seen_at = λ i k. go i k (ℕ_discrete i j);
    }
  where
    go : (i : ℕ) → i < j + 1 → Dec (i ≡ j) → get_or (set seen j x) i 0 ≡ f (i + 1)
    go i k (yes q) = rw q (get_or-set_same seen j x 0 (omega (arith, m.size)) ∙ e)
    go i k (no n) = get_or-set_other seen j i x 0 n ∙ m.seen_at i (omega (arith, n))

-- a number that is none of them is new
pub unseen_fresh : {f : ℕ → ℕ} {seen : List ℕ} {j : ℕ} (x : ℕ) (r : Bool) → Noted f seen j → x ≡ f (j + 1) → r ≡ is_unseen seen x j → r ≡ is_fresh f j
unfolding is_unseen is_fresh
unseen_fresh {f} {seen} {j} x r m e h =
    h ∙ all_ext (λ i. not (eqb (get_or seen i 0) x)) (λ i. not (eqb (f (i + 1)) (f (j + 1)))) j (λ i l. rw (m.seen_at i l, e))

-- looked for among the first i
pub record Unseen (seen : List ℕ) (x n : ℕ) (u : Bool) (i : ℕ) : Type 0 where
  pub within : i ≤ n
  pub test : u ≡ is_unseen seen x i

pub unseen_none : {seen : List ℕ} {x n : ℕ} → Unseen seen x n true 0
unfolding is_unseen
unseen_none {seen} {x} = record { within = omega arith; test = sym (all_none _) }

pub unseen_more : {seen : List ℕ} {x n i : ℕ} {u : Bool} → Unseen seen x n u i → i < n → Unseen seen x n (u && not (eqb (get_or seen i 0) x)) (i + 1)
unfolding is_unseen all_up_to
unseen_more {seen} {x} {n} {i} {u} h l = record { within = omega arith; test = rw (add-one i, h.test) }

pub unseen_end : {seen : List ℕ} {x n i : ℕ} {u : Bool} → Unseen seen x n u i → n ≤ i → u ≡ is_unseen seen x n
unseen_end {seen} {x} {n} {i} {u} h l =
    let q : i ≡ n = omega (arith, h.within) in
    rw (← q) h.test

-- of no record
pub none_fresh : (f : ℕ → ℕ) (next n : ℕ) → n ≡ 0 → true ≡ are_fresh f next n
unfolding are_fresh
none_fresh f next n e = rw e (sym (all_none _))

pub none_ids : (t : List ℕ) (n : ℕ) → n ≡ filled t → n ≡ 0 → true ≡ has_ids t
unfolding has_ids
none_ids t n e z = rw (sym e ∙ z) (sym (all_none (is_fresh_id t)))

-- ---- the places of the book, and the OrderIDs, are numbers of the filled records
place_read : (t : List ℕ) (i : ℕ) → 1 ≤ i → i ≤ filled t → (at (book_of t) i).place ≡ number_at t 56 i
unfolding order_at
place_read t i l h = ap (λ (o : Order). o.place) (at_book t i l h)

pub places_are : (t : List ℕ) (n next : ℕ) (r : Bool) → n ≡ filled t → r ≡ are_fresh (number_at t 56) next n → r ≡ has_places (book_of t) next
unfolding has_places
places_are t n next r e h =
    let s : are_fresh (λ i. (at (book_of t) i).place) next n ≡ are_fresh (number_at t 56) next n =
    fresh_ext (λ i. (at (book_of t) i).place) (number_at t 56) next n (λ i l m. place_read t i l (omega arith)) in
    h ∙ sym s ∙ ap (are_fresh (λ i. (at (book_of t) i).place) next) (sym (book_length t n e))

pub order_ids_are : (t : List ℕ) (n next : ℕ) (r : Bool) → n ≡ filled t → next ≡ next_of t → r ≡ are_fresh (number_at t 84) next n → r ≡ has_order_ids t
unfolding has_order_ids
order_ids_are t n next r e f h = rw (← e, ← f) h
