-- What stands in a table after a store: what was stored, at its place, and everything else as it was.
use mathlib.Core.Path.{◌≡◌, refl, sym, ap, ◌∙◌}
use mathlib.Core.Bool.{true}
use mathlib.Core.List.{List, [], ◌∷◌, ◌++◌}
use Prim.Native.Nat.{ℕ, ◌+◌, ◌*◌, ◌%◌, ◌^◌, ◌≤◌, ◌<◌}
use native.Mathlib.Omega.{arith}
use lib.Dec.{lit≤, lit<}
use lib.ListN.{length, get_or, length-append}
use Rattle.octets.specs.Octets.{le_at, bytes_of, put, part_at, text_bytes, put_text, all_zero}
use Rattle.octets.proofs.Places.{length_put, get_part, get_put, put_put, get_d_put_in, get_d_put_below, le_at_below, le_at_above}
use Rattle.octets.proofs.Parts.{length_text_bytes, text_put, text_put_first, part_in_lem}
use Rattle.matching.specs.declared.Order.{Order}
use Rattle.matching.specs.Matching.{amounts, terms}
use Rattle.table.specs.Places.{record_at}
use Rattle.table.specs.Heading.{next_of, work_of, stamp_of, decided_of, put_next, put_work, put_decided}
use Rattle.matching.specs.declared.Level.{Level}
use Rattle.table.specs.declared.record.Marks.{Marks}
use Rattle.table.specs.Best.{orders_bytes, levels_bytes, totals_bytes, best_row}
use Rattle.table.specs.Orders.{cl_ord_id_at, account_at, order_id_at, marks_at, order_at, term_bytes, amount_bytes, end_bytes, tail_bytes, field_bytes, record_of, accepted, put_id, put_terms, put_amounts}
use Rattle.table.specs.Facts.{InBytes}
use Rattle.table.proofs.Same.{Same, same_in, same_then, put_below, put_above, text_same, order_same, id_same}

-- the amounts are of their width, and so are the terms
pub record Amounts (o : Order) : Type 0 where
  pub executed : o.executed < 256 ^ 4
  pub decremented : o.decremented < 256 ^ 4
  pub canceled : o.canceled < 256 ^ 4
  pub sum : o.sum < 256 ^ 8

pub record Terms (o : Order) : Type 0 where
  pub level : o.level < 256 ^ 4
  pub qty : o.qty < 256 ^ 4
  pub place : o.place < 256 ^ 4

pub length_amounts : (o : Order) → length (amount_bytes o) ≡ 20
unfolding amount_bytes bytes_of
length_amounts o = refl

pub length_terms : (o : Order) → length (term_bytes o) ≡ 12
unfolding term_bytes bytes_of
length_terms o = refl

pub length_fields : (order_id : ℕ) (marks : Marks) (o : Order) → length (field_bytes order_id marks o) ≡ 84
unfolding field_bytes amount_bytes tail_bytes end_bytes term_bytes bytes_of
length_fields order_id marks o = refl

-- every number is of its width
pub record Sized (o : Order) : Type 0 where
  pub terms : Terms o
  pub amounts : Amounts o
  pub mpid : o.mpid < 256 ^ 4
  pub minqty : o.minqty < 256 ^ 4

-- a number below 256 is its own byte
byte_is : (n : ℕ) → n < 256 → n % 256 ≡ n
byte_is n h = omega arith

-- ---- a record that starts at b, after bytes were put at place a of it

-- a number inside of what was put, before it, and behind it
number_in : (n : ℕ) (t : List ℕ) (b a : ℕ) (vs : List ℕ) (k q v : ℕ) → le_at n vs k ≡ le_at n (bytes_of n v) 0 → q ≡ a + k → k + n ≤ length vs
    → b + a + length vs ≤ length t → v < 256 ^ n → le_at n (put t (b + a) vs) (b + q) ≡ v
number_in n t b a vs k q v e h m room small =
    let z : b + q ≡ b + a + k = omega arith in
    rw z (get_part n t (b + a) vs k v e m room small)

number_before : (n : ℕ) (t : List ℕ) (b a : ℕ) (vs : List ℕ) (q : ℕ) → q + n ≤ a → le_at n (put t (b + a) vs) (b + q) ≡ le_at n t (b + q)
number_before n t b a vs q h = le_at_below n t (b + a) vs (b + q) (omega arith)

number_behind : (n : ℕ) (t : List ℕ) (b a : ℕ) (vs : List ℕ) (q : ℕ) → a + length vs ≤ q → le_at n (put t (b + a) vs) (b + q) ≡ le_at n t (b + q)
number_behind n t b a vs q h = le_at_above n t (b + a) vs (b + q) (omega arith)

module _ (t : List ℕ) (i : ℕ) (o : Order) (room : record_at i + 128 ≤ length t) where
  -- the order has the amounts that were put
  pub amounts_got : Amounts o → order_at (put_amounts t i o) i ≡ amounts (order_at t i) o.executed o.decremented o.canceled o.sum
  unfolding order_at amount_bytes bytes_of le_at
  amounts_got f =
      λ j. record {
        side = get_d_put_below t (128 * i + 64) (amount_bytes o) (128 * i + 44) (omega arith) j;
        tif = get_d_put_below t (128 * i + 64) (amount_bytes o) (128 * i + 45) (omega arith) j;
        level = kept 4 48 (lit≤ tt) j;
        qty = kept 4 52 (lit≤ tt) j;
        executed = got 4 8 72 o.executed refl refl (lit≤ tt) f.executed j;
        decremented = got 4 12 76 o.decremented refl refl (lit≤ tt) f.decremented j;
        canceled = got 4 16 80 o.canceled refl refl (lit≤ tt) f.canceled j;
        sum = got 8 0 64 o.sum refl refl (lit≤ tt) f.sum j;
        place = kept 4 56 (lit≤ tt) j;
        mpid = kept 4 60 (lit≤ tt) j;
        minqty = number_behind 4 t (128 * i) 64 (amount_bytes o) 88 (lit≤ tt) j;
      }
    where
      kept : (n k : ℕ) → k + n ≤ 64 → le_at n (put_amounts t i o) (128 * i + k) ≡ le_at n t (128 * i + k)
      kept n k h = number_before n t (128 * i) 64 (amount_bytes o) k h

      got : (n k q v : ℕ) → le_at n (amount_bytes o) k ≡ le_at n (bytes_of n v) 0 → q ≡ 64 + k → k + n ≤ 20 → v < 256 ^ n
          → le_at n (put_amounts t i o) (128 * i + q) ≡ v
      got n k q v e h m small = number_in n t (128 * i) 64 (amount_bytes o) k q v e h m (omega arith) small

  -- the order has the terms that were put
  pub terms_got : Terms o → order_at (put_terms t i o) i ≡ terms (order_at t i) o.level o.qty o.place
  unfolding order_at term_bytes bytes_of le_at
  terms_got f =
      λ j. record {
        side = get_d_put_below t (128 * i + 48) (term_bytes o) (128 * i + 44) (omega arith) j;
        tif = get_d_put_below t (128 * i + 48) (term_bytes o) (128 * i + 45) (omega arith) j;
        level = got 0 48 o.level refl refl (lit≤ tt) f.level j;
        qty = got 4 52 o.qty refl refl (lit≤ tt) f.qty j;
        executed = kept 4 72 (lit≤ tt) j;
        decremented = kept 4 76 (lit≤ tt) j;
        canceled = kept 4 80 (lit≤ tt) j;
        sum = kept 8 64 (lit≤ tt) j;
        place = got 8 56 o.place refl refl (lit≤ tt) f.place j;
        mpid = kept 4 60 (lit≤ tt) j;
        minqty = kept 4 88 (lit≤ tt) j;
      }
    where
      kept : (n k : ℕ) → 60 ≤ k → le_at n (put_terms t i o) (128 * i + k) ≡ le_at n t (128 * i + k)
      kept n k h = number_behind n t (128 * i) 48 (term_bytes o) k h

      got : (k q v : ℕ) → le_at 4 (term_bytes o) k ≡ le_at 4 (bytes_of 4 v) 0 → q ≡ 48 + k → k + 4 ≤ 12 → v < 256 ^ 4
          → le_at 4 (put_terms t i o) (128 * i + q) ≡ v
      got k q v e h m small = number_in 4 t (128 * i) 48 (term_bytes o) k q v e h m (omega arith) small

module _ (t : List ℕ) (i : ℕ) (xs : List ℕ) (short : length xs ≤ 32) (room : record_at i + 128 ≤ length t) where
  -- a ClOrdID that was put is got, and the order is as it was
  pub id_got : cl_ord_id_at (put_id t i xs) i ≡ xs
  id_got = text_put 32 t (128 * i) xs (omega arith) short

  pub id_keeps : order_at (put_id t i xs) i ≡ order_at t i
  id_keeps = order_same i (put_above t (128 * i) (text_bytes 32 xs) (128 * i + 44) (128 * i + 92) (omega (arith, length_text_bytes 32 xs short)))

-- ---- a new record

-- its texts, put one after the other
abbrev pub put_texts : List ℕ → ℕ → List ℕ → List ℕ → List ℕ
put_texts t i cl_ord_id account = put_text 10 (put_id t i cl_ord_id) (128 * i + 33) account

module _ (t : List ℕ) (i order_id : ℕ) (cl_ord_id account : List ℕ) (marks : Marks) (o : Order) (short : length cl_ord_id ≤ 32) (few : length account ≤ 10)
    (room : record_at i + 128 ≤ length t) where
  -- it is written in three parts: the ClOrdID, the account, the rest
  pub accepted_parts : put (put_texts t i cl_ord_id account) (128 * i + 44) (field_bytes order_id marks o) ≡ accepted t i order_id cl_ord_id account marks o
  unfolding accepted record_of
  accepted_parts =
      let a = length_text_bytes 32 cl_ord_id short in
      let b = length_text_bytes 10 account few in
      let p : 128 * i + 33 ≡ 128 * i + length (text_bytes 32 cl_ord_id) = omega arith in
      let q : 128 * i + 44 ≡ 128 * i + 33 + length (text_bytes 10 account) = omega arith in
      ap (λ (k : ℕ). put (put_texts t i cl_ord_id account) k (field_bytes order_id marks o)) q
      ∙ put_put (put_id t i cl_ord_id) (128 * i + 33) (text_bytes 10 account) (field_bytes order_id marks o)
      ∙ ap (λ (k : ℕ). put (put_id t i cl_ord_id) k (text_bytes 10 account ++ field_bytes order_id marks o)) p
      ∙ put_put t (128 * i) (text_bytes 32 cl_ord_id) (text_bytes 10 account ++ field_bytes order_id marks o)

  length_first : length (put_id t i cl_ord_id) ≡ length t
  length_first = length_put t (128 * i) (text_bytes 32 cl_ord_id)

  length_second : length (put_texts t i cl_ord_id account) ≡ length t
  length_second = length_put (put_id t i cl_ord_id) (128 * i + 33) (text_bytes 10 account) ∙ length_first

  -- the bytes before the record and those behind it are as they were
  pub accepted_before : Same (accepted t i order_id cl_ord_id account marks o) t 0 (128 * i)
  unfolding accepted
  accepted_before = put_below t (128 * i) (record_of order_id cl_ord_id account marks o) 0 (128 * i) (omega arith)

  pub length_record : length (record_of order_id cl_ord_id account marks o) ≡ 128
  unfolding record_of
  length_record =
      let a = length_text_bytes 32 cl_ord_id short in
      let b = length_text_bytes 10 account few in
      let c = length_fields order_id marks o in
      simp length-append (omega arith)

  pub accepted_behind : (e : ℕ) → Same (accepted t i order_id cl_ord_id account marks o) t (128 * i + 128) e
  unfolding accepted
  accepted_behind e = put_above t (128 * i) (record_of order_id cl_ord_id account marks o) (128 * i + 128) e (omega (arith, length_record))

  -- its texts stand as they do before the rest is put
  pub accepted_texts : Same (accepted t i order_id cl_ord_id account marks o) (put_texts t i cl_ord_id account) (128 * i) (128 * i + 44)
  accepted_texts =
      rw (← accepted_parts)
      (put_below (put_texts t i cl_ord_id account) (128 * i + 44) (field_bytes order_id marks o) (128 * i) (128 * i + 44) (omega arith))

  pub accepted_id : cl_ord_id_at (accepted t i order_id cl_ord_id account marks o) i ≡ cl_ord_id
  accepted_id =
      let s : Same (put_texts t i cl_ord_id account) (put_id t i cl_ord_id) (128 * i) (128 * i + 33) =
      put_below (put_id t i cl_ord_id) (128 * i + 33) (text_bytes 10 account) (128 * i) (128 * i + 33) (omega arith) in
      let n : get_or (put_id t i cl_ord_id) (128 * i) 0 ≡ length cl_ord_id = text_put_first 32 t (128 * i) cl_ord_id (omega arith) short in
      id_same i (same_then (same_in (128 * i) (128 * i + 33) accepted_texts (omega arith) (omega arith)) s) (omega arith)
      ∙ id_got t i cl_ord_id short room

  pub accepted_account : account_at (accepted t i order_id cl_ord_id account marks o) i ≡ account
  accepted_account =
      let z = length_first in
      let n : get_or (put_texts t i cl_ord_id account) (128 * i + 33) 0 ≡ length account = text_put_first 10 (put_id t i cl_ord_id) (128 * i + 33) account (omega arith) few in
      text_same (128 * i + 33) 10 (128 * i + 44) (same_in (128 * i + 33) (128 * i + 44) accepted_texts (omega arith) (omega arith)) (omega arith) (omega arith)
      ∙ text_put 10 (put_id t i cl_ord_id) (128 * i + 33) account (omega arith) few

  -- the order and the marks are those that were put
  field_byte : (k : ℕ) → k < 84 → get_or (put (put_texts t i cl_ord_id account) (128 * i + 44) (field_bytes order_id marks o)) (128 * i + 44 + k) 0 ≡ get_or (field_bytes order_id marks o) k 0
  field_byte k h =
      let z = length_second in
      let c = length_fields order_id marks o in
      get_d_put_in (put_texts t i cl_ord_id account) (128 * i + 44) (field_bytes order_id marks o) k (omega arith) (omega arith)

  field_at : (k q v : ℕ) → get_or (field_bytes order_id marks o) k 0 ≡ v → q ≡ 44 + k → k < 84 → get_or (accepted t i order_id cl_ord_id account marks o) (128 * i + q) 0 ≡ v
  field_at k q v e h l =
      let z : 128 * i + q ≡ 128 * i + 44 + k = omega arith in
      rw (← accepted_parts, z) (field_byte k l ∙ e)

  field_number : (n k q v : ℕ) → le_at n (field_bytes order_id marks o) k ≡ le_at n (bytes_of n v) 0 → q ≡ 44 + k → k + n ≤ 84 → v < 256 ^ n
      → le_at n (accepted t i order_id cl_ord_id account marks o) (128 * i + q) ≡ v
  field_number n k q v e h l small =
      let z = length_second in
      let c = length_fields order_id marks o in
      rw (← accepted_parts)
      (number_in n (put_texts t i cl_ord_id account) (128 * i) 44 (field_bytes order_id marks o) k q v e h (omega arith) (omega arith) small)

  pub accepted_marks : InBytes marks → marks_at (accepted t i order_id cl_ord_id account marks o) i ≡ marks
  unfolding marks_at field_bytes term_bytes amount_bytes tail_bytes end_bytes bytes_of le_at
  accepted_marks f =
      λ j. record {
        capacity = field_at 2 46 marks.capacity refl refl (lit< tt) j;
        class = field_at 3 47 marks.class refl refl (lit< tt) j;
        cash = (field_at 48 92 (marks.cash % 256) refl refl (lit< tt) ∙ byte_is _ f.cash) j;
        margin = (field_at 49 93 (marks.margin % 256) refl refl (lit< tt) ∙ byte_is _ f.margin) j;
      }

  pub accepted_order_id : order_id < 256 ^ 4 → order_id_at (accepted t i order_id cl_ord_id account marks o) i ≡ order_id
  unfolding field_bytes term_bytes amount_bytes tail_bytes end_bytes bytes_of le_at
  accepted_order_id small = field_number 4 40 84 order_id refl refl (lit≤ tt) small

  -- the unused bytes are zero
  pub accepted_spare : all_zero (part_at (accepted t i order_id cl_ord_id account marks o) (128 * i + 94) 34) ≡ true
  unfolding field_bytes term_bytes amount_bytes tail_bytes end_bytes bytes_of part_at all_zero
  accepted_spare =
      let z = length_second in
      let c = length_fields order_id marks o in
      let q : 128 * i + 94 ≡ 128 * i + 44 + 50 = omega arith in
      let e : part_at (put (put_texts t i cl_ord_id account) (128 * i + 44) (field_bytes order_id marks o)) (128 * i + 44 + 50) 34 ≡ part_at (field_bytes order_id marks o) 50 34 =
      part_in_lem (put_texts t i cl_ord_id account) (128 * i + 44) (field_bytes order_id marks o) 50 34 (omega arith) (omega arith) in
      rw (← accepted_parts, q, e)

  pub accepted_order : Sized o → order_at (accepted t i order_id cl_ord_id account marks o) i ≡ o
  unfolding order_at field_bytes term_bytes amount_bytes tail_bytes end_bytes bytes_of le_at
  accepted_order f =
      λ j. record {
        side = field_at 0 44 o.side refl refl (lit< tt) j;
        tif = field_at 1 45 o.tif refl refl (lit< tt) j;
        level = field_number 4 4 48 o.level refl refl (lit≤ tt) f.terms.level j;
        qty = field_number 4 8 52 o.qty refl refl (lit≤ tt) f.terms.qty j;
        executed = field_number 4 28 72 o.executed refl refl (lit≤ tt) f.amounts.executed j;
        decremented = field_number 4 32 76 o.decremented refl refl (lit≤ tt) f.amounts.decremented j;
        canceled = field_number 4 36 80 o.canceled refl refl (lit≤ tt) f.amounts.canceled j;
        sum = field_number 8 20 64 o.sum refl refl (lit≤ tt) f.amounts.sum j;
        place = field_number 4 12 56 o.place refl refl (lit≤ tt) f.terms.place j;
        mpid = field_number 4 16 60 o.mpid refl refl (lit≤ tt) f.mpid j;
        minqty = field_number 4 44 88 o.minqty refl refl (lit≤ tt) f.minqty j;
      }

-- ---- the heading

-- the bytes of the best levels
module _ (buy sell : Level) where
  pub length_orders_bytes : length (orders_bytes buy sell) ≡ 3
  unfolding orders_bytes bytes_of
  length_orders_bytes = refl

  pub length_levels_bytes : length (levels_bytes buy sell) ≡ 12
  unfolding levels_bytes bytes_of
  length_levels_bytes = refl

  pub length_totals_bytes : length (totals_bytes buy sell) ≡ 16
  unfolding totals_bytes bytes_of
  length_totals_bytes = refl

  pub length_row : length (best_row buy sell) ≡ 31
  unfolding best_row
  length_row =
      let a = length_orders_bytes in
      let b = length_levels_bytes in
      let c = length_totals_bytes in
      simp length-append (omega arith)

-- the decision that was put is got
pub decided_got : (t : List ℕ) (d : ℕ) → 128 ≤ length t → decided_of (put_decided t d) ≡ d
decided_got t d room = get_d_put_in t 96 (d ∷ []) 0 (lit< tt) (omega arith)

-- the next number that was put is got; so are the order in work and the 52 of its message
pub next_got : (t : List ℕ) (n : ℕ) → n < 256 ^ 4 → 32 ≤ length t → next_of (put_next t n) ≡ n
next_got t n small room = get_put 4 t 28 n small room

pub work_got : (t : List ℕ) (w : ℕ) (stamp : List ℕ) → 55 ≤ length t → length stamp ≤ 21 → work_of (put_work t w stamp) ≡ w
work_got t w stamp room short =
    let a = length_text_bytes 21 stamp short in
    get_d_put_in t 32 (w ∷ text_bytes 21 stamp) 0 (omega arith) (omega arith)

pub stamp_got : (t : List ℕ) (w : ℕ) (stamp : List ℕ) → 55 ≤ length t → length stamp ≤ 21 → stamp_of (put_work t w stamp) ≡ stamp
stamp_got t w stamp room short =
    let a = length_text_bytes 21 stamp short in
    let b = length_put t 32 (w ∷ []) in
    let e : put_work t w stamp ≡ put_text 21 (put t 32 (w ∷ [])) 33 stamp = sym (put_put t 32 (w ∷ []) (text_bytes 21 stamp)) in
    rw e (text_put 21 (put t 32 (w ∷ [])) 33 stamp (omega arith) short)
