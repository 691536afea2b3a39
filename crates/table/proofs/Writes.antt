-- Parts of a record written one after the other are the record's bytes: one law for each function that writes them.
use mathlib.Core.Path.{◌≡◌, refl, ap, ◌∙◌}
use mathlib.Core.List.{List, [], ◌∷◌, ◌++◌}
use Prim.Native.Nat.{ℕ, suc, ◌+◌, ◌*◌, ◌≤◌, ◌<◌}
use native.Mathlib.Omega.{arith}
use lib.ListN.{length, set, replicate, length-set}
use Rattle.octets.specs.Octets.{bytes_of, put, text_bytes, put_text}
use Rattle.octets.proofs.Places.{then_put, length_bytes_of, length_put}
use Rattle.decimal.specs.declared.Instrument.{Instrument}
use Rattle.matching.specs.declared.Order.{Order}
use Rattle.table.specs.Heading.{kind_number, put_kind, put_work, put_decided, end_work}
use Rattle.matching.specs.declared.Level.{Level}
use Rattle.table.specs.declared.record.Marks.{Marks}
use Rattle.table.specs.Best.{orders_bytes, levels_bytes, totals_bytes, best_row}
use Rattle.table.specs.Orders.{term_bytes, amount_bytes, end_bytes, tail_bytes, field_bytes, accepted}
use Rattle.table.proofs.Stores.{length_terms, length_amounts, accepted_parts, length_orders_bytes, length_levels_bytes}

-- three runs of bytes, and four
three : (t t1 t2 t3 : List ℕ) (p q r : ℕ) (xs ys zs : List ℕ) → t1 ≡ put t p xs → t2 ≡ put t1 q ys → t3 ≡ put t2 r zs
    → q ≡ p + length xs → r ≡ q + length ys → t3 ≡ put t p (xs ++ (ys ++ zs))
three t t1 t2 t3 p q r xs ys zs a b c h l =
    let d : t3 ≡ put t1 q (ys ++ zs) = then_put t1 t2 t3 q r ys zs b c l in
    then_put t t1 t3 p q xs (ys ++ zs) a d h

four : (t t1 t2 t3 t4 : List ℕ) (p q r s : ℕ) (ws xs ys zs : List ℕ) → t1 ≡ put t p ws → t2 ≡ put t1 q xs → t3 ≡ put t2 r ys → t4 ≡ put t3 s zs
    → q ≡ p + length ws → r ≡ q + length xs → s ≡ r + length ys → t4 ≡ put t p (ws ++ (xs ++ (ys ++ zs)))
four t t1 t2 t3 t4 p q r s ws xs ys zs a b c d h k l =
    let e : t4 ≡ put t1 q (xs ++ (ys ++ zs)) = three t1 t2 t3 t4 q r s xs ys zs b c d k l in
    then_put t t1 t4 p q ws (xs ++ (ys ++ zs)) a e h

pub end_written : (t : List ℕ) (p : ℕ) (marks : Marks) (t1 t2 t3 : List ℕ) → t1 ≡ put t p (bytes_of 1 marks.cash) → t2 ≡ put t1 (p + 1) (bytes_of 1 marks.margin)
    → t3 ≡ put t2 (p + 2) (replicate 34 0) → t3 ≡ put t p (end_bytes marks)
unfolding end_bytes
end_written t p marks t1 t2 t3 a b c =
    let x = length_bytes_of 1 marks.cash in
    let y = length_bytes_of 1 marks.margin in
    three t t1 t2 t3 p (p + 1) (p + 2) (bytes_of 1 marks.cash) (bytes_of 1 marks.margin) (replicate 34 0) a b c (omega arith) (omega arith)

module _ (t : List ℕ) (p : ℕ) (o : Order) where
  pub terms_written : (t1 t2 t3 : List ℕ) → t1 ≡ put t p (bytes_of 4 o.level) → t2 ≡ put t1 (p + 4) (bytes_of 4 o.qty)
      → t3 ≡ put t2 (p + 8) (bytes_of 4 o.place) → t3 ≡ put t p (term_bytes o)
  unfolding term_bytes
  terms_written t1 t2 t3 a b c =
      let x = length_bytes_of 4 o.level in
      let y = length_bytes_of 4 o.qty in
      three t t1 t2 t3 p (p + 4) (p + 8) (bytes_of 4 o.level) (bytes_of 4 o.qty) (bytes_of 4 o.place) a b c (omega arith) (omega arith)

  pub amounts_written : (t1 t2 t3 t4 : List ℕ) → t1 ≡ put t p (bytes_of 8 o.sum) → t2 ≡ put t1 (p + 8) (bytes_of 4 o.executed)
      → t3 ≡ put t2 (p + 12) (bytes_of 4 o.decremented) → t4 ≡ put t3 (p + 16) (bytes_of 4 o.canceled) → t4 ≡ put t p (amount_bytes o)
  unfolding amount_bytes
  amounts_written t1 t2 t3 t4 a b c d =
      let x = length_bytes_of 8 o.sum in
      let y = length_bytes_of 4 o.executed in
      let z = length_bytes_of 4 o.decremented in
      four t t1 t2 t3 t4 p (p + 8) (p + 12) (p + 16) (bytes_of 8 o.sum) (bytes_of 4 o.executed) (bytes_of 4 o.decremented) (bytes_of 4 o.canceled)
      a b c d (omega arith) (omega arith) (omega arith)

  pub tail_written : (order_id : ℕ) (marks : Marks) (t1 t2 t3 t4 : List ℕ) → t1 ≡ put t p (amount_bytes o) → t2 ≡ put t1 (p + 20) (bytes_of 4 order_id)
      → t3 ≡ put t2 (p + 24) (bytes_of 4 o.minqty) → t4 ≡ put t3 (p + 28) (end_bytes marks) → t4 ≡ put t p (tail_bytes order_id marks o)
  unfolding tail_bytes
  tail_written order_id marks t1 t2 t3 t4 a b c d =
      let x = length_amounts o in
      let y = length_bytes_of 4 order_id in
      let z = length_bytes_of 4 o.minqty in
      four t t1 t2 t3 t4 p (p + 20) (p + 24) (p + 28) (amount_bytes o) (bytes_of 4 order_id) (bytes_of 4 o.minqty) (end_bytes marks)
      a b c d (omega arith) (omega arith) (omega arith)

  pub fields_written : (order_id : ℕ) (marks : Marks) (t1 t2 t3 t4 : List ℕ) → t1 ≡ put t p (o.side ∷ o.tif ∷ marks.capacity ∷ marks.class ∷ [])
      → t2 ≡ put t1 (p + 4) (term_bytes o) → t3 ≡ put t2 (p + 16) (bytes_of 4 o.mpid) → t4 ≡ put t3 (p + 20) (tail_bytes order_id marks o)
      → t4 ≡ put t p (field_bytes order_id marks o)
  unfolding field_bytes
  fields_written order_id marks t1 t2 t3 t4 a b c d =
      let y = length_terms o in
      let z = length_bytes_of 4 o.mpid in
      four t t1 t2 t3 t4 p (p + 4) (p + 16) (p + 20) (o.side ∷ o.tif ∷ marks.capacity ∷ marks.class ∷ []) (term_bytes o) (bytes_of 4 o.mpid) (tail_bytes order_id marks o)
      a b c d refl (omega arith) (omega arith)

pub four_written : (t : List ℕ) (p a b c d : ℕ) → set (set (set (set t p a) (p + 1) b) (p + 2) c) (p + 3) d ≡ put t p (a ∷ b ∷ c ∷ d ∷ [])
unfolding put
four_written t p a b c d =
    let x : p + 1 ≡ suc p = omega arith in
    let y : p + 2 ≡ suc (suc p) = omega arith in
    let z : p + 3 ≡ suc (suc (suc p)) = omega arith in
    rw (x, y, z)

pub work_written : (t u : List ℕ) (w : ℕ) (stamp : List ℕ) → u ≡ put_text 21 (set t 32 w) 33 stamp → u ≡ put_work t w stamp
unfolding put
work_written t u w stamp e = e

pub kind_written : (t : List ℕ) (q : Instrument) (k : ℕ) → k ≡ kind_number q → set t 55 k ≡ put_kind t q
unfolding put
kind_written t q k e = rw e

pub decided_written : (t : List ℕ) (d : ℕ) → set t 96 d ≡ put_decided t d
unfolding put
decided_written t d = refl

pub work_ended : (t u v : List ℕ) → u ≡ put t 32 (replicate 23 0) → v ≡ put_decided u 0 → v ≡ end_work t
unfolding text_bytes
work_ended t u v e f = f ∙ ap (λ (x : List ℕ). put_decided x 0) e

-- the best levels: the numbers of orders, the levels, the totals, and all of them
module _ (t : List ℕ) (p : ℕ) (buy sell : Level) where
  pub orders_written : (t1 t2 t3 : List ℕ) → t1 ≡ put t p (bytes_of 1 buy.orders) → t2 ≡ put t1 (p + 1) (bytes_of 1 sell.orders)
      → t3 ≡ put t2 (p + 2) (replicate 1 0) → t3 ≡ put t p (orders_bytes buy sell)
  unfolding orders_bytes
  orders_written t1 t2 t3 a b c =
      let x = length_bytes_of 1 buy.orders in
      let y = length_bytes_of 1 sell.orders in
      three t t1 t2 t3 p (p + 1) (p + 2) (bytes_of 1 buy.orders) (bytes_of 1 sell.orders) (replicate 1 0) a b c (omega arith) (omega arith)

  pub levels_written : (t1 t2 t3 : List ℕ) → t1 ≡ put t p (bytes_of 4 buy.level) → t2 ≡ put t1 (p + 4) (bytes_of 4 sell.level)
      → t3 ≡ put t2 (p + 8) (replicate 4 0) → t3 ≡ put t p (levels_bytes buy sell)
  unfolding levels_bytes
  levels_written t1 t2 t3 a b c =
      let x = length_bytes_of 4 buy.level in
      let y = length_bytes_of 4 sell.level in
      three t t1 t2 t3 p (p + 4) (p + 8) (bytes_of 4 buy.level) (bytes_of 4 sell.level) (replicate 4 0) a b c (omega arith) (omega arith)

  pub totals_written : (t1 t2 : List ℕ) → t1 ≡ put t p (bytes_of 8 buy.total) → t2 ≡ put t1 (p + 8) (bytes_of 8 sell.total)
      → t2 ≡ put t p (totals_bytes buy sell)
  unfolding totals_bytes
  totals_written t1 t2 a b =
      let x = length_bytes_of 8 buy.total in
      then_put t t1 t2 p (p + 8) (bytes_of 8 buy.total) (bytes_of 8 sell.total) a b (omega arith)

  pub best_written : (t1 t2 t3 : List ℕ) → t1 ≡ put t p (orders_bytes buy sell) → t2 ≡ put t1 (p + 3) (levels_bytes buy sell)
      → t3 ≡ put t2 (p + 15) (totals_bytes buy sell) → t3 ≡ put t p (best_row buy sell)
  unfolding best_row
  best_written t1 t2 t3 a b c =
      let x = length_orders_bytes buy sell in
      let y = length_levels_bytes buy sell in
      three t t1 t2 t3 p (p + 3) (p + 15) (orders_bytes buy sell) (levels_bytes buy sell) (totals_bytes buy sell) a b c (omega arith) (omega arith)

pub record_written : (t t1 t2 t3 : List ℕ) (i order_id : ℕ) (cl_ord_id account : List ℕ) (marks : Marks) (o : Order) → length t ≡ 32768 → i < 256
    → length cl_ord_id ≤ 32 → length account ≤ 10 → t1 ≡ put_text 32 t (128 * i) cl_ord_id → t2 ≡ put_text 10 t1 (128 * i + 33) account
    → t3 ≡ put t2 (128 * i + 44) (field_bytes order_id marks o) → t3 ≡ accepted t i order_id cl_ord_id account marks o
record_written t t1 t2 t3 i order_id cl_ord_id account marks o long l short few a b c =
    rw (c, b, a) (accepted_parts t i order_id cl_ord_id account marks o short few (omega arith))

pub work_length : (t u : List ℕ) (w : ℕ) (stamp : List ℕ) → u ≡ put_text 21 (set t 32 w) 33 stamp → length u ≡ length t
work_length t u w stamp e = ap length e ∙ length_put (set t 32 w) 33 (text_bytes 21 stamp) ∙ length-set t 32 w
