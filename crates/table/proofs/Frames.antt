-- The frame of a table: all of it but the next number, what is in work, the best levels, and the sides, terms and amounts of its
-- filled records. A table with a market's frame is a market once its book is held, its work in order and its best levels are told.
use mathlib.Core.Path.{◌≡◌, refl, sym, ◌∙◌}
use mathlib.Core.Bool.{true, false}
use mathlib.Core.List.{List, [], ◌∷◌}
use mathlib.Core.Logic.{⊎_elim}
use Prim.Native.Nat.{ℕ, ◌+◌, ◌*◌, ◌-◌, ◌≤◌, ◌<◌}
use native.Mathlib.Omega.{arith}
use lib.Dec.{lit≤}
use lib.ListN.{length, get_or}
use borrow.Author.Tests.{leb-true, eqb-true, eqb-false, eq-eqb, ne_eqb}
use Rattle.octets.specs.Octets.{put, same_bytes}
use Rattle.octets.proofs.Bools.{both_l, both_r}
use Rattle.octets.proofs.Places.{below_or}
use Rattle.decimal.specs.declared.Instrument.{Instrument}
use Rattle.matching.specs.Held.{Held}
use Rattle.matching.specs.Quoted.{Quoted, AllQuoted}
use Rattle.table.specs.Places.{table_bytes, record_at}
use Rattle.table.specs.Heading.{next_of, work_of, instrument_of, decided_of, is_listed, put_decided}
use Rattle.table.specs.Orders.{cl_ord_id_at, order_id_at, order_at, is_free, filled, book_of}
use Rattle.table.specs.Market.{is_text, has_settings, has_work, has_kind, rest_zero, is_record, has_decision, has_best}
use Rattle.table.specs.Facts.{FreshNumbers, Market}
use Rattle.octets.proofs.Searches.{first_before, first_is, first_holds}
use Rattle.table.proofs.Same.{Same, same_in, same_then, put_below, put_above, order_same, record_parts, rest_same, id_same, order_id_same, instrument_same, settings_same, kind_same, listed_same, filled_few}
use Rattle.table.proofs.Books.{length_book, at_book}
use Rattle.table.proofs.Fresh.{fresh_same}

pub record Framed (t u : List ℕ) : Type 0 where
  pub names : Same u t 0 28
  pub lists : Same u t 55 96
  pub texts : (i : ℕ) → 1 ≤ i → i ≤ filled t → Same u t (record_at i) (record_at i + 44)
  pub kinds : (i : ℕ) → 1 ≤ i → i ≤ filled t → Same u t (record_at i + 46) (record_at i + 48)
  pub spares : (i : ℕ) → 1 ≤ i → i ≤ filled t → Same u t (record_at i + 84) (record_at i + 128)
  pub behind : Same u t (record_at (filled t + 1)) (length t)

-- all that a market asks of its bytes apart from its numbers: what a frame keeps
pub record Formed (t : List ℕ) : Type 0 where
  pub long : length t ≡ table_bytes
  pub settings : has_settings t ≡ true
  pub kind : has_kind t ≡ true
  pub rest : rest_zero t ≡ true
  pub records : (i : ℕ) → 1 ≤ i → i ≤ filled t → is_record t i ≡ true
  pub ids : (j k : ℕ) → 1 ≤ j → j < k → k ≤ filled t → same_bytes (cl_ord_id_at t j) (cl_ord_id_at t k) ≡ false

pub market_formed : (t : List ℕ) → Market t → Formed t
market_formed t m =
    record { long = m.long; settings = m.settings; kind = m.kind; rest = m.rest; records = m.records; ids = m.ids }

-- all that it asks but for the decision and the best levels
pub record Unnoted (t : List ℕ) : Type 0 where
  pub formed : Formed t
  pub work : has_work t ≡ true
  pub next_low : 1 ≤ next_of t
  pub order_ids : FreshNumbers (order_id_at t) (next_of t) (filled t)
  pub held : Held (is_listed t) (next_of t) (book_of t) (work_of t)
  pub quoted : AllQuoted (instrument_of t) (book_of t)

-- and all but for the best levels
pub record Untopped (t : List ℕ) : Type 0 where
  pub unnoted : Unnoted t
  pub decision : has_decision (book_of t) (work_of t) (decided_of t) ≡ true

-- what a market asks of each order, told of the book
pub quoted_book : (t : List ℕ) (q : Instrument) → ((i : ℕ) → 1 ≤ i → i ≤ filled t → Quoted q (order_at t i)) → AllQuoted q (book_of t)
quoted_book t q h k i = let n = length_book t in let l : k ≤ filled t = omega (arith, i.high) in rw (at_book t k i.low l) (h k i.low l)

pub book_quoted : (t : List ℕ) (q : Instrument) → AllQuoted q (book_of t) → (i : ℕ) → 1 ≤ i → i ≤ filled t → Quoted q (order_at t i)
book_quoted t q h i l m = rw (at_book t i l m) at (h i (record { low = l; high = omega (arith, length_book t) }))

pub topped_market : (t : List ℕ) → Untopped t → has_best t ≡ true → Market t
topped_market t v b =
    let u = v.unnoted in
    record {
      long = u.formed.long;
      settings = u.formed.settings;
      next_low = u.next_low;
      work = u.work;
      kind = u.formed.kind;
      rest = u.formed.rest;
      records = u.formed.records;
      ids = u.formed.ids;
      order_ids = u.order_ids;
      decision = v.decision;
      held = u.held;
      quoted = book_quoted t (instrument_of t) u.quoted;
      best = b;
    }

-- ---- filled records

-- a filled record's first byte is not 0; the first byte behind the last one is
pub filled_byte : (t : List ℕ) (i : ℕ) → 1 ≤ i → i ≤ filled t → get_or t (record_at i) 0 ≡ 0 → ⊥
unfolding filled
filled_byte t i l h e =
    let z : i - 1 + 1 ≡ i = omega arith in
    let f : is_free t (i - 1 + 1) ≡ false = first_before (λ k. is_free t (k + 1)) 0 255 (i - 1) (omega arith) (omega arith) in
    eqb-false (get_or t (128 * i) 0) 0 (rw z at f) e

pub free_byte : (t : List ℕ) → filled t < 255 → get_or t (record_at (filled t + 1)) 0 ≡ 0
unfolding filled
free_byte t h = eqb-true _ _ (first_holds (λ k. is_free t (k + 1)) 0 255 h)

-- as many records are filled as have a first byte that is not 0, up to one that has
pub filled_is : (t : List ℕ) (n : ℕ) → n ≤ 255 → ((i : ℕ) → 1 ≤ i → i ≤ n → get_or t (record_at i) 0 ≡ 0 → ⊥)
    → (n < 255 → get_or t (record_at (n + 1)) 0 ≡ 0) → filled t ≡ n
unfolding filled
filled_is t n l before here =
    first_is (λ k. is_free t (k + 1)) 255 n l
    (λ j h. ne_eqb (get_or t (128 * (j + 1)) 0) 0 (before (j + 1) (omega arith) (omega arith)))
    (λ h. eq-eqb (get_or t (128 * (n + 1)) 0) 0 (here h))

-- the ClOrdID of a good record is of at most 32 characters
pub id_short : (t : List ℕ) (i : ℕ) → is_record t i ≡ true → get_or t (record_at i) 0 ≤ 32
unfolding is_record is_text
id_short t i h = leb-true _ _ (search (both_l, both_r) depth 9)

-- ---- a frame

module _ (t u : List ℕ) (long : length t ≡ table_bytes) (f : Framed t u) where
  pub framed_long : length u ≡ table_bytes
  framed_long = f.names.size ∙ long

  pub framed_filled : filled u ≡ filled t
  framed_filled =
      let few = filled_few t in
      filled_is u (filled t) few
      (λ i l h e. filled_byte t i l h (sym ((f.texts i l h).byte (128 * i) (omega arith) (omega arith)) ∙ e))
      (λ h. f.behind.byte (128 * (filled t + 1)) (omega arith) (omega arith) ∙ free_byte t h)

  pub framed_rest : rest_zero t ≡ true → rest_zero u ≡ true
  unfolding rest_zero
  framed_rest h =
      let e = framed_filled in
      let d = rest_same (128 * (filled t + 1)) f.behind in
      rw (e, d) h

  pub framed_settings : has_settings u ≡ has_settings t
  framed_settings = settings_same f.names f.lists

  kind_byte_lem : Same u t 55 56
  kind_byte_lem = same_in 55 56 f.lists (lit≤ tt) (lit≤ tt)

  pub framed_kind : has_kind u ≡ has_kind t
  framed_kind = kind_same kind_byte_lem

  pub framed_instrument : instrument_of u ≡ instrument_of t
  framed_instrument = instrument_same kind_byte_lem

  pub framed_listed : is_listed u ≡ is_listed t
  framed_listed = λ j m. listed_same (same_in 56 96 f.lists (lit≤ tt) (lit≤ tt)) m j

  pub framed_record : (i : ℕ) → 1 ≤ i → i ≤ filled t → is_record u i ≡ is_record t i
  framed_record i l h = record_parts i kind_byte_lem (f.texts i l h) (f.kinds i l h) (f.spares i l h)

  pub framed_id : (i : ℕ) → 1 ≤ i → i ≤ filled t → is_record t i ≡ true → cl_ord_id_at u i ≡ cl_ord_id_at t i
  framed_id i l h r = id_same i (same_in (128 * i) (128 * i + 33) (f.texts i l h) (omega arith) (omega arith)) (id_short t i r)

  pub framed_order_ids : (next more : ℕ) → next ≤ more → FreshNumbers (order_id_at t) next (filled t) → FreshNumbers (order_id_at u) more (filled u)
  framed_order_ids next more l h =
      fresh_same (order_id_at t) (order_id_at u) next more (filled t) (filled u) l framed_filled (λ i a b. order_id_same i (f.spares i a b)) h

  -- so a formed table's frame is formed
  pub framed_formed : Formed t → Formed u
  framed_formed m =
      let e = framed_filled in
      record {
        long = framed_long;
        settings = framed_settings ∙ m.settings;
        kind = framed_kind ∙ m.kind;
        rest = framed_rest m.rest;
        records = λ i l k. framed_record i l (omega arith) ∙ m.records i l (omega arith);
        ids = λ j k l i o.
            let a = framed_id j l (omega arith) (m.records j l (omega arith)) in
            let b = framed_id k (omega arith) (omega arith) (m.records k (omega arith) (omega arith)) in
            rw (a, b) (m.ids j k l i (omega arith));
      }

-- ---- frames one after another, and those of the stores

pub framed_self : (t : List ℕ) → Framed t t
framed_self t =
    let s : (p e : ℕ) → Same t t p e = λ p e. record { size = refl; byte = λ k l h. refl } in
    record { names = s 0 28; lists = s 55 96; texts = λ i l h. s _ _; kinds = λ i l h. s _ _; spares = λ i l h. s _ _; behind = s _ _ }

pub framed_then : (t u v : List ℕ) → length t ≡ table_bytes → Framed t u → Framed u v → Framed t v
framed_then t u v long f g =
    let e = framed_filled t u long f in
    let z = f.names.size in
    record {
      names = same_then g.names f.names;
      lists = same_then g.lists f.lists;
      texts = λ i l h. same_then (g.texts i l (omega arith)) (f.texts i l h);
      kinds = λ i l h. same_then (g.kinds i l (omega arith)) (f.kinds i l h);
      spares = λ i l h. same_then (g.spares i l (omega arith)) (f.spares i l h);
      behind = same_then (rw (e, z) at g.behind) f.behind;
    }

-- a put among the terms and amounts of a filled record
pub framed_put : (t : List ℕ) (k a : ℕ) (vs : List ℕ) → 1 ≤ k → k ≤ filled t → 48 ≤ a → a + length vs ≤ 84 → Framed t (put t (record_at k + a) vs)
framed_put t k a vs low high l h =
    let p : ℕ = 128 * k + a in
    record {
      names = put_below t p vs 0 28 (omega arith);
      lists = put_below t p vs 55 96 (omega arith);
      texts = λ i j m.
          ⊎_elim (λ (x : k < i). put_above t p vs (128 * i) (128 * i + 44) (omega arith))
          (λ (x : i ≤ k). put_below t p vs (128 * i) (128 * i + 44) (omega arith)) (below_or k i);
      kinds = λ i j m.
          ⊎_elim (λ (x : k < i). put_above t p vs (128 * i + 46) (128 * i + 48) (omega arith))
          (λ (x : i ≤ k). put_below t p vs (128 * i + 46) (128 * i + 48) (omega arith)) (below_or k i);
      spares = λ i j m.
          ⊎_elim (λ (x : i < k). put_below t p vs (128 * i + 84) (128 * i + 128) (omega arith))
          (λ (x : k ≤ i). put_above t p vs (128 * i + 84) (128 * i + 128) (omega arith)) (below_or i k);
      behind = put_above t p vs (128 * (filled t + 1)) (length t) (omega arith);
    }

-- a put among the next number, the order in work and its 52
pub framed_heading : (t : List ℕ) (a : ℕ) (vs : List ℕ) → 28 ≤ a → a + length vs ≤ 55 → Framed t (put t a vs)
framed_heading t a vs l h =
    record {
      names = put_below t a vs 0 28 (omega arith);
      lists = put_above t a vs 55 96 (omega arith);
      texts = λ i j m. put_above t a vs (128 * i) (128 * i + 44) (omega arith);
      kinds = λ i j m. put_above t a vs (128 * i + 46) (128 * i + 48) (omega arith);
      spares = λ i j m. put_above t a vs (128 * i + 84) (128 * i + 128) (omega arith);
      behind = put_above t a vs (128 * (filled t + 1)) (length t) (omega arith);
    }

-- a put of the decision
pub framed_decided : (t : List ℕ) (d : ℕ) → Framed t (put_decided t d)
framed_decided t d =
    record {
      names = put_below t 96 (d ∷ []) 0 28 (lit≤ tt);
      lists = put_below t 96 (d ∷ []) 55 96 (lit≤ tt);
      texts = λ i j m. put_above t 96 (d ∷ []) (128 * i) (128 * i + 44) (omega arith);
      kinds = λ i j m. put_above t 96 (d ∷ []) (128 * i + 46) (128 * i + 48) (omega arith);
      spares = λ i j m. put_above t 96 (d ∷ []) (128 * i + 84) (128 * i + 128) (omega arith);
      behind = put_above t 96 (d ∷ []) (128 * (filled t + 1)) (length t) (omega arith);
    }

-- a put of the best levels
pub framed_best : (t vs : List ℕ) → length vs ≤ 31 → Framed t (put t 97 vs)
framed_best t vs h =
    record {
      names = put_below t 97 vs 0 28 (lit≤ tt);
      lists = put_below t 97 vs 55 96 (lit≤ tt);
      texts = λ i j m. put_above t 97 vs (128 * i) (128 * i + 44) (omega arith);
      kinds = λ i j m. put_above t 97 vs (128 * i + 46) (128 * i + 48) (omega arith);
      spares = λ i j m. put_above t 97 vs (128 * i + 84) (128 * i + 128) (omega arith);
      behind = put_above t 97 vs (128 * (filled t + 1)) (length t) (omega arith);
    }

-- the orders of the other records, and all orders where the heading was put
pub order_elsewhere : (t : List ℕ) (k a : ℕ) (vs : List ℕ) (j : ℕ) → (j ≡ k → ⊥) → a + length vs ≤ 128 → order_at (put t (record_at k + a) vs) j ≡ order_at t j
order_elsewhere t k a vs j n h =
    order_same j
    (⊎_elim (λ (x : k < j). put_above t (128 * k + a) vs (128 * j + 44) (128 * j + 92) (omega arith))
    (λ (x : j ≤ k). put_below t (128 * k + a) vs (128 * j + 44) (128 * j + 92) (omega arith)) (below_or k j))

pub order_below : (t : List ℕ) (a : ℕ) (vs : List ℕ) (j : ℕ) → 1 ≤ j → a + length vs ≤ 128 → order_at (put t a vs) j ≡ order_at t j
order_below t a vs j l h = order_same j (put_above t a vs (128 * j + 44) (128 * j + 92) (omega arith))
