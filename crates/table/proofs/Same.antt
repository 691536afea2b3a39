-- What is read of a table depends on the bytes it is read from: two tables that agree on those bytes agree on it. From this
-- and from what a put leaves alone, every law of the kind "this write does not touch that field" follows.
use mathlib.Core.Path.{◌≡◌, refl, sym, ap, ◌∙◌}
use mathlib.Core.Bool.{Bool, true, false, not}
use mathlib.Core.List.{List}
use mathlib.Core.Logic.{⊎_elim}
use Prim.Native.Nat.{ℕ, zero, suc, ◌+◌, ◌*◌, ◌-◌, ◌≤◌, ◌<◌, min}
use native.Mathlib.Omega.{arith}
use lib.Dec.{eqb, leb, lit≤}
use lib.ListN.{length, get_or, take, drop, length-take, length-drop}
use lib.Seq.{ext_get_or, get_or-take, get_or-drop}
use borrow.Author.Tests.{leb-true, ltb-true}
use Rattle.octets.specs.Octets.{le_at, put, part_at, text_at}
use Rattle.octets.specs.Tests.{all_up_to}
use Rattle.octets.proofs.Bools.{split, both_not_r}
use Rattle.octets.proofs.Places.{le_at_ext, get_d_put_below, get_d_put_above, below_or, length_put}
use Rattle.table.specs.Places.{record_at}
use Rattle.table.specs.Heading.{next_of, work_of, instrument_of, decided_of, mpid_at, mode_at, entries, entry_of, is_listed, mode_of}
use Rattle.table.specs.Orders.{cl_ord_id_at, order_id_at, marks_at, order_at, is_free, filled, orders_from, book_of}
use Rattle.table.specs.Market.{is_graphic, is_printable, is_code_character, is_padded, is_text, has_names, is_entry, has_list, has_settings, has_kind, is_record, is_known}
use Rattle.octets.proofs.Searches.{all_ext, first_ext, first_high}

-- two tables are of one length and agree on the bytes from p up to e
pub record Same (t u : List ℕ) (p e : ℕ) : Type 0 where
  pub size : length t ≡ length u
  pub byte : (k : ℕ) → p ≤ k → k < e → get_or t k 0 ≡ get_or u k 0

-- on fewer bytes
pub same_in : {t u : List ℕ} {p e : ℕ} (q f : ℕ) → Same t u p e → p ≤ q → f ≤ e → Same t u q f
same_in q f s l m = record { size = s.size; byte = λ k a b. s.byte k (omega arith) (omega arith) }

-- on two neighbouring runs of bytes
pub same_join : {t u : List ℕ} {p m e : ℕ} → Same t u p m → Same t u m e → Same t u p e
same_join {m = m} s r =
    record {
      size = s.size;
      byte = λ k a b. ⊎_elim (λ (l : k < m). s.byte k a l) (λ (l : m ≤ k). r.byte k l b) (below_or k m);
    }

-- the other way, and on
pub same_sym : {t u : List ℕ} {p e : ℕ} → Same t u p e → Same u t p e
same_sym s = record { size = sym s.size; byte = λ k a b. sym (s.byte k a b) }

pub same_then : {t u v : List ℕ} {p e : ℕ} → Same t u p e → Same u v p e → Same t v p e
same_then s r = record { size = s.size ∙ r.size; byte = λ k a b. s.byte k a b ∙ r.byte k a b }

-- a put leaves what is before it and what is behind it
pub put_below : (t : List ℕ) (i : ℕ) (vs : List ℕ) (p e : ℕ) → e ≤ i → Same (put t i vs) t p e
put_below t i vs p e h = record { size = length_put t i vs; byte = λ k a b. get_d_put_below t i vs k (omega arith) }

pub put_above : (t : List ℕ) (i : ℕ) (vs : List ℕ) (p e : ℕ) → i + length vs ≤ p → Same (put t i vs) t p e
put_above t i vs p e h = record { size = length_put t i vs; byte = λ k a b. get_d_put_above t i vs k (omega arith) }

-- at most 8 entries, and a listed MPID's is one of them
pub entries_few : (t : List ℕ) → entries t ≤ 8
unfolding entries
entries_few t = first_high (λ k. eqb (mpid_at t k) 0) 0 8

pub entry_few : (t : List ℕ) (m : ℕ) → is_listed t m ≡ true → entry_of t m < 8
unfolding is_listed
entry_few t m h = omega (arith, ltb-true (entry_of t m) (entries t) h, entries_few t)

-- at most 255 filled records
pub filled_few : (t : List ℕ) → filled t ≤ 255
unfolding filled
filled_few t = first_high (λ k. is_free t (k + 1)) 0 255

-- ---- numbers and texts

module _ {t u : List ℕ} where
  pub le_same : (n p e : ℕ) → Same t u p e → p + n ≤ e → le_at n t p ≡ le_at n u p
  le_same n p e s h = le_at_ext n t u p p (λ k l. s.byte (p + k) (omega arith) (omega arith))

  pub part_same : (p n e : ℕ) → Same t u p e → p + n ≤ e → part_at t p n ≡ part_at u p n
  unfolding part_at
  part_same p n e s h =
      let a = length-take n (drop p t) in
      let b = length-take n (drop p u) in
      let c = length-drop p t in
      let d = length-drop p u in
      let z = s.size in
      let f : length (drop p t) ≡ length (drop p u) = omega arith in
      ext_get_or 0 (take n (drop p t)) (take n (drop p u)) (a ∙ ap (λ (m : ℕ). min n m) f ∙ sym b)
      (λ i l.
      let q : i < n = omega arith in
      get_or-take n (drop p t) i 0 q ∙ get_or-drop p t i 0 ∙ s.byte (p + i) (omega arith) (omega arith)
      ∙ sym (get_or-drop p u i 0) ∙ sym (get_or-take n (drop p u) i 0 q))

  pub rest_same : (p : ℕ) → Same t u p (length u) → drop p t ≡ drop p u
  rest_same p s =
      let a = length-drop p t in
      let b = length-drop p u in
      let z = s.size in
      ext_get_or 0 (drop p t) (drop p u) (omega arith)
      (λ i l. get_or-drop p t i 0 ∙ s.byte (p + i) (omega arith) (omega arith) ∙ sym (get_or-drop p u i 0))

  -- a text of at most n characters
  pub text_same : (p n e : ℕ) → Same t u p e → p + 1 + n ≤ e → get_or u p 0 ≤ n → text_at t p ≡ text_at u p
  unfolding text_at
  text_same p n e s h l =
      let z : get_or t p 0 ≡ get_or u p 0 = s.byte p (omega arith) (omega arith) in
      ap (λ (m : ℕ). part_at t (p + 1) m) z
      ∙ part_same (p + 1) (get_or u p 0) e (same_in (p + 1) e s (omega arith) (omega arith)) (omega arith)

  pub padded_same : (p n e : ℕ) → Same t u p e → p + 1 + n ≤ e → is_padded n t p ≡ is_padded n u p
  unfolding is_padded part_at
  padded_same p n e s h =
      let z : get_or t p 0 ≡ get_or u p 0 = s.byte p (omega arith) (omega arith) in
      let m : ℕ = get_or u p 0 in
      let r : part_at t (p + 1 + m) (n - m) ≡ part_at u (p + 1 + m) (n - m) =
      ⊎_elim
      (λ (l : m < n). part_same (p + 1 + m) (n - m) e (same_in (p + 1 + m) e s (omega arith) (omega arith)) (omega arith))
      (λ (l : n ≤ m). nothing (p + 1 + m) (n - m) (omega arith))
      (below_or m n) in
      rw (z, r)
    where
      nothing : (q k : ℕ) → k ≡ 0 → part_at t q k ≡ part_at u q k
      nothing q k e = rw e

  pub is_text_same : (f : ℕ → Bool) (low n p e : ℕ) → Same t u p e → p + 1 + n ≤ e → is_text f low n t p ≡ is_text f low n u p
  unfolding is_text
  is_text_same f low n p e s h =
      let z : get_or t p 0 ≡ get_or u p 0 = s.byte p (omega arith) (omega arith) in
      split (leb (get_or u p 0) n)
      (λ l.
      let a : text_at t p ≡ text_at u p = text_same p n e s h (leb-true _ _ l) in
      let b : is_padded n t p ≡ is_padded n u p = padded_same p n e s h in
      rw (z, a, b))
      (λ l. rw (z, l, both_not_r (leb low (get_or u p 0)) false refl))

  -- ---- the heading

  pub instrument_same : Same t u 55 56 → instrument_of t ≡ instrument_of u
  unfolding instrument_of
  instrument_same s = let a : get_or t 55 0 ≡ get_or u 55 0 = s.byte 55 (lit≤ tt) (lit≤ tt) in rw a

  pub names_same : Same t u 0 28 → Same t u 55 56 → has_names t ≡ has_names u
  unfolding has_names
  names_same s r =
      let k = instrument_same r in
      let a = is_text_same is_graphic 1 8 0 28 s (lit≤ tt) in
      let b = is_text_same is_graphic 1 8 9 28 (same_in 9 28 s (lit≤ tt) (lit≤ tt)) (lit≤ tt) in
      let c = is_text_same (is_code_character (instrument_of u)) 1 9 18 28 (same_in 18 28 s (lit≤ tt) (lit≤ tt)) (lit≤ tt) in
      rw (k, a, b, c)

  pub next_same : Same t u 28 32 → next_of t ≡ next_of u
  next_same s = le_same 4 28 32 s (lit≤ tt)

  pub work_same : Same t u 32 33 → work_of t ≡ work_of u
  work_same s = s.byte 32 (lit≤ tt) (lit≤ tt)

  pub decided_same : Same t u 96 97 → decided_of t ≡ decided_of u
  decided_same s = s.byte 96 (lit≤ tt) (lit≤ tt)

  mpid_same : Same t u 56 96 → (k : ℕ) → k < 8 → mpid_at t k ≡ mpid_at u k
  mpid_same s k l = le_same 4 (56 + 4 * k) 96 (same_in (56 + 4 * k) 96 s (omega arith) (omega arith)) (omega arith)

  mode_same : Same t u 56 96 → (k : ℕ) → k < 8 → mode_at t k ≡ mode_at u k
  mode_same s k l = s.byte (88 + k) (omega arith) (omega arith)

  pub entries_same : Same t u 56 96 → entries t ≡ entries u
  unfolding entries
  entries_same s = first_ext _ _ 0 8 (λ k l m. ap (λ (x : ℕ). eqb x 0) (mpid_same s k (omega arith)))

  entry_same : Same t u 56 96 → (m : ℕ) → entry_of t m ≡ entry_of u m
  unfolding entry_of
  entry_same s m =
      let a = entries_same s in
      rw a (first_ext _ _ 0 (entries u) (λ k l n. ap (λ (x : ℕ). eqb x m) (mpid_same s k (omega (arith, entries_few u)))))

  pub listed_same : Same t u 56 96 → (m : ℕ) → is_listed t m ≡ is_listed u m
  unfolding is_listed
  listed_same s m =
      let a = entries_same s in
      let b = entry_same s m in
      rw (a, b)

  pub known_same : Same t u 56 96 → (m : ℕ) → is_known t m ≡ is_known u m
  unfolding is_known
  known_same s m = let a = listed_same s m in rw a

  pub mode_of_same : Same t u 56 96 → (m : ℕ) → mode_of t m ≡ mode_of u m
  unfolding mode_of
  mode_of_same s m =
      let a = entry_same s m in
      let b = listed_same s m in
      split (is_listed u m)
      (λ l. rw (b, l, a) (mode_same s (entry_of u m) (entry_few u m l)))
      (λ l. rw (b, l))

  entry_is_same : Same t u 56 96 → (k : ℕ) → k < 8 → is_entry t k ≡ is_entry u k
  unfolding is_entry
  entry_is_same s k l =
      let a = mpid_same s k l in
      let b = mode_same s k l in
      let c : all_up_to (λ j. not (eqb (mpid_at t j) (mpid_at t k))) k ≡ all_up_to (λ j. not (eqb (mpid_at u j) (mpid_at u k))) k =
      all_ext _ _ k (λ j h. let d = mpid_same s j (omega arith) in rw (a, d)) in
      rw (c, a, b)

  pub list_same : Same t u 56 96 → has_list t ≡ has_list u
  unfolding has_list
  list_same s =
      let n : ℕ = entries u in
      let f = entries_few u in
      let a = entries_same s in
      let b : all_up_to (is_entry t) n ≡ all_up_to (is_entry u) n = all_ext (is_entry t) (is_entry u) n (λ k l. entry_is_same s k (omega arith)) in
      let c : part_at t (56 + 4 * n) (4 * (8 - n)) ≡ part_at u (56 + 4 * n) (4 * (8 - n)) =
      part_same (56 + 4 * n) (4 * (8 - n)) 96 (same_in (56 + 4 * n) 96 s (omega arith) (omega arith)) (omega arith) in
      let d : part_at t (88 + n) (8 - n) ≡ part_at u (88 + n) (8 - n) =
      part_same (88 + n) (8 - n) 96 (same_in (88 + n) 96 s (omega arith) (omega arith)) (omega arith) in
      rw (a, b, c, d)

  pub settings_same : Same t u 0 28 → Same t u 55 96 → has_settings t ≡ has_settings u
  unfolding has_settings
  settings_same s r =
      let a = names_same s (same_in 55 56 r (lit≤ tt) (lit≤ tt)) in
      let b = list_same (same_in 56 96 r (lit≤ tt) (lit≤ tt)) in
      rw (a, b)

  pub kind_same : Same t u 55 56 → has_kind t ≡ has_kind u
  unfolding has_kind
  kind_same s = let a : get_or t 55 0 ≡ get_or u 55 0 = s.byte 55 (lit≤ tt) (lit≤ tt) in rw a

  -- ---- the records

  pub marks_same : (i : ℕ) → Same t u (record_at i + 46) (record_at i + 48) → Same t u (record_at i + 84) (record_at i + 128) → marks_at t i ≡ marks_at u i
  unfolding marks_at
  marks_same i r q =
      λ j. record {
        capacity = r.byte (128 * i + 46) (omega arith) (omega arith) j;
        class = r.byte (128 * i + 47) (omega arith) (omega arith) j;
        cash = q.byte (128 * i + 92) (omega arith) (omega arith) j;
        margin = q.byte (128 * i + 93) (omega arith) (omega arith) j;
      }

  -- by what the market trades, its texts, its capacity and classification, and its OrderID and what stands behind it
  pub record_parts : (i : ℕ) → Same t u 55 56 → Same t u (record_at i) (record_at i + 44) → Same t u (record_at i + 46) (record_at i + 48)
      → Same t u (record_at i + 84) (record_at i + 128) → is_record t i ≡ is_record u i
  unfolding is_record
  record_parts i h s r q =
      let k = instrument_same h in
      let a = is_text_same is_printable 1 32 (128 * i) (128 * i + 44) s (omega arith) in
      let b = is_text_same is_printable 0 10 (128 * i + 33) (128 * i + 44) (same_in (128 * i + 33) (128 * i + 44) s (omega arith) (omega arith)) (omega arith) in
      let c = marks_same i r q in
      let e : order_id_at t i ≡ order_id_at u i = le_same 4 (128 * i + 84) (128 * i + 128) q (omega arith) in
      let f = part_same (128 * i + 94) 34 (128 * i + 128) (same_in (128 * i + 94) (128 * i + 128) q (omega arith) (omega arith)) (omega arith) in
      rw (k, a, b, c, e, f)

  pub order_same : (i : ℕ) → Same t u (record_at i + 44) (record_at i + 92) → order_at t i ≡ order_at u i
  unfolding order_at
  order_same i s =
      λ j. record {
        side = byte 44 (lit≤ tt) (lit≤ tt) j;
        tif = byte 45 (lit≤ tt) (lit≤ tt) j;
        level = number 4 48 (lit≤ tt) (lit≤ tt) j;
        qty = number 4 52 (lit≤ tt) (lit≤ tt) j;
        executed = number 4 72 (lit≤ tt) (lit≤ tt) j;
        decremented = number 4 76 (lit≤ tt) (lit≤ tt) j;
        canceled = number 4 80 (lit≤ tt) (lit≤ tt) j;
        sum = number 8 64 (lit≤ tt) (lit≤ tt) j;
        place = number 4 56 (lit≤ tt) (lit≤ tt) j;
        mpid = number 4 60 (lit≤ tt) (lit≤ tt) j;
        minqty = number 4 88 (lit≤ tt) (lit≤ tt) j;
      }
    where
      byte : (k : ℕ) → 44 ≤ k → k < 92 → get_or t (128 * i + k) 0 ≡ get_or u (128 * i + k) 0
      byte k l h = s.byte (128 * i + k) (omega arith) (omega arith)

      number : (n k : ℕ) → 44 ≤ k → k + n ≤ 92 → le_at n t (128 * i + k) ≡ le_at n u (128 * i + k)
      number n k l h = le_same n (128 * i + k) (128 * i + 92) (same_in (128 * i + k) (128 * i + 92) s (omega arith) (omega arith)) (omega arith)

  pub order_id_same : (i : ℕ) → Same t u (record_at i + 84) (record_at i + 128) → order_id_at t i ≡ order_id_at u i
  order_id_same i s = le_same 4 (128 * i + 84) (128 * i + 128) s (omega arith)

  pub id_same : (i : ℕ) → Same t u (record_at i) (record_at i + 33) → get_or u (record_at i) 0 ≤ 32 → cl_ord_id_at t i ≡ cl_ord_id_at u i
  id_same i s l = text_same (128 * i) 32 (128 * i + 33) s (omega arith) l

-- as many records are filled in both, and the books are the same
pub filled_same : (t u : List ℕ) → ((i : ℕ) → 1 ≤ i → i ≤ 255 → get_or t (record_at i) 0 ≡ get_or u (record_at i) 0) → filled t ≡ filled u
unfolding filled
filled_same t u s = first_ext _ _ 0 255 (λ k l m. ap (λ (x : ℕ). eqb x 0) (s (k + 1) (omega arith) (omega arith)))

pub orders_same : (t u : List ℕ) (i n : ℕ) → ((k : ℕ) → i ≤ k → k < i + n → order_at t k ≡ order_at u k) → orders_from t i n ≡ orders_from u i n
unfolding orders_from
orders_same t u i zero s = refl
orders_same t u i (suc n) s =
    let a : order_at t i ≡ order_at u i = s i (omega arith) (omega arith) in
    let b : orders_from t (i + 1) n ≡ orders_from u (i + 1) n = orders_same t u (i + 1) n (λ k l m. s k (omega arith) (omega arith)) in
    rw (a, b)

pub book_same : (t u : List ℕ) → filled t ≡ filled u → ((k : ℕ) → 1 ≤ k → k ≤ filled u → order_at t k ≡ order_at u k) → book_of t ≡ book_of u
unfolding book_of
book_same t u e s = rw e (orders_same t u 1 (filled u) (λ k l m. s k l (omega arith)))
