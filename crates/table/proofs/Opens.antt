-- What opening writes is a market: with the settings it was given, the first number as the next, no order and nothing in work.
use mathlib.Core.Path.{◌≡◌, refl, ap, ◌∙◌}
use mathlib.Core.Bool.{Bool, true, not}
use mathlib.Core.List.{List, [], ◌∷◌, ◌++◌}
use mathlib.Core.Logic.{⊎_elim, ◌⊎◌, inl, inr}
use Prim.Native.Nat.{ℕ, zero, suc, ◌+◌, ◌*◌, ◌-◌, ◌^◌, ◌≤◌, ◌<◌}
use native.Mathlib.Nat.{add-zero}
use native.Mathlib.Omega.{arith}
use lib.Dec.{eqb, leb, lit≤}
use lib.ListN.{length, get_or, drop, replicate, length-replicate, get_or-replicate, length-append, get_or-eq_default}
use lib.Seq.{get_or-drop, get_or-append-add}
use borrow.Author.Tests.{le-leb, eq-eqb, ne_eqb}
use Rattle.octets.specs.Octets.{le_at, bytes_of, put, part_at, text_bytes, all_zero}
use Rattle.octets.specs.Tests.{all_up_to}
use Rattle.octets.proofs.Bools.{both_i, both_r}
use Rattle.octets.proofs.Ranges.{all_from}
use Rattle.octets.proofs.Places.{length_put, length_bytes_of, le_at_in, le_at_ext, le_at_bytes_of, get_d_put_below, get_d_put_above, get_d_put_in, below_or}
use Rattle.octets.proofs.Parts.{length_part, get_d_part, length_text_bytes}
use Rattle.octets.proofs.Zeros.{zero_from}
use Rattle.decimal.specs.declared.Instrument.{Instrument}
use Rattle.matching.proofs.Requests.{opened_held}
use Rattle.table.specs.Places.{table_bytes}
use Rattle.table.specs.Heading.{next_of, work_of, kind_number, instrument_of, decided_of, mpid_at, mode_at, entries, is_listed, mpid_bytes, put_venue, put_port, put_kind, put_next, put_mpids, put_modes}
use Rattle.table.specs.Orders.{filled, orders_from, book_of}
use Rattle.table.specs.Market.{is_graphic, is_code_character, has_names, is_entry, has_list, has_settings, rest_zero, is_market_of}
use Rattle.table.specs.Facts.{Market}
use Rattle.table.specs.Opened.{is_new, are_given, are_names, are_settings, named_table, fresh_table, is_opening, opened}
use Rattle.octets.proofs.Searches.{all_ext, first_is}
use Rattle.table.proofs.Same.{Same, same_in, same_then, put_below, le_same, is_text_same, next_same}
use Rattle.table.proofs.Instruments.{kind_noted, noted_kind, instrument_market}
use Rattle.table.proofs.Stores.{next_got}
use Rattle.table.proofs.Texts.{is_text_put}
use Rattle.table.proofs.Working.{none_work, undecided}
use Rattle.table.proofs.Bests.{has_best_none}
use Rattle.table.proofs.Frames.{filled_is}
use Rattle.table.proofs.Settings.{name_some, name_every, venue_name, port_name, code_name, venue_short, port_short, code_short, settings_names, settings_low, settings_high, settings_given, given_some, given_few, given_same, given_each, given_low, given_high, mode_low, mode_high, given_new}
use Rattle.table.proofs.Fresh.{fresh_none}
use Rattle.table.proofs.Facts.{facts_market}

-- ---- bytes that are zero

-- a byte apart from what was put
pub byte_off : (t : List ℕ) (i : ℕ) (vs : List ℕ) (p : ℕ) → (p < i) ⊎ (i + length vs ≤ p) → get_or (put t i vs) p 0 ≡ get_or t p 0
byte_off t i vs p (inl h) = get_d_put_below t i vs p h
byte_off t i vs p (inr h) = get_d_put_above t i vs p h

byte_zero : (n p : ℕ) → ◌≡◌ {A = ℕ} (get_or (replicate n 0) p 0) 0
byte_zero n p =
    ⊎_elim (λ (l : p < n). get_or-replicate n p 0 0 l)
    (λ (l : n ≤ p). get_or-eq_default (replicate n 0) 0 {n = p} (omega (arith, length-replicate {A = ℕ} n 0)))
    (below_or p n)

-- a part of which each byte is zero
part_zero : (t : List ℕ) (p n : ℕ) → p + n ≤ length t → ((k : ℕ) → p ≤ k → k < p + n → get_or t k 0 ≡ 0) → all_zero (part_at t p n) ≡ true
part_zero t p n room h =
    zero_from (part_at t p n) (λ k l.
    let m : k < n = omega (arith, length_part t p n room) in
    get_d_part t p n k m ∙ h (p + k) (omega arith) (omega arith))

rest_of_zero : (t : List ℕ) (p : ℕ) → ((k : ℕ) → p ≤ k → get_or t k 0 ≡ 0) → all_zero (drop p t) ≡ true
rest_of_zero t p h = zero_from (drop p t) (λ k l. get_or-drop p t k 0 ∙ h (p + k) (omega arith))

-- a number of which each byte is zero
le_at_zero : (n : ℕ) (t : List ℕ) (p : ℕ) → ((j : ℕ) → j < n → get_or t (p + j) 0 ≡ 0) → le_at n t p ≡ 0
unfolding le_at
le_at_zero zero t p h = refl
le_at_zero (suc n) t p h =
    let a : get_or t p 0 ≡ 0 = simp add-zero at (h 0 (omega arith)) in
    let b : le_at n t (p + 1) ≡ 0 = le_at_zero n t (p + 1) (λ j l. ap (λ (q : ℕ). get_or t q 0) (omega arith) ∙ h (suc j) (omega arith)) in
    omega arith

-- ---- the list of MPIDs that was put

pub length_mpids : (ms : List ℕ) → length (mpid_bytes ms) ≡ 4 * length ms
unfolding mpid_bytes
length_mpids [] = refl
length_mpids (m ∷ ms) = length-append (bytes_of 4 m) (mpid_bytes ms) ∙ (omega (arith, length_bytes_of 4 m, length_mpids ms))

mpid_bytes_lem : (ms : List ℕ) (k : ℕ) → k < length ms → ((j : ℕ) → get_or ms j 0 < 256 ^ 4) → le_at 4 (mpid_bytes ms) (4 * k) ≡ get_or ms k 0
unfolding mpid_bytes bytes_of le_at
mpid_bytes_lem [] k h small = absurd (omega arith)
mpid_bytes_lem (m ∷ ms) zero h small = le_at_bytes_of 4 m (small 0)
mpid_bytes_lem (m ∷ ms) (suc k) h small =
    later m ms k ∙ mpid_bytes_lem ms k (omega arith) (λ j. small (suc j))
  where
    later : (m : ℕ) (ms : List ℕ) (k : ℕ) → le_at 4 (bytes_of 4 m ++ mpid_bytes ms) (4 * suc k) ≡ le_at 4 (mpid_bytes ms) (4 * k)
    later m ms k =
        le_at_ext 4 (bytes_of 4 m ++ mpid_bytes ms) (mpid_bytes ms) (4 * suc k) (4 * k) (λ j l.
        let e : 4 * suc k + j ≡ length (bytes_of 4 m) + (4 * k + j) = omega (arith, length_bytes_of 4 m) in
        ap (λ (q : ℕ). get_or (bytes_of 4 m ++ mpid_bytes ms) q 0) e ∙ get_or-append-add (bytes_of 4 m) (mpid_bytes ms) (4 * k + j) 0)

-- ---- the table that opening writes

module _ (q : Instrument) (venue port code : List ℕ) (first : ℕ) (mpids modes : List ℕ) (h : are_settings q venue port code first mpids modes ≡ true) where
  names : are_names q venue port code ≡ true
  names = settings_names q venue port code first mpids modes h

  given : are_given mpids modes ≡ true
  given = settings_given q venue port code first mpids modes h

  few : length mpids ≤ 8
  few = given_few mpids modes given

  as_many : length modes ≡ length mpids
  as_many = given_same mpids modes given

  -- the tables on the way
  abbrev named : List ℕ
  named = named_table venue port code

  long_named : length named ≡ table_bytes
  unfolding named_table
  long_named =
      length_put (put_port (put_venue (replicate 32768 0) venue) port) 18 (text_bytes 9 code)
      ∙ length_put (put_venue (replicate 32768 0) venue) 9 (text_bytes 8 port)
      ∙ length_put (replicate 32768 0) 0 (text_bytes 8 venue) ∙ length-replicate {A = ℕ} 32768 0

  abbrev numbered : List ℕ
  numbered = put_next named first

  long_numbered : length numbered ≡ table_bytes
  long_numbered = length_put named 28 (bytes_of 4 first) ∙ long_named

  abbrev noted : List ℕ
  noted = put_kind numbered q

  long_noted : length noted ≡ table_bytes
  long_noted = length_put numbered 55 (kind_number q ∷ []) ∙ long_numbered

  abbrev listed : List ℕ
  listed = put_mpids noted mpids

  long_listed : length listed ≡ table_bytes
  long_listed = length_put noted 56 (mpid_bytes mpids) ∙ long_noted

  abbrev fresh : List ℕ
  fresh = put_modes listed modes

  fresh_is : fresh_table q venue port code first mpids modes ≡ fresh
  unfolding fresh_table
  fresh_is = refl

  pub long_fresh : length fresh ≡ table_bytes
  long_fresh = length_put listed 88 modes ∙ long_listed

  -- what is written neither by the names, nor as the first number, nor as the kind, nor in the lists is zero
  zero_named : (p : ℕ) → 28 ≤ p → get_or named p 0 ≡ 0
  unfolding named_table
  zero_named p l =
      let a = length_text_bytes 8 venue (venue_short q venue port code names) in
      let b = length_text_bytes 8 port (port_short q venue port code names) in
      let c = length_text_bytes 9 code (code_short q venue port code names) in
      byte_off (put_port (put_venue (replicate 32768 0) venue) port) 18 (text_bytes 9 code) p (inr (omega arith))
      ∙ byte_off (put_venue (replicate 32768 0) venue) 9 (text_bytes 8 port) p (inr (omega arith))
      ∙ byte_off (replicate 32768 0) 0 (text_bytes 8 venue) p (inr (omega arith)) ∙ byte_zero 32768 p

  zero_fresh : (p : ℕ) → 32 ≤ p → (p < 55) ⊎ (56 + 4 * length mpids ≤ p) → (p < 88) ⊎ (88 + length modes ≤ p) → get_or fresh p 0 ≡ 0
  zero_fresh p l x y =
      byte_off listed 88 modes p y
      ∙ byte_off noted 56 (mpid_bytes mpids) p (⊎_elim (λ (z : p < 55). inl (omega arith)) (λ (z : 56 + 4 * length mpids ≤ p). inr (omega (arith, length_mpids mpids))) x)
      ∙ byte_off numbered 55 (kind_number q ∷ []) p (⊎_elim (λ (z : p < 55). inl z) (λ (z : 56 + 4 * length mpids ≤ p). inr (omega arith)) x)
      ∙ byte_off named 28 (bytes_of 4 first) p (inr (omega (arith, length_bytes_of 4 first)))
      ∙ zero_named p (omega arith)

  -- ---- the settings

  -- the names stand as they were put
  same_names : Same fresh named 0 28
  same_names =
      same_then (put_below listed 88 modes 0 28 (lit≤ tt))
      (same_then (put_below noted 56 (mpid_bytes mpids) 0 28 (lit≤ tt))
      (same_then (put_below numbered 55 (kind_number q ∷ []) 0 28 (lit≤ tt)) (put_below named 28 (bytes_of 4 first) 0 28 (lit≤ tt))))

  -- what it trades stands as it was put
  pub fresh_noted : get_or fresh 55 0 ≡ kind_number q
  fresh_noted =
      byte_off listed 88 modes 55 (inl (lit≤ tt)) ∙ byte_off noted 56 (mpid_bytes mpids) 55 (inl (lit≤ tt))
      ∙ get_d_put_in numbered 55 (kind_number q ∷ []) 0 (lit≤ tt) (omega (arith, long_numbered))

  fresh_kind : instrument_of fresh ≡ q
  fresh_kind = kind_noted q fresh fresh_noted

  has_names_lem : has_names fresh ≡ true
  unfolding has_names named_table
  has_names_lem =
      let k = fresh_kind in
      let f : ℕ → Bool = is_code_character q in
      let zeros : List ℕ = replicate 32768 0 in
      let one : List ℕ = put_venue zeros venue in
      let two : List ℕ = put_port one port in
      let v = venue_short q venue port code names in
      let r = port_short q venue port code names in
      let c = code_short q venue port code names in
      let long_one : length one ≡ 32768 = length_put zeros 0 (text_bytes 8 venue) ∙ length-replicate {A = ℕ} 32768 0 in
      let long_two : length two ≡ 32768 = length_put one 9 (text_bytes 8 port) ∙ long_one in
      let sv : Same fresh one 0 9 =
      same_then (same_in 0 9 same_names (lit≤ tt) (lit≤ tt))
      (same_then (put_below two 18 (text_bytes 9 code) 0 9 (lit≤ tt)) (put_below one 9 (text_bytes 8 port) 0 9 (lit≤ tt))) in
      let sp : Same fresh two 9 18 = same_then (same_in 9 18 same_names (lit≤ tt) (lit≤ tt)) (put_below two 18 (text_bytes 9 code) 9 18 (lit≤ tt)) in
      both_i (both_i
      (is_text_same is_graphic 1 8 0 9 sv (lit≤ tt)
      ∙ is_text_put 8 zeros 0 venue (omega (arith, length-replicate {A = ℕ} 32768 0)) v is_graphic 1 (name_some is_graphic 8 venue (venue_name q venue port code names)) (name_every is_graphic 8 venue (venue_name q venue port code names)))
      (is_text_same is_graphic 1 8 9 18 sp (lit≤ tt)
      ∙ is_text_put 8 one 9 port (omega arith) r is_graphic 1 (name_some is_graphic 8 port (port_name q venue port code names)) (name_every is_graphic 8 port (port_name q venue port code names))))
      (rw k
      (is_text_same f 1 9 18 28 (same_in 18 28 same_names (lit≤ tt) (lit≤ tt)) (lit≤ tt)
      ∙ is_text_put 9 two 18 code (omega arith) c f 1 (name_some f 9 code (code_name q venue port code names)) (name_every f 9 code (code_name q venue port code names))))

  -- the lists stand as they were put
  small : (j : ℕ) → get_or mpids j 0 < 256 ^ 4
  small j =
      ⊎_elim (λ (l : j < length mpids). omega (arith, given_high mpids modes j (given_each mpids modes given j l)))
      (λ (l : length mpids ≤ j). omega (arith, get_or-eq_default mpids 0 {n = j} l))
      (below_or j (length mpids))

  mpid_there : (k : ℕ) → k < length mpids → mpid_at fresh k ≡ get_or mpids k 0
  mpid_there k l =
      let e = length_mpids mpids in
      let f = few in
      let z = long_noted in
      le_same 4 (56 + 4 * k) 88 (same_in (56 + 4 * k) 88 (put_below listed 88 modes 56 88 (lit≤ tt)) (omega arith) (lit≤ tt)) (omega arith)
      ∙ le_at_in 4 noted 56 (mpid_bytes mpids) (4 * k) (omega arith) (omega arith)
      ∙ mpid_bytes_lem mpids k l small

  mode_there : (k : ℕ) → k < length mpids → mode_at fresh k ≡ get_or modes k 0
  mode_there k l = get_d_put_in listed 88 modes k (omega (arith, as_many)) (omega (arith, long_listed, few, as_many))

  no_mpid : (k : ℕ) → length mpids ≤ k → k < 8 → mpid_at fresh k ≡ 0
  no_mpid k l m =
      le_at_zero 4 fresh (56 + 4 * k) (λ j i. zero_fresh (56 + 4 * k + j) (omega arith) (inr (omega arith)) (inl (omega arith)))

  fresh_entries : entries fresh ≡ length mpids
  unfolding entries
  fresh_entries =
      first_is (λ k. eqb (mpid_at fresh k) 0) 8 (length mpids) few
      (λ k l.
      let e = mpid_there k l in
      ne_eqb (mpid_at fresh k) 0 (λ z. omega (arith, given_low mpids modes k (given_each mpids modes given k l))))
      (λ l. eq-eqb (mpid_at fresh (length mpids)) 0 (no_mpid (length mpids) (omega arith) l))

  fresh_entry : (k : ℕ) → k < length mpids → is_entry fresh k ≡ true
  unfolding is_entry is_new
  fresh_entry k l =
      let g = given_each mpids modes given k l in
      let e = mpid_there k l in
      let d = mode_there k l in
      let n : is_new mpids k ≡ true = given_new mpids modes k g in
      let a : all_up_to (λ j. not (eqb (mpid_at fresh j) (mpid_at fresh k))) k ≡ true =
      all_ext (λ j. not (eqb (mpid_at fresh j) (mpid_at fresh k))) (λ j. not (eqb (get_or mpids j 0) (get_or mpids k 0))) k
      (λ j i. let c = mpid_there j (omega arith) in rw (c, e))
      ∙ n in
      let x : leb (mpid_at fresh k) 999999 ≡ true = rw e (le-leb _ _ (given_high mpids modes k g)) in
      let y : leb 1 (mode_at fresh k) ≡ true = rw d (le-leb _ _ (mode_low mpids modes k g)) in
      let z : leb (mode_at fresh k) 3 ≡ true = rw d (le-leb _ _ (mode_high mpids modes k g)) in
      both_i (both_i (both_i x y) z) a

  has_list_lem : has_list fresh ≡ true
  unfolding has_list
  has_list_lem =
      let e = fresh_entries in
      let z = long_fresh in
      let s = as_many in
      let f = few in
      let n : ℕ = length mpids in
      rw e
      (both_i (both_i (both_i
      (le-leb 1 n (given_some mpids modes given)) (all_from (is_entry fresh) n fresh_entry))
      (part_zero fresh (56 + 4 * n) (4 * (8 - n)) (omega arith) (λ k l m. zero_fresh k (omega arith) (inr l) (inl (omega arith)))))
      (part_zero fresh (88 + n) (8 - n) (omega arith) (λ k l m. zero_fresh k (omega arith) (inr (omega arith)) (inr (omega arith)))))

  -- ---- nothing else

  fresh_filled : filled fresh ≡ 0
  fresh_filled = filled_is fresh 0 (omega arith) (λ i l m. absurd (omega arith)) (λ l. zero_fresh 128 (lit≤ tt) (inr (omega (arith, few))) (inr (omega (arith, few, as_many))))

  fresh_book : book_of fresh ≡ []
  unfolding book_of orders_from
  fresh_book = let e = fresh_filled in rw e

  fresh_next : next_of fresh ≡ first
  fresh_next =
      next_same
      (same_then (put_below listed 88 modes 28 32 (lit≤ tt))
      (same_then (put_below noted 56 (mpid_bytes mpids) 28 32 (lit≤ tt)) (put_below numbered 55 (kind_number q ∷ []) 28 32 (lit≤ tt))))
      ∙ next_got named first (omega (arith, settings_high q venue port code first mpids modes h)) (omega (arith, long_named))

  fresh_work : work_of fresh ≡ 0
  fresh_work = zero_fresh 32 (lit≤ tt) (inl (lit≤ tt)) (inl (lit≤ tt))

  -- what opening writes is a market
  pub fresh_market : Market (fresh_table q venue port code first mpids modes)
  unfolding has_settings rest_zero
  fresh_market =
      let z = long_fresh in
      let e = fresh_filled in
      let b = fresh_book in
      let w = fresh_work in
      let x = fresh_next in
      let s = as_many in
      let f = few in
      rw fresh_is
      (record {
        long = z;
        settings = both_i has_names_lem has_list_lem;
        next_low = omega (arith, settings_low q venue port code first mpids modes h);
        work = none_work fresh w (part_zero fresh 33 22 (omega arith) (λ k l m. zero_fresh k (omega arith) (inl (omega arith)) (inl (omega arith))));
        kind = noted_kind q fresh fresh_noted;
        rest = rw e (rest_of_zero fresh 128 (λ k l. zero_fresh k (omega arith) (inr (omega arith)) (inr (omega arith))));
        records = λ i l m. absurd (omega arith);
        ids = λ j k l m n. absurd (omega arith);
        order_ids = fresh_none _ _ _ e;
        decision = undecided (book_of fresh) (work_of fresh) (decided_of fresh) (zero_fresh 96 (omega arith) (inr (omega arith)) (inr (omega arith)));
        held = rw (b, w, x) (opened_held (is_listed fresh) first (omega (arith, settings_high q venue port code first mpids modes h)));
        quoted = λ i l m. absurd (omega arith);
        best = has_best_none fresh z w b
            (part_zero fresh 97 31 (omega arith) (λ k l m. zero_fresh k (omega arith) (inr (omega arith)) (inr (omega arith))));
      })

  pub fresh_instrument : instrument_of (fresh_table q venue port code first mpids modes) ≡ q
  fresh_instrument = rw fresh_is fresh_kind

-- a market of what it is opened for is what opening leaves wherever it does not refuse
pub opened_market : (q : Instrument) (t venue port code : List ℕ) (first : ℕ) (mpids modes : List ℕ) → is_opening q t venue port code first mpids modes ≡ true
    → is_market_of q (opened q t venue port code first mpids modes) ≡ true
unfolding is_opening opened
opened_market q t venue port code first mpids modes h =
    let g = both_r (eqb (length t) 32768) (are_settings q venue port code first mpids modes) h in
    let u : List ℕ = fresh_table q venue port code first mpids modes in
    let m = fresh_market q venue port code first mpids modes g in
    rw h (instrument_market q u (facts_market u m) m.kind (fresh_instrument q venue port code first mpids modes g))
