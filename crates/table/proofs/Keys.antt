-- The searches among the records of a market: a step of halving, the bytes of a ClOrdID as a record holds it, and keys that differ.
use mathlib.Core.Path.{◌≡◌, sym, ap, ◌∙◌}
use mathlib.Core.Bool.{Bool, true, false}
use mathlib.Core.List.{List, ◌++◌}
use mathlib.Core.Logic.{⊎_elim}
use Prim.Native.Nat.{ℕ, zero, suc, ◌+◌, ◌-◌, ◌*◌, ◌≤◌, ◌<◌}
use native.Mathlib.Nat.{add-zero}
use native.Mathlib.Omega.{arith}
use lib.ListN.{length, get_or, drop, replicate, get_or-replicate, get_or-append}
use lib.Seq.{get_or-append-add, get_or-drop}
use borrow.Author.Tests.{le-ltb}
use Rattle.octets.specs.Octets.{le_at, put, part_at, text_at, text_bytes, same_bytes, all_zero}
use Rattle.octets.specs.Tests.{first_from}
use Rattle.octets.proofs.Bools.{split, both_r}
use Rattle.octets.proofs.Places.{below_or, le_at_ext, le_at_in}
use Rattle.octets.proofs.Parts.{get_d_part, length_text, get_d_text, length_text_bytes, same_is}
use Rattle.octets.proofs.Searches.{first_is}
use Rattle.octets.proofs.Zeros.{zero_at}
use Rattle.table.specs.declared.ids.Key.{Key}
use Rattle.table.specs.Orders.{cl_ord_id_at, filled, first_record, record_with}
use Rattle.table.specs.Market.{is_padded, is_text, is_printable, rest_zero}
use Rattle.table.specs.Facts.{Market}
use Rattle.table.specs.Keys.{Halved, Keyed}
use Rattle.table.proofs.Same.{filled_few}
use Rattle.table.proofs.Frames.{filled_byte}
use Rattle.table.proofs.Texts.{text_high}
use Rattle.table.proofs.Naming.{record_id}
use Rattle.table.proofs.Promises.{id_spelt}

-- ---- the number of filled records

-- the first byte of a record behind the filled ones
rest_byte : (t : List ℕ) (k : ℕ) → Market t → filled t < k → get_or t (128 * k) 0 ≡ 0
unfolding rest_zero
rest_byte t k m h =
    let p : ℕ = 128 * (filled t + 1) in
    let e : p + (128 * k - p) ≡ 128 * k = omega arith in
    let z : get_or (drop p t) (128 * k - p) 0 ≡ 0 = zero_at (drop p t) m.rest (128 * k - p) in
    ap (λ (j : ℕ). get_or t j 0) (sym e) ∙ sym (get_or-drop p t (128 * k - p) 0) ∙ z

module _ (t : List ℕ) (from many : ℕ) (h : Halved t from (many + many)) (l : 1 ≤ many) where
  pub probe_within : Market t → 128 * (from + many) < length t
  probe_within m = omega (arith, h.within, m.long)

  -- nothing stands at the place in the middle, or something does
  pub halved_low : get_or t (128 * (from + many)) 0 ≡ 0 → Halved t from many
  halved_low e =
      ⊎_elim
      (λ (x : filled t < from + many). record { within = omega (arith, h.within); least = h.least; most = x })
      (λ (x : from + many ≤ filled t). absurd (filled_byte t (from + many) (omega arith) x e))
      (below_or (filled t) (from + many))

  pub halved_high : Market t → (get_or t (128 * (from + many)) 0 ≡ 0 → ⊥) → Halved t (from + many) many
  halved_high m n =
      ⊎_elim
      (λ (x : filled t < from + many). absurd (n (rest_byte t (from + many) m x)))
      (λ (x : from + many ≤ filled t). record { within = omega (arith, h.within); least = x; most = omega (arith, h.most) })
      (below_or (filled t) (from + many))

pub halved_whole : (t : List ℕ) → Halved t 0 256
halved_whole t = record { within = omega arith; least = omega arith; most = omega (arith, filled_few t) }

pub halved_end : (t : List ℕ) (r : ℕ) → Halved t r 1 → r ≡ filled t
halved_end t r h = omega (arith, h.least, h.most)

-- ---- a text as it is held

module _ (f : ℕ → Bool) (low n : ℕ) (t : List ℕ) (p : ℕ) (h : is_text f low n t p ≡ true) (room : p + 1 + n ≤ length t) where
  padding : all_zero (part_at t (p + 1 + get_or t p 0) (n - get_or t p 0)) ≡ true
  unfolding is_text is_padded
  padding = search both_r

  held_byte : (j : ℕ) → j < suc n → get_or t (p + j) 0 ≡ get_or (text_bytes n (text_at t p)) j 0
  unfolding text_bytes
  held_byte zero l = ap (λ (k : ℕ). get_or t k 0) (add-zero p) ∙ sym (length_text t p n room (text_high f low n t p h))
  held_byte (suc k) l =
      let xs : List ℕ = text_at t p in
      let q : length xs ≡ get_or t p 0 = length_text t p n room (text_high f low n t p h) in
      let zeros : List ℕ = replicate (n - length xs) 0 in
      ⊎_elim
      (λ (x : k < length xs).
      let e : p + suc k ≡ p + 1 + k = omega arith in
      ap (λ (j : ℕ). get_or t j 0) e ∙ sym (get_d_text t p k (omega arith)) ∙ sym (get_or-append xs zeros 0 k x))
      (λ (x : length xs ≤ k).
      let e : p + suc k ≡ p + 1 + get_or t p 0 + (k - get_or t p 0) = omega arith in
      let d : length xs + (k - length xs) ≡ k = omega arith in
      let z : get_or (part_at t (p + 1 + get_or t p 0) (n - get_or t p 0)) (k - get_or t p 0) 0 ≡ 0 = zero_at _ padding (k - get_or t p 0) in
      let y : get_or (xs ++ zeros) (length xs + (k - length xs)) 0 ≡ 0 =
      get_or-append-add xs zeros (k - length xs) 0 ∙ get_or-replicate (n - length xs) (k - length xs) 0 0 (omega arith) in
      ap (λ (j : ℕ). get_or t j 0) e ∙ sym (get_d_part t (p + 1 + get_or t p 0) (n - get_or t p 0) (k - get_or t p 0) (omega arith)) ∙ z
      ∙ sym (rw d at y))
      (below_or k (length xs))

-- ---- keys

pub record_few : (t : List ℕ) (n k : ℕ) → n ≡ filled t → k < n → k + 1 ≤ 255
record_few t n k e h = omega (arith, filled_few t)

pub number_first : (t : List ℕ) (i : ℕ) → Market t → i ≤ 255 → 128 * i + 8 ≤ length t
number_first t i m h = omega (arith, m.long)

pub number_within : (t : List ℕ) (i o : ℕ) → Market t → i ≤ 255 → o ≤ 24 → 128 * i + o + 8 ≤ length t
number_within t i o m h l = omega (arith, m.long)

-- a record that has a ClOrdID holds the numbers of its key
module _ (t : List ℕ) (i : ℕ) (m : Market t) (low : 1 ≤ i) (high : i ≤ filled t) (xs : List ℕ) where
  held_number : (o : ℕ) → o + 8 ≤ 33 → same_bytes (cl_ord_id_at t i) xs ≡ true → le_at 8 t (128 * i + o) ≡ le_at 8 (text_bytes 32 xs) o
  held_number o l e =
      rw (← same_is (cl_ord_id_at t i) xs e)
      (le_at_ext 8 t (text_bytes 32 (cl_ord_id_at t i)) (128 * i + o) o (λ k b.
      let a : 128 * i + o + k ≡ 128 * i + (o + k) = omega arith in
      ap (λ (j : ℕ). get_or t j 0) a
      ∙ held_byte is_printable 1 32 t (128 * i) (record_id t i (m.records i low high)) (omega (arith, m.long, filled_few t)) (o + k) (omega arith)))

  differs : (o x y : ℕ) → o + 8 ≤ 33 → x ≡ le_at 8 t (128 * i + o) → y ≡ le_at 8 (text_bytes 32 xs) o → (x ≡ y → ⊥)
      → false ≡ same_bytes (cl_ord_id_at t i) xs
  differs o x y l p q n =
      split (same_bytes (cl_ord_id_at t i) xs) (λ e. absurd (n (p ∙ held_number o l e ∙ sym q))) sym

  module _ (key : Key) (g : Keyed xs key) (x : ℕ) where
    pub other_first : x ≡ le_at 8 t (128 * i) → (x ≡ key.first → ⊥) → false ≡ same_bytes (cl_ord_id_at t i) xs
    other_first p n = differs 0 x key.first (omega arith) (p ∙ ap (le_at 8 t) (sym (add-zero (128 * i)))) g.first n

    pub other_second : x ≡ le_at 8 t (128 * i + 8) → (x ≡ key.second → ⊥) → false ≡ same_bytes (cl_ord_id_at t i) xs
    other_second p n = differs 8 x key.second (omega arith) p g.second n

    pub other_third : x ≡ le_at 8 t (128 * i + 16) → (x ≡ key.third → ⊥) → false ≡ same_bytes (cl_ord_id_at t i) xs
    other_third p n = differs 16 x key.third (omega arith) p g.third n

    pub other_fourth : x ≡ le_at 8 t (128 * i + 24) → (x ≡ key.fourth → ⊥) → false ≡ same_bytes (cl_ord_id_at t i) xs
    other_fourth p n = differs 24 x key.fourth (omega arith) p g.fourth n

pub key_is : (m held u : List ℕ) (key : Key) → length m ≤ 32 → length held ≡ 33 → u ≡ put held 0 (text_bytes 32 m) → key.first ≡ le_at 8 u 0
    → key.second ≡ le_at 8 u 8 → key.third ≡ le_at 8 u 16 → key.fourth ≡ le_at 8 u 24 → Keyed m key
key_is m held u key h l e a b c d =
    let n : length (text_bytes 32 m) ≡ 33 = length_text_bytes 32 m h in
    let at : (k : ℕ) → k + 8 ≤ 33 → le_at 8 u (0 + k) ≡ le_at 8 (text_bytes 32 m) k =
    λ k s. ap (λ (v : List ℕ). le_at 8 v (0 + k)) e ∙ le_at_in 8 held 0 (text_bytes 32 m) k (omega arith) (omega arith) in
    record {
      first = a ∙ at 0 (omega arith);
      second = b ∙ at 8 (omega arith);
      third = c ∙ at 16 (omega arith);
      fourth = d ∙ at 24 (omega arith);
    }

-- ---- no record has a ClOrdID where none is filled, nor one that is too long

none_with : (t : List ℕ) (n : ℕ) (xs : List ℕ) → ((i : ℕ) → 1 ≤ i → i ≤ n → same_bytes (cl_ord_id_at t i) xs ≡ false) → 0 ≡ record_with t n xs
unfolding record_with first_record
none_with t n xs h =
    let f : ℕ → Bool = λ j. same_bytes (cl_ord_id_at t (j + 1)) xs in
    let e : first_from f 0 n ≡ n = first_is f n n (omega arith) (λ j l. h (j + 1) (omega arith) (omega arith)) (λ l. absurd (omega arith)) in
    rw (e, le-ltb n n (omega arith))

pub none_filled : (t : List ℕ) (n : ℕ) (xs : List ℕ) → n ≡ 0 → 0 ≡ record_with t n xs
none_filled t n xs e = none_with t n xs (λ i l h. absurd (omega arith))

pub none_long : (t : List ℕ) (n : ℕ) (xs : List ℕ) → Market t → n ≡ filled t → 32 < length xs → 0 ≡ record_with t n xs
none_long t n xs m e l =
    none_with t n xs (λ i a b.
    split (same_bytes (cl_ord_id_at t i) xs)
    (λ z.
    let s : length (cl_ord_id_at t i) ≡ length xs = ap length (same_is (cl_ord_id_at t i) xs z) in
    absurd (omega (arith, (id_spelt t m i a (omega arith)).most)))
    (λ z. z))
