-- The room of a ClOrdID as four numbers: zeros stand behind the text and each of its characters is above zero, so two texts are the
-- same exactly if their numbers are.
use Rattle.std.proofs.Common.{◌≡◌, ℕ, zero, suc, ◌+◌, ◌-◌, ◌*◌, ◌/◌, ◌%◌, ◌^◌, ◌<◌, ◌≤◌, Bool, true, false, ◌&&◌, eqb, leb, List, [], ◌∷◌, length, get_or, sym, refl, ap, ◌∙◌, ⊎_elim, not-suc-le-zero, add-zero, arith, ext_get_or, w64, Fits, eq-eqb, eqb-true, leb-true}
use lib.ListN.{get_or-eq_default}
use Rattle.octets.specs.Octets.{le_at, part_at, text_at, same_bytes, Bytes}
use Rattle.octets.proofs.Bools.{split, not_both, both_l, both_r}
use Rattle.octets.proofs.Places.{below_or, le_at_ext}
use Rattle.octets.proofs.Parts.{get_d_part, length_text, get_d_text, same_is, is_same}
use Rattle.octets.proofs.Ranges.{all_at}
use Rattle.octets.proofs.Zeros.{zero_at}
use Rattle.table.specs.Places.{record_at}
use Rattle.table.specs.Orders.{cl_ord_id_at, filled}
use Rattle.table.specs.Market.{every, is_printable, is_padded, is_text, is_record, is_order, has_orders}
use Rattle.table.proofs.Texts.{text_high, text_every}
use Rattle.audit.specs.declared.marks.Id.{Id}
use Rattle.audit.specs.Checking.{id_from, id_at, key_of}

-- ---- numbers that are the same have the same bytes
bytes_same : (n : ℕ) (t u : List ℕ) (p q : ℕ) → Bytes t → Bytes u → le_at n t p ≡ le_at n u q → (k : ℕ) → k < n → get_or t (p + k) 0 ≡ get_or u (q + k) 0
unfolding le_at
bytes_same zero t u p q b c e k l = absurd (not-suc-le-zero l)
bytes_same (suc n) t u p q b c e zero l = rw (add-zero p, add-zero q) (omega (arith, e, b p, c q))
bytes_same (suc n) t u p q b c e (suc k) l =
    let d : le_at n t (p + 1) ≡ le_at n u (q + 1) = omega (arith, e, b p, c q) in
    let x : p + suc k ≡ p + 1 + k = omega arith in
    let y : q + suc k ≡ q + 1 + k = omega arith in
    ap (λ (z : ℕ). get_or t z 0) x ∙ bytes_same n t u (p + 1) (q + 1) b c d k (omega arith) ∙ ap (λ (z : ℕ). get_or u z 0) (sym y)

-- ---- a printable text of up to 32 characters
every_at : (f : ℕ → Bool) (xs : List ℕ) → every f xs ≡ true → (k : ℕ) → k < length xs → f (get_or xs k 0) ≡ true
unfolding every
every_at f [] h k l = absurd (not-suc-le-zero l)
every_at f (x ∷ xs) h zero l = both_l (f x) (every f xs) h
every_at f (x ∷ xs) h (suc k) l = every_at f xs (both_r (f x) (every f xs) h) k (omega arith)

pub record Printable (xs : List ℕ) : Type 0 where
  pub bytes : Bytes xs
  pub short : length xs ≤ 32
  pub above : (k : ℕ) → k < length xs → 0 < get_or xs k 0

module _ (xs ys : List ℕ) (g : Printable xs) (h : Printable ys) (e : id_from xs 0 ≡ id_from ys 0) where
  among : (m k : ℕ) → le_at 8 xs m ≡ le_at 8 ys m → m ≤ k → k < m + 8 → get_or xs k 0 ≡ get_or ys k 0
  among m k f l n =
      let z : m + (k - m) ≡ k = omega arith in
      rw z at (bytes_same 8 xs ys m m g.bytes h.bytes f (k - m) (omega arith))

  each : (k : ℕ) → k < 32 → get_or xs k 0 ≡ get_or ys k 0
  unfolding id_from
  each k l =
      ⊎_elim (λ (m : k < 8). among 0 k (ap (λ (x : Id). x.a) e) (omega arith) (omega arith))
      (λ (m : 8 ≤ k). ⊎_elim (λ (o : k < 16). among 8 k (ap (λ (x : Id). x.b) e) (omega arith) (omega arith))
      (λ (o : 16 ≤ k). ⊎_elim (λ (q : k < 24). among 16 k (ap (λ (x : Id). x.c) e) (omega arith) (omega arith))
      (λ (q : 24 ≤ k). among 24 k (ap (λ (x : Id). x.d) e) (omega arith) (omega arith)) (below_or k 24)) (below_or k 16)) (below_or k 8)

  not_shorter : length xs ≤ length ys
  not_shorter =
      ⊎_elim
      (λ (l : length ys < length xs).
      let z : get_or ys (length ys) 0 ≡ 0 = get_or-eq_default ys 0 (omega arith) in
      absurd (omega (arith, each (length ys) (omega (arith, g.short)), z, g.above (length ys) l)))
      (λ (l : length xs ≤ length ys). l)
      (below_or (length ys) (length xs))

id_text : (xs ys : List ℕ) → Printable xs → Printable ys → id_from xs 0 ≡ id_from ys 0 → xs ≡ ys
id_text xs ys g h e =
    let l = not_shorter xs ys g h e in
    let m = not_shorter ys xs h g (sym e) in
    ext_get_or 0 xs ys (omega arith) (λ k n. each xs ys g h e k (omega (arith, g.short)))

-- ---- a text in its room
module _ (t : List ℕ) (p : ℕ) (long : p + 33 ≤ length t) (good : is_text is_printable 1 32 t p ≡ true) where
  padded : is_padded 32 t p ≡ true
  unfolding is_text
  padded = search both_r

  size : length (text_at t p) ≡ get_or t p 0
  size = length_text t p 32 (omega arith) (text_high is_printable 1 32 t p good)

  room_byte : (k : ℕ) → k < 32 → get_or t (p + 1 + k) 0 ≡ get_or (text_at t p) k 0
  unfolding is_padded
  room_byte k l =
      ⊎_elim
      (λ (m : k < get_or t p 0). sym (get_d_text t p k m))
      (λ (m : get_or t p 0 ≤ k).
      let n : ℕ = get_or t p 0 in
      let z : get_or (part_at t (p + 1 + n) (32 - n)) (k - n) 0 ≡ 0 = zero_at _ padded (k - n) in
      let y : get_or (part_at t (p + 1 + n) (32 - n)) (k - n) 0 ≡ get_or t (p + 1 + n + (k - n)) 0 = get_d_part t (p + 1 + n) (32 - n) (k - n) (omega arith) in
      let x : p + 1 + n + (k - n) ≡ p + 1 + k = omega arith in
      let w : get_or (text_at t p) k 0 ≡ 0 = get_or-eq_default (text_at t p) 0 (omega (arith, size)) in
      ap (λ (q : ℕ). get_or t q 0) (sym x) ∙ sym y ∙ z ∙ sym w)
      (below_or k (get_or t p 0))

  room_number : (m q : ℕ) → m + 8 ≤ 32 → q ≡ p + 1 + m → le_at 8 t q ≡ le_at 8 (text_at t p) m
  room_number m q l e =
      le_at_ext 8 t (text_at t p) q m (λ k n.
      let z : q + k ≡ p + 1 + (m + k) = omega arith in
      ap (λ (j : ℕ). get_or t j 0) z ∙ room_byte (m + k) (omega arith))

  room_id : id_from t (p + 1) ≡ id_from (text_at t p) 0
  unfolding id_from
  room_id =
      λ j. record {
        a = room_number 0 (p + 1) (omega arith) (omega arith) j;
        b = room_number 8 (p + 1 + 8) (omega arith) refl j;
        c = room_number 16 (p + 1 + 16) (omega arith) refl j;
        d = room_number 24 (p + 1 + 24) (omega arith) refl j;
      }

  printable : Bytes t → Printable (text_at t p)
  printable b =
      record {
        bytes = λ k. ⊎_elim
            (λ (m : k < get_or t p 0). rw (get_d_text t p k m) (b (p + 1 + k)))
            (λ (m : get_or t p 0 ≤ k).
            let w : get_or (text_at t p) k 0 ≡ 0 = get_or-eq_default (text_at t p) 0 (omega (arith, size)) in
            rw w (omega arith))
            (below_or k (get_or t p 0));
        short = omega (arith, size, text_high is_printable 1 32 t p good);
        above = λ k l.
            let h : is_printable (get_or (text_at t p) k 0) ≡ true = every_at is_printable (text_at t p) (text_every is_printable 1 32 t p good) k l in
            omega (arith, leb-true 32 (get_or (text_at t p) k 0) (both_l _ (leb (get_or (text_at t p) k 0) 126) h));
      }

-- ---- four numbers compared, by the test that the derived one makes
pub id_same : (x y : Id) (r : Bool) → r ≡ (eqb x.a y.a && (eqb x.b y.b && (eqb x.c y.c && eqb x.d y.d))) → r ≡ true → x ≡ y
id_same x y r e h =
    let a : (eqb x.a y.a && (eqb x.b y.b && (eqb x.c y.c && eqb x.d y.d))) ≡ true = sym e ∙ h in
    let b : (eqb x.b y.b && (eqb x.c y.c && eqb x.d y.d)) ≡ true = both_r (eqb x.a y.a) _ a in
    let c : (eqb x.c y.c && eqb x.d y.d) ≡ true = both_r (eqb x.b y.b) _ b in
    λ j. record {
      a = eqb-true x.a y.a (both_l _ (eqb x.b y.b && (eqb x.c y.c && eqb x.d y.d)) a) j;
      b = eqb-true x.b y.b (both_l _ (eqb x.c y.c && eqb x.d y.d) b) j;
      c = eqb-true x.c y.c (both_l _ (eqb x.d y.d) c) j;
      d = eqb-true x.d y.d (both_r (eqb x.c y.c) _ c) j;
    }

pub id_differs : (x y : Id) (r : Bool) → r ≡ (eqb x.a y.a && (eqb x.b y.b && (eqb x.c y.c && eqb x.d y.d))) → r ≡ false → x ≡ y → ⊥
id_differs x y r e h same =
    not_both (e ∙ rw (same, eq-eqb y.a y.a refl, eq-eqb y.b y.b refl, eq-eqb y.c y.c refl, eq-eqb y.d y.d refl)) h

-- ---- the ClOrdIDs of orders
module _ (t : List ℕ) (long : length t ≡ 32768) (n : ℕ) (e : n ≡ filled t) (most : n ≤ 255) (h : has_orders t ≡ true) where
  good_id : (k : ℕ) → k < n → is_text is_printable 1 32 t (record_at (k + 1)) ≡ true
  unfolding has_orders is_order is_record
  good_id k l =
      let o = all_at (λ j. is_order t (j + 1)) (filled t) h k (omega arith) in
      search both_l depth 12

  pub id_is : (k : ℕ) → k < n → id_at t (k + 1) ≡ id_from (cl_ord_id_at t (k + 1)) 0
  id_is k l = room_id t (record_at (k + 1)) (omega arith) (good_id k l)

  module _ (b : Bytes t) (i j : ℕ) (l : i < n) (m : j < n) where
    pub same_ids : id_at t (i + 1) ≡ id_at t (j + 1) → same_bytes (cl_ord_id_at t (i + 1)) (cl_ord_id_at t (j + 1)) ≡ true
    same_ids d =
        let xs : List ℕ = cl_ord_id_at t (i + 1) in
        let ys : List ℕ = cl_ord_id_at t (j + 1) in
        let g : Printable xs = printable t (record_at (i + 1)) (omega arith) (good_id i l) b in
        let o : Printable ys = printable t (record_at (j + 1)) (omega arith) (good_id j m) b in
        rw (id_text xs ys g o (sym (id_is i l) ∙ d ∙ id_is j m)) (is_same ys)

    pub other_ids : (id_at t (i + 1) ≡ id_at t (j + 1) → ⊥) → same_bytes (cl_ord_id_at t (i + 1)) (cl_ord_id_at t (j + 1)) ≡ false
    other_ids d =
        let xs : List ℕ = cl_ord_id_at t (i + 1) in
        let ys : List ℕ = cl_ord_id_at t (j + 1) in
        split (same_bytes xs ys)
        (λ v. absurd (d (id_is i l ∙ ap (λ (zs : List ℕ). id_from zs 0) (same_is xs ys v) ∙ sym (id_is j m))))
        (λ v. v)

-- ---- the numbers read, and the key
pub id_read : (t : List ℕ) (i a b c d : ℕ) → a ≡ le_at 8 t (128 * i + 1) → b ≡ le_at 8 t (128 * i + 1 + 8) → c ≡ le_at 8 t (128 * i + 1 + 16) → d ≡ le_at 8 t (128 * i + 1 + 24)
    → record { a = a; b = b; c = c; d = d } ≡ id_at t i
unfolding id_from
id_read t i a b c d e f g h = rw (e, f, g, h)

halves_fit : (x y : ℕ) → x < 4294967296 → y < 4294967296 → Fits w64 (x * 1865102357 + y * 1300110261)
halves_fit x y l m = omega arith

high_half : (s : ℕ) → Fits w64 s → s / 4294967296 < 4294967296
high_half s l = omega arith

pub key_fits : (s : ℕ) → Fits w64 s → Fits w64 (s % 4294967296 * 1865102357 + s / 4294967296 * 1300110261)
key_fits s l = halves_fit (s % 4294967296) (s / 4294967296) (omega arith) (high_half s l)

pub key_is : (x : Id) (first last s : ℕ) → first ≡ (x.a + x.b) % 2 ^ 64 → last ≡ (x.c + x.d) % 2 ^ 64 → s ≡ (first + last) % 2 ^ 64
    → s % 4294967296 * 1865102357 + s / 4294967296 * 1300110261 ≡ key_of x
unfolding key_of
key_is x first last s e f g = rw (g, e, f)
