-- Good blocks and the images that have nothing else: whether a block is good is seen in it alone; all blocks of a table's image are good, and
-- the table in it is the table; a byte changed, and two blocks exchanged, make a block bad; an image whose blocks are all good is
-- the image of the table in it. Bytes are below 256, as those of a slice are.
use mathlib.Core.Path.{◌≡◌, refl, sym, ap, ◌∙◌}
use mathlib.Core.Bool.{Bool, true, false, not, ◌&&◌}
use mathlib.Core.List.{List, [], ◌∷◌, ◌++◌, append_assoc}
use mathlib.Core.Logic.{◌⊎◌, inr, ⊎_elim}
use Prim.Native.Nat.{ℕ, zero, suc, ◌+◌, ◌*◌, ◌-◌, ◌≤◌, ◌<◌, ◌^◌}
use native.Mathlib.Nat.{eq_of_mul-eq-mul_left}
use native.Mathlib.Omega.{arith}
use borrow.Author.Tests.{eq-eqb, ne_eqb, eqb-true, not-false}
use lib.Dec.{eqb}
use lib.ListN.{length, get_or, set, take, drop, replicate, length-append, length-set, length-drop, length-replicate, take-append-drop, get_or-replicate, get_or-eq_default}
use lib.Seq.{take-take, take-append-le, drop-append-le, take-set-lt, take-set-le, drop-set-add, get_or-append-add, take_all, take_at, get_or-set_same, get_or-set_other, get_or-drop, get_or-take, length-take-le}
use Rattle.octets.specs.Octets.{put, part_at, le_at, bytes_of, all_zero, Bytes}
use Rattle.octets.proofs.Bools.{both_i, both_l, both_r, both_not_l}
use Rattle.octets.proofs.Searches.{first_is, first_before}
use Rattle.octets.proofs.Places.{below_or, length_bytes_of, le_at_bytes_of, le_at_ext, length_put, put_same}
use Rattle.octets.proofs.Parts.{length_part, get_d_part, part_ext, part_below}
use Rattle.octets.proofs.Zeros.{zero_is, zero_from}
use Rattle.table.specs.Places.{table_bytes}
use Rattle.image.specs.Image.{image_bytes, in_turn, weighed, check_of, block_data, block_of, image_of, block_in, data_in, check_in, kept_in, filling_in, is_checked, is_good, first_bad, table_in, exchanged}
use Rattle.image.proofs.Sums.{weighed_set, weighed_most}
use Rattle.image.proofs.Turns.{turn_ext, turn_more, turn_parts, part_turn}
use Rattle.image.proofs.Blocks.{part_most, part_put, length_data, length_block, length_data_in, part_both}

-- ---- bytes of bytes are bytes

bytes_append : (xs ys : List ℕ) → Bytes xs → Bytes ys → Bytes (xs ++ ys)
bytes_append [] ys f g k = g k
bytes_append (x ∷ xs) ys f g zero = f 0
bytes_append (x ∷ xs) ys f g (suc k) = bytes_append xs ys (λ i. f (suc i)) g k

bytes_zeros : (n : ℕ) → Bytes (replicate n 0)
bytes_zeros zero k = omega arith
bytes_zeros (suc n) zero = omega arith
bytes_zeros (suc n) (suc k) = bytes_zeros n k

bytes_part : (t : List ℕ) (p n : ℕ) → Bytes t → Bytes (part_at t p n)
bytes_part t p n b k =
    ⊎_elim (λ (l : k < n). rw (get_d_part t p n k l) (b (p + k)))
    (λ (l : n ≤ k). rw (get_or-eq_default (part_at t p n) 0 {n = k} (omega (arith, part_most t p n))) (omega arith))
    (below_or k n)

-- ---- good blocks, all of them or up to one

-- the first bad block is k where all before it are good, and k, if it is a block, is not
pub bad_is : (image : List ℕ) (k : ℕ) → k ≤ 65 → ((i : ℕ) → i < k → is_good image i ≡ true) → (k < 65 → is_good image k ≡ false) → first_bad image ≡ k
unfolding first_bad
bad_is image k l good bad =
    first_is (λ i. not (is_good image i)) 65 k l (λ i j. rw (good i j)) (λ j. rw (bad j))

-- where no block is bad, each is good
pub all_good : (image : List ℕ) → 65 ≤ first_bad image → (k : ℕ) → k < 65 → is_good image k ≡ true
unfolding first_bad
all_good image h k l = not-false _ (first_before (λ i. not (is_good image i)) 0 65 k (omega arith) (omega arith))

-- a check is below 2 ^ 32
pub check_small : (k : ℕ) (d : List ℕ) → k < 65 → length d ≡ 508 → Bytes d → check_of k d < 256 ^ 4
unfolding check_of
check_small k d l n b = omega (arith, weighed_most 508 1 d (omega arith) b)

-- ---- whether a block is good is seen in the block alone

abbrev block_is_good : ℕ → List ℕ → Bool
block_is_good k b = eqb (le_at 4 b 508) (check_of k (take 508 b)) && all_zero (drop (table_bytes - 508 * k) (take 508 b))

pub data_of : (image : List ℕ) (k : ℕ) → data_in image k ≡ take 508 (block_in image k)
unfolding data_in block_in part_at
data_of image k = sym (take-take 508 512 (drop (512 * k) image) (omega arith))

pub check_of_lem : (image : List ℕ) (k : ℕ) → check_in image k ≡ le_at 4 (block_in image k) 508
unfolding check_in block_in
check_of_lem image k =
    le_at_ext 4 image (part_at image (512 * k) 512) (512 * k + 508) 508
    (λ i l. ap (λ (j : ℕ). get_or image j 0) (omega arith) ∙ sym (get_d_part image (512 * k) 512 (508 + i) (omega arith)))

good_block : (image : List ℕ) (k : ℕ) → is_good image k ≡ block_is_good k (block_in image k)
unfolding is_good is_checked filling_in
good_block image k = rw (data_of image k, check_of_lem image k)

good_same : (a b : List ℕ) (k : ℕ) → block_in a k ≡ block_in b k → is_good a k ≡ is_good b k
good_same a b k e = good_block a k ∙ ap (block_is_good k) e ∙ sym (good_block b k)

-- what a good block's check says
pub good_check : (image : List ℕ) (k : ℕ) → is_good image k ≡ true → check_in image k ≡ check_of k (data_in image k)
unfolding is_good is_checked
good_check image k h = eqb-true _ _ (both_l _ (all_zero (filling_in image k)) h)

pub good_filling : (image : List ℕ) (k : ℕ) → is_good image k ≡ true → all_zero (filling_in image k) ≡ true
unfolding is_good
good_filling image k h = both_r (is_checked image k) (all_zero (filling_in image k)) h

-- a block with a check that is not its own is not good
not_good : (image : List ℕ) (k : ℕ) → (check_in image k ≡ check_of k (data_in image k) → ⊥) → is_good image k ≡ false
unfolding is_good is_checked
not_good image k h = both_not_l _ (all_zero (filling_in image k)) (ne_eqb (check_in image k) (check_of k (data_in image k)) h)

-- ---- the blocks of a table's image

module _ (t : List ℕ) (long : length t ≡ table_bytes) where
  pub block_of_lem : (k : ℕ) → k < 65 → block_in (image_of t) k ≡ block_of t k
  unfolding block_in image_of
  block_of_lem k l = part_turn (block_of t) 512 65 k (λ i j. length_block t i long j) l

  pub data_back : (k : ℕ) → k < 65 → data_in (image_of t) k ≡ block_data t k
  unfolding block_of
  data_back k l =
      data_of (image_of t) k ∙ ap (take 508) (block_of_lem k l)
      ∙ take_at (block_data t k) (bytes_of 4 (check_of k (block_data t k))) 508 (length_data t k long l)

  data_bytes : (k : ℕ) → Bytes t → Bytes (block_data t k)
  unfolding block_data
  data_bytes k b = bytes_part (t ++ replicate 252 0) (508 * k) 508 (bytes_append t (replicate 252 0) b (bytes_zeros 252))

  -- behind the table's end there are zeros
  data_zero : (k : ℕ) → k < 65 → (i j : ℕ) → i < 508 → 508 * k + i ≡ table_bytes + j → get_or (block_data t k) i 0 ≡ 0
  unfolding block_data
  data_zero k l i j h e =
      let z : List ℕ = replicate 252 0 in
      let p : 508 * k + i ≡ length t + j = omega arith in
      get_d_part (t ++ z) (508 * k) 508 i h ∙ ap (λ (m : ℕ). get_or (t ++ z) m 0) p ∙ get_or-append-add t z j 0 ∙ get_or-replicate 252 j 0 0 (omega arith)

  pub check_back : (k : ℕ) → k < 65 → Bytes t → check_in (image_of t) k ≡ check_of k (block_data t k)
  unfolding block_of
  check_back k l b =
      let d : List ℕ = block_data t k in
      let n : length d ≡ 508 = length_data t k long l in
      let v : ℕ = check_of k d in
      check_of_lem (image_of t) k ∙ ap (λ (x : List ℕ). le_at 4 x 508) (block_of_lem k l)
      ∙ le_at_ext 4 (d ++ bytes_of 4 v) (bytes_of 4 v) 508 0
      (λ i j. ap (λ (m : ℕ). get_or (d ++ bytes_of 4 v) (m + i) 0) (sym n) ∙ get_or-append-add d (bytes_of 4 v) i 0 ∙ ap (λ (m : ℕ). get_or (bytes_of 4 v) m 0) (omega arith))
      ∙ le_at_bytes_of 4 v (check_small k d l n (data_bytes k b))

  -- the filling is zero
  filling_zero : (k : ℕ) → k < 65 → all_zero (drop (table_bytes - 508 * k) (block_data t k)) ≡ true
  filling_zero k l =
      zero_from (drop (table_bytes - 508 * k) (block_data t k)) (λ j h.
      let n : length (block_data t k) ≡ 508 = length_data t k long l in
      let m : length (drop (table_bytes - 508 * k) (block_data t k)) ≡ 508 - (table_bytes - 508 * k) = length-drop (table_bytes - 508 * k) (block_data t k) ∙ omega arith in
      get_or-drop (table_bytes - 508 * k) (block_data t k) j 0 ∙ data_zero k l (table_bytes - 508 * k + j) j (omega arith) (omega arith))

  pub image_good : (k : ℕ) → k < 65 → Bytes t → is_good (image_of t) k ≡ true
  unfolding is_good is_checked filling_in
  image_good k l b =
      both_i (eq-eqb _ _ (check_back k l b ∙ sym (ap (check_of k) (data_back k l)))) (rw (data_back k l) (filling_zero k l))

  -- ---- and the table in it is the table
  kept_back : (k : ℕ) → k < 65 → kept_in (image_of t) k ≡ part_at t (508 * k) 508
  unfolding kept_in block_data part_at
  kept_back k l =
      let z : List ℕ = replicate 252 0 in
      let d : List ℕ = drop (508 * k) t in
      let n : length d ≡ table_bytes - 508 * k = length-drop (508 * k) t ∙ omega arith in
      let off : drop (508 * k) (t ++ z) ≡ d ++ z = drop-append-le (508 * k) t z (omega arith) in
      let cut : length (take 508 (d ++ z)) ≡ 508 = length-take-le 508 (d ++ z) (simp (length-append, length-replicate) (omega arith)) in
      ap (take (table_bytes - 508 * k)) (data_back k l ∙ ap (take 508) off)
      ∙ ⊎_elim
      (λ (a : length d < 508).
      rw (← n) (take-take (length d) 508 (d ++ z) (omega arith) ∙ take_at d z (length d) refl ∙ sym (take_all 508 d (omega arith))))
      (λ (a : 508 ≤ length d).
      take_all (table_bytes - 508 * k) (take 508 (d ++ z)) (omega arith) ∙ take-append-le 508 d z a)
      (below_or (length d) 508)

  pub table_back : table_in (image_of t) ≡ t
  unfolding table_in
  table_back = turn_ext (kept_in (image_of t)) (λ k. part_at t (508 * k) 508) 65 kept_back ∙ turn_parts t 508 65 ∙ take_all (508 * 65) t (omega arith)

-- a byte changed: part of the whole
part_set : (t : List ℕ) (p n j v : ℕ) → j < n → part_at (set t (p + j) v) p n ≡ set (part_at t p n) j v
unfolding part_at
part_set t p n j v l = ap (take n) (drop-set-add p t j v) ∙ take-set-lt n (drop p t) j v l

part_unset : (t : List ℕ) (p n q v : ℕ) → p + n ≤ length t → (q < p) ⊎ (p + n ≤ q) → part_at (set t q v) p n ≡ part_at t p n
part_unset t p n q v h o =
    part_ext (set t q v) t p p n (simp length-set h) h (λ k l. get_or-set_other t q (p + k) v 0 (λ e. ⊎_elim (λ (a : q < p). omega arith) (λ (a : p + n ≤ q). omega arith) o))

-- the number in four bytes at place 508
four : (b : List ℕ) → le_at 4 b 508 ≡ get_or b 508 0 + 256 * get_or b 509 0 + 65536 * get_or b 510 0 + 16777216 * get_or b 511 0
unfolding le_at
four b = omega arith

at_508 : (b : List ℕ) (v : ℕ) → length b ≡ 512 → le_at 4 (set b 508 v) 508 ≡ le_at 4 b 508 → v ≡ get_or b 508 0
at_508 b v n e = omega (arith, four (set b 508 v), four b, get_or-set_same b 508 v 0 (omega arith), get_or-set_other b 508 509 v 0 (λ z. omega arith), get_or-set_other b 508 510 v 0 (λ z. omega arith), get_or-set_other b 508 511 v 0 (λ z. omega arith))

at_509 : (b : List ℕ) (v : ℕ) → length b ≡ 512 → le_at 4 (set b 509 v) 508 ≡ le_at 4 b 508 → v ≡ get_or b 509 0
at_509 b v n e = omega (arith, four (set b 509 v), four b, get_or-set_same b 509 v 0 (omega arith), get_or-set_other b 509 508 v 0 (λ z. omega arith), get_or-set_other b 509 510 v 0 (λ z. omega arith), get_or-set_other b 509 511 v 0 (λ z. omega arith))

at_510 : (b : List ℕ) (v : ℕ) → length b ≡ 512 → le_at 4 (set b 510 v) 508 ≡ le_at 4 b 508 → v ≡ get_or b 510 0
at_510 b v n e = omega (arith, four (set b 510 v), four b, get_or-set_same b 510 v 0 (omega arith), get_or-set_other b 510 508 v 0 (λ z. omega arith), get_or-set_other b 510 509 v 0 (λ z. omega arith), get_or-set_other b 510 511 v 0 (λ z. omega arith))

at_511 : (b : List ℕ) (v : ℕ) → length b ≡ 512 → le_at 4 (set b 511 v) 508 ≡ le_at 4 b 508 → v ≡ get_or b 511 0
at_511 b v n e = omega (arith, four (set b 511 v), four b, get_or-set_same b 511 v 0 (omega arith), get_or-set_other b 511 508 v 0 (λ z. omega arith), get_or-set_other b 511 509 v 0 (λ z. omega arith), get_or-set_other b 511 510 v 0 (λ z. omega arith))

four_set : (b : List ℕ) (j v : ℕ) → length b ≡ 512 → 508 ≤ j → j < 512 → le_at 4 (set b j v) 508 ≡ le_at 4 b 508 → v ≡ get_or b j 0
four_set b j v n l h e =
    ⊎_elim (λ (a : j < 509). let z : j ≡ 508 = omega arith in rw z (at_508 b v n (rw z at e)))
    (λ (a : 509 ≤ j).
    ⊎_elim (λ (c : j < 510). let z : j ≡ 509 = omega arith in rw z (at_509 b v n (rw z at e)))
    (λ (c : 510 ≤ j).
    ⊎_elim (λ (f : j < 511). let z : j ≡ 510 = omega arith in rw z (at_510 b v n (rw z at e)))
    (λ (f : 511 ≤ j). let z : j ≡ 511 = omega arith in rw z (at_511 b v n (rw z at e)))
    (below_or j 511))
    (below_or j 510))
    (below_or j 509)

block_changed : (k : ℕ) (b : List ℕ) (j v : ℕ) → length b ≡ 512 → j < 512 → (v ≡ get_or b j 0 → ⊥) → le_at 4 b 508 ≡ check_of k (take 508 b)
    → le_at 4 (set b j v) 508 ≡ check_of k (take 508 (set b j v)) → ⊥
unfolding check_of
block_changed k b j v n l d good bad =
    ⊎_elim
    (λ (a : j < 508).
    let x : List ℕ = take 508 b in
    let same : le_at 4 (set b j v) 508 ≡ le_at 4 b 508 = le_at_ext 4 (set b j v) b 508 508 (λ i h. get_or-set_other b j (508 + i) v 0 (λ z. omega arith)) in
    let cut : take 508 (set b j v) ≡ set x j v = take-set-lt 508 b j v a in
    let one : weighed 1 (set x j v) + (1 + j) * get_or x j 0 ≡ weighed 1 x + (1 + j) * v = weighed_set 1 x j v (omega (arith, length-take-le 508 b (omega arith))) in
    let byte : get_or x j 0 ≡ get_or b j 0 = get_or-take 508 b j 0 a in
    let two : weighed 1 (set x j v) ≡ weighed 1 x = omega (arith, ap (weighed 1) cut) in
    d (sym (eq_of_mul-eq-mul_left (1 + j) (omega arith) (get_or x j 0) v (omega arith)) ∙ byte))
    (λ (a : 508 ≤ j).
    let cut : take 508 (set b j v) ≡ take 508 b = take-set-le 508 b j v a in
    d (four_set b j v n a l (bad ∙ rw cut (sym good))))
    (below_or j 508)

-- ---- a changed byte is noticed, in its block

module _ (image : List ℕ) (long : length image ≡ image_bytes) (good : (k : ℕ) → k < 65 → is_good image k ≡ true) where
  length_block_in : (k : ℕ) → k < 65 → length (block_in image k) ≡ 512
  unfolding block_in
  length_block_in k l = length_part image (512 * k) 512 (omega arith)

  block_check : (k : ℕ) → k < 65 → le_at 4 (block_in image k) 508 ≡ check_of k (take 508 (block_in image k))
  block_check k l = sym (check_of_lem image k) ∙ good_check image k (good k l) ∙ ap (check_of k) (data_of image k)

  changed_block : (k j v : ℕ) → k < 65 → j < 512 → (v ≡ get_or image (512 * k + j) 0 → ⊥) → is_good (set image (512 * k + j) v) k ≡ false
  unfolding block_in
  changed_block k j v l h d =
      let b : List ℕ = block_in image k in
      let u : List ℕ = set image (512 * k + j) v in
      let e : block_in u k ≡ set b j v = part_set image (512 * k) 512 j v h in
      not_good u k (λ z.
      block_changed k b j v (length_block_in k l) h (λ w. d (w ∙ get_d_part image (512 * k) 512 j h)) (block_check k l)
      (ap (λ (x : List ℕ). le_at 4 x 508) (sym e) ∙ sym (check_of_lem u k) ∙ z ∙ ap (check_of k) (data_of u k ∙ ap (take 508) e)))

  other_block : (k j v i : ℕ) → k < 65 → i < k → is_good (set image (512 * k + j) v) i ≡ true
  unfolding block_in
  other_block k j v i l h =
      good_same (set image (512 * k + j) v) image i (part_unset image (512 * i) 512 (512 * k + j) v (omega arith) (inr (omega arith))) ∙ good i (omega arith)

  pub changed_bad : (k j v : ℕ) → k < 65 → j < 512 → (v ≡ get_or image (512 * k + j) 0 → ⊥) → first_bad (set image (512 * k + j) v) ≡ k
  changed_bad k j v l h d =
      bad_is (set image (512 * k + j) v) k (omega arith) (λ i m. other_block k j v i l m) (λ m. changed_block k j v l h d)

  -- ---- two blocks exchanged are noticed, in the first of them
  module _ (i j : ℕ) (before : i < j) (within : j < 65) where
    exchanged_first : block_in (exchanged image i j) i ≡ block_in image j
    unfolding exchanged block_in
    exchanged_first =
        let b : List ℕ = block_in image j in
        let n : length b ≡ 512 = length_block_in j within in
        let a : List ℕ = put image (512 * i) b in
        part_below a (512 * j) (block_in image i) (512 * i) 512 (rw (length_put image (512 * i) b) (omega arith)) (omega arith)
        ∙ ap (part_at a (512 * i)) (sym n) ∙ part_put image (512 * i) b (omega arith)

    exchanged_before : (k : ℕ) → k < i → is_good (exchanged image i j) k ≡ true
    unfolding exchanged block_in
    exchanged_before k h =
        let a : List ℕ = put image (512 * i) (block_in image j) in
        good_same (exchanged image i j) image k
        (part_below a (512 * j) (block_in image i) (512 * k) 512 (rw (length_put image (512 * i) (block_in image j)) (omega arith)) (omega arith)
        ∙ part_below image (512 * i) (block_in image j) (512 * k) 512 (omega arith) (omega arith))
        ∙ good k (omega arith)

    two_numbers : (d : List ℕ) → check_of j d ≡ check_of i d → ⊥
    unfolding check_of
    two_numbers d e = omega arith

    pub exchanged_bad : first_bad (exchanged image i j) ≡ i
    exchanged_bad =
        let u : List ℕ = exchanged image i j in
        let e : block_in u i ≡ block_in image j = exchanged_first in
        bad_is u i (omega arith) exchanged_before (λ h.
        not_good u i (λ z.
        two_numbers (take 508 (block_in image j))
        (sym (block_check j within) ∙ ap (λ (x : List ℕ). le_at 4 x 508) (sym e) ∙ sym (check_of_lem u i) ∙ z ∙ ap (check_of i) (data_of u i ∙ ap (take 508) e))))

-- ---- an image that is read is the image of the table that it leaves

-- four bytes are those of the number that they make
bytes_back : (t : List ℕ) (p : ℕ) → Bytes t → p + 4 ≤ length t → bytes_of 4 (le_at 4 t p) ≡ part_at t p 4
bytes_back t p b h =
    let c : List ℕ = bytes_of 4 (le_at 4 t p) in
    let n : length c ≡ 4 = length_bytes_of 4 (le_at 4 t p) in
    sym (part_put t p c (omega arith)) ∙ ap (λ (x : List ℕ). part_at x p (length c)) (put_same 4 t p b) ∙ ap (part_at t p) n

module _ (image : List ℕ) (long : length image ≡ image_bytes) (bytes : Bytes image) (good : (k : ℕ) → k < 65 → is_good image k ≡ true) where
  -- the table in it, and zeros behind it, are the data of all blocks
  full_kept : (k : ℕ) → k < 64 → kept_in image k ≡ data_in image k
  unfolding kept_in
  full_kept k l = take_all (table_bytes - 508 * k) (data_in image k) (omega (arith, length_data_in image k long (omega arith)))

  last_filling : filling_in image 64 ≡ replicate 252 0
  unfolding filling_in
  last_filling =
      let d : List ℕ = data_in image 64 in
      let n : length (drop 256 d) ≡ 252 = length-drop 256 d ∙ omega (arith, length_data_in image 64 long (omega arith)) in
      zero_is (drop 256 d) (good_filling image 64 (good 64 (omega arith))) ∙ ap (λ (m : ℕ). replicate m 0) n

  last_whole : kept_in image 64 ++ replicate 252 0 ≡ data_in image 64
  unfolding kept_in filling_in
  last_whole = ap (λ (z : List ℕ). take 256 (data_in image 64) ++ z) (sym last_filling) ∙ take-append-drop 256 (data_in image 64)

  all_data : table_in image ++ replicate 252 0 ≡ in_turn (data_in image) 65
  unfolding table_in
  all_data =
      ap (λ (x : List ℕ). x ++ replicate 252 0) (turn_more (kept_in image) 64)
      ∙ append_assoc (in_turn (kept_in image) 64) (kept_in image 64) (replicate 252 0)
      ∙ ap (λ (x : List ℕ). in_turn (kept_in image) 64 ++ x) last_whole
      ∙ ap (λ (x : List ℕ). x ++ data_in image 64) (turn_ext (kept_in image) (data_in image) 64 full_kept)
      ∙ sym (turn_more (data_in image) 64)

  data_same : (k : ℕ) → k < 65 → block_data (table_in image) k ≡ data_in image k
  unfolding block_data
  data_same k l = ap (λ (x : List ℕ). part_at x (508 * k) 508) all_data ∙ part_turn (data_in image) 508 65 k (λ i m. length_data_in image i long m) l

  block_same : (k : ℕ) → k < 65 → block_of (table_in image) k ≡ part_at image (512 * k) 512
  unfolding block_of data_in check_in
  block_same k l =
      ap (λ (d : List ℕ). d ++ bytes_of 4 (check_of k d)) (data_same k l)
      ∙ ap (λ (v : ℕ). data_in image k ++ bytes_of 4 v) (sym (good_check image k (good k l)))
      ∙ ap (λ (x : List ℕ). data_in image k ++ x) (bytes_back image (512 * k + 508) bytes (omega arith))
      ∙ sym (part_both image (512 * k) 508 4)

  pub image_same : image_of (table_in image) ≡ image
  unfolding image_of
  image_same =
      turn_ext (block_of (table_in image)) (λ k. part_at image (512 * k) 512) 65 block_same ∙ turn_parts image 512 65 ∙ take_all (512 * 65) image (omega arith)
