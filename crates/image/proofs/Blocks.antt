-- The blocks of a table and of an image: how long they are, and what the code computes of them.
use mathlib.Core.Path.{◌≡◌, sym, ap, ◌∙◌}
use mathlib.Core.Bool.{Bool, ◌&&◌}
use mathlib.Core.List.{List, ◌++◌, append_assoc}
use mathlib.Core.Logic.{⊎_elim}
use Prim.Native.Nat.{ℕ, ◌+◌, ◌*◌, ◌-◌, ◌≤◌, ◌<◌}
use native.Mathlib.Nat.{add-zero}
use native.Mathlib.Omega.{arith}
use borrow.Author.Tests.{eq-eqb, ne_eqb, eqb-true, eqb-false}
use lib.Dec.{eqb}
use lib.ListN.{length, get_or, take, drop, replicate, length-append, length-replicate, length-take, length-drop, replicate-append-replicate}
use lib.Seq.{take_all, take-add, take-append-le, drop-append-le, length-take-le, drop-drop, ext_get_or}
use Rattle.octets.specs.Octets.{put, part_at, le_at, bytes_of, all_zero}
use Rattle.octets.specs.Written.{Room, Wrote}
use Rattle.octets.proofs.Bools.{split}
use Rattle.octets.proofs.Places.{below_or, put_put, length_put, length_bytes_of, get_d_put_below, get_d_put_in, get_d_put_above}
use Rattle.octets.proofs.Parts.{length_part, get_d_part, part_in_lem}
use Rattle.octets.proofs.Runs.{wrote_length}
use Rattle.table.specs.Places.{table_bytes}
use Rattle.image.specs.Image.{image_bytes, in_turn, weighed, check_of, block_data, block_of, image_of, data_in, check_in, kept_in, filling_in, is_checked, is_good, table_in}
use Rattle.image.specs.Columns.{sum_to}
use Rattle.image.proofs.Sums.{weighed_sum, weighed_append, weighed_zeros}
use Rattle.image.proofs.Turns.{turn_more, length_turn}

-- ---- lengths
pub length_data : (t : List ℕ) (k : ℕ) → length t ≡ table_bytes → k < 65 → length (block_data t k) ≡ 508
unfolding block_data
length_data t k e l = length_part (t ++ replicate 252 0) (508 * k) 508 (simp (length-append, length-replicate) (omega arith))

pub length_block : (t : List ℕ) (k : ℕ) → length t ≡ table_bytes → k < 65 → length (block_of t k) ≡ 512
unfolding block_of
length_block t k e l =
    simp (length-append, length_bytes_of) (omega (arith, length_data t k e l))

pub length_image : (t : List ℕ) → length t ≡ table_bytes → length (image_of t) ≡ image_bytes
unfolding image_of
length_image t e = length_turn (block_of t) 512 65 (λ k l. length_block t k e l)

pub length_data_in : (image : List ℕ) (k : ℕ) → length image ≡ image_bytes → k < 65 → length (data_in image k) ≡ 508
unfolding data_in
length_data_in image k e l = length_part image (512 * k) 508 (omega arith)

-- a part is no longer than it was asked to be
pub part_most : (t : List ℕ) (p n : ℕ) → length (part_at t p n) ≤ n
unfolding part_at
part_most t p n = simp length-take (omega arith)

pub length_kept : (image : List ℕ) (k : ℕ) → length image ≡ image_bytes → k < 64 → length (kept_in image k) ≡ 508
unfolding kept_in
length_kept image k e l =
    let n : length (data_in image k) ≡ 508 = length_data_in image k e (omega arith) in
    rw (take_all (table_bytes - 508 * k) (data_in image k) (omega arith)) n

pub length_last : (image : List ℕ) → length image ≡ image_bytes → length (kept_in image 64) ≡ 256
unfolding kept_in
length_last image e = length-take-le 256 (data_in image 64) (omega (arith, length_data_in image 64 e (omega arith)))

pub length_front : (image : List ℕ) (k : ℕ) → length image ≡ image_bytes → k < 65 → length (in_turn (kept_in image) k) ≡ 508 * k
length_front image k e l = length_turn (kept_in image) 508 k (λ i j. length_kept image i e (omega arith))

pub length_table_in : (image : List ℕ) → length image ≡ image_bytes → length (table_in image) ≡ table_bytes
unfolding table_in
length_table_in image e =
    ap length (turn_more (kept_in image) 64) ∙ length-append (in_turn (kept_in image) 64) (kept_in image 64)
    ∙ omega (arith, length_front image 64 e (omega arith), length_last image e)

-- ---- writing: the data of a block are the bytes that the table has there, and zeros
data_is : (t : List ℕ) (k : ℕ) → length t ≡ table_bytes → k < 65
    → part_at t (508 * k) 508 ++ replicate (512 - length (part_at t (508 * k) 508)) 0 ≡ block_data t k ++ replicate 4 0
unfolding block_data part_at
data_is t k e l =
    let z : List ℕ = replicate 252 0 in
    let d : List ℕ = drop (508 * k) t in
    let n : length d ≡ table_bytes - 508 * k = length-drop (508 * k) t ∙ omega arith in
    let off : drop (508 * k) (t ++ z) ≡ d ++ z = drop-append-le (508 * k) t z (omega arith) in
    ⊎_elim
    (λ (a : k < 64).
    let long : length (take 508 d) ≡ 508 = length-take-le 508 d (omega arith) in
    rw (off, take-append-le 508 d z (omega arith), long))
    (λ (a : 64 ≤ k).
    let short : length d ≡ 256 = omega arith in
    let all : take 508 d ≡ d = take_all 508 d (omega arith) in
    let whole : take 508 (d ++ z) ≡ d ++ z = take_all 508 (d ++ z) (simp (length-append, length-replicate) (omega arith)) in
    rw (off, all, whole, short, append_assoc d z (replicate 4 0), replicate-append-replicate {A = ℕ} 252 4 0))
    (below_or k 64)

pub data_room : (image table d : List ℕ) (k : ℕ) → length image ≡ image_bytes → k < 65 → d ≡ part_at table (508 * k) 508 → Room image (512 * k) d
data_room image table d k e l p = record { fits = omega (arith, ap length p, part_most table (508 * k) 508) }

pub data_short : (table d : List ℕ) (k : ℕ) → d ≡ part_at table (508 * k) 508 → length d ≤ 512
data_short table d k p = omega (arith, ap length p, part_most table (508 * k) 508)

pub zeros_room : (image table d after : List ℕ) (k next : ℕ) → length image ≡ image_bytes → k < 65 → d ≡ part_at table (508 * k) 508 → Wrote image (512 * k) d next after
    → next + (512 - length d) ≤ length after
zeros_room image table d after k next e l p w =
    omega (arith, w.place, wrote_length w, data_short table d k p)

pub data_put : (image table d after after₂ : List ℕ) (k next : ℕ) → length table ≡ table_bytes → k < 65 → d ≡ part_at table (508 * k) 508 → Wrote image (512 * k) d next after
    → after₂ ≡ put after next (replicate (512 - length d) 0) → after₂ ≡ put image (512 * k) (block_data table k ++ replicate 4 0)
data_put image table d after after₂ k next e l p w f =
    f ∙ rw (w.bytes_in, w.place, p) (put_put image (512 * k) _ _ ∙ ap (put image (512 * k)) (data_is table k e l))

-- what is put again over as much as was put there
put_over : (t : List ℕ) (q : ℕ) (ys zs : List ℕ) → length ys ≡ length zs → q + length zs ≤ length t → put (put t q ys) q zs ≡ put t q zs
put_over t q ys zs e h =
    ext_get_or 0 (put (put t q ys) q zs) (put t q zs) (simp length_put) (λ i l.
    ⊎_elim
    (λ (a : i < q). get_d_put_below (put t q ys) q zs i a ∙ get_d_put_below t q ys i a ∙ sym (get_d_put_below t q zs i a))
    (λ (a : q ≤ i).
    ⊎_elim
    (λ (b : i < q + length zs).
    let z : q + (i - q) ≡ i = omega arith in
    rw (← z) (get_d_put_in (put t q ys) q zs (i - q) (omega arith) (simp length_put h) ∙ sym (get_d_put_in t q zs (i - q) (omega arith) h)))
    (λ (b : q + length zs ≤ i). get_d_put_above (put t q ys) q zs i b ∙ get_d_put_above t q ys i (omega arith) ∙ sym (get_d_put_above t q zs i b))
    (below_or i (q + length zs)))
    (below_or i q))

-- the whole of what was put, read back
all : (xs : List ℕ) → part_at xs 0 (length xs) ≡ xs
unfolding part_at
all xs = take_all (length xs) xs (omega arith)

pub part_put : (t : List ℕ) (q : ℕ) (vs : List ℕ) → q + length vs ≤ length t → part_at (put t q vs) q (length vs) ≡ vs
part_put t q vs h =
    ap (λ (p : ℕ). part_at (put t q vs) p (length vs)) (sym (add-zero q)) ∙ part_in_lem t q vs 0 (length vs) (omega arith) h ∙ all vs

-- a block whose check is still zero weighs as its data
data_weight : (image image₁ table : List ℕ) (k w : ℕ) → length image ≡ image_bytes → length table ≡ table_bytes → k < 65
    → image₁ ≡ put image (512 * k) (block_data table k ++ replicate 4 0) → w ≡ weighed 1 (part_at image₁ (512 * k) 512) → w ≡ weighed 1 (block_data table k)
data_weight image image₁ table k w e f l p x =
    let d : List ℕ = block_data table k ++ replicate 4 0 in
    let n : length d ≡ 512 = length-append (block_data table k) (replicate 4 0) ∙ omega (arith, length_data table k f l, length-replicate {A = ℕ} 4 0) in
    let back : part_at (put image (512 * k) d) (512 * k) 512 ≡ d =
    ap (part_at (put image (512 * k) d) (512 * k)) (sym n) ∙ part_put image (512 * k) d (omega arith) in
    x ∙ ap (λ (i : List ℕ). weighed 1 (part_at i (512 * k) 512)) p ∙ ap (weighed 1) back
    ∙ weighed_append 1 (block_data table k) (replicate 4 0)
    ∙ omega (arith, weighed_zeros (1 + length (block_data table k)) 4)

pub block_put : (image image₁ image₂ table : List ℕ) (k w : ℕ) → length image ≡ image_bytes → length table ≡ table_bytes → k < 65
    → image₁ ≡ put image (512 * k) (block_data table k ++ replicate 4 0) → w ≡ weighed 1 (part_at image₁ (512 * k) 512)
    → image₂ ≡ put image₁ (512 * k + 508) (bytes_of 4 (w + k * 33554432)) → image₂ ≡ put image (512 * k) (block_of table k)
unfolding block_of check_of
block_put image image₁ image₂ table k w e f l p x q =
    let d : List ℕ = block_data table k in
    let n : length d ≡ 508 = length_data table k f l in
    let v : w ≡ weighed 1 d = data_weight image image₁ table k w e f l p x in
    let c : List ℕ = bytes_of 4 (w + k * 33554432) in
    let m : length c ≡ 4 = length_bytes_of 4 (w + k * 33554432) in
    let s : 512 * k + 508 ≡ 512 * k + length d = omega arith in
    let r : length (put image (512 * k) d) ≡ image_bytes = length_put image (512 * k) d ∙ e in
    q
    ∙ ap (λ (i : List ℕ). put i (512 * k + 508) c) (p ∙ sym (put_put image (512 * k) d (replicate 4 0)))
    ∙ ap (λ (j : ℕ). put (put (put image (512 * k) d) (512 * k + length d) (replicate 4 0)) j c) s
    ∙ put_over (put image (512 * k) d) (512 * k + length d) (replicate 4 0) c (omega (arith, length-replicate {A = ℕ} 4 0)) (omega arith)
    ∙ put_put image (512 * k) d c
    ∙ ap (λ (y : ℕ). put image (512 * k) (d ++ bytes_of 4 (y + k * 33554432))) v

-- ---- checking: the whole block weighs as its data and its check
pub four_weigh : (t : List ℕ) (p a b c d : ℕ) → p + 4 ≤ length t → a ≡ get_or t p 0 → b ≡ get_or t (p + 1) 0 → c ≡ get_or t (p + 2) 0 → d ≡ get_or t (p + 3) 0
    → 509 * a + 510 * b + 511 * c + 512 * d ≡ weighed 509 (part_at t p 4)
unfolding sum_to
four_weigh t p a b c d h ea eb ec ed =
    let x : List ℕ = part_at t p 4 in
    let ga : get_or x 0 0 ≡ a = get_d_part t p 4 0 (omega arith) ∙ rw (add-zero p) (sym ea) in
    let gb : get_or x 1 0 ≡ b = get_d_part t p 4 1 (omega arith) ∙ sym eb in
    let gc : get_or x 2 0 ≡ c = get_d_part t p 4 2 (omega arith) ∙ sym ec in
    let gd : get_or x 3 0 ≡ d = get_d_part t p 4 3 (omega arith) ∙ sym ed in
    let four : sum_to (λ k. (509 + k) * get_or x k 0) 4 ≡ 509 * a + 510 * b + 511 * c + 512 * d = rw (ga, gb, gc, gd) (omega arith) in
    sym (weighed_sum 509 x ∙ ap (sum_to (λ k. (509 + k) * get_or x k 0)) (length_part t p 4 h) ∙ four)

eqb_both : (f x o : ℕ) → eqb (f + o) (x + o) ≡ eqb f x
eqb_both f x o =
    split (eqb f x)
    (λ e. rw e (eq-eqb (f + o) (x + o) (omega (arith, eqb-true f x e))))
    (λ e. rw e (ne_eqb (f + o) (x + o) (λ z. eqb-false f x e (omega arith))))

-- a part is cut in two
pub part_both : (t : List ℕ) (p m n : ℕ) → part_at t p (m + n) ≡ part_at t p m ++ part_at t (p + m) n
unfolding part_at
part_both t p m n = take-add m n (drop p t) ∙ ap (λ (y : List ℕ). take m (drop p t) ++ take n y) (drop-drop m p t)

pub checked_is : (image : List ℕ) (k f o w : ℕ) → length image ≡ image_bytes → k < 65 → w ≡ weighed 1 (part_at image (512 * k) 512) → f ≡ le_at 4 image (512 * k + 508)
    → o ≡ weighed 509 (part_at image (512 * k + 508) 4) → eqb (f + o) (w + k * 33554432) ≡ is_checked image k
unfolding is_checked check_in check_of data_in
checked_is image k f o w e l x y z =
    let d : List ℕ = data_in image k in
    let n : length d ≡ 508 = length_data_in image k e l in
    let whole : part_at image (512 * k) 512 ≡ d ++ part_at image (512 * k + 508) 4 = part_both image (512 * k) 508 4 in
    let v : w ≡ weighed 1 d + o =
    x ∙ ap (weighed 1) whole ∙ weighed_append 1 d (part_at image (512 * k + 508) 4)
    ∙ rw n (ap (λ (y : ℕ). weighed 1 d + y) (sym z)) in
    let s : w + k * 33554432 ≡ weighed 1 d + k * 33554432 + o = omega arith in
    rw (s, ← y) (eqb_both f (weighed 1 d + k * 33554432) o)

pub good_is : (image d : List ℕ) (k : ℕ) (a b : Bool) → d ≡ part_at image (512 * k) 508 → a ≡ is_checked image k → b ≡ all_zero (drop (32768 - 508 * k) d) → (a && b) ≡ is_good image k
unfolding is_good filling_in data_in
good_is image d k a b p e f = rw (e, f, p)

-- ---- reading
pub kept_room : (t d e : List ℕ) (k : ℕ) → length t ≡ table_bytes → k < 65 → e ≡ part_at d 0 (32768 - 508 * k) → Room t (508 * k) e
kept_room t d e k h l p = record { fits = omega (arith, ap length p, part_most d 0 (32768 - 508 * k)) }

pub kept_put : (t image d e after : List ℕ) (k next : ℕ) → d ≡ part_at image (512 * k) 508 → e ≡ part_at d 0 (32768 - 508 * k) → Wrote t (508 * k) e next after
    → after ≡ put t (508 * k) (kept_in image k)
unfolding kept_in data_in part_at
kept_put t image d e after k next p q w = w.bytes_in ∙ rw (q, p)
