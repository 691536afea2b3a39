-- A block of 512 bytes weighed in columns comes to its weight; and the loops that add up a column, all columns, and what they come to.
use mathlib.Core.Path.{◌≡◌, refl, sym, ap, ◌∙◌}
use mathlib.Core.List.{List}
use mathlib.Core.Logic.{⊎_elim}
use Prim.Native.Nat.{ℕ, zero, suc, ◌+◌, ◌*◌, ◌-◌, ◌≤◌, ◌<◌}
use native.Mathlib.Nat.{mul-add, add-mul, mul-le-mul, add-zero}
use native.Mathlib.Omega.{arith}
use lib.ListN.{length, get_or, set}
use lib.Seq.{get_or-set_same, get_or-set_other}
use Rattle.octets.specs.Octets.{part_at}
use Rattle.octets.proofs.Parts.{length_part, get_d_part}
use Rattle.octets.proofs.Places.{below_or}
use Rattle.image.specs.Image.{weighed}
use Rattle.image.specs.Columns.{sum_to, down, turned, column_part}
use Rattle.image.proofs.Sums.{sum_none, sum_zero, sum_more, sum_ext, sum_plus, sum_32, sum_shift, weighed_sum}

-- 32 times one more is 32 and 32 times
more : (n : ℕ) → 32 + 32 * n ≡ 32 * suc n
more n = omega arith

next_row : (p c : ℕ) → p + c + 32 ≡ p + 32 + c
next_row p c = omega arith

behind : (p j : ℕ) → p + 32 + j ≡ p + (32 + j)
behind p j = omega arith

module _ (t : List ℕ) where
  -- the sums of all columns come to the sum of all bytes
  downs : (p n : ℕ) → sum_to (λ c. down t (p + c) n) 32 ≡ sum_to (λ j. get_or t (p + j) 0) (32 * n)
  unfolding down
  downs p zero = sum_zero 32 ∙ sym (sum_none (λ j. get_or t (p + j) 0))
  downs p (suc n) =
      let f : ℕ → ℕ = λ j. get_or t (p + j) 0 in
      let rest : sum_to (λ c. down t (p + c + 32) n) 32 ≡ sum_to (λ k. f (32 + k)) (32 * n) =
      sum_ext (λ c. down t (p + c + 32) n) (λ c. down t (p + 32 + c) n) 32 (λ c l. ap (λ (q : ℕ). down t q n) (next_row p c))
      ∙ downs (p + 32) n
      ∙ sum_ext (λ j. get_or t (p + 32 + j) 0) (λ k. f (32 + k)) (32 * n) (λ j l. ap (λ (q : ℕ). get_or t q 0) (behind p j)) in
      sum_plus f (λ c. down t (p + c + 32) n) 32 ∙ ap (λ (y : ℕ). sum_to f 32 + y) rest ∙ sym (sum_shift f 32 (32 * n)) ∙ ap (sum_to f) (more n)

  -- and 32 for each row above a byte, with its column's position, come to the weight of all bytes
  apart : (x T D c : ℕ) → 32 * (T + D) + (1 + c) * (x + D) ≡ (32 * T + (1 + c) * D) + (32 * D + (1 + c) * x)
  apart x T D c = rw (mul-add (1 + c) x D) (omega arith)

  farther : (k x : ℕ) → (1 + (32 + k)) * x ≡ (1 + k) * x + 32 * x
  farther k x =
      let e : 1 + (32 + k) ≡ 1 + k + 32 = omega arith in
      rw e (add-mul (1 + k) 32 x)

  weights : (p n : ℕ) → sum_to (λ c. 32 * turned t (p + c) n + (1 + c) * down t (p + c) n) 32 ≡ sum_to (λ j. (1 + j) * get_or t (p + j) 0) (32 * n)
  unfolding down turned
  weights p zero =
      sum_ext (λ c. 32 * 0 + (1 + c) * 0) (λ c. 0) 32 (λ c l. omega arith) ∙ sum_zero 32 ∙ sym (sum_none (λ j. (1 + j) * get_or t (p + j) 0))
  weights p (suc n) =
      let f : ℕ → ℕ = λ j. (1 + j) * get_or t (p + j) 0 in
      let g : ℕ → ℕ = λ j. get_or t (p + 32 + j) 0 in
      let D : ℕ → ℕ = λ c. down t (p + 32 + c) n in
      let T : ℕ → ℕ = λ c. turned t (p + 32 + c) n in
      let left : sum_to (λ c. 32 * (turned t (p + c + 32) n + down t (p + c + 32) n) + (1 + c) * (get_or t (p + c) 0 + down t (p + c + 32) n)) 32
      ≡ sum_to (λ c. (32 * T c + (1 + c) * D c) + (32 * D c + f c)) 32 =
      sum_ext (λ c. 32 * (turned t (p + c + 32) n + down t (p + c + 32) n) + (1 + c) * (get_or t (p + c) 0 + down t (p + c + 32) n))
      (λ c. (32 * T c + (1 + c) * D c) + (32 * D c + f c)) 32
      (λ c l. ap (λ (q : ℕ). 32 * (turned t q n + down t q n) + (1 + c) * (get_or t (p + c) 0 + down t q n)) (next_row p c) ∙ apart (get_or t (p + c) 0) (T c) (D c) c) in
      let one = sum_plus (λ c. 32 * T c + (1 + c) * D c) (λ c. 32 * D c + f c) 32 in
      let two = sum_plus (λ c. 32 * D c) f 32 in
      let three = sum_32 D 32 in
      let four : sum_to (λ k. f (32 + k)) (32 * n) ≡ sum_to (λ k. (1 + k) * g k + 32 * g k) (32 * n) =
      sum_ext (λ k. f (32 + k)) (λ k. (1 + k) * g k + 32 * g k) (32 * n)
      (λ k l. ap (λ (q : ℕ). (1 + (32 + k)) * get_or t q 0) (sym (behind p k)) ∙ farther k (g k)) in
      let five = sum_plus (λ k. (1 + k) * g k) (λ k. 32 * g k) (32 * n) in
      let six = sum_32 g (32 * n) in
      let seven = weights (p + 32) n in
      let eight = downs (p + 32) n in
      let nine = sum_shift f 32 (32 * n) in
      left ∙ omega (arith, one, two, three, four, five, six, seven, eight, nine) ∙ sym nine ∙ ap (sum_to f) (more n)

-- ---- the columns of a block come to its weight

-- the first n of these are the sums of the columns from place p on, and their sums by rows
pub record Downs (t : List ℕ) (p : ℕ) (sums turns : List ℕ) (n : ℕ) : Type 0 where
  pub sum : (c : ℕ) → c < n → get_or sums c 0 ≡ down t (p + c) 16
  pub turn : (c : ℕ) → c < n → get_or turns c 0 ≡ turned t (p + c) 16

pub weigh_is : {t : List ℕ} {p : ℕ} {sums turns : List ℕ} {r : ℕ} → Downs t p sums turns 32 → p + 512 ≤ length t → r ≡ sum_to (column_part sums turns) 32
    → r ≡ weighed 1 (part_at t p 512)
unfolding column_part
weigh_is {t} {p} {sums} {turns} d h e =
    let n : length (part_at t p 512) ≡ 512 = length_part t p 512 h in
    e
    ∙ sum_ext (column_part sums turns) (λ c. 32 * turned t (p + c) 16 + (1 + c) * down t (p + c) 16) 32 (λ c l. rw (d.sum c l, d.turn c l))
    ∙ weights t p 16
    ∙ sum_ext (λ j. (1 + j) * get_or t (p + j) 0) (λ j. (1 + j) * get_or (part_at t p 512) j 0) 512 (λ j l. ap (λ (x : ℕ). (1 + j) * x) (sym (get_d_part t p 512 j l)))
    ∙ ap (sum_to (λ j. (1 + j) * get_or (part_at t p 512) j 0)) (sym n)
    ∙ sym (weighed_sum 1 (part_at t p 512))

-- ---- a column added up from its last row: rows from r on are done
pub record Rows (t : List ℕ) (p sum turns r : ℕ) : Type 0 where
  pub within : r ≤ 16
  pub summed : sum ≡ down t (p + 32 * r) (16 - r)
  pub turning : turns ≡ turned t (p + 32 * r) (16 - r)
  pub most : sum ≤ 255 * (16 - r)
  pub turned_most : turns ≤ 4080 * (16 - r)

pub rows_none : {t : List ℕ} {p : ℕ} → Rows t p 0 0 16
unfolding down turned
rows_none = record { within = omega arith; summed = refl; turning = refl; most = omega arith; turned_most = omega arith }

pub rows_more : {t : List ℕ} {p sum turns r x : ℕ} → Rows t p sum turns r → 0 < r → x ≡ get_or t (p + 32 * (r - 1)) 0 → x < 256
    → Rows t p (sum + x) (turns + sum) (r - 1)
unfolding down turned
rows_more {t} {p} {sum} {turns} {r} {x} a l e s =
    let n : 16 - (r - 1) ≡ suc (16 - r) = omega (arith, a.within) in
    let q : p + 32 * (r - 1) + 32 ≡ p + 32 * r = omega arith in
    record {
      within = omega (arith, a.within);
      summed = rw (n, q) (omega (arith, a.summed, e));
      turning = rw (n, q) (omega (arith, a.summed, a.turning));
      most = omega (arith, a.within, a.most);
      turned_most = omega (arith, a.within, a.most, a.turned_most);
    }

pub rows_sum : {t : List ℕ} {p sum turns r : ℕ} → Rows t p sum turns r → r ≤ 0 → sum ≡ down t p 16
rows_sum {t} {p} {r = r} a l =
    let z : r ≡ 0 = omega arith in
    rw (z, add-zero) at a.summed

pub rows_turned : {t : List ℕ} {p sum turns r : ℕ} → Rows t p sum turns r → r ≤ 0 → turns ≡ turned t p 16
rows_turned {t} {p} {r = r} a l =
    let z : r ≡ 0 = omega arith in
    rw (z, add-zero) at a.turning

-- ---- all columns: none yet, and one more
pub downs_none : {t sums turns : List ℕ} {p : ℕ} → Downs t p sums turns 0
downs_none = record { sum = λ c l. absurd (omega arith); turn = λ c l. absurd (omega arith) }

set_one : (s : List ℕ) (f : ℕ → ℕ) (n x : ℕ) → n < length s → x ≡ f n → ((c : ℕ) → c < n → get_or s c 0 ≡ f c) → (c : ℕ) → c < n + 1 → get_or (set s n x) c 0 ≡ f c
set_one s f n x l e h c k =
    ⊎_elim (λ (a : c < n). get_or-set_other s n c x 0 (λ z. omega arith) ∙ h c a)
    (λ (a : n ≤ c).
    let z : c ≡ n = omega arith in
    rw z (get_or-set_same s n x 0 l ∙ e))
    (below_or c n)

pub downs_more : {t sums turns : List ℕ} {p n x y : ℕ} → Downs t p sums turns n → n < length sums → n < length turns → x ≡ down t (p + n) 16 → y ≡ turned t (p + n) 16
    → Downs t p (set sums n x) (set turns n y) (n + 1)
downs_more {t} {sums} {turns} {p} {n} {x} {y} d l m e f =
    record {
      sum = set_one sums (λ c. down t (p + c) 16) n x l e d.sum;
      turn = set_one turns (λ c. turned t (p + c) 16) n y m f d.turn;
    }

-- ---- what the columns come to: c of them are added, and w is their number
pub record Came (sums turns : List ℕ) (r c w : ℕ) : Type 0 where
  pub within : c ≤ 32
  pub counted : w ≡ c
  pub come : r ≡ sum_to (column_part sums turns) c
  pub most : r ≤ 4194240 * c

pub came_none : {sums turns : List ℕ} → Came sums turns 0 0 0
came_none {sums} {turns} = record { within = omega arith; counted = refl; come = sym (sum_none (column_part sums turns)); most = omega arith }

-- a sum of a column times its position is small
pub part_small : (w y : ℕ) → w < 33 → y < 65536 → w * y ≤ 2097120
part_small w y h l = mul-le-mul {n₁ = w} {m₁ = y} {n₂ = 32} {m₂ = 65535} (omega arith) (omega arith)

pub came_more : {sums turns : List ℕ} {r c w x y : ℕ} → Came sums turns r c w → c < 32 → x ≡ get_or turns c 0 → x < 65536 → y ≡ get_or sums c 0 → y < 65536
    → Came sums turns (r + (32 * x + (w + 1) * y)) (c + 1) (w + 1)
unfolding column_part
came_more {sums} {turns} {r} {c} {w} {x} {y} a l e s f u =
    let z : w + 1 ≡ 1 + c = omega (arith, a.counted) in
    let b : (w + 1) * y ≤ 2097120 = part_small (w + 1) y (omega (arith, a.counted)) u in
    record {
      within = omega arith;
      counted = omega (arith, a.counted);
      come = rw (a.come, z, e, f) (sym (sum_more (column_part sums turns) c));
      most = omega (arith, a.most);
    }

pub came_end : {sums turns : List ℕ} {r c w : ℕ} → Came sums turns r c w → 32 ≤ c → r ≡ sum_to (column_part sums turns) 32
came_end {c = c} a l =
    let e : c ≡ 32 = omega (arith, a.within) in
    rw e at a.come

pub weigh_end : {t : List ℕ} {p : ℕ} {sums turns : List ℕ} {c r : ℕ} → Downs t p sums turns c → 32 ≤ c → c ≤ 32 → p + 512 ≤ length t → r ≡ sum_to (column_part sums turns) 32
    → r ≡ weighed 1 (part_at t p 512)
weigh_end {t} {p} {sums} {turns} {c} d l m h e =
    let z : c ≡ 32 = omega arith in
    weigh_is (rw z at d) h e
