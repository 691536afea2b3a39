-- The laws of writing numbers: digits one by one, how many there are, and what a turn of the writing loop leaves to do.
use Prim.Native.Nat.{ℕ, zero, suc, ◌+◌, ◌-◌, ◌*◌, ◌/◌, ◌%◌, ◌^◌, ◌≤◌, ◌<◌}
use mathlib.Core.Path.{◌≡◌, refl, sym, ap, ◌∙◌}
use mathlib.Core.List.{List, [], ◌∷◌, ◌++◌}
use native.Mathlib.Omega.{arith}
use native.Mathlib.Nat.{not-suc-le-zero}
use native.Mathlib.Decide.{dec_lt}
use lib.ListN.{length, length-append, set, length-set}
use mir.Val.{Fits}
use mir.Syntax.{w64}
use borrow.Author.Tests.{lt-ltb, le-ltb}
use Rattle.octets.specs.Octets.{put}
use Rattle.octets.specs.Written.{Room, Wrote}
use Rattle.octets.proofs.Places.{put_put, put_comm}
use Rattle.decimal.specs.declared.Instrument.{Instrument}
use Rattle.decimal.specs.declared.Instrument.TheVariants.{Bonds, Equities}
use Rattle.decimal.specs.Writing.{decimal_in, decimal, places, Scale, plain, fixed, level_text, mean_text}

-- ---- a number without needless zeros
small : (k n : ℕ) → n < 10 → decimal_in (suc k) n ≡ (48 + n) ∷ []
small k n h = simp (lt-ltb n 10 h)

more : (k n : ℕ) → 10 ≤ n → decimal_in (suc k) n ≡ decimal_in k (n / 10) ++ ((48 + n % 10) ∷ [])
more k n h = simp (le-ltb n 10 h)

-- more digits than a number needs change nothing
enough : (k n : ℕ) → n < 10 ^ suc k → decimal_in (suc (suc k)) n ≡ decimal_in (suc k) n
enough zero n h = small 1 n h ∙ sym (small 0 n h)
enough (suc k) n h =
    elim (dec_lt n 10) [
      | yes p ↦ small (suc (suc k)) n p ∙ sym (small (suc k) n p)
      | no p ↦
          let big : 10 ≤ n = omega (arith, p) in
          more (suc (suc k)) n big
          ∙ ap (λ (l : List ℕ). l ++ ((48 + n % 10) ∷ [])) (enough k (n / 10) (omega (arith, h)))
          ∙ sym (more (suc k) n big)
    ]

pub decimal_small : (n : ℕ) → n < 10 → decimal n ≡ (48 + n) ∷ []
unfolding decimal
decimal_small n h = small 19 n h

pub decimal_more : (n : ℕ) → 10 ≤ n → n < 2 ^ 64 → decimal n ≡ decimal (n / 10) ++ ((48 + n % 10) ∷ [])
unfolding decimal
decimal_more n h f =
    let l : n / 10 < 10 ^ 19 = omega (arith, f) in
    more 19 n h ∙ ap (λ (l : List ℕ). l ++ ((48 + n % 10) ∷ [])) (sym (enough 18 (n / 10) l))

-- a number below 10 ^ k has at most k digits
few : (j k n : ℕ) → n < 10 ^ suc k → length (decimal_in j n) ≤ suc k
few zero k n h = omega arith
few (suc j) zero n h = rw (small j n h) (omega arith)
few (suc j) (suc k) n h =
    elim (dec_lt n 10) [
      | yes p ↦ rw (small j n p) (omega arith)
      | no p ↦
          let big : 10 ≤ n = omega (arith, p) in
          rw (more j n big) (omega (arith, length-append (decimal_in j (n / 10)) ((48 + n % 10) ∷ []), few j k (n / 10) (omega (arith, h))))
    ]

pub decimal_few : (k n : ℕ) → n < 10 ^ suc k → length (decimal n) ≤ suc k
unfolding decimal
decimal_few k n h = few 20 k n h

-- ---- how many digits
pub length_small : (n : ℕ) → n < 10 → length (decimal n) ≡ 1
length_small n h = rw (decimal_small n h)

pub length_more : (n : ℕ) → 10 ≤ n → n < 2 ^ 64 → length (decimal n) ≡ length (decimal (n / 10)) + 1
length_more n h f = rw (decimal_more n h f) (length-append (decimal (n / 10)) ((48 + n % 10) ∷ []))

pub length_two : (n : ℕ) → 10 ≤ n → n < 100 → length (decimal n) ≡ 2
length_two n h l = length_more n h (omega arith) ∙ ap (λ (k : ℕ). k + 1) (length_small (n / 10) (omega arith))

pub length_three : (n : ℕ) → 100 ≤ n → n < 1000 → length (decimal n) ≡ 3
length_three n h l = length_more n (omega arith) (omega arith) ∙ ap (λ (k : ℕ). k + 1) (length_two (n / 10) (omega arith) (omega arith))

pub length_four : (n : ℕ) → 1000 ≤ n → n < 10000 → length (decimal n) ≡ 4
length_four n h l = length_more n (omega arith) (omega arith) ∙ ap (λ (k : ℕ). k + 1) (length_three (n / 10) (omega arith) (omega arith))

-- four digits fewer
pub length_cut : (n : ℕ) → 10000 ≤ n → n < 2 ^ 64 → length (decimal n) ≡ length (decimal (n / 10000)) + 4
length_cut n h f =
    let a : ℕ = n / 10 in
    let b : ℕ = a / 10 in
    let c : ℕ = b / 10 in
    let e : c / 10 ≡ n / 10000 = omega arith in
    omega (
      arith,
      length_more n (omega arith) f,
      length_more a (omega arith) (omega arith),
      length_more b (omega arith) (omega arith),
      length_more c (omega arith) (omega arith),
      ap (λ (k : ℕ). length (decimal k)) e,
    )

-- at most twenty
pub length_most : (n : ℕ) → n < 2 ^ 64 → length (decimal n) ≤ 20
length_most n f = decimal_few 19 n (omega arith)

-- ---- exactly k digits
pub length_places : (k n : ℕ) → length (places k n) ≡ k
unfolding places
length_places zero n = refl
length_places (suc k) n = omega (arith, length-append (places k (n / 10)) ((48 + n % 10) ∷ []), length_places k (n / 10))

-- as many digits as a number has, and no more: no needless zero
decimal_is_one : (n : ℕ) → n < 10 → places (length (decimal n)) n ≡ decimal n
unfolding places
decimal_is_one n h = rw (length_small n h, decimal_small n h) (ap (λ (d : ℕ). (48 + d) ∷ []) (omega arith))

decimal_is_in : (j n : ℕ) → n < 10 ^ suc j → n < 2 ^ 64 → places (length (decimal n)) n ≡ decimal n
unfolding places
decimal_is_in zero n h f = decimal_is_one n h
decimal_is_in (suc j) n h f =
    elim (dec_lt n 10) [
      | yes p ↦ decimal_is_one n p
      | no p ↦
          let big : 10 ≤ n = omega (arith, p) in
          let len : length (decimal n) ≡ suc (length (decimal (n / 10))) = omega (arith, length_more n big f) in
          ap (λ (k : ℕ). places k n) len
          ∙ ap (λ (l : List ℕ). l ++ ((48 + n % 10) ∷ [])) (decimal_is_in j (n / 10) (omega (arith, h)) (omega arith))
          ∙ sym (decimal_more n big f)
    ]

pub decimal_is : (n : ℕ) → n < 2 ^ 64 → decimal n ≡ places (length (decimal n)) n
decimal_is n f = sym (decimal_is_in 19 n (omega arith) f)

-- one digit, two, and as many as a number has: writing them is writing it
pub small_room : (n : ℕ) {area : List ℕ} {at : ℕ} → n < 10 → Room area at (decimal n) → Room area at ((48 + n) ∷ [])
small_room n h r = rw (decimal_small n h) at r

pub small_wrote : (n : ℕ) {area : List ℕ} {at next : ℕ} {after : List ℕ} → n < 10 → Wrote area at ((48 + n) ∷ []) next after → Wrote area at (decimal n) next after
small_wrote n h w = rw (decimal_small n h) w

pub decimal_room : (n k : ℕ) {area : List ℕ} {at : ℕ} → n < 2 ^ 64 → k ≡ length (decimal n) → Room area at (decimal n) → Room area at (places k n)
decimal_room n k {area} {at} f e r = rw (e, ← decimal_is n f) r

pub decimal_wrote : (n k : ℕ) {area : List ℕ} {at next : ℕ} {after : List ℕ} → n < 2 ^ 64 → k ≡ length (decimal n) → Wrote area at (places k n) next after → Wrote area at (decimal n) next after
decimal_wrote n k f e w = rw (e, ← decimal_is n f) at w

pub two_room : (n : ℕ) {area : List ℕ} {at : ℕ} → 10 ≤ n → n < 100 → Room area at (decimal n) → Room area at (places 2 n)
two_room n h l r = decimal_room n 2 (omega (arith, l)) (sym (length_two n h l)) r

pub two_wrote : (n : ℕ) {area : List ℕ} {at next : ℕ} {after : List ℕ} → 10 ≤ n → n < 100 → Wrote area at (places 2 n) next after → Wrote area at (decimal n) next after
two_wrote n h l w = decimal_wrote n 2 (omega (arith, l)) (sym (length_two n h l)) w

-- ---- the loop that writes from the last digit: i digits of m are still to be written
pub record Left (area : List ℕ) (at k n i m : ℕ) (now : List ℕ) : Type 0 where
  pub within : i ≤ k
  pub kept : length now ≡ length area
  pub end : put now at (places i m) ≡ put area at (places k n)

pub left_all : (area : List ℕ) (at k n : ℕ) → Left area at k n k n area
left_all area at k n = record { within = omega arith; kept = refl; end = refl }

pub left_more : (area : List ℕ) (at k n i m : ℕ) (now : List ℕ) → Left area at k n i m now → 0 < i
    → Left area at k n (i - 1) (m / 10) (set now (at + (i - 1)) (48 + m % 10))
unfolding places put
left_more area at k n zero m now l h = absurd (not-suc-le-zero h)
left_more area at k n (suc j) m now l h =
    let d : ℕ = 48 + m % 10 in
    let ps : List ℕ = places j (m / 10) in
    let turn : put (set now (at + j) d) at ps ≡ put now at (ps ++ (d ∷ [])) =
    sym (put_comm now at (at + j) ps (d ∷ []) (omega (arith, length_places j (m / 10))))
    ∙ ap (λ (q : ℕ). put (put now at ps) q (d ∷ [])) (ap (λ (q : ℕ). at + q) (sym (length_places j (m / 10))))
    ∙ put_put now at ps (d ∷ []) in
    let e : suc j - 1 ≡ j = omega arith in
    record { within = omega (arith, l.within); kept = simp length-set l.kept; end = rw e (turn ∙ l.end) }

-- two digits a turn
module _ (area : List ℕ) (at k n i m : ℕ) (now : List ℕ) (l : Left area at k n i m now) where
  pub left_two : 1 < i → Left area at k n (i - 2) (m / 100) (set (set now (at + (i - 2) + 1) (48 + m % 100 % 10)) (at + (i - 2)) (48 + m % 100 / 10))
  left_two h =
      let a : i - 1 - 1 ≡ i - 2 = omega arith in
      let b : m / 10 / 10 ≡ m / 100 = omega arith in
      let c : at + (i - 1) ≡ at + (i - 2) + 1 = omega (arith, h) in
      let d : m % 10 ≡ m % 100 % 10 = omega arith in
      let e : m / 10 % 10 ≡ m % 100 / 10 = omega arith in
      rw (a, b, c, d, e) at (left_more area at k n (i - 1) (m / 10) _ (left_more area at k n i m now l (omega (arith, h))) (omega (arith, h)))

  -- there is a place for them
  pub left_place : Room area at (places k n) → 1 < i → at + (i - 2) + 1 < length now
  left_place r h = omega (arith, r.fits, length_places k n, l.within, l.kept)

  pub left_fits : Room area at (places k n) → length area < 2 ^ 64 → 1 < i → Fits w64 (at + (i - 2) + 1)
  left_fits r f h = record { fits = omega (arith, left_place r h, l.kept) }

  pub left_fits_first : Room area at (places k n) → length area < 2 ^ 64 → 1 < i → Fits w64 (at + (i - 2))
  left_fits_first r f h = record { fits = omega (arith, left_place r h, l.kept) }

  pub left_place_first : Room area at (places k n) → 1 < i → (x : ℕ) → at + (i - 2) < length (set now (at + (i - 2) + 1) x)
  left_place_first r h x = simp length-set (omega (arith, left_place r h))

  -- one digit is left, or none
  pub left_first : Room area at (places k n) → i ≡ 1 → at < length now
  left_first r e = omega (arith, r.fits, length_places k n, l.within, l.kept)

  pub left_end : Room area at (places k n) → length area < 2 ^ 64 → Fits w64 (at + k)
  left_end r f = record { fits = omega (arith, r.fits, length_places k n) }

  pub left_none : i ≡ 0 → Wrote area at (places k n) (at + k) now
  unfolding places put
  left_none e = let z : put now at (places i m) ≡ now = rw e in record { place = omega (arith, length_places k n); bytes_in = sym z ∙ l.end }

pub left_one : (area : List ℕ) (at k n i m : ℕ) (now : List ℕ) → Left area at k n i m now → i ≡ 1 → Wrote area at (places k n) (at + k) (set now at (48 + m % 10))
left_one area at k n i m now l e =
    let a : at + (i - 1) ≡ at = omega (arith, e) in
    rw a at (left_none area at k n (i - 1) (m / 10) _ (left_more area at k n i m now l (omega (arith, e))) (omega (arith, e)))

-- ---- counting: k digits are counted, and those of m are not yet
pub record Counted (n k m : ℕ) : Type 0 where
  pub all : k + length (decimal m) ≡ length (decimal n)
  pub most : length (decimal n) ≤ 20
  pub fits : m < 2 ^ 64

pub count_none : (n : ℕ) → n < 2 ^ 64 → Counted n 0 n
count_none n f = record { all = omega arith; most = length_most n f; fits = f }

module _ (n k m : ℕ) (c : Counted n k m) where
  pub count_more : 10000 ≤ m → Counted n (k + 4) (m / 10000)
  count_more h = record { all = omega (arith, length_cut m h c.fits); most = c.most; fits = omega arith }

  pub count_one : m < 10 → k + 1 ≡ length (decimal n)
  count_one h = omega (arith, length_small m h)

  pub count_two : 10 ≤ m → m < 100 → k + 2 ≡ length (decimal n)
  count_two h l = omega (arith, length_two m h l)

  pub count_three : 100 ≤ m → m < 1000 → k + 3 ≡ length (decimal n)
  count_three h l = omega (arith, length_three m h l)

  pub count_four : 1000 ≤ m → m < 10000 → k + 4 ≡ length (decimal n)
  count_four h l = omega (arith, length_four m h l)

-- ---- numbers with k decimals
pub plain_is : (k unit m : ℕ) → Scale k unit → plain k m ≡ decimal (m / unit) ++ (46 ∷ []) ++ places k m
unfolding plain
plain_is k unit m s = rw s.unit_is

module _ (k unit v : ℕ) (s : Scale k unit) where
  pub signed_below : v < unit * 1000000 → fixed Bonds k v ≡ (45 ∷ []) ++ plain k (unit * 1000000 - v)
  unfolding fixed
  signed_below h = let e : unit ≡ 10 ^ k = s.unit_is in rw (← e) (simp (lt-ltb v (unit * 1000000) h))

  pub signed_above : unit * 1000000 ≤ v → fixed Bonds k v ≡ plain k (v - unit * 1000000)
  unfolding fixed
  signed_above h = let e : unit ≡ 10 ^ k = s.unit_is in rw (← e) (simp (le-ltb v (unit * 1000000) h))

  pub unsigned_is : fixed Equities k v ≡ plain k (unit * 100000000 - v)
  unfolding fixed
  unsigned_is = let e : unit ≡ 10 ^ k = s.unit_is in rw (← e) refl

  pub unsigned_room : (m : ℕ) {area : List ℕ} {at : ℕ} → m ≡ unit * 100000000 - v → Room area at (fixed Equities k v) → Room area at (plain k m)
  unsigned_room m e r = rw (e, ← unsigned_is) r

  pub unsigned_wrote : (m : ℕ) {area : List ℕ} {at next : ℕ} {after : List ℕ} → m ≡ unit * 100000000 - v → Wrote area at (plain k m) next after → Wrote area at (fixed Equities k v) next after
  unsigned_wrote m e w = rw (e, ← unsigned_is) at w

-- ---- levels and means, by what is traded
module _ (q : Instrument) (v : ℕ) {area : List ℕ} {at : ℕ} where
  pub level_room_bonds : q ≡ Bonds → Room area at (level_text q v) → Room area at (fixed Bonds 3 v)
  unfolding level_text
  level_room_bonds e r = rw e at r

  pub level_wrote_bonds : {next : ℕ} {after : List ℕ} → q ≡ Bonds → Wrote area at (fixed Bonds 3 v) next after → Wrote area at (level_text q v) next after
  unfolding level_text
  level_wrote_bonds e w = rw e w

  pub level_room_equities : q ≡ Equities → Room area at (level_text q v) → Room area at (fixed Equities 1 v)
  unfolding level_text
  level_room_equities e r = rw e at r

  pub level_wrote_equities : {next : ℕ} {after : List ℕ} → q ≡ Equities → Wrote area at (fixed Equities 1 v) next after → Wrote area at (level_text q v) next after
  unfolding level_text
  level_wrote_equities e w = rw e w

  pub mean_room_bonds : q ≡ Bonds → Room area at (mean_text q v) → Room area at (fixed Bonds 6 v)
  unfolding mean_text
  mean_room_bonds e r = rw e at r

  pub mean_wrote_bonds : {next : ℕ} {after : List ℕ} → q ≡ Bonds → Wrote area at (fixed Bonds 6 v) next after → Wrote area at (mean_text q v) next after
  unfolding mean_text
  mean_wrote_bonds e w = rw e w

  pub mean_room_equities : q ≡ Equities → Room area at (mean_text q v) → Room area at (fixed Equities 4 v)
  unfolding mean_text
  mean_room_equities e r = rw e at r

  pub mean_wrote_equities : {next : ℕ} {after : List ℕ} → q ≡ Equities → Wrote area at (fixed Equities 4 v) next after → Wrote area at (mean_text q v) next after
  unfolding mean_text
  mean_wrote_equities e w = rw e w
