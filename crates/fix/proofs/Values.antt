-- What the values of a message are: each lies within it and is nothing but characters; and what 35, 34 and 52 say where it is
-- not garbled.
use Rattle.std.proofs.Common.{Option, Some, None, ◌≡◌, ℕ, zero, suc, ◌+◌, ◌-◌, ◌<◌, ◌≤◌, true, false, ◌&&◌, eqb, ltb, leb, List, [], ◌∷◌, length, get_or, drop, sym, refl, not-suc-le-zero, suc-ne-zero, arith, get_or-drop, ltb-true, eqb-true, leb-true}
use borrow.Author.Tests.{not-false}
use Rattle.octets.specs.Octets.{part_at, same_bytes}
use Rattle.octets.proofs.Bools.{split, both_l, both_r}
use Rattle.octets.proofs.Parts.{length_part, get_d_part}
use Rattle.decimal.specs.Reading.{num_of, is_time}
use Rattle.decimal.proofs.Scans.{run_below}
use Rattle.decimal.proofs.Numbers.{num_below}
use Rattle.decimal.proofs.Times.{time_long, time_short}
use Rattle.fix.specs.declared.frame.Part.{Part}
use Rattle.fix.specs.declared.frame.Head.{Head}
use Rattle.fix.specs.Fields.{is_text, value_from, value_len, field_of, fields_after, fields_from, fields_of, found_in, find_tag, value_of}
use Rattle.fix.specs.Garbled.{ordered, fix42, said_of, header_right, as_part, part_of, length_true, sum_true, garbled_message, head_of}
use Rattle.fix.proofs.Loops.{parts_same, found_inside}
use Rattle.fix.proofs.Opening.{value_part}

no : ◌≡◌ {A = ℕ} 0 1 → ⊥
no z = suc-ne-zero 0 (sym z)

-- ---- a text of a message
abbrev pub text_of : List ℕ → Part → List ℕ
text_of s p = part_at s p.start p.len

-- each byte of v lies from low to high
abbrev pub Between : ℕ → ℕ → List ℕ → Type 0
Between low high v = (k : ℕ) → k < length v → (low ≤ get_or v k 0) × (get_or v k 0 ≤ high)

-- it lies within the message, has from least to most characters, and each is one from low to high
pub record Spelt (s : List ℕ) (p : Part) (least most low high : ℕ) : Type 0 where
  pub inside : p.start + p.len ≤ length s
  pub long : length (text_of s p) ≡ p.len
  pub some : least ≤ length (text_of s p)
  pub short : length (text_of s p) ≤ most
  pub bytes : Between low high (text_of s p)

pub spelt_by : (s : List ℕ) (p : Part) (least most low high : ℕ) → p.start + p.len ≤ length s → least ≤ p.len → p.len ≤ most
    → ((k : ℕ) → k < p.len → (low ≤ get_or s (p.start + k) 0) × (get_or s (p.start + k) 0 ≤ high)) → Spelt s p least most low high
spelt_by s p least most low high h a b all =
    let l = length_part s p.start p.len h in
    record {
      inside = h;
      long = l;
      some = omega arith;
      short = omega arith;
      bytes = λ k i. rw (get_d_part s p.start p.len k (omega arith)) (all k (omega arith));
    }

-- a time
pub record Timed (s : List ℕ) (p : Part) : Type 0 where
  pub right : is_time (text_of s p) ≡ true
  pub spelt : Spelt s p 17 21 32 126

-- ---- a value that was found stands behind its tag, and has nothing but characters
pub text_low : (b : ℕ) → is_text b ≡ true → (32 ≤ b) × (b ≤ 126)
unfolding is_text
text_low b h = (leb-true 32 b (both_l (leb 32 b) (leb b 126) h), leb-true b 126 (both_r (leb 32 b) (leb b 126) h))

value_text : (s : List ℕ) (i : ℕ) → value_from s ≤ i → i < value_from s + value_len s → is_text (get_or s i 0) ≡ true
unfolding value_len
value_text s i h l =
    let z : value_from s + (i - value_from s) ≡ i = omega arith in
    let t = run_below is_text (drop (value_from s) s) (i - value_from s) (omega arith) in
    let u : is_text (get_or s (value_from s + (i - value_from s)) 0) ≡ true = rw (← get_or-drop (value_from s) s (i - value_from s) 0) t in
    rw z at u

-- as far behind the start of its field as every value of its tag
pub found_behind : (d t : ℕ) → ((at : ℕ) (s : List ℕ) → (field_of at s).tag ≡ t → d ≤ value_from s)
    → (s : List ℕ) (k at start len : ℕ) → find_tag t (fields_after k at s) ≡ Some (record { start = start; len = len }) → at + k + d ≤ start
unfolding find_tag fields_after field_of
found_behind d t tags [] k at start len e = let z : ◌≡◌ {A = ℕ} 0 1 = cc in absurd (no z)
found_behind d t tags (b ∷ s) (suc k) at start len e = omega (arith, found_behind d t tags s k (suc at) start len e)
found_behind d t tags (b ∷ s) zero at start len e =
    split (eqb (field_of at (b ∷ s)).tag t)
    (λ y.
    let q : ◌≡◌ {A = Option Part} (Some (record { start = at + value_from (b ∷ s); len = value_len (b ∷ s) })) (Some (record { start = start; len = len })) = rw y at e in
    let p = (parts_same _ _ start len q).0 in
    omega (arith, tags at (b ∷ s) (eqb-true _ t y)))
    (λ n. omega (arith, found_behind d t tags s _ (suc at) start len (rw n at e)))

behind_tag : (t at : ℕ) (s : List ℕ) → (field_of at s).tag ≡ t → 1 ≤ value_from s
unfolding value_from
behind_tag t at s e = omega arith

here_text : (at b : ℕ) (s : List ℕ) (t start len : ℕ) → ◌≡◌ {A = Option Part} (Some (record { start = at + value_from (b ∷ s); len = value_len (b ∷ s) })) (Some (record { start = start; len = len }))
    → (i : ℕ) → start ≤ at + i → at + i < start + len → is_text (get_or (b ∷ s) i 0) ≡ true
here_text at b s t start len q i h l =
    let p = parts_same _ _ start len q in
    value_text (b ∷ s) i (omega arith) (omega arith)

text_within : (s : List ℕ) (k at t start len : ℕ) → find_tag t (fields_after k at s) ≡ Some (record { start = start; len = len })
    → (i : ℕ) → start ≤ at + i → at + i < start + len → is_text (get_or s i 0) ≡ true
unfolding find_tag fields_after field_of
text_within [] k at t start len e i h l = let z : ◌≡◌ {A = ℕ} 0 1 = cc in absurd (no z)
text_within (b ∷ s) (suc k) at t start len e zero h l = absurd (omega (arith, found_behind 1 t (behind_tag t) s k (suc at) start len e))
text_within (b ∷ s) (suc k) at t start len e (suc i) h l = text_within s k (suc at) t start len e i (omega arith) (omega arith)
text_within (b ∷ s) zero at t start len e zero h l =
    split (eqb (field_of at (b ∷ s)).tag t) (λ y. here_text at b s t start len (rw y at e) 0 h l)
    (λ n. absurd (omega (arith, found_behind 1 t (behind_tag t) s _ (suc at) start len (rw n at e))))
text_within (b ∷ s) zero at t start len e (suc i) h l =
    split (eqb (field_of at (b ∷ s)).tag t) (λ y. here_text at b s t start len (rw y at e) (suc i) h l)
    (λ n. text_within s _ (suc at) t start len (rw n at e) i (omega arith) (omega arith))

-- every byte of a value is a character
pub found_text : (s : List ℕ) (t start len : ℕ) → find_tag t (fields_of s) ≡ Some (record { start = start; len = len }) → (k : ℕ) → k < len → is_text (get_or s (start + k) 0) ≡ true
unfolding fields_from
found_text s t start len e k h = text_within s 0 0 t start len e (start + k) (omega arith) (omega arith)

-- ---- the value of a tag, where it is of a length that it may have
spelt_found : (s : List ℕ) (t : ℕ) (f : Option Part) → 0 < t → find_tag t (fields_of s) ≡ f → (least most : ℕ)
    → least ≤ length (found_in s f) → length (found_in s f) ≤ most → Spelt s (as_part f) least most 32 126
unfolding part_at
spelt_found s t (Some p) z e least most a b =
    let h = found_inside s t p.start p.len z e in
    let l : length (part_at s p.start p.len) ≡ p.len = length_part s p.start p.len (omega arith) in
    spelt_by s p least most 32 126 (omega arith) (omega arith) (omega arith) (λ k i. text_low _ (found_text s t p.start p.len e k i))
spelt_found s t None z e least most a b =
    spelt_by s (record { start = 0; len = 0 }) least most 32 126 (omega arith) a b (λ k i. absurd (not-suc-le-zero i))

pub value_spelt : (s : List ℕ) (t : ℕ) → 0 < t → (least most : ℕ) → least ≤ length (value_of s t) → length (value_of s t) ≤ most
    → Spelt s (part_of s t) least most 32 126
unfolding value_of part_of
value_spelt s t z least most a b = spelt_found s t (find_tag t (fields_of s)) z refl least most a b

-- ---- the header of a message that is not garbled
pub clear_header : (s : List ℕ) → garbled_message s ≡ false → header_right s ≡ true
unfolding garbled_message
clear_header s h =
    let a = leb 1 (length s) && leb (length s) 1024 && ordered (fields_of s) in
    both_r a (header_right s) (both_l (a && header_right s) (length_true s) (both_l (a && header_right s && length_true s) (sum_true s) (not-false _ h)))

pub record HeadSpelt (s : List ℕ) (h : Head) : Type 0 where
  pub kind : Spelt s h.kind 1 2 32 126
  pub time : Timed s h.time
  pub number_low : 0 < h.number
  pub number_high : h.number < 1000000000

said_below : (x : Option ℕ) (m : ℕ) → 0 < m → ((n : ℕ) → x ≡ Some n → n < m) → said_of x < m
said_below (Some n) m z h = h n refl
said_below None m z h = z

pub clear_head : (s : List ℕ) → garbled_message s ≡ false → HeadSpelt s (head_of s)
unfolding header_right head_of
clear_head s h =
    let r1 = clear_header s h in
    let begins = same_bytes (value_of s 8) fix42 in
    let some = leb 1 (length (value_of s 35)) in
    let short = leb (length (value_of s 35)) 2 in
    let numbered = ltb 0 (said_of (num_of 9 (value_of s 34))) in
    let sent = leb 1 (length (value_of s 49)) in
    let timed = is_time (value_of s 52) in
    let r2 = both_l (begins && some && short && numbered && sent && timed) (leb 1 (length (value_of s 56))) r1 in
    let t : is_time (value_of s 52) ≡ true = both_r (begins && some && short && numbered && sent) timed r2 in
    let r3 = both_l (begins && some && short && numbered) sent (both_l (begins && some && short && numbered && sent) timed r2) in
    let n = both_r (begins && some && short) numbered r3 in
    let r4 = both_l (begins && some && short) numbered r3 in
    record {
      kind = value_spelt s 35 (omega arith) 1 2 (leb-true 1 _ (both_r begins some (both_l (begins && some) short r4))) (leb-true _ 2 (both_r (begins && some) short r4));
      time = record { right = rw (value_part s 52) t; spelt = value_spelt s 52 (omega arith) 17 21 (time_long (value_of s 52) t) (time_short (value_of s 52) t) };
      number_low = ltb-true 0 _ n;
      number_high = said_below (num_of 9 (value_of s 34)) 1000000000 (omega arith) (λ m e. num_below 9 (value_of s 34) m e);
    }
