-- Where messages end: the tests of the reading, one after another, and what lies behind a message that was found.
use mathlib.Core.Path.{◌≡◌, refl, sym, ap, ◌∙◌}
use mathlib.Core.Bool.{Bool, true, false, not, ◌&&◌, and-false}
use mathlib.Core.List.{List, [], ◌∷◌}
use Prim.Native.Nat.{ℕ, zero, suc, ◌+◌, ◌-◌, ◌≤◌, ◌<◌}
use native.Mathlib.Omega.{arith}
use lib.Dec.{eqb, leb, ltb}
use lib.ListN.{length, get_or, take, drop, length-drop}
use lib.Seq.{take_all, length-take-le}
use borrow.Author.Tests.{eq-eqb, ne_eqb, eqb-true, eqb-false, lt-leb, le-leb, leb-true, not-true, not-false}
use Rattle.octets.specs.Octets.{part_at, same_bytes}
use Rattle.octets.proofs.Bools.{split, not_both, both_l, both_r}
use Rattle.octets.proofs.Parts.{part_rest}
use Rattle.std.specs.Prelude.{Option, Some, None}
use Rattle.std.proofs.lemmas.Option.{cond_some}
use Rattle.decimal.specs.Reading.{is_digit, digit_run, number, is_number, num_of}
use Rattle.decimal.proofs.Scans.{run_le}
use Rattle.decimal.proofs.Numbers.{num_below}
use Rattle.load.specs.Buffer.{beginning, nine_of, says_length, length_said, starts_message, Lying, End, Unreadable, Then, lying_after, lying_in}
use Rattle.load.specs.Turn.{length_found}

-- ---- no message: a test that fails

module _ (s : List ℕ) where
  none_found : starts_message s ≡ false → None ≡ length_found s
  unfolding length_found
  none_found h = rw h

  says_not : says_length s ≡ false → None ≡ length_found s
  unfolding starts_message
  says_not h = none_found (rw h)

-- ---- the reading, test by test

module _ (s a : List ℕ) (ea : a ≡ part_at s 0 12) (f : Bool) (ef : f ≡ same_bytes a beginning) where
  pub no_beginning : not f ≡ true → None ≡ length_found s
  unfolding says_length
  no_beginning h =
      let z : same_bytes (part_at s 0 12) beginning ≡ false = rw (← ea) (sym ef ∙ not-true f h) in
      says_not s (rw z)

  module _ (h : not f ≡ false) (b : List ℕ) (eb : b ≡ part_at s 12 (length s)) (k : ℕ) (ek : k ≡ digit_run b) (d : List ℕ) (ed : d ≡ part_at s 12 k) (x : Option ℕ) (ex : x ≡ num_of 4 d) where
    begins : same_bytes (part_at s 0 12) beginning ≡ true
    begins = rw (← ea) (sym ef ∙ not-false f h)

    run_is : k ≡ digit_run (drop 12 s)
    run_is = ek ∙ ap digit_run (eb ∙ part_rest s 12 (length s) (omega arith))

    nine_is : nine_of s ≡ d
    unfolding nine_of
    nine_is = rw (← run_is) (sym ed)

    pub no_number : x ≡ None → None ≡ length_found s
    unfolding says_length num_of
    no_number w =
        let z : is_number 4 (nine_of s) ≡ false =
        split (is_number 4 d)
        (λ y.
        let v : Some (number d) ≡ None = sym (rw y at ex) ∙ w in
        let q : ◌≡◌ {A = ℕ} 0 1 = cc in
        absurd (omega arith))
        (λ y. rw nine_is y) in
        says_not s (simp (z, and-false))

    module _ (n : ℕ) (v : x ≡ Some n) where
      said : num_of 4 d ≡ Some n
      said = sym ex ∙ v

      right : is_number 4 d ≡ true
      unfolding num_of
      right = (cond_some (is_number 4 d) (number d) n said).0

      says : number d ≡ n
      unfolding num_of
      says = (cond_some (is_number 4 d) (number d) n said).1

      few : n < 10000
      few = num_below 4 d n said

      short : length d ≤ 4
      unfolding is_number
      short =
          leb-true (length d) 4 (both_r (ltb 0 (length d)) (leb (length d) 4) (both_l (ltb 0 (length d) && leb (length d) 4) (eqb (digit_run d) (length d)) right))

      -- there are so many digits
      count : length d ≡ k
      unfolding part_at
      count = ap length ed ∙ length-take-le k (drop 12 s) (omega (arith, run_is, run_le is_digit (drop 12 s)))

      pub digits_few : k ≤ 4
      digits_few = omega (arith, count, short)

      pub number_few : n < 10000
      number_few = few

      module _ (c : ℕ) (ec : c ≡ get_or s (12 + k) 0) where
        pub no_soh : (c ≡ 1 → ⊥) → None ≡ length_found s
        unfolding says_length
        no_soh g =
            let z : eqb (get_or s (12 + length (nine_of s)) 0) 1 ≡ false = rw (nine_is, count, ← ec) (ne_eqb c 1 g) in
            says_not s (simp (z, and-false))

        module _ (g : c ≡ 1) where
          says_so : says_length s ≡ true
          unfolding says_length
          says_so =
              let z : eqb (get_or s (12 + length (nine_of s)) 0) 1 ≡ true = rw (nine_is, count, ← ec) (eq-eqb c 1 g) in
              let y : is_number 4 (nine_of s) ≡ true = rw nine_is right in
              rw (begins, y, z)

          said_is : length_said s ≡ 12 + k + 1 + n + 7
          unfolding length_said
          said_is = rw (nine_is, count, says)

          pub too_long : length s < 12 + k + 1 + n + 7 → None ≡ length_found s
          unfolding starts_message
          too_long l = none_found s (rw (says_so, said_is, lt-leb (12 + k + 1 + n + 7) (length s) l))

          pub found : 12 + k + 1 + n + 7 ≤ length s → Some (12 + k + 1 + n + 7) ≡ length_found s
          unfolding length_found starts_message
          found l = rw (says_so, said_is, le-leb (12 + k + 1 + n + 7) (length s) l)

-- the part from a place on, as it is lent
pub lent_from : (t : List ℕ) (p : ℕ) → take (length t - p) (drop p t) ≡ drop p t
lent_from t p = take_all (length t - p) (drop p t) (rw (length-drop p t) (omega arith))

pub found_at : (t : List ℕ) (p : ℕ) (r : Option ℕ) → r ≡ length_found (take (length t - p) (drop p t)) → r ≡ length_found (drop p t)
found_at t p r e = e ∙ ap length_found (lent_from t p)

-- ---- what was found

module _ (s : List ℕ) (x : Option ℕ) (e : x ≡ length_found s) where
  pub found_none : x ≡ None → starts_message s ≡ false
  unfolding length_found
  found_none z =
      split (starts_message s)
      (λ y. let q : Some (length_said s) ≡ None = sym (rw y at e) ∙ z in let w : ◌≡◌ {A = ℕ} 0 1 = cc in absurd (omega arith)) (λ y. y)

  module _ (n : ℕ) (g : x ≡ Some n) where
    pub found_starts : starts_message s ≡ true
    unfolding length_found
    found_starts =
        split (starts_message s) (λ y. y)
        (λ y. let q : None ≡ Some n = sym (rw y at e) ∙ g in let w : ◌≡◌ {A = ℕ} 0 1 = cc in absurd (omega arith))

    pub found_said : n ≡ length_said s
    unfolding length_found
    found_said = let q : Some (length_said s) ≡ Some n = sym (rw found_starts at e) ∙ g in cc

-- ---- what lies in a buffer

-- a message has all its bytes
pub starts_within : (s : List ℕ) → starts_message s ≡ true → length_said s ≤ length s
unfolding starts_message
starts_within s e = leb-true (length_said s) (length s) (both_r (says_length s) (leb (length_said s) (length s)) e)

pub said_some : (s : List ℕ) → 20 ≤ length_said s
unfolding length_said
said_some s = omega arith

lying_drop : (k : ℕ) (s : List ℕ) → lying_after k s ≡ lying_in (drop k s)
unfolding lying_after
lying_drop zero s = refl
lying_drop (suc k) [] = refl
lying_drop (suc k) (b ∷ s) = lying_drop k s

drop_less : (n b : ℕ) (s : List ℕ) → 1 ≤ n → drop (n - 1) s ≡ drop n (b ∷ s)
drop_less zero b s l = absurd (omega arith)
drop_less (suc n) b s l = let z : suc n - 1 ≡ n = omega arith in rw z

-- a message, and what lies behind it
pub lying_then : (s : List ℕ) → starts_message s ≡ true → lying_in s ≡ Then (take (length_said s) s) (lying_in (drop (length_said s) s))
unfolding lying_after starts_message says_length same_bytes part_at
lying_then [] e = absurd (not_both e refl)
lying_then (b ∷ s) e =
    rw e
    (ap (λ (x : Lying). Then (take (length_said (b ∷ s)) (b ∷ s)) x)
    (lying_drop (length_said (b ∷ s) - 1) s ∙ ap lying_in (drop_less (length_said (b ∷ s)) b s (omega (arith, said_some (b ∷ s))))))

-- bytes that are none
pub lying_not : (s : List ℕ) → starts_message s ≡ false → 0 < length s → lying_in s ≡ Unreadable
unfolding lying_after
lying_not [] e l = absurd (omega arith)
lying_not (b ∷ s) e l = rw e

-- nothing
pub lying_end : (s : List ℕ) → length s ≡ 0 → lying_in s ≡ End
unfolding lying_after
lying_end [] e = refl
lying_end (b ∷ s) e = absurd (omega arith)

-- a message that lies at the front: its bytes, and what lies behind it
pub record Behind (s message : List ℕ) (rest : Lying) : Type 0 where
  pub within : length message ≤ length s
  pub front : message ≡ take (length message) s
  pub behind : lying_in (drop (length message) s) ≡ rest

abbrev first_of : Lying → List ℕ
first_of End = []
first_of Unreadable = []
first_of (Then message rest) = message

abbrev rest_of : Lying → Lying
rest_of End = End
rest_of Unreadable = End
rest_of (Then message rest) = rest

abbrev is_then : Lying → Bool
is_then End = false
is_then Unreadable = false
is_then (Then message rest) = true

pub lying_behind : (s message : List ℕ) (rest : Lying) → lying_in s ≡ Then message rest → Behind s message rest
lying_behind s message rest e = split (starts_message s) (λ f. found_behind f) (λ f. absurd (none f))
  where
    none : starts_message s ≡ false → ⊥
    none f =
        split (eqb (length s) 0)
        (λ z. not_both (ap is_then e) (ap is_then (lying_end s (eqb-true (length s) 0 z))))
        (λ z. not_both (ap is_then e) (ap is_then (lying_not s f (omega (arith, eqb-false (length s) 0 z)))))

    found_behind : starts_message s ≡ true → Behind s message rest
    found_behind f =
        let l = lying_then s f in
        let m : message ≡ take (length_said s) s = sym (ap first_of e) ∙ ap first_of l in
        let w = starts_within s f in
        let n : length message ≡ length_said s = ap length m ∙ length-take-le (length_said s) s w in
        record { within = omega arith; front = rw n m; behind = rw n (sym (ap rest_of l) ∙ ap rest_of e) }

abbrev is_end : Lying → Bool
is_end End = true
is_end Unreadable = false
is_end (Then message rest) = false

-- nothing lies where nothing is
pub lying_ends : (s : List ℕ) → lying_in s ≡ End → length s ≡ 0
lying_ends s e =
    split (eqb (length s) 0)
    (λ z. eqb-true (length s) 0 z)
    (λ z.
    let l : 0 < length s = omega (arith, eqb-false (length s) 0 z) in
    split (starts_message s)
    (λ f. absurd (not_both (ap is_end e) (ap is_end (lying_then s f))))
    (λ f. absurd (not_both (ap is_end e) (ap is_end (lying_not s f l)))))

-- and where bytes cannot be read, no message starts
pub lying_unread : (s : List ℕ) → lying_in s ≡ Unreadable → starts_message s ≡ false
lying_unread s e = split (starts_message s) (λ f. absurd (not_both (ap is_then (lying_then s f)) (ap is_then e))) (λ f. f)
