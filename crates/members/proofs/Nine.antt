-- Nine members are enough to tell what Open does: what was taken apart gives the lists of the first nine, and where there are more than eight Open is refused, whoever they are.
use mathlib.Core.Path.{◌≡◌, refl, sym, ap, ◌∙◌}
use mathlib.Core.Bool.{Bool, true, false, ◌&&◌}
use mathlib.Core.List.{List, ◌++◌, map}
use Prim.Native.Nat.{ℕ, ◌+◌, ◌≤◌, ◌<◌, min}
use native.Mathlib.Omega.{arith}
use lib.Dec.{leb}
use lib.ListN.{length, take, drop, replicate, length-take, length-map}
use lib.Seq.{sets, sets-eq, take_at, take_all}
use borrow.Author.Tests.{leb-true, leb-false, lt-leb}
use Rattle.octets.proofs.Bools.{split, both_not_r}
use Rattle.decimal.specs.declared.Instrument.{Instrument}
use Rattle.table.specs.Opened.{are_given, are_settings, is_opening, opened, open_answer}
use Rattle.members.specs.Members.{mpids_of, modes_of}
use Rattle.members.specs.Apart.{in_nine}
use Rattle.members.specs.declared.Member.{Member}

-- ---- the lists that were taken apart
-- what is put into an array of nine stands at its front
front : (xs : List ℕ) → length xs ≤ 9 → take (length xs) (in_nine xs) ≡ xs
front xs h = let e : sets (replicate 9 0) 0 xs ≡ xs ++ drop (0 + length xs) (replicate 9 0) = sets-eq xs (replicate 9 0) 0 (omega arith) in
    ap (take (length xs)) e ∙ take_at xs (drop (0 + length xs) (replicate 9 0)) (length xs) refl

-- numbers read off the first n members, one of each, come back
back : (f : Member → ℕ) (ms : List Member) (n : ℕ) → n ≡ min (length ms) 9 → take n (in_nine (map f (take n ms))) ≡ map f (take n ms)
back f ms n h =
    let l : length (map f (take n ms)) ≡ n = length-map (take n ms) f ∙ omega (arith, length-take n ms) in
    ap (λ (k : ℕ). take k (in_nine (map f (take n ms)))) (sym l) ∙ front (map f (take n ms)) (omega arith)

-- ---- more than eight
-- a test fails where its second part does
second_fails : (a b c d : Bool) → b ≡ false → (a && b && c && d) ≡ false
second_fails true b c d e = rw e
second_fails false b c d e = refl

too_many : (mpids modes : List ℕ) → 8 < length mpids → are_given mpids modes ≡ false
unfolding are_given
too_many mpids modes h = search (second_fails, lt-leb)

module _ (q : Instrument) (t v p c : List ℕ) (f : ℕ) (ms : List Member) (n : ℕ) (few : n ≡ min (length ms) 9) where
  refused : (ns : List Member) → 8 < length ns → is_opening q t v p c f (mpids_of ns) (modes_of ns) ≡ false
  unfolding is_opening are_settings
  refused ns h = let e = length-map ns (λ m. m.mpid) in let g : 8 < length (mpids_of ns) = omega arith in let z = too_many (mpids_of ns) (modes_of ns) g in search (both_not_r, z)

  -- the first n are all, or there are more than eight of both
  by_nine : {A : Type 0} (F : List Member → A) → (8 < length ms → F (take n ms) ≡ F ms) → F (take n ms) ≡ F ms
  by_nine F h = split (leb (length ms) 9) (λ e. ap F (take_all n ms (omega (arith, leb-true (length ms) 9 e)))) (λ e. h (omega (arith, leb-false (length ms) 9 e)))

  nine : 8 < length ms → 8 < length (take n ms)
  nine h = let e = length-take n ms in omega arith

  same_answer : open_answer q t v p c f (mpids_of (take n ms)) (modes_of (take n ms)) ≡ open_answer q t v p c f (mpids_of ms) (modes_of ms)
  unfolding open_answer
  same_answer = by_nine (λ ns. open_answer q t v p c f (mpids_of ns) (modes_of ns)) (λ h. rw (refused (take n ms) (nine h), refused ms h))

  same_table : opened q t v p c f (mpids_of (take n ms)) (modes_of (take n ms)) ≡ opened q t v p c f (mpids_of ms) (modes_of ms)
  unfolding opened
  same_table = by_nine (λ ns. opened q t v p c f (mpids_of ns) (modes_of ns)) (λ h. rw (refused (take n ms) (nine h), refused ms h))

  -- ---- so the lists that were taken apart give Open's answer and the table
  module _ {mpids modes : List ℕ} (x : mpids ≡ in_nine (mpids_of (take n ms))) (y : modes ≡ in_nine (modes_of (take n ms))) where
    pub answer : open_answer q t v p c f (take n mpids) (take n modes) ≡ open_answer q t v p c f (mpids_of ms) (modes_of ms)
    answer = rw (x, y, back (λ m. m.mpid) ms n few, back (λ m. m.mode) ms n few) same_answer

    pub whole_table : opened q t v p c f (take n mpids) (take n modes) ≡ opened q t v p c f (mpids_of ms) (modes_of ms)
    whole_table = rw (x, y, back (λ m. m.mpid) ms n few, back (λ m. m.mode) ms n few) same_table
