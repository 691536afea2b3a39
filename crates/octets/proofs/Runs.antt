-- Writing one run of bytes after another is one writing of both; the room for both splits in the same way; a run written
-- into the lent rest of an area is written in the area. Everything is inferred from the records Room and Wrote.
use mathlib.Core.Path.{◌≡◌, refl, sym, ap, ◌∙◌}
use mathlib.Core.List.{List, [], ◌∷◌, ◌++◌}
use Prim.Native.Nat.{ℕ, ◌+◌, ◌-◌, ◌≤◌, ◌<◌}
use native.Mathlib.Nat.{add-zero}
use native.Mathlib.Omega.{arith}
use native.Mathlib.Numerals.{add-one}
use lib.ListN.{length, length-append, take, drop, set, get_or, replicate}
use lib.Seq.{sets-eq, take-suc, take_at}
use Rattle.octets.specs.Octets.{put, put_text}
use Rattle.octets.specs.Written.{Room, Wrote}
use Rattle.octets.proofs.Places.{length_put, put_put, part_back}
use Rattle.octets.proofs.Parts.{put_three}

-- nothing written
pub wrote_none : (area : List ℕ) (at : ℕ) → Wrote area at [] at area
unfolding put
wrote_none area at = record { place = sym (add-zero at); bytes_in = refl }

-- one byte stored
pub wrote_one : (area : List ℕ) (at x : ℕ) → Wrote area at (x ∷ []) (at + 1) (set area at x)
unfolding put
wrote_one area at x = record { place = refl; bytes_in = refl }

-- one writing after another is one writing of both
pub then : {area : List ℕ} {at : ℕ} {xs ys : List ℕ} {next next₂ : ℕ} {after after₂ : List ℕ}
    → Wrote area at xs next after → Wrote after next ys next₂ after₂ → Wrote area at (xs ++ ys) next₂ after₂
then {area} {at} {xs} {ys} {next} {next₂} {after} {after₂} p q =
    record {
      place = omega (arith, p.place, q.place, length-append xs ys);
      bytes_in =
          q.bytes_in ∙ ap (λ (k : ℕ). put after k ys) p.place
          ∙ ap (λ (d : List ℕ). put d (at + length xs) ys) p.bytes_in ∙ put_put area at xs ys;
    }

-- writing keeps the length
pub wrote_length : {area : List ℕ} {at : ℕ} {xs : List ℕ} {next : ℕ} {after : List ℕ} → Wrote area at xs next after → length after ≡ length area
wrote_length {area} {at} {xs} p = ap length p.bytes_in ∙ length_put area at xs

-- room for both is room for the first and, once that is written, for the second
pub room_first : {area : List ℕ} {at : ℕ} (xs ys : List ℕ) → Room area at (xs ++ ys) → Room area at xs
room_first {area} {at} xs ys h = record { fits = omega (arith, h.fits, length-append xs ys) }

pub room_then : {area : List ℕ} {at : ℕ} {xs : List ℕ} {next : ℕ} {after : List ℕ} (ys : List ℕ)
    → Room area at (xs ++ ys) → Wrote area at xs next after → Room after next ys
room_then {area} {at} {xs} {next} {after} ys h p =
    record { fits = omega (arith, h.fits, length-append xs ys, p.place, wrote_length p) }

-- the next place is within the area, or at its end
pub wrote_within : {area xs after : List ℕ} {at next : ℕ} → Wrote area at xs next after → Room area at xs → next ≤ length after
wrote_within p h = omega (arith, p.place, wrote_length p, h.fits)

-- where there is room, the bytes before the place and those behind the run are as they were
pub wrote_split : {area : List ℕ} {at : ℕ} {xs : List ℕ} {next : ℕ} {after : List ℕ}
    → Room area at xs → Wrote area at xs next after → after ≡ take at area ++ xs ++ drop (at + length xs) area
unfolding put
wrote_split {area} {at} {xs} h p = p.bytes_in ∙ sets-eq xs area at h.fits

-- what was written from the start of an area on is its front
pub wrote_front : {area xs after : List ℕ} {next : ℕ} → Wrote area 0 xs next after → Room area 0 xs → take next after ≡ xs
wrote_front {area} {xs} {after} {next} p h =
    let e : next ≡ length xs = omega (arith, p.place) in
    rw (e, wrote_split h p) (take_at xs (drop (0 + length xs) area) (length xs) refl)

-- ---- a text copied byte by byte: a byte more
pub copy_more : {area : List ℕ} (text : List ℕ) {after : List ℕ} {at next : ℕ} (j : ℕ)
    → j < length text → Wrote area at (take j text) next after → Wrote area at (take (j + 1) text) (next + 1) (set after next (get_or text j 0))
copy_more text {after} {next = next} j l p = rw (add-one j, take-suc text j 0) (then p (wrote_one after next (get_or text j 0)))

-- ---- a run written at the start of the rest `&mut area[at..]` is written in the area from that place on
pub wrote_rest : (area : List ℕ) (at : ℕ) {xs part : List ℕ} {next : ℕ} → at ≤ length area
    → Wrote (take (length area - at) (drop at area)) 0 xs next part
    → Wrote area at xs (at + next) (take at area ++ (part ++ drop (length area - at) (drop at area)))
wrote_rest area at {xs} {part} {next} h w =
    record { place = omega (arith, w.place); bytes_in = rw w.bytes_in (part_back area at xs h) }

-- ---- a length byte stored, the text copied behind it, and zeros put behind that: the text is put
pub wrote_text : (n : ℕ) (t : List ℕ) (p : ℕ) {xs : List ℕ} {q : ℕ} {after after₂ : List ℕ} → Wrote (set t p (length xs)) (p + 1) xs q after
    → after₂ ≡ put after q (replicate (n - length xs) 0) → after₂ ≡ put_text n t p xs
wrote_text n t p {xs} w e = e ∙ rw (w.bytes_in, w.place) (put_three n t p xs)
