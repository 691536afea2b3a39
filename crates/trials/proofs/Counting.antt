-- Changes counted: what one reading comes to, what a mended report is, and one count more.
use Prim.Native.Nat.{ℕ, zero, suc, ◌+◌, ◌-◌, ◌*◌, ◌≤◌, ◌<◌}
use native.Mathlib.Omega.{arith}
use native.Mathlib.Numerals.{add-one}
use mathlib.Core.Path.{◌≡◌, refl, sym, ap, ◌∙◌}
use mathlib.Core.Bool.{Bool, true, false}
use mathlib.Core.List.{List, [], ◌++◌, append-nil}
use lib.Dec.{eqb}
use lib.ListN.{length, take, drop, get_or, set, length-append, length-set, drop_of_length-le}
use lib.Seq.{length-take-le}
use mir.Syntax.{w64}
use mir.Val.{Fits}
use borrow.Author.Tests.{eq-eqb, ne_eqb}
use Rattle.octets.specs.Written.{Room, Wrote}
use Rattle.octets.proofs.Bools.{split}
use Rattle.octets.proofs.Runs.{wrote_split, wrote_front}
use Rattle.decimal.specs.declared.Instrument.{Instrument}
use Rattle.report.specs.declared.Reading.{Reading}
use Rattle.report.specs.Frame.{check_sum, trailer}
use Rattle.report.specs.Reports.{read_of}
use Rattle.report.proofs.Bytes.{trailer_length}
use Rattle.trials.specs.Changes.{is_refused, refusal, mended, changed, Sized, refused_to, refused_at, refused_in}

-- ---- one reading
module _ (q : Instrument) (s : List ℕ) (x : Reading) (t : Bool) (e : x ≡ read_of q s) (f : t ≡ is_refused x.kind) where
  pub refused_yes : t ≡ true → 1 ≡ refusal q s
  unfolding refusal
  refused_yes y = let z : is_refused (read_of q s).kind ≡ true = rw e at (sym f ∙ y) in rw z

  pub refused_no : t ≡ false → 0 ≡ refusal q s
  unfolding refusal
  refused_no y = let z : is_refused (read_of q s).kind ≡ false = rw e at (sym f ∙ y) in rw z

-- ---- a mended report
pub mend_room : (s : List ℕ) (sum : ℕ) → 7 ≤ length s → Room s (length s - 7) (trailer sum)
mend_room s sum h = record { fits = omega (arith, trailer_length sum) }

pub mend_cut : (s : List ℕ) → 7 ≤ length s → length s - 7 ≡ length (take (length s - 7) s)
mend_cut s h = sym (length-take-le (length s - 7) s (omega arith))

pub mend_wrote : (s after : List ℕ) (sum next : ℕ) → 7 ≤ length s → sum ≡ check_sum (take (length s - 7) s) → Wrote s (length s - 7) (trailer sum) next after → after ≡ mended s
unfolding mended
mend_wrote s after sum next h e w =
    let k = length s - 7 in
    let r = mend_room s sum h in
    let z : drop (k + length (trailer sum)) s ≡ [] = drop_of_length-le s {i = k + length (trailer sum)} (omega (arith, trailer_length sum)) in
    wrote_split r w ∙ ap (λ (l : List ℕ). take k s ++ trailer sum ++ l) z ∙ append-nil (take k s ++ trailer sum) ∙ ap (λ (c : ℕ). take k s ++ trailer c) e

pub mended_length : (s : List ℕ) → 7 ≤ length s → length (mended s) ≡ length s
unfolding mended
mended_length s h =
    omega (arith, length-append (take (length s - 7) s) (trailer (check_sum (take (length s - 7) s))), trailer_length (check_sum (take (length s - 7) s)), mend_cut s h)

-- ---- counts
refusal_most : (q : Instrument) (s : List ℕ) → refusal q s ≤ 1
unfolding refusal
refusal_most q s = split (is_refused (read_of q s).kind) (λ e. rw e (omega arith)) (λ e. rw e (omega arith))

pub to_most : (q : Instrument) (again : Bool) (s : List ℕ) (i b : ℕ) → refused_to q again s i b ≤ 1
unfolding refused_to
to_most q again s i b = split (eqb b (get_or s i 0)) (λ e. rw e (omega arith)) (λ e. rw e (refusal_most q (changed again s i b)))

pub at_most : (q : Instrument) (again : Bool) (s : List ℕ) (i n : ℕ) → refused_at q again s i n ≤ n
unfolding refused_at
at_most q again s i zero = omega arith
at_most q again s i (suc n) = omega (arith, at_most q again s i n, to_most q again s i n)

pub in_most : (q : Instrument) (again : Bool) (s : List ℕ) (n : ℕ) → refused_in q again s n ≤ 256 * n
unfolding refused_in
in_most q again s zero = omega arith
in_most q again s (suc n) = omega (arith, in_most q again s n, at_most q again s n 256)

-- the same byte, and another
pub to_same : (q : Instrument) (again : Bool) (s : List ℕ) (i b w : ℕ) → b ≡ w → w ≡ get_or s i 0 → 0 ≡ refused_to q again s i b
unfolding refused_to
to_same q again s i b w e f = rw (eq-eqb b (get_or s i 0) (e ∙ f))

pub to_other : (q : Instrument) (again : Bool) (s : List ℕ) (i b w r : ℕ) → (b ≡ w → ⊥) → w ≡ get_or s i 0 → r ≡ refusal q (changed again s i b) → r ≡ refused_to q again s i b
unfolding refused_to
to_other q again s i b w r n f e = rw (ne_eqb b (get_or s i 0) (λ z. n (z ∙ sym f))) e

-- one more
pub at_first : (q : Instrument) (again : Bool) (s : List ℕ) (i : ℕ) → 0 ≡ refused_at q again s i 0
unfolding refused_at
at_first q again s i = refl

pub at_on : (q : Instrument) (again : Bool) (s : List ℕ) (i b k r : ℕ) → k ≡ refused_at q again s i b → r ≡ refused_to q again s i b → k + r ≡ refused_at q again s i (b + 1)
unfolding refused_at
at_on q again s i b k r e f = rw (add-one b, e, f)

pub in_first : (q : Instrument) (again : Bool) (s : List ℕ) → 0 ≡ refused_in q again s 0
unfolding refused_in
in_first q again s = refl

pub in_on : (q : Instrument) (again : Bool) (s : List ℕ) (i k r : ℕ) → k ≡ refused_in q again s i → r ≡ refused_at q again s i 256 → k + r ≡ refused_in q again s (i + 1)
unfolding refused_in
in_on q again s i k r e f = rw (add-one i, e, f)

-- the sums stay small, and the loops end
pub at_few : (q : Instrument) (again : Bool) (s : List ℕ) (i b k r : ℕ) → k ≤ b → r ≡ refused_to q again s i b → k + r ≤ b + 1
at_few q again s i b k r h e = omega (arith, to_most q again s i b)

pub at_fits : (q : Instrument) (again : Bool) (s : List ℕ) (i b k r : ℕ) → b < 256 → k ≤ b → r ≡ refused_to q again s i b → Fits w64 (k + r)
at_fits q again s i b k r l h e = omega (arith, to_most q again s i b)

pub at_end : (q : Instrument) (again : Bool) (s : List ℕ) (i b k : ℕ) → b ≤ 256 → 256 ≤ b → k ≡ refused_at q again s i b → k ≡ refused_at q again s i 256
at_end q again s i b k h l e = e ∙ ap (refused_at q again s i) (omega arith)

pub in_few : (q : Instrument) (again : Bool) (s : List ℕ) (i k r : ℕ) → k ≤ 256 * i → r ≡ refused_at q again s i 256 → k + r ≤ 256 * (i + 1)
in_few q again s i k r h e = omega (arith, at_most q again s i 256)

pub in_fits : (q : Instrument) (again : Bool) (s : List ℕ) (i k r n : ℕ) → i < n → n ≤ length s → Sized s → k ≤ 256 * i → r ≡ refused_at q again s i 256 → Fits w64 (k + r)
in_fits q again s i k r n l m z h e = omega (arith, at_most q again s i 256)

pub in_end : (q : Instrument) (again : Bool) (s : List ℕ) (i n k : ℕ) → i ≤ n → n ≤ i → k ≡ refused_in q again s i → k ≡ refused_in q again s n
in_end q again s i n k h l e = e ∙ ap (refused_in q again s) (omega arith)

-- ---- a copy of the bytes, at the start of an area: what is counted of the copy is counted of the bytes
module _ {area s after : List ℕ} {n : ℕ} (w : Wrote area 0 s n after) (r : Room area 0 s) where
  pub copy_same : (q : Instrument) (again : Bool) (i b k : ℕ) → k ≡ refusal q (changed again (take n after) i b) → k ≡ refusal q (changed again s i b)
  copy_same q again i b k f = f ∙ ap (λ (u : List ℕ). refusal q (changed again u i b)) (wrote_front w r)

-- ---- a byte set, and 10 made true where that is asked
module _ (q : Instrument) (again : Bool) (s u : List ℕ) (i b r : ℕ) (f : r ≡ refusal q u) where
  pub now_again : again ≡ true → u ≡ mended (set s i b) → r ≡ refusal q (changed again s i b)
  unfolding changed
  now_again a e = rw a (f ∙ ap (refusal q) e)

  pub now_plain : again ≡ false → u ≡ set s i b → r ≡ refusal q (changed again s i b)
  unfolding changed
  now_plain a e = rw a (f ∙ ap (refusal q) e)

pub now_length : (s u : List ℕ) (i b : ℕ) → 7 ≤ length s → u ≡ mended (set s i b) → length u ≡ length s
now_length s u i b h e = ap length e ∙ mended_length (set s i b) (simp length-set h) ∙ length-set s i b
