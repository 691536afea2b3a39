-- A report with one byte changed is none: 10 is the CheckSum of all before it, and one byte more or less changes it.
use Prim.Native.Nat.{ℕ, zero, suc, ◌+◌, ◌-◌, ◌/◌, ◌%◌, ◌≤◌, ◌<◌}
use native.Mathlib.Omega.{arith}
use native.Mathlib.Nat.{not-suc-le-zero, div-add-mod'}
use native.Mathlib.Decide.{dec_lt}
use mathlib.Core.Path.{◌≡◌, refl, sym, ap, ◌∙◌}
use mathlib.Core.List.{List, [], ◌∷◌, ◌++◌}
use lib.ListN.{length, take, drop, get_or, set, length-set, length-append, take-append-drop}
use lib.Seq.{take_at, drop_at, take-set-le, take-set-lt, drop-set-lt, get_or-set_same, get_or-take, length-take-le}
use Rattle.decimal.specs.declared.Instrument.{Instrument}
use Rattle.decimal.specs.Writing.{decimal, places}
use Rattle.report.specs.declared.Kind.{Kind}
use Rattle.report.specs.declared.Kind.TheVariants.{Accepted, Replaced, Canceled, Trade, Rejected, CancelReject, SessionReject, Refused}
use Rattle.report.specs.Fields.{label, written, row_bytes}
use Rattle.fix.specs.Garbled.{sum_of}
use Rattle.report.specs.Frame.{check_sum, front, trailer, report_bytes}
use Rattle.report.specs.Reports.{read_of}
use Rattle.report.proofs.Bytes.{trailer_length}
use Rattle.report.proofs.ReadOnly.{read_only}

-- ---- the CheckSum

-- one byte for another
sum_set : (s : List ℕ) (i b : ℕ) → i < length s → sum_of (set s i b) + get_or s i 0 ≡ sum_of s + b
unfolding sum_of
sum_set [] i b h = absurd (not-suc-le-zero h)
sum_set (x ∷ s) zero b h = omega arith
sum_set (x ∷ s) (suc i) b h = omega (arith, sum_set s i b (omega arith))

sum_differs : (s : List ℕ) (i b : ℕ) → i < length s → get_or s i 0 < 256 → b < 256 → (b ≡ get_or s i 0 → ⊥) → check_sum s ≡ check_sum (set s i b) → ⊥
unfolding check_sum
sum_differs s i b h l m n e = omega (arith, sum_set s i b h, n, e)

-- its three digits tell it
whole_tells : (c d : ℕ) → c / 10 ≡ d / 10 → 48 + c % 10 ≡ 48 + d % 10 → c ≡ d
whole_tells c d p q = omega (arith, div-add-mod' c 10, div-add-mod' d 10)

top_tells : (c : ℕ) → c < 256 → c / 10 / 10 % 10 ≡ c / 10 / 10
top_tells c h = omega (arith, h)

trailer_tells : (c d : ℕ) → c < 256 → d < 256 → trailer c ≡ trailer d → c ≡ d
unfolding trailer written label decimal places
trailer_tells c d h l e =
    let x : 48 + c / 10 / 10 % 10 ≡ 48 + d / 10 / 10 % 10 = ap (λ (s : List ℕ). get_or s 3 0) e in
    let y : 48 + c / 10 % 10 ≡ 48 + d / 10 % 10 = ap (λ (s : List ℕ). get_or s 4 0) e in
    let z : 48 + c % 10 ≡ 48 + d % 10 = ap (λ (s : List ℕ). get_or s 5 0) e in
    let w : c / 10 / 10 ≡ d / 10 / 10 = omega (arith, x, top_tells c h, top_tells d l) in
    whole_tells c d (whole_tells (c / 10) (d / 10) w y) z

sum_small : (s : List ℕ) → check_sum s < 256
unfolding check_sum
sum_small s = omega arith

-- ---- what is read ends with it
record Ends (s : List ℕ) : Type 0 where
  pub long : 7 ≤ length s
  pub last : drop (length s - 7) s ≡ trailer (check_sum (take (length s - 7) s))

report_ends : (body : List ℕ) → Ends (report_bytes body)
unfolding report_bytes
report_ends body =
    let f = front body in
    let e = trailer (check_sum f) in
    let n : length (f ++ e) ≡ length f + 7 = length-append f e ∙ ap (λ (k : ℕ). length f + k) (trailer_length (check_sum f)) in
    let m : length f ≡ length (f ++ e) - 7 = omega (arith, n) in
    record {
      long = omega (arith, n);
      last = drop_at f e (length (f ++ e) - 7) m ∙ ap (λ (s : List ℕ). trailer (check_sum s)) (sym (take_at f e (length (f ++ e) - 7) m));
    }

read_ends : (q : Instrument) (s : List ℕ) → ((read_of q s).kind ≡ Refused → ⊥) → Ends s
read_ends q s h = rw (read_only q s [] (read_of q s).kind (read_of q s).fields refl h) (report_ends (row_bytes s [] (read_of q s).fields))

-- ---- one byte changed
module _ (s : List ℕ) (i b : ℕ) (h : i < length s) (l : get_or s i 0 < 256) (m : b < 256) (n : b ≡ get_or s i 0 → ⊥) where
  both_end : Ends s → Ends (set s i b) → ⊥
  both_end p q =
      let k = length s - 7 in
      let same : length (set s i b) ≡ length s = length-set s i b in
      let last : drop k (set s i b) ≡ trailer (check_sum (take k (set s i b))) = rw same at q.last in
      elim (dec_lt i k) [
        | yes y ↦
            let f = take k s in
            let long : length f ≡ k = length-take-le k s (omega arith) in
            let byte : get_or f i 0 ≡ get_or s i 0 = get_or-take k s i 0 y in
            let sums : trailer (check_sum f) ≡ trailer (check_sum (set f i b)) =
            sym p.last ∙ sym (drop-set-lt k s i b y) ∙ last ∙ ap (λ (x : List ℕ). trailer (check_sum x)) (take-set-lt k s i b y) in
            sum_differs f i b (omega (arith, long, y)) (omega (arith, byte, l)) m (λ e. n (e ∙ byte))
            (trailer_tells (check_sum f) (check_sum (set f i b)) (sum_small f) (sum_small (set f i b)) sums)
        | no y ↦
            let front : take k (set s i b) ≡ take k s = take-set-le k s i b (omega (arith, y)) in
            let ends : drop k (set s i b) ≡ drop k s = last ∙ ap (λ (x : List ℕ). trailer (check_sum x)) front ∙ sym p.last in
            let whole : set s i b ≡ s =
            sym (take-append-drop k (set s i b)) ∙ ap (λ (x : List ℕ). x ++ drop k (set s i b)) front ∙ ap (λ (x : List ℕ). take k s ++ x) ends ∙ take-append-drop k s in
            n (sym (get_or-set_same s i b 0 h) ∙ ap (λ (x : List ℕ). get_or x i 0) whole)
      ]

refused_or : (k : Kind) → ((k ≡ Refused → ⊥) → ⊥) → k ≡ Refused
refused_or Accepted f = absurd (f (λ e. let z : ◌≡◌ {A = ℕ} 0 1 = cc in omega arith))
refused_or Replaced f = absurd (f (λ e. let z : ◌≡◌ {A = ℕ} 0 1 = cc in omega arith))
refused_or Canceled f = absurd (f (λ e. let z : ◌≡◌ {A = ℕ} 0 1 = cc in omega arith))
refused_or Trade f = absurd (f (λ e. let z : ◌≡◌ {A = ℕ} 0 1 = cc in omega arith))
refused_or Rejected f = absurd (f (λ e. let z : ◌≡◌ {A = ℕ} 0 1 = cc in omega arith))
refused_or CancelReject f = absurd (f (λ e. let z : ◌≡◌ {A = ℕ} 0 1 = cc in omega arith))
refused_or SessionReject f = absurd (f (λ e. let z : ◌≡◌ {A = ℕ} 0 1 = cc in omega arith))
refused_or Refused f = refl

-- a report that is read, with one byte changed, is refused: a message damaged in one byte never passes for another report
pub one_change_is_refused : (q : Instrument) (s : List ℕ) (i b : ℕ) → ((read_of q s).kind ≡ Refused → ⊥) → i < length s → get_or s i 0 < 256 → b < 256 → (b ≡ get_or s i 0 → ⊥)
    → (read_of q (set s i b)).kind ≡ Refused
one_change_is_refused q s i b r h l m n =
    refused_or (read_of q (set s i b)).kind (λ x. both_end s i b h l m n (read_ends q s r) (read_ends q (set s i b) x))
