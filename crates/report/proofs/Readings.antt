-- The kind of a report, where a field stands, and the whole reading: what each answer rests on.
use Prim.Native.Nat.{ℕ, ◌+◌, ◌-◌, ◌^◌, ◌≤◌, ◌<◌}
use mathlib.Core.Path.{◌≡◌, sym, ap, ◌∙◌}
use mathlib.Core.Bool.{true}
use mathlib.Core.List.{List}
use native.Mathlib.Omega.{arith}
use lib.ListN.{length, drop, get_or, get_or-eq_default}
use mir.Syntax.{w64}
use mir.Val.{Fits}
use borrow.Author.Tests.{eq-eqb, ne_eqb, lt-ltb, le-ltb}
use Rattle.decimal.specs.Writing.{decimal}
use Rattle.decimal.specs.declared.Instrument.{Instrument}
use Rattle.report.specs.declared.Slot.{Slot}
use Rattle.report.specs.declared.Kind.{Kind}
use Rattle.report.specs.declared.Kind.TheVariants.{CancelReject, SessionReject, Refused}
use Rattle.report.specs.declared.Reading.{Reading}
use Rattle.report.specs.Fields.{label}
use Rattle.report.specs.Parse.{len_to, place_of}
use Rattle.report.specs.Slots.{slots_of}
use Rattle.report.specs.Reports.{execution_for, kind_for, first_of, kind_of, reading_of, read_framed, read_of, part_of, part}
use Rattle.report.proofs.Labels.{label_length}
use Rattle.report.proofs.Walks.{place_within}
use Rattle.std.proofs.Common.{None}

-- ---- where a field stands
module _ (s : List ℕ) (tag p : ℕ) (e : p ≡ place_of (label tag) true s) where
  pub first_none : length s ≤ p → 0 ≡ first_of s tag
  unfolding first_of
  first_none h = rw (← e) (sym (get_or-eq_default s 0 {n = p + length (label tag)} (omega arith)))

  pub part_none : length s ≤ p → None ≡ part_of s tag
  unfolding part_of
  part_none h = rw (← e, le-ltb p (length s) h)

  module _ (h : p < length s) (k : ℕ) (l : k ≡ length (decimal tag)) where
    pub part_within : p + k + 1 ≤ length s
    part_within = omega (arith, place_within (label tag) s true (rw (← e) h), label_length tag)

    pub label_fits : length s < 2 ^ 64 → Fits w64 (p + k)
    label_fits f = record { fits = omega (arith, part_within) }

    pub value_fits : length s < 2 ^ 64 → Fits w64 (p + k + 1)
    value_fits f = record { fits = omega (arith, part_within) }

    from : p + length (label tag) ≡ p + k + 1
    from = omega (arith, label_length tag)

    pub first_some : (b : ℕ) → b ≡ get_or s (p + k + 1) 0 → b ≡ first_of s tag
    unfolding first_of
    first_some b q = rw (← e) (q ∙ ap (λ (j : ℕ). get_or s j 0) (sym from))

    pub part_some : (n : ℕ) → n ≡ p + k + 1 + len_to (drop (p + k + 1) s) → part (p + k + 1) (n - (p + k + 1)) ≡ part_of s tag
    unfolding part_of
    part_some n q =
        let z = from in
        let m : n - (p + k + 1) ≡ len_to (drop (p + k + 1) s) = omega arith in
        rw (← e, lt-ltb p (length s) h, z, m)

-- ---- the kind
module _ (s : List ℕ) (a : ℕ) (e : a ≡ first_of s 35) where
  pub kind_session : a ≡ 51 → SessionReject ≡ kind_of s
  unfolding kind_of kind_for
  kind_session h = rw (← e) (simp (eq-eqb a 51 h))

  pub kind_cancel : (a ≡ 51 → ⊥) → a ≡ 57 → CancelReject ≡ kind_of s
  unfolding kind_of kind_for
  kind_cancel n h = rw (← e) (simp (ne_eqb a 51 n, eq-eqb a 57 h))

  pub kind_execution : (a ≡ 51 → ⊥) → (a ≡ 57 → ⊥) → a ≡ 56 → (b : ℕ) → b ≡ first_of s 150 → (k : Kind) → k ≡ execution_for b → k ≡ kind_of s
  unfolding kind_of kind_for
  kind_execution n m h b be k ke = rw (← e, ← be) (ke ∙ simp (ne_eqb a 51 n, ne_eqb a 57 m, eq-eqb a 56 h))

  pub kind_none : (a ≡ 51 → ⊥) → (a ≡ 57 → ⊥) → (a ≡ 56 → ⊥) → Refused ≡ kind_of s
  unfolding kind_of kind_for
  kind_none n m h = rw (← e) (simp (ne_eqb a 51 n, ne_eqb a 57 m, ne_eqb a 56 h))

-- ---- the whole
pub read_is : (q : Instrument) (s : List ℕ) (k : Kind) (slots : List Slot) (x : Reading) → k ≡ kind_of s → slots ≡ slots_of q k → x ≡ reading_of k (read_framed s slots) → x ≡ read_of q s
unfolding read_of
read_is q s k slots x ke se xe =
    xe ∙ ap (λ (l : List Slot). reading_of k (read_framed s l)) se ∙ ap (λ (j : Kind). reading_of j (read_framed s (slots_of q j))) ke
