-- What Read takes is one way of writing: a report that is read, written again from its fields, is the same bytes, whatever its kind.
use Prim.Native.Nat.{ℕ}
use mathlib.Core.Path.{◌≡◌, refl, sym, ap}
use mathlib.Core.Bool.{Bool, true, not, ◌&&◌}
use mathlib.Core.List.{List, [], ◌∷◌}
use lib.Dec.{ltb, eqb}
use borrow.Author.Tests.{eqb-false, ltb-true, not-true}
use Rattle.octets.proofs.Bools.{split, both_l, both_r}
use Rattle.decimal.specs.declared.Instrument.{Instrument}
use Rattle.decimal.specs.declared.Instrument.TheVariants.{Bonds, Equities}
use Rattle.report.specs.declared.Shape.{Shape}
use Rattle.report.specs.declared.Shape.TheVariants as shape
use Rattle.report.specs.declared.Slot.{Slot}
use Rattle.report.specs.declared.Field.{Field}
use Rattle.report.specs.declared.Kind.{Kind}
use Rattle.report.specs.declared.Kind.TheVariants.{Accepted, Replaced, Canceled, Trade, Rejected, CancelReject, SessionReject, Refused}
use Rattle.report.specs.declared.Reading.{Reading}
use Rattle.report.specs.Fields.{row_bytes}
use Rattle.report.specs.Frame.{report_bytes}
use Rattle.report.specs.Parse.{Rows, row, bad}
use Rattle.report.specs.Slots.{accepted_slots, replaced_slots, canceled_slots, trade_slots, rejected_slots, cancel_reject_slots, session_reject_slots, slots_of}
use Rattle.report.specs.Reports.{kind_of, agreed, refused, reading_of, read_framed, read_of}
use Rattle.report.proofs.Taken.{Proper}
use Rattle.report.proofs.Only.{AllProper, framed_only}

-- ---- no shape of a table takes an SOH
abbrev pub proper_shape : Shape → Bool
proper_shape shape.Nothing = true
proper_shape (shape.OneOf a b c d e) = not (eqb a 1) && not (eqb b 1) && not (eqb c 1) && not (eqb d 1) && not (eqb e 1)
proper_shape (shape.Range least most) = true
proper_shape (shape.Listed a b c d e f g h) = true
proper_shape (shape.Exact w x y z) = not (eqb w 1) && not (eqb x 1) && not (eqb y 1) && not (eqb z 1)
proper_shape shape.OrderId = true
proper_shape (shape.Text most low) = ltb 1 low
proper_shape shape.Digits = true
proper_shape shape.Time = true
proper_shape (shape.Level q) = true
proper_shape (shape.Average q) = true

other : (x : ℕ) → not (eqb x 1) ≡ true → x ≡ 1 → ⊥
other x e = eqb-false x 1 (not-true (eqb x 1) e)

four : (a b c d : Bool) → (a && b && c && d) ≡ true → (a ≡ true) × (b ≡ true) × (c ≡ true) × (d ≡ true)
four a b c d e =
    let e₂ = both_l (a && b && c) d e in
    let e₁ = both_l (a && b) c e₂ in
    (both_l a b e₁, both_r a b e₁, both_r (a && b) c e₂, both_r (a && b && c) d e)

proper_is : (f : Shape) → proper_shape f ≡ true → Proper f
proper_is shape.Nothing e = tt
proper_is (shape.OneOf a b c d x) e =
    let l = both_l (not (eqb a 1) && not (eqb b 1) && not (eqb c 1) && not (eqb d 1)) (not (eqb x 1)) e in
    let r = both_r (not (eqb a 1) && not (eqb b 1) && not (eqb c 1) && not (eqb d 1)) (not (eqb x 1)) e in
    let p = four (not (eqb a 1)) (not (eqb b 1)) (not (eqb c 1)) (not (eqb d 1)) l in
    (other a p.0, other b p.1, other c p.2, other d p.3, other x r)
proper_is (shape.Range least most) e = tt
proper_is (shape.Listed a b c d x f g h) e = tt
proper_is (shape.Exact w x y z) e =
    let p = four (not (eqb w 1)) (not (eqb x 1)) (not (eqb y 1)) (not (eqb z 1)) e in
    (other w p.0, (other x p.1, (other y p.2, (other z p.3, tt))))
proper_is shape.OrderId e = tt
proper_is (shape.Text most low) e = ltb-true 1 low e
proper_is shape.Digits e = tt
proper_is shape.Time e = tt
proper_is (shape.Level q) e = tt
proper_is (shape.Average q) e = tt

abbrev pub proper_all : List Slot → Bool
proper_all [] = true
proper_all (slot ∷ slots) = proper_shape slot.shape && proper_all slots

pub all_proper : (slots : List Slot) → proper_all slots ≡ true → AllProper slots
all_proper [] e = tt
all_proper (slot ∷ slots) e =
    (proper_is slot.shape (both_l (proper_shape slot.shape) (proper_all slots) e), all_proper slots (both_r (proper_shape slot.shape) (proper_all slots) e))

tables_proper : (q : Instrument) (k : Kind) → proper_all (slots_of q k) ≡ true
unfolding accepted_slots replaced_slots canceled_slots trade_slots rejected_slots cancel_reject_slots session_reject_slots
tables_proper Bonds Accepted = refl
tables_proper Bonds Replaced = refl
tables_proper Bonds Canceled = refl
tables_proper Bonds Trade = refl
tables_proper Bonds Rejected = refl
tables_proper Bonds CancelReject = refl
tables_proper Bonds SessionReject = refl
tables_proper Bonds Refused = refl
tables_proper Equities Accepted = refl
tables_proper Equities Replaced = refl
tables_proper Equities Canceled = refl
tables_proper Equities Trade = refl
tables_proper Equities Rejected = refl
tables_proper Equities CancelReject = refl
tables_proper Equities SessionReject = refl
tables_proper Equities Refused = refl

pub kinds_proper : (q : Instrument) (k : Kind) → AllProper (slots_of q k)
kinds_proper q k = all_proper (slots_of q k) (tables_proper q k)

-- ---- the whole reading
reading_found : (k : Kind) (q : Rows) (j : Kind) (fs : List Field) → reading_of k q ≡ record { kind = j; fields = fs } → (j ≡ Refused → ⊥) → (n : ℕ) × (q ≡ row fs n)
reading_found k (row gs n) j fs e h =
    split (agreed k gs)
    (λ t. let z : ◌≡◌ {A = Reading} (record { kind = k; fields = gs }) (record { kind = j; fields = fs }) = rw t at e in
    (n, ap (λ (l : List Field). row l n) (ap (λ (r : Reading). r.fields) z)))
    (λ t. let z : refused ≡ record { kind = j; fields = fs } = rw t at e in absurd (h (sym (ap (λ (r : Reading). r.kind) z))))
reading_found k bad j fs e h = absurd (h (sym (ap (λ (r : Reading). r.kind) e)))

-- what is read, written again, is the same bytes
pub read_only : (q : Instrument) (s stored : List ℕ) (k : Kind) (fs : List Field) → read_of q s ≡ record { kind = k; fields = fs } → (k ≡ Refused → ⊥) → s ≡ report_bytes (row_bytes s stored fs)
unfolding read_of
read_only q s stored k fs e h =
    let f = reading_found (kind_of s) (read_framed s (slots_of q (kind_of s))) k fs e h in
    framed_only s stored (slots_of q (kind_of s)) fs f.0 (kinds_proper q (kind_of s)) f.1
