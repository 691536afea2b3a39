-- Each field that is read of a written report has the bytes that were written: a text stands in the report at the place that is read.
use Prim.Native.Nat.{ℕ, zero, suc, ◌+◌}
use mathlib.Core.Path.{◌≡◌, refl, sym, ap, ◌∙◌}
use mathlib.Core.List.{List, [], ◌∷◌, ◌++◌, append_assoc}
use lib.ListN.{length, take, get_or, length-append}
use lib.Seq.{take_at, drop_at}
use Rattle.octets.specs.Octets.{part_at}
use Rattle.decimal.specs.Writing.{decimal}
use Rattle.report.specs.declared.Value.{Value}
use Rattle.report.specs.declared.Value.TheVariants.{Absent, Number, Char, Word, Sent, Stored, Level, Mean}
use Rattle.report.specs.declared.Field.{Field}
use Rattle.report.specs.Fields.{field, value_bytes, label, written, field_bytes, row_bytes}
use Rattle.report.specs.Frame.{check_sum, version, front, trailer, report_bytes}
use Rattle.report.proofs.Back.{moved, backs, start}

part_there : (x v y : List ℕ) → part_at (x ++ (v ++ y)) (length x) (length v) ≡ v
unfolding part_at
part_there x v y = ap (take (length v)) (drop_at x (v ++ y) (length x) refl) ∙ take_at v y (length v) refl

-- the value of a field, where its field is written behind pre
value_there : (sent stored pre post other : List ℕ) (tag : ℕ) (v : Value)
    → value_bytes (pre ++ (field_bytes sent stored (field tag v) ++ post)) other (moved sent stored (length pre + length (label tag)) v) ≡ value_bytes sent stored v
unfolding field_bytes written
value_there sent stored pre post other tag Absent = refl
value_there sent stored pre post other tag (Number n) = refl
value_there sent stored pre post other tag (Char c) = refl
value_there sent stored pre post other tag (Word w x y z) = refl
value_there sent stored pre post other tag (Sent from len) =
    let v = part_at sent from len in
    let z : pre ++ ((label tag ++ v ++ (1 ∷ [])) ++ post) ≡ (pre ++ label tag) ++ (v ++ (1 ∷ post)) = simp append_assoc in
    ap (λ (s : List ℕ). part_at s (length pre + length (label tag)) (length v)) z
    ∙ ap (λ (k : ℕ). part_at ((pre ++ label tag) ++ (v ++ (1 ∷ post))) k (length v)) (sym (length-append pre (label tag)))
    ∙ part_there (pre ++ label tag) v (1 ∷ post)
value_there sent stored pre post other tag (Stored from len) =
    let v = part_at stored from len in
    let z : pre ++ ((label tag ++ v ++ (1 ∷ [])) ++ post) ≡ (pre ++ label tag) ++ (v ++ (1 ∷ post)) = simp append_assoc in
    ap (λ (s : List ℕ). part_at s (length pre + length (label tag)) (length v)) z
    ∙ ap (λ (k : ℕ). part_at ((pre ++ label tag) ++ (v ++ (1 ∷ post))) k (length v)) (sym (length-append pre (label tag)))
    ∙ part_there (pre ++ label tag) v (1 ∷ post)
value_there sent stored pre post other tag (Level q level) = refl
value_there sent stored pre post other tag (Mean q mean) = refl

module _ (sent stored post other : List ℕ) where
  -- the same of each field of a row
  row_there : (i : ℕ) (pre : List ℕ) (fs : List Field)
      → value_bytes (pre ++ (row_bytes sent stored fs ++ post)) other (get_or (backs sent stored (length pre) fs) i (field 0 Absent)).value
      ≡ value_bytes sent stored (get_or fs i (field 0 Absent)).value
  row_there i pre [] = refl
  row_there zero pre (f ∷ fs) =
      let b = field_bytes sent stored f in
      let t = row_bytes sent stored fs in
      ap (λ (s : List ℕ). value_bytes (pre ++ s) other (moved sent stored (length pre + length (label f.tag)) f.value)) (append_assoc b t post)
      ∙ value_there sent stored pre (t ++ post) other f.tag f.value
  row_there (suc i) pre (f ∷ fs) =
      let b = field_bytes sent stored f in
      let t = row_bytes sent stored fs in
      let z : pre ++ ((b ++ t) ++ post) ≡ (pre ++ b) ++ (t ++ post) = simp append_assoc in
      ap (λ (s : List ℕ). value_bytes s other (get_or (backs sent stored (length pre + length b) fs) i (field 0 Absent)).value) z
      ∙ ap (λ (k : ℕ). value_bytes ((pre ++ b) ++ (t ++ post)) other (get_or (backs sent stored k fs) i (field 0 Absent)).value) (sym (length-append pre b))
      ∙ row_there i (pre ++ b) fs

-- the same of a whole report
pub read_there : (sent stored other : List ℕ) (fs : List Field) (i : ℕ)
    → value_bytes (report_bytes (row_bytes sent stored fs)) other (get_or (backs sent stored (start (row_bytes sent stored fs)) fs) i (field 0 Absent)).value
    ≡ value_bytes sent stored (get_or fs i (field 0 Absent)).value
unfolding report_bytes front
read_there sent stored other fs i =
    let body = row_bytes sent stored fs in
    let pre = written 8 version ++ written 9 (decimal (length body)) in
    let tail = trailer (check_sum (pre ++ body)) in
    let v = (get_or (backs sent stored (length pre) fs) i (field 0 Absent)).value in
    ap (λ (s : List ℕ). value_bytes s other v) (append_assoc pre body tail)
    ∙ row_there sent stored tail other i pre fs
