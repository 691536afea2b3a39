-- What is read, written again, is the same bytes: a field, a row, a whole report. So only the one way of writing is read.
use Prim.Native.Nat.{ℕ, suc, ◌+◌, ◌-◌, ◌≤◌, ◌<◌}
use mathlib.Core.Path.{◌≡◌, refl, sym, ap, ◌∙◌, subst}
use mathlib.Core.Bool.{Bool, true, false, cond, ◌&&◌, false≢true}
use mathlib.Core.List.{List, [], ◌∷◌, ◌++◌, append_assoc}
use native.Mathlib.Omega.{arith}
use native.Mathlib.Nat.{not-suc-le-zero}
use lib.Dec.{ltb, leb, eqb}
use lib.ListN.{length, take, drop, length-drop, length-append, take-append-drop}
use lib.Seq.{take_at, take-add, drop-drop, length-take-le}
use borrow.Author.Tests.{eqb-true, ltb-true}
use Rattle.octets.specs.Octets.{part_at}
use Rattle.octets.proofs.Bools.{split, both_l, both_r}
use Rattle.decimal.specs.Writing.{decimal}
use Rattle.report.specs.declared.Value.{Value}
use Rattle.report.specs.declared.Value.TheVariants.{Absent, Number, Char, Word, Sent, Stored, Level, Mean}
use Rattle.report.specs.declared.Field.{Field}
use Rattle.report.specs.declared.Shape.{Shape}
use Rattle.report.specs.declared.Slot.{Slot}
use Rattle.report.specs.declared.Got.{Got}
use Rattle.fix.specs.declared.frame.Part.{Part}
use Rattle.report.specs.Fields.{field, value_bytes, label, written, field_bytes, row_bytes}
use Rattle.report.specs.Frame.{check_sum, version, front, trailer, report_bytes}
use Rattle.report.specs.Shapes.{value_in}
use Rattle.report.specs.Parse.{starts, len_to, got_of, value_at, field_at, Rows, row, bad, cons_row, next_rows, read_row, found}
use Rattle.report.specs.Reports.{length_is, length_in, length_slot, body_at, trailer_at, checked, in_frame, read_framed, part}
use Rattle.report.proofs.Bytes.{field_some}
use Rattle.report.proofs.Labels.{starts_length}
use Rattle.report.proofs.Taken.{Proper, taken, same_is}
use Rattle.report.proofs.Parses.{found_next, found_value}
use Rattle.report.proofs.Frames.{part_start, part_len}
use Rattle.std.proofs.Common.{Option, Some, None, option_and_then}

-- ---- pieces of a list
pub starts_split : (p s : List ℕ) → starts p s ≡ true → s ≡ p ++ drop (length p) s
starts_split [] s e = refl
starts_split (a ∷ p) [] e = absurd (false≢true e)
starts_split (a ∷ p) (b ∷ s) e =
    split (eqb b a)
    (λ t. let z : starts p s ≡ true = rw t at e in rw (eqb-true b a t) (ap (λ (l : List ℕ). a ∷ l) (starts_split p s z)))
    (λ t. let z : false ≡ true = rw t at e in absurd (false≢true z))

pub soh_split : (s : List ℕ) → len_to s < length s → s ≡ take (len_to s) s ++ (1 ∷ drop (len_to s + 1) s)
soh_split [] h = absurd (not-suc-le-zero h)
soh_split (b ∷ s) h =
    split (eqb b 1)
    (λ t. rw t (ap (λ (k : ℕ). k ∷ s) (eqb-true b 1 t)))
    (λ t. let z : suc (len_to s) < suc (length s) = rw t at h in
    let d : suc (len_to s) + 1 ≡ suc (len_to s + 1) = omega arith in
    rw (t, d) (ap (λ (l : List ℕ). b ∷ l) (soh_split s (omega arith))))

-- ---- a value
pub record Valued (s : List ℕ) (v : ℕ) (shape : Shape) (x : Value) (n : ℕ) : Type 0 where
  pub within : v + len_to (drop v s) < length s
  pub picked : value_in shape v (take (len_to (drop v s)) (drop v s)) ≡ Some x
  pub next : n ≡ v + len_to (drop v s) + 1

got_found : (p : Option Value) (m : ℕ) (x : Value) (n : ℕ) → got_of p m ≡ found x n → (p ≡ Some x) × (n ≡ m)
got_found (Some y) m x n e = (ap Some (found_value y x m n e), found_next y x m n e)
got_found None m x n e = let z : ◌≡◌ {A = ℕ} 0 1 = cc in absurd (omega arith)

pub value_found : (s : List ℕ) (v : ℕ) (shape : Shape) (x : Value) (n : ℕ) → value_at s v shape ≡ found x n → Valued s v shape x n
unfolding value_at
value_found s v shape x n e =
    split (ltb (v + len_to (drop v s)) (length s))
    (λ t. let p = got_found (value_in shape v (take (len_to (drop v s)) (drop v s))) (v + len_to (drop v s) + 1) x n (rw t at e) in
    record { within = ltb-true (v + len_to (drop v s)) (length s) t; picked = p.0; next = p.1 })
    (λ t. let z : None ≡ found x n = rw t at e in let y : ◌≡◌ {A = ℕ} 0 1 = cc in absurd (omega arith))

-- ---- a field: from place at to place n stand its bytes
pub record Piece (s : List ℕ) (at n : ℕ) (bytes : List ℕ) : Type 0 where
  pub on : at ≤ n
  pub within : n ≤ length s
  pub stands : take (n - at) (drop at s) ≡ bytes

module _ (s stored : List ℕ) (at : ℕ) (slot : Slot) (x : Value) (n : ℕ) (h : at ≤ length s) (proper : Proper slot.shape) where
  there : starts (label slot.tag) (drop at s) ≡ true → Valued s (at + length (label slot.tag)) slot.shape x n → Piece s at n (field_bytes s stored (field slot.tag x))
  unfolding part_at
  there st v =
      let lab = label slot.tag in
      let p : ℕ = at + length lab in
      let l : ℕ = len_to (drop p s) in
      let val : List ℕ = take l (drop p s) in
      let tail : List ℕ = drop (l + 1) (drop p s) in
      let t = taken slot.shape p val x proper v.picked in
      let len : length val ≡ l = length-take-le l (drop p s) (omega (arith, v.within, length-drop p s)) in
      let same : value_bytes s stored x ≡ val = t.bytes s stored (part_is p l len) in
      let bytes : field_bytes s stored (field slot.tag x) ≡ lab ++ val ++ (1 ∷ []) =
      field_some s stored (field slot.tag x) t.here ∙ ap (λ (w : List ℕ). lab ++ w ++ (1 ∷ [])) same in
      let rest : drop (length lab) (drop at s) ≡ drop p s = drop-drop (length lab) at s in
      let whole : drop at s ≡ (lab ++ val ++ (1 ∷ [])) ++ tail =
      starts_split lab (drop at s) st ∙ ap (λ (w : List ℕ). lab ++ w) (rest ∙ soh_split (drop p s) (omega (arith, v.within, length-drop p s))) ∙ simp append_assoc in
      let many : length (lab ++ val ++ (1 ∷ [])) ≡ n - at = omega (arith, length-append (lab ++ val) (1 ∷ []), length-append lab val, len, v.next) in
      record {
        on = omega (arith, v.next);
        within = omega (arith, v.next, v.within);
        stands = ap (take (n - at)) whole ∙ take_at (lab ++ val ++ (1 ∷ [])) tail (n - at) many ∙ sym bytes;
      }
    where
      part_is : (p l : ℕ) → length (take l (drop p s)) ≡ l → part_at s p (length (take l (drop p s))) ≡ take l (drop p s)
      part_is p l e = ap (part_at s p) e ∙ refl

  skipped : slot.optional ≡ true → x ≡ Absent → n ≡ at → Piece s at n (field_bytes s stored (field slot.tag x))
  unfolding field_bytes
  skipped o xe ne =
      record {
        on = omega (arith, ne);
        within = omega (arith, ne);
        stands = let z : n - at ≡ 0 = omega (arith, ne) in rw (z, xe);
      }

  skip_found : (o : Bool) → slot.optional ≡ o → cond o (found Absent at) None ≡ found x n → Piece s at n (field_bytes s stored (field slot.tag x))
  skip_found true o e = skipped o (sym (found_value Absent x at n e)) (found_next Absent x at n e)
  skip_found false o e = let z : ◌≡◌ {A = ℕ} 0 1 = cc in absurd (omega arith)

  pub field_only : field_at s at slot ≡ found x n → Piece s at n (field_bytes s stored (field slot.tag x))
  unfolding field_at
  field_only e =
      split (starts (label slot.tag) (drop at s))
      (λ t. there t (value_found s (at + length (label slot.tag)) slot.shape x n (rw t at e)))
      (λ t. skip_found slot.optional refl (rw t at e))

-- ---- a row
abbrev pub AllProper : List Slot → Type 0
AllProper [] = Unit {0}
AllProper (slot ∷ slots) = Proper slot.shape × AllProper slots

piece_then : (s : List ℕ) (at m n : ℕ) (xs ys : List ℕ) → Piece s at m xs → Piece s m n ys → Piece s at n (xs ++ ys)
piece_then s at m n xs ys p q =
    let k : n - at ≡ (m - at) + (n - m) = omega (arith, p.on, q.on) in
    let d : drop (m - at) (drop at s) ≡ drop m s = let z : at + (m - at) ≡ m = omega (arith, p.on) in drop-drop (m - at) at s ∙ ap (λ (j : ℕ). drop j s) z in
    record {
      on = omega (arith, p.on, q.on);
      within = q.within;
      stands =
          ap (λ (j : ℕ). take j (drop at s)) k ∙ take-add (m - at) (n - m) (drop at s)
          ∙ ap (λ (w : List ℕ). take (m - at) (drop at s) ++ take (n - m) w) d
          ∙ ap (λ (w : List ℕ). w ++ take (n - m) (drop m s)) p.stands ∙ ap (λ (w : List ℕ). xs ++ w) q.stands;
    }

pub record Consed (tag : ℕ) (g : Option Got) (k : ℕ → Rows) (fs : List Field) (n : ℕ) : Type 0 where
  pub value : Value
  pub next : ℕ
  pub rest : List Field
  pub read : g ≡ found value next
  pub left : k next ≡ row rest n
  pub all : fs ≡ field tag value ∷ rest

cons_row_lem : (f : Field) (r : Rows) (fs : List Field) (n : ℕ) → cons_row f r ≡ row fs n → (rest : List Field) × (r ≡ row rest n) × (fs ≡ f ∷ rest)
cons_row_lem f (row gs m) fs n e = (gs, cc, cc)
cons_row_lem f bad fs n e = let z : ◌≡◌ {A = ℕ} 0 1 = cc in absurd (omega arith)

pub next_row : (tag : ℕ) (g : Option Got) (k : ℕ → Rows) (fs : List Field) (n : ℕ) → next_rows tag g k ≡ row fs n → Consed tag g k fs n
next_row tag (Some g) k fs n e =
    let c = cons_row_lem (field tag g.value) (k g.next) fs n e in
    record { value = g.value; next = g.next; rest = c.0; read = refl; left = c.1; all = c.2 }
next_row tag None k fs n e = let z : ◌≡◌ {A = ℕ} 0 1 = cc in absurd (omega arith)

pub row_only : (s stored : List ℕ) (at : ℕ) (slots : List Slot) (fs : List Field) (n : ℕ) → at ≤ length s → AllProper slots
    → read_row s at slots ≡ row fs n → Piece s at n (row_bytes s stored fs)
row_only s stored at [] fs n h p e =
    let a : fs ≡ [] = cc in
    let b : n ≡ at = cc in
    record { on = omega (arith, b); within = omega (arith, b); stands = let z : n - at ≡ 0 = omega (arith, b) in rw (z, a) }
row_only s stored at (slot ∷ slots) fs n h p e =
    let c = next_row slot.tag (field_at s at slot) (λ m. read_row s m slots) fs n e in
    let one = field_only s stored at slot c.value c.next h p.0 c.read in
    let more = row_only s stored c.next slots c.rest n one.within p.1 c.left in
    subst (λ (w : List Field). Piece s at n (row_bytes s stored w)) (sym c.all)
    (piece_then s at c.next n (field_bytes s stored (field slot.tag c.value)) (row_bytes s stored c.rest) one more)

-- ---- a report
pub record Framed (s : List ℕ) (slots : List Slot) (fs : List Field) (n : ℕ) : Type 0 where
  pub from : ℕ
  pub len : ℕ
  pub body : body_at s ≡ part from len
  pub fields : read_row s from slots ≡ row fs n
  pub end : n ≡ from + len
  pub sum : trailer_at s (from + len) ≡ true

checked_row : (s : List ℕ) (end : ℕ) (r : Rows) (fs : List Field) (n : ℕ) → checked s end r ≡ row fs n → (r ≡ row fs n) × (n ≡ end) × (trailer_at s end ≡ true)
checked_row s end (row gs m) fs n e =
    split (eqb m end && trailer_at s end)
    (λ t. let z : row gs m ≡ row fs n = rw t at e in
    let y : m ≡ n = cc in
    (z, sym y ∙ eqb-true m end (both_l (eqb m end) (trailer_at s end) t), both_r (eqb m end) (trailer_at s end) t))
    (λ t. let z : bad ≡ row fs n = rw t at e in let y : ◌≡◌ {A = ℕ} 0 1 = cc in absurd (omega arith))
checked_row s end bad fs n e = let z : ◌≡◌ {A = ℕ} 0 1 = cc in absurd (omega arith)

in_frame_lem : (s : List ℕ) (slots : List Slot) (f : Option Part) (fs : List Field) (n : ℕ) → body_at s ≡ f → in_frame s slots f ≡ row fs n → Framed s slots fs n
in_frame_lem s slots (Some p) fs n b e =
    let c = checked_row s (p.start + p.len) (read_row s p.start slots) fs n e in
    record { from = p.start; len = p.len; body = b; fields = c.0; end = c.1; sum = c.2 }
in_frame_lem s slots None fs n b e = let z : ◌≡◌ {A = ℕ} 0 1 = cc in absurd (omega arith)

pub framed_found : (s : List ℕ) (slots : List Slot) (fs : List Field) (n : ℕ) → read_framed s slots ≡ row fs n → Framed s slots fs n
unfolding read_framed
framed_found s slots fs n e = in_frame_lem s slots (body_at s) fs n refl e

length_found_lem : (v : Value) (next n from len : ℕ) → length_is v next n ≡ part from len → (v ≡ Number len) × (next ≡ from)
length_found_lem (Number k) next n from len e =
    split (leb (next + k) n)
    (λ t. let z : part next k ≡ part from len = rw t at e in (ap Number (part_len next from k len z), part_start next from k len z))
    (λ t. let z : None ≡ part from len = rw t at e in let y : ◌≡◌ {A = ℕ} 0 1 = cc in absurd (omega arith))
length_found_lem Absent next n from len e = let z : ◌≡◌ {A = ℕ} 0 1 = cc in absurd (omega arith)
length_found_lem (Char c) next n from len e = let z : ◌≡◌ {A = ℕ} 0 1 = cc in absurd (omega arith)
length_found_lem (Word w x y k) next n from len e = let z : ◌≡◌ {A = ℕ} 0 1 = cc in absurd (omega arith)
length_found_lem (Sent f l) next n from len e = let z : ◌≡◌ {A = ℕ} 0 1 = cc in absurd (omega arith)
length_found_lem (Stored f l) next n from len e = let z : ◌≡◌ {A = ℕ} 0 1 = cc in absurd (omega arith)
length_found_lem (Level q l) next n from len e = let z : ◌≡◌ {A = ℕ} 0 1 = cc in absurd (omega arith)
length_found_lem (Mean q l) next n from len e = let z : ◌≡◌ {A = ℕ} 0 1 = cc in absurd (omega arith)

length_got_lem : (g : Option Got) (n from len : ℕ) → option_and_then (λ got. length_in got n) g ≡ part from len → g ≡ found (Number len) from
length_got_lem (Some got) n from len e =
    let p = length_found_lem got.value got.next n from len e in
    ap Some (ap (λ (v : Value). record { value = v; next = got.next }) p.0 ∙ ap (λ (m : ℕ). record { value = Number len; next = m }) p.1)
length_got_lem None n from len e = let z : ◌≡◌ {A = ℕ} 0 1 = cc in absurd (omega arith)

pub body_found : (s : List ℕ) (from len : ℕ) → body_at s ≡ part from len → (starts (written 8 version) s ≡ true) × (field_at s 10 length_slot ≡ found (Number len) from)
unfolding body_at
body_found s from len e =
    split (starts (written 8 version) s)
    (λ t. (t, length_got_lem (field_at s 10 length_slot) (length s) from len (rw t at e)))
    (λ t. let z : None ≡ part from len = rw t at e in let y : ◌≡◌ {A = ℕ} 0 1 = cc in absurd (omega arith))

ten : length (written 8 version) ≡ 10
unfolding written label version decimal
ten = refl

eight_piece : (s : List ℕ) → starts (written 8 version) s ≡ true → Piece s 0 10 (written 8 version)
eight_piece s t =
    record {
      on = omega arith;
      within = omega (arith, starts_length (written 8 version) s t, ten);
      stands = ap (take 10) (starts_split (written 8 version) s t) ∙ take_at (written 8 version) (drop (length (written 8 version)) s) 10 ten;
    }

-- a report that is read is the bytes of its fields
pub framed_only : (s stored : List ℕ) (slots : List Slot) (fs : List Field) (n : ℕ) → AllProper slots → read_framed s slots ≡ row fs n → s ≡ report_bytes (row_bytes s stored fs)
unfolding report_bytes front trailer_at field_bytes
framed_only s stored slots fs n p e =
    let f = framed_found s slots fs n e in
    let b = body_found s f.from f.len f.body in
    let eight = eight_piece s b.0 in
    let nine : Piece s 10 f.from (written 9 (decimal f.len)) = field_only s stored 10 length_slot (Number f.len) f.from eight.within tt b.1 in
    let body = row_only s stored f.from slots fs n nine.within p f.fields in
    let many : length (row_bytes s stored fs) ≡ f.len =
    ap length (sym body.stands) ∙ length-take-le (n - f.from) (drop f.from s) (omega (arith, length-drop f.from s, body.within)) ∙ (let z : n - f.from ≡ f.len = omega (arith, f.end) in z) in
    let all = piece_then s 0 f.from n (written 8 version ++ written 9 (decimal f.len)) (row_bytes s stored fs)
    (piece_then s 0 10 f.from (written 8 version) (written 9 (decimal f.len)) eight nine) body in
    let before : take (f.from + f.len) s ≡ written 8 version ++ written 9 (decimal (length (row_bytes s stored fs))) ++ row_bytes s stored fs =
    (let z : f.from + f.len ≡ n - 0 = omega (arith, f.end) in ap (λ (k : ℕ). take k s) z) ∙ all.stands ∙ ap (λ (k : ℕ). written 8 version ++ written 9 (decimal k) ++ row_bytes s stored fs) (sym many) in
    let behind : drop (f.from + f.len) s ≡ trailer (check_sum (take (f.from + f.len) s)) = same_is (drop (f.from + f.len) s) (trailer (check_sum (take (f.from + f.len) s))) f.sum in
    sym (take-append-drop (f.from + f.len) s) ∙ ap (λ (w : List ℕ). take (f.from + f.len) s ++ w) behind
    ∙ ap (λ (w : List ℕ). w ++ trailer (check_sum w)) before
