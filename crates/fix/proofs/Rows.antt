-- The row of places: what is written stands there, and the walk that fills it.
use Rattle.std.proofs.Common.{Some, None, ◌≡◌, ℕ, zero, suc, ◌+◌, ◌-◌, ◌*◌, ◌%◌, ◌<◌, ◌≤◌, Bool, true, false, cond, ◌||◌, eqb, ltb, List, [], ◌∷◌, ◌++◌, length, get_or, drop, set, sym, refl, ap, ◌∙◌, append_assoc, append-nil, add-zero, zero-add, suc-ne-zero, add-one, arith, length-set, get_or-set_other, get_or-set_same, w64, Fits, eq-eqb, ne_eqb, eqb-true}
use mathlib.Core.Bool.{and-false, or-true}
use native.Mathlib.Nat.{sub-zero}
use borrow.Author.Tests.{eqb-false}
use Rattle.octets.proofs.Bools.{split, neither_l, neither_r, not_both}
use Rattle.fix.specs.declared.fields.Cursor.{Cursor}
use Rattle.fix.specs.declared.fields.Field.{Field}
use Rattle.fix.specs.declared.fields.Field.TheVariants.{Good, Broken, End}
use Rattle.fix.specs.Fields.{Fld, field_of, step_of, fields_from, fields_of, find_tag, has_tag, repeats, clean_fields, last_tag_or, value_from}
use Rattle.fix.specs.Steps.{slot, Closed, Carried, Paced, field_at, row_fields, noted, Notes, Marked, Passing, Ready, Lastly, Rowed, seat_of}
use Rattle.fix.proofs.Walk.{Stepped, step_good, step_broken, step_end}
use Rattle.fix.proofs.Bodies.{field_below, some_from}
use Rattle.fix.proofs.Sums.{carried_none}

-- ---- lists of fields
pub has_append : (t : ℕ) (xs ys : List Fld) → has_tag t (xs ++ ys) ≡ (has_tag t xs || has_tag t ys)
unfolding has_tag
has_append t [] ys = refl
has_append t (x ∷ xs) ys = split (eqb x.tag t) (λ y. rw y) (λ n. rw n (has_append t xs ys))

repeats_there : (xs : List Fld) (f : Fld) (ys : List Fld) → has_tag f.tag xs ≡ true → repeats (xs ++ (f ∷ ys)) ≡ true
unfolding has_tag repeats
repeats_there [] f ys h = absurd (not_both h refl)
repeats_there (x ∷ xs) f ys h =
    split (eqb x.tag f.tag)
    (λ y.
    let q = eq-eqb f.tag x.tag (sym (eqb-true x.tag f.tag y)) in
    let p : has_tag x.tag (xs ++ (f ∷ ys)) ≡ true = has_append x.tag xs (f ∷ ys) ∙ simp (q, or-true) in
    rw p)
    (λ n. rw (repeats_there xs f ys (rw n at h), or-true))

repeats_more : (xs : List Fld) (f : Fld) → repeats xs ≡ false → has_tag f.tag xs ≡ false → repeats (xs ++ (f ∷ [])) ≡ false
unfolding has_tag repeats
repeats_more [] f h g = refl
repeats_more (x ∷ xs) f h g =
    let c = neither_l (eqb x.tag f.tag) _ g in
    let q = ne_eqb f.tag x.tag (λ e. eqb-false x.tag f.tag c (sym e)) in
    let p : has_tag x.tag (xs ++ (f ∷ [])) ≡ false = has_append x.tag xs (f ∷ []) ∙ rw (neither_l (has_tag x.tag xs) _ h) (simp q) in
    rw p (repeats_more xs f (neither_r (has_tag x.tag xs) _ h) (neither_r (eqb x.tag f.tag) _ g))

pub last_append : (d : ℕ) (xs : List Fld) (f : Fld) → last_tag_or d (xs ++ (f ∷ [])) ≡ f.tag
unfolding last_tag_or
last_append d [] f = refl
last_append d (x ∷ xs) f = last_append x.tag xs f

find_append : (t : ℕ) (xs : List Fld) (f : Fld) → has_tag t xs ≡ false → f.tag ≡ t → find_tag t (xs ++ (f ∷ [])) ≡ Some (record { start = f.start; len = f.len })
unfolding find_tag has_tag
find_append t [] f h e = rw (eq-eqb f.tag t e)
find_append t (x ∷ xs) f h e = rw (neither_l (eqb x.tag t) _ h) (find_append t xs f (neither_r (eqb x.tag t) _ h) e)

-- the tag of the last field stands nowhere before it, where none is repeated
pub find_last : (xs : List Fld) (f : Fld) → repeats (xs ++ (f ∷ [])) ≡ false → find_tag f.tag (xs ++ (f ∷ [])) ≡ Some (record { start = f.start; len = f.len })
find_last xs f h =
    split (has_tag f.tag xs) (λ y. absurd (not_both (repeats_there xs f [] y) h)) (λ n. find_append f.tag xs f n refl)

-- ---- the row
pub row_length : (row : List ℕ) (j n : ℕ) → length (row_fields row j n) ≡ n
unfolding row_fields
row_length row j zero = refl
row_length row j (suc n) = ap suc (row_length row (j + 1) n)

pub row_more : (row : List ℕ) (j n : ℕ) → row_fields row j (suc n) ≡ row_fields row j n ++ (field_at row (j + n) ∷ [])
unfolding row_fields
row_more row j zero = rw add-zero
row_more row j (suc n) =
    let z : j + 1 + n ≡ j + suc n = omega arith in
    ap (λ (l : List Fld). field_at row j ∷ l) (row_more row (j + 1) n ∙ rw z)

row_same : (row₁ row₂ : List ℕ) (j n : ℕ) → ((k : ℕ) → k < j + n → field_at row₁ k ≡ field_at row₂ k) → row_fields row₁ j n ≡ row_fields row₂ j n
unfolding row_fields
row_same row₁ row₂ j zero h = refl
row_same row₁ row₂ j (suc n) h = rw (h j (omega arith), row_same row₁ row₂ (j + 1) n (λ k l. h k (omega arith)))

module _ (row : List ℕ) (i t start len : ℕ) where
  pub noted_length : length (noted row i t start len) ≡ length row
  unfolding noted
  noted_length = simp length-set

  noted_here : length row ≡ 1023 → i < 341 → field_at (noted row i t start len) i ≡ record { tag = t; start = start; len = len }
  unfolding field_at noted
  noted_here r h =
      let row₁ = set row (i * 3) t in
      let row₂ = set row₁ (i * 3 + 1) start in
      let row₃ = set row₂ (i * 3 + 2) len in
      let a : get_or row₃ (i * 3) 0 ≡ t = get_or-set_other row₂ (i * 3 + 2) (i * 3) len 0 (λ e. omega (arith, e))
      ∙ get_or-set_other row₁ (i * 3 + 1) (i * 3) start 0 (λ e. omega (arith, e)) ∙ get_or-set_same row (i * 3) t 0 (omega arith) in
      let b : get_or row₃ (i * 3 + 1) 0 ≡ start = get_or-set_other row₂ (i * 3 + 2) (i * 3 + 1) len 0 (λ e. omega (arith, e))
      ∙ get_or-set_same row₁ (i * 3 + 1) start 0 (simp length-set (omega arith)) in
      let c : get_or row₃ (i * 3 + 2) 0 ≡ len = get_or-set_same row₂ (i * 3 + 2) len 0 (simp length-set (omega arith)) in
      rw (a, b, c)

  noted_at : (j : ℕ) → j < i * 3 → get_or (noted row i t start len) j 0 ≡ get_or row j 0
  unfolding noted
  noted_at j h =
      get_or-set_other (set (set row (i * 3) t) (i * 3 + 1) start) (i * 3 + 2) j len 0 (λ e. omega (arith, e))
      ∙ get_or-set_other (set row (i * 3) t) (i * 3 + 1) j start 0 (λ e. omega (arith, e))
      ∙ get_or-set_other row (i * 3) j t 0 (λ e. omega (arith, e))

  noted_other : (k : ℕ) → k < i → field_at (noted row i t start len) k ≡ field_at row k
  unfolding field_at
  noted_other k h = rw (noted_at (k * 3) (omega arith), noted_at (k * 3 + 1) (omega arith), noted_at (k * 3 + 2) (omega arith))

  pub noted_fields : length row ≡ 1023 → i < 341 → row_fields (noted row i t start len) 0 (i + 1) ≡ row_fields row 0 i ++ (record { tag = t; start = start; len = len } ∷ [])
  noted_fields r h =
      let s : row_fields (noted row i t start len) 0 i ≡ row_fields row 0 i = row_same _ row 0 i (λ k l. noted_other k (omega arith)) in
      let m : row_fields (noted row i t start len) 0 (suc i) ≡ row_fields (noted row i t start len) 0 i ++ (field_at (noted row i t start len) i ∷ []) = row_more _ 0 i ∙ rw zero-add in
      rw add-one (m ∙ rw (s, noted_here r h))

-- ---- a tag among the first fields of the row
pub seen_start : (row : List ℕ) (n t : ℕ) → has_tag t (row_fields row 0 n) ≡ has_tag t (row_fields row 0 (n - 0))
seen_start row n t = rw sub-zero

pub seen_here : (row : List ℕ) (n t j : ℕ) → has_tag t (row_fields row 0 n) ≡ has_tag t (row_fields row j (n - j)) → j < n → get_or row (j * 3) 0 ≡ t → true ≡ has_tag t (row_fields row 0 n)
unfolding has_tag row_fields field_at
seen_here row n t j inv h e =
    let z : n - j ≡ suc (n - (j + 1)) = omega arith in
    sym (inv ∙ rw z (rw (eq-eqb (get_or row (j * 3) 0) t e)))

pub seen_next : (row : List ℕ) (n t j : ℕ) → has_tag t (row_fields row 0 n) ≡ has_tag t (row_fields row j (n - j)) → j < n → (get_or row (j * 3) 0 ≡ t → ⊥)
    → has_tag t (row_fields row 0 n) ≡ has_tag t (row_fields row (j + 1) (n - (j + 1)))
unfolding has_tag row_fields field_at
seen_next row n t j inv h e =
    let z : n - j ≡ suc (n - (j + 1)) = omega arith in
    inv ∙ rw z (rw (ne_eqb (get_or row (j * 3) 0) t e))

pub seen_end : (row : List ℕ) (n t j : ℕ) → has_tag t (row_fields row 0 n) ≡ has_tag t (row_fields row j (n - j)) → n ≤ j → false ≡ has_tag t (row_fields row 0 n)
unfolding has_tag row_fields
seen_end row n t j inv h =
    let z : n - j ≡ 0 = omega arith in
    sym (inv ∙ rw z)

-- no mark, no such tag
pub unmarked : (marks row : List ℕ) (n t : ℕ) → Passing marks row n t → get_or marks (slot t) 0 ≡ 0 → false ≡ has_tag t (row_fields row 0 n)
unmarked marks row n t m z = split (has_tag t (row_fields row 0 n)) (λ y. absurd (m.marked t y z)) (λ e. sym e)

-- ---- the walk
step_field : (s : List ℕ) (at : ℕ) (r : Field) (t start len : ℕ) (next : Cursor) → r ≡ step_of s at → r ≡ Good t start len next
    → record { tag = t; start = start; len = len } ≡ field_of at (drop at s)
unfolding step_of
step_field s at r t start len next e g = go (ltb at (length s)) (eqb (field_of at (drop at s)).tag 0) (sym e ∙ g)
  where
    f : Fld
    f = field_of at (drop at s)

    go : (a b : Bool) → cond a (cond b Broken (Good f.tag f.start f.len (record { at = f.start + f.len + 1 }))) End ≡ Good t start len next
        → record { tag = t; start = start; len = len } ≡ f
    go true false q =
        let x : f.tag ≡ t = cc in
        let y : f.start ≡ start = cc in
        let z : f.len ≡ len = cc in
        rw (← x, ← y, ← z)
    go true true q = let z : ◌≡◌ {A = ℕ} 0 1 = cc in absurd (suc-ne-zero 0 (sym z))
    go false b q = let z : ◌≡◌ {A = ℕ} 0 1 = cc in absurd (suc-ne-zero 0 (sym z))

-- the fields before the cursor stand in the row, none is broken and no two have the same tag
pub record Walking (s row marks : List ℕ) (i at sum from before : ℕ) : Type 0 where
  pub ready : Ready s row
  pub marks_room : length marks ≡ 128
  pub few : i * 3 ≤ at
  pub sums : Carried s 0 sum at
  pub goes : fields_of s ≡ row_fields row 0 i ++ fields_from at s
  pub unbroken : has_tag 0 (row_fields row 0 i) ≡ false
  pub distinct : repeats (row_fields row 0 i) ≡ false
  pub marked : Marked marks row i
  pub last : (m : ℕ) → i ≡ m + 1 → Lastly s row m from before

pub walk_start : (s row marks : List ℕ) → Ready s row → length marks ≡ 128 → Walking s row marks 0 0 0 0 0
unfolding row_fields has_tag repeats
walk_start s row marks r m =
    record {
      ready = r;
      marks_room = m;
      few = omega arith;
      sums = carried_none s 0;
      goes = refl;
      unbroken = refl;
      distinct = refl;
      marked = λ t h z. not_both h refl;
      last = λ m e. absurd (omega (arith, e));
    }

module _ (s row marks : List ℕ) (i at sum from before : ℕ) (inv : Walking s row marks i at sum from before) where
  pub walk_closed : Closed s
  walk_closed = inv.ready.closed

  pub walk_few : i ≤ 341
  walk_few = omega (arith, inv.few, inv.sums.within, inv.ready.short)

  pub walk_count : Fits w64 (i + 1)
  walk_count = record { fits = omega (arith, walk_few) }

  pub walk_slot : (t : ℕ) → t % 128 < 128
  walk_slot t = omega arith

  module _ (r : Field) (sum' : ℕ) (p : Paced s at r sum') where
    pub walk_broken : r ≡ Broken → clean_fields (fields_of s) ≡ false
    unfolding clean_fields has_tag
    walk_broken g =
        let q : has_tag 0 (fields_of s) ≡ true = rw (inv.goes, step_broken s at r p.step g) (has_append 0 (row_fields row 0 i) _ ∙ simp or-true) in
        rw q

    pub walk_end : r ≡ End → Rowed s row i from before
    unfolding clean_fields
    walk_end g =
        let f : fields_of s ≡ row_fields row 0 i = inv.goes ∙ rw (step_end s at r p.step g) (append-nil (row_fields row 0 i)) in
        record { few = walk_few; fields = f; clean = rw f (rw (inv.unbroken, inv.distinct)); last = inv.last }

    module _ (t start len : ℕ) (next : Cursor) (g : r ≡ Good t start len next) where
      w : Stepped s at t start len next.at
      w = step_good s at r t start len next p.step g

      here : record { tag = t; start = start; len = len } ≡ field_of at (drop at s)
      here = step_field s at r t start len next p.step g

      pub walk_less : length s - next.at < length s - at
      walk_less = omega (arith, w.ahead, w.within)

      three : at + 3 ≤ next.at
      unfolding field_of
      three =
          let a : t ≡ (field_of at (drop at s)).tag = ap (λ (f : Fld). f.tag) here in
          let b : start ≡ at + value_from (drop at s) = ap (λ (f : Fld). f.start) here in
          omega (arith, w.value, some_from at (drop at s) (λ z. w.some (a ∙ z)))

      room : i < 341
      room = omega (arith, three, inv.few, w.within, inv.ready.short)

      pub walk_notes : Notes i t start len
      walk_notes =
          let a : t ≡ (field_of at (drop at s)).tag = ap (λ (f : Fld). f.tag) here in
          record {
            room = room;
            tag = omega (arith, a, field_below at (drop at s));
            start_fits = omega (arith, w.value, w.within, inv.ready.short);
            len_fits = omega (arith, w.value, w.within, inv.ready.short);
          }

      pub walk_passing : Passing marks row i t
      walk_passing = record { few = walk_few; marked = inv.marked; tag = walk_notes.tag }

      module _ (b : Bool) (eb : b ≡ has_tag t (row_fields row 0 i)) where
        pub walk_twice : b ≡ true → clean_fields (fields_of s) ≡ false
        unfolding clean_fields
        walk_twice h =
            let q : repeats (fields_of s) ≡ true = rw (inv.goes, w.fields) (repeats_there (row_fields row 0 i) _ (fields_from next.at s) (sym eb ∙ h)) in
            rw (q, and-false)

        module _ (h : b ≡ false) (row' : List ℕ) (er : row' ≡ noted row i t start len) where
          abbrev f : Fld
          f = record { tag = t; start = start; len = len }

          more : row_fields row' 0 (i + 1) ≡ row_fields row 0 i ++ (f ∷ [])
          more = rw er (noted_fields row i t start len inv.ready.room room)

          none : has_tag t (row_fields row 0 i) ≡ false
          none = sym eb ∙ h

          still : (u : ℕ) → has_tag u (row_fields row 0 i ++ (f ∷ [])) ≡ true → get_or (set marks (slot t) 1) (slot u) 0 ≡ 0 → ⊥
          unfolding has_tag
          still u y z =
              split (eqb (slot u) (slot t))
              (λ q.
              let o : get_or (set marks (slot t) 1) (slot u) 0 ≡ 1 = rw (eqb-true (slot u) (slot t) q) (get_or-set_same marks (slot t) 1 0 (omega (arith, inv.marks_room))) in
              suc-ne-zero 0 (sym o ∙ z))
              (λ q.
              let d = eqb-false (slot u) (slot t) q in
              let n : eqb t u ≡ false = ne_eqb t u (λ e. d (rw e)) in
              let k : has_tag u (row_fields row 0 i) ≡ true = or_there (has_tag u (row_fields row 0 i)) (eqb t u) n (sym (has_append u (row_fields row 0 i) (f ∷ [])) ∙ y) in
              inv.marked u k (sym (get_or-set_other marks (slot t) (slot u) 1 0 d) ∙ z))
            where
              or_there : (x o : Bool) → o ≡ false → (x || (o || false)) ≡ true → x ≡ true
              or_there true o n y = refl
              or_there false o n y = absurd (not_both (rw n at y) refl)

          pub walk_more : Walking s row' (set marks (slot t) 1) (i + 1) next.at sum' at sum
          unfolding has_tag
          walk_more =
              record {
                ready = record { closed = inv.ready.closed; short = inv.ready.short; room = rw er (noted_length row i t start len ∙ inv.ready.room) };
                marks_room = simp length-set inv.marks_room;
                few = omega (arith, three, inv.few);
                sums = p.sums t start len next g;
                goes = inv.goes ∙ rw (more, w.fields) (sym (append_assoc (row_fields row 0 i) (f ∷ []) (fields_from next.at s)));
                unbroken = rw more (has_append 0 (row_fields row 0 i) (f ∷ []) ∙ rw inv.unbroken (simp (ne_eqb t 0 w.some)));
                distinct = rw more (repeats_more (row_fields row 0 i) f inv.distinct none);
                marked = λ u y z. still u (rw more at y) z;
                last = λ m e.
                    let z : m ≡ i = omega (arith, e) in
                    rw (z, er) (record { field = noted_here row i t start len inv.ready.room room ∙ here; sums = inv.sums });
              }

-- ---- a step over the row
module _ (row : List ℕ) (j x : ℕ) (ex : x ≡ get_or row (j * 3) 0) where
  pub seat_end : x ≡ 10 → None ≡ seat_of row j
  unfolding seat_of
  seat_end h = rw (← ex, eq-eqb x 10 h)

  pub seat_good : (a b : ℕ) → (x ≡ 10 → ⊥) → a ≡ get_or row (j * 3 + 1) 0 → b ≡ get_or row (j * 3 + 2) 0 → Some (record { tag = x; start = a; len = b; next = record { number = j + 1 } }) ≡ seat_of row j
  unfolding seat_of
  seat_good a b h ea eb = rw (← ex, ← ea, ← eb, ne_eqb x 10 h)
