-- The field at a cursor, read from bytes that end with SOH, with the sum of its bytes.
use Rattle.std.proofs.Common.{Option, Some, None, ◌≡◌, ℕ, ◌+◌, ◌-◌, ◌*◌, ◌%◌, ◌^◌, ◌<◌, ◌≤◌, Bool, true, false, not, ◌&&◌, eqb, ltb, leb, List, length, get_or, take, drop, sym, refl, ap, ◌∙◌, subst, ⊎_elim, suc-ne-zero, arith, length-drop, get_or-drop, w64, Fits, le-ltb, lt-ltb}
use borrow.Author.Tests.{not-true, not-false}
use Rattle.octets.proofs.Bools.{not_both}
use Rattle.octets.proofs.Places.{below_or}
use Rattle.decimal.specs.Reading.{is_digit, digit_of}
use Rattle.decimal.proofs.Scans.{Scan, rest_is, run_below, scan_more, scan_stop}
use Rattle.fix.specs.declared.fields.Tag.{Tag}
use Rattle.fix.specs.declared.fields.Field.{Field}
use Rattle.fix.specs.declared.fields.Field.TheVariants.{Good, Broken, End}
use Rattle.fix.specs.declared.pass.Text.{Text}
use Rattle.fix.specs.Fields.{is_text, tag_of, step_of}
use Rattle.fix.specs.Steps.{Closed, Carried, Tagged, Ran, Strode, Paced}
use Rattle.fix.proofs.Spelling.{there, Spelled, spelled_start, spelled_more, tag_times, tag_fits, tag_good, tag_bad, tag_five, tag_equals, value_from_lem, from_fits, field_none, field_other, field_good}
use Rattle.fix.proofs.Sums.{carried_none, carried_byte, carried_then}
use Rattle.fix.proofs.Walk.{step_good}

-- ---- bytes that end with SOH
closed_drop : (s : List ℕ) (v : ℕ) → Closed s → v < length s → Closed (drop v s)
closed_drop s v c h =
    let z : v + (length s - v - 1) ≡ length s - 1 = omega arith in
    record { soh = rw (length-drop v s, get_or-drop v s (length s - v - 1) 0, z) c.soh }

pub closed_rest : (s : List ℕ) (v : ℕ) → Closed s → v < length s → Closed (take (length s - v) (drop v s))
closed_rest s v c h = rw (rest_is s v) (closed_drop s v c h)

-- a run of bytes that SOH is none of does not reach their end
scan_inside : (p : ℕ → Bool) (s : List ℕ) (i : ℕ) → p 1 ≡ false → Closed s → Scan p s i → i < length s
scan_inside p s i n c w =
    ⊎_elim (λ h. h)
    (λ (l : length s ≤ i).
    let t : p (get_or s (length s - 1) 0) ≡ true = run_below p s (length s - 1) (omega (arith, there s (length s - 1) 0 c.soh)) in
    let u : p 1 ≡ true = rw c.soh at t in
    absurd (not_both u n))
    (below_or i (length s))

soh_digit : is_digit 1 ≡ false
unfolding is_digit
soh_digit = refl

soh_text : is_text 1 ≡ false
unfolding is_text
soh_text = refl

-- there is a byte
pub closed_some : (s : List ℕ) → Closed s → 0 < length s
closed_some s c = omega (arith, there s (length s - 1) 0 c.soh)

-- ---- the tag: the first i bytes are digits and say n, and took the sum from a to b; the byte behind them is here
pub record Spelling (s : List ℕ) (a b first here n i : ℕ) : Type 0 where
  pub closed : Closed s
  pub spelled : Spelled s n i
  pub sums : Carried s a b i
  pub front : first ≡ get_or s 0 0
  pub byte : here ≡ get_or s i 0

pub spelling_start : (s : List ℕ) (a first : ℕ) → Closed s → first ≡ get_or s 0 0 → Spelling s a a first first 0 0
spelling_start s a first c e = record { closed = c; spelled = spelled_start s; sums = carried_none s a; front = e; byte = e }

module _ (s : List ℕ) (a b first here n i : ℕ) (inv : Spelling s a b first here n i) where
  spelling_in : i < length s
  spelling_in = scan_inside is_digit s i soh_digit inv.closed (inv.spelled.within, inv.spelled.run)

  pub spelling_times : Fits w64 (n * 10)
  spelling_times = tag_times s n i inv.spelled

  pub spelling_fits : (d : ℕ) → d ≤ 9 → Fits w64 (n * 10 + d)
  spelling_fits d h = tag_fits s n i inv.spelled d h

  pub spelling_step : Fits w64 (i + 1)
  spelling_step = record { fits = omega (arith, inv.spelled.few) }

  pub spelling_less : length s - (i + 1) < length s - i
  spelling_less = omega (arith, spelling_in)

  module _ (d : ℕ) (e : d ≡ digit_of here) where
    is : d ≡ digit_of (get_or s i 0)
    is = e ∙ ap digit_of inv.byte

    next : d ≤ 9 → (i ≡ 4 → ⊥) → Spelled s (n * 10 + d) (i + 1)
    next h five = spelled_more s n i inv.spelled d spelling_in is h five

    module _ (b' : ℕ) (eb : b' ≡ (b + here) % 2 ^ 8) where
      took : Carried s a b' (i + 1)
      took = carried_byte s a b i b' inv.sums spelling_in (rw (← inv.byte) eb)

      pub spelling_more : (here' : ℕ) → d ≤ 9 → (i ≡ 4 → ⊥) → here' ≡ get_or s (i + 1) 0 → Spelling s a b' first here' (n * 10 + d) (i + 1)
      spelling_more here' h five z = record { closed = inv.closed; spelled = next h five; sums = took; front = inv.front; byte = z }

      pub tagged_five : d ≤ 9 → i ≡ 4 → Tagged s None a b'
      tagged_five h five = record { tag = tag_five s n i inv.spelled d spelling_in is h five; sums = λ x y. let z : ◌≡◌ {A = ℕ} 0 1 = cc in absurd (suc-ne-zero 0 (sym z)) }

      pub tagged_good : 9 < d → (ltb 0 i && leb i 4 && not (eqb first 48) && eqb here 61) ≡ true → Tagged s (Some (record { number = n; digits = i })) a b'
      tagged_good h t = record { tag = tag_good s n i inv.spelled d spelling_in is h (rw (inv.front, inv.byte) at t); sums = λ x y. let q : record { number = n; digits = i } ≡ x = cc in subst (λ (u : Tag). Carried s a b' (u.digits + 1)) q took }

      pub tagged_bad : 9 < d → (ltb 0 i && leb i 4 && not (eqb first 48) && eqb here 61) ≡ false → Tagged s None a b'
      tagged_bad h t = record { tag = tag_bad s n i inv.spelled d spelling_in is h (rw (inv.front, inv.byte) at t); sums = λ x y. let z : ◌≡◌ {A = ℕ} 0 1 = cc in absurd (suc-ne-zero 0 (sym z)) }

  -- behind a digit there is one more byte
  pub spelling_next : (d : ℕ) → d ≤ 9 → (i ≡ 4 → ⊥) → d ≡ digit_of here → i + 1 < length s
  spelling_next d h five e = scan_inside is_digit s (i + 1) soh_digit inv.closed ((next d e h five).within, (next d e h five).run)

-- ---- the value: the first i bytes are characters, and took the sum from a to b
pub record Running (s : List ℕ) (a b i : ℕ) : Type 0 where
  pub closed : Closed s
  pub scan : Scan is_text s i
  pub sums : Carried s a b i

pub running_start : (s : List ℕ) (a : ℕ) → Closed s → Running s a a 0
running_start s a c = record { closed = c; scan = (omega arith, omega arith); sums = carried_none s a }

module _ (s : List ℕ) (a b i : ℕ) (inv : Running s a b i) where
  pub running_in : i < length s
  running_in = scan_inside is_text s i soh_text inv.closed inv.scan

  pub running_step : length s < 2 ^ 64 → Fits w64 (i + 1)
  running_step h = record { fits = omega (arith, running_in) }

  pub running_less : length s - (i + 1) < length s - i
  running_less = omega (arith, running_in)

  module _ (b' : ℕ) (eb : b' ≡ (b + get_or s i 0) % 2 ^ 8) (t : Bool) (e : t ≡ is_text (get_or s i 0)) where
    took_one : Carried s a b' (i + 1)
    took_one = carried_byte s a b i b' inv.sums running_in eb

    pub ran : not t ≡ true → Ran s (record { len = i; behind = get_or s i 0 }) a b'
    ran h = record { run = scan_stop is_text s i inv.scan running_in (sym e ∙ not-true t h); short = running_in; byte = refl; sums = took_one }

    pub running_more : not t ≡ false → Running s a b' (i + 1)
    running_more h = record { closed = inv.closed; scan = scan_more is_text s i inv.scan running_in (sym e ∙ not-false t h); sums = took_one }

-- ---- the field that s starts with
module _ (s : List ℕ) (at a b₁ : ℕ) (r : Option Tag) (w : Tagged s r a b₁) where
  pub strode_none : r ≡ None → Strode s at Broken a b₁
  strode_none h =
      record {
        field = field_none s at r w.tag h;
        sums = λ u start len next g. let z : ◌≡◌ {A = ℕ} 0 1 = cc in absurd (suc-ne-zero 0 (sym z));
      }

  module _ (t : Tag) (d : r ≡ Some t) where
    tag_is : Some t ≡ tag_of s
    tag_is = sym d ∙ w.tag

    pub strode_start : t.digits + 1 ≤ length s
    strode_start = value_from_lem s t tag_is

    pub strode_fits : length s < 2 ^ 64 → Fits w64 (t.digits + 1)
    strode_fits l = from_fits s t tag_is l

    -- the `=` is not the last byte
    inside : Closed s → t.digits + 1 < length s
    inside c =
        ⊎_elim (λ l. l)
        (λ (l : length s ≤ t.digits + 1).
        let z : length s - 1 ≡ t.digits = omega (arith, strode_start) in
        let q : get_or s t.digits 0 ≡ 1 = rw z at c.soh in
        absurd (omega (arith, sym q ∙ tag_equals s t tag_is)))
        (below_or (t.digits + 1) (length s))

    pub strode_rest : Closed s → Closed (take (length s - (t.digits + 1)) (drop (t.digits + 1) s))
    strode_rest c = closed_rest s (t.digits + 1) c (inside c)

    module _ (x : Text) (b₂ : ℕ) (v : Ran (take (length s - (t.digits + 1)) (drop (t.digits + 1) s)) x b₁ b₂) where
      pub strode_end : t.digits + 1 + x.len < length s
      strode_end =
          let l : x.len < length s - (t.digits + 1) = rw (rest_is, length-drop) at v.short in
          omega arith

      behind : x.behind ≡ get_or s (t.digits + 1 + x.len) 0
      behind =
          let l : x.behind ≡ get_or (drop (t.digits + 1) s) x.len 0 = rw rest_is at v.byte in
          l ∙ get_or-drop (t.digits + 1) s x.len 0

      whole : Carried s a b₂ (t.digits + 1 + x.len + 1)
      whole =
          let v' : Carried (drop (t.digits + 1) s) b₁ b₂ (x.len + 1) = rw rest_is at v.sums in
          carried_then s a b₁ b₂ (t.digits + 1) (x.len + 1) (t.digits + 1 + x.len + 1) (w.sums t d) v' (omega arith)

      pub strode_other : (x.behind ≡ 1 → ⊥) → Strode s at Broken a b₂
      strode_other y =
          record {
            field = field_other s at r w.tag t d x.len v.run (λ q. y (behind ∙ q));
            sums = λ u start len next g. let z : ◌≡◌ {A = ℕ} 0 1 = cc in absurd (suc-ne-zero 0 (sym z));
          }

      pub strode_good : x.behind ≡ 1
          → Strode s at (Good t.number (at + (t.digits + 1)) x.len (record { at = at + (t.digits + 1 + x.len) + 1 })) a b₂
      strode_good y =
          record {
            field = field_good s at r w.tag t d x.len v.run (sym behind ∙ y);
            sums = λ u start len next g k q.
                let y : at + (t.digits + 1 + x.len) + 1 ≡ next.at = cc in
                let z : k ≡ t.digits + 1 + x.len + 1 = omega arith in
                rw z whole;
          }

-- ---- the field at a cursor
module _ (s : List ℕ) (at : ℕ) where
  pub pace_end : (b : ℕ) → length s ≤ at → Paced s at End b
  unfolding step_of
  pace_end b h = record { step = simp (le-ltb at (length s) h); sums = λ t start len next g. let z : ◌≡◌ {A = ℕ} 0 1 = cc in absurd (suc-ne-zero 0 (sym z)) }

  pub pace_good : (a b : ℕ) (r : Field) → at < length s → Carried s 0 a at → Strode (take (length s - at) (drop at s)) at r a b → Paced s at r b
  unfolding step_of
  pace_good a b r h w v =
      let e : r ≡ step_of s at = v.field ∙ simp (rest_is, lt-ltb at (length s) h) in
      record {
        step = e;
        sums = λ t start len next g.
            let x = step_good s at r t start len next e g in
            let z : next.at ≡ at + (next.at - at) = omega (arith, x.ahead) in
            let y : Carried (drop at s) a b (next.at - at) = rw rest_is at (v.sums t start len next g (next.at - at) z) in
            carried_then s 0 a b at (next.at - at) next.at w y z;
      }
