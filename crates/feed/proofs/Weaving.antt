-- Putting 797's field or slot among the others, one after another: what is still to do gives the end.
use Prim.Native.Nat.{ℕ, suc, ◌+◌, ◌-◌, ◌≤◌, ◌<◌}
use mathlib.Core.Path.{◌≡◌, refl, sym, ap, ◌∙◌, subst}
use mathlib.Core.Bool.{Bool, true, false, ◌||◌, false≢true}
use mathlib.Core.List.{List, [], ◌∷◌, ◌++◌}
use native.Mathlib.Omega.{arith}
use native.Mathlib.Numerals.{add-one}
use lib.Dec.{eqb, ltb}
use lib.ListN.{length, take, drop, get_or, set, length-set, drop_of_length-le}
use lib.Seq.{take-suc-set, drop-set-lt, drop-cons, append_snoc, set_split, set-get_or}
use Rattle.octets.proofs.Bools.{neither_l, neither_r}
use Rattle.report.specs.declared.Field.{Field}
use Rattle.feed.specs.Rows.{with797, shown_row, copy_value, copy_field, yes797, copy_row}

module _ {A : Type 0} (tag_of : A → ℕ) (change : A → A) (indicator : A) where
  -- what is still to do of the entries xs: the one that is held stands in front of them, or 797's is put among them
  abbrev pub to_do : Bool → A → List A → List A
  to_do true held xs = held ∷ xs
  to_do false held xs = with797 tag_of change indicator xs

  -- behind 797, or at the first of a higher tag: what is held is put, and x is held
  held_first : (held x : A) (rest : List A) (b : Bool) → (b ≡ false → held ≡ indicator) → (b || ltb 797 (tag_of x)) ≡ true → to_do b held (x ∷ rest) ≡ held ∷ x ∷ rest
  unfolding with797
  held_first held x rest true f e = refl
  held_first held x rest false f e = rw (e, f refl)

  -- after i entries
  pub record Weaving (all row : List A) (held : A) (behind : Bool) (i : ℕ) : Type 0 where
    pub within : i ≤ 35
    pub many : length row ≡ 36
    pub first : behind ≡ false → held ≡ indicator
    pub left : take i row ++ to_do behind held (take (35 - i) (drop i row)) ≡ with797 tag_of change indicator (take 35 all)

  pub weave_first : (all : List A) → length all ≡ 36 → Weaving all all indicator false 0
  weave_first all h = record { within = omega arith; many = h; first = λ e. refl; left = refl }

  -- the entry x is next
  module _ (all row : List A) (held : A) (behind : Bool) (i : ℕ) (w : Weaving all row held behind i) (h : i < 35) (d : A) where
    abbrev x : A
    x = get_or row i d

    rest : List A
    rest = take (35 - (i + 1)) (drop (suc i) row)

    next : take (35 - i) (drop i row) ≡ x ∷ rest
    unfolding rest
    next =
        let n : 35 - i ≡ suc (35 - (i + 1)) = omega arith in
        rw (drop-cons row i d (omega (arith, w.many)), n)

    -- one entry is put at place i
    module _ (y : A) where
      front : take (i + 1) (set row i y) ≡ take i row ++ (y ∷ [])
      front = rw (add-one i) (take-suc-set row i y (omega (arith, w.many)))

      back : take (35 - (i + 1)) (drop (i + 1) (set row i y)) ≡ rest
      unfolding rest
      back = ap (take (35 - (i + 1))) (rw (add-one i) (drop-set-lt (suc i) row i y (omega arith)))

      after : (z : List A) → take (i + 1) (set row i y) ++ z ≡ take i row ++ (y ∷ z)
      after z = ap (λ (l : List A). l ++ z) front ∙ append_snoc (take i row) y z

    pub weave_behind : (behind || ltb 797 (tag_of x)) ≡ true → Weaving all (set row i held) x (behind || ltb 797 (tag_of x)) (i + 1)
    weave_behind e =
        subst (λ (b : Bool). Weaving all (set row i held) x b (i + 1)) (sym e)
        (record {
          within = omega arith;
          many = length-set row i held ∙ w.many;
          first = λ f. absurd (false≢true (sym f));
          left =
              after held (x ∷ take (35 - (i + 1)) (drop (i + 1) (set row i held)))
              ∙ ap (λ (l : List A). take i row ++ (held ∷ x ∷ l)) (back held)
              ∙ ap (λ (l : List A). take i row ++ l) (sym (ap (to_do behind held) next ∙ held_first held x rest behind w.first e))
              ∙ w.left;
        })

    -- else x is changed
    changed : (b : Bool) → (b || ltb 797 (tag_of x)) ≡ false → (b ≡ false) × (to_do b held (x ∷ rest) ≡ change x ∷ with797 tag_of change indicator rest)
    unfolding with797
    changed true e = absurd (false≢true (sym e))
    changed false e = (refl, rw e)

    pub weave_before : (y : A) → y ≡ change x → (behind || ltb 797 (tag_of x)) ≡ false → Weaving all (set row i y) held (behind || ltb 797 (tag_of x)) (i + 1)
    weave_before y ye e =
        let c = changed behind e in
        subst (λ (b : Bool). Weaving all (set row i y) held b (i + 1)) (sym e)
        (record {
          within = omega arith;
          many = length-set row i y ∙ w.many;
          first = λ f. w.first c.0;
          left =
              after y (with797 tag_of change indicator (take (35 - (i + 1)) (drop (i + 1) (set row i y))))
              ∙ ap (λ (l : List A). take i row ++ (y ∷ with797 tag_of change indicator l)) (back y)
              ∙ ap (λ (z : A). take i row ++ (z ∷ with797 tag_of change indicator rest)) ye
              ∙ ap (λ (l : List A). take i row ++ l) (sym (ap (to_do behind held) next ∙ c.1))
              ∙ w.left;
        })

    -- or left as it is, where that is what the change comes to
    pub weave_still : change x ≡ x → (behind || ltb 797 (tag_of x)) ≡ false → Weaving all row held (behind || ltb 797 (tag_of x)) (i + 1)
    weave_still k e = subst (λ (l : List A). Weaving all l held (behind || ltb 797 (tag_of x)) (i + 1)) (set-get_or row i d) (weave_before x (sym k) e)

  -- after all: what is held is the last
  last_held : (b : Bool) (held : A) → (b ≡ false → held ≡ indicator) → to_do b held [] ≡ held ∷ []
  unfolding with797
  last_held true held f = refl
  last_held false held f = rw (f refl)

  pub weave_end : (all row : List A) (held : A) (behind : Bool) (i : ℕ) → Weaving all row held behind i → 35 ≤ i → set row 35 held ≡ with797 tag_of change indicator (take 35 all)
  weave_end all row held behind i w h =
      let e : i ≡ 35 = omega (arith, w.within) in
      let z : 35 - i ≡ 0 = omega arith in
      let none : take (35 - i) (drop i row) ≡ [] = rw z in
      set_split row 35 held (omega (arith, w.many))
      ∙ ap (λ (l : List A). take 35 row ++ held ∷ l) (drop_of_length-le row {i = 36} (omega (arith, w.many)))
      ∙ ap (λ (k : ℕ). take k row ++ held ∷ []) (sym e)
      ∙ ap (λ (l : List A). take i row ++ l) (sym (ap (to_do behind held) none ∙ last_held behind held w.first))
      ∙ w.left

-- ---- the fields that a copy leaves as they are
pub kept_field : (n w : ℕ) (f : Field) (t : Bool) → t ≡ (eqb f.tag 34 || eqb f.tag 17 || eqb f.tag 109) → t ≡ false → copy_field n w f ≡ f
unfolding copy_field copy_value
kept_field n w f t e k =
    let all = sym e ∙ k in
    let two = neither_l (eqb f.tag 34 || eqb f.tag 17) (eqb f.tag 109) all in
    rw (
      neither_l (eqb f.tag 34) (eqb f.tag 17) two,
      neither_r (eqb f.tag 34) (eqb f.tag 17) two,
      neither_r (eqb f.tag 34 || eqb f.tag 17) (eqb f.tag 109) all,
    )

-- ---- the whole row
pub copy_row_is : (n w : ℕ) (fs shown row : List Field) → shown ≡ shown_row fs → row ≡ with797 (λ f. f.tag) (copy_field n w) yes797 (take 35 shown) → row ≡ copy_row n w fs
unfolding copy_row
copy_row_is n w fs shown row e r = r ∙ ap (λ (l : List Field). with797 (λ f. f.tag) (copy_field n w) yes797 (take 35 l)) e
