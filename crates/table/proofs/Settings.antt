-- The laws that looking at the settings and writing them want: tests of every byte, lists of MPIDs and modes put entry by
-- entry.
use mathlib.Core.Path.{◌≡◌, refl, sym, ap, ◌∙◌}
use mathlib.Core.Bool.{Bool, true, false, not, ◌&&◌, ◌||◌}
use mathlib.Core.List.{List, [], ◌∷◌}
use Prim.Native.Nat.{ℕ, zero, suc, ◌+◌, ◌*◌, ◌≤◌, ◌<◌}
use native.Mathlib.Numerals.{add-one}
use native.Mathlib.Omega.{arith}
use mathlib.Core.Logic.{⊎_elim}
use Rattle.std.specs.List.{list_all, list_any}
use Rattle.std.proofs.lemmas.List.Folds.{list_any_more}
use lib.ListN.{length, take, get_or, set, drop, length-set, drop_of_length-le, replicate, get_or-eq_default}
use lib.Seq.{drop-cons}
use lib.Dec.{eqb, leb}
use borrow.Author.Tests.{eqb-true, leb-true, eq-eqb, ne_eqb}
use Rattle.octets.specs.Octets.{bytes_of, put, put_text}
use Rattle.octets.specs.Tests.{all_up_to}
use Rattle.octets.proofs.Bools.{both_l, both_r, both_not_r}
use Rattle.octets.proofs.Ranges.{all_at}
use Rattle.std.specs.Prelude.{Ok, Err}
use Rattle.refusals.specs.declared.Refusal.TheVariants.{BadSetting}
use Rattle.decimal.specs.declared.Instrument.{Instrument}
use Rattle.decimal.specs.declared.Instrument.TheVariants.{Bonds, Equities}
use Rattle.decimal.specs.Reading.{is_digit}
use Rattle.octets.proofs.Places.{put_put, length_put, length_bytes_of, below_or}
use Rattle.table.specs.Heading.{mpid_bytes, put_kind, put_next, put_mpids, put_modes}
use Rattle.table.specs.Market.{every, is_between, is_graphic, is_code_character}
use Rattle.table.specs.Opened.{is_name, is_new, is_given, are_given, are_names, are_settings, named_table, fresh_table, is_opening, opened, open_answer}

-- ---- std's tests of a whole list
pub every_is : (f : ℕ → Bool) (s : List ℕ) → list_all f s ≡ every f s
unfolding every
every_is f [] = refl
every_is f (x ∷ xs) = ap (λ (b : Bool). f x && b) (every_is f xs)

neither : (a b : Bool) → not (a || b) ≡ (not a && not b)
neither true b = refl
neither false b = refl

-- none of the entries before k has the MPID of entry k
module _ (mpids : List ℕ) (m : ℕ) where
  none_before : (n : ℕ) → n ≤ length mpids → not (list_any (λ y. eqb y m) (take n mpids)) ≡ all_up_to (λ j. not (eqb (get_or mpids j 0) m)) n
  unfolding all_up_to
  none_before zero l = refl
  none_before (suc n) l =
      let e : list_any (λ y. eqb y m) (take (n + 1) mpids) ≡ (list_any (λ y. eqb y m) (take n mpids) || eqb (get_or mpids n 0) m)
      = list_any_more (λ y. eqb y m) mpids n 0 (omega arith) in
      ap not (rw add-one at e) ∙ neither _ _ ∙ ap (λ (b : Bool). b && not (eqb (get_or mpids n 0) m)) (none_before n (omega arith))

pub new_is : (mpids : List ℕ) (k : ℕ) → k < length mpids → not (list_any (λ y. eqb y (get_or mpids k 0)) (take k mpids)) ≡ is_new mpids k
unfolding is_new
new_is mpids k h = none_before mpids (get_or mpids k 0) k (omega arith)

-- ---- the lists of MPIDs and modes

-- there are 1 to 8 MPIDs, and as many modes
abbrev pub counts : List ℕ → List ℕ → Bool
counts mpids modes = leb 1 (length mpids) && leb (length mpids) 8 && eqb (length modes) (length mpids)

module _ (mpids modes : List ℕ) where
  pub counts_same : counts mpids modes ≡ true → length modes ≡ length mpids
  counts_same h = eqb-true _ _ (search both_r)

  pub given_not : counts mpids modes ≡ false → false ≡ are_given mpids modes
  unfolding are_given
  given_not h = rw h

  pub given_stop : counts mpids modes ≡ true → all_up_to (is_given mpids modes) (length mpids) ≡ false → false ≡ are_given mpids modes
  unfolding are_given
  given_stop h a = rw (h, a)

  pub given_all : counts mpids modes ≡ true → all_up_to (is_given mpids modes) (length mpids) ≡ true → true ≡ are_given mpids modes
  unfolding are_given
  given_all h a = rw (h, a)

-- the code of a bond, and the symbol of a share
pub code_digits : (code : List ℕ) (a : Bool) → a ≡ is_name (is_between 48 57) 9 code → a ≡ is_name (is_code_character Bonds) 9 code
unfolding is_code_character is_digit
code_digits code a x = x

pub code_graphic : (code : List ℕ) (a : Bool) → a ≡ is_name (is_between 33 126) 9 code → a ≡ is_name (is_code_character Equities) 9 code
unfolding is_code_character
code_graphic code a x = x

-- the names
pub names_are : (q : Instrument) (venue port code : List ℕ) (a b c : Bool) → a ≡ is_name (is_between 33 126) 8 venue → b ≡ is_name (is_between 33 126) 8 port
    → c ≡ is_name (is_code_character q) 9 code → (a && b && c) ≡ are_names q venue port code
unfolding are_names
names_are q venue port code a b c x y z = rw (x, y, z)

pub name_is : (f : ℕ → Bool) (room : ℕ) (s : List ℕ) (a : Bool) → a ≡ every f s → (leb 1 (length s) && leb (length s) room && a) ≡ is_name f room s
unfolding is_name
name_is f room s a x = rw x

pub given_is : (mpids modes : List ℕ) (k : ℕ) (a : Bool) → a ≡ is_new mpids k
    → (leb 1 (get_or mpids k 0) && leb (get_or mpids k 0) 999999 && leb 1 (get_or modes k 0) && leb (get_or modes k 0) 3 && a) ≡ is_given mpids modes k
unfolding is_given
given_is mpids modes k a x = rw x

-- ---- the lists put entry by entry, k entries so far: what is left to put gives the whole put

pub record MpidsPut (t₀ ms t : List ℕ) (k : ℕ) : Type 0 where
  pub within : k ≤ length ms
  pub size : length t ≡ length t₀
  pub rest : put t (56 + 4 * k) (mpid_bytes (drop k ms)) ≡ put t₀ 56 (mpid_bytes ms)

pub mpids_none : {t ms : List ℕ} → MpidsPut t ms t 0
mpids_none = record { within = omega arith; size = refl; rest = refl }

module _ {t₀ ms t : List ℕ} {k : ℕ} (s : MpidsPut t₀ ms t k) where
  pub mpids_more : (u : List ℕ) → k < length ms → u ≡ put t (56 + 4 * k) (bytes_of 4 (get_or ms k 0)) → MpidsPut t₀ ms u (k + 1)
  unfolding mpid_bytes
  mpids_more u l h =
      let e : 56 + 4 * (k + 1) ≡ 56 + 4 * k + length (bytes_of 4 (get_or ms k 0)) = omega (arith, length_bytes_of 4 (get_or ms k 0)) in
      let d : drop k ms ≡ get_or ms k 0 ∷ drop (k + 1) ms = drop-cons ms k 0 l ∙ ap (λ (n : ℕ). get_or ms k 0 ∷ drop n ms) (sym (add-one k)) in
      let r : put t (56 + 4 * k) (mpid_bytes (get_or ms k 0 ∷ drop (k + 1) ms)) ≡ put t₀ 56 (mpid_bytes ms) = rw d at s.rest in
      record {
        within = omega arith;
        size = ap length h ∙ length_put t (56 + 4 * k) (bytes_of 4 (get_or ms k 0)) ∙ s.size;
        rest = rw (h, e) (put_put t (56 + 4 * k) (bytes_of 4 (get_or ms k 0)) (mpid_bytes (drop (k + 1) ms)) ∙ r);
      }

  pub mpids_all : length ms ≤ k → t ≡ put t₀ 56 (mpid_bytes ms)
  unfolding mpid_bytes put
  mpids_all l =
      let e : drop k ms ≡ [] = drop_of_length-le ms {i = k} l in
      let r : put t (56 + 4 * k) (mpid_bytes []) ≡ put t₀ 56 (mpid_bytes ms) = rw e at s.rest in
      r

pub record ModesPut (t₀ ds t : List ℕ) (k : ℕ) : Type 0 where
  pub within : k ≤ length ds
  pub size : length t ≡ length t₀
  pub rest : put t (88 + k) (drop k ds) ≡ put t₀ 88 ds

pub modes_none : {t ds : List ℕ} → ModesPut t ds t 0
modes_none = record { within = omega arith; size = refl; rest = refl }

module _ {t₀ ds t : List ℕ} {k : ℕ} (s : ModesPut t₀ ds t k) where
  pub modes_more : k < length ds → ModesPut t₀ ds (set t (88 + k) (get_or ds k 0)) (k + 1)
  unfolding put
  modes_more l =
      let e : 88 + (k + 1) ≡ suc (88 + k) = omega arith in
      let d : drop k ds ≡ get_or ds k 0 ∷ drop (k + 1) ds = drop-cons ds k 0 l ∙ ap (λ (n : ℕ). get_or ds k 0 ∷ drop n ds) (sym (add-one k)) in
      let r : put t (88 + k) (get_or ds k 0 ∷ drop (k + 1) ds) ≡ put t₀ 88 ds = rw d at s.rest in
      record { within = omega arith; size = length-set t (88 + k) (get_or ds k 0) ∙ s.size; rest = rw e r }

  pub modes_all : length ds ≤ k → t ≡ put t₀ 88 ds
  unfolding put
  modes_all l =
      let e : drop k ds ≡ [] = drop_of_length-le ds {i = k} l in
      let r : put t (88 + k) [] ≡ put t₀ 88 ds = rw e at s.rest in
      r

-- ---- what good settings promise

pub name_some : (f : ℕ → Bool) (room : ℕ) (s : List ℕ) → is_name f room s ≡ true → 1 ≤ length s
unfolding is_name
name_some f room s h = leb-true _ _ (search both_l)

pub name_every : (f : ℕ → Bool) (room : ℕ) (s : List ℕ) → is_name f room s ≡ true → every f s ≡ true
unfolding is_name
name_every f room s h = search both_r

module _ (q : Instrument) (venue port code : List ℕ) (h : are_names q venue port code ≡ true) where
  pub venue_name : is_name is_graphic 8 venue ≡ true
  unfolding are_names
  venue_name = search both_l

  pub port_name : is_name is_graphic 8 port ≡ true
  unfolding are_names
  port_name = search (both_l, both_r)

  pub code_name : is_name (is_code_character q) 9 code ≡ true
  unfolding are_names
  code_name = search both_r

  pub venue_short : length venue ≤ 8
  unfolding are_names is_name
  venue_short = leb-true _ _ (search (both_l, both_r))

  pub port_short : length port ≤ 8
  unfolding are_names is_name
  port_short = leb-true _ _ (search (both_l, both_r))

  pub code_short : length code ≤ 9
  unfolding are_names is_name
  code_short = leb-true _ _ (search (both_l, both_r))

module _ (q : Instrument) (venue port code : List ℕ) (first : ℕ) (mpids modes : List ℕ) (h : are_settings q venue port code first mpids modes ≡ true) where
  pub settings_names : are_names q venue port code ≡ true
  unfolding are_settings
  settings_names = search both_l

  pub settings_low : 1 ≤ first
  unfolding are_settings
  settings_low = leb-true _ _ (search (both_l, both_r))

  pub settings_high : first ≤ 999999999
  unfolding are_settings
  settings_high = leb-true _ _ (search (both_l, both_r))

  pub settings_given : are_given mpids modes ≡ true
  unfolding are_settings
  settings_given = search both_r

module _ (mpids modes : List ℕ) (h : are_given mpids modes ≡ true) where
  pub given_some : 1 ≤ length mpids
  unfolding are_given
  given_some = leb-true _ _ (search both_l)

  pub given_few : length mpids ≤ 8
  unfolding are_given
  given_few = leb-true _ _ (search (both_l, both_r))

  pub given_same : length modes ≡ length mpids
  unfolding are_given
  given_same = eqb-true _ _ (search (both_l, both_r))

  pub given_each : (k : ℕ) → k < length mpids → is_given mpids modes k ≡ true
  unfolding are_given
  given_each k l = all_at (is_given mpids modes) (length mpids) (search both_r) k l

module _ (mpids modes : List ℕ) (k : ℕ) (h : is_given mpids modes k ≡ true) where
  pub given_low : 1 ≤ get_or mpids k 0
  unfolding is_given
  given_low = leb-true _ _ (search both_l)

  pub given_high : get_or mpids k 0 ≤ 999999
  unfolding is_given
  given_high = leb-true _ _ (search (both_l, both_r))

  pub mode_low : 1 ≤ get_or modes k 0
  unfolding is_given
  mode_low = leb-true _ _ (search (both_l, both_r))

  pub mode_high : get_or modes k 0 ≤ 3
  unfolding is_given
  mode_high = leb-true _ _ (search (both_l, both_r))

  pub given_new : is_new mpids k ≡ true
  unfolding is_given
  given_new = search both_r

-- a mode of good lists is a byte
pub modes_small : (mpids modes : List ℕ) → are_given mpids modes ≡ true → (k : ℕ) → get_or modes k 0 < 256
modes_small mpids modes h k =
    ⊎_elim
    (λ (l : k < length mpids). omega (arith, mode_high mpids modes k (given_each mpids modes h k l)))
    (λ (l : length mpids ≤ k).
    let z : length modes ≤ k = omega (arith, given_same mpids modes h) in
    omega (arith, get_or-eq_default modes 0 {n = k} z))
    (below_or k (length mpids))

pub modes_few : (mpids modes : List ℕ) → are_given mpids modes ≡ true → length modes ≤ 8
modes_few mpids modes h = omega (arith, given_few mpids modes h, given_same mpids modes h)

-- ---- the answer and the table afterwards

module _ (q : Instrument) (t venue port code : List ℕ) (first : ℕ) (mpids modes : List ℕ) where
  pub answer_short : (length t ≡ 32768 → ⊥) → Err BadSetting ≡ open_answer q t venue port code first mpids modes
  unfolding open_answer is_opening
  answer_short n = rw (ne_eqb (length t) 32768 n)

  pub table_short : (length t ≡ 32768 → ⊥) → t ≡ opened q t venue port code first mpids modes
  unfolding opened is_opening
  table_short n = rw (ne_eqb (length t) 32768 n)

  pub answer_wrong : (a : Bool) → a ≡ are_settings q venue port code first mpids modes → a ≡ false → Err BadSetting ≡ open_answer q t venue port code first mpids modes
  unfolding open_answer is_opening
  answer_wrong a x z = rw (both_not_r (eqb (length t) 32768) (are_settings q venue port code first mpids modes) (sym x ∙ z))

  pub table_wrong : (a : Bool) → a ≡ are_settings q venue port code first mpids modes → a ≡ false → t ≡ opened q t venue port code first mpids modes
  unfolding opened is_opening
  table_wrong a x z = rw (both_not_r (eqb (length t) 32768) (are_settings q venue port code first mpids modes) (sym x ∙ z))

  pub answer_right : length t ≡ 32768 → are_settings q venue port code first mpids modes ≡ true → Ok tt ≡ open_answer q t venue port code first mpids modes
  unfolding open_answer is_opening
  answer_right l z = rw (eq-eqb (length t) 32768 l, z)

  pub table_right : (u : List ℕ) → length t ≡ 32768 → are_settings q venue port code first mpids modes ≡ true
      → u ≡ fresh_table q venue port code first mpids modes → u ≡ opened q t venue port code first mpids modes
  unfolding opened is_opening
  table_right u l z e = rw (eq-eqb (length t) 32768 l, z) e

-- ---- the writes in turn

pub settings_are : (q : Instrument) (venue port code : List ℕ) (first : ℕ) (mpids modes : List ℕ) (a g : Bool) → a ≡ are_names q venue port code → g ≡ are_given mpids modes
    → (a && leb 1 first && leb first 999999999 && g) ≡ are_settings q venue port code first mpids modes
unfolding are_settings
settings_are q venue port code first mpids modes a g x y = rw (x, y)

pub eight_small : (n : ℕ) → n ≤ 8 → n < 256
eight_small n h = omega arith

pub nine_small : (n : ℕ) → n ≤ 9 → n < 256
nine_small n h = omega arith

pub names_written : (t t1 t2 t3 t4 venue port code : List ℕ) → length t ≡ 32768 → t1 ≡ replicate (length t) 0 → t2 ≡ put_text 8 t1 0 venue
    → t3 ≡ put_text 8 t2 9 port → t4 ≡ put_text 9 t3 18 code → t4 ≡ named_table venue port code
unfolding named_table
names_written t t1 t2 t3 t4 venue port code l a b c d = rw (d, c, b, a, l)

pub lists_written : (t t1 t2 mpids modes : List ℕ) → t1 ≡ put_mpids t mpids → t2 ≡ put_modes t1 modes → t2 ≡ put_modes (put_mpids t mpids) modes
lists_written t t1 t2 mpids modes a b = rw (b, a)

pub fresh_written : (q : Instrument) (t1 t2 t3 t4 venue port code : List ℕ) (first : ℕ) (mpids modes : List ℕ) → t1 ≡ named_table venue port code
    → t2 ≡ put_next t1 first → t3 ≡ put_kind t2 q → t4 ≡ put_modes (put_mpids t3 mpids) modes → t4 ≡ fresh_table q venue port code first mpids modes
unfolding fresh_table
fresh_written q t1 t2 t3 t4 venue port code first mpids modes a b c d = rw (d, c, b, a)
