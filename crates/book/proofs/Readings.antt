-- Reading on: a byte, bytes one after another, the end of the input; and that reading all of it byte by byte is taking its lines.
use mathlib.Core.Path.{◌≡◌, refl, sym, ap, ◌∙◌}
use mathlib.Core.Bool.{cond}
use mathlib.Core.List.{List, [], ◌∷◌, ◌++◌, append-nil, append_assoc}
use Prim.Native.Nat.{ℕ, ◌+◌, ◌≤◌, ◌<◌, zero-le}
use native.Mathlib.Numerals.{add-one}
use native.Mathlib.Omega.{arith}
use lib.Dec.{eqb}
use lib.ListN.{length, take, get_or, set, length-set, length-append}
use lib.Seq.{take-suc, take-suc-set, take_all, length-take-le}
use borrow.Author.Tests.{eq-eqb, ne_eqb}
use Rattle.octets.proofs.Bools.{split}
use Rattle.decimal.specs.declared.Instrument.{Instrument}
use Rattle.book.specs.Sheet.{line_end}
use Rattle.book.specs.Book.{area_bytes, line_taken, before, lines_of, lines_taken}
use Rattle.book.specs.Reading.{read_on, line_bytes, Held, Onward}
use Rattle.book.proofs.Messages.{taken_long}

-- ---- a byte

read_end : (q : Instrument) (t p u : List ℕ) (c : ℕ) → c ≡ line_end → read_on q t p (c ∷ u) ≡ read_on q (line_taken q t p) [] u
unfolding read_on
read_end q t p u c e = rw (eq-eqb c line_end e)

read_more : (q : Instrument) (t p u : List ℕ) (c : ℕ) → (c ≡ line_end → ⊥) → read_on q t p (c ∷ u) ≡ read_on q t (p ++ (c ∷ [])) u
unfolding read_on
read_more q t p u c d = rw (ne_eqb c line_end d)

-- what a line starts with matters no more once it is too long
read_long : (q : Instrument) (s t p r : List ℕ) → 1024 < length p → 1024 < length r → read_on q t p s ≡ read_on q t r s
unfolding read_on
read_long q [] t p r h i =
    rw (ne_eqb (length p) 0 (omega arith), ne_eqb (length r) 0 (omega arith)) (taken_long q t p r h i)
read_long q (c ∷ s) t p r h i =
    split (eqb c line_end)
    (λ e. rw (e, taken_long q t p r h i))
    (λ e. rw e
    (read_long q s t (p ++ (c ∷ [])) (r ++ (c ∷ [])) (omega (arith, h, length-append p (c ∷ []))) (omega (arith, i, length-append r (c ∷ [])))))

size : {line : List ℕ} {held : ℕ} → Held line held → length (take held line) ≡ held
size {line} {held} b = length-take-le held line (omega (arith, b.long, b.few))

pub held_size : {line : List ℕ} {held : ℕ} → Held line held → held ≡ length (take held line)
held_size b = sym (size b)

module _ {q : Instrument} (t : List ℕ) {line : List ℕ} {held : ℕ} (b : Held line held) where
  -- it ends the line
  pub byte_ends : {c : ℕ} {t₂ line₂ : List ℕ} → c ≡ line_end → t₂ ≡ line_taken q t (take held line) → length line₂ ≡ length line
      → Onward q t line held (c ∷ []) t₂ line₂ 0
  byte_ends {c} {t₂} {line₂} e p k =
      record {
        buffer = record { long = k ∙ b.long; few = zero-le };
        same = λ u. read_end q t (take held line) u c e ∙ ap (λ (d : List ℕ). read_on q d [] u) (sym p);
      }

  -- it is one byte too many
  pub byte_past : {c : ℕ} → (c ≡ line_end → ⊥) → held ≡ line_bytes → Onward q t line held (c ∷ []) t line held
  byte_past {c} d e =
      record {
        buffer = b;
        same =
            λ u.
            read_more q t (take held line) u c d
            ∙ read_long q u t (take held line ++ (c ∷ [])) (take held line)
            (omega (arith, size b, e, length-append (take held line) (c ∷ []))) (omega (arith, size b, e));
      }

  -- it is held
  pub byte_held : {c : ℕ} → (c ≡ line_end → ⊥) → (held ≡ line_bytes → ⊥) → Onward q t line held (c ∷ []) t (set line held c) (held + 1)
  byte_held {c} d n =
      let h : held < length line = omega (arith, b.long, b.few, n) in
      record {
        buffer = record { long = length-set line held c ∙ b.long; few = omega (arith, b.few, n) };
        same = λ u. read_more q t (take held line) u c d ∙ rw (add-one held, take-suc-set line held c h);
      }

-- ---- the end of the input

module _ (q : Instrument) (t : List ℕ) {line : List ℕ} {held : ℕ} (b : Held line held) where
  pub end_none : held ≤ 0 → t ≡ read_on q t (take held line) []
  unfolding read_on
  end_none h = rw (eq-eqb (length (take held line)) 0 (omega (arith, size b)))

  pub end_some : 0 < held → {t₂ : List ℕ} → t₂ ≡ line_taken q t (take held line) → t₂ ≡ read_on q t (take held line) []
  unfolding read_on
  end_some h p = rw (ne_eqb (length (take held line)) 0 (omega (arith, size b))) p

-- ---- bytes one after another

pub onward_then : {q : Instrument} {t line : List ℕ} {held : ℕ} {s t₂ line₂ : List ℕ} {held₂ : ℕ} {r t₃ line₃ : List ℕ} {held₃ : ℕ}
    → Onward q t line held s t₂ line₂ held₂ → Onward q t₂ line₂ held₂ r t₃ line₃ held₃ → Onward q t line held (s ++ r) t₃ line₃ held₃
onward_then {q} {t} {line} {held} {s = s} {r = r} p o =
    record {
      buffer = o.buffer;
      same = λ u. ap (λ (x : List ℕ). read_on q t (take held line) x) (append_assoc s r u) ∙ p.same (r ++ u) ∙ o.same u;
    }

-- i bytes of a part are read
pub record Going (q : Instrument) (t₀ line₀ : List ℕ) (held : ℕ) (part t line area : List ℕ) (n i : ℕ) : Type 0 where
  pub within : i ≤ length part
  pub table : length t ≡ length t₀
  pub room : length area ≡ area_bytes
  pub onward : Onward q t₀ line₀ held (take i part) t line n

pub going_none : (q : Instrument) (t line : List ℕ) (held : ℕ) (part area : List ℕ) → Held line held → length area ≡ area_bytes → Going q t line held part t line area held 0
going_none q t line held part area b h = record { within = zero-le; table = refl; room = h; onward = record { buffer = b; same = λ u. refl } }

module _ {q : Instrument} {t₀ line₀ : List ℕ} {held : ℕ} {part t line area : List ℕ} {n i : ℕ} (g : Going q t₀ line₀ held part t line area n i) where
  pub going_one : i < length part → {t₂ line₂ area₂ : List ℕ} {n₂ : ℕ} → length t₂ ≡ length t → length area₂ ≡ area_bytes
      → Onward q t line n (get_or part i 0 ∷ []) t₂ line₂ n₂ → Going q t₀ line₀ held part t₂ line₂ area₂ n₂ (i + 1)
  going_one h e k o =
      record { within = omega arith; table = e ∙ g.table; room = k; onward = rw (add-one i, take-suc part i 0 h) (onward_then g.onward o) }

  pub going_all : length part ≤ i → Onward q t₀ line₀ held part t line n
  going_all h = rw (take_all i part h) at g.onward

-- ---- reading it all is taking the lines, one after the other

-- the start of a line before lines
front : List ℕ → List (List ℕ) → List (List ℕ)
front p [] = cond (eqb (length p) 0) [] (p ∷ [])
front p (l ∷ ls) = (p ++ l) ∷ ls

front_none : (ls : List (List ℕ)) → front [] ls ≡ ls
unfolding front
front_none [] = refl
front_none (l ∷ ls) = refl

front_one : (p : List ℕ) (c : ℕ) (ls : List (List ℕ)) → front (p ++ (c ∷ [])) ls ≡ front p (before c ls)
unfolding front
front_one p c [] = rw (ne_eqb (length (p ++ (c ∷ []))) 0 (omega (arith, length-append p (c ∷ []))))
front_one p c (l ∷ ls) = rw (append_assoc p (c ∷ []) l)

read_front : (q : Instrument) (s t p : List ℕ) → read_on q t p s ≡ lines_taken q t (front p (lines_of s))
unfolding read_on front lines_taken lines_of
read_front q [] t p = split (eqb (length p) 0) (λ e. rw e) (λ e. rw e)
read_front q (c ∷ s) t p =
    split (eqb c line_end)
    (λ e. rw (e, append-nil p) (read_front q s (line_taken q t p) [] ∙ ap (lines_taken q (line_taken q t p)) (front_none (lines_of s))))
    (λ e. rw e (read_front q s t (p ++ (c ∷ [])) ∙ ap (lines_taken q t) (front_one p c (lines_of s))))

pub read_lines : (q : Instrument) (t s : List ℕ) → read_on q t [] s ≡ lines_taken q t (lines_of s)
read_lines q t s = read_front q s t [] ∙ ap (lines_taken q t) (front_none (lines_of s))
