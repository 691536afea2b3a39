-- What holds of images (document 02, T-12): a table that is written is read back; one changed byte, and two blocks exchanged, are noticed in the
-- first block that they touch; an image that is read is the image of the table that it leaves, and anything else leaves the table as
-- it was. Bytes are below 256, as those of a slice are.
use mathlib.Core.Path.{◌≡◌, refl, sym, ap, ◌∙◌}
use mathlib.Core.Bool.{true, false}
use mathlib.Core.List.{List}
use Prim.Native.Nat.{ℕ, ◌+◌, ◌*◌, ◌≤◌, ◌<◌, ◌/◌, ◌%◌}
use native.Mathlib.Nat.{div-add-mod}
use native.Mathlib.Omega.{arith}
use borrow.Author.Tests.{eq-eqb, ltb-false}
use lib.Dec.{ltb}
use lib.ListN.{length, get_or, set, length-set}
use Rattle.octets.specs.Octets.{Bytes}
use Rattle.octets.proofs.Bools.{split}
use Rattle.octets.proofs.Places.{length_put}
use Rattle.decimal.specs.declared.Instrument.{Instrument}
use Rattle.std.specs.Prelude.{Result, Ok, Err}
use Rattle.refusals.specs.declared.Refusal.{Refusal}
use Rattle.refusals.specs.declared.Refusal.TheVariants.{NoMarket, BadLength, BadBlock}
use Rattle.table.specs.Places.{table_bytes}
use Rattle.table.specs.Market.{is_market_of}
use Rattle.image.specs.Image.{image_bytes, image_of, first_bad, table_in, exchanged}
use Rattle.image.specs.Answers.{is_wrong_length, saved_answer, image_after, restored_answer, table_after}
use Rattle.image.proofs.Blocks.{length_image}
use Rattle.image.proofs.Answered.{long_image, long_table, restore_bad, restore_none, restore_done}
use Rattle.image.proofs.Images.{bad_is, all_good, image_good, table_back, changed_bad, exchanged_bad, image_same}

-- ---- what is saved is restored

is_long : (t image : List ℕ) → length image ≡ image_bytes → length t ≡ table_bytes → is_wrong_length t image ≡ false
unfolding is_wrong_length
is_long t image e f = rw (eq-eqb (length image) image_bytes e, eq-eqb (length t) table_bytes f)

-- the image of a market is read back to the market, whatever the table was
pub image_restored : (q : Instrument) (t u : List ℕ) → Bytes t → length t ≡ table_bytes → length u ≡ table_bytes → is_market_of q t ≡ true
    → (restored_answer q u (image_of t) ≡ Ok tt) × (table_after q u (image_of t) ≡ t)
image_restored q t u b e f m =
    let none : first_bad (image_of t) ≡ 65 = bad_is (image_of t) 65 (omega arith) (λ k l. image_good t e k l b) (λ l. absurd (omega arith)) in
    let back : table_in (image_of t) ≡ t = table_back t e in
    let done = restore_done q u (image_of t) (is_long u (image_of t) (length_image t e) f) none true (sym (ap (is_market_of q) back ∙ m)) t (sym back) refl in
    (sym done.0, sym done.1)

-- the image of a table that is no market of the instrument, as that of a market of the other kind, is refused, and nothing changes
pub image_refused : (q : Instrument) (t u : List ℕ) → Bytes t → length t ≡ table_bytes → length u ≡ table_bytes → is_market_of q t ≡ false
    → (restored_answer q u (image_of t) ≡ Err NoMarket) × (table_after q u (image_of t) ≡ u)
image_refused q t u b e f m =
    let none : first_bad (image_of t) ≡ 65 = bad_is (image_of t) 65 (omega arith) (λ k l. image_good t e k l b) (λ l. absurd (omega arith)) in
    let r =
    restore_none q u (image_of t) (is_long u (image_of t) (length_image t e) f) none false (sym (ap (is_market_of q) (table_back t e) ∙ m)) u refl refl in
    (sym r.0, sym r.1)

-- two tables with one image are one
pub image_one : (t u : List ℕ) → length t ≡ table_bytes → length u ≡ table_bytes → image_of t ≡ image_of u → t ≡ u
image_one t u e f i = sym (table_back t e) ∙ ap table_in i ∙ table_back u f

-- a market is written into any bytes of an image's length
pub market_saved : (q : Instrument) (t image : List ℕ) → length t ≡ table_bytes → length image ≡ image_bytes → is_market_of q t ≡ true
    → saved_answer q t image ≡ Ok tt
unfolding saved_answer
market_saved q t image e f m = rw (is_long t image f e, m)

-- what an answer Ok of writing says
pub record Kept (q : Instrument) (t image : List ℕ) : Type 0 where
  pub lengths : is_wrong_length t image ≡ false
  pub market : is_market_of q t ≡ true
  pub leaves : image_after q t image ≡ image_of t

pub kept : (q : Instrument) (t image : List ℕ) → saved_answer q t image ≡ Ok tt → Kept q t image
unfolding saved_answer image_after
kept q t image h =
    split (is_wrong_length t image)
    (λ a. absurd (let z : ◌≡◌ {A = Result (Unit {0}) Refusal} (Err BadLength) (Ok tt) = rw a at h in let y : ◌≡◌ {A = ℕ} 0 1 = cc in omega arith))
    (λ a.
    split (is_market_of q t)
    (λ m. record { lengths = a; market = m; leaves = rw (a, m) })
    (λ m. absurd (let z : ◌≡◌ {A = Result (Unit {0}) Refusal} (Err NoMarket) (Ok tt) = rw (a, m) at h in let y : ◌≡◌ {A = ℕ} 0 1 = cc in omega arith)))

-- what is saved is restored, whatever table it is read into
pub saved_restored : (q : Instrument) (t image u : List ℕ) → Bytes t → length u ≡ table_bytes → saved_answer q t image ≡ Ok tt
    → (restored_answer q u (image_after q t image) ≡ Ok tt) × (table_after q u (image_after q t image) ≡ t)
saved_restored q t image u b f h =
    let k : Kept q t image = kept q t image h in
    rw k.leaves (image_restored q t u b (long_table t image k.lengths) f k.market)

-- ---- what is changed is noticed: refusal 13 with the block, and nothing changes

noticed : (q : Instrument) (u image : List ℕ) (k : ℕ) → length image ≡ image_bytes → length u ≡ table_bytes → k < 65 → first_bad image ≡ k
    → (restored_answer q u image ≡ Err (BadBlock k)) × (table_after q u image ≡ u)
noticed q u image k e f l b =
    let bad = restore_bad q u image (is_long u image e f) k (sym b) l in
    (sym bad.0, sym bad.1)

-- one byte, at position j of block k
pub changed_noticed : (q : Instrument) (t u : List ℕ) (k j v : ℕ) → Bytes t → length t ≡ table_bytes → length u ≡ table_bytes → k < 65 → j < 512
    → (v ≡ get_or (image_of t) (512 * k + j) 0 → ⊥)
    → (restored_answer q u (set (image_of t) (512 * k + j) v) ≡ Err (BadBlock k)) × (table_after q u (set (image_of t) (512 * k + j) v) ≡ u)
changed_noticed q t u k j v b e f l h d =
    noticed q u (set (image_of t) (512 * k + j) v) k (length-set (image_of t) (512 * k + j) v ∙ length_image t e) f l
    (changed_bad (image_of t) (length_image t e) (λ i m. image_good t e i m b) k j v l h d)

-- the same by the byte's place in the image
pub changed_at : (q : Instrument) (t u : List ℕ) (p v : ℕ) → Bytes t → length t ≡ table_bytes → length u ≡ table_bytes → p < image_bytes
    → (v ≡ get_or (image_of t) p 0 → ⊥) → (restored_answer q u (set (image_of t) p v) ≡ Err (BadBlock (p / 512))) × (table_after q u (set (image_of t) p v) ≡ u)
changed_at q t u p v b e f l d =
    let z : 512 * (p / 512) + p % 512 ≡ p = div-add-mod p 512 in
    let r =
    changed_noticed q t u (p / 512) (p % 512) v b e f (omega arith) (omega arith) (λ w. d (w ∙ ap (λ (m : ℕ). get_or (image_of t) m 0) z)) in
    rw z at r

length_exchanged : (image : List ℕ) (i j : ℕ) → length (exchanged image i j) ≡ length image
unfolding exchanged
length_exchanged image i j = simp length_put

-- two blocks that change places; the first of them is the one that is told
pub exchange_noticed : (q : Instrument) (t u : List ℕ) (i j : ℕ) → Bytes t → length t ≡ table_bytes → length u ≡ table_bytes → i < j → j < 65
    → (restored_answer q u (exchanged (image_of t) i j) ≡ Err (BadBlock i)) × (table_after q u (exchanged (image_of t) i j) ≡ u)
exchange_noticed q t u i j b e f h l =
    noticed q u (exchanged (image_of t) i j) i (length_exchanged (image_of t) i j ∙ length_image t e) f (omega arith)
    (exchanged_bad (image_of t) (length_image t e) (λ k m. image_good t e k m b) i j h l)

-- ---- an image that is read is the image of the table that it leaves

-- what an answer Ok of reading says
pub record Accepted (q : Instrument) (t image : List ℕ) : Type 0 where
  pub lengths : is_wrong_length t image ≡ false
  pub none_bad : 65 ≤ first_bad image
  pub market : is_market_of q (table_in image) ≡ true
  pub leaves : table_after q t image ≡ table_in image

pub accepted : (q : Instrument) (t image : List ℕ) → restored_answer q t image ≡ Ok tt → Accepted q t image
unfolding restored_answer table_after
accepted q t image h =
    split (is_wrong_length t image)
    (λ a. absurd (let z : ◌≡◌ {A = Result (Unit {0}) Refusal} (Err BadLength) (Ok tt) = rw a at h in let y : ◌≡◌ {A = ℕ} 0 1 = cc in omega arith))
    (λ a.
    split (ltb (first_bad image) 65)
    (λ b. absurd (let z : ◌≡◌ {A = Result (Unit {0}) Refusal} (Err (BadBlock (first_bad image))) (Ok tt) = rw (a, b) at h in let y : ◌≡◌ {A = ℕ} 0 1 = cc in omega arith))
    (λ b.
    split (is_market_of q (table_in image))
    (λ m. record { lengths = a; none_bad = ltb-false (first_bad image) 65 b; market = m; leaves = rw (a, b, m) })
    (λ m. absurd (let z : ◌≡◌ {A = Result (Unit {0}) Refusal} (Err NoMarket) (Ok tt) = rw (a, b, m) at h in let y : ◌≡◌ {A = ℕ} 0 1 = cc in omega arith))))

-- an image that is accepted is the image of the table that it leaves, and that is a market
pub accepted_image : (q : Instrument) (t image : List ℕ) → Bytes image → restored_answer q t image ≡ Ok tt
    → (is_market_of q (table_after q t image) ≡ true) × (image ≡ image_of (table_after q t image))
accepted_image q t image b h =
    let a : Accepted q t image = accepted q t image h in (
      ap (is_market_of q) a.leaves ∙ a.market,
      sym (ap image_of a.leaves ∙ image_same image (long_image t image a.lengths) b (all_good image a.none_bad)),
    )

-- what is not accepted leaves the table as it was
pub refused_same : (q : Instrument) (t image : List ℕ) → (restored_answer q t image ≡ Ok tt → ⊥) → table_after q t image ≡ t
unfolding restored_answer table_after
refused_same q t image h =
    split (is_wrong_length t image)
    (λ a. rw a)
    (λ a.
    split (ltb (first_bad image) 65)
    (λ b. rw (a, b))
    (λ b.
    split (is_market_of q (table_in image))
    (λ m. absurd (h (rw (a, b, m))))
    (λ m. rw (a, b, m))))

-- and so does whatever is no image of a market
pub no_image_same : (q : Instrument) (t image : List ℕ) → Bytes image → ((m : List ℕ) → is_market_of q m ≡ true → image ≡ image_of m → ⊥) → table_after q t image ≡ t
no_image_same q t image b n =
    refused_same q t image (λ h.
    let a = accepted_image q t image b h in
    n (table_after q t image) a.0 a.1)
