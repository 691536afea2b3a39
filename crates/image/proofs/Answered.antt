-- What the two calls answer and leave, return by return.
use mathlib.Core.Path.{◌≡◌, sym, ap, ◌∙◌}
use mathlib.Core.Bool.{Bool, true, false, cond, not, ◌||◌}
use mathlib.Core.List.{List}
use Prim.Native.Nat.{ℕ, ◌<◌}
use borrow.Author.Tests.{lt-ltb, eqb-true, not-true, not-false}
use lib.Dec.{eqb, ltb}
use lib.ListN.{length}
use Rattle.octets.proofs.Bools.{neither_l, neither_r}
use Rattle.decimal.specs.declared.Instrument.{Instrument}
use Rattle.std.specs.Prelude.{Ok, Err}
use Rattle.refusals.specs.declared.Refusal.TheVariants.{NoMarket, BadLength, BadBlock}
use Rattle.table.specs.Places.{table_bytes}
use Rattle.table.specs.Market.{is_market_of}
use Rattle.image.specs.Image.{image_bytes, image_of, first_bad, table_in}
use Rattle.image.specs.Answers.{is_wrong_length, saved_answer, image_after, restored_answer, table_after}

-- ---- lengths
pub long_image : (t image : List ℕ) → is_wrong_length t image ≡ false → length image ≡ image_bytes
unfolding is_wrong_length
long_image t image h =
    eqb-true (length image) image_bytes (not-false _ (neither_l (not (eqb (length image) image_bytes)) (not (eqb (length t) table_bytes)) h))

pub long_table : (t image : List ℕ) → is_wrong_length t image ≡ false → length t ≡ table_bytes
unfolding is_wrong_length
long_table t image h =
    eqb-true (length t) table_bytes (not-false _ (neither_r (not (eqb (length image) image_bytes)) (not (eqb (length t) table_bytes)) h))

pub is_wrong : (t image : List ℕ) (b : Bool) → (not (eqb (length image) image_bytes) || not (eqb (length t) table_bytes)) ≡ b → is_wrong_length t image ≡ b
unfolding is_wrong_length
is_wrong t image b h = h

-- ---- writing
module _ (q : Instrument) (t image : List ℕ) where
  pub save_length : is_wrong_length t image ≡ true → (Err BadLength ≡ saved_answer q t image) × (image ≡ image_after q t image)
  unfolding saved_answer image_after
  save_length h = (rw h, rw h)

  pub save_none : is_wrong_length t image ≡ false → (m : Bool) → m ≡ is_market_of q t → not m ≡ true → (Err NoMarket ≡ saved_answer q t image) × (image ≡ image_after q t image)
  unfolding saved_answer image_after
  save_none h m e n =
      let z : is_market_of q t ≡ false = sym e ∙ not-true m n in
      (rw (h, z), rw (h, z))

  pub save_done : is_wrong_length t image ≡ false → (m : Bool) → m ≡ is_market_of q t → not m ≡ false → (after : List ℕ) → after ≡ image_of t
      → (Ok tt ≡ saved_answer q t image) × (after ≡ image_after q t image)
  unfolding saved_answer image_after
  save_done h m e n after w =
      let z : is_market_of q t ≡ true = sym e ∙ not-false m n in
      (rw (h, z), w ∙ rw (h, z))

  -- ---- reading
  pub restore_length : is_wrong_length t image ≡ true → (Err BadLength ≡ restored_answer q t image) × (t ≡ table_after q t image)
  unfolding restored_answer table_after
  restore_length h = (rw h, rw h)

  pub restore_bad : is_wrong_length t image ≡ false → (k : ℕ) → k ≡ first_bad image → k < 65
      → (Err (BadBlock k) ≡ restored_answer q t image) × (t ≡ table_after q t image)
  unfolding restored_answer table_after
  restore_bad h k e l =
      let z : ltb (first_bad image) 65 ≡ true = rw (← e) (lt-ltb k 65 l) in
      (rw (h, z) (ap (λ (k : ℕ). Err (BadBlock k)) e), rw (h, z))

  -- the table that an image holds is read, and stays if it is a market
  module _ (h : is_wrong_length t image ≡ false) (e : first_bad image ≡ 65) (m : Bool) (f : m ≡ is_market_of q (table_in image))
      (after : List ℕ) (w : after ≡ cond m (table_in image) t) where
    all_good : ltb (first_bad image) 65 ≡ false
    all_good = rw e

    pub restore_none : not m ≡ true → (Err NoMarket ≡ restored_answer q t image) × (after ≡ table_after q t image)
    unfolding restored_answer table_after
    restore_none n =
        let z : m ≡ false = not-true m n in
        let y : is_market_of q (table_in image) ≡ false = sym f ∙ z in
        (rw (h, all_good, y), w ∙ rw (h, all_good, y, z))

    pub restore_done : not m ≡ false → (Ok tt ≡ restored_answer q t image) × (after ≡ table_after q t image)
    unfolding restored_answer table_after
    restore_done n =
        let z : m ≡ true = not-false m n in
        let y : is_market_of q (table_in image) ≡ true = sym f ∙ z in
        (rw (h, all_good, y), w ∙ rw (h, all_good, y, z))
