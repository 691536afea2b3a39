-- All blocks: the loops that write an image, look for its first bad block, and read its table.
use mathlib.Core.Path.{◌≡◌, sym, ◌∙◌}
use mathlib.Core.Bool.{Bool, true, false, not}
use mathlib.Core.List.{List}
use Prim.Native.Nat.{ℕ, ◌+◌, ◌*◌, ◌≤◌, ◌<◌}
use native.Mathlib.Omega.{arith}
use lib.ListN.{length}
use Rattle.octets.specs.Octets.{put}
use Rattle.octets.proofs.Ranges.{Sought, sought_more, sought_here, sought_end}
use Rattle.table.specs.Places.{table_bytes}
use Rattle.image.specs.Image.{image_bytes, block_of, image_of, kept_in, table_in, is_good, first_bad}
use Rattle.image.proofs.Turns.{Written, written_more, written_end, length_turn}
use Rattle.image.proofs.Blocks.{length_block, length_image, length_front, length_table_in}

-- ---- writing
pub image_more : (image₀ image image₁ table : List ℕ) (k : ℕ) → Written image₀ (block_of table) image k → length table ≡ table_bytes → k < 65
    → image₁ ≡ put image (512 * k) (block_of table k) → Written image₀ (block_of table) image₁ (k + 1)
image_more image₀ image image₁ table k w e l p =
    written_more (512 * k) image₁ w l (sym (length_turn (block_of table) 512 k (λ i j. length_block table i e (omega arith)))) p

pub image_end : (image₀ image table : List ℕ) (k : ℕ) → Written image₀ (block_of table) image k → 65 ≤ k → length image₀ ≡ image_bytes → length table ≡ table_bytes → image ≡ image_of table
unfolding image_of
image_end image₀ image table k w l e f = written_end w l (length_image table f ∙ sym e)

-- ---- reading
pub table_more : (t₀ t t₁ image : List ℕ) (k : ℕ) → Written t₀ (kept_in image) t k → length image ≡ image_bytes → k < 65
    → t₁ ≡ put t (508 * k) (kept_in image k) → Written t₀ (kept_in image) t₁ (k + 1)
table_more t₀ t t₁ image k w e l p = written_more (508 * k) t₁ w l (sym (length_front image k e l)) p

pub table_end : (t₀ t image : List ℕ) (k : ℕ) → Written t₀ (kept_in image) t k → 65 ≤ k → length t₀ ≡ table_bytes → length image ≡ image_bytes → t ≡ table_in image
unfolding table_in
table_end t₀ t image k w l e f = written_end w l (length_table_in image f ∙ sym e)

-- ---- the first bad block
abbrev pub bad_in : List ℕ → ℕ → Bool
bad_in image k = not (is_good image k)

pub bad_more : (image : List ℕ) (k : ℕ) (g : Bool) → Sought (bad_in image) 65 k → k < 65 → g ≡ is_good image k → not g ≡ false → Sought (bad_in image) 65 (k + 1)
bad_more image k g s l e h = sought_more s l (rw (← e) h)

pub bad_here : (image : List ℕ) (k : ℕ) (g : Bool) → Sought (bad_in image) 65 k → k < 65 → g ≡ is_good image k → not g ≡ true → k ≡ first_bad image
unfolding first_bad
bad_here image k g s l e h = sought_here s l (rw (← e) h)

pub bad_none : (image : List ℕ) (k : ℕ) → Sought (bad_in image) 65 k → 65 ≤ k → first_bad image ≡ 65
unfolding first_bad
bad_none image k s l =
    let e : k ≡ first_bad image = sought_end s l in
    omega (arith, s.within, e)
