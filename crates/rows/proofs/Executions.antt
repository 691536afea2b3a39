-- The row of an execution report, written part by part: what is left of a part, and that the bytes are those of the row of each kind.
use Prim.Native.Nat.{ℕ}
use native.Mathlib.Omega.{arith}
use mathlib.Core.Path.{◌≡◌, refl, ◌∙◌}
use mathlib.Core.List.{List, ◌++◌}
use Rattle.octets.specs.Written.{Room, Wrote}
use Rattle.report.specs.declared.Field.{Field}
use Rattle.report.specs.Fields.{field_bytes, row_bytes}
use Rattle.report.proofs.Bytes.{row_append}
use Rattle.report.proofs.Writing.{Ahead, ahead_room, ahead_more}
use Rattle.rows.specs.declared.Stamp.{Stamp}
use Rattle.rows.specs.declared.Shown.{Shown}
use Rattle.rows.specs.declared.Ground.{Ground}
use Rattle.rows.specs.declared.Fill.{Fill}
use Rattle.rows.specs.Rows.{header, figures_of, digit, accepted_fields, accepted_row, replaced_fields, replaced_row, canceled_fields, canceled_row, trade_fields, trade_row}
use Rattle.rows.specs.Parts.{first_part, fill_part, terms_part, details_part, state_part, others_part, reason_part, liquidity_part, last_part, upper_part, lower_part, execution_fields, accepted_told, replaced_told, canceled_told, traded_told}

-- ---- one part after another
module _ {area : List ℕ} {at : ℕ} {whole : List ℕ} {next : ℕ} {now : List ℕ} where
  module _ (sent stored : List ℕ) (xs ys : List Field) (h : Ahead area at whole next now (row_bytes sent stored (xs ++ ys))) where
    pub part_room : Room now next (row_bytes sent stored xs)
    part_room = ahead_room (row_bytes sent stored xs) (row_bytes sent stored ys) (rw (row_append sent stored xs ys) at h)

    pub part_more : {next₂ : ℕ} {after : List ℕ} → Wrote now next (row_bytes sent stored xs) next₂ after → Ahead area at whole next₂ after (row_bytes sent stored ys)
    part_more w = ahead_more (row_bytes sent stored xs) (row_bytes sent stored ys) (rw (row_append sent stored xs ys) at h) w

  -- the last one
  pub last_room : {b : List ℕ} → Ahead area at whole next now b → Room now next b
  last_room h = record { fits = omega (arith, h.place, h.kept, h.room) }

  pub last_wrote : {b : List ℕ} {next₂ : ℕ} {after : List ℕ} → Ahead area at whole next now b → Wrote now next b next₂ after → Wrote area at whole next₂ after
  last_wrote h w = record { place = w.place ∙ h.place; bytes_in = w.bytes_in ∙ h.end }

-- ---- the kinds
module _ (sent stored : List ℕ) (s : Stamp) (o : Shown) where
  pub accepted_same : row_bytes sent stored (execution_fields s o accepted_told) ≡ row_bytes sent stored (accepted_row s o)
  unfolding execution_fields upper_part lower_part header first_part fill_part terms_part details_part state_part others_part reason_part liquidity_part last_part field_bytes figures_of accepted_fields
  accepted_same = refl

  pub replaced_same : (w : Ground) → row_bytes sent stored (execution_fields s o (replaced_told o w)) ≡ row_bytes sent stored (replaced_row s o w)
  unfolding execution_fields upper_part lower_part header first_part fill_part terms_part details_part state_part others_part reason_part liquidity_part last_part field_bytes figures_of digit replaced_fields
  replaced_same w = refl

  pub canceled_same : (w : Ground) → row_bytes sent stored (execution_fields s o (canceled_told w)) ≡ row_bytes sent stored (canceled_row s o w)
  unfolding execution_fields upper_part lower_part header first_part fill_part terms_part details_part state_part others_part reason_part liquidity_part last_part field_bytes figures_of canceled_fields
  canceled_same w = refl

  pub traded_same : (f : Fill) → row_bytes sent stored (execution_fields s o (traded_told o f)) ≡ row_bytes sent stored (trade_row s o f)
  unfolding execution_fields upper_part lower_part header first_part fill_part terms_part details_part state_part others_part reason_part liquidity_part last_part field_bytes figures_of digit trade_fields
  traded_same f = refl
