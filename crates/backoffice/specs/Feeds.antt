-- Reports handed to a feed one by one, each with the number that the one before left (document 02, T-01), and the numbers of the copies.
-- What a back office tells from the copies, as `read_copy` gives them, is what a member tells from reports. Assumes nothing.
use Rattle.std.specs.Prelude.{◌≡◌, List, [], ◌∷◌, ◌++◌, ℕ, ◌+◌, Result, Ok, Err, option_map, unwrap_or}
use Rattle.decimal.specs.declared.Instrument.{Instrument}
use Rattle.readback.specs.Says.{says}
use Rattle.refusals.specs.declared.Refusal.{Refusal}
use Rattle.feed.specs.declared.Answer.{Answer}
use Rattle.feed.specs.Copies.{fed, read_copy_of}

-- ---- the copies

-- what a feed wrote, if it wrote a copy
abbrev pub written_by : Result Answer Refusal → List ℕ → List (List ℕ)
written_by (Ok c) bytes = unwrap_or (option_map (λ len. bytes ∷ []) c.len) []
written_by (Err r) bytes = []

-- the number that goes in next; a refusal leaves it
abbrev pub next_after : ℕ → Result Answer Refusal → ℕ
next_after n (Ok c) = c.next
next_after n (Err r) = n

-- the copies of reports, from number n on, each in an area of 1,024 bytes
unfoldable pub copies_from : Instrument → ℕ → ℕ → List ℕ → List ℕ → ℕ → List (List ℕ) → List (List ℕ)
copies_from q subscription shows port group n [] = []
copies_from q subscription shows port group n (r ∷ rs) =
    let f = fed q r subscription shows port group n 1024 in
    written_by f.answer f.bytes ++ copies_from q subscription shows port group (next_after n f.answer) rs

-- ---- their numbers

-- 34 and 17 are n, n + 1, n + 2 and so on
abbrev pub NumberedFrom : Instrument → ℕ → List (List ℕ) → Type 0
NumberedFrom q n [] = Unit {0}
NumberedFrom q n (c ∷ cs) = (says 34 (read_copy_of q c) ≡ n) × (says 17 (read_copy_of q c) ≡ n) × NumberedFrom q (n + 1) cs
