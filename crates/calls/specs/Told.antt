-- What a call leaves: its answer, the table, and the reports that it wrote, each starting where the one before it ended (document
-- 01, "The table and its calls"). All other bytes of the report area stay. Assumes nothing.
use Rattle.std.specs.Prelude.{List, [], ◌∷◌, ◌++◌, ℕ}
use Rattle.octets.specs.Octets.{put}

-- the bytes of reports, one behind the other
unfoldable pub joined : List (List ℕ) → List ℕ
joined [] = []
joined (r ∷ rs) = r ++ joined rs

-- the report area after reports are written from its start on
abbrev pub area_after : List ℕ → List (List ℕ) → List ℕ
area_after area reports = put area 0 (joined reports)

-- fewer free bytes than this are no room
abbrev pub room_asked : ℕ
room_asked = 1024
