-- How far a changed text was followed.
use Rattle.std.specs.Prelude.{◌≡◌, ◌≤◌, ◌-◌, ℕ, List, drop, map}
use Rattle.twp_rules.specs.Changes.{seen}
use Rattle.twp_rules.specs.Origins.{origin}
use Rattle.twp_rules.specs.declared.change.Change.{Change as Piece}
use Rattle.twp_rules.specs.declared.cursor.Cursor.{Cursor}

-- the origin of each byte from a cursor on is that from there
abbrev pub IsFollowed : List Piece → Cursor → Type 0
IsFollowed changes cursor = (offset : ℕ) → cursor.offset ≤ offset
    → origin 0 (map seen changes) offset
    ≡ origin cursor.at (map seen (drop cursor.index changes)) (offset - cursor.offset)
