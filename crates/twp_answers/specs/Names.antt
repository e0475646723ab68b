-- Which names a set of tracts' names contains.
use Rattle.std.specs.Prelude.{ℕ, List, Bool}
use Rattle.std.specs.HashSet.{contains_by}
use Rattle.std.specs.Str.{bytes_eq}
use Rattle.twp_answers.specs.declared.names.NamesSoFar.{NamesSoFar}

-- the set contains the name
abbrev pub has_name : NamesSoFar → List ℕ → Bool
has_name names name = contains_by (λ key. bytes_eq name key.bytes) names.names
