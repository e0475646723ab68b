-- What changes keep apart: whatever is between two parts in the text is also between them in the changed
-- text.
use Rattle.std.specs.Prelude.{◌==◌, ◌||◌, ◌&&◌, ℕ, suc, Bool, false, List, [], ◌∷◌, if◌then◌else◌}
use Rattle.std.specs.Prelude.{codes, drop, not, slice_index, slice_range, take}
use Rattle.twp_grammar.specs.Tokens.{same_bytes, is_white}
use Rattle.twp_rules.specs.declared.rule.Rule.{Rule}
use Rattle.twp_rules.specs.declared.rule.Rule.TheVariants.{Comma, OnePart, Zeros, FractionDigit}
use Rattle.twp_rules.specs.declared.seam.Seam.{Seam}
use Rattle.twp_rules.specs.Changes.{Change}
use Rattle.twp_rules.specs.Edges.{begins_with, byte_before, ends_with_one, is_one_of, without_white}
use Rattle.twp_rules.specs.Endings.{before_articles}
use Rattle.twp_rules.specs.Keeping.{leaves_nothing_out}
use Rattle.twp_rules.specs.Rules.{solid_before}
use Rattle.twp_rules.specs.Words.{apart_marks, words_in_parts}

-- only white space
abbrev pub is_blank : List ℕ → Bool
is_blank bytes = same_bytes (without_white bytes) []

-- a step of a part begins a text: N, S, E, or W, and no word for a section or an exception
abbrev pub begins_with_step : List ℕ → Bool
begins_with_step bytes =
    (begins_with bytes (codes "n") || begins_with bytes (codes "s") || begins_with bytes (codes "e")
    || begins_with bytes (codes "w"))
    && not (begins_with bytes (codes "sec")) && not (begins_with bytes (codes "ex"))

-- a step ends with the digit of a fraction, or with the sign for one
abbrev pub ends_step : List ℕ → ℕ → Bool
ends_step bytes at =
    is_one_of (slice_index bytes at ∷ []) (codes "2" ∷ codes "4" ∷ []) && (byte_before bytes at == 47)
    || is_one_of (slice_index bytes at ∷ []) ((189 ∷ []) ∷ (188 ∷ []) ∷ []) && (byte_before bytes at == 194)

-- a text is written at a seam: it doesn't begin with a step, if the text before it ends with one, and
-- something between them was left out
abbrev pub is_apart_at : Seam → List ℕ → Bool
is_apart_at seam bytes = not (seam.ends_step && seam.lost && begins_with_step (without_white bytes))

-- whether more bytes end with a step, if what is before them did, or didn't
abbrev pub ends_after : Bool → List ℕ → ℕ → List ℕ → Bool
ends_after ends bytes at [] = ends
ends_after ends bytes at (byte ∷ rest) =
    ends_after (if is_white byte then ends else ends_step bytes at) bytes (suc at) rest

-- the seam after more bytes
abbrev pub seam_after : Seam → List ℕ → Seam
seam_after seam bytes = record {
  ends_step = ends_after seam.ends_step bytes 0 bytes;
  lost = seam.lost && is_blank bytes;
}

-- a rule leaves out what may be between two parts
abbrev pub loses_by : Rule → List ℕ → Bool
loses_by Zeros seen = false
loses_by FractionDigit seen = false
loses_by rule seen = not (is_blank seen) && not (is_one_of seen words_in_parts)

-- a period, or a hyphen at the end of a line, may be within a part
abbrev pub is_within_part : Rule → List ℕ → ℕ → List ℕ → Bool
is_within_part OnePart text end seen =
    same_bytes seen (codes ".")
    || same_bytes seen (codes "-") && is_one_of (slice_index text end ∷ []) ((10 ∷ []) ∷ (13 ∷ []) ∷ [])
is_within_part rule text end seen = false

-- `the` after a mark, `and`, or `of`, and so not between two steps
abbrev pub is_article : List ℕ → ℕ → List ℕ → Bool
is_article text start seen =
    is_one_of seen (codes "the" ∷ [])
    && (is_one_of (solid_before text start ∷ []) ((0 ∷ []) ∷ apart_marks)
    || ends_with_one (take start text) before_articles)

-- what a change leaves out may be between two parts
abbrev pub loses_seen : List ℕ → Change → List ℕ → Bool
loses_seen text change seen =
    loses_by change.rule seen && not (is_within_part change.rule text change.end seen)
    && not (is_article text change.start seen)

-- and it writes nothing else
abbrev pub loses : List ℕ → Change → Bool
loses text change =
    is_blank change.written && loses_seen text change (slice_range text change.start change.end)

-- the seam after a change
abbrev pub seam_with : List ℕ → Seam → Change → Seam
seam_with text seam change = record {
  ends_step = (seam_after seam change.written).ends_step;
  lost = (seam_after seam change.written).lost || loses text change;
}

-- a comma is written from nothing
abbrev pub inserts_comma : Change → Rule → Bool
inserts_comma change Comma = leaves_nothing_out change
inserts_comma change rule = false

-- a comma is written between two steps that have nothing between them in the text
abbrev pub parts_run : List ℕ → Seam → Change → Bool
parts_run text seam change =
    seam.ends_step && inserts_comma change change.rule && not (is_white (byte_before text change.start))
    && begins_with_step (drop change.start text)

-- PARTS ARE KEPT APART, from a place on: if two steps are written next to each other, nothing was left out
-- between them except words and marks within a part; and the steps of a run stay next to each other
abbrev pub keep_apart : List ℕ → ℕ → Seam → List Change → Bool
keep_apart text at seam [] = is_apart_at seam (drop at text)
keep_apart text at seam (change ∷ changes) =
    is_apart_at seam (slice_range text at change.start)
    && is_apart_at (seam_after seam (slice_range text at change.start)) change.written
    && not (parts_run text (seam_after seam (slice_range text at change.start)) change)
    && keep_apart text change.end
    (seam_with text (seam_after seam (slice_range text at change.start)) change) changes

-- the seam at the beginning of a text
abbrev pub first_seam : Seam
first_seam = record { ends_step = false; lost = false }
