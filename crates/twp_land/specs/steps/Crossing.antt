-- Ranges of columns or rows that overlap.
use Rattle.std.specs.Prelude.{◌+◌, ◌<◌}
use Rattle.twp_grid.specs.Spans.{Interval}

-- two ranges of columns or rows overlap if each begins before the other ends
abbrev pub Cross : Interval → Interval → Type 0
Cross span other = (span.start < other.start + other.len) × (other.start < span.start + span.len)
