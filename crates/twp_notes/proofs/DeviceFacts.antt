-- Bytes that are read in pieces.
use Rattle.std.proofs.Common.{◌≡◌, ℕ, ◌+◌, ◌≤◌, List, [], ◌++◌, length, take, Option, Some, None}
use Rattle.std.proofs.Common.{refl, sym, arith, length-append}
use Rattle.std.specs.Prelude.{unwrap_or}
use Rattle.std.specs.Io.KnownBytes.{Consumes}
use Rattle.std.proofs.lemmas.List.{take_at, length-take}
use Rattle.std.proofs.KnownBytes.{Consumes-trans}
use Rattle.twp_grid.specs.Devices.{Tells, TakesAtMost}

-- the bytes that were read and those that remain are the bytes of the source
pub tells_read : (old new : Option (List ℕ)) (read : List ℕ) → Consumes old new read
    → Tells old (read ++ unwrap_or new [])
tells_read None new read h = tt
tells_read (Some xs) None read h = absurd h
tells_read (Some xs) (Some ys) read h = h

-- the reading ends when as many bytes as were asked for are read, or at the end of the input
pub read_most : (read rest : List ℕ) (most : ℕ) → length read ≡ most → read ≡ take most (read ++ rest)
read_most read rest most long = sym (take_at read rest most long)

-- the pieces that were taken, with the last one, are no more than was asked for
pub most_taken : (old mid new : Option (List ℕ)) (read piece : List ℕ) (count room most : ℕ)
    → Consumes old mid read → Consumes mid new (take count piece)
    → count ≤ room → length read + room ≤ most → TakesAtMost old new most
most_taken old mid new read piece count room most before more within fits =
    let short : length (take count piece) ≤ count = rw (length-take count piece) (omega arith) in (
      read ++ take count piece,
      Consumes-trans old mid new read (take count piece) before more,
      rw (length-append read (take count piece)) (omega arith),
    )

-- a source has bytes, known or not
pub tells_some : (known : Option (List ℕ)) → Tells known (unwrap_or known [])
tells_some None = tt
tells_some (Some xs) = refl
