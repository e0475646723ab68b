-- The view that contracts have of a device: its bytes, if they are known, and whether it has
-- failed; and how many of a source's known bytes a call took.
use Rattle.std.specs.Prelude.{◌≡◌, ℕ, ◌≤◌, List, length, Option, Some, None, ⊤, Bool, take, IfSome}
use Rattle.std.specs.Io.KnownBytes.{Consumes, IsAtEnd}
use Rattle.twp_grid.specs.declared.device.Device.{Device}
use Rattle.twp_grid.specs.declared.device.Bytes.{Bytes}

-- these are the bytes, if they are known
abbrev pub Tells : Option (List ℕ) → List ℕ → Type 0
Tells None bytes = ⊤
Tells (Some known) bytes = known ≡ bytes

-- at most this many of the known bytes were taken
abbrev pub TakesAtMost : Option (List ℕ) → Option (List ℕ) → ℕ → Type 0
TakesAtMost old new most = (taken : List ℕ) × Consumes old new taken × (length taken ≤ most)

-- the reader or writer of a device
abbrev pub inner_of : {T : Type 0} → Device T → T
inner_of device = device.inner

-- whether a call of the device has failed
abbrev pub device_failed : {T : Type 0} → Device T → Bool
device_failed device = device.failed

-- the bytes that are still to be read
abbrev pub unread_bytes : Bytes → List ℕ
unread_bytes bytes = bytes.unread.now

-- exactly this many bytes were taken
abbrev pub TakesJust : Option (List ℕ) → Option (List ℕ) → ℕ → Type 0
TakesJust old new count = (taken : List ℕ) × Consumes old new taken × (length taken ≡ count)

-- all these bytes were taken
abbrev pub TakesAll : Option (List ℕ) → Option (List ℕ) → List ℕ → Type 0
TakesAll old new taken = Consumes old new taken × IsAtEnd new

-- of the known bytes, exactly the first ones up to this number were taken, or all if there are no more
abbrev pub TakesFirst : Option (List ℕ) → Option (List ℕ) → ℕ → Type 0
TakesFirst old new count = IfSome old (λ bytes. Consumes old new (take count bytes))
