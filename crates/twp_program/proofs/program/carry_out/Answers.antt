-- There are words after the program's name.
use Rattle.std.proofs.Common.{rules, ◌<◌, length, inl}
use Rattle.std.specs.Prelude.{map, string_bytes}
use Rattle.std.proofs.lemmas.List.{length-map}
use Rattle.twp_program.proofs.program.carry_out.Goals as goal

pub returns-in-Ok : goal.returns-in-Ok
returns-in-Ok g c =
    let more : 1 < length c.in-Ok.words.items = search rules in
    let several : 1 < length (map string_bytes c.in-Ok.words.items) =
    rw (length-map c.in-Ok.words.items string_bytes) more in
    inl (map string_bytes c.in-Ok.words.items, several, c.run_words.ensures)
