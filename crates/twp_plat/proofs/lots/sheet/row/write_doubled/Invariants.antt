use Rattle.std.proofs.Common.{◌≡◌, ◌++◌, take}
use Rattle.twp_plat.specs.PlainTables.{with_quotes_doubled}
use Rattle.twp_plat.proofs.lots.sheet.row.write_doubled.Given as goal

abbrev pub invariant-loop-byte : goal.invariant-loop-byte
invariant-loop-byte l = l.plain.items ≡ l.fn.plain.items ++ with_quotes_doubled (take l.byte-index l.cell)
