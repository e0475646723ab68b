use Rattle.twp_notes.proofs.RecordFacts.{reads_first}
use Rattle.twp_notes.proofs.reading.Records.read.Goals as goal

pub returns-in-Ok : goal.returns-in-Ok
returns-in-Ok c =
    let read = c.in-Ok.ensures in
    reads_first c.args.self.now _ c.in-Ok.found _ c.requires (read.reads c.requires.plain c.requires.ready)
    (read.ready c.requires.plain) read.flexible
