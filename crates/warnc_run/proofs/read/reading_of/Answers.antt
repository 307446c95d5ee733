use Rattle.std.proofs.Common.{◌∙◌, ℕ, List, Bor, ap, subst}
use Rattle.cbch_blocks.specs.RecordBlocks.{tape_of_record}
use Rattle.handset.specs.Tape.{IsTape, reading_of}
use Rattle.warnc_run.specs.Products.{reading_of_record}
use Rattle.warnc_run.proofs.read.reading_of.Goals as goal

pub returns-in-Ok-read_tape : goal.returns-in-Ok-read_tape
returns-in-Ok-read_tape c own =
    let one = reading_of c.in-Ok-read_tape.reading in
    let read : IsTape (tape_of_record c.args.run.now) one =
    subst (λ (octets : List ℕ). IsTape octets one)
    (ap (λ (reader : Bor (List ℕ)). reader.now) c.new.ensures.reader ∙ c.bytes.ensures ∙ c.in-Ok.ensures)
    c.in-Ok-read_tape.ensures.ok in
    (c.tape_laws.ensures.tape (tape_of_record c.args.run.now)).unique one (reading_of_record c.args.run.now) read own
