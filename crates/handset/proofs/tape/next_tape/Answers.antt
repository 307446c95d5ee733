use Rattle.std.proofs.Common.{◌*◌, ℕ, List, Option, IfSome, subst}
use Rattle.std.proofs.lemmas.Result.{err_from_is_err_and}
use Rattle.device_ends.specs.Source.{reader_of}
use Rattle.handset.specs.Keeping.{messages_shown}
use Rattle.handset.specs.TapeSteps.{ReadsBlocks, ReadsHeader, StopsInOctets}
use Rattle.handset.proofs.TapeLaws.{ReadsTape-from}
use Rattle.handset.proofs.TapeExtents.{stops-in-blocks}
use Rattle.handset.proofs.tape.next_tape.Goals as goal

pub returns-clause-tape : goal.returns-clause-tape
returns-clause-tape g c =
    let remaining = g.R.Read.remaining in
    let old : Option (List ℕ) = remaining (reader_of c.args.source.now) in
    let mid : Option (List ℕ) = remaining (reader_of c.next_header.new.source) in
    let new : Option (List ℕ) = remaining (reader_of c.read_slots.new.source) in
    let read : ReadsHeader old mid c.in-Some.header =
    subst (λ next. IfSome next (λ header. ReadsHeader old mid header)) c.in-Some.is c.in_ok-header.ensures.header in
    rw (c.cell_of.ensures, c.slots_of-slots.ensures)
    (ReadsTape-from old mid new c.in-Some.header (messages_shown c.in_ok-shown.shown.items) read.eight read.few
    read.consumed
    (subst (λ n. ReadsBlocks mid new n (messages_shown c.in_ok-shown.shown.items)) c.slots_of-slots.ensures
    c.in_ok-shown.ensures.shown))

pub returns-in_err-shown-clause-extent : goal.returns-in_err-shown-clause-extent
returns-in_err-shown-clause-extent g c =
    let remaining = g.R.Read.remaining in
    let old : Option (List ℕ) = remaining (reader_of c.args.source.now) in
    let mid : Option (List ℕ) = remaining (reader_of c.next_header.new.source) in
    let new : Option (List ℕ) = remaining (reader_of c.read_slots.new.source) in
    let read : ReadsHeader old mid c.in-Some.header =
    subst (λ next. IfSome next (λ header. ReadsHeader old mid header)) c.in-Some.is c.in_ok-header.ensures.header in
    let failed = err_from_is_err_and c.from_residual-in_err-shown.result c.from_residual-in_err-shown.ensures.1 in
    rw (failed.1, failed.2)
    (stops-in-blocks old mid new c.in-Some.header _ read.consumed read.eight read.few
    (subst (λ n. StopsInOctets mid new (92 * n) c.in_err-shown.field-0.0) c.slots_of-slots.ensures
    c.in_err-shown.ensures.extent))
