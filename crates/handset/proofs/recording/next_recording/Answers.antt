use Rattle.std.proofs.Common.{◌*◌, ℕ, List, Option, IfSome, ◌≡◌, length, subst, ap, ◌∙◌}
use Rattle.std.proofs.lemmas.Result.{err_from_is_err_and}
use Rattle.device_ends.specs.Source.{reader_of}
use Rattle.handset.specs.Tape.{slots_in}
use Rattle.handset.specs.TapeSteps.{ReadsHeader, StopsInOctets}
use Rattle.handset.proofs.Recordings.{recording_from}
use Rattle.handset.proofs.TapeExtents.{stops-in-blocks}
use Rattle.handset.proofs.recording.next_recording.Goals as goal

pub returns-clause-tape : goal.returns-clause-tape
returns-clause-tape g c =
    let remaining = g.R.Read.remaining in
    let old : Option (List ℕ) = remaining (reader_of c.args.source.now) in
    let mid : Option (List ℕ) = remaining (reader_of c.next_header.new.source) in
    let new : Option (List ℕ) = remaining (reader_of c.read_octets.new.source) in
    let octets : List ℕ = c.in_ok-octets.octets.items in
    let read : ReadsHeader old mid c.in-Some.header =
    subst (λ next. IfSome next (λ header. ReadsHeader old mid header)) c.in-Some.is c.in_ok-header.ensures.header in
    let long : length octets ≡ 92 * slots_in c.in-Some.header =
    c.in_ok-octets.ensures.long ∙ ap (λ (n : ℕ). 92 * n) c.slots_of-slots.ensures in
    rw (c.cell_of.ensures, c.slots_of-slots.ensures)
    (recording_from old mid new c.in-Some.header octets read c.in_ok-octets.ensures.octets long)

pub returns-in_err-octets-clause-extent : goal.returns-in_err-octets-clause-extent
returns-in_err-octets-clause-extent g c =
    let remaining = g.R.Read.remaining in
    let old : Option (List ℕ) = remaining (reader_of c.args.source.now) in
    let mid : Option (List ℕ) = remaining (reader_of c.next_header.new.source) in
    let new : Option (List ℕ) = remaining (reader_of c.read_octets.new.source) in
    let read : ReadsHeader old mid c.in-Some.header =
    subst (λ next. IfSome next (λ header. ReadsHeader old mid header)) c.in-Some.is c.in_ok-header.ensures.header in
    let failed = err_from_is_err_and c.from_residual-in_err-octets.result c.from_residual-in_err-octets.ensures.1 in
    rw (failed.1, failed.2)
    (stops-in-blocks old mid new c.in-Some.header _ read.consumed read.eight read.few
    (subst (λ n. StopsInOctets mid new (92 * n) c.in_err-octets.field-0.0) c.slots_of-slots.ensures
    c.in_err-octets.ensures.extent))
