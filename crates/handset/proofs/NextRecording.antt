-- What the next read of an input's tapes gives, after those before it.
use Rattle.std.proofs.Common.{◌≡◌, ℕ, ◌+◌, ◌<◌, ◌≤◌, List, [], Option, None, Some, IfSome, length, map}
use Rattle.std.proofs.Common.{◌++◌, ◌∙◌, ap₂, arith}
use Rattle.std.specs.Io.KnownBytes.{IsAtEnd}
use Rattle.std.proofs.lemmas.List.{length-append, length-map}
use Rattle.handset.specs.Recording.{TapeRecording, reading_of_recording, GivesFault, GivesNoMore}
use Rattle.handset.specs.Recording.{ReadsRecordings, StopsAfter}
use Rattle.handset.specs.Tape.{max_tapes}
use Rattle.handset.specs.TapeSteps.{IsMoreThanAll, IsNextTapeFault, LastStopsAt, NextStopsAt}
use Rattle.handset.specs.declared.tape.TapeFault.{TapeFault}
use Rattle.handset.specs.declared.tape.TapeFault.TheVariants as fault
use Rattle.handset.proofs.Recordings.{all_read, some_more_read, tapes_read}
use Rattle.handset.proofs.TapeExtents.{stops-at-last, stops-at-more, stops-at-next, stops-between}
use Rattle.handset.proofs.TapeLaws.{next_is_tapes, tapes_go_on}

-- a handset would read as many
pub as_many : (recordings : List TapeRecording) (count : ℕ) → length recordings ≡ count
    → length (map reading_of_recording recordings) ≡ count
as_many recordings count many = length-map recordings reading_of_recording ∙ many

-- the end
pub gives-no-more : (count : ℕ) (left : Option (List ℕ)) → count ≤ 64 → IsAtEnd left → GivesNoMore count left
gives-no-more count left within end first before reads many =
    let few : length before ≤ 64 = omega (arith, many, within) in
    (all_read first left before reads end few, (reads.octets, record { joined = reads.joined; few = few }))

-- a fault of a tape that the input may have
pub gives-fault : (count : ℕ) (left : Option (List ℕ)) (why : TapeFault) → count < 64
    → IfSome left (λ octets. IsNextTapeFault octets why)
    → GivesFault count left why
gives-fault count left why within next first before reads many =
    let same = as_many before count many in
    next_is_tapes first left (map reading_of_recording before) why (tapes_read first left before reads)
    (omega (arith, same, within)) next

-- and so far it was read then
pub stops-at-it : (count : ℕ) (left new : Option (List ℕ)) (why : TapeFault) → count < 64 → NextStopsAt left new why
    → StopsAfter count left new why
stops-at-it count left new why within stops first before reads many =
    let same = as_many before count many in
    stops-at-next 64 first left new (map reading_of_recording before) why (tapes_read first left before reads)
    (omega (arith, same, within)) stops

-- the reader failed, or did before
pub gives-failure : (count : ℕ) (left : Option (List ℕ)) → GivesFault count left fault.ReadFailed
gives-failure count left None before reads many = tt
gives-failure count left (Some input) before reads many = tt

-- where it was read before
pub stops-where-it-is : (count : ℕ) (left : Option (List ℕ)) → count ≤ 64 → StopsAfter count left left fault.ReadFailed
stops-where-it-is count left within first before reads many =
    let same = as_many before count many in
    stops-between 64 first left (map reading_of_recording before) (tapes_read first left before reads)
    (omega (arith, same, within))

-- an input goes on after all tapes that it may have
pub gives-last-fault : (count : ℕ) (left : Option (List ℕ)) (why : TapeFault) → count ≡ 64 → IsMoreThanAll left why
    → GivesFault count left why
gives-last-fault count left fault.Short all more = absurd more
gives-last-fault count left fault.Long all more = λ first before reads many.
    let same = as_many before count many in
    tapes_go_on first left (map reading_of_recording before) (tapes_read first left before reads) more
    (omega (arith, same, all))
gives-last-fault count left fault.ReadFailed all more = gives-failure count left
gives-last-fault count left fault.Refused all more = absurd more

-- of which one octet more was read, or none
pub stops-after-all : (count : ℕ) (left new : Option (List ℕ)) (why : TapeFault) → count ≡ 64
    → LastStopsAt left new why
    → StopsAfter count left new why
stops-after-all count left new fault.Short all stops = absurd stops
stops-after-all count left new fault.Long all stops = λ first before reads many.
    let same = as_many before count many in
    stops-at-more 64 first left new (map reading_of_recording before) (tapes_read first left before reads)
    (omega (arith, same, all)) stops
stops-after-all count left new fault.ReadFailed all stops = λ first before reads many.
    let same = as_many before count many in
    stops-at-last 64 first left new (map reading_of_recording before) (tapes_read first left before reads)
    (omega (arith, same, all)) stops
stops-after-all count left new fault.Refused all stops = absurd stops

-- a fault after some tapes more is a fault of what was left before them
pub gives-fault-later : (count more : ℕ) (left new : Option (List ℕ)) (recordings : List TapeRecording)
    (why : TapeFault)
    → ReadsRecordings left new recordings
    → length recordings ≡ more
    → GivesFault (count + more) new why
    → GivesFault count left why
gives-fault-later count more left new recordings why reads long gives first before had many =
    gives first (before ++ recordings) (some_more_read first left new before recordings had reads)
    (length-append before recordings ∙ ap₂ (λ (m n : ℕ). m + n) many long)

-- memory was refused
pub gives-refusal : (count : ℕ) (left : Option (List ℕ)) → GivesFault count left fault.Refused
gives-refusal count left None before reads many = tt
gives-refusal count left (Some input) before reads many = tt
