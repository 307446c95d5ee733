-- How far an input of tapes was read.
use Rattle.std.proofs.Common.{◌≡◌, ℕ, ◌+◌, ◌*◌, ◌<◌, ◌≤◌, List, [], ◌++◌, Option, IfErr, Result, Ok}
use Rattle.std.proofs.Common.{Err}
use Rattle.std.proofs.Common.{length, take, refl, sym, ap, ◌∙◌, subst, arith, append-nil}
use Rattle.std.specs.Io.KnownBytes.{Consumes, Keeps}
use Rattle.std.proofs.KnownBytes.{Consumes-trans, Consumes-nil, Consumes-kept}
use Rattle.std.proofs.lemmas.List.{length-append, length-take-le}
use Rattle.handset.specs.declared.tape.TapeFault.{TapeFault}
use Rattle.handset.specs.declared.tape.TapeFault.TheVariants as fault
use Rattle.handset.specs.Tape.{TapeReading, slots_in, max_slots}
use Rattle.handset.specs.Tape.{octets_of_blocks}
use Rattle.handset.specs.Keeping.{HandsetState}
use Rattle.handset.specs.TapeExtent.{AreGone, StopsAt}
use Rattle.handset.specs.TapeSteps.{NextStopsAt, ReadsCount, ReadsFewer, ReadsTape, StopsInOctets}
use Rattle.handset.proofs.TapeLaws.{Fed, ReadsTapes, octets_long, slots-header, tape_long}

-- what is so of any result is so of an error
pub if_err : {X E : Type 0} (r : Result X E) (P : Type 0) → P → IfErr r (λ _. P)
if_err (Ok x) P p = tt
if_err (Err e) P p = p

-- a buffer that was filled so far, and a read that failed
pub stopped-front : (a b c : Option (List ℕ)) (filled : ℕ) (buffer : List ℕ) → filled < length buffer →
    Consumes a b (take filled buffer) → Keeps b c → ReadsFewer a c (length buffer)
stopped-front a b c filled buffer within consumed keeps =
    let long = length-take-le filled buffer (omega (arith, within)) in
    (take filled buffer, Consumes-kept a b c (take filled buffer) consumed keeps, omega (arith, long, within))

-- octets that were read before others of which some were read
pub stops-after : (a b c : Option (List ℕ)) (front : List ℕ) (count all : ℕ) (why : TapeFault) → Consumes a b front →
    length front + count ≤ all → StopsInOctets b c count why → StopsInOctets a c all why
stops-after a b c front count all fault.Short consumed within stops = stops
stops-after a b c front count all fault.Long consumed within stops = stops
stops-after a b c front count all fault.ReadFailed consumed within stops = (
  front ++ stops.0,
  Consumes-trans a b c front stops.0 consumed stops.1,
  omega (arith, length-append front stops.0, within, stops.2),
)
stops-after a b c front count all fault.Refused consumed within stops = (
  front ++ stops.0,
  Consumes-trans a b c front stops.0 consumed stops.1,
  omega (arith, length-append front stops.0, within, stops.2),
)

-- slots that were read before others of which some octets were read
pub fed-stops : (a b c : Option (List ℕ)) (slots more all size : ℕ) (handset : HandsetState) (why : TapeFault) →
    Fed a b slots handset → StopsInOctets b c size why → slots + more ≤ all → size ≡ 92 * more →
    StopsInOctets a c (92 * all) why
fed-stops a b c slots more all size handset why fed stops within whole =
    let long = octets_long fed.blocks fed.slots_are.each in
    let four : length fed.blocks ≡ 4 * slots = fed.slots_are.four in
    stops-after a b c (octets_of_blocks fed.blocks) size (92 * all) why fed.consumed
    (omega (arith, long, four, within, whole)) stops

-- a header that may be, and some octets of its blocks
pub stops-in-blocks : (a b c : Option (List ℕ)) (header : List ℕ) (why : TapeFault) → Consumes a b header →
    length header ≡ 8 → slots_in header ≤ max_slots → StopsInOctets b c (92 * slots_in header) why →
    NextStopsAt a c why
stops-in-blocks a b c header fault.Short consumed eight few stops = stops
stops-in-blocks a b c header fault.Long consumed eight few stops = absurd stops
stops-in-blocks a b c header fault.ReadFailed consumed eight few stops =
    let part : List ℕ = header ++ stops.0 in
    let long : length (header ++ stops.0) ≡ length header + length stops.0 = length-append header stops.0 in
    let says : slots_in (header ++ stops.0) ≡ slots_in header = slots-header header stops.0 eight in (
      header ++ stops.0,
      Consumes-trans a b c header stops.0 consumed stops.1,
      λ some. record {
        some = some;
        few = λ _. subst (λ n. n ≤ max_slots) (sym says) few;
        inside =
            λ _.
            subst (λ n. length (header ++ stops.0) < 8 + 92 * n) (sym says) (omega (arith, long, eight, stops.2));
      },
    )
stops-in-blocks a b c header fault.Refused consumed eight few stops =
    let long : length (header ++ stops.0) ≡ length header + length stops.0 = length-append header stops.0 in
    let says : slots_in (header ++ stops.0) ≡ slots_in header = slots-header header stops.0 eight in (
      header ++ stops.0,
      Consumes-trans a b c header stops.0 consumed stops.1,
      λ _. subst (λ n. n ≤ max_slots) (sym says) few,
      λ _. subst (λ n. length (header ++ stops.0) ≤ 8 + 92 * n) (sym says) (omega (arith, long, eight, stops.2)),
    )

-- a header of which some octets were read before the reader failed
pub stops-in-header : (a b : Option (List ℕ)) → ReadsFewer a b 8 → NextStopsAt a b fault.ReadFailed
stops-in-header a b reads = (
  reads.0,
  reads.1,
  λ some. record {
    some = some;
    few = λ headed. absurd (omega (arith, headed, reads.2));
    inside = λ headed. absurd (omega (arith, headed, reads.2));
  },
)

-- a header that says too many slots
pub stops-at-oversized : (a b : Option (List ℕ)) (header : List ℕ) → Consumes a b header → length header ≡ 8 →
    max_slots < slots_in header → NextStopsAt a b fault.Long
stops-at-oversized a b header consumed eight many =
    (header, consumed, record { headed = omega (arith, eight); many = many }, eight)

-- the tapes before, and then a part of the next
gone : (a b c : Option (List ℕ)) (readings : List TapeReading) (part : List ℕ) → ReadsTapes a b readings →
    Consumes b c part →
    AreGone a c readings part
gone a b c readings part reads consumed = record {
  front = reads.octets;
  joined = reads.joined;
  consumed = Consumes-trans a b c reads.octets part reads.consumed consumed;
}

-- some tapes were read, and then the next one wasn't
pub stops-at-next : (most : ℕ) (a b c : Option (List ℕ)) (readings : List TapeReading) (why : TapeFault) →
    ReadsTapes a b readings → length readings < most → NextStopsAt b c why → StopsAt most a c why
stops-at-next most a b c readings fault.Short reads few stops = stops
stops-at-next most a b c readings fault.Long reads few stops = record {
  readings = readings;
  part = stops.0;
  gone = gone a b c readings stops.0 reads stops.1;
  few = omega (arith, few);
  oversized = λ _. (stops.2, stops.3);
  more = λ all. absurd (omega (arith, few, all));
}
stops-at-next most a b c readings fault.ReadFailed reads few stops = record {
  readings = readings;
  part = stops.0;
  gone = gone a b c readings stops.0 reads stops.1;
  few = omega (arith, few);
  cut = λ some. (few, stops.2 some);
}
stops-at-next most a b c readings fault.Refused reads few stops = record {
  readings = readings;
  part = stops.0;
  gone = gone a b c readings stops.0 reads stops.1;
  few = few;
  slots = stops.2;
  inside = stops.3;
}

-- all tapes that may be were read, and then one octet more
pub stops-at-more : (most : ℕ) (a b c : Option (List ℕ)) (readings : List TapeReading) → ReadsTapes a b readings →
    length readings ≡ most → ReadsCount b c 1 → StopsAt most a c fault.Long
stops-at-more most a b c readings reads all one = record {
  readings = readings;
  part = one.0;
  gone = gone a b c readings one.0 reads one.1;
  few = omega (arith, all);
  oversized = λ few. absurd (omega (arith, few, all));
  more = λ _. one.2;
}

-- all tapes that may be were read, and then the reader failed
pub stops-at-last : (most : ℕ) (a b c : Option (List ℕ)) (readings : List TapeReading) → ReadsTapes a b readings →
    length readings ≡ most → ReadsFewer b c 1 → StopsAt most a c fault.ReadFailed
stops-at-last most a b c readings reads all none = record {
  readings = readings;
  part = none.0;
  gone = gone a b c readings none.0 reads none.1;
  few = omega (arith, all);
  cut = λ some. absurd (omega (arith, some, none.2));
}

-- nothing was read
nothing : (a : Option (List ℕ)) → AreGone a a [] []
nothing a = record { front = []; joined = refl; consumed = Consumes-nil a }

-- a reader that failed before the next tape
pub stops-between : (most : ℕ) (a b : Option (List ℕ)) (readings : List TapeReading) → ReadsTapes a b readings →
    length readings ≤ most → StopsAt most a b fault.ReadFailed
stops-between most a b readings reads few = record {
  readings = readings;
  part = [];
  gone = gone a b b readings [] reads (Consumes-nil b);
  few = few;
  cut = λ some. absurd (omega (arith, some));
}

-- a failed device stops a reader at any place
pub stops-failed : (most : ℕ) (a : Option (List ℕ)) → StopsAt most a a fault.ReadFailed
stops-failed most a = record {
  readings = [];
  part = [];
  gone = nothing a;
  few = omega arith;
  cut = λ some. absurd (omega (arith, some));
}

-- so does want of memory
pub stops-refused : (most : ℕ) (a : Option (List ℕ)) → 0 < most → StopsAt most a a fault.Refused
stops-refused most a some = record {
  readings = [];
  part = [];
  gone = nothing a;
  few = some;
  slots = λ headed. absurd (omega (arith, headed));
  inside = λ headed. absurd (omega (arith, headed));
}

-- a tape was read for whose reading there was no room
pub stops-at-reading : (most : ℕ) (a b c : Option (List ℕ)) (readings : List TapeReading) (reading : TapeReading) →
    ReadsTapes a b readings → length readings < most → ReadsTape b c reading → StopsAt most a c fault.Refused
stops-at-reading most a b c readings reading reads few next =
    let tape : (8 ≤ length next.octets) × (slots_in (next.octets ++ []) ≡ reading.slots)
    × (length next.octets ≡ 8 + 92 * reading.slots) = tape_long next.octets [] reading next.tape in
    let says : slots_in next.octets ≡ reading.slots = ap slots_in (sym (append-nil next.octets)) ∙ tape.1 in
    let told : reading.slots ≡ slots_in next.tape.header = ap (λ r. r.slots) next.tape.reading_is in
    record {
      readings = readings;
      part = next.octets;
      gone = gone a b c readings next.octets reads next.consumed;
      few = few;
      slots = λ _. subst (λ n. n ≤ max_slots) (sym (says ∙ told)) next.tape.few;
      inside = λ _. subst (λ n. length next.octets ≤ 8 + 92 * n) (sym says) (omega (arith, tape.2));
    }
