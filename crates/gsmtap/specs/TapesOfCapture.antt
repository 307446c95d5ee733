-- The tapes that a capture file is, one for each of many senders. Each is the tape that it would be alone.
use Rattle.std.specs.Prelude.{◌≡◌, ℕ, List, [], ◌∷◌, ◌++◌, map, position, is_none, Bool, Some, Result, Ok, Err}
use Rattle.gsmtap.specs.File.{Packet}
use Rattle.gsmtap.specs.Taken.{ComesTo, IsFileFault, Taking}
use Rattle.gsmtap.specs.TapeOfCapture.{IsTapeOfCapture, after_packet, nothing_known, slots_taken}
use Rattle.gsmtap.specs.Track.{Known}
use Rattle.gsmtap.specs.declared.fault.AirFault.{AirFault}
use Rattle.gsmtap.specs.declared.fault.AirFaultKind.{AirFaultKind}
use Rattle.gsmtap.specs.declared.fault.AirFaultKind.TheVariants as kind
use Rattle.gsmtap.specs.declared.tape.Wanted.{Wanted}
use Rattle.gsmtap.specs.declared.tapes.TapesFault.{TapesFault}
use Rattle.gsmtap.specs.declared.tapes.TapesFault.TheVariants as faults

-- the input has the tape of each of these, and the output is these tapes, one after the other
abbrev pub AreTapesOfCapture : List Wanted → (input output : List ℕ) → Type 0
AreTapesOfCapture [] input output = output ≡ []
AreTapesOfCapture (one ∷ others) input output =
    (tape rest : List ℕ) × IsTapeOfCapture one input tape × AreTapesOfCapture others input rest
    × (output ≡ tape ++ rest)

-- what comes of one tape, and then of the others: of two faults the first is told
abbrev pub before_others : Result Known AirFaultKind → Result (List Known) AirFaultKind →
    Result (List Known) AirFaultKind
before_others (Err why) others = Err why
before_others (Ok known) (Err why) = Err why
before_others (Ok known) (Ok others) = Ok (known ∷ others)

-- what is known of each tape after a packet, which is offered to all of them
abbrev pub after_each : List Wanted → List Known → Packet → Result (List Known) AirFaultKind
after_each [] known packet = Ok []
after_each (one ∷ wanted) [] packet = Ok []
after_each (one ∷ wanted) (known ∷ others) packet =
    before_others (after_packet one.from known packet) (after_each wanted others packet)

-- at first nothing is known of any of them
abbrev pub none_known : List Wanted → List Known
none_known wanted = map (λ (one : Wanted). nothing_known (slots_taken one)) wanted

-- how packets are taken for tapes
abbrev pub for_tapes : List Wanted → Taking (List Known)
for_tapes wanted = record { start = none_known wanted; step = after_each wanted }

abbrev pub is_silent : Known → Bool
is_silent known = is_none known.track

-- the input is a capture file of whole pieces, without a fault for any of the tapes, and the tape at this place, from
-- 0, is the first of which its packets have no block
pub record HasSilentTape (wanted : List Wanted) (input : List ℕ) (place : ℕ) : Type 0 where
  pub known : List Known
  pub file : ComesTo (for_tapes wanted) input known
  pub first : position is_silent known ≡ Some place

-- why an input doesn't have all tapes, but for out of memory: the file is at fault, or a packet, the first that is so
-- for any of the tapes; or else a tape has no block
abbrev pub IsTapesFault : List Wanted → (input : List ℕ) → TapesFault → Type 0
IsTapesFault wanted input (faults.Air fault) = IsFileFault (for_tapes wanted) input fault.packet fault.kind
IsTapesFault wanted input (faults.NoBlock place) = HasSilentTape wanted input place

-- the fault of a tape that is made alone
abbrev pub fault_alone : TapesFault → AirFault
fault_alone (faults.Air fault) = fault
fault_alone (faults.NoBlock place) = record { packet = 0; kind = kind.NoBlock }
