-- The clock of a tape: when it begins, by the blocks of the air that a capture file has, and in which of its slots
-- something comes. Frames and slots are by 3GPP TS 45.002, clauses 4.3.1 and 6.5.4; the rest is own.
use Rattle.std.specs.Prelude.{◌≡◌, ℕ, ◌+◌, ◌-◌, ◌*◌, ◌/◌, ◌%◌, nat_lt, List, [], ◌∷◌, ◌++◌, length, slice_get}
use Rattle.std.specs.Prelude.{Option, Some, None, Result, Ok, Err, if◌then◌else◌, IsPermutation}
use Rattle.std.specs.List.Sorted.{IsSorted}
use Rattle.std.specs.Ordering.{nat_cmp}
use Rattle.gsmtap.specs.File.{Packet, link_numbered}
use Rattle.gsmtap.specs.Tap.{sent_in}
use Rattle.gsmtap.specs.Track.{followed, latest, place_in, slot_of_frame}
use Rattle.gsmtap.specs.declared.fault.AirFaultKind.{AirFaultKind}
use Rattle.gsmtap.specs.declared.fault.AirFaultKind.TheVariants as kind
use Rattle.gsmtap.specs.declared.file.Link.{Link}
use Rattle.gsmtap.specs.declared.tap.Sent.{Sent}
use Rattle.gsmtap.specs.declared.tape.Sender.{Sender}
use Rattle.gsmtap.specs.declared.track.Track.{Track}

-- Time is counted in ticks, of which a microsecond has 13, so that a frame lasts a whole number of them: 120/26 ms are
-- 60,000. A slot has eight multiframes of 51 frames
abbrev pub frame_ticks : ℕ
frame_ticks = 60000

abbrev pub slot_frames : ℕ
slot_frames = 408

abbrev pub slot_ticks : ℕ
slot_ticks = 24480000

-- it begins 131,072 slots before 1970, so that a tape begins after it whose first block came in 1970
abbrev pub epoch : ℕ
epoch = 3208642560000

-- when something came, of which this is the time in nanoseconds from 1970-01-01T00:00:00Z on
abbrev pub ticks_at : (nanoseconds : ℕ) → ℕ
ticks_at time = 13 * (time / 1000) + epoch

abbrev pub ticks_if : Option ℕ → ℕ
ticks_if None = epoch
ticks_if (Some time) = ticks_at time

-- when the slot of the first block begins, by a block that stands so many slots after it and has this number of its
-- first frame: a hyperframe has whole slots, so the number says how far in its slot the frame is
abbrev pub begin_by : (time slot frame : ℕ) → ℕ
begin_by time slot frame = ticks_at time - frame_ticks * (slot_frames * slot + frame % slot_frames)

-- a block says it if its packet has a time, and if its slot is one that a tape may have
abbrev pub begins_by : (time : Option ℕ) → (slot frame : ℕ) → List ℕ
begins_by None slot frame = []
begins_by (Some time) slot frame = if nat_lt slot 65536 then begin_by time slot frame ∷ [] else []

-- what is known by now: the latest slot in which a block stands, and when the first one's slot begins by each
pub record Clocked : Type 0 where
  pub track : Option Track
  pub begins : List ℕ

abbrev pub not_clocked : Clocked
not_clocked = record { track = None; begins = [] }

-- a block more, which stands on the tape as `tape` places it; those of the extended channel are passed over
abbrev pub clocked_at : Clocked → (time : Option ℕ) → (frame : ℕ) → Option Track → Result Clocked AirFaultKind
clocked_at known time frame None = Err kind.StepsBack
clocked_at known time frame (Some there) = Ok (record {
  track = Some (latest known.track there);
  begins = known.begins ++ begins_by time there.slot frame;
})

unfoldable pub with_frame : Clocked → (time : Option ℕ) → (frame : ℕ) → Result Clocked AirFaultKind
with_frame known time frame =
    if nat_lt (place_in frame) 4 then clocked_at known time frame (followed known.track (slot_of_frame frame))
    else Ok known

abbrev pub with_sent : Clocked → (time : Option ℕ) → Option Sent → Result Clocked AirFaultKind
with_sent known time None = Ok known
with_sent known time (Some sent) = with_frame known time sent.frame

-- a packet of a link type that isn't known is at fault
abbrev pub clock_linked : Sender → Clocked → Packet → Option Link → Result Clocked AirFaultKind
clock_linked from known packet None = Err (kind.OtherLink packet.link)
clock_linked from known packet (Some link) = with_sent known packet.time (sent_in link from packet.octets)

unfoldable pub clock_packet : Sender → Clocked → Packet → Result Clocked AirFaultKind
clock_packet from known packet = clock_linked from known packet (link_numbered packet.link)

-- the middle one of numbers in rising order, the later of two
pub record IsMedian (numbers : List ℕ) (median : ℕ) : Type 0 where
  pub sorted : List ℕ
  pub same : IsPermutation numbers sorted
  pub rises : IsSorted nat_cmp sorted
  pub middle : slice_get sorted (length sorted / 2) ≡ Some median

-- in which slot of a tape something comes that came at this mark, and how many slots before the tape
abbrev pub slot_at : (begin mark : ℕ) → ℕ
slot_at begin mark = (mark - begin) / slot_ticks

abbrev pub slots_before : (begin mark : ℕ) → ℕ
slots_before begin mark = (begin - mark + 24479999) / slot_ticks
