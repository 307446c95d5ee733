-- Where blocks stand on a tape, by the numbers of their frames.
use Rattle.std.specs.Prelude.{ℕ, ◌+◌, ◌-◌, ◌*◌, ◌/◌, ◌%◌, ◌==◌, ◌&&◌, max, nat_le, nat_lt, List, Option, Some, None}
use Rattle.std.specs.Prelude.{if◌then◌else◌, slice_get, slice_set, Result, Ok, Err}
use Rattle.std.specs.Option.{option_map}
use Rattle.std.specs.Str.{bytes_eq}
use Rattle.gsmtap.specs.declared.fault.AirFaultKind.{AirFaultKind}
use Rattle.gsmtap.specs.declared.fault.AirFaultKind.TheVariants.{Differs, StepsBack}
use Rattle.gsmtap.specs.declared.tap.Sent.{Sent}
use Rattle.gsmtap.specs.declared.track.Track.{Track}

-- the 51-multiframe of a frame within the hyperframe, which has 2,048 * 26 of them (all four frames of a block lie in
-- one, beside SDCCH/4 and beside SDCCH/8); its slot, of which the hyperframe has 6,656; and its place in the slot, of
-- which the blocks of the basic channel have the first four, and those of the extended channel the others (3GPP TS
-- 45.002, clause 6.5.4)
abbrev pub multiframe_in : ℕ → ℕ
multiframe_in frame = frame / 51 % 53248

abbrev pub slot_of_frame : ℕ → ℕ
slot_of_frame frame = multiframe_in frame / 8

abbrev pub place_in : ℕ → ℕ
place_in frame = multiframe_in frame % 8

-- how far a slot of the hyperframe lies ahead of another
abbrev pub ahead : (here there : ℕ) → ℕ
ahead here there = (there + 6656 - here) % 6656

-- the slot of a track, which began in the slot `first` of the hyperframe, that is the nearest to its latest one and is
-- this slot of the hyperframe. It may be one slot back
abbrev pub nearest : Track → (there : ℕ) → Option ℕ
nearest track there =
    let distance = ahead ((track.first + track.slot) % 6656) there in
    if nat_lt distance 3328 then Some (track.slot + distance)
    else (if distance == 6655 && nat_le 1 track.slot then Some (track.slot - 1) else None)

-- where a block stands: the first one's slot is slot 0
unfoldable pub followed : Option Track → (there : ℕ) → Option Track
followed None there = Some (record { first = there; slot = 0 })
followed (Some track) there = option_map (λ slot. record { first = track.first; slot = slot }) (nearest track there)

-- the latest slot of a track, after a block that stands there
abbrev pub latest : Option Track → (there : Track) → Track
latest None there = there
latest (Some before) there = record { first = there.first; slot = max before.slot there.slot }

-- a block at its place of a tape: a place past the end is passed over, and a place has one block
abbrev pub put_at : List (Option (List ℕ)) → (place : ℕ) → (block : List ℕ) → Option (Option (List ℕ)) →
    Option (List (Option (List ℕ)))
put_at blocks place block None = Some blocks
put_at blocks place block (Some None) = Some (slice_set blocks place (Some block))
put_at blocks place block (Some (Some known)) = if bytes_eq known block then Some blocks else None

unfoldable pub put : List (Option (List ℕ)) → (place : ℕ) → (block : List ℕ) → Option (List (Option (List ℕ)))
put blocks place block = put_at blocks place block (slice_get blocks place)

-- what is known of a tape: the latest slot in which a block was placed, and the blocks, where there is one
pub record Known : Type 0 where
  pub track : Option Track
  pub blocks : List (Option (List ℕ))

abbrev pub put_result : Track → Option (List (Option (List ℕ))) → Result Known AirFaultKind
put_result track None = Err Differs
put_result track (Some blocks) = Ok (record { track = Some track; blocks = blocks })

abbrev pub put_on : Known → Sent → (there : Option Track) → Result Known AirFaultKind
put_on known sent None = Err StepsBack
put_on known sent (Some there) =
    put_result (latest known.track there) (put known.blocks (4 * there.slot + place_in sent.frame) sent.block)

-- one block more; those of the extended channel are passed over
unfoldable pub with_block : Known → Sent → Result Known AirFaultKind
with_block known sent =
    if nat_lt (place_in sent.frame) 4 then put_on known sent (followed known.track (slot_of_frame sent.frame))
    else Ok known
