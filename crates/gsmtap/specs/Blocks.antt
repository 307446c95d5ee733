-- The blocks of pcapng (IETF draft-ietf-opsawg-pcapng, section 3.1). A block has its type and its length in four octets
-- each, a body, and its length again. The length is that of the whole block, and a multiple of 4.
use Rattle.std.specs.Prelude.{ℕ, zero, suc, ◌+◌, ◌-◌, ◌*◌, ◌/◌, ◌^◌, ◌%◌, ◌==◌, ◌&&◌, ◌||◌, not, nat_le, min, Bool}
use Rattle.std.specs.Prelude.{List, []}
use Rattle.std.specs.Prelude.{◌∷◌, ◌++◌, length, take, drop, slice_get, slice_range, Option, Some, None}
use Rattle.std.specs.Prelude.{if◌then◌else◌}
use Rattle.byteorder.specs.Endian.{big_number, little_number}
use Rattle.gsmtap.specs.File.{half_in, is_pcapng, number_in, told}
use Rattle.gsmtap.specs.Section.{Meaning, Section}
use Rattle.gsmtap.specs.declared.file.OctetOrder.{OctetOrder}
use Rattle.gsmtap.specs.declared.file.OctetOrder.TheVariants.{HighFirst, LowFirst}
use Rattle.gsmtap.specs.declared.pieces.Interface.{Interface}

-- the order of a section's numbers, by the magic number of its header
abbrev pub magic_order : List ℕ → Option OctetOrder
magic_order octets =
    if little_number 4 octets == 0x1A2B3C4D then Some LowFirst
    else (if big_number 4 octets == 0x1A2B3C4D then Some HighFirst else None)

-- the order of the numbers of the block that octets begin with, in a section of this order: a section header, whose
-- type is the same in either order, says its own
abbrev pub order_in : OctetOrder → List ℕ → Option OctetOrder
order_in order octets = if is_pcapng octets then magic_order (drop 8 octets) else Some order

-- how many octets the block has that octets begin with, by their first twelve; none if these contradict themselves
abbrev pub length_by : List ℕ → Option OctetOrder → Option ℕ
length_by octets None = None
length_by octets (Some order) =
    if nat_le 12 (number_in order (drop 4 octets)) && number_in order (drop 4 octets) % 4 == 0
    then Some (number_in order (drop 4 octets)) else None

abbrev pub block_length : OctetOrder → List ℕ → Option ℕ
block_length order octets = length_by octets (order_in order octets)

-- a section header (section 4.1): a magic number, a version and the section's length, in sixteen octets, and options.
-- No interface of the section is described yet
unfoldable pub section_meaning : Section → OctetOrder → List ℕ → Option Meaning
section_meaning section order body =
    if nat_le 16 (length body) then Some (record {
      section = record section { order = order; interfaces = [] };
      packet = None;
    }) else None

-- options (section 3.5): the code and the length of a value in two octets each, and the value, filled up to a multiple
-- of 4; code 0 ends them, and so does what is cut
abbrev pub filled_up : (length : ℕ) → ℕ
filled_up length = (length + 3) / 4 * 4

abbrev pub is_option : OctetOrder → List ℕ → Bool
is_option order octets =
    nat_le 4 (length octets) && (not (half_in order octets == 0)
    && nat_le (half_in order (drop 2 octets)) (length octets - 4))

-- the value of the first option of a code, where no more than so many octets are looked at
unfoldable pub option_within : (most : ℕ) → OctetOrder → (code : ℕ) → List ℕ → Option (List ℕ)
option_within zero order code octets = None
option_within (suc most) order code octets =
    if is_option order octets
    then (if half_in order octets == code then Some (take (half_in order (drop 2 octets)) (drop 4 octets))
    else option_within most order code (drop (4 + filled_up (half_in order (drop 2 octets))) octets))
    else None

abbrev pub option_in : OctetOrder → (code : ℕ) → List ℕ → Option (List ℕ)
option_in order code octets = option_within (length octets) order code octets

-- how many nanoseconds a tick of an interface's clock lasts (options if_tsresol, 9, and if_tsoffset, 14): a microsecond
-- if nothing is said. A clock whose ticks aren't decimal parts of a second, down to a nanosecond, or that counts from
-- another time than 1970 isn't known
abbrev pub tick_of : List ℕ → Option ℕ
tick_of [] = None
tick_of (digits ∷ rest) = if nat_le digits 9 && nat_le (length rest) 0 then Some (10 ^ (9 - digits)) else None

abbrev pub tick_by : (resolution offset : Option (List ℕ)) → Option ℕ
tick_by None None = Some 1000
tick_by (Some octets) None = tick_of octets
tick_by resolution (Some octets) = None

abbrev pub tick_in : OctetOrder → List ℕ → Option ℕ
tick_in order options = tick_by (option_in order 9 options) (option_in order 14 options)

-- an interface description (section 4.2): the link type in two octets, two that are kept free, in four how many octets
-- of a packet are kept at most, and options
unfoldable pub interface_meaning : Section → List ℕ → Option Meaning
interface_meaning section body =
    if nat_le 8 (length body) then Some (record {
      section = record section {
        interfaces = section.interfaces
            ++ record {
              link = half_in section.order body;
              snap_length = number_in section.order (drop 4 body);
              tick = tick_in section.order (drop 8 body);
            } ∷ [];
      };
      packet = None;
    }) else None

-- a packet brings itself
abbrev pub brings : Section → (link : ℕ) → (time : Option ℕ) → List ℕ → Option Meaning
brings section link time octets =
    Some (record { section = section; packet = Some (record { link = link; time = time; octets = octets }) })

-- its time is in ticks of the interface's clock, the higher half before the lower one
abbrev pub ticks_in : OctetOrder → List ℕ → ℕ
ticks_in order body = number_in order (drop 4 body) * 4294967296 + number_in order (drop 8 body)

abbrev pub time_by : (tick : Option ℕ) → (ticks : ℕ) → Option ℕ
time_by None ticks = None
time_by (Some tick) ticks = told (ticks * tick)

abbrev pub brings_of : Section → (body octets : List ℕ) → Option Interface → Option Meaning
brings_of section body octets None = None
brings_of section body octets (Some interface) =
    brings section interface.link (time_by interface.tick (ticks_in section.order body)) octets

-- the number of a packet's interface: in four octets, or in two in the obsolete block, whose type is 2
abbrev pub interface_number : OctetOrder → (kind : ℕ) → List ℕ → ℕ
interface_number order kind body = if kind == 2 then half_in order body else number_in order body

-- a packet, in an enhanced or an obsolete block (section 4.3 and appendix A): four octets for the interface, or for it
-- and a number of drops; the time in eight; how many octets are in the block and how many there were, in four each; the
-- octets, and options
unfoldable pub packet_meaning : Section → (kind : ℕ) → List ℕ → Option Meaning
packet_meaning section kind body =
    if nat_le 20 (length body) && nat_le (number_in section.order (drop 12 body)) (length body - 20)
    then brings_of section body (take (number_in section.order (drop 12 body)) (drop 20 body))
    (slice_get section.interfaces (interface_number section.order kind body))
    else None

-- how many octets are kept of a packet of this many, by an interface that keeps this many at most, or, if that is 0,
-- all
abbrev pub kept_of : (length snap_length : ℕ) → ℕ
kept_of length snap_length = if snap_length == 0 then length else min length snap_length

-- a simple packet (section 4.4), of interface 0: how many octets there were, in four octets, and those that were kept,
-- all of which are in the body; it has no time
abbrev pub simple_with : Section → (link : ℕ) (body : List ℕ) → (kept : ℕ) → Option Meaning
simple_with section link body kept =
    if nat_le kept (length body - 4) then brings section link None (take kept (drop 4 body)) else None

abbrev pub simple_of : Section → List ℕ → Option Interface → Option Meaning
simple_of section body None = None
simple_of section body (Some interface) =
    simple_with section interface.link body (kept_of (number_in section.order body) interface.snap_length)

unfoldable pub simple_meaning : Section → List ℕ → Option Meaning
simple_meaning section body =
    if nat_le 4 (length body) then simple_of section body (slice_get section.interfaces 0) else None

-- what a block of this type and body brings; blocks of other types are passed over
abbrev pub meaning_by_type : Section → OctetOrder → (kind : ℕ) → List ℕ → Option Meaning
meaning_by_type section order kind body =
    if kind == 0x0A0D0D0A then section_meaning section order body
    else if kind == 1 then interface_meaning section body
    else if kind == 3 then simple_meaning section body
    else if kind == 2 || kind == 6 then packet_meaning section kind body
    else Some (record { section = section; packet = None })

-- what a block brings; none if its numbers have no known order, or it says another length at its end
abbrev pub meaning_in : Section → List ℕ → Option OctetOrder → Option Meaning
meaning_in section octets None = None
meaning_in section octets (Some order) =
    if number_in order (drop (length octets - 4) octets) == length octets
    then meaning_by_type section order (number_in order octets) (slice_range octets 8 (length octets - 4)) else None

unfoldable pub block_meaning : Section → List ℕ → Option Meaning
block_meaning section octets = meaning_in section octets (order_in section.order octets)
