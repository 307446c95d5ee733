-- Capture files as others write them: their numbers, link types and packets, and how a file begins. In the classic
-- format of libpcap that is a header of 24 octets.
use Rattle.std.specs.Prelude.{ℕ, ◌+◌, ◌*◌, ◌==◌, ◌&&◌, ◌||◌, nat_le, nat_lt, Bool, List, length, drop, Option, Some}
use Rattle.std.specs.Prelude.{None, if◌then◌else◌}
use Rattle.byteorder.specs.Endian.{big_number, little_number}
use Rattle.gsmtap.specs.declared.file.OctetOrder.{OctetOrder}
use Rattle.gsmtap.specs.declared.file.OctetOrder.TheVariants.{HighFirst, LowFirst}
use Rattle.gsmtap.specs.declared.file.Link.{Link}
use Rattle.gsmtap.specs.declared.file.Link.TheVariants.{Cooked, CookedTwo, Ethernet, Internet, Loopback}
use Rattle.gsmtap.specs.declared.file.Unit.{Unit}
use Rattle.gsmtap.specs.declared.file.Unit.TheVariants.{Microsecond, Nanosecond}

-- the number in the first four octets
abbrev pub number_in : OctetOrder → List ℕ → ℕ
number_in LowFirst octets = little_number 4 octets
number_in HighFirst octets = big_number 4 octets

-- the number in the first two octets
abbrev pub half_in : OctetOrder → List ℕ → ℕ
half_in LowFirst octets = little_number 2 octets
half_in HighFirst octets = big_number 2 octets

-- the magic numbers of files whose times are in microseconds and in nanoseconds
abbrev pub is_magic : ℕ → Bool
is_magic number = number == 0xA1B2C3D4 || number == 0xA1B23C4D

-- a file of pcapng begins with the type of a section header, which is the same in either order
abbrev pub is_pcapng : List ℕ → Bool
is_pcapng octets = nat_le 4 (length octets) && big_number 4 octets == 0x0A0D0D0A

-- the order of the octets of its numbers, by the magic number that a file begins with
abbrev pub octet_order_of : List ℕ → Option OctetOrder
octet_order_of header =
    if is_magic (little_number 4 header) then Some LowFirst
    else (if is_magic (big_number 4 header) then Some HighFirst else None)

-- what its packets begin with (the link types of libpcap): 1 is Ethernet, 101 and 228 are IPv4 itself, 113 and 276 are
-- Linux cooked headers, and 0 and 108 are those of BSD's loopback device
abbrev pub link_numbered : ℕ → Option Link
link_numbered number =
    if number == 1 then Some Ethernet
    else if number == 101 || number == 228 then Some Internet
    else if number == 113 then Some Cooked
    else if number == 276 then Some CookedTwo
    else if number == 0 || number == 108 then Some Loopback
    else None

-- the link type that a header says
abbrev pub link_number : OctetOrder → List ℕ → ℕ
link_number order header = number_in order (drop 20 header)

abbrev pub link_of : OctetOrder → List ℕ → Option Link
link_of order header = link_numbered (link_number order header)

-- the unit of a file's fractions of a second, by its magic number
abbrev pub unit_of : OctetOrder → List ℕ → Unit
unit_of order header = if number_in order header == 0xA1B23C4D then Nanosecond else Microsecond

abbrev pub nanoseconds_in : Unit → ℕ
nanoseconds_in Microsecond = 1000
nanoseconds_in Nanosecond = 1

-- a time is told in nanoseconds from 1970-01-01T00:00:00Z on, if 64 bits have these
abbrev pub told : (nanoseconds : ℕ) → Option ℕ
told nanoseconds = if nat_lt nanoseconds 18446744073709551616 then Some nanoseconds else None

-- when a packet came, by its header: seconds, and a fraction in units, in four octets each
abbrev pub packet_time : OctetOrder → Unit → List ℕ → ℕ
packet_time order unit header =
    number_in order header * 1000000000 + number_in order (drop 4 header) * nanoseconds_in unit

-- a packet of a capture: the number of its link type, when it came, if that is known, and its octets
pub record Packet : Type 0 where
  pub link : ℕ
  pub time : Option ℕ
  pub octets : List ℕ
