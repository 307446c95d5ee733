-- Which of the two sides sends a message (3GPP TS 48.049, 8.1.3 and 8.2.2).
use Rattle.std.specs.Prelude.{ℕ, ◌==◌, ◌||◌, Bool, List, [], ◌∷◌, Option, Some, None, if◌then◌else◌}
use Rattle.link_streams.specs.declared.message.LinkPacket.{LinkPacket}
use Rattle.link_streams.specs.declared.message.Side.{Side}
use Rattle.link_streams.specs.declared.message.Side.TheVariants.{Centre, Controller}

-- the centre asks: WRITE-REPLACE, KILL, LOAD QUERY, MESSAGE STATUS QUERY, SET-DRX, RESET, KEEP-ALIVE
abbrev pub is_of_centre : (number : ℕ) → Bool
is_of_centre number =
    number == 0x01 || number == 0x04 || number == 0x07 || number == 0x0A || number == 0x0D || number == 0x10
    || number == 0x16

-- the controller answers, and says RESTART and FAILURE. ERROR INDICATION, 15, comes of either side
abbrev pub is_of_controller : (number : ℕ) → Bool
is_of_controller number =
    number == 0x02 || number == 0x03 || number == 0x05 || number == 0x06 || number == 0x08 || number == 0x09
    || number == 0x0B || number == 0x0C || number == 0x0E || number == 0x0F || number == 0x11 || number == 0x12
    || number == 0x13 || number == 0x14 || number == 0x17

-- by the type alone, if that says it
abbrev pub sender_of_type : (number : ℕ) → Option Side
sender_of_type number =
    if is_of_centre number then Some Centre else (if is_of_controller number then Some Controller else None)

abbrev pub sender_of : List ℕ → Option Side
sender_of [] = None
sender_of (number ∷ rest) = sender_of_type number

-- the address of the controller, and that of the centre
abbrev pub controller_of : LinkPacket → Option Side → Option ℕ
controller_of message None = None
controller_of message (Some Centre) = Some message.way.destination
controller_of message (Some Controller) = Some message.way.source

abbrev pub centre_of : LinkPacket → Option Side → Option ℕ
centre_of message None = None
centre_of message (Some Centre) = Some message.way.source
centre_of message (Some Controller) = Some message.way.destination
