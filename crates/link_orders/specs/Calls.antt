-- Which messages of a link count for a cell's orders: those to and from the wanted controller that can be read. Own.
use Rattle.std.specs.Prelude.{ℕ, ◌-◌, ◌==◌, ◌||◌, Bool, true, false, if◌then◌else◌, List, length, Option, Some, None}
use Rattle.std.specs.Prelude.{Result, Ok, Err, count_by, find, option_map, option_to_list, unwrap_or}
use Rattle.std.specs.List.{flat_map}
use Rattle.cbsp_link.specs.Meaning.{link_message}
use Rattle.cbsp_link.specs.declared.fault.LinkFault.{LinkFault}
use Rattle.cbsp_link.specs.declared.message.LinkMessage.{LinkMessage}
use Rattle.link_orders.specs.declared.calls.Call.{Call}
use Rattle.link_streams.specs.Sides.{controller_of, sender_of}
use Rattle.link_streams.specs.Streams.{is_way}
use Rattle.link_streams.specs.declared.message.LinkPacket.{LinkPacket}
use Rattle.link_streams.specs.declared.message.Way.{Way}

-- the way back
abbrev pub turned : Way → Way
turned way = record {
  source = way.destination;
  source_port = way.destination_port;
  destination = way.source;
  destination_port = way.source_port;
}

-- two ways are of one connection
abbrev pub is_connection : Way → Way → Bool
is_connection a b = is_way a b || is_way a (turned b)

-- the number of a message's connection: that of the packet by which the first message of it became whole
abbrev pub first_packet : List LinkPacket → Way → Option ℕ
first_packet messages way =
    option_map (λ (first : LinkPacket). first.number)
    (find (λ (other : LinkPacket). is_connection way other.way) messages)

abbrev pub connection_of : List LinkPacket → LinkPacket → ℕ
connection_of messages one = unwrap_or (first_packet messages one.way) one.number

-- the controller's address is the wanted one, where one is wanted
abbrev pub is_address : (address : ℕ) → Option ℕ → Bool
is_address address None = false
is_address address (Some one) = one == address

abbrev pub has_controller : Option ℕ → LinkPacket → Bool
has_controller None one = true
has_controller (Some address) one = is_address address (controller_of one (sender_of one.octets))

-- a message, if it can be read
abbrev pub call_with : List LinkPacket → LinkPacket → Result (LinkMessage × List ℕ) LinkFault → Option Call
call_with messages one (Err fault) = None
call_with messages one (Ok (message, rest)) = Some (record {
  packet = one.number;
  time = one.time;
  connection = connection_of messages one;
  message = message;
})

abbrev pub call_of : List LinkPacket → LinkPacket → Option Call
call_of messages one = call_with messages one (link_message one.octets)

abbrev pub call_if : Option ℕ → List LinkPacket → LinkPacket → Option Call
call_if controller messages one = if has_controller controller one then call_of messages one else None

-- the messages that count, in order
abbrev pub calls_at : Option ℕ → List LinkPacket → LinkPacket → List Call
calls_at controller messages one = option_to_list (call_if controller messages one)

abbrev pub calls_of : Option ℕ → List LinkPacket → List Call
calls_of controller messages = flat_map (calls_at controller messages) messages

-- how many of the wanted controller's can't be read: all but those
abbrev pub unread_of : Option ℕ → List LinkPacket → ℕ
unread_of controller messages = count_by (has_controller controller) messages - length (calls_of controller messages)
