-- What one cell was asked over a link, by a capture file that has it and may have the cell's air. Own.
use Rattle.std.specs.Prelude.{◌≡◌, ℕ, ◌+◌, ◌-◌, ◌*◌, ◌&&◌, nat_lt, Bool, List, [], ◌∷◌, map, find, Option, Some, None}
use Rattle.std.specs.Prelude.{is_none, option_map, unwrap_or}
use Rattle.cbsp_wire.specs.declared.message.Cell.{Cell}
use Rattle.cell_orders.specs.Exchange.{concerns}
use Rattle.cell_orders.specs.Rows.{emergencies_to, rows_of}
use Rattle.cell_orders.specs.declared.heard.Heard.{Heard}
use Rattle.gsmtap.specs.Taken.{ComesTo}
use Rattle.link_orders.specs.Calls.{calls_of, unread_of}
use Rattle.link_orders.specs.Clock.{IsMedian, epoch, ticks_if, slot_at, slot_ticks, slots_before}
use Rattle.link_orders.specs.Overhearing.{Overhearing, for_overhearing}
use Rattle.link_orders.specs.declared.calls.Call.{Call}
use Rattle.link_orders.specs.declared.orders.LinkOrders.{LinkOrders}
use Rattle.link_orders.specs.declared.orders.OrdersFault.{OrdersFault}
use Rattle.link_orders.specs.declared.orders.OrdersFault.TheVariants as faults
use Rattle.link_orders.specs.declared.orders.OrdersWanted.{OrdersWanted}
use Rattle.link_streams.specs.declared.message.LinkPacket.{LinkPacket}

abbrev pub calls_for : OrdersWanted → List LinkPacket → List Call
calls_for wanted messages = calls_of wanted.controller messages

-- a message that has no time
abbrev pub is_untimed : Call → Bool
is_untimed call = is_none call.time

-- a message that concerns the cell, and when the first one came
abbrev pub asks_cell : Cell → Call → Bool
asks_cell cell call = concerns cell call.message

abbrev pub asked_mark : Cell → List Call → Option ℕ
asked_mark cell calls = option_map (λ (call : Call). ticks_if call.time) (find (asks_cell cell) calls)

abbrev pub first_asked : Cell → List Call → ℕ
first_asked cell calls = unwrap_or (asked_mark cell calls) epoch

-- when the slot of the first block begins: the median of what the blocks say; and without the air the first message
-- that concerns the cell stands in for it
abbrev pub IsReference : Cell → List Call → (begins : List ℕ) → (mark : ℕ) → Type 0
IsReference cell calls [] mark = mark ≡ first_asked cell calls
IsReference cell calls (begin ∷ others) mark = IsMedian (begin ∷ others) mark

-- when the tape begins
abbrev pub begin_of : OrdersWanted → (reference : ℕ) → ℕ
begin_of wanted reference = reference - slot_ticks * wanted.first_slot

-- a message that concerns the cell, and comes before the tape begins
abbrev pub is_early : Cell → (begin : ℕ) → Call → Bool
is_early cell begin call = asks_cell cell call && nat_lt (ticks_if call.time) begin

-- as a fault
abbrev pub early_fault : (first_slot begin : ℕ) → Call → OrdersFault
early_fault first_slot begin call =
    faults.Early call.packet (first_slot + slots_before begin (ticks_if call.time))

-- a message with its slot
abbrev pub call_heard : (begin : ℕ) → Call → Heard
call_heard begin call = record {
  slot = slot_at begin (ticks_if call.time);
  time = unwrap_or call.time 0;
  packet = call.packet;
  connection = call.connection;
  message = call.message;
}

abbrev pub heard_from : (begin : ℕ) → List Call → List Heard
heard_from begin calls = map (call_heard begin) calls

-- these messages of a link, and what blocks of the air say of when their tape begins, come to these orders
pub record AreOrders (wanted : OrdersWanted) (messages : List LinkPacket) (begins : List ℕ) (orders : LinkOrders)
    : Type 0
  where
    pub timed : find is_untimed (calls_for wanted messages) ≡ None
    pub reference : ℕ
    pub is_reference : IsReference wanted.cell (calls_for wanted messages) begins reference
    pub in_time : find (is_early wanted.cell (begin_of wanted reference)) (calls_for wanted messages) ≡ None
    pub rows : orders.rows.items
        ≡ rows_of wanted.cell (heard_from (begin_of wanted reference) (calls_for wanted messages))
    pub emergencies : orders.emergencies
        ≡ emergencies_to wanted.cell (heard_from (begin_of wanted reference) (calls_for wanted messages))
    pub unread : orders.unread ≡ unread_of wanted.controller messages

-- the first message without a time
pub record HasUntimed (wanted : OrdersWanted) (messages : List LinkPacket) (packet : ℕ) : Type 0 where
  pub call : Call
  pub first : find is_untimed (calls_for wanted messages) ≡ Some call
  pub packet_is : packet ≡ call.packet

-- all have one, and this is the first to concern the cell before the tape begins, which the first block would have to
-- be in this slot for
pub record HasEarly (wanted : OrdersWanted) (messages : List LinkPacket) (begins : List ℕ) (packet first_slot : ℕ)
    : Type 0
  where
    pub timed : find is_untimed (calls_for wanted messages) ≡ None
    pub reference : ℕ
    pub is_reference : IsReference wanted.cell (calls_for wanted messages) begins reference
    pub call : Call
    pub first : find (is_early wanted.cell (begin_of wanted reference)) (calls_for wanted messages) ≡ Some call
    pub packet_is : packet ≡ call.packet
    pub slot_is : first_slot ≡ wanted.first_slot + slots_before (begin_of wanted reference) (ticks_if call.time)

-- why there are none, but for out of memory
abbrev pub AreNoOrders : OrdersWanted → List LinkPacket → (begins : List ℕ) → OrdersFault → Type 0
AreNoOrders wanted messages begins (faults.NoTime packet) = HasUntimed wanted messages packet
AreNoOrders wanted messages begins (faults.Early packet first_slot) =
    HasEarly wanted messages begins packet first_slot
AreNoOrders wanted messages begins faults.Refused = Unit {0}

-- the input is a capture file, and comes to these orders, or to none for this
pub record AreOrdersIn (wanted : OrdersWanted) (input : List ℕ) (orders : LinkOrders) : Type 0 where
  pub known : Overhearing
  pub file : ComesTo (for_overhearing wanted.from) input known
  pub are : AreOrders wanted known.followed.messages known.clocked.begins orders

pub record AreNoOrdersIn (wanted : OrdersWanted) (input : List ℕ) (fault : OrdersFault) : Type 0 where
  pub known : Overhearing
  pub file : ComesTo (for_overhearing wanted.from) input known
  pub are : AreNoOrders wanted known.followed.messages known.clocked.begins fault
