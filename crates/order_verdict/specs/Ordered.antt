-- What a cell was ordered to broadcast, by the rows of an orders file: the messages that it took, and how each of them
-- ended. Own.
use Rattle.std.specs.Prelude.{ℕ, ◌+◌, ◌==◌, ◌&&◌, ◌||◌, nat_le, Bool, true, false, if◌then◌else◌, is_none}
use Rattle.std.specs.Prelude.{Option, Some, None, List, [], ◌∷◌, ◌++◌, find, length, option_and_then, option_map}
use Rattle.std.specs.List.{list_any}
use Rattle.cbs_page.specs.declared.content.Content.{Content}
use Rattle.cell_orders.specs.declared.row.CellAnswer.{CellAnswer}
use Rattle.cell_orders.specs.declared.row.CellOrder.{CellOrder}
use Rattle.cell_orders.specs.declared.row.CellOrder.TheVariants as rows
use Rattle.cell_orders.specs.declared.row.OrderRow.{OrderRow}
use Rattle.verification.specs.Asked.{AskedMessage}

-- whether a cell took an order
abbrev pub is_answered_ok : Option CellAnswer → Bool
is_answered_ok None = false
is_answered_ok (Some answer) = is_none answer.cause

-- whether a row has the cell broadcast the message of an identifier and a serial number, and it took that
abbrev pub begins : (id serial : ℕ) → CellOrder → Bool
begins id serial (rows.Write of_id new_serial old_serial category period broadcasts dcs contents answer) =
    is_answered_ok answer && ((id == of_id) && (serial == new_serial))
begins id serial (rows.Kill of_id old_serial answer) = false
begins id serial rows.Clear = false

abbrev pub begins_row : (id serial : ℕ) → OrderRow → Bool
begins_row id serial row = begins id serial row.order

-- whether a row ends it: it is stopped or replaced, and the cell took that, or the cell lost its messages
abbrev pub is_old : (serial : ℕ) → Option ℕ → Bool
is_old serial None = false
is_old serial (Some old_serial) = serial == old_serial

abbrev pub ends : (id serial : ℕ) → CellOrder → Bool
ends id serial (rows.Write of_id new_serial old_serial category period broadcasts dcs contents answer) =
    is_answered_ok answer && ((id == of_id) && is_old serial old_serial)
ends id serial (rows.Kill of_id old_serial answer) = is_answered_ok answer && ((id == of_id) && (serial == old_serial))
ends id serial rows.Clear = true

abbrev pub ends_row : (id serial : ℕ) → OrderRow → Bool
ends_row id serial row = ends id serial row.order

-- the number of broadcasts that the answer to such a row says, if it says one
abbrev pub done_in : Option CellAnswer → Option ℕ
done_in answer = option_and_then (λ (a : CellAnswer). a.done) answer

abbrev pub told_by : CellOrder → Option ℕ
told_by (rows.Write id new_serial old_serial category period broadcasts dcs contents answer) = done_in answer
told_by (rows.Kill id old_serial answer) = done_in answer
told_by rows.Clear = None

-- the slot of a row. No tape has a slot so late as the last of these
abbrev pub latest_slot : ℕ
latest_slot = 2147483647

abbrev pub row_slot : ℕ → ℕ
row_slot at = if nat_le at latest_slot then at else latest_slot

-- the slot of a stop, if a tape can have it
abbrev pub tape_stop : (slot : ℕ) → Option ℕ
tape_stop slot = if nat_le slot 65535 then Some slot else None

-- a message that the cell took: the number of its row, from 1; what it was asked from the slot of its answer on, and
-- what it was asked with all slots later by a delay; the slot from which pages of its name are its own, and the one
-- from which they are those of a later message of that name, if there is one; and the slot of the answer that ended it,
-- and the number of broadcasts that this says
pub record OrderedMessage : Type 0 where
  pub row : ℕ
  pub early : AskedMessage
  pub late : AskedMessage
  pub since : ℕ
  pub until : Option ℕ
  pub ended : Option ℕ
  pub told : Option ℕ

-- with a period of 0 nothing says when a broadcast is due, nor when the last one is over
abbrev pub broadcasts_due : (period broadcasts : ℕ) → ℕ
broadcasts_due period broadcasts = if period == 0 then 0 else broadcasts

abbrev pub asked_from_slot : (id serial dcs : ℕ) → List Content → (start category period broadcasts : ℕ)
    → (stop : Option ℕ) → AskedMessage
asked_from_slot id serial dcs contents start category period broadcasts stop = record {
  id = id;
  serial = serial;
  dcs = dcs;
  contents = contents;
  start = start;
  period = period;
  broadcasts = broadcasts_due period broadcasts;
  stop = stop;
  background = (category == 1) || (period == 0);
}

-- the slot of the first row of some that passes a test
abbrev pub slot_of_row : OrderRow → ℕ
slot_of_row row = row_slot row.at

abbrev pub slot_among : (OrderRow → Bool) → List OrderRow → Option ℕ
slot_among test among = option_map slot_of_row (find test among)

abbrev pub since_slot : (id serial : ℕ) → (before : List OrderRow) → (at : ℕ) → ℕ
since_slot id serial before at = if list_any (begins_row id serial) before then at else 0

-- the message of a row, by the rows before it and after it: that of a write which the cell took
abbrev pub ordered_by : (delay at : ℕ) → CellOrder → (before later : List OrderRow) → List OrderedMessage
ordered_by delay at (rows.Write id new_serial old_serial category period broadcasts dcs contents answer) before later =
    if is_answered_ok answer then
    record {
      row = length before + 1;
      early = asked_from_slot id new_serial dcs.0 contents at category period broadcasts None;
      late = asked_from_slot id new_serial dcs.0 contents (at + delay) category period broadcasts
          (option_and_then (λ (slot : ℕ). tape_stop (slot + delay)) (slot_among (ends_row id new_serial) later));
      since = since_slot id new_serial before at;
      until = slot_among (begins_row id new_serial) later;
      ended = slot_among (ends_row id new_serial) later;
      told = option_and_then (λ (row : OrderRow). told_by row.order) (find (ends_row id new_serial) later);
    } ∷ []
    else []
ordered_by delay at (rows.Kill id old_serial answer) before later = []
ordered_by delay at rows.Clear before later = []

abbrev pub ordered_of_row : (delay : ℕ) → (before : List OrderRow) → OrderRow → (later : List OrderRow)
    → List OrderedMessage
ordered_of_row delay before row later = ordered_by delay (row_slot row.at) row.order before later

-- those of all rows after some
abbrev pub ordered_after : (delay : ℕ) → (before rows : List OrderRow) → List OrderedMessage
ordered_after delay before [] = []
ordered_after delay before (row ∷ later) =
    ordered_of_row delay before row later ++ ordered_after delay (before ++ row ∷ []) later

abbrev pub ordered_in : (delay : ℕ) → List OrderRow → List OrderedMessage
ordered_in delay rows = ordered_after delay [] rows
