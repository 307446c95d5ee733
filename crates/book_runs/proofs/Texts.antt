-- The text of an accepted message is that of the order of which its write comes.
use Rattle.std.proofs.Common.{◌≡◌, ℕ, Bool, true, false, cond, Option, Some, None, Result, Ok, Err, List}
use Rattle.std.proofs.Common.{encode_utf8_all}
use Rattle.std.proofs.Common.{length, ap, subst, sym, ◌∙◌}
use Rattle.std.specs.List.{flat_map}
use Rattle.std.specs.Str.{IsUtf8}
use Rattle.std.proofs.lemmas.Str.{encodes-chars}
use Rattle.cbs_page.specs.Coding.{alphabet_of}
use Rattle.cbs_page.specs.Text.{text_in, text_of_page}
use Rattle.cbs_page.specs.declared.content.Content.{Content}
use Rattle.cbs_page.specs.declared.Dcs.{Dcs}
use Rattle.cbsp_wire.specs.declared.message.Cell.{Cell}
use Rattle.cbsp_wire.specs.declared.message.Message.{Message}
use Rattle.cbsp_wire.specs.declared.message.Message.TheVariants as messages
use Rattle.alert_book.specs.declared.book.order.Order.{Order}
use Rattle.alert_book.specs.declared.book.order.Sending.{Sending}
use Rattle.alert_book.specs.Book.{sending_of}
use Rattle.alert_book.specs.Texts.{HasUtf8Text}
use Rattle.alert_book.specs.Session.{serial_of}
use Rattle.alert_book.specs.TurnLaws.{HasSerial, IsSentFor, version_of}
use Rattle.bsc_table.specs.declared.command.Category.{Category}
use Rattle.bsc_table.specs.declared.command.Command.{Command}
use Rattle.bsc_table.specs.declared.command.Command.TheVariants as commands
use Rattle.bsc_table.specs.Orders.{category_of, if_basic_channel, if_category_known, is_basic, order_of}
use Rattle.bsc_table.specs.Record.{Accepted}
use Rattle.bsc_table.specs.Written.{IsWriteBy}
use Rattle.cbch_blocks.specs.RecordBlocks.{pages_of_command}
use Rattle.book_runs.proofs.Laws.{Laws}

-- what a message for the basic channel asks for
pub basic : (channel : Option ℕ) (asked cells : List Cell) (asks command : Command)
    → if_basic_channel channel asked asks ≡ Ok (cells, command) → asks ≡ command
basic channel asked cells asks command is = by_channel (is_basic channel) is
  where
    by_channel : (test : Bool)
        → (let made : Result (List Cell × Command) ℕ = cond test (Ok (asked, asks)) (Err 12) in made)
        ≡ Ok (cells, command) → asks ≡ command
    by_channel true is =
        let same : (let pair : List Cell × Command = (asked, asks) in pair) ≡ (cells, command) = cc in
        ap (λ (pair : List Cell × Command). pair.1) same
    by_channel false is = cc

-- a write asks for a write of its fields
pub written : (category : Option Category) (order : Category → Result (List Cell × Command) ℕ) (cells : List Cell)
    (command : Command) → if_category_known category order ≡ Ok (cells, command)
    → (known : Category) × (order known ≡ Ok (cells, command))
written None order cells command is = absurd (cc)
written (Some known) order cells command is = (known, is)

-- what is known of a write's message, its command and its pages: they are those of an order's text
pub record IsSentAs (a : Accepted) (command : Command) (order : Order) : Type 0 where
  pub sending : Sending
  pub sends : sending_of order.action ≡ Some sending
  pub id : a.id ≡ order.alert.id
  pub serial : a.serial ≡ serial_of order.alert (version_of order.action)
  pub text : encode_utf8_all (flat_map text_of_page (pages_of_command command)) ≡ sending.text

-- a write that a cell accepted was sent as its order says: identifier, serial number and text
pub sent_as : (laws : Laws) (a : Accepted) (start : Option ℕ) (order : Order) (message : Message) (cells : List Cell)
    (command : Command) → HasUtf8Text order → IsSentFor order message → HasSerial order message
    → order_of message ≡ Ok (cells, command)
    → IsWriteBy a command start → IsSentAs a command order
sent_as laws a start order
    (messages.Write id new old asked channel category period broadcasts dcs contents) cells command utf8 sent serial is
    by =
    let found = written (category_of category) (λ known. if_basic_channel channel asked
    (commands.Write id new old known dcs period broadcasts contents)) cells command is in
    let asks : Command = commands.Write id new old found.0 dcs period broadcasts contents in
    let same : asks ≡ command = basic channel asked cells asks command found.1 in
    let first : IsWriteBy a asks start = subst (λ (c : Command). IsWriteBy a c start) (sym same) by in
    let text : IsUtf8 sent.0.text = utf8 sent.0 sent.2 in
    subst (λ (c : Command). IsSentAs a c order) same
    record {
      sending = sent.0;
      sends = sent.2;
      id = first.0 ∙ sent.4;
      serial = first.1 ∙ serial;
      text =
          ap encode_utf8_all
          (laws.texts_are_those_of_contents id new dcs.0 (length contents) 1 contents
          ∙ ap (λ (d : Dcs). flat_map (λ (c : Content). text_in (alphabet_of d.0) c.octets) contents) sent.9
          ∙ ap (λ (cs : List Content). flat_map (λ (c : Content). text_in (alphabet_of sent.1.dcs.0) c.octets) cs)
          sent.10
          ∙ laws.texts_come_back sent.0.language sent.0.text sent.1 text sent.3)
          ∙ encodes-chars sent.0.text text;
    }
sent_as laws a start order (messages.Kill id old asked channel) cells command utf8 sent serial is by =
    let same : commands.Kill id old ≡ command = basic channel asked cells (commands.Kill id old) command is in
    absurd (subst (λ (c : Command). IsWriteBy a c start) (sym same) by)
sent_as laws a start order (messages.WriteDone id new old completed asked channel) cells command utf8 sent serial is by
    =
    absurd sent
sent_as laws a start order (messages.WriteFailed id new old refused completed asked channel) cells command utf8 sent
    serial is by = absurd sent
sent_as laws a start order (messages.KillDone id old completed asked channel) cells command utf8 sent serial is by =
    absurd sent
sent_as laws a start order (messages.KillFailed id old refused completed asked channel) cells command utf8 sent serial
    is by =
    absurd sent
