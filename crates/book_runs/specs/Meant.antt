-- What the blocks of a run's record show (own): the messages that the cell accepted, with the texts of the book's rows.
use Rattle.std.specs.Prelude.{◌≡◌, ℕ, ◌<◌, true, None, Some, All, Any, slice_index_or}
use Rattle.scheduler.specs.Air.{airs}
use Rattle.scheduler.specs.Completed.{completed}
use Rattle.scheduler.specs.Message.{IsBeforeStop}
use Rattle.handset.specs.Reception.{ShownMessage, shown_in}
use Rattle.handset.specs.Counting.{whole_in}
use Rattle.handset.specs.Tape.{IsTape}
use Rattle.alert_book.specs.declared.book.order.Order.{Order}
use Rattle.alert_book.specs.declared.book.order.Sending.{Sending}
use Rattle.alert_book.specs.Book.{Contents, sending_of}
use Rattle.alert_book.specs.Session.{serial_of}
use Rattle.alert_book.specs.TurnLaws.{version_of}
use Rattle.bsc_table.specs.Record.{Record, accepted_in}
use Rattle.bsc_table.specs.Reported.{IsAbout, completed_in}
use Rattle.cbch_blocks.specs.RecordBlocks.{blocks_of, tape_of_record}
use Rattle.composition.specs.Composition.{AreTheBroadcast, blocks_before, message_accepted, name_accepted}
use Rattle.composition.specs.Meaning.{IsMeant}

-- a message is that of an order: it has the identifier of the order's alert, the serial number of the version that the
-- order sends, and the text of its row
pub record IsOfOrder (m : ShownMessage) (order : Order) : Type 0 where
  pub sending : Sending
  pub sends : sending_of order.action ≡ Some sending
  pub id : m.id ≡ order.alert.id
  pub serial : m.serial ≡ serial_of order.alert (version_of order.action)
  pub text : m.text ≡ sending.text

-- what a finished record's blocks show to a handset that reads its tape: exactly the messages that the cell accepted
-- and of which a broadcast is whole in the blocks, once each, with the texts of the book, and no other text. Of each
-- message as many broadcasts are whole as its start, its period and its stop say; its completed number is that of the
-- whole broadcasts in the blocks; each number that the cell reported is that of the whole broadcasts in the blocks
-- before it; and no page of a message is aired at or after its stop
pub record IsMeantIn (book : Contents) (r : Record) : Type 0 where
  pub tape : IsTape (tape_of_record r) (record { cell = r.cell; slots = r.slots; shown = shown_in (blocks_of r) })
  pub all : blocks_before r.clock r ≡ blocks_of r
  pub shown : AreTheBroadcast r r.clock (shown_in (blocks_of r))
  pub meant : All (IsMeant r r.clock) (accepted_in r.log)
  pub counted : All (λ a. whole_in (name_accepted a) (blocks_of r) ≡ completed a.message r.air r.clock)
      (accepted_in r.log)
  pub reported : All (λ e. (number : ℕ) → completed_in e.answer ≡ Some number
      → Any (λ a. IsAbout a.id a.serial e.command × (number ≡ whole_in (name_accepted a) (blocks_before e.slot r)))
      (accepted_in r.log)) r.log
  pub stopped : All (λ a. (slot : ℕ) → slot < r.clock → airs a.message.entry (slice_index_or r.air slot None) ≡ true
      → IsBeforeStop slot a.message.stop) (accepted_in r.log)
  pub texts : All (λ a. Any (IsOfOrder (message_accepted r.log a)) book.orders) (accepted_in r.log)
  pub none_else : All (λ m. Any (IsOfOrder m) book.orders) (shown_in (blocks_of r))
