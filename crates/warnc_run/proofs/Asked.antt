-- Each request of a book's session is an order: the desk can't refuse what the message says.
use Rattle.std.proofs.Common.{◌≡◌, ◌≢◌, ℕ, Some, None, Err, List, refl, sym, subst, ◌∙◌}
use Rattle.cbsp_wire.specs.declared.fault.WireFault.{WireFault}
use Rattle.cbsp_wire.specs.declared.fault.WireFault.TheVariants as wire
use Rattle.cbsp_wire.specs.declared.message.Message.{Message}
use Rattle.cbsp_wire.specs.Laws.{MeantIsFaultless, OneMeaning}
use Rattle.cbsp_wire.specs.Meaning.{IsMessage}
use Rattle.cbsp_wire.specs.Refusals.{reported_fault}
use Rattle.alert_book.specs.declared.session.request.Request.{Request}
use Rattle.alert_book.specs.Book.{Contents}
use Rattle.alert_book.specs.Session.{Standing}
use Rattle.alert_book.specs.TurnLaws.{RequestsComeOfOrders}
use Rattle.alert_book.specs.Turns.{begun, GoesTo, Turn}
use Rattle.bsc_table.specs.Orders.{order_of}
use Rattle.order_desk.specs.declared.fault.DeskFault.{DeskFault}
use Rattle.order_desk.specs.declared.fault.DeskFault.TheVariants as faults
use Rattle.order_desk.specs.declared.note.Note.{Note}
use Rattle.order_desk.specs.Desk.{IsRefusedOrder, DeskState}
use Rattle.book_runs.specs.Fit.{IsFit}
use Rattle.book_runs.proofs.Requests.{request_is_order}
use Rattle.warnc_run.specs.Faults.{IsDeskFault}

-- so the desk refuses a request of a book's session only because it is out of memory, or finds a book of another cell
pub refused_request : OneMeaning → MeantIsFaultless → RequestsComeOfOrders → (book : Contents) (part parts : ℕ)
    (turns : List Turn) (reached : Standing) (request : Request) (desk : DeskState)
    (at : ℕ) (octets : List ℕ) (fault : DeskFault) (notes : List Note)
    → IsFit book
    → GoesTo (begun book part parts) turns reached
    → reached.sent ≡ Some request
    → IsMessage octets request.message
    → IsRefusedOrder desk at octets fault notes
    → IsDeskFault fault
refused_request one faultless come book part parts turns reached request desk at octets
    (faults.Memory done) notes fit gone sent meant refused = tt
refused_request one faultless come book part parts turns reached request desk at octets
    faults.Unknown notes fit gone sent meant refused = tt
refused_request one faultless come book part parts turns reached request desk at octets
    faults.Full notes fit gone sent meant refused = absurd refused
refused_request one faultless come book part parts turns reached request desk at octets
    (faults.Cause cause) notes fit gone sent meant refused =
    absurd (request_is_order come book part parts turns reached request cause fit gone sent
    (subst (λ (m : Message). order_of m ≡ Err cause)
    (one octets refused.0.0 request.message refused.0.1 meant) refused.0.2))
refused_request one faultless come book part parts turns reached request desk at octets
    (faults.Wire fault) notes fit gone sent meant refused =
    absurd (no_fault fault refused.0.0 (sym (faultless octets request.message meant) ∙ refused.0.1))
  where
    no_fault : (f : WireFault) → f ≢ wire.Refused → None ≡ reported_fault f → ⊥
    no_fault wire.Refused other is = other refl
    no_fault wire.Truncated other is = cc
    no_fault wire.TrailingBytes other is = cc
    no_fault (wire.Cause cause) other is = cc
