-- That each request of a book's session is an order.
use Rattle.std.proofs.Common.{◌≡◌, ℕ, ◌≤◌, nat_le, true, Option, Some, None, Err, List, suc, zero, [], ◌∷◌, ◌++◌}
use Rattle.std.proofs.Common.{sym, subst, ap, ◌∙◌, rules}
use Rattle.std.specs.List.{Any}
use native.Mathlib.Omega.{arith}
use Rattle.cbsp_wire.specs.declared.message.Cell.{Cell}
use Rattle.cbsp_wire.specs.declared.message.Message.{Message}
use Rattle.cbsp_wire.specs.declared.message.Message.TheVariants as messages
use Rattle.cbsp_wire.specs.Range.{contents_are_valid, is_writable, numbers_are_valid, passes}
use Rattle.cbsp_wire.specs.Range.{values_are_valid}
use Rattle.cbsp_wire.specs.Value.{fields_of}
use Rattle.alert_book.specs.declared.book.order.Order.{Order}
use Rattle.alert_book.specs.declared.session.request.Request.{Request}
use Rattle.alert_book.specs.Book.{Contents}
use Rattle.alert_book.specs.Session.{after_reply, Standing}
use Rattle.alert_book.specs.TurnLaws.{ComesOf, IsSentFor, RequestsComeOfOrders}
use Rattle.alert_book.specs.Turns.{begun, GoesTo, Turn}
use Rattle.bsc_table.specs.declared.command.Category.{Category}
use Rattle.bsc_table.specs.declared.command.Command.{Command}
use Rattle.bsc_table.specs.declared.command.Command.TheVariants as commands
use Rattle.bsc_table.specs.Orders.{category_of, if_basic_channel, if_category_known, order_of}
use Rattle.cbsp_wire.proofs.Tests.{and_parts}
use Rattle.order_desk.proofs.Walked.{all_last}
use Rattle.book_runs.specs.Fit.{IsFit}

-- one more turn
pub gone_on : (turns : List Turn) (from to : Standing) (request : Request) (reply : Message)
    → GoesTo from turns to
    → to.sent ≡ Some request
    → GoesTo from (turns ++ record { request = request; reply = reply } ∷ []) (after_reply (Some reply) to)
gone_on [] from to request reply gone sent =
    (ap (λ (s : Standing). s.sent) (sym gone) ∙ sent, ap (after_reply (Some reply)) gone)
gone_on (turn ∷ later) from to request reply gone sent =
    (gone.0, gone_on later (after_reply (Some turn.reply) from) to request reply gone.1 sent)

-- what the message of a request names: a category that there is, and no channel
category_known : (n : ℕ) → nat_le n 2 ≡ true → (cells : List Cell) (asks : Category → Command) (cause : ℕ)
    → if_category_known (category_of (Some n)) (λ known. if_basic_channel None cells (asks known)) ≡ Err cause
    → ⊥
category_known zero small cells asks cause is = cc
category_known (suc zero) small cells asks cause is = cc
category_known (suc (suc zero)) small cells asks cause is = cc
category_known (suc (suc (suc n))) small cells asks cause is =
    let h : suc (suc (suc n)) ≤ 2 = search (rules, small) in omega (arith, h)

-- a message that comes of an order of a book, and can be written, is an order
is_order : (order : Order) (m : Message) (cause : ℕ) → IsSentFor order m → is_writable m ≡ true → order_of m ≡ Err cause
    → ⊥
is_order order (messages.Write id new old cells channel category period broadcasts dcs contents) cause sent writable is
    =
    let m = messages.Write id new old cells channel category period broadcasts dcs contents in
    let f = fields_of m in
    let valid = (and_parts (values_are_valid f) _ (and_parts _ _ (and_parts _ _ writable).0).0).0 in
    let numbers = (and_parts (contents_are_valid f.pages f.contents) (numbers_are_valid f) (and_parts _ _ valid).0).1 in
    let small = (and_parts _ (passes (λ n. nat_le n 2) category) (and_parts _ _ numbers).0).1 in
    let n = sent.0.category in
    category_known n (subst (λ (c : Option ℕ). passes (λ k. nat_le k 2) c ≡ true) sent.6 small) cells
    (λ known. commands.Write id new old known dcs period broadcasts contents) cause
    (subst (λ (c : Option ℕ). order_of (messages.Write id new old cells None c period broadcasts dcs contents)
    ≡ Err cause) sent.6 (subst (λ (c : Option ℕ).
    order_of (messages.Write id new old cells c category period broadcasts dcs contents) ≡ Err cause) sent.5 is))
is_order order (messages.Kill id old cells channel) cause sent writable is =
    let basic = subst (λ (c : Option ℕ). order_of (messages.Kill id old cells c) ≡ Err cause) sent.1 is in
    search (rules, basic)
is_order order (messages.WriteDone id new old completed cells channel) cause sent writable is = absurd sent
is_order order (messages.WriteFailed id new old failures completed cells channel) cause sent writable is = absurd sent
is_order order (messages.KillDone id old completed cells channel) cause sent writable is = absurd sent
is_order order (messages.KillFailed id old failures completed cells channel) cause sent writable is = absurd sent

-- a request of a book's session is an order
pub request_is_order : RequestsComeOfOrders → (book : Contents) (part parts : ℕ) (turns : List Turn)
    (reached : Standing) (request : Request) (cause : ℕ)
    → IsFit book
    → GoesTo (begun book part parts) turns reached
    → reached.sent ≡ Some request
    → order_of request.message ≡ Err cause
    → ⊥
request_is_order come book part parts turns reached request cause fit gone sent is =
    let turn : Turn = record { request = request; reply = request.message } in
    let all = turns ++ turn ∷ [] in
    let to = after_reply (Some request.message) reached in
    let went = gone_on turns (begun book part parts) reached request request.message gone sent in
    let comes = (all_last (λ (t : Turn). Any (ComesOf t.request) book.orders) turns turn
    (come book part parts all to fit.paged went)).1 in
    let can = (all_last (λ (t : Turn). is_writable t.request.message ≡ true) turns turn
    (fit.writable part parts all to went)).1 in
    is_order comes.1 request.message cause comes.4.sent can is
