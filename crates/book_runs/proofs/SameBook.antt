-- Books with the same orders and the same pages have the same sessions.
use Rattle.std.proofs.Common.{◌≡◌, ◌%◌, ℕ, Bool, true, false, cond, eqb, Option, Some, None, List, [], ◌∷◌, map, filter}
use Rattle.std.proofs.Common.{refl, ap, sym, subst, ◌∙◌}
use Rattle.std.specs.List.{AllZip}
use Rattle.cbs_page.specs.declared.content.Content.{Content}
use Rattle.cbs_page.specs.declared.Dcs.{Dcs}
use Rattle.cbs_page.specs.declared.paging.Paged.{Paged}
use Rattle.cbsp_wire.specs.declared.message.Cell.{Cell}
use Rattle.cbsp_wire.specs.declared.message.Message.{Message}
use Rattle.cbsp_wire.specs.declared.message.Message.TheVariants as messages
use Rattle.alert_book.specs.declared.book.order.Action.{Action}
use Rattle.alert_book.specs.declared.book.order.Action.TheVariants as action
use Rattle.alert_book.specs.declared.book.order.Order.{Order}
use Rattle.alert_book.specs.declared.book.order.Sending.{Sending}
use Rattle.alert_book.specs.declared.session.request.Request.{Request}
use Rattle.alert_book.specs.declared.session.request.Target.{Target}
use Rattle.alert_book.specs.Book.{Contents}
use Rattle.alert_book.specs.Laws.{HaveSamePages}
use Rattle.alert_book.specs.Session.{Replied, Standing, advanced, after_reply, due_requests, next_requests}
use Rattle.alert_book.specs.Session.{found_first, is_of_part, orders_from, orders_with, outcome_in, replies_with}
use Rattle.alert_book.specs.Session.{request_with}
use Rattle.alert_book.specs.Session.{requests_by, requests_of, serial_if, serial_of, session_of, standing_with}
use Rattle.alert_book.specs.Session.{targets_of, version_in}
use Rattle.alert_book.specs.Turns.{AreTurnsOf, GoesTo, Turn, begun}

-- the message that has cells broadcast these pages, as a version in place of another one if there is one
abbrev write_with : Order → Sending → (version : ℕ) → (replaced : Option ℕ) → List Cell → Dcs → List Content → Message
write_with order sending version replaced cells dcs contents =
    messages.Write order.alert.id (serial_of order.alert version) (serial_if order.alert replaced) cells None
    (Some sending.category) sending.period sending.broadcasts dcs contents

abbrev update_with : Order → Sending → (version : ℕ) → Dcs → List Content → Target → Request
update_with order sending version dcs contents target =
    request_with order (Some version)
    (write_with order sending version (Some target.version) target.cells dcs contents)

abbrev coded : ℕ → Dcs
coded n = record { 0 = n }

coded_same : (a b : Dcs) → a.0 ≡ b.0 → a ≡ b
coded_same a b same = ap (λ (n : ℕ). coded n) same

-- a row with the same pages gives the same requests
same_requests : (live : ℕ → Cell → Option ℕ) (order : Order) (sends : Action) (paged other : Option Paged)
    → HaveSamePages paged other → requests_by live order sends paged ≡ requests_by live order sends other
same_requests live order (action.Write sending) None None same = refl
same_requests live order (action.Write sending) None (Some q) same = absurd same
same_requests live order (action.Write sending) (Some p) None same = absurd same
same_requests live order (action.Write sending) (Some p) (Some q) same =
    let by : Dcs → List Content → List Request = λ dcs contents.
    request_with order (Some 0) (write_with order sending 0 None sending.cells dcs contents) ∷ [] in
    ap (λ (dcs : Dcs). by dcs p.pages.items) (coded_same p.dcs q.dcs same.0) ∙ ap (by q.dcs) same.1
same_requests live order (action.Update version sending) None None same = refl
same_requests live order (action.Update version sending) None (Some q) same = absurd same
same_requests live order (action.Update version sending) (Some p) None same = absurd same
same_requests live order (action.Update version sending) (Some p) (Some q) same =
    let by : Dcs → List Content → List Request = λ dcs contents.
    map (update_with order sending version dcs contents) (targets_of live order.number sending.cells) in
    ap (λ (dcs : Dcs). by dcs p.pages.items) (coded_same p.dcs q.dcs same.0) ∙ ap (by q.dcs) same.1
same_requests live order (action.Stop cells) None None same = refl
same_requests live order (action.Stop cells) None (Some q) same = refl
same_requests live order (action.Stop cells) (Some p) None same = refl
same_requests live order (action.Stop cells) (Some p) (Some q) same = refl

-- an order that is left, with the same pages
abbrev IsSameLeft : Order × Option Paged → Order × Option Paged → Type 0
IsSameLeft a b = (a.0 ≡ b.0) × HaveSamePages a.1 b.1

abbrev AreSameLeft : List (Order × Option Paged) → List (Order × Option Paged) → Type 0
AreSameLeft left also = AllZip IsSameLeft left also

-- requests that are found are the same, and the orders after them have the same pages
abbrev IsSameFound : List Request × List (Order × Option Paged) → List Request × List (Order × Option Paged) → Type 0
IsSameFound found also = (found.0 ≡ also.0) × AreSameLeft found.1 also.1

same_first : (due : List Request) (left also : List (Order × Option Paged))
    (later more : List Request × List (Order × Option Paged)) → AreSameLeft left also → IsSameFound later more
    → IsSameFound (found_first due left later) (found_first due also more)
same_first [] left also later more same rest = rest
same_first (request ∷ due) left also later more same rest = (refl, same)

same_found : (live : ℕ → Cell → Option ℕ) (left also : List (Order × Option Paged)) → AreSameLeft left also
    → IsSameFound (next_requests live left) (next_requests live also)
same_found live [] [] same = (refl, tt)
same_found live [] (b ∷ also) same = absurd same
same_found live (a ∷ left) [] same = absurd same
same_found live (a ∷ left) (b ∷ also) same =
    let requests : requests_of live a.0 a.1 ≡ requests_of live b.0 b.1 =
    same_requests live a.0 a.0.action a.1 b.1 same.0.1
    ∙ ap (λ (order : Order). requests_of live order b.1) same.0.0 in
    subst (λ (due : List Request). IsSameFound (next_requests live (a ∷ left))
    (found_first due also (next_requests live also))) requests
    (same_first (requests_of live a.0 a.1) left also (next_requests live left) (next_requests live also) same.1
    (same_found live left also same.1))

same_due : (live : ℕ → Cell → Option ℕ) (due : List Request) (left also : List (Order × Option Paged))
    → AreSameLeft left also → IsSameFound (due_requests live due left) (due_requests live due also)
same_due live [] left also same = same_found live left also same
same_due live (request ∷ due) left also same = (refl, same)

-- standings that are the same, but for pages that are
record AreAlike (s t : Standing) : Type 0 where
  pub same : t ≡ standing_with s.replies s.sent s.row s.due t.left
  pub left : AreSameLeft s.left t.left

alike_advanced : (replies : List Replied) (row : ℕ) (found also : List Request × List (Order × Option Paged))
    → IsSameFound found also → AreAlike (advanced replies row found) (advanced replies row also)
alike_advanced replies row found also same =
    subst (λ (due : List Request). AreAlike (advanced replies row found) (advanced replies row (due, also.1))) same.0
    (by_due found.0)
  where
    by_due : (due : List Request)
        → AreAlike (advanced replies row (due, found.1)) (advanced replies row (due, also.1))
    by_due [] = record { same = refl; left = same.1 }
    by_due (request ∷ due) = record { same = refl; left = same.1 }

alike_after : (reply : Option Message) (s t : Standing) → AreAlike s t
    → AreAlike (after_reply reply s) (after_reply reply t)
alike_after reply s t alike =
    let replies : List Replied = replies_with s.sent (outcome_in s.sent reply) s.replies in
    subst (λ (u : Standing). AreAlike (after_reply reply s) (after_reply reply u)) (sym alike.same)
    (alike_advanced replies s.row (due_requests (version_in replies) s.due s.left)
    (due_requests (version_in replies) s.due t.left) (same_due (version_in replies) s.due s.left t.left alike.left))

-- the same turns go on from both
pub record GoesAlso (turns : List Turn) (t to : Standing) : Type 0 where
  pub reached : Standing
  pub goes : GoesTo t turns reached
  pub over : reached.sent ≡ to.sent

goes_also : (turns : List Turn) (s t to : Standing) → AreAlike s t → GoesTo s turns to → GoesAlso turns t to
goes_also [] s t to alike is = record {
  reached = t;
  goes = refl;
  over = ap (λ (u : Standing). u.sent) alike.same ∙ ap (λ (u : Standing). u.sent) (sym is);
}
goes_also (turn ∷ later) s t to alike goes =
    let rest = goes_also later (after_reply (Some turn.reply) s) (after_reply (Some turn.reply) t) to
    (alike_after (Some turn.reply) s t alike) goes.1 in record {
      reached = rest.reached;
      goes = (ap (λ (u : Standing). u.sent) alike.same ∙ goes.0, rest.goes);
      over = rest.over;
    }

-- the orders of a part, with the same pages
same_orders : (part parts : ℕ) (orders : List Order) (pages others : List (Option Paged))
    → AllZip HaveSamePages pages others
    → AreSameLeft (filter (is_of_part part parts) (orders_with orders pages))
    (filter (is_of_part part parts) (orders_with orders others))
same_orders part parts [] [] [] same = tt
same_orders part parts [] [] (q ∷ qs) same = absurd same
same_orders part parts [] (p ∷ ps) [] same = absurd same
same_orders part parts [] (p ∷ ps) (q ∷ qs) same = tt
same_orders part parts (order ∷ orders) [] [] same = tt
same_orders part parts (order ∷ orders) [] (q ∷ qs) same = absurd same
same_orders part parts (order ∷ orders) (p ∷ ps) [] same = absurd same
same_orders part parts (order ∷ orders) (p ∷ ps) (q ∷ qs) same =
    by_part (eqb (order.number % parts) part) (same_orders part parts orders ps qs same.1)
  where
    of_part : List (Option Paged) → List (Order × Option Paged)
    of_part pages = filter (is_of_part part parts) (orders_with orders pages)

    by_part : (own : Bool) → AreSameLeft (filter (is_of_part part parts) (orders_with orders ps))
        (filter (is_of_part part parts) (orders_with orders qs))
        → AreSameLeft
        (cond own ((order, p) ∷ filter (is_of_part part parts) (orders_with orders ps))
        (filter (is_of_part part parts) (orders_with orders ps)))
        (cond own ((order, q) ∷ filter (is_of_part part parts) (orders_with orders qs))
        (filter (is_of_part part parts) (orders_with orders qs)))
    by_part true rest = ((refl, same.0), rest)
    by_part false rest = rest

-- so a session of one book goes on as a session of the other
pub same_goes : (book other : Contents) (part parts : ℕ) (turns : List Turn) (reached : Standing)
    → book.orders ≡ other.orders → AllZip HaveSamePages book.pages other.pages
    → GoesTo (begun book part parts) turns reached
    → GoesAlso turns (begun other part parts) reached
same_goes book other part parts turns reached orders pages goes =
    let left : AreSameLeft (orders_from book part parts 0) (orders_from other part parts 0) =
    subst (λ (all : List Order). AreSameLeft (orders_from book part parts 0)
    (filter (is_of_part part parts) (orders_with all other.pages))) orders
    (same_orders part parts book.orders book.pages other.pages pages) in
    let alike : AreAlike (session_of book part parts) (session_of other part parts) =
    record { same = refl; left = left } in
    goes_also turns (begun book part parts) (begun other part parts) reached
    (alike_after None (session_of book part parts) (session_of other part parts) alike) goes

-- and the turns of a session of one book are those of a session of the other
pub same_turns : (book other : Contents) (part parts : ℕ) (turns : List Turn) → book.orders ≡ other.orders
    → AllZip HaveSamePages book.pages other.pages → AreTurnsOf book part parts turns → AreTurnsOf other part parts turns
same_turns book other part parts turns orders pages are =
    let also = same_goes book other part parts turns are.reached orders pages are.gone in record {
      reached = also.reached;
      gone = also.goes;
      over = also.over ∙ are.over;
    }

-- pages are the same either way
same_other : (paged other : Option Paged) → HaveSamePages paged other → HaveSamePages other paged
same_other None None same = tt
same_other None (Some q) same = absurd same
same_other (Some p) None same = absurd same
same_other (Some p) (Some q) same = (sym same.0, sym same.1)

-- also of all orders
pub same_back : (pages others : List (Option Paged)) → AllZip HaveSamePages pages others
    → AllZip HaveSamePages others pages
same_back [] [] same = tt
same_back [] (q ∷ others) same = absurd same
same_back (p ∷ pages) [] same = absurd same
same_back (p ∷ pages) (q ∷ others) same = (same_other p q same.0, same_back pages others same.1)
