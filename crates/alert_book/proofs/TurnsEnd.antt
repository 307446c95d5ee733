-- A session ends: each request leaves fewer that can follow it.
use Rattle.std.proofs.Common.{◌≢◌, ℕ, ◌+◌, ◌*◌, ◌<◌, ◌≤◌, Option, Some, None, List, [], ◌∷◌, length, map}
use Rattle.std.proofs.Common.{refl, arith}
use Rattle.std.proofs.lemmas.List.{length-map}
use Rattle.std.proofs.lemmas.List.FromFn.{length-range_with_len}
use Rattle.std.proofs.lemmas.List.Sums.{count_by-le-length, length-filter}
use Rattle.cbs_page.specs.declared.paging.Paged.{Paged}
use Rattle.cbsp_wire.specs.declared.message.Cell.{Cell}
use Rattle.alert_book.specs.declared.book.order.Action.{Action}
use Rattle.alert_book.specs.declared.book.order.Action.TheVariants as action
use Rattle.alert_book.specs.declared.book.order.Order.{Order}
use Rattle.alert_book.specs.declared.session.request.Request.{Request}
use Rattle.alert_book.specs.declared.session.request.Target.{Target}
use Rattle.alert_book.specs.Session.{advanced, due_requests, next_requests, found_first, has_cells}
use Rattle.alert_book.specs.Session.{outcome_in, replies_with, requests_by, requests_of, stop_request, target_of}
use Rattle.alert_book.specs.Session.{targets_of, update_request, version_in, versions, Replied}
use Rattle.alert_book.specs.TurnLaws.{most_requests, SessionsEnd}

-- a row's targets are 16 at most, one for each version
targets_are_few : (live : ℕ → Cell → Option ℕ) (number : ℕ) (cells : List Cell) →
    length (targets_of live number cells) ≤ 16
targets_are_few live number cells =
    let all : List Target = map (target_of live number cells) versions in
    let few = count_by-le-length has_cells all in
    let kept = length-filter has_cells all in
    let same = length-map versions (target_of live number cells) in
    let sixteen = length-range_with_len 0 16 in
    omega (arith, few, kept, same, sixteen)

-- and so are its requests
requests_are_few : (live : ℕ → Cell → Option ℕ) (order : Order) (sends : Action) (paged : Option Paged) →
    length (requests_by live order sends paged) ≤ 16
requests_are_few live order (action.Write sending) None = omega arith
requests_are_few live order (action.Write sending) (Some paged) = omega arith
requests_are_few live order (action.Update version sending) None = omega arith
requests_are_few live order (action.Update version sending) (Some paged) =
    let targets = targets_of live order.number sending.cells in
    let few = targets_are_few live order.number sending.cells in
    let same = length-map targets (update_request order sending paged version) in
    omega (arith, few, same)
requests_are_few live order (action.Stop cells) None =
    let few = targets_are_few live order.number cells in
    let same = length-map (targets_of live order.number cells) (stop_request order) in
    omega (arith, few, same)
requests_are_few live order (action.Stop cells) (Some paged) =
    let few = targets_are_few live order.number cells in
    let same = length-map (targets_of live order.number cells) (stop_request order) in
    omega (arith, few, same)

-- the requests of the first row that gives one, or of a later one
found_leaves_fewer : (replies : List Replied) (row : ℕ) (found : List Request)
    (left : List (Order × Option Paged)) (later : List Request × List (Order × Option Paged)) →
    length found ≤ 16 →
    ((advanced replies row later).sent ≢ None → most_requests (advanced replies row later) < 17 * length left) →
    (advanced replies row (found_first found left later)).sent ≢ None →
    most_requests (advanced replies row (found_first found left later)) < 17 * (length left + 1)
found_leaves_fewer replies row [] left later few fewer some =
    let less = fewer some in omega (arith, less)
found_leaves_fewer replies row (request ∷ due) left later few fewer some = omega (arith, few)

-- so the first of some rows that gives a request leaves fewer
rows_leave_fewer : (live : ℕ → Cell → Option ℕ) (replies : List Replied) (row : ℕ)
    (left : List (Order × Option Paged)) →
    (advanced replies row (next_requests live left)).sent ≢ None →
    most_requests (advanced replies row (next_requests live left)) < 17 * length left
rows_leave_fewer live replies row [] some = absurd (some refl)
rows_leave_fewer live replies row (next ∷ left) some =
    let fewer = found_leaves_fewer replies row (requests_of live next.0 next.1) left (next_requests live left)
    (requests_are_few live next.0 next.0.action next.1) (rows_leave_fewer live replies row left) some in
    omega (arith, fewer)

-- and so does the next request, of a row under way too
next_leaves_fewer : (live : ℕ → Cell → Option ℕ) (replies : List Replied) (row : ℕ) (due : List Request)
    (left : List (Order × Option Paged)) →
    (advanced replies row (due_requests live due left)).sent ≢ None →
    most_requests (advanced replies row (due_requests live due left)) < length due + 17 * length left
next_leaves_fewer live replies row [] left some =
    let fewer = rows_leave_fewer live replies row left some in omega (arith, fewer)
next_leaves_fewer live replies row (request ∷ due) left some = omega arith

-- and so after any reply
pub sessions_end : SessionsEnd
sessions_end reply s some =
    let replies = replies_with s.sent (outcome_in s.sent reply) s.replies in
    next_leaves_fewer (version_in replies) replies s.row s.due s.left some
