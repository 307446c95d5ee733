-- What a session's definition says of the targets of a row.
use Rattle.std.proofs.Common.{◌≡◌, ◌≢◌, ℕ, suc, ◌+◌, ◌<◌, Bool, true, false, cond, Option, List, [], ◌∷◌, length, map}
use Rattle.std.proofs.Common.{filter, drop, get_or, All, refl, sym}
use Rattle.std.proofs.Common.{ap, subst, ◌∙◌, arith}
use Rattle.std.proofs.Math.Seq.{drop-cons}
use Rattle.std.proofs.lemmas.List.Elements.{All-filter, All-map}
use Rattle.std.proofs.lemmas.List.FromFn.{get_or-range_with_len, length-range_with_len}
use Rattle.cbsp_wire.specs.declared.message.Cell.{Cell}
use Rattle.cbs_page.specs.declared.paging.Paged.{Paged}
use Rattle.alert_book.specs.declared.book.order.Order.{Order}
use Rattle.alert_book.specs.declared.session.request.Request.{Request}
use Rattle.alert_book.specs.declared.session.request.Target.{Target}
use Rattle.alert_book.specs.Book.{Contents}
use Rattle.alert_book.specs.Session.{due_requests, next_requests, found_first, has_cells, is_of_part, orders_from}
use Rattle.alert_book.specs.Session.{orders_with, requests_of}
use Rattle.alert_book.specs.Session.{target_of, targets_of, versions}
use Rattle.alert_book.specs.SessionSteps.{requests_in}

-- each version is one that a serial number has
versions_are_short : All (λ v. v < 16) versions
versions_are_short k d within =
    let few : k < 16 = subst (λ n. k < n) (length-range_with_len 0 16) within in
    subst (λ v. v < 16) (sym (get_or-range_with_len 0 16 k d few)) (omega (arith, few))

-- so that each target's is
pub targets_are_short : (live : ℕ → Cell → Option ℕ) (number : ℕ) (cells : List Cell) →
    All (λ t. t.version < 16) (targets_of live number cells)
targets_are_short live number cells =
    All-filter has_cells (λ (t : Target). t.version < 16) (map (target_of live number cells) versions)
    (All-map (λ (t : Target). t.version < 16) (target_of live number cells) versions versions_are_short)

-- the requests of an order, and of those after it
first_of : (live : ℕ → Cell → Option ℕ) (part parts : ℕ) (order : Order) (paged : Option Paged)
    (orders : List Order) (pages : List (Option Paged)) →
    let left = filter (is_of_part part parts) (orders_with orders pages) in
    next_requests live (filter (is_of_part part parts) (orders_with (order ∷ orders) (paged ∷ pages)))
    ≡ found_first (requests_in live part parts order paged) left (next_requests live left)
first_of live part parts order paged orders pages = by_part (is_of_part part parts (order, paged))
  where
    by_part : (here : Bool) →
        let left = filter (is_of_part part parts) (orders_with orders pages) in
        next_requests live (cond here ((order, paged) ∷ left) left)
        ≡ found_first (cond here (requests_of live order paged) []) left (next_requests live left)
    by_part true = refl
    by_part false = refl

-- a list from a place on
dropped : {X : Type 0} (xs : List X) (i : ℕ) (d : X) → i < length xs → drop i xs ≡ get_or xs i d ∷ drop (i + 1) xs
dropped xs i d within =
    let next : suc i ≡ i + 1 = omega arith in
    drop-cons xs i d within ∙ ap (λ n. get_or xs i d ∷ drop n xs) next

-- and from a place on
pub first_from : (live : ℕ → Cell → Option ℕ) (book : Contents) (part parts place : ℕ) (order : Order)
    (paged : Option Paged) → place < length book.orders → length book.pages ≡ length book.orders →
    let left = orders_from book part parts (place + 1) in
    next_requests live (orders_from book part parts place)
    ≡ found_first (requests_in live part parts (get_or book.orders place order) (get_or book.pages place paged)) left
    (next_requests live left)
first_from live book part parts place order paged within same =
    let there : place < length book.pages = omega (arith, within, same) in
    ap (λ (orders : List Order). next_requests live (filter (is_of_part part parts)
    (orders_with orders (drop place book.pages)))) (dropped book.orders place order within)
    ∙ ap (λ (pages : List (Option Paged)). next_requests live (filter (is_of_part part parts)
    (orders_with (get_or book.orders place order ∷ drop (place + 1) book.orders) pages)))
    (dropped book.pages place paged there)
    ∙ first_of live part parts (get_or book.orders place order) (get_or book.pages place paged)
    (drop (place + 1) book.orders) (drop (place + 1) book.pages)

-- where an order gives requests, these are the first
pub found_some : (due : List Request) (left : List (Order × Option Paged))
    (later : List Request × List (Order × Option Paged)) → length due ≢ 0 → found_first due left later ≡ (due, left)
found_some [] left later some = absurd (some refl)
found_some (request ∷ due) left later some = refl

-- where no request is due, the next row gives it
pub due_none : (live : ℕ → Cell → Option ℕ) (due : List Request) (left : List (Order × Option Paged)) →
    length due ≡ 0 → due_requests live due left ≡ next_requests live left
due_none live [] left none = refl
due_none live (request ∷ due) left none = absurd (omega (arith, none))
