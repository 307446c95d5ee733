-- The book of some of a book's cells is fit to be run.
use Rattle.std.proofs.Common.{◌≡◌, ◌≤◌, Bool, true, not, nat_le, Option, List, [], ◌∷◌, length, map, filter}
use Rattle.std.proofs.Common.{refl, arith}
use Rattle.std.specs.List.{All}
use Rattle.std.proofs.lemmas.Bool.{and_from, and_parts, le-leb, leb-true, not-true}
use Rattle.std.proofs.lemmas.List.Elements.{All-cons, All-filter, All-head, All-map, All-nil, All-tail, filter_passes}
use Rattle.std.proofs.lemmas.List.Filters.{length-filter_both}
use Rattle.std.proofs.lemmas.List.{length-map}
use Rattle.cbs_page.specs.declared.paging.Paged.{Paged}
use Rattle.cbsp_wire.specs.declared.message.Cell.{Cell}
use Rattle.cbsp_wire.specs.Range.{are_distinct, cells_are_valid, is_nothing}
use Rattle.alert_book.specs.declared.book.order.Action.{Action}
use Rattle.alert_book.specs.declared.book.order.Action.TheVariants as action
use Rattle.alert_book.specs.declared.book.order.Order.{Order}
use Rattle.alert_book.specs.Book.{Contents}
use Rattle.alert_book.specs.Network.{cells_of_action}
use Rattle.alert_book.specs.Session.{orders_with}
use Rattle.alert_book.proofs.GroupOrders.{all_cells_are_valid, all_orders_are_few, all_orders_are_right}
use Rattle.alert_book.proofs.Origins.{paged_from}
use Rattle.alert_book.proofs.RightOrders.{AreAsked, IsRightAction, distinct_filter}
use Rattle.alert_book.proofs.TurnsKeep.{requests_kept}
use Rattle.alert_book.proofs.Writable.{CanBeWritten, IsReady, orders_ready, requests_writable}
use Rattle.alert_book.specs.Restricted.{Keep, PagedOrder, is_for_some, kept_action, kept_orders}
use Rattle.alert_book.specs.Restricted.{kept_paged, restricted}
use Rattle.book_runs.specs.Fit.{PartsAreFit}
use Rattle.book_runs.proofs.NetworkParts.{kept_with_pages}

fewer : {X : Type 0} (p : X → Bool) (xs : List X) → length (filter p xs) ≤ length xs
fewer p xs = let both = length-filter_both p (λ x. not (p x)) (λ x. refl) xs in omega (arith, both)

kept_valid : (keep : Keep) (cells : List Cell) → cells_are_valid cells ≡ true
    → cells_are_valid (filter keep cells) ≡ true
kept_valid keep cells valid =
    let parts = and_parts (nat_le (length cells) 64) (are_distinct cells) valid in
    let few = leb-true (length cells) 64 parts.0 in
    let less = fewer keep cells in
    and_from (nat_le (length (filter keep cells)) 64) (are_distinct (filter keep cells))
    (le-leb (length (filter keep cells)) 64 (omega (arith, few, less))) (distinct_filter keep cells parts.1)

kept_asked : (keep : Keep) (cells : List Cell) → AreAsked cells → not (is_nothing (filter keep cells)) ≡ true
    → AreAsked (filter keep cells)
kept_asked keep cells asked some =
    record { valid = kept_valid keep cells asked.valid; some = not-true (is_nothing (filter keep cells)) some }

kept_right : (keep : Keep) (a : Action) → IsRightAction a
    → not (is_nothing (cells_of_action (kept_action keep a))) ≡ true → IsRightAction (kept_action keep a)
kept_right keep (action.Write s) right some = record {
  category = right.category;
  period = right.period;
  cells = kept_asked keep s.cells right.cells some;
}
kept_right keep (action.Update update s) right some = record {
  category = right.category;
  period = right.period;
  cells = kept_asked keep s.cells right.cells some;
}
kept_right keep (action.Stop cells) right some = kept_asked keep cells right some

-- an order that is kept is right
abbrev IsRightIfKept : PagedOrder → Type 0
IsRightIfKept o = is_for_some o ≡ true → IsRightAction o.0.action

all_right_if_kept : (keep : Keep) (orders : List Order) (pages : List (Option Paged))
    → All (λ (o : Order). IsRightAction o.action) orders
    → All IsRightIfKept (map (kept_paged keep) (orders_with orders pages))
all_right_if_kept keep [] pages right = All-nil IsRightIfKept
all_right_if_kept keep (o ∷ orders) [] right = All-nil IsRightIfKept
all_right_if_kept keep (o ∷ orders) (p ∷ pages) right =
    All-cons IsRightIfKept (kept_paged keep (o, p)) (map (kept_paged keep) (orders_with orders pages))
    (λ some. kept_right keep o.action (All-head (λ (x : Order). IsRightAction x.action) o orders right) some)
    (all_right_if_kept keep orders pages (All-tail (λ (x : Order). IsRightAction x.action) o orders right))

restricted_right : (keep : Keep) (book : Contents) → All (λ (o : Order). IsRightAction o.action) book.orders
    → All (λ (o : Order). IsRightAction o.action) (restricted keep book).orders
restricted_right keep book right =
    let pairs : List PagedOrder = map (kept_paged keep) (orders_with book.orders book.pages) in
    All-map (λ (o : Order). IsRightAction o.action) (λ (o : PagedOrder). o.0) (filter is_for_some pairs)
    (λ k d within. All-filter is_for_some IsRightIfKept pairs
    (all_right_if_kept keep book.orders book.pages right) k d within (filter_passes is_for_some pairs k d within))

paired_few : (orders : List Order) (pages : List (Option Paged)) → length (orders_with orders pages) ≤ length orders
paired_few [] pages = omega arith
paired_few (o ∷ orders) [] = omega arith
paired_few (o ∷ orders) (p ∷ pages) = let rest = paired_few orders pages in omega (arith, rest)

restricted_few : (keep : Keep) (book : Contents) → length book.orders ≤ 4096
    → length (restricted keep book).orders ≤ 4096
restricted_few keep book few =
    let pairs : List PagedOrder = orders_with book.orders book.pages in
    let one = paired_few book.orders book.pages in
    let two = length-map pairs (kept_paged keep) in
    let more = fewer is_for_some (map (kept_paged keep) pairs) in
    let all = length-map (kept_orders keep pairs) (λ (o : PagedOrder). o.0) in
    omega (arith, few, one, two, more, all)

-- the book of some of a book's cells is fit to be run at a desk
pub parts_are_fit : PartsAreFit
parts_are_fit from input keep book is = record {
  cells = kept_valid keep book.cells (all_cells_are_valid from input book is);
  orders = restricted_few keep book (all_orders_are_few from input book is);
  paged = (kept_with_pages keep book.orders book.pages (paged_from from input book is)).paged;
  writable = λ part parts turns reached goes.
      let own : Contents = restricted keep book in
      requests_kept CanBeWritten IsReady
      (λ live next ready. requests_writable live next.0 next.0.action next.1 ready.0 ready.1) own part parts turns
      reached (orders_ready own.orders own.pages
      (restricted_right keep book (all_orders_are_right from input book is))
      (kept_with_pages keep book.orders book.pages (paged_from from input book is)).paged) goes;
}
