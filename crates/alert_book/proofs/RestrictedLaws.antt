-- The orders of the book of some of a book's cells, one after the other.
use Rattle.std.proofs.Common.{◌≡◌, ◌∙◌, ℕ, ◌+◌, ◌<◌, ◌==◌, zero, suc, List, [], ◌∷◌, ◌++◌, length, filter, map, take}
use Rattle.std.proofs.Common.{get_or}
use Rattle.std.proofs.Common.{Option, All, Bool, cond, false, true, not, arith, ap, refl, sym}
use Rattle.std.specs.List.{AllZip}
use Rattle.std.proofs.lemmas.List.{map-append}
use Rattle.std.proofs.lemmas.List.Elements.{All-cons, All-filter, All-head, All-map, All-nil, All-tail, filter-append}
use Rattle.cbs_page.specs.declared.paging.Paged.{Paged}
use Rattle.cbsp_wire.specs.Range.{is_nothing}
use Rattle.cbsp_wire.specs.declared.message.Cell.{Cell}
use Rattle.alert_book.specs.Laws.{HaveSamePages}
use Rattle.alert_book.specs.Network.{action_to, cells_of_action}
use Rattle.alert_book.specs.Restricted.{Keep, PagedOrder, is_for_some, kept_orders, kept_paged}
use Rattle.alert_book.specs.SendableSteps.{IsSendable}
use Rattle.alert_book.specs.Session.{orders_with}
use Rattle.alert_book.specs.declared.book.order.Action.{Action}
use Rattle.alert_book.specs.declared.book.order.Action.TheVariants as action
use Rattle.alert_book.specs.declared.book.order.Order.{Order}
use Rattle.alert_book.proofs.AllGroupsLaws.{sendable_to}

-- those at the front, and one more
paired_suc : (orders : List Order) (pages : List (Option Paged)) (i : ℕ) (o : Order) (p : Option Paged)
    → i < length orders → length pages ≡ length orders
    → orders_with (take (suc i) orders) (take (suc i) pages)
    ≡ orders_with (take i orders) (take i pages) ++ (get_or orders i o, get_or pages i p) ∷ []
paired_suc [] pages i o p within same = absurd (omega (arith, within))
paired_suc (x ∷ orders) [] i o p within same = absurd (omega (arith, same))
paired_suc (x ∷ orders) (paged ∷ pages) zero o p within same = refl
paired_suc (x ∷ orders) (paged ∷ pages) (suc i) o p within same =
    ap (λ (l : List PagedOrder). (x, paged) ∷ l)
    (paired_suc orders pages i o p (omega (arith, within)) (omega (arith, same)))

paired_next : (orders : List Order) (pages : List (Option Paged)) (i : ℕ) (o : Order) (p : Option Paged)
    → i < length orders → length pages ≡ length orders
    → orders_with (take (i + 1) orders) (take (i + 1) pages)
    ≡ orders_with (take i orders) (take i pages) ++ (get_or orders i o, get_or pages i p) ∷ []
paired_next orders pages i o p within same =
    ap (λ (n : ℕ). orders_with (take n orders) (take n pages)) (let one : i + 1 ≡ suc i = omega arith in one)
    ∙ paired_suc orders pages i o p within same

kept_next : (keep : Keep) (front back : List PagedOrder)
    → kept_orders keep (front ++ back) ≡ kept_orders keep front ++ kept_orders keep back
kept_next keep front back =
    ap (filter is_for_some) (map-append (kept_paged keep) front back)
    ∙ filter-append is_for_some (map (kept_paged keep) front) (map (kept_paged keep) back)

-- what is kept of each, among one more
pub taken_next : {X : Type 0} (of : PagedOrder → X) (keep : Keep) (orders : List Order) (pages : List (Option Paged))
    (i : ℕ) (o : Order) (p : Option Paged) (own new : List X)
    → i < length orders → length pages ≡ length orders
    → o ≡ get_or orders i o → p ≡ get_or pages i p
    → own ≡ map of (kept_orders keep (orders_with (take i orders) (take i pages)))
    → new ≡ own ++ map of (kept_orders keep ((o, p) ∷ []))
    → new ≡ map of (kept_orders keep (orders_with (take (i + 1) orders) (take (i + 1) pages)))
taken_next {X = X} of keep orders pages i o p own new within same order_is page_is before more =
    let front = orders_with (take i orders) (take i pages) in
    let pair : List PagedOrder = (get_or orders i o, get_or pages i p) ∷ [] in
    more
    ∙ ap (λ (l : List X). l ++ map of (kept_orders keep ((o, p) ∷ []))) before
    ∙ ap (λ (x : Order). map of (kept_orders keep front) ++ map of (kept_orders keep ((x, p) ∷ []))) order_is
    ∙ ap (λ (x : Option Paged). map of (kept_orders keep front)
    ++ map of (kept_orders keep ((get_or orders i o, x) ∷ []))) page_is
    ∙ sym (ap (λ (l : List PagedOrder). map of (kept_orders keep l)) (paired_next orders pages i o p within same)
    ∙ ap (map of) (kept_next keep front pair)
    ∙ map-append of (kept_orders keep front) (kept_orders keep pair))

-- the orders that are kept have serial numbers where all have
paired_sendable : (keep : Keep) (orders : List Order) (pages : List (Option Paged)) → All IsSendable orders
    → All (λ (o : PagedOrder). IsSendable o.0) (map (kept_paged keep) (orders_with orders pages))
paired_sendable keep [] pages are = All-nil (λ (o : PagedOrder). IsSendable o.0)
paired_sendable keep (o ∷ orders) [] are = All-nil (λ (o : PagedOrder). IsSendable o.0)
paired_sendable keep (o ∷ orders) (p ∷ pages) are =
    All-cons (λ (x : PagedOrder). IsSendable x.0) (kept_paged keep (o, p))
    (map (kept_paged keep) (orders_with orders pages))
    (sendable_to o (filter keep (cells_of_action o.action)) (All-head IsSendable o orders are))
    (paired_sendable keep orders pages (All-tail IsSendable o orders are))

-- so all that are kept have
pub kept_sendable : (keep : Keep) (orders : List Order) (pages : List (Option Paged)) → All IsSendable orders
    → All IsSendable (map (λ (o : PagedOrder). o.0) (kept_orders keep (orders_with orders pages)))
kept_sendable keep orders pages are =
    let pairs : List PagedOrder = map (kept_paged keep) (orders_with orders pages) in
    All-map IsSendable (λ (o : PagedOrder). o.0) (filter is_for_some pairs)
    (All-filter is_for_some (λ (o : PagedOrder). IsSendable o.0) pairs (paired_sendable keep orders pages are))

-- copies of pages are as many
pub same_length : (pages copies : List (Option Paged)) → AllZip HaveSamePages pages copies
    → length pages ≡ length copies
same_length [] [] same = refl
same_length [] (q ∷ copies) same = absurd same
same_length (p ∷ pages) [] same = absurd same
same_length (p ∷ pages) (q ∷ copies) same = let rest = same_length pages copies same.1 in omega (arith, rest)

-- a copy more
pub same_more : (pages copies : List (Option Paged)) (p q : Option Paged) → AllZip HaveSamePages pages copies
    → HaveSamePages p q → AllZip HaveSamePages (pages ++ p ∷ []) (copies ++ q ∷ [])
same_more [] [] p q same more = (more, tt)
same_more [] (y ∷ copies) p q same more = absurd same
same_more (x ∷ pages) [] p q same more = absurd same
same_more (x ∷ pages) (y ∷ copies) p q same more = (same.0, same_more pages copies p q same.1 more)

-- an order that is for some cells is kept
cells_to : (a : Action) (cells : List Cell) → cells_of_action (action_to a cells) ≡ cells
cells_to (action.Write sending) cells = refl
cells_to (action.Update update sending) cells = refl
cells_to (action.Stop others) cells = refl

is_some : (cells : List Cell) → 0 < length cells → not (is_nothing cells) ≡ true
is_some [] some = absurd (omega (arith, some))
is_some (cell ∷ cells) some = refl

-- so it is there, with its pages
pub kept_some : (keep : Keep) (o : Order) (p : Option Paged) → 0 < length (filter keep (cells_of_action o.action))
    → kept_orders keep ((o, p) ∷ []) ≡ kept_paged keep (o, p) ∷ []
kept_some keep o p some =
    let own = filter keep (cells_of_action o.action) in
    let is : is_for_some (kept_paged keep (o, p)) ≡ true =
    ap (λ (cells : List Cell). not (is_nothing cells)) (cells_to o.action own) ∙ is_some own some in
    ap (λ (b : Bool). cond b (kept_paged keep (o, p) ∷ []) []) is

-- what isn't nothing is something
pub some_if : (n : ℕ) → (n == 0) ≡ false → 0 < n
some_if zero is = absurd (cc is)
some_if (suc n) is = omega arith
