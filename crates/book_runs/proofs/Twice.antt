-- The book of some of the cells of the book of some cells is theirs of the whole book.
use Rattle.std.proofs.Common.{◌≡◌, Bool, true, false, cond, not, List, [], ◌∷◌, map, filter, refl, ap, sym, ◌∙◌}
use Rattle.cbsp_wire.specs.declared.message.Cell.{Cell}
use Rattle.cbsp_wire.specs.Range.{is_nothing}
use Rattle.alert_book.specs.declared.book.order.Action.{Action}
use Rattle.alert_book.specs.declared.book.order.Action.TheVariants as action
use Rattle.alert_book.specs.declared.book.order.Sending.{Sending}
use Rattle.alert_book.specs.Book.{Contents}
use Rattle.alert_book.specs.Fields.{sending_with}
use Rattle.alert_book.specs.Network.{cells_of_action}
use Rattle.alert_book.specs.Row.{order_with}
use Rattle.alert_book.specs.Session.{orders_with}
use Rattle.alert_book.specs.Restricted.{Keep, PagedOrder, is_for_some, kept_action, kept_orders, kept_paged}
use Rattle.alert_book.specs.Restricted.{restricted}
use Rattle.book_runs.proofs.CellLists.{filter_first}
use Rattle.book_runs.proofs.KeptSessions.{joined_orders}

-- each of some cells is one of some others
abbrev pub AreWithin : Keep → Keep → Type 0
AreWithin keep more = (cell : Cell) → keep cell ≡ true → more cell ≡ true

abbrev sending_of_cells : Sending → List Cell → Sending
sending_of_cells s cells = sending_with s.language s.category s.period s.broadcasts cells s.text

action_twice : (keep more : Keep) → AreWithin keep more → (a : Action)
    → kept_action keep (kept_action more a) ≡ kept_action keep a
action_twice keep more so (action.Write s) =
    ap (λ (cells : List Cell). action.Write (sending_of_cells s cells)) (filter_first keep more so s.cells)
action_twice keep more so (action.Update update s) =
    ap (λ (cells : List Cell). action.Update update (sending_of_cells s cells)) (filter_first keep more so s.cells)
action_twice keep more so (action.Stop cells) = ap action.Stop (filter_first keep more so cells)

paged_twice : (keep more : Keep) → AreWithin keep more → (o : PagedOrder)
    → kept_paged keep (kept_paged more o) ≡ kept_paged keep o
paged_twice keep more so o =
    ap (λ (a : Action). let p : PagedOrder = (order_with o.0.row o.0.at o.0.name o.0.number o.0.alert a, o.1) in p)
    (action_twice keep more so o.0.action)

-- an action for some cells is for those of its cells that are among them
pub kept_cells_of : (keep : Keep) (a : Action) → cells_of_action (kept_action keep a) ≡ filter keep (cells_of_action a)
kept_cells_of keep (action.Write s) = refl
kept_cells_of keep (action.Update update s) = refl
kept_cells_of keep (action.Stop cells) = refl

none_left : (keep more : Keep) → AreWithin keep more → (cells : List Cell) → not (is_nothing (filter more cells))
    ≡ false
    → not (is_nothing (filter keep cells)) ≡ false
none_left keep more so cells none =
    ap (λ (l : List Cell). not (is_nothing l)) (sym (filter_first keep more so cells))
    ∙ by_kept (filter more cells) none
  where
    by_kept : (l : List Cell) → not (is_nothing l) ≡ false → not (is_nothing (filter keep l)) ≡ false
    by_kept [] none = refl
    by_kept (c ∷ l) none = absurd (cc)

fewer_are_for : (keep more : Keep) → AreWithin keep more → (o : PagedOrder) → is_for_some (kept_paged more o) ≡ false
    → is_for_some (kept_paged keep o) ≡ false
fewer_are_for keep more so o none =
    ap (λ (l : List Cell). not (is_nothing l)) (kept_cells_of keep o.0.action)
    ∙ none_left keep more so (cells_of_action o.0.action)
    (ap (λ (l : List Cell). not (is_nothing l)) (sym (kept_cells_of more o.0.action)) ∙ none)

orders_twice : (keep more : Keep) → AreWithin keep more → (orders : List PagedOrder)
    → kept_orders keep (kept_orders more orders) ≡ kept_orders keep orders
orders_twice keep more so [] = refl
orders_twice keep more so (o ∷ orders) =
    by_more (is_for_some (kept_paged more o)) (λ none. fewer_are_for keep more so o none)
    (orders_twice keep more so orders)
  where
    by_more : (some : Bool) → (some ≡ false → is_for_some (kept_paged keep o) ≡ false)
        → kept_orders keep (kept_orders more orders) ≡ kept_orders keep orders
        → kept_orders keep (cond some (kept_paged more o ∷ kept_orders more orders) (kept_orders more orders))
        ≡ cond (is_for_some (kept_paged keep o)) (kept_paged keep o ∷ kept_orders keep orders)
        (kept_orders keep orders)
    by_more true none rest =
        ap (λ (p : PagedOrder). cond (is_for_some p) (p ∷ kept_orders keep (kept_orders more orders))
        (kept_orders keep (kept_orders more orders))) (paged_twice keep more so o)
        ∙ ap (λ (l : List PagedOrder). cond (is_for_some (kept_paged keep o)) (kept_paged keep o ∷ l) l) rest
    by_more false none rest = rest ∙ rw (none refl) refl

abbrev contents_of : List Cell → List PagedOrder → Contents
contents_of cells orders = record {
  cells = cells;
  orders = map (λ o. o.0) orders;
  pages = map (λ o. o.1) orders;
}

-- the book of some cells of some of a book's cells is theirs
pub restricted_twice : (keep more : Keep) → AreWithin keep more → (book : Contents)
    → restricted keep (restricted more book) ≡ restricted keep book
restricted_twice keep more so book =
    let orders : List PagedOrder = orders_with book.orders book.pages in
    ap (λ (l : List PagedOrder). contents_of (filter keep (filter more book.cells)) (kept_orders keep l))
    (joined_orders (kept_orders more orders))
    ∙ ap (contents_of (filter keep (filter more book.cells))) (orders_twice keep more so orders)
    ∙ ap (λ (cells : List Cell). contents_of cells (kept_orders keep orders)) (filter_first keep more so book.cells)
