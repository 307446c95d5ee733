-- What a session of some of a book's cells is due, by what the session of the whole book is due: the shares of the same
-- requests, where both believe the same of these cells.
use Rattle.std.proofs.Common.{◌≡◌, ℕ, Bool, true, false, cond, not, Option, Some, None, List, [], ◌∷◌, length, map}
use Rattle.std.proofs.Common.{filter, refl, ap, sym, ◌∙◌, inl, inr, arith}
use Rattle.std.specs.Prelude.{nat_lt}
use Rattle.std.proofs.lemmas.Bool.{cases_Bool}
use Rattle.cbs_page.specs.declared.paging.Paged.{Paged}
use Rattle.cbsp_wire.specs.declared.message.Cell.{Cell}
use Rattle.cbsp_wire.specs.Range.{is_nothing}
use Rattle.alert_book.specs.declared.book.order.Action.{Action}
use Rattle.alert_book.specs.declared.book.order.Action.TheVariants as action
use Rattle.alert_book.specs.declared.book.order.Order.{Order}
use Rattle.alert_book.specs.declared.book.order.Sending.{Sending}
use Rattle.alert_book.specs.declared.session.request.Request.{Request}
use Rattle.alert_book.specs.declared.session.request.Target.{Target}
use Rattle.alert_book.specs.Network as network
use Rattle.alert_book.specs.Session.{cells_with, due_requests, found_first, has_cells, is_version}
use Rattle.reply_outcome.specs.Replies.{cells_asked}
use Rattle.alert_book.specs.Session.{next_requests, requests_by, requests_of, stop_request, target_of}
use Rattle.alert_book.specs.Session.{update_request, versions}
use Rattle.book_runs.specs.CellParts.{asks_some}
use Rattle.alert_book.specs.Restricted.{Keep, PagedOrder, is_for_some, kept_action, kept_order, kept_orders}
use Rattle.book_runs.specs.CellParts.{kept_request, kept_requests}
use Rattle.alert_book.specs.Restricted.{kept_paged, kept_sending}

-- the versions that are believed live, by alert and cell
abbrev pub Belief : Type 0
Belief = ℕ → Cell → Option ℕ

-- two sessions believe the same of some cells
abbrev pub AgreeOn : Keep → Belief → Belief → Type 0
AgreeOn keep live also = (number : ℕ) (cell : Cell) → keep cell ≡ true → also number cell ≡ live number cell

-- so the cells among these with a version are the same
kept_with : (keep : Keep) (live also : Belief) → AgreeOn keep live also → (number version : ℕ) (cells : List Cell)
    → cells_with also number version (filter keep cells) ≡ filter keep (cells_with live number version cells)
kept_with keep live also agree number version [] = refl
kept_with keep live also agree number version (c ∷ cells) =
    let rest = kept_with keep live also agree number version cells in elim (cases_Bool (keep c)) [
      | inl own ↦ mine own (is_version version (live number c)) refl rest
      | inr other ↦ others other (is_version version (live number c)) rest
    ]
  where
    mine : keep c ≡ true → (here : Bool) → is_version version (live number c) ≡ here
        → cells_with also number version (filter keep cells) ≡ filter keep (cells_with live number version cells)
        → cells_with also number version (filter keep (c ∷ cells))
        ≡ filter keep (cond here (c ∷ cells_with live number version cells) (cells_with live number version cells))
    mine own true is rest =
        rw (own, agree number c own, is) (ap (λ (l : List Cell). c ∷ l) rest)
    mine own false is rest = rw (own, agree number c own, is) rest

    others : keep c ≡ false → (here : Bool)
        → cells_with also number version (filter keep cells) ≡ filter keep (cells_with live number version cells)
        → cells_with also number version (filter keep (c ∷ cells))
        ≡ filter keep (cond here (c ∷ cells_with live number version cells) (cells_with live number version cells))
    others other true rest = rw other rest
    others other false rest = rw other rest

-- a target, of these cells alone
abbrev kept_target : Keep → Target → Target
kept_target keep target = record { version = target.version; cells = filter keep target.cells }

abbrev target_with : (version : ℕ) → List Cell → Target
target_with version cells = record { version = version; cells = cells }

-- the requests of targets, by what makes a request of one
abbrev made_of : (Target → Request) → Belief → (number : ℕ) → List Cell → List ℕ → List Request
made_of make live number cells all = map make (filter has_cells (map (target_of live number cells) all))

-- what makes requests, of all cells and of some, asks each target's cells
record MakesKept (keep : Keep) (make kept : Target → Request) : Type 0 where
  pub same : (t : Target) → kept_request keep (make t) ≡ kept (kept_target keep t)
  pub asks : (t : Target) → cells_asked (kept t).message ≡ t.cells

some_cells : (c : Cell) (cells : List Cell) → nat_lt 0 (length (c ∷ cells)) ≡ true
some_cells c cells = grind arith

kept_made : (keep : Keep) (live also : Belief) → AgreeOn keep live also → (number : ℕ) (cells : List Cell)
    (make kept : Target → Request) → MakesKept keep make kept → (all : List ℕ)
    → made_of kept also number (filter keep cells) all ≡ kept_requests keep (made_of make live number cells all)
kept_made keep live also agree number cells make kept makes [] = refl
kept_made keep live also agree number cells make kept makes (v ∷ all) =
    let rest = kept_made keep live also agree number cells make kept makes all in
    ap (λ (l : List Cell). map kept (cond (has_cells (target_with v l)) (target_with v l
    ∷ filter has_cells (map (target_of also number (filter keep cells)) all))
    (filter has_cells (map (target_of also number (filter keep cells)) all))))
    (kept_with keep live also agree number v cells)
    ∙ by_cells (cells_with live number v cells) rest
  where
    first : List Cell → List Request
    first l = map kept (cond (has_cells (target_with v l)) (target_with v l
        ∷ filter has_cells (map (target_of also number (filter keep cells)) all))
        (filter has_cells (map (target_of also number (filter keep cells)) all)))

    by_kept : (l : List Cell)
        → made_of kept also number (filter keep cells) all ≡ kept_requests keep (made_of make live number cells all)
        → map kept (cond (has_cells (target_with v l)) (target_with v l
        ∷ filter has_cells (map (target_of also number (filter keep cells)) all))
        (filter has_cells (map (target_of also number (filter keep cells)) all)))
        ≡ cond (not (is_nothing l)) (kept (target_with v l)
        ∷ kept_requests keep (made_of make live number cells all))
        (kept_requests keep (made_of make live number cells all))
    by_kept [] rest = rest
    by_kept (k ∷ l) rest = rw (some_cells k l) (ap (λ (rs : List Request). kept (target_with v (k ∷ l)) ∷ rs) rest)

    by_cells : (l : List Cell)
        → made_of kept also number (filter keep cells) all ≡ kept_requests keep (made_of make live number cells all)
        → map kept (cond (has_cells (target_with v (filter keep l))) (target_with v (filter keep l)
        ∷ filter has_cells (map (target_of also number (filter keep cells)) all))
        (filter has_cells (map (target_of also number (filter keep cells)) all)))
        ≡ kept_requests keep (map make (cond (has_cells (target_with v l)) (target_with v l
        ∷ filter has_cells (map (target_of live number cells) all))
        (filter has_cells (map (target_of live number cells) all))))
    by_cells [] rest = rest
    by_cells (c ∷ l) rest =
        let t : Target = target_with v (c ∷ l) in
        let later : List Request = kept_requests keep (made_of make live number cells all) in
        by_kept (filter keep (c ∷ l)) rest
        ∙ ap (λ (asked : List Cell). cond (not (is_nothing asked)) (kept (kept_target keep t) ∷ later) later)
        (sym (makes.asks (kept_target keep t)))
        ∙ ap (λ (r : Request). cond (asks_some r) (r ∷ later) later) (sym (makes.same t))
        ∙ sym (ap (λ (some : Bool). kept_requests keep (map make (cond some (t
        ∷ filter has_cells (map (target_of live number cells) all))
        (filter has_cells (map (target_of live number cells) all))))) (some_cells c l))

-- an update's requests, and a stop's
update_makes : (keep : Keep) (order : Order) (version : ℕ) (sending : Sending) (paged : Paged)
    → MakesKept keep (update_request order sending paged version)
    (update_request (kept_order keep order) (kept_sending keep sending) paged version)
update_makes keep order version sending paged = record { same = λ t. refl; asks = λ t. refl }

stop_makes : (keep : Keep) (order : Order)
    → MakesKept keep (stop_request order) (stop_request (kept_order keep order))
stop_makes keep order = record { same = λ t. refl; asks = λ t. refl }

-- a row that is for some of these cells gives the shares of its requests
kept_row : (keep : Keep) (live also : Belief) → AgreeOn keep live also → (order : Order) (sends : Action)
    (paged : Option Paged) → not (is_nothing (network.cells_of_action (kept_action keep sends))) ≡ true
    → requests_by also (kept_order keep order) (kept_action keep sends) paged
    ≡ kept_requests keep (requests_by live order sends paged)
kept_row keep live also agree order (action.Write sending) None some = refl
kept_row keep live also agree order (action.Write sending) (Some paged) some = rw some refl
kept_row keep live also agree order (action.Update version sending) None some = refl
kept_row keep live also agree order (action.Update version sending) (Some paged) some =
    kept_made keep live also agree order.number sending.cells (update_request order sending paged version)
    (update_request (kept_order keep order) (kept_sending keep sending) paged version)
    (update_makes keep order version sending paged) versions
kept_row keep live also agree order (action.Stop cells) None some =
    kept_made keep live also agree order.number cells (stop_request order) (stop_request (kept_order keep order))
    (stop_makes keep order) versions
kept_row keep live also agree order (action.Stop cells) (Some paged) some =
    kept_made keep live also agree order.number cells (stop_request order) (stop_request (kept_order keep order))
    (stop_makes keep order) versions

-- cells of which there are none
pub nothing : (cells : List Cell) → not (is_nothing cells) ≡ false → cells ≡ []
nothing [] none = refl
nothing (c ∷ cells) none = absurd (cc)

no_targets : (make : Target → Request) (live : Belief) (number : ℕ) → made_of make live number [] versions ≡ []
no_targets make live number = refl

none_made : (keep : Keep) (live also : Belief) → AgreeOn keep live also → (number : ℕ) (cells : List Cell)
    (make kept : Target → Request) → MakesKept keep make kept → filter keep cells ≡ []
    → kept_requests keep (made_of make live number cells versions) ≡ []
none_made keep live also agree number cells make kept makes none =
    sym (kept_made keep live also agree number cells make kept makes versions)
    ∙ ap (λ (l : List Cell). made_of kept also number l versions) none
    ∙ no_targets kept also number

-- and one that is for none of them gives none
no_row : (keep : Keep) (live also : Belief) → AgreeOn keep live also → (order : Order) (sends : Action)
    (paged : Option Paged) → not (is_nothing (network.cells_of_action (kept_action keep sends))) ≡ false
    → kept_requests keep (requests_by live order sends paged) ≡ []
no_row keep live also agree order (action.Write sending) None none = refl
no_row keep live also agree order (action.Write sending) (Some paged) none = rw none refl
no_row keep live also agree order (action.Update version sending) None none = refl
no_row keep live also agree order (action.Update version sending) (Some paged) none =
    none_made keep live also agree order.number sending.cells (update_request order sending paged version)
    (update_request (kept_order keep order) (kept_sending keep sending) paged version)
    (update_makes keep order version sending paged) (nothing (filter keep sending.cells) none)
no_row keep live also agree order (action.Stop cells) None none =
    none_made keep live also agree order.number cells (stop_request order) (stop_request (kept_order keep order))
    (stop_makes keep order) (nothing (filter keep cells) none)
no_row keep live also agree order (action.Stop cells) (Some paged) none =
    none_made keep live also agree order.number cells (stop_request order) (stop_request (kept_order keep order))
    (stop_makes keep order) (nothing (filter keep cells) none)

-- so the session of these cells finds next what theirs is of what the whole book's finds
share_next : (keep : Keep) (live also : Belief) → AgreeOn keep live also → (left : List PagedOrder)
    → due_requests also (kept_requests keep (next_requests live left).0) (kept_orders keep (next_requests live left).1)
    ≡ next_requests also (kept_orders keep left)
share_next keep live also agree [] = refl
share_next keep live also agree (o ∷ left) =
    by_due (requests_of live o.0 o.1) (share_next keep live also agree left)
    ∙ sym (elim (cases_Bool (is_for_some (kept_paged keep o))) [
      | inl some ↦ for_some some
      | inr none ↦ for_none none
    ])
  where
    later : List Request × List PagedOrder
    later = next_requests also (kept_orders keep left)

    for_some : is_for_some (kept_paged keep o) ≡ true
        → next_requests also (kept_orders keep (o ∷ left))
        ≡ found_first (kept_requests keep (requests_of live o.0 o.1)) (kept_orders keep left)
        (next_requests also (kept_orders keep left))
    for_some some = rw some (ap (λ (due : List Request). found_first due (kept_orders keep left)
        (next_requests also (kept_orders keep left)))
        (kept_row keep live also agree o.0 o.0.action o.1 some))

    for_none : is_for_some (kept_paged keep o) ≡ false
        → next_requests also (kept_orders keep (o ∷ left))
        ≡ found_first (kept_requests keep (requests_of live o.0 o.1)) (kept_orders keep left)
        (next_requests also (kept_orders keep left))
    for_none none = rw none (ap (λ (due : List Request). found_first due (kept_orders keep left)
        (next_requests also (kept_orders keep left)))
        (sym (no_row keep live also agree o.0 o.0.action o.1 none)))

    by_share : (due : List Request)
        → due_requests also due (kept_orders keep left)
        ≡ found_first due (kept_orders keep left) (next_requests also (kept_orders keep left))
    by_share [] = refl
    by_share (r ∷ due) = refl

    by_due : (due : List Request)
        → due_requests also (kept_requests keep (next_requests live left).0)
        (kept_orders keep (next_requests live left).1)
        ≡ next_requests also (kept_orders keep left)
        → due_requests also (kept_requests keep (found_first due left (next_requests live left)).0)
        (kept_orders keep (found_first due left (next_requests live left)).1)
        ≡ found_first (kept_requests keep due) (kept_orders keep left) (next_requests also (kept_orders keep left))
    by_due [] rest = rest
    by_due (r ∷ due) rest = by_share (kept_requests keep (r ∷ due))

-- and what is due to it next
pub share_due : (keep : Keep) (live also : Belief) → AgreeOn keep live also → (due : List Request)
    (left : List PagedOrder)
    → due_requests also (kept_requests keep (due_requests live due left).0)
    (kept_orders keep (due_requests live due left).1)
    ≡ due_requests also (kept_requests keep due) (kept_orders keep left)
share_due keep live also agree [] left = share_next keep live also agree left
share_due keep live also agree (r ∷ due) left = refl

-- where nothing is due, nothing is left
none_next : (live : Belief) (left : List PagedOrder) → (next_requests live left).0 ≡ []
    → (next_requests live left).1 ≡ []
none_next live [] none = refl
none_next live (o ∷ left) none = by_due (requests_of live o.0 o.1) (none_next live left) none
  where
    by_due : (due : List Request) → ((next_requests live left).0 ≡ [] → (next_requests live left).1 ≡ [])
        → (found_first due left (next_requests live left)).0 ≡ []
        → (found_first due left (next_requests live left)).1 ≡ []
    by_due [] rest none = rest none
    by_due (r ∷ due) rest none = absurd (cc)

-- where no request is due, no order is left
pub none_due : (live : Belief) (due : List Request) (left : List PagedOrder) → (due_requests live due left).0 ≡ []
    → (due_requests live due left).1 ≡ []
none_due live [] left none = none_next live left none
none_due live (r ∷ due) left none = absurd (cc)
