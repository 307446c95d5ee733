-- A row asks a cell once at most, so a session asks it at most as often as the book has orders.
use Rattle.std.proofs.Common.{◌≡◌, ℕ, ◌+◌, ◌%◌, ◌<◌, ◌≤◌, ◌∙◌, Bool, true, false, cond, eqb, eqb-true, Option}
use Rattle.std.proofs.Common.{Some, None, List, [], ◌∷◌, length, map, filter, refl, sym, ap, arith, inl, inr, suc, zero}
use Rattle.alert_book.specs.Cells.{cell_with}
use Rattle.std.specs.List.{list_any, range_with_len}
use Rattle.std.proofs.lemmas.Bool.{and_parts, both_ways, cases_Bool, ne_eqb, or_cases}
use Rattle.std.proofs.lemmas.List.Sums.{count_by-le-length, length-filter}
use Rattle.cbs_page.specs.declared.paging.Paged.{Paged}
use Rattle.cbsp_wire.specs.declared.message.Cell.{Cell}
use Rattle.cbsp_wire.specs.Range.{is_cell}
use Rattle.alert_book.specs.declared.book.order.Action.{Action}
use Rattle.alert_book.specs.declared.book.order.Action.TheVariants as action
use Rattle.alert_book.specs.declared.book.order.Order.{Order}
use Rattle.alert_book.specs.declared.session.request.Request.{Request}
use Rattle.alert_book.specs.declared.session.request.Target.{Target}
use Rattle.alert_book.specs.Session.{advanced, after_reply, cells_with, due_requests, next_requests}
use Rattle.reply_outcome.specs.Replies.{cells_asked}
use Rattle.alert_book.specs.Session.{found_first, has_cells, is_of_part, is_version, orders_from, orders_with}
use Rattle.alert_book.specs.Session.{outcome_in, replies_with, requests_by, requests_of, stop_request}
use Rattle.alert_book.specs.Session.{target_of, targets_of, update_request, version_in, versions, Replied, Standing}
use Rattle.alert_book.specs.Turns.{begun, is_asked, GoesTo, Turn}
use Rattle.alert_book.specs.TurnLaws.{AsksOncePerOrder}

-- one more or none, by a test
abbrev pub one_if : Bool → ℕ
one_if test = cond test 1 0

-- the length of a filtered list: one element more, fewer than all, by a weaker test, of a list filtered before, and of
-- a list that was mapped
pub filter_more : {X : Type 0} (p : X → Bool) (x : X) (xs : List X) →
    length (filter p (x ∷ xs)) ≡ one_if (p x) + length (filter p xs)
filter_more {X} p x xs = by_test (p x)
  where
    by_test : (here : Bool) → length (cond here (x ∷ filter p xs) (filter p xs)) ≡ one_if here + length (filter p xs)
    by_test true = omega arith
    by_test false = omega arith

-- a part of a list is no longer than the list
pub filter_le : {X : Type 0} (p : X → Bool) (xs : List X) → length (filter p xs) ≤ length xs
filter_le {X} p xs =
    let few = count_by-le-length p xs in
    let same = length-filter p xs in
    omega (arith, few, same)

one_le : (p q : Bool) → (p ≡ true → q ≡ true) → one_if p ≤ one_if q
one_le true q so = let is = so refl in rw is (omega arith)
one_le false q so = omega arith

filter_weaker : {X : Type 0} (p q : X → Bool) (xs : List X) → ((x : X) → p x ≡ true → q x ≡ true) →
    length (filter p xs) ≤ length (filter q xs)
filter_weaker {X} p q [] so = omega arith
filter_weaker {X} p q (x ∷ xs) so =
    let here = one_le (p x) (q x) (so x) in
    let rest = filter_weaker p q xs so in
    let left = filter_more p x xs in
    let right = filter_more q x xs in
    omega (arith, here, rest, left, right)

filter_twice : {X : Type 0} (p q : X → Bool) (xs : List X) → length (filter p (filter q xs)) ≤ length (filter p xs)
filter_twice {X} p q [] = omega arith
filter_twice {X} p q (x ∷ xs) = by_test (q x) (filter_twice p q xs)
  where
    by_test : (here : Bool) → length (filter p (filter q xs)) ≤ length (filter p xs) →
        length (filter p (cond here (x ∷ filter q xs) (filter q xs))) ≤ length (filter p (x ∷ xs))
    by_test true rest =
        let left = filter_more p x (filter q xs) in
        let right = filter_more p x xs in
        omega (arith, rest, left, right)
    by_test false rest =
        let right = filter_more p x xs in
        omega (arith, rest, right)

filter_map : {X Y : Type 0} (p : Y → Bool) (f : X → Y) (xs : List X) →
    length (filter p (map f xs)) ≡ length (filter (λ x. p (f x)) xs)
filter_map {X} {Y} p f [] = refl
filter_map {X} {Y} p f (x ∷ xs) =
    filter_more p (f x) (map f xs) ∙ ap (λ n. one_if (p (f x)) + n) (filter_map p f xs)
    ∙ sym (filter_more (λ y. p (f y)) x xs)

-- cells that compare equal are equal
pub cell_same : (a b : Cell) → is_cell a b ≡ true → a ≡ b
cell_same a b same =
    let parts = and_parts (eqb a.lac b.lac) (eqb a.ci b.ci) same in
    let lac = eqb-true a.lac b.lac parts.0 in
    let ci = eqb-true a.ci b.ci parts.1 in
    ap (λ n. cell_with n a.ci) lac ∙ ap (λ n. cell_with b.lac n) ci

-- a cell stands among those with a version only if that is its version
pub version_is : (live : ℕ → Cell → Option ℕ) (number : ℕ) (cell : Cell) (cells : List Cell) (version : ℕ) →
    list_any (is_cell cell) (cells_with live number version cells) ≡ true →
    is_version version (live number cell) ≡ true
version_is live number cell [] version asked = absurd (both_ways false refl asked)
version_is live number cell (c ∷ cells) version asked =
    elim (cases_Bool (is_version version (live number c))) [
      | inl here ↦ elim (or_cases (is_cell cell c) (list_any (is_cell cell) (cells_with live number version cells))
          (rw here at asked)) [
            | inl same ↦ rw (cell_same cell c same) here
            | inr later ↦ version_is live number cell cells version later
          ]
      | inr other ↦ version_is live number cell cells version (rw other at asked)
    ]

-- of the versions one at most is a cell's
none_before : (a n most : ℕ) → most < a → length (filter (λ v. is_version v (Some most)) (range_with_len a n)) ≡ 0
none_before a zero most before = refl
none_before a (suc n) most before =
    let here : one_if (eqb most a) ≡ 0 = ap one_if (ne_eqb most a (omega (arith, before))) in
    let rest = none_before (a + 1) n most (omega (arith, before)) in
    let more = filter_more (λ v. is_version v (Some most)) a (range_with_len (a + 1) n) in
    omega (arith, here, rest, more)

no_version : (a n : ℕ) → length (filter (λ v. is_version v None) (range_with_len a n)) ≡ 0
no_version a zero = refl
no_version a (suc n) = no_version (a + 1) n

some_version : (most a n : ℕ) → length (filter (λ v. is_version v (Some most)) (range_with_len a n)) ≤ 1
some_version most a zero = omega arith
some_version most a (suc n) =
    let more = filter_more (λ v. is_version v (Some most)) a (range_with_len (a + 1) n) in
    elim (cases_Bool (eqb most a)) [
      | inl same ↦
          let is = eqb-true most a same in
          let here : one_if (eqb most a) ≡ 1 = ap one_if same in
          let rest = none_before (a + 1) n most (omega (arith, is)) in
          omega (arith, here, rest, more)
      | inr other ↦
          let here : one_if (eqb most a) ≡ 0 = ap one_if other in
          let rest = some_version most (a + 1) n in
          omega (arith, here, rest, more)
    ]

one_version : (live : Option ℕ) (a n : ℕ) → length (filter (λ v. is_version v live) (range_with_len a n)) ≤ 1
one_version None a n = let none = no_version a n in omega (arith, none)
one_version (Some most) a n = some_version most a n

-- whether a request asks a cell
abbrev pub asks : Cell → Request → Bool
asks cell request = list_any (is_cell cell) (cells_asked request.message)

-- the targets of a row have a cell once at most
abbrev has_cell : Cell → Target → Bool
has_cell cell target = list_any (is_cell cell) target.cells

targets_have_once : (live : ℕ → Cell → Option ℕ) (number : ℕ) (cells : List Cell) (cell : Cell) →
    length (filter (has_cell cell) (targets_of live number cells)) ≤ 1
targets_have_once live number cells cell =
    let all : List Target = map (target_of live number cells) versions in
    let kept = filter_twice (has_cell cell) has_cells all in
    let mapped = filter_map (has_cell cell) (target_of live number cells) versions in
    let weaker = filter_weaker (λ v. has_cell cell (target_of live number cells v))
    (λ v. is_version v (live number cell)) versions (version_is live number cell cells) in
    let one = one_version (live number cell) 0 16 in
    omega (arith, kept, mapped, weaker, one)

-- a row asks a cell once at most
pub row_asks_once : (live : ℕ → Cell → Option ℕ) (order : Order) (sends : Action) (paged : Option Paged) (cell : Cell) →
    length (filter (asks cell) (requests_by live order sends paged)) ≤ 1
row_asks_once live order (action.Write sending) None cell = omega arith
row_asks_once live order (action.Write sending) (Some paged) cell =
    let few = filter_le (asks cell) (requests_by live order (action.Write sending) (Some paged)) in omega (arith, few)
row_asks_once live order (action.Update version sending) None cell = omega arith
row_asks_once live order (action.Update version sending) (Some paged) cell =
    let mapped = filter_map (asks cell) (update_request order sending paged version)
    (targets_of live order.number sending.cells) in
    let once = targets_have_once live order.number sending.cells cell in
    omega (arith, mapped, once)
row_asks_once live order (action.Stop cells) None cell =
    let mapped = filter_map (asks cell) (stop_request order) (targets_of live order.number cells) in
    let once = targets_have_once live order.number cells cell in
    omega (arith, mapped, once)
row_asks_once live order (action.Stop cells) (Some paged) cell =
    let mapped = filter_map (asks cell) (stop_request order) (targets_of live order.number cells) in
    let once = targets_have_once live order.number cells cell in
    omega (arith, mapped, once)

-- how often a session asks a cell from a standing on, at most: by the request that was sent, by those that are due, and
-- once for each order that is left
abbrev pub sent_asks : Cell → Option Request → ℕ
sent_asks cell None = 0
sent_asks cell (Some request) = one_if (asks cell request)

abbrev most_asked : Cell → Standing → ℕ
most_asked cell s = sent_asks cell s.sent + length (filter (asks cell) s.due) + length s.left

found_asks : (replies : List Replied) (row : ℕ) (found : List Request) (left : List (Order × Option Paged))
    (later : List Request × List (Order × Option Paged)) (cell : Cell) → length (filter (asks cell) found) ≤ 1 →
    most_asked cell (advanced replies row later) ≤ length left →
    most_asked cell (advanced replies row (found_first found left later)) ≤ length left + 1
found_asks replies row [] left later cell once few = omega (arith, few)
found_asks replies row (request ∷ due) left later cell once few =
    let more = filter_more (asks cell) request due in omega (arith, more, once)

rows_ask : (live : ℕ → Cell → Option ℕ) (replies : List Replied) (row : ℕ) (left : List (Order × Option Paged))
    (cell : Cell) → most_asked cell (advanced replies row (next_requests live left)) ≤ length left
rows_ask live replies row [] cell = omega arith
rows_ask live replies row (next ∷ left) cell =
    let few = found_asks replies row (requests_of live next.0 next.1) left (next_requests live left) cell
    (row_asks_once live next.0 next.0.action next.1 cell) (rows_ask live replies row left cell) in
    omega (arith, few)

next_asks : (live : ℕ → Cell → Option ℕ) (replies : List Replied) (row : ℕ) (due : List Request)
    (left : List (Order × Option Paged)) (cell : Cell) →
    most_asked cell (advanced replies row (due_requests live due left))
    ≤ length (filter (asks cell) due) + length left
next_asks live replies row [] left cell = let few = rows_ask live replies row left cell in omega (arith, few)
next_asks live replies row (request ∷ due) left cell =
    let more = filter_more (asks cell) request due in omega (arith, more)

-- and so it does
turns_ask : (cell : Cell) (turns : List Turn) (from to : Standing) → GoesTo from turns to →
    length (filter (is_asked cell) turns) ≤ most_asked cell from
turns_ask cell [] from to goes = omega arith
turns_ask cell (turn ∷ later) from to goes =
    let replies = replies_with from.sent (outcome_in from.sent (Some turn.reply)) from.replies in
    let rest = turns_ask cell later (after_reply (Some turn.reply) from) to goes.1 in
    let next = next_asks (version_in replies) replies from.row from.due from.left cell in
    let here : sent_asks cell from.sent ≡ one_if (is_asked cell turn) = ap (sent_asks cell) goes.0 in
    let more = filter_more (is_asked cell) turn later in
    omega (arith, rest, next, here, more)

-- the orders of a part, with their pages, are at most those of the part
orders_few : (part parts : ℕ) (orders : List Order) (pages : List (Option Paged)) →
    length (filter (is_of_part part parts) (orders_with orders pages))
    ≤ length (filter (λ order. eqb (order.number % parts) part) orders)
orders_few part parts [] [] = omega arith
orders_few part parts [] (paged ∷ pages) = omega arith
orders_few part parts (order ∷ orders) [] = omega arith
orders_few part parts (order ∷ orders) (paged ∷ pages) =
    let few = orders_few part parts orders pages in
    let here = filter_more (is_of_part part parts) (order, paged) (orders_with orders pages) in
    let there = filter_more (λ (o : Order). eqb (o.number % parts) part) order orders in
    omega (arith, few, here, there)

-- so a session asks a cell at most as often as its part of the book has orders
pub asks_once_per_order : AsksOncePerOrder
asks_once_per_order book part parts turns reached cell goes =
    let asked = turns_ask cell turns (begun book part parts) reached goes in
    let first = next_asks (version_in []) [] 0 [] (orders_from book part parts 0) cell in
    let few = orders_few part parts book.orders book.pages in
    omega (arith, asked, first, few)
