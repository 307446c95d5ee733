-- A session asks a cell to replace or to stop what the cell accepted last, and nothing else.
use Rattle.std.proofs.Common.{◌≡◌, ℕ, zero, suc, ◌+◌, ◌<◌, ◌≤◌, ◌&&◌, Bool, true, false, cond, eqb, eqb-true, Option}
use Rattle.std.proofs.Common.{Some, None, List, [], ◌∷◌, ◌++◌, length, map, filter, get_or, All, refl, ap, sym, subst}
use Rattle.std.proofs.Common.{◌∙◌, arith}
use Rattle.std.specs.List.{Contains}
use Rattle.std.proofs.Math.Seq.{append_snoc, get_or-append_seam}
use Rattle.std.proofs.lemmas.Bool.{both_ways}
use Rattle.std.proofs.lemmas.List.{append-nil, length-append}
use Rattle.std.proofs.lemmas.List.Elements.{All-cons, All-contains_itself, All-filter, All-head, All-map, All-nil}
use Rattle.std.proofs.lemmas.List.Elements.{All-tail, All-weaker}
use Rattle.cbs_page.specs.declared.paging.Paged.{Paged}
use Rattle.cbsp_wire.specs.declared.message.Cell.{Cell}
use Rattle.cbsp_wire.specs.declared.message.Message.{Message}
use Rattle.alert_book.specs.declared.book.order.Action.{Action}
use Rattle.alert_book.specs.declared.book.order.Action.TheVariants as action
use Rattle.alert_book.specs.declared.book.order.Alert.{Alert}
use Rattle.alert_book.specs.declared.book.order.Order.{Order}
use Rattle.alert_book.specs.declared.book.order.Sending.{Sending}
use Rattle.reply_outcome.specs.declared.outcome.Outcome.{Outcome}
use Rattle.alert_book.specs.declared.session.request.Request.{Request}
use Rattle.alert_book.specs.declared.session.request.Target.{Target}
use Rattle.alert_book.specs.Book.{Contents}
use Rattle.alert_book.specs.LastAccepted.{HasAcceptedLast, LastAcceptedIsReplaced, Pair, pair_gone, pair_sent}
use Rattle.alert_book.specs.Session.{advanced, after_reply, due_requests, next_requests, found_first}
use Rattle.alert_book.specs.Session.{has_cells, is_of_part, is_version, orders_from, orders_with, outcome_in}
use Rattle.reply_outcome.specs.Replies.{outcome_of}
use Rattle.alert_book.specs.Session.{replies_with, requests_by, requests_of, serial_of, session_of, stop_request}
use Rattle.alert_book.specs.Session.{target_of, targets_of, update_request, version_in, version_after_reply, versions}
use Rattle.alert_book.specs.Session.{Replied, Standing}
use Rattle.alert_book.specs.Turns.{begun, GoesTo, Turn}
use Rattle.alert_book.proofs.LastAccepted.{AcceptedVersion, AreOfTurns, of_turns_more}
use Rattle.alert_book.proofs.GroupOrders.{all_alerts_are_one}
use Rattle.alert_book.proofs.TurnsAsk.{asks, filter_more, one_if, row_asks_once, sent_asks, version_is}
use Rattle.alert_book.proofs.TurnsKeep.{requests_kept}

-- the version of an alert by its update number
abbrev pair_of : Alert → (version : ℕ) → Pair
pair_of alert version = (alert.id, serial_of alert version)

-- a request of an order of these, which sends the version that it says; where it replaces or stops a version, that is
-- the one believed live in each cell that it asks
record IsAimed (orders : List Order) (live : ℕ → Cell → Option ℕ) (request : Request) : Type 0 where
  pub order : Order
  pub there : Contains orders order
  pub number : request.number ≡ order.number
  pub sent : (version : ℕ) → request.version ≡ Some version
      → pair_sent request.message ≡ Some (pair_of order.alert version)
  pub gone : (pair : Pair) → pair_gone request.message ≡ Some pair
      → (version : ℕ) × (pair ≡ pair_of order.alert version)
      × ((cell : Cell) → asks cell request ≡ true → live request.number cell ≡ Some version)

some_same : (a b : ℕ) → Some a ≡ Some b → a ≡ b
some_same a b same = cc

some_pair : (a b : Pair) → Some a ≡ Some b → a ≡ b
some_pair a b same = cc

some_request : (a b : Request) → Some a ≡ Some b → a ≡ b
some_request a b same = cc

version_told : (version : ℕ) (live : Option ℕ) → is_version version live ≡ true → live ≡ Some version
version_told version None is = absurd (both_ways false refl is)
version_told version (Some n) is = ap (λ (k : ℕ). Some k) (eqb-true n version is)

-- so are the requests of a row
stops_aimed : (orders : List Order) (live : ℕ → Cell → Option ℕ) (order : Order) (cells : List Cell)
    → Contains orders order
    → All (IsAimed orders live) (map (stop_request order) (targets_of live order.number cells))
stops_aimed orders live order cells there =
    All-map (IsAimed orders live) (stop_request order) (targets_of live order.number cells)
    (All-filter has_cells (λ (t : Target). IsAimed orders live (stop_request order t))
    (map (target_of live order.number cells) versions)
    (All-map (λ (t : Target). IsAimed orders live (stop_request order t)) (target_of live order.number cells) versions
    (λ k d within. record {
      order = order;
      there = there;
      number = refl;
      sent = λ version is. absurd (cc is);
      gone = λ pair is.
          let version : ℕ = get_or versions k d in (
            version,
            sym (some_pair (pair_of order.alert version) pair is),
            λ cell asked. version_told version (live order.number cell)
                (version_is live order.number cell cells version asked),
          );
    })))

updates_aimed : (orders : List Order) (live : ℕ → Cell → Option ℕ) (order : Order) (sending : Sending) (paged : Paged)
    (number : ℕ) → Contains orders order
    → All (IsAimed orders live)
    (map (update_request order sending paged number) (targets_of live order.number sending.cells))
updates_aimed orders live order sending paged number there =
    All-map (IsAimed orders live) (update_request order sending paged number)
    (targets_of live order.number sending.cells)
    (All-filter has_cells (λ (t : Target). IsAimed orders live (update_request order sending paged number t))
    (map (target_of live order.number sending.cells) versions)
    (All-map (λ (t : Target). IsAimed orders live (update_request order sending paged number t))
    (target_of live order.number sending.cells) versions (λ k d within. record {
      order = order;
      there = there;
      number = refl;
      sent = λ version is. ap (λ (n : ℕ). Some (pair_of order.alert n)) (some_same number version is);
      gone = λ pair is.
          let version : ℕ = get_or versions k d in (
            version,
            sym (some_pair (pair_of order.alert version) pair is),
            λ cell asked. version_told version (live order.number cell)
                (version_is live order.number cell sending.cells version asked),
          );
    })))

row_aimed : (orders : List Order) (live : ℕ → Cell → Option ℕ) (order : Order) (sends : Action) (paged : Option Paged)
    → Contains orders order → All (IsAimed orders live) (requests_by live order sends paged)
row_aimed orders live order (action.Write sending) None there = All-nil (IsAimed orders live)
row_aimed orders live order (action.Write sending) (Some paged) there =
    All-cons (IsAimed orders live) _ [] (record {
      order = order;
      there = there;
      number = refl;
      sent = λ version is. ap (λ (n : ℕ). Some (pair_of order.alert n)) (some_same 0 version is);
      gone = λ pair is. absurd (cc is);
    }) (All-nil (IsAimed orders live))
row_aimed orders live order (action.Update number sending) None there = All-nil (IsAimed orders live)
row_aimed orders live order (action.Update number sending) (Some paged) there =
    updates_aimed orders live order sending paged number there
row_aimed orders live order (action.Stop cells) None there = stops_aimed orders live order cells there
row_aimed orders live order (action.Stop cells) (Some paged) there = stops_aimed orders live order cells there

-- of requests, no two ask one cell; and the orders after them are of these
abbrev AskOnce : List Request → Type 0
AskOnce requests = (cell : Cell) → length (filter (asks cell) requests) ≤ 1

abbrev AreOfThese : List Order → List (Order × Option Paged) → Type 0
AreOfThese orders left = All (λ next. Contains orders next.0) left

record AreAimed (orders : List Order) (live : ℕ → Cell → Option ℕ)
    (requests : List Request × List (Order × Option Paged)) : Type 0 where
  pub due : All (IsAimed orders live) requests.0
  pub once : AskOnce requests.0
  pub left : AreOfThese orders requests.1

-- of the first row that gives a request, or a later one
found_aimed : (orders : List Order) (live : ℕ → Cell → Option ℕ) (found : List Request)
    (left : List (Order × Option Paged)) (later : List Request × List (Order × Option Paged))
    → All (IsAimed orders live) found → AskOnce found → AreOfThese orders left → AreAimed orders live later
    → AreAimed orders live (found_first found left later)
found_aimed orders live [] left later here once rest after = after
found_aimed orders live (request ∷ due) left later here once rest after =
    record { due = here; once = once; left = rest }

first_aimed : (orders : List Order) (live : ℕ → Cell → Option ℕ) (left : List (Order × Option Paged))
    → AreOfThese orders left → AreAimed orders live (next_requests live left)
first_aimed orders live [] these =
    record { due = All-nil (IsAimed orders live); once = λ cell. omega arith; left = these }
first_aimed orders live (next ∷ left) these =
    let rest = All-tail (λ (n : Order × Option Paged). Contains orders n.0) next left these in
    found_aimed orders live (requests_of live next.0 next.1) left (next_requests live left)
    (row_aimed orders live next.0 next.0.action next.1
    (All-head (λ (n : Order × Option Paged). Contains orders n.0) next left these))
    (λ cell. row_asks_once live next.0 next.0.action next.1 cell) rest (first_aimed orders live left rest)

due_aimed : (orders : List Order) (live : ℕ → Cell → Option ℕ) (due : List Request)
    (left : List (Order × Option Paged)) → All (IsAimed orders live) due → AskOnce due → AreOfThese orders left
    → AreAimed orders live (due_requests live due left)
due_aimed orders live [] left here once these = first_aimed orders live left these
due_aimed orders live (request ∷ due) left here once these = record { due = here; once = once; left = these }

-- a session whose request, and those that are due, are so; no two of them ask one cell
record IsAimedAll (orders : List Order) (s : Standing) : Type 0 where
  pub sent : (request : Request) → s.sent ≡ Some request → IsAimed orders (version_in s.replies) request
  pub due : All (IsAimed orders (version_in s.replies)) s.due
  pub once : (cell : Cell) → sent_asks cell s.sent + length (filter (asks cell) s.due) ≤ 1
  pub left : AreOfThese orders s.left

advanced_aimed : (orders : List Order) (replies : List Replied) (row : ℕ) (due : List Request)
    (left : List (Order × Option Paged)) → AreAimed orders (version_in replies) (due, left)
    → IsAimedAll orders (advanced replies row (due, left))
advanced_aimed orders replies row [] left are = record {
  sent = λ request is. absurd (cc is);
  due = All-nil (IsAimed orders (version_in replies));
  once = λ cell. omega arith;
  left = are.left;
}
advanced_aimed orders replies row (first ∷ due) left are = record {
  sent = λ request is. subst (IsAimed orders (version_in replies)) (some_request first request is)
      (All-head (IsAimed orders (version_in replies)) first due are.due);
  due = All-tail (IsAimed orders (version_in replies)) first due are.due;
  once = λ cell.
      let more = filter_more (asks cell) first due in
      let few = are.once cell in
      omega (arith, more, few);
  left = are.left;
}

-- a reply says nothing of the cells that its request doesn't ask
same_version : (number_same asked : Bool) (said before : Option ℕ) → asked ≡ false
    → cond (number_same && asked) said before ≡ before
same_version true asked said before none = ap (λ b. cond b said before) none
same_version false asked said before none = refl

unasked : (here : Bool) → one_if here ≡ 0 → here ≡ false
unasked true none = absurd (omega (arith, none))
unasked false none = refl

still_aimed : (orders : List Order) (replies : List Replied) (sent : Option Request) (outcome : Option Outcome)
    (request : Request) → ((cell : Cell) → asks cell request ≡ true → sent_asks cell sent ≡ 0)
    → IsAimed orders (version_in replies) request
    → IsAimed orders (version_in (replies_with sent outcome replies)) request
still_aimed orders replies None outcome request apart aimed = aimed
still_aimed orders replies (Some last) None request apart aimed = aimed
still_aimed orders replies (Some last) (Some outcome) request apart aimed = record {
  order = aimed.order;
  there = aimed.there;
  number = aimed.number;
  sent = aimed.sent;
  gone = λ pair is.
      let was = aimed.gone pair is in (
        was.0,
        was.1,
        λ cell asked. same_version (eqb last.number request.number) (asks cell last)
            (version_after_reply last outcome cell (version_in replies request.number cell))
            (version_in replies request.number cell) (unasked (asks cell last) (apart cell asked))
            ∙ was.2 cell asked,
      );
}

some_kept : {X : Type 0} (p : X → Bool) (xs : List X) (k : ℕ) (d : X) → k < length xs → p (get_or xs k d) ≡ true
    → 1 ≤ length (filter p xs)
some_kept p [] k d within passes = absurd (omega (arith, within))
some_kept p (x ∷ xs) zero d within passes =
    let more = filter_more p x xs in
    let here : one_if (p x) ≡ 1 = ap one_if passes in
    omega (arith, more, here)
some_kept p (x ∷ xs) (suc k) d within passes =
    let more = filter_more p x xs in
    let rest = some_kept p xs k d (omega (arith, within)) passes in
    omega (arith, more, rest)

after_aimed : (orders : List Order) (reply : Option Message) (s : Standing) → IsAimedAll orders s
    → IsAimedAll orders (after_reply reply s)
after_aimed orders reply s aimed =
    let replies : List Replied = replies_with s.sent (outcome_in s.sent reply) s.replies in
    let next = due_requests (version_in replies) s.due s.left in
    let due : All (IsAimed orders (version_in replies)) s.due = λ k d within.
    still_aimed orders s.replies s.sent (outcome_in s.sent reply) (get_or s.due k d)
    (λ cell asked.
    let few = aimed.once cell in
    let here = some_kept (asks cell) s.due k d within asked in
    omega (arith, few, here)) (aimed.due k d within) in
    let once : AskOnce s.due = λ cell. (let few = aimed.once cell in omega (arith, few)) in
    let so = due_aimed orders (version_in replies) s.due s.left due once aimed.left in
    advanced_aimed orders replies s.row next.0 next.1 so

-- after some turns of a session: the next request, which is so, and what is believed live is what was accepted last
record IsAt (orders : List Order) (turns : List Turn) (request : Request) : Type 0 where
  pub replies : List Replied
  pub aimed : IsAimed orders (version_in replies) request
  pub believed : AreOfTurns turns replies

replies_said : (turns : List Turn) (turn : Turn) (s : Standing) → s.sent ≡ Some turn.request
    → AreOfTurns turns s.replies → AreOfTurns (turns ++ turn ∷ []) (after_reply (Some turn.reply) s).replies
replies_said turns turn s sent so =
    let replies : List Replied = replies_with (Some turn.request) (outcome_of turn.request.message turn.reply) s.replies
    in
    let same : (after_reply (Some turn.reply) s).replies ≡ replies =
    kept_replies (replies_with s.sent (outcome_in s.sent (Some turn.reply)) s.replies) s.row
    (due_requests (version_in (replies_with s.sent (outcome_in s.sent (Some turn.reply)) s.replies)) s.due s.left)
    ∙ ap (λ (o : Option Request). replies_with o (outcome_in o (Some turn.reply)) s.replies) sent in
    subst (AreOfTurns (turns ++ turn ∷ [])) (sym same) (of_turns_more turns turn s.replies so)
  where
    by_due : (replies : List Replied) (row : ℕ) (due : List Request) (left : List (Order × Option Paged))
        → (advanced replies row (due, left)).replies ≡ replies
    by_due replies row [] left = refl
    by_due replies row (request ∷ due) left = refl

    kept_replies : (replies : List Replied) (row : ℕ) (found : List Request × List (Order × Option Paged))
        → (advanced replies row found).replies ≡ replies
    kept_replies replies row found = by_due replies row found.0 found.1

goes_at : (orders : List Order) (before front later : List Turn) (turn : Turn) (from to : Standing)
    → IsAimedAll orders from → AreOfTurns before from.replies → GoesTo from (front ++ turn ∷ later) to
    → IsAt orders (before ++ front) turn.request
goes_at orders before [] later turn from to aimed believed goes = record {
  replies = from.replies;
  aimed = aimed.sent turn.request goes.0;
  believed = subst (λ (turns : List Turn). AreOfTurns turns from.replies) (sym (append-nil before)) believed;
}
goes_at orders before (first ∷ front) later turn from to aimed believed goes =
    subst (λ (turns : List Turn). IsAt orders turns turn.request) (append_snoc before first front)
    (goes_at orders (before ++ first ∷ []) front later turn (after_reply (Some first.reply) from) to
    (after_aimed orders (Some first.reply) from aimed) (replies_said before first from goes.0 believed) goes.1)

-- each request of a session is of an order of its book
abbrev IsOfOrders : List Order → Request → Type 0
IsOfOrders orders request =
    (order : Order) × Contains orders order × (request.number ≡ order.number)
    × ((version : ℕ) → request.version ≡ Some version
    → pair_sent request.message ≡ Some (pair_of order.alert version))

requests_are : (orders : List Order) (live : ℕ → Cell → Option ℕ) (next : Order × Option Paged)
    → Contains orders next.0 → All (IsOfOrders orders) (requests_of live next.0 next.1)
requests_are orders live next there =
    All-weaker (IsAimed orders live) (IsOfOrders orders)
    (λ request aimed. (aimed.order, aimed.there, aimed.number, aimed.sent))
    (requests_of live next.0 next.1) (row_aimed orders live next.0 next.0.action next.1 there)

-- the orders of a book, with their pages, are its orders
orders_known : (all orders : List Order) (pages : List (Option Paged)) → All (Contains all) orders
    → AreOfThese all (orders_with orders pages)
orders_known all [] [] known = All-nil (λ (n : Order × Option Paged). Contains all n.0)
orders_known all [] (paged ∷ pages) known = All-nil (λ (n : Order × Option Paged). Contains all n.0)
orders_known all (order ∷ orders) [] known = All-nil (λ (n : Order × Option Paged). Contains all n.0)
orders_known all (order ∷ orders) (paged ∷ pages) known =
    All-cons (λ (n : Order × Option Paged). Contains all n.0) (order, paged) (orders_with orders pages)
    (All-head (Contains all) order orders known)
    (orders_known all orders pages (All-tail (Contains all) order orders known))

-- what holds of each element of a list holds of one between others
between : {X : Type 0} (P : X → Type 0) (before : List X) (x : X) (later : List X) → All P (before ++ x ∷ later) → P x
between P before x later all =
    let long = length-append before (x ∷ later) in
    subst P (get_or-append_seam before x later x) (all (length before) x (omega (arith, long)))

front_of : {X : Type 0} (P : X → Type 0) (front later : List X) → All P (front ++ later) → All P front
front_of P [] later all = All-nil P
front_of P (x ∷ front) later all =
    All-cons P x front (All-head P x (front ++ later) all)
    (front_of P front later (All-tail P x (front ++ later) all))

-- a session's beginning is so
begun_aimed : (book : Contents) (part parts : ℕ) → IsAimedAll book.orders (begun book part parts)
begun_aimed book part parts =
    after_aimed book.orders None (session_of book part parts) (record {
      sent = λ request none. absurd (cc none);
      due = All-nil (IsAimed book.orders (version_in []));
      once = λ cell. omega arith;
      left = All-filter (is_of_part part parts) (λ (n : Order × Option Paged). Contains book.orders n.0)
          (orders_with book.orders book.pages)
          (orders_known book.orders book.orders book.pages (All-contains_itself book.orders));
    })

begun_believes : (book : Contents) (part parts : ℕ) → AreOfTurns [] (begun book part parts).replies
begun_believes book part parts = by_found (due_requests (version_in []) [] (orders_from book part parts 0))
  where
    by_due : (due : List Request) (left : List (Order × Option Paged))
        → AreOfTurns [] (advanced [] 0 (due, left)).replies
    by_due [] left = λ number cell version none. absurd (cc none)
    by_due (request ∷ due) left = λ number cell version none. absurd (cc none)

    by_found : (found : List Request × List (Order × Option Paged)) → AreOfTurns [] (advanced [] 0 found).replies
    by_found found = by_due found.0 found.1

-- and the turns before one are of orders of the book
before_are : (book : Contents) (part parts : ℕ) (before later : List Turn) (turn : Turn) (reached : Standing)
    → GoesTo (begun book part parts) (before ++ turn ∷ later) reached
    → All (λ t. IsOfOrders book.orders t.request) before
before_are book part parts before later turn reached goes =
    front_of (λ (t : Turn). IsOfOrders book.orders t.request) before (turn ∷ later)
    (requests_kept (IsOfOrders book.orders) (λ (n : Order × Option Paged). Contains book.orders n.0)
    (requests_are book.orders) book part parts (before ++ turn ∷ later) reached
    (orders_known book.orders book.orders book.pages (All-contains_itself book.orders)) goes)

-- where orders of one number are of one alert, the version that was accepted last is the one that is replaced or
-- stopped
abbrev AreOneAlert : List Order → Type 0
AreOneAlert orders =
    (a b : Order) → Contains orders a → Contains orders b → a.number ≡ b.number → a.alert ≡ b.alert

with_pair : (orders : List Order) (turns : List Turn) (request : Request) (order : Order) (cell : Cell)
    (version : ℕ) (pair : Pair) → AreOneAlert orders → All (λ t. IsOfOrders orders t.request) turns
    → Contains orders order → request.number ≡ order.number → pair ≡ pair_of order.alert version
    → AcceptedVersion turns request.number cell version → HasAcceptedLast turns request.number cell pair
with_pair orders turns request order cell version pair one are there number gone was =
    let of_order : IsOfOrders orders was.turn.request =
    between (λ (t : Turn). IsOfOrders orders t.request) was.before was.turn was.later
    (subst (All (λ (t : Turn). IsOfOrders orders t.request)) was.split are) in
    let alert : of_order.0.alert ≡ order.alert =
    one of_order.0 order of_order.1 there (sym of_order.2 ∙ was.asked.0 ∙ number) in
    let same : pair_of of_order.0.alert version ≡ pair = ap (λ (a : Alert). pair_of a version) alert ∙ sym gone in
    record {
      before = was.before;
      turn = was.turn;
      later = was.later;
      split = was.split;
      asked = was.asked;
      sent = of_order.3 version was.given ∙ ap (λ (p : Pair). Some p) same;
      accepted = was.accepted;
      last = was.last;
    }

-- so a session replaces and stops what was accepted last
pub last_accepted_is_replaced : LastAcceptedIsReplaced
last_accepted_is_replaced from input book part parts before later turn reached cell version is goes asked gone =
    by_aim (goes_at book.orders [] before later turn (begun book part parts) reached (begun_aimed book part parts)
    (begun_believes book part parts) goes)
  where
    by_aim : IsAt book.orders before turn.request → HasAcceptedLast before turn.request.number cell version
    by_aim at =
        let aim = at.aimed.gone version gone in
        with_pair book.orders before turn.request at.aimed.order cell aim.0 version
        (all_alerts_are_one from input book is)
        (before_are book part parts before later turn reached goes) at.aimed.there at.aimed.number aim.1
        (at.believed turn.request.number cell aim.0 (aim.2 cell asked))
