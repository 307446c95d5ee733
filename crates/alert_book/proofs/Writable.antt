-- Each request of a book's session has a message that can be written.
use Rattle.std.proofs.Common.{◌≡◌, ◌∙◌, ℕ, Bool, true, false, ◌&&◌, nat_le, nat_lt, Option, Some, None, List, []}
use Rattle.std.proofs.Common.{◌∷◌, All, arith, eq-eqb, inl, inr, length, map, refl, subst, sym}
use Rattle.std.specs.List.{flat_map, list_all}
use Rattle.std.specs.Str.{bytes_eq, chars}
use Rattle.std.proofs.lemmas.Bool.{and_from, and_parts, cases_Bool, le-leb, leb-true}
use Rattle.std.proofs.lemmas.List.{length-map}
use Rattle.std.proofs.lemmas.List.Elements.{All-cons, All-filter, All-head, All-map, All-nil, All-tail}
use Rattle.std.proofs.lemmas.List.Elements.{All-weaker, filter_passes}
use Rattle.cbs_page.specs.declared.coding.Alphabet.{Alphabet}
use Rattle.cbs_page.specs.declared.coding.Alphabet.TheVariants.{Gsm, Ucs2}
use Rattle.cbs_page.specs.declared.content.Content.{Content}
use Rattle.cbs_page.specs.declared.paging.Paged.{Paged}
use Rattle.cbs_page.specs.Coding.{language_value, languages, value_among, Language}
use Rattle.cbs_page.specs.Text.{alphabet_for, codes_of, coding_for}
use Rattle.cbs_page.specs.Text.{IsPagedText}
use Rattle.cbs_page.proofs.CuttingLaws.{AreContentsOf-length}
use Rattle.cbs_page.proofs.FullPages.{pages_fit}
use Rattle.cbsp_wire.specs.declared.message.Cell.{Cell}
use Rattle.cbsp_wire.specs.declared.message.message_type.Presence.TheVariants as presences
use Rattle.cbsp_wire.specs.Range.{are_distinct, cells_are_valid, has_alphabet, is_nothing}
use Rattle.cbsp_wire.specs.Range.{is_there_if, is_writable}
use Rattle.cbsp_wire.specs.Table.{presence_of, table}
use Rattle.alert_book.specs.declared.book.order.Action.{Action}
use Rattle.alert_book.specs.declared.book.order.Action.TheVariants as action
use Rattle.alert_book.specs.declared.book.order.Alert.{Alert}
use Rattle.alert_book.specs.declared.book.order.Order.{Order}
use Rattle.alert_book.specs.declared.book.order.Sending.{Sending}
use Rattle.alert_book.specs.declared.session.request.Request.{Request}
use Rattle.alert_book.specs.declared.session.request.Target.{Target}
use Rattle.alert_book.specs.Book.{sending_of, ArePagesOf, HavePages}
use Rattle.alert_book.specs.Session.{cells_with, has_cells, is_version, kill_of, orders_with, requests_by, stop_request}
use Rattle.alert_book.specs.Session.{target_of, targets_of, update_request, versions, write_of}
use Rattle.alert_book.specs.TurnLaws.{RequestsAreWritable}
use Rattle.alert_book.proofs.RightOrders.{distinct_filter, AreAsked, IsRight, IsRightAction}
use Rattle.alert_book.proofs.GroupOrders.{all_orders_are_right}
use Rattle.alert_book.proofs.Origins.{paged_from}
use Rattle.alert_book.proofs.TurnsAsk.{filter_le}
use Rattle.alert_book.proofs.TurnsKeep.{requests_kept}

-- the data coding of a text has an alphabet
same_value : (o : Option ℕ) (a b : ℕ) → o ≡ Some a → o ≡ Some b → a ≡ b
same_value o a b one other = cc

value_known : (ls : List Language) (word : List ℕ) (value : ℕ) →
    list_all (λ (l : Language). has_alphabet l.value) ls ≡ true → value_among ls word ≡ Some value →
    has_alphabet value ≡ true
value_known [] word value all is = absurd (cc is)
value_known (l ∷ ls) word value all is =
    let parts = and_parts (has_alphabet l.value) (list_all (λ (k : Language). has_alphabet k.value) ls) all in
    elim (cases_Bool (bytes_eq word l.word)) [
      | inl same ↦ subst (λ n. has_alphabet n ≡ true)
          (same_value (Some l.value) l.value value refl (rw same at is)) parts.0
      | inr other ↦ value_known ls word value parts.1 (rw other at is)
    ]

coding_known : (alphabet : Alphabet) (word : List ℕ) (value : ℕ) → language_value word ≡ Some value →
    has_alphabet (coding_for alphabet value) ≡ true
unfolding language_value
coding_known Gsm word value is = value_known languages word value refl is
coding_known Ucs2 word value is = refl

-- messages in range can be written
all_three : (a b c : Bool) → a ≡ true → b ≡ true → c ≡ true → (a && b && c) ≡ true
all_three a b c p q r = rw (p, q, r) refl

all_four : (a b c d : Bool) → a ≡ true → b ≡ true → c ≡ true → d ≡ true → (a && b && c && d) ≡ true
all_four a b c d p q r s = rw (p, q, r, s) refl

cells_there : (cells : List Cell) → is_nothing cells ≡ false → is_there_if presences.Mandatory cells ≡ true
cells_there [] some = absurd (cc some)
cells_there (c ∷ cs) some = refl

write_writable : (alert : Alert) (sending : Sending) (paged : Paged) (version : ℕ) (replaced : Option ℕ)
    (cells : List Cell) → IsRight sending → AreAsked cells →
    IsPagedText sending.language (chars sending.text) paged →
    is_writable (write_of alert sending paged version replaced cells) ≡ true
unfolding presence_of table
write_writable alert sending paged version replaced cells right asked sent =
    let alphabet = alphabet_for (chars sending.text) in
    let items : List Content = paged.pages.items in
    let fit = pages_fit alphabet sent.pieces items sent.paging.within sent.contents in
    let count : length items ≡ length sent.pieces =
    AreContentsOf-length alphabet (map (flat_map (codes_of alphabet)) sent.pieces) items sent.contents
    ∙ length-map sent.pieces (flat_map (codes_of alphabet)) in
    let pages = and_from (nat_le 1 (length items)) (nat_le (length items) 15)
    (le-leb 1 (length items) (omega (arith, count, sent.some)))
    (le-leb (length items) 15 (omega (arith, count, sent.few))) in
    let contents = and_from _ _ (and_from _ _ pages (eq-eqb (length items) (length items) refl)) fit.0 in
    let coding : has_alphabet paged.dcs.0 ≡ true = subst (λ n. has_alphabet n ≡ true) (sym sent.dcs)
    (coding_known alphabet sending.language sent.value sent.spoken) in
    all_four _ _ _ _
    (all_three _ _ _ contents (all_four _ _ _ _ right.period coding right.category refl)
    (all_three _ _ _ asked.valid refl refl))
    (cells_there cells asked.some) refl fit.1

kill_writable : (alert : Alert) (version : ℕ) (cells : List Cell) → AreAsked cells →
    is_writable (kill_of alert version cells) ≡ true
unfolding presence_of table
kill_writable alert version cells asked =
    all_four _ _ _ _ (all_three _ _ _ refl refl (all_three _ _ _ asked.valid refl refl))
    (cells_there cells asked.some) refl refl

-- the cells of a target may be asked
some_cells : (cells : List Cell) → nat_lt 0 (length cells) ≡ true → is_nothing cells ≡ false
some_cells [] some = absurd (cc some)
some_cells (c ∷ cs) some = refl

target_valid : (live : ℕ → Cell → Option ℕ) (number : ℕ) (cells : List Cell) (version : ℕ) →
    cells_are_valid cells ≡ true → cells_are_valid (cells_with live number version cells) ≡ true
target_valid live number cells version valid =
    let parts = and_parts (nat_le (length cells) 64) (are_distinct cells) valid in
    let few = leb-true (length cells) 64 parts.0 in
    let kept = filter_le (λ (c : Cell). is_version version (live number c)) cells in
    and_from (nat_le (length (cells_with live number version cells)) 64)
    (are_distinct (cells_with live number version cells))
    (le-leb (length (cells_with live number version cells)) 64 (omega (arith, few, kept)))
    (distinct_filter (λ (c : Cell). is_version version (live number c)) cells parts.1)

targets_asked : (live : ℕ → Cell → Option ℕ) (number : ℕ) (cells : List Cell) → AreAsked cells →
    All (λ (t : Target). AreAsked t.cells) (targets_of live number cells)
targets_asked live number cells asked =
    let all : List Target = map (target_of live number cells) versions in
    let valid : All (λ (t : Target). cells_are_valid t.cells ≡ true) all =
    All-map (λ (t : Target). cells_are_valid t.cells ≡ true) (target_of live number cells) versions
    (λ k d within. target_valid live number cells _ asked.valid) in
    let kept = All-filter has_cells (λ (t : Target). cells_are_valid t.cells ≡ true) all valid in
    let some = filter_passes has_cells all in
    λ k d within. record { valid = kept k d within; some = some_cells _ (some k d within) }

-- the requests of an order that is right, with its pages, can be written
abbrev pub CanBeWritten : Request → Type 0
CanBeWritten request = is_writable request.message ≡ true

-- so what an order asks, with its pages, can
pub requests_writable : (live : ℕ → Cell → Option ℕ) (order : Order) (sends : Action) (paged : Option Paged) →
    IsRightAction sends → ArePagesOf (sending_of sends) paged → All CanBeWritten (requests_by live order sends paged)
requests_writable live order (action.Write sending) None right pages = absurd pages
requests_writable live order (action.Write sending) (Some paged) right pages =
    All-cons CanBeWritten _ [] (write_writable order.alert sending paged 0 None sending.cells right right.cells pages)
    (All-nil CanBeWritten)
requests_writable live order (action.Update version sending) None right pages = absurd pages
requests_writable live order (action.Update version sending) (Some paged) right pages =
    let asked = targets_asked live order.number sending.cells right.cells in
    All-map CanBeWritten (update_request order sending paged version) (targets_of live order.number sending.cells)
    (All-weaker (λ (t : Target). AreAsked t.cells)
    (λ (t : Target). CanBeWritten (update_request order sending paged version t))
    (λ (t : Target) cells. write_writable order.alert sending paged version (Some t.version) t.cells right cells pages)
    (targets_of live order.number sending.cells) asked)
requests_writable live order (action.Stop cells) None right pages =
    let asked = targets_asked live order.number cells right in
    All-map CanBeWritten (stop_request order) (targets_of live order.number cells)
    (All-weaker (λ (t : Target). AreAsked t.cells) (λ (t : Target). CanBeWritten (stop_request order t))
    (λ (t : Target) some. kill_writable order.alert t.version t.cells some) (targets_of live order.number cells) asked)
requests_writable live order (action.Stop cells) (Some paged) right pages = absurd pages

-- so each request of a book's session can
abbrev pub IsReady : Order × Option Paged → Type 0
IsReady next = IsRightAction next.0.action × ArePagesOf (sending_of next.0.action) next.1

-- orders that are right, with their pages, are
pub orders_ready : (orders : List Order) (pages : List (Option Paged))
    → All (λ order. IsRightAction order.action) orders →
    HavePages orders pages → All IsReady (orders_with orders pages)
orders_ready [] [] right have = All-nil IsReady
orders_ready [] (paged ∷ pages) right have = absurd have
orders_ready (order ∷ orders) [] right have = absurd have
orders_ready (order ∷ orders) (paged ∷ pages) right have =
    All-cons IsReady (order, paged) (orders_with orders pages)
    (All-head (λ (o : Order). IsRightAction o.action) order orders right, have.0)
    (orders_ready orders pages (All-tail (λ (o : Order). IsRightAction o.action) order orders right) have.1)

-- by what its rows order
pub requests_are_writable : RequestsAreWritable
requests_are_writable from input book part parts turns reached is goes =
    requests_kept CanBeWritten IsReady
    (λ live next ready. requests_writable live next.0 next.0.action next.1 ready.0 ready.1) book part parts turns
    reached (orders_ready book.orders book.pages (all_orders_are_right from input book is)
    (paged_from from input book is)) goes
