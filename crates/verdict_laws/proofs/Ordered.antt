-- The messages that the rows of a history's own orders have the cell broadcast are those that it was asked, one for
-- one.
use Rattle.std.proofs.Common.{◌≡◌, ℕ, ◌+◌, ◌≤◌, Bool, true, false, cond, Option, Some, None, List, [], ◌∷◌, ◌++◌}
use Rattle.std.proofs.Common.{find, length, refl, sym, ap, subst, ◌∙◌, arith, inl, inr}
use Rattle.std.specs.Prelude.{⊤, ◌||◌, ◌==◌, ◌⊎◌, IfSome, option_and_then, option_map}
use Rattle.std.specs.List.{All, AllByRecursion, flat_map, list_any}
use Rattle.std.proofs.Math.Bool.{or-false}
use Rattle.std.proofs.lemmas.Bool.{le-leb, ne_eqb}
use Rattle.std.proofs.lemmas.List.Folds.{list_any-append}
use Rattle.cbs_page.specs.declared.coding.Dcs.{Dcs}
use Rattle.cbs_page.specs.declared.content.Content.{Content}
use Rattle.bsc_table.specs.declared.command.Category.{Category}
use Rattle.bsc_table.specs.declared.command.Category.TheVariants.{High, Normal, Background}
use Rattle.bsc_table.specs.declared.command.Command.{Command}
use Rattle.bsc_table.specs.declared.command.Command.TheVariants as commands
use Rattle.bsc_table.specs.declared.entry.Answer.{Answer}
use Rattle.bsc_table.specs.declared.entry.Answer.TheVariants as answers
use Rattle.bsc_table.specs.declared.entry.Entry.{Entry}
use Rattle.bsc_table.specs.Orders.{IsBroadcastable, IsWellFormed}
use Rattle.bsc_table.specs.Record.{Record, is_background_category, is_stop_of, start_of}
use Rattle.bsc_table.specs.Reported.{completed_in}
use Rattle.cell_orders.specs.declared.row.CellOrder.TheVariants as rows
use Rattle.cell_orders.specs.declared.row.OrderRow.{OrderRow}
use Rattle.record_orders.specs.Ordered.{category_number, rows_of_entry, took_order}
use Rattle.verification.specs.Asked.{AskedMessage, asked_from, asked_of_entry, asked_of_log, stop_among}
use Rattle.order_verdict.specs.Ordered.{OrderedMessage, asked_from_slot, begins_row, broadcasts_due, ends_row}
use Rattle.order_verdict.specs.Ordered.{latest_slot, ordered_after, ordered_by, ordered_of_row, row_slot}
use Rattle.order_verdict.specs.Ordered.{slot_among, tape_stop, told_by}
use Rattle.verdict_laws.proofs.Answered.{Fits, IsKnown}
use Rattle.verdict_laws.proofs.Names.{AreApart, apart-behind, none-before, none-behind}
use Rattle.verdict_laws.proofs.Rows.{Ending, HasNone, HasRow, ending, is_named, none-asked, order_of, own_row}
use Rattle.verdict_laws.proofs.Rows.{row-begins, row-of, rows-begin}

-- a message without its stop
abbrev pub unstopped : AskedMessage → AskedMessage
unstopped a = record a { stop = None }

-- an entry stopped a message, whose orders say that and what it answered; or none did
pub record IsEnded (r : Record) (id serial : ℕ) (stop said : Option ℕ) (e : Entry) : Type 0 where
  pub known : IsKnown r e
  pub stops : is_stop_of id serial e ≡ true
  pub ended : stop ≡ Some e.slot
  pub told : said ≡ completed_in e.answer

-- the contents of a message fit its pages
pub record AreWhole (contents : List Content) : Type 0 where
  pub used : All (λ c. c.used ≤ 82) contents
  pub full : All (λ c. length c.octets ≡ 82) contents

-- a message of the rows is one that was asked
pub record IsAs (r : Record) (m : OrderedMessage) (a : AskedMessage) : Type 0 where
  pub late : m.late ≡ a
  pub early : m.early ≡ unstopped a
  pub since : m.since ≡ 0
  pub until : m.until ≡ None
  pub whole : AreWhole a.contents
  pub end : (m.ended ≡ None) ⊎ ((e : Entry) × IsEnded r a.id a.serial m.ended m.told e)

-- lists of them, one for one
abbrev pub AreAs : (r : Record) → List OrderedMessage → List AskedMessage → Type 0
AreAs r [] [] = ⊤
AreAs r [] (a ∷ xs) = ⊥
AreAs r (m ∷ ms) [] = ⊥
AreAs r (m ∷ ms) (a ∷ xs) = IsAs r m a × AreAs r ms xs

joined : (r : Record) (ms more : List OrderedMessage) (xs others : List AskedMessage) → AreAs r ms xs →
    AreAs r more others → AreAs r (ms ++ more) (xs ++ others)
joined r [] more [] others all also = also
joined r [] more (a ∷ xs) others all also = absurd all
joined r (m ∷ ms) more [] others all also = absurd all
joined r (m ∷ ms) more (a ∷ xs) others all also = (all.0, joined r ms more xs others all.1 also)

-- the slots of a run fit
slot-fits : (slot : ℕ) → slot ≤ 65535 → row_slot slot ≡ slot
slot-fits slot few =
    ap (λ fits. cond fits slot latest_slot) (le-leb slot latest_slot (omega (arith, few)))

stop-fits : (slot : ℕ) → slot ≤ 65535 → tape_stop (slot + 0) ≡ Some slot
stop-fits slot few =
    let same : slot + 0 ≡ slot = omega arith in
    ap tape_stop same ∙ ap (λ fits. cond fits (Some slot) None) (le-leb slot 65535 few)

-- what an order asks for is what was asked
background-is : (category : Category) → (category_number category == 1) ≡ is_background_category category
background-is High = refl
background-is Normal = refl
background-is Background = refl

some-period : (period : ℕ) → 1 ≤ period → (period == 0) ≡ false
some-period period some = ne_eqb period 0 (λ none. omega (arith, none, some))

asked-is : (id serial dcs : ℕ) (contents : List Content) (from start : ℕ) (category : Category)
    (period broadcasts : ℕ) (stop slot : Option ℕ) → 1 ≤ period → from ≡ start → stop ≡ slot →
    asked_from_slot id serial dcs contents from (category_number category) period broadcasts stop
    ≡ record {
      id = id;
      serial = serial;
      dcs = dcs;
      contents = contents;
      start = start;
      period = period;
      broadcasts = broadcasts;
      stop = slot;
      background = is_background_category category;
    }
asked-is id serial dcs contents from start category period broadcasts stop slot some start_is stop_is =
    let whole : (start broadcasts : ℕ) → Option ℕ → Bool → AskedMessage = λ s n e b. record {
      id = id;
      serial = serial;
      dcs = dcs;
      contents = contents;
      start = s;
      period = period;
      broadcasts = n;
      stop = e;
      background = b;
    } in
    ap (λ s. whole s (broadcasts_due period broadcasts) stop
    ((category_number category == 1) || (period == 0))) start_is
    ∙ ap (λ none. whole start (cond none 0 broadcasts) stop ((category_number category == 1) || none))
    (some-period period some)
    ∙ ap (λ e. whole start broadcasts e ((category_number category == 1) || false)) stop_is
    ∙ ap (λ b. whole start broadcasts slot b) (or-false (category_number category == 1) ∙ background-is category)

-- nothing is found where nothing passes
none-found : {X : Type 0} (test : X → Bool) (xs : List X) → list_any test xs ≡ false → find test xs ≡ None
none-found test [] none = refl
none-found test (x ∷ xs) none = by_test (test x) (list_any test xs) refl none (none-found test xs)
  where
    by_test : (here there : Bool) → test x ≡ here → (here || there) ≡ false →
        (there ≡ false → find test xs ≡ None) → cond (test x) (Some x) (find test xs) ≡ None
    by_test true there says none rest = cc
    by_test false there says none rest =
        ap (λ found. cond found (Some x) (find test xs)) says ∙ rest none

-- the message that an entry adds
pub record IsNew (r : Record) (before : List OrderRow) (later : List Entry) (a : AskedMessage) : Type 0 where
  pub few : (e : Entry) → IsKnown r e → e.slot ≤ 65535
  pub all : AllByRecursion (IsKnown r) later
  pub first : list_any (begins_row a.id a.serial) before ≡ false
  pub last : list_any (is_named a.id a.serial) (asked_of_log later) ≡ false

stop-is : (r : Record) (id serial : ℕ) (later : List Entry) → ((e : Entry) → IsKnown r e → e.slot ≤ 65535) →
    Ending r id serial later →
    option_and_then (λ slot. tape_stop (slot + 0)) (slot_among (ends_row id serial) (flat_map rows_of_entry later))
    ≡ stop_among later id serial
stop-is r id serial later few (inl none) =
    ap (λ row. option_and_then (λ slot. tape_stop (slot + 0))
    (option_map (λ (row : OrderRow). row_slot row.at) row)) none.row
    ∙ sym (ap (option_map (λ (e : Entry). e.slot)) none.found)
stop-is r id serial later few (inr some) =
    ap (λ row. option_and_then (λ slot. tape_stop (slot + 0))
    (option_map (λ (row : OrderRow). row_slot row.at) row)) some.1.row
    ∙ ap (λ slot. tape_stop (slot + 0)) (slot-fits some.0.slot (few some.0 some.1.known))
    ∙ stop-fits some.0.slot (few some.0 some.1.known)
    ∙ sym (ap (option_map (λ (e : Entry). e.slot)) some.1.found)

end-is : (r : Record) (id serial : ℕ) (later : List Entry) (ended told : Option ℕ) →
    ((e : Entry) → IsKnown r e → e.slot ≤ 65535) →
    ended ≡ slot_among (ends_row id serial) (flat_map rows_of_entry later) →
    told ≡ option_and_then (λ (row : OrderRow). told_by row.order)
    (find (ends_row id serial) (flat_map rows_of_entry later)) →
    Ending r id serial later → (ended ≡ None) ⊎ ((e : Entry) × IsEnded r id serial ended told e)
end-is r id serial later ended told few ended_is told_is (inl none) =
    inl (ended_is ∙ ap (option_map (λ (row : OrderRow). row_slot row.at)) none.row)
end-is r id serial later ended told few ended_is told_is (inr some) = inr (
  some.0,
  record {
    known = some.1.known;
    stops = some.1.stops;
    ended = ended_is ∙ ap (option_map (λ (row : OrderRow). row_slot row.at)) some.1.row
        ∙ ap Some (slot-fits some.0.slot (few some.0 some.1.known));
    told = told_is ∙ ap (option_and_then (λ (row : OrderRow). told_by row.order)) some.1.row ∙ some.1.told;
  },
)

-- it is as the row of the entry says
new-is : (r : Record) (before : List OrderRow) (later : List Entry) (id serial : ℕ) (replaces : Option ℕ)
    (category : Category) (dcs : Dcs) (period broadcasts : ℕ) (contents : List Content) (at start : ℕ)
    (number : Option ℕ) → IsBroadcastable period dcs contents → at ≡ start →
    AllByRecursion (IsNew r before later)
    (asked_from (Some start) (commands.Write id serial replaces category dcs period broadcasts contents) later) →
    AreAs r
    (ordered_by 0 at (rows.Write id serial replaces (category_number category) period broadcasts dcs contents
    (took_order number)) before (flat_map rows_of_entry later))
    (asked_from (Some start) (commands.Write id serial replaces category dcs period broadcasts contents) later)
new-is r before later id serial replaces category dcs period broadcasts contents at start number formed at_is new = (
  record {
    late = asked-is id serial dcs.0 contents (at + 0) start category period broadcasts
        (option_and_then (λ slot. tape_stop (slot + 0))
        (slot_among (ends_row id serial) (flat_map rows_of_entry later))) (stop_among later id serial)
        formed.some_period (omega (arith, at_is))
        (stop-is r id serial later new.0.few (ending r id serial later new.0.all));
    early = asked-is id serial dcs.0 contents at start category period broadcasts None None formed.some_period at_is
        refl;
    since = ap (λ known. cond known at 0) new.0.first;
    until = ap (option_map (λ (row : OrderRow). row_slot row.at))
        (none-found (begins_row id serial) (flat_map rows_of_entry later)
        (rows-begin r id serial later new.0.all ∙ new.0.last));
    whole = record { used = formed.used; full = formed.full };
    end = end-is r id serial later (slot_among (ends_row id serial) (flat_map rows_of_entry later))
        (option_and_then (λ (row : OrderRow). told_by row.order)
        (find (ends_row id serial) (flat_map rows_of_entry later))) new.0.few refl refl
        (ending r id serial later new.0.all);
  },
  tt,
)

-- what an entry's row orders is what the entry asks
added : (r : Record) (before : List OrderRow) (later : List Entry) (slot : ℕ) (command : Command) (answer : Answer) →
    slot ≤ 65535 → Fits command answer → IsWellFormed command → IfSome (start_of answer) (λ start. start ≡ slot) →
    AllByRecursion (IsNew r before later) (asked_from (start_of answer) command later) →
    AreAs r (ordered_by 0 (row_slot slot) (order_of command answer) before (flat_map rows_of_entry later))
    (asked_from (start_of answer) command later)
added r before later slot (commands.Status id serial) answer few fits formed at_once new =
    subst (AreAs r []) (sym (none-asked (start_of answer) id serial later)) tt
added r before later slot (commands.Kill id serial) (answers.Stopped completed) few fits formed at_once new = tt
added r before later slot (commands.Kill id serial) (answers.Cause cause) few fits formed at_once new = tt
added r before later slot (commands.Kill id serial) (answers.Started start) few fits formed at_once new = absurd fits
added r before later slot (commands.Kill id serial) (answers.Replaced start completed) few fits formed at_once new =
    absurd fits
added r before later slot (commands.Kill id serial) (answers.Told completed state) few fits formed at_once new =
    absurd fits
added r before later slot (commands.Kill id serial) answers.Unknown few fits formed at_once new = absurd fits
added r before later slot (commands.Kill id serial) answers.Refused few fits formed at_once new = absurd fits
added r before later slot (commands.Write id serial None category dcs period broadcasts contents)
    (answers.Started start) few fits formed at_once new =
    new-is r before later id serial None category dcs period broadcasts contents (row_slot slot) start None formed
    (slot-fits slot few ∙ sym at_once) new
added r before later slot (commands.Write id serial None category dcs period broadcasts contents)
    (answers.Cause cause) few fits formed at_once new = tt
added r before later slot (commands.Write id serial None category dcs period broadcasts contents)
    (answers.Replaced start completed) few fits formed at_once new = absurd fits
added r before later slot (commands.Write id serial None category dcs period broadcasts contents)
    (answers.Stopped completed) few fits formed at_once new = absurd fits
added r before later slot (commands.Write id serial None category dcs period broadcasts contents)
    (answers.Told completed state) few fits formed at_once new = absurd fits
added r before later slot (commands.Write id serial None category dcs period broadcasts contents) answers.Unknown few
    fits formed at_once new = absurd fits
added r before later slot (commands.Write id serial None category dcs period broadcasts contents) answers.Refused few
    fits formed at_once new = absurd fits
added r before later slot (commands.Write id serial (Some old) category dcs period broadcasts contents)
    (answers.Replaced start completed) few fits formed at_once new =
    new-is r before later id serial (Some old) category dcs period broadcasts contents (row_slot slot) start
    (Some completed) formed (slot-fits slot few ∙ sym at_once) new
added r before later slot (commands.Write id serial (Some old) category dcs period broadcasts contents)
    (answers.Cause cause) few fits formed at_once new = tt
added r before later slot (commands.Write id serial (Some old) category dcs period broadcasts contents)
    (answers.Started start) few fits formed at_once new = absurd fits
added r before later slot (commands.Write id serial (Some old) category dcs period broadcasts contents)
    (answers.Stopped completed) few fits formed at_once new = absurd fits
added r before later slot (commands.Write id serial (Some old) category dcs period broadcasts contents)
    (answers.Told completed state) few fits formed at_once new = absurd fits
added r before later slot (commands.Write id serial (Some old) category dcs period broadcasts contents)
    answers.Unknown few fits formed at_once new = absurd fits
added r before later slot (commands.Write id serial (Some old) category dcs period broadcasts contents)
    answers.Refused few fits formed at_once new = absurd fits

-- all of two lists
front-all : {X : Type 0} (P : X → Type 0) (xs ys : List X) → AllByRecursion P (xs ++ ys) → AllByRecursion P xs
front-all P [] ys all = tt
front-all P (x ∷ xs) ys all = (all.0, front-all P xs ys all.1)

back-all : {X : Type 0} (P : X → Type 0) (xs ys : List X) → AllByRecursion P (xs ++ ys) → AllByRecursion P ys
back-all P [] ys all = all
back-all P (x ∷ xs) ys all = back-all P xs ys all.1

both-all : {X : Type 0} (P Q R : X → Type 0) (xs : List X) → ((x : X) → P x → Q x → R x) → AllByRecursion P xs →
    AllByRecursion Q xs → AllByRecursion R xs
both-all P Q R [] each all also = tt
both-all P Q R (x ∷ xs) each all also = (each x all.0 also.0, both-all P Q R xs each all.1 also.1)

-- no row before begins a message
abbrev pub AreFresh : (before : List OrderRow) → List AskedMessage → Type 0
AreFresh before xs = AllByRecursion (λ (a : AskedMessage). list_any (begins_row a.id a.serial) before ≡ false) xs

fresh-after : (r : Record) (before : List OrderRow) (e : Entry) (later : List Entry) → IsKnown r e →
    HasRow e.command e.answer → AreApart (asked_of_log (e ∷ later)) → AreFresh before (asked_of_log later) →
    AreFresh (before ++ own_row e ∷ []) (asked_of_log later)
fresh-after r before e later known has apart fresh =
    both-all (λ (a : AskedMessage). list_any (begins_row a.id a.serial) before ≡ false)
    (λ (a : AskedMessage). list_any (is_named a.id a.serial) (asked_of_entry e later) ≡ false)
    (λ (a : AskedMessage). list_any (begins_row a.id a.serial) (before ++ own_row e ∷ []) ≡ false)
    (asked_of_log later)
    (λ a first other.
    list_any-append (begins_row a.id a.serial) before (own_row e ∷ [])
    ∙ ap (λ known. known || list_any (begins_row a.id a.serial) (own_row e ∷ [])) first
    ∙ sym (ap (list_any (begins_row a.id a.serial)) (has.rows_are e.slot))
    ∙ row-begins r a.id a.serial e later known ∙ other)
    fresh (none-before (asked_of_entry e later) (asked_of_log later) apart)

new-all : (r : Record) (before : List OrderRow) (e : Entry) (later : List Entry) →
    ((e : Entry) → IsKnown r e → e.slot ≤ 65535) → AllByRecursion (IsKnown r) later →
    AreApart (asked_of_log (e ∷ later)) → AreFresh before (asked_of_log (e ∷ later)) →
    AllByRecursion (IsNew r before later) (asked_of_entry e later)
new-all r before e later few all apart fresh =
    both-all (λ (a : AskedMessage). list_any (begins_row a.id a.serial) before ≡ false)
    (λ (a : AskedMessage). list_any (is_named a.id a.serial) (asked_of_log later) ≡ false) (IsNew r before later)
    (asked_of_entry e later)
    (λ a first last. record { few = few; all = all; first = first; last = last })
    (front-all (λ (a : AskedMessage). list_any (begins_row a.id a.serial) before ≡ false) (asked_of_entry e later)
    (asked_of_log later) fresh)
    (none-behind (asked_of_entry e later) (asked_of_log later) apart)

-- the messages of the rows are those that were asked
pub ordered-are : (r : Record) (before : List OrderRow) (later : List Entry) →
    ((e : Entry) → IsKnown r e → e.slot ≤ 65535) → AllByRecursion (IsKnown r) later →
    AreApart (asked_of_log later) → AreFresh before (asked_of_log later) →
    AreAs r (ordered_after 0 before (flat_map rows_of_entry later)) (asked_of_log later)
ordered-are r before [] few all apart fresh = tt
ordered-are r before (e ∷ later) few all apart fresh =
    by_row (row-of e.command e.answer all.0.fits)
    (λ front still. ordered-are r front later few all.1
    (apart-behind (asked_of_entry e later) (asked_of_log later) apart) still)
  where
    Are : List OrderRow → List AskedMessage → Type 0
    Are front xs =
        AreAs r (ordered_after 0 before (front ++ flat_map rows_of_entry later)) (xs ++ asked_of_log later)

    rest_fresh : AreFresh before (asked_of_log later)
    rest_fresh =
        back-all (λ (a : AskedMessage). list_any (begins_row a.id a.serial) before ≡ false) (asked_of_entry e later)
        (asked_of_log later) fresh

    by_row : HasNone e.command e.answer ⊎ HasRow e.command e.answer →
        ((front : List OrderRow) → AreFresh front (asked_of_log later) →
        AreAs r (ordered_after 0 front (flat_map rows_of_entry later)) (asked_of_log later)) →
        Are (rows_of_entry e) (asked_of_entry e later)
    by_row (inl none) rest =
        subst (λ front. Are front (asked_of_entry e later)) (sym (none.rows_are e.slot))
        (subst (λ xs. Are [] xs) (sym (none.asks later))
        (rest before rest_fresh))
    by_row (inr has) rest =
        subst (λ front. Are front (asked_of_entry e later)) (sym (has.rows_are e.slot))
        (joined r (ordered_of_row 0 before (own_row e) (flat_map rows_of_entry later))
        (ordered_after 0 (before ++ own_row e ∷ []) (flat_map rows_of_entry later)) (asked_of_entry e later)
        (asked_of_log later)
        (added r before later e.slot e.command e.answer (few e all.0) all.0.fits all.0.formed all.0.at_once
        (new-all r before e later few all.1 apart fresh))
        (rest (before ++ own_row e ∷ []) (fresh-after r before e later all.0 has apart rest_fresh)))

-- all messages of the rows, and each with what was asked
pub each-as : (r : Record) (P : AskedMessage → Type 0) (ms : List OrderedMessage) (xs : List AskedMessage) →
    AreAs r ms xs → AllByRecursion P xs →
    AllByRecursion (λ m. (a : AskedMessage) × P a × IsAs r m a) ms
each-as r P [] [] all each = tt
each-as r P [] (a ∷ xs) all each = absurd all
each-as r P (m ∷ ms) [] all each = absurd all
each-as r P (m ∷ ms) (a ∷ xs) all each = ((a, each.0, all.0), each-as r P ms xs all.1 each.1)
