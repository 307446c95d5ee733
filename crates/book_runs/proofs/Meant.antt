-- What the blocks of a run's records show.
use Rattle.std.proofs.Common.{◌≡◌, ℕ, ◌*◌, ◌≤◌, Option, Some, None, List, [], ◌∷◌}
use Rattle.std.proofs.Common.{get_or, length, length-append, refl, subst, sym, ◌∙◌, arith}
use Rattle.std.specs.List.{All, Any}
use Rattle.std.proofs.lemmas.List.{take_all}
use Rattle.std.proofs.lemmas.List.Elements.{All-weaker}
use Rattle.cbs_page.specs.declared.octets.PageView.{PageView}
use Rattle.scheduler.specs.Air.{Air}
use Rattle.scheduler.specs.Completed.{completed}
use Rattle.handset.specs.Counting.{whole_in}
use Rattle.handset.specs.Reception.{ShownMessage, shown_in}
use Rattle.handset.specs.Tape.{max_slots}
use Rattle.alert_book.specs.declared.book.order.Order.{Order}
use Rattle.alert_book.specs.Book.{Contents}
use Rattle.alert_book.specs.Texts.{HasUtf8Text}
use Rattle.alert_book.specs.TurnLaws.{ComesOf}
use Rattle.bsc_table.specs.declared.entry.Entry.{Entry}
use Rattle.bsc_table.specs.Legal.{IsLegal}
use Rattle.bsc_table.specs.Record.{Accepted, Record, accepted_in}
use Rattle.cbch_blocks.specs.RecordBlocks.{blocks_of, blocks_of_slot, blocks_of_uses, page_aired}
use Rattle.composition.specs.Composition.{AreTheBroadcast, blocks_before, message_accepted, name_accepted}
use Rattle.book_runs.specs.Live.{IsRunBy}
use Rattle.book_runs.specs.LiveLaws.{LiveRunsShowTheBook}
use Rattle.book_runs.specs.Meant.{IsMeantIn, IsOfOrder}
use Rattle.book_runs.specs.Ordered.{ComesOfExchange}
use Rattle.book_runs.specs.Run.{Exchange, IsRunOfBook}
use Rattle.book_runs.specs.RunLaws.{RunsShowTheBook}
use Rattle.book_runs.proofs.Laws.{Laws}
use Rattle.book_runs.proofs.Lists.{any_weaker, any_with}
use Rattle.book_runs.proofs.Logged.{HasLogOf, joined, log_of_run, log_of_sessions}
use Rattle.book_runs.proofs.Ordered.{IsOrdered, all_ordered, comes, ordered}

-- a slot has four blocks
four : (page : Option PageView) → length (blocks_of_slot page) ≡ 4
four None = refl
four (Some page) = refl

blocks_long : (log : List Entry) (air : Air) → length (blocks_of_uses log air) ≡ 4 * length air
blocks_long log [] = refl
blocks_long log (used ∷ air) =
    let here = four (page_aired log used) in
    let rest = blocks_long log air in
    length-append (blocks_of_slot (page_aired log used)) (blocks_of_uses log air) ∙ omega (arith, here, rest)

-- so the blocks before the clock are all blocks
all_blocks : (r : Record) → length r.air ≡ r.clock → blocks_before r.clock r ≡ blocks_of r
all_blocks r played =
    let long = blocks_long r.log r.air in
    take_all (4 * r.clock) (blocks_of r) (omega (arith, long, played))

-- an accepted message has the text of an order of the book
texts : (book : Contents) (exchanges : List Exchange) (r : Record)
    → All (λ a. Any (ComesOfExchange book r a) exchanges) (accepted_in r.log)
    → All (λ a. Any (IsOfOrder (message_accepted r.log a)) book.orders) (accepted_in r.log)
texts book exchanges r come = All-weaker (λ (a : Accepted). Any (ComesOfExchange book r a) exchanges)
    (λ (a : Accepted). Any (IsOfOrder (message_accepted r.log a)) book.orders)
    (λ a some. any_weaker
    (λ (order : Order). ComesOf some.1.turn.request order × IsOfOrder (message_accepted r.log a) order)
    (IsOfOrder (message_accepted r.log a)) book.orders (λ order both. both.1) some.4.ordered)
    (accepted_in r.log) come

-- so has each message that is shown
none_else : (book : Contents) (r : Record) (slot : ℕ) (shown : List ShownMessage)
    → All (λ a. Any (IsOfOrder (message_accepted r.log a)) book.orders) (accepted_in r.log)
    → AreTheBroadcast r slot shown → All (λ m. Any (IsOfOrder m) book.orders) shown
none_else book r slot shown texts are k d within =
    let one = are.each k d within in
    let both = any_with (λ (a : Accepted). Any (IsOfOrder (message_accepted r.log a)) book.orders)
    (λ (a : Accepted). (1 ≤ completed a.message r.air slot) × (get_or shown k d ≡ message_accepted r.log a))
    (accepted_in r.log) texts one in
    subst (λ (m : ShownMessage). Any (IsOfOrder m) book.orders) (sym both.4.1.1) both.4.0

-- the completed number of an accepted message is that of its whole broadcasts in the blocks
counted : (laws : Laws) (r : Record) → IsLegal r → blocks_before r.clock r ≡ blocks_of r
    → All (λ a. whole_in (name_accepted a) (blocks_of r) ≡ completed a.message r.air r.clock) (accepted_in r.log)
counted laws r legal all k d within =
    let a = get_or (accepted_in r.log) k d in
    subst (λ (blocks : List (List ℕ)). whole_in (name_accepted a) blocks ≡ completed a.message r.air r.clock) all
    (laws.completed_is_whole r legal k d within r.clock (omega arith))

is_meant_in : (laws : Laws) (book : Contents) (slots : ℕ) (exchanges : List Exchange) (r : Record)
    → All HasUtf8Text book.orders → All (IsOrdered book) exchanges → slots ≤ max_slots → HasLogOf slots exchanges r
    → IsMeantIn book r
is_meant_in laws book slots exchanges r utf8 asked few run =
    let legal = run.legal in
    let same : r.slots ≡ slots = run.run in
    let over : r.clock ≡ slots = run.over in
    let all = all_blocks r legal.played in
    let shown : AreTheBroadcast r r.clock (shown_in (blocks_of r)) =
    subst (λ (blocks : List (List ℕ)). AreTheBroadcast r r.clock (shown_in blocks)) all
    (laws.shown_are_the_broadcast r r.clock legal (omega arith)) in
    let of_orders = texts book exchanges r (comes laws book slots exchanges r utf8 asked run) in
    record {
      tape = laws.records_are_tapes r legal (over ∙ sym same) (omega (arith, same, few));
      all = all;
      shown = shown;
      meant = laws.accepted_are_meant r r.clock legal (omega arith);
      counted = counted laws r legal all;
      reported = laws.reported_is_whole r legal;
      stopped = λ k d within slot before. laws.none_after_the_stop r slot legal before k d within;
      texts = of_orders;
      none_else = none_else book r r.clock (shown_in (blocks_of r)) of_orders shown;
    }

-- the handsets of a run of one session show what the book means
pub runs_show_the_book : Laws → RunsShowTheBook
runs_show_the_book laws from input book slots exchanges records is few run =
    let utf8 = laws.texts_are_utf8 from input book is in
    let asked = ordered laws from input book 0 1 exchanges is run.session run.exchanged in
    All-weaker (IsRunOfBook slots exchanges) (IsMeantIn book)
    (λ r here. is_meant_in laws book slots exchanges r utf8 asked few (log_of_run slots exchanges r here)) records
    run.each

-- the handsets of a live run show what the book means
pub live_runs_show_the_book : Laws → LiveRunsShowTheBook
live_runs_show_the_book laws from input book slots sessions records is few live =
    let utf8 = laws.texts_are_utf8 from input book is in
    let asked = all_ordered laws from input book slots sessions records is live in
    All-weaker (IsRunBy slots sessions) (IsMeantIn book)
    (λ r here. is_meant_in laws book slots (joined sessions) r utf8 asked few (log_of_sessions slots sessions r here))
    records live.each
