-- A history's own blocks differ nowhere from its own orders and answers.
use Rattle.std.proofs.Common.{◌≡◌, ℕ, ◌+◌, ◌≤◌, true, cond, Option, Some, None, List, [], ◌∷◌, ◌++◌}
use Rattle.std.proofs.Common.{map, get_or, refl, sym, ap, subst, ◌∙◌, arith}
use Rattle.std.specs.Prelude.{◌&&◌, ◌||◌, ◌==◌}
use Rattle.std.specs.Option.{option_to_list}
use Rattle.std.specs.List.{AllByRecursion, Contains, flat_map, list_any}
use Rattle.std.specs.List.Sorted.{IsPermutation}
use Rattle.std.proofs.lemmas.Bool.{and_parts, eq-eqb, eqb-true}
use Rattle.std.proofs.lemmas.List.Elements.{All-contains, recursion_from_All}
use Rattle.std.proofs.lemmas.List.Folds.{flat_map-map}
use Rattle.std.proofs.lemmas.List.Sorted.{IsPermutation-refl, length_permutation}
use Rattle.cbs_page.specs.declared.octets.PageView.{PageView}
use Rattle.scheduler.specs.Air.{Air}
use Rattle.bsc_table.specs.declared.entry.Entry.{Entry}
use Rattle.bsc_table.specs.Legal.{IsLegal}
use Rattle.bsc_table.specs.Record.{Accepted, Record, accepted_in}
use Rattle.bsc_table.specs.Reported.{LegalAnswersAreTrue}
use Rattle.handset.specs.Tape.{max_slots}
use Rattle.cbch_blocks.specs.RecordBlocks.{blocks_of, blocks_of_slot, page_aired}
use Rattle.composition.proofs.Aired.{AreSound, IsAired, IsAiredAs, all_aired, can_send_aired, same_pair}
use Rattle.composition.proofs.Blocks.{IsSendable}
use Rattle.composition.proofs.Composed.{sound_of}
use Rattle.composition.proofs.Laws.{HasLoad, Laws}
use Rattle.composition.proofs.Sent.{sent_by}
use Rattle.record_orders.specs.Ordered.{rows_of_record}
use Rattle.verification.specs.declared.difference.Kind.TheVariants as kinds
use Rattle.verification.specs.declared.judged.JudgedPage.{JudgedPage}
use Rattle.verification.specs.Asked.{AskedMessage, asked_of_log, is_page_of}
use Rattle.verification.specs.Difference.{message_differences, not_ordered_after}
use Rattle.verification.specs.Judged as wanted
use Rattle.verification.specs.Sent.{sent_in}
use Rattle.verification_laws.specs.OwnTapes.{OwnTapesDifferNowhere}
use Rattle.verification_laws.proofs.AskedOf.{IsAsked, IsComing, all_asked, asked_are_accepted, some_asked}
use Rattle.verification_laws.proofs.OwnMessage.{own-right}
use Rattle.verification_laws.proofs.Slots.{in_slots, sent_of_slots}
use Rattle.order_verdict.specs.declared.difference.OrderDifference.{OrderDifference}
use Rattle.order_verdict.specs.declared.difference.OrderKind.TheVariants as order_kinds
use Rattle.order_verdict.specs.Air.{AirOctets, id_in, page_in, pages_on_air, serial_in}
use Rattle.order_verdict.specs.Judged.{is_as_named, own_pages_in}
use Rattle.order_verdict.specs.Ordered.{OrderedMessage, ordered_in}
use Rattle.order_verdict.specs.Verdict.{AreOrderDifferences, air_differences, all_order_differences, has_name_of}
use Rattle.order_verdict.specs.Verdict.{difference_at, is_known, more_differences, of_air, ordered_differences}
use Rattle.order_verdict.specs.Verdict.{told_differences, told_differences_by, unanswered, unordered_after}
use Rattle.verdict_laws.specs.OwnOrders.{IsPlain, KeepsItsOrders, LiveRunsKeepTheirOrders, NothingIsFoundOfOrders}
use Rattle.verdict_laws.specs.OwnOrders.{OwnOrdersAreKept, OwnOrdersDifferNowhere, RunsKeepTheirOrders}
use Rattle.verdict_laws.proofs.Answered.{all-known}
use Rattle.verdict_laws.proofs.Counted.{IsHeld, none-more, pages_sent, told-keeps}
use Rattle.verdict_laws.proofs.Names.{asked-apart}
use Rattle.verdict_laws.proofs.OnAir.{IsOwnSlot, named-is, octets_in, on-air, own-pages, right-by, sent_octets}
use Rattle.verdict_laws.proofs.Ordered.{AreAs, AreFresh, AreWhole, IsAs, each-as, ordered-are, unstopped}
use Rattle.verdict_laws.proofs.Rows.{all-answered}

-- the pages of a history's slots
abbrev slots_of : Record → List (Option PageView)
slots_of r = map (page_aired r.log) r.air

-- a page in a slot is right if it is a message's
own-pages-of : (log : List Entry) (a : AskedMessage) (b : Accepted) → AreSound log → Contains (accepted_in log) b →
    IsComing log [] a b → AreWhole a.contents → (uses : Air) → AllByRecursion (IsAired log) uses →
    AllByRecursion (IsOwnSlot a) (map (page_aired log) uses)
own-pages-of log a b sound there same whole [] all = tt
own-pages-of log a b sound there same whole (None ∷ uses) all =
    (tt, own-pages-of log a b sound there same whole uses all.1)
own-pages-of log a b sound there same whole (Some used ∷ uses) all =
    subst (λ o. AllByRecursion (IsOwnSlot a) (o ∷ map (page_aired log) uses)) (sym all.0.aired) (
      record {
        sendable = all.0.sendable;
        by_book = λ named. own-right log a b used all.0 same (sym (of_it named));
        by_orders = λ named. right-by a all.0.page whole
            (subst (λ pages. Contains pages all.0.page) same.pages_are
            (subst (λ (x : Accepted). Contains (sent_by log x) all.0.page) (sym (of_it named)) all.0.sent));
      },
      own-pages-of log a b sound there same whole uses all.1,
    )
  where
    of_it : is_page_of a all.0.page ≡ true → b ≡ all.0.of
    of_it named =
        let parts = and_parts (all.0.page.id == a.id) (all.0.page.serial == a.serial) named in
        same_pair log b all.0.of sound there all.0.there
        (sym all.0.id_is ∙ eqb-true all.0.page.id a.id parts.0 ∙ same.id_is)
        (sym all.0.serial_is ∙ eqb-true all.0.page.serial a.serial parts.1 ∙ same.serial_is)

-- what a book's rows have to tell of pages, an orders file's have to, too
air-is : (slots : ℕ) (m : OrderedMessage) (a : AskedMessage) (pages : List JudgedPage) → m.late ≡ a →
    m.early ≡ unstopped a → air_differences slots m pages ≡ message_differences slots a pages
air-is slots m a pages late early =
    ap (λ x. air_differences slots (record m { late = x }) pages) late
    ∙ ap (λ x. air_differences slots (record m { late = a; early = x }) pages) early

-- a message that was asked, and of which the blocks have no difference from a book
record IsRight (r : Record) (a : AskedMessage) : Type 0 where
  asked : IsAsked r.log (accepted_in r.log) a
  nowhere : message_differences r.slots a (wanted.judged_in a (sent_in (blocks_of r))) ≡ []

sent-is : (r : Record) → AreSound r.log → IsLegal r → sent_in (blocks_of r) ≡ in_slots 0 (slots_of r)
sent-is r sound legal =
    ap sent_in (sym (flat_map-map blocks_of_slot (page_aired r.log) r.air))
    ∙ sent_of_slots 0 (map (page_aired r.log) r.air)
    (can_send_aired r.log r.air (recursion_from_All (IsAired r.log) r.air (all_aired r sound legal)))

-- none of an orders file either
message-keeps : (laws : Laws) (r : Record) → IsPlain r → AreSound r.log → (m : OrderedMessage) (a : AskedMessage) →
    IsRight r a → IsAs r m a →
    ordered_differences r.slots 0 m (own_pages_in m (octets_in 0 (slots_of r))) ≡ []
message-keeps laws r plain sound m a right meant =
    let b : Accepted = right.asked.accepted in
    let loaded : HasLoad right.asked.accepted = All-contains HasLoad (accepted_in r.log) right.asked.accepted
    (laws.accepted_have_loads r plain.legal) right.asked.there in
    let own = own-pages-of r.log a right.asked.accepted sound right.asked.there right.asked.same meant.whole r.air
    (recursion_from_All (IsAired r.log) r.air (all_aired r sound plain.legal)) in
    let held : IsHeld r a right.asked.accepted = record {
      legal = plain.legal;
      sound = sound;
      there = right.asked.there;
      same = right.asked.same;
      own = own;
    } in
    let pages : List JudgedPage = pages_sent r a in
    ap (ordered_differences r.slots 0 m) (own-pages m a (slots_of r) meant.early meant.since meant.until own)
    ∙ ap (λ ds. (map of_air ds ++ more_differences m.late (pages_sent r a))
    ++ told_differences r.slots 0 m (pages_sent r a))
    (air-is r.slots m a (pages_sent r a) meant.late meant.early
    ∙ ap (λ sent. message_differences r.slots a (wanted.judged_in a sent)) (sym (sent-is r sound plain.legal))
    ∙ right.nowhere)
    ∙ ap (λ ds. ds ++ told_differences r.slots 0 m (pages_sent r a))
    (ap (λ x. more_differences x (pages_sent r a)) meant.late
    ∙ none-more laws r a right.asked.accepted held loaded.0 loaded.1)
    ∙ ap (λ x. told_differences_by r.slots 0 x (pages_sent r a) m.ended m.told) meant.late
    ∙ told-keeps laws r a right.asked.accepted held loaded.0 loaded.1 m.ended m.told meant.end

none-of-all : {X Y : Type 0} (P : X → Type 0) (f : X → List Y) (xs : List X) → AllByRecursion P xs →
    ((x : X) → P x → f x ≡ []) → flat_map f xs ≡ []
none-of-all P f [] all none = refl
none-of-all P f (x ∷ xs) all none = ap (λ ys. ys ++ flat_map f xs) (none x all.0) ∙ none-of-all P f xs all.1 none

-- each of a list makes nothing, if all make nothing
both-empty : {X : Type 0} (xs ys : List X) → xs ++ ys ≡ [] → (xs ≡ []) × (ys ≡ [])
both-empty [] ys none = (refl, none)
both-empty (x ∷ xs) ys none = cc

right-each : (r : Record) (xs : List AskedMessage) → AllByRecursion (IsAsked r.log (accepted_in r.log)) xs →
    flat_map (λ a. message_differences r.slots a (wanted.judged_in a (sent_in (blocks_of r)))) xs ≡ [] →
    AllByRecursion (IsRight r) xs
right-each r [] all none = tt
right-each r (a ∷ xs) all none =
    let parts = both-empty (message_differences r.slots a (wanted.judged_in a (sent_in (blocks_of r))))
    (flat_map (λ a. message_differences r.slots a (wanted.judged_in a (sent_in (blocks_of r)))) xs) none in
    (record { asked = all.0; nowhere = parts.0 }, right-each r xs all.1 parts.1)

-- each page is of a message that was ordered
known-is : (r : Record) (ms : List OrderedMessage) (xs : List AskedMessage) → AreAs r ms xs → (page : PageView) →
    IsSendable page → is_known ms (sent_octets page) ≡ list_any (λ a. is_page_of a page) xs
known-is r [] [] all page is = refl
known-is r [] (a ∷ xs) all page is = absurd all
known-is r (m ∷ ms) [] all page is = absurd all
known-is r (m ∷ ms) (a ∷ xs) all page is =
    ap (λ x. is_as_named x (sent_octets page) || is_known ms (sent_octets page)) all.0.early
    ∙ ap (λ here. here || is_known ms (sent_octets page)) (named-is (unstopped a) page is)
    ∙ ap (λ rest. is_page_of a page || rest) (known-is r ms xs all.1 page is)

asked-page : (log : List Entry) (used : ℕ × ℕ) (h : IsAiredAs log used) →
    list_any (λ a. is_page_of a h.page) (asked_of_log log) ≡ true
asked-page log used h =
    some_asked log (λ a. is_page_of a h.page) (asked_of_log log) (accepted_in log) h.of (asked_are_accepted log)
    h.there
    (λ a same.
    ap (λ x. x && (h.page.serial == a.serial)) (eq-eqb h.page.id a.id (h.id_is ∙ sym same.id_is))
    ∙ eq-eqb h.page.serial a.serial (h.serial_is ∙ sym same.serial_is))

none-unordered : (r : Record) (ms : List OrderedMessage) → AreAs r ms (asked_of_log r.log) → (n : ℕ) (uses : Air) →
    AllByRecursion (IsAired r.log) uses → (before : List AirOctets) →
    unordered_after ms before (octets_in n (map (page_aired r.log) uses)) ≡ []
none-unordered r ms are n [] all before = refl
none-unordered r ms are n (None ∷ uses) all before = none-unordered r ms are (n + 1) uses all.1 before
none-unordered r ms are n (Some used ∷ uses) all before =
    ap (λ o. unordered_after ms before (map (λ page. page_in n (sent_octets page)) (option_to_list o)
    ++ octets_in (n + 1) (map (page_aired r.log) uses))) all.0.aired
    ∙ ap (λ known. cond (known || list_any (has_name_of (page_in n (sent_octets all.0.page))) before) []
    (difference_at n (id_in (sent_octets all.0.page)) (serial_in (sent_octets all.0.page))
    (order_kinds.Air kinds.NotOrdered) ∷ [])
    ++ unordered_after ms (before ++ page_in n (sent_octets all.0.page) ∷ [])
    (octets_in (n + 1) (map (page_aired r.log) uses)))
    (known-is r ms (asked_of_log r.log) are all.0.page all.0.sendable ∙ asked-page r.log used all.0)
    ∙ none-unordered r ms are (n + 1) uses all.1 (before ++ page_in n (sent_octets all.0.page) ∷ [])

-- nothing is found
fresh : (xs : List AskedMessage) → AreFresh [] xs
fresh [] = tt
fresh (a ∷ xs) = (refl, fresh xs)

-- the law: a history that is plain differs nowhere from its own orders and answers
pub own-orders : Laws → OwnTapesDifferNowhere → LegalAnswersAreTrue → OwnOrdersDifferNowhere
own-orders laws nowhere told r plain =
    let legal = plain.legal in
    let sound : AreSound r.log = sound_of laws r plain.legal in
    let known = all-known told r plain in
    let over = plain.over in
    let few = plain.few in
    let ms : List OrderedMessage = ordered_in 0 (rows_of_record r) in
    let are : AreAs r (ordered_in 0 (rows_of_record r)) (asked_of_log r.log) =
    ordered-are r [] r.log (λ e k. let by_end = k.by_end in omega (arith, by_end, over, few)) known
    (asked-apart r.log sound.once) (fresh (asked_of_log r.log)) in
    let parts = both-empty
    (flat_map (λ a. message_differences r.slots a (wanted.judged_in a (sent_in (blocks_of r)))) (asked_of_log r.log))
    (not_ordered_after (asked_of_log r.log) [] (sent_in (blocks_of r))) (nowhere r plain.legal plain.over) in
    let each = each-as r (IsRight r) (ordered_in 0 (rows_of_record r)) (asked_of_log r.log) are
    (right-each r (asked_of_log r.log)
    (all_asked r.log (asked_of_log r.log) (accepted_in r.log) (asked_are_accepted r.log)) parts.0) in
    ap (all_order_differences r.slots 0 (rows_of_record r))
    (ap pages_on_air (sym (flat_map-map blocks_of_slot (page_aired r.log) r.air)) ∙ on-air (slots_of r))
    ∙ ap (λ ds. (ds ++ flat_map unanswered (rows_of_record r))
    ++ unordered_after (ordered_in 0 (rows_of_record r)) [] (octets_in 0 (slots_of r)))
    (none-of-all (λ m. (a : AskedMessage) × IsRight r a × IsAs r m a)
    (λ m. ordered_differences r.slots 0 m (own_pages_in m (octets_in 0 (slots_of r))))
    (ordered_in 0 (rows_of_record r)) each (λ m h. message-keeps laws r plain sound m h.0 h.1 h.2))
    ∙ ap (λ ds. ds ++ unordered_after (ordered_in 0 (rows_of_record r)) [] (octets_in 0 (slots_of r)))
    (all-answered r r.log known)
    ∙ none-unordered r (ordered_in 0 (rows_of_record r)) are 0 r.air
    (recursion_from_All (IsAired r.log) r.air (all_aired r sound plain.legal)) []

-- and a list of none is empty
none-there : (found : List OrderDifference) → IsPermutation [] found → found ≡ []
none-there [] moved = refl
none-there (d ∷ found) moved =
    absurd (let long = length_permutation [] (d ∷ found) moved in let less : ⊥ = omega (arith, long) in less)

-- so no difference is what it has
pub kept : OwnOrdersDifferNowhere → OwnOrdersAreKept
kept nowhere r plain = record {
  all = subst (λ (ds : List OrderDifference). IsPermutation ds []) (sym (nowhere r plain)) (IsPermutation-refl []);
  sorted = λ k d low high. absurd (let less : ⊥ = omega arith in less);
}

-- and nothing else is
pub nothing : OwnOrdersDifferNowhere → NothingIsFoundOfOrders
nothing nowhere r found plain are =
    none-there found (subst (λ ds. IsPermutation ds found) (nowhere r plain) are.all)

-- so it is of the cells of runs
run-keeps : OwnOrdersAreKept → (slots : ℕ) (r : Record) → r.slots ≡ slots → r.clock ≡ slots → IsLegal r →
    slots ≤ max_slots → KeepsItsOrders slots r
run-keeps kept slots r run over legal few = λ at_once.
    subst (λ n. AreOrderDifferences n 0 (rows_of_record r) (blocks_of r) []) run
    (kept r (record {
      legal = legal;
      over = over ∙ sym run;
      few = subst (λ n. n ≤ max_slots) (sym run) few;
      at_once = at_once;
    }))

-- those of one session
pub runs-keep : OwnOrdersAreKept → RunsKeepTheirOrders
runs-keep kept book slots exchanges records run few = λ k d within.
    let one = run.each k d within in
    run-keeps kept slots (get_or records k d) one.run one.over one.legal few

-- and of several
pub live-runs-keep : OwnOrdersAreKept → LiveRunsKeepTheirOrders
live-runs-keep kept book slots sessions records run few = λ k d within.
    let one = run.each k d within in
    run-keeps kept slots (get_or records k d) one.run one.over one.legal few
