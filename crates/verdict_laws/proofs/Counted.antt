-- The whole broadcasts that an orders file counts in a history's own blocks are those that the cell completed.
use Rattle.std.proofs.Common.{◌≡◌, ℕ, zero, suc, ◌+◌, ◌-◌, ◌<◌, ◌≤◌, min, Bool, true, false, cond, Option, Some, None}
use Rattle.std.proofs.Common.{List, [], ◌∷◌, count_by, length, map, filter, find, take, refl, sym, ap}
use Rattle.std.proofs.Common.{subst, ◌∙◌, arith, inl, inr}
use Rattle.std.specs.Prelude.{◌&&◌, ◌==◌, ◌⊎◌, nat_le, nat_lt, option_map, unwrap_or}
use Rattle.std.specs.Int.{div_ceil}
use Rattle.std.specs.Option.{option_to_list}
use Rattle.std.specs.List.{AllByRecursion, Contains, flat_map, fold, range_with_len}
use Rattle.std.proofs.Math.Bool.{and-true}
use Rattle.std.proofs.lemmas.Bool.{and_parts, cases_eq, eq-eqb, eqb-true, false≢true, le-leb, ne_eqb}
use Rattle.std.proofs.lemmas.Bool.Decides.{nat_tests}
use Rattle.std.proofs.lemmas.List.Sums.{count_by-le-length, sum_by-cons}
use Rattle.std.proofs.lemmas.List.{length-map, take-map}
use Rattle.std.proofs.lemmas.List.Elements.{All-contains, All-take, recursion_from_All}
use Rattle.cbs_page.specs.declared.octets.PageView.{PageView}
use Rattle.handset.specs.Reception.{is_of}
use Rattle.handset.specs.Keeping.{is_numbered}
use Rattle.scheduler.specs.Air.{layer}
use Rattle.scheduler.specs.Completed.{completed}
use Rattle.scheduler.specs.Message.{ScheduledMessage}
use Rattle.scheduler.specs.Pages.{airs_page}
use Rattle.bsc_table.specs.declared.command.Command.{Command}
use Rattle.bsc_table.specs.declared.command.Command.TheVariants as commands
use Rattle.bsc_table.specs.declared.entry.Answer.{Answer}
use Rattle.bsc_table.specs.declared.entry.Answer.TheVariants as answers
use Rattle.bsc_table.specs.declared.entry.Entry.{Entry}
use Rattle.bsc_table.specs.Bounds.{cut_at, least_completed, most_completed, stands_until}
use Rattle.bsc_table.specs.Legal.{IsLegal}
use Rattle.bsc_table.specs.Record.{Accepted, Record, accepted_in, is_stop_by, is_stop_of, messages_in}
use Rattle.bsc_table.specs.Reported.{IsAbout, completed_in}
use Rattle.cbch_blocks.specs.RecordBlocks.{page_aired}
use Rattle.composition.specs.Composition.{name_accepted}
use Rattle.composition.proofs.Aired.{AreSound, IsAired, all_aired, counted, same_pair}
use Rattle.composition.proofs.Composed.{message_there, messages_rise}
use Rattle.composition.proofs.Laws.{Laws}
use Rattle.verification.specs.declared.judged.JudgedPage.{JudgedPage}
use Rattle.verification.specs.Asked.{AskedMessage, is_page_of}
use Rattle.verification.specs.Judged.{is_right, judged, judged_in}
use Rattle.verification_laws.proofs.AskedOf.{IsComing}
use Rattle.verification_laws.proofs.Slots.{in_slot, in_slots}
use Rattle.order_verdict.specs.Counts.{first_more, is_more, is_right_by, times_by, whole_before, whole_by}
use Rattle.order_verdict.specs.Verdict.{at_slot, more_differences, told_difference, told_differences_by}
use Rattle.order_verdict.specs.declared.difference.OrderKind.TheVariants as order_kinds
use Rattle.verdict_laws.proofs.Answered.{IsKnown}
use Rattle.verdict_laws.proofs.OnAir.{IsOwnSlot}
use Rattle.verdict_laws.proofs.Ordered.{IsEnded}

-- the least of some counts
below-start : (f : ℕ → ℕ) (start : ℕ) (xs : List ℕ) → fold (λ least n. min least (f n)) start xs ≤ start
below-start f start [] = omega arith
below-start f start (x ∷ xs) =
    let rest = below-start f (min start (f x)) xs in
    omega (arith, rest)

above-least : (f : ℕ → ℕ) (c start a n : ℕ) → c ≤ start → ((k : ℕ) → a ≤ k → k < a + n → c ≤ f k) →
    c ≤ fold (λ least number. min least (f number)) start (range_with_len a n)
above-least f c start a zero low each = low
above-least f c start a (suc n) low each =
    above-least f c (min start (f a)) (a + 1) n
    (let here = each a (omega arith) (omega arith) in omega (arith, low, here))
    (λ k first last. each k (omega (arith, first)) (omega (arith, last)))

below-each : (f : ℕ → ℕ) (start a n k : ℕ) → a ≤ k → k < a + n →
    fold (λ least number. min least (f number)) start (range_with_len a n) ≤ f k
below-each f start a zero k first last = absurd (let less : ⊥ = omega (arith, first, last) in less)
below-each f start a (suc n) k first last =
    elim (cases_eq k a) [
      | inl is ↦
          let low = below-start f (min start (f a)) (range_with_len (a + 1) n) in
          let same : f k ≡ f a = ap f is in
          omega (arith, low, same)
      | inr other ↦ below-each f (min start (f a)) (a + 1) n k (omega (arith, first, other)) (omega (arith, last))
    ]

-- pages of slots that come after a slot aren't counted up to it
count-cons : {X : Type 0} (p : X → Bool) (x : X) (xs : List X) → count_by p (x ∷ xs) ≡ cond (p x) 1 0 + count_by p xs
count-cons p x xs = sum_by-cons (λ y. cond (p y) 1 0) x xs

plus-none : (n : ℕ) → 0 + n ≡ n
plus-none n = omega arith

and-late : (a b : Bool) → (a && (b && false)) ≡ false
and-late true true = refl
and-late true false = refl
and-late false b = refl

too-late : (n last : ℕ) → last < n → nat_le n last ≡ false
too-late n last late = grind (arith, nat_tests)

none-late : (a : AskedMessage) (slots : List (Option PageView)) (n last number : ℕ) → last < n →
    count_by (is_right_by last number) (judged_in a (in_slots n slots)) ≡ 0
none-late a [] n last number late = refl
none-late a (None ∷ slots) n last number late = none-late a slots (n + 1) last number (omega (arith, late))
none-late a (Some page ∷ slots) n last number late =
    by_name (is_page_of a page) refl (none-late a slots (n + 1) last number (omega (arith, late)))
  where
    by_name : (own : Bool) → is_page_of a page ≡ own →
        count_by (is_right_by last number) (judged_in a (in_slots (n + 1) slots)) ≡ 0 →
        count_by (is_right_by last number) (judged_in a (in_slots n (Some page ∷ slots))) ≡ 0
    by_name true is rest =
        ap (λ here. count_by (is_right_by last number) (map (judged a) (cond here
        (in_slot n page ∷ filter (λ s. is_page_of a s.page) (in_slots (n + 1) slots))
        (filter (λ s. is_page_of a s.page) (in_slots (n + 1) slots))))) is
        ∙ count-cons (is_right_by last number) (judged a (in_slot n page)) (judged_in a (in_slots (n + 1) slots))
        ∙ ap (λ late. cond ((page.number == number) && (is_right a page && late)) 1 0
        + count_by (is_right_by last number) (judged_in a (in_slots (n + 1) slots))) (too-late n last late)
        ∙ ap (λ none. cond none 1 0 + count_by (is_right_by last number) (judged_in a (in_slots (n + 1) slots)))
        (and-late (page.number == number) (is_right a page))
        ∙ plus-none (count_by (is_right_by last number) (judged_in a (in_slots (n + 1) slots)))
        ∙ rest
    by_name false is rest =
        ap (λ here. count_by (is_right_by last number) (map (judged a) (cond here
        (in_slot n page ∷ filter (λ s. is_page_of a s.page) (in_slots (n + 1) slots))
        (filter (λ s. is_page_of a s.page) (in_slots (n + 1) slots))))) is
        ∙ rest

-- the pages of a number that came right by a slot are those that were aired before the next one
is-own : (a : AskedMessage) (b : Accepted) (page : PageView) → a.id ≡ b.id → a.serial ≡ b.serial →
    is_page_of a page ≡ is_of (name_accepted b) page
is-own a b page id serial =
    ap (λ i. (page.id == i) && (page.serial == a.serial)) id
    ∙ ap (λ s. (page.id == b.id) && (page.serial == s)) serial

times-are : (a : AskedMessage) (b : Accepted) → a.id ≡ b.id → a.serial ≡ b.serial →
    (slots : List (Option PageView)) → AllByRecursion (IsOwnSlot a) slots → (n k last number : ℕ) → n + k ≡ last + 1 →
    count_by (is_right_by last number) (judged_in a (in_slots n slots))
    ≡ count_by (is_numbered (name_accepted b) number) (flat_map option_to_list (take k slots))
times-are a b id serial slots all n zero last number to = none-late a slots n last number (omega (arith, to))
times-are a b id serial [] all n (suc k) last number to = refl
times-are a b id serial (None ∷ slots) all n (suc k) last number to =
    times-are a b id serial slots all.1 (n + 1) k last number (omega (arith, to))
times-are a b id serial (Some page ∷ slots) all n (suc k) last number to =
    by_name (is_page_of a page) refl
    (times-are a b id serial slots all.1 (n + 1) k last number (omega (arith, to)))
  where
    in_time : nat_le n last ≡ true
    in_time = le-leb n last (omega (arith, to))

    by_name : (own : Bool) → is_page_of a page ≡ own →
        count_by (is_right_by last number) (judged_in a (in_slots (n + 1) slots))
        ≡ count_by (is_numbered (name_accepted b) number) (flat_map option_to_list (take k slots)) →
        count_by (is_right_by last number) (judged_in a (in_slots n (Some page ∷ slots)))
        ≡ count_by (is_numbered (name_accepted b) number) (page ∷ flat_map option_to_list (take k slots))
    by_name true is rest =
        ap (λ here. count_by (is_right_by last number) (map (judged a) (cond here
        (in_slot n page ∷ filter (λ s. is_page_of a s.page) (in_slots (n + 1) slots))
        (filter (λ s. is_page_of a s.page) (in_slots (n + 1) slots))))) is
        ∙ count-cons (is_right_by last number) (judged a (in_slot n page)) (judged_in a (in_slots (n + 1) slots))
        ∙ ap (λ right. cond ((page.number == number) && (right && nat_le n last)) 1 0
        + count_by (is_right_by last number) (judged_in a (in_slots (n + 1) slots))) (all.0.by_book is)
        ∙ ap (λ time. cond ((page.number == number) && time) 1 0
        + count_by (is_right_by last number) (judged_in a (in_slots (n + 1) slots))) in_time
        ∙ ap (λ here. cond here 1 0 + count_by (is_right_by last number) (judged_in a (in_slots (n + 1) slots)))
        (and-true (page.number == number))
        ∙ ap (λ more. cond (page.number == number) 1 0 + more) rest
        ∙ ap (λ own. cond (own && (page.number == number)) 1 0
        + count_by (is_numbered (name_accepted b) number) (flat_map option_to_list (take k slots)))
        (sym (sym (is-own a b page id serial) ∙ is))
        ∙ sym (count-cons (is_numbered (name_accepted b) number) page (flat_map option_to_list (take k slots)))
    by_name false is rest =
        ap (λ here. count_by (is_right_by last number) (map (judged a) (cond here
        (in_slot n page ∷ filter (λ s. is_page_of a s.page) (in_slots (n + 1) slots))
        (filter (λ s. is_page_of a s.page) (in_slots (n + 1) slots))))) is
        ∙ rest
        ∙ sym (plus-none (count_by (is_numbered (name_accepted b) number) (flat_map option_to_list (take k slots))))
        ∙ ap (λ own. cond (own && (page.number == number)) 1 0
        + count_by (is_numbered (name_accepted b) number) (flat_map option_to_list (take k slots)))
        (sym (sym (is-own a b page id serial) ∙ is))
        ∙ sym (count-cons (is_numbered (name_accepted b) number) page (flat_map option_to_list (take k slots)))

-- what is needed of a message that was asked and accepted
pub record IsHeld (r : Record) (a : AskedMessage) (b : Accepted) : Type 0 where
  pub legal : IsLegal r
  pub sound : AreSound r.log
  pub there : Contains (accepted_in r.log) b
  pub same : IsComing r.log [] a b
  pub own : AllByRecursion (IsOwnSlot a) (map (page_aired r.log) r.air)

-- the pages of a message that a history sent
abbrev pub pages_sent : Record → AskedMessage → List JudgedPage
pages_sent r a = judged_in a (in_slots 0 (map (page_aired r.log) r.air))

times-aired : (r : Record) (a : AskedMessage) (b : Accepted) → IsHeld r a b → (last number : ℕ) →
    times_by (pages_sent r a) last number ≡ count_by (airs_page b.message.entry number) (take (last + 1) r.air)
times-aired r a b h last number =
    times-are a b h.same.id_is h.same.serial_is (map (page_aired r.log) r.air) h.own 0 (last + 1) last number
    (omega arith)
    ∙ ap (λ slots. count_by (is_numbered (name_accepted b) number) (flat_map option_to_list slots))
    (take-map (page_aired r.log) (last + 1) r.air)
    ∙ counted r.log b number (take (last + 1) r.air) h.sound h.there
    (recursion_from_All (IsAired r.log) (take (last + 1) r.air)
    (All-take (IsAired r.log) (last + 1) r.air (all_aired r h.sound h.legal)))

-- so as many are whole by a slot as are completed before the next one
pub whole-is : (laws : Laws) (r : Record) (a : AskedMessage) (b : Accepted) → IsHeld r a b → 0 < b.message.pages →
    0 < b.message.period → (last : ℕ) → last < r.clock →
    whole_by (length a.contents) (pages_sent r a) last ≡ completed b.message r.air (last + 1)
whole-is laws r a b h pages period last within =
    let rising = messages_rise laws r.log in
    let there = message_there r.log b h.there in
    let played = h.legal.played in
    let inside : last + 1 ≤ length r.air = omega (arith, played, within) in
    let long = h.same.long in
    let count : ℕ = completed b.message r.air (last + 1) in
    let lasts = laws.last_page_counts (messages_in r.log) r.air b.message (last + 1) rising there pages period
    h.legal.aired inside in
    let final = times-aired r a b h last b.message.pages in
    let reached : times_by (pages_sent r a) last b.message.pages ≡ completed b.message r.air (last + 1) =
    final ∙ lasts in
    let most = count_by-le-length (is_right_by last b.message.pages) (pages_sent r a) in
    let low = above-least (times_by (pages_sent r a) last) (completed b.message r.air (last + 1))
    (length (pages_sent r a)) 1 (length a.contents) (omega (arith, reached, most))
    (λ number first few.
    let least = laws.no_page_less (messages_in r.log) r.air b.message number (last + 1) rising there first
    (omega (arith, long, few)) period h.legal.aired inside in
    let is = times-aired r a b h last number in
    omega (arith, least, is)) in
    let high = below-each (times_by (pages_sent r a) last) (length (pages_sent r a)) 1 (length a.contents)
    b.message.pages (omega (arith, pages)) (omega (arith, long)) in
    omega (arith, low, high, reached)

-- before a slot, too
pub whole-before : (laws : Laws) (r : Record) (a : AskedMessage) (b : Accepted) → IsHeld r a b →
    0 < b.message.pages → 0 < b.message.period → (end : ℕ) → end ≤ r.clock →
    whole_before (length a.contents) (pages_sent r a) end ≡ completed b.message r.air end
whole-before laws r a b h pages period zero by =
    laws.last_page_counts (messages_in r.log) r.air b.message 0 (messages_rise laws r.log)
    (message_there r.log b h.there) pages period h.legal.aired (omega arith)
whole-before laws r a b h pages period (suc last) by =
    let next : last + 1 ≡ suc last = omega arith in
    let before : suc last - 1 ≡ last = omega arith in
    ap (λ none. cond none 0 (whole_by (length a.contents) (pages_sent r a) (suc last - 1)))
    (ne_eqb (suc last) 0 (λ none. omega (arith, none)))
    ∙ ap (whole_by (length a.contents) (pages_sent r a)) before
    ∙ whole-is laws r a b h pages period last (omega (arith, by)) ∙ ap (completed b.message r.air) next

-- and never more than were requested
cut-by : (broadcasts count : ℕ) → (broadcasts == 0) ≡ false → cut_at broadcasts count ≤ broadcasts
cut-by broadcasts count some =
    subst (λ none. cond none count (min broadcasts count) ≤ broadcasts) (sym some) (omega arith)

few-completed : (laws : Laws) (r : Record) (b : Accepted) → IsLegal r → Contains (accepted_in r.log) b →
    (b.message.broadcasts == 0) ≡ false → (slot : ℕ) → slot ≤ r.clock →
    completed b.message r.air slot ≤ b.message.broadcasts
few-completed laws r b legal there some slot by =
    let bounded = All-contains (λ (m : ScheduledMessage). (slot : ℕ) → slot ≤ r.clock →
    (layer m ≡ 0 → least_completed m slot ≤ completed m r.air slot)
    × (completed m r.air slot ≤ most_completed m slot)) (messages_in r.log) b.message
    (laws.legal_histories_are_bounded r legal) (message_there r.log b there) slot by in
    let most = bounded.1 in
    let least = cut-by b.message.broadcasts
    (div_ceil (stands_until b.message slot - b.message.start) b.message.period) some in
    omega (arith, most, least)

-- each page comes in a slot of the run
slots-within : (a : AskedMessage) (n end : ℕ) (slots : List (Option PageView)) → n + length slots ≤ end →
    AllByRecursion (λ (p : JudgedPage). p.slot < end) (judged_in a (in_slots n slots))
slots-within a n end [] by = tt
slots-within a n end (None ∷ slots) by = slots-within a (n + 1) end slots (omega (arith, by))
slots-within a n end (Some page ∷ slots) by =
    by_name (is_page_of a page) (slots-within a (n + 1) end slots (omega (arith, by)))
  where
    by_name : (own : Bool) →
        AllByRecursion (λ (p : JudgedPage). p.slot < end) (judged_in a (in_slots (n + 1) slots)) →
        AllByRecursion (λ (p : JudgedPage). p.slot < end) (map (judged a) (cond own
        (in_slot n page ∷ filter (λ s. is_page_of a s.page) (in_slots (n + 1) slots))
        (filter (λ s. is_page_of a s.page) (in_slots (n + 1) slots))))
    by_name true rest = (omega (arith, by), rest)
    by_name false rest = rest

nothing-found : {X : Type 0} (P : X → Type 0) (test : X → Bool) (xs : List X) → ((x : X) → P x → test x ≡ false) →
    AllByRecursion P xs → find test xs ≡ None
nothing-found P test [] none all = refl
nothing-found P test (x ∷ xs) none all =
    ap (λ here. cond here (Some x) (find test xs)) (none x all.0) ∙ nothing-found P test xs none all.1

not-less : (n k : ℕ) → k ≤ n → nat_lt n k ≡ false
not-less n k few = grind (arith, nat_tests)

-- so no page makes more broadcasts whole than were requested
pub none-more : (laws : Laws) (r : Record) (a : AskedMessage) (b : Accepted) → IsHeld r a b → 0 < b.message.pages →
    0 < b.message.period → more_differences a (pages_sent r a) ≡ []
none-more laws r a b h pages period = by_count (a.broadcasts == 0) refl
  where
    each : (a.broadcasts == 0) ≡ false → (p : JudgedPage) → p.slot < r.clock →
        is_more (length a.contents) a.broadcasts (pages_sent r a) p ≡ false
    each some p within =
        let whole = whole-is laws r a b h pages period p.slot within in
        let requested = h.same.broadcasts_is in
        let front : (b.message.broadcasts == 0) ≡ false = ap (λ n. n == 0) (sym requested) ∙ some in
        let few = few-completed laws r b h.legal h.there front (p.slot + 1) (omega (arith, within)) in
        not-less a.broadcasts (whole_by (length a.contents) (pages_sent r a) p.slot)
        (omega (arith, whole, few, requested))

    by_count : (none : Bool) → (a.broadcasts == 0) ≡ none → more_differences a (pages_sent r a) ≡ []
    by_count true is =
        ap (λ none. cond none [] (map (at_slot a order_kinds.MoreThanOrdered)
        (option_to_list (first_more (length a.contents) a.broadcasts (pages_sent r a))))) is
    by_count false is =
        let long = length-map r.air (page_aired r.log) in
        let played = h.legal.played in
        ap (λ none. cond none [] (map (at_slot a order_kinds.MoreThanOrdered)
        (option_to_list (first_more (length a.contents) a.broadcasts (pages_sent r a))))) is
        ∙ ap (λ found. map (at_slot a order_kinds.MoreThanOrdered)
        (option_to_list (option_map (λ (page : JudgedPage). page.slot) found)))
        (nothing-found (λ (p : JudgedPage). p.slot < r.clock)
        (is_more (length a.contents) a.broadcasts (pages_sent r a)) (pages_sent r a) (each is)
        (slots-within a 0 r.clock (map (page_aired r.log) r.air) (omega (arith, long, played))))

-- a number that an answer told is that of the blocks up to it
about-kill : (id serial i s of_id of_serial : ℕ) → ((id == of_id) && (serial == of_serial)) ≡ true →
    (of_id ≡ i) × (of_serial ≡ s) → (i ≡ id) × (s ≡ serial)
about-kill id serial i s of_id of_serial stops about =
    let parts = and_parts (id == of_id) (serial == of_serial) stops in (
      sym (eqb-true id of_id parts.0 ∙ about.0),
      sym (eqb-true serial of_serial parts.1 ∙ about.1),
    )

some-same : (old s : ℕ) → Some old ≡ Some s → old ≡ s
some-same old s same = ap (λ o. unwrap_or o 0) same

about-is : (id serial i s : ℕ) (command : Command) (answer : Answer) → is_stop_by id serial command answer ≡ true →
    IsAbout i s command → (i ≡ id) × (s ≡ serial)
about-is id serial i s (commands.Kill of_id of_serial) (answers.Stopped completed) stops about =
    about-kill id serial i s of_id of_serial stops about
about-is id serial i s (commands.Kill of_id of_serial) (answers.Started slot) stops about = absurd (false≢true stops)
about-is id serial i s (commands.Kill of_id of_serial) (answers.Replaced slot completed) stops about =
    absurd (false≢true stops)
about-is id serial i s (commands.Kill of_id of_serial) (answers.Told completed state) stops about =
    absurd (false≢true stops)
about-is id serial i s (commands.Kill of_id of_serial) answers.Unknown stops about = absurd (false≢true stops)
about-is id serial i s (commands.Kill of_id of_serial) (answers.Cause cause) stops about = absurd (false≢true stops)
about-is id serial i s (commands.Kill of_id of_serial) answers.Refused stops about = absurd (false≢true stops)
about-is id serial i s (commands.Status of_id of_serial) answer stops about = absurd (false≢true stops)
about-is id serial i s (commands.Write of_id new None category dcs period broadcasts contents) answer stops about =
    absurd (false≢true stops)
about-is id serial i s (commands.Write of_id new (Some old) category dcs period broadcasts contents)
    (answers.Replaced slot completed) stops about =
    about-kill id serial i s of_id old stops (about.0, some-same old s about.1)
about-is id serial i s (commands.Write of_id new (Some old) category dcs period broadcasts contents)
    (answers.Started slot) stops about = absurd (false≢true stops)
about-is id serial i s (commands.Write of_id new (Some old) category dcs period broadcasts contents)
    (answers.Stopped completed) stops about = absurd (false≢true stops)
about-is id serial i s (commands.Write of_id new (Some old) category dcs period broadcasts contents)
    (answers.Told completed state) stops about = absurd (false≢true stops)
about-is id serial i s (commands.Write of_id new (Some old) category dcs period broadcasts contents) answers.Unknown
    stops about = absurd (false≢true stops)
about-is id serial i s (commands.Write of_id new (Some old) category dcs period broadcasts contents)
    (answers.Cause cause) stops about = absurd (false≢true stops)
about-is id serial i s (commands.Write of_id new (Some old) category dcs period broadcasts contents) answers.Refused
    stops about = absurd (false≢true stops)

told-is : (r : Record) (a : AskedMessage) (b : Accepted) → IsHeld r a b → (e : Entry) → IsKnown r e →
    is_stop_of a.id a.serial e ≡ true → (told : ℕ) → completed_in e.answer ≡ Some told →
    told ≡ completed b.message r.air e.slot
told-is r a b h e known stops told says =
    let some = known.told told says in
    let other : Accepted = some.1 in
    let about = about-is a.id a.serial some.1.id some.1.serial e.command e.answer stops some.4.about in
    let is : b ≡ some.1 = same_pair r.log b some.1 h.sound h.there (some.0, some.2, some.3)
    (about.0 ∙ h.same.id_is) (about.1 ∙ h.same.serial_is) in
    some.4.exact ∙ ap (λ (x : Accepted). completed x.message r.air e.slot) (sym is)

-- so it says nothing else
none-told : (a : AskedMessage) (slots end told air : ℕ) → told ≡ air → told_difference a end told air ≡ []
none-told a slots end told air is =
    ap (λ same. cond same [] (at_slot a (order_kinds.Answer told air) end ∷ [])) (eq-eqb told air is)

-- what an answer told of a message is no difference
pub told-keeps : (laws : Laws) (r : Record) (a : AskedMessage) (b : Accepted) → IsHeld r a b → 0 < b.message.pages →
    0 < b.message.period → (ended told : Option ℕ) →
    (ended ≡ None) ⊎ ((e : Entry) × IsEnded r a.id a.serial ended told e) →
    told_differences_by r.slots 0 a (pages_sent r a) ended told ≡ []
told-keeps laws r a b h pages period ended told (inl none) =
    ap (λ e. told_differences_by r.slots 0 a (pages_sent r a) e told) none
told-keeps laws r a b h pages period ended told (inr some) =
    ap (λ e. told_differences_by r.slots 0 a (pages_sent r a) e told) some.1.ended
    ∙ ap (told_differences_by r.slots 0 a (pages_sent r a) (Some some.0.slot)) some.1.told
    ∙ by_number (completed_in some.0.answer) refl
  where
    e : Entry
    e = some.0

    by_number : (number : Option ℕ) → completed_in some.0.answer ≡ number →
        told_differences_by r.slots 0 a (pages_sent r a) (Some some.0.slot) number ≡ []
    by_number None says = refl
    by_number (Some n) says =
        let same : some.0.slot + 0 ≡ some.0.slot = omega arith in
        let is : n ≡ whole_before (length a.contents) (pages_sent r a) (some.0.slot + 0) =
        told-is r a b h some.0 some.1.known some.1.stops n says
        ∙ sym (whole-before laws r a b h pages period some.0.slot some.1.known.by_end)
        ∙ ap (whole_before (length a.contents) (pages_sent r a)) (sym same) in
        in_run (nat_le (some.0.slot + 0) r.slots)
        (none-told a r.slots some.0.slot n
        (whole_before (length a.contents) (pages_sent r a) (some.0.slot + 0)) is)
      where
        in_run : (inside : Bool) → told_difference a some.0.slot n
            (whole_before (length a.contents) (pages_sent r a) (some.0.slot + 0)) ≡ [] →
            cond inside (told_difference a some.0.slot n
            (whole_before (length a.contents) (pages_sent r a) (some.0.slot + 0))) [] ≡ []
        in_run true none = none
        in_run false none = refl
