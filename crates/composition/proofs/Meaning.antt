-- What follows for what a cell tells, for a handset that listens slot by slot, and for tapes.
use Rattle.std.proofs.Common.{◌≡◌, ℕ, suc, ◌+◌, ◌≤◌, ◌<◌, Option, Some, None, List, [], ◌∷◌, ◌++◌, length, map, take}
use Rattle.std.proofs.Common.{drop, get_or, refl, sym, ap, subst, ◌∙◌, arith, append-nil}
use Rattle.std.specs.Option.{option_to_list}
use Rattle.std.specs.List.{All, Any, Contains, AllByRecursion, flat_map}
use Rattle.std.proofs.lemmas.Grind.{flat_map-append}
use Rattle.std.proofs.lemmas.List.{length-map, get_or-map, get_or_default, map-append, length-take-le, length-drop}
use Rattle.std.proofs.lemmas.List.Elements.{recursion_from_All}
use Rattle.std.proofs.lemmas.List.Folds.{flat_map-map}
use Rattle.std.proofs.Math.Seq.{take-suc}
use Rattle.cbs_page.specs.declared.octets.PageView.{PageView}
use Rattle.cbs_page.specs.Text.{text_of_page}
use Rattle.scheduler.specs.Air.{Air, layer}
use Rattle.scheduler.specs.Completed.{completed}
use Rattle.handset.specs.Reception.{ShownMessage, pages_read, shown_in}
use Rattle.handset.specs.Counting.{whole_in}
use Rattle.handset.specs.Tape.{AreSlots}
use Rattle.bsc_table.specs.declared.entry.Entry.{Entry}
use Rattle.bsc_table.specs.Record.{Record, Accepted, accepted_in, messages_in}
use Rattle.bsc_table.specs.Legal.{IsLegal}
use Rattle.composition.proofs.Laws.{Laws}
use Rattle.cbch_blocks.specs.RecordBlocks.{page_with, page_aired, octets_of_view, blocks_of_slot, blocks_of}
use Rattle.composition.specs.Composition.{name_accepted, message_accepted, blocks_before, ShownGrowByOne}
use Rattle.composition.specs.Meaning.{AcceptedAreMeant, NoneAfterTheStop, PagesReadAreThoseAired}
use Rattle.composition.specs.Meaning.{ReportedIsWholeInBlocks, RecordsAreTapes, TextsAreThoseOfContents}
use Rattle.composition.proofs.Blocks.{CanSend, pages_of_slots, octets_long}
use Rattle.composition.proofs.Aired.{IsAired, all_aired, can_send_aired, pages_aired_in, same_pair}
use Rattle.composition.proofs.Composed.{sound_of, pages_before, message_there, messages_rise}
use Rattle.composition.proofs.Composed.{completed_is_whole_in_blocks, shown_are_the_broadcast}
use Rattle.bsc_table.specs.Bounds.{least_completed, most_completed}
use Rattle.scheduler.specs.Message.{ScheduledMessage}

-- a handset reads of the blocks the pages that were aired
pub pages_read_are_those_aired : Laws → PagesReadAreThoseAired
pages_read_are_those_aired laws r legal =
    let sound = sound_of laws r legal in
    ap pages_read (sym (flat_map-map blocks_of_slot (page_aired r.log) r.air))
    ∙ pages_of_slots (map (page_aired r.log) r.air) (can_send_aired r.log r.air
    (recursion_from_All (IsAired r.log) r.air (all_aired r sound legal)))

-- each count that a cell reported is that of whole broadcasts in its blocks
pub reported_is_whole_in_blocks : Laws → ReportedIsWholeInBlocks
reported_is_whole_in_blocks laws r legal = λ k d within reported is.
    let e : Entry = get_or r.log k d in
    let true_of = laws.legal_answers_are_true r legal k d within reported is in
    let a : Accepted = true_of.1 in
    let truly = true_of.4 in
    let count = completed_is_whole_in_blocks laws r legal true_of.0 true_of.1 true_of.2 (get_or r.log k d).slot
    (legal.known k d within) in
    let Told : Accepted → Type 0 = λ x. whole_in (name_accepted x) (blocks_before (get_or r.log k d).slot r) ≡
    completed x.message r.air (get_or r.log k d).slot in
    (true_of.0, true_of.1, true_of.2, true_of.3, (truly.about, truly.exact ∙ sym (subst Told true_of.3 count)))

pages_grow : (log : List Entry) (air : Air) (slot : ℕ) → slot < length air
    → pages_aired_in log (take (suc slot) air) ≡ pages_aired_in log (take slot air) ++ option_to_list
    (page_aired log (get_or air slot None))
pages_grow log air slot within =
    ap (pages_aired_in log) (take-suc air slot None within)
    ∙ ap (flat_map option_to_list) (map-append (page_aired log) (take slot air) (get_or air slot None ∷ []))
    ∙ flat_map-append option_to_list (map (page_aired log) (take slot air)) (page_aired log (get_or air slot None) ∷ [])
    ∙ ap (λ xs. pages_aired_in log (take slot air) ++ xs) (append-nil
    (option_to_list (page_aired log (get_or air slot None))))

-- each slot shows one message more at most
pub shown_grow_by_one : Laws → ShownGrowByOne
shown_grow_by_one laws r slot legal within =
    let sound = sound_of laws r legal in
    let next : slot + 1 ≡ suc slot = omega arith in
    let inside : slot < length r.air = let played = legal.played in omega (arith, played, within) in
    let before = pages_aired_in r.log (take slot r.air) in
    let page = page_aired r.log (get_or r.air slot None) in
    subst (λ n. (more : Option ShownMessage) × (shown_in (blocks_before n r) ≡ shown_in (blocks_before slot r) ++
    option_to_list more)) (sym next)
    (laws.one_page_shows_one (blocks_before slot r) (blocks_before (suc slot) r) page
    (pages_before r (suc slot) sound legal ∙ pages_grow r.log r.air slot inside
    ∙ ap (λ ps. ps ++ option_to_list (page_aired r.log (get_or r.air slot None)))
    (sym (pages_before r slot sound legal))))

-- each slot has four blocks of 23 octets
abbrev IsBlock : List ℕ → Type 0
IsBlock block = length block ≡ 23

of_slot : (slot : Option PageView) (rest : List (List ℕ)) → CanSend slot → AllByRecursion IsBlock rest
    → AllByRecursion IsBlock (blocks_of_slot slot ++ rest)
of_slot None rest can all = (refl, (refl, (refl, (refl, all))))
of_slot (Some page) rest can all =
    let octets = octets_of_view page in
    let long = octets_long page can in
    let one : length (take 22 (octets_of_view page)) ≡ 22 = length-take-le 22 (octets_of_view page)
    (omega (arith, long)) in
    let two : length (take 22 (drop 22 (octets_of_view page))) ≡ 22 = length-take-le 22 (drop 22 (octets_of_view page))
    (omega (arith, long, length-drop 22 (octets_of_view page))) in
    let three : length (take 22 (drop 44 (octets_of_view page))) ≡ 22 = length-take-le 22
    (drop 44 (octets_of_view page)) (omega (arith, long, length-drop 44 (octets_of_view page))) in
    let four : length (take 22 (drop 66 (octets_of_view page))) ≡ 22 = length-take-le 22
    (drop 66 (octets_of_view page)) (omega (arith, long, length-drop 66 (octets_of_view page))) in
    (ap suc one, (ap suc two, (ap suc three, (ap suc four, all))))

four_of : (slot : Option PageView) (rest : List (List ℕ)) → length (blocks_of_slot slot ++ rest) ≡ 4 + length rest
four_of None rest = omega arith
four_of (Some page) rest = omega arith

-- the blocks of pages that can be sent are whole slots
pub are_slots : (slots : List (Option PageView)) → AllByRecursion CanSend slots
    → AreSlots (length slots) (flat_map blocks_of_slot slots)
are_slots [] can = record { four = refl; each = tt }
are_slots (slot ∷ slots) can =
    let rest = are_slots slots can.1 in
    let four = four_of slot (flat_map blocks_of_slot slots) in
    let before = rest.four in
    record {
      four = omega (arith, four, before);
      each = of_slot slot (flat_map blocks_of_slot slots) can.0 rest.each;
    }

-- the blocks of a record are a tape
pub records_are_tapes : Laws → RecordsAreTapes
records_are_tapes laws r legal over few =
    let sound = sound_of laws r legal in
    let can = can_send_aired r.log r.air (recursion_from_All (IsAired r.log) r.air (all_aired r sound legal)) in
    let slots = are_slots (map (page_aired r.log) r.air) can in
    let many : length (map (page_aired r.log) r.air) ≡ r.slots = length-map r.air (page_aired r.log) ∙ legal.played
    ∙ over in
    laws.made r.cell r.slots (blocks_of r) few
    (subst (AreSlots r.slots) (flat_map-map blocks_of_slot (page_aired r.log) r.air)
    (subst (λ n. AreSlots n (flat_map blocks_of_slot (map (page_aired r.log) r.air))) many slots))

-- the text of a message's pages is that of its contents
pub texts_are_those_of_contents : TextsAreThoseOfContents
texts_are_those_of_contents id serial dcs total number [] = refl
texts_are_those_of_contents id serial dcs total number (content ∷ rest) =
    ap (λ text. text_of_page (page_with id serial dcs total number content) ++ text)
    (texts_are_those_of_contents id serial dcs total (number + 1) rest)

abbrev message : Accepted → ScheduledMessage
message a = a.message

-- a message that is shown is one that the cell accepted
pub accepted_are_meant : Laws → AcceptedAreMeant
accepted_are_meant laws r slot legal by = λ k d within.
    let a : Accepted = get_or (accepted_in r.log) k d in
    let bounds = bounded laws r slot legal by k d within in
    let broadcast = shown_are_the_broadcast laws r slot legal by in
    record {
      count = completed (get_or (accepted_in r.log) k d).message r.air slot;
      least = bounds.0;
      most = bounds.1;
      read = completed_is_whole_in_blocks laws r legal k d within slot by;
      shown = (
        λ one. broadcast.all k d within one,
        λ there. was_whole laws r slot legal (get_or (accepted_in r.log) k d)
            (k, within, sym (get_or_default (accepted_in r.log) k d (get_or (accepted_in r.log) k d) within))
            (broadcast.each there.0 (message_accepted r.log (get_or (accepted_in r.log) k d)) there.1) there.2,
      );
    }
  where
    bounded : (laws : Laws) (r : Record) (slot : ℕ)
        → IsLegal r
        → slot ≤ r.clock
        → All (λ a. (layer a.message ≡ 0 → least_completed a.message slot ≤ completed a.message r.air slot)
        × (completed a.message r.air slot ≤ most_completed a.message slot)) (accepted_in r.log)
    bounded laws r slot legal by = λ k d within.
        let long = length-map (accepted_in r.log) message in
        let same = get_or-map message (accepted_in r.log) k d d.message within in
        let both = laws.legal_histories_are_bounded r legal k d.message (omega (arith, long, within)) slot by in
        subst (λ (m : ScheduledMessage). (layer m ≡ 0 → least_completed m slot ≤ completed m r.air slot)
        × (completed m r.air slot ≤ most_completed m slot)) same both

    was_whole : (laws : Laws) (r : Record) (slot : ℕ) → IsLegal r → (a : Accepted) → Contains (accepted_in r.log) a
        → {m : ShownMessage} → Any (λ b. (1 ≤ completed b.message r.air slot) × (m ≡ message_accepted r.log b))
        (accepted_in r.log) → m ≡ message_accepted r.log a → 1 ≤ completed a.message r.air slot
    was_whole laws r slot legal a there is same =
        let both = sym is.4.1 ∙ same in
        let sound = sound_of laws r legal in
        let one : a ≡ is.1 = same_pair r.log a is.1 sound there (is.0, is.2, is.3)
        (ap (λ (x : ShownMessage). x.id) both)
        (ap (λ (x : ShownMessage). x.serial) both) in
        subst (λ (x : Accepted). 1 ≤ completed x.message r.air slot) (sym one) is.4.0

-- no page of a message is sent from its stop on
pub none_after_the_stop : Laws → NoneAfterTheStop
none_after_the_stop laws r slot legal within = λ k d inside airs.
    let played = legal.played in
    let there = message_there r.log (get_or (accepted_in r.log) k d)
    (k, inside, sym (get_or_default (accepted_in r.log) k d (get_or (accepted_in r.log) k d) inside)) in
    (laws.in_order (messages_in r.log) r.air slot (get_or (accepted_in r.log) k d).message (messages_rise laws r.log)
    there legal.aired (omega (arith, played, within)) airs).1.standing
