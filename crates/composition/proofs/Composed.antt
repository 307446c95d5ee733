-- The blocks of a legal history show the accepted messages that were broadcast whole, and their counts are the
-- completed numbers.
use Rattle.std.proofs.Common.{◌≡◌, ℕ, ◌*◌, ◌≤◌, ◌<◌, ◌⊎◌, inl, inr, Bool, true, leb, eqb, Some, None, List, [], ◌∷◌}
use Rattle.std.proofs.Common.{◌++◌, length, map, take, filter, get_or, refl, sym, ap, subst, ◌∙◌, arith}
use Rattle.std.proofs.Common.{encode_utf8_all}
use Rattle.std.specs.Option.{option_to_list}
use Rattle.std.specs.List.{All, AllPairs, Any, Contains, AllByRecursion, flat_map, list_all, range_with_len, find}
use Rattle.std.specs.Prelude.{not, ◌&&◌, is_some}
use Rattle.std.proofs.lemmas.Bool.{cases_Bool, false≢true, leb-true, le-leb, eqb-true, and_parts}
use Rattle.std.proofs.lemmas.List.{length-map, get_or-map, get_or_default, take-map}
use Rattle.std.proofs.lemmas.List.Elements.{All-take, recursion_from_All}
use Rattle.std.proofs.lemmas.List.Folds.{flat_map-map}
use Rattle.cbs_page.specs.declared.octets.PageView.{PageView}
use Rattle.scheduler.specs.Message.{ScheduledMessage}
use Rattle.scheduler.specs.Air.{Air}
use Rattle.scheduler.specs.Completed.{completed}
use Rattle.handset.specs.Reception.{Name, is_of, pages_named, agreeing, total_in, is_complete, ShownMessage}
use Rattle.handset.specs.Reception.{shown_message}
use Rattle.handset.specs.Reception.{readable_pages, shown_in}
use Rattle.handset.specs.Counting.{whole_among}
use Rattle.handset.specs.Showing.{name_shown, AreTheComplete}
use Rattle.handset.specs.OneMessage.{AreFrom}
use Rattle.bsc_table.specs.declared.entry.Entry.{Entry}
use Rattle.bsc_table.specs.Record.{Record, Accepted, accepted_in, messages_in}
use Rattle.bsc_table.specs.Legal.{IsLegal}
use Rattle.composition.proofs.Laws.{Laws, HasLoad}
use Rattle.cbch_blocks.specs.RecordBlocks.{page_aired, blocks_of_slot}
use Rattle.composition.specs.Composition.{name_accepted, message_accepted, blocks_before, CompletedIsWholeInBlocks}
use Rattle.composition.specs.Composition.{ShownAreTheBroadcast}
use Rattle.composition.proofs.Blocks.{readable_of_slots, first_slots}
use Rattle.composition.proofs.Sent.{IsSentMessage, sent_by, all_sent, is_message}
use Rattle.composition.proofs.Aired.{AreSound, IsAired, IsAiredAs, all_aired, can_send_aired, pages_aired_in, are_from}
use Rattle.composition.proofs.Aired.{counted}

-- a legal record has a sound log
pub sound_of : (laws : Laws) (r : Record) → IsLegal r → AreSound r.log
sound_of laws r legal = record {
  sent = all_sent laws r legal;
  once = laws.legal_pairs_come_once r legal;
  rising = laws.accepted_rise r.log;
}

-- whether pages of one message are all of it
abbrev complete_by : List PageView → Bool
complete_by ps = not (eqb (total_in ps) 0) && list_all (λ number. is_some (find (λ page. eqb page.number number) ps))
    (range_with_len 1 (total_in ps))

abbrev message : Accepted → ScheduledMessage
message a = a.message

abbrev accepted_as : ScheduledMessage → Accepted
accepted_as m = record { id = 0; serial = 0; accepted = 0; behind = None; excess = 0; message = m }

-- the numbers of a log's messages rise
pub messages_rise : (laws : Laws) (log : List Entry) → AllPairs (λ (a b : ScheduledMessage). a.entry < b.entry)
    (messages_in log)
messages_rise laws log = λ i j d before within.
    let all = accepted_in log in
    let long = length-map (accepted_in log) message in
    let one = get_or-map message (accepted_in log) i (accepted_as d) d (omega (arith, long, before, within)) in
    let two = get_or-map message (accepted_in log) j (accepted_as d) d (omega (arith, long, within)) in
    let rises = laws.accepted_rise log i j (accepted_as d) before (omega (arith, long, within)) in
    subst (λ (x : ScheduledMessage). x.entry < (get_or (messages_in log) j d).entry) (sym one)
    (subst (λ (y : ScheduledMessage). (get_or (accepted_in log) i (accepted_as d)).message.entry < y.entry)
    (sym two) rises)

-- the message of what was accepted is among those of the log
pub message_there : (log : List Entry) (a : Accepted) → Contains (accepted_in log) a
    → Contains (messages_in log) a.message
message_there log a there =
    let long = length-map (accepted_in log) message in
    let within = there.1 in (
      there.0,
      omega (arith, long, within),
      get_or-map message (accepted_in log) there.0 a a.message within
          ∙ ap message there.2,
    )

-- the slots before this one air pages of accepted messages
before_are_aired : (r : Record) (slot : ℕ) → AreSound r.log → IsLegal r
    → AllByRecursion (IsAired r.log) (take slot r.air)
before_are_aired r slot sound legal = recursion_from_All (IsAired r.log) (take slot r.air)
    (All-take (IsAired r.log) slot r.air (all_aired r sound legal))

-- the pages that are read before a slot are those aired before it
pub pages_before : (r : Record) (slot : ℕ) → AreSound r.log → IsLegal r
    → readable_pages (blocks_before slot r) ≡ pages_aired_in r.log (take slot r.air)
pages_before r slot sound legal =
    ap readable_pages
    (ap (take (4 * slot)) (sym (flat_map-map blocks_of_slot (page_aired r.log) r.air))
    ∙ first_slots slot (map (page_aired r.log) r.air)
    ∙ ap (flat_map blocks_of_slot) (take-map (page_aired r.log) slot r.air))
    ∙ readable_of_slots (map (page_aired r.log) (take slot r.air))
    (can_send_aired r.log (take slot r.air) (before_are_aired r slot sound legal))

-- what is known of an accepted message
record IsRead (r : Record) (slot : ℕ) (a : Accepted) : Type 0 where
  from : AreFrom (name_accepted a) (sent_by r.log a) (readable_pages (blocks_before slot r))
  whole : whole_among (name_accepted a) (readable_pages (blocks_before slot r)) ≡ completed a.message r.air slot

is_read : (laws : Laws) (r : Record) (slot : ℕ) (a : Accepted) → AreSound r.log → IsLegal r → slot ≤ r.clock
    → Contains (accepted_in r.log) a → HasLoad a → IsSentMessage a (sent_by r.log a) → IsRead r slot a
is_read laws r slot a sound legal by there loaded sent =
    let pages = pages_before r slot sound legal in
    let aired = before_are_aired r slot sound legal in
    let from = are_from r.log a (take slot r.air) sound there aired in
    let rising = messages_rise laws r.log in
    let here = message_there r.log a there in
    let within : slot ≤ length r.air = let played = legal.played in omega (arith, played, by) in
    let long = sent.long in
    record {
      from = subst (AreFrom (name_accepted a) (sent_by r.log a)) (sym pages) from;
      whole = ap (whole_among (name_accepted a)) pages
          ∙ laws.whole_is_the_least_count (name_accepted a) (sent_by r.log a) (pages_aired_in r.log (take slot r.air))
          (completed a.message r.air slot)
          (is_message a (sent_by r.log a) sent) from
          (record {
            number = a.message.pages;
            low = loaded.0;
            high = omega (arith, long);
            reached = counted r.log a a.message.pages (take slot r.air) sound there aired
                ∙ laws.last_page_counts (messages_in r.log) r.air a.message slot rising here loaded.0 loaded.1
                legal.aired within;
            below = λ n low high.
                let count = counted r.log a n (take slot r.air) sound there aired in
                let least = laws.no_page_less (messages_in r.log) r.air a.message n slot rising here low
                (omega (arith, long, high)) loaded.1 legal.aired within in
                omega (arith, count, least);
          });
    }

all_read : (laws : Laws) (r : Record) (slot : ℕ) → IsLegal r → slot ≤ r.clock
    → All (λ a. IsSentMessage a (sent_by r.log a) × IsRead r slot a) (accepted_in r.log)
all_read laws r slot legal by = λ k d within.
    let sound = sound_of laws r legal in
    let a : Accepted = get_or (accepted_in r.log) k d in
    let sent = sound.sent k d within in (
      sent,
      is_read laws r slot (get_or (accepted_in r.log) k d) sound legal by
          (k, within, get_or_same (accepted_in r.log) k d within) (laws.accepted_have_loads r legal k d within) sent,
    )
  where
    get_or_same : (xs : List Accepted) (k : ℕ) (d : Accepted) → k < length xs
        → get_or xs k (get_or xs k d) ≡ get_or xs k d
    get_or_same xs k d within = sym (get_or_default xs k d (get_or xs k d) within)

-- a message's complete broadcasts are the whole ones in its cell's blocks
pub completed_is_whole_in_blocks : Laws → CompletedIsWholeInBlocks
completed_is_whole_in_blocks laws r legal = λ k d within slot by. (all_read laws r slot legal by k d within).1.whole

-- a name of which a page was read is an accepted message's
named_or_not : (log : List Entry) (uses : Air) (name : Name) → AllByRecursion (IsAired log) uses
    → (pages_named name (pages_aired_in log uses) ≡ []) ⊎ ((a : Accepted) × Contains (accepted_in log) a
    × (name ≡ name_accepted a))
named_or_not log [] name all = inl refl
named_or_not log (None ∷ uses) name all = named_or_not log uses name all.1
named_or_not log (Some used ∷ uses) name all =
    let h : IsAiredAs log used = all.0 in
    elim (cases_Bool (is_of name h.page)) [
      | inl own ↦
          let parts = and_parts (eqb h.page.id name.id) (eqb h.page.serial name.serial) own in
          let id : name.id ≡ h.of.id = sym (eqb-true h.page.id name.id parts.0) ∙ h.id_is in
          let serial : name.serial ≡ h.of.serial = sym (eqb-true h.page.serial name.serial parts.1) ∙ h.serial_is in
          inr (
            h.of,
            h.there,
            ap (λ i. let n : Name = record { id = i; serial = name.serial } in n) id
                ∙ ap (λ s. let n : Name = record { id = h.of.id; serial = s } in n) serial,
          )
      | inr other ↦ elim (named_or_not log uses name all.1) [
        | inr found ↦ inr found
        | inl none ↦ inl (ap (λ o. filter (is_of name) (option_to_list o ++ pages_aired_in log uses)) h.aired
            ∙ (let e : filter (is_of name) (h.page ∷ pages_aired_in log uses) ≡ filter (is_of name)
            (pages_aired_in log uses) = rw other refl in e) ∙ none)
      ]
    ]

-- what is shown are the messages that were broadcast whole once at least, each once
pub shown_are_the_broadcast : Laws → ShownAreTheBroadcast
shown_are_the_broadcast laws r slot legal by =
    let sound = sound_of laws r legal in
    let blocks : List (List ℕ) = blocks_before slot r in
    let pages = pages_before r slot sound legal in
    let shows : AreTheComplete (readable_pages (blocks_before slot r)) (shown_in (blocks_before slot r)) =
    laws.shown_are_the_complete (blocks_before slot r) in
    let read = all_read laws r slot legal by in
    record {
      each = λ k d within.
          let m : ShownMessage = get_or (shown_in (blocks_before slot r)) k d in
          let whole = shows.complete k d within in
          let named : (a : Accepted) × Contains (accepted_in r.log) a
          × (name_shown (get_or (shown_in (blocks_before slot r)) k d) ≡ name_accepted a) =
          elim (named_or_not r.log (take slot r.air) (name_shown (get_or (shown_in (blocks_before slot r)) k d))
          (before_are_aired r slot sound legal)) [
            | inr found ↦ found
            | inl none ↦ absurd (false≢true (sym (ap (λ ps. complete_by (agreeing ps))
                (ap (pages_named (name_shown (get_or (shown_in (blocks_before slot r)) k d))) pages ∙ none)) ∙ whole))
          ] in
          each_is r slot (get_or (shown_in (blocks_before slot r)) k d) named.0 named.1 named.2 read whole
          (shows.meant k d within);
      all = λ k d within one.
          let a : Accepted = get_or (accepted_in r.log) k d in
          let it = read k d within in
          let whole = complete_where r slot (get_or (accepted_in r.log) k d) it.1 one in
          subst (Contains (shown_in (blocks_before slot r))) (message_is r slot (get_or (accepted_in r.log) k d) it.0
          it.1 whole) (shows.all (name_accepted (get_or (accepted_in r.log) k d)) whole);
      once = shows.once;
    }
  where
    complete_where : (r : Record) (slot : ℕ) (a : Accepted) → IsRead r slot a → 1 ≤ completed a.message r.air slot
        → is_complete (name_accepted a) (readable_pages (blocks_before slot r)) ≡ true
    complete_where r slot a read one =
        laws.complete_is_whole (name_accepted a) (readable_pages (blocks_before slot r)) ∙ ap (leb 1) read.whole
        ∙ le-leb 1 (completed a.message r.air slot) one

    message_is : (r : Record) (slot : ℕ) (a : Accepted) → IsSentMessage a (sent_by r.log a) → IsRead r slot a
        → is_complete (name_accepted a) (readable_pages (blocks_before slot r)) ≡ true
        → shown_message (name_accepted a) (readable_pages (blocks_before slot r)) ≡ message_accepted r.log a
    message_is r slot a sent read whole =
        let text = laws.text_is_the_messages (name_accepted a) (sent_by r.log a)
        (readable_pages (blocks_before slot r)) (is_message a (sent_by r.log a) sent) read.from whole in
        ap (λ t. let m : ShownMessage = record { id = a.id; serial = a.serial; text = encode_utf8_all t } in m) text

    each_is : (r : Record) (slot : ℕ) (m : ShownMessage) (a : Accepted) → Contains (accepted_in r.log) a
        → name_shown m ≡ name_accepted a → All (λ a. IsSentMessage a (sent_by r.log a) × IsRead r slot a)
        (accepted_in r.log) → is_complete (name_shown m) (readable_pages (blocks_before slot r)) ≡ true
        → m ≡ shown_message (name_shown m) (readable_pages (blocks_before slot r))
        → Any (λ a. (1 ≤ completed a.message r.air slot) × (m ≡ message_accepted r.log a)) (accepted_in r.log)
    each_is r slot m a there name read whole meant =
        let it = subst (λ x. IsSentMessage x (sent_by r.log x) × IsRead r slot x) there.2 (read there.0 a there.1) in
        let complete : is_complete (name_accepted a) (readable_pages (blocks_before slot r)) ≡ true = ap
        (λ n. is_complete n (readable_pages (blocks_before slot r))) (sym name) ∙ whole in
        let test = sym (laws.complete_is_whole (name_accepted a) (readable_pages (blocks_before slot r))
        ∙ ap (leb 1) it.1.whole) ∙ complete in
        let one : 1 ≤ completed a.message r.air slot = leb-true 1 (completed a.message r.air slot) test in (
          there.0,
          a,
          there.1,
          there.2,
          (
            one,
            meant ∙ ap (λ n. shown_message n (readable_pages (blocks_before slot r)))
                name ∙ message_is r slot a it.0 it.1 complete,
          ),
        )
