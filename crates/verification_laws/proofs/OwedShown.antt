-- Of blocks without a difference a handset shows each message that was owed a broadcast, with its text.
use Rattle.std.proofs.Common.{◌≡◌, ℕ, ◌+◌, ◌*◌, ◌<◌, ◌≤◌, Bool, true, false, not}
use Rattle.std.proofs.Common.{List, [], ◌∷◌, ◌++◌, length, refl, sym, ap, subst}
use Rattle.std.proofs.Common.{◌∙◌}
use Rattle.std.proofs.Common.{arith, leb-true}
use Rattle.std.specs.Prelude.{◌&&◌, ◌||◌, ◌==◌, nat_le, nat_lt, if◌then◌else◌}
use Rattle.std.specs.List.{AllByRecursion, Contains, flat_map, range_with_len}
use Rattle.std.proofs.lemmas.Bool.{and_parts}
use Rattle.std.proofs.lemmas.List.Elements.{All-contains, All-from_recursion}
use Rattle.bsc_table.specs.Legal.{IsLegal}
use Rattle.bsc_table.specs.Record.{Record, accepted_in}
use Rattle.handset.specs.Reception.{pages_named, readable_pages, shown_in}
use Rattle.composition.proofs.Laws.{HasLoad, Laws}
use Rattle.verification.specs.declared.difference.Difference.{Difference}
use Rattle.verification.specs.declared.difference.Kind.TheVariants as kinds
use Rattle.verification.specs.declared.judged.JudgedPage.{JudgedPage}
use Rattle.verification.specs.Asked.{AskedMessage, asked_of_log}
use Rattle.verification.specs.Difference.{again_differences, broadcast_difference, broadcast_differences, difference_of}
use Rattle.verification.specs.Difference.{due_slot, has_page, is_by, is_owed, is_whole, message_differences}
use Rattle.verification.specs.Difference.{page_differences}
use Rattle.verification.specs.Judged.{judged_in}
use Rattle.verification.specs.Sent.{sent_in}
use Rattle.verification_laws.specs.Shown.{OwedAreShown, message_asked}
use Rattle.verification_laws.proofs.AskedOf.{IsAsked, all_asked, asked_are_accepted}
use Rattle.verification_laws.proofs.NoOthers.{are-none, each-none, none-joined}
use Rattle.verification_laws.proofs.ReadPages.{IsRead, all-in-range, complete, in-range, name_asked, number-read}
use Rattle.verification_laws.proofs.ReadPages.{right-read, text-is}

-- a message that is owed a broadcast was read
whole-if : (owed whole : Bool) (d : Difference) → owed ≡ true → (if owed && not whole then d ∷ [] else []) ≡ [] →
    whole ≡ true
whole-if true true d owed none = refl
whole-if true false d owed none = cc
whole-if false whole d owed none = cc

first-whole : (r : Record) (a : AskedMessage) (pages : List JudgedPage) → a.background ≡ false → 0 < r.slots →
    is_owed r.slots a 0 ≡ true → broadcast_differences r.slots a pages ≡ [] → is_whole a pages 0 ≡ true
first-whole r a pages front some owed none =
    let all : flat_map (broadcast_difference r.slots a pages) (range_with_len 0 r.slots) ≡ [] =
    sym (ap (λ (x : Bool). if x then []
    else flat_map (broadcast_difference r.slots a pages) (range_with_len 0 r.slots)) front) ∙ none in
    whole-if (is_owed r.slots a 0) (is_whole a pages 0) (difference_of a (kinds.NotWhole 0) (due_slot a 0)) owed
    (in-range (λ j. broadcast_difference r.slots a pages j ≡ []) 0 r.slots 0
    (each-none (broadcast_difference r.slots a pages) (range_with_len 0 r.slots) all) (omega arith) (omega arith))

was-read : (laws : Laws) (r : Record) (blocks : List (List ℕ)) → IsLegal r → (a : AskedMessage) →
    IsAsked r.log (accepted_in r.log) a →
    message_differences r.slots a (judged_in a (sent_in blocks)) ≡ [] → a.background ≡ false →
    is_owed r.slots a 0 ≡ true → IsRead a (pages_named (name_asked a) (readable_pages blocks))
was-read laws r blocks legal a asked none front owed =
    let all = none-joined (page_differences a (judged_in a (sent_in blocks))
    ++ broadcast_differences r.slots a (judged_in a (sent_in blocks)))
    (again_differences r.slots a (judged_in a (sent_in blocks))) none in
    let both = none-joined (page_differences a (judged_in a (sent_in blocks)))
    (broadcast_differences r.slots a (judged_in a (sent_in blocks))) all.0 in
    let load = All-contains HasLoad (accepted_in r.log) asked.accepted (laws.accepted_have_loads r legal) asked.there in
    let long = asked.same.long in
    let period = asked.same.period_is in
    let first = and_parts (nat_le (due_slot a 0) r.slots)
    (is_by a.stop (due_slot a 0) && ((a.broadcasts == 0) || nat_lt 0 a.broadcasts)) owed in
    let by_end : due_slot a 0 ≤ r.slots = leb-true (due_slot a 0) r.slots first.0 in
    let some_slot : 0 < r.slots = some-slot a.start a.period r.slots (omega (arith, period, load.1)) by_end in
    let whole = first-whole r a (judged_in a (sent_in blocks)) front some_slot owed both.1 in
    record {
      right = right-read a blocks both.0;
      numbers = λ number low high.
          number-read a blocks 0 number
          (in-range (λ n. has_page a (judged_in a (sent_in blocks)) 0 n ≡ true) 1 (length a.contents) number
          (all-in-range (has_page a (judged_in a (sent_in blocks)) 0) 1 (length a.contents) whole) low (omega arith));
      some = omega (arith, long, load.0);
    }
  where
    some-slot : (start period slots : ℕ) → 0 < period → start + (0 + 1) * period ≤ slots → 0 < slots
    some-slot start period slots some by = omega arith

both-each : {X : Type 0} (P Q : X → Type 0) (xs : List X) → AllByRecursion P xs → AllByRecursion Q xs →
    AllByRecursion (λ x. P x × Q x) xs
both-each P Q [] one two = tt
both-each P Q (x ∷ xs) one two = ((one.0, two.0), both-each P Q xs one.1 two.1)

each-weaker : {X : Type 0} (P Q : X → Type 0) (xs : List X) → ((x : X) → P x → Q x) → AllByRecursion P xs →
    AllByRecursion Q xs
each-weaker P Q [] weaker all = tt
each-weaker P Q (x ∷ xs) weaker all = (weaker x all.0, each-weaker P Q xs weaker all.1)

-- where nothing differs each message that is owed a broadcast is shown
pub owed-shown : Laws → OwedAreShown
owed-shown laws r blocks legal are =
    let none = are-none r blocks are in
    let Shows : AskedMessage → Type 0 = λ a. a.background ≡ false → is_owed r.slots a 0 ≡ true →
    Contains (shown_in blocks) (message_asked a) in
    let NoneOf : AskedMessage → Type 0 = λ a. message_differences r.slots a (judged_in a (sent_in blocks)) ≡ [] in
    All-from_recursion (λ (a : AskedMessage). a.background ≡ false → is_owed r.slots a 0 ≡ true →
    Contains (shown_in blocks) (message_asked a)) (asked_of_log r.log)
    (each-weaker (λ (a : AskedMessage). (message_differences r.slots a (judged_in a (sent_in blocks)) ≡ [])
    × IsAsked r.log (accepted_in r.log) a)
    (λ (a : AskedMessage). a.background ≡ false → is_owed r.slots a 0 ≡ true →
    Contains (shown_in blocks) (message_asked a)) (asked_of_log r.log)
    (λ a known front owed.
    let read = was-read laws r blocks legal a known.1 known.0 front owed in
    subst (λ text. Contains (shown_in blocks) (record { id = a.id; serial = a.serial; text = text }))
    (text-is a (readable_pages blocks) read)
    ((laws.shown_are_the_complete blocks).all (name_asked a) (complete a (readable_pages blocks) read)))
    (both-each (λ (a : AskedMessage). message_differences r.slots a (judged_in a (sent_in blocks)) ≡ [])
    (IsAsked r.log (accepted_in r.log)) (asked_of_log r.log) none.messages
    (all_asked r.log (asked_of_log r.log) (accepted_in r.log) (asked_are_accepted r.log))))
