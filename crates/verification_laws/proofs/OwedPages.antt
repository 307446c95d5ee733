-- The broadcasts that are owed are whole in the pages that the cell aired.
use Rattle.std.proofs.Common.{◌≡◌, ℕ, ◌+◌, ◌*◌, ◌≤◌, ◌<◌, Bool, true, false, Option, Some, None, List, [], ◌∷◌}
use Rattle.std.proofs.Common.{length, map, get_or, refl, sym, ap, subst, ◌∙◌, arith, inl, inr, leb-true, ltb-true}
use Rattle.std.specs.Prelude.{◌&&◌, ◌||◌, ◌==◌, ◌⊎◌, not, nat_le, nat_lt, if◌then◌else◌}
use Rattle.std.specs.List.{Contains, flat_map, range_with_len}
use Rattle.std.proofs.lemmas.Bool.{and_parts, eq-eqb, eqb-true, le-leb, lt-ltb, or_cases}
use Rattle.std.proofs.lemmas.List.Elements.{All-contains}
use Rattle.scheduler.specs.Message.{ScheduledMessage, release, due}
use Rattle.scheduler.specs.Air.{layer}
use Rattle.scheduler.specs.Background.{foreground}
use Rattle.scheduler.specs.Pages.{airs_page, times_between}
use Rattle.bsc_table.specs.Guarantee.{IsUncut, IsUpToStop}
use Rattle.bsc_table.specs.Legal.{IsLegal}
use Rattle.bsc_table.specs.Promised.{LegalPagesAreAiredOnce}
use Rattle.bsc_table.specs.Record.{Record, Accepted, accepted_in, messages_in}
use Rattle.bsc_table.proofs.History.Ranks.{Contains-filter}
use Rattle.cbch_blocks.specs.RecordBlocks.{page_aired}
use Rattle.composition.proofs.Aired.{AreSound, IsAired, IsAiredAs, all_aired}
use Rattle.composition.proofs.Composed.{message_there}
use Rattle.verification.specs.declared.difference.Difference.{Difference}
use Rattle.verification.specs.declared.difference.Kind.TheVariants as kinds
use Rattle.verification.specs.declared.judged.JudgedPage.{JudgedPage}
use Rattle.verification.specs.declared.sent.SentPage.{SentPage}
use Rattle.verification.specs.Asked.{AskedMessage, is_page_of}
use Rattle.verification.specs.Difference.{broadcast_difference, broadcast_differences, difference_of, has_page}
use Rattle.verification.specs.Difference.{is_by, is_in_time, is_owed, is_whole}
use Rattle.verification.specs.Difference as wanted
use Rattle.verification.specs.Judged.{is_right, judged, judged_in}
use Rattle.verification_laws.proofs.AskedOf.{IsComing}
use Rattle.verification_laws.proofs.Lists.{all-range, any-seen, some-between}
use Rattle.verification_laws.proofs.OwnMessage.{own-right, same_number}
use Rattle.verification_laws.proofs.RightPages.{flat_map-none}
use Rattle.verification_laws.proofs.Slots.{in_slot, in_slots, some_own}

-- the pages that a run's air sends
abbrev pub sent_by_air : Record → List SentPage
sent_by_air r = in_slots 0 (map (page_aired r.log) r.air)

-- the slots of a broadcast are the same by both
pub release-is : (log : List _) (a : AskedMessage) (b : Accepted) (j : ℕ) → IsComing log [] a b →
    wanted.release_slot a j ≡ release b.message j
release-is log a b j same =
    ap (λ start. start + j * a.period) same.start_is ∙ ap (λ period. b.message.start + j * period) same.period_is

-- and so is that by which it is due
pub due-is : (log : List _) (a : AskedMessage) (b : Accepted) (j : ℕ) → IsComing log [] a b →
    wanted.due_slot a j ≡ due b.message j
due-is log a b j same =
    ap (λ start. start + (j + 1) * a.period) same.start_is
    ∙ ap (λ period. b.message.start + (j + 1) * period) same.period_is

-- a broadcast that is owed is cut by nothing
up-to : (slot : ℕ) (stop : Option ℕ) → is_by stop slot ≡ true → IsUpToStop slot stop
up-to slot None by = tt
up-to slot (Some stop) by = leb-true slot stop by

requested : (broadcasts j : ℕ) → ((broadcasts == 0) || nat_lt j broadcasts) ≡ true → (broadcasts ≡ 0) ⊎ (j < broadcasts)
requested broadcasts j says =
    elim (or_cases (broadcasts == 0) (nat_lt j broadcasts) says) [
      | inl none ↦ inl (eqb-true broadcasts 0 none)
      | inr less ↦ inr (ltb-true j broadcasts less)
    ]

uncut : (r : Record) → IsLegal r → r.clock ≡ r.slots → (a : AskedMessage) (b : Accepted) (j : ℕ) →
    IsComing r.log [] a b → is_owed r.slots a j ≡ true → IsUncut b.message j r.air
uncut r legal ended a b j same owed =
    let first = and_parts (nat_le (wanted.due_slot a j) r.slots)
    (is_by a.stop (wanted.due_slot a j) && ((a.broadcasts == 0) || nat_lt j a.broadcasts)) owed in
    let rest = and_parts (is_by a.stop (wanted.due_slot a j)) ((a.broadcasts == 0) || nat_lt j a.broadcasts) first.1 in
    let by_end : wanted.due_slot a j ≤ r.slots = leb-true (wanted.due_slot a j) r.slots first.0 in
    let due_is = due-is r.log a b j same in
    let played = legal.played in
    record {
      requested = subst (λ n. (n ≡ 0) ⊎ (j < n)) same.broadcasts_is (requested a.broadcasts j rest.1);
      standing = subst (IsUpToStop (due b.message j)) same.stop_is
          (subst (λ slot. IsUpToStop slot a.stop) due_is (up-to (wanted.due_slot a j) a.stop rest.0));
      aired_by = omega (arith, by_end, due_is, played, ended);
    }

-- what airs a page
airs-used : (entry number : ℕ) (o : Option (ℕ × ℕ)) → airs_page entry number o ≡ true →
    (used : ℕ × ℕ) × (o ≡ Some used) × (used.0 ≡ entry) × (used.1 ≡ number)
airs-used entry number None says = cc
airs-used entry number (Some used) says =
    let parts = and_parts (used.0 == entry) (used.1 == number) says in (
      used,
      refl,
      eqb-true used.0 entry parts.0,
      eqb-true used.1 number parts.1,
    )

both : (a b : Bool) → a ≡ true → b ≡ true → (a && b) ≡ true
both a b one two = ap (λ x. x && b) one ∙ two

-- each page of a broadcast that is owed was sent in its time
sent-page : (once : LegalPagesAreAiredOnce) (r : Record) → IsLegal r → r.clock ≡ r.slots → AreSound r.log →
    (a : AskedMessage) (b : Accepted) → Contains (accepted_in r.log) b → IsComing r.log [] a b → a.background ≡ false →
    (j number : ℕ) → is_owed r.slots a j ≡ true → 1 ≤ number → number ≤ length a.contents →
    has_page a (judged_in a (sent_by_air r)) j number ≡ true
sent-page once r legal ended sound a b there same front j number owed first few =
    let m : ScheduledMessage = b.message in
    let Aired : ScheduledMessage → Type 0 = λ x. (i page : ℕ) → IsUncut x i r.air → 1 ≤ page → page ≤ x.pages →
    times_between x.entry page r.air (release x i) (due x i) ≡ 1 in
    let standing : Contains (foreground (messages_in r.log)) b.message =
    Contains-filter (λ (x : ScheduledMessage). layer x == 0) (messages_in r.log) b.message
    (message_there r.log b there) (eq-eqb (layer b.message) 0 (same.layer_is front)) in
    let long = same.long in
    let one : times_between b.message.entry number r.air (release b.message j) (due b.message j) ≡ 1 =
    All-contains (λ (x : ScheduledMessage). (i page : ℕ) → IsUncut x i r.air → 1 ≤ page → page ≤ x.pages →
    times_between x.entry page r.air (release x i) (due x i) ≡ 1) (foreground (messages_in r.log)) b.message
    (once r legal) standing j number (uncut r legal ended a b j same owed) first (omega (arith, long, few)) in
    let found = some-between (airs_page b.message.entry number) r.air (release b.message j) (due b.message j) None
    (omega (arith, one)) in
    let used = airs-used b.message.entry number (get_or r.air found.0 None) found.4 in
    let h : IsAiredAs r.log used.0 =
    subst (IsAired r.log) used.1 (all_aired r sound legal found.0 None found.3) in
    let is : b ≡ h.of = same_number r.log b h.of sound there h.there (h.number_is ∙ used.2) in
    let test : SentPage → Bool = λ s. is_page_of a s.page
    && (is_in_time a j (judged a s) && (((judged a s).number == number) && (judged a s).right)) in
    let named : is_page_of a h.page ≡ true =
    both (h.page.id == a.id) (h.page.serial == a.serial)
    (eq-eqb h.page.id a.id (h.id_is ∙ ap (λ (x : Accepted). x.id) (sym is) ∙ sym same.id_is))
    (eq-eqb h.page.serial a.serial (h.serial_is ∙ ap (λ (x : Accepted). x.serial) (sym is) ∙ sym same.serial_is)) in
    let release_is = release-is r.log a b j same in
    let due_is = due-is r.log a b j same in
    let begun : wanted.release_slot a j ≤ 0 + found.0 = omega (arith, release_is, found.1) in
    let early : 0 + found.0 < wanted.due_slot a j = omega (arith, due_is, found.2) in
    let in_time : is_in_time a j (judged a (in_slot (0 + found.0) h.page)) ≡ true =
    both (nat_le (wanted.release_slot a j) (0 + found.0)) (nat_lt (0 + found.0) (wanted.due_slot a j))
    (le-leb (wanted.release_slot a j) (0 + found.0) begun) (lt-ltb (0 + found.0) (wanted.due_slot a j) early) in
    let passes : test (in_slot (0 + found.0) h.page) ≡ true =
    both (is_page_of a h.page) (is_in_time a j (judged a (in_slot (0 + found.0) h.page))
    && ((h.page.number == number) && is_right a h.page)) named
    (both (is_in_time a j (judged a (in_slot (0 + found.0) h.page))) ((h.page.number == number) && is_right a h.page)
    in_time
    (both (h.page.number == number) (is_right a h.page)
    (eq-eqb h.page.number number (h.numbered ∙ used.3))
    (own-right r.log a b used.0 h same (sym is)))) in
    any-seen (λ (s : SentPage). is_page_of a s.page)
    (λ (page : JudgedPage). is_in_time a j page && ((page.number == number) && page.right)) (judged a) (sent_by_air r)
    ∙ some_own r.log test 0 r.air found.0 h.page found.3 (ap (page_aired r.log) used.1 ∙ h.aired) passes

owed-whole : (once : LegalPagesAreAiredOnce) (r : Record) → IsLegal r → r.clock ≡ r.slots → AreSound r.log →
    (a : AskedMessage) (b : Accepted) → Contains (accepted_in r.log) b → IsComing r.log [] a b → a.background ≡ false →
    (j : ℕ) → is_owed r.slots a j ≡ true → is_whole a (judged_in a (sent_by_air r)) j ≡ true
owed-whole once r legal ended sound a b there same front j owed =
    all-range (has_page a (judged_in a (sent_by_air r)) j) 1 (length a.contents)
    (λ number low high. sent-page once r legal ended sound a b there same front j number owed low (omega arith))

-- so its broadcasts have no difference
none-if : (owed whole : Bool) (d : Difference) → (owed ≡ true → whole ≡ true) →
    (if owed && not whole then d ∷ [] else []) ≡ []
none-if true whole d says = ap (λ (x : Bool). if not x then d ∷ [] else []) (says refl)
none-if false whole d says = refl

-- no owed broadcast of a legal record is missing in its own tape
pub broadcasts-keep : (once : LegalPagesAreAiredOnce) (r : Record) → IsLegal r → r.clock ≡ r.slots → AreSound r.log →
    (a : AskedMessage) (b : Accepted) → Contains (accepted_in r.log) b → IsComing r.log [] a b →
    broadcast_differences r.slots a (judged_in a (sent_by_air r)) ≡ []
broadcasts-keep once r legal ended sound a b there same = by_background a.background refl
  where
    by_background : (back : Bool) → a.background ≡ back →
        broadcast_differences r.slots a (judged_in a (sent_by_air r)) ≡ []
    by_background true is =
        ap (λ (x : Bool). if x then [] else flat_map (broadcast_difference r.slots a (judged_in a (sent_by_air r)))
        (range_with_len 0 r.slots)) is
    by_background false is =
        ap (λ (x : Bool). if x then [] else flat_map (broadcast_difference r.slots a (judged_in a (sent_by_air r)))
        (range_with_len 0 r.slots)) is
        ∙ flat_map-none (broadcast_difference r.slots a (judged_in a (sent_by_air r))) (range_with_len 0 r.slots)
        (λ j. none-if (is_owed r.slots a j) (is_whole a (judged_in a (sent_by_air r)) j)
        (difference_of a (kinds.NotWhole j) (wanted.due_slot a j))
        (owed-whole once r legal ended sound a b there same is j))
