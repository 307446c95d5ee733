-- A cell's own tape has no difference.
use Rattle.std.proofs.Common.{◌≡◌, ◌+◌, Bool, true, cond, List, [], ◌∷◌, ◌++◌, map, refl, sym, ap, subst}
use Rattle.std.proofs.Common.{◌∙◌, arith, get_or, None}
use Rattle.std.specs.Prelude.{◌&&◌, ◌||◌, ◌==◌}
use Rattle.std.specs.List.{AllByRecursion, flat_map, list_any}
use Rattle.std.specs.List.Sorted.{IsPermutation}
use Rattle.std.proofs.lemmas.Bool.{eq-eqb}
use Rattle.std.proofs.lemmas.List.Concat.{flat_map-cons}
use Rattle.std.proofs.lemmas.List.Elements.{recursion_from_All}
use Rattle.std.proofs.lemmas.List.Folds.{flat_map-map}
use Rattle.std.proofs.lemmas.List.Sorted.{length_permutation}
use Rattle.cbs_page.specs.declared.octets.PageView.{PageView}
use Rattle.bsc_table.specs.Legal.{IsLegal}
use Rattle.bsc_table.specs.Promised.{LegalPagesAreAiredOnce}
use Rattle.bsc_table.specs.Record.{Record, accepted_in}
use Rattle.cbch_blocks.specs.RecordBlocks.{blocks_of, blocks_of_slot, page_aired}
use Rattle.composition.proofs.Aired.{AreSound, IsAired, all_aired, can_send_aired}
use Rattle.composition.proofs.Composed.{sound_of}
use Rattle.composition.proofs.Laws.{Laws}
use Rattle.verification.specs.declared.difference.Difference.{Difference}
use Rattle.verification.specs.declared.difference.Kind.TheVariants as kinds
use Rattle.verification.specs.declared.sent.SentPage.{SentPage}
use Rattle.verification.specs.Asked.{AskedMessage, asked_of_log, is_page_of_any, is_page_of}
use Rattle.verification.specs.Difference.{again_differences, all_differences, broadcast_differences, is_named_as}
use Rattle.verification.specs.Difference.{message_differences, not_ordered_after}
use Rattle.verification.specs.Judged.{judged_in}
use Rattle.verification.specs.Sent.{sent_in}
use Rattle.verification_laws.specs.OwnTapes.{NothingIsFound, OwnTapesDifferNowhere}
use Rattle.verification_laws.proofs.AskedOf.{IsAsked, all_asked, asked_are_accepted, some_asked}
use Rattle.verification_laws.proofs.OwedPages.{broadcasts-keep, sent_by_air}
use Rattle.verification_laws.proofs.OwnAgain.{again-keeps}
use Rattle.verification_laws.proofs.OwnMessage.{own-kept}
use Rattle.verification_laws.proofs.RightPages.{all-judged, pages-keep}
use Rattle.verification_laws.proofs.Slots.{IsOwn, all_own, sent_of_slots}

-- what the blocks send is what the slots aired
aired : (r : Record) → AreSound r.log → IsLegal r → AllByRecursion (IsAired r.log) r.air
aired r sound legal = recursion_from_All (IsAired r.log) r.air (all_aired r sound legal)

sent-is : (r : Record) → AreSound r.log → IsLegal r → sent_in (blocks_of r) ≡ sent_by_air r
sent-is r sound legal =
    ap sent_in (sym (flat_map-map blocks_of_slot (page_aired r.log) r.air))
    ∙ sent_of_slots 0 (map (page_aired r.log) r.air) (can_send_aired r.log r.air (aired r sound legal))

own-all : (r : Record) → AreSound r.log → IsLegal r → AllByRecursion (IsOwn r.log r.air) (sent_by_air r)
own-all r sound legal =
    all_own r.log r.air 0 r.air (λ i within. (
      omega arith,
      ap (λ k. get_or r.air k None)
          (let e : 0 + i ≡ i = omega arith in e),
    ))
    (aired r sound legal)

-- a message that was asked
message-keeps : (laws : Laws) (once : LegalPagesAreAiredOnce) (r : Record) → IsLegal r → r.clock ≡ r.slots →
    AreSound r.log → (a : AskedMessage) → IsAsked r.log (accepted_in r.log) a →
    message_differences r.slots a (judged_in a (sent_by_air r)) ≡ []
message-keeps laws once r legal ended sound a asked =
    ap (λ ds. (ds ++ broadcast_differences r.slots a (judged_in a (sent_by_air r)))
    ++ again_differences r.slots a (judged_in a (sent_by_air r)))
    (pages-keep a (judged_in a (sent_by_air r))
    (all-judged a (IsOwn r.log r.air) (sent_by_air r)
    (own-kept laws r legal sound a asked.accepted asked.there asked.same) (own-all r sound legal)))
    ∙ ap (λ ds. ds ++ again_differences r.slots a (judged_in a (sent_by_air r)))
    (broadcasts-keep once r legal ended sound a asked.accepted asked.there asked.same)
    ∙ again-keeps laws r legal sound (own-all r sound legal) a asked.accepted asked.there asked.same

-- all that were asked
none-of-all : {X Y : Type 0} (P : X → Type 0) (f : X → List Y) (xs : List X) → AllByRecursion P xs →
    ((x : X) → P x → f x ≡ []) → flat_map f xs ≡ []
none-of-all P f [] all none = refl
none-of-all P f (x ∷ xs) all none =
    flat_map-cons f x xs ∙ ap (λ ys. ys ++ flat_map f xs) (none x all.0) ∙ none-of-all P f xs all.1 none

-- each page is of one of these
page-asked : (r : Record) (s : SentPage) → IsOwn r.log r.air s → is_page_of_any (asked_of_log r.log) s.page ≡ true
page-asked r s own =
    some_asked r.log (λ a. is_page_of a s.page) (asked_of_log r.log) (accepted_in r.log) own.how.of
    (asked_are_accepted r.log) own.how.there
    (λ a same.
    let id : s.page.id ≡ a.id = ap (λ (p : PageView). p.id) (sym own.page_is) ∙ own.how.id_is ∙ sym same.id_is in
    let serial : s.page.serial ≡ a.serial =
    ap (λ (p : PageView). p.serial) (sym own.page_is) ∙ own.how.serial_is ∙ sym same.serial_is in
    ap (λ x. x && (s.page.serial == a.serial)) (eq-eqb s.page.id a.id id) ∙ eq-eqb s.page.serial a.serial serial)

none-strange : (r : Record) (before sent : List SentPage) → AllByRecursion (IsOwn r.log r.air) sent →
    not_ordered_after (asked_of_log r.log) before sent ≡ []
none-strange r before [] all = refl
none-strange r before (s ∷ sent) all =
    ap (λ (known : Bool). cond (known || list_any (is_named_as s.page) before) []
    (record { slot = s.slot; id = s.page.id; serial = s.page.serial; kind = kinds.NotOrdered } ∷ [])
    ++ not_ordered_after (asked_of_log r.log) (before ++ s ∷ []) sent) (page-asked r s all.0)
    ∙ none-strange r (before ++ s ∷ []) sent all.1

-- a cell's own tape differs nowhere from what it was asked
pub own-tapes : Laws → LegalPagesAreAiredOnce → OwnTapesDifferNowhere
own-tapes laws once r legal ended =
    let sound : AreSound r.log = sound_of laws r legal in
    ap (all_differences r.slots (asked_of_log r.log)) (sent-is r sound legal)
    ∙ ap (λ ds. ds ++ not_ordered_after (asked_of_log r.log) [] (sent_by_air r))
    (none-of-all (IsAsked r.log (accepted_in r.log))
    (λ a. message_differences r.slots a (judged_in a (sent_by_air r))) (asked_of_log r.log)
    (all_asked r.log (asked_of_log r.log) (accepted_in r.log) (asked_are_accepted r.log))
    (message-keeps laws once r legal ended sound))
    ∙ none-strange r [] (sent_by_air r) (own-all r sound legal)

-- and a list of none is empty
none-there : (found : List Difference) → IsPermutation [] found → found ≡ []
none-there [] moved = refl
none-there (d ∷ found) moved =
    absurd (let long = length_permutation [] (d ∷ found) moved in let less : ⊥ = omega (arith, long) in less)

-- so nothing is found in it
pub nothing-found : Laws → LegalPagesAreAiredOnce → NothingIsFound
nothing-found laws once r found legal ended are =
    none-there found (subst (λ ds. IsPermutation ds found) (own-tapes laws once r legal ended) are.all)
