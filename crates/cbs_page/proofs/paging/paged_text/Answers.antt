use Rattle.std.proofs.Common.{◌≡◌, ◌∙◌, ℕ, ◌<◌, true, All, List, sym, ap, subst}
use Rattle.std.specs.List.{flat_map, list_all}
use Rattle.std.specs.Str.{chars}
use Rattle.std.proofs.lemmas.Str.{scalars-chars}
use Rattle.gsm_alphabet.proofs.AlphabetLaws.{flat_map-small}
use Rattle.cbs_page.specs.declared.coding.Alphabet.TheVariants.{Gsm, Ucs2}
use Rattle.cbs_page.specs.PagingSteps.{is_own_septet}
use Rattle.cbs_page.specs.Text.{codes_of}
use Rattle.cbs_page.proofs.OwnSeptets.{own_alphabet, own_characters, own_good, own_octets}
use Rattle.cbs_page.proofs.PaginateLaws.{each_scalar}
use Rattle.cbs_page.proofs.SentLaws.{fault_by, fault_of_septets, fault_of_units, good-units, gsm_alphabet, none-good}
use Rattle.cbs_page.proofs.SentLaws.{sent_by, spelled-parts, ucs2_alphabet}
use Rattle.cbs_page.proofs.paging.paged_text.Goals as goal

-- the octets that were looked at are those of the text
own_text : (text octets looked : List ℕ) → octets ≡ text → looked ≡ text → true ≡ list_all is_own_septet looked
    → (list_all is_own_septet text ≡ true) × (flat_map (codes_of Gsm) (chars text) ≡ octets)
own_text text octets looked is at all =
    let own : list_all is_own_septet text ≡ true = ap (λ xs. list_all is_own_septet xs) (sym at) ∙ sym all in
    (own, own_octets text own ∙ sym is)

pub returns-then-are_own_septets-clause-sent : goal.returns-then-are_own_septets-clause-sent
returns-then-are_own_septets-clause-sent c =
    let text = c.args.text.now in
    let own = own_text text c.as_bytes-then-are_own_septets.result.now c.as_bytes.result.now
    c.as_bytes-then-are_own_septets.ensures.value c.as_bytes.ensures.value c.if-are_own_septets.ensures in
    let all = own_characters text own.0 in
    sent_by c.paged_septets.result Gsm c.args.value (chars text) c.as_bytes-then-are_own_septets.result.now
    (own_alphabet (chars text) all) (none-good (chars text) (own_good (chars text) all)) c.requires own.1
    c.paged_septets.ensures.dcs c.paged_septets.ensures.held

pub returns-then-are_own_septets-clause-fault : goal.returns-then-are_own_septets-clause-fault
returns-then-are_own_septets-clause-fault c =
    let text = c.args.text.now in
    let own = own_text text c.as_bytes-then-are_own_septets.result.now c.as_bytes.result.now
    c.as_bytes-then-are_own_septets.ensures.value c.as_bytes.ensures.value c.if-are_own_septets.ensures in
    let all = own_characters text own.0 in
    fault_by c.paged_septets.result Gsm (chars text) c.as_bytes-then-are_own_septets.result.now
    (own_alphabet (chars text) all) (none-good (chars text) (own_good (chars text) all)) c.requires own.1
    c.paged_septets.ensures.fault

pub paged_septets-requires-in-Some : goal.paged_septets-requires-in-Some
paged_septets-requires-in-Some c =
    subst (λ (xs : List ℕ). All (λ septet. septet < 128) xs) (c.in-Some.ensures.codes ∙ sym c.as_slice.ensures.value)
    (flat_map-small (chars c.args.text.now))

pub returns-in-Some-clause-sent : goal.returns-in-Some-clause-sent
returns-in-Some-clause-sent c =
    let text = chars c.args.text.now in
    let parts = spelled-parts text c.in-Some.ensures.spelled in
    sent_by c.paged_septets-in-Some.result Gsm c.args.value text c.as_slice.result.now (gsm_alphabet text parts.1)
    parts.0 c.requires (c.in-Some.ensures.codes ∙ sym c.as_slice.ensures.value) c.paged_septets-in-Some.ensures.dcs
    c.paged_septets-in-Some.ensures.held

pub returns-in-Some-clause-fault : goal.returns-in-Some-clause-fault
returns-in-Some-clause-fault c =
    let text = chars c.args.text.now in
    let parts = spelled-parts text c.in-Some.ensures.spelled in
    fault_by c.paged_septets-in-Some.result Gsm text c.as_slice.result.now (gsm_alphabet text parts.1)
    parts.0 c.requires (c.in-Some.ensures.codes ∙ sym c.as_slice.ensures.value) c.paged_septets-in-Some.ensures.fault

pub returns-then-is_gsm-clause-fault : goal.returns-then-is_gsm-clause-fault
returns-then-is_gsm-clause-fault c =
    rw c.fault_of_text.ensures
    (fault_of_septets (chars c.args.text.now) c.requires (sym c.if-is_gsm.ensures) c.in_default.ensures.none)

pub returns-in-Some-units_of_text-clause-sent : goal.returns-in-Some-units_of_text-clause-sent
returns-in-Some-units_of_text-clause-sent c =
    let text = chars c.args.text.now in
    let good = c.in-Some-units_of_text.ensures.good in
    sent_by c.paged_units.result Ucs2 c.args.value text c.as_slice-in-Some-units_of_text.result.now
    (ucs2_alphabet text (sym c.if-is_gsm.ensures)) good c.requires
    (good-units text good ∙ c.in-Some-units_of_text.ensures.codes ∙ sym c.as_slice-in-Some-units_of_text.ensures.value)
    c.paged_units.ensures.dcs c.paged_units.ensures.held

pub returns-in-Some-units_of_text-clause-fault : goal.returns-in-Some-units_of_text-clause-fault
returns-in-Some-units_of_text-clause-fault c =
    let text = chars c.args.text.now in
    let good = c.in-Some-units_of_text.ensures.good in
    fault_by c.paged_units.result Ucs2 text c.as_slice-in-Some-units_of_text.result.now
    (ucs2_alphabet text (sym c.if-is_gsm.ensures)) good c.requires
    (good-units text good ∙ c.in-Some-units_of_text.ensures.codes ∙ sym c.as_slice-in-Some-units_of_text.ensures.value)
    c.paged_units.ensures.fault

pub returns-in-None-clause-fault : goal.returns-in-None-clause-fault
returns-in-None-clause-fault c =
    let text = chars c.args.text.now in
    rw c.fault_of_text-in-None.ensures
    (fault_of_units text c.requires (each_scalar text (scalars-chars c.args.text.now c.utf8.text))
    c.in-None.ensures.none)
