-- What the codes of a text say of the text.
use Rattle.std.proofs.Common.{◌≡◌, ◌≢◌, ◌∙◌, ℕ, ◌+◌, ◌*◌, ◌<◌, ◌≤◌, Bool, true, false, not, Option, Some, None, List}
use Rattle.std.proofs.Common.{[], ◌∷◌}
use Rattle.std.proofs.Common.{◌++◌, length, map, refl, sym, ap, subst, arith, Result, Ok, Err, IfOk, IfErr}
use Rattle.std.specs.Prelude.{is_some, position, sum_by}
use Rattle.std.specs.List.{concat, flat_map, list_all, position_from, AllByRecursion}
use Rattle.std.proofs.lemmas.Bool.{and_from, and_parts, lt-ltb}
use Rattle.std.proofs.lemmas.Iterator.Adapters.{position_from-zero}
use Rattle.std.proofs.lemmas.Grind.{flat_map-append}
use Rattle.std.proofs.lemmas.List.{length-append, length-map}
use Rattle.std.proofs.lemmas.List.Concat.{length-flat_map}
use Rattle.std.specs.Option.{option_to_list}
use Rattle.std.specs.Char.{IsScalar}
use Rattle.gsm_alphabet.specs.Alphabet.{code_of, septets_of}
use Rattle.ucs2_text.specs.Ucs2.{unit_of_character}
use Rattle.cbs_page.specs.declared.coding.Alphabet.{Alphabet}
use Rattle.cbs_page.specs.declared.coding.Alphabet.TheVariants.{Gsm, Ucs2}
use Rattle.cbs_page.specs.declared.paging.Paged.{Paged}
use Rattle.cbs_page.specs.declared.paging.TextFault.{TextFault}
use Rattle.cbs_page.specs.declared.paging.TextFault.TheVariants as fault
use Rattle.cbs_page.specs.Coding.{language_value}
use Rattle.cbs_page.specs.PagingSteps.{HoldInFew, IsPaged, IsPagesFault, IsPagingFault, TakesMany, fault_for, is_good}
use Rattle.cbs_page.specs.PagingSteps.{is_spelled}
use Rattle.cbs_page.specs.Text.{alphabet_for, capacity, codes_of, coding_for, cost_of, is_bad}
use Rattle.cbs_page.specs.Text.{IsPagedText, IsTextFault, ShowsText}
use Rattle.cbs_page.proofs.CuttingLaws.{AreContentsOf-length}
use Rattle.cbs_page.proofs.LongTexts.{long-pages}
use Rattle.cbs_page.proofs.PaginateLaws.{has_pages, pages_show, sendable, some_page}
use Rattle.cbs_page.proofs.PagingLaws.{one_paging}
use Rattle.cbs_page.proofs.TextLaws.{good-fits, none_bad}

-- the test of a code
abbrev has_code : ℕ → Bool
has_code c = is_some (code_of c)

not-true : (b : Bool) → not b ≡ true → b ≡ false
not-true true is = cc
not-true false is = refl

not-false : (b : Bool) → b ≡ false → not b ≡ true
not-false true is = cc
not-false false is = refl

-- if each character is good, a search for a bad one finds none
none_found : (n : ℕ) (text : List ℕ) → list_all is_good text ≡ true → position_from is_bad n text ≡ None
none_found n [] all = refl
none_found n (c ∷ text) all =
    let parts = and_parts (is_good c) (list_all is_good text) all in
    rw (not-true (is_bad c) parts.0) (none_found (n + 1) text parts.1)

-- a text of good characters has no bad one
pub good-none : (text : List ℕ) → list_all is_good text ≡ true → position is_bad text ≡ None
good-none text all = position_from-zero is_bad text ∙ none_found 0 text all

-- and the other way round
pub none-good : (text : List ℕ) → position is_bad text ≡ None → list_all is_good text ≡ true
none-good text none = each text (none_bad 0 text (sym (position_from-zero is_bad text) ∙ none))
  where
    each : (xs : List ℕ) → AllByRecursion (λ c. is_bad c ≡ false) xs → list_all is_good xs ≡ true
    each [] all = refl
    each (c ∷ xs) all = and_from (is_good c) (list_all is_good xs) (not-false (is_bad c) all.0) (each xs all.1)

-- spelled characters are good, and have codes
pub spelled-parts : (text : List ℕ) → list_all is_spelled text ≡ true
    → (list_all is_good text ≡ true) × (list_all has_code text ≡ true)
spelled-parts [] all = (refl, refl)
spelled-parts (c ∷ text) all =
    let parts = and_parts (is_spelled c) (list_all is_spelled text) all in
    let here = and_parts (is_good c) (has_code c) parts.0 in
    let rest = spelled-parts text parts.1 in (
      and_from (is_good c) (list_all is_good text) here.0 rest.0,
      and_from (has_code c) (list_all has_code text) here.1 rest.1,
    )

-- good characters with codes are spelled
pub spelled-from : (text : List ℕ) → list_all is_good text ≡ true → list_all has_code text ≡ true
    → list_all is_spelled text ≡ true
spelled-from [] good known = refl
spelled-from (c ∷ text) good known =
    let here = and_parts (is_good c) (list_all is_good text) good in
    let code = and_parts (has_code c) (list_all has_code text) known in
    and_from (is_spelled c) (list_all is_spelled text) (and_from (is_good c) (has_code c) here.0 code.0)
    (spelled-from text here.1 code.1)

-- which alphabet a text gets
pub gsm_alphabet : (text : List ℕ) → list_all has_code text ≡ true → alphabet_for text ≡ Gsm
gsm_alphabet text all = rw all refl

-- where a character has no code, the text is UCS-2
pub ucs2_alphabet : (text : List ℕ) → list_all has_code text ≡ false → alphabet_for text ≡ Ucs2
ucs2_alphabet text some = rw some refl

-- the units of good characters are their numbers
pub good-units : (text : List ℕ) → list_all is_good text ≡ true → flat_map (codes_of Ucs2) text ≡ text
good-units [] all = refl
good-units (c ∷ text) all =
    let parts = and_parts (is_good c) (list_all is_good text) all in
    let unit : unit_of_character c ≡ Some c =
    rw (lt-ltb c 65536 (good-fits c (not-true (is_bad c) parts.0))) refl in
    ap (λ u. option_to_list u ++ flat_map (codes_of Ucs2) text) unit ∙ ap (λ xs. c ∷ xs) (good-units text parts.1)

-- pages of septets hold 93 each at most
held-septets : (pieces : List (List ℕ)) → AllByRecursion (λ piece. sum_by (cost_of Gsm) piece ≤ 93) pieces
    → length (flat_map septets_of (concat pieces)) ≤ 93 * length pieces
held-septets [] within = omega arith
held-septets (piece ∷ pieces) within =
    omega (
      arith,
      within.0,
      held-septets pieces within.1,
      length-flat_map septets_of piece,
      ap length (flat_map-append septets_of piece (concat pieces)),
      length-append (flat_map septets_of piece) (flat_map septets_of (concat pieces)),
    )

-- so more than 1,395 septets take more than 15 pages
pub many-septets : (text : List ℕ) → text ≢ [] → 1395 < length (flat_map septets_of text) → TakesMany Gsm text
many-septets text some long =
    let has = has_pages Gsm text some in
    let same : length (flat_map septets_of (concat has.pieces)) ≡ length (flat_map septets_of text) =
    ap (λ xs. length (flat_map septets_of xs)) has.paging.whole in
    (has.pieces, has.paging, omega (arith, held-septets has.pieces has.paging.within, same, long))

-- what is sent in the text's alphabet
pub sent_in : (alphabet : Alphabet) (value : ℕ) (text : List ℕ) (paged : Paged) → alphabet_for text ≡ alphabet
    → list_all is_good text ≡ true → paged.dcs.0 ≡ coding_for alphabet value
    → HoldInFew alphabet text paged.pages.items → IsPaged value text paged
sent_in alphabet value text paged is good dcs hold = record {
  good = good-none text good;
  dcs = dcs ∙ ap (λ a. coding_for a value) (sym is);
  hold = subst (λ (a : Alphabet). HoldInFew a text paged.pages.items) (sym is) hold;
}

-- why it isn't sent in it
pub fault_in : (alphabet : Alphabet) (text : List ℕ) (why : TextFault) → alphabet_for text ≡ alphabet
    → list_all is_good text ≡ true → IsPagesFault alphabet text why → IsPagingFault text why
fault_in alphabet text fault.BadLanguage is good wrong = wrong
fault_in alphabet text fault.Empty is good wrong = wrong
fault_in alphabet text (fault.BadCharacter place) is good wrong = absurd wrong
fault_in alphabet text fault.TooManyPages is good wrong =
    (good-none text good, subst (λ (a : Alphabet). IsPagesFault a text fault.TooManyPages) (sym is) wrong)
fault_in alphabet text fault.Refused is good wrong =
    (good-none text good, subst (λ (a : Alphabet). IsPagesFault a text fault.Refused) (sym is) wrong)

-- a text that has a bad character, or else too many pages
fault_at : (text : List ℕ) (found : Option ℕ) → position is_bad text ≡ found
    → (found ≡ None → TakesMany (alphabet_for text) text) → IsPagingFault text (fault_for found)
fault_at text None is many = (is, many refl)
fault_at text (Some place) is many = is

-- of such a text, the fault is that of its first bad character, or too many pages
pub fault_of : (text : List ℕ) → (list_all is_good text ≡ true → TakesMany (alphabet_for text) text)
    → IsPagingFault text (fault_for (position is_bad text))
fault_of text many = fault_at text (position is_bad text) refl (λ none. many (none-good text none))

-- a text of the GSM 7-bit alphabet that isn't all spelled in 1,395 septets
pub fault_of_septets : (text : List ℕ) → text ≢ [] → list_all has_code text ≡ true
    → (list_all is_spelled text ≡ true → 1395 < length (flat_map septets_of text))
    → IsPagingFault text (fault_for (position is_bad text))
fault_of_septets text some known many =
    fault_of text (λ good. subst (λ (a : Alphabet). TakesMany a text) (sym (gsm_alphabet text known))
    (many-septets text some (many (spelled-from text good known))))

-- a text of UCS-2 that isn't all good with 1,395 characters at most
pub fault_of_units : (text : List ℕ) → text ≢ [] → AllByRecursion IsScalar text
    → (list_all is_good text ≡ true → 1395 < length text) → IsPagingFault text (fault_for (position is_bad text))
fault_of_units text some known many =
    let has = has_pages (alphabet_for text) text some in
    fault_of text (λ good. (
      has.pieces,
      has.paging,
      long-pages (alphabet_for text) text has.pieces has.paging (sendable text known (good-none text good)) (many good),
    ))

-- a result that is one of the codes of a text is one of the text
pub sent_by : (result : Result Paged TextFault) (alphabet : Alphabet) (value : ℕ) (text codes : List ℕ)
    → alphabet_for text ≡ alphabet → list_all is_good text ≡ true → text ≢ []
    → flat_map (codes_of alphabet) text ≡ codes
    → IfOk result (λ paged. paged.dcs.0 ≡ coding_for alphabet value)
    → IfOk result (λ paged. (spelled : List ℕ) → spelled ≢ [] → flat_map (codes_of alphabet) spelled ≡ codes
    → HoldInFew alphabet spelled paged.pages.items)
    → IfOk result (IsPaged value text)
sent_by (Ok paged) alphabet value text codes is good some spelled dcs hold =
    sent_in alphabet value text paged is good dcs (hold text some spelled)
sent_by (Err why) alphabet value text codes is good some spelled dcs hold = tt

-- a fault of the codes of a text is one of the text
pub fault_by : (result : Result Paged TextFault) (alphabet : Alphabet) (text codes : List ℕ)
    → alphabet_for text ≡ alphabet → list_all is_good text ≡ true → text ≢ []
    → flat_map (codes_of alphabet) text ≡ codes
    → IfErr result (λ why. (spelled : List ℕ) → spelled ≢ [] → flat_map (codes_of alphabet) spelled ≡ codes
    → IsPagesFault alphabet spelled why)
    → IfErr result (IsPagingFault text)
fault_by (Ok paged) alphabet text codes is good some spelled wrong = tt
fault_by (Err why) alphabet text codes is good some spelled wrong =
    fault_in alphabet text why is good (wrong text some spelled)

-- in a language of that value, it is what the text is sent as
pub sent_text : (language text : List ℕ) (value : ℕ) (paged : Paged) → text ≢ [] → language_value language ≡ Some value
    → IsPaged value text paged → IsPagedText language text paged
sent_text language text value paged some spoken is =
    let alphabet = alphabet_for text in
    let hold = is.hold.0 in
    let few = is.hold.1 in
    let same : hold.0 ≡ few.0 = one_paging (cost_of alphabet) (capacity alphabet) text hold.0 few.0 hold.1 few.1 in
    record {
      value = value;
      spoken = spoken;
      good = is.good;
      dcs = is.dcs;
      pieces = hold.0;
      paging = hold.1;
      some = some_page text hold.0 some hold.1.whole;
      few = omega (arith, ap length same, few.2);
      contents = hold.2;
    }

-- there are as many contents as pieces of the text
pub sent_count : (language text : List ℕ) (paged : Paged) → IsPagedText language text paged
    → (1 ≤ length paged.pages.items) × (length paged.pages.items ≤ 15)
sent_count language text paged is =
    let codes = codes_of (alphabet_for text) in
    let same : length paged.pages.items ≡ length is.pieces =
    AreContentsOf-length (alphabet_for text) (map (flat_map codes) is.pieces) paged.pages.items is.contents
    ∙ length-map is.pieces (flat_map codes) in
    (omega (arith, same, is.some), omega (arith, same, is.few))

-- the pages show the text
pub sent_shows : (language text : List ℕ) (paged : Paged) → AllByRecursion IsScalar text
    → IsPagedText language text paged
    → ShowsText text paged
sent_shows language text paged known is =
    pages_show text is.pieces paged.pages.items is.paging (sendable text known is.good) is.contents

-- in such a language, it is why the text isn't sent
pub fault_text : (language text : List ℕ) (value : ℕ) (why : TextFault) → text ≢ []
    → language_value language ≡ Some value → IsPagingFault text why → IsTextFault language text why
fault_text language text value fault.BadLanguage some spoken is = absurd is
fault_text language text value fault.Empty some spoken is = absurd is
fault_text language text value (fault.BadCharacter place) some spoken is = (ap is_some spoken, is)
fault_text language text value fault.TooManyPages some spoken is = (ap is_some spoken, is.0, is.1)
fault_text language text value fault.Refused some spoken is =
    (ap is_some spoken, is.0, (is.1.0, is.1.1, some_page text is.1.0 some is.1.1.whole, is.1.2))

-- the same of a result that may be a fault
pub fault_of_result : (result : Result Paged TextFault) (language text : List ℕ) (value : ℕ) → text ≢ []
    → language_value language ≡ Some value → IfErr result (IsPagingFault text)
    → IfErr result (IsTextFault language text)
fault_of_result (Ok paged) language text value some spoken wrong = tt
fault_of_result (Err why) language text value some spoken wrong = fault_text language text value why some spoken wrong
