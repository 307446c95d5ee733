-- A text is sent as one thing at most, or has one fault.
use Rattle.std.proofs.Common.{◌≡◌, ◌∙◌, ℕ, Option, Some, None, List, [], ◌∷◌, length, map, refl, sym, ap}
use Rattle.std.proofs.Common.{subst, arith, rules}
use Rattle.std.specs.Prelude.{position, IsSome}
use Rattle.std.specs.List.{flat_map}
use Rattle.cbs_page.specs.declared.coding.Alphabet.{Alphabet}
use Rattle.cbs_page.specs.declared.coding.Alphabet.TheVariants.{Gsm, Ucs2}
use Rattle.cbs_page.specs.declared.content.Content.{Content}
use Rattle.cbs_page.specs.declared.paging.TextFault.TheVariants as fault
use Rattle.cbs_page.specs.Coding.{language_value}
use Rattle.cbs_page.specs.Laws.{SentTextHasNoFault, SentTextIsOne, TextFaultIsOne}
use Rattle.cbs_page.specs.Paging.{IsPaging}
use Rattle.cbs_page.specs.Text.{alphabet_for, capacity, codes_of, coding_for, cost_of, is_bad, AreContentsOf}
use Rattle.cbs_page.specs.Text.{IsContentOf}
use Rattle.cbs_page.proofs.PagingLaws.{one_paging, pieces_of_nothing}
use Rattle.septets.proofs.PackingLaws.{packing_is_unique}

-- a page's codes have one content
abbrev content_with : ℕ → List ℕ → Content
content_with used octets = record { used = used; octets = octets }

content_same : (a b : Content) → a.used ≡ b.used → a.octets ≡ b.octets → a ≡ b
content_same a b used octets =
    ap (λ n. content_with n a.octets) used ∙ ap (λ (o : List ℕ). content_with b.used o) octets

one_content : (alphabet : Alphabet) (codes : List ℕ) (a b : Content) → IsContentOf alphabet codes a →
    IsContentOf alphabet codes b → a ≡ b
one_content Gsm codes a b one other =
    content_same a b (one.0 ∙ sym other.0) (packing_is_unique codes a.octets b.octets one.1 other.1)
one_content Ucs2 codes a b one other = content_same a b (one.0 ∙ sym other.0) (one.1 ∙ sym other.1)

one_more : (a b : Content) (rest others : List Content) → a ≡ b → rest ≡ others → a ∷ rest ≡ b ∷ others
one_more a b rest others head tail = rw (head, tail) refl

contents_are_one : (alphabet : Alphabet) (codes : List (List ℕ)) (some others : List Content) →
    AreContentsOf alphabet codes some → AreContentsOf alphabet codes others → some ≡ others
contents_are_one alphabet [] [] [] one two = refl
contents_are_one alphabet [] [] (b ∷ bs) one two = absurd two
contents_are_one alphabet [] (a ∷ more) others one two = absurd one
contents_are_one alphabet (c ∷ cs) [] others one two = absurd one
contents_are_one alphabet (c ∷ cs) (a ∷ more) [] one two = absurd two
contents_are_one alphabet (c ∷ cs) (a ∷ more) (b ∷ bs) one two =
    one_more a b more bs (one_content alphabet c a b one.0 two.0) (contents_are_one alphabet cs more bs one.1 two.1)

-- a word has one value
one_value : (o : Option ℕ) (a b : ℕ) → o ≡ Some a → o ≡ Some b → a ≡ b
one_value o a b one other = cc

no_value : (o : Option ℕ) (a : ℕ) → o ≡ None → o ≡ Some a → ⊥
no_value o a none some = cc

no_word : (o : Option ℕ) → o ≡ None → IsSome o → ⊥
no_word None none some = search rules
no_word (Some value) none some = cc

-- no text has no pages, and no bad character
no_pages : (cost : ℕ → ℕ) (limit : ℕ) (text : List ℕ) (pieces : List (List ℕ)) → text ≡ [] →
    IsPaging cost limit text pieces → length pieces ≡ 0
no_pages cost limit [] pieces none paging = ap length (pieces_of_nothing cost limit pieces paging)
no_pages cost limit (c ∷ rest) pieces none paging = absurd (cc none)

none_bad : (text : List ℕ) (place : ℕ) → text ≡ [] → position is_bad text ≡ Some place → ⊥
none_bad [] place none bad = cc
none_bad (c ∷ rest) place none bad = cc

-- a text has one paging
pub sent_text_is_one : SentTextIsOne
sent_text_is_one language text paged other one two =
    let alphabet = alphabet_for text in
    let value = one_value (language_value language) one.value two.value one.spoken two.spoken in
    let pieces = one_paging (cost_of alphabet) (capacity alphabet) text one.pieces two.pieces one.paging two.paging in
    let same = subst (λ (p : List (List ℕ)). AreContentsOf alphabet (map (flat_map (codes_of alphabet)) p)
    paged.pages.items) pieces one.contents in (
      one.dcs ∙ ap (coding_for alphabet) value ∙ sym two.dcs,
      contents_are_one alphabet (map (flat_map (codes_of alphabet)) two.pieces) paged.pages.items other.pages.items same
          two.contents,
    )

-- a text that is paged has no fault
pub sent_text_has_no_fault : SentTextHasNoFault
sent_text_has_no_fault language text paged fault.BadLanguage sent wrong other =
    no_value (language_value language) sent.value wrong sent.spoken
sent_text_has_no_fault language text paged fault.Empty sent wrong other =
    let none = no_pages (cost_of (alphabet_for text)) (capacity (alphabet_for text)) text sent.pieces wrong.1
    sent.paging in
    omega (arith, none, sent.some)
sent_text_has_no_fault language text paged (fault.BadCharacter place) sent wrong other =
    no_value (position is_bad text) place sent.good wrong.1
sent_text_has_no_fault language text paged fault.TooManyPages sent wrong other =
    let same = one_paging (cost_of (alphabet_for text)) (capacity (alphabet_for text)) text sent.pieces wrong.2.0
    sent.paging wrong.2.1 in
    let equal : length sent.pieces ≡ length wrong.2.0 = ap length same in
    omega (arith, equal, sent.few, wrong.2.2)
sent_text_has_no_fault language text paged fault.Refused sent wrong other = other refl

-- a text has one fault at most
pub text_fault_is_one : TextFaultIsOne
text_fault_is_one language text fault.Refused other one two first second = absurd (first refl)
text_fault_is_one language text fault.BadLanguage fault.Refused one two first second = absurd (second refl)
text_fault_is_one language text fault.BadLanguage fault.BadLanguage one two first second = refl
text_fault_is_one language text fault.BadLanguage fault.Empty one two first second =
    absurd (no_word (language_value language) one two.0)
text_fault_is_one language text fault.BadLanguage (fault.BadCharacter place) one two first second =
    absurd (no_word (language_value language) one two.0)
text_fault_is_one language text fault.BadLanguage fault.TooManyPages one two first second =
    absurd (no_word (language_value language) one two.0)
text_fault_is_one language text fault.Empty fault.Refused one two first second = absurd (second refl)
text_fault_is_one language text fault.Empty fault.BadLanguage one two first second =
    absurd (no_word (language_value language) two one.0)
text_fault_is_one language text fault.Empty fault.Empty one two first second = refl
text_fault_is_one language text fault.Empty (fault.BadCharacter place) one two first second =
    absurd (none_bad text place one.1 two.1)
text_fault_is_one language text fault.Empty fault.TooManyPages one two first second =
    let none = no_pages (cost_of (alphabet_for text)) (capacity (alphabet_for text)) text two.2.0 one.1 two.2.1 in
    absurd (omega (arith, none, two.2.2))
text_fault_is_one language text (fault.BadCharacter place) fault.Refused one two first second = absurd (second refl)
text_fault_is_one language text (fault.BadCharacter place) fault.BadLanguage one two first second =
    absurd (no_word (language_value language) two one.0)
text_fault_is_one language text (fault.BadCharacter place) fault.Empty one two first second =
    absurd (none_bad text place two.1 one.1)
text_fault_is_one language text (fault.BadCharacter place) (fault.BadCharacter there) one two first second =
    ap fault.BadCharacter (one_value (position is_bad text) place there one.1 two.1)
text_fault_is_one language text (fault.BadCharacter place) fault.TooManyPages one two first second =
    absurd (no_value (position is_bad text) place two.1 one.1)
text_fault_is_one language text fault.TooManyPages fault.Refused one two first second = absurd (second refl)
text_fault_is_one language text fault.TooManyPages fault.BadLanguage one two first second =
    absurd (no_word (language_value language) two one.0)
text_fault_is_one language text fault.TooManyPages fault.Empty one two first second =
    let none = no_pages (cost_of (alphabet_for text)) (capacity (alphabet_for text)) text one.2.0 two.1 one.2.1 in
    absurd (omega (arith, none, one.2.2))
text_fault_is_one language text fault.TooManyPages (fault.BadCharacter place) one two first second =
    absurd (no_value (position is_bad text) place one.1 two.1)
text_fault_is_one language text fault.TooManyPages fault.TooManyPages one two first second = refl
