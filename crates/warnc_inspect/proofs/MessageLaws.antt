-- What a text is sent as shows the text, once, and its pages show it one after another.
use Rattle.std.proofs.Common.{◌≡◌, ℕ, ◌+◌, ◌≤◌, Some, List, [], ◌∷◌, ◌++◌, length, map, filter, refl, ap, ◌∙◌, arith}
use Rattle.std.specs.Prelude.{encode_utf8_all, IsSome}
use Rattle.std.specs.List.{flat_map}
use Rattle.std.proofs.lemmas.Bool.{le-leb}
use Rattle.std.proofs.lemmas.List.{length-map}
use Rattle.cbs_page.specs.declared.coding.Alphabet.{Alphabet}
use Rattle.cbs_page.specs.declared.content.Content.{Content}
use Rattle.cbs_page.specs.declared.paging.Paged.{Paged}
use Rattle.cbs_page.specs.Coding.{alphabet_of}
use Rattle.cbs_page.specs.Page.{is_readable, view_of}
use Rattle.cbs_page.specs.Text.{codes_of, alphabet_for, text_in, text_of_page, IsPagedText, ShowsText}
use Rattle.cbs_page.proofs.CodingLaws.{alphabet_of_coding}
use Rattle.cbs_page.proofs.CuttingLaws.{AreContentsOf-length}
use Rattle.cbs_page.proofs.TextLaws.{contents-length}
use Rattle.handset.specs.Reception.{pages_read, readable_pages, completed_after, shown_in}
use Rattle.warnc_inspect.specs.PageOutput.{page_octets_from, blocks_of_message, pages_of_message}
use Rattle.warnc_inspect.proofs.BlockLaws.{views_from, pages_in_blocks, views_back, pages_are_whole}
use Rattle.warnc_inspect.proofs.ComesBack.{message_in_order}

all_readable : (id serial dcs total number : ℕ) (alphabet : Alphabet) (contents : List Content)
    → alphabet_of dcs ≡ Some alphabet →
    number + length contents ≤ total + 1 →
    filter is_readable (views_from id serial dcs total number contents) ≡ views_from id serial dcs total number contents
all_readable id serial dcs total number alphabet [] known within = refl
all_readable id serial dcs total number alphabet (content ∷ rest) known within =
    rw (known, le-leb number total (omega (arith, within)))
    (ap (λ vs. record {
      serial = serial;
      id = id;
      dcs = record { 0 = dcs };
      number = number;
      total = total;
      content =
          content.octets;
    } ∷ vs)
    (all_readable id serial dcs total (number + 1) alphabet rest known (omega (arith, within))))

-- The blocks of a text show it, under its identifier and serial number, once.
pub shows_text : (language text : List ℕ) (id serial : ℕ) (paged : Paged) → IsPagedText language text paged
    → ShowsText text paged →
    shown_in (blocks_of_message id serial paged) ≡ record { id = id; serial = serial; text = encode_utf8_all text } ∷ []
shows_text language text id serial paged sent shown =
    let contents : List Content = paged.pages.items in
    let total : ℕ = length contents in
    let dcs : ℕ = paged.dcs.0 in
    let alphabet : Alphabet = alphabet_for text in
    let known : alphabet_of dcs ≡ Some alphabet = ap alphabet_of sent.dcs
    ∙ alphabet_of_coding alphabet language sent.value sent.spoken in
    let same : total ≡ length sent.pieces =
    AreContentsOf-length alphabet (map (flat_map (codes_of alphabet)) sent.pieces) contents sent.contents
    ∙ length-map sent.pieces (flat_map (codes_of alphabet)) in
    let some : 1 ≤ total = omega (arith, same, sent.some) in
    let few : total ≤ 15 = omega (arith, same, sent.few) in
    let whole = contents-length alphabet sent.pieces contents sent.paging.within sent.contents in
    let pages : List (List ℕ) = page_octets_from id serial dcs total 1 contents in
    let read : pages_read (blocks_of_message id serial paged) ≡ views_from id serial dcs total 1 contents =
    pages_in_blocks pages (pages_are_whole id serial dcs total 1 contents whole)
    ∙ views_back id serial dcs total 1 contents (omega arith) some few in
    let readable : readable_pages (blocks_of_message id serial paged) ≡ views_from id serial dcs total 1 contents =
    ap (filter is_readable) read ∙ all_readable id serial dcs total 1 alphabet contents known (omega arith) in
    let joined : flat_map (λ content. text_in (alphabet_of dcs) content.octets) contents ≡ text =
    ap (λ a. flat_map (λ content. text_in a content.octets) contents) known ∙ shown in
    ap (completed_after []) readable
    ∙ message_in_order id serial dcs contents some
    ∙ ap (λ t. record { id = id; serial = serial; text = encode_utf8_all t } ∷ []) joined

-- what a text's alphabet is in its data coding
coded : (language text : List ℕ) (paged : Paged) → IsPagedText language text paged
    → alphabet_of paged.dcs.0 ≡ Some (alphabet_for text)
coded language text paged sent =
    ap alphabet_of sent.dcs ∙ alphabet_of_coding (alphabet_for text) language sent.value sent.spoken

-- a text is sent in an alphabet that is known
pub in_known : (language text : List ℕ) (paged : Paged) → IsPagedText language text paged
    → IsSome (alphabet_of paged.dcs.0)
in_known language text paged sent = rw (coded language text paged sent) refl

views_show : (id serial dcs total number : ℕ) (contents : List Content)
    → flat_map text_of_page (views_from id serial dcs total number contents)
    ≡ flat_map (λ content. text_in (alphabet_of dcs) content.octets) contents
views_show id serial dcs total number [] = refl
views_show id serial dcs total number (content ∷ rest) =
    ap (λ more. text_in (alphabet_of dcs) content.octets ++ more)
    (views_show id serial dcs total (number + 1) rest)

mapped : {X Y Z : Type 0} (g : Y → List Z) (f : X → Y) (xs : List X) → flat_map (λ x. g (f x)) xs
    ≡ flat_map g (map f xs)
mapped g f [] = refl
mapped g f (x ∷ xs) = ap (λ more. g (f x) ++ more) (mapped g f xs)

-- The texts that the pages of a text show, each by itself, are the text, joined.
pub shows_page_by_page : (language text : List ℕ) (id serial : ℕ) (paged : Paged) → IsPagedText language text paged
    → ShowsText text paged
    → flat_map (λ page. text_of_page (view_of page)) (pages_of_message id serial paged) ≡ text
shows_page_by_page language text id serial paged sent shown =
    let contents : List Content = paged.pages.items in
    let total : ℕ = length contents in
    let dcs : ℕ = paged.dcs.0 in
    let same : total ≡ length sent.pieces =
    AreContentsOf-length (alphabet_for text) (map (flat_map (codes_of (alphabet_for text))) sent.pieces) contents
    sent.contents ∙ length-map sent.pieces (flat_map (codes_of (alphabet_for text))) in
    mapped text_of_page view_of (pages_of_message id serial paged)
    ∙ ap (flat_map text_of_page) (views_back id serial dcs total 1 contents (omega arith)
    (omega (arith, same, sent.some)) (omega (arith, same, sent.few)))
    ∙ views_show id serial dcs total 1 contents
    ∙ ap (λ a. flat_map (λ content. text_in a content.octets) contents) (coded language text paged sent)
    ∙ shown
