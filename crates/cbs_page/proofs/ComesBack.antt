-- A text that is sent comes back from its pages.
use Rattle.std.proofs.Common.{◌≡◌, Some, ap, ◌∙◌}
use Rattle.std.specs.List.{flat_map}
use Rattle.std.specs.Str.{chars}
use Rattle.std.proofs.lemmas.Str.{scalars-chars}
use Rattle.cbs_page.specs.Coding.{alphabet_of}
use Rattle.cbs_page.specs.Laws.{PagedTextsComeBack}
use Rattle.cbs_page.specs.Text.{alphabet_for, text_in}
use Rattle.cbs_page.proofs.CodingLaws.{alphabet_of_coding}
use Rattle.cbs_page.proofs.PaginateLaws.{each_scalar, pages_show, sendable}

-- the data coding of a text that is sent has the text's alphabet, in which its pages show it
pub paged_text_comes_back : PagedTextsComeBack
paged_text_comes_back language text paged utf8 sent =
    let alphabet = alphabet_for (chars text) in
    let coding : alphabet_of paged.dcs.0 ≡ Some alphabet =
    ap alphabet_of sent.dcs ∙ alphabet_of_coding alphabet language sent.value sent.spoken in
    let good = sendable (chars text) (each_scalar (chars text) (scalars-chars text utf8)) sent.good in
    ap (λ found. flat_map (λ content. text_in found content.octets) paged.pages.items) coding
    ∙ pages_show (chars text) sent.pieces paged.pages.items sent.paging good sent.contents
