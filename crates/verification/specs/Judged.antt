-- The pages of a message that were sent, each right or not (own).
use Rattle.std.specs.Prelude.{◌-◌, Bool, false, ◌==◌, ◌&&◌, Option, Some, None, List, length, map, filter}
use Rattle.std.specs.Prelude.{encode_utf8_all}
use Rattle.std.specs.List.{slice_get}
use Rattle.std.specs.Str.{bytes_eq}
use Rattle.cbs_page.specs.declared.content.Content.{Content}
use Rattle.cbs_page.specs.declared.octets.PageView.{PageView}
use Rattle.cbs_page.specs.Coding.{alphabet_of}
use Rattle.cbs_page.specs.Page.{is_readable}
use Rattle.cbs_page.specs.Text.{text_in, text_of_page}
use Rattle.verification.specs.declared.sent.SentPage.{SentPage}
use Rattle.verification.specs.declared.judged.JudgedPage.{JudgedPage}
use Rattle.verification.specs.Asked.{AskedMessage, is_page_of}

-- a page shows the text of a content in its own data coding
abbrev pub reads_as : PageView → Option Content → Bool
reads_as page None = false
reads_as page (Some content) =
    bytes_eq (encode_utf8_all (text_of_page page)) (encode_utf8_all (text_in (alphabet_of page.dcs.0) content.octets))

-- a page is right: it has an alphabet and a number up to its total, it has the total and the data coding of the
-- message, and it shows the text of the message's page of its number
abbrev pub is_right : AskedMessage → PageView → Bool
is_right a page =
    is_readable page
    && ((page.total == length a.contents)
    && ((page.dcs.0 == a.dcs) && reads_as page (slice_get a.contents (page.number - 1))))

abbrev pub judged : AskedMessage → SentPage → JudgedPage
judged a sent = record { slot = sent.slot; number = sent.page.number; right = is_right a sent.page }

-- of the pages that were sent those of a message, each judged
abbrev pub judged_in : AskedMessage → List SentPage → List JudgedPage
judged_in a sent = map (judged a) (filter (λ s. is_page_of a s.page) sent)
