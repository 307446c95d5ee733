-- The pages of a message that were sent, each right or not. Own.
use Rattle.std.specs.Prelude.{ℕ, ◌-◌, ◌==◌, ◌&&◌, nat_le, nat_lt, Bool, true, false, Option, Some, None, List, length}
use Rattle.std.specs.Prelude.{filter, map, take}
use Rattle.std.specs.List.{slice_get}
use Rattle.std.specs.Str.{bytes_eq}
use Rattle.cbs_page.specs.declared.content.Content.{Content}
use Rattle.verification.specs.Asked.{AskedMessage}
use Rattle.verification.specs.declared.judged.JudgedPage.{JudgedPage}
use Rattle.order_verdict.specs.Air.{AirOctets, content_in, dcs_in, id_in, number_in, serial_in, page_total_in}
use Rattle.order_verdict.specs.Ordered.{OrderedMessage}

-- a page has the identifier and serial number of a message
abbrev pub is_as_named : AskedMessage → (octets : List ℕ) → Bool
is_as_named a octets = (id_in octets == a.id) && (serial_in octets == a.serial)

-- it is sent before a slot, if there is one
abbrev pub is_before : Option ℕ → (slot : ℕ) → Bool
is_before None slot = true
is_before (Some end) slot = nat_lt slot end

-- it is the message's, and not that of an earlier or later one of the same name
abbrev pub is_own_page : OrderedMessage → AirOctets → Bool
is_own_page m page = is_as_named m.early page.octets && (nat_le m.since page.slot && is_before m.until page.slot)

-- what came of a content is its beginning, and has all its used octets
abbrev pub is_content : Option Content → (came : List ℕ) → Bool
is_content None came = false
is_content (Some content) came =
    nat_le content.used (length came) && bytes_eq came (take (length came) content.octets)

-- a page is right: it has the data coding and the total of the message, and its content is that of the message's page
-- of its number
abbrev pub is_right : AskedMessage → (octets : List ℕ) → Bool
is_right a octets =
    (dcs_in octets == a.dcs)
    && ((page_total_in octets == length a.contents)
    && is_content (slice_get a.contents (number_in octets - 1)) (content_in octets))

abbrev pub judged_page : AskedMessage → AirOctets → JudgedPage
judged_page a page = record { slot = page.slot; number = number_in page.octets; right = is_right a page.octets }

-- of the pages that were sent those of a message, each judged
abbrev pub own_pages_in : OrderedMessage → List AirOctets → List JudgedPage
own_pages_in m air = map (judged_page m.early) (filter (is_own_page m) air)
