-- What is told beside a difference: what was expected, and what came (own).
use Rattle.std.specs.Prelude.{ℕ, ◌+◌, ◌-◌, ◌*◌, Bool, not, ◌==◌, ◌&&◌, nat_le, nat_lt, if◌then◌else◌, Option, Some}
use Rattle.std.specs.Prelude.{None, is_some, List, [], ◌∷◌, ◌++◌, length, map, filter, find, take, drop, codes}
use Rattle.std.specs.Prelude.{encode_utf8_all}
use Rattle.std.specs.Fmt.{decimal}
use Rattle.std.specs.List.{flat_map, list_any, range_with_len, slice_get}
use Rattle.std.specs.Option.{option_map, option_map_or}
use Rattle.std.specs.Str.{bytes_eq}
use Rattle.hex.specs.Hex.{encode_lower}
use Rattle.cbs_page.specs.declared.content.Content.{Content}
use Rattle.cbs_page.specs.Coding.{alphabet_of}
use Rattle.cbs_page.specs.Page.{octets_of_page, view_of}
use Rattle.cbs_page.specs.Text.{max_pages, text_of_page}
use Rattle.bsc_table.specs.Record.{Record}
use Rattle.handset.specs.Reception.{page_in_front, page_octets}
use Rattle.verification.specs.declared.difference.Difference.{Difference}
use Rattle.verification.specs.declared.difference.Kind.{Kind}
use Rattle.verification.specs.declared.difference.Kind.TheVariants as kinds
use Rattle.verification.specs.declared.judged.JudgedPage.{JudgedPage}
use Rattle.verification.specs.Asked.{AskedMessage, asked_of_log}
use Rattle.verification.specs.Difference.{due_slot, has_page, is_owed, is_whole, release_slot}
use Rattle.verification.specs.Judged.{judged_in}
use Rattle.verification.specs.RowText.{kind_text}
use Rattle.verification.specs.Sent.{sent_in}

-- what a row tells: the difference, what was expected, and what came
pub record Explanation : Type 0 where
  pub difference : List ℕ
  pub expected : List ℕ
  pub got : List ℕ

abbrev pub explanation : (difference expected got : List ℕ) → Explanation
explanation difference expected got = record { difference = difference; expected = expected; got = got }

-- the 88 octets of the page at the front of blocks, if there is one
abbrev pub octets_in_front : List (List ℕ) → List (List ℕ)
octets_in_front blocks = map (λ page. page_octets (take 4 blocks)) (page_in_front blocks)

-- those of the pages whose first block is one of the first four
abbrev pub octets_begun : List (List ℕ) → List (List ℕ)
octets_begun blocks = flat_map (λ place. octets_in_front (drop place blocks)) (range_with_len 0 4)

-- the octets of a page have the identifier and the serial number of a difference
abbrev pub is_named_by : Difference → List ℕ → Bool
is_named_by d octets = ((view_of octets).id == d.id) && ((view_of octets).serial == d.serial)

-- the page that came in the slot of a difference and has its name
abbrev pub octets_sent : List (List ℕ) → Difference → Option (List ℕ)
octets_sent blocks d = find (is_named_by d) (octets_begun (drop (4 * d.slot) blocks))

-- the page of this number that was asked: its 88 octets, if the message has one
abbrev pub octets_of_content : AskedMessage → (number : ℕ) → Content → List ℕ
octets_of_content a number content = octets_of_page a.id a.serial a.dcs number (length a.contents) content.octets

abbrev pub octets_asked : AskedMessage → (number : ℕ) → Option (List ℕ)
octets_asked a number =
    if nat_le 1 number && nat_le (length a.contents) max_pages
    then option_map (octets_of_content a number) (slice_get a.contents (number - 1)) else None

-- a page as a field: the text that a phone shows of it, or its octets in hexadecimal where its data coding has no
-- alphabet
abbrev pub page_field : List ℕ → List ℕ
page_field octets =
    if is_some (alphabet_of (view_of octets).dcs.0) then encode_utf8_all (text_of_page (view_of octets))
    else encode_lower octets

-- no page is an empty field
abbrev pub field_of : Option (List ℕ) → List ℕ
field_of page = option_map_or page_field page []

-- a page that was asked and the one that came in its place: as octets both, if they read the same
abbrev pub explained_pages : Kind → (asked sent : Option (List ℕ)) → Explanation
explained_pages kind (Some asked) (Some sent) =
    if bytes_eq (page_field asked) (page_field sent)
    then explanation (kind_text kind) (encode_lower asked) (encode_lower sent)
    else explanation (kind_text kind) (page_field asked) (page_field sent)
explained_pages kind asked sent = explanation (kind_text kind) (field_of asked) (field_of sent)

-- the slot from which pages of a message are allowed, and that from which they aren't any more
abbrev pub from_text : (slot : ℕ) → List ℕ
from_text slot = codes "from slot " ++ decimal slot

abbrev pub up_to_text : (slot : ℕ) → List ℕ
up_to_text slot = codes "up to slot " ++ decimal slot

-- the first slot after the periods of the requested broadcasts
abbrev pub end_slot : AskedMessage → ℕ
end_slot a = a.start + a.broadcasts * a.period

-- the numbers of the pages that came right from the release of broadcast j up to its due slot
abbrev pub pages_arrived : AskedMessage → List JudgedPage → (j : ℕ) → List ℕ
pages_arrived a pages j = filter (has_page a pages j) (range_with_len 1 (length a.contents))

abbrev pub arrived_text : (numbers : List ℕ) → (total : ℕ) → List ℕ
arrived_text [] total = codes "nothing"
arrived_text (number ∷ more) total =
    codes "pages" ++ (flat_map (λ n. codes " " ++ decimal n) (number ∷ more) ++ (codes " of " ++ decimal total))

-- the slots of a broadcast: from its release to the last before it is due
abbrev pub slots_text : AskedMessage → (j : ℕ) → List ℕ
slots_text a j = codes "slots " ++ (decimal (release_slot a j) ++ (codes " to " ++ decimal (due_slot a j - 1)))

-- a broadcast that isn't whole: its slots, and which pages came in them
abbrev pub explained_broadcast : AskedMessage → List JudgedPage → (j : ℕ) → Explanation
explained_broadcast a pages j =
    explanation (kind_text (kinds.NotWhole j)) (slots_text a j)
    (arrived_text (pages_arrived a pages j) (length a.contents))

-- a broadcast is lost: it is owed, it isn't whole, and none of its pages came right
abbrev pub has_some : AskedMessage → List JudgedPage → (j : ℕ) → Bool
has_some a pages j = list_any (has_page a pages j) (range_with_len 1 (length a.contents))

abbrev pub is_lost : (slots : ℕ) → AskedMessage → List JudgedPage → (j : ℕ) → Bool
is_lost slots a pages j = is_owed slots a j && (not (is_whole a pages j) && not (has_some a pages j))

-- the first broadcast after j that isn't lost. No more of them are owed than the run has slots
abbrev pub next_kept : (slots : ℕ) → AskedMessage → List JudgedPage → (j : ℕ) → ℕ
next_kept slots a pages j =
    option_map_or (λ k. k) (find (λ k. not (is_lost slots a pages k)) (range_with_len j (slots - j))) slots

-- the broadcasts from j up to one that isn't lost any more, all of them lost: one row for two or more
abbrev pub explained_loss : AskedMessage → List JudgedPage → (j next : ℕ) → Explanation
explained_loss a pages j next =
    if nat_lt (j + 1) next
    then explanation
    (codes "nothing sent from slot "
    ++ (decimal (release_slot a j) ++ (codes " to " ++ decimal (due_slot a (next - 1) - 1))))
    (codes "broadcasts " ++ (decimal j ++ (codes " to " ++ decimal (next - 1))))
    (codes "nothing")
    else explained_broadcast a pages j

-- a broadcast that is lost after one that is lost too is told with that one
abbrev pub explained_broadcasts : (slots : ℕ) → AskedMessage → List JudgedPage → (j : ℕ) → List Explanation
explained_broadcasts slots a pages j =
    if is_lost slots a pages j
    then (if nat_lt 0 j && is_lost slots a pages (j - 1) then []
    else explained_loss a pages j (next_kept slots a pages j) ∷ [])
    else explained_broadcast a pages j ∷ []

-- from which slot a message's pages are allowed, or the first from which they aren't any more, or in which slots a
-- page is to come once
abbrev pub limit_text : AskedMessage → Kind → List ℕ
limit_text a kinds.BeforeStart = from_text a.start
limit_text a kinds.AfterStop = option_map_or up_to_text a.stop []
limit_text a kinds.AfterLast = up_to_text (end_slot a)
limit_text a (kinds.Again j) = codes "once in " ++ slots_text a j
limit_text a kind = []

-- what is told of a difference of a message, of which these pages were sent; `sent` is the page that came
abbrev pub explained_kind : (slots : ℕ) → AskedMessage → List JudgedPage → (sent : Option (List ℕ)) → Kind
    → List Explanation
explained_kind slots a pages sent (kinds.Otherwise number) =
    explained_pages (kinds.Otherwise number) (octets_asked a number) sent ∷ []
explained_kind slots a pages sent (kinds.NotWhole j) = explained_broadcasts slots a pages j
explained_kind slots a pages sent kind = explanation (kind_text kind) (limit_text a kind) (field_of sent) ∷ []

-- the message of a difference, if the cell accepted one of its identifier and serial number
abbrev pub is_message_of : Difference → AskedMessage → Bool
is_message_of d a = (a.id == d.id) && (a.serial == d.serial)

abbrev pub explained_of : (slots : ℕ) → Option AskedMessage → List (List ℕ) → Difference → List Explanation
explained_of slots (Some a) blocks d =
    explained_kind slots a (judged_in a (sent_in blocks)) (octets_sent blocks d) d.kind
explained_of slots None blocks d = explanation (kind_text d.kind) [] (field_of (octets_sent blocks d)) ∷ []

-- what is told of a difference between a cell's record and the blocks of its tape: nothing where the row before it
-- tells it
abbrev pub explained : Record → List (List ℕ) → Difference → List Explanation
explained r blocks d = explained_of r.slots (find (is_message_of d) (asked_of_log r.log)) blocks d
