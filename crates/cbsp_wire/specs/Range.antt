-- The tests that reading and writing make of elements and of fields. Valid says as facts what they test. 3GPP TS
-- 48.049, clause 8.2; the limits of periods and of lists are own.
use Rattle.std.specs.Prelude.{ℕ, ◌%◌, Bool, true, false, ◌==◌, ◌&&◌, ◌||◌, not, nat_le, List, [], ◌∷◌, length, map}
use Rattle.std.specs.Prelude.{Option, Some, None, is_some}
use Rattle.std.specs.List.{list_all, list_any}
use Rattle.cbs_page.specs.Coding.{alphabet_of}
use Rattle.cbsp_wire.specs.declared.message.message_type.MessageType.{MessageType}
use Rattle.cbsp_wire.specs.declared.message.message_type.Presence.{Presence}
use Rattle.cbsp_wire.specs.declared.message.message_type.Presence.TheVariants as presences
use Rattle.cbsp_wire.specs.declared.lists.item.Discriminator.{Discriminator}
use Rattle.cbsp_wire.specs.declared.lists.item.Discriminator.TheVariants as discriminators
use Rattle.cbsp_wire.specs.declared.message.Cell.{Cell}
use Rattle.cbsp_wire.specs.declared.message.Count.{Count}
use Rattle.cbsp_wire.specs.declared.message.Failure.{Failure}
use Rattle.cbsp_wire.specs.declared.message.Message.{Message}
use Rattle.cbs_page.specs.declared.content.Content.{Content}
use Rattle.cbs_page.specs.Text.{max_pages}
use Rattle.cbsp_wire.specs.Element.{Element, bodies_of}
use Rattle.cbsp_wire.specs.Table.{presence_of}
use Rattle.cbsp_wire.specs.Value.{items_of, Fields, fields_in, fields_of, type_of}
use Rattle.cbsp_wire.specs.declared.message.iei.TheConstants.{MESSAGE_CONTENT, OLD_SERIAL_NUMBER, NEW_SERIAL_NUMBER}
use Rattle.cbsp_wire.specs.declared.message.iei.TheConstants.{CELL_LIST}
use Rattle.cbsp_wire.specs.declared.message.iei.TheConstants.{CATEGORY, REPETITION_PERIOD, BROADCASTS_REQUESTED}
use Rattle.cbsp_wire.specs.declared.message.iei.TheConstants.{BROADCASTS_COMPLETED, FAILURE_LIST, DATA_CODING}
use Rattle.cbsp_wire.specs.declared.message.iei.TheConstants.{MESSAGE_IDENTIFIER, CHANNEL_INDICATOR, NUMBER_OF_PAGES}

-- the elements of messages, in the table's order
abbrev pub numbers : List ℕ
numbers =
    MESSAGE_IDENTIFIER ∷ NEW_SERIAL_NUMBER ∷ OLD_SERIAL_NUMBER ∷ FAILURE_LIST ∷ BROADCASTS_COMPLETED ∷ CELL_LIST
    ∷ CHANNEL_INDICATOR ∷ CATEGORY ∷ REPETITION_PERIOD ∷ BROADCASTS_REQUESTED ∷ NUMBER_OF_PAGES ∷ DATA_CODING
    ∷ MESSAGE_CONTENT ∷ []

abbrev pub is_nothing : {X : Type 0} → List X → Bool
is_nothing [] = true
is_nothing (x ∷ xs) = false

abbrev pub is_there_if : {X : Type 0} → Presence → List X → Bool
is_there_if presences.Mandatory [] = false
is_there_if presences.Mandatory (x ∷ xs) = true
is_there_if presences.Optional xs = true
is_there_if presences.Absent xs = true

-- each mandatory element is there
abbrev pub has_mandatory : MessageType → List Element → Bool
has_mandatory message_type es = list_all (λ n. is_there_if (presence_of message_type n) (bodies_of n es)) numbers

-- no element but 01 comes twice
abbrev pub comes_once : ℕ → List Element → Bool
comes_once n es = (n == MESSAGE_CONTENT) || nat_le (length (bodies_of n es)) 1

abbrev pub has_none_twice : List Element → Bool
has_none_twice es = list_all (λ n. comes_once n es) numbers

-- the ranges of single values
abbrev pub is_period : ℕ → Bool
is_period period = nat_le 1 period && nat_le period 1024

abbrev pub has_alphabet : ℕ → Bool
has_alphabet dcs = is_some (alphabet_of dcs)

abbrev pub is_page_count : ℕ → Bool
is_page_count pages = nat_le 1 pages && nat_le pages max_pages

-- no cell stands in a list twice
abbrev pub is_cell : Cell → Cell → Bool
is_cell a b = (a.lac == b.lac) && (a.ci == b.ci)

abbrev pub are_distinct : List Cell → Bool
are_distinct [] = true
are_distinct (c ∷ cs) = not (list_any (is_cell c) cs) && are_distinct cs

-- how many cells a list names at most
abbrev pub max_listed : ℕ
max_listed = 64

-- the cells that a list may name: at most 64, none twice
abbrev pub cells_are_valid : List Cell → Bool
cells_are_valid cs = nat_le (length cs) max_listed && are_distinct cs

-- the cells that the items of a list name
abbrev pub cells_of_counts : List Count → List Cell
cells_of_counts counts = map (λ c. c.cell) counts

abbrev pub cells_of_failures : List Failure → List Cell
cells_of_failures failures = map (λ f. f.cell) failures

-- whole items of a size, and at least one
abbrev pub items_are_whole : ℕ → List ℕ → Bool
items_are_whole size items = (length items % size == 0) && not (is_nothing items)

-- the discriminators of a list say LAC and CI, 1: the first octet of each failure, or the one after the length of other
-- lists
abbrev pub failures_are_by_lac_and_ci : List ℕ → Bool
failures_are_by_lac_and_ci (discriminator ∷ a ∷ b ∷ c ∷ d ∷ e ∷ octets) =
    (discriminator == 1) && failures_are_by_lac_and_ci octets
failures_are_by_lac_and_ci octets = true

abbrev pub is_by_lac_and_ci : Discriminator → List ℕ → Bool
is_by_lac_and_ci discriminators.Once (high ∷ low ∷ discriminator ∷ items) = discriminator == 1
is_by_lac_and_ci discriminators.Each (high ∷ low ∷ items) = failures_are_by_lac_and_ci items
is_by_lac_and_ci discriminator body = false

-- a list's body: two octets of length, and whole items whose discriminators are right
abbrev pub is_list_body : Discriminator → ℕ → List ℕ → Bool
is_list_body discriminator size body =
    is_by_lac_and_ci discriminator body && items_are_whole size (items_of discriminator body)

-- a test of the first body, if there is one
abbrev pub first_passes : (List ℕ → Bool) → List (List ℕ) → Bool
first_passes test [] = true
first_passes test (body ∷ bodies) = test body

-- an item of cells takes 4 octets, of completed broadcasts 7, of failures 6
abbrev pub lists_are_valid : List Element → Bool
lists_are_valid es =
    first_passes (is_list_body discriminators.Once 4) (bodies_of CELL_LIST es)
    && first_passes (is_list_body discriminators.Once 7) (bodies_of BROADCASTS_COMPLETED es)
    && first_passes (is_list_body discriminators.Each 6) (bodies_of FAILURE_LIST es)

-- a test of a number, if it is given
abbrev pub passes : (ℕ → Bool) → Option ℕ → Bool
passes test None = true
passes test (Some n) = test n

-- as many contents as pages, from 1 to 15, and at most 82 octets used of each
abbrev pub contents_are_valid : Option ℕ → List Content → Bool
contents_are_valid pages contents =
    passes (λ n. is_page_count n && (n == length contents)) pages && list_all (λ c. nat_le c.used 82) contents

abbrev pub numbers_are_valid : Fields → Bool
numbers_are_valid f =
    passes is_period f.period && passes has_alphabet f.dcs && passes (λ n. nat_le n 2) f.category
    && passes (λ n. nat_le n 1) f.channel

abbrev pub all_cells_are_valid : Fields → Bool
all_cells_are_valid f =
    cells_are_valid f.cells && cells_are_valid (cells_of_counts f.completed) && cells_are_valid
    (cells_of_failures f.failures)

-- all values are in their ranges
abbrev pub values_are_valid : Fields → Bool
values_are_valid f = contents_are_valid f.pages f.contents && numbers_are_valid f && all_cells_are_valid f

abbrev pub elements_are_valid : List Element → Bool
elements_are_valid es = has_none_twice es && lists_are_valid es && values_are_valid (fields_in es)

-- a content has its 82 octets
abbrev pub is_full : Content → Bool
is_full c = length c.octets == 82

-- a message that some octets mean: its values are in their ranges, and its mandatory lists have items
abbrev pub is_writable : Message → Bool
is_writable m =
    let f = fields_of m in
    values_are_valid f && is_there_if (presence_of (type_of m) CELL_LIST) f.cells
    && is_there_if (presence_of (type_of m) FAILURE_LIST) f.failures && list_all is_full f.contents
