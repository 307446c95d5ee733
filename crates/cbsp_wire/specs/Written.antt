-- The octets of a message, with its elements in the table's order. 3GPP TS 48.049, clauses 8.1 and 8.2, in this
-- project's own layouts.
use Rattle.std.specs.Prelude.{ℕ, ◌+◌, ◌/◌, ◌%◌, ◌==◌, if◌then◌else◌, List, [], ◌∷◌, ◌++◌, length, map}
use Rattle.std.specs.Prelude.{Option, Some, None}
use Rattle.std.specs.List.{flat_map}
use Rattle.cbs_page.specs.declared.content.Content.{Content}
use Rattle.cbsp_wire.specs.declared.lists.item.Discriminator.{Discriminator}
use Rattle.cbsp_wire.specs.declared.lists.item.Discriminator.TheVariants as discriminators
use Rattle.cbsp_wire.specs.declared.message.Cell.{Cell}
use Rattle.cbsp_wire.specs.declared.message.Count.{Count}
use Rattle.cbsp_wire.specs.declared.message.Failure.{Failure}
use Rattle.cbsp_wire.specs.declared.message.Message.{Message}
use Rattle.cbsp_wire.specs.Element.{Element, octets_of_elements}
use Rattle.cbsp_wire.specs.Table.{octet_of_type}
use Rattle.cbsp_wire.specs.Value.{Fields, fields_of, type_of}
use Rattle.cbsp_wire.specs.Range.{numbers}
use Rattle.cbsp_wire.specs.declared.message.iei.TheConstants.{MESSAGE_CONTENT, OLD_SERIAL_NUMBER, NEW_SERIAL_NUMBER}
use Rattle.cbsp_wire.specs.declared.message.iei.TheConstants.{CELL_LIST}
use Rattle.cbsp_wire.specs.declared.message.iei.TheConstants.{CATEGORY, REPETITION_PERIOD, BROADCASTS_REQUESTED}
use Rattle.cbsp_wire.specs.declared.message.iei.TheConstants.{BROADCASTS_COMPLETED, FAILURE_LIST, DATA_CODING}
use Rattle.cbsp_wire.specs.declared.message.iei.TheConstants.{MESSAGE_IDENTIFIER, CHANNEL_INDICATOR, NUMBER_OF_PAGES}

-- a number of two octets, the high one first
abbrev pub number_octets : ℕ → List ℕ
number_octets n = n / 256 ∷ n % 256 ∷ []

abbrev pub cell_octets : Cell → List ℕ
cell_octets c = c.lac / 256 ∷ c.lac % 256 ∷ c.ci / 256 ∷ c.ci % 256 ∷ []

abbrev pub count_octets : Count → List ℕ
count_octets c = cell_octets c.cell ++ number_octets c.number ++ c.info ∷ []

-- a failure has a discriminator of its own, 1 (LAC and CI)
abbrev pub failure_octets : Failure → List ℕ
failure_octets f = 1 ∷ (cell_octets f.cell ++ f.cause ∷ [])

-- the bodies of an element: none where it is left out
abbrev pub number_bodies : Option ℕ → List (List ℕ)
number_bodies None = []
number_bodies (Some n) = number_octets n ∷ []

abbrev pub octet_bodies : Option ℕ → List (List ℕ)
octet_bodies None = []
octet_bodies (Some n) = (n ∷ []) ∷ []

-- the length of a list whose items take n octets, and what follows it: the one discriminator, if all items share one
abbrev pub list_head : Discriminator → ℕ → List ℕ
list_head discriminators.Once n = number_octets (1 + n) ++ 1 ∷ []
list_head discriminators.Each n = number_octets n

-- a list's body: its head and its items
abbrev pub list_body : Discriminator → List ℕ → List ℕ
list_body discriminator items = list_head discriminator (length items) ++ items

abbrev pub list_bodies : {X : Type 0} → Discriminator → (X → List ℕ) → List X → List (List ℕ)
list_bodies discriminator octets [] = []
list_bodies discriminator octets (x ∷ xs) = list_body discriminator (flat_map octets (x ∷ xs)) ∷ []

abbrev pub content_body : Content → List ℕ
content_body c = c.used ∷ c.octets

-- the bodies of the elements with a number
unfoldable pub bodies_in : Fields → ℕ → List (List ℕ)
bodies_in f n =
    if n == MESSAGE_IDENTIFIER then number_bodies f.id
    else if n == NEW_SERIAL_NUMBER then number_bodies f.new_serial
    else if n == OLD_SERIAL_NUMBER then number_bodies f.old_serial
    else if n == FAILURE_LIST then list_bodies discriminators.Each failure_octets f.failures
    else if n == BROADCASTS_COMPLETED then list_bodies discriminators.Once count_octets f.completed
    else if n == CELL_LIST then list_bodies discriminators.Once cell_octets f.cells
    else if n == CHANNEL_INDICATOR then octet_bodies f.channel
    else if n == CATEGORY then octet_bodies f.category
    else if n == REPETITION_PERIOD then number_bodies f.period
    else if n == BROADCASTS_REQUESTED then number_bodies f.broadcasts
    else if n == NUMBER_OF_PAGES then octet_bodies f.pages
    else if n == DATA_CODING then octet_bodies f.dcs
    else if n == MESSAGE_CONTENT then map content_body f.contents
    else []

abbrev pub element : ℕ → List ℕ → Element
element n body = record { number = n; body = body }

-- the elements of fields that have these numbers, in this order
abbrev pub elements_among : Fields → List ℕ → List Element
elements_among f [] = []
elements_among f (n ∷ ns) = map (element n) (bodies_in f n) ++ elements_among f ns

-- the elements of a message, in the table's order
abbrev pub elements_of : Message → List Element
elements_of m = elements_among (fields_of m) numbers

-- a length of three octets
abbrev pub length_octets : ℕ → List ℕ
length_octets n = n / 65536 ∷ n / 256 % 256 ∷ n % 256 ∷ []

-- the type, the length of the rest, and octets
abbrev pub framed : ℕ → List ℕ → List ℕ
framed octet rest = octet ∷ (length_octets (length rest) ++ rest)

unfoldable pub octets_of_message : Message → List ℕ
octets_of_message m = framed (octet_of_type (type_of m)) (octets_of_elements (elements_of m))
