-- The octets of a message, with its elements in the standard's order, and which messages are written. 3GPP TS 48.049,
-- clauses 5.2, 8.1.3 and 8.2; that a list has at most 5,000 items is own.
use Rattle.std.specs.Prelude.{ℕ, ◌/◌, ◌%◌, ◌==◌, ◌&&◌, not, nat_le, Bool, true, false, if◌then◌else◌}
use Rattle.std.specs.Prelude.{List, [], ◌∷◌, ◌++◌, length, Option, Some, None, Result}
use Rattle.std.specs.List.{flat_map, list_all}
use Rattle.cbs_page.specs.Text.{max_pages}
use Rattle.cbs_page.specs.declared.content.Content.{Content}
use Rattle.cbsp_link.specs.declared.fault.LinkFault.{LinkFault}
use Rattle.cbsp_link.specs.declared.fault.LinkFault.TheVariants.{WrongElement, NotWritten}
use Rattle.cbsp_link.specs.declared.iei.TheConstants.{MESSAGE_CONTENT, CELL_LIST, BROADCASTS_COMPLETED, FAILURE_LIST}
use Rattle.cbsp_link.specs.declared.iei.TheConstants.{OLD_SERIAL_NUMBER, NEW_SERIAL_NUMBER, CATEGORY}
use Rattle.cbsp_link.specs.declared.iei.TheConstants.{REPETITION_PERIOD, NUMBER_OF_PAGES}
use Rattle.cbsp_link.specs.declared.iei.TheConstants.{BROADCASTS_REQUESTED, DATA_CODING, RECOVERY_INDICATION}
use Rattle.cbsp_link.specs.declared.iei.TheConstants.{MESSAGE_IDENTIFIER, CHANNEL_INDICATOR}
use Rattle.cbsp_link.specs.declared.iei.TheConstants.{BROADCAST_MESSAGE_TYPE}
use Rattle.cbsp_link.specs.declared.message.Answered.{Answered}
use Rattle.cbsp_link.specs.declared.message.Answered.TheVariants as orders
use Rattle.cbsp_link.specs.declared.message.LinkCell.{LinkCell}
use Rattle.cbsp_link.specs.declared.message.LinkCell.TheVariants as cells
use Rattle.cbsp_link.specs.declared.message.LinkCount.{LinkCount}
use Rattle.cbsp_link.specs.declared.message.LinkFailure.{LinkFailure}
use Rattle.cbsp_link.specs.declared.message.LinkMessage.{LinkMessage}
use Rattle.cbsp_link.specs.declared.message.LinkMessage.TheVariants as messages
use Rattle.cbsp_link.specs.declared.message.Plmn.{Plmn}
use Rattle.cbsp_link.specs.Outcome.{faultless}

-- a number in two octets, the high one first, and a length below 65,536 and below 2 ^ 24
abbrev pub two_octets : ℕ → List ℕ
two_octets n = n / 256 ∷ n % 256 ∷ []

abbrev pub short_length : ℕ → List ℕ
short_length n = n / 256 % 256 ∷ n % 256 ∷ []

abbrev pub long_length : ℕ → List ℕ
long_length n = n / 65536 % 256 ∷ n / 256 % 256 ∷ n % 256 ∷ []

-- elements, where they aren't left out
abbrev pub pair_element : ℕ → ℕ → List ℕ
pair_element n value = n ∷ two_octets value

abbrev pub pair_if : ℕ → Option ℕ → List ℕ
pair_if n None = []
pair_if n (Some value) = pair_element n value

abbrev pub octet_element : ℕ → ℕ → List ℕ
octet_element n value = n ∷ value ∷ []

abbrev pub octet_if : ℕ → Option ℕ → List ℕ
octet_if n None = []
octet_if n (Some value) = octet_element n value

abbrev pub list_element : ℕ → List ℕ → List ℕ
list_element n octets = n ∷ (short_length (length octets) ++ octets)

-- the discriminator of a cell, and the octets that name it
abbrev pub discriminator_of : LinkCell → ℕ
discriminator_of (cells.Global plmn lac ci) = 0
discriminator_of (cells.LacCi lac ci) = 1
discriminator_of (cells.Ci ci) = 2
discriminator_of cells.Nothing = 3
discriminator_of (cells.Area plmn lac) = 4
discriminator_of (cells.Lac lac) = 5
discriminator_of cells.All = 6

abbrev pub plmn_octets : Plmn → List ℕ
plmn_octets plmn = plmn.0 ∷ plmn.1 ∷ plmn.2 ∷ []

abbrev pub name_octets : LinkCell → List ℕ
name_octets (cells.Global plmn lac ci) = plmn_octets plmn ++ two_octets lac ++ two_octets ci
name_octets (cells.LacCi lac ci) = two_octets lac ++ two_octets ci
name_octets (cells.Ci ci) = two_octets ci
name_octets cells.Nothing = []
name_octets (cells.Area plmn lac) = plmn_octets plmn ++ two_octets lac
name_octets (cells.Lac lac) = two_octets lac
name_octets cells.All = []

abbrev pub counted_octets : LinkCount → List ℕ
counted_octets c = name_octets c.cell ++ (two_octets c.number ++ c.info ∷ [])

-- a failure has a discriminator of its own
abbrev pub failed_octets : LinkFailure → List ℕ
failed_octets f = discriminator_of f.cell ∷ (name_octets f.cell ++ f.cause ∷ [])

-- lists, which are left out where they are empty
abbrev pub cells_element : List LinkCell → List ℕ
cells_element [] = []
cells_element (c ∷ cs) = list_element CELL_LIST (discriminator_of c ∷ flat_map name_octets (c ∷ cs))

abbrev pub counts_element : List LinkCount → List ℕ
counts_element [] = []
counts_element (c ∷ cs) =
    list_element BROADCASTS_COMPLETED (discriminator_of c.cell ∷ flat_map counted_octets (c ∷ cs))

abbrev pub failures_element : List LinkFailure → List ℕ
failures_element [] = []
failures_element (f ∷ fs) = list_element FAILURE_LIST (flat_map failed_octets (f ∷ fs))

abbrev pub page_element : Content → List ℕ
page_element content = MESSAGE_CONTENT ∷ content.used ∷ content.octets

-- the elements of an order's reply
abbrev pub answered_elements : Answered → List ℕ
answered_elements (orders.Write new_serial old_serial) =
    pair_element NEW_SERIAL_NUMBER new_serial ++ pair_if OLD_SERIAL_NUMBER old_serial
answered_elements (orders.Kill old_serial) = pair_element OLD_SERIAL_NUMBER old_serial

-- the octets after the header
unfoldable pub body_of : LinkMessage → List ℕ
body_of (messages.Write id new_serial old_serial cells channel category period broadcasts dcs contents) =
    pair_element MESSAGE_IDENTIFIER id ++ pair_element NEW_SERIAL_NUMBER new_serial
    ++ pair_if OLD_SERIAL_NUMBER old_serial ++ cells_element cells ++ octet_element CHANNEL_INDICATOR channel
    ++ octet_if CATEGORY category ++ pair_element REPETITION_PERIOD period
    ++ pair_element BROADCASTS_REQUESTED broadcasts ++ octet_element NUMBER_OF_PAGES (length contents % 256)
    ++ octet_element DATA_CODING dcs.0 ++ flat_map page_element contents
body_of (messages.Emergency id new_serial old_serial cells) = []
body_of (messages.Kill id old_serial cells channel) =
    pair_element MESSAGE_IDENTIFIER id ++ pair_element OLD_SERIAL_NUMBER old_serial ++ cells_element cells
    ++ octet_if CHANNEL_INDICATOR channel
body_of (messages.Done id order completed cells channel) =
    pair_element MESSAGE_IDENTIFIER id ++ answered_elements order ++ counts_element completed ++ cells_element cells
    ++ octet_if CHANNEL_INDICATOR channel
body_of (messages.Failed id order failures completed cells channel) =
    pair_element MESSAGE_IDENTIFIER id ++ answered_elements order ++ failures_element failures
    ++ counts_element completed ++ cells_element cells ++ octet_if CHANNEL_INDICATOR channel
body_of (messages.Reset cells) = cells_element cells
body_of (messages.ResetDone cells) = cells_element cells
body_of (messages.ResetFailed failures cells) = failures_element failures ++ cells_element cells
body_of (messages.Restart cells broadcast_type recovery) =
    cells_element cells ++ octet_element BROADCAST_MESSAGE_TYPE broadcast_type
    ++ octet_element RECOVERY_INDICATION recovery
body_of (messages.Failure failures broadcast_type) =
    failures_element failures ++ octet_element BROADCAST_MESSAGE_TYPE broadcast_type
body_of (messages.Other message_type) = []

-- the first octet of a message
abbrev pub answered_type : ℕ → ℕ → Answered → ℕ
answered_type write kill (orders.Write new_serial old_serial) = write
answered_type write kill (orders.Kill old_serial) = kill

abbrev pub first_octet_of : LinkMessage → ℕ
first_octet_of (messages.Write a b c d e f g h i j) = 1
first_octet_of (messages.Emergency a b c d) = 1
first_octet_of (messages.Kill a b c d) = 4
first_octet_of (messages.Done a order c d e) = answered_type 2 5 order
first_octet_of (messages.Failed a order c d e f) = answered_type 3 6 order
first_octet_of (messages.Reset a) = 16
first_octet_of (messages.ResetDone a) = 17
first_octet_of (messages.ResetFailed a b) = 18
first_octet_of (messages.Restart a b c) = 19
first_octet_of (messages.Failure a b) = 20
first_octet_of (messages.Other message_type) = message_type

unfoldable pub octets_of_link : LinkMessage → List ℕ
octets_of_link m = first_octet_of m ∷ (long_length (length (body_of m)) ++ body_of m)

-- ---- which messages are written

-- at most this many items has a list, so that its length fits two octets
abbrev pub most_items : ℕ
most_items = 5000

abbrev pub is_short : LinkCell → Bool
is_short (cells.Global plmn lac ci) = false
is_short (cells.LacCi lac ci) = false
is_short (cells.Ci ci) = false
is_short cells.Nothing = true
is_short (cells.Area plmn lac) = false
is_short (cells.Lac lac) = false
is_short cells.All = true

-- cells that share a discriminator
abbrev pub are_alike : List LinkCell → Bool
are_alike [] = true
are_alike (c ∷ cs) = list_all (λ d. discriminator_of d == discriminator_of c) cs

abbrev pub counts_are_alike : List LinkCount → Bool
counts_are_alike [] = true
counts_are_alike (c ∷ cs) = list_all (λ d. discriminator_of d.cell == discriminator_of c.cell) cs

-- none that takes no octets beside others
abbrev pub stands_alone : List LinkCell → Bool
stands_alone [] = true
stands_alone (c ∷ []) = true
stands_alone (c ∷ d ∷ cs) = not (is_short c)

abbrev pub cells_fit : List LinkCell → Bool
cells_fit cs = nat_le (length cs) most_items && stands_alone cs && are_alike cs

abbrev pub counts_fit : List LinkCount → Bool
counts_fit cs = nat_le (length cs) most_items && counts_are_alike cs

abbrev pub failures_fit : List LinkFailure → Bool
failures_fit fs = nat_le (length fs) most_items

abbrev pub has_some : {X : Type 0} → List X → Bool
has_some [] = false
has_some (x ∷ xs) = true

abbrev pub at_most : ℕ → Option ℕ → Bool
at_most limit None = true
at_most limit (Some n) = nat_le n limit

-- a test of an element, and then the others
abbrev pub or_else : ℕ → Bool → Option LinkFault → Option LinkFault
or_else n passes others = if passes then others else Some (WrongElement n)

-- the first thing for which a message isn't written
unfoldable pub wrong_of : LinkMessage → Option LinkFault
wrong_of (messages.Write id new_serial old_serial cells channel category period broadcasts dcs contents) =
    or_else CELL_LIST (has_some cells && cells_fit cells)
    (or_else CHANNEL_INDICATOR (nat_le channel 1)
    (or_else CATEGORY (at_most 2 category)
    (or_else REPETITION_PERIOD (nat_le period 4095)
    (or_else NUMBER_OF_PAGES (nat_le 1 (length contents) && nat_le (length contents) max_pages)
    (or_else MESSAGE_CONTENT (list_all (λ content. nat_le content.used 82) contents) None)))))
wrong_of (messages.Emergency id new_serial old_serial cells) = Some NotWritten
wrong_of (messages.Kill id old_serial cells channel) =
    or_else CELL_LIST (has_some cells && cells_fit cells)
    (or_else CHANNEL_INDICATOR (at_most 1 channel) None)
wrong_of (messages.Done id order completed cells channel) =
    or_else BROADCASTS_COMPLETED (counts_fit completed)
    (or_else CELL_LIST (cells_fit cells)
    (or_else CHANNEL_INDICATOR (at_most 1 channel) None))
wrong_of (messages.Failed id order failures completed cells channel) =
    or_else FAILURE_LIST (has_some failures && failures_fit failures)
    (or_else BROADCASTS_COMPLETED (counts_fit completed)
    (or_else CELL_LIST (cells_fit cells)
    (or_else CHANNEL_INDICATOR (at_most 1 channel) None)))
wrong_of (messages.Reset cells) = or_else CELL_LIST (has_some cells && cells_fit cells) None
wrong_of (messages.ResetDone cells) = or_else CELL_LIST (has_some cells && cells_fit cells) None
wrong_of (messages.ResetFailed failures cells) =
    or_else FAILURE_LIST (has_some failures && failures_fit failures) (or_else CELL_LIST (cells_fit cells) None)
wrong_of (messages.Restart cells broadcast_type recovery) =
    or_else CELL_LIST (has_some cells && cells_fit cells)
    (or_else BROADCAST_MESSAGE_TYPE (nat_le broadcast_type 1)
    (or_else RECOVERY_INDICATION (nat_le recovery 1) None))
wrong_of (messages.Failure failures broadcast_type) =
    or_else FAILURE_LIST (has_some failures && failures_fit failures)
    (or_else BROADCAST_MESSAGE_TYPE (nat_le broadcast_type 1) None)
wrong_of (messages.Other message_type) = Some NotWritten

-- what is written of a message
abbrev pub written : LinkMessage → Result (List ℕ) LinkFault
written m = faultless (octets_of_link m) (wrong_of m)
