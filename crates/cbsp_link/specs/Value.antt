-- The value of an element, found among the elements of a message. 3GPP TS 48.049, clause 8.2.
use Rattle.std.specs.Prelude.{ℕ, ◌==◌, ◌&&◌, nat_le, if◌then◌else◌, List, [], length, map}
use Rattle.std.specs.Prelude.{Option, Some, None, Result, Ok, Err}
use Rattle.cbs_page.specs.Text.{max_pages}
use Rattle.cbs_page.specs.declared.content.Content.{Content}
use Rattle.cbsp_wire.specs.Element.{Element, bodies_of, u16_from_be, first_octet}
use Rattle.cbsp_wire.specs.Value.{content_of}
use Rattle.cbsp_link.specs.declared.fault.LinkFault.{LinkFault}
use Rattle.cbsp_link.specs.declared.fault.LinkFault.TheVariants.{WrongElement}
use Rattle.cbsp_link.specs.declared.iei.TheConstants.{MESSAGE_CONTENT, CELL_LIST, BROADCASTS_COMPLETED}
use Rattle.cbsp_link.specs.declared.iei.TheConstants.{FAILURE_LIST, REPETITION_PERIOD, NUMBER_OF_PAGES}
use Rattle.cbsp_link.specs.declared.message.LinkCell.{LinkCell}
use Rattle.cbsp_link.specs.declared.message.LinkCount.{LinkCount}
use Rattle.cbsp_link.specs.declared.message.LinkFailure.{LinkFailure}
use Rattle.cbsp_link.specs.Outcome.{◌>>=◌, needed}
use Rattle.cbsp_link.specs.Element.{first_body}
use Rattle.cbsp_link.specs.Item.{cells_of_body, counts_of_body, failures_of_body}

-- two octets, or one, if the element is there
abbrev pub as_pair : Option (List ℕ) → Option ℕ
as_pair None = None
as_pair (Some body) = Some (u16_from_be body)

abbrev pub as_octet : Option (List ℕ) → Option ℕ
as_octet None = None
as_octet (Some body) = Some (first_octet body)

abbrev pub pair_in : ℕ → List Element → Option ℕ
pair_in n es = as_pair (first_body n es)

abbrev pub octet_in : ℕ → List Element → Option ℕ
octet_in n es = as_octet (first_body n es)

-- a list, none of which where it is left out
abbrev pub listed : {X : Type 0} → (List ℕ → Result (List X) LinkFault) → Option (List ℕ) → Result (List X) LinkFault
listed items None = Ok []
listed items (Some body) = items body

abbrev pub cells_in : List Element → Result (List LinkCell) LinkFault
cells_in es = listed cells_of_body (first_body CELL_LIST es)

abbrev pub counts_in : List Element → Result (List LinkCount) LinkFault
counts_in es = listed counts_of_body (first_body BROADCASTS_COMPLETED es)

-- lists that the message needs
unfoldable pub needed_cells : List Element → Result (List LinkCell) LinkFault
needed_cells es = needed CELL_LIST (first_body CELL_LIST es) >>= cells_of_body

unfoldable pub needed_failures : List Element → Result (List LinkFailure) LinkFault
needed_failures es = needed FAILURE_LIST (first_body FAILURE_LIST es) >>= failures_of_body

-- a period of 12 bits
abbrev pub period_from : ℕ → Result ℕ LinkFault
period_from n = if nat_le n 4095 then Ok n else Err (WrongElement REPETITION_PERIOD)

unfoldable pub needed_period : List Element → Result ℕ LinkFault
needed_period es = needed REPETITION_PERIOD (pair_in REPETITION_PERIOD es) >>= period_from

-- the pages: 1 to 15, as many as their number says
abbrev pub pages_in : List Element → List Content
pages_in es = map content_of (bodies_of MESSAGE_CONTENT es)

abbrev pub pages_from : List Content → ℕ → Result (List Content) LinkFault
pages_from contents n =
    if nat_le 1 n && nat_le n max_pages && (n == length contents) then Ok contents else Err
    (WrongElement NUMBER_OF_PAGES)

unfoldable pub needed_pages : List Element → Result (List Content) LinkFault
needed_pages es = needed NUMBER_OF_PAGES (octet_in NUMBER_OF_PAGES es) >>= pages_from (pages_in es)
