-- What a cell's channel has otherwise than the cell was ordered and answered. Own.
use Rattle.std.specs.Prelude.{ℕ, ◌+◌, ◌==◌, ◌&&◌, ◌||◌, nat_le, Bool, if◌then◌else◌}
use Rattle.std.specs.Prelude.{Option, Some, None, List, [], ◌∷◌, ◌++◌, length, map, is_none}
use Rattle.std.specs.List.{flat_map, list_any}
use Rattle.std.specs.List.Sorted.{IsPermutation, IsSortedByKey}
use Rattle.std.specs.Option.{option_to_list}
use Rattle.cell_orders.specs.declared.row.CellAnswer.{CellAnswer}
use Rattle.cell_orders.specs.declared.row.CellOrder.{CellOrder}
use Rattle.cell_orders.specs.declared.row.CellOrder.TheVariants as rows
use Rattle.cell_orders.specs.declared.row.OrderRow.{OrderRow}
use Rattle.verification.specs.Asked.{AskedMessage}
use Rattle.verification.specs.Difference.{SortKey, again_differences, broadcast_differences, first_difference}
use Rattle.verification.specs.Difference.{key_order, kind_number, kind_place, page_numbers}
use Rattle.verification.specs.declared.difference.Difference.{Difference}
use Rattle.verification.specs.declared.difference.Kind.TheVariants as kinds
use Rattle.verification.specs.declared.judged.JudgedPage.{JudgedPage}
use Rattle.order_verdict.specs.declared.difference.OrderKind.{OrderKind}
use Rattle.order_verdict.specs.declared.difference.OrderKind.TheVariants as order_kinds
use Rattle.order_verdict.specs.declared.difference.OrderDifference.{OrderDifference}
use Rattle.order_verdict.specs.Air.{AirOctets, id_in, pages_on_air, serial_in}
use Rattle.order_verdict.specs.Counts.{first_more, whole_before}
use Rattle.order_verdict.specs.Judged.{is_as_named, own_pages_in}
use Rattle.order_verdict.specs.Ordered.{OrderedMessage, ordered_in, row_slot}

abbrev pub difference_at : (slot id serial : ℕ) → OrderKind → OrderDifference
difference_at slot id serial kind = record { slot = slot; id = id; serial = serial; kind = kind }

-- a difference of pages and broadcasts, as `verification` has it
abbrev pub of_air : Difference → OrderDifference
of_air d = difference_at d.slot d.id d.serial (order_kinds.Air d.kind)

-- a page comes before the answer to its order; all else is judged with the delay
abbrev pub air_differences : (slots : ℕ) → OrderedMessage → List JudgedPage → List Difference
air_differences slots m pages =
    flat_map (λ number. first_difference m.late pages (kinds.Otherwise number)) page_numbers
    ++ first_difference m.early pages kinds.BeforeStart
    ++ first_difference m.late pages kinds.AfterStop
    ++ first_difference m.late pages kinds.AfterLast
    ++ broadcast_differences slots m.late pages
    ++ again_differences slots m.late pages

-- more broadcasts come than were requested
abbrev pub at_slot : AskedMessage → OrderKind → (slot : ℕ) → OrderDifference
at_slot a kind slot = difference_at slot a.id a.serial kind

abbrev pub more_differences : AskedMessage → List JudgedPage → List OrderDifference
more_differences a pages =
    if a.broadcasts == 0 then []
    else
    map (at_slot a order_kinds.MoreThanOrdered)
    (option_to_list (first_more (length a.contents) a.broadcasts pages))

-- the answer that ended the message says another number of broadcasts than came up to it, where the tape goes so far
abbrev pub told_difference : AskedMessage → (end told air : ℕ) → List OrderDifference
told_difference a end told air = if told == air then [] else at_slot a (order_kinds.Answer told air) end ∷ []

abbrev pub told_differences_by : (slots delay : ℕ) → AskedMessage → List JudgedPage → (ended told : Option ℕ)
    → List OrderDifference
told_differences_by slots delay a pages (Some end) (Some told) =
    if nat_le (end + delay) slots
    then told_difference a end told (whole_before (length a.contents) pages (end + delay))
    else []
told_differences_by slots delay a pages (Some end) None = []
told_differences_by slots delay a pages None told = []

abbrev pub told_differences : (slots delay : ℕ) → OrderedMessage → List JudgedPage → List OrderDifference
told_differences slots delay m pages = told_differences_by slots delay m.late pages m.ended m.told

-- the differences of a message of which these pages were sent
abbrev pub ordered_differences : (slots delay : ℕ) → OrderedMessage → List JudgedPage → List OrderDifference
ordered_differences slots delay m pages =
    map of_air (air_differences slots m pages)
    ++ more_differences m.late pages
    ++ told_differences slots delay m pages

-- an order has no answer
abbrev pub unanswered_if : Option CellAnswer → OrderDifference → List OrderDifference
unanswered_if answer d = if is_none answer then d ∷ [] else []

abbrev pub unanswered_by : (at : ℕ) → CellOrder → List OrderDifference
unanswered_by at (rows.Write id new_serial old_serial category period broadcasts dcs contents answer) =
    unanswered_if answer (difference_at at id new_serial order_kinds.NoAnswer)
unanswered_by at (rows.Kill id old_serial answer) =
    unanswered_if answer (difference_at at id old_serial order_kinds.NoAnswer)
unanswered_by at rows.Clear = []

abbrev pub unanswered : OrderRow → List OrderDifference
unanswered row = unanswered_by (row_slot row.at) row.order

-- the first page of each identifier and serial number of which the cell took no order, after pages that came before
abbrev pub is_known : List OrderedMessage → (octets : List ℕ) → Bool
is_known ms octets = list_any (λ (m : OrderedMessage). is_as_named m.early octets) ms

abbrev pub has_name_of : AirOctets → AirOctets → Bool
has_name_of page other = (id_in page.octets == id_in other.octets) && (serial_in page.octets == serial_in other.octets)

abbrev pub unordered : List OrderedMessage → (before : List AirOctets) → AirOctets → List OrderDifference
unordered ms before page =
    if is_known ms page.octets || list_any (has_name_of page) before then []
    else
    difference_at page.slot (id_in page.octets) (serial_in page.octets) (order_kinds.Air kinds.NotOrdered) ∷ []

abbrev pub unordered_after : List OrderedMessage → (before pages : List AirOctets) → List OrderDifference
unordered_after ms before [] = []
unordered_after ms before (page ∷ rest) =
    unordered ms before page ++ unordered_after ms (before ++ page ∷ []) rest

-- all differences of a cell's messages, rows and pages
abbrev pub all_order_differences : (slots delay : ℕ) → List OrderRow → List AirOctets → List OrderDifference
all_order_differences slots delay rows air =
    flat_map (λ (m : OrderedMessage). ordered_differences slots delay m (own_pages_in m air)) (ordered_in delay rows)
    ++ flat_map unanswered rows
    ++ unordered_after (ordered_in delay rows) [] air

-- their order: by slot, identifier, serial number and kind, and by the number of the page, broadcast or answer
abbrev pub order_place : OrderKind → ℕ
order_place (order_kinds.Air kind) = kind_place kind
order_place order_kinds.MoreThanOrdered = 7
order_place (order_kinds.Answer told air) = 8
order_place order_kinds.NoAnswer = 9

abbrev pub order_number : OrderKind → ℕ
order_number (order_kinds.Air kind) = kind_number kind
order_number order_kinds.MoreThanOrdered = 0
order_number (order_kinds.Answer told air) = told
order_number order_kinds.NoAnswer = 0

abbrev pub order_key : OrderDifference → SortKey
order_key d = (d.slot, d.id, d.serial, order_place d.kind, order_number d.kind)

-- these are the differences between the rows of an orders file and the blocks of a tape of so many slots, in order
pub record AreOrderDifferences (slots delay : ℕ) (rows : List OrderRow) (blocks : List (List ℕ))
    (found : List OrderDifference) : Type 0
  where
    pub all : IsPermutation (all_order_differences slots delay rows (pages_on_air blocks)) found
    pub sorted : IsSortedByKey order_key key_order found
