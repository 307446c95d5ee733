-- The differences between what a cell was asked to broadcast and what its tape sends (own).
use Rattle.std.specs.Prelude.{ℕ, ◌+◌, ◌*◌, Bool, true, false, not, ◌==◌, ◌&&◌, ◌||◌, nat_lt, nat_le}
use Rattle.std.specs.Prelude.{if◌then◌else◌, Option, Some, None, List, [], ◌∷◌, ◌++◌, length, map, filter, find}
use Rattle.std.specs.List.{flat_map, list_all, list_any, range_with_len}
use Rattle.std.specs.List.Sorted.{IsPermutation, IsSortedByKey}
use Rattle.std.specs.Option.{option_map, option_to_list}
use Rattle.std.specs.Ordering.{nat_cmp, ordering_then}
use Rattle.std.specs.declared.cmp.Ordering.{Ordering}
use Rattle.cbs_page.specs.declared.octets.PageView.{PageView}
use Rattle.cbs_page.specs.Text.{max_pages}
use Rattle.bsc_table.specs.Record.{Record}
use Rattle.verification.specs.declared.difference.Difference.{Difference}
use Rattle.verification.specs.declared.difference.Kind.{Kind}
use Rattle.verification.specs.declared.difference.Kind.TheVariants as kinds
use Rattle.verification.specs.declared.sent.SentPage.{SentPage}
use Rattle.verification.specs.declared.judged.JudgedPage.{JudgedPage}
use Rattle.verification.specs.Asked.{AskedMessage, asked_of_log, is_page_of_any}
use Rattle.verification.specs.Sent.{sent_in}
use Rattle.verification.specs.Judged.{judged_in}

-- a slot is that of the stop, if there is one, or comes after it
abbrev pub is_past_stop : Option ℕ → (slot : ℕ) → Bool
is_past_stop None slot = false
is_past_stop (Some stop) slot = nat_le stop slot

-- the periods of the requested broadcasts are over, if they have an end
abbrev pub is_over : AskedMessage → (slot : ℕ) → Bool
is_over a slot = not (a.broadcasts == 0) && nat_le (a.start + a.broadcasts * a.period) slot

-- a page of the message is such a page as this kind of difference tells of
abbrev pub differs : AskedMessage → Kind → JudgedPage → Bool
differs a (kinds.Otherwise number) page = (page.number == number) && not page.right
differs a kinds.BeforeStart page = nat_lt page.slot a.start
differs a kinds.AfterStop page = is_past_stop a.stop page.slot
differs a kinds.AfterLast page = is_over a page.slot && not (is_past_stop a.stop page.slot)
differs a (kinds.NotWhole broadcast) page = false
differs a kinds.NotOrdered page = false
differs a (kinds.Again broadcast) page = false

abbrev pub difference_of : AskedMessage → Kind → (slot : ℕ) → Difference
difference_of a kind slot = record { slot = slot; id = a.id; serial = a.serial; kind = kind }

-- a difference of this kind, at the first slot with such a page, if there is one
abbrev pub first_slot : AskedMessage → List JudgedPage → Kind → Option ℕ
first_slot a pages kind = option_map (λ page. page.slot) (find (differs a kind) pages)

abbrev pub first_difference : AskedMessage → List JudgedPage → Kind → List Difference
first_difference a pages kind = map (difference_of a kind) (option_to_list (first_slot a pages kind))

-- the numbers that a page can have: 1 to 15
abbrev pub page_numbers : List ℕ
page_numbers = range_with_len 1 max_pages

abbrev pub page_differences : AskedMessage → List JudgedPage → List Difference
page_differences a pages =
    flat_map (λ number. first_difference a pages (kinds.Otherwise number)) page_numbers
    ++ first_difference a pages kinds.BeforeStart
    ++ first_difference a pages kinds.AfterStop
    ++ first_difference a pages kinds.AfterLast

-- the slot from which broadcast j may be sent, and that before which it is due
abbrev pub release_slot : AskedMessage → (j : ℕ) → ℕ
release_slot a j = a.start + j * a.period

abbrev pub due_slot : AskedMessage → (j : ℕ) → ℕ
due_slot a j = a.start + (j + 1) * a.period

-- broadcast j is owed: it was requested, and it is due by the stop, if there is one, and by the end of the run
abbrev pub is_by : Option ℕ → (slot : ℕ) → Bool
is_by None slot = true
is_by (Some stop) slot = nat_le slot stop

abbrev pub is_owed : (slots : ℕ) → AskedMessage → (j : ℕ) → Bool
is_owed slots a j =
    nat_le (due_slot a j) slots && (is_by a.stop (due_slot a j) && ((a.broadcasts == 0) || nat_lt j a.broadcasts))

-- broadcast j is whole: each page of the message was sent, and was right, from its release up to its due slot
abbrev pub is_in_time : AskedMessage → (j : ℕ) → JudgedPage → Bool
is_in_time a j page = nat_le (release_slot a j) page.slot && nat_lt page.slot (due_slot a j)

abbrev pub has_page : AskedMessage → List JudgedPage → (j number : ℕ) → Bool
has_page a pages j number = list_any (λ page. is_in_time a j page && ((page.number == number) && page.right)) pages

abbrev pub is_whole : AskedMessage → List JudgedPage → (j : ℕ) → Bool
is_whole a pages j = list_all (has_page a pages j) (range_with_len 1 (length a.contents))

-- the broadcasts that are owed and aren't whole, each at its due slot. A broadcast is due one slot or more after the
-- one before it, so that fewer than the slots of the run are owed
abbrev pub broadcast_difference : (slots : ℕ) → AskedMessage → List JudgedPage → (j : ℕ) → List Difference
broadcast_difference slots a pages j =
    if is_owed slots a j && not (is_whole a pages j) then difference_of a (kinds.NotWhole j) (due_slot a j) ∷ [] else []

abbrev pub broadcast_differences : (slots : ℕ) → AskedMessage → List JudgedPage → List Difference
broadcast_differences slots a pages =
    if a.background then [] else flat_map (broadcast_difference slots a pages) (range_with_len 0 slots)

-- a page comes again after some: it is right and not past the stop, and so is one of them with its number
abbrev pub is_same_right : (number : ℕ) → JudgedPage → Bool
is_same_right number page = (page.number == number) && page.right

abbrev pub comes_again : (stop : Option ℕ) → (before : List JudgedPage) → JudgedPage → Bool
comes_again stop before page =
    page.right && (not (is_past_stop stop page.slot) && list_any (is_same_right page.number) before)

-- the slot of the first of some pages that comes again, after those that came before
abbrev pub again_after : (stop : Option ℕ) → (before pages : List JudgedPage) → Option ℕ
again_after stop before [] = None
again_after stop before (page ∷ rest) =
    if comes_again stop before page then Some page.slot else again_after stop (before ++ page ∷ []) rest

-- that of the first page that comes again in the time of broadcast j, in which each page is sent once
abbrev pub again_in : AskedMessage → List JudgedPage → (j : ℕ) → Option ℕ
again_in a pages j = again_after a.stop [] (filter (is_in_time a j) pages)

-- a broadcast was requested, and may claim its time: a background message has none of its own
abbrev pub is_requested : AskedMessage → (j : ℕ) → Bool
is_requested a j = not a.background && ((a.broadcasts == 0) || nat_lt j a.broadcasts)

abbrev pub again_difference : AskedMessage → List JudgedPage → (j : ℕ) → List Difference
again_difference a pages j =
    if is_requested a j then map (difference_of a (kinds.Again j)) (option_to_list (again_in a pages j)) else []

abbrev pub again_differences : (slots : ℕ) → AskedMessage → List JudgedPage → List Difference
again_differences slots a pages = flat_map (again_difference a pages) (range_with_len 0 slots)

-- the differences of a message of which these pages were sent
abbrev pub message_differences : (slots : ℕ) → AskedMessage → List JudgedPage → List Difference
message_differences slots a pages =
    page_differences a pages ++ broadcast_differences slots a pages ++ again_differences slots a pages

-- two pages have one identifier and serial number
abbrev pub is_named_as : PageView → SentPage → Bool
is_named_as page sent = (page.id == sent.page.id) && (page.serial == sent.page.serial)

-- the first page of each identifier and serial number that the cell didn't accept, after pages that came before
abbrev pub not_ordered : List AskedMessage → (before : List SentPage) → SentPage → List Difference
not_ordered asked before sent =
    if is_page_of_any asked sent.page || list_any (is_named_as sent.page) before then []
    else record { slot = sent.slot; id = sent.page.id; serial = sent.page.serial; kind = kinds.NotOrdered } ∷ []

-- The walk of the code over the pages, said again: a page is reported at its first place alone
abbrev pub not_ordered_after : List AskedMessage → (before sent : List SentPage) → List Difference
not_ordered_after asked before [] = []
not_ordered_after asked before (page ∷ rest) =
    not_ordered asked before page ++ not_ordered_after asked (before ++ page ∷ []) rest

-- all differences, message by message
abbrev pub all_differences : (slots : ℕ) → List AskedMessage → List SentPage → List Difference
all_differences slots asked sent =
    flat_map (λ a. message_differences slots a (judged_in a sent)) asked ++ not_ordered_after asked [] sent

-- the order of differences: by slot, identifier, serial number and kind, and by the number of the page or the broadcast
abbrev pub kind_place : Kind → ℕ
kind_place (kinds.Otherwise number) = 0
kind_place kinds.BeforeStart = 1
kind_place kinds.AfterStop = 2
kind_place kinds.AfterLast = 3
kind_place (kinds.NotWhole broadcast) = 4
kind_place kinds.NotOrdered = 5
kind_place (kinds.Again broadcast) = 6

abbrev pub kind_number : Kind → ℕ
kind_number (kinds.Otherwise number) = number
kind_number kinds.BeforeStart = 0
kind_number kinds.AfterStop = 0
kind_number kinds.AfterLast = 0
kind_number (kinds.NotWhole broadcast) = broadcast
kind_number kinds.NotOrdered = 0
kind_number (kinds.Again broadcast) = broadcast

abbrev pub SortKey : Type 0
SortKey = ℕ × ℕ × ℕ × ℕ × ℕ

abbrev pub sort_key : Difference → SortKey
sort_key d = (d.slot, d.id, d.serial, kind_place d.kind, kind_number d.kind)

-- the first of these numbers that differ decide
abbrev pub key_order : SortKey → SortKey → Ordering
key_order a b =
    ordering_then (ordering_then (ordering_then (ordering_then (nat_cmp a.0 b.0) (nat_cmp a.1 b.1)) (nat_cmp a.2 b.2))
    (nat_cmp a.3 b.3)) (nat_cmp a.4 b.4)

-- these are the differences between a cell's record and the blocks of its tape, in order
pub record AreDifferences (r : Record) (blocks : List (List ℕ)) (found : List Difference) : Type 0 where
  pub all : IsPermutation (all_differences r.slots (asked_of_log r.log) (sent_in blocks)) found
  pub sorted : IsSortedByKey sort_key key_order found
