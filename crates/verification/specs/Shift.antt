-- Tapes on which all pages come the same number of slots early or late (own): one who records from another slot on than
-- is said makes such a tape.
use Rattle.std.specs.Prelude.{ℕ, ◌+◌, ◌-◌, Bool, true, false, not, nat_le, nat_lt, if◌then◌else◌, min, max}
use Rattle.std.specs.Prelude.{Option, Some, None, List, [], ◌∷◌, find}
use Rattle.std.specs.List.{flat_map, list_any, slice_get}
use Rattle.std.specs.Option.{option_map}
use Rattle.bsc_table.specs.Record.{Record}
use Rattle.verification.specs.declared.difference.Difference.{Difference}
use Rattle.verification.specs.declared.difference.Kind.{Kind}
use Rattle.verification.specs.declared.difference.Kind.TheVariants as kinds
use Rattle.verification.specs.declared.judged.JudgedPage.{JudgedPage}
use Rattle.verification.specs.declared.sent.SentPage.{SentPage}
use Rattle.verification.specs.declared.shift.Shift.{Shift}
use Rattle.verification.specs.declared.shift.Shift.TheVariants as shifts
use Rattle.verification.specs.Asked.{AskedMessage, asked_of_log}
use Rattle.verification.specs.Difference.{all_differences, due_slot, release_slot}
use Rattle.verification.specs.Explained.{is_message_of}
use Rattle.verification.specs.Judged.{judged_in}
use Rattle.verification.specs.Sent.{sent_in}

-- the slot of a message's first page on a tape, if it has one
abbrev pub slot_of_first : List JudgedPage → Option ℕ
slot_of_first pages = option_map (λ page. page.slot) (slice_get pages 0)

abbrev pub first_page_slot : List SentPage → AskedMessage → Option ℕ
first_page_slot sent a = slot_of_first (judged_in a sent)

-- by how many slots the first page of a message comes before its start: the most of all messages, and 0 if none does
abbrev pub early_by : AskedMessage → Option ℕ → ℕ
early_by a None = 0
early_by a (Some slot) = a.start - slot

abbrev pub slots_early : List SentPage → List AskedMessage → ℕ
slots_early sent [] = 0
slots_early sent (a ∷ asked) = max (early_by a (first_page_slot sent a)) (slots_early sent asked)

-- by how many slots the first page of a message comes after its start: the least of all messages that have a page
abbrev pub late_by : AskedMessage → Option ℕ → Option ℕ
late_by a first = option_map (λ slot. slot - a.start) first

abbrev pub smaller : Option ℕ → Option ℕ → Option ℕ
smaller None other = other
smaller (Some n) None = Some n
smaller (Some n) (Some m) = Some (min n m)

abbrev pub slots_late : List SentPage → List AskedMessage → Option ℕ
slots_late sent [] = None
slots_late sent (a ∷ asked) = smaller (late_by a (first_page_slot sent a)) (slots_late sent asked)

-- the tape's shift: the least one without which no page of a message would come before its start. Pages that come early
-- decide; only if there is none, pages that come late do
abbrev pub shift_by : (early : ℕ) → (late : Option ℕ) → Option Shift
shift_by early None = if nat_lt 0 early then Some (shifts.Early early) else None
shift_by early (Some late) =
    if nat_lt 0 early then Some (shifts.Early early)
    else (if nat_lt 0 late then Some (shifts.Late late) else None)

abbrev pub likely_shift : List AskedMessage → List SentPage → Option Shift
likely_shift asked sent = shift_by (slots_early sent asked) (slots_late sent asked)

-- the pages of a tape without its shift: those of one that is early come so many slots later, and those of one that is
-- late so many slots earlier, but for those of the slots before the run
abbrev pub in_slot : SentPage → (slot : ℕ) → SentPage
in_slot sent slot = record { slot = slot; page = sent.page }

abbrev pub unshifted_page : Shift → SentPage → List SentPage
unshifted_page (shifts.Early slots) sent = in_slot sent (sent.slot + slots) ∷ []
unshifted_page (shifts.Late slots) sent =
    if nat_le slots sent.slot then in_slot sent (sent.slot - slots) ∷ [] else []

abbrev pub unshifted : Shift → List SentPage → List SentPage
unshifted shift sent = flat_map (unshifted_page shift) sent

-- the slots of the run from one up to another are among those that such a tape has: an early one begins so many slots
-- after the run, and a late one ends so many before it
abbrev pub has_slots : (slots : ℕ) → Shift → (first end : ℕ) → Bool
has_slots slots (shifts.Early early) first end = nat_le early first
has_slots slots (shifts.Late late) first end = nat_le end (slots - late)

-- a difference isn't only that the tape has no whole period of a broadcast, or that a page comes again: a sender that
-- sends too often may be late, too
abbrev pub has_period : (slots : ℕ) → Shift → Option AskedMessage → (j : ℕ) → Bool
has_period slots shift None j = true
has_period slots shift (Some a) j = has_slots slots shift (release_slot a j) (due_slot a j)

abbrev pub is_left_of : (slots : ℕ) → Shift → Option AskedMessage → Kind → Bool
is_left_of slots shift message (kinds.NotWhole j) = has_period slots shift message j
is_left_of slots shift message (kinds.Again j) = false
is_left_of slots shift message kind = true

abbrev pub is_left : (slots : ℕ) → List AskedMessage → Shift → Difference → Bool
is_left slots asked shift d = is_left_of slots shift (find (is_message_of d) asked) d.kind

-- all pages of a tape are shifted: without the shift no difference is left, but of broadcasts of which the tape has no
-- whole period, and of pages that come again
abbrev pub are_shifted : (slots : ℕ) → List AskedMessage → List SentPage → Shift → Bool
are_shifted slots asked sent shift =
    not (list_any (is_left slots asked shift) (all_differences slots asked (unshifted shift sent)))

abbrev pub shift_if : Bool → Shift → Option Shift
shift_if true shift = Some shift
shift_if false shift = None

abbrev pub shift_in : (slots : ℕ) → List AskedMessage → List SentPage → Option Shift → Option Shift
shift_in slots asked sent None = None
shift_in slots asked sent (Some shift) = shift_if (are_shifted slots asked sent shift) shift

-- by how many slots all pages of a cell's tape are early or late, if they are, by the cell's record and the tape's
-- blocks
abbrev pub shift_of_sent : (slots : ℕ) → List AskedMessage → List SentPage → Option Shift
shift_of_sent slots asked sent = shift_in slots asked sent (likely_shift asked sent)

abbrev pub shift_of : Record → (blocks : List (List ℕ)) → Option Shift
shift_of r blocks = shift_of_sent r.slots (asked_of_log r.log) (sent_in blocks)

-- a page comes at another time than its message's: a tape that merely lacks broadcasts has no such difference
abbrev pub is_untimely : Kind → Bool
is_untimely kinds.BeforeStart = true
is_untimely kinds.AfterStop = true
is_untimely kinds.AfterLast = true
is_untimely other = false
