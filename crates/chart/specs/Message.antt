-- What is drawn of an accepted message beside its row (own).
use Rattle.std.specs.Prelude.{ℕ, ◌+◌, ◌-◌, ◌==◌, ◌&&◌, if◌then◌else◌, max, min, Option}
use Rattle.std.specs.Prelude.{Some, None, List, [], ◌∷◌, ◌++◌, filter, find}
use Rattle.std.specs.Prelude.{Bool, false, not, true, ◌*◌, count_by, encode_utf8_all, nat_le, nat_lt, slice_get}
use Rattle.std.specs.Fmt.{decimal}
use Rattle.std.specs.List.{flat_map, range_with_len}
use Rattle.std.specs.Option.{option_map_or, unwrap_or}
use Rattle.cbs_page.specs.Coding.{alphabet_of}
use Rattle.cbs_page.specs.Text.{text_in}
use Rattle.cbs_page.specs.declared.content.Content.{Content}
use Rattle.scheduler.specs.Air.{Air}
use Rattle.scheduler.specs.Message.{ScheduledMessage}
use Rattle.scheduler.specs.Pages.{airs_page}
use Rattle.scheduler.specs.declared.plan.Rank.{Rank}
use Rattle.scheduler.specs.declared.plan.Rank.TheVariants as ranks
use Rattle.bsc_table.specs.Claim.{end_of}
use Rattle.bsc_table.specs.Record.{Accepted}
use Rattle.bsc_table.specs.declared.command.Command.{Command}
use Rattle.bsc_table.specs.declared.command.Command.TheVariants as commands
use Rattle.bsc_table.specs.declared.entry.Entry.{Entry}
use Rattle.handset.specs.Reception.{ShownMessage}
use Rattle.report.specs.declared.row.Demand.{Demand}
use Rattle.report.specs.declared.row.Row.{Row}
use Rattle.chart.specs.declared.view.Stretch.{Stretch}
use Rattle.chart.specs.View.{holds, width_of}
use Rattle.chart.specs.declared.word.Language.{Language}
use Rattle.chart.specs.declared.word.Word.TheVariants as words
use Rattle.chart.specs.Words.{word_in}
use Rattle.chart.specs.declared.message.Stroke.{Stroke}
use Rattle.chart.specs.declared.message.TheConstants.{ALONG, DOWN, MARKS, MARKS_END, UP}
use Rattle.chart.specs.declared.message.TheConstants.{FIRST, FIRST_END, LEAST_GAP, MOST_MARKS, PAGE_WIDTH}
use Rattle.chart.specs.declared.message.TheConstants.{EVERY_15_S, EVERY_30_S, EVERY_MINUTE, EVERY_2_MINUTES, RARER}

-- the text that a handset shows of a message of this identifier and serial number, if it shows one
abbrev pub text_shown : List ShownMessage → (id serial : ℕ) → List ℕ
text_shown shown id serial = option_map_or (λ m. m.text) (find (λ m. (m.id == id) && (m.serial == serial)) shown) []

-- the text that a write asks phones to show: those of its pages, in their order, in UTF-8
abbrev pub text_of_contents : (coding : ℕ) → List Content → List ℕ
text_of_contents coding contents =
    flat_map (λ content. encode_utf8_all (text_in (alphabet_of coding) content.octets)) contents

abbrev pub text_asked_by : Command → List ℕ
text_asked_by (commands.Write id serial replaces category dcs period broadcasts contents) =
    text_of_contents dcs.0 contents
text_asked_by (commands.Kill id serial) = []
text_asked_by (commands.Status id serial) = []

-- that of an accepted message, whose number is the place of its write in the log
abbrev pub text_asked : List Entry → Option Accepted → List ℕ
text_asked log None = []
text_asked log (Some a) = option_map_or (λ e. text_asked_by e.command) (slice_get log a.message.entry) []

-- the category in words
abbrev pub rank_words : Language → Rank → List ℕ
rank_words l ranks.High = word_in l words.High
rank_words l ranks.Normal = word_in l words.Normal
rank_words l ranks.Background = word_in l words.Background

abbrev pub category_words : Language → Option Accepted → List ℕ
category_words l None = []
category_words l (Some a) = rank_words l a.message.rank

-- the first slot after a message's reservation, or after the run
abbrev pub end_within : (slots : ℕ) → ScheduledMessage → ℕ
end_within slots m = min (unwrap_or (end_of m) slots) slots

-- whether a slot sends the last page of a message: a broadcast of it is whole then
abbrev pub is_marked : Air → ScheduledMessage → (slot : ℕ) → Bool
is_marked air m slot = option_map_or (airs_page m.entry m.pages) (slice_get air slot) false

-- the slots of its reservation that are drawn
abbrev pub marked_from : Stretch → ScheduledMessage → ℕ
marked_from s m = max m.start s.from

abbrev pub marked_to : Stretch → (slots : ℕ) → ScheduledMessage → ℕ
marked_to s slots m = min (end_within slots m) s.to

abbrev pub marked_slots : Stretch → (slots : ℕ) → ScheduledMessage → List ℕ
marked_slots s slots m = range_with_len (marked_from s m) (marked_to s slots m - marked_from s m)

-- those of them that make a broadcast whole
abbrev pub whole_slots : Stretch → (slots : ℕ) → Air → ScheduledMessage → List ℕ
whole_slots s slots air m = filter (is_marked air m) (marked_slots s slots m)

-- The marks are strokes of one line, which begins at slot 0 over the picture. It goes along over or under it, where it
-- isn't seen, to the end of each of these slots, and there across the picture.

-- the strokes at the ends of slots, where the line has come to a place, over the picture or under it, so that the first
-- of them goes down or up
abbrev pub strokes_from : (place : ℕ) → (is_down : Bool) → List ℕ → List Stroke
strokes_from place is_down [] = []
strokes_from place is_down (slot ∷ slots) =
    record { along = slot + 1 - place; is_down = is_down } ∷ strokes_from (slot + 1) (not is_down) slots

abbrev pub strokes_of : Stretch → (slots : ℕ) → Air → ScheduledMessage → List Stroke
strokes_of s slots air m = strokes_from 0 true (whole_slots s slots air m)

-- a stroke of the line
unfoldable pub stroke_text : Stroke → List ℕ
stroke_text stroke = ALONG.now ++ decimal stroke.along ++ (if stroke.is_down then DOWN.now else UP.now)

abbrev pub marks_of : Stretch → (slots : ℕ) → Air → Option Accepted → List ℕ
marks_of s slots air None = []
marks_of s slots air (Some a) = flat_map stroke_text (strokes_of s slots air a.message)

-- how many marks a message has at the slots that are drawn, which is how many of its broadcasts are whole there
abbrev pub number_of_marks : Stretch → (slots : ℕ) → Air → ScheduledMessage → ℕ
number_of_marks s slots air m = count_by (is_marked air m) (marked_slots s slots m)

-- whether marks of broadcasts that follow each other by this period, in slots, are at least 4 px apart where the slots
-- that are drawn take a page of 1,280 px
abbrev pub are_apart : Stretch → (period : ℕ) → Bool
are_apart s period = nat_le (LEAST_GAP * width_of s) (period * PAGE_WIDTH)

-- whether a message of this period has its marks drawn: at most 400 broadcasts of it are whole at the slots that are
-- drawn, and the marks are apart
abbrev pub has_marks : Stretch → (period whole : ℕ) → Bool
has_marks s period whole = nat_le whole MOST_MARKS && are_apart s period

-- the number of its whole broadcasts that stands in place of marks, where it hasn't
abbrev pub number_if_crowded : Stretch → (period whole : ℕ) → Option ℕ
number_if_crowded s period whole = if has_marks s period whole then None else Some whole

abbrev pub number_instead : Stretch → (slots : ℕ) → Air → Option Accepted → Option ℕ
number_instead s slots air None = None
number_instead s slots air (Some a) = number_if_crowded s a.message.period (number_of_marks s slots air a.message)

-- the marks that are drawn of a message: all, or none where their number stands in their place
unfoldable pub marks_path : (marks : List ℕ) → List ℕ
marks_path marks = MARKS.now ++ marks ++ MARKS_END.now

abbrev pub drawn_marks : (number : Option ℕ) → (marks : List ℕ) → List ℕ
drawn_marks None marks = marks_path marks
drawn_marks (Some number) marks = []

-- the mark where a phone shows a message first: at the end of the slot after whose blocks it does
unfoldable pub first_mark_after : (slot : ℕ) → List ℕ
first_mark_after slot = FIRST.now ++ decimal (slot + 1) ++ FIRST_END.now

abbrev pub first_mark : Stretch → (first : Option ℕ) → List ℕ
first_mark s None = []
first_mark s (Some slot) = if holds s slot then first_mark_after slot else []

-- its period in slots; 0 of what has none
abbrev pub period_of : Option Demand → ℕ
period_of demand = option_map_or (λ demand. demand.period) demand 0

-- whether a message is broadcast every this many slots, or more often: its period is no longer, and its whole
-- broadcasts are no fewer from its start to its end, but for a last one
abbrev pub is_every : (slots : ℕ) → Row → Bool
is_every slots row =
    nat_lt 0 row.completed && nat_le (period_of row.demand) slots
    && nat_le (row.end - row.start) (slots * (row.completed + 1))

-- how often it is, in steps of about 15 s, 30 s, a minute and two minutes; a slot lasts 1.883 s
abbrev pub pace_text : Row → List ℕ
pace_text row =
    if is_every 8 row then EVERY_15_S.now
    else if is_every 16 row then EVERY_30_S.now
    else if is_every 32 row then EVERY_MINUTE.now
    else if is_every 64 row then EVERY_2_MINUTES.now
    else RARER.now
