-- The text of a plan: the separator of its columns, and how CSV reads it by that. Own.
use Rattle.std.specs.Prelude.{◌==◌, ◌||◌, ◌&&◌, ◌-◌, ℕ, Bool, true, false, if◌then◌else◌, List, [], ◌∷◌, drop, length}
use Rattle.std.specs.Prelude.{take}
use Rattle.std.specs.Char.{is_ascii_whitespace}
use Rattle.std.specs.List.{prefix_len, suffix_len}
use Rattle.csv.specs.Reading.{AreRecords, default_config, strip_bom}
use Rattle.csv.specs.declared.parser.Config.{Config}
use Rattle.csv.specs.declared.parser.State.TheVariants as st
use Rattle.plan.specs.declared.text.Look.{Look}
use Rattle.plan.specs.declared.text.Look.TheVariants as look

-- comma, semicolon or tab
abbrev pub is_separator : ℕ → Bool
is_separator octet = (octet == 44) || ((octet == 59) || (octet == 9))

abbrev pub is_line_end : ℕ → Bool
is_line_end octet = (octet == 13) || (octet == 10)

-- what stands after an octet of plain text: a line end begins a line
abbrev pub after_plain : ℕ → Look
after_plain octet = if is_line_end octet then look.Start else look.Plain

-- and at the start of a line: spaces change nothing, `#` begins a comment, and a quote quoted text
abbrev pub after_start : ℕ → Look
after_start octet =
    if octet == 32 then look.Start
    else if octet == 35 then look.Comment
    else if octet == 34 then look.Quoted
    else after_plain octet

-- where the place after an octet is, by where the octet is
abbrev pub look_after : Look → ℕ → Look
look_after look.Start octet = after_start octet
look_after look.Comment octet = if is_line_end octet then look.Start else look.Comment
look_after look.Plain octet = after_plain octet
look_after look.Quoted octet = if octet == 34 then look.Closed else look.Quoted
look_after look.Closed octet = if octet == 34 then look.Quoted else after_plain octet

-- neither in a comment nor in quotes
abbrev pub is_bare : Look → Bool
is_bare look.Start = true
is_bare look.Comment = false
is_bare look.Plain = true
is_bare look.Quoted = false
is_bare look.Closed = true

-- the first bare separator of a text that begins at such a place; a comma if it has none
abbrev pub separator_from : Look → List ℕ → ℕ
separator_from at [] = 44
separator_from at (octet ∷ text) =
    if is_bare at && is_separator octet then octet else separator_from (look_after at octet) text

abbrev pub separator_of : List ℕ → ℕ
separator_of text = separator_from look.Start text

-- CSV with this separator
abbrev pub config_of : (separator : ℕ) → Config
config_of separator = record default_config { delimiter = separator }

-- the rows of a plan, each with its fields; a byte order mark in front is none of them
abbrev pub ArePlanRows : (input : List ℕ) → List (List (List ℕ)) → Type 0
ArePlanRows input records =
    AreRecords (config_of (separator_of (strip_bom input))) st.StartRecord (strip_bom input) records

-- a text without white space in front, and without any round it
abbrev pub without_front : List ℕ → List ℕ
without_front text = drop (prefix_len is_ascii_whitespace text) text

abbrev pub without_back : List ℕ → List ℕ
without_back text = take (length text - suffix_len is_ascii_whitespace text) text

abbrev pub trimmed : List ℕ → List ℕ
trimmed text = without_back (without_front text)
