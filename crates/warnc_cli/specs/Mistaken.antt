-- An input of another kind than a command takes: what it looks like by its first octets. Own.
use Rattle.std.specs.Prelude.{ℕ, ◌==◌, ◌&&◌, ◌||◌, nat_eq, nat_le, Bool, List, length, slice_get, slice_index}
use Rattle.std.specs.Prelude.{codes, Option, Some, None, if◌then◌else◌}
use Rattle.std.specs.List.{starts_with}
use Rattle.std.specs.Option.{option_and_then, option_map}
use Rattle.std.specs.Str.{bytes_eq}
use Rattle.byteorder.specs.Endian.{big_number, little_number}
use Rattle.gsmtap.specs.File.{is_magic, is_pcapng}
use Rattle.warnc_cli.specs.CommandLine.{is_given}
use Rattle.warnc_cli.specs.declared.mistaken.Kind.{Kind}
use Rattle.warnc_cli.specs.declared.mistaken.Kind.TheVariants as kind
use Rattle.warnc_cli.specs.declared.mistaken.Mistaken.{Mistaken}
use Rattle.warnc_cli.specs.declared.mistaken.Mistaken.TheVariants as is

-- a capture begins with the magic number of the classic format, in either order of octets, or as pcapng does
abbrev pub looks_like_capture : List ℕ → Bool
looks_like_capture front =
    is_pcapng front || nat_le 4 (length front) && (is_magic (big_number 4 front) || is_magic (little_number 4 front))

-- a book begins with the row of its first cell
abbrev pub looks_like_book : List ℕ → Bool
looks_like_book front = starts_with nat_eq front (codes "cell,")

-- tapes begin with a header, whose octets 4 to 7 are the number of slots, at most 65,535, and then with a block: the
-- first one of a page, also of one that has a single block, or an idle one (3GPP TS 44.012, 3.3)
abbrev pub looks_like_tapes : List ℕ → Bool
looks_like_tapes front =
    nat_le 9 (length front) && slice_index front 4 == 0 && slice_index front 5 == 0
    && (slice_index front 8 == 0x20 || slice_index front 8 == 0x30 || slice_index front 8 == 0x2F)

-- the kind that an input looks like. It looks like one at most: a magic number is no text, and its file has no such
-- header of a tape
abbrev pub kind_of : List ℕ → Option Kind
kind_of front =
    if looks_like_capture front then Some kind.Capture
    else if looks_like_book front then Some kind.Book
    else if looks_like_tapes front then Some kind.Tapes
    else None

-- the kind of input of `orders`: a book where the words give the number of slots of its run
abbrev pub kind_ordered : (runs : Bool) → Kind
kind_ordered runs = if runs then kind.Book else kind.Capture

-- the kind of input that a command takes; the text of `page` may be any
abbrev pub kind_taken : (words : List (List ℕ)) → (command : List ℕ) → Option Kind
kind_taken words command =
    if bytes_eq command (codes "page") then None
    else if bytes_eq command (codes "tape") || bytes_eq command (codes "cells") then Some kind.Capture
    else if bytes_eq command (codes "orders") then Some (kind_ordered (is_given words (codes "--slots")))
    else if bytes_eq command (codes "read") || bytes_eq command (codes "whole") || bytes_eq command (codes "pcap")
    || bytes_eq command (codes "verify") then Some kind.Tapes
    else Some kind.Book

abbrev pub number_of_kind : Kind → ℕ
number_of_kind kind.Book = 0
number_of_kind kind.Capture = 1
number_of_kind kind.Tapes = 2

abbrev pub is_of_kind : Kind → Kind → Bool
is_of_kind a b = number_of_kind a == number_of_kind b

-- the kind that an input looks like, if it isn't the one that is taken
abbrev pub unlike_kind : (taken : Kind) → Option Kind → Option Kind
unlike_kind taken None = None
unlike_kind taken (Some kind) = if is_of_kind kind taken then None else Some kind

abbrev pub unlike : (taken : Kind) → List ℕ → Option Kind
unlike taken front = unlike_kind taken (kind_of front)

-- what of a command's input looks like another kind
abbrev pub input_mistaken : (words : List (List ℕ)) → (input : List ℕ) → Option Mistaken
input_mistaken words input =
    option_and_then (λ command. option_and_then (λ taken. option_map (λ kind. is.Input kind) (unlike taken input))
    (kind_taken words command)) (slice_get words 1)

-- what of a file beside the input looks like another kind: orders look like none of these
abbrev pub file_mistaken : (words : List (List ℕ)) → (file : List ℕ) → Option Mistaken
file_mistaken words file =
    if is_given words (codes "--orders") then option_map (λ kind. is.Orders kind) (kind_of file)
    else option_map (λ kind. is.Book kind) (unlike kind.Book file)

-- what a command is given of another kind: the file beside the input, or else the input
abbrev pub mistaken_by : Option Mistaken → Option Mistaken → Option Mistaken
mistaken_by (Some mistaken) input = Some mistaken
mistaken_by None input = input

abbrev pub mistaken_for : (words : List (List ℕ)) → (file input : List ℕ) → Option Mistaken
mistaken_for words file input = mistaken_by (file_mistaken words file) (input_mistaken words input)
