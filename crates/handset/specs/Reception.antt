-- What a handset shows of a list of blocks. 3GPP TS 44.012 (blocks), and 3GPP TS 23.041, clause 9.4.1
-- (pages, repeats). That the first page of a message fixes its total and its data coding is this project's own.
use Rattle.std.specs.Prelude.{ℕ, Bool, not, ◌==◌, ◌&&◌, Option, is_some, List, [], ◌∷◌, ◌++◌, drop, take, map, filter}
use Rattle.std.specs.Prelude.{find, slice_index, if◌then◌else◌, encode_utf8_all}
use Rattle.std.specs.Option.{option_map_or}
use Rattle.std.specs.List.{flat_map, list_all, range_with_len}
use Rattle.std.specs.Str.{bytes_eq}
use Rattle.cbs_page.specs.declared.octets.PageView.{PageView}
use Rattle.cbs_page.specs.Page.{view_of, is_readable}
use Rattle.cbs_page.specs.Text.{text_of_page}

-- a block is its type octet and 22 more
abbrev pub block_type : List ℕ → ℕ
block_type block = slice_index block 0

-- the types of the four blocks of a page: first, second, third, and fourth and last
abbrev pub page_types : List ℕ
page_types = 0x20 ∷ 0x21 ∷ 0x22 ∷ 0x33 ∷ []

-- the octets that four blocks carry
abbrev pub page_octets : List (List ℕ) → List ℕ
page_octets blocks = flat_map (drop 1) blocks

-- the page that stands at the front of a list of blocks, where its next four have the types of a page's
abbrev pub page_in_front : List (List ℕ) → List PageView
page_in_front blocks =
    if bytes_eq (map block_type (take 4 blocks)) page_types then view_of (page_octets (take 4 blocks)) ∷ [] else []

-- the pages in a list of blocks: at each place of it, the page that stands there, if one does
abbrev pub pages_read : List (List ℕ) → List PageView
pages_read [] = []
pages_read (block ∷ rest) = page_in_front (block ∷ rest) ++ pages_read rest

-- those of them that a handset can show
abbrev pub readable_pages : List (List ℕ) → List PageView
readable_pages blocks = filter is_readable (pages_read blocks)

-- a message: its identifier and serial number
pub record Name : Type 0 where
  pub id : ℕ
  pub serial : ℕ

abbrev pub name_of : PageView → Name
name_of page = record { id = page.id; serial = page.serial }

abbrev pub is_of : Name → PageView → Bool
is_of name page = (page.id == name.id) && (page.serial == name.serial)

-- the pages that have a message's name
abbrev pub pages_named : Name → List PageView → List PageView
pages_named name pages = filter (is_of name) pages

-- the page agrees with another in its total and its data coding
abbrev pub agrees_with : PageView → PageView → Bool
agrees_with first page = (page.total == first.total) && (page.dcs.0 == first.dcs.0)

-- those pages that agree with the first
abbrev pub agreeing : List PageView → List PageView
agreeing [] = []
agreeing (first ∷ rest) = filter (agrees_with first) (first ∷ rest)

-- the pages of a message
abbrev pub pages_of : Name → List PageView → List PageView
pages_of name pages = agreeing (pages_named name pages)

-- its page of this number: the first that came
abbrev pub page_numbered : Name → List PageView → ℕ → Option PageView
page_numbered name pages number = find (λ page. page.number == number) (pages_of name pages)

-- the total that its first page has; 0 if no page came
abbrev pub total_in : List PageView → ℕ
total_in [] = 0
total_in (first ∷ rest) = first.total

abbrev pub total_of : Name → List PageView → ℕ
total_of name pages = total_in (pages_of name pages)

-- every page came, from number 1 to the total
abbrev pub numbers_of : Name → List PageView → List ℕ
numbers_of name pages = range_with_len 1 (total_of name pages)

abbrev pub is_complete : Name → List PageView → Bool
is_complete name pages =
    not (total_of name pages == 0) && list_all (λ number. is_some (page_numbered name pages number))
    (numbers_of name pages)

-- the text of a message: those of its pages, in the order of their numbers
abbrev pub text_of : Name → List PageView → List ℕ
text_of name pages =
    flat_map (λ number. option_map_or text_of_page (page_numbered name pages number) []) (numbers_of name pages)

-- what is shown of a message: its name, and its text as UTF-8
pub record ShownMessage : Type 0 where
  pub id : ℕ
  pub serial : ℕ
  pub text : List ℕ

abbrev pub shown_message : Name → List PageView → ShownMessage
shown_message name pages = record { id = name.id; serial = name.serial; text = encode_utf8_all (text_of name pages) }

-- the message that this page makes complete, after those before it
abbrev pub completed_by : List PageView → PageView → List ShownMessage
completed_by before page =
    if not (is_complete (name_of page) before) && is_complete (name_of page) (before ++ page ∷ [])
    then shown_message (name_of page) (before ++ page ∷ []) ∷ [] else []

-- the messages that these pages make complete, after those before them
abbrev pub completed_after : List PageView → List PageView → List ShownMessage
completed_after before [] = []
completed_after before (page ∷ rest) = completed_by before page ++ completed_after (before ++ page ∷ []) rest

-- the messages that a list of blocks shows, each once, in the order in which their last missing pages came
abbrev pub shown_in : List (List ℕ) → List ShownMessage
shown_in blocks = completed_after [] (readable_pages blocks)
