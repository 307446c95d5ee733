-- What one more block or page does to what a handset keeps (own). Contracts of private functions alone speak of it.
use Rattle.std.specs.Prelude.{◌≡◌, ℕ, Bool, true, not, ◌==◌, ◌&&◌, ◌||◌, Option, Some, None, is_some, List, [], ◌∷◌}
use Rattle.std.specs.Prelude.{◌++◌, ◌+◌, ◌-◌, ◌≤◌, length, take, drop, map, find, if◌then◌else◌, encode_utf8_all}
use Rattle.std.specs.Option.{option_map_or}
use Rattle.std.specs.List.{flat_map, list_all, range_with_len}
use Rattle.cbs_page.specs.declared.octets.PageView.{PageView}
use Rattle.cbs_page.specs.Page.{view_of, is_readable}
use Rattle.cbs_page.specs.Text.{text_of_page}
use Rattle.handset.specs.declared.pages.Kept.{Kept}
use Rattle.handset.specs.declared.pages.Kept.TheVariants as kept
use Rattle.handset.specs.Reception.{block_type, page_types, page_octets, Name, name_of, is_of, agrees_with}
use Rattle.handset.specs.Reception.{ShownMessage}
use Rattle.handset.specs.Keeping.{is_numbered, kept_of}

-- the blocks of a page that isn't whole, with one more: a first block begins a page, and the next one goes on with it
abbrev pub under_way_with : List (List ℕ) → List ℕ → List (List ℕ)
under_way_with blocks block =
    if block_type block == 0x20 then block ∷ []
    else if ((block_type block == 0x21) && (length blocks == 1)) || ((block_type block == 0x22) && (length blocks == 2))
    then blocks ++ block ∷ [] else []

-- the page that a block makes whole
abbrev pub page_ended : List (List ℕ) → List ℕ → List PageView
page_ended blocks block =
    if (block_type block == 0x33) && (length blocks == 3) then view_of (page_octets (blocks ++ block ∷ [])) ∷ [] else []

-- the page agrees with the first of its message, if there is one
abbrev pub agrees_with_first : Option PageView → PageView → Bool
agrees_with_first None page = true
agrees_with_first (Some first) page = agrees_with first page

-- a page counts: it is the first of its number, and agrees with the first of its message, among those that are kept
abbrev pub counts : List PageView → PageView → Bool
counts pages page =
    not (is_some (find (is_numbered (name_of page) page.number) pages))
    && agrees_with_first (find (is_of (name_of page)) pages) page

-- the pages of a message that are kept
abbrev pub pages_in : Kept → List PageView
pages_in (kept.One page) = page ∷ []
pages_in (kept.More pages) = pages.items

-- the name that a pair of an identifier and a serial number is
abbrev pub name_at : ℕ × ℕ → Name
name_at pair = record { id = pair.0; serial = pair.1 }

-- the pages of each message, with one more of the message that it is of
abbrev pub pages_and : (Name → List PageView) → PageView → Name → List PageView
pages_and pages page name = if is_of name page then pages name ++ page ∷ [] else pages name

-- the same, if it counts among those of its message
abbrev pub pages_with : (Name → List PageView) → PageView → Name → List PageView
pages_with pages page = if counts (pages (name_of page)) page then pages_and pages page else pages

-- the total that the first page of a message has, and whether all its pages are among those that are kept
abbrev pub total_kept : Name → List PageView → ℕ
total_kept name pages = option_map_or (λ page. page.total) (find (is_of name) pages) 0

abbrev pub is_kept_whole : Name → List PageView → Bool
is_kept_whole name pages =
    not (total_kept name pages == 0)
    && list_all (λ number. is_some (find (is_numbered name number) pages)) (range_with_len 1 (total_kept name pages))

abbrev pub text_kept : Name → List PageView → List ℕ
text_kept name pages =
    flat_map (λ number. option_map_or text_of_page (find (is_numbered name number) pages) [])
    (range_with_len 1 (total_kept name pages))

abbrev pub message_kept : Name → List PageView → ShownMessage
message_kept name pages = record { id = name.id; serial = name.serial; text = encode_utf8_all (text_kept name pages) }

-- the message that a page is of, where it is whole
abbrev pub message_whole : List PageView → PageView → List ShownMessage
message_whole pages page = if is_kept_whole (name_of page) pages then message_kept (name_of page) pages ∷ [] else []

-- the message that a page makes whole
abbrev pub message_ended : List PageView → PageView → List ShownMessage
message_ended pages page = if counts pages page then message_whole (pages ++ page ∷ []) page else []

-- the pages after one that was read; a page that isn't readable is passed over
abbrev pub pages_with_read : (Name → List PageView) → PageView → Name → List PageView
pages_with_read pages page = if is_readable page then pages_with pages page else pages

-- a page was kept after those of its message, and the other messages have the pages that they had
abbrev pub KeepsPage : (old new : List (Name × List PageView)) → PageView → Type 0
KeepsPage old new page = (name : Name) → kept_of new name ≡ pages_and (kept_of old) page name

-- a page that was read was kept if it counts
abbrev pub TakesPage : (old new : List (Name × List PageView)) → PageView → Type 0
TakesPage old new page = (name : Name) → kept_of new name ≡ pages_with_read (kept_of old) page name

-- the message that a page that was read makes whole
abbrev pub message_ended_read : List PageView → PageView → List ShownMessage
message_ended_read pages page = if is_readable page then message_ended pages page else []

-- the four blocks at the place are a page's, and the same as the four before it
pub record IsPageAgain (blocks : List (List ℕ)) (place : ℕ) : Type 0 where
  pub behind : 4 ≤ place
  pub within : place + 4 ≤ length blocks
  pub types : map block_type (take 4 (drop place blocks)) ≡ page_types
  pub same : take 4 (drop (place - 4) blocks) ≡ take 4 (drop place blocks)
