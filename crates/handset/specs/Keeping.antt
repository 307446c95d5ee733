-- What a handset keeps of the blocks that it has read (own), and when that stands for a list of blocks.
use Rattle.std.specs.Prelude.{◌≡◌, ℕ, ◌≤◌, Bool, ◌==◌, ◌&&◌, List, [], ◌∷◌, ◌++◌, length, take, map, find, string_bytes}
use Rattle.std.specs.Map.{lookup}
use Rattle.std.specs.Option.{unwrap_or}
use Rattle.cbs_page.specs.declared.octets.PageView.{PageView}
use Rattle.handset.specs.declared.blocks.PartialPage.{PartialPage}
use Rattle.handset.specs.declared.blocks.Stage.{Stage}
use Rattle.handset.specs.declared.blocks.Stage.TheVariants as stage
use Rattle.handset.specs.declared.messages.Shown.{Shown}
use Rattle.handset.specs.Reception.{block_type, page_types, pages_read, readable_pages, Name, is_of, page_numbered}
use Rattle.handset.specs.Reception.{ShownMessage, shown_in}

-- the messages that were shown, as contracts see them
abbrev pub message_shown : Shown → ShownMessage
message_shown shown = record { id = shown.id; serial = shown.serial; text = string_bytes shown.text }

abbrev pub messages_shown : List Shown → List ShownMessage
messages_shown shown = map message_shown shown

-- two names are the same
abbrev pub same_name : Name → Name → Bool
same_name a b = (a.id == b.id) && (a.serial == b.serial)

-- the pages of a message, of the pages that are kept with the name of each
abbrev pub kept_of : List (Name × List PageView) → Name → List PageView
kept_of pages name = unwrap_or (lookup (same_name name) pages) []

-- what a handset keeps: the blocks of a page that isn't complete, the pages of each message that count, and what it
-- showed
pub record HandsetState : Type 0 where
  pub under_way : List (List ℕ)
  pub pages : List (Name × List PageView)
  pub shown : List ShownMessage

-- the blocks of a page that has begun
abbrev pub blocks_at : Stage → (first second third : List ℕ) → List (List ℕ)
blocks_at stage.Nothing first second third = []
blocks_at stage.First first second third = first ∷ []
blocks_at stage.Second first second third = first ∷ second ∷ []
blocks_at stage.Third first second third = first ∷ second ∷ third ∷ []

abbrev pub blocks_kept : PartialPage → List (List ℕ)
blocks_kept page = blocks_at page.stage page.first page.second page.third

-- the page has this message's name and this number
abbrev pub is_numbered : Name → ℕ → PageView → Bool
is_numbered name number page = is_of name page && (page.number == number)

-- the blocks of the page that isn't whole, after these: whatever comes, the pages of the whole list are those of the
-- blocks so
-- far, and then those that what comes makes with the blocks that are kept
pub record IsUnderWay (kept blocks : List (List ℕ)) : Type 0 where
  pub few : length kept ≤ 3
  pub begun : map block_type kept ≡ take (length kept) page_types
  pub goes_on : (more : List (List ℕ)) → pages_read (blocks ++ more) ≡ pages_read blocks ++ pages_read (kept ++ more)

-- the pages that are kept of a message: its first page, and the first of each number among those that agree with it
pub record AreKept (name : Name) (kept pages : List PageView) : Type 0 where
  pub first : find (is_of name) kept ≡ find (is_of name) pages
  pub numbered : (number : ℕ) → find (is_numbered name number) kept ≡ page_numbered name pages number

-- what a handset keeps stands for the blocks that it has read
pub record HasRead (handset : HandsetState) (blocks : List (List ℕ)) : Type 0 where
  pub under_way : IsUnderWay handset.under_way blocks
  pub pages : (name : Name) → AreKept name (kept_of handset.pages name) (readable_pages blocks)
  pub shown : handset.shown ≡ shown_in blocks
