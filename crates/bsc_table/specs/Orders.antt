-- The command that a message of the warning centre is. 3GPP TS 48.049, clauses 8.1 and 8.2; which categories and
-- channels are taken is own.
use Rattle.std.specs.Prelude.{◌≡◌, ℕ, ◌≤◌, ⊤, Bool, true, ◌==◌, if◌then◌else◌, Option, Some, None, Result, Ok, Err}
use Rattle.std.specs.Prelude.{List, length, All}
use Rattle.cbs_page.specs.declared.content.Content.{Content}
use Rattle.cbs_page.specs.declared.Dcs.{Dcs}
use Rattle.cbs_page.specs.Text.{max_pages}
use Rattle.cbsp_wire.specs.Range.{has_alphabet}
use Rattle.cbsp_wire.specs.declared.message.Cell.{Cell}
use Rattle.cbsp_wire.specs.declared.message.Message.{Message}
use Rattle.cbsp_wire.specs.declared.message.Message.TheVariants as messages
use Rattle.cbsp_wire.specs.declared.cause.TheConstants.{EXTENDED_CHANNEL_NOT_SUPPORTED, PARAMETER_VALUE_INVALID}
use Rattle.cbsp_wire.specs.declared.cause.TheConstants.{UNRECOGNISED_MESSAGE}
use Rattle.bsc_table.specs.declared.command.Category.{Category}
use Rattle.bsc_table.specs.declared.command.Category.TheVariants.{High, Normal, Background}
use Rattle.bsc_table.specs.declared.command.Command.{Command}
use Rattle.bsc_table.specs.declared.command.Command.TheVariants as commands

-- a write, which alone has contents
abbrev pub IsWrite : Command → Type 0
IsWrite (commands.Write id serial replaces category dcs period broadcasts contents) = ⊤
IsWrite (commands.Kill id serial) = ⊥
IsWrite (commands.Status id serial) = ⊥

-- what a message of the warning centre can ask to be broadcast: from 1 to 15 pages with at most 82 octets used, a
-- period from 1 to 1,024 slots, and a data coding that has an alphabet
pub record IsBroadcastable (period : ℕ) (dcs : Dcs) (contents : List Content) : Type 0 where
  pub some_pages : 1 ≤ length contents
  pub few_pages : length contents ≤ max_pages
  pub used : All (λ c. c.used ≤ 82) contents
  pub some_period : 1 ≤ period
  pub short_period : period ≤ 1024
  pub coded : has_alphabet dcs.0 ≡ true
  pub full : All (λ c. length c.octets ≡ 82) contents

-- a command that such a message can ask for
abbrev pub IsWellFormed : Command → Type 0
IsWellFormed (commands.Write id serial replaces category dcs period broadcasts contents) = IsBroadcastable period dcs
    contents
IsWellFormed (commands.Kill id serial) = ⊤
IsWellFormed (commands.Status id serial) = ⊤

-- the category: 0 high, 1 background, 2 normal, absent normal
abbrev pub category_of : Option ℕ → Option Category
category_of None = Some Normal
category_of (Some n) =
    if n == 0 then Some High
    else if n == 1 then Some Background
    else if n == 2 then Some Normal
    else None

-- the basic channel: 0, or absent
abbrev pub is_basic : Option ℕ → Bool
is_basic None = true
is_basic (Some n) = n == 0

-- cells and a command to them, where the message is for the basic channel; else cause 0C
abbrev pub if_basic_channel : Option ℕ → List Cell → Command → Result (List Cell × Command) ℕ
if_basic_channel channel cells command =
    if is_basic channel then Ok (cells, command) else Err EXTENDED_CHANNEL_NOT_SUPPORTED

-- a write with the category that it has, if any; else cause 01
abbrev pub if_category_known : Option Category → (Category → Result (List Cell × Command) ℕ)
    → Result (List Cell × Command) ℕ
if_category_known None order = Err PARAMETER_VALUE_INVALID
if_category_known (Some category) order = order category

-- the cells that a message names and the command to them, or the first cause that applies: 04 for a reply, 01 for the
-- category, 0C for the channel
abbrev pub order_of : Message → Result (List Cell × Command) ℕ
order_of (messages.Write id new_serial old_serial cells channel category period broadcasts dcs contents) =
    if_category_known (category_of category) (λ known. if_basic_channel channel cells
    (commands.Write id new_serial old_serial known dcs period broadcasts contents))
order_of (messages.Kill id old_serial cells channel) = if_basic_channel channel cells (commands.Kill id old_serial)
order_of reply = Err UNRECOGNISED_MESSAGE
