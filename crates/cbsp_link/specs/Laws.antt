-- What follows from the definitions alone. Own.
use Rattle.std.specs.Prelude.{◌≡◌, ℕ, true, List, ◌++◌, map, Ok, Some, None}
use Rattle.std.specs.List.{list_all}
use Rattle.cbsp_wire.specs.declared.message.Cell.{Cell}
use Rattle.cbsp_wire.specs.declared.message.Count.{Count}
use Rattle.cbsp_wire.specs.declared.message.Failure.{Failure}
use Rattle.cbsp_wire.specs.declared.message.Message.{Message}
use Rattle.cbsp_wire.specs.declared.message.Message.TheVariants as own
use Rattle.cbsp_wire.specs.Meaning.{IsMessage}
use Rattle.cbsp_wire.specs.Range.{is_full}
use Rattle.cbsp_link.specs.declared.message.Answered.TheVariants as orders
use Rattle.cbsp_link.specs.declared.message.LinkCell.{LinkCell}
use Rattle.cbsp_link.specs.declared.message.LinkCell.TheVariants as cells
use Rattle.cbsp_link.specs.declared.message.LinkCount.{LinkCount}
use Rattle.cbsp_link.specs.declared.message.LinkFailure.{LinkFailure}
use Rattle.cbsp_link.specs.declared.message.LinkMessage.{LinkMessage}
use Rattle.cbsp_link.specs.declared.message.LinkMessage.TheVariants as messages
use Rattle.cbsp_link.specs.Meaning.{link_message}
use Rattle.cbsp_link.specs.Written.{written}

-- pages of 82 octets, as each value of the type has them
abbrev pub HasWholePages : LinkMessage → Type 0
HasWholePages (messages.Write id new_serial old_serial cells channel category period broadcasts dcs contents) =
    list_all is_full contents ≡ true
HasWholePages m = Unit {0}

-- what is written of a message is read as that message, whatever follows it
abbrev pub LinkIsReadBack : Type 0
LinkIsReadBack = (m : LinkMessage) (octets rest : List ℕ) → HasWholePages m → written m ≡ Ok octets
    → link_message (octets ++ rest) ≡ Ok (m, rest)

-- a message of this project's own layouts, as the link has it: its cells are named by LAC and CI, and a write without a
-- channel indicator is an emergency message
abbrev pub cell_of_own : Cell → LinkCell
cell_of_own c = cells.LacCi c.lac c.ci

abbrev pub count_of_own : Count → LinkCount
count_of_own c = record { cell = cell_of_own c.cell; number = c.number; info = c.info }

abbrev pub failure_of_own : Failure → LinkFailure
failure_of_own f = record { cell = cell_of_own f.cell; cause = f.cause }

abbrev pub link_of_own : Message → LinkMessage
link_of_own (own.Write id new old cs None category period broadcasts dcs contents) =
    messages.Emergency id new old (map cell_of_own cs)
link_of_own (own.Write id new old cs (Some channel) category period broadcasts dcs contents) =
    messages.Write id new old (map cell_of_own cs) channel category period broadcasts dcs contents
link_of_own (own.WriteDone id new old counts cs channel) =
    messages.Done id (orders.Write new old) (map count_of_own counts) (map cell_of_own cs) channel
link_of_own (own.WriteFailed id new old fs counts cs channel) =
    messages.Failed id (orders.Write new old) (map failure_of_own fs) (map count_of_own counts) (map cell_of_own cs)
    channel
link_of_own (own.Kill id old cs channel) = messages.Kill id old (map cell_of_own cs) channel
link_of_own (own.KillDone id old counts cs channel) =
    messages.Done id (orders.Kill old) (map count_of_own counts) (map cell_of_own cs) channel
link_of_own (own.KillFailed id old fs counts cs channel) =
    messages.Failed id (orders.Kill old) (map failure_of_own fs) (map count_of_own counts) (map cell_of_own cs) channel

-- octets that mean a message to cbsp_wire are read as that message, whatever follows them
abbrev pub OwnIsRead : Type 0
OwnIsRead = (octets rest : List ℕ) (m : Message) → IsMessage octets m
    → link_message (octets ++ rest) ≡ Ok (link_of_own m, rest)
