-- The table of who sends in a capture file: where the file has a sender's blocks, when these came, and what they carry.
use Rattle.std.specs.Prelude.{◌≡◌, ◌≢◌, ℕ, ◌-◌, ◌<◌, ◌^◌, List, length, map, slice_get, Option, Some, None}
use Rattle.std.specs.List.{AllByRecursion}
use Rattle.std.specs.Option.{option_and_then, option_map}
use Rattle.gsmtap.specs.Carried.{IsCarriedBy, IsUncarried, Summary, summary_of}
use Rattle.gsmtap.specs.File.{Packet}
use Rattle.gsmtap.specs.Heard.{AreHeard, for_hearing}
use Rattle.gsmtap.specs.SendersSteps.{HaveHeard}
use Rattle.gsmtap.specs.Taker.{HasTakenAll}
use Rattle.gsmtap.specs.Times.{AreTimes}
use Rattle.gsmtap.specs.Walk.{IsWalkOf}
use Rattle.gsmtap.specs.declared.fault.AirFault.{AirFault}
use Rattle.gsmtap.specs.declared.fault.AirFaultKind.TheVariants as kind
use Rattle.gsmtap.specs.declared.sender_table.SenderRow.{SenderRow}
use Rattle.gsmtap.specs.declared.sender_table.SenderTable.{SenderTable}
use Rattle.gsmtap.specs.declared.tap.Station.{Station}
use Rattle.gsmtap.specs.declared.walk.Walk.{Walk}

-- when the packet of a number came, from 1 on, of which these are the times
abbrev pub time_of : (times : List (Option ℕ)) (number : ℕ) → Option ℕ
time_of times number = option_and_then (λ time. time) (slice_get times (number - 1))

-- this is what a sender's blocks in a capture file carry, or else they make no tape, as some differ or step back
abbrev pub CarriesIn : (input : List ℕ) → Station → Option Summary → Type 0
CarriesIn input station None = (why : AirFault) × IsUncarried station input why × (why.kind ≢ kind.Refused)
CarriesIn input station (Some summary) = IsCarriedBy station input summary

-- a row of a file whose packets came at these times
pub record IsRowIn (input : List ℕ) (times : List (Option ℕ)) (row : SenderRow) : Type 0 where
  pub first_time : row.first_time ≡ time_of times row.heard.first
  pub last_time : row.last_time ≡ time_of times row.heard.last
  pub carries : CarriesIn input row.heard.station (option_map summary_of row.carried)

-- the rows of a file
pub record AreRowsIn (input : List ℕ) (rows : List SenderRow) : Type 0 where
  pub heard : AreHeard input (map (λ (row : SenderRow). row.heard) rows)
  pub times : List (Option ℕ)
  pub times_are : AreTimes input times
  pub each : AllByRecursion (IsRowIn input times) rows

-- senders that have these packets, or all of a file
abbrev pub SendersHave : List Packet → SenderTable → Type 0
SendersHave packets senders = HaveHeard packets senders.list.items

abbrev pub HaveAll : (input : List ℕ) → SenderTable → Type 0
HaveAll input senders = HasTakenAll for_hearing SendersHave input senders

abbrev pub HaveAllOfSome : SenderTable → Type 0
HaveAllOfSome senders = (input : List ℕ) × HaveAll input senders × (length input < 2 ^ 48)

-- a walk for senders is over a file of which these octets came by now
abbrev pub IsHearing : (input : List ℕ) → Walk SenderTable → Type 0
IsHearing input walk =
    IsWalkOf {G = Unit {0}} (λ given. for_hearing) (λ given. SendersHave) tt input walk
