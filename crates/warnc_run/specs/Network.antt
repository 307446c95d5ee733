-- What `--network` makes of the octets that are read: of a network book the parts of all its groups, one after the
-- other. Own.
use Rattle.std.specs.Prelude.{◌≡◌, ◌==◌, ⊤, ℕ, ◌+◌, ◌<◌, ◌≤◌, List, [], ◌∷◌, length, map, Option}
use Rattle.std.specs.Io.KnownBytes.{Keeps}
use Rattle.std.specs.List.{flat_map}
use Rattle.alert_book.specs.declared.book.order.Order.{Order}
use Rattle.alert_book.specs.declared.network.Origin.TheVariants as origin
use Rattle.alert_book.specs.Book.{Contents}
use Rattle.alert_book.specs.Network.{HasGroups, IsGroupBook, RefusesNetwork}
use Rattle.asked_orders.specs.Asked.{orders_of_run}
use Rattle.bsc_table.specs.Record.{Record}
use Rattle.chart.specs.ChartText.{chart_part}
use Rattle.warnc_run.specs.declared.fault.RunFault.{RunFault}
use Rattle.warnc_run.specs.declared.fault.RunFault.TheVariants as run
use Rattle.warnc_run.specs.declared.product.Product.{Product}
use Rattle.warnc_run.specs.declared.product.Product.TheVariants as product
use Rattle.warnc_run.specs.declared.product.ProductFault.{ProductFault}
use Rattle.warnc_run.specs.declared.product.ProductFault.TheVariants as fault
use Rattle.warnc_run.specs.Faults.{IsOfBook}
use Rattle.warnc_run.specs.Made.{Makes, MakesFront}
use Rattle.warnc_run.specs.Products.{octets_of, reading_of_record, RunOf}

-- the runs of a network: what is made of each of this many groups, and in runs of this many slots and sessions
pub record GroupRuns : Type 0 where
  pub made : Product
  pub slots : ℕ
  pub parts : ℕ
  pub groups : ℕ

-- what is made of a group: what is made of it by itself, but a chart of all groups is one page
abbrev pub octets_of_group : Product → (slots groups group : ℕ) → List Order → List Record → List ℕ
octets_of_group product.Tapes slots groups group orders records =
    octets_of product.Tapes (origin.Group group) slots orders records
octets_of_group (product.Report layout) slots groups group orders records =
    octets_of (product.Report layout) (origin.Group group) slots orders records
octets_of_group (product.Chart view) slots groups group orders records =
    chart_part slots group (group + 1 == groups) view (orders_of_run orders records) records
    (map reading_of_record records)
octets_of_group (product.Orders cell) slots groups group orders records =
    octets_of (product.Orders cell) (origin.Group group) slots orders records
octets_of_group (product.Link start) slots groups group orders records =
    octets_of (product.Link start) (origin.Group group) slots orders records
octets_of_group (product.Loads start) slots groups group orders records =
    octets_of (product.Loads start) (origin.Group group) slots orders records
octets_of_group (product.Tables view) slots groups group orders records =
    octets_of (product.Tables view) (origin.Group group) slots orders records

-- the part of the group of this number
pub record IsPartOf (runs : GroupRuns) (group : ℕ) (input output : List ℕ) : Type 0 where
  pub records : List Record
  pub run : RunOf (origin.Group group) runs.slots runs.parts input records
  pub written : output ≡ octets_of_group runs.made runs.slots runs.groups group run.book.orders records

-- these are the parts of the groups from this number on, in their order
abbrev pub ArePartsFrom : GroupRuns → (input : List ℕ) (group : ℕ) → List (List ℕ) → Type 0
ArePartsFrom runs input group [] = ⊤
ArePartsFrom runs input group (part ∷ parts) =
    IsPartOf runs group input part × ArePartsFrom runs input (group + 1) parts

-- parts, one after the other
abbrev pub joined_parts : List (List ℕ) → List ℕ
joined_parts parts = flat_map (λ (part : List ℕ). part) parts

-- the octets are a network book, and these are the parts of this many of its first groups, one after the other
pub record AreFirstParts (made : Product) (slots sessions count : ℕ) (input output : List ℕ) : Type 0 where
  pub groups : ℕ
  pub counted : HasGroups 0 input groups
  pub few : count ≤ groups
  pub parts : List (List ℕ)
  pub as_many : length parts ≡ count
  pub each : ArePartsFrom (record { made = made; slots = slots; parts = sessions; groups = groups }) input 0 parts
  pub written : output ≡ joined_parts parts

-- what is written for the octets that were read: they are a network book, and this is the part of each of its groups,
-- one after the other, and nothing else
pub record IsOfNetwork (made : Product) (slots sessions : ℕ) (input output : List ℕ) : Type 0 where
  pub groups : ℕ
  pub counted : HasGroups 0 input groups
  pub parts : List (List ℕ)
  pub as_many : length parts ≡ groups
  pub each : ArePartsFrom (record { made = made; slots = slots; parts = sessions; groups = groups }) input 0 parts
  pub written : output ≡ joined_parts parts

-- why there is no part of a group: out of memory; or its book's run, of this many slots and sessions and by one worker,
-- ended with this fault, which is of memory, or one that no contract excludes
abbrev pub HasNoPart : (slots sessions group : ℕ) (input : List ℕ) → RunFault → Type 0
HasNoPart slots sessions group input run.Refused = ⊤
HasNoPart slots sessions group input other =
    (book : Contents) × IsGroupBook group input book × IsOfBook book slots sessions other

-- why not all was written: the network book can't be read or is refused, with nothing written; or there is no part of a
-- group that the network has, with those of all groups before it written, and nothing else; or the writer failed, and
-- took a front of the parts of some first groups, and not all of them
abbrev pub IsNetworkFault : Product → (slots sessions : ℕ) (first last old new : Option (List ℕ)) → ProductFault
    → Type 0
IsNetworkFault made slots sessions first last old new (fault.Run (run.Book f)) =
    RefusesNetwork first last 0 f × Keeps old new
IsNetworkFault made slots sessions first last old new (fault.Run other) = ⊥
IsNetworkFault made slots sessions first last old new (fault.Group group f) =
    (wrote : Makes (AreFirstParts made slots sessions group) first last old new) × (group < wrote.meant.groups)
    × HasNoPart slots sessions group wrote.input f
IsNetworkFault made slots sessions first last old new fault.WriteFailed =
    (count : ℕ) × MakesFront (AreFirstParts made slots sessions count) first last old new
