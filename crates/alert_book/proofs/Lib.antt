pub mod PartLaws
pub mod TextLaws
pub mod RowLaws
pub mod NameLaws
pub mod PageLaws
pub mod BookLaws
pub mod GroupLaws
pub mod KeptLaws
mod Worked
pub mod OneAnswer
mod VersionLaws
mod SessionLaws
mod StandsLaws
pub mod TurnsEnd
pub mod TurnsAsk
pub mod TurnsKeep
pub mod TurnsComeOf
pub mod FewRows
pub mod Utf8Laws
pub mod OneBook
pub mod RightOrders
pub mod OneAlert
mod LastAccepted
mod TurnsReplace
pub mod Writable
pub mod NetworkLaws
pub mod BareRows
pub mod OneNetwork
pub mod GroupOrders
pub mod AllGroupsLaws
mod RestrictedLaws
pub mod Origins
pub mod FoundLaws
pub mod RowNumbers
pub mod ColumnLaws
pub mod JudgedLaws
pub mod JudgedNetworks
