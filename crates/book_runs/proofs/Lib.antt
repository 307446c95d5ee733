mod Laws
mod Lists
mod Entries
mod Texts
mod Accepted
mod Ordered
mod Meant
mod Worked
mod Cells
mod Numbered
mod Shares
mod Ordering
mod Events
mod Noted
mod Logged
pub mod OneSession
pub mod Requests
pub mod Asking
mod AsksOfCell
mod Parts
pub mod Room
mod InOrder
mod Settled
mod OneAnswer
mod SameBook
mod ServedParts
mod OneRun
mod CellLists
mod KeptRequests
mod KeptReplies
mod KeptSessions
mod KeptRuns
mod Merged
mod Asks
mod Joined
mod JoinedRuns
mod Twice
mod OrdersWithin
mod InARow
mod KeptRows
mod NetworkParts
mod NetworkRuns
mod WholeNetworks
mod LiveParts
mod CellsWorked
mod Fit
