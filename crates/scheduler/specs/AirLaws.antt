-- What the air rule promises (own), over messages and air lists alone.
use Rattle.std.specs.Prelude.{◌≡◌, ℕ, ◌+◌, ◌<◌, ◌≤◌, min, true, Option, Some, None, slice_index_or, List, [], ◌∷◌, ◌++◌}
use Rattle.std.specs.Prelude.{length, map, All, AllPairs, Contains}
use Rattle.scheduler.specs.Message.{ScheduledMessage, release, due, stopped_at}
use Rattle.scheduler.specs.Air.{Air, airs, pages_aired, next_page, IsPending, IsChosen, IsAirOf}
use Rattle.scheduler.specs.Completed.{IsCompleted, completed}
use Rattle.scheduler.specs.Pages.{times_aired, times_between}
use Rattle.scheduler.specs.Choice.{choice}
use Rattle.scheduler.specs.Renumbered.{KeepsOrder, renumbered, use_renumbered}

-- each later message has a greater number
abbrev pub NumbersRise : List ScheduledMessage → Type 0
NumbersRise messages = AllPairs (λ a b. a.entry < b.entry) messages

-- what a slot airs is determined
abbrev pub OneChoice : Type 0
OneChoice = (messages : List ScheduledMessage) (air : Air) (slot : ℕ) (used other : Option (ℕ × ℕ))
    → NumbersRise messages
    → IsChosen messages air slot used
    → IsChosen messages air slot other
    → used ≡ other

-- each slot has a choice
abbrev pub SomeChoice : Type 0
SomeChoice = (messages : List ScheduledMessage) (air : Air) (slot : ℕ)
    → All (λ m. 0 < m.period) messages
    → IsChosen messages air slot (choice messages air slot)

-- an air list by the rule grows by what is chosen
abbrev pub GrowsByTheChoice : Type 0
GrowsByTheChoice = (messages : List ScheduledMessage) (air : Air) (used : Option (ℕ × ℕ))
    → IsAirOf messages air
    → IsChosen messages air (length air) used
    → IsAirOf messages (air ++ used ∷ [])

-- a front of an air list by the rule is by the rule
abbrev pub FrontsAreByTheRule : Type 0
FrontsAreByTheRule = (messages : List ScheduledMessage) (air more : Air) → IsAirOf messages (air ++ more)
    → IsAirOf messages air

-- an air list by the rule is the only one of its length
abbrev pub OneAirList : Type 0
OneAirList = (messages : List ScheduledMessage) (air other : Air)
    → NumbersRise messages
    → IsAirOf messages air
    → IsAirOf messages other
    → length air ≡ length other
    → air ≡ other

-- under other numbers in the same order, an air list by the rule stays one
abbrev pub NumbersOnlyOrder : Type 0
NumbersOnlyOrder = (messages : List ScheduledMessage) (air : Air) (f : ℕ → ℕ)
    → KeepsOrder f
    → IsAirOf messages air
    → IsAirOf (map (renumbered f) messages) (map (use_renumbered f) air)

-- a message that is added later changes nothing before its start
abbrev pub LaterMessagesChangeNothing : Type 0
LaterMessagesChangeNothing = (messages : List ScheduledMessage) (message : ScheduledMessage) (air : Air)
    → length air ≤ message.start
    → IsAirOf messages air
    → IsAirOf (messages ++ message ∷ []) air

-- a stop changes nothing before its slot
abbrev pub LaterStopsChangeNothing : Type 0
LaterStopsChangeNothing = (messages : List ScheduledMessage) (entry slot : ℕ) (air : Air)
    → length air ≤ slot
    → All (λ m. m.entry ≡ entry → m.stop ≡ None) messages
    → IsAirOf messages air
    → IsAirOf (stopped_at entry slot messages) air

-- a slot that airs a page of a message airs the next page of the one broadcast of it that is pending: so the pages of
-- a broadcast come in order, and none comes at or after the stop
abbrev pub PagesComeInOrder : Type 0
PagesComeInOrder = (messages : List ScheduledMessage) (air : Air) (slot : ℕ) (message : ScheduledMessage)
    → NumbersRise messages
    → Contains messages message
    → IsAirOf messages air
    → slot < length air
    → airs message.entry (slice_index_or air slot None) ≡ true
    → (j : ℕ) × IsPending message j air slot × (slice_index_or air slot None ≡ Some (next_page message j air slot))

-- no broadcast has more pages aired, by its due slot, than its message has
abbrev pub AtMostItsPages : Type 0
AtMostItsPages = (messages : List ScheduledMessage) (air : Air) (message : ScheduledMessage) (j slot : ℕ)
    → NumbersRise messages
    → Contains messages message
    → IsAirOf messages air
    → slot ≤ length air
    → slot ≤ due message j
    → pages_aired message.entry air (release message j) slot ≤ message.pages

-- of a broadcast of which some pages are aired before a slot, and by its due slot, each page up to that number is
-- aired once
abbrev pub PagesComeOnce : Type 0
PagesComeOnce = (messages : List ScheduledMessage) (air : Air) (message : ScheduledMessage) (j page slot : ℕ)
    → NumbersRise messages
    → Contains messages message
    → IsAirOf messages air
    → slot ≤ length air
    → slot ≤ due message j
    → 1 ≤ page
    → page ≤ pages_aired message.entry air (release message j) slot
    → times_between message.entry page air (release message j) slot ≡ 1

-- so a broadcast that is completed has each page of its message aired once, from its release up to its due slot
abbrev pub CompletedIsEachPageOnce : Type 0
CompletedIsEachPageOnce = (messages : List ScheduledMessage) (air : Air) (message : ScheduledMessage) (j page slot : ℕ)
    → NumbersRise messages
    → Contains messages message
    → IsAirOf messages air
    → slot ≤ length air
    → IsCompleted message j air slot
    → 1 ≤ page
    → page ≤ message.pages
    → times_between message.entry page air (release message j) (min (due message j) slot) ≡ 1

-- the last page of a message is aired as often as a broadcast of it is completed
abbrev pub LastPagesAreCompletedBroadcasts : Type 0
LastPagesAreCompletedBroadcasts = (messages : List ScheduledMessage) (air : Air) (message : ScheduledMessage) (slot : ℕ)
    → NumbersRise messages
    → Contains messages message
    → 0 < message.pages
    → 0 < message.period
    → IsAirOf messages air
    → slot ≤ length air
    → times_aired message.entry message.pages air slot ≡ completed message air slot

-- and none of its pages less often
abbrev pub NoPageLessOften : Type 0
NoPageLessOften = (messages : List ScheduledMessage) (air : Air) (message : ScheduledMessage) (page slot : ℕ)
    → NumbersRise messages
    → Contains messages message
    → 1 ≤ page
    → page ≤ message.pages
    → 0 < message.period
    → IsAirOf messages air
    → slot ≤ length air
    → completed message air slot ≤ times_aired message.entry page air slot

-- the completed number leaves out no completed broadcast
abbrev pub AllAreCounted : Type 0
AllAreCounted = (message : ScheduledMessage) (air : Air) (slot j : ℕ)
    → 0 < message.pages
    → 0 < message.period
    → IsCompleted message j air slot
    → j < slot + 1
