-- The definitions on worked values.
use Rattle.std.proofs.Common.{◌≡◌, ℕ, refl, Some, None, List, [], ◌∷◌, map}
use Rattle.scheduler.specs.declared.plan.Rank.{Rank}
use Rattle.scheduler.specs.declared.plan.Rank.TheVariants.{High, Normal, Background}
use Rattle.scheduler.specs.Message.{ScheduledMessage}
use Rattle.scheduler.specs.Background.{foreground, blanked}
use Rattle.scheduler.specs.Completed.{completed}
use Rattle.scheduler.specs.Choice.{air_of}

abbrev message : ℕ → ℕ → ℕ → ℕ → Rank → ScheduledMessage
message entry pages period broadcasts rank = record {
  entry = entry;
  start = 0;
  pages = pages;
  period = period;
  broadcasts = broadcasts;
  stop = None;
  rank = rank;
}

-- a page in every second slot, and two pages in every fourth
abbrev two : List ScheduledMessage
two = message 0 1 2 0 Normal ∷ message 1 2 4 0 Normal ∷ []

two_aired : air_of two 4 ≡ Some (0, 1) ∷ Some (1, 1) ∷ Some (0, 1) ∷ Some (1, 2) ∷ []
two_aired = refl

two_completed : map (λ m. completed m (air_of two 4) 4) two ≡ 2 ∷ 1 ∷ []
two_completed = refl

second_not_yet : completed (message 1 2 4 0 Normal) (air_of two 4) 3 ≡ 0
second_not_yet = refl

-- of two that are due at one slot, the high one is first
high_first : air_of (message 0 1 2 0 Normal ∷ message 1 1 2 0 High ∷ []) 2 ≡ Some (1, 1) ∷ Some (0, 1) ∷ []
high_first = refl

-- a sixth, a third and a half fill each slot
abbrev three : List ScheduledMessage
three = message 0 1 6 0 Normal ∷ message 1 1 3 0 Normal ∷ message 2 1 2 0 Normal ∷ []

three_aired : air_of three 6 ≡ Some (2, 1) ∷ Some (1, 1) ∷ Some (2, 1) ∷ Some (0, 1) ∷ Some (1, 1) ∷ Some (2, 1) ∷ []
three_aired = refl

three_completed : map (λ m. completed m (air_of three 6) 6) three ≡ 1 ∷ 2 ∷ 3 ∷ []
three_completed = refl

-- two broadcasts in periods of three slots
runs_out : air_of (message 0 1 3 2 Normal ∷ []) 9 ≡ Some (0, 1) ∷ None ∷ None ∷ Some (0, 1) ∷ None ∷ None ∷ None ∷ None
    ∷ None ∷ []
runs_out = refl

-- three pages in periods of two slots: what is not whole is dropped, and the next broadcast begins with page 1
dropped : air_of (message 4 3 2 0 Normal ∷ []) 5 ≡ Some (4, 1) ∷ Some (4, 2) ∷ Some (4, 1) ∷ Some (4, 2) ∷ Some (4, 1)
    ∷ []
dropped = refl

dropped_completed : completed (message 4 3 2 0 Normal) (air_of (message 4 3 2 0 Normal ∷ []) 5) 5 ≡ 0
dropped_completed = refl

-- a page in every second slot, and two pages of background in every fourth
abbrev beside_normal : List ScheduledMessage
beside_normal = message 0 1 2 0 Normal ∷ message 1 2 4 0 Background ∷ []

beside_normal_aired : air_of beside_normal 8 ≡ Some (0, 1) ∷ Some (1, 1) ∷ Some (0, 1) ∷ Some (1, 2) ∷ Some (0, 1) ∷
    Some (1, 1) ∷ Some (0, 1) ∷ Some (1, 2) ∷ []
beside_normal_aired = refl

beside_normal_completed : map (λ m. completed m (air_of beside_normal 8) 8) beside_normal ≡ 4 ∷ 2 ∷ []
beside_normal_completed = refl

-- a page in every slot, up to its stop at slot 3, and two pages of background in every fourth: the first broadcast of
-- these isn't completed at its due slot, and dropped
abbrev after_full : List ScheduledMessage
after_full = record (message 0 1 1 0 Normal) { stop = Some 3 } ∷ message 1 2 4 0 Background ∷ []

after_full_aired : air_of after_full 8 ≡ Some (0, 1) ∷ Some (0, 1) ∷ Some (0, 1) ∷ Some (1, 1) ∷ Some (1, 1) ∷ Some
    (1, 2) ∷ None ∷ None ∷ []
after_full_aired = refl

after_full_completed : map (λ m. completed m (air_of after_full 8) 8) after_full ≡ 3 ∷ 1 ∷ []
after_full_completed = refl

-- with the slots of background idle it is the air list of the normal message alone
after_full_blanked : blanked after_full (air_of after_full 8) ≡ air_of (foreground after_full) 8
after_full_blanked = refl

-- background that is due sooner waits all the same, and of two such the one that is due first is aired
due_sooner : air_of (message 0 2 4 1 Background ∷ message 1 1 2 1 Background ∷ message 2 1 8 1 Normal ∷ []) 4 ≡ Some
    (2, 1) ∷ Some (1, 1) ∷ Some (0, 1) ∷ Some (0, 2) ∷ []
due_sooner = refl

-- background of three pages in periods of two slots is never whole, and takes no slot of a normal message
never_whole : air_of (message 0 3 2 0 Background ∷ message 1 1 4 0 Normal ∷ []) 6 ≡ Some (1, 1) ∷ Some (0, 1) ∷ Some
    (0, 1) ∷ Some (0, 2) ∷ Some (1, 1) ∷ Some (0, 1) ∷ []
never_whole = refl
