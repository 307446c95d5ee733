-- How a plan finds the message that is served first (own): contracts of private functions alone speak of it.
use Rattle.std.specs.Prelude.{◌≡◌, ◌≢◌, ℕ, ◌+◌, ◌*◌, ◌<◌, ◌≤◌, ◌==◌, ◌⊎◌, nat_lt, min, zero, suc, false}
use Rattle.std.specs.Prelude.{if◌then◌else◌, Option, Some, None, List, length, map, take, drop, slice_index_or}
use Rattle.std.specs.Prelude.{All, AllPairs}
use Rattle.scheduler.specs.declared.plan.Item.{Item}
use Rattle.scheduler.specs.declared.plan.Rank.{Rank}
use Rattle.scheduler.specs.declared.scheduled.Scheduled.{Scheduled}
use Rattle.scheduler.specs.declared.turn.First.{First}
use Rattle.scheduler.specs.declared.progress.Progress.{Progress}
use Rattle.scheduler.specs.declared.tournament.Node.{Node}
use Rattle.scheduler.specs.Message.{release, due, broadcast_at}
use Rattle.scheduler.specs.Air.{layer_of, class_of}
use Rattle.scheduler.specs.Follows.{message_of}
use Rattle.scheduler.specs.PlanSteps.{IsFit, IsSound, is_ready}

-- a turn as one number, of which the lesser comes first: by layer, then due slot, then class, then the number of the
-- message
abbrev pub turn_number : ℕ → ℕ → ℕ → ℕ → ℕ
turn_number layer due class entry = (layer * 8589934592 + (due * 2 + class)) * 65536 + entry

-- no turn, which comes last
abbrev pub no_turn : ℕ
no_turn = 18446744073709551615

-- what is ahead of some messages and of others
abbrev pub joined : First → First → First
joined a b = record { first = min a.first b.first; wake = min a.wake b.wake }

-- what is ahead of no message
abbrev pub nothing_ahead : First
nothing_ahead = record { first = no_turn; wake = 4294967295 }

-- the turn of a message that has a pending broadcast
abbrev pub turn_of : Progress → ℕ
turn_of k =
    turn_number (layer_of k.scheduled.item.rank) k.until (class_of k.scheduled.item.rank) k.scheduled.item.entry

-- what is ahead of a message alone
abbrev pub own : Progress → First
own k = record { first = if k.is_open then turn_of k else no_turn; wake = k.until }

-- its slot and its number have room in a turn, and so has the slot at which a later broadcast is due
pub record HasTurn (k : Progress) : Type 0 where
  pub slot : k.until < 4294967296
  pub number : k.scheduled.item.entry < 65536
  pub period : k.scheduled.item.period < 65536

-- what is kept of a message that was just added
abbrev pub kept_new : Item → Progress
kept_new item = record {
  scheduled = record { item = item; stop = None; pages_aired = 0; completed = 0 };
  until = item.start;
  is_open = false;
}

-- what is kept of a message that is to be added: nothing is ahead of it
abbrev pub kept_idle : Item → Progress
kept_idle item = record {
  scheduled = record { item = item; stop = None; pages_aired = 0; completed = 0 };
  until = 4294967295;
  is_open = false;
}

-- what begins at the slot, where nothing is known up to it
abbrev pub progress_begun : ℕ → Scheduled → Progress
progress_begun slot t = record {
  scheduled = t;
  until = if is_ready t slot then due (message_of t) (broadcast_at (message_of t) slot) else
      (if nat_lt slot t.item.start then t.item.start else 4294967295);
  is_open = is_ready t slot;
}

-- what is kept of a message at the slot
abbrev pub refreshed : ℕ → Progress → Progress
refreshed slot k = if nat_lt slot k.until then k else progress_begun slot (record k.scheduled { pages_aired = 0 })

-- what is kept of a message once its next page was aired
abbrev pub aired : Progress → Progress
aired k =
    let pages = k.scheduled.pages_aired + 1 in
    record k {
      scheduled = record k.scheduled {
        pages_aired = pages;
        completed = k.scheduled.completed + (if pages == k.scheduled.item.pages then 1 else 0);
      };
      is_open = nat_lt pages k.scheduled.item.pages;
    }

-- what is kept of a message once it was stopped before the slot
abbrev pub stopped : ℕ → Progress → Progress
stopped slot k = record k { scheduled = record k.scheduled { stop = Some slot }; is_open = false }

-- a message as it stands at the slot: what was aired before its last release is forgotten
abbrev pub seen : ℕ → Progress → Scheduled
seen slot k = record k.scheduled { pages_aired = if nat_lt slot k.until then k.scheduled.pages_aired else 0 }

-- the broadcast that is under way at the slot is due when the message is looked at again, or none of it was aired
abbrev pub IsTimed : Progress → ℕ → Type 0
IsTimed k slot =
    ((k.scheduled.item.start ≤ slot) × (k.until ≡ due (message_of k.scheduled)
    (broadcast_at (message_of k.scheduled) slot))) ⊎ ((k.scheduled.pages_aired ≡ 0) × (k.is_open ≡ false))

-- the slot at which a message is looked at again is the release of one of its broadcasts, or none
abbrev pub IsReleaseOrNone : Progress → Type 0
IsReleaseOrNone k = ((j : ℕ) × (k.until ≡ release (message_of k.scheduled) j)) ⊎ (k.until ≡ 4294967295)

-- what is kept of a message is true from the slot up to the one at which it is to be looked at again: of one for which
-- that slot is over, nothing is known but what was counted
pub record IsRight (slot : ℕ) (k : Progress) : Type 0 where
  pub fit : IsFit k.scheduled slot
  pub release : IsReleaseOrNone k
  pub ready : (s : ℕ) → slot ≤ s → s < k.until → is_ready k.scheduled s ≡ k.is_open
  pub timed : (s : ℕ) → slot ≤ s → s < k.until → IsTimed k s
  pub stopped : (stop : ℕ) → k.scheduled.stop ≡ Some stop → stop ≤ slot

-- what stands at a place once it was looked at, with this below it
abbrev pub renewed_node : ℕ → First → Node → Node
renewed_node slot below n =
    let kept = refreshed slot n.kept in
    record { kept = kept; ahead = joined (own kept) below }

-- the messages, without what stands beside them
abbrev pub kept_in : List Node → List Progress
kept_in nodes = map (λ n. n.kept) nodes

-- and as they stand at the slot
abbrev pub seen_in : ℕ → List Node → List Scheduled
seen_in slot nodes = map (seen slot) (kept_in nodes)

-- what is kept as ahead of a place and of those below it: nothing past the end
abbrev pub ahead_at : List Node → ℕ → First
ahead_at nodes place = slice_index_or (map (λ n. n.ahead) nodes) place nothing_ahead

-- what is ahead of the message at a place alone
abbrev pub own_at : List Node → ℕ → First
own_at nodes place = slice_index_or (map own (kept_in nodes)) place nothing_ahead

-- what is ahead of so many places from one on
abbrev pub ahead_among : List Node → ℕ → ℕ → First
ahead_among nodes from zero = nothing_ahead
ahead_among nodes from (suc n) = joined (ahead_among nodes from n) (ahead_at nodes (from + n))

-- what is ahead of the eight places below one
unfoldable pub ahead_below : List Node → ℕ → First
ahead_below nodes place = ahead_among nodes (place * 8 + 1) 8

-- what is ahead of a place that has this alone: that, and what is ahead of the places below it
abbrev pub with_below : List Node → ℕ → First → First
with_below nodes place mine = joined mine (ahead_below nodes place)

-- and so it is kept there
abbrev pub IsNode : List Node → ℕ → Type 0
IsNode nodes place = ahead_at nodes place ≡ with_below nodes place (own_at nodes place)

-- so it is kept everywhere
abbrev pub IsTree : List Node → Type 0
IsTree nodes = (place : ℕ) → IsNode nodes place

-- or everywhere but perhaps at one place
abbrev pub IsTreeBut : List Node → ℕ → Type 0
IsTreeBut nodes but = (place : ℕ) → place ≢ but → IsNode nodes place

-- of what is ahead of one place this alone is missing, and elsewhere all is right
pub record IsTreeWithout (nodes : List Node) (place : ℕ) (more : First) : Type 0 where
  pub others : IsTreeBut nodes place
  pub here : joined (ahead_at nodes place) more ≡ with_below nodes place (own_at nodes place)

-- the place with this message
abbrev pub node_with : List Node → ℕ → Progress → Node
node_with nodes place k = record { kept = k; ahead = with_below nodes place (own k) }

-- what was kept right is still so, but perhaps at the place that this one is below
abbrev pub KeepsNodesBut : List Node → List Node → ℕ → Type 0
KeepsNodesBut old new below =
    (place : ℕ) → ((n : ℕ) → n < 8 → place * 8 + 1 + n ≢ below) → IsNode old place → IsNode new place

-- the numbers of the messages rise
abbrev pub AreRising : List Node → Type 0
AreRising nodes = AllPairs (λ a b. a.kept.scheduled.item.entry < b.kept.scheduled.item.entry) nodes

-- the messages before the place have lesser numbers, and no others
pub record IsPlaceOf (entry : ℕ) (nodes : List Node) (place : ℕ) : Type 0 where
  pub within : place ≤ length nodes
  pub before : (k : ℕ) (d : Node) → k < place → (slice_index_or nodes k d).kept.scheduled.item.entry < entry
  pub behind : (k : ℕ) (d : Node) → place ≤ k → k < length nodes
      → entry ≤ (slice_index_or nodes k d).kept.scheduled.item.entry

-- what is true of the messages of a tree at the slot that is asked next
pub record AreKeptInOrder (slot : ℕ) (nodes : List Node) : Type 0 where
  pub right : All (IsRight slot) (kept_in nodes)
  pub turns : All HasTurn (kept_in nodes)
  pub tree : IsTree nodes

-- how many messages at the most stand in a tree that so many trees come after
abbrev pub tree_size : ℕ → ℕ
tree_size later = if later == 1 then 1024 else 73

-- the messages stand in trees, one behind the other: of the last tree and so many before it
abbrev pub IsForest : ℕ → List Node → Type 0
IsForest zero nodes = IsTree nodes
IsForest (suc later) nodes =
    IsTree (take (tree_size (suc later)) nodes) × IsForest later (drop (tree_size (suc later)) nodes)

-- what is true of the messages of a plan in their trees at the slot that is asked next
pub record AreInTrees (slot later : ℕ) (nodes : List Node) : Type 0 where
  pub right : All (IsRight slot) (kept_in nodes)
  pub turns : All HasTurn (kept_in nodes)
  pub trees : IsForest later nodes

-- the turn of a message at the slot, by how it stands then
abbrev pub ready_turn : ℕ → Scheduled → ℕ
ready_turn slot t =
    if is_ready t slot then turn_number (layer_of t.item.rank) (due (message_of t) (broadcast_at (message_of t) slot))
    (class_of t.item.rank) t.item.entry else no_turn

-- a message has that turn, and is not to be looked at again by the slot
pub record HasThatTurn (slot : ℕ) (nodes : List Node) (turn : ℕ) : Type 0 where
  pub place : ℕ
  pub within : place < length nodes
  pub awake : (d : Node) → slot < (slice_index_or nodes place d).kept.until
  pub turned : (d : Node) → (own (slice_index_or nodes place d).kept).first ≡ turn

-- no message has a turn before it at the slot, and one has it, if it is a turn
pub record IsLeastTurn (slot : ℕ) (nodes : List Node) (turn : ℕ) : Type 0 where
  pub least : All (λ t. turn ≤ ready_turn slot t) (seen_in slot nodes)
  pub found : (turn ≡ no_turn) ⊎ HasThatTurn slot nodes turn

-- messages of the one rank come no later than those of the other, where they are due at the same slot
pub record IsNotBehind (a b : Rank) : Type 0 where
  pub by_layer : layer_of a ≤ layer_of b
  pub by_class : class_of a ≤ class_of b

-- no message comes before those of this rank
abbrev pub AreBehind : Rank → List Scheduled → Type 0
AreBehind foremost scheduled = All (λ t. IsNotBehind foremost t.item.rank) scheduled

-- at the place or below it a message is to be looked at again by the slot
abbrev pub IsDue : ℕ → List Node → ℕ → Type 0
IsDue slot nodes place = (ahead_at nodes place).wake ≤ slot

-- so many listed places are those before the bound that are due, in rising order
pub record AreListed (slot : ℕ) (nodes : List Node) (listed : List ℕ) (count bound : ℕ) : Type 0 where
  pub few : count ≤ bound
  pub room : count ≤ length nodes
  pub due : (i : ℕ) → i < count → IsDue slot nodes (slice_index_or listed i 0)
  pub before : (i : ℕ) → i < count → slice_index_or listed i 0 < bound
  pub rising : (i j : ℕ) → i < j → j < count → slice_index_or listed i 0 < slice_index_or listed j 0
  pub all : (k : ℕ) → k < bound → IsDue slot nodes k → (i : ℕ) × ((i < count) × (slice_index_or listed i 0 ≡ k))

-- so many listed places are all that are due, in rising order
pub record AreDue (slot : ℕ) (nodes : List Node) (listed : List ℕ) (count : ℕ) : Type 0 where
  pub room : count ≤ length nodes
  pub due : (i : ℕ) → i < count → IsDue slot nodes (slice_index_or listed i 0)
  pub rising : (i j : ℕ) → i < j → j < count → slice_index_or listed i 0 < slice_index_or listed j 0
  pub all : (k : ℕ) → IsDue slot nodes k → (i : ℕ) × ((i < count) × (slice_index_or listed i 0 ≡ k))

-- the message of that number stands at the place, or there is none
abbrev pub IsFoundTurn : ℕ → List Node → Option ℕ → Type 0
IsFoundTurn entry nodes None =
    (k : ℕ) (d : Node) → k < length nodes → (slice_index_or nodes k d).kept.scheduled.item.entry ≢ entry
IsFoundTurn entry nodes (Some place) =
    (place < length nodes) × ((d : Node) → (slice_index_or nodes place d).kept.scheduled.item.entry ≡ entry)

-- a message that has no pending broadcast, and is never to be looked at again
pub record HasNoMore (k : Progress) : Type 0 where
  pub never : k.until ≡ 4294967295
  pub closed : k.is_open ≡ false

-- so it has ended for ever, where what is kept of it is true
pub record HasEnded (slot : ℕ) (k : Progress) : Type 0 where
  pub right : IsRight slot k
  pub no_more : HasNoMore k

-- of the messages so many at the front have ended, and the others stand in their trees, the last and two before it
pub record AreSettled (slot past : ℕ) (nodes : List Node) : Type 0 where
  pub within : past ≤ length nodes
  pub ended : All (HasEnded slot) (kept_in (take past nodes))
  pub later : AreInTrees slot 2 (drop past nodes)

-- a message has that number or a greater one
pub record HasReached (entry : ℕ) (nodes : List Node) : Type 0 where
  pub place : ℕ
  pub within : place < length nodes
  pub no_less : (d : Node) → entry ≤ (slice_index_or nodes place d).kept.scheduled.item.entry

-- what is true of a plan at the slot that is asked next
pub record IsPlan (slot past : ℕ) (nodes : List Node) : Type 0 where
  pub sound : IsSound (record { slot = slot; scheduled = seen_in slot nodes })
  pub kept : AreSettled slot past nodes

-- and of a plan with room for a list of its places, and with the rank that comes before all others
pub record HasQueueRoom (slot past : ℕ) (foremost : Rank) (nodes : List Node) (listed : List ℕ) : Type 0 where
  pub plan : IsPlan slot past nodes
  pub room : length nodes ≤ length listed
  pub ranks : AreBehind foremost (seen_in slot nodes)
