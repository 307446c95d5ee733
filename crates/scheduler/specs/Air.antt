-- What a cell airs, slot by slot, and the rule by which each slot is used (own).
use Rattle.std.specs.Prelude.{◌≡◌, ℕ, ◌+◌, ◌<◌, ◌≤◌, ◌==◌, ◌⊎◌, Bool, false, Option, Some, None, List, length}
use Rattle.std.specs.Prelude.{slice_range, slice_index_or, count_by, All, Any}
use Rattle.scheduler.specs.declared.plan.Rank.{Rank}
use Rattle.scheduler.specs.declared.plan.Rank.TheVariants.{High, Normal, Background}
use Rattle.scheduler.specs.Message.{ScheduledMessage, release, due, HasBroadcast, IsBeforeStop}

-- for each slot in order the number and the page that it airs, if it airs one
abbrev pub Air : Type 0
Air = List (Option (ℕ × ℕ))

-- the slot airs a page of that number
abbrev pub airs : ℕ → Option (ℕ × ℕ) → Bool
airs entry None = false
airs entry (Some used) = used.0 == entry

-- how many of the slots from `from` up to, and without, `to` air a page of that number
abbrev pub pages_aired : ℕ → Air → ℕ → ℕ → ℕ
pages_aired entry air from to = count_by (airs entry) (slice_range air from to)

-- broadcast j of the message may use the slot: it was requested, it is released and not due, the message was not
-- stopped by then, and of its pages fewer were aired since its release than it has
pub record IsPending (m : ScheduledMessage) (j : ℕ) (air : Air) (slot : ℕ) : Type 0 where
  pub requested : HasBroadcast m j
  pub released : release m j ≤ slot
  pub not_due : slot < due m j
  pub standing : IsBeforeStop slot m.stop
  pub unfinished : pages_aired m.entry air (release m j) slot < m.pages

-- background comes after all others
abbrev pub layer_of : Rank → ℕ
layer_of High = 0
layer_of Normal = 0
layer_of Background = 1

abbrev pub layer : ScheduledMessage → ℕ
layer m = layer_of m.rank

-- within a layer, high comes before normal
abbrev pub class_of : Rank → ℕ
class_of High = 0
class_of Normal = 1
class_of Background = 1

abbrev pub class : ScheduledMessage → ℕ
class m = class_of m.rank

-- within a layer, broadcast i of a comes no later than broadcast j of b: by their due slots, then their classes, then
-- their numbers
abbrev pub IsNoLater : ScheduledMessage → ℕ → ScheduledMessage → ℕ → Type 0
IsNoLater a i b j =
    (due a i < due b j) ⊎ ((due a i ≡ due b j) × ((class a < class b) ⊎ ((class a ≡ class b) × (a.entry ≤ b.entry))))

-- broadcast i of a is served no later than broadcast j of b: where it is of the lower layer, and within a layer as
-- above
abbrev pub IsServedBy : ScheduledMessage → ℕ → ScheduledMessage → ℕ → Type 0
IsServedBy a i b j = (layer a < layer b) ⊎ ((layer a ≡ layer b) × IsNoLater a i b j)

-- broadcast j of the message is pending, and served no later than any pending broadcast
pub record IsFirst (messages : List ScheduledMessage) (air : Air) (slot : ℕ) (m : ScheduledMessage) (j : ℕ) : Type 0
  where
    pub pending : IsPending m j air slot
    pub first : All (λ other. (k : ℕ) → IsPending other k air slot → IsServedBy m j other k) messages

-- the message's number, with the page after those that were aired since the release of broadcast j
abbrev pub next_page : ScheduledMessage → ℕ → Air → ℕ → ℕ × ℕ
next_page m j air slot = (m.entry, pages_aired m.entry air (release m j) slot + 1)

-- what the slot airs by the rule: the next page of the first pending broadcast, and nothing where none is pending
abbrev pub IsChosen : List ScheduledMessage → Air → ℕ → Option (ℕ × ℕ) → Type 0
IsChosen messages air slot None = All (λ m. (j : ℕ) → ¬ IsPending m j air slot) messages
IsChosen messages air slot (Some used) =
    Any (λ m. (j : ℕ) × IsFirst messages air slot m j × (used ≡ next_page m j air slot)) messages

-- each slot of the air list airs what the rule says
abbrev pub IsAirOf : List ScheduledMessage → Air → Type 0
IsAirOf messages air = (slot : ℕ) → slot < length air → IsChosen messages air slot (slice_index_or air slot None)
