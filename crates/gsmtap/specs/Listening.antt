-- What the blocks of a sender carry is known as they come, though no more of the tape that they make is kept than its
-- latest two slots: a block comes one slot back at most. Contracts of private functions alone speak of it.
use Rattle.std.specs.Prelude.{◌≡◌, ℕ, zero, suc, ◌+◌, ◌-◌, ◌*◌, ◌<◌, ◌≤◌, ◌^◌, ◌⊎◌, false, List, []}
use Rattle.std.specs.Prelude.{◌∷◌, ◌++◌, length, map, fold, slice_index_or, unwrap_or, Option, None, is_none, Ok, Err}
use Rattle.cbch_blocks.specs.Blocks.{idle_block}
use Rattle.cbs_page.specs.declared.octets.PageView.{PageView}
use Rattle.handset.specs.Keeping.{IsUnderWay}
use Rattle.handset.specs.KeepingSteps.{under_way_with}
use Rattle.handset.specs.Reception.{pages_read}
use Rattle.gsmtap.specs.Carried.{each_once}
use Rattle.gsmtap.specs.TapeSteps.{IsBlockKind, last_slot}
use Rattle.gsmtap.specs.Track.{Known, with_block}
use Rattle.gsmtap.specs.declared.fault.AirFaultKind.{AirFaultKind}
use Rattle.gsmtap.specs.declared.fault.AirFaultKind.TheVariants as kind
use Rattle.gsmtap.specs.declared.listener.Listener.{Listener}
use Rattle.gsmtap.specs.declared.listener.PageCount.{PageCount}
use Rattle.gsmtap.specs.declared.tap.Sent.{Sent}
use Rattle.gsmtap.specs.declared.track.Track.{Track}

-- the block at a place of a tape, if one is known
abbrev pub block_at : List (Option (List ℕ)) → (place : ℕ) → Option (List ℕ)
block_at blocks place = slice_index_or blocks place None

-- the first blocks of a tape, which is idle where none is known and after its end
abbrev pub front_of : List (Option (List ℕ)) → (count : ℕ) → List (List ℕ)
front_of blocks zero = []
front_of blocks (suc count) = front_of blocks count ++ unwrap_or (block_at blocks count) idle_block ∷ []

-- the identifiers of pages
abbrev pub identifiers_of : List PageView → List ℕ
identifiers_of pages = map (λ (page : PageView). page.id) pages

-- the pages in blocks were counted
pub record AreCounted (count : PageCount) (blocks : List (List ℕ)) : Type 0 where
  pub under_way : IsUnderWay count.kept.items blocks
  pub kept : count.kept.items ≡ fold under_way_with [] blocks
  pub pages : count.pages ≡ length (pages_read blocks)
  pub identifiers : count.identifiers.items ≡ each_once (identifiers_of (pages_read blocks))

-- a tape has so many places up to the last block that is known
pub record IsEnd (blocks : List (Option (List ℕ))) (count : ℕ) : Type 0 where
  pub within : count ≤ length blocks
  pub idle : (place : ℕ) → count ≤ place → block_at blocks place ≡ None
  pub last : 0 < count → is_none (block_at blocks (count - 1)) ≡ false

-- of a tape the blocks before a slot were counted, and those of this slot and the next one are kept; it has no others
pub record IsKept (blocks : List (Option (List ℕ))) (slot : ℕ) (listener : Listener) : Type 0 where
  pub counted : AreCounted listener.count (front_of blocks (4 * slot))
  pub recent :
      (place : ℕ) → place < 8 → slice_index_or listener.recent place None ≡ block_at blocks (4 * slot + place)
  pub eight : length listener.recent ≡ 8
  pub end : IsEnd blocks listener.end
  pub near : listener.end ≤ 4 * slot + 8

-- the slot before which no block can come any more
abbrev pub settled : Option Track → ℕ
settled track = last_slot track - 1

-- this is known of the tape of a sender
pub record IsListening (known : Known) (listener : Listener) : Type 0 where
  pub track : listener.track ≡ known.track
  pub long : length known.blocks ≡ 262140
  pub kept : IsKept known.blocks (settled known.track) listener

-- the same of some tape, whose slots can be counted
abbrev pub IsListeningToSome : Listener → Type 0
IsListeningToSome listener = (known : Known) × IsListening known listener × (last_slot known.track < 2 ^ 60)

abbrev pub IsKeptOfSome : (most : ℕ) → Listener → Type 0
IsKeptOfSome most listener =
    (blocks : List (Option (List ℕ))) × (slot : ℕ) × IsKept blocks slot listener × (slot < most)

-- what is known after a block more
abbrev pub HasHeard : Sent → (old new : Listener) → Type 0
HasHeard sent old new =
    (known : Known) → IsListening known old → (next : Known) × (with_block known sent ≡ Ok next) × IsListening next new

-- why a block isn't taken: it is at fault, or memory was refused
abbrev pub IsUnheard : Sent → (old : Listener) → AirFaultKind → Type 0
IsUnheard sent old why =
    (why ≡ kind.Refused)
    ⊎ (IsBlockKind why × ((known : Known) → IsListening known old → with_block known sent ≡ Err why))
