-- The table of the messages that a cell accepted (own): in the order of their numbers, and beside them their pairs of
-- an identifier and a serial number, in order, each with the place of its message. Contracts of private functions alone
-- speak of it.
use Rattle.std.specs.Prelude.{◌≡◌, ◌≢◌, ℕ, ◌-◌, ◌<◌, ◌≤◌, min, Option, Some, None, Result, Ok, Err, List, length, map}
use Rattle.std.specs.Prelude.{slice_index_or, All, Any, AllPairs, vec_len, vec_capacity}
use Rattle.std.specs.List.{slice_get, HoldsAt}
use Rattle.std.specs.Ordering.{nat_cmp, ordering_then}
use Rattle.std.specs.declared.cmp.Ordering.{Ordering}
use Rattle.std.specs.declared.cmp.Ordering.TheVariants.{Less, Greater}
use Rattle.bsc_table.specs.declared.accepted.AcceptedMessage.{AcceptedMessage}
use Rattle.bsc_table.specs.declared.table.Pair.{Pair}
use Rattle.bsc_table.specs.declared.table.Table.TheInside.{Inside}
use Rattle.bsc_table.specs.Accepted.{accepted_of, TableState}

-- pairs in order: by the identifier, then by the serial number
abbrev pub compare_pairs : ℕ × ℕ → ℕ × ℕ → Ordering
compare_pairs a b = ordering_then (nat_cmp a.0 b.0) (nat_cmp a.1 b.1)

-- the pair that is kept with a place, and that of a message
abbrev pub pair_kept : Pair → ℕ × ℕ
pair_kept p = (p.id, p.serial)

abbrev pub pair_of : AcceptedMessage → ℕ × ℕ
pair_of m = (m.id, m.serial)

-- the pairs rise
abbrev pub AreRisingPairs : List Pair → Type 0
AreRisingPairs pairs = AllPairs (λ a b. compare_pairs (pair_kept a) (pair_kept b) ≡ Less) pairs

-- they are those of the messages, each with its place, and none comes twice
pub record AreByPair (messages : List AcceptedMessage) (pairs : List Pair) : Type 0 where
  pub rising : AreRisingPairs pairs
  pub right : All (λ p. slice_get (map pair_of messages) p.place ≡ Some (pair_kept p)) pairs
  pub whole : (place : ℕ) → place < length messages → Any (λ p. p.place ≡ place) pairs

-- the numbers of the messages rise
abbrev pub AreRisingMessages : List AcceptedMessage → Type 0
AreRisingMessages messages = AllPairs (λ a b. a.entry < b.entry) messages

-- so a table is kept
pub record IsTable (t : Inside) : Type 0 where
  pub rising : AreRisingMessages t.messages.items
  pub by_pair : AreByPair t.messages.items t.by_pair.items

-- what a clause sees of it
abbrev pub state_of : Inside → TableState
state_of t = record {
  all = map accepted_of t.messages.items;
  room = min (vec_capacity t.messages - vec_len t.messages) (vec_capacity t.by_pair - vec_len t.by_pair);
}

-- the lesser pairs stand before the place, and no others
pub record ArePartedAt (pair : ℕ × ℕ) (pairs : List Pair) (at : ℕ) : Type 0 where
  pub within : at ≤ length pairs
  pub before : (k : ℕ) (d : Pair) → k < at → compare_pairs (pair_kept (slice_index_or pairs k d)) pair ≡ Less
  pub behind : (k : ℕ) (d : Pair) → at ≤ k → k < length pairs
      → compare_pairs (pair_kept (slice_index_or pairs k d)) pair ≢ Less

-- a pair would go to the place: lesser ones stand before it, and greater ones from it on
pub record IsGapFor (pair : ℕ × ℕ) (pairs : List Pair) (at : ℕ) : Type 0 where
  pub within : at ≤ length pairs
  pub before : (k : ℕ) (d : Pair) → k < at → compare_pairs (pair_kept (slice_index_or pairs k d)) pair ≡ Less
  pub behind : (k : ℕ) (d : Pair) → at ≤ k → k < length pairs
      → compare_pairs (pair_kept (slice_index_or pairs k d)) pair ≡ Greater

-- where a pair stands, or where it would go
abbrev pub IsPairFound : ℕ × ℕ → List Pair → Result ℕ ℕ → Type 0
IsPairFound pair pairs (Ok at) = (at < length pairs) × HoldsAt (λ p. pair_kept p ≡ pair) pairs at
IsPairFound pair pairs (Err at) = IsGapFor pair pairs at

-- the place of the message of a number, where there is one
abbrev pub IsPlaceFound : ℕ → List AcceptedMessage → Option ℕ → Type 0
IsPlaceFound entry messages None = All (λ m. m.entry ≢ entry) messages
IsPlaceFound entry messages (Some at) = (at < length messages) × HoldsAt (λ m. m.entry ≡ entry) messages at
