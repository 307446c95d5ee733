-- Senders that are named packet by packet. Contracts of private functions alone speak of it.
use Rattle.std.specs.Prelude.{ℕ, ◌+◌, min, List, [], ◌∷◌, ◌++◌, position, slice_index_or, slice_set, Option, Some, None}
use Rattle.gsmtap.specs.Heard.{is_station}
use Rattle.gsmtap.specs.declared.heard.Heard.{Heard}
use Rattle.gsmtap.specs.declared.tap.Station.{Station}

-- a sender of whom the packet of this number is the first; and with one packet more, if there was one before. (No file
-- has so many packets that the number of blocks ends at its bound.)
abbrev pub newly_heard : (number : ℕ) → Station → Heard
newly_heard number station = record { station = station; blocks = 1; first = number; last = number }

abbrev pub heard_again : (number : ℕ) → Heard → Heard
heard_again number one = record one { blocks = min (one.blocks + 1) 18446744073709551615; last = number }

abbrev pub place_of : Station → List Heard → Option ℕ
place_of station heard = position (λ one. is_station station one.station) heard

abbrev pub heard_at : (number : ℕ) → List Heard → Station → (place : Option ℕ) → List Heard
heard_at number heard station None = heard ++ newly_heard number station ∷ []
heard_at number heard station (Some place) =
    slice_set heard place (heard_again number (slice_index_or heard place (newly_heard number station)))

-- senders after the packet of this number, which carries a block of this one
abbrev pub with_station : (number : ℕ) → List Heard → Station → List Heard
with_station number heard station = heard_at number heard station (place_of station heard)

abbrev pub with_sender : (number : ℕ) → List Heard → Option Station → List Heard
with_sender number heard None = heard
with_sender number heard (Some station) = with_station number heard station
