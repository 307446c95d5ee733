-- The pages that a cell's channel sends, each in a slot, of as many blocks as it has. 3GPP TS 44.012, 3.3 (blocks), and
-- 3GPP TS 23.041, clause 9.4.1 (the octets of a page).
use Rattle.std.specs.Prelude.{ℕ, ◌+◌, ◌*◌, ◌/◌, List, [], ◌∷◌, ◌++◌, drop, length, map, slice_index}
use Rattle.std.specs.Option.{option_to_list}
use Rattle.std.specs.Simd.{first_chunks}
use Rattle.cbs_page.specs.Page.{place_of}
use Rattle.short_pages.specs.Slots.{page_of_slot}

-- a page, the slot in which it is sent, and the octets that came of it: 22 for each block
pub record AirOctets : Type 0 where
  pub slot : ℕ
  pub octets : List ℕ

abbrev pub page_in : (slot : ℕ) → List ℕ → AirOctets
page_in slot octets = record { slot = slot; octets = octets }

-- the four blocks of each slot
abbrev pub four_by_four : (blocks : List (List ℕ)) → List (List (List ℕ))
four_by_four blocks = first_chunks 4 (length blocks / 4) blocks

-- the pages of slots, of which the first has this number
abbrev pub pages_from : (slot : ℕ) → List (List (List ℕ)) → List AirOctets
pages_from slot [] = []
pages_from slot (four ∷ rest) = map (page_in slot) (option_to_list (page_of_slot four)) ++ pages_from (slot + 1) rest

abbrev pub pages_on_air : (blocks : List (List ℕ)) → List AirOctets
pages_on_air blocks = pages_from 0 (four_by_four blocks)

-- what the first six octets of a page say: its serial number, message identifier, data coding, and page parameter
abbrev pub serial_in : List ℕ → ℕ
serial_in octets = 256 * slice_index octets 0 + slice_index octets 1

abbrev pub id_in : List ℕ → ℕ
id_in octets = 256 * slice_index octets 2 + slice_index octets 3

abbrev pub dcs_in : List ℕ → ℕ
dcs_in octets = slice_index octets 4

abbrev pub number_in : List ℕ → ℕ
number_in octets = (place_of (slice_index octets 5)).0

abbrev pub page_total_in : List ℕ → ℕ
page_total_in octets = (place_of (slice_index octets 5)).1

-- and what came of its content
abbrev pub content_in : List ℕ → List ℕ
content_in octets = drop 6 octets
