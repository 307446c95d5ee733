-- A page of 88 octets. 3GPP TS 23.041, clause 9.4.1.
use Rattle.std.specs.Prelude.{ℕ, ◌+◌, ◌*◌, ◌/◌, ◌%◌, ◌==◌, ◌||◌, ◌&&◌, nat_le, Bool, List, ◌∷◌, drop, slice_index}
use Rattle.std.specs.Prelude.{if◌then◌else◌, is_some}
use Rattle.cbs_page.specs.declared.octets.PageView.{PageView}
use Rattle.cbs_page.specs.Coding.{alphabet_of}

-- the serial number and the message identifier, high octets first, the data coding, the page's number and the total in
-- the halves of the page parameter, and the content
abbrev pub octets_of_page : (id serial dcs number total : ℕ) → (content : List ℕ) → List ℕ
octets_of_page id serial dcs number total content =
    (serial / 256) ∷ (serial % 256) ∷ (id / 256) ∷ (id % 256) ∷ dcs ∷ (16 * number + total) ∷ content

-- the page's number and the total of its message stand in the halves of the page parameter; with 0 in either it is page
-- 1 of 1
abbrev pub place_of : ℕ → ℕ × ℕ
place_of parameter =
    if (parameter / 16 == 0) || (parameter % 16 == 0) then (1, 1) else (parameter / 16, parameter % 16)

-- what the octets of a page say
abbrev pub view_of : List ℕ → PageView
view_of octets = record {
  serial = 256 * slice_index octets 0 + slice_index octets 1;
  id = 256 * slice_index octets 2 + slice_index octets 3;
  dcs = record { 0 = slice_index octets 4 };
  number = (place_of (slice_index octets 5)).0;
  total = (place_of (slice_index octets 5)).1;
  content = drop 6 octets;
}

-- a page that can be shown: its alphabet is known, and its number isn't over the total
abbrev pub is_readable : PageView → Bool
is_readable view = is_some (alphabet_of view.dcs.0) && nat_le view.number view.total
