-- The fields of a message as the writer holds them, and how many octets they take: contracts of private functions alone
-- speak of it. Own.
use Rattle.std.specs.Prelude.{ℕ, ◌+◌, ◌≤◌, List, length, map, IfSome, vec_len, vec_capacity}
use Rattle.std.specs.Global.{Vec}
use Rattle.cbs_page.specs.Text.{max_pages}
use Rattle.cbsp_wire.specs.Element.{octets_of_elements}
use Rattle.cbsp_wire.specs.Value.{Fields}
use Rattle.cbsp_wire.specs.Written.{bodies_in, element}
use Rattle.cbsp_wire.specs.Range.{max_listed}

-- a vector into which octets fit without memory
abbrev pub HasRoomIn : Vec ℕ → List ℕ → Type 0
HasRoomIn v octets = vec_len v + length octets ≤ vec_capacity v

-- the octets of the elements with a number
abbrev pub element_octets : ℕ → List (List ℕ) → List ℕ
element_octets n bodies = octets_of_elements (map (element n) bodies)

abbrev pub field_octets : Fields → ℕ → List ℕ
field_octets f n = element_octets n (bodies_in f n)

-- lists as short as a message's may be
pub record AreShort (f : Fields) : Type 0 where
  pub cells : length f.cells ≤ max_listed
  pub completed : length f.completed ≤ max_listed
  pub failures : length f.failures ≤ max_listed
  pub pages : IfSome f.pages (λ n. n ≤ max_pages)
