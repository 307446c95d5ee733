-- Elements, and the octets that they are. 3GPP TS 48.049, clause 8.2.
use Rattle.std.specs.Prelude.{ℕ, ◌+◌, ◌*◌, List, [], ◌∷◌, ◌++◌, ◌==◌, if◌then◌else◌}

-- an element: its number, and the octets after the number
pub record Element : Type 0 where
  pub number : ℕ
  pub body : List ℕ

-- the octets of elements, one after the other
abbrev pub octets_of_elements : List Element → List ℕ
octets_of_elements [] = []
octets_of_elements (e ∷ es) = e.number ∷ (e.body ++ octets_of_elements es)

-- the bodies of the elements with a number, in order
abbrev pub bodies_of : ℕ → List Element → List (List ℕ)
bodies_of n [] = []
bodies_of n (e ∷ es) = if e.number == n then e.body ∷ bodies_of n es else bodies_of n es

-- the number that two octets are, the high one first
abbrev pub u16_from_be : List ℕ → ℕ
u16_from_be [] = 0
u16_from_be (a ∷ []) = 0
u16_from_be (a ∷ b ∷ octets) = a * 256 + b

-- the first octet
abbrev pub first_octet : List ℕ → ℕ
first_octet [] = 0
first_octet (a ∷ octets) = a
