-- Where the elements of a message stand, by number: contracts of private functions alone speak of it. Own.
use Rattle.std.specs.Prelude.{◌≡◌, ◌≤◌, ℕ, List, ◌∷◌, length, slice_index_or}
use Rattle.cbsp_wire.specs.declared.reading.places.Place.{Place}
use Rattle.cbsp_wire.specs.declared.reading.places.Place.TheVariants.{Nowhere, Once, Again}
use Rattle.cbsp_wire.specs.Body.{Body, elements_in}
use Rattle.cbsp_wire.specs.Element.{bodies_of}
use Rattle.cbsp_wire.specs.Walk.{walk_of}

-- octets from which on the elements of a number are those of the message
abbrev pub HasAllOf : Body → ℕ → List ℕ → Type 0
HasAllOf body n octets =
    bodies_of n (walk_of body.message_type octets).elements ≡ bodies_of n (elements_in body)

-- what is known of a number's elements, while those from `left` on are still to be taken
abbrev pub IsNoted : Body → List ℕ → ℕ → Place → Type 0
IsNoted body left n Nowhere = HasAllOf body n left
IsNoted body left n (Once from) = HasAllOf body n from.now
    × ((first : List ℕ)
    × (bodies_of n (elements_in body) ≡ first ∷ bodies_of n (walk_of body.message_type left).elements))
IsNoted body left n (Again from) = HasAllOf body n from.now × (2 ≤ length (bodies_of n (elements_in body)))

-- the same, of each number, at its index
abbrev pub AreNoted : Body → List ℕ → List Place → Type 0
AreNoted body left places = (n : ℕ) → IsNoted body left n (slice_index_or places n Nowhere)
