-- The elements of messages: an identifier, and as many octets as its row or its length says. 3GPP TS 48.049, clause
-- 8.2.
use Rattle.std.specs.Prelude.{ℕ, List, [], ◌∷◌, length, take, drop, nat_lt, if◌then◌else◌, ◌==◌}
use Rattle.std.specs.Prelude.{Option, Some, None, Result, Ok, Err}
use Rattle.cbsp_wire.specs.Element.{Element}
use Rattle.cbsp_wire.specs.Table.{Size, Fixed, Listed, size_in}
use Rattle.cbsp_link.specs.declared.fault.LinkFault.{LinkFault}
use Rattle.cbsp_link.specs.declared.fault.LinkFault.TheVariants.{CutElement, UnknownElement}
use Rattle.cbsp_link.specs.Run.{run_of}

-- an element's identifier, and how long its body is: a number of octets, or two of length and as many as they say
pub record Row : Type 0 where
  pub number : ℕ
  pub size : Size

abbrev pub row : ℕ → Size → Row
row n size = record { number = n; size = size }

-- all elements of the standard, clauses 8.2.3 to 8.2.26
unfoldable pub table : List Row
table =
    row 0x01 (Fixed 83) ∷ row 0x02 (Fixed 2) ∷ row 0x03 (Fixed 2) ∷ row 0x04 Listed ∷ row 0x05 (Fixed 1)
    ∷ row 0x06 (Fixed 2) ∷ row 0x07 (Fixed 2) ∷ row 0x08 Listed ∷ row 0x09 Listed ∷ row 0x0A Listed
    ∷ row 0x0B (Fixed 1) ∷ row 0x0C (Fixed 1) ∷ row 0x0D (Fixed 1) ∷ row 0x0E (Fixed 2) ∷ row 0x0F (Fixed 1)
    ∷ row 0x10 (Fixed 2) ∷ row 0x11 (Fixed 50) ∷ row 0x12 (Fixed 1) ∷ row 0x13 (Fixed 1) ∷ row 0x14 (Fixed 1)
    ∷ row 0x15 (Fixed 1) ∷ row 0x16 (Fixed 1) ∷ row 0x17 (Fixed 1) ∷ row 0x18 (Fixed 1) ∷ []

-- how many octets the body of an element takes, by the octets after its identifier
abbrev pub size_among : List Row → ℕ → List ℕ → Option ℕ
size_among [] n octets = None
size_among (r ∷ rs) n octets = if r.number == n then Some (size_in r.size octets) else size_among rs n octets

unfoldable pub size_of : ℕ → List ℕ → Option ℕ
size_of n octets = size_among table n octets

-- the element of this size, and the octets after it
abbrev pub element_of_size : ℕ → Option ℕ → List ℕ → Result (Element × List ℕ) LinkFault
element_of_size n None octets = Err (UnknownElement n)
element_of_size n (Some size) octets =
    if nat_lt (length octets) size then Err (CutElement n) else Ok
    (record { number = n; body = take size octets }, drop size octets)

-- the element with an identifier at the front of the octets after that
unfoldable pub element_at : ℕ → List ℕ → Result (Element × List ℕ) LinkFault
element_at n octets = element_of_size n (size_of n octets) octets

-- the elements that octets begin with, up to the first fault
abbrev pub elements_in : List ℕ → List Element
elements_in octets = (run_of element_at octets).items

-- the fault of the element after these, if there is one
abbrev pub fault_in : List ℕ → Option LinkFault
fault_in octets = (run_of element_at octets).stop

-- the body of the first element with an identifier: later ones are passed over
abbrev pub first_body : ℕ → List Element → Option (List ℕ)
first_body n [] = None
first_body n (e ∷ es) = if e.number == n then Some e.body else first_body n es
