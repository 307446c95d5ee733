-- What holds of network books by their definition alone. Own.
use Rattle.std.specs.Prelude.{◌≡◌, ℕ, List}
use Rattle.alert_book.specs.declared.fault.BookFault.{BookFault}
use Rattle.alert_book.specs.Book.{Contents, IsBook, Rows}
use Rattle.alert_book.specs.Network.{HasGroups, IsGroupBook, IsNetwork, IsWrongNetwork}

-- a book is a network book of one group, whose book it is
abbrev pub BooksAreNetworks : Type 0
BooksAreNetworks = (input : List ℕ) (book : Contents)
    → IsBook input book
    → IsGroupBook 0 input book × HasGroups 0 input 1

-- octets that are a network book for one group are one for each, with the same cells
abbrev pub NetworksAreOne : Type 0
NetworksAreOne = (group other : ℕ) (input : List ℕ) (rows : Rows)
    → IsNetwork group input rows
    → (others : Rows) × IsNetwork other input others × (others.cells ≡ rows.cells)

-- and all groups count as many groups
abbrev pub CountsAreOne : Type 0
CountsAreOne = (group other : ℕ) (input : List ℕ) (groups others : ℕ)
    → HasGroups group input groups
    → HasGroups other input others
    → groups ≡ others

-- a network book has no fault, whichever group reads it
abbrev pub NetworksAreRight : Type 0
NetworksAreRight = (group other : ℕ) (input : List ℕ) (groups : ℕ) (f : BookFault)
    → HasGroups group input groups
    → IsWrongNetwork other input f
    → ⊥

-- and octets have one fault at most, the same for all groups
abbrev pub NetworkFaultsAreOne : Type 0
NetworkFaultsAreOne = (group other : ℕ) (input : List ℕ) (f others : BookFault)
    → IsWrongNetwork group input f
    → IsWrongNetwork other input others
    → f ≡ others
