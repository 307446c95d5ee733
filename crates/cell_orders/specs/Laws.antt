-- What follows from the definitions alone. Own.
use Rattle.std.specs.Prelude.{◌≡◌, ◌⊎◌, true, List, [], ◌∷◌, None, IfSome, All, IsPermutation, filter, map, unwrap_or}
use Rattle.cbsp_wire.specs.declared.message.Cell.{Cell}
use Rattle.cell_orders.specs.declared.heard.Heard.{Heard}
use Rattle.cell_orders.specs.Exchange.{LinkExchange, answers, awaited_by, concerns, exchanges}

-- what concerns the cell, in the order in which it came
abbrev pub concerning : Cell → List Heard → List Heard
concerning cell heard = filter (λ h. concerns cell h.message) heard

abbrev pub begun_by : List LinkExchange → List Heard
begun_by es = map (λ e. e.order) es

-- each message that concerns the cell has one exchange, and there are no others
abbrev pub EachHasOne : Type 0
EachHasOne =
    (cell : Cell) (heard : List Heard) → IsPermutation (begun_by (exchanges cell heard)) (concerning cell heard)

-- the answer of an exchange answers its order; what waits for no answer is its own
abbrev pub IsOwn : LinkExchange → Heard → Type 0
IsOwn e h = (awaited_by e.order.message ≡ None) × (h ≡ e.order)

abbrev pub HasOwnAnswer : Cell → LinkExchange → Type 0
HasOwnAnswer cell e = IfSome e.answer (λ h. IsOwn e h ⊎ (answers cell h e.order ≡ true))

abbrev pub AllHaveTheirs : Type 0
AllHaveTheirs = (cell : Cell) (heard : List Heard) → All (HasOwnAnswer cell) (exchanges cell heard)

-- the last message of an exchange: its answer, or its order if none came
abbrev pub last_heard : LinkExchange → Heard
last_heard e = unwrap_or e.answer e.order

-- a list is another one, from which some were left out
abbrev pub IsSelection : List Heard → List Heard → Type 0
IsSelection [] whole = Unit {0}
IsSelection (x ∷ xs) [] = ⊥
IsSelection (x ∷ xs) (y ∷ ys) = ((x ≡ y) × IsSelection xs ys) ⊎ IsSelection (x ∷ xs) ys

-- exchanges stand in the order of their last messages
abbrev pub AreByLast : Type 0
AreByLast = (cell : Cell) (heard : List Heard) → IsSelection (map last_heard (exchanges cell heard)) heard
