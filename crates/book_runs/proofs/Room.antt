-- A settled desk's logs have room: no cell was asked more often than the book has orders, so no note says that one was
-- full.
use Rattle.std.specs.Prelude.{◌%◌}
use Rattle.std.proofs.Common.{◌≡◌, ℕ, zero, suc, ◌<◌, ◌≤◌, ◌||◌, Bool, true, false, List, [], ◌∷◌}
use Rattle.std.proofs.Common.{length, map, filter, get_or, eqb, refl, ap, subst, sym, ◌∙◌, arith, inl, inr}
use Rattle.std.specs.List.{All, Contains, list_any}
use Rattle.std.proofs.lemmas.Bool.{cases_lt, false≢true, or_parts}
use Rattle.std.proofs.lemmas.List.{length-map}
use Rattle.std.proofs.lemmas.List.Elements.{All-weaker}
use Rattle.cbsp_wire.specs.declared.message.Cell.{Cell}
use Rattle.cbsp_wire.specs.Range.{is_cell}
use Rattle.alert_book.specs.declared.book.order.Order.{Order as BookOrder}
use Rattle.bsc_table.specs.declared.entry.Entry.{Entry}
use Rattle.bsc_table.specs.Record.{Record}
use Rattle.order_desk.specs.declared.note.Note.{Note}
use Rattle.order_desk.specs.declared.note.Note.TheVariants as notes
use Rattle.order_desk.specs.Agreement.{is_full_of}
use Rattle.book_runs.specs.Live.{Interleaving, asked_by}
use Rattle.book_runs.specs.Run.{Asked, Exchange, asked_of, entries_for, given_slot}
use Rattle.book_runs.specs.Sessions.{asks_of, is_of_command}
use Rattle.book_runs.proofs.Logged.{each_asked}
use Rattle.book_runs.proofs.Noted.{asks_of_cell}
use Rattle.book_runs.proofs.Noted.{numbered, numbered_few, numbered_fewer}
use Rattle.book_runs.proofs.Ordering.{IsOrderOf}
use Rattle.book_runs.proofs.Shares.{share, shares_all, shares_few, total_lt}
use Rattle.book_runs.proofs.AsksOfCell.{asks_of_it}
use Rattle.book_runs.proofs.Parts.{IsAskedOf, Service, part_of}

-- no part past the last asked anything
none_past : (s : Service) (r : Record) → IsAskedOf s r → (q : ℕ)
    → s.parts ≤ q → part_of s r.cell q ≡ []
none_past s r is q past =
    ap (λ (exchanges : List Exchange). numbered r.cell (asks_of s.book.cells exchanges)
    (filter is_of_command (get_or s.passes q []))) (is.past q past)

marks_below : (parts : ℕ) (order : Interleaving) → ((q : ℕ) → parts ≤ q → asked_by q order ≡ [])
    → All (λ (a : ℕ × Asked). a.0 < parts) order
marks_below parts order none = All-weaker (λ (a : ℕ × Asked). Contains (asked_by a.0 order) a.1)
    (λ (a : ℕ × Asked). a.0 < parts) below order (each_asked order)
  where
    below : (a : ℕ × Asked) → Contains (asked_by a.0 order) a.1 → a.0 < parts
    below a there = elim (cases_lt a.0 parts) [
      | inl within ↦ within
      | inr past ↦
          let nothing = subst (λ (list : List Asked). Contains list a.1) (none a.0 past) there in
          absurd (empty nothing.0 nothing.1)
    ]
      where
        empty : (k : ℕ) → k < 0 → ⊥
        empty k within = omega arith

-- a log has an entry for each command that its cell was asked
pub as_many_entries : (slots clock : ℕ) (asked : List Asked) → length (entries_for slots clock asked) ≡ length asked
as_many_entries slots clock [] = refl
as_many_entries slots clock (a ∷ asked) = ap suc (as_many_entries slots (given_slot slots clock a.at) asked)

-- how many entries of the order are of a part, and how many orders of the book
abbrev entries_of : {slots : ℕ} {log : List Entry} {parts : ℕ → List (ℕ × Asked)} → IsOrderOf slots log parts → ℕ → ℕ
entries_of whole q = share (λ (a : ℕ × Asked). a.0) whole.order q

abbrev orders_of : Service → ℕ → ℕ
orders_of s q = share (λ (o : BookOrder). o.number % s.parts) s.book.orders q

-- they are those that are numbered
entries_are : (s : Service) (r : Record) (whole : IsOrderOf r.slots r.log (part_of s r.cell)) (q : ℕ)
    → entries_of whole q ≡ length (part_of s r.cell q)
entries_are s r whole q =
    sym (length-map (filter (λ (a : ℕ × Asked). eqb a.0 q) whole.order) (λ (a : ℕ × Asked). a.1))
    ∙ ap length (whole.own q)
    ∙ length-map (part_of s r.cell q) (λ (x : ℕ × Asked). x.1)

-- of which there are no more than the part's session asked of the cell
asks_are : (s : Service) (r : Record) → IsAskedOf s r → (q : ℕ)
    → length (asks_of_cell r.cell (asks_of s.book.cells (get_or s.sessions q [])))
    ≡ length (asked_of r.cell (get_or s.sessions q []))
asks_are s r is q =
    sym (length-map (asks_of_cell r.cell (asks_of s.book.cells (get_or s.sessions q []))) (λ (a : Cell × Asked). a.1))
    ∙ ap length (asks_of_it s.book.cells r.cell (get_or s.sessions q []) is.among)

part_few : (s : Service) (r : Record) → IsAskedOf s r → (whole : IsOrderOf r.slots r.log (part_of s r.cell)) (q : ℕ)
    → q < s.parts → entries_of whole q ≤ orders_of s q
part_few s r is whole q within =
    let own = entries_are s r whole q in
    let noted = numbered_few s.records r.cell (asks_of s.book.cells (get_or s.sessions q []))
    (filter is_of_command (get_or s.passes q [])) (is.noted q) in
    let of_it = asks_are s r is q in
    let few = is.few q within in
    omega (arith, own, noted, of_it, few)

-- and fewer in a part whose pass says that the cell's log was full
full_within : (s : Service) (r : Record) → IsAskedOf s r → (q : ℕ)
    → list_any (is_full_of r.cell) (filter is_of_command (get_or s.passes q [])) ≡ true → q < s.parts
full_within s r is q full = elim (cases_lt q s.parts) [
  | inl within ↦ within
  | inr past ↦
      let fewer = numbered_fewer s.records r.cell (asks_of s.book.cells (get_or s.sessions q []))
      (filter is_of_command (get_or s.passes q [])) (is.noted q) full in
      let none : length (asks_of_cell r.cell (asks_of s.book.cells (get_or s.sessions q []))) ≡ 0 =
      ap (λ (exchanges : List Exchange). length (asks_of_cell r.cell (asks_of s.book.cells exchanges)))
      (is.past q past) in
      absurd (omega (arith, fewer, none))
]

part_fewer : (s : Service) (r : Record) → IsAskedOf s r → (whole : IsOrderOf r.slots r.log (part_of s r.cell)) (q : ℕ)
    → list_any (is_full_of r.cell) (filter is_of_command (get_or s.passes q [])) ≡ true
    → entries_of whole q < orders_of s q
part_fewer s r is whole q full =
    let own = entries_are s r whole q in
    let noted = numbered_fewer s.records r.cell (asks_of s.book.cells (get_or s.sessions q []))
    (filter is_of_command (get_or s.passes q [])) (is.noted q) full in
    let of_it = asks_are s r is q in
    let few = is.few q (full_within s r is q full) in
    omega (arith, own, noted, of_it, few)

-- so its log has fewer entries than the book has orders, if a pass says that it was full
pub log_fewer : (s : Service) (r : Record) → IsAskedOf s r
    → IsOrderOf r.slots r.log (part_of s r.cell) → (q : ℕ)
    → list_any (is_full_of r.cell) (filter is_of_command (get_or s.passes q [])) ≡ true
    → length r.log < length s.book.orders
log_fewer s r is whole q full =
    let order : Interleaving = whole.order in
    let entered : length r.log ≡ length order =
    ap length whole.entries ∙ as_many_entries r.slots 0 (map (λ a. a.1) order)
    ∙ length-map order (λ (a : ℕ × Asked). a.1) in
    let all = shares_all (λ (a : ℕ × Asked). a.0) order s.parts (marks_below s.parts order none) in
    let less = total_lt (share (λ (a : ℕ × Asked). a.0) order)
    (share (λ (o : BookOrder). o.number % s.parts) s.book.orders) s.parts (part_few s r is whole) q
    (full_within s r is q full) (part_fewer s r is whole q full) in
    let few = shares_few (λ (o : BookOrder). o.number % s.parts) s.book.orders s.parts in
    omega (arith, entered, all, less, few)
  where
    none : (q : ℕ) → s.parts ≤ q → asked_by q whole.order ≡ []
    none q past = whole.own q ∙ ap (map (λ (x : ℕ × Asked). x.1))
        (none_past s r is q past)

-- a pass that says so, if any does
pub some_full : (cell : Cell) (passes : List (List Note)) → list_any (list_any (is_full_of cell)) passes ≡ true
    → (q : ℕ) × (list_any (is_full_of cell) (get_or passes q []) ≡ true)
some_full cell [] some = absurd (false≢true some)
some_full cell (pass ∷ passes) some =
    by_first (list_any (is_full_of cell) pass) refl some (some_full cell passes)
  where
    by_first : (here : Bool) → list_any (is_full_of cell) pass ≡ here
        → (here || list_any (list_any (is_full_of cell)) passes) ≡ true
        → (list_any (list_any (is_full_of cell)) passes ≡ true
        → (q : ℕ) × (list_any (is_full_of cell) (get_or passes q []) ≡ true))
        → (q : ℕ) × (list_any (is_full_of cell) (get_or (pass ∷ passes) q []) ≡ true)
    by_first true is any later = (0, is)
    by_first false is any later = let rest = later any in (suc rest.0, rest.1)

-- no note says that it was full
pub none_full : (cell : Cell) (passes : List (List Note)) → list_any (list_any (is_full_of cell)) passes ≡ false
    → (q : ℕ) → list_any (is_full_of cell) (get_or passes q []) ≡ false
none_full cell [] none q = refl
none_full cell (pass ∷ passes) none zero =
    (or_parts (list_any (is_full_of cell) pass) (list_any (list_any (is_full_of cell)) passes) none).0
none_full cell (pass ∷ passes) none (suc q) =
    none_full cell passes
    (or_parts (list_any (is_full_of cell) pass) (list_any (list_any (is_full_of cell)) passes) none).1 q

-- the notes of commands tell of a full log exactly if all notes do
pub full_kept : (cell : Cell) (list : List Note)
    → list_any (is_full_of cell) (filter is_of_command list) ≡ list_any (is_full_of cell) list
full_kept cell [] = refl
full_kept cell (notes.Event c number entry ∷ later) = full_kept cell later
full_kept cell (notes.Played c from to ∷ later) = full_kept cell later
full_kept cell (notes.Full c ∷ later) = ap (λ b. is_cell cell c || b) (full_kept cell later)
