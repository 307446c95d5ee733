-- What the sessions of a settled desk asked of one cell: numbered as their passes noted it, it is parts of the cell's
-- log.
use Rattle.std.proofs.Common.{◌≡◌, ℕ, zero, suc, ◌<◌, ◌≤◌, Bool, true, false, cond, Some, List, [], ◌∷◌}
use Rattle.std.proofs.Common.{length, map, filter, get_or, eqb, refl, ap, subst, sym, ◌∙◌}
use Rattle.std.specs.List.{All, AllZip, slice_get}
use Rattle.std.proofs.lemmas.List.Elements.{All-cons, All-head, All-nil, All-same, All-tail, All-weaker}
use Rattle.cbsp_wire.specs.declared.message.Cell.{Cell}
use Rattle.alert_book.specs.Book.{Contents}
use Rattle.alert_book.specs.TurnLaws.{orders_in}
use Rattle.bsc_table.specs.declared.entry.Entry.{Entry}
use Rattle.bsc_table.specs.Record.{Record}
use Rattle.order_desk.specs.declared.note.Note.{Note}
use Rattle.order_desk.specs.Agreement.{AreInPlaceAt, IsRightNumber, is_event_at, times_noted}
use Rattle.book_runs.specs.Run.{Asked, Exchange, asked_of, is_among}
use Rattle.book_runs.specs.Sessions.{IsNoteOf, asks_of, is_of_command}
use Rattle.book_runs.proofs.Cells.{HasSlots}
use Rattle.book_runs.proofs.Events.{events_kept, events_of, events_rise, events_stand, times_of}
use Rattle.book_runs.proofs.Noted.{events_are}
use Rattle.book_runs.proofs.Noted.{noted_entry, numbered}
use Rattle.book_runs.proofs.Numbered.{Rise, items_at, numbers_of, only_in_one}
use Rattle.book_runs.proofs.Ordering.{AreParts, IsOfPart, entry_of}

-- numbers stay where what is numbered is mapped
same_numbers : {X Y : Type 0} (f : ℕ × X → Y) (items : List (ℕ × X))
    → numbers_of (map (λ x. (x.0, f x)) items) ≡ numbers_of items
same_numbers f [] = refl
same_numbers f (x ∷ items) = ap (λ later. x.0 ∷ later) (same_numbers f items)

as_many_at : {X Y : Type 0} (f : ℕ × X → Y) (k : ℕ) (items : List (ℕ × X))
    → length (items_at k (map (λ x. (x.0, f x)) items)) ≡ length (items_at k items)
as_many_at f k [] = refl
as_many_at {X = X} {Y = Y} f k (x ∷ items) = by_test (eqb x.0 k) (as_many_at f k items)
  where
    by_test : (b : Bool) → length (items_at k (map (λ y. (y.0, f y)) items)) ≡ length (items_at k items)
        → length (cond b ((x.0, f x) ∷ items_at k (map (λ y. (y.0, f y)) items))
        (items_at k (map (λ y. (y.0, f y)) items)))
        ≡ length (cond b (x ∷ items_at k items) (items_at k items))
    by_test true same = ap suc same
    by_test false same = same

unmapped : {X Y : Type 0} (P : Y → Type 0) (f : X → Y) (xs : List X) → All P (map f xs) → All (λ x. P (f x)) xs
unmapped P f [] all = All-nil (λ (x : _). P (f x))
unmapped P f (x ∷ xs) all =
    All-cons (λ (y : _). P (f y)) x xs (All-head P (f x) (map f xs) all)
    (unmapped P f xs (All-tail P (f x) (map f xs) all))

-- what holds of each element, and of the default, holds at each place
pub holds_at : {X : Type 0} (P : X → Type 0) (xs : List X) (d : X) → All P xs → P d → (q : ℕ) → P (get_or xs q d)
holds_at P [] d all past q = past
holds_at P (x ∷ xs) d all past zero = All-head P x xs all
holds_at P (x ∷ xs) d all past (suc q) = holds_at P xs d (All-tail P x xs all) past q

-- a book whose parts were served: the exchanges of their sessions, what the passes noted, and the settled desk's
-- records
pub record Service : Type 0 where
  pub book : Contents
  pub parts : ℕ
  pub records : List Record
  pub passes : List (List Note)
  pub sessions : List (List Exchange)

-- what is known of one cell of it: what each pass noted of commands is what its session asked, the numbers noted are
-- right, the slots of commands are the record's, and each session asked the cell at most as often as its part of the
-- book, of at most 4,096 orders, has some
pub record IsAskedOf (s : Service) (r : Record) : Type 0 where
  pub noted : (q : ℕ) → AllZip (IsNoteOf s.records) (asks_of s.book.cells (get_or s.sessions q []))
      (filter is_of_command (get_or s.passes q []))
  pub right : (k : ℕ) → IsRightNumber r.cell r.log s.passes k
  pub slots : HasSlots s.records r
  pub among : is_among s.book.cells r.cell ≡ true
  pub past : (q : ℕ) → s.parts ≤ q → get_or s.sessions q [] ≡ []
  pub few : (q : ℕ) → q < s.parts
      → length (asked_of r.cell (get_or s.sessions q [])) ≤ length (orders_in s.book q s.parts)
  pub orders : length s.book.orders ≤ 4096

-- what the session of a part asked the cell, with the numbers that its pass noted
abbrev pub part_of : Service → Cell → (q : ℕ) → List (ℕ × Asked)
part_of s cell q =
    numbered cell (asks_of s.book.cells (get_or s.sessions q [])) (filter is_of_command (get_or s.passes q []))

-- they are the numbered parts of its log
events_of_part : (s : Service) (r : Record) → IsAskedOf s r → (q : ℕ)
    → events_of r.cell (get_or s.passes q [])
    ≡ map (λ x. (x.0, noted_entry s.records r.cell x)) (part_of s r.cell q)
events_of_part s r is q =
    sym (events_kept r.cell (get_or s.passes q []))
    ∙ events_are s.records r.cell (asks_of s.book.cells (get_or s.sessions q []))
    (filter is_of_command (get_or s.passes q [])) (is.noted q)

times_of_part : (s : Service) (r : Record) → IsAskedOf s r → (q k : ℕ)
    → length (items_at k (part_of s r.cell q)) ≡ times_noted r.cell k (get_or s.passes q [])
times_of_part s r is q k =
    sym (as_many_at (noted_entry s.records r.cell) k (part_of s r.cell q))
    ∙ ap (λ (items : List (ℕ × Entry)). length (items_at k items))
    (sym (events_of_part s r is q))
    ∙ times_of r.cell k (get_or s.passes q [])

-- what sessions asked of a cell are the parts of its log
pub are_parts : (s : Service) (r : Record) → IsAskedOf s r
    → AreParts r.slots r.log (part_of s r.cell)
are_parts s r is = record { rise = rise; stand = stand; each = each }
  where
    placed : (q k : ℕ) → AreInPlaceAt r.cell r.log k [] (get_or s.passes q [])
    placed q k = holds_at (AreInPlaceAt r.cell r.log k []) s.passes [] (is.right k).placed tt q

    rise : (q : ℕ) → Rise (numbers_of (part_of s r.cell q))
    rise q = subst Rise
        (ap numbers_of (events_of_part s r is q)
        ∙ same_numbers (noted_entry s.records r.cell) (part_of s r.cell q))
        (events_rise r.cell r.log [] (get_or s.passes q []) (placed q))

    stand : (q : ℕ) → All (λ x. slice_get r.log x.0 ≡ Some (entry_of r.slots r.log x))
        (part_of s r.cell q)
    stand q = All-weaker (λ (x : ℕ × Asked). slice_get r.log x.0 ≡ Some (noted_entry s.records r.cell x))
        (λ (x : ℕ × Asked). slice_get r.log x.0 ≡ Some (entry_of r.slots r.log x))
        (λ x there. there ∙ ap (λ s. Some (record { command = x.1.command; slot = s; answer = x.1.answer }))
        (is.slots x.0 x.1.at))
        (part_of s r.cell q)
        (unmapped (λ (e : ℕ × Entry). slice_get r.log e.0 ≡ Some e.1)
        (λ (x : ℕ × Asked). (x.0, noted_entry s.records r.cell x)) (part_of s r.cell q)
        (All-same (λ (e : ℕ × Entry). slice_get r.log e.0 ≡ Some e.1)
        (map (λ (x : ℕ × Asked). (x.0, noted_entry s.records r.cell x)) (part_of s r.cell q))
        (events_of r.cell (get_or s.passes q []))
        (sym (events_of_part s r is q))
        (events_stand r.cell r.log [] (get_or s.passes q []) (placed q))))

    each : (k : ℕ) → k < length r.log → (part : ℕ) × IsOfPart (part_of s r.cell) k part
    each k within =
        let one = only_in_one (is_event_at r.cell k) s.passes ((is.right k).once within) in (
          one.0,
          record {
            once = times_of_part s r is one.0 k ∙ one.1.once;
            others = λ q differs. times_of_part s r is q k ∙ one.1.others q differs;
          },
        )
