-- The sessions of a settled desk asked each cell in one order, and its log has the entries of that.
use Rattle.std.proofs.Common.{◌≡◌, ℕ, ◌<◌, ◌≤◌, false, List, []}
use Rattle.std.proofs.Common.{length, map, filter, get_or, refl, ◌∙◌, arith, inl, inr}
use Rattle.std.specs.List.{list_any}
use Rattle.std.proofs.lemmas.Bool.{cases_Bool}
use Rattle.bsc_table.specs.Record.{Record}
use Rattle.order_desk.specs.Agreement.{is_full_of}
use Rattle.book_runs.specs.Live.{Interleaving, asked_by}
use Rattle.book_runs.specs.Run.{Exchange, asked_of, entries_for}
use Rattle.book_runs.specs.Sessions.{asks_of, is_of_command}
use Rattle.book_runs.proofs.Noted.{numbered_all}
use Rattle.book_runs.proofs.Ordering.{order_of_parts}
use Rattle.book_runs.proofs.AsksOfCell.{asks_of_it}
use Rattle.book_runs.proofs.Parts.{IsAskedOf, Service, are_parts, part_of}
use Rattle.book_runs.proofs.Room.{full_kept, log_fewer, none_full, some_full}

-- the order in which the sessions asked the cell, each all that it asked
pub record IsAskedInOrder (sessions : List (List Exchange)) (r : Record) : Type 0 where
  pub order : Interleaving
  pub own : (q : ℕ) → asked_by q order ≡ asked_of r.cell (get_or sessions q [])
  pub entries : r.log ≡ entries_for r.slots 0 (map (λ a. a.1) order)

-- a cell was asked what each session asked, in that session's order
pub asked_in_order : (s : Service) (r : Record) → IsAskedOf s r
    → IsAskedInOrder s.sessions r
asked_in_order s r is =
    let whole = order_of_parts r.slots r.log (part_of s r.cell)
    (are_parts s r is) in
    let room : list_any (list_any (is_full_of r.cell)) s.passes ≡ false = elim
    (cases_Bool (list_any (list_any (is_full_of r.cell)) s.passes)) [
      | inl full ↦
          let pass = some_full r.cell s.passes full in
          let fewer = log_fewer s r is whole pass.0
          (full_kept r.cell (get_or s.passes pass.0 []) ∙ pass.1) in
          absurd (too_few fewer ((is.right 4096).full refl full) is.orders)
      | inr none ↦ none
    ] in
    record {
      order = whole.order;
      own = λ q. whole.own q
          ∙ numbered_all s.records r.cell (asks_of s.book.cells (get_or s.sessions q []))
          (filter is_of_command (get_or s.passes q [])) (is.noted q)
          (full_kept r.cell (get_or s.passes q []) ∙ none_full r.cell s.passes room q)
          ∙ asks_of_it s.book.cells r.cell (get_or s.sessions q []) is.among;
      entries = whole.entries;
    }
  where
    too_few : length r.log < length s.book.orders → 4096 ≤ length r.log → length s.book.orders ≤ 4096 → ⊥
    too_few fewer full few = omega arith
