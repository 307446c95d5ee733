use Rattle.std.proofs.Common.{◌≡◌, ◌∙◌, ◌++◌, List, [], ap, drop, length, map, subst, sym, take}
use native.Mathlib.Omega.{arith}
use Rattle.std.specs.List.{AllZip}
use Rattle.std.proofs.lemmas.List.{take-append-le, take_all}
use Rattle.cbsp_wire.specs.declared.message.Cell.{Cell}
use Rattle.bsc_table.specs.Record.{Record}
use Rattle.bsc_table.specs.Transitions.{opened}
use Rattle.order_desk.specs.Settled.{IsPlayedOut}
use Rattle.session_check.specs.AloneSteps.{HaveServed}
use Rattle.session_check.specs.NotedSteps.{record_cells}
use Rattle.session_check.proofs.Served.{new_cells, new_served, place_within}
use Rattle.session_check.proofs.Serving.{is_run}
use Rattle.session_check.proofs.alone.run_alone.Goals as goal

pub serve-requires-clause-cells : goal.serve-requires-clause-cells
serve-requires-clause-cells g c κs within =
    ap record_cells c.as_mut_slice.ensures.value ∙ ap record_cells c.in_ok-books.ensures
    ∙ new_cells c.args.slots c.cells.result.now ∙ c.cells.ensures

pub serve-requires-clause-new : goal.serve-requires-clause-new
serve-requires-clause-new g c κs within =
    let slots = c.args.slots in (
      slots,
      subst (HaveServed slots (λ cell. [])) (sym (c.as_mut_slice.ensures.value ∙ c.in_ok-books.ensures))
          (new_served slots c.cells.result.now),
    )

pub returns : goal.returns
returns g c =
    let slots = c.args.slots in
    let cells = c.args.book.now.cells in
    let books = c.serve.new.books in
    let items = c.in_ok-books.books.items in
    let served = c.in_ok-serve.ensures in
    let first = c.as_mut_slice.result.now in
    let first_is : first ≡ map (λ (cell : Cell). opened cell slots) c.cells.result.now =
    c.as_mut_slice.ensures.value ∙ c.in_ok-books.ensures in
    let first_cells : record_cells first ≡ cells =
    ap record_cells first_is ∙ new_cells slots c.cells.result.now ∙ c.cells.ensures in
    let count : c.in_ok-books.books.len ≡ length books = omega (
      arith,
      c.as_mut_slice.ensures.len,
      place_within cells first first_cells,
      place_within cells books served.same,
    ) in
    let all : take c.in_ok-books.books.len (books ++ drop (length books) items) ≡ books =
    take-append-le c.in_ok-books.books.len books (drop (length books) items) (omega (arith, count))
    ∙ take_all c.in_ok-books.books.len books (omega (arith, count)) in
    let new : HaveServed slots (λ cell. []) first =
    subst (HaveServed slots (λ cell. [])) (sym first_is) (new_served slots c.cells.result.now) in (
      served.exchanges,
      is_run c.args.book.now slots first books c.in_ok-records.records.items served new
          (subst (λ (them : List Record). AllZip IsPlayedOut them c.in_ok-records.records.items) all
          c.in_ok-records.ensures),
    )
