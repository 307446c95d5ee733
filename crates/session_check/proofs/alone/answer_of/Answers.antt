use Rattle.std.proofs.Common.{◌≡◌, ◌<◌, ◌≤◌, Some, get_or, length, true, slice_get, rules}
use native.Mathlib.Omega.{arith}
use Rattle.std.proofs.lemmas.List.{get_or_default}
use Rattle.std.proofs.lemmas.Option.{slice_get_within}
use Rattle.cbsp_wire.specs.Range.{are_distinct}
use Rattle.session_check.proofs.Noted.{none_of, some_of}
use Rattle.session_check.proofs.Served.{answered_place, answered_unknown, place_within, room_at}
use Rattle.session_check.proofs.alone.answer_of.Goals as goal

pub returns-in_default : goal.returns-in_default
returns-in_default g c =
    answered_unknown c.args.cells.now c.args.at c.args.command.now c.args.cell c.args.books.now c.requires.cells
    (none_of c.args.place c.in_default.is c.requires.foreign) c.requires.ordered

pub overflow_cast-place : goal.overflow_cast-place
overflow_cast-place g c =
    let there = some_of (λ place. slice_get c.args.cells.now place ≡ Some c.args.cell) c.args.place c.in-Some.place
    c.in-Some.is c.requires.there in
    let few : length c.args.cells.now ≤ 64 = search (rules, c.requires.valid) in
    omega (arith, few, slice_get_within c.args.cells.now c.in-Some.place c.args.cell there)

pub offset_bounds-books-place : goal.offset_bounds-books-place
offset_bounds-books-place g c =
    let there = some_of (λ place. slice_get c.args.cells.now place ≡ Some c.args.cell) c.args.place c.in-Some.place
    c.in-Some.is c.requires.there in
    let few : length c.args.cells.now ≤ 64 = search (rules, c.requires.valid) in
    omega (arith, few, slice_get_within c.args.cells.now c.in-Some.place c.args.cell there)

pub bounds-books-place : goal.bounds-books-place
bounds-books-place g c =
    let there = some_of (λ place. slice_get c.args.cells.now place ≡ Some c.args.cell) c.args.place c.in-Some.place
    c.in-Some.is c.requires.there in
    omega (
      arith,
      slice_get_within c.args.cells.now c.in-Some.place c.args.cell there,
      place_within c.args.cells.now c.args.books.now c.requires.cells,
    )

pub ask-requires-clause-room : goal.ask-requires-clause-room
ask-requires-clause-room g c =
    let books = c.args.books.now in
    let place = c.in-Some.place in
    let there = some_of (λ at. slice_get c.args.cells.now at ≡ Some c.args.cell) c.args.place place c.in-Some.is
    c.requires.there in
    let inside : place < length books = omega (
      arith,
      slice_get_within c.args.cells.now place c.args.cell there,
      place_within c.args.cells.now books c.requires.cells,
    ) in
    room_at c.args.cells.now c.args.cell place books (get_or books place c.index-books-place.result) c.requires.cells
    there (get_or_default books place c.index-books-place.result
    (get_or books place c.index-books-place.result) inside) c.requires.room

pub returns : goal.returns
returns g c =
    let books = c.args.books.now in
    let place = c.in-Some.place in
    let there = some_of (λ at. slice_get c.args.cells.now at ≡ Some c.args.cell) c.args.place place c.in-Some.is
    c.requires.there in
    let distinct : are_distinct c.args.cells.now ≡ true = search (rules, c.requires.valid) in
    let before = get_or books place c.index-books-place.result in
    let within : place < length books = omega (
      arith,
      slice_get_within c.args.cells.now place c.args.cell there,
      place_within c.args.cells.now books c.requires.cells,
    ) in
    answered_place c.args.cells.now c.args.at c.args.command.now c.args.cell place books c.ask.result before
    c.ask.new.book c.requires.cells distinct there
    (get_or_default books place c.index-books-place.result before within) c.ask.ensures
