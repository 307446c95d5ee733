use Rattle.std.proofs.Common.{◌≡◌, ◌∙◌, ◌<◌, Some, length, get_or, set, ap, sym, subst, refl, false, arith}
use Rattle.std.specs.List.{slice_get}
use Rattle.std.proofs.lemmas.List.{set-get_or}
use Rattle.std.proofs.lemmas.Option.{get_or_from_slice_get, slice_get-get_or, slice_get_read, slice_get_within}
use Rattle.cbsp_wire.specs.declared.message.Cell.{Cell}
use Rattle.parallel_compile.specs.declared.filling.Filling.{Filling}
use Rattle.parallel_compile.specs.StreamSteps.{FitsTape}
use Rattle.parallel_compile.proofs.Filled.{one_filled}
use Rattle.parallel_compile.proofs.board.fill.Goals as goal
use Rattle.parallel_compile.proofs.board.fill.Goals.{else-place-cells-via-then-place-cells+else-place-len}
use Rattle.parallel_compile.proofs.board.fill.Goals.{else-place-cells-via-else-place-cells}

pub returns-then-place-len-clause-stays : goal.returns-then-place-len-clause-stays
returns-then-place-len-clause-stays c =
    one_filled (record { cells = c.args.cells.now; slots = c.args.slots }) c.args.fillings.now.items
    c.args.numbered.now.number c.index_mut.result.now c.put.new.self c.requires
    (omega (arith, c.if-place-len.true, c.len.ensures)) c.index_mut.ensures.value c.put.ensures.stays

pub returns-then-place-len-clause-taken : goal.returns-then-place-len-clause-taken
returns-then-place-len-clause-taken c took =
    let put = c.put.ensures.put took in
    let number = c.args.numbered.now.number in
    let fillings = c.args.fillings.now.items in
    let within : number < length fillings = omega (arith, c.if-place-len.true, c.len.ensures) in
    record {
      place = put.0;
      has = record {
        cell = get_or c.args.cells.now number (record { lac = 0; ci = 0 });
        filling = c.index_mut.result.now;
        named = slice_get-get_or c.args.cells.now number (record { lac = 0; ci = 0 }) c.if-place-cells.true;
        there = slice_get_read fillings (length fillings) number c.index_mut.result.now refl within
            c.index_mut.ensures.value;
        fits = put.1;
        free = put.2;
      };
      filled = c.put.new.self;
      put = put.3;
      now = refl;
    }

pub returns-then-place-len-clause-left : goal.returns-then-place-len-clause-left
returns-then-place-len-clause-left c not =
    let left = c.put.ensures.left not in
    let number = c.args.numbered.now.number in
    let fillings = c.args.fillings.now.items in
    let old : Filling = c.index_mut.result.now in (
      ap (set fillings number) (left.0 ∙ c.index_mut.ensures.value) ∙ set-get_or fillings number old,
      λ k has.
          let cell : get_or c.args.cells.now number (record { lac = 0; ci = 0 }) ≡ has.cell =
          get_or_from_slice_get c.args.cells.now number has.cell (record { lac = 0; ci = 0 }) has.named in
          let filling : old ≡ has.filling = c.index_mut.ensures.value
          ∙ get_or_from_slice_get fillings number has.filling old has.there in
          left.1 k (subst (λ (own : Cell). FitsTape own c.args.slots k c.args.numbered.now.piece) (sym cell) has.fits)
          (subst (λ (f : Filling). slice_get f.came.items k ≡ Some false) (sym filling) has.free),
    )

pub returns-else-place-cells-clause-left : goal.returns-else-place-cells-clause-left
returns-else-place-cells-clause-left c not = (
  refl,
  λ k has.
      let number = c.args.numbered.now.number in
      let cell = slice_get_within c.args.cells.now number has.cell has.named in
      let filling = slice_get_within c.args.fillings.now.items number has.filling has.there in
      elim c.else-place-cells.branch [
        | else-place-cells-via-then-place-cells+else-place-len w ↦
            omega (arith, filling, w.if-place-len.false, w.len.ensures)
        | else-place-cells-via-else-place-cells w ↦ omega (arith, cell, w.if-place-cells.false)
      ],
)
