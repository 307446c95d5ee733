use Rattle.std.proofs.Common.{◌≡◌, ◌∙◌, ◌-◌, ◌<◌, ◌++◌, ◌∷◌, [], All, Some, length, sym, ap, subst, refl}
use Rattle.std.specs.Option.{option_map}
use Rattle.std.proofs.lemmas.Option.{slice_get-map, slice_get_read}
use Rattle.cbch_blocks.specs.RecordBlocks.{tape_of_record}
use Rattle.tickets.specs.Draws.{SeatState}
use Rattle.parallel_compile.specs.Gathered.{piece_numbers}
use Rattle.parallel_compile.specs.Workers.{IsPieceOfRecord}
use Rattle.parallel_compile.proofs.Drawn.{above, fewer_left}
use Rattle.parallel_compile.proofs.Numbers.{numbers_more}
use Rattle.parallel_compile.proofs.Putting.{all_more}
use Rattle.parallel_compile.proofs.work.draw_all.Goals as goal

-- src/work.rt:57:5
pub loop-index-smaller : goal.loop-index-smaller
loop-index-smaller g c =
    let drawn = c.in-Some.ensures.some in
    subst (λ (s : SeatState). c.args.counter.now.limit - above s.drawn
    < c.args.counter.now.limit - above c.loop-index.seat.drawn) (sym drawn.1)
    (fewer_left c.args.counter.now.limit c.in-Some.index c.loop-index.seat.drawn drawn.0 c.in-Some.ensures.rising)

-- src/work.rt:57:5
pub loop-index-preserved : goal.loop-index-preserved
loop-index-preserved g c =
    let drawn = c.in-Some.ensures.some in
    let within : c.in-Some.index < length c.args.records.now =
    subst (λ k. c.in-Some.index < k) c.requires.limit drawn.0 in
    let items : c.push.new.self.items ≡ c.loop-index.pieces.items ++ (c.in-Some.index, c.in_ok-tape.tape) ∷ [] =
    c.in_ok-push.ensures.items in
    let tape : IsPieceOfRecord c.args.records.now (c.in-Some.index, c.in_ok-tape.tape) =
    slice_get-map tape_of_record c.args.records.now c.in-Some.index
    ∙ ap (option_map tape_of_record) (slice_get_read c.args.records.now (length c.args.records.now) c.in-Some.index
    c.index-records-index.result refl within c.index-records-index.is)
    ∙ ap Some (sym c.in_ok-tape.ensures) in
    record {
      of = c.draw.ensures.seat.0;
      parts = c.draw.ensures.seat.1 ∙ c.loop-index.invariant.parts;
      drawn = ap piece_numbers items ∙ numbers_more c.loop-index.pieces.items c.in-Some.index c.in_ok-tape.tape
          ∙ ap (λ l. l ++ c.in-Some.index ∷ []) c.loop-index.invariant.drawn
          ∙ sym (ap (λ (s : SeatState). s.drawn) drawn.1);
      made = subst (All (IsPieceOfRecord c.args.records.now)) (sym items)
          (all_more (IsPieceOfRecord c.args.records.now) _ _ c.loop-index.invariant.made tape);
    }
