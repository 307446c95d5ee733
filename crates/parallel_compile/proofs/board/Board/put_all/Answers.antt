use Rattle.std.proofs.Common.{List, subst, sym, take}
use Rattle.cbsp_wire.specs.declared.message.Cell.{Cell}
use Rattle.parallel_compile.specs.StreamSteps.{AreFillings, HasCome, HaveCome}
use Rattle.parallel_compile.proofs.Came.{one_more_came, taken_one}
use Rattle.parallel_compile.proofs.board.Board.put_all.Goals as goal

pub loop-numbered-preserved : goal.loop-numbered-preserved
loop-numbered-preserved c =
    let desk = c.args.desk.now in
    let before = c.loop-numbered.self in
    let after = c.put.new.self in
    let numbered = c.numbered-item.result in
    let place = c.loop-numbered.numbered-index in
    let stays = subst (λ (own : List Cell). AreFillings (record { cells = own; slots = desk.slots })
    after.fillings.items) c.cells.ensures.cells (subst (λ slots. AreFillings (record {
      cells = c.cells.result.now;
      slots = slots;
    }) after.fillings.items) c.slots.ensures c.put.ensures.stays) in
    let come = subst (λ (own : List Cell). HasCome (record { cells = own; slots = desk.slots }) numbered before after)
    c.cells.ensures.cells (subst (λ slots. HasCome (record { cells = c.cells.result.now; slots = slots }) numbered
    before after) c.slots.ensures c.put.ensures.come) in
    record {
      stays = stays;
      come = subst (λ pieces. HaveCome desk pieces c.args.self.now after)
          (sym (taken_one c.args.pieces.now place numbered c.loop-numbered-test.true (sym c.numbered-item.is)))
          (one_more_came desk (take place c.args.pieces.now) numbered c.args.self.now before after
          c.loop-numbered.invariant.come come);
    }
