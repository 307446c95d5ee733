use Rattle.std.proofs.Common.{◌≡◌, ◌-◌, ◌∙◌, ap, drop, length, sym}
use Rattle.std.proofs.lemmas.List.{take_rest}
use Rattle.std.proofs.lemmas.Result.{IfOk-weaker}
use Rattle.gsmtap.specs.File.{number_in}
use Rattle.gsmtap.specs.PieceSteps.{section_of}
use Rattle.gsmtap.proofs.PieceSteps.{meaning_is}
use Rattle.gsmtap.proofs.pieces.Reader.enter_block.Goals as goal

pub returns : goal.returns
returns c =
    let octets = c.args.octets.now in
    let again : number_in c.in-Some.order (drop (length octets - 4) octets) ≡ length octets =
    ap (number_in c.in-Some.order) (sym (take_rest octets (length octets - 4))) ∙ sym c.number_in-again.ensures
    ∙ c.if-again-octets.false in
    IfOk-weaker c.enter_body.result _ _ (λ found is. is
    ∙ meaning_is (section_of c.args.self.now) octets c.in-Some.order c.number_in.result (sym c.in-Some.ensures) again
    c.number_in.ensures)
    c.enter_body.ensures
