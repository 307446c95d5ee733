use Rattle.std.proofs.Common.{◌≡◌, ◌∙◌, None, Some, ap, cond, rules}
use Rattle.std.specs.Option.{option_or}
use Rattle.cbsp_wire.specs.Range.{is_cell}
use Rattle.warnc_verdict.proofs.Judged.{first-kept}
use Rattle.warnc_verdict.proofs.verify.CellTapeTakesRecordings.take.Goals as goal

pub returns : goal.returns
returns c =
    let taken : c.take.result ≡ c.args.self.now.tape = search (rules, c.take.ensures) in
    λ given before had. (
      had.0,
      first-kept c.args.self.now.cell c.args.self.now.tape c.first_of.result c.args.recording
          (c.first_of.ensures ∙ ap (λ kept. option_or kept (cond (is_cell c.args.self.now.cell c.args.recording.cell)
          (Some c.args.recording) None)) taken) given before had.0 had.1,
    )
