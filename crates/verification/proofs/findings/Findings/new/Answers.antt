use Rattle.std.proofs.Common.{refl}
use Rattle.verification.proofs.FoundLaws.{taken-none}
use Rattle.verification.proofs.findings.Findings.new.Goals as goal

pub returns : goal.returns
returns c =
    taken-none c.args.layout c.args.records.items
    (record {
      layout = c.args.layout;
      cells = c.in_ok-cells.cells.items;
      seen = c.new.result.items;
      others =
          c.new-2.result.items;
    })
    refl c.in_ok-cells.ensures c.new.ensures.items c.new-2.ensures.items
