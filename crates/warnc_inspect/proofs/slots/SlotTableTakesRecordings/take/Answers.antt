use Rattle.std.proofs.Common.{ℕ, List, ◌∙◌, ◌++◌, ap, subst}
use Rattle.std.proofs.lemmas.Result.{on_ok_weaker}
use Rattle.short_pages.specs.declared.pages.Pages.{Pages}
use Rattle.warnc_inspect.specs.ReadSteps.{IsTable}
use Rattle.warnc_inspect.specs.SlotsOutput.{table_of_slots, tape_rows}
use Rattle.warnc_inspect.proofs.SlotsLaws.{table_of_slots-next}
use Rattle.warnc_inspect.proofs.slots.SlotTableTakesRecordings.take.Goals as goal

pub returns : goal.returns
returns c =
    on_ok_weaker c.push.result
    (λ more given before has. (
      c.push.ensures.wanted ∙ has.0,
      subst (λ (xs : List ℕ). IsTable c.push.new.self.table xs)
          (ap (λ (wanted : Pages). table_of_slots given before ++ tape_rows wanted c.args.recording) has.0
          ∙ table_of_slots-next given before c.args.recording)
          (more (table_of_slots given before) has.1),
    ))
    c.push.ensures.rows
