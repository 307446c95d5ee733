use Rattle.std.proofs.Common.{◌++◌, ℕ, List, append_assoc, subst, Some}
use Rattle.std.specs.List.{flat_map}
use Rattle.std.proofs.lemmas.Result.{on_ok_weaker}
use Rattle.book_remarks.specs.RemarksText.{fullest_line, remark_line}
use Rattle.book_remarks.specs.TableSteps.{IsTable}
use Rattle.book_remarks.proofs.text.push_group.Goals as goal

pub returns : goal.returns
returns c =
    let remarks = flat_map (remark_line (Some c.args.group) c.args.start) c.args.remarks.now in
    let cells = flat_map (fullest_line (Some c.args.group) c.args.start) c.args.records.now in
    on_ok_weaker c.push_each_fullest.result
    (λ pushed octets table.
    subst (λ (xs : List ℕ). IsTable c.push_each_fullest.new.table xs) (append_assoc octets remarks cells)
    (pushed (octets ++ remarks) (c.in_ok-push_remarks.ensures octets table)))
    c.push_each_fullest.ensures
