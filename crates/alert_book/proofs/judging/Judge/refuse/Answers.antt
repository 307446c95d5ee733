use Rattle.std.proofs.Common.{◌∙◌, ◌+◌, sym}
use Rattle.csv.specs.Records.{fields_of}
use Rattle.alert_book.specs.Judging.{next_found, next_meant}
use Rattle.alert_book.proofs.FoundLaws.{found_is_fault, none_found, some_found, wrong_counts}
use Rattle.alert_book.proofs.judging.Judge.refuse.Goals as goal

pub returns-in-Some-clause-verdict : goal.returns-in-Some-clause-verdict
returns-in-Some-clause-verdict c =
    let before = c.args.self.now in
    let fields = fields_of c.args.fields.now in
    let is = sym c.in_ok-found.ensures ∙ c.in-Some.is in
    record {
      wrong = some_found (next_found before fields) (next_meant before fields) c.in-Some.found
          (found_is_fault before.bounds (before.rows + 1) before.known.cells before.known.orders fields) is;
      found_is = is;
    }

pub returns-in-Some-clause-counted : goal.returns-in-Some-clause-counted
returns-in-Some-clause-counted c =
    c.in_ok-count_wrong.ensures.counted
    ∙ wrong_counts c.args.self.now (fields_of c.args.fields.now) c.requires.past c.requires.wrong

pub returns-in-None-clause-verdict : goal.returns-in-None-clause-verdict
returns-in-None-clause-verdict c =
    let before = c.args.self.now in
    let fields = fields_of c.args.fields.now in
    absurd (none_found (next_found before fields) (next_meant before fields)
    (found_is_fault before.bounds (before.rows + 1) before.known.cells before.known.orders fields) c.requires.wrong
    (sym c.in_ok-found.ensures ∙ c.in-None.is))

pub returns-in-None-clause-counted : goal.returns-in-None-clause-counted
returns-in-None-clause-counted c =
    c.in_ok-count_wrong.ensures.counted
    ∙ wrong_counts c.args.self.now (fields_of c.args.fields.now) c.requires.past c.requires.wrong
