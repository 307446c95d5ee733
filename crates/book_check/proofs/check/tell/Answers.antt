use Rattle.std.proofs.Common.{◌+◌, ◌++◌, List, rules, subst, ℕ}
use Rattle.csv.specs.Records.{fields_of}
use Rattle.alert_book.specs.Judging.{Counted}
use Rattle.book_check.specs.TableSteps.{IsTable}
use Rattle.book_check.specs.Told.{told_of_row}
use Rattle.book_check.proofs.check.tell.Goals as goal

pub returns : goal.returns
returns c =
    let fields : List (List ℕ) = fields_of c.args.fields.now in
    let verdict = c.in_ok-verdict.verdict in
    record {
      told = record {
        verdict = verdict;
        is = c.in_ok-verdict.ensures.verdict;
        next = c.in_ok-verdict.ensures.counted;
        counted = search rules;
        table = λ octets is.
            subst (λ (after : Counted). IsTable c.push_verdict.new.table (octets
            ++ told_of_row (c.args.judge.now.rows + 1) c.args.line after fields verdict))
            c.in_ok-verdict.ensures.counted
            (subst (λ n. IsTable c.push_verdict.new.table (octets
            ++ told_of_row (n + 1) c.args.line c.judge.new.self fields verdict)) c.rows-row.ensures.rows
            (c.in_ok-push_verdict.ensures octets is));
      };
    }
