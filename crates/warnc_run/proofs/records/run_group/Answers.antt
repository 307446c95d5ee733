use Rattle.std.proofs.Common.{◌≤◌, sym}
use native.Mathlib.Omega.{arith}
use Rattle.std.proofs.lemmas.Result.{IfErr-weaker, IfOk-weaker}
use Rattle.alert_book.specs.declared.network.Origin.TheVariants as origin
use Rattle.warnc_run.proofs.GroupParts.{a_book, no_part}
use Rattle.warnc_run.proofs.Written.{run_of_book}
use Rattle.warnc_run.proofs.records.run_group.Goals as goal

pub run_alone-requires-clause-book : goal.run_alone-requires-clause-book
run_alone-requires-clause-book g c κs within =
    let read = c.requires.read in
    a_book c.args.group read.0 c.in_ok-book.book (c.in_ok-book.ensures read.0 read.1)

pub returns-clause-ok : goal.returns-clause-ok
unfolding run_of_book
returns-clause-ok g c =
    let few : c.args.slots ≤ 65535 = omega (arith, c.ranges.slots.fits) in
    IfOk-weaker c.run_alone.result _ _
    (λ ran is. λ input means. record {
      run = run_of_book c.session_laws.ensures.shown c.session_laws.ensures.accepted
          c.legal_histories.ensures.legal_histories_are_served (origin.Group c.args.group) input c.in_ok-book.book
          c.args.slots 1 _ few (c.in_ok-book.ensures input means) is.1;
      of_book = sym is.0;
    })
    c.run_alone.ensures.ok

pub returns-clause-err : goal.returns-clause-err
returns-clause-err g c =
    IfErr-weaker c.run_alone.result _ _
    (λ fault of_book. λ input means.
    no_part c.args.slots 1 c.args.group input c.in_ok-book.book fault (c.in_ok-book.ensures input means) of_book)
    c.run_alone.ensures.err
