use Rattle.std.proofs.Common.{◌≤◌, refl}
use native.Mathlib.Omega.{arith}
use Rattle.std.proofs.lemmas.Result.{IfOk-weaker}
use Rattle.alert_book.specs.declared.network.Origin.TheVariants as origin
use Rattle.warnc_run.proofs.Written.{run_of_book}
use Rattle.warnc_run.proofs.octets.run_octets.Goals as goal

pub returns-clause-ok : goal.returns-clause-ok
unfolding run_of_book
returns-clause-ok c =
    let few : c.args.slots ≤ 65535 = omega (arith, c.ranges.slots.fits) in
    IfOk-weaker c.ran_alone.result _ _
    (λ ran is. record {
      run = run_of_book c.session_laws.ensures.shown c.session_laws.ensures.accepted
          c.legal_histories.ensures.legal_histories_are_served origin.Book c.args.octets.now ran.book c.args.slots 1
          ran.records.items few is.0 is.1;
      of_book = refl;
    })
    c.ran_alone.ensures.ok
