use Rattle.std.proofs.Common.{[], refl}
use Rattle.warnc_verify.proofs.judge.judged_in_turn.Goals as goal

pub returns-clause-ok : goal.returns-clause-ok
returns-clause-ok g c =
    let recorded = c.in_ok-record_each.ensures.ok in
    record {
      recordings = recorded.recordings;
      of_input = recorded.of_input;
      of_some = recorded.of_some;
      taken = (recorded.taken (record { layout = c.args.layout; records = c.args.records.items; pages = c.args.pages })
          [] (refl, c.in_ok-new.ensures)).1;
    }
