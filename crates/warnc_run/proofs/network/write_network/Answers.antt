use Rattle.std.proofs.Common.{List, ℕ, length, refl, rules, subst}
use Rattle.std.proofs.KnownBytes.{Keeps-refl}
use Rattle.alert_book.specs.Network.{groups_of, IsNoNetworkBook}
use Rattle.warnc_run.specs.Network.{GroupRuns}
use Rattle.warnc_run.proofs.GroupParts.{ends_of, faults_of_parts, network_made, nothing_taken, refused_network}
use Rattle.warnc_run.proofs.network.write_network.Goals as goal

pub returns-in-Err-read-clause-err : goal.returns-in-Err-read-clause-err
returns-in-Err-read-clause-err g c =
    let why = c.in-Err-read.fault in (
      refused_network _ _ c.in-Ok.octets.items why c.in-Ok.ensures.ok
          (subst (λ (octets : List ℕ). IsNoNetworkBook 0 octets why) c.deref.ensures.value
          c.in-Err-read.ensures.err),
      Keeps-refl _,
    )

pub returns-then-failed-clause-err : goal.returns-then-failed-clause-err
returns-then-failed-clause-err g c =
    let runs : GroupRuns = record {
      made = c.args.made;
      slots = c.args.run.now.slots;
      parts = c.args.run.now.sessions.number;
      groups = groups_of (length c.in-Ok-read.network.cells);
    } in
    nothing_taken runs c.in-Ok-read.network c.in-Ok.octets.items c.deref.result.now _ _ _ c.in-Ok.ensures.ok
    c.deref.ensures.value c.in-Ok-read.ensures.ok refl

pub write_groups-requires-clause-read : goal.write_groups-requires-clause-read
write_groups-requires-clause-read g c κs within = (c.deref.result.now, c.in-Ok-read.ensures.ok)

pub returns-clause-ok : goal.returns-clause-ok
returns-clause-ok g c =
    let runs : GroupRuns = record {
      made = c.args.made;
      slots = c.args.run.now.slots;
      parts = c.args.run.now.sessions.number;
      groups = c.groups.result;
    } in
    network_made runs c.in-Ok-read.network c.in-Ok.octets.items c.deref.result.now _ _ _ _ c.write_groups.result
    c.in-Ok.ensures.ok c.deref.ensures.value c.in-Ok-read.ensures.ok c.groups.ensures c.write_groups.ensures.ok

pub returns-clause-err : goal.returns-clause-err
returns-clause-err g c =
    let runs : GroupRuns = record {
      made = c.args.made;
      slots = c.args.run.now.slots;
      parts = c.args.run.now.sessions.number;
      groups = c.groups.result;
    } in
    faults_of_parts runs c.in-Ok-read.network c.in-Ok.octets.items c.deref.result.now _ _ _ _ c.write_groups.result
    c.in-Ok.ensures.ok c.deref.ensures.value c.in-Ok-read.ensures.ok c.groups.ensures c.write_groups.ensures.err

pub returns-clause-any_ends : goal.returns-clause-any_ends
returns-clause-any_ends g c =
    let runs : GroupRuns = record {
      made = c.args.made;
      slots = c.args.run.now.slots;
      parts = c.args.run.now.sessions.number;
      groups = c.groups.result;
    } in
    ends_of runs c.in-Ok-read.network c.deref.result.now _ _ c.write_groups.result g.W.Write.contents c.args.source.now
    c.octets_of_network.new.source c.args.sink.now c.write_groups.new.sink c.in-Ok-read.ensures.ok
    c.in-Ok.ensures.not_failed c.in-Ok.ensures.failed_stays (search (rules, c.failed.ensures, c.if-failed.false))
    c.write_groups.ensures.open c.write_groups.ensures.failed c.write_groups.ensures.err
