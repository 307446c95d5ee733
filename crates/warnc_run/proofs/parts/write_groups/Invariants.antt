use Rattle.std.proofs.Common.{◌≡◌, ◌-◌, ◌≤◌, false}
use Rattle.device_ends.specs.Sink.{sink_failed, writer_of}
use Rattle.warnc_run.specs.NetworkSteps.{runs_of, WritesPartsOf}
use Rattle.warnc_run.proofs.parts.write_groups.Given as goal

abbrev pub invariant-loop-first : goal.invariant-loop-first
invariant-loop-first g l = record {
  wrote : WritesPartsOf (runs_of l.fn.runs) 0 l.first l.fn.runs.network.now
      (g.W.Write.contents (writer_of l.fn.sink)) (g.W.Write.contents (writer_of l.sink));
  not_failed : sink_failed l.sink ≡ false;
  within : l.first ≤ l.fn.runs.groups;
}

abbrev pub decreases-loop-first : goal.decreases-loop-first
decreases-loop-first g l = l.fn.runs.groups - l.first
