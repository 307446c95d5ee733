use Rattle.std.proofs.Common.{◌≡◌, ◌+◌, false}
use Rattle.device_ends.specs.Sink.{sink_failed, writer_of}
use Rattle.warnc_run.specs.NetworkSteps.{runs_of, WritesPartsOf}
use Rattle.warnc_run.proofs.network.NetworkRun.write_batch.Given as goal

abbrev pub invariant-loop-part : goal.invariant-loop-part
invariant-loop-part g l = record {
  wrote : WritesPartsOf (runs_of l.fn.self) l.fn.first l.part-index l.fn.self.network.now
      (g.W.Write.contents (writer_of l.fn.sink)) (g.W.Write.contents (writer_of l.sink));
  not_failed : sink_failed l.sink ≡ false;
  number : l.group ≡ l.fn.first + l.part-index;
}
