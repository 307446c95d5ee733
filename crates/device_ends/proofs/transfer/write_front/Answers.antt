use Rattle.std.proofs.Common.{rules}
use Rattle.device_ends.specs.Sink.{writer_of}
use Rattle.device_ends.proofs.EndLaws.{Appends-more}
use Rattle.device_ends.proofs.transfer.write_front.Goals as goal

pub loop-out-preserved : goal.loop-out-preserved
loop-out-preserved g c = record {
  bound = search rules;
  appended =
      let contents = g.W.Write.contents in
      Appends-more (contents (writer_of c.args.sink.now)) (contents (writer_of c.loop-out.sink))
      (contents (writer_of c.write.new.self)) c.args.octets.now c.loop-out.out c.in-Ok.count
      c.loop-out.invariant.appended c.in-Ok.ensures.octets;
  not_failed = search rules;
  failed_stays = search rules;
}
