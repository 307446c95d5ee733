use Rattle.std.proofs.Common.{rules, arith, ◌≡◌, ◌<◌, ◌≤◌, Err, ℕ}
use Rattle.std.proofs.lemmas.Result.{IfErr-weaker}
use Rattle.device_ends.specs.Source.{reader_of}
use Rattle.handset.proofs.NextRecording.{gives-fault, gives-last-fault, stops-after-all, stops-at-it, stops-where-it-is}
use Rattle.handset.proofs.recording.Recorder.next.Goals as goal

pub returns-then-failed-clause-extent : goal.returns-then-failed-clause-extent
returns-then-failed-clause-extent g c =
    let few : c.args.self.now ≤ 64 = search (rules, arith) in
    stops-where-it-is c.args.self.now (g.R.Read.remaining (reader_of c.args.source.now)) few

pub returns-then-is_full-clause-err : goal.returns-then-is_full-clause-err
returns-then-is_full-clause-err g c =
    let all : c.args.self.now ≡ 64 = search (rules, arith) in
    IfErr-weaker c.none_at_end.result _ _
    (λ why more. gives-last-fault c.args.self.now (g.R.Read.remaining (reader_of c.args.source.now)) why all more)
    c.none_at_end.ensures.more

pub returns-then-is_full-clause-extent : goal.returns-then-is_full-clause-extent
returns-then-is_full-clause-extent g c =
    let remaining = g.R.Read.remaining in
    let all : c.args.self.now ≡ 64 = search (rules, arith) in
    IfErr-weaker c.none_at_end.result _ _
    (λ why stops. stops-after-all c.args.self.now (remaining (reader_of c.args.source.now))
    (remaining (reader_of c.none_at_end.new.source)) why all stops)
    c.none_at_end.ensures.extent

pub returns-in_err-next-clause-err : goal.returns-in_err-next-clause-err
returns-in_err-next-clause-err g c =
    let few : c.args.self.now < 64 = search (rules, arith) in
    let is : c.from_residual.result ≡ Err c.in_err-next.field-0.0 = search (rules, c.from_residual.ensures) in
    rw is (gives-fault c.args.self.now (g.R.Read.remaining (reader_of c.args.source.now)) c.in_err-next.field-0.0 few
    c.in_err-next.ensures.fault)

pub returns-in_err-next-clause-extent : goal.returns-in_err-next-clause-extent
returns-in_err-next-clause-extent g c =
    let remaining = g.R.Read.remaining in
    let few : c.args.self.now < 64 = search (rules, arith) in
    let is : c.from_residual.result ≡ Err c.in_err-next.field-0.0 = search (rules, c.from_residual.ensures) in
    rw is (stops-at-it c.args.self.now (remaining (reader_of c.args.source.now))
    (remaining (reader_of c.next_recording.new.source)) c.in_err-next.field-0.0 few c.in_err-next.ensures.extent)
