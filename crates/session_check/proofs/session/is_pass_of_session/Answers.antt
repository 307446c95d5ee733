use Rattle.std.proofs.Common.{◌≡◌, ◌∙◌, None, Some, sym}
use Rattle.std.proofs.lemmas.Bool.{false≢true}
use Rattle.session_check.specs.NotedSteps.{commands_in}
use Rattle.session_check.specs.ReplaySteps.{IsTurnNoted}
use Rattle.session_check.proofs.Noted.{none_of, some_of}
use Rattle.session_check.proofs.Exchanged.{ends_by, goes_no_further, is_pass_of_session}
use Rattle.session_check.proofs.Replayed.{replaying_begun, replaying_more, turn_lessens}
use Rattle.session_check.proofs.session.is_pass_of_session.Goals as goal

pub requests-init : goal.requests-init
requests-init c =
    replaying_begun c.args.book.now c.args.part c.args.parts c.args.records.now c.args.pass.now c.in_ok-session.session
    c.go_on.new.self c.requires.standing c.in_ok-session.ensures c.in_ok-go_on.ensures.next

pub returns-in_default-2 : goal.returns-in_default-2
returns-in_default-2 c =
    let replaying = c.requests.invariant in
    let notes = commands_in c.requests.left.now in
    let request = c.in-Some.request.now in
    let sent : replaying.reached.sent ≡ Some request = sym (c.in-Some.ensures ∙ replaying.stands.sent) in
    let nothing = none_of c.in_ok-said.field-0 c.in_default-2.is c.in_ok-said.ensures.none in
    let whole = is_pass_of_session c.args.book.now c.args.part c.args.parts c.args.records.now c.args.pass.now
    c.requires.cells
    in (
      λ is. absurd (false≢true is),
      λ own. absurd (goes_no_further c.args.records.now replaying.reached request notes sent nothing
          (replaying.from_whole (whole.1 own))),
    )

pub requests-smaller : goal.requests-smaller
requests-smaller c =
    let notes = commands_in c.requests.left.now in
    let turn = some_of (λ given. IsTurnNoted c.args.records.now c.in-Some.request.now given.0 notes
    (commands_in given.1.now)) c.in_ok-said.field-0 (c.in-Some-2.said, c.in-Some-2.rest) c.in-Some-2.is
    c.in_ok-said.ensures.some in
    turn_lessens c.session_laws.ensures.end c.args.book.now c.args.part c.args.parts c.args.records.now c.args.pass.now
    c.requests.session c.go_on-in-Some.new.self c.in-Some.request.now c.in-Some-2.said c.requests.left.now
    c.in-Some-2.rest.now (sym c.in-Some.ensures) c.requests.invariant turn c.in_ok-go_on-2.ensures.next

pub requests-preserved : goal.requests-preserved
requests-preserved c =
    let notes = commands_in c.requests.left.now in
    let turn = some_of (λ given. IsTurnNoted c.args.records.now c.in-Some.request.now given.0 notes
    (commands_in given.1.now)) c.in_ok-said.field-0 (c.in-Some-2.said, c.in-Some-2.rest) c.in-Some-2.is
    c.in_ok-said.ensures.some in
    replaying_more c.args.book.now c.args.part c.args.parts c.args.records.now c.args.pass.now c.requests.session
    c.go_on-in-Some.new.self c.in-Some.request.now c.in-Some-2.said c.requests.left.now c.in-Some-2.rest.now
    (sym c.in-Some.ensures) c.requests.invariant turn c.in_ok-go_on-2.ensures.next

pub returns : goal.returns
returns c =
    let replaying = c.requests.invariant in
    let over : replaying.reached.sent ≡ None = sym (c.in_default.ensures ∙ replaying.stands.sent) in
    let ended = ends_by c.args.records.now replaying.reached (commands_in c.requests.left.now) over in
    let whole = is_pass_of_session c.args.book.now c.args.part c.args.parts c.args.records.now c.args.pass.now
    c.requires.cells
    in (
      λ is. whole.0 (replaying.to_whole (ended.0 (c.has_no_commands.ensures.0 is))),
      λ own. c.has_no_commands.ensures.1 (ended.1 (replaying.from_whole (whole.1 own))),
    )
