use Rattle.std.proofs.Common.{List, subst, sym}
use Rattle.cbsp_wire.specs.declared.message.Cell.{Cell}
use Rattle.session_check.specs.AloneSteps.{IsTurnServed}
use Rattle.session_check.proofs.Serving.{request_ordered, request_writable, serving_begun, serving_lessens}
use Rattle.session_check.proofs.Serving.{serving_more}
use Rattle.session_check.proofs.alone.serve.Goals as goal

pub requests-init : goal.requests-init
requests-init g c =
    serving_begun c.args.book.now c.args.books.now c.in_ok-session.session c.go_on.new.self c.requires.cells
    c.in_ok-session.ensures c.in_ok-go_on.ensures.next

pub turn_of-requires-clause-writable : goal.turn_of-requires-clause-writable
turn_of-requires-clause-writable g c κs within =
    request_writable c.args.book.now c.args.books.now c.requests.session c.in-Some.request.now c.requests.books
    c.requires.fit (sym c.in-Some.ensures) c.requests.invariant

pub turn_of-requires-clause-order : goal.turn_of-requires-clause-order
turn_of-requires-clause-order g c κs within =
    request_ordered c.session_laws.ensures.once_per_order c.session_laws.ensures.come_of_orders c.args.book.now
    c.args.books.now c.requests.session c.in-Some.request.now c.requests.books c.requires.fit c.requires.new
    (sym c.in-Some.ensures) c.requests.invariant

pub requests-smaller : goal.requests-smaller
requests-smaller g c =
    let turn = subst (λ (cells : List Cell). IsTurnServed cells c.in-Some.request.now c.in_ok-said.said
    c.requests.books c.turn_of.new.books) c.cells.ensures c.in_ok-said.ensures in
    serving_lessens c.session_laws.ensures.end c.args.book.now c.args.books.now c.requests.session
    c.go_on-in-Some.new.self c.in-Some.request.now c.in_ok-said.said c.requests.books c.turn_of.new.books
    (sym c.in-Some.ensures) c.requests.invariant turn c.in_ok-go_on-2.ensures.next

pub requests-preserved : goal.requests-preserved
requests-preserved g c =
    let turn = subst (λ (cells : List Cell). IsTurnServed cells c.in-Some.request.now c.in_ok-said.said
    c.requests.books c.turn_of.new.books) c.cells.ensures c.in_ok-said.ensures in
    serving_more c.args.book.now c.args.books.now c.requests.session c.go_on-in-Some.new.self c.in-Some.request.now
    c.in_ok-said.said c.requests.books c.turn_of.new.books (sym c.in-Some.ensures) c.requests.invariant turn
    c.in_ok-go_on-2.ensures.next
