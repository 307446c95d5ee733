use Rattle.std.proofs.Common.{◌≢◌, List, ◌+◌, ◌<◌, ◌≤◌, sum_by, ap, subst, sym, ◌∙◌, arith}
use Rattle.std.specs.List.{All}
use Rattle.admission.specs.declared.budget.Held.{Held}
use Rattle.admission.specs.declared.measure.TheConstants.{SCALE}
use Rattle.admission.specs.Waiting.{held_now}
use Rattle.admission.specs.Table.{IsAdmitted}
use Rattle.admission.specs.TableSteps.{HasPlace}
use Rattle.admission.proofs.Tables.{IsAdmitted-push, has_room}
use Rattle.admission.proofs.budget.Budget.add.Goals as goal

pub invariant_of-self : goal.invariant_of-self
invariant_of-self c =
    let table : List Held = c.self.inside.table.items in
    let New : List Held → Type 0 = λ reservations. All (λ (h : Held). h.entry ≢ c.args.held.entry) reservations
    in
    let Place : List Held → Type 0 = λ reservations. HasPlace c.args.held.load c.args.held.waits
    reservations in
    let new = subst New (sym c.self.view_is) c.requires.new in
    let place = subst Place (sym c.self.view_is) c.requires.handed in
    let total = c.total.ensures ∙ ap (sum_by held_now) c.as_slice.ensures.value in
    let room : (c.len.result < 64) × (c.total.result + c.now.result ≤ SCALE) = has_room c.len.result c.total.result
    c.now.result c.in_ok-room.field-0 (sym c.room.ensures ∙ c.in_ok-room.was) in
    subst IsAdmitted (sym c.push.ensures.items) (IsAdmitted-push table c.args.held c.self.invariant new place
    (omega (arith, room.0, c.len.ensures.value)) (omega (arith, room.1, total, c.now.ensures)))
