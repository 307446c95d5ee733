use Rattle.std.proofs.Common.{◌≡◌, ◌∙◌, [], ◌∷◌, ℕ, List, Option, ap, sym, refl, length, arith, append-nil}
use Rattle.std.specs.List.{slice_get}
use Rattle.std.specs.Option.{option_to_list}
use Rattle.std.proofs.lemmas.Option.{slice_get_read}
use Rattle.handset.specs.Reception.{ShownMessage}
use Rattle.report.specs.declared.row.Row.{Row}
use Rattle.report.specs.RowSteps.{HasNames, row_at}
use Rattle.report.proofs.StepLaws.{rows-next}
use Rattle.report.proofs.cell.CellContext.push_rows.Goals as goal
use Rattle.report.proofs.cell.CellContext.push_rows.Goals.{in-Some+in_ok-push, in_default}

-- the rows of a place, and of the one that the walk is at
rows_at : (c : goal.Joined-row) (shown : List ShownMessage) (place : ℕ) → List Row
rows_at c shown place =
    row_at c.args.self.now.cell c.args.self.now.slots shown c.args.stops.now c.args.completed.now c.args.firsts.now
    place (slice_get c.args.log.now place)

here : (c : goal.Joined-row) (shown : List ShownMessage) → HasNames c.args.self.now.shown.now shown →
    rows_at c shown c.loop-place.place ≡ option_to_list c.row.result
unfolding rows_at
here c shown are =
    ap (row_at c.args.self.now.cell c.args.self.now.slots shown c.args.stops.now c.args.completed.now
    c.args.firsts.now c.loop-place.place)
    (slice_get_read c.args.log.now (length c.args.log.now) c.loop-place.place c.index-log-place.result refl
    (omega arith) c.index-log-place.is)
    ∙ ap (λ (row : Option Row). option_to_list row) (sym (c.row.ensures shown are))

pub loop-place-preserved : goal.loop-place-preserved
unfolding rows_at
loop-place-preserved c = λ shown are. elim c.match-row.branch [
  | in-Some+in_ok-push w ↦ rw w.rows-is
      (rows-next c.args.rows.now.items c.loop-place.rows.items w.push.new.self.items (w.in-Some.row ∷ [])
      (rows_at c shown) c.loop-place.place (c.loop-place.invariant shown are)
      (here c shown are ∙ ap (λ (row : Option Row). option_to_list row) w.in-Some.is) w.in_ok-push.ensures.items)
  | in_default w ↦ rw w.rows-is
      (rows-next c.args.rows.now.items c.loop-place.rows.items c.loop-place.rows.items [] (rows_at c shown)
      c.loop-place.place (c.loop-place.invariant shown are)
      (here c shown are ∙ ap (λ (row : Option Row). option_to_list row) w.in_default.is)
      (sym (append-nil c.loop-place.rows.items)))
]
