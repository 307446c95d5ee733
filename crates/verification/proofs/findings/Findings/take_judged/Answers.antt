use Rattle.std.proofs.Common.{◌≡◌, ◌∙◌, ◌++◌, ◌∷◌, [], ap, length, sym, map, refl}
use Rattle.std.specs.List.{list_any}
use Rattle.std.proofs.lemmas.List.{with_items_is}
use Rattle.cbsp_wire.specs.Range.{is_cell}
use Rattle.verification.specs.declared.judgement.CellState.{CellState}
use Rattle.verification.specs.declared.findings.Findings.TheInside.{Inside}
use Rattle.verification.specs.declared.row.Finding.TheVariants as findings
use Rattle.verification.specs.Found.{FindingsState}
use Rattle.verification.specs.FoundSteps.{put_each}
use Rattle.verification.specs.Rows.{is_known, finding_row, tape_of}
use Rattle.verification.proofs.FoundLaws.{length-put, taken-first, taken-second, taken-unknown}
use Rattle.verification.proofs.findings.Findings.take_judged.Goals as goal
use Rattle.verification.proofs.findings.Findings.take_judged.Goals.{then-not-is_known+in_ok-push}
use Rattle.verification.proofs.findings.Findings.take_judged.Goals.{else-not-is_known+then-is_among+in_ok-push-2}
use Rattle.verification.proofs.findings.Findings.take_judged.Goals.{else-not-is_known+else-is_among}

new : (c : goal.Joined-drop-2) → FindingsState
new c = record {
  layout = c.if-not-is_known.self-inside.layout;
  cells = c.if-not-is_known.self-inside.cells.items;
  seen = c.push-2.new.self.items;
  others = c.if-not-is_known.self-inside.others.items;
}

-- whether the cell is the run's
known : (c : goal.Joined-drop-2) → is_known (map (λ (s : CellState). s.run) c.args.self.now.cells) c.args.cell
    ≡ c.is_known.result
known c =
    ap (λ (f : FindingsState). is_known (map (λ (s : CellState). s.run) f.cells) c.args.cell) (sym c.self.view_is)
    ∙ ap (λ cells. is_known (map (λ (s : CellState). s.run) cells) c.args.cell) (sym c.deref.ensures.value)
    ∙ sym c.is_known.ensures

pub returns : goal.returns
unfolding new
returns c = λ slots blocks layout records tapes taken are. elim c.if-not-is_known.branch [
  | then-not-is_known+in_ok-push w ↦ taken-unknown layout records c.args.self.now (new c) tapes
      (tape_of c.args.cell slots blocks)
      (ap (λ (i : Inside). i.layout) w.self-inside-is ∙ ap (λ (f : FindingsState). f.layout) c.self.view_is) taken
      (known c ∙ w.if-not-is_known.true)
      (ap (λ (i : Inside). i.cells.items) w.self-inside-is ∙ ap (λ (f : FindingsState). f.cells) c.self.view_is)
      (c.in_ok-push-3.ensures.items
      ∙ ap (λ (i : Inside). i.seen.items ++ c.args.cell ∷ []) w.self-inside-is
      ∙ ap (λ (f : FindingsState). f.seen ++ c.args.cell ∷ []) c.self.view_is)
      (ap (λ (i : Inside). i.others.items) w.self-inside-is ∙ w.in_ok-push.ensures.items
      ∙ ap (λ (f : FindingsState). f.others ++ finding_row c.args.cell findings.UnknownCell ∷ []) c.self.view_is)
  | else-not-is_known+then-is_among+in_ok-push-2 w ↦ taken-second layout records c.args.self.now (new c) tapes
      (tape_of c.args.cell slots blocks)
      (ap (λ (i : Inside). i.layout) w.self-inside-is ∙ ap (λ (f : FindingsState). f.layout) c.self.view_is) taken
      (known c ∙ w.if-not-is_known.false)
      (ap (λ (f : FindingsState). list_any (is_cell c.args.cell) f.seen) (sym c.self.view_is)
      ∙ ap (list_any (is_cell c.args.cell)) (sym w.deref-else-not-is_known.ensures.value)
      ∙ sym w.is_among.ensures ∙ w.if-is_among.true)
      (ap (λ (i : Inside). i.cells.items) w.self-inside-is ∙ ap (λ (f : FindingsState). f.cells) c.self.view_is)
      (c.in_ok-push-3.ensures.items
      ∙ ap (λ (i : Inside). i.seen.items ++ c.args.cell ∷ []) w.self-inside-is
      ∙ ap (λ (f : FindingsState). f.seen ++ c.args.cell ∷ []) c.self.view_is)
      (ap (λ (i : Inside). i.others.items) w.self-inside-is ∙ w.in_ok-push-2.ensures.items
      ∙ ap (λ (f : FindingsState). f.others ++ finding_row c.args.cell findings.SecondTape ∷ []) c.self.view_is)
  | else-not-is_known+else-is_among w ↦ taken-first layout records c.args.self.now (new c) tapes
      (tape_of c.args.cell slots blocks) c.args.judgement
      (ap (λ (i : Inside). i.layout) w.self-inside-is ∙ ap (λ (f : FindingsState). f.layout) c.self.view_is)
      taken
      (known c ∙ w.if-not-is_known.false)
      (ap (λ (f : FindingsState). list_any (is_cell c.args.cell) f.seen) (sym c.self.view_is)
      ∙ ap (list_any (is_cell c.args.cell)) (sym w.deref-else-not-is_known.ensures.value)
      ∙ sym w.is_among.ensures ∙ w.if-is_among.false)
      are
      (ap (λ (i : Inside). i.cells.items) w.self-inside-is
      ∙ with_items_is c.self.inside.cells w.put_each.new.cells
      (ap length w.put_each.ensures ∙ length-put w.as_mut_slice.result.now c.args.judgement
      ∙ w.as_mut_slice.ensures.len ∙ refl)
      ∙ w.put_each.ensures
      ∙ ap (λ cells. put_each cells c.args.judgement)
      (w.as_mut_slice.ensures.value ∙ ap (λ (f : FindingsState). f.cells) c.self.view_is))
      (c.in_ok-push-3.ensures.items
      ∙ ap (λ (i : Inside). i.seen.items ++ c.args.cell ∷ []) w.self-inside-is
      ∙ ap (λ (f : FindingsState). f.seen ++ c.args.cell ∷ []) c.self.view_is)
      (ap (λ (i : Inside). i.others.items) w.self-inside-is ∙ ap (λ (f : FindingsState). f.others) c.self.view_is)
]
