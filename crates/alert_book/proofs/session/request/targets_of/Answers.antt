use Rattle.std.proofs.Common.{arith, ◌≡◌, ◌<◌, ◌∷◌, ◌++◌, [], cond, inl, inr, ℕ, List, All, map, filter, sym, ap, ◌∙◌}
use Rattle.std.proofs.Common.{Option, refl, subst}
use Rattle.std.proofs.lemmas.Bool.{cases_Bool}
use Rattle.std.specs.List.{range_with_len}
use Rattle.std.proofs.lemmas.List.FromFn.{filter_of_map_range_with_len_more}
use Rattle.cbsp_wire.specs.declared.message.Cell.{Cell}
use Rattle.alert_book.specs.declared.session.request.CellVersion.{CellVersion}
use Rattle.alert_book.specs.declared.session.request.Target.{Target}
use Rattle.alert_book.specs.Session.{cells_with, has_cells, is_version, target_of, targets_of}
use Rattle.alert_book.specs.SessionSteps.{cell_version, cells_found, live_by}
use Rattle.alert_book.proofs.SessionLaws.{targets_are_short}
use Rattle.alert_book.proofs.session.request.targets_of.Goals as goal

-- the cells with a version, of those that were looked up
found_in : (live : ℕ → Cell → Option ℕ) (number version : ℕ) (cells : List Cell)
    → cells_found version (map (cell_version live number) cells) ≡ cells_with live number version cells
found_in live number version [] = refl
found_in live number version (cell ∷ cells) = elim (cases_Bool (is_version version (live number cell))) [
  | inl is ↦ rw (is, found_in live number version cells) refl
  | inr other ↦ rw (other, found_in live number version cells) refl
]

found_with : (live : ℕ → Cell → Option ℕ) (number version : ℕ) (cells : List Cell) (found : List CellVersion)
    → found ≡ map (cell_version live number) cells → cells_found version found ≡ cells_with live number version cells
found_with live number version cells found are =
    ap (λ (fs : List CellVersion). cells_found version fs) are ∙ found_in live number version cells

-- a list of targets, and one more if it has cells
more : List Target → ℕ → List Cell → List Target
more targets version cells =
    let target : Target = record { version = version; cells = cells } in
    targets ++ cond (has_cells target) (target ∷ []) []

pub loop-version-preserved : goal.loop-version-preserved
unfolding more
loop-version-preserved c =
    let live = live_by c.args.live.now in
    c.in_ok-push_target.ensures
    ∙ ap (λ (cells : List Cell). more c.loop-version.targets.items c.loop-version.version cells)
    (c.in_ok-cells.ensures
    ∙ found_with live c.args.number c.loop-version.version c.args.cells.now c.deref-in-loop-version.result.now
    (c.deref-in-loop-version.ensures.value ∙ c.in_ok-found.ensures))
    ∙ ap (λ (targets : List Target). more targets c.loop-version.version
    (target_of live c.args.number c.args.cells.now c.loop-version.version).cells) c.loop-version.invariant
    ∙ sym (filter_of_map_range_with_len_more has_cells (target_of live c.args.number c.args.cells.now) 0
    c.loop-version.version c.loop-version.version (omega arith))

-- all 16 versions
all_versions : (live : ℕ → Cell → Option ℕ) (number version : ℕ) (cells : List Cell) (targets : List Target)
    → targets ≡ filter has_cells (map (target_of live number cells) (range_with_len 0 version)) → version ≡ 16
    → targets ≡ targets_of live number cells
all_versions live number version cells targets are at =
    are ∙ ap (λ n. filter has_cells (map (target_of live number cells) (range_with_len 0 n))) at

pub returns-clause-same : goal.returns-clause-same
returns-clause-same c =
    let at : c.loop-version.version ≡ 16 = omega (arith, c.loop-version.auto.version-end, c.loop-version-test.false) in
    all_versions (live_by c.args.live.now) c.args.number c.loop-version.version c.args.cells.now
    c.loop-version.targets.items c.loop-version.invariant at

pub returns-clause-versions : goal.returns-clause-versions
returns-clause-versions c =
    let at : c.loop-version.version ≡ 16 = omega (arith, c.loop-version.auto.version-end, c.loop-version-test.false) in
    subst (All (λ (t : Target). t.version < 16)) (sym (all_versions (live_by c.args.live.now) c.args.number
    c.loop-version.version c.args.cells.now c.loop-version.targets.items c.loop-version.invariant at))
    (targets_are_short (live_by c.args.live.now) c.args.number c.args.cells.now)
