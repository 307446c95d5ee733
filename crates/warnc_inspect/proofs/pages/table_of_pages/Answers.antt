-- One page after another.
use Rattle.std.proofs.Common.{◌≡◌, ◌∙◌, ◌+◌, ◌++◌, [], ℕ, List, ap, append-nil, arith, drop, length, subst, sym}
use Rattle.std.proofs.lemmas.Result.{IfOk-weaker}
use Rattle.std.proofs.lemmas.List.{drop_all}
use Rattle.cbs_page.specs.declared.content.Content.{Content}
use Rattle.warnc_inspect.specs.PageOutput.{page_rows, table_of_pages}
use Rattle.warnc_inspect.specs.ReadSteps.{IsTable}
use Rattle.warnc_inspect.proofs.PageRows.{rows_more}
use Rattle.warnc_inspect.proofs.pages.table_of_pages.Goals as goal

pub loop-place-preserved : goal.loop-place-preserved
loop-place-preserved c =
    let items : List Content = c.deref-content-items.result.now in
    let same : items ≡ c.args.paged.now.pages.items = c.deref-content-items.ensures.value in
    let before = c.loop-place.invariant in
    let rest : (xs : List Content) → List ℕ = λ xs. page_rows c.args.id c.args.serial c.args.paged.now.dcs.0
    c.len-total.result (c.loop-place.place + 1) (drop c.loop-place.place xs) in
    subst (λ (xs : List Content). (x : List ℕ) × IsTable c.push_content.new.table x
    × (x ++ page_rows c.args.id c.args.serial c.args.paged.now.dcs.0 c.len-total.result (c.loop-place.place + 1 + 1)
    (drop (c.loop-place.place + 1) xs) ≡ table_of_pages c.args.id c.args.serial c.args.paged.now)) same
    (rows_more {Is = λ (xs : List ℕ). IsTable c.push_content.new.table xs} c.args.id c.args.serial
    c.args.paged.now.dcs.0 c.len-total.result c.loop-place.place items _ before.0 _ c.loop-place-test.true
    (c.in_ok-push_content.ensures before.0 before.1)
    (ap (λ (xs : List Content). before.0 ++ rest xs) same ∙ before.2))

pub returns : goal.returns
returns c =
    let last = c.loop-place.invariant in
    let items : List Content = c.args.paged.now.pages.items in
    let whole : List ℕ = table_of_pages c.args.id c.args.serial c.args.paged.now in
    let same : length c.deref-content-items.result.now ≡ length items =
    ap (λ (xs : List Content). length xs) c.deref-content-items.ensures.value in
    let past = c.loop-place-test.false in
    let none : drop c.loop-place.place items ≡ [] = drop_all c.loop-place.place items (omega (arith, same, past)) in
    let all : last.0 ≡ whole =
    sym (append-nil last.0)
    ∙ ap (λ (left : List Content). last.0 ++ page_rows c.args.id c.args.serial c.args.paged.now.dcs.0
    c.len-total.result (c.loop-place.place + 1) left) (sym none) ∙ last.2 in
    IfOk-weaker c.into_octets.result _ _ (λ octets are. are last.0 last.1 ∙ all) c.into_octets.ensures
