use Rattle.std.proofs.Common.{◌≡◌, ℕ, ◌+◌, ◌*◌, ◌<◌, ◌≤◌, length, get_or, arith, ap, sym, ◌∙◌, subst}
use Rattle.std.proofs.lemmas.List.{get_or_past}
use Rattle.septets.specs.Packing.{filled}
use Rattle.septets.proofs.PackingLaws.{filled-below, length-filled}
use Rattle.septets.proofs.Windows.{ArePacked, ArePacked-more, IsPacked-from_octets}
use Rattle.septets.proofs.pack.Goals as goal
use Rattle.septets.proofs.pack.Goals.{After-filled_page-page}

-- the page that the code has is the filled one, at each place
at_place : (c : After-filled_page-page) (k : ℕ)
    → get_or c.filled_page-page.result k 0 ≡ get_or (filled c.args.septets.now.items) k 0
at_place c k =
    ap (λ page. get_or page k 0) (c.filled_page-page.ensures ∙ ap filled c.as_slice.ensures.value)

small_at : (c : After-filled_page-page) (k : ℕ) → get_or c.filled_page-page.result k 0 < 128
small_at c k = rw (at_place c k) (filled-below c.args.septets.now.items k c.requires)

pub loop-step-preserved : goal.loop-step-preserved
loop-step-preserved c =
    let before = (goal.at.loop-step-preserved c).After-filled_page-page in
    let place = 7 * c.loop-group.group + c.loop-step.step in
    let first = 8 * c.loop-group.group + c.loop-step.step in
    ArePacked-more c.args.septets.now.items c.loop-step.octets place first c.loop-step.step _ _ c.joined.result _
    c.loop-step.invariant (omega arith) (omega arith) (omega arith) c.loop-step-test.true (at_place before first)
    (at_place before (first + 1)) (small_at before first) c.joined.type_inv c.joined.ensures

pub loop-step-2-preserved : goal.loop-step-2-preserved
loop-step-2-preserved c =
    let before = (goal.at.loop-step-2-preserved c).After-filled_page-page in
    let step = c.loop-step-2.step in
    ArePacked-more c.args.septets.now.items c.loop-step-2.octets (77 + step) (88 + step) step _ _
    c.joined-in-loop-step-2.result _
    c.loop-step-2.invariant (omega arith) (omega arith) (omega arith) (omega arith) (at_place before (88 + step))
    (at_place before (88 + step + 1)) (small_at before (88 + step)) c.joined-in-loop-step-2.type_inv
    c.joined-in-loop-step-2.ensures

pub joined-requires-2-clause-low_of_seven : goal.joined-requires-2-clause-low_of_seven
joined-requires-2-clause-low_of_seven c =
    small_at (goal.at.joined-requires-2-clause-low_of_seven c).After-filled_page-page 92

pub returns : goal.returns
returns c =
    let before = (goal.at.returns c).After-filled_page-page in
    let septets = c.args.septets.now.items in
    let short : length septets ≤ 93 = rw (← c.as_slice.ensures.value) c.as_slice.ensures.fits in
    let had : ArePacked septets c.loop-step-2.octets 81 =
    (let all : 77 + c.loop-step-2.step ≡ 81 = omega arith in
    subst (λ n. ArePacked septets c.loop-step-2.octets n) all c.loop-step-2.invariant) in
    let none : 0 ≡ get_or (filled septets) 93 0 =
    sym (get_or_past (filled septets) 93 0 (omega (arith, length-filled septets short))) in
    IsPacked-from_octets septets _ short
    (ArePacked-more septets c.loop-step-2.octets 81 92 4 _ 0 c.joined-2.result 82 had (omega arith) (omega arith)
    (omega arith) (omega arith) (at_place before 92) none (small_at before 92) c.joined-2.type_inv c.joined-2.ensures)
