use Rattle.std.proofs.Common.{◌≡◌, ◌+◌, ◌-◌, ◌∙◌, ◌++◌, true, List, [], ◌∷◌, ℕ, arith, length, refl, sym}
use Rattle.std.specs.Prelude.{◌==◌}
use Rattle.std.specs.List.{flat_map, range_with_len}
use Rattle.std.proofs.lemmas.Bool.{eqb-true}
use Rattle.verification.specs.declared.difference.Difference.{Difference}
use Rattle.verification.specs.declared.judged.JudgedPage.{JudgedPage}
use Rattle.verification.specs.Asked.{AskedMessage}
use Rattle.verification.specs.Difference.{again_difference}
use Rattle.verification.specs.Kept.{asked_kept}
use Rattle.verification.proofs.AgainLaws.{again-none}
use Rattle.verification.proofs.ListLaws.{flat_map-range, rest-more, rest-none}
use Rattle.verification.proofs.again.push_again_differences.Goals as goal

pub loop-broadcast-preserved : goal.loop-broadcast-preserved
loop-broadcast-preserved c =
    let f : ℕ → List Difference = again_difference (asked_kept c.args.asked.now) c.args.pages.now in
    let j : ℕ = c.loop-broadcast.broadcast in
    rest-more c.loop-broadcast.found.items c.push_again.new.found.items (f j)
    (flat_map f (range_with_len j (c.args.slots - j)))
    (flat_map f (range_with_len (j + 1) (c.args.slots - (j + 1))))
    (c.args.found.now.items ++ flat_map f (range_with_len 0 c.args.slots))
    c.loop-broadcast.invariant
    (flat_map-range f c.loop-broadcast.broadcast (c.args.slots - c.loop-broadcast.broadcast)
    (c.args.slots - (c.loop-broadcast.broadcast + 1)) (omega arith))
    c.in_ok-push_again.ensures

no-items : (pages : List JudgedPage) → (length pages == 0) ≡ true → pages ≡ []
no-items [] is = refl
no-items (page ∷ pages) is =
    absurd (let long = eqb-true (length (page ∷ pages)) 0 is in let less : ⊥ = omega (arith, long) in less)

-- where no page comes from a broadcast on, no later one has a difference
pub returns-then-is_empty : goal.returns-then-is_empty
returns-then-is_empty c =
    let a : AskedMessage = asked_kept c.args.asked.now in
    let f : ℕ → List Difference = again_difference a c.args.pages.now in
    let j : ℕ = c.loop-broadcast.broadcast in
    let none : c.from_release.result.now ≡ [] =
    no-items c.from_release.result.now (sym c.if-is_empty.ensures) in
    rest-none c.loop-broadcast.found.items (flat_map f (range_with_len j (c.args.slots - j)))
    (c.args.found.now.items ++ flat_map f (range_with_len 0 c.args.slots))
    c.loop-broadcast.invariant
    (again-none a c.args.pages.now c.loop-broadcast.broadcast (c.args.slots - c.loop-broadcast.broadcast)
    (sym c.from_release.ensures ∙ none))
