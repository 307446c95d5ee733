use Rattle.std.proofs.Common.{◌≡◌, ◌+◌, ◌-◌, ◌++◌, [], ap, arith, List, ℕ}
use Rattle.std.specs.List.{flat_map, range_with_len}
use Rattle.std.proofs.lemmas.Result.{on_ok_weaker}
use Rattle.verification.specs.declared.difference.Difference.{Difference}
use Rattle.verification.specs.declared.difference.Kind.TheVariants as kinds
use Rattle.verification.specs.declared.judged.JudgedPage.{JudgedPage}
use Rattle.verification.specs.Asked.{AskedMessage}
use Rattle.verification.specs.Difference.{first_difference, page_numbers}
use Rattle.verification.specs.Kept.{asked_kept}
use Rattle.verification.proofs.ListLaws.{flat_map-range, four-joined, rest-more, rest-none}
use Rattle.verification.proofs.pages.push_page_differences.Goals as goal

of_page : AskedMessage → List JudgedPage → ℕ → List Difference
of_page a pages number = first_difference a pages (kinds.Otherwise number)

pub loop-place-preserved : goal.loop-place-preserved
unfolding of_page
loop-place-preserved c =
    let f : ℕ → List Difference = of_page (asked_kept c.args.asked.now) c.args.pages.now in
    let at : ℕ = c.loop-place.place in
    rest-more c.loop-place.found.items c.push_first.new.found.items (f (at + 1))
    (flat_map f (range_with_len (at + 1) (15 - at)))
    (flat_map f (range_with_len (at + 1 + 1) (15 - (at + 1))))
    (c.args.found.now.items ++ flat_map f page_numbers)
    c.loop-place.invariant
    (flat_map-range f (c.loop-place.place + 1) (15 - c.loop-place.place) (15 - (c.loop-place.place + 1)) (omega arith))
    c.in_ok-push_first.ensures

none_left : (f : ℕ → List Difference) (a n : ℕ) → n ≡ 0 → flat_map f (range_with_len a n) ≡ []
none_left f a n is = ap (λ k. flat_map f (range_with_len a k)) is

pub returns : goal.returns
unfolding of_page
returns c =
    let a : AskedMessage = asked_kept c.args.asked.now in
    let f : ℕ → List Difference = of_page (asked_kept c.args.asked.now) c.args.pages.now in
    let of_kind = first_difference a c.args.pages.now in
    let numbers : c.loop-place.found.items ≡ c.args.found.now.items ++ flat_map f page_numbers =
    rest-none c.loop-place.found.items (flat_map f (range_with_len (c.loop-place.place + 1) (15 - c.loop-place.place)))
    (c.args.found.now.items ++ flat_map f page_numbers) c.loop-place.invariant
    (none_left f (c.loop-place.place + 1) (15 - c.loop-place.place) (omega arith)) in
    on_ok_weaker c.push_first-4.result
    (λ last. four-joined c.args.found.now.items (flat_map f page_numbers) (of_kind kinds.BeforeStart)
    (of_kind kinds.AfterStop) (of_kind kinds.AfterLast) c.loop-place.found.items c.push_first-2.new.found.items
    c.push_first-3.new.found.items c.push_first-4.new.found.items numbers c.in_ok-push_first-2.ensures
    c.in_ok-push_first-3.ensures last) c.push_first-4.ensures
