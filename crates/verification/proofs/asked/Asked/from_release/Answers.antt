use Rattle.std.proofs.Common.{◌≡◌, ◌∙◌, ℕ, true, false, List, ltb, subst, rules}
use Rattle.std.specs.List.Sorted.{IsPartitionPoint}
use Rattle.std.proofs.lemmas.List.{take_rest}
use Rattle.std.proofs.lemmas.List.Sorted.{IsPartitionPoint-from_clause, IsPartitionedBy-ltb}
use Rattle.verification.specs.declared.judged.JudgedPage.{JudgedPage}
use Rattle.verification.specs.Kept.{asked_kept}
use Rattle.verification.proofs.TimeLaws.{from-point, rising-by}
use Rattle.verification.proofs.asked.Asked.from_release.Goals as goal

-- where a search by halves ended, of the pages with this slot
point_at : ℕ → List JudgedPage → ℕ → Type 0
point_at slot pages place =
    IsPartitionPoint (λ (p : JudgedPage). ltb p.slot slot ≡ true) (λ (p : JudgedPage). ltb p.slot slot ≡ false) pages
    place

pub returns : goal.returns
unfolding point_at
returns c =
    let rise = rising-by c.args.pages.now c.requires in
    let one : point_at c.release-release.result c.args.pages.now c.partition_point-first.result =
    IsPartitionPoint-from_clause (λ (p : JudgedPage). ltb p.slot c.release-release.result) _ _
    c.partition_point-first.ensures.partitioned
    (IsPartitionedBy-ltb (λ (p : JudgedPage). p.slot) c.args.pages.now c.release-release.result rise)
    (λ a r q k. search rules) in
    let release_point = subst (λ n. point_at n c.args.pages.now c.partition_point-first.result)
    c.release-release.ensures one in
    take_rest c.args.pages.now c.partition_point-first.result
    ∙ from-point (asked_kept c.args.self.now) c.args.broadcast c.partition_point-first.result c.args.pages.now
    c.partition_point-first.ensures.bound release_point.0 release_point.1
