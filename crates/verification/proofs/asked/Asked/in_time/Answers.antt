use Rattle.std.proofs.Common.{◌≡◌, ◌≤◌, ◌∙◌, ℕ, true, false, List, length, take, drop, ltb, ap, sym, subst, rules}
use Rattle.std.specs.List.Sorted.{IsNonDecreasingBy, IsPartitionPoint}
use Rattle.std.proofs.lemmas.List.{take_rest}
use Rattle.std.proofs.lemmas.List.Sorted.{IsNonDecreasingBy-drop, IsPartitionPoint-from_clause, IsPartitionedBy-ltb}
use Rattle.verification.specs.declared.judged.JudgedPage.{JudgedPage}
use Rattle.verification.specs.Asked.{AskedMessage}
use Rattle.verification.specs.Kept.{asked_kept}
use Rattle.verification.proofs.TimeLaws.{between-points, rising-by}
use Rattle.verification.proofs.asked.Asked.in_time.Goals as goal

-- where a search by halves ended, of the pages with this slot
point_at : ℕ → List JudgedPage → ℕ → Type 0
point_at slot pages place =
    IsPartitionPoint (λ (p : JudgedPage). ltb p.slot slot ≡ true) (λ (p : JudgedPage). ltb p.slot slot ≡ false) pages
    place

pub returns : goal.returns
unfolding point_at
returns c =
    let a : AskedMessage = asked_kept c.args.self.now in
    let pages : List JudgedPage = c.args.pages.now in
    let first : ℕ = c.partition_point-first.result in
    let rest = take_rest c.args.pages.now c.partition_point-first.result in
    let rise = rising-by c.args.pages.now c.requires in
    let one : point_at c.release-release.result c.args.pages.now c.partition_point-first.result =
    IsPartitionPoint-from_clause (λ (p : JudgedPage). ltb p.slot c.release-release.result) _ _
    c.partition_point-first.ensures.partitioned
    (IsPartitionedBy-ltb (λ (p : JudgedPage). p.slot) c.args.pages.now c.release-release.result rise)
    (λ a r q k. search rules) in
    let two : point_at c.due-due.result (drop c.partition_point-first.result c.args.pages.now)
    c.partition_point-count.result =
    subst (λ xs. point_at c.due-due.result xs c.partition_point-count.result) rest
    (IsPartitionPoint-from_clause (λ (p : JudgedPage). ltb p.slot c.due-due.result) _ _
    c.partition_point-count.ensures.partitioned
    (IsPartitionedBy-ltb (λ (p : JudgedPage). p.slot) _ c.due-due.result
    (subst (IsNonDecreasingBy (λ (p : JudgedPage). p.slot)) (sym rest)
    (IsNonDecreasingBy-drop (λ (p : JudgedPage). p.slot) c.partition_point-first.result c.args.pages.now rise)))
    (λ a r q k. search rules)) in
    let release_point = subst (λ n. point_at n c.args.pages.now c.partition_point-first.result)
    c.release-release.ensures one in
    let due_point = subst (λ n. point_at n (drop c.partition_point-first.result c.args.pages.now)
    c.partition_point-count.result) c.due-due.ensures two in
    ap (take c.partition_point-count.result) rest
    ∙ between-points a c.args.broadcast c.partition_point-first.result c.partition_point-count.result c.args.pages.now
    c.partition_point-first.ensures.bound
    (subst (λ xs. c.partition_point-count.result ≤ length xs) rest
    c.partition_point-count.ensures.bound)
    release_point.0 release_point.1 due_point.0 due_point.1
