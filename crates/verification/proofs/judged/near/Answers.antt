use Rattle.std.proofs.Common.{◌≡◌, ◌∙◌, ℕ, true, false, List, take, drop, leb, ltb, ap, sym, subst, rules}
use Rattle.std.specs.List.Sorted.{IsNonDecreasingBy, IsPartitionPoint}
use Rattle.std.proofs.lemmas.List.{take_rest}
use Rattle.std.proofs.lemmas.List.Sorted.{IsNonDecreasingBy-drop, IsPartitionPoint-from_clause, IsPartitionedBy-leb}
use Rattle.std.proofs.lemmas.List.Sorted.{IsPartitionedBy-ltb}
use Rattle.verification.specs.declared.sent.SentPage.{SentPage}
use Rattle.verification.specs.Asked.{AskedMessage}
use Rattle.verification.specs.ByName.{name_number}
use Rattle.verification.specs.Judged.{judged_in}
use Rattle.verification.specs.Kept.{asked_kept}
use Rattle.verification.proofs.ByNameLaws.{between-names, number_of}
use Rattle.verification.proofs.judged.near.Goals as goal

-- where a search by halves ended, of the pages before those of this number, and of those up to them
before : ℕ → List SentPage → ℕ → Type 0
before number sent place =
    IsPartitionPoint (λ (s : SentPage). ltb (number_of s) number ≡ true)
    (λ (s : SentPage). ltb (number_of s) number ≡ false) sent place

up_to : ℕ → List SentPage → ℕ → Type 0
up_to number sent place =
    IsPartitionPoint (λ (s : SentPage). leb (number_of s) number ≡ true)
    (λ (s : SentPage). leb (number_of s) number ≡ false) sent place

pub returns : goal.returns
unfolding before up_to
returns c =
    let a : AskedMessage = asked_kept c.args.asked.now in
    let number : ℕ = name_number c.args.asked.now.id c.args.asked.now.serial in
    let rest = take_rest c.args.sent.now c.partition_point-first.result in
    let one : before c.name_number-name.result c.args.sent.now c.partition_point-first.result =
    IsPartitionPoint-from_clause (λ (s : SentPage). ltb (number_of s) c.name_number-name.result) _ _
    c.partition_point-first.ensures.partitioned
    (IsPartitionedBy-ltb number_of c.args.sent.now c.name_number-name.result c.requires.named)
    (λ a r q k. search rules) in
    let two : up_to c.name_number-name.result (drop c.partition_point-first.result c.args.sent.now)
    c.partition_point-count.result =
    subst (λ xs. up_to c.name_number-name.result xs c.partition_point-count.result) rest
    (IsPartitionPoint-from_clause (λ (s : SentPage). leb (number_of s) c.name_number-name.result) _ _
    c.partition_point-count.ensures.partitioned
    (IsPartitionedBy-leb number_of _ c.name_number-name.result
    (subst (IsNonDecreasingBy number_of) (sym rest)
    (IsNonDecreasingBy-drop number_of c.partition_point-first.result c.args.sent.now c.requires.named)))
    (λ a r q k. search rules)) in
    let first = subst (λ n. before n c.args.sent.now c.partition_point-first.result) c.name_number-name.ensures one in
    let last = subst (λ n. up_to n (drop c.partition_point-first.result c.args.sent.now)
    c.partition_point-count.result) c.name_number-name.ensures two in
    ap (λ xs. judged_in a (take c.partition_point-count.result xs)) rest
    ∙ between-names a c.partition_point-first.result c.partition_point-count.result c.args.sent.now
    c.partition_point-first.ensures.bound
    first.0 last.1
