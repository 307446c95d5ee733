-- No two differences have one place in their order, so that a cell's differences are one list.
use Rattle.std.proofs.Common.{◌≡◌, ◌∙◌, ℕ, false, cond, refl, sym, ap}
use Rattle.std.specs.Prelude.{◌==◌}
use Rattle.std.specs.Ordering.{is_eq, is_lt, nat_cmp, ordering_reverse, ordering_then}
use Rattle.std.specs.declared.cmp.Ordering.{Ordering}
use Rattle.std.specs.declared.cmp.Ordering.TheVariants.{Less, Equal, Greater}
use Rattle.std.specs.Cmp.{IsTotalOrder, unsigned_ties}
use Rattle.std.proofs.Common.{eqb-true}
use Rattle.std.proofs.lemmas.Cmp.{nat_cmp_total, on_total, then_total}
use Rattle.std.proofs.lemmas.List.Sorted.{ranks_by}
use Rattle.verification.specs.declared.difference.Difference.{Difference}
use Rattle.verification.specs.declared.difference.Kind.{Kind}
use Rattle.verification.specs.declared.difference.Kind.TheVariants as kinds
use Rattle.verification.specs.Asked.{asked_of_log}
use Rattle.verification.specs.Sent.{sent_in}
use Rattle.verification.specs.Difference.{SortKey, all_differences, sort_key, key_order, kind_number, kind_place}
use Rattle.verification_laws.specs.OneList.{CellsDifferInOneList}
use Rattle.verification_laws.proofs.OneList.{one-list}

-- the order of differences is one
total : IsTotalOrder key_order
total =
    then_total (then_total (then_total (then_total (on_total (λ (k : SortKey). k.0) nat_cmp_total)
    (on_total (λ (k : SortKey). k.1) nat_cmp_total)) (on_total (λ (k : SortKey). k.2) nat_cmp_total))
    (on_total (λ (k : SortKey). k.3) nat_cmp_total)) (on_total (λ (k : SortKey). k.4) nat_cmp_total)

-- a difference is what its key says
abbrev kind_from : (place number : ℕ) → Kind
kind_from place number =
    cond (place == 0) (kinds.Otherwise number)
    (cond (place == 1) kinds.BeforeStart
    (cond (place == 2) kinds.AfterStop
    (cond (place == 3) kinds.AfterLast
    (cond (place == 4) (kinds.NotWhole number)
    (cond (place == 5) kinds.NotOrdered (kinds.Again number))))))

kind_again : (kind : Kind) → kind_from (kind_place kind) (kind_number kind) ≡ kind
kind_again (kinds.Otherwise number) = refl
kind_again kinds.BeforeStart = refl
kind_again kinds.AfterStop = refl
kind_again kinds.AfterLast = refl
kind_again (kinds.NotWhole broadcast) = refl
kind_again kinds.NotOrdered = refl
kind_again (kinds.Again broadcast) = refl

abbrev made : (slot id serial place number : ℕ) → Difference
made slot id serial place number = record { slot = slot; id = id; serial = serial; kind = kind_from place number }

made_again : (d : Difference) → made d.slot d.id d.serial (kind_place d.kind) (kind_number d.kind) ≡ d
made_again d =
    ap (λ (kind : Kind). record { slot = d.slot; id = d.id; serial = d.serial; kind = kind }) (kind_again d.kind)

-- two orders in turn say equal if both do
both : (a b : Ordering) → ordering_then a b ≡ Equal → (a ≡ Equal) × (b ≡ Equal)
both Less b is = cc
both Equal b is = (refl, is)
both Greater b is = cc

numbers : (m n : ℕ) → nat_cmp m n ≡ Equal → m ≡ n
numbers m n is = eqb-true m n (unsigned_ties m n ∙ ap is_eq is)

-- neither below the other: equal
neither : (one other : Ordering) → one ≡ ordering_reverse other → is_lt one ≡ false → is_lt other ≡ false → one ≡ Equal
neither Equal other is below above = refl
neither Less other is below above = cc
neither Greater Less is below above = cc
neither Greater Equal is below above = cc
neither Greater Greater is below above = cc

alike : (a b : Difference) → is_lt (key_order (sort_key a) (sort_key b)) ≡ false →
    is_lt (key_order (sort_key b) (sort_key a)) ≡ false → a ≡ b
alike a b below above =
    let all : key_order (sort_key a) (sort_key b) ≡ Equal =
    neither (key_order (sort_key a) (sort_key b)) (key_order (sort_key b) (sort_key a))
    (total.antisymm (sort_key a) (sort_key b))
    below above in
    let four = both _ _ all in
    let three = both _ _ four.0 in
    let two = both _ _ three.0 in
    let one = both _ _ two.0 in
    sym (made_again a)
    ∙ ap (λ n. made n a.id a.serial (kind_place a.kind) (kind_number a.kind)) (numbers a.slot b.slot one.0)
    ∙ ap (λ n. made b.slot n a.serial (kind_place a.kind) (kind_number a.kind)) (numbers a.id b.id one.1)
    ∙ ap (λ n. made b.slot b.id n (kind_place a.kind) (kind_number a.kind)) (numbers a.serial b.serial two.1)
    ∙ ap (λ n. made b.slot b.id b.serial n (kind_number a.kind))
    (numbers (kind_place a.kind) (kind_place b.kind) three.1)
    ∙ ap (λ n. made b.slot b.id b.serial (kind_place b.kind) n)
    (numbers (kind_number a.kind) (kind_number b.kind) four.1)
    ∙ made_again b

-- the differences of a cell's tape are one list
pub one-list-of-differences : CellsDifferInOneList
one-list-of-differences r blocks found other are also =
    one-list (λ (a b : Difference). is_lt (key_order (sort_key a) (sort_key b))) (ranks_by total sort_key) alike
    (all_differences r.slots (asked_of_log r.log) (sent_in blocks)) found other are.all also.all are.sorted also.sorted
