use Rattle.std.proofs.Common.{◌==◌, ◌<◌, Bool, not, List, length, filter, refl, sym, ◌∙◌, arith}
use Rattle.std.proofs.lemmas.Bool.{lt-ltb}
use Rattle.std.proofs.lemmas.List.Filters.{length-filter_both}
use Rattle.admission.specs.declared.budget.Held.{Held}
use Rattle.admission.proofs.budget.places_without.Goals as goal

pub returns-then-places-lt-MAX_RESERVED : goal.returns-then-places-lt-MAX_RESERVED
returns-then-places-lt-MAX_RESERVED c =
    let table : List Held = c.args.table.now in
    let is : Held → Bool = λ h. h.entry == c.args.entry in
    let both = length-filter_both is (λ h. not (is h)) (λ h. refl) table in
    let few : length table < 64 = c.if-places-lt-MAX_RESERVED.true in
    lt-ltb (length table) 64 few
    ∙ sym (lt-ltb (length (filter (λ h. not (is h)) table)) 64 (omega (arith, both, few)))
