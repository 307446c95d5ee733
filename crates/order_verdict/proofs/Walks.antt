-- Lists that are walked from the front, each item after those before it.
use Rattle.std.proofs.Common.{◌≡◌, ◌+◌, ◌<◌, ◌∙◌, ℕ, List, [], ◌∷◌, ◌++◌, ap, drop, get_or, length, map, sym}
use Rattle.std.proofs.Common.{take}
use Rattle.std.proofs.lemmas.List.{map-append}
use Rattle.cell_orders.specs.declared.row.OrderRow.{OrderRow}
use Rattle.verification.proofs.AgainLaws.{fronted}
use Rattle.verification.proofs.ListLaws.{dropped}
use Rattle.order_verdict.specs.Air.{AirOctets}
use Rattle.order_verdict.specs.Ordered.{OrderedMessage, ordered_after, ordered_of_row}
use Rattle.order_verdict.specs.Verdict.{unordered, unordered_after}

-- the messages of the rows from a place on
pub ordered-next : (delay : ℕ) (rows : List OrderRow) (i : ℕ) (row : OrderRow) → i < length rows →
    row ≡ get_or rows i row →
    ordered_after delay (take i rows) (drop i rows)
    ≡ ordered_of_row delay (take i rows) row (drop (i + 1) rows)
    ++ ordered_after delay (take (i + 1) rows) (drop (i + 1) rows)
ordered-next delay rows i row within is =
    ap (ordered_after delay (take i rows)) (dropped rows i row within is)
    ∙ ap (λ before. ordered_of_row delay (take i rows) row (drop (i + 1) rows)
    ++ ordered_after delay before (drop (i + 1) rows)) (fronted rows i row within is)

-- the pages without an order from a place on
pub unordered-next : {X : Type 0} (ms : List OrderedMessage) (see : X → AirOctets) (air : List X) (i : ℕ) (page : X) →
    i < length air → page ≡ get_or air i page →
    unordered_after ms (map see (take i air)) (map see (drop i air))
    ≡ unordered ms (map see (take i air)) (see page)
    ++ unordered_after ms (map see (take (i + 1) air)) (map see (drop (i + 1) air))
unordered-next ms see air i page within is =
    ap (λ rest. unordered_after ms (map see (take i air)) (map see rest)) (dropped air i page within is)
    ∙ ap (λ before. unordered ms (map see (take i air)) (see page)
    ++ unordered_after ms before (map see (drop (i + 1) air)))
    (sym (map-append see (take i air) (page ∷ [])) ∙ ap (map see) (fronted air i page within is))
