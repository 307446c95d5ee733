-- The run worked by hand (Worked), in each of its two cells alone.
use Rattle.std.proofs.Common.{◌≡◌, Some, None, [], ◌∷◌, codes, refl}
use Rattle.cbs_page.specs.declared.paging.Paged.{Paged}
use Rattle.alert_book.specs.declared.book.order.Action.TheVariants as action
use Rattle.alert_book.specs.Fields.{alert_with, sending_with}
use Rattle.alert_book.specs.Row.{order_with}
use Rattle.bsc_table.specs.declared.entry.Answer.TheVariants as answers
use Rattle.book_runs.specs.CellParts.{kept_exchanges, leave}
use Rattle.alert_book.specs.Restricted.{in_part, restricted}
use Rattle.book_runs.proofs.Worked.{asks, book, exchange, one, other, request, row_3, row_4, row_5, row_6, write}

-- the update is for the first cell alone and the stop for the second alone: each is left out of the other's book
book_of_other : (p q r : Paged) → restricted (in_part (other ∷ [])) (book p q r)
    ≡ record {
      cells = other ∷ [];
      orders =
          order_with 3 0 (codes "fire-en") 0 (alert_with 4370 0 1)
          (action.Write (sending_with (codes "en") 2 4 0 (other ∷ []) (codes "Stay in!")))
          ∷ order_with 4 0 (codes "fire-de") 1 (alert_with 4383 0 2)
          (action.Write (sending_with (codes "de") 2 4 0 (other ∷ []) (codes "Bleib da")))
          ∷ order_with 6 6 (codes "fire-de") 1 (alert_with 4383 0 2) (action.Stop (other ∷ []))
          ∷ [];
      pages = Some p ∷ Some q ∷ None ∷ [];
    }
book_of_other p q r = refl

book_of_one : (p q r : Paged) → (restricted (in_part (one ∷ [])) (book p q r)).pages ≡ Some p ∷ Some q ∷ Some r ∷ []
book_of_one p q r = refl

exchanges_of_other : (p q r : Paged)
    → kept_exchanges (leave (in_part (one ∷ []))) (row_3 p ∷ row_4 q ∷ row_5 r ∷ row_6 ∷ [])
    ≡ exchange (request 3 0 0 (Some 0) (write 4370 16 None (other ∷ []) p.dcs p.pages.items))
    (asks 4370 16 None p.dcs p.pages.items) ((other, answers.Started 0) ∷ [])
    ∷ exchange (request 4 0 1 (Some 0) (write 4383 32 None (other ∷ []) q.dcs q.pages.items))
    (asks 4383 32 None q.dcs q.pages.items) ((other, answers.Started 0) ∷ [])
    ∷ row_6 ∷ []
exchanges_of_other p q r = refl
