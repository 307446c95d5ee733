-- How many pages a text takes is how many pieces it is cut into.
use Rattle.std.proofs.Common.{◌≡◌, ◌∙◌, ℕ, List, [], ◌∷◌, ap, length, sym}
use Rattle.cbs_page.proofs.PaginateLaws.{has_pages}
use Rattle.cbs_page.proofs.PagingLaws.{one_paging, pieces_of_nothing}
use Rattle.cbs_page.specs.Text.{capacity, cost_of, IsPagingIn}
use Rattle.cbs_page.specs.declared.coding.Alphabet.{Alphabet}
use Rattle.book_texts.specs.Cost.{pages_needed_in}
use Rattle.book_texts.proofs.Fitting.{same_count}

-- in an alphabet a text's pages are as many as are counted
pub pages_counted : (alphabet : Alphabet) (text : List ℕ) (pieces : List (List ℕ)) → IsPagingIn alphabet text pieces
    → length pieces ≡ pages_needed_in alphabet text
pages_counted alphabet [] pieces paging =
    ap length (pieces_of_nothing (cost_of alphabet) (capacity alphabet) pieces paging)
pages_counted alphabet (c ∷ rest) pieces paging =
    let text : List ℕ = c ∷ rest in
    let has = has_pages alphabet text (λ none. cc) in
    ap length (one_paging (cost_of alphabet) (capacity alphabet) text pieces has.pieces paging has.paging)
    ∙ sym has.count ∙ sym (same_count alphabet 0 text)
