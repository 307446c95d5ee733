-- The page of a number among those of a message.
use Rattle.std.proofs.Common.{◌≡◌, ℕ, zero, suc, ◌+◌, ◌<◌, Some, List, [], ◌∷◌, length, get_or, ap, ◌∙◌, arith}
use Rattle.std.specs.List.{slice_get}
use Rattle.cbs_page.specs.declared.content.Content.{Content}
use Rattle.cbch_blocks.specs.RecordBlocks.{page_with, pages_from}

-- the page of a number is found at its place
pub page_found : (id serial dcs total number : ℕ) (contents : List Content) (i : ℕ) (d : Content) → i < length contents
    → slice_get (pages_from id serial dcs total number contents) i
    ≡ Some (page_with id serial dcs total (number + i) (get_or contents i d))
page_found id serial dcs total number [] i d within = absurd (omega (arith, within))
page_found id serial dcs total number (content ∷ rest) zero d within =
    let same : number ≡ number + 0 = omega arith in ap (λ n. Some (page_with id serial dcs total n content)) same
page_found id serial dcs total number (content ∷ rest) (suc i) d within =
    let next : number + 1 + i ≡ number + suc i = omega arith in
    page_found id serial dcs total (number + 1) rest i d (omega (arith, within))
    ∙ ap (λ n. Some (page_with id serial dcs total n (get_or rest i d))) next
