-- An escaped text neither begins nor ends a tag.
use Rattle.std.proofs.Common.{◌≡◌, ℕ, ◌&&◌, true, [], ◌∷◌, ap₂, refl, rules, ◌∙◌}
use Rattle.std.proofs.lemmas.List.Folds.{list_all-append}
use Rattle.std.specs.List.{list_all}
use Rattle.chart.specs.Escape.{escaped, escaped_octet, is_plain, EscapedIsPlain}

octet_is_plain : (octet : ℕ) → list_all is_plain (escaped_octet octet) ≡ true
octet_is_plain octet = grind rules

-- no octet of an escaped text is markup
pub escaped_is_plain : EscapedIsPlain
escaped_is_plain [] = refl
escaped_is_plain (octet ∷ text) =
    list_all-append is_plain (escaped_octet octet) (escaped text)
    ∙ ap₂ (λ a b. a && b) (octet_is_plain octet) (escaped_is_plain text)
