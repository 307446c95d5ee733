-- How a page writes a text, so that a reader of the page sees it as it is (the HTML standard, 13.1.4, Character
-- references).
use Rattle.std.specs.Prelude.{◌≡◌, ℕ, ◌==◌, ◌&&◌, not, true, Bool, if◌then◌else◌, List, [], ◌∷◌, codes}
use Rattle.std.specs.List.{flat_map, list_all}

-- an octet of a text in UTF-8: the five characters that mean something in a page are written by their references, all
-- others as they are
abbrev pub escaped_octet : ℕ → List ℕ
escaped_octet octet =
    if octet == 38 then codes "&amp;" else if octet == 60 then codes "&lt;" else if octet == 62 then codes "&gt;"
    else if octet == 34 then codes "&quot;" else if octet == 39 then codes "&#39;" else octet ∷ []

abbrev pub escaped : List ℕ → List ℕ
escaped text = flat_map escaped_octet text

-- an octet that neither begins nor ends a tag or the value of an attribute
abbrev pub is_plain : ℕ → Bool
is_plain octet = not (octet == 60) && (not (octet == 62) && (not (octet == 34) && not (octet == 39)))

-- an escaped text has no other
abbrev pub EscapedIsPlain : Type 0
EscapedIsPlain = (text : List ℕ) → list_all is_plain (escaped text) ≡ true
