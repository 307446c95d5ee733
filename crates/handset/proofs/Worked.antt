-- What some lists of blocks show, computed. The pages are in UCS-2, so that their octets are the text's own.
use Rattle.std.proofs.Common.{◌≡◌, ℕ, ◌++◌, List, [], ◌∷◌, replicate, refl}
use Rattle.std.specs.List.{flat_map}
use Rattle.handset.specs.Reception.{shown_in}
use lib.Utf8.{encode}

-- so many of the carriage returns that fill a page
abbrev filling : ℕ → List ℕ
filling units = flat_map {X = ℕ} (λ unit. 0x00 ∷ 0x0D ∷ []) (replicate units 0)

-- the blocks of the page of message 1112, serial number 0010, with this page parameter and this letter
abbrev page_of : ℕ → ℕ → List (List ℕ)
page_of parameter letter =
    (0x20 ∷ 0x00 ∷ 0x10 ∷ 0x11 ∷ 0x12 ∷ 0x48 ∷ parameter ∷ 0x00 ∷ letter ∷ filling 7)
    ∷ (0x21 ∷ filling 11) ∷ (0x22 ∷ filling 11) ∷ (0x33 ∷ filling 11) ∷ []

-- the second page comes first, and each page again with another letter
worked_order :
    shown_in (page_of 0x22 66 ++ page_of 0x22 67 ++ page_of 0x12 65 ++ page_of 0x12 68)
    ≡ record { id = 0x1112; serial = 0x0010; text = 65 ∷ 66 ∷ [] } ∷ []
unfolding encode
worked_order = refl

-- a page of another total is passed over
worked_total :
    shown_in (page_of 0x12 65 ++ page_of 0x23 66 ++ page_of 0x22 67)
    ≡ record { id = 0x1112; serial = 0x0010; text = 65 ∷ 67 ∷ [] } ∷ []
unfolding encode
worked_total = refl

-- two first blocks in a row: the page is of the last four
worked_types :
    shown_in ((0x20 ∷ filling 11) ∷ page_of 0x00 65)
    ≡ record { id = 0x1112; serial = 0x0010; text = 65 ∷ [] } ∷ []
unfolding encode
worked_types = refl

-- without its third block a page is none
worked_gap : shown_in ((0x20 ∷ filling 11) ∷ (0x21 ∷ filling 11) ∷ (0x33 ∷ filling 11) ∷ []) ≡ []
worked_gap = refl
