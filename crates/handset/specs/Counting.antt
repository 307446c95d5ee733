-- How many whole broadcasts of a message a list of blocks has (own): for each number from 1 to the total, how often the
-- page of
-- that number was read, and the least of these counts.
use Rattle.std.specs.Prelude.{ℕ, ◌==◌, min, List, [], ◌∷◌, map, count_by}
use Rattle.cbs_page.specs.declared.octets.PageView.{PageView}
use Rattle.handset.specs.Reception.{Name, pages_of, numbers_of, readable_pages}

-- how often the message's page of this number was read
abbrev pub times_read : Name → List PageView → ℕ → ℕ
times_read name pages number = count_by (λ page. page.number == number) (pages_of name pages)

-- the least of a number and those after it
abbrev pub least_with : ℕ → List ℕ → ℕ
least_with n [] = n
least_with n (m ∷ rest) = min n (least_with m rest)

-- the least of some numbers; 0 if there is none
abbrev pub least : List ℕ → ℕ
least [] = 0
least (n ∷ rest) = least_with n rest

-- the whole broadcasts of a message among pages; 0 if none of its pages was read
abbrev pub whole_among : Name → List PageView → ℕ
whole_among name pages = least (map (times_read name pages) (numbers_of name pages))

-- the whole broadcasts of a message in a list of blocks
abbrev pub whole_in : Name → List (List ℕ) → ℕ
whole_in name blocks = whole_among name (readable_pages blocks)
