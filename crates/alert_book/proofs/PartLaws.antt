-- The parts of a text between its spaces, one after the other.
use Rattle.std.proofs.Common.{◌≡◌, ◌≢◌, ◌<◌, ◌∙◌, ap, sym, ℕ, suc, Option, Some, None, List, [], ◌∷◌, ◌++◌, length}
use Rattle.std.proofs.Common.{get_or, arith, rules, Bor, append_assoc, append-nil, refl, false}
use Rattle.std.proofs.lemmas.Str.Pattern.{IsSplitOnceResult, split_parts}
use Rattle.cbsp_wire.specs.declared.message.Cell.{Cell}
use Rattle.alert_book.specs.Cells.{is_space, parts_after, parts_of, all_named, cells_listed, cell_named, before_all}

-- cells that are named after these
abbrev pub after_cells : List Cell → Option (List Cell) → Option (List Cell)
after_cells front None = None
after_cells front (Some cells) = Some (front ++ cells)

-- a text without a space
abbrev pub IsSpaceless : List ℕ → Type 0
IsSpaceless text = (i : ℕ) → i < length text → get_or text i 0 ≢ 32

rest_spaceless : (x : ℕ) (xs : List ℕ) → IsSpaceless (x ∷ xs) → IsSpaceless xs
rest_spaceless x xs free i h = free (suc i) (omega arith)

first_spaceless : (x : ℕ) (xs : List ℕ) → IsSpaceless (x ∷ xs) → is_space x ≡ false
first_spaceless x xs free = search (rules, free 0 (omega arith))

-- a text without a space is one part
pub parts_whole : (part text : List ℕ) → IsSpaceless text → parts_after part text ≡ (part ++ text) ∷ []
parts_whole part [] free = rw (append-nil part) refl
parts_whole part (x ∷ xs) free =
    rw (first_spaceless x xs free) (parts_whole (part ++ x ∷ []) xs (rest_spaceless x xs free) ∙ rw append_assoc refl)

-- and what follows a first space is cut by itself
pub parts_cut : (part text rest : List ℕ) → IsSpaceless text →
    parts_after part (text ++ 32 ∷ rest) ≡ (part ++ text) ∷ parts_of rest
parts_cut part [] rest free = rw (append-nil part) refl
parts_cut part (x ∷ xs) rest free =
    rw (first_spaceless x xs free)
    (parts_cut (part ++ x ∷ []) xs rest (rest_spaceless x xs free) ∙ rw append_assoc refl)

-- a cell before those after these, and a part that names none
pub one_more : (front : List Cell) (cell : Cell) (cells : Option (List Cell)) →
    after_cells front (before_all (Some cell) cells) ≡ after_cells (front ++ cell ∷ []) cells
one_more front cell None = refl
one_more front cell (Some cells) = ap (λ (c : List Cell). Some c) (sym (append_assoc front (cell ∷ []) cells))

-- the cells of a text that is cut at its first space, and of one that has none
pub listed_cut : (text : List ℕ) (part rest : Bor (List ℕ)) → IsSplitOnceResult 32 text (Some (part, rest)) →
    cells_listed text ≡ before_all (cell_named part.now) (cells_listed rest.now)
listed_cut text part rest split =
    let cut = split_parts 32 text (Some (part, rest)) split (omega arith) in
    ap all_named (ap (λ (t : List ℕ). parts_of t) cut.0 ∙ parts_cut [] part.now rest.now cut.1)

-- a list without a space names one cell
pub listed_whole : (text : List ℕ) → IsSplitOnceResult 32 text None →
    cells_listed text ≡ before_all (cell_named text) (Some [])
listed_whole text split = ap all_named (parts_whole [] text (split_parts 32 text None split (omega arith)))

-- what comes of the cells after some, where a part names none, where it names one, and where it is the last
pub none_after : (front : List Cell) (text left part : List ℕ) (cells : Option (List Cell)) →
    cells_listed text ≡ after_cells front (cells_listed left) → cells_listed left ≡ before_all (cell_named part) cells →
    cell_named part ≡ None → None ≡ cells_listed text
none_after front text left part cells so cut none = sym (so ∙ rw (cut, none) refl)

-- one cell more is listed
pub more_after : (front : List Cell) (text left part : List ℕ) (cells : Option (List Cell)) (cell : Cell) →
    cells_listed text ≡ after_cells front (cells_listed left) → cells_listed left ≡ before_all (cell_named part) cells →
    cell_named part ≡ Some cell → cells_listed text ≡ after_cells (front ++ cell ∷ []) cells
more_after front text left part cells cell so cut one = so ∙ rw (cut, one) (one_more front cell cells)

-- the last cell is listed
pub last_after : (front : List Cell) (text left part : List ℕ) (cell : Cell) →
    cells_listed text ≡ after_cells front (cells_listed left) →
    cells_listed left ≡ before_all (cell_named part) (Some []) →
    cell_named part ≡ Some cell → Some (front ++ cell ∷ []) ≡ cells_listed text
last_after front text left part cell so cut one = sym (so ∙ rw (cut, one) refl)
