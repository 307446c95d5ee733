-- Runs of the books of all groups of a network are one run of the whole network's book.
use Rattle.std.proofs.Common.{◌≡◌, ℕ, ◌+◌, ◌*◌, ◌≤◌, ◌<◌, suc, ◌||◌, ◌∙◌, Bool, List, [], ◌∷◌, ◌++◌, drop}
use Rattle.std.proofs.Common.{get_or, length, refl, sym, ap, subst, arith}
use Rattle.std.specs.List.{All}
use Rattle.std.proofs.lemmas.List.{drop-drop, drop_all, take-append-drop}
use Rattle.std.proofs.lemmas.List.Elements.{All-cons, All-nil}
use Rattle.cbsp_wire.specs.declared.message.Cell.{Cell}
use Rattle.cbsp_wire.specs.CellLists.{contains}
use Rattle.cbsp_wire.specs.Range.{is_cell}
use Rattle.alert_book.specs.declared.network.Origin.TheVariants as origin
use Rattle.alert_book.specs.Book.{Contents}
use Rattle.alert_book.specs.Cells.{is_among}
use Rattle.alert_book.specs.Laws.{BooksAreOne}
use Rattle.alert_book.specs.Network.{cells_of_group, groups_of}
use Rattle.alert_book.proofs.GroupLaws.{cell-symm}
use Rattle.bsc_table.specs.Record.{Record}
use Rattle.book_runs.specs.CellParts.{IsPartRun, PartRun}
use Rattle.alert_book.specs.Restricted.{Keep, in_part, restricted}
use Rattle.book_runs.specs.Run.{IsExchange, IsRun}
use Rattle.book_runs.specs.WholeNetwork.{IsGroupRun, IsWholeNetwork, NetworksHaveOneRun, in_group}
use Rattle.book_runs.proofs.InARow.{HasRun, cells_in, in_a_row, records_in}
use Rattle.book_runs.proofs.KeptSessions.{turns_in}
use Rattle.book_runs.proofs.NetworkParts.{groups_are_parts, whole_for_cells, whole_rows, whole_within}
use Rattle.book_runs.proofs.SameBook.{same_turns}

-- a part with the cells of a group
abbrev of_group : (group : ℕ) → List Cell → PartRun → PartRun
of_group group cells part =
    record { cells = cells_of_group group cells; exchanges = part.exchanges; records = part.records }

abbrev of_groups : (group : ℕ) → List Cell → List PartRun → List PartRun
of_groups group cells [] = []
of_groups group cells (part ∷ parts) = of_group group cells part ∷ of_groups (suc group) cells parts

same_records : (group : ℕ) (cells : List Cell) (parts : List PartRun)
    → records_in (of_groups group cells parts) ≡ records_in parts
same_records group cells [] = refl
same_records group cells (part ∷ parts) =
    ap (λ (l : List Record). part.records ++ l) (same_records (suc group) cells parts)

-- the groups have all cells, one after the other
groups_have_all : (group : ℕ) (cells : List Cell) (parts : List PartRun) → length cells ≤ 64 * (group + length parts)
    → drop (64 * group) cells ≡ cells_in (of_groups group cells parts)
groups_have_all group cells [] few = drop_all (64 * group) cells (omega (arith, few))
groups_have_all group cells (part ∷ parts) few =
    sym (take-append-drop 64 (drop (64 * group) cells))
    ∙ ap (λ (l : List Cell). cells_of_group group cells ++ l)
    (drop-drop 64 (64 * group) cells
    ∙ ap (λ (n : ℕ). drop n cells) next
    ∙ groups_have_all (suc group) cells parts (omega (arith, few)))
  where
    next : 64 * group + 64 ≡ 64 * suc group
    next = omega arith

-- the cells of a group, by either test
same_test : (own : List Cell) (c : Cell) → is_among own c ≡ contains own c
same_test [] c = refl
same_test (d ∷ own) c =
    ap (λ (b : Bool). b || is_among own c) (cell-symm d c)
    ∙ ap (λ (b : Bool). is_cell c d || b) (same_test own c)

same_keep : (group : ℕ) (cells : List Cell)
    → (let keep : Keep = in_group group cells in keep) ≡ in_part (cells_of_group group cells)
same_keep group cells = λ i c. same_test (cells_of_group group cells) c i

-- a run of a book is one of each book with the same cells, orders and pages
group_run : BooksAreOne → (group : ℕ) (input : List ℕ) (whole : Contents) (slots : ℕ) (part : PartRun)
    → IsWholeNetwork input whole → group < groups_of (length whole.cells) → IsGroupRun group input slots part
    → IsPartRun whole slots (of_group group whole.cells part)
group_run one group input whole slots part is there has =
    let other : Contents = restricted (in_group group whole.cells) whole in
    let same = one (origin.Group group) input has.book other has.is_book (groups_are_parts group input whole is
    there) in
    let run : IsRun other slots part.exchanges part.records = record {
      session = same_turns has.book other 0 1 (turns_in part.exchanges) same.1 same.2 has.run.session;
      cells = has.run.cells ∙ same.0;
      exchanged = subst (λ (cells : List Cell). All (IsExchange cells) part.exchanges) same.0 has.run.exchanged;
      each = has.run.each;
    } in
    subst (λ (keep : Keep). IsRun (restricted keep whole) slots part.exchanges part.records)
    (same_keep group whole.cells) run

-- the parts that these are
abbrev AreGroupRuns : List ℕ → (slots from : ℕ) → List PartRun → Type 0
AreGroupRuns input slots from parts = (group at : ℕ) (d : PartRun) → group < length parts → at ≡ from + group
    → IsGroupRun at input slots (get_or parts group d)

group_runs : BooksAreOne → (input : List ℕ) (whole : Contents) (slots from : ℕ) (parts : List PartRun)
    → IsWholeNetwork input whole → from + length parts ≡ groups_of (length whole.cells)
    → AreGroupRuns input slots from parts
    → All (IsPartRun whole slots) (of_groups from whole.cells parts)
group_runs one input whole slots from [] is count runs = All-nil (IsPartRun whole slots)
group_runs one input whole slots from (part ∷ parts) is count runs =
    All-cons (IsPartRun whole slots) (of_group from whole.cells part) (of_groups (suc from) whole.cells parts)
    (group_run one from input whole slots part is (omega (arith, count)) (runs 0 from part (omega arith) (omega arith)))
    (group_runs one input whole slots (suc from) parts is (omega (arith, count))
    (λ group at d within same. runs (suc group) at d (omega (arith, within)) (omega (arith, same))))

enough : (n : ℕ) → n ≤ 64 * groups_of n
enough n = omega arith

-- runs of all groups' books are one run of the whole network's
pub networks_have_one_run : BooksAreOne → NetworksHaveOneRun
networks_have_one_run one input whole slots parts is count runs =
    let few = enough (length whole.cells) in
    let all : HasRun whole slots (records_in (of_groups 0 whole.cells parts)) =
    in_a_row slots (of_groups 0 whole.cells parts) whole (whole_for_cells input whole is)
    (whole_within input whole is) (whole_rows input whole is).distinct
    (groups_have_all 0 whole.cells parts (omega (arith, few, count)))
    (group_runs one input whole slots 0 parts is (omega (arith, count))
    (λ group at d within same. subst (λ (n : ℕ). IsGroupRun n input slots (get_or parts group d))
    (let is : group ≡ at = omega (arith, same) in is) (runs group d within))) in
    subst (HasRun whole slots) (same_records 0 whole.cells parts) all
