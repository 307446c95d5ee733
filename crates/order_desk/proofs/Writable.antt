-- The reply to an order whose cells are distinct is writable: each of its lists names some of those cells.
use Rattle.std.proofs.Common.{◌≡◌, ◌≤◌, ℕ, Bool, true, false, List, [], ◌∷◌, length, map, Option, Some, None, refl}
use native.Mathlib.Omega.{arith}
use Rattle.std.specs.Prelude.{◌||◌, not, nat_le, IfSome}
use Rattle.std.specs.List.{list_any, cons_option, filter_map}
use Rattle.std.proofs.lemmas.Bool.{leb-true, le-leb}
use Rattle.cbsp_wire.specs.declared.message.Cell.{Cell}
use Rattle.cbsp_wire.specs.declared.message.Failure.{Failure}
use Rattle.cbsp_wire.specs.declared.message.Count.{Count}
use Rattle.cbsp_wire.specs.Range.{are_distinct, cells_are_valid, cells_of_counts, cells_of_failures, is_cell}
use Rattle.cbsp_wire.specs.Range.{is_writable}
use Rattle.cbsp_wire.specs.Meaning.{IsMessage}
use Rattle.cbsp_wire.specs.Written.{octets_of_message}
use Rattle.cbsp_wire.proofs.Tests.{and_parts, and_both, not_true}
use Rattle.cbsp_wire.proofs.WrittenLaws.{octets_of_message-meant}
use Rattle.cbsp_wire.proofs.Writable.{write_done-writable, write_failed-writable, kill_done-writable}
use Rattle.cbsp_wire.proofs.Writable.{kill_failed-writable}
use Rattle.bsc_table.specs.declared.entry.Answer.{Answer}
use Rattle.bsc_table.specs.declared.entry.Answer.TheVariants as answers
use Rattle.bsc_table.specs.declared.command.Command.{Command}
use Rattle.bsc_table.specs.declared.command.Command.TheVariants as commands
use Rattle.order_desk.specs.Reply.{failure_by, cell_by, count_by, cells_answered, refused_in, accepting_cells}
use Rattle.order_desk.specs.Reply.{counted_in}
use Rattle.order_desk.specs.Reply.{write_reply, kill_reply, reply_message}

-- both parts of an alternative that fails
pub or_parts : (a b : Bool) → (a || b) ≡ false → (a ≡ false) × (b ≡ false)
or_parts false false h = (refl, refl)
or_parts false true h = absurd cc
or_parts true b h = absurd cc

or_both : (a b : Bool) → a ≡ false → b ≡ false → (a || b) ≡ false
or_both a b ha hb = rw (ha, hb) refl

-- what is false isn't true
pub not_false : (a : Bool) → a ≡ false → not a ≡ true
not_false a h = rw (h) refl

-- what is kept of one answer names that answer's cell, or nothing
abbrev pub NamesItsCell : {Y : Type 0} → (Cell × Answer → Option Y) → (Y → Cell) → Type 0
NamesItsCell keep cell_of = (answer : Cell × Answer) → IfSome (keep answer) (λ y. cell_of y ≡ answer.0)

-- a cell that isn't among those that answered isn't among those that are kept
pub absent_before : {Y : Type 0} (cell_of : Y → Cell) (c first : Cell) (kept : Option Y) (ys : List Y)
    → IfSome kept (λ y. cell_of y ≡ first)
    → is_cell c first ≡ false → list_any (is_cell c) (map cell_of ys) ≡ false
    → list_any (is_cell c) (map cell_of (cons_option kept ys)) ≡ false
absent_before cell_of c first None ys names h later = later
absent_before cell_of c first (Some y) ys names h later =
    or_both (is_cell c (cell_of y)) (list_any (is_cell c) (map cell_of ys)) (rw (names) h) later

-- a cell that didn't answer is in no list that a reply has
pub absent : {Y : Type 0} (keep : Cell × Answer → Option Y) (cell_of : Y → Cell) (c : Cell)
    (xs : List (Cell × Answer)) → NamesItsCell keep cell_of
    → list_any (is_cell c) (cells_answered xs) ≡ false
    → list_any (is_cell c) (map cell_of (filter_map keep xs)) ≡ false
absent keep cell_of c [] names h = refl
absent keep cell_of c (x ∷ xs) names h =
    let parts = or_parts (is_cell c x.0) (list_any (is_cell c) (cells_answered xs)) h in
    absent_before cell_of c x.0 (keep x) (filter_map keep xs) (names x) parts.0
    (absent keep cell_of c xs names parts.1)

-- so none is kept twice
pub distinct_before : {Y : Type 0} (cell_of : Y → Cell) (first : Cell) (kept : Option Y) (ys : List Y)
    → IfSome kept (λ y. cell_of y ≡ first)
    → list_any (is_cell first) (map cell_of ys) ≡ false → are_distinct (map cell_of ys) ≡ true
    → are_distinct (map cell_of (cons_option kept ys)) ≡ true
distinct_before cell_of first None ys names h later = later
distinct_before cell_of first (Some y) ys names h later =
    and_both (not (list_any (is_cell (cell_of y)) (map cell_of ys))) (are_distinct (map cell_of ys))
    (not_false (list_any (is_cell (cell_of y)) (map cell_of ys)) (rw (names) h)) later

-- the cells of each list of a reply are distinct, if those that answered are
pub distinct : {Y : Type 0} (keep : Cell × Answer → Option Y) (cell_of : Y → Cell)
    (xs : List (Cell × Answer)) → NamesItsCell keep cell_of → are_distinct (cells_answered xs) ≡ true
    → are_distinct (map cell_of (filter_map keep xs)) ≡ true
distinct keep cell_of [] names h = refl
distinct keep cell_of (x ∷ xs) names h =
    let parts = and_parts (not (list_any (is_cell x.0) (cells_answered xs))) (are_distinct (cells_answered xs)) h in
    distinct_before cell_of x.0 (keep x) (filter_map keep xs) (names x)
    (absent keep cell_of x.0 xs names (not_true (list_any (is_cell x.0) (cells_answered xs)) parts.0))
    (distinct keep cell_of xs names parts.1)

-- and no more are kept than answered
pub few_before : {Y : Type 0} (cell_of : Y → Cell) (first : Cell) (kept : Option Y) (ys : List Y) (rest : List Cell)
    → length (map cell_of ys) ≤ length rest
    → length (map cell_of (cons_option kept ys)) ≤ length (first ∷ rest)
few_before cell_of first None ys rest h = omega arith
few_before cell_of first (Some y) ys rest h = omega arith

-- each list of a reply has no more cells than answered
pub few : {Y : Type 0} (keep : Cell × Answer → Option Y) (cell_of : Y → Cell) (xs : List (Cell × Answer))
    → length (map cell_of (filter_map keep xs)) ≤ length (cells_answered xs)
few keep cell_of [] = omega arith
few keep cell_of (x ∷ xs) =
    few_before cell_of x.0 (keep x) (filter_map keep xs) (cells_answered xs) (few keep cell_of xs)

-- what is at most a number up to 64 is at most 64
pub below : (k n : ℕ) → k ≤ n → n ≤ 64 → k ≤ 64
below k n h fits = omega arith

-- the same by the test
pub short : (k n : ℕ) → k ≤ n → nat_le n 64 ≡ true → nat_le k 64 ≡ true
short k n h few = le-leb k 64 (below k n h (leb-true n 64 few))

-- each list of a reply is valid, if the cells that answered are
pub valid : {Y : Type 0} (keep : Cell × Answer → Option Y) (cell_of : Y → Cell) (xs : List (Cell × Answer))
    → NamesItsCell keep cell_of → cells_are_valid (cells_answered xs) ≡ true
    → cells_are_valid (map cell_of (filter_map keep xs)) ≡ true
valid keep cell_of xs names h =
    let parts = and_parts (nat_le (length (cells_answered xs)) 64) (are_distinct (cells_answered xs)) h in
    let kept = map cell_of (filter_map keep xs) in
    and_both (nat_le (length kept) 64) (are_distinct kept)
    (short (length kept) (length (cells_answered xs)) (few keep cell_of xs) parts.0)
    (distinct keep cell_of xs names parts.1)

-- each list names the cell of its answer
pub failure_names : (cell : Cell) (answer : Answer) → IfSome (failure_by cell answer) (λ f. f.cell ≡ cell)
failure_names cell (answers.Cause cause) = refl
failure_names cell (answers.Started slot) = tt
failure_names cell (answers.Replaced slot completed) = tt
failure_names cell (answers.Stopped completed) = tt
failure_names cell (answers.Told completed state) = tt
failure_names cell answers.Unknown = tt
failure_names cell answers.Refused = tt

cell_names : (cell : Cell) (answer : Answer) → IfSome (cell_by cell answer) (λ c. c ≡ cell)
cell_names cell (answers.Cause cause) = tt
cell_names cell (answers.Started slot) = refl
cell_names cell (answers.Replaced slot completed) = refl
cell_names cell (answers.Stopped completed) = refl
cell_names cell (answers.Told completed state) = tt
cell_names cell answers.Unknown = tt
cell_names cell answers.Refused = tt

count_names : (cell : Cell) (answer : Answer) → IfSome (count_by cell answer) (λ c. c.cell ≡ cell)
count_names cell (answers.Cause cause) = tt
count_names cell (answers.Started slot) = tt
count_names cell (answers.Replaced slot completed) = refl
count_names cell (answers.Stopped completed) = refl
count_names cell (answers.Told completed state) = tt
count_names cell answers.Unknown = tt
count_names cell answers.Refused = tt

refused_valid : (xs : List (Cell × Answer)) → cells_are_valid (cells_answered xs) ≡ true
    → cells_are_valid (cells_of_failures (refused_in xs)) ≡ true
refused_valid xs h =
    valid (λ a. failure_by a.0 a.1) (λ f. f.cell) xs (λ a. failure_names a.0 a.1) h

counted_valid : (xs : List (Cell × Answer)) → cells_are_valid (cells_answered xs) ≡ true
    → cells_are_valid (cells_of_counts (counted_in xs)) ≡ true
counted_valid xs h =
    valid (λ a. count_by a.0 a.1) (λ c. c.cell) xs (λ a. count_names a.0 a.1) h

-- cells, each as it is, are the same
pub map_same : (cells : List Cell) → map (λ (c : Cell). c) cells ≡ cells
map_same [] = refl
map_same (c ∷ cells) = rw (map_same cells) refl

-- equal lists of cells are both valid or neither is
pub moved : (cs ds : List Cell) → cs ≡ ds → cells_are_valid cs ≡ true → cells_are_valid ds ≡ true
moved cs ds same h = cc

accepted_valid : (xs : List (Cell × Answer)) → cells_are_valid (cells_answered xs) ≡ true
    → cells_are_valid (accepting_cells xs) ≡ true
accepted_valid xs h =
    moved (map (λ (c : Cell). c) (accepting_cells xs)) (accepting_cells xs) (map_same (accepting_cells xs))
    (valid (λ a. cell_by a.0 a.1) (λ (c : Cell). c) xs (λ a. cell_names a.0 a.1) h)

-- the replies
pub write_reply-writable : (id new : ℕ) (old : Option ℕ) (failures : List Failure) (completed : List Count)
    (cells : List Cell)
    → cells_are_valid (cells_of_failures failures) ≡ true
    → cells_are_valid (cells_of_counts completed) ≡ true → cells_are_valid cells ≡ true
    → is_writable (write_reply id new old failures completed cells) ≡ true
write_reply-writable id new old [] completed cells failed counted right =
    write_done-writable id new old completed cells counted right
write_reply-writable id new old (failure ∷ failures) completed cells failed counted right =
    write_failed-writable id new old (failure ∷ failures) completed cells refl failed counted right

kill_reply-writable : (id old : ℕ) (failures : List Failure) (completed : List Count)
    → cells_are_valid (cells_of_failures failures) ≡ true
    → cells_are_valid (cells_of_counts completed) ≡ true
    → is_writable (kill_reply id old failures completed) ≡ true
kill_reply-writable id old [] completed failed counted = kill_done-writable id old completed [] counted refl
kill_reply-writable id old (failure ∷ failures) completed failed counted =
    kill_failed-writable id old (failure ∷ failures) completed [] refl failed counted refl

-- the reply to an order that valid cells answered can be written
pub reply_is_writable : (command : Command) (xs : List (Cell × Answer)) → cells_are_valid (cells_answered xs) ≡ true
    → is_writable (reply_message command xs) ≡ true
reply_is_writable (commands.Write id serial None category dcs period broadcasts contents) xs h =
    write_reply-writable id serial None (refused_in xs) [] (accepting_cells xs) (refused_valid xs h) refl
    (accepted_valid xs h)
reply_is_writable (commands.Write id serial (Some old) category dcs period broadcasts contents) xs h =
    write_reply-writable id serial (Some old) (refused_in xs) (counted_in xs) [] (refused_valid xs h)
    (counted_valid xs h) refl
reply_is_writable (commands.Kill id serial) xs h =
    kill_reply-writable id serial (refused_in xs) (counted_in xs) (refused_valid xs h) (counted_valid xs h)
reply_is_writable (commands.Status id serial) xs h = kill_reply-writable id serial [] [] refl refl

-- so its octets mean it
pub reply_is_meant : (command : Command) (xs : List (Cell × Answer)) → cells_are_valid (cells_answered xs) ≡ true
    → IsMessage (octets_of_message (reply_message command xs)) (reply_message command xs)
reply_is_meant command xs h = octets_of_message-meant (reply_message command xs) (reply_is_writable command xs h)
