-- The lists of this project's own messages are those that the link has of the same octets.
use Rattle.std.proofs.Common.{◌≡◌, ◌≢◌, ℕ, ◌%◌, true, false, eqb, List, [], ◌∷◌, length, map}
use Rattle.std.proofs.Common.{Option}
use Rattle.std.proofs.Common.{Some, None, Ok, refl, sym, ap, subst, ◌∙◌, arith}
use Rattle.std.specs.List.{AllByRecursion}
use Rattle.std.proofs.lemmas.Bool.{eqb-true}
use Rattle.cbsp_wire.specs.declared.message.Cell.{Cell}
use Rattle.cbsp_wire.specs.declared.message.Count.{Count}
use Rattle.cbsp_wire.specs.declared.message.Failure.{Failure}
use Rattle.cbsp_wire.specs.Range.{failures_are_by_lac_and_ci}
use Rattle.cbsp_wire.specs.Element.{Element, bodies_of}
use Rattle.cbsp_wire.specs.Valid.{AreLists}
use Rattle.cbsp_wire.specs.Value as own
use Rattle.cbsp_wire.proofs.Tests.{and_parts}
use Rattle.cbsp_link.specs.declared.items.Naming.TheVariants as namings
use Rattle.cbsp_link.specs.declared.message.LinkCell.{LinkCell}
use Rattle.cbsp_link.specs.declared.message.LinkCount.{LinkCount}
use Rattle.cbsp_link.specs.declared.message.LinkFailure.{LinkFailure}
use Rattle.cbsp_link.specs.Outcome.{◌>>=◌, faultless, needed}
use Rattle.cbsp_link.specs.Item.{naming_of, cell_at, cell_item, count_item, failure_item, cells_named}
use Rattle.cbsp_link.specs.Item.{counts_named, cells_of_body, counts_of_body, failures_of_body}
use Rattle.cbsp_link.specs.Laws.{cell_of_own, count_of_own, failure_of_own}
use Rattle.cbsp_link.specs.Run.{Run, run_of, run_within}
use Rattle.cbsp_link.specs.Value.{listed}
use Rattle.cbsp_link.proofs.Fronts.{cell_takes, count_takes, failure_takes}
use Rattle.cbsp_link.proofs.Runs.{Reader, before, run_of-taken}

abbrev ran : {X : Type 0} → List X → Run X
ran xs = record { items = xs; stop = None }

ended : {X : Type 0} (front : Reader X) → run_of front [] ≡ ran []
unfolding run_of run_within
ended front = refl

cells_run : (o : List ℕ) → length o % 4 ≡ 0
    → run_of (cell_item namings.LacCi) o ≡ ran (map cell_of_own (own.cells_in o))
cells_run [] whole = ended (cell_item namings.LacCi)
cells_run (a ∷ []) whole = absurd (omega (arith, whole))
cells_run (a ∷ b ∷ []) whole = absurd (omega (arith, whole))
cells_run (a ∷ b ∷ c ∷ []) whole = absurd (omega (arith, whole))
cells_run (a ∷ b ∷ c ∷ d ∷ o) whole =
    let x = cell_of_own (own.cell_at a b c d) in
    run_of-taken (cell_item namings.LacCi) (cell_takes namings.LacCi) a (b ∷ c ∷ d ∷ o) x o refl
    ∙ ap (λ (r : Run LinkCell). before x r) (cells_run o (omega (arith, whole)))

counts_run : (o : List ℕ) → length o % 7 ≡ 0
    → run_of (count_item namings.LacCi) o ≡ ran (map count_of_own (own.counts_in o))
unfolding cell_at
counts_run [] whole = ended (count_item namings.LacCi)
counts_run (a ∷ []) whole = absurd (omega (arith, whole))
counts_run (a ∷ b ∷ []) whole = absurd (omega (arith, whole))
counts_run (a ∷ b ∷ c ∷ []) whole = absurd (omega (arith, whole))
counts_run (a ∷ b ∷ c ∷ d ∷ []) whole = absurd (omega (arith, whole))
counts_run (a ∷ b ∷ c ∷ d ∷ e ∷ []) whole = absurd (omega (arith, whole))
counts_run (a ∷ b ∷ c ∷ d ∷ e ∷ f ∷ []) whole = absurd (omega (arith, whole))
counts_run (a ∷ b ∷ c ∷ d ∷ e ∷ f ∷ g ∷ o) whole =
    let x = count_of_own (own.count_at a b c d e f g) in
    run_of-taken (count_item namings.LacCi) (count_takes namings.LacCi) a (b ∷ c ∷ d ∷ e ∷ f ∷ g ∷ o) x o refl
    ∙ ap (λ (r : Run LinkCount). before x r) (counts_run o (omega (arith, whole)))

failure_first : (z a b c d e : ℕ) (o : List ℕ) → z ≡ 1
    → failure_item z (a ∷ b ∷ c ∷ d ∷ e ∷ o) ≡ Ok (failure_of_own (own.failure_at a b c d e), o)
unfolding cell_at
failure_first z a b c d e o is =
    ap (λ (n : ℕ). failure_item n (a ∷ b ∷ c ∷ d ∷ e ∷ o)) is

failures_run : (o : List ℕ) → length o % 6 ≡ 0 → failures_are_by_lac_and_ci o ≡ true
    → run_of failure_item o ≡ ran (map failure_of_own (own.failures_in o))
failures_run [] whole named = ended failure_item
failures_run (z ∷ []) whole named = absurd (omega (arith, whole))
failures_run (z ∷ a ∷ []) whole named = absurd (omega (arith, whole))
failures_run (z ∷ a ∷ b ∷ []) whole named = absurd (omega (arith, whole))
failures_run (z ∷ a ∷ b ∷ c ∷ []) whole named = absurd (omega (arith, whole))
failures_run (z ∷ a ∷ b ∷ c ∷ d ∷ []) whole named = absurd (omega (arith, whole))
failures_run (z ∷ a ∷ b ∷ c ∷ d ∷ e ∷ o) whole named =
    let both = and_parts (eqb z 1) (failures_are_by_lac_and_ci o) named in
    let x = failure_of_own (own.failure_at a b c d e) in
    run_of-taken failure_item failure_takes z (a ∷ b ∷ c ∷ d ∷ e ∷ o) x o
    (failure_first z a b c d e o (eqb-true z 1 both.0))
    ∙ ap (λ (r : Run LinkFailure). before x r) (failures_run o (omega (arith, whole)) both.1)

-- ---- the body of a list. The discriminators of cbsp_wire's definitions have no name here, so a body is that of the
-- only element of a message

abbrev element : ℕ → List ℕ → Element
element n body = record { number = n; body = body }

cells_body : (body : List ℕ) → AreLists (element 4 body ∷ [])
    → cells_of_body body ≡ Ok (map cell_of_own (own.cells_of (element 4 body ∷ [])))
unfolding cells_of_body
cells_body [] is = let h : false ≡ true = is.cells.0.by_lac_and_ci in absurd cc
cells_body (a ∷ []) is = let h : false ≡ true = is.cells.0.by_lac_and_ci in absurd cc
cells_body (a ∷ b ∷ []) is = let h : false ≡ true = is.cells.0.by_lac_and_ci in absurd cc
cells_body (a ∷ b ∷ d ∷ items) is =
    ap (λ (n : ℕ). cells_named (naming_of n) items) (eqb-true d 1 is.cells.0.by_lac_and_ci)
    ∙ ap (λ (r : Run LinkCell). faultless r.items r.stop) (cells_run items is.cells.0.whole)

counts_body : (body : List ℕ) → AreLists (element 8 body ∷ [])
    → counts_of_body body ≡ Ok (map count_of_own (own.counts_of (element 8 body ∷ [])))
unfolding counts_of_body
counts_body [] is = let h : false ≡ true = is.completed.0.by_lac_and_ci in absurd cc
counts_body (a ∷ []) is = let h : false ≡ true = is.completed.0.by_lac_and_ci in absurd cc
counts_body (a ∷ b ∷ []) is = let h : false ≡ true = is.completed.0.by_lac_and_ci in absurd cc
counts_body (a ∷ b ∷ d ∷ items) is =
    ap (λ (n : ℕ). counts_named (naming_of n) items) (eqb-true d 1 is.completed.0.by_lac_and_ci)
    ∙ ap (λ (r : Run LinkCount). faultless r.items r.stop) (counts_run items is.completed.0.whole)

failures_body : (body : List ℕ) → AreLists (element 9 body ∷ [])
    → failures_of_body body ≡ Ok (map failure_of_own (own.failures_of (element 9 body ∷ [])))
unfolding failures_of_body
failures_body [] is = let h : false ≡ true = is.failures.0.by_lac_and_ci in absurd cc
failures_body (a ∷ []) is = let h : false ≡ true = is.failures.0.by_lac_and_ci in absurd cc
failures_body (a ∷ b ∷ items) is =
    ap (λ (r : Run LinkFailure). faultless r.items r.stop)
    (failures_run items is.failures.0.whole is.failures.0.by_lac_and_ci)

-- the first body, if there is one
abbrev pub first_of : List (List ℕ) → Option (List ℕ)
first_of [] = None
first_of (body ∷ bodies) = Some body

of_first : (P : List ℕ → Type 0) (bodies : List (List ℕ)) (b : List ℕ) (others : List (List ℕ))
    → bodies ≡ b ∷ others → AllByRecursion P bodies → P b
of_first P bodies b others is all =
    let first : AllByRecursion P (b ∷ others) = subst (λ (bs : List (List ℕ)). AllByRecursion P bs) is all in first.0

-- the cells of a message
pub cells_listed : (es : List Element) (bodies : List (List ℕ)) → bodies_of 4 es ≡ bodies → AreLists es
    → listed cells_of_body (first_of bodies) ≡ Ok (map cell_of_own (own.cells_of es))
cells_listed es [] is lists =
    let none : own.cells_of es ≡ [] = rw is refl in
    ap (λ (cs : List Cell). Ok (map cell_of_own cs)) (sym none)
cells_listed es (b ∷ bs) is lists =
    let one : AreLists (element 4 b ∷ []) =
    record { cells = (of_first _ (bodies_of 4 es) b bs is lists.cells, tt); completed = tt; failures = tt } in
    let same : own.cells_of es ≡ own.cells_of (element 4 b ∷ []) = rw is refl in
    cells_body b one ∙ ap (λ (cs : List Cell). Ok (map cell_of_own cs)) (sym same)

-- the completed broadcasts
pub counts_listed : (es : List Element) (bodies : List (List ℕ)) → bodies_of 8 es ≡ bodies → AreLists es
    → listed counts_of_body (first_of bodies) ≡ Ok (map count_of_own (own.counts_of es))
counts_listed es [] is lists =
    let none : own.counts_of es ≡ [] = rw is refl in
    ap (λ (cs : List Count). Ok (map count_of_own cs)) (sym none)
counts_listed es (b ∷ bs) is lists =
    let one : AreLists (element 8 b ∷ []) =
    record { cells = tt; completed = (of_first _ (bodies_of 8 es) b bs is lists.completed, tt); failures = tt } in
    let same : own.counts_of es ≡ own.counts_of (element 8 b ∷ []) = rw is refl in
    counts_body b one ∙ ap (λ (cs : List Count). Ok (map count_of_own cs)) (sym same)

-- the cells of a message that needs them
pub cells_needed : (es : List Element) (bodies : List (List ℕ)) → bodies_of 4 es ≡ bodies → AreLists es
    → bodies_of 4 es ≢ [] → (needed 4 (first_of bodies) >>= cells_of_body) ≡ Ok (map cell_of_own (own.cells_of es))
cells_needed es [] is lists some = absurd (some is)
cells_needed es (b ∷ bs) is lists some = cells_listed es (b ∷ bs) is lists

-- the failures
pub failures_needed : (es : List Element) (bodies : List (List ℕ)) → bodies_of 9 es ≡ bodies → AreLists es
    → bodies_of 9 es ≢ []
    → (needed 9 (first_of bodies) >>= failures_of_body) ≡ Ok (map failure_of_own (own.failures_of es))
failures_needed es [] is lists some = absurd (some is)
failures_needed es (b ∷ bs) is lists some =
    let one : AreLists (element 9 b ∷ []) =
    record { cells = tt; completed = tt; failures = (of_first _ (bodies_of 9 es) b bs is lists.failures, tt) } in
    let same : own.failures_of es ≡ own.failures_of (element 9 b ∷ []) = rw is refl in
    failures_body b one ∙ ap (λ (fs : List Failure). Ok (map failure_of_own fs)) (sym same)
