-- What notes say that cells answered: one answer at most, and what is asked of the run's cells.
use Rattle.std.proofs.Common.{◌≡◌, ℕ, Bool, true, false, cond, List, [], ◌∷◌, ◌++◌, map, filter, refl}
use Rattle.std.proofs.Common.{sym, subst, ap, ◌∙◌, rules, inl, inr, get_or, drop, Option, Some, None, IfNone, IfSome}
use Rattle.std.specs.List.{AllByRecursion, AllZip}
use Rattle.std.proofs.lemmas.Bool.{cases_Bool, false≢true}
use Rattle.cbsp_wire.specs.declared.message.Cell.{Cell}
use Rattle.bsc_table.specs.declared.command.Command.{Command}
use Rattle.bsc_table.specs.declared.entry.Answer.{Answer}
use Rattle.bsc_table.specs.declared.entry.Answer.TheVariants as answers
use Rattle.bsc_table.specs.declared.entry.Entry.{Entry}
use Rattle.bsc_table.specs.Record.{Record}
use Rattle.order_desk.specs.declared.note.Note.{Note}
use Rattle.order_desk.specs.declared.note.Note.TheVariants as notes
use Rattle.order_desk.specs.Reply.{cells_answered}
use Rattle.book_runs.specs.Run.{Asked, is_among}
use Rattle.book_runs.specs.Sessions.{IsNoteOf}
use Rattle.session_check.specs.NotedSteps.{AreAnswersNoted, IsAnswerNoted, asked_at, record_cells}

-- a test is one or the other
pub clash : (b : Bool) → b ≡ true → b ≡ false → ⊥
clash b is not = false≢true (sym not ∙ is)

-- a value that is there isn't missing
pub some_none : {X : Type 0} (x : X) → Some x ≡ None → ⊥
some_none x h = search (rules, h)

no_cons : {X : Type 0} (x : X) (xs : List X) → [] ≡ x ∷ xs → ⊥
no_cons x xs h = search (rules, h)

-- lists that are one begin with the same item
pub first_same : {X : Type 0} (x y : X) (xs ys : List X) → x ∷ xs ≡ y ∷ ys → x ≡ y
first_same x y xs ys h = ap (λ (zs : List _). get_or zs 0 x) h

later_same : {X : Type 0} (x y : X) (xs ys : List X) → x ∷ xs ≡ y ∷ ys → xs ≡ ys
later_same x y xs ys h = ap (λ (zs : List _). drop 1 zs) h

-- a note is of one answer
answer_one : (records : List Record) (cell : Cell) (at : ℕ) (command : Command) (a b : Answer) (note : Note)
    → IsNoteOf records (cell, asked_at at command a) note
    → IsNoteOf records (cell, asked_at at command b) note
    → a ≡ b
answer_one records cell at command a b (notes.Event of number entry) one other =
    ap (λ (e : Entry). e.answer) (sym one.1 ∙ other.1)
answer_one records cell at command a b (notes.Played of from to) one other = absurd one
answer_one records cell at command a b (notes.Full of) one other = one.1 ∙ sym other.1

-- so notes say one answer of a cell, and leave the same notes
pub noted_one : (records : List Record) (at : ℕ) (command : Command) (cell : Cell) (a b : Answer)
    (before left rest : List Note)
    → IsAnswerNoted records at command (cell, a) before left
    → IsAnswerNoted records at command (cell, b) before rest
    → (a ≡ b) × (left ≡ rest)
noted_one records at command cell a b before left rest one other =
    elim (cases_Bool (is_among (record_cells records) cell)) [
      | inl among ↦
          let x = one.own among in
          let y = other.own among in
          let same = sym x.1 ∙ y.1 in
          let note = first_same x.0 y.0 left rest same in (
            answer_one records cell at command a b y.0
                (subst (IsNoteOf records (cell, asked_at at command a)) note x.2) y.2,
            later_same x.0 y.0 left rest same,
          )
      | inr foreign ↦
          let x = one.foreign foreign in
          let y = other.foreign foreign in
          (x.0 ∙ sym y.0, x.1 ∙ sym y.1)
    ]

-- and of several cells, too
pub all_noted_one : (records : List Record) (at : ℕ) (command : Command) (one other : List (Cell × Answer))
    (before left rest : List Note)
    → AreAnswersNoted records at command one before left
    → AreAnswersNoted records at command other before rest
    → cells_answered one ≡ cells_answered other
    → (one ≡ other) × (left ≡ rest)
all_noted_one records at command [] [] before left rest is are same = (refl, is ∙ sym are)
all_noted_one records at command [] (b ∷ other) before left rest is are same = absurd (no_cons _ _ same)
all_noted_one records at command (a ∷ one) [] before left rest is are same = absurd (no_cons _ _ (sym same))
all_noted_one records at command (a ∷ one) (b ∷ other) before left rest is are same =
    let cell : a.0 ≡ b.0 = first_same a.0 b.0 (cells_answered one) (cells_answered other) same in
    let cells = later_same a.0 b.0 (cells_answered one) (cells_answered other) same in
    let first = noted_one records at command a.0 a.1 b.1 before is.0 are.0 is.1
    (subst (λ (c : Cell). IsAnswerNoted records at command (c, b.1) before are.0) (sym cell) are.1) in
    let later = all_noted_one records at command one other is.0 left rest is.2
    (subst (λ (n : List Note). AreAnswersNoted records at command other n rest) (sym first.1) are.2) cells in
    (λ i. (cell i, first.0 i) ∷ later.0 i, later.1)

-- one more answer
pub noted_more : (records : List Record) (at : ℕ) (command : Command) (given : List (Cell × Answer))
    (next : Cell × Answer) (before mid left : List Note)
    → AreAnswersNoted records at command given before mid
    → IsAnswerNoted records at command next mid left
    → AreAnswersNoted records at command (given ++ next ∷ []) before left
noted_more records at command [] next before mid left are is =
    (left, subst (λ (n : List Note). IsAnswerNoted records at command next n left) are is, refl)
noted_more records at command (a ∷ given) next before mid left are is =
    (are.0, are.1, noted_more records at command given next are.0 mid left are.2 is)

-- notes of the answers of some cells go on, after those of the first of them, with the answer of the next
pub noted_past : (records : List Record) (at : ℕ) (command : Command) (done all : List (Cell × Answer)) (cell : Cell)
    (more : List Cell) (before mid left : List Note)
    → AreAnswersNoted records at command done before mid
    → AreAnswersNoted records at command all before left
    → cells_answered all ≡ cells_answered done ++ cell ∷ more
    → (answer : Answer) × (rest : List Note) × IsAnswerNoted records at command (cell, answer) mid rest
noted_past records at command [] [] cell more before mid left are is same = absurd (no_cons _ _ same)
noted_past records at command [] (x ∷ all) cell more before mid left are is same =
    let named : x.0 ≡ cell = first_same x.0 cell (cells_answered all) more same in
    let noted : IsAnswerNoted records at command (cell, x.1) before is.0 =
    subst (λ (c : Cell). IsAnswerNoted records at command (c, x.1) before is.0) named is.1 in
    (x.1, is.0, subst (λ (n : List Note). IsAnswerNoted records at command (cell, x.1) n is.0) (sym are) noted)
noted_past records at command (d ∷ done) [] cell more before mid left are is same = absurd (no_cons _ _ same)
noted_past records at command (d ∷ done) (x ∷ all) cell more before mid left are is same =
    let named : x.0 ≡ d.0 = first_same x.0 d.0 (cells_answered all) (cells_answered done ++ cell ∷ more) same in
    let cells = later_same x.0 d.0 (cells_answered all) (cells_answered done ++ cell ∷ more) same in
    let first = noted_one records at command d.0 d.1 x.1 before are.0 is.0 are.1
    (subst (λ (c : Cell). IsAnswerNoted records at command (c, x.1) before is.0) named is.1) in
    noted_past records at command done all cell more are.0 mid left are.2
    (subst (λ (n : List Note). AreAnswersNoted records at command all n left) (sym first.1) is.2) cells

-- what answers ask of the cells of a run
abbrev pub asks_at : (cells : List Cell) → (at : ℕ) → Command → List (Cell × Answer) → List (Cell × Asked)
asks_at cells at command given =
    map (λ a. (a.0, asked_at at command a.1)) (filter (λ a. is_among cells a.0) given)

-- a cell that isn't of the run is not identified
abbrev pub IsForeignUnknown : (cells : List Cell) → Cell × Answer → Type 0
IsForeignUnknown cells a = is_among cells a.0 ≡ false → a.1 ≡ answers.Cause 0x03

-- notes of answers are of what they ask, and of nothing else
pub asks_of_noted : (records : List Record) (at : ℕ) (command : Command) (given : List (Cell × Answer))
    (before left : List Note)
    → AreAnswersNoted records at command given before left
    → (own : List Note) × (before ≡ own ++ left)
    × AllZip (IsNoteOf records) (asks_at (record_cells records) at command given) own
asks_of_noted records at command [] before left are = ([], sym are, tt)
asks_of_noted records at command (a ∷ given) before left are =
    let cells = record_cells records in
    let rest = asks_of_noted records at command given are.0 left are.2 in
    elim (cases_Bool (is_among cells a.0)) [
      | inl among ↦
          let x = are.1.own among in
          let all : AllZip (IsNoteOf records) ((a.0, asked_at at command a.1) ∷ asks_at cells at command given)
          (x.0 ∷ rest.0) = (x.2, rest.2) in (
            x.0 ∷ rest.0,
            x.1 ∙ ap (λ (n : List Note). x.0 ∷ n) rest.1,
            subst (λ b. AllZip (IsNoteOf records) (map (λ (g : Cell × Answer). (g.0, asked_at at command g.1))
                (cond b (a ∷ filter (λ g. is_among cells g.0) given) (filter (λ g. is_among cells g.0) given)))
                (x.0 ∷ rest.0)) (sym among) all,
          )
      | inr foreign ↦ (
        rest.0,
        sym (are.1.foreign foreign).1 ∙ rest.1,
        subst (λ b. AllZip (IsNoteOf records) (map (λ (g : Cell × Answer). (g.0, asked_at at command g.1))
            (cond b (a ∷ filter (λ g. is_among cells g.0) given) (filter (λ g. is_among cells g.0) given)))
            rest.0) (sym foreign) rest.2,
      )
    ]

-- after answers that were noted, each cell that isn't of the records was answered as unknown
pub foreign_of_noted : (records : List Record) (at : ℕ) (command : Command) (given : List (Cell × Answer))
    (before left : List Note)
    → AreAnswersNoted records at command given before left
    → AllByRecursion (IsForeignUnknown (record_cells records)) given
foreign_of_noted records at command [] before left are = tt
foreign_of_noted records at command (a ∷ given) before left are =
    (λ foreign. (are.1.foreign foreign).0, foreign_of_noted records at command given are.0 left are.2)

-- and notes of what answers ask are of the answers
own_noted : (records : List Record) (at : ℕ) (command : Command) (a : Cell × Answer) (given : List (Cell × Answer))
    (own left : List Note)
    → is_among (record_cells records) a.0 ≡ true
    → ((later : List Note) → AllZip (IsNoteOf records) (asks_at (record_cells records) at command given) later
    → AreAnswersNoted records at command given (later ++ left) left)
    → AllZip (IsNoteOf records) ((a.0, asked_at at command a.1) ∷ asks_at (record_cells records) at command given) own
    → AreAnswersNoted records at command (a ∷ given) (own ++ left) left
own_noted records at command a given [] left among next all = absurd all
own_noted records at command a given (note ∷ own) left among next all = (
  own ++ left,
  record {
    own = λ _. (note, refl, all.0);
    foreign = λ foreign. absurd (clash (is_among (record_cells records) a.0) among foreign);
  },
  next own all.1,
)

-- notes that are those of what was asked of the records' cells are those of all answers
pub noted_of_asks : (records : List Record) (at : ℕ) (command : Command) (given : List (Cell × Answer))
    (own left : List Note)
    → AllByRecursion (IsForeignUnknown (record_cells records)) given
    → AllZip (IsNoteOf records) (asks_at (record_cells records) at command given) own
    → AreAnswersNoted records at command given (own ++ left) left
noted_of_asks records at command [] [] left unknown all = refl
noted_of_asks records at command [] (note ∷ own) left unknown all = absurd all
noted_of_asks records at command (a ∷ given) own left unknown all =
    let cells = record_cells records in
    elim (cases_Bool (is_among cells a.0)) [
      | inl among ↦ own_noted records at command a given own left among
          (λ later are. noted_of_asks records at command given later left unknown.1 are)
          (subst (λ b. AllZip (IsNoteOf records) (map (λ (g : Cell × Answer). (g.0, asked_at at command g.1))
          (cond b (a ∷ filter (λ g. is_among cells g.0) given) (filter (λ g. is_among cells g.0) given))) own)
          among all)
      | inr foreign ↦ (
        own ++ left,
        record {
          own = λ among. absurd (clash (is_among cells a.0) among foreign);
          foreign = λ _. (unknown.0 foreign, refl);
        },
        noted_of_asks records at command given own left unknown.1
            (subst (λ b. AllZip (IsNoteOf records) (map (λ (g : Cell × Answer). (g.0, asked_at at command g.1))
            (cond b (a ∷ filter (λ g. is_among cells g.0) given) (filter (λ g. is_among cells g.0) given))) own)
            foreign all),
      )
    ]

-- what holds where there is nothing, and of what there is
pub none_of : {X P : Type 0} (o : Option X) → o ≡ None → IfNone o P → P
none_of None is h = h
none_of (Some x) is h = absurd (some_none x is)

-- what a value that is there is, it is under `IfSome`
pub some_of : {X : Type 0} (P : X → Type 0) (o : Option X) (x : X) → o ≡ Some x → IfSome o P → P x
some_of P o x is h = subst (λ (p : Option _). IfSome p P) is h
