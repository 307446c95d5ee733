use Rattle.std.proofs.Common.{◌≡◌, ◌∙◌, ◌+◌, ◌<◌, ◌||◌, ◌&&◌, ℕ, Bool, true, false, cond, eqb, List, Option, Some, None}
use Rattle.std.proofs.Common.{get_or}
use Rattle.std.proofs.Common.{length, take, refl, sym, ap, subst, inl, inr}
use Rattle.std.specs.List.{find, list_any}
use Rattle.std.proofs.lemmas.Bool.{cases_Bool, eq-eqb, eqb-true}
use Rattle.std.proofs.lemmas.List.Folds.{list_any_more}
use Rattle.cbsp_wire.specs.declared.message.Cell.{Cell}
use Rattle.cbsp_wire.specs.declared.message.Failure.{Failure}
use Rattle.cbsp_wire.specs.CellLists.{contains}
use Rattle.cbsp_wire.specs.Range.{is_cell}
use Rattle.cbsp_wire.specs.declared.cause.TheConstants.{MESSAGE_REFERENCE_NOT_IDENTIFIED}
use Rattle.cbsp_wire.proofs.CellLists.{is_itself, same_cell}
use Rattle.reply_outcome.specs.declared.outcome.Outcome.{Outcome}
use Rattle.alert_book.specs.declared.session.request.Request.{Request}
use Rattle.alert_book.specs.Session.{version_after, version_after_reply}
use Rattle.reply_outcome.specs.Replies.{refuses, version_by}
use Rattle.alert_book.specs.VersionSteps.{is_version_of, kept_version}
use Rattle.alert_book.proofs.VersionLaws.{turned}
use Rattle.alert_book.proofs.session.keep.Goals as goal

-- what a reply says of a cell twice it says once
cond_twice : (b : Bool) (asked before : Option ℕ) → cond b asked (cond b asked before) ≡ cond b asked before
cond_twice true asked before = refl
cond_twice false asked before = refl

by_twice : (refusal : Option Failure) (accepted : Bool) (asked before : Option ℕ)
    → version_by refusal accepted asked (version_by refusal accepted asked before)
    ≡ version_by refusal accepted asked before
by_twice None accepted asked before = cond_twice accepted asked before
by_twice (Some failure) accepted asked before =
    cond_twice (eqb failure.cause MESSAGE_REFERENCE_NOT_IDENTIFIED) None before

-- so it may say it where it was said already
said_if : (request : Request) (outcome : Outcome) (cell : Cell) (b : Bool) (before : Option ℕ)
    → version_after_reply request outcome cell (cond b (version_after_reply request outcome cell before) before)
    ≡ version_after_reply request outcome cell before
said_if request outcome cell true before =
    by_twice (find (refuses cell) outcome.refused) (contains outcome.accepted cell) request.version before
said_if request outcome cell false before = refl

or_true : (b : Bool) → (b || true) ≡ true
or_true true = refl
or_true false = refl

or_false : (b : Bool) → (b || false) ≡ b
or_false true = refl
or_false false = refl

-- of another alert nothing is said, and of its own what is said of the cell
of_other : (b l i : Bool) (said now : Option ℕ) → b ≡ false → cond ((b && l) && i) said now ≡ now
of_other true l i said now other = absurd cc
of_other false l i said now other = refl

of_own : (b l i : Bool) (said now : Option ℕ) → b ≡ true → cond ((b && l) && i) said now ≡ cond (l && i) said now
of_own true l i said now own = refl
of_own false l i said now own = absurd cc

after_other : (b k : Bool) (said old : Option ℕ) → b ≡ false → cond (b && k) said old ≡ old
after_other true k said old other = absurd cc
after_other false k said old other = refl

after_own : (b k : Bool) (said old : Option ℕ) → b ≡ true → cond (b && k) said old ≡ cond k said old
after_own true k said old own = refl
after_own false k said old own = absurd cc

-- the versions after what is said of one more of the cells that were asked
said_more : (request : Request) (outcome : Outcome) (cells : List Cell) (place : ℕ) (cell d : Cell)
    (new now old : ℕ → Cell → Option ℕ) → place < length cells → get_or cells place d ≡ cell
    → ((n : ℕ) (c : Cell) → now n c ≡ version_after request outcome (take place cells) n c (old n c))
    → ((n : ℕ) (c : Cell) → new n c ≡ cond (is_version_of request.number cell n c)
    (version_after_reply request outcome cell (now request.number cell)) (now n c))
    → (n : ℕ) (c : Cell) → new n c ≡ version_after request outcome (take (place + 1) cells) n c (old n c)
said_more request outcome cells place cell default new now old within at before set n c =
    set n c ∙ elim (cases_Bool (eqb request.number n)) [
      | inl own ↦ subst (λ m. cond (is_version_of request.number cell m c) (said cell (now request.number cell))
          (now m c) ≡ version_after request outcome (take (place + 1) cells) m c (old m c))
          (eqb-true request.number n own) (own_goes c)
      | inr other ↦
          of_other (eqb request.number n) (eqb cell.lac c.lac) (eqb cell.ci c.ci)
          (said cell (now request.number cell)) (now n c) other
          ∙ before n c
          ∙ after_other (eqb request.number n) (contains (take place cells) c) (said c (old n c)) (old n c) other
          ∙ sym (after_other (eqb request.number n) (contains (take (place + 1) cells) c) (said c (old n c)) (old n c)
          other)
    ]
  where
    number : ℕ
    number = request.number

    said : Cell → Option ℕ → Option ℕ
    said = version_after_reply request outcome

    is : eqb number number ≡ true
    is = eq-eqb number number refl

    more : (d : Cell) → contains (take (place + 1) cells) d ≡ (contains (take place cells) d || is_cell d cell)
    more d =
        list_any_more (is_cell d) cells place default within
        ∙ ap (λ (x : Cell). list_any (is_cell d) (take place cells) || is_cell d x) at

    now_is : (d : Cell) → now number d ≡ cond (contains (take place cells) d) (said d (old number d)) (old number d)
    now_is d =
        before number d
        ∙ after_own (eqb number number) (contains (take place cells) d) (said d (old number d)) (old number d) is

    of_cell : (d : Cell) → cond (is_cell cell d) (said cell (now number cell)) (now number d)
        ≡ cond (contains (take (place + 1) cells) d) (said d (old number d)) (old number d)
    of_cell d = elim (cases_Bool (is_cell cell d)) [
      | inl same ↦
          let is : cell ≡ d = same_cell cell d same in
          let has : contains (take (place + 1) cells) d ≡ true =
          more d ∙ ap (λ b. contains (take place cells) d || b) (ap (is_cell d) is ∙ is_itself d)
          ∙ or_true (contains (take place cells) d) in
          ap (λ b. cond b (said cell (now number cell)) (now number d)) same
          ∙ subst (λ (x : Cell). said x (now number x) ≡ said d (old number d)) (sym is)
          (ap (said d) (now_is d) ∙ said_if request outcome d (contains (take place cells) d) (old number d))
          ∙ sym (ap (λ b. cond b (said d (old number d)) (old number d)) has)
      | inr apart ↦
          let has : contains (take (place + 1) cells) d ≡ contains (take place cells) d =
          more d ∙ ap (λ b. contains (take place cells) d || b) (turned cell d apart)
          ∙ or_false (contains (take place cells) d) in
          ap (λ b. cond b (said cell (now number cell)) (now number d)) apart
          ∙ now_is d
          ∙ sym (ap (λ b. cond b (said d (old number d)) (old number d)) has)
    ]

    own_goes : (d : Cell) → cond (is_version_of number cell number d) (said cell (now number cell)) (now number d)
        ≡ version_after request outcome (take (place + 1) cells) number d (old number d)
    own_goes d =
        of_own (eqb number number) (eqb cell.lac d.lac) (eqb cell.ci d.ci) (said cell (now number cell))
        (now number d) is
        ∙ of_cell d
        ∙ sym (after_own (eqb number number) (contains (take (place + 1) cells) d) (said d (old number d))
        (old number d) is)

pub loop-place-preserved : goal.loop-place-preserved
loop-place-preserved c =
    let request = c.in-Some-Some.request in
    let cells = c.cells_asked-cell-items.result.now in
    let none : Cell = record { lac = 0; ci = 0 } in (
      said_more request c.in-Some-Some.outcome cells c.loop-place.place (get_or cells c.loop-place.place none) none
          (kept_version c.set_said.new.self) (kept_version c.loop-place.versions) (kept_version c.args.versions.now)
          c.loop-place-test.true refl c.loop-place.invariant.0 c.set_said.ensures.kept,
      λ n cell. c.set_said.ensures.places n cell ∙ c.loop-place.invariant.1 n cell,
    )
