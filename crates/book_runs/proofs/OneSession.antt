-- A run of one session is a run of the book: all that a cell was asked is the session's.
use Rattle.std.proofs.Common.{◌≡◌, ◌<◌, ℕ, zero, suc, get_or, true, false, cond, eqb, eqb-true, filter, inl, inr, List}
use Rattle.std.proofs.Common.{[], ◌∷◌}
use Rattle.std.proofs.Common.{map, refl, ap, sym, ◌∙◌, arith}
use Rattle.std.proofs.lemmas.Bool.{cases_Bool, eq-eqb, eqb-false, ne_eqb}
use Rattle.std.specs.List.{All}
use Rattle.std.proofs.lemmas.List.Elements.{All-cons, All-head, All-nil, All-weaker}
use Rattle.alert_book.specs.Book.{Contents}
use Rattle.alert_book.specs.Turns.{AreTurnsOf}
use Rattle.bsc_table.specs.Record.{Record}
use Rattle.book_runs.specs.Live.{IsLiveRun, IsRunBy, Interleaving, asked_by}
use Rattle.book_runs.specs.LiveLaws.{OneSessionIsARun}
use Rattle.book_runs.specs.Run.{Asked, Exchange, IsExchange, IsRun, IsRunOfBook, asked_of, entries_for}

-- where no other part asked anything, the first asked all
all_of_first : (order : Interleaving) → ((part : ℕ) → asked_by (suc part) order ≡ [])
    → asked_by 0 order ≡ map (λ a. a.1) order
all_of_first [] none = refl
all_of_first (a ∷ order) none = elim (cases_Bool (eqb a.0 0)) [
  | inl own ↦ first own (λ rest. all_of_first order rest)
  | inr other ↦ absurd (some (asked_by a.0 order) (sym (kept a.0 (eq-eqb a.0 a.0 refl)) ∙ of_later a.0 other none))
]
  where
    kept : (part : ℕ) → eqb a.0 part ≡ true → asked_by part (a ∷ order) ≡ a.1 ∷ asked_by part order
    kept part own = ap (λ b. map (λ (x : ℕ × Asked). x.1)
        (cond b (a ∷ filter (λ (x : ℕ × Asked). eqb x.0 part) order) (filter (λ (x : ℕ × Asked). eqb x.0 part) order)))
        own

    left_out : (part : ℕ) → eqb a.0 part ≡ false → asked_by part (a ∷ order) ≡ asked_by part order
    left_out part other = ap (λ b. map (λ (x : ℕ × Asked). x.1)
        (cond b (a ∷ filter (λ (x : ℕ × Asked). eqb x.0 part) order) (filter (λ (x : ℕ × Asked). eqb x.0 part) order)))
        other

    some : (later : List Asked) → a.1 ∷ later ≡ [] → ⊥
    some later is = cc

    of_later : (mark : ℕ) → eqb mark 0 ≡ false → ((part : ℕ) → asked_by (suc part) (a ∷ order) ≡ [])
        → asked_by mark (a ∷ order) ≡ []
    of_later zero other none = absurd (eqb-false 0 0 other refl)
    of_later (suc mark) other none = none mark

    first : eqb a.0 0 ≡ true
        → (((part : ℕ) → asked_by (suc part) order ≡ []) → asked_by 0 order ≡ map (λ x. x.1) order)
        → asked_by 0 (a ∷ order) ≡ map (λ x. x.1) (a ∷ order)
    first own go =
        let zero_is : a.0 ≡ 0 = eqb-true a.0 0 own in
        kept 0 own ∙ ap (λ (later : List Asked). a.1 ∷ later)
        (go (λ part. sym (left_out (suc part) (ne_eqb a.0 (suc part) (λ same. omega (arith, zero_is, same))))
        ∙ none part))

is_run_of : (slots : ℕ) (exchanges : List Exchange) (r : Record) → IsRunBy slots (exchanges ∷ []) r
    → IsRunOfBook slots exchanges r
is_run_of slots exchanges r by =
    let all = all_of_first by.order (λ part. by.own (suc part)) in record {
      run = by.run;
      over = by.over;
      legal = by.legal;
      entries = by.entries ∙ ap (entries_for slots 0) (sym all ∙ by.own 0);
    }

-- a live run of one session is a run of the book
pub one_session_is_a_run : OneSessionIsARun
one_session_is_a_run book slots exchanges records live = record {
  session = live.turns 0 (omega arith);
  cells = live.cells;
  exchanged = All-head (All (IsExchange book.cells)) exchanges [] live.exchanged;
  each = All-weaker (IsRunBy slots (exchanges ∷ [])) (IsRunOfBook slots exchanges)
      (λ r by. is_run_of slots exchanges r by) records live.each;
}

-- what the first part asked, where no other did
asked_first : (asked : List Asked) → asked_by 0 (map (λ (a : Asked). (0, a)) asked) ≡ asked
asked_first [] = refl
asked_first (a ∷ asked) = ap (λ (l : List Asked). a ∷ l) (asked_first asked)

asked_later : (part : ℕ) (asked : List Asked) → asked_by (suc part) (map (λ (a : Asked). (0, a)) asked) ≡ []
asked_later part [] = refl
asked_later part (a ∷ asked) =
    let rest : Interleaving =
    filter (λ (x : ℕ × Asked). eqb x.0 (suc part)) (map (λ (x : Asked). (0, x)) asked) in
    ap (λ b. map (λ (x : ℕ × Asked). x.1) (cond b ((0, a) ∷ rest) rest))
    (ne_eqb 0 (suc part) (λ same. omega (arith, same)))
    ∙ asked_later part asked

asked_all : (asked : List Asked) → map (λ (a : ℕ × Asked). a.1) (map (λ (a : Asked). (0, a)) asked) ≡ asked
asked_all [] = refl
asked_all (a ∷ asked) = ap (λ (l : List Asked). a ∷ l) (asked_all asked)

is_run_by : (slots : ℕ) (exchanges : List Exchange) (r : Record) → IsRunOfBook slots exchanges r
    → IsRunBy slots (exchanges ∷ []) r
is_run_by slots exchanges r of_book =
    let asked : List Asked = asked_of r.cell exchanges in record {
      run = of_book.run;
      over = of_book.over;
      legal = of_book.legal;
      order = map (λ (a : Asked). (0, a)) asked;
      own = λ part. by_part asked part;
      entries = of_book.entries ∙ ap (entries_for slots 0) (sym (asked_all asked));
    }
  where
    by_part : (asked : List Asked) (part : ℕ)
        → asked_by part (map (λ (a : Asked). (0, a)) (asked_of r.cell exchanges))
        ≡ asked_of r.cell (get_or (exchanges ∷ []) part [])
    by_part asked zero = asked_first (asked_of r.cell exchanges)
    by_part asked (suc part) = asked_later part (asked_of r.cell exchanges)

-- and a run of the book is a live run of one session
pub a_run_is_of_one_session : (book : Contents) (slots : ℕ) (exchanges : List Exchange) (records : List Record)
    → IsRun book slots exchanges records → IsLiveRun book slots (exchanges ∷ []) records
a_run_is_of_one_session book slots exchanges records run = record {
  turns = λ part within. by_part part within;
  cells = run.cells;
  exchanged = All-cons (All (IsExchange book.cells)) exchanges [] run.exchanged (All-nil (All (IsExchange book.cells)));
  each = All-weaker (IsRunOfBook slots exchanges) (IsRunBy slots (exchanges ∷ []))
      (λ r of_book. is_run_by slots exchanges r of_book) records run.each;
}
  where
    by_part : (part : ℕ) → part < 1
        → AreTurnsOf book part 1 (map (λ (x : Exchange). x.turn) (get_or (exchanges ∷ []) part []))
    by_part zero within = run.session
    by_part (suc part) within = absurd (omega (arith, within))
