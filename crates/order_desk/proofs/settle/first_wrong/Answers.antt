use Rattle.std.proofs.Common.{◌≡◌, ◌∙◌, inl, inr, ℕ, ◌+◌, ◌<◌, List}
use Rattle.std.proofs.Common.{[], ◌∷◌, sym, subst, arith, eqb, length, slice_index_or}
use Rattle.std.proofs.Common.{refl, false, rules, IsTrue, suc}
use Rattle.std.proofs.lemmas.Bool.{cases_Bool, eqb-true, eqb-false, false≢true}
use Rattle.std.proofs.lemmas.List.{get_or_default}
use Rattle.std.specs.List.{AllZip}
use Rattle.cbsp_wire.specs.declared.message.Cell.{Cell}
use Rattle.bsc_table.specs.Record.{Record}
use Rattle.order_desk.specs.Settled.{IsBookOf}
use Rattle.order_desk.proofs.settle.first_wrong.Goals as goal

-- a fact of the items at each place
zip_by_place : (slots : ℕ) (cells : List Cell) (books : List Record)
    → length cells ≡ length books
    → ((k : ℕ) (c : Cell) (r : Record) → k < length books
    → IsBookOf slots (slice_index_or cells k c) (slice_index_or books k r))
    → AllZip (IsBookOf slots) cells books
zip_by_place slots [] [] long each = tt
zip_by_place slots [] (r ∷ books) long each = search (rules, long)
zip_by_place slots (c ∷ cells) [] long each = search (rules, long)
zip_by_place slots (c ∷ cells) (r ∷ books) long each = (
  each 0 c r (omega arith),
  zip_by_place slots cells books (omega (arith, long))
      (λ k d e lt. each (suc k) d e (next k lt)),
)
  where
    next : (k : ℕ) → k < length books → suc k < length (r ∷ books)
    next k lt = omega arith

-- src/settle.rt:249:5
pub loop-place-init : goal.loop-place-init
loop-place-init c = λ k d e lt. absurd (none k lt)
  where
    none : (k : ℕ) → k < 0 → ⊥
    none k lt = omega arith

-- src/settle.rt:251:13
pub returns-then-not-is_book_of-clause-some : goal.returns-then-not-is_book_of-clause-some
returns-then-not-is_book_of-clause-some c = record {
  place = c.loop-place.place;
  within = c.loop-place-test.true;
  of_place = λ d. get_or_default c.args.cells.now c.loop-place.place d (record { lac = 0; ci = 0 })
      (subst (λ n. c.loop-place.place < n) (sym c.requires) c.loop-place-test.true);
  wrong = λ d is. not_so (c.if-not-is_book_of.ensures.1 (subst
      (IsBookOf c.args.slots (slice_index_or c.args.cells.now c.loop-place.place (record { lac = 0; ci = 0 })))
      (get_or_default c.args.books.now c.loop-place.place d c.index-books-place.result c.loop-place-test.true
      ∙ sym c.index-books-place.is) is));
  before = c.loop-place.invariant;
}
  where
    not_so : IsTrue false → ⊥
    not_so is = false≢true is

-- src/settle.rt:249:5
pub loop-place-preserved : goal.loop-place-preserved
loop-place-preserved c = λ k d e lt. elim (cases_Bool (eqb k c.loop-place.place)) [
  | inl same ↦ subst (λ n. IsBookOf c.args.slots (slice_index_or c.args.cells.now n d)
      (slice_index_or c.args.books.now n e)) (sym (eqb-true k c.loop-place.place same)) (here d e)
  | inr other ↦ c.loop-place.invariant k d e (below k lt (eqb-false k c.loop-place.place other))
]
  where
    here : (d : Cell) (e : Record) → IsBookOf c.args.slots (slice_index_or c.args.cells.now c.loop-place.place d)
        (slice_index_or c.args.books.now c.loop-place.place e)
    here d e =
        subst (λ (cell : Cell). IsBookOf c.args.slots cell (slice_index_or c.args.books.now c.loop-place.place e))
        (get_or_default c.args.cells.now c.loop-place.place (record { lac = 0; ci = 0 }) d
        (subst (λ n. c.loop-place.place < n) (sym c.requires) c.loop-place-test.true))
        (subst (IsBookOf c.args.slots (slice_index_or c.args.cells.now c.loop-place.place (record { lac = 0; ci = 0 })))
        (c.index-books-place.is ∙ get_or_default c.args.books.now c.loop-place.place c.index-books-place.result e
        c.loop-place-test.true) (c.if-not-is_book_of.ensures.0 refl))

    below : (k : ℕ) → k < c.loop-place.place + 1 → (k ≡ c.loop-place.place → ⊥) → k < c.loop-place.place
    below k lt other = omega arith

-- src/settle.rt:244:1
pub returns-clause-none : goal.returns-clause-none
returns-clause-none c = λ _. zip_by_place c.args.slots c.args.cells.now c.args.books.now c.requires
    (λ k d e lt. c.loop-place.invariant k d e (under k lt))
  where
    under : (k : ℕ) → k < length c.args.books.now → k < c.loop-place.place
    under k lt = omega (arith, c.loop-place-test.false)
