-- What a settlement reports, by what its steps report, and the items of a list up to which a loop has come.
use Rattle.std.proofs.Common.{◌≡◌, ◌≢◌, ◌∙◌, ℕ, ◌+◌, ◌<◌, List, [], ◌∷◌, ◌++◌, take, drop, length, slice_index_or}
use Rattle.std.proofs.Common.{sym, subst, ap, refl, inl, inr, rules, Err, Result, IfErr}
use Rattle.std.specs.List.{AllZip}
use Rattle.std.proofs.lemmas.List.{take_more, drop_more, take-append-drop}
use Rattle.cbsp_wire.specs.declared.message.Cell.{Cell}
use Rattle.bsc_table.specs.Record.{Record}
use Rattle.order_desk.specs.declared.note.Note.{Note}
use Rattle.order_desk.specs.declared.settle.cell_notes.CellNotes.{CellNotes}
use Rattle.order_desk.specs.declared.settle.SettleFault.{SettleFault}
use Rattle.order_desk.specs.declared.settle.SettleFault.TheVariants as faults
use Rattle.order_desk.specs.Settled.{AreOwn, ClosedDesk, IsBookOf, IsFault, IsFirstStrange}
use Rattle.order_desk.specs.SettleSteps.{AreNoted, IsFirstJudged, IsForeignBy, IsForeignIn, IsOfCell}
use Rattle.order_desk.proofs.NotesByCell.{of_cells}

-- an item, those before it and those after it are the list
pub split_at : {X : Type 0} (xs : List X) (place : ℕ) (x : X) → x ≡ slice_index_or xs place x → place < length xs
    → xs ≡ take place xs ++ x ∷ drop (place + 1) xs
split_at xs place x is within = sym (take-append-drop place xs)
    ∙ ap (λ (ys : List _). take place xs ++ ys)
    (subst (λ (y : _). drop place xs ≡ y ∷ drop (place + 1) xs) (sym is) (drop_more xs place x within))

-- one item more of the list
pub take_next : {X : Type 0} (xs : List X) (place : ℕ) (x : X) → x ≡ slice_index_or xs place x → place < length xs
    → take (place + 1) xs ≡ take place xs ++ x ∷ []
take_next xs place x is within =
    subst (λ (y : _). take (place + 1) xs ≡ take place xs ++ y ∷ []) (sym is) (take_more xs place x within)

-- what is so of a fault is so of a result with it
pub in_err : {X : Type 0} (P : SettleFault → Type 0) (fault : SettleFault) (result : Result X SettleFault)
    → result ≡ Err fault
    → P fault
    → IfErr result P
in_err P fault result is holds = subst (λ (r : Result _ _). IfErr r P) (sym is) holds

-- the first foreign note of a pass, before which all passes are the desk's own, is that of all passes
pub foreign_of_passes : (cells : List Cell) (passes : List (List Note)) (place : ℕ) (pass : List Note)
    (fault : SettleFault)
    → pass ≡ slice_index_or passes place pass
    → place < length passes
    → AreOwn cells (take place passes)
    → IsForeignIn cells pass fault
    → IsForeignBy cells passes fault
foreign_of_passes cells passes place pass fault is within own foreign = (
  foreign.note,
  record {
    earlier = take place passes;
    before = foreign.before;
    after = foreign.after;
    later = drop (place + 1) passes;
    noted = split_at passes place pass is within
        ∙ ap (λ (p : List Note). take place passes ++ p ∷ drop (place + 1) passes) foreign.noted;
    own_passes = own;
    own_notes = foreign.own;
    foreign = foreign.foreign;
  },
  foreign.told,
)

reported : (desk : ClosedDesk) (passes : List (List Note)) (fault : SettleFault) → IsForeignBy desk.cells passes fault
    → IsFault desk passes fault
reported desk passes fault is = subst (IsFault desk passes) (sym is.2) (inl (is.0, is.1, refl, refl))

-- a settlement reports it
pub reports_foreign : (desk : ClosedDesk) (passes : List (List Note)) (fault : SettleFault)
    → (fault ≢ faults.Refused → IsForeignBy desk.cells passes fault)
    → IsFault desk passes fault
reports_foreign desk passes faults.Refused foreign = tt
reports_foreign desk passes (faults.Strange cell number) foreign =
    reported desk passes (faults.Strange cell number) (foreign (λ same. search (rules, same)))
reports_foreign desk passes (faults.Overlap cell slot) foreign =
    reported desk passes (faults.Overlap cell slot) (foreign (λ same. search (rules, same)))
reports_foreign desk passes (faults.Session part) foreign =
    reported desk passes (faults.Session part) (foreign (λ same. search (rules, same)))

is_first : (desk : ClosedDesk) (passes : List (List Note)) (fault : SettleFault)
    → AreOwn desk.cells passes
    → AllZip (IsBookOf desk.slots) desk.cells desk.books
    → (first : IsFirstJudged passes desk.books fault)
    → IsFirstStrange desk passes first.judged
is_first desk passes fault own right first = record {
  own = own;
  right = right;
  before = first.before;
  later = first.later;
  books = first.all;
  agree = first.agree;
}

-- nothing was noted of another cell, the books are those of their places, and a book is the first that doesn't agree
pub reports_judged : (desk : ClosedDesk) (passes : List (List Note)) (fault : SettleFault)
    → AreOwn desk.cells passes
    → AllZip (IsBookOf desk.slots) desk.cells desk.books
    → (fault ≢ faults.Refused → IsFirstJudged passes desk.books fault)
    → IsFault desk passes fault
reports_judged desk passes faults.Refused own right judged = tt
reports_judged desk passes (faults.Session part) own right judged =
    absurd (judged (λ same. search (rules, same))).strange
reports_judged desk passes (faults.Strange cell number) own right judged =
    let first = judged (λ same. search (rules, same)) in
    inr (inr (
      first.judged,
      is_first desk passes (faults.Strange cell number) own right first,
      first.strange.0,
      first.strange.1,
    ))
reports_judged desk passes (faults.Overlap cell slot) own right judged =
    let first = judged (λ same. search (rules, same)) in
    (first.judged, is_first desk passes (faults.Overlap cell slot) own right first, first.strange.0, first.strange.1)

-- what was noted is of the cells of the books, if these are those of their places
pub noted_of_right : (slots : ℕ) {cells own : List Cell} {books held judged : List Record} {passes : List (List Note)}
    {noted notes : List CellNotes}
    → own ≡ cells
    → held ≡ books
    → judged ≡ books
    → notes ≡ noted
    → AllZip (IsBookOf slots) own held
    → (AllZip IsOfCell cells books → AreNoted books passes [] noted)
    → AreNoted judged passes [] notes
noted_of_right slots {cells} {own} {books} {held} {judged} {passes} {noted} {notes} own_are held_are judged_are
    notes_are right are =
    subst (λ (rs : List Record). AreNoted rs passes [] notes) (sym judged_are)
    (subst (AreNoted books passes []) (sym notes_are) (are (of_cells slots cells books
    (subst (λ (cs : List Cell). AllZip (IsBookOf slots) cs books) own_are
    (subst (AllZip (IsBookOf slots) own) held_are right)))))
