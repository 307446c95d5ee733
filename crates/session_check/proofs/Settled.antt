-- The records of a settlement are of the desk's cells, and what was noted of their logs agrees with them.
use Rattle.std.proofs.Common.{◌≡◌, ℕ, List, [], ◌∷◌, All, refl, sym, subst, ap, ◌∙◌}
use Rattle.std.specs.List.{AllZip}
use Rattle.std.proofs.lemmas.List.Elements.{All-cons, All-head, All-nil, All-tail}
use Rattle.cbsp_wire.specs.declared.message.Cell.{Cell}
use Rattle.bsc_table.specs.declared.entry.Entry.{Entry}
use Rattle.bsc_table.specs.Record.{Record}
use Rattle.order_desk.specs.Agreement.{Agrees, IsRightNumber}
use Rattle.order_desk.specs.declared.note.Note.{Note}
use Rattle.order_desk.specs.Settled.{ClosedDesk, IsBookOf, IsPlayedOut, IsSettled}
use Rattle.session_check.specs.Checked.{HasRightNumbers}
use Rattle.session_check.specs.NotedSteps.{record_cells}

still_agree : (passes : List (List Note)) (books records : List Record) → AllZip IsPlayedOut books records
    → All (Agrees passes) books
    → All (HasRightNumbers passes) records
still_agree passes [] [] all agree = All-nil (HasRightNumbers passes)
still_agree passes [] (s ∷ records) all agree = absurd all
still_agree passes (r ∷ books) [] all agree = absurd all
still_agree passes (r ∷ books) (s ∷ records) all agree =
    let played = all.0.played in
    All-cons (HasRightNumbers passes) s records
    (λ k. subst (λ (log : List Entry). IsRightNumber s.cell log passes k) (sym played.same_log)
    (subst (λ (cell : Cell). IsRightNumber cell r.log passes k) (sym played.same_cell)
    ((All-head (Agrees passes) r books agree).numbers k)))
    (still_agree passes books records all.1 (All-tail (Agrees passes) r books agree))

same_cells : (slots : ℕ) (cells : List Cell) (books records : List Record) → AllZip (IsBookOf slots) cells books
    → AllZip IsPlayedOut books records
    → record_cells records ≡ cells
same_cells slots [] [] [] of all = refl
same_cells slots [] [] (s ∷ records) of all = absurd all
same_cells slots [] (r ∷ books) records of all = absurd of
same_cells slots (c ∷ cells) [] records of all = absurd of
same_cells slots (c ∷ cells) (r ∷ books) [] of all = absurd all
same_cells slots (c ∷ cells) (r ∷ books) (s ∷ records) of all =
    ap (λ (x : Cell). x ∷ record_cells records) (all.0.played.same_cell ∙ of.0.0)
    ∙ ap (λ (xs : List Cell). c ∷ xs) (same_cells slots cells books records of.1 all.1)

-- the records of a settled desk have the numbers that its passes noted
pub settled_agree : (desk : ClosedDesk) (passes : List (List Note)) (records : List Record)
    → IsSettled desk passes records
    → All (HasRightNumbers passes) records
settled_agree desk passes records settled = still_agree passes desk.books records settled.played settled.agree

-- the records of a settled desk are of its cells, in their order
pub settled_cells : (desk : ClosedDesk) (passes : List (List Note)) (records : List Record)
    → IsSettled desk passes records
    → record_cells records ≡ desk.cells
settled_cells desk passes records settled =
    same_cells desk.slots desk.cells desk.books records settled.right settled.played
