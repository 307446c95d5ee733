use Rattle.std.proofs.Common.{◌≡◌, ◌<◌, ◌+◌, ◌++◌, ◌∷◌, ◌∙◌, [], ap, append-nil, sym, subst, arith, ℕ, List, length}
use Rattle.std.proofs.Common.{take}
use Rattle.std.proofs.lemmas.List.{take_more}
use Rattle.std.proofs.lemmas.Grind.{flat_map-append}
use Rattle.std.specs.List.{flat_map}
use Rattle.cell_orders.specs.Steps.{IsText}
use Rattle.cell_orders.specs.Text.{row_line}
use Rattle.cell_orders.specs.declared.row.OrderRow.{OrderRow}
use Rattle.cell_orders.proofs.text.orders_text.Goals as goal

-- the text of one row more
lines_more : (rows : List OrderRow) (row : OrderRow)
    → flat_map row_line (rows ++ row ∷ []) ≡ flat_map row_line rows ++ row_line row
lines_more rows row =
    flat_map-append row_line rows (row ∷ [])
    ∙ ap (λ (text : List ℕ). flat_map row_line rows ++ text) (append-nil (row_line row))

pub loop-row-preserved : goal.loop-row-preserved
loop-row-preserved c =
    let rows : List OrderRow = c.args.rows.now in
    let place = c.loop-row.row-index in
    let less : place < length rows = omega (arith, c.loop-row-test.true) in
    let more : take place rows ++ c.row-item.result ∷ [] ≡ take (place + 1) rows =
    ap (λ (p : OrderRow). take place rows ++ p ∷ []) c.row-item.is
    ∙ sym (take_more rows place c.row-item.result less) in
    subst (λ (text : List ℕ). IsText c.push.new.self text)
    (sym (lines_more (take place rows) c.row-item.result) ∙ ap (λ (r : List OrderRow). flat_map row_line r) more)
    (c.in_ok-push.ensures (flat_map row_line (take place rows)) c.loop-row.invariant)
