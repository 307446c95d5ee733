-- The output of a text isn't empty.
use Rattle.std.proofs.Common.{◌≡◌, ℕ, ◌<◌, List, [], ◌∷◌, ◌++◌, length, length-append, ap, sym, ◌∙◌, append-nil, arith}
use Rattle.std.proofs.Common.{subst}
use Rattle.std.specs.List.{flat_map}
use Rattle.std.proofs.lemmas.List.{length_push}
use Rattle.handset.specs.Reception.{ShownMessage}
use Rattle.warnc_inspect.specs.declared.page.PageForm.{PageForm}
use Rattle.warnc_inspect.specs.declared.page.PageForm.TheVariants.{Lines, Table}
use Rattle.warnc_inspect.specs.PageOutput.{block_line, shown_line, without_final_lf, blocks_of_message, IsPageOutput}

longer : (front back : List ℕ) → 0 < length back → 0 < length (front ++ back)
longer front back some = omega (arith, length-append front back)

ended : (front : List ℕ) (last : ℕ) → 0 < length (front ++ last ∷ [])
ended front last = omega (arith, length_push front last)

some_message : (message : ShownMessage) → 0 < length (flat_map shown_line (message ∷ []))
some_message message = subst (λ (xs : List ℕ). 0 < length xs) (sym (append-nil (shown_line message))) (ended _ 10)

-- the lines end with that of the message
some_lines : (language : List ℕ) (id serial : ℕ) (input output : List ℕ)
    → IsPageOutput Lines language id serial input output → 0 < length output
some_lines language id serial input output is =
    let message : ShownMessage = record { id = id; serial = serial; text = without_final_lf input } in
    let lines : List ℕ = flat_map block_line (blocks_of_message id serial is.paged) in
    let written : output ≡ lines ++ flat_map shown_line (message ∷ []) =
    is.written ∙ ap (λ ms. lines ++ flat_map shown_line ms) is.shown in
    subst (λ (xs : List ℕ). 0 < length xs) (sym written) (longer lines (flat_map shown_line (message ∷ []))
    (some_message message))

-- and the table begins with the columns' names
some_table : (language : List ℕ) (id serial : ℕ) (input output : List ℕ)
    → IsPageOutput Table language id serial input output → 0 < length output
some_table language id serial input output is =
    subst (λ (xs : List ℕ). 0 < length xs) (sym is.written) (omega arith)

-- the output of a text is never empty
pub some_output : (form : PageForm) (language : List ℕ) (id serial : ℕ) (input output : List ℕ)
    → IsPageOutput form language id serial input output → 0 < length output
some_output Lines = some_lines
some_output Table = some_table
