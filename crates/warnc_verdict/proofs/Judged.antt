-- The tape of a cell, and the table of its differences.
use Rattle.std.proofs.Common.{◌≡◌, ◌∙◌, ◌+◌, ◌<◌, ℕ, List, [], ◌∷◌, ◌++◌, Option, None, Some, IfSome, ap, arith, cond}
use Rattle.std.proofs.Common.{Bool, Err, Result, false, find, length, min, refl, subst, sym, take}
use Rattle.std.specs.Prelude.{◌&&◌, not, IfErr}
use Rattle.std.specs.Io.KnownBytes.{Appends, IsAtEnd}
use Rattle.std.specs.Option.{option_or}
use Rattle.std.proofs.lemmas.List.{length-take}
use Rattle.std.proofs.lemmas.List.Folds.{find-append}
use Rattle.cell_orders.specs.declared.row.OrderRow.{OrderRow}
use Rattle.cbsp_wire.specs.Range.{is_cell}
use Rattle.cbsp_wire.specs.declared.message.Cell.{Cell}
use Rattle.device_ends.specs.Moves.{AppendsFront}
use Rattle.handset.specs.Recording.{TapeRecording, AreRecordings}
use Rattle.order_verdict.specs.Lags.{lags_text}
use Rattle.verification.specs.Rows.{is_tape_of}
use Rattle.warnc_verdict.specs.OrdersSteps.{IsTableFault}
use Rattle.warnc_verdict.specs.OrdersVerified.{HasOrders, IsVerdictBy, IsVerifyOrdersFault, JudgesAndWrites}
use Rattle.warnc_verdict.specs.OrdersVerified.{HasLags, JudgesOrders, Readers, TellsLags}
use Rattle.warnc_verdict.specs.OrdersVerified.{WritesUnlessFailed, has_other_slots, lags_of}
use Rattle.warnc_verdict.specs.declared.fault.VerifyOrdersFault.{VerifyOrdersFault}
use Rattle.warnc_verdict.specs.declared.fault.VerifyOrdersFault.TheVariants as faults
use Rattle.warnc_verdict.specs.declared.terms.VerdictTerms.{VerdictTerms}

-- the first tape of a cell after one tape more
pub first-more : (cell : Cell) (tapes : List TapeRecording) (tape : TapeRecording) →
    find (is_tape_of cell) (tapes ++ tape ∷ [])
    ≡ option_or (find (is_tape_of cell) tapes) (cond (is_cell cell tape.cell) (Some tape) None)
first-more cell tapes tape = find-append (is_tape_of cell) tapes (tape ∷ [])

-- so what keeps the first one has it after one tape more
pub first-kept : (cell : Cell) (old new : Option TapeRecording) (tape : TapeRecording) →
    new ≡ option_or old (cond (is_cell cell tape.cell) (Some tape) None) → (given : Cell)
    (before : List TapeRecording) → cell ≡ given → old ≡ find (is_tape_of given) before →
    new ≡ find (is_tape_of given) (before ++ tape ∷ [])
first-kept cell old new tape is given before same kept =
    is
    ∙ ap (λ (o : Option TapeRecording). option_or o (cond (is_cell cell tape.cell) (Some tape) None)) kept
    ∙ ap (λ (k : Cell). option_or (find (is_tape_of given) before) (cond (is_cell k tape.cell) (Some tape) None)) same
    ∙ sym (first-more given before tape)

-- the table wasn't written
pub table-fault : (cell : Cell) (terms : VerdictTerms) (ends : Readers) (old new : Option (List ℕ)) (count : ℕ)
    (text shown : List ℕ) (fault : VerifyOrdersFault) → shown ≡ text → JudgesOrders cell terms ends count text →
    IsTableFault old new shown fault → IsVerifyOrdersFault cell terms ends old new fault
table-fault cell terms ends old new count text shown faults.Unread is judges why = absurd why
table-fault cell terms ends old new count text shown faults.TooLong is judges why = absurd why
table-fault cell terms ends old new count text shown (faults.Orders f) is judges why = absurd why
table-fault cell terms ends old new count text shown (faults.Tapes f) is judges why = absurd why
table-fault cell terms ends old new count text shown (faults.Differences n) is judges why = absurd why
table-fault cell terms ends old new count text shown faults.Refused is judges why = absurd why
table-fault cell terms ends old new count text shown faults.WriteFailed is judges why =
    (count, (text, judges, subst (λ (octets : List ℕ). AppendsFront old new octets) is why))

-- it was
pub table-written : (cell : Cell) (terms : VerdictTerms) (ends : Readers) (old new : Option (List ℕ)) (count : ℕ)
    (text shown : List ℕ) → shown ≡ text → JudgesOrders cell terms ends count text → Appends old new shown →
    JudgesAndWrites cell terms ends old new count
table-written cell terms ends old new count text shown is judges wrote =
    (text, judges, subst (λ (octets : List ℕ). Appends old new octets) is wrote)

-- of no difference
pub none-written : (cell : Cell) (terms : VerdictTerms) (ends : Readers) (old new : Option (List ℕ)) (count : ℕ)
    (text shown : List ℕ) → shown ≡ text → count ≡ 0 → JudgesOrders cell terms ends count text →
    Appends old new shown → JudgesAndWrites cell terms ends old new 0
none-written cell terms ends old new count text shown is none judges wrote =
    subst (λ (n : ℕ). JudgesAndWrites cell terms ends old new n) none
    (table-written cell terms ends old new count text shown is judges wrote)

-- octets of which this is so: those that a reader had left, if they are known, and else some of which it is so
known-or-some : (P : List ℕ → Type 0) (first : Option (List ℕ)) → IfSome first P → ((octets : List ℕ) × P octets) →
    (octets : List ℕ) × IfSome first (λ input. input ≡ octets) × P octets
known-or-some P None is some = (some.0, tt, some.1)
known-or-some P (Some input) is some = (input, refl, is)

-- the orders and the tapes that were read, and the verdict on them
pub judges-of : (cell : Cell) (terms : VerdictTerms) (ends : Readers) (rows shown : List OrderRow)
    (tape : Option TapeRecording)
    (recordings : List TapeRecording) (count : ℕ) (text : List ℕ) → HasOrders ends.orders_first ends.orders_last rows →
    shown ≡ rows → IfSome ends.tapes_first (λ octets. AreRecordings octets recordings) →
    ((octets : List ℕ) × AreRecordings octets recordings) → IsAtEnd ends.tapes_last →
    tape ≡ find (is_tape_of cell) recordings → IsVerdictBy cell terms shown tape count text →
    JudgesOrders cell terms ends count text
judges-of cell terms ends rows shown tape recordings count text orders same of_input of_some ended is verdict =
    let tapes = known-or-some (λ (octets : List ℕ). AreRecordings octets recordings) ends.tapes_first of_input
    of_some in
    record {
      orders = orders.orders;
      orders_read = orders.read;
      orders_ended = orders.ended;
      tapes = tapes.0;
      tapes_read = tapes.1;
      tapes_ended = ended;
      verdict = record {
        rows = rows;
        read = orders.are;
        recordings = recordings;
        recordings_are = tapes.2;
        verdict = subst (λ (t : Option TapeRecording). IsVerdictBy cell terms rows t count text) is
            (subst (λ (rs : List OrderRow). IsVerdictBy cell terms rs tape count text) same verdict);
      };
    }

-- where more than a bound was read, there was more
pub long-input : (left : Option (List ℕ)) (octets : List ℕ) (n : ℕ) →
    IfSome left (λ input. octets ≡ take (n + 1) input) → n < length octets → IfSome left (λ input. n < length input)
long-input None octets n is long = tt
long-input (Some input) octets n is long =
    let some : length octets ≡ min (n + 1) (length input) = ap length is ∙ length-take (n + 1) input in
    omega (arith, some, long)

-- what is so of an error is so of a result that is it
pub where_it_is : {T E : Type 0} (P : E → Type 0) (r : Result T E) (e : E) → r ≡ Err e → P e → IfErr r P
where_it_is P r e is holds = subst (λ x. IfErr x P) (sym is) holds

-- what is told of the lags, of the same readers
pub lags-of : (cell : Cell) (terms : VerdictTerms) (ends : Readers) (rows shown : List OrderRow)
    (tape : Option TapeRecording)
    (recordings : List TapeRecording) (text : List ℕ) → HasOrders ends.orders_first ends.orders_last rows →
    shown ≡ rows → IfSome ends.tapes_first (λ octets. AreRecordings octets recordings) →
    ((octets : List ℕ) × AreRecordings octets recordings) → tape ≡ find (is_tape_of cell) recordings →
    text ≡ lags_of terms shown tape → HasLags cell terms ends text
lags-of cell terms ends rows shown tape recordings text orders same of_input of_some is told =
    let tapes = known-or-some (λ (octets : List ℕ). AreRecordings octets recordings) ends.tapes_first of_input
    of_some in
    record {
      rows = rows;
      orders = orders;
      tapes = tapes.0;
      tapes_read = tapes.1;
      recordings = recordings;
      recordings_are = tapes.2;
      is = told ∙ ap (λ rs. lags_of terms rs tape) same ∙ ap (lags_of terms rows) is;
    }

-- nothing is, if that isn't asked
pub unasked : (terms : VerdictTerms) (rows : List OrderRow) (tape : Option TapeRecording) → terms.lags ≡ false →
    lags_of terms rows tape ≡ []
unasked terms rows None isnt = refl
unasked terms rows (Some tape) isnt =
    ap (λ (asked : Bool). cond (asked && not (has_other_slots terms.slots tape.slots)) (lags_text rows tape.blocks) [])
    isnt

-- it was told
pub lags-told : (cell : Cell) (terms : VerdictTerms) (ends : Readers) (failed : Bool) (old new : Option (List ℕ))
    (text shown : List ℕ) → shown ≡ text → HasLags cell terms ends text → WritesUnlessFailed failed old new shown →
    TellsLags cell terms ends failed old new
lags-told cell terms ends failed old new text shown is has wrote =
    (text, has, subst (λ (octets : List ℕ). WritesUnlessFailed failed old new octets) is wrote)
