-- What `verify` of orders writes and refuses, and what its statuses say of the ends.
use Rattle.std.proofs.Common.{◌≡◌, ◌↔◌, ℕ, ◌<◌, ◌≤◌, List, ◌∷◌, Option, None, Some, IfSome}
use Rattle.std.proofs.Common.{refl, ap, drop, length}
use Rattle.std.proofs.Common.{Bool, true, false, Ok, Err, Result, IsErrOf, IsTrue}
use Rattle.std.proofs.Common.{sym, subst, arith, inl, inr, rules}
use Rattle.std.specs.Prelude.{find}
use Rattle.std.specs.Io.KnownBytes.{Keeps}
use Rattle.cbsp_wire.specs.declared.message.Cell.{Cell}
use Rattle.cell_orders.specs.declared.row.OrderRow.{OrderRow}
use Rattle.device_ends.specs.Sink.{sink_failed, writer_of}
use Rattle.device_ends.specs.Source.{reader_of, source_failed}
use Rattle.device_ends.specs.Stream.{Writes}
use Rattle.device_ends.specs.declared.reading.Source.{Source}
use Rattle.device_ends.specs.declared.writing.Sink.{Sink}
use Rattle.handset.specs.Recording.{TapeRecording}
use Rattle.handset.specs.declared.tape.TapeFault.TheVariants as tape
use Rattle.order_verdict.specs.Text.{differences_text, no_tape_text, other_slots_text}
use Rattle.orders_file.specs.File.{IsOrdersFile}
use Rattle.verification.specs.Rows.{is_tape_of}
use Rattle.warnc_verdict.specs.OrdersVerified.{AreOrdersKept, HasOrderDifferences, HasWrittenTable}
use Rattle.warnc_verdict.specs.OrdersVerified.{IsOrderDifference, IsOrdersVerdict, IsVerdictBy, IsVerdictOf}
use Rattle.warnc_verdict.specs.OrdersVerified.{has_other_slots}
use Rattle.warnc_verdict.specs.OrdersVerified.{IsVerifyOrdersFault, JudgesAndWrites, Readers}
use Rattle.warnc_verdict.specs.declared.fault.VerifyOrdersFault.{VerifyOrdersFault}
use Rattle.warnc_verdict.specs.declared.fault.VerifyOrdersFault.TheVariants as fault
use Rattle.warnc_verdict.specs.declared.terms.VerdictTerms.{VerdictTerms}
use Rattle.warnc_verify.proofs.Inputs.{whole, whole_if_known}
use Rattle.warnc_cli.proofs.Statuses.{OneOrFour}
use Rattle.warnc_cli.specs.Run.{AnyHasFailed, WritesSome}
use Rattle.warnc_cli.specs.RunSteps.{HasRun}
use Rattle.warnc_cli.specs.Status.{status_of_verify_orders_fault}
use Rattle.warnc_cli.specs.Tasks.{AreOrdersNotKept, AreUnjudged, WritesOutputOfBoth}
use Rattle.warnc_cli.specs.declared.command.Task.TheVariants as task

-- the table without a difference that was written is that of the orders and of the tapes
table_written : (cell : Cell) (terms : VerdictTerms) (ends : Readers) (old new : Option (List ℕ))
    → JudgesAndWrites cell terms ends old new 0
    → WritesOutputOfBoth (AreOrdersKept cell terms) ends.orders_first ends.tapes_first old new
table_written cell terms ends old new wrote =
    let judged = wrote.1 in record {
      book_octets = judged.orders;
      tapes_octets = judged.tapes;
      output = wrote.0;
      of_book = whole_if_known judged.orders ends.orders_first ends.orders_last judged.orders_read judged.orders_ended;
      of_tapes = judged.tapes_read;
      is_output = judged.verdict;
      appended = wrote.2;
    }

-- a table isn't empty: it has the line of the columns' names
longer : (x : ℕ) (xs : List ℕ) → 0 < length (x ∷ xs)
longer x xs = omega arith

some_verdict_of : (cell : Cell) (delay : ℕ) (rows : List OrderRow) (recording : TapeRecording) (other : Bool)
    (count : ℕ) (output : List ℕ)
    → IsVerdictOf cell delay rows recording other count output
    → 0 < length output
some_verdict_of cell delay rows recording true count output is =
    subst (λ (octets : List ℕ). 0 < length octets) (sym is.1) (longer 108 (drop 1 (other_slots_text cell)))
some_verdict_of cell delay rows recording false count output is =
    subst (λ (octets : List ℕ). 0 < length octets) (sym is.3) (longer 108 (drop 1 (differences_text cell is.0)))

some_verdict : (cell : Cell) (terms : VerdictTerms) (rows : List OrderRow) (recording : Option TapeRecording)
    (count : ℕ)
    (output : List ℕ)
    → IsVerdictBy cell terms rows recording count output
    → 0 < length output
some_verdict cell terms rows None count output is =
    subst (λ (octets : List ℕ). 0 < length octets) (sym is.1) (longer 108 (drop 1 (no_tape_text cell)))
some_verdict cell terms rows (Some recording) count output is =
    some_verdict_of cell terms.delay rows recording (has_other_slots terms.slots recording.slots) count output is

some_written : (cell : Cell) (terms : VerdictTerms) (ends : Readers) (old new : Option (List ℕ))
    → JudgesAndWrites cell terms ends old new 0
    → WritesSome old new
some_written cell terms ends old new wrote =
    let is = wrote.1.verdict in (
      wrote.0,
      some_verdict cell terms is.rows (find (is_tape_of cell) is.recordings) 0 wrote.0 is.verdict,
      wrote.2,
    )

-- so is the table of the differences that were found
pub differences_written : (cell : Cell) (terms : VerdictTerms) (ends : Readers) (old new : Option (List ℕ))
    (why : VerifyOrdersFault)
    → IsVerifyOrdersFault cell terms ends old new why
    → IsOrderDifference why
    → WritesOutputOfBoth (HasOrderDifferences cell terms) ends.orders_first ends.tapes_first old new
differences_written cell terms ends old new (fault.Differences count) told is =
    let judged = told.0.1 in record {
      book_octets = judged.orders;
      tapes_octets = judged.tapes;
      output = told.0.0;
      of_book = whole_if_known judged.orders ends.orders_first ends.orders_last judged.orders_read judged.orders_ended;
      of_tapes = judged.tapes_read;
      is_output = (count, judged.verdict, told.1);
      appended = told.0.2;
    }
differences_written cell terms ends old new fault.Unread told is = absurd is
differences_written cell terms ends old new fault.TooLong told is = absurd is
differences_written cell terms ends old new (fault.Orders f) told is = absurd is
differences_written cell terms ends old new (fault.Tapes f) told is = absurd is
differences_written cell terms ends old new fault.Refused told is = absurd is
differences_written cell terms ends old new fault.WriteFailed told is = absurd is

-- readers of known octets
abbrev known_readers : (orders tapes : List ℕ) (orders_last tapes_last : Option (List ℕ)) → Readers
known_readers orders tapes orders_last tapes_last = record {
  orders_first = Some orders;
  orders_last = orders_last;
  tapes_first = Some tapes;
  tapes_last = tapes_last;
}

-- a fault of status 1 that tells of no difference says why nothing is known of these tapes and these orders
unseen_here : (cell : Cell) (terms : VerdictTerms) (orders tapes : List ℕ)
    (orders_last tapes_last old new : Option (List ℕ))
    (why : VerifyOrdersFault)
    → IsVerifyOrdersFault cell terms (known_readers orders tapes orders_last tapes_last) old new why
    → status_of_verify_orders_fault why ≡ 1
    → (IsOrderDifference why → ⊥)
    → AreUnjudged orders tapes
unseen_here cell terms orders tapes orders_last tapes_last old new fault.Unread told is none =
    absurd (omega (arith, is))
unseen_here cell terms orders tapes orders_last tapes_last old new fault.TooLong told is none = inl (inl told)
unseen_here cell terms orders tapes orders_last tapes_last old new (fault.Orders f) told is none = inl (inr (f, told))
unseen_here cell terms orders tapes orders_last tapes_last old new (fault.Tapes tape.Short) told is none =
    let has = told.1 in
    inr (
      (
        told.0,
        subst (λ (octets : List ℕ). IsOrdersFile octets told.0)
            (whole orders has.orders orders_last has.read has.ended) has.are,
      ),
      inl told.2,
    )
unseen_here cell terms orders tapes orders_last tapes_last old new (fault.Tapes tape.Long) told is none =
    let has = told.1 in
    inr (
      (
        told.0,
        subst (λ (octets : List ℕ). IsOrdersFile octets told.0)
            (whole orders has.orders orders_last has.read has.ended) has.are,
      ),
      inr told.2,
    )
unseen_here cell terms orders tapes orders_last tapes_last old new (fault.Tapes tape.ReadFailed) told is none =
    absurd (omega (arith, is))
unseen_here cell terms orders tapes orders_last tapes_last old new (fault.Tapes tape.Refused) told is none =
    absurd (omega (arith, is))
unseen_here cell terms orders tapes orders_last tapes_last old new (fault.Differences count) told is none =
    absurd (none tt)
unseen_here cell terms orders tapes orders_last tapes_last old new fault.Refused told is none =
    absurd (omega (arith, is))
unseen_here cell terms orders tapes orders_last tapes_last old new fault.WriteFailed told is none =
    absurd (omega (arith, is))

-- what can't be judged isn't kept
unjudged : (cell : Cell) (terms : VerdictTerms) (orders tapes : List ℕ) → AreUnjudged orders tapes
    → AreOrdersNotKept cell terms orders tapes
unjudged cell terms orders tapes (inl no_orders) = inl no_orders
unjudged cell terms orders tapes (inr no_tapes) = inr (inl no_tapes)

refused_here : (cell : Cell) (terms : VerdictTerms) (orders tapes : List ℕ)
    (orders_last tapes_last old new : Option (List ℕ))
    (why : VerifyOrdersFault)
    → IsVerifyOrdersFault cell terms (known_readers orders tapes orders_last tapes_last) old new why
    → status_of_verify_orders_fault why ≡ 1
    → AreOrdersNotKept cell terms orders tapes
refused_here cell terms orders tapes orders_last tapes_last old new (fault.Differences count) told is =
    let judged = told.0.1 in
    inr (inr (
      told.0.0,
      (
        count,
        subst (λ (octets : List ℕ). IsOrdersVerdict cell terms count octets tapes told.0.0)
            (whole orders judged.orders orders_last judged.orders_read judged.orders_ended)
            (subst (λ (octets : List ℕ). IsOrdersVerdict cell terms count judged.orders octets told.0.0)
            (sym judged.tapes_read) judged.verdict),
        told.1,
      ),
    ))
refused_here cell terms orders tapes orders_last tapes_last old new fault.Unread told is = absurd (omega (arith, is))
refused_here cell terms orders tapes orders_last tapes_last old new fault.TooLong told is =
    unjudged cell terms orders tapes
    (unseen_here cell terms orders tapes orders_last tapes_last old new fault.TooLong told is (λ no. no))
refused_here cell terms orders tapes orders_last tapes_last old new (fault.Orders f) told is =
    unjudged cell terms orders tapes
    (unseen_here cell terms orders tapes orders_last tapes_last old new (fault.Orders f) told is (λ no. no))
refused_here cell terms orders tapes orders_last tapes_last old new (fault.Tapes f) told is =
    unjudged cell terms orders tapes
    (unseen_here cell terms orders tapes orders_last tapes_last old new (fault.Tapes f) told is (λ no. no))
refused_here cell terms orders tapes orders_last tapes_last old new fault.Refused told is = absurd (omega (arith, is))
refused_here cell terms orders tapes orders_last tapes_last old new fault.WriteFailed told is =
    absurd (omega (arith, is))

-- a fault with status 1 says why the tapes don't keep the orders
pub refused_orders : (cell : Cell) (terms : VerdictTerms) (orders tapes orders_last tapes_last old new : Option
    (List ℕ))
    (why : VerifyOrdersFault)
    → IsVerifyOrdersFault cell terms (record {
      orders_first = orders;
      orders_last = orders_last;
      tapes_first = tapes;
      tapes_last = tapes_last;
    }) old new why
    → status_of_verify_orders_fault why ≡ 1
    → IfSome orders (λ octets. IfSome tapes (AreOrdersNotKept cell terms octets))
refused_orders cell terms None tapes orders_last tapes_last old new why told is = tt
refused_orders cell terms (Some orders) None orders_last tapes_last old new why told is = tt
refused_orders cell terms (Some orders) (Some tapes) orders_last tapes_last old new why told is =
    refused_here cell terms orders tapes orders_last tapes_last old new why told is

-- so says one that tells of no difference why nothing is known of them
pub unseen_orders : (cell : Cell) (terms : VerdictTerms) (orders tapes orders_last tapes_last old new : Option (List ℕ))
    (why : VerifyOrdersFault)
    → IsVerifyOrdersFault cell terms (record {
      orders_first = orders;
      orders_last = orders_last;
      tapes_first = tapes;
      tapes_last = tapes_last;
    }) old new why
    → status_of_verify_orders_fault why ≡ 1
    → (IsOrderDifference why → ⊥)
    → IfSome orders (λ octets. IfSome tapes (AreUnjudged octets))
unseen_orders cell terms None tapes orders_last tapes_last old new why told is none = tt
unseen_orders cell terms (Some orders) None orders_last tapes_last old new why told is none = tt
unseen_orders cell terms (Some orders) (Some tapes) orders_last tapes_last old new why told is none =
    unseen_here cell terms orders tapes orders_last tapes_last old new why told is none

-- what the engine says of the ends with a fault
pub record AreEnds {B R W : Type 0} (why : VerifyOrdersFault) (last_orders : Source B) (first last : Source R)
    (old new : Sink W) : Type 0 where
  pub orders_failed : IsErrOf {T = Unit {0}} (Err why) fault.Unread ↔ IsTrue (source_failed last_orders)
  pub tapes_failed : source_failed first ≡ false
      → (IsErrOf {T = Unit {0}} (Err why) (fault.Tapes tape.ReadFailed) ↔ IsTrue (source_failed last))
  pub tapes_told : IsErrOf {T = Unit {0}} (Err why) (fault.Tapes tape.ReadFailed) → source_failed last ≡ true
  pub tapes_judged : HasWrittenTable why → source_failed last ≡ false
  pub write_failed : IsErrOf {T = Unit {0}} (Err why) fault.WriteFailed → sink_failed new ≡ true
  pub written : IsOrderDifference why → sink_failed new ≡ false
  pub untouched : (HasWrittenTable why → ⊥) → new ≡ old

-- and what it says of the octets: of what is refused with status 1, and of what was written then or not
pub record IsSaid (cell : Cell) (terms : VerdictTerms) (why : VerifyOrdersFault)
    (orders tapes before after : Option (List ℕ))
    : Type 0 where
  pub refused : status_of_verify_orders_fault why ≡ 1
      → IfSome orders (λ octets. IfSome tapes (AreOrdersNotKept cell terms octets))
  pub unseen : status_of_verify_orders_fault why ≡ 1 → (IsOrderDifference why → ⊥)
      → IfSome orders (λ octets. IfSome tapes (AreUnjudged octets))
  pub differs : IsOrderDifference why
      → WritesOutputOfBoth (HasOrderDifferences cell terms) orders tapes before after

-- the status that a result's fault has
abbrev status_in : Result (Unit {0}) VerifyOrdersFault → ℕ
status_in (Ok done) = 0
status_in (Err why) = status_of_verify_orders_fault why

-- an end failed
failing : {B R W : Type 0} (cell : Cell) (terms : VerdictTerms) (file : _) (status : ℕ)
    (orders_left : B → Option (List ℕ))
    (left : R → Option (List ℕ)) (held : W → Option (List ℕ)) (first_orders last_orders : Source B)
    (first last : Source R) (old new : Sink W)
    → status ≡ 3
    → AnyHasFailed last_orders last new
    → HasRun (task.VerifyOrders cell terms file) status orders_left left held first_orders last_orders first last old
    new
failing cell terms file status orders_left left held first_orders last_orders first last old new is failed = record {
  statuses = omega (arith, is);
  understood = λ two. omega (arith, is, two);
  done = λ zero. absurd (omega (arith, is, zero));
  wrote = λ zero always. absurd (omega (arith, is, zero));
  refused = λ one. absurd (omega (arith, is, one));
  nothing_written = λ none. absurd (none (inr (inl is)));
  untouched = λ none. absurd (none (inr (inl is)));
  of_refused = λ one. absurd (omega (arith, is, one));
  of_memory = λ four. absurd (omega (arith, is, four));
  device = λ _. failed;
  failed = λ _ _ _ _. is;
  no_book = λ none. absurd none;
}

-- no end failed, and nothing was written
quiet : {B R W : Type 0} (cell : Cell) (terms : VerdictTerms) (file : _) (why : VerifyOrdersFault)
    (orders_left : B → Option (List ℕ)) (left : R → Option (List ℕ)) (held : W → Option (List ℕ))
    (first_orders last_orders : Source B) (first last : Source R) (old new : Sink W)
    → OneOrFour (status_of_verify_orders_fault why)
    → (IsOrderDifference why → ⊥)
    → IsSaid cell terms why (orders_left (reader_of first_orders)) (left (reader_of first)) (held (writer_of old))
    (held (writer_of new))
    → AreEnds why last_orders first last old new
    → new ≡ old
    → Writes held Keeps old new
    → HasRun (task.VerifyOrders cell terms file) (status_of_verify_orders_fault why) orders_left left held first_orders
    last_orders first last old new
quiet {W = W} cell terms file why orders_left left held first_orders last_orders first last old new one_or_four none
    said ends same
    kept = record {
      statuses = bound one_or_four;
      understood = λ two. not_two one_or_four two;
      done = λ zero. absurd (not_zero one_or_four zero);
      wrote = λ zero always. absurd (not_zero one_or_four zero);
      refused = said.refused;
      nothing_written = λ _. kept;
      untouched = λ _. same;
      of_refused = λ one. inl (said.unseen one none, kept);
      of_memory = λ four. inl kept;
      device = λ three. absurd (not_three one_or_four three);
      failed = λ sound input sink failed. absurd (neither input sink failed);
      no_book = λ none. absurd none;
    }
  where
    bound : OneOrFour (status_of_verify_orders_fault why) → status_of_verify_orders_fault why ≤ 4
    bound (inl is) = omega (arith, is)
    bound (inr is) = omega (arith, is)

    not_two : OneOrFour (status_of_verify_orders_fault why) → status_of_verify_orders_fault why ≡ 2 → ⊥
    not_two (inl is) two = omega (arith, is, two)
    not_two (inr is) two = omega (arith, is, two)

    not_zero : OneOrFour (status_of_verify_orders_fault why) → status_of_verify_orders_fault why ≡ 0 → ⊥
    not_zero (inl is) zero = omega (arith, is, zero)
    not_zero (inr is) zero = omega (arith, is, zero)

    not_three : OneOrFour (status_of_verify_orders_fault why) → status_of_verify_orders_fault why ≡ 3 → ⊥
    not_three (inl is) three = omega (arith, is, three)
    not_three (inr is) three = omega (arith, is, three)

    neither : source_failed first ≡ false → sink_failed old ≡ false → AnyHasFailed last_orders last new → ⊥
    neither input sink (inl failed) = not_three one_or_four (ap status_in (ends.orders_failed.1 failed))
    neither input sink (inr (inl failed)) = not_three one_or_four (ap status_in ((ends.tapes_failed input).1 failed))
    neither input sink (inr (inr failed)) =
        let now : sink_failed old ≡ true = subst (λ (s : Sink W). sink_failed s ≡ true) same failed in
        search (rules, now, sink)

-- the differences were written
written : {B R W : Type 0} (cell : Cell) (terms : VerdictTerms) (file : _) (count : ℕ)
    (orders_left : B → Option (List ℕ))
    (left : R → Option (List ℕ)) (held : W → Option (List ℕ)) (first_orders last_orders : Source B)
    (first last : Source R) (old new : Sink W)
    → IsSaid cell terms (fault.Differences count) (orders_left (reader_of first_orders)) (left (reader_of first))
    (held (writer_of old)) (held (writer_of new))
    → AreEnds (fault.Differences count) last_orders first last old new
    → HasRun (task.VerifyOrders cell terms file) 1 orders_left left held first_orders last_orders first last old new
written cell terms file count orders_left left held first_orders last_orders first last old new said ends = record {
  statuses = omega arith;
  understood = λ two. omega (arith, two);
  done = λ zero. absurd (omega (arith, zero));
  wrote = λ zero always. absurd (omega (arith, zero));
  refused = said.refused;
  nothing_written = λ none. absurd (none (inr (inr refl)));
  untouched = λ none. absurd (none (inr (inr refl)));
  of_refused = λ one. inr (inl (said.differs tt));
  of_memory = λ four. absurd (omega (arith, four));
  device = λ three. absurd (omega (arith, three));
  failed = λ _ _ _ failed. absurd (neither failed);
  no_book = λ none. absurd none;
}
  where
    neither : AnyHasFailed last_orders last new → ⊥
    neither (inl failed) =
        let three : 1 ≡ 3 = ap status_in (ends.orders_failed.1 failed) in
        omega (arith, three)
    neither (inr (inl failed)) =
        let sound = ends.tapes_judged tt in
        search (rules, failed, sound)
    neither (inr (inr failed)) =
        let sound = ends.written tt in
        search (rules, failed, sound)

-- a fault of the engine ends the run with its status
ended : {B R W : Type 0} (cell : Cell) (terms : VerdictTerms) (file : _) (why : VerifyOrdersFault)
    (orders_left : B → Option (List ℕ)) (left : R → Option (List ℕ)) (held : W → Option (List ℕ))
    (first_orders last_orders : Source B) (first last : Source R) (old new : Sink W)
    → IsSaid cell terms why (orders_left (reader_of first_orders)) (left (reader_of first)) (held (writer_of old))
    (held (writer_of new))
    → AreEnds why last_orders first last old new
    → (new ≡ old → Writes held Keeps old new)
    → HasRun (task.VerifyOrders cell terms file) (status_of_verify_orders_fault why) orders_left left held first_orders
    last_orders first last old new
ended cell terms file fault.Unread orders_left left held first_orders last_orders first last old new said ends kept =
    failing cell terms file 3 orders_left left held first_orders last_orders first last old new refl
    (inl (ends.orders_failed.0 refl))
ended cell terms file fault.TooLong orders_left left held first_orders last_orders first last old new said ends kept =
    let same = ends.untouched (λ w. w) in
    quiet cell terms file fault.TooLong orders_left left held first_orders last_orders first last old new (inl refl)
    (λ no. no) said ends same (kept same)
ended cell terms file (fault.Orders f) orders_left left held first_orders last_orders first last old new said ends
    kept =
    let same = ends.untouched (λ w. w) in
    quiet cell terms file (fault.Orders f) orders_left left held first_orders last_orders first last old new (inl refl)
    (λ no. no) said ends same (kept same)
ended cell terms file (fault.Tapes tape.Short) orders_left left held first_orders last_orders first last old new said
    ends
    kept =
    let same = ends.untouched (λ w. w) in
    quiet cell terms file (fault.Tapes tape.Short) orders_left left held first_orders last_orders first last old new
    (inl refl) (λ no. no) said ends same (kept same)
ended cell terms file (fault.Tapes tape.Long) orders_left left held first_orders last_orders first last old new said
    ends
    kept =
    let same = ends.untouched (λ w. w) in
    quiet cell terms file (fault.Tapes tape.Long) orders_left left held first_orders last_orders first last old new
    (inl refl) (λ no. no) said ends same (kept same)
ended cell terms file (fault.Tapes tape.ReadFailed) orders_left left held first_orders last_orders first last old new
    said
    ends kept =
    failing cell terms file 3 orders_left left held first_orders last_orders first last old new refl
    (inr (inl (ends.tapes_told refl)))
ended cell terms file (fault.Tapes tape.Refused) orders_left left held first_orders last_orders first last old new said
    ends
    kept =
    let same = ends.untouched (λ w. w) in
    quiet cell terms file (fault.Tapes tape.Refused) orders_left left held first_orders last_orders first last old new
    (inr refl) (λ no. no) said ends same (kept same)
ended cell terms file (fault.Differences count) orders_left left held first_orders last_orders first last old new said
    ends
    kept =
    written cell terms file count orders_left left held first_orders last_orders first last old new said ends
ended cell terms file fault.Refused orders_left left held first_orders last_orders first last old new said ends kept =
    let same = ends.untouched (λ w. w) in
    quiet cell terms file fault.Refused orders_left left held first_orders last_orders first last old new (inr refl)
    (λ no. no) said ends same (kept same)
ended cell terms file fault.WriteFailed orders_left left held first_orders last_orders first last old new said ends
    kept =
    failing cell terms file 3 orders_left left held first_orders last_orders first last old new refl
    (inr (inr (ends.write_failed refl)))

-- the same of a status that is the fault's
pub ends_with : {B R W : Type 0} (cell : Cell) (terms : VerdictTerms) (file : _) (why : VerifyOrdersFault) (status : ℕ)
    (orders_left : B → Option (List ℕ)) (left : R → Option (List ℕ)) (held : W → Option (List ℕ))
    (first_orders last_orders : Source B) (first last : Source R) (old new : Sink W)
    → status ≡ status_of_verify_orders_fault why
    → IsSaid cell terms why (orders_left (reader_of first_orders)) (left (reader_of first)) (held (writer_of old))
    (held (writer_of new))
    → AreEnds why last_orders first last old new
    → (new ≡ old → Writes held Keeps old new)
    → HasRun (task.VerifyOrders cell terms file) status orders_left left held first_orders last_orders first last old
    new
ends_with cell terms file why status orders_left left held first_orders last_orders first last old new same said ends
    kept =
    subst (λ (s : ℕ). HasRun (task.VerifyOrders cell terms file) s orders_left left held first_orders last_orders first
    last old new)
    (sym same)
    (ended cell terms file why orders_left left held first_orders last_orders first last old new said ends kept)

-- there is no difference, and the table was written
pub all_kept : {B R W : Type 0} (cell : Cell) (terms : VerdictTerms) (file : _) (orders_left : B → Option (List ℕ))
    (left : R → Option (List ℕ)) (held : W → Option (List ℕ)) (first_orders last_orders : Source B)
    (first last : Source R) (old new : Sink W) (ends : Readers)
    → ends.orders_first ≡ orders_left (reader_of first_orders)
    → ends.tapes_first ≡ left (reader_of first)
    → Writes held (λ before after. JudgesAndWrites cell terms ends before after 0) old new
    → source_failed last_orders ≡ false
    → source_failed last ≡ false
    → sink_failed new ≡ false
    → HasRun (task.VerifyOrders cell terms file) 0 orders_left left held first_orders last_orders first last old new
all_kept cell terms file orders_left left held first_orders last_orders first last old new ends orders tapes wrote
    orders_sound
    sound sink_sound = record {
      statuses = omega arith;
      understood = λ two. omega (arith, two);
      done = λ _.
          subst (λ (octets : Option (List ℕ)). WritesOutputOfBoth (AreOrdersKept cell terms) octets
          (left (reader_of first)) (held (writer_of old)) (held (writer_of new)))
          orders
          (subst (λ (octets : Option (List ℕ)). WritesOutputOfBoth (AreOrdersKept cell terms) ends.orders_first octets
          (held (writer_of old)) (held (writer_of new)))
          tapes
          (table_written cell terms ends (held (writer_of old)) (held (writer_of new)) wrote));
      wrote = λ _ _. some_written cell terms ends (held (writer_of old)) (held (writer_of new)) wrote;
      refused = λ one. absurd (omega (arith, one));
      nothing_written = λ none. absurd (none (inl refl));
      untouched = λ none. absurd (none (inl refl));
      of_refused = λ one. absurd (omega (arith, one));
      of_memory = λ four. absurd (omega (arith, four));
      device = λ three. absurd (omega (arith, three));
      failed = λ _ _ _ failed. absurd (neither failed);
      no_book = λ none. absurd none;
    }
  where
    neither : AnyHasFailed last_orders last new → ⊥
    neither (inl failed) = search (rules, failed, orders_sound)
    neither (inr (inl failed)) = search (rules, failed, sound)
    neither (inr (inr failed)) = search (rules, failed, sink_sound)
