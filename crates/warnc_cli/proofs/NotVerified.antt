-- What `verify` writes and refuses, and what its statuses say of the ends.
use Rattle.std.proofs.Common.{◌≡◌, ◌≢◌, ◌⊎◌, ◌↔◌, ℕ, ◌≤◌, List, [], Option, None, Some, IfSome}
use Rattle.std.proofs.Common.{refl, ap}
use Rattle.std.proofs.Common.{true, false, Ok, Err, Result, IsErrOf, IsTrue}
use Rattle.std.proofs.Common.{sym, subst, arith, inl, inr, rules}
use Rattle.std.specs.Io.KnownBytes.{Keeps}
use Rattle.alert_book.specs.declared.network.Origin.{Origin}
use Rattle.alert_book.specs.Book.{unread}
use Rattle.device_ends.specs.Sink.{sink_failed}
use Rattle.device_ends.specs.Source.{source_failed}
use Rattle.device_ends.specs.declared.reading.Source.{Source}
use Rattle.device_ends.specs.declared.writing.Sink.{Sink}
use Rattle.handset.specs.declared.tape.TapeFault.TheVariants as tape
use Rattle.short_pages.specs.declared.pages.Pages.{Pages}
use Rattle.verification.specs.declared.detail.TableLayout.{TableLayout}
use Rattle.report.specs.declared.row.Columns.TheVariants as columns
use Rattle.warnc_run.specs.declared.fault.RunFault.{RunFault}
use Rattle.warnc_run.specs.declared.fault.RunFault.TheVariants as run
use Rattle.warnc_run.specs.declared.product.Product.TheVariants as product
use Rattle.warnc_run.specs.Faults.{IsOfProduct, IsWriteFault}
use Rattle.warnc_run.specs.Products.{RunOf, untimed}
use Rattle.warnc_run.specs.Records.{IsRecordsFault}
use Rattle.warnc_verify.specs.Verified.{DiffersBy, FindsAndWrites, HasDifferences, HasWritten}
use Rattle.warnc_verify.specs.Verified.{IsDifference, IsOfBookOrRun, IsVerified, IsVerifyFault, Readers}
use Rattle.warnc_verify.specs.declared.fault.VerifyFault.{VerifyFault}
use Rattle.warnc_verify.specs.declared.fault.VerifyFault.TheVariants as fault
use Rattle.warnc_verify.proofs.Inputs.{some_table, whole, whole_if_known}
use Rattle.warnc_cli.proofs.NoRun.{no_records}
use Rattle.warnc_cli.proofs.Statuses.{run_kind, OneOrFour}
use Rattle.warnc_cli.specs.Run.{AnyHasFailed, WritesSome}
use Rattle.warnc_cli.specs.RunSteps.{IsVerifyRunBetween}
use Rattle.warnc_cli.specs.Status.{status_of_run_fault, status_of_verify_fault}
use Rattle.warnc_cli.specs.Tasks.{IsNotVerified, IsUnverified, WritesOutputOfBoth}

-- the table without a difference that was written is that of the book and of the tapes
pub table_written : (from : Origin) (slots : ℕ) (pages : Pages) (layout : TableLayout) (ends : Readers)
    (old new : Option (List ℕ))
    → FindsAndWrites from slots pages layout ends old new []
    → WritesOutputOfBoth (IsVerified from slots pages layout) ends.book_first ends.tapes_first old new
table_written from slots pages layout ends old new wrote =
    let finds = wrote.0 in record {
      book_octets = finds.book;
      tapes_octets = finds.tapes;
      output = wrote.1;
      of_book = whole_if_known finds.book ends.book_first ends.book_last finds.book_read finds.book_ended;
      of_tapes = finds.tapes_read;
      is_output = (finds.differ, wrote.2);
      appended = wrote.3;
    }

-- and it isn't empty
pub some_written : (from : Origin) (slots : ℕ) (pages : Pages) (layout : TableLayout) (ends : Readers)
    (old new : Option (List ℕ))
    → FindsAndWrites from slots pages layout ends old new []
    → WritesSome old new
some_written from slots pages layout ends old new wrote =
    let finds = wrote.0 in
    (wrote.1, some_table from slots pages layout finds.book finds.tapes wrote.1 (finds.differ, wrote.2), wrote.3)

-- so is the table of the differences that were found
pub differences_written : (from : Origin) (slots : ℕ) (pages : Pages) (layout : TableLayout) (ends : Readers)
    (old new : Option (List ℕ))
    (why : VerifyFault)
    → IsVerifyFault from slots pages layout ends old new why
    → IsDifference why
    → WritesOutputOfBoth (HasDifferences from slots pages layout) ends.book_first ends.tapes_first old new
differences_written from slots pages layout ends old new (fault.Differences n) why is =
    let finds = why.1.0 in record {
      book_octets = finds.book;
      tapes_octets = finds.tapes;
      output = why.1.1;
      of_book = whole_if_known finds.book ends.book_first ends.book_last finds.book_read finds.book_ended;
      of_tapes = finds.tapes_read;
      is_output = (why.0, (finds.differ, why.1.2), omega (arith, why.2, why.3));
      appended = why.1.3;
    }
differences_written from slots pages layout ends old new (fault.Run f) why is = absurd is
differences_written from slots pages layout ends old new (fault.Tapes f) why is = absurd is
differences_written from slots pages layout ends old new fault.Refused why is = absurd is
differences_written from slots pages layout ends old new fault.WriteFailed why is = absurd is

-- readers of known octets
abbrev known_readers : (book tapes : List ℕ) (book_last tapes_last : Option (List ℕ)) → Readers
known_readers book tapes book_last tapes_last = record {
  book_first = Some book;
  book_last = book_last;
  tapes_first = Some tapes;
  tapes_last = tapes_last;
}

-- a fault of status 1 that tells of no difference says why nothing is known of these tapes and this book
unseen_here : (from : Origin) (slots : ℕ) (pages : Pages) (layout : TableLayout) (book tapes : List ℕ)
    (book_last tapes_last old new : Option (List ℕ))
    (why : VerifyFault)
    → IsVerifyFault from slots pages layout (known_readers book tapes book_last tapes_last) old new why
    → status_of_verify_fault why ≡ 1
    → (IsDifference why → ⊥)
    → IsUnverified from slots book tapes
unseen_here from slots pages layout book tapes book_last tapes_last old new (fault.Run f) told is none =
    inl (no_records from slots book book_last f told is)
unseen_here from slots pages layout book tapes book_last tapes_last old new (fault.Tapes tape.Short) told is none =
    let run = told.1 in
    inr (
      (
        told.0,
        subst (λ (octets : List ℕ). RunOf from slots 1 octets told.0)
            (whole book run.input book_last run.read run.ended) run.made,
      ),
      inl told.2,
    )
unseen_here from slots pages layout book tapes book_last tapes_last old new (fault.Tapes tape.Long) told is none =
    let run = told.1 in
    inr (
      (
        told.0,
        subst (λ (octets : List ℕ). RunOf from slots 1 octets told.0)
            (whole book run.input book_last run.read run.ended) run.made,
      ),
      inr told.2,
    )
unseen_here from slots pages layout book tapes book_last tapes_last old new (fault.Tapes tape.ReadFailed) told is none =
    absurd (omega (arith, is))
unseen_here from slots pages layout book tapes book_last tapes_last old new (fault.Tapes tape.Refused) told is none =
    absurd (omega (arith, is))
unseen_here from slots pages layout book tapes book_last tapes_last old new (fault.Differences n) told is none = absurd
    (none tt)
unseen_here from slots pages layout book tapes book_last tapes_last old new fault.Refused told is none =
    absurd (omega (arith, is))
unseen_here from slots pages layout book tapes book_last tapes_last old new fault.WriteFailed told is none =
    absurd (omega (arith, is))

-- what can't be judged isn't verified
unjudged : (from : Origin) (slots : ℕ) (pages : Pages) (book tapes : List ℕ) → IsUnverified from slots book tapes
    → IsNotVerified from slots pages book tapes
unjudged from slots pages book tapes (inl no_run) = inl no_run
unjudged from slots pages book tapes (inr no_tapes) = inr (inl no_tapes)

refused_here : (from : Origin) (slots : ℕ) (pages : Pages) (layout : TableLayout) (book tapes : List ℕ)
    (book_last tapes_last old new : Option (List ℕ))
    (why : VerifyFault)
    → IsVerifyFault from slots pages layout (known_readers book tapes book_last tapes_last) old new why
    → status_of_verify_fault why ≡ 1
    → IsNotVerified from slots pages book tapes
refused_here from slots pages layout book tapes book_last tapes_last old new (fault.Differences n) told is =
    let finds = told.1.0 in
    inr (inr (
      told.0,
      subst (λ (octets : List ℕ). DiffersBy from slots pages told.0 octets tapes)
          (whole book finds.book book_last finds.book_read finds.book_ended)
          (subst (λ (octets : List ℕ). DiffersBy from slots pages told.0 finds.book octets) (sym finds.tapes_read)
          finds.differ),
      omega (arith, told.2, told.3),
    ))
refused_here from slots pages layout book tapes book_last tapes_last old new (fault.Run f) told is =
    unjudged from slots pages book tapes
    (unseen_here from slots pages layout book tapes book_last tapes_last old new (fault.Run f) told is (λ no. no))
refused_here from slots pages layout book tapes book_last tapes_last old new (fault.Tapes f) told is =
    unjudged from slots pages book tapes
    (unseen_here from slots pages layout book tapes book_last tapes_last old new (fault.Tapes f) told is (λ no. no))
refused_here from slots pages layout book tapes book_last tapes_last old new fault.Refused told is = absurd
    (omega (arith, is))
refused_here from slots pages layout book tapes book_last tapes_last old new fault.WriteFailed told is = absurd
    (omega (arith, is))

-- a fault of `verify` with status 1 says why the tapes don't keep the book
pub refused_verification : (from : Origin) (slots : ℕ) (pages : Pages) (layout : TableLayout)
    (book tapes book_last tapes_last old new : Option (List ℕ))
    (why : VerifyFault)
    → IsVerifyFault from slots pages layout (record {
      book_first = book;
      book_last = book_last;
      tapes_first = tapes;
      tapes_last = tapes_last;
    }) old new why
    → status_of_verify_fault why ≡ 1
    → IfSome book (λ octets. IfSome tapes (IsNotVerified from slots pages octets))
refused_verification from slots pages layout None tapes book_last tapes_last old new why told is = tt
refused_verification from slots pages layout (Some book) None book_last tapes_last old new why told is = tt
refused_verification from slots pages layout (Some book) (Some tapes) book_last tapes_last old new why told is =
    refused_here from slots pages layout book tapes book_last tapes_last old new why told is

-- so says one of any readers
pub unseen_verification : (from : Origin) (slots : ℕ) (pages : Pages) (layout : TableLayout)
    (book tapes book_last tapes_last old new : Option (List ℕ))
    (why : VerifyFault)
    → IsVerifyFault from slots pages layout (record {
      book_first = book;
      book_last = book_last;
      tapes_first = tapes;
      tapes_last = tapes_last;
    }) old new why
    → status_of_verify_fault why ≡ 1
    → (IsDifference why → ⊥)
    → IfSome book (λ octets. IfSome tapes (IsUnverified from slots octets))
unseen_verification from slots pages layout None tapes book_last tapes_last old new why told is none = tt
unseen_verification from slots pages layout (Some book) None book_last tapes_last old new why told is none = tt
unseen_verification from slots pages layout (Some book) (Some tapes) book_last tapes_last old new why told is none =
    unseen_here from slots pages layout book tapes book_last tapes_last old new why told is none

-- with status 1 the differences were written, or nothing was of tapes and a book that can't be judged
pub unseen_or_differs : (Unseen Kept Differ : Type 0) (why : VerifyFault)
    → (status_of_verify_fault why ≡ 1 → (IsDifference why → ⊥) → Unseen)
    → ((HasWritten why → ⊥) → Kept)
    → (IsDifference why → Differ)
    → status_of_verify_fault why ≡ 1
    → (Unseen × Kept) ⊎ Differ
unseen_or_differs Unseen Kept Differ (fault.Run f) unseen kept differs is =
    inl (unseen is (λ no. no), kept (λ w. w))
unseen_or_differs Unseen Kept Differ (fault.Tapes f) unseen kept differs is =
    inl (unseen is (λ no. no), kept (λ w. w))
unseen_or_differs Unseen Kept Differ (fault.Differences n) unseen kept differs is = inr (differs tt)
unseen_or_differs Unseen Kept Differ fault.Refused unseen kept differs is = absurd (omega (arith, is))
unseen_or_differs Unseen Kept Differ fault.WriteFailed unseen kept differs is = absurd (omega (arith, is))

-- a fault of the run is that of a book that wasn't read, or has one of these statuses
run_status : (from : Origin) (slots : ℕ) (first last : Option (List ℕ)) (f : RunFault)
    → IsRecordsFault from slots first last f
    → (f ≡ run.Book unread) ⊎ OneOrFour (status_of_run_fault f)
run_status from slots first last f is = by_kind (run_kind f)
  where
    no_writer : (f : RunFault) → IsOfProduct f (product.Report (untimed columns.Plain)) → IsWriteFault f → ⊥
    no_writer (run.Write failed) of write = of
    no_writer (run.Book f) of write = write
    no_writer (run.NoGroup groups) of write = write
    no_writer (run.Desk f) of write = write
    no_writer (run.Settle f) of write = write
    no_writer (run.Compile f) of write = write
    no_writer run.Refused of write = write

    by_kind : (f ≡ run.Book unread) ⊎ (IsWriteFault f ⊎ OneOrFour (status_of_run_fault f))
        → (f ≡ run.Book unread) ⊎ OneOrFour (status_of_run_fault f)
    by_kind (inl same) = inl same
    by_kind (inr (inl write)) = absurd (no_writer f is.0 write)
    by_kind (inr (inr status)) = inr status

-- what the engine says of the ends with a fault
pub record AreEnds {B R W : Type 0} (why : VerifyFault) (first_book last_book : Source B) (first last : Source R)
    (old new : Sink W) : Type 0 where
  pub book_failed : IsErrOf {T = Unit {0}} (Err why) (fault.Run (run.Book unread)) ↔ IsTrue (source_failed last_book)
  pub book_first : IsOfBookOrRun why → last ≡ first
  pub tapes_failed : source_failed first ≡ false
      → (IsErrOf {T = Unit {0}} (Err why) (fault.Tapes tape.ReadFailed) ↔ IsTrue (source_failed last))
  pub tapes_told : IsErrOf {T = Unit {0}} (Err why) (fault.Tapes tape.ReadFailed) → source_failed last ≡ true
  pub tapes_judged : HasWritten why → source_failed last ≡ false
  pub write_failed : IsErrOf {T = Unit {0}} (Err why) fault.WriteFailed → sink_failed new ≡ true
  pub written : IsDifference why → sink_failed new ≡ false
  pub untouched : (HasWritten why → ⊥) → new ≡ old

-- the status that a result's fault has
abbrev status_in : Result (Unit {0}) VerifyFault → ℕ
status_in (Ok done) = 0
status_in (Err why) = status_of_verify_fault why

-- a fault of another status than 3 leaves the book's end sound, and the tapes', if it was, and they were judged
book_sound : {B R W : Type 0} (why : VerifyFault) (first_book last_book : Source B) (first last : Source R)
    (old new : Sink W)
    → AreEnds why first_book last_book first last old new
    → status_of_verify_fault why ≢ 3
    → source_failed last_book ≡ true
    → ⊥
book_sound why first_book last_book first last old new ends other failed =
    other (ap status_in (ends.book_failed.1 failed))

tapes_sound : {B R W : Type 0} (why : VerifyFault) (first_book last_book : Source B) (first last : Source R)
    (old new : Sink W)
    → AreEnds why first_book last_book first last old new
    → status_of_verify_fault why ≢ 3
    → source_failed first ≡ false
    → source_failed last ≡ true
    → ⊥
tapes_sound why first_book last_book first last old new ends other sound failed =
    other (ap status_in ((ends.tapes_failed sound).1 failed))

-- no end failed, and nothing was written
quiet : {B R W : Type 0} (why : VerifyFault) (first_book last_book : Source B) (first last : Source R)
    (old new : Sink W) (before after : Option (List ℕ))
    → AreEnds why first_book last_book first last old new
    → OneOrFour (status_of_verify_fault why)
    → (source_failed first ≡ false → source_failed last ≡ true → ⊥)
    → new ≡ old
    → (new ≡ old → Keeps before after)
    → IsVerifyRunBetween (status_of_verify_fault why) first_book last_book first last old new before after
quiet {W = W} why first_book last_book first last old new before after ends one_or_four tapes same kept = record {
  statuses = bound one_or_four;
  nothing_written = λ _ _ _. kept same;
  untouched = λ _ _ _. same;
  understood = λ is. other one_or_four is;
  device = λ is. absurd (three one_or_four is);
  failed = λ sound sink failed. absurd (neither sound sink failed);
}
  where
    bound : OneOrFour (status_of_verify_fault why) → status_of_verify_fault why ≤ 4
    bound (inl is) = omega (arith, is)
    bound (inr is) = omega (arith, is)

    other : OneOrFour (status_of_verify_fault why) → status_of_verify_fault why ≡ 2 → ⊥
    other (inl is) two = omega (arith, is, two)
    other (inr is) two = omega (arith, is, two)

    three : OneOrFour (status_of_verify_fault why) → status_of_verify_fault why ≡ 3 → ⊥
    three (inl is) so = omega (arith, is, so)
    three (inr is) so = omega (arith, is, so)

    neither : source_failed first ≡ false → sink_failed old ≡ false → AnyHasFailed last_book last new → ⊥
    neither sound sink (inl failed) =
        book_sound why first_book last_book first last old new ends (three one_or_four) failed
    neither sound sink (inr (inl failed)) = tapes sound failed
    neither sound sink (inr (inr failed)) =
        let now : sink_failed old ≡ true = subst (λ (s : Sink W). sink_failed s ≡ true) same failed in
        search (rules, now, sink)

-- an end failed
failing : {B R W : Type 0} (status : ℕ) (first_book last_book : Source B) (first last : Source R)
    (old new : Sink W) (before after : Option (List ℕ))
    → status ≡ 3
    → AnyHasFailed last_book last new
    → IsVerifyRunBetween status first_book last_book first last old new before after
failing status first_book last_book first last old new before after is failed = record {
  statuses = omega (arith, is);
  nothing_written = λ _ _ other. absurd (other is);
  untouched = λ _ _ other. absurd (other is);
  understood = λ two. omega (arith, is, two);
  device = λ _. failed;
  failed = λ _ _ _. is;
}

-- the differences were written
written : {B R W : Type 0} (n : ℕ) (first_book last_book : Source B) (first last : Source R)
    (old new : Sink W) (before after : Option (List ℕ))
    → AreEnds (fault.Differences n) first_book last_book first last old new
    → IsVerifyRunBetween 1 first_book last_book first last old new before after
written n first_book last_book first last old new before after ends = record {
  statuses = omega arith;
  nothing_written = λ _ other _. absurd (other refl);
  untouched = λ _ other _. absurd (other refl);
  understood = λ two. omega (arith, two);
  device = λ three. absurd (omega (arith, three));
  failed = λ _ _ failed. absurd (neither failed);
}
  where
    neither : AnyHasFailed last_book last new → ⊥
    neither (inl failed) =
        book_sound (fault.Differences n) first_book last_book first last old new ends (λ three. omega (arith, three))
        failed
    neither (inr (inl failed)) =
        let sound = ends.tapes_judged tt in
        search (rules, failed, sound)
    neither (inr (inr failed)) =
        let sound = ends.written tt in
        search (rules, failed, sound)

-- a fault of a book's run
of_run : {B R W : Type 0} (f : RunFault) (first_book last_book : Source B) (first last : Source R)
    (old new : Sink W) (before after : Option (List ℕ))
    → (f ≡ run.Book unread) ⊎ OneOrFour (status_of_run_fault f)
    → AreEnds (fault.Run f) first_book last_book first last old new
    → (new ≡ old → Keeps before after)
    → IsVerifyRunBetween (status_of_run_fault f) first_book last_book first last old new before after
of_run f first_book last_book first last old new before after (inl same) ends kept =
    failing (status_of_run_fault f) first_book last_book first last old new before after (ap status_of_run_fault same)
    (inl (ends.book_failed.0 (ap (λ (g : RunFault). Err (fault.Run g)) same)))
of_run {R = R} f first_book last_book first last old new before after (inr other) ends kept =
    quiet (fault.Run f) first_book last_book first last old new before after ends other
    (λ sound failed.
    let was : source_failed first ≡ true =
    subst (λ (s : Source R). source_failed s ≡ true) (ends.book_first tt) failed in
    search (rules, was, sound))
    (ends.untouched (λ w. w)) kept

-- what the engine says of the ends with a fault is what the fault's status says of them
told : {B R W : Type 0} (from : Origin) (slots : ℕ) (pages : Pages) (layout : TableLayout) (readers : Readers)
    (held_old held_new : Option (List ℕ))
    (why : VerifyFault) (first_book last_book : Source B) (first last : Source R)
    (old new : Sink W) (before after : Option (List ℕ))
    → IsVerifyFault from slots pages layout readers held_old held_new why
    → AreEnds why first_book last_book first last old new
    → (new ≡ old → Keeps before after)
    → IsVerifyRunBetween (status_of_verify_fault why) first_book last_book first last old new before after
told from slots pages layout readers held_old held_new (fault.Run f) first_book last_book first last old new before
    after is
    ends
    kept =
    of_run f first_book last_book first last old new before after
    (run_status from slots readers.book_first readers.book_last f is) ends kept
told from slots pages layout readers held_old held_new (fault.Tapes tape.Short) first_book last_book first last old new
    before
    after
    is ends kept =
    quiet (fault.Tapes tape.Short) first_book last_book first last old new before after ends (inl refl)
    (tapes_sound _ first_book last_book first last old new ends (λ three. omega (arith, three)))
    (ends.untouched (λ w. w)) kept
told from slots pages layout readers held_old held_new (fault.Tapes tape.Long) first_book last_book first last old new
    before
    after
    is ends kept =
    quiet (fault.Tapes tape.Long) first_book last_book first last old new before after ends (inl refl)
    (tapes_sound _ first_book last_book first last old new ends (λ three. omega (arith, three)))
    (ends.untouched (λ w. w)) kept
told from slots pages layout readers held_old held_new (fault.Tapes tape.ReadFailed) first_book last_book first last
    old new
    before
    after is ends kept =
    failing 3 first_book last_book first last old new before after refl (inr (inl (ends.tapes_told refl)))
told from slots pages layout readers held_old held_new (fault.Tapes tape.Refused) first_book last_book first last old
    new
    before
    after is ends kept =
    quiet (fault.Tapes tape.Refused) first_book last_book first last old new before after ends (inr refl)
    (tapes_sound _ first_book last_book first last old new ends (λ three. omega (arith, three)))
    (ends.untouched (λ w. w)) kept
told from slots pages layout readers held_old held_new (fault.Differences n) first_book last_book first last old new
    before
    after is
    ends kept =
    written n first_book last_book first last old new before after ends
told from slots pages layout readers held_old held_new fault.Refused first_book last_book first last old new before
    after is
    ends
    kept =
    quiet fault.Refused first_book last_book first last old new before after ends (inr refl)
    (tapes_sound _ first_book last_book first last old new ends (λ three. omega (arith, three)))
    (ends.untouched (λ w. w)) kept
told from slots pages layout readers held_old held_new fault.WriteFailed first_book last_book first last old new before
    after
    is ends
    kept =
    failing 3 first_book last_book first last old new before after refl (inr (inr (ends.write_failed refl)))

-- the same of a status that is the fault's
pub between : {B R W : Type 0} (from : Origin) (slots : ℕ) (pages : Pages) (layout : TableLayout) (readers : Readers)
    (held_old held_new : Option (List ℕ))
    (why : VerifyFault) (status : ℕ) (first_book last_book : Source B) (first last : Source R)
    (old new : Sink W) (before after : Option (List ℕ))
    → status ≡ status_of_verify_fault why
    → IsVerifyFault from slots pages layout readers held_old held_new why
    → AreEnds why first_book last_book first last old new
    → (new ≡ old → Keeps before after)
    → IsVerifyRunBetween status first_book last_book first last old new before after
between from slots pages layout readers held_old held_new why status first_book last_book first last old new before
    after same
    is
    ends kept =
    subst (λ (s : ℕ). IsVerifyRunBetween s first_book last_book first last old new before after) (sym same)
    (told from slots pages layout readers held_old held_new why first_book last_book first last old new before after is
    ends
    kept)
