-- What `check --slots` writes and refuses, and what its statuses say of the ends.
use Rattle.std.proofs.Common.{◌≡◌, ◌≢◌, ◌⊎◌, ◌↔◌, ℕ, ◌≤◌, List, Option, None, Some, IfSome, Ok, Err, Result, IsErrOf}
use Rattle.std.proofs.Common.{IsTrue, Bool}
use Rattle.std.proofs.Common.{true, false, ap, arith, inl, inr, refl, rules, subst, sym, ◌<◌, ◌++◌, length}
use Rattle.std.proofs.KnownBytes.{Keeps-refl}
use Rattle.std.specs.Io.KnownBytes.{Keeps}
use Rattle.device_ends.specs.Moves.{WritesOutput}
use Rattle.device_ends.specs.Sink.{sink_failed, writer_of}
use Rattle.device_ends.specs.Source.{reader_of, source_failed}
use Rattle.device_ends.specs.declared.reading.Source.{Source}
use Rattle.device_ends.specs.declared.writing.Sink.{Sink}
use Rattle.alert_book.specs.declared.judging.bounds.Extent.{Extent}
use Rattle.alert_book.specs.declared.judging.bounds.Extent.TheVariants as extent
use Rattle.alert_book.specs.Extent.{bounds_of}
use Rattle.book_check.specs.Checked.{HasFaultsBy}
use Rattle.book_remarks.specs.Remarked.{HasRemarks, HasTold, HasWritten, IsRemarkFault, IsRemarked, IsRemarkedFor}
use Rattle.book_remarks.specs.RemarksText.{header_line, network_header}
use Rattle.book_remarks.specs.declared.fault.RemarkFault.{RemarkFault}
use Rattle.book_remarks.specs.declared.fault.RemarkFault.TheVariants as fault
use Rattle.slot_times.specs.declared.start.Start.{Start}
use Rattle.warnc_cli.specs.Run.{AnyHasFailed, OneHasFailed, WritesSome}
use Rattle.warnc_cli.specs.RunSteps.{HasRun, IsDoneBy, IsRefusedBy, IsRunBetween, WroteRemarksBy, WroteSomeBy}
use Rattle.warnc_cli.specs.Status.{status_of_remark_fault}
use Rattle.warnc_cli.specs.Tasks.{IsRemarkable, IsUnremarked, KeepsUnseen, WritesDifferences, WritesFirstGroups}
use Rattle.warnc_cli.specs.declared.command.Task.TheVariants as task

some_octets : (start : Option Start) (lines cells : List ℕ) → 0 < length ((header_line start ++ lines) ++ cells)
some_octets None lines cells = omega arith
some_octets (Some start) lines cells = omega arith

some_of_network : (start : Option Start) (lines : List ℕ) → 0 < length (network_header start ++ lines)
some_of_network None lines = omega arith
some_of_network (Some start) lines = omega arith

-- a table of remarks has the names of its columns
some_table : (what : Extent) (slots : ℕ) (start : Option Start) (input : List ℕ) (count : ℕ) (output : List ℕ)
    → IsRemarked what slots start input count output
    → 0 < length output
some_table extent.Book slots start input count output remarked =
    subst (λ (octets : List ℕ). 0 < length octets) (sym remarked.written) (some_octets start _ _)
some_table (extent.Group group) slots start input count output remarked =
    subst (λ (octets : List ℕ). 0 < length octets) (sym remarked.written) (some_octets start _ _)
some_table extent.Network slots start input count output remarked =
    subst (λ (octets : List ℕ). 0 < length octets) (sym remarked.written) (some_of_network start _)

-- so some octets are written
pub some_remarks : (what : Extent) (slots : ℕ) (start : Option Start) (strict : Bool) (left old new : Option (List ℕ))
    → WritesOutput (IsRemarkedFor what slots start strict) left old new
    → WritesSome old new
some_remarks what slots start false left old new written =
    let out = written.of_some in
    (out.1, some_table what slots start out.0 out.2.0 out.1 out.2.1, out.3)
some_remarks what slots start true left old new written =
    let out = written.of_some in
    (out.1, some_table what slots start out.0 0 out.1 out.2, out.3)

-- a fault of `check --slots` with status 1 says why the input is refused
pub refused_remark : (what : Extent) (slots : ℕ) (start : Option Start) (strict : Bool) (left old new : Option (List ℕ))
    (why : RemarkFault)
    → IsRemarkFault what slots start strict left old new why
    → status_of_remark_fault why ≡ 1
    → IfSome left (IsRemarkable what slots start strict)
refused_remark what slots start strict None old new why told is = tt
refused_remark what slots start strict (Some input) old new (fault.Faults count) told is =
    inl (inr (count, told.of_input.0, told.of_input.1))
refused_remark what slots start strict (Some input) old new (fault.NoGroup groups) told is =
    inl (inl (inr (groups, told)))
refused_remark what slots start strict (Some input) old new fault.TooLong told is = inl (inl (inl told))
refused_remark what slots start strict (Some input) old new fault.ReadFailed told is = absurd (omega (arith, is))
refused_remark what slots start strict (Some input) old new (fault.Run f) told is = inr (inl (f, told))
refused_remark what slots start strict (Some input) old new (fault.Remarks count) told is =
    inr (inr (told.0, (count, told.1.of_input.0, told.1.of_input.1)))
refused_remark what slots start strict (Some input) old new fault.Refused told is = absurd (omega (arith, is))
refused_remark what slots start strict (Some input) old new fault.WriteFailed told is = absurd (omega (arith, is))

-- a fault of status 1 that tells of no row says that the book is too long, or that it has no run or no such group
unremarked : (what : Extent) (slots : ℕ) (start : Option Start) (strict : Bool) (left old new : Option (List ℕ))
    (why : RemarkFault)
    → IsRemarkFault what slots start strict left old new why
    → status_of_remark_fault why ≡ 1
    → (HasTold why → ⊥)
    → IfSome left (IsUnremarked what slots)
unremarked what slots start strict None old new why told is none = tt
unremarked what slots start strict (Some input) old new (fault.Faults count) told is none = absurd (none tt)
unremarked what slots start strict (Some input) old new (fault.NoGroup groups) told is none =
    inl (inr (groups, told))
unremarked what slots start strict (Some input) old new fault.TooLong told is none = inl (inl told)
unremarked what slots start strict (Some input) old new fault.ReadFailed told is none = absurd (omega (arith, is))
unremarked what slots start strict (Some input) old new (fault.Run f) told is none = inr (f, told)
unremarked what slots start strict (Some input) old new (fault.Remarks count) told is none = absurd (none tt)
unremarked what slots start strict (Some input) old new fault.Refused told is none = absurd (omega (arith, is))
unremarked what slots start strict (Some input) old new fault.WriteFailed told is none = absurd (omega (arith, is))

-- with status 1 the faults or the remarks were written, or nothing was of a book of which nothing can be said
pub unseen_or_remarked : (Kept : Type 0) (what : Extent) (slots : ℕ) (start : Option Start) (strict : Bool)
    (left old new : Option (List ℕ))
    (why : RemarkFault)
    → IsRemarkFault what slots start strict left old new why
    → ((HasWritten why → ⊥) → Kept)
    → status_of_remark_fault why ≡ 1
    → (IfSome left (IsUnremarked what slots) × Kept)
    ⊎ (((count : ℕ) × WritesOutput (HasFaultsBy (bounds_of what) count) left old new)
    ⊎ ((count : ℕ) × WritesOutput (HasRemarks what slots start count) left old new))
unseen_or_remarked Kept what slots start strict left old new (fault.Faults count) told kept is = inr (inl (count, told))
unseen_or_remarked Kept what slots start strict left old new (fault.NoGroup groups) told kept is =
    inl (unremarked what slots start strict left old new (fault.NoGroup groups) told is (λ w. w), kept (λ w. w))
unseen_or_remarked Kept what slots start strict left old new fault.TooLong told kept is =
    inl (unremarked what slots start strict left old new fault.TooLong told is (λ w. w), kept (λ w. w))
unseen_or_remarked Kept what slots start strict left old new fault.ReadFailed told kept is = absurd (omega (arith, is))
unseen_or_remarked Kept what slots start strict left old new (fault.Run f) told kept is =
    inl (unremarked what slots start strict left old new (fault.Run f) told is (λ w. w), kept (λ w. w))
unseen_or_remarked Kept what slots start strict left old new (fault.Remarks count) told kept is = inr
    (inr (count, told.1))
unseen_or_remarked Kept what slots start strict left old new fault.Refused told kept is = absurd (omega (arith, is))
unseen_or_remarked Kept what slots start strict left old new fault.WriteFailed told kept is = absurd (omega (arith, is))

-- with status 4 nothing was
pub nothing_remarked : (Kept : Type 0) (why : RemarkFault) → ((HasWritten why → ⊥) → Kept)
    → status_of_remark_fault why ≡ 4
    → Kept
nothing_remarked Kept (fault.Faults count) kept is = absurd (omega (arith, is))
nothing_remarked Kept (fault.NoGroup groups) kept is = absurd (omega (arith, is))
nothing_remarked Kept fault.TooLong kept is = absurd (omega (arith, is))
nothing_remarked Kept fault.ReadFailed kept is = absurd (omega (arith, is))
nothing_remarked Kept (fault.Run f) kept is = absurd (omega (arith, is))
nothing_remarked Kept (fault.Remarks count) kept is = absurd (omega (arith, is))
nothing_remarked Kept fault.Refused kept is = kept (λ w. w)
nothing_remarked Kept fault.WriteFailed kept is = absurd (omega (arith, is))

-- what the engine says of the ends with a fault
pub record AreRemarkEnds {R W : Type 0} (why : RemarkFault) (last : Source R) (old new : Sink W) : Type 0 where
  pub read_failed : IsErrOf {T = Unit {0}} (Err why) fault.ReadFailed ↔ IsTrue (source_failed last)
  pub write_failed : IsErrOf {T = Unit {0}} (Err why) fault.WriteFailed → sink_failed new ≡ true
  pub told : HasTold why → sink_failed new ≡ false
  pub untouched : (HasWritten why → ⊥) → new ≡ old

-- the status that a result's fault has
abbrev status_in : Result (Unit {0}) RemarkFault → ℕ
status_in (Ok done) = 0
status_in (Err why) = status_of_remark_fault why

-- a fault of another status than 3 leaves the source sound
source_sound : {R W : Type 0} (why : RemarkFault) (last : Source R) (old new : Sink W) → AreRemarkEnds why last old new
    → status_of_remark_fault why ≢ 3
    → source_failed last ≡ true
    → ⊥
source_sound why last old new ends other failed = other (ap status_in (ends.read_failed.1 failed))

-- nothing was written
quiet : {R W : Type 0} (what : Extent) (slots : ℕ) (start : Option Start) (strict : Bool) (why : RemarkFault)
    (held : W → Option (List ℕ))
    (last : Source R) (old new : Sink W)
    → AreRemarkEnds why last old new
    → (status_of_remark_fault why ≡ 1) ⊎ (status_of_remark_fault why ≡ 4)
    → (HasWritten why → ⊥)
    → IsRunBetween (task.Remark what slots start strict) (status_of_remark_fault why) held last old new
quiet {W = W} what slots start strict why held last old new ends one_or_four unwritten =
    let same : new ≡ old = ends.untouched unwritten in
    record {
      statuses = bound one_or_four;
      understood = two one_or_four;
      nothing_written = λ _. subst (λ (s : Sink W). Keeps (held (writer_of old)) (held (writer_of s))) (sym same)
          (Keeps-refl _);
      untouched = λ _. same;
      device = λ is. absurd (three one_or_four is);
      failed = λ sink failed. absurd (neither same sink failed);
    }
  where
    bound : (status_of_remark_fault why ≡ 1) ⊎ (status_of_remark_fault why ≡ 4) → status_of_remark_fault why ≤ 4
    bound (inl is) = omega (arith, is)
    bound (inr is) = omega (arith, is)

    two : (status_of_remark_fault why ≡ 1) ⊎ (status_of_remark_fault why ≡ 4) → status_of_remark_fault why ≢ 2
    two (inl is) so = omega (arith, is, so)
    two (inr is) so = omega (arith, is, so)

    three : (status_of_remark_fault why ≡ 1) ⊎ (status_of_remark_fault why ≡ 4) → status_of_remark_fault why ≢ 3
    three (inl is) so = omega (arith, is, so)
    three (inr is) so = omega (arith, is, so)

    neither : new ≡ old → sink_failed old ≡ false → OneHasFailed last new → ⊥
    neither same sink (inl failed) = source_sound why last old new ends (three one_or_four) failed
    neither same sink (inr failed) =
        let now : sink_failed old ≡ true = subst (λ (s : Sink W). sink_failed s ≡ true) same failed in
        search (rules, now, sink)

-- an end failed
failing : {R W : Type 0} (what : Extent) (slots : ℕ) (start : Option Start) (strict : Bool) (held : W → Option (List ℕ))
    (last : Source R) (old new : Sink W)
    → OneHasFailed last new
    → IsRunBetween (task.Remark what slots start strict) 3 held last old new
failing what slots start strict held last old new failed = record {
  statuses = omega arith;
  understood = λ two. omega (arith, two);
  nothing_written = λ no. absurd (no (inr (inl refl)));
  untouched = λ no. absurd (no (inr (inl refl)));
  device = λ _. failed;
  failed = λ _ _. refl;
}

-- the faults were written, or the remarks
written : {R W : Type 0} (what : Extent) (slots : ℕ) (start : Option Start) (strict : Bool) (why : RemarkFault)
    (held : W → Option (List ℕ)) (last : Source R)
    (old new : Sink W)
    → AreRemarkEnds why last old new
    → HasTold why
    → status_of_remark_fault why ≢ 3
    → IsRunBetween (task.Remark what slots start strict) 1 held last old new
written what slots start strict why held last old new ends all other = record {
  statuses = omega arith;
  understood = λ two. omega (arith, two);
  nothing_written = λ no. absurd (no (inr (inr refl)));
  untouched = λ no. absurd (no (inr (inr refl)));
  device = λ three. absurd (omega (arith, three));
  failed = λ _ failed. absurd (neither failed);
}
  where
    neither : OneHasFailed last new → ⊥
    neither (inl failed) = source_sound why last old new ends other failed
    neither (inr failed) =
        let sound = ends.told all in
        search (rules, failed, sound)

-- what the engine says of the ends with a fault is what the fault's status says of them
told : {R W : Type 0} (what : Extent) (slots : ℕ) (start : Option Start) (strict : Bool) (why : RemarkFault)
    (held : W → Option (List ℕ))
    (last : Source R) (old new : Sink W)
    → AreRemarkEnds why last old new
    → IsRunBetween (task.Remark what slots start strict) (status_of_remark_fault why) held last old new
told what slots start strict (fault.Faults count) held last old new ends =
    written what slots start strict (fault.Faults count) held last old new ends tt (λ three. omega (arith, three))
told what slots start strict (fault.NoGroup groups) held last old new ends =
    quiet what slots start strict (fault.NoGroup groups) held last old new ends (inl refl) (λ w. w)
told what slots start strict fault.TooLong held last old new ends =
    quiet what slots start strict fault.TooLong held last old new ends (inl refl) (λ w. w)
told what slots start strict fault.ReadFailed held last old new ends =
    failing what slots start strict held last old new (inl (ends.read_failed.0 refl))
told what slots start strict (fault.Run f) held last old new ends =
    quiet what slots start strict (fault.Run f) held last old new ends (inl refl) (λ w. w)
told what slots start strict (fault.Remarks count) held last old new ends =
    written what slots start strict (fault.Remarks count) held last old new ends tt (λ three. omega (arith, three))
told what slots start strict fault.Refused held last old new ends =
    quiet what slots start strict fault.Refused held last old new ends (inr refl) (λ w. w)
told what slots start strict fault.WriteFailed held last old new ends =
    failing what slots start strict held last old new (inr (ends.write_failed refl))

-- the same of a status that is the fault's
pub remark_between : {R W : Type 0} (what : Extent) (slots : ℕ) (start : Option Start) (strict : Bool)
    (why : RemarkFault) (status : ℕ)
    (held : W → Option (List ℕ)) (last : Source R) (old new : Sink W)
    → status ≡ status_of_remark_fault why
    → AreRemarkEnds why last old new
    → IsRunBetween (task.Remark what slots start strict) status held last old new
remark_between what slots start strict why status held last old new same ends =
    subst (λ (s : ℕ). IsRunBetween (task.Remark what slots start strict) s held last old new) (sym same)
    (told what slots start strict why held last old new ends)

-- so this is said of any task
pub of_remark : {B R W : Type 0} (what : Extent) (slots : ℕ) (start : Option Start) (strict : Bool) (status : ℕ)
    (book_left : B → Option (List ℕ))
    (left : R → Option (List ℕ)) (held : W → Option (List ℕ)) (book : Source B) (first last : Source R)
    (old new : Sink W)
    → IsDoneBy (task.Remark what slots start strict) status left held first old new
    → WroteSomeBy (task.Remark what slots start strict) status held old new
    → IsRefusedBy (task.Remark what slots start strict) status left first
    → WroteRemarksBy what slots start strict status left held first old new
    → IsRunBetween (task.Remark what slots start strict) status held last old new
    → HasRun (task.Remark what slots start strict) status book_left left held book book first last old new
of_remark what slots start strict status book_left left held book first last old new done wrote refused told ends =
    record {
      statuses = ends.statuses;
      understood = ends.understood;
      done = done;
      wrote = wrote;
      refused = refused;
      nothing_written = ends.nothing_written;
      untouched = ends.untouched;
      of_refused = λ is. faults (told.0 is);
      of_memory = λ is. inl (told.1 is);
      device = λ is. inr (ends.device is);
      failed = λ sound input sink failed. by_end sound sink failed;
      no_book = λ none. refl;
    }
  where
    faults : KeepsUnseen (task.Remark what slots start strict) None (left (reader_of first)) (held (writer_of old))
        (held (writer_of new))
        ⊎ WritesDifferences (task.Remark what slots start strict) None (left (reader_of first)) (held (writer_of old))
        (held (writer_of new))
        → KeepsUnseen (task.Remark what slots start strict) (book_left (reader_of book)) (left (reader_of first))
        (held (writer_of old)) (held (writer_of new))
        ⊎ (WritesDifferences (task.Remark what slots start strict) (book_left (reader_of book)) (left (reader_of first))
        (held (writer_of old)) (held (writer_of new))
        ⊎ WritesFirstGroups (task.Remark what slots start strict) (book_left (reader_of book)) (left (reader_of first))
        (held (writer_of old)) (held (writer_of new)))
    faults (inl kept) = inl kept
    faults (inr written) = inr (inl written)

    by_end : source_failed book ≡ false → sink_failed old ≡ false → AnyHasFailed book last new → status ≡ 3
    by_end sound sink (inl failed) = absurd (search (rules, sound, failed))
    by_end sound sink (inr failed) = ends.failed sink failed
