-- What `check` writes and refuses, and what its statuses say of the ends.
use Rattle.std.proofs.Common.{◌≡◌, ◌≢◌, ◌⊎◌, ◌↔◌, ℕ, ◌≤◌, List, Option, None, Some, IfSome, Ok, Err, Result, IsErrOf}
use Rattle.std.proofs.Common.{IsTrue}
use Rattle.std.proofs.Common.{true, false, ap, arith, inl, inr, refl, rules, subst, sym, ◌<◌, ◌++◌, length}
use Rattle.std.proofs.KnownBytes.{Keeps-refl}
use Rattle.std.specs.Io.KnownBytes.{Keeps}
use Rattle.device_ends.specs.Moves.{WritesOutput}
use Rattle.device_ends.specs.Sink.{sink_failed, writer_of}
use Rattle.device_ends.specs.Source.{source_failed}
use Rattle.device_ends.specs.declared.reading.Source.{Source}
use Rattle.device_ends.specs.declared.writing.Sink.{Sink}
use Rattle.alert_book.specs.Extent.{bounds_of, most_octets}
use Rattle.alert_book.specs.declared.judging.bounds.Extent.{Extent}
use Rattle.book_check.specs.Checked.{HasFaultsBy, HasTold, HasWritten, IsCheckFault, IsCleanFor, LacksGroup}
use Rattle.book_check.specs.Told.{header_row}
use Rattle.book_check.specs.declared.fault.CheckFault.{CheckFault}
use Rattle.book_check.specs.declared.fault.CheckFault.TheVariants as fault
use Rattle.warnc_cli.specs.Run.{OneHasFailed, WritesSome}
use Rattle.warnc_cli.specs.RunSteps.{IsRunBetween}
use Rattle.warnc_cli.specs.Status.{status_of_check_fault}
use Rattle.warnc_cli.specs.Tasks.{IsNotCleanFor, IsUnchecked}
use Rattle.warnc_cli.specs.declared.command.Task.TheVariants as task

some_octets : (rows : List ℕ) → 0 < length (header_row ++ rows)
some_octets rows = omega arith

-- the table of a clean book has the names of its columns
pub some_names : (what : Extent) (left old new : Option (List ℕ)) → WritesOutput (IsCleanFor what) left old new
    → WritesSome old new
some_names what left old new written =
    let clean = written.of_some.2 in (
      written.of_some.1,
      subst (λ (octets : List ℕ). 0 < length octets) (sym clean.0.written) (some_octets _),
      written.of_some.3,
    )

-- a fault of `check` with status 1 says that the input isn't clean
pub refused_check : (what : Extent) (left old new : Option (List ℕ)) (why : CheckFault)
    → IsCheckFault what left old new why
    → status_of_check_fault why ≡ 1
    → IfSome left (IsNotCleanFor what)
refused_check what None old new why told is = tt
refused_check what (Some input) old new (fault.Faults count) told is =
    inr (count, told.of_input.0, told.of_input.1)
refused_check what (Some input) old new (fault.NoGroup groups) told is = inl (inr (groups, told))
refused_check what (Some input) old new fault.TooLong told is = inl (inl told)
refused_check what (Some input) old new fault.ReadFailed told is = absurd (omega (arith, is))
refused_check what (Some input) old new fault.Refused told is = absurd (omega (arith, is))
refused_check what (Some input) old new fault.WriteFailed told is = absurd (omega (arith, is))

-- what is too long, or lacks a group, isn't checked
too_long : (what : Extent) (left : Option (List ℕ)) → IfSome left (λ input. most_octets (bounds_of what) < length input)
    → IfSome left (IsUnchecked what)
too_long what None long = tt
too_long what (Some input) long = inl long

no_group : (what : Extent) (groups : ℕ) (left : Option (List ℕ)) → IfSome left (LacksGroup what groups)
    → IfSome left (IsUnchecked what)
no_group what groups None lacks = tt
no_group what groups (Some input) lacks = inr (groups, lacks)

-- with status 1 the faults were written, or nothing was of what isn't checked
pub unseen_or_written : (what : Extent) (Kept : Type 0) (left old new : Option (List ℕ)) (why : CheckFault)
    → IsCheckFault what left old new why
    → ((HasWritten why → ⊥) → Kept)
    → status_of_check_fault why ≡ 1
    → (IfSome left (IsUnchecked what) × Kept)
    ⊎ ((count : ℕ) × WritesOutput (HasFaultsBy (bounds_of what) count) left old new)
unseen_or_written what Kept left old new (fault.Faults count) told kept is = inr (count, told)
unseen_or_written what Kept left old new (fault.NoGroup groups) told kept is =
    inl (no_group what groups left told, kept (λ w. w))
unseen_or_written what Kept left old new fault.TooLong told kept is = inl (too_long what left told, kept (λ w. w))
unseen_or_written what Kept left old new fault.ReadFailed told kept is = absurd (omega (arith, is))
unseen_or_written what Kept left old new fault.Refused told kept is = absurd (omega (arith, is))
unseen_or_written what Kept left old new fault.WriteFailed told kept is = absurd (omega (arith, is))

-- with status 4 nothing was
pub kept_without_memory : (Kept : Type 0) (why : CheckFault) → ((HasWritten why → ⊥) → Kept)
    → status_of_check_fault why ≡ 4
    → Kept
kept_without_memory Kept (fault.Faults count) kept is = absurd (omega (arith, is))
kept_without_memory Kept (fault.NoGroup groups) kept is = absurd (omega (arith, is))
kept_without_memory Kept fault.TooLong kept is = absurd (omega (arith, is))
kept_without_memory Kept fault.ReadFailed kept is = absurd (omega (arith, is))
kept_without_memory Kept fault.Refused kept is = kept (λ w. w)
kept_without_memory Kept fault.WriteFailed kept is = absurd (omega (arith, is))

-- what the engine says of the ends with a fault
pub record AreCheckEnds {R W : Type 0} (why : CheckFault) (last : Source R) (old new : Sink W) : Type 0 where
  pub read_failed : IsErrOf {T = Unit {0}} (Err why) fault.ReadFailed ↔ IsTrue (source_failed last)
  pub write_failed : IsErrOf {T = Unit {0}} (Err why) fault.WriteFailed → sink_failed new ≡ true
  pub told : HasTold why → sink_failed new ≡ false
  pub untouched : (HasWritten why → ⊥) → new ≡ old

-- the status that a result's fault has
abbrev status_in : Result (Unit {0}) CheckFault → ℕ
status_in (Ok done) = 0
status_in (Err why) = status_of_check_fault why

-- a fault of another status than 3 leaves the source sound
source_sound : {R W : Type 0} (why : CheckFault) (last : Source R) (old new : Sink W) → AreCheckEnds why last old new
    → status_of_check_fault why ≢ 3
    → source_failed last ≡ true
    → ⊥
source_sound why last old new ends other failed = other (ap status_in (ends.read_failed.1 failed))

-- nothing was written
quiet : {R W : Type 0} (what : Extent) (why : CheckFault) (held : W → Option (List ℕ)) (last : Source R)
    (old new : Sink W)
    → AreCheckEnds why last old new
    → (status_of_check_fault why ≡ 1) ⊎ (status_of_check_fault why ≡ 4)
    → (HasWritten why → ⊥)
    → IsRunBetween (task.Check what) (status_of_check_fault why) held last old new
quiet {W = W} what why held last old new ends one_or_four unwritten =
    let same : new ≡ old = ends.untouched unwritten in
    record {
      statuses = bound one_or_four;
      understood = two one_or_four;
      nothing_written = λ _. subst (λ (s : Sink W). Keeps (held (writer_of old)) (held (writer_of s))) (sym same)
          (Keeps-refl _);
      untouched = λ _. same;
      device = λ is. absurd (three one_or_four is);
      failed = λ sink failed. absurd (neither same sink failed);
    }
  where
    bound : (status_of_check_fault why ≡ 1) ⊎ (status_of_check_fault why ≡ 4) → status_of_check_fault why ≤ 4
    bound (inl is) = omega (arith, is)
    bound (inr is) = omega (arith, is)

    two : (status_of_check_fault why ≡ 1) ⊎ (status_of_check_fault why ≡ 4) → status_of_check_fault why ≢ 2
    two (inl is) so = omega (arith, is, so)
    two (inr is) so = omega (arith, is, so)

    three : (status_of_check_fault why ≡ 1) ⊎ (status_of_check_fault why ≡ 4) → status_of_check_fault why ≢ 3
    three (inl is) so = omega (arith, is, so)
    three (inr is) so = omega (arith, is, so)

    neither : new ≡ old → sink_failed old ≡ false → OneHasFailed last new → ⊥
    neither same sink (inl failed) = source_sound why last old new ends (three one_or_four) failed
    neither same sink (inr failed) =
        let now : sink_failed old ≡ true = subst (λ (s : Sink W). sink_failed s ≡ true) same failed in
        search (rules, now, sink)

-- an end failed
failing : {R W : Type 0} (what : Extent) (held : W → Option (List ℕ)) (last : Source R) (old new : Sink W)
    → OneHasFailed last new
    → IsRunBetween (task.Check what) 3 held last old new
failing what held last old new failed = record {
  statuses = omega arith;
  understood = λ two. omega (arith, two);
  nothing_written = λ no. absurd (no (inr (inl refl)));
  untouched = λ no. absurd (no (inr (inl refl)));
  device = λ _. failed;
  failed = λ _ _. refl;
}

-- the faults were written
written : {R W : Type 0} (what : Extent) (count : ℕ) (held : W → Option (List ℕ)) (last : Source R) (old new : Sink W)
    → AreCheckEnds (fault.Faults count) last old new
    → IsRunBetween (task.Check what) 1 held last old new
written what count held last old new ends = record {
  statuses = omega arith;
  understood = λ two. omega (arith, two);
  nothing_written = λ no. absurd (no (inr (inr refl)));
  untouched = λ no. absurd (no (inr (inr refl)));
  device = λ three. absurd (omega (arith, three));
  failed = λ _ failed. absurd (neither failed);
}
  where
    neither : OneHasFailed last new → ⊥
    neither (inl failed) =
        source_sound (fault.Faults count) last old new ends (λ three. omega (arith, three)) failed
    neither (inr failed) =
        let sound = ends.told tt in
        search (rules, failed, sound)

-- what the engine says of the ends with a fault is what the fault's status says of them
told : {R W : Type 0} (what : Extent) (why : CheckFault) (held : W → Option (List ℕ)) (last : Source R)
    (old new : Sink W)
    → AreCheckEnds why last old new
    → IsRunBetween (task.Check what) (status_of_check_fault why) held last old new
told what (fault.Faults count) held last old new ends = written what count held last old new ends
told what (fault.NoGroup groups) held last old new ends =
    quiet what (fault.NoGroup groups) held last old new ends (inl refl) (λ w. w)
told what fault.TooLong held last old new ends = quiet what fault.TooLong held last old new ends (inl refl) (λ w. w)
told what fault.ReadFailed held last old new ends = failing what held last old new (inl (ends.read_failed.0 refl))
told what fault.Refused held last old new ends = quiet what fault.Refused held last old new ends (inr refl) (λ w. w)
told what fault.WriteFailed held last old new ends = failing what held last old new (inr (ends.write_failed refl))

-- the same of a status that is the fault's
pub check_between : {R W : Type 0} (what : Extent) (why : CheckFault) (status : ℕ) (held : W → Option (List ℕ))
    (last : Source R)
    (old new : Sink W)
    → status ≡ status_of_check_fault why
    → AreCheckEnds why last old new
    → IsRunBetween (task.Check what) status held last old new
check_between what why status held last old new same ends =
    subst (λ (s : ℕ). IsRunBetween (task.Check what) s held last old new) (sym same)
    (told what why held last old new ends)
