-- What is said of a task of one input, which writes no table with status 1, is so of any task, whatever book there is
-- beside it.
use Rattle.std.proofs.Common.{◌≡◌, ◌⊎◌, ℕ, List, Option, IfSome, None, false, inl, inr, refl, rules}
use Rattle.std.specs.Io.KnownBytes.{Keeps}
use Rattle.device_ends.specs.Moves.{WritesOutput}
use Rattle.device_ends.specs.Sink.{sink_failed, writer_of}
use Rattle.device_ends.specs.Source.{reader_of, source_failed}
use Rattle.device_ends.specs.declared.reading.Source.{Source}
use Rattle.device_ends.specs.declared.writing.Sink.{Sink}
use Rattle.warnc_cli.specs.Run.{AnyHasFailed}
use Rattle.warnc_cli.specs.RunSteps.{HasRun, IsDoneBy, IsRefusedBy, IsRunBetween, IsSilent, WroteFaultsBy}
use Rattle.warnc_cli.specs.RunSteps.{WroteFrontBy, WroteSomeBy}
use Rattle.warnc_cli.specs.Tasks.{KeepsUnseen, Means, Refuses, RefusesOne, WritesAll, WritesDifferences}
use Rattle.warnc_cli.specs.Tasks.{WritesFirstGroups}
use Rattle.alert_book.specs.declared.judging.bounds.Extent.{Extent}
use Rattle.warnc_cli.specs.declared.command.Task.{Task}
use Rattle.warnc_cli.specs.declared.command.Task.TheVariants as task

-- what it writes
writes : (t : Task) (book input old new : Option (List ℕ)) → IsSilent t → WritesOutput (Means t) input old new
    → WritesAll t book input old new
writes (task.Verify from slots pages layout file workers) book input old new one wrote = absurd one
writes (task.VerifyOrders cell terms file) book input old new one wrote = absurd one
writes (task.Tapes wanted file) book input old new one wrote = absurd one
writes (task.Page language id serial form) book input old new one wrote = wrote
writes (task.Read wanted) book input old new one wrote = wrote
writes (task.ReadSlots wanted) book input old new one wrote = wrote
writes task.Whole book input old new one wrote = wrote
writes task.Plan book input old new one wrote = wrote
writes (task.Pcap settings) book input old new one wrote = wrote
writes task.Cells book input old new one wrote = wrote
writes (task.Tape wanted) book input old new one wrote = wrote
writes (task.Orders wanted packets) book input old new one wrote = wrote
writes task.Groups book input old new one wrote = wrote
writes (task.Check what) book input old new one wrote = absurd one
writes (task.Remark what slots start strict) book input old new one wrote = absurd one
writes (task.Texts what pages) book input old new one wrote = wrote
writes (task.Make run made) book input old new one wrote = wrote
writes (task.Strict run made) book input old new one wrote = wrote

-- what it refuses
refuses : (t : Task) (book input : Option (List ℕ)) → IsSilent t → IfSome input (RefusesOne t)
    → Refuses t book input
refuses (task.Verify from slots pages layout file workers) book input one refused = absurd one
refuses (task.VerifyOrders cell terms file) book input one refused = absurd one
refuses (task.Tapes wanted file) book input one refused = absurd one
refuses (task.Page language id serial form) book input one refused = refused
refuses (task.Read wanted) book input one refused = refused
refuses (task.ReadSlots wanted) book input one refused = refused
refuses task.Whole book input one refused = refused
refuses task.Plan book input one refused = refused
refuses (task.Pcap settings) book input one refused = refused
refuses task.Cells book input one refused = refused
refuses (task.Tape wanted) book input one refused = refused
refuses (task.Orders wanted packets) book input one refused = refused
refuses task.Groups book input one refused = refused
refuses (task.Check what) book input one refused = absurd one
refuses (task.Remark what slots start strict) book input one refused = absurd one
refuses (task.Texts what pages) book input one refused = refused
refuses (task.Make run made) book input one refused = refused
refuses (task.Strict run made) book input one refused = refused

-- the first groups that it wrote
groups : (t : Task) (book input old new : Option (List ℕ)) → WritesFirstGroups t None input old new
    → WritesFirstGroups t book input old new
groups (task.Verify from slots pages layout file workers) book input old new wrote = wrote
groups (task.VerifyOrders cell terms file) book input old new wrote = wrote
groups (task.Tapes wanted file) book input old new wrote = wrote
groups (task.Page language id serial form) book input old new wrote = wrote
groups (task.Read wanted) book input old new wrote = wrote
groups (task.ReadSlots wanted) book input old new wrote = wrote
groups task.Whole book input old new wrote = wrote
groups task.Plan book input old new wrote = wrote
groups (task.Pcap settings) book input old new wrote = wrote
groups task.Cells book input old new wrote = wrote
groups (task.Tape wanted) book input old new wrote = wrote
groups (task.Orders wanted packets) book input old new wrote = wrote
groups task.Groups book input old new wrote = wrote
groups (task.Check what) book input old new wrote = wrote
groups (task.Remark what slots start strict) book input old new wrote = wrote
groups (task.Texts what pages) book input old new wrote = wrote
groups (task.Make run made) book input old new wrote = wrote
groups (task.Strict run made) book input old new wrote = wrote

-- nothing, or the first groups
front : (t : Task) (book input old new : Option (List ℕ))
    → Keeps old new ⊎ WritesFirstGroups t None input old new
    → Keeps old new ⊎ WritesFirstGroups t book input old new
front t book input old new (inl kept) = inl kept
front t book input old new (inr wrote) = inr (groups t book input old new wrote)

-- nothing, since it has no table
unseen : (t : Task) (book input old new : Option (List ℕ)) → IsSilent t → Keeps old new
    → KeepsUnseen t book input old new
unseen (task.Verify from slots pages layout file workers) book input old new one kept = absurd one
unseen (task.VerifyOrders cell terms file) book input old new one kept = absurd one
unseen (task.Tapes wanted file) book input old new one kept = absurd one
unseen (task.Page language id serial form) book input old new one kept = (tt, kept)
unseen (task.Read wanted) book input old new one kept = (tt, kept)
unseen (task.ReadSlots wanted) book input old new one kept = (tt, kept)
unseen task.Whole book input old new one kept = (tt, kept)
unseen task.Plan book input old new one kept = (tt, kept)
unseen (task.Pcap settings) book input old new one kept = (tt, kept)
unseen task.Cells book input old new one kept = (tt, kept)
unseen (task.Tape wanted) book input old new one kept = (tt, kept)
unseen (task.Orders wanted packets) book input old new one kept = (tt, kept)
unseen task.Groups book input old new one kept = (tt, kept)
unseen (task.Check what) book input old new one kept = absurd one
unseen (task.Remark what slots start strict) book input old new one kept = absurd one
unseen (task.Texts what pages) book input old new one kept = (tt, kept)
unseen (task.Make run made) book input old new one kept = (tt, kept)
unseen (task.Strict run made) book input old new one kept = (tt, kept)

-- or the first groups
any_front : (t : Task) (book input old new : Option (List ℕ)) → IsSilent t
    → Keeps old new ⊎ WritesFirstGroups t None input old new
    → KeepsUnseen t book input old new
    ⊎ (WritesDifferences t book input old new ⊎ WritesFirstGroups t book input old new)
any_front t book input old new one (inl kept) = inl (unseen t book input old new one kept)
any_front t book input old new one (inr wrote) = inr (inr (groups t book input old new wrote))

-- all of it
pub of_one : {B R W : Type 0} (t : Task) (status : ℕ) (book_left : B → Option (List ℕ))
    (left : R → Option (List ℕ)) (held : W → Option (List ℕ)) (book : Source B) (first last : Source R)
    (old new : Sink W)
    → IsSilent t
    → IsDoneBy t status left held first old new
    → WroteSomeBy t status held old new
    → IsRefusedBy t status left first
    → WroteFrontBy t status left held first old new
    → IsRunBetween t status held last old new
    → HasRun t status book_left left held book book first last old new
of_one t status book_left left held book first last old new one done wrote refused early ends = record {
  statuses = ends.statuses;
  understood = ends.understood;
  done = λ is. writes t _ _ _ _ one (done is);
  wrote = wrote;
  refused = λ is. refuses t _ _ one (refused is);
  nothing_written = ends.nothing_written;
  untouched = ends.untouched;
  of_refused = λ is. any_front t _ _ _ _ one (early (inl is));
  of_memory = λ is. front t _ _ _ _ (early (inr is));
  device = λ is. inr (ends.device is);
  failed = λ sound input sink failed. by_end sound sink failed;
  no_book = λ none. refl;
}
  where
    by_end : source_failed book ≡ false → sink_failed old ≡ false → AnyHasFailed book last new → status ≡ 3
    by_end sound sink (inl failed) = absurd (search (rules, sound, failed))
    by_end sound sink (inr failed) = ends.failed sink failed

-- and all of `check`, which writes with status 1
pub of_check : {B R W : Type 0} (what : Extent) (status : ℕ) (book_left : B → Option (List ℕ))
    (left : R → Option (List ℕ))
    (held : W → Option (List ℕ)) (book : Source B) (first last : Source R) (old new : Sink W)
    → IsDoneBy (task.Check what) status left held first old new
    → WroteSomeBy (task.Check what) status held old new
    → IsRefusedBy (task.Check what) status left first
    → WroteFaultsBy what status left held first old new
    → IsRunBetween (task.Check what) status held last old new
    → HasRun (task.Check what) status book_left left held book book first last old new
of_check what status book_left left held book first last old new done wrote refused told ends = record {
  statuses = ends.statuses;
  understood = ends.understood;
  done = done;
  wrote = wrote;
  refused = refused;
  nothing_written = ends.nothing_written;
  untouched = ends.untouched;
  of_refused = λ is. faults (told.0 is);
  of_memory = λ is. inl (told.1 is);
  device = λ is. inr (ends.device is);
  failed = λ sound input sink failed. by_end sound sink failed;
  no_book = λ none. refl;
}
  where
    faults : KeepsUnseen (task.Check what) None (left (reader_of first)) (held (writer_of old)) (held (writer_of new))
        ⊎ WritesDifferences (task.Check what) None (left (reader_of first)) (held (writer_of old))
        (held (writer_of new))
        → KeepsUnseen (task.Check what) (book_left (reader_of book)) (left (reader_of first)) (held (writer_of old))
        (held (writer_of new))
        ⊎ (WritesDifferences (task.Check what) (book_left (reader_of book)) (left (reader_of first))
        (held (writer_of old))
        (held (writer_of new))
        ⊎ WritesFirstGroups (task.Check what) (book_left (reader_of book)) (left (reader_of first))
        (held (writer_of old))
        (held (writer_of new)))
    faults (inl kept) = inl kept
    faults (inr written) = inr (inl written)

    by_end : source_failed book ≡ false → sink_failed old ≡ false → AnyHasFailed book last new → status ≡ 3
    by_end sound sink (inl failed) = absurd (search (rules, sound, failed))
    by_end sound sink (inr failed) = ends.failed sink failed
