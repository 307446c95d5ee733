-- What a run writes whose orders are all to be done, and what its statuses say of the ends.
use Rattle.std.proofs.Common.{◌≡◌, ◌≢◌, ◌⊎◌, ◌∙◌, ◌≤◌, ℕ, List, Err, IfSome, None, Ok, Option, Result}
use Rattle.std.proofs.Common.{Some, ap, arith, false, inl, inr, refl, rules, subst, sym}
use Rattle.std.specs.Io.KnownBytes.{Keeps}
use Rattle.alert_book.specs.declared.network.Origin.{Origin}
use Rattle.alert_book.specs.Book.{unread}
use Rattle.device_ends.specs.Sink.{sink_failed}
use Rattle.device_ends.specs.Stream.{IsStreamBetween, Writes}
use Rattle.device_ends.specs.declared.reading.Source.{Source}
use Rattle.device_ends.specs.declared.writing.Sink.{Sink}
use Rattle.warnc_run.specs.Faults.{IsWriteFault}
use Rattle.warnc_run.specs.Made.{Makes}
use Rattle.warnc_run.specs.Strict.{strictly_unread, IsStrictFault, IsStrictlyMadeBy, IsStrictlyOfWriter, IsStrictOutput}
use Rattle.warnc_run.specs.declared.fault.RunFault.{RunFault}
use Rattle.warnc_run.specs.declared.fault.RunFault.TheVariants as run
use Rattle.warnc_run.specs.declared.product.Product.{Product}
use Rattle.warnc_run.specs.declared.product.Product.TheVariants as product
use Rattle.warnc_run.specs.declared.product.ProductFault.TheVariants as fault
use Rattle.warnc_run.specs.declared.run.BookRun.{BookRun}
use Rattle.warnc_run.specs.declared.run.Books.TheVariants as books
use Rattle.warnc_run.specs.declared.run.Run.{Run}
use Rattle.warnc_run.specs.declared.strict.StrictFault.{StrictFault}
use Rattle.warnc_run.specs.declared.strict.StrictFault.TheVariants as strict
use Rattle.warnc_verify.proofs.Inputs.{whole}
use Rattle.warnc_cli.specs.Run.{OneHasFailed, WritesSome}
use Rattle.warnc_cli.specs.RunSteps.{IsRunBetween}
use Rattle.warnc_cli.specs.Status.{status_of_run_fault, status_of_strict_fault}
use Rattle.warnc_cli.specs.Tasks.{AlwaysWrites, HasUndoneOrders, IsNotAllDone}
use Rattle.warnc_cli.specs.declared.command.Task.TheVariants as task
use Rattle.warnc_cli.proofs.NoRun.{no_run_here}
use Rattle.warnc_cli.proofs.Products.{of_writer, some_of_book}
use Rattle.warnc_cli.proofs.Statuses.{run_kind, OneOrFour}

-- the same run, without the wish
abbrev plain : BookRun → Run
plain r = record {
  books = books.One r.origin;
  slots = r.slots;
  sessions = r.sessions;
  workers = r.workers;
  few_slots = r.few_slots;
}

always_plain : (r : BookRun) (made : Product) → AlwaysWrites (task.Strict r made)
    → AlwaysWrites (task.Make (plain r) made)
always_plain r product.Tapes always = always
always_plain r (product.Report layout) always = always
always_plain r (product.Chart view) always = tt
always_plain r (product.Orders cell) always = always
always_plain r (product.Link start) always = tt
always_plain r (product.Loads start) always = always
always_plain r (product.Tables view) always = tt

-- what was written is something
pub some_strict : (r : BookRun) (made : Product) (first last old new : Option (List ℕ))
    → Makes (IsStrictlyMadeBy r made) first last old new
    → AlwaysWrites (task.Strict r made)
    → WritesSome old new
some_strict r made first last old new makes always = (
  makes.output,
  some_of_book (books.One r.origin) made r.slots r.sessions.number makes.input makes.output makes.meant.is_output
      (plain r) refl (always_plain r made always),
  makes.appended,
)

-- a fault with status 1 says that the input has no run, or that not all of its orders were done
not_done : (from : Origin) (slots parts : ℕ) (made : Product) (book : List ℕ) (last old new : Option (List ℕ))
    (f : StrictFault)
    → IsStrictFault made from slots parts (Some book) last old new f
    → status_of_strict_fault f ≡ 1
    → IsNotAllDone from slots parts book
not_done from slots parts made book last old new (strict.Product (fault.Run f)) why is =
    inl (no_run_here from slots parts (IsStrictOutput made from slots parts) book last old new made f why.0 why.1 is)
not_done from slots parts made book last old new (strict.Product (fault.Group group f)) why is = absurd why
not_done from slots parts made book last old new (strict.Product fault.WriteFailed) why is = absurd (omega (arith, is))
not_done from slots parts made book last old new (strict.Undone refused idle) why is =
    let lacks = why.0 in
    inr (subst (HasUndoneOrders from slots parts) (whole book lacks.input last lacks.read lacks.ended)
    (lacks.records, lacks.run, λ none. lacks.some (sym lacks.counted ∙ none)))

-- and says so of the octets that the reader had left, if they are known
pub refused_strict : (from : Origin) (slots parts : ℕ) (made : Product) (first last old new : Option (List ℕ))
    (f : StrictFault)
    → IsStrictFault made from slots parts first last old new f
    → status_of_strict_fault f ≡ 1
    → IfSome first (IsNotAllDone from slots parts)
refused_strict from slots parts made None last old new f why is = tt
refused_strict from slots parts made (Some book) last old new f why is =
    not_done from slots parts made book last old new f why is

-- the status that a result's fault has
abbrev status_in : Result (Unit {0}) StrictFault → ℕ
status_in (Ok done) = 0
status_in (Err f) = status_of_strict_fault f

-- a fault is that of a book that wasn't read, or the writer's, or has a status of 1 or 4
abbrev Kind : StrictFault → Type 0
Kind f = (f ≡ strictly_unread) ⊎ (IsStrictlyOfWriter f ⊎ OneOrFour (status_of_strict_fault f))

strict_kind : (made : Product) (from : Origin) (slots parts : ℕ) (first last old new : Option (List ℕ))
    (f : StrictFault)
    → IsStrictFault made from slots parts first last old new f
    → Kind f
strict_kind made from slots parts first last old new (strict.Product (fault.Run f)) why = by_kind (run_kind f)
  where
    by_kind : (f ≡ run.Book unread) ⊎ (IsWriteFault f ⊎ OneOrFour (status_of_run_fault f))
        → Kind (strict.Product (fault.Run f))
    by_kind (inl same) = inl (ap (λ (g : RunFault). strict.Product (fault.Run g)) same)
    by_kind (inr other) = inr other
strict_kind made from slots parts first last old new (strict.Product (fault.Group group f)) why = absurd why
strict_kind made from slots parts first last old new (strict.Product fault.WriteFailed) why = inr (inl tt)
strict_kind made from slots parts first last old new (strict.Undone refused idle) why = inr (inr (inl refl))

-- a fault of the writer has status 3
writer_status : (f : StrictFault) → IsStrictlyOfWriter f → status_of_strict_fault f ≡ 3
writer_status (strict.Product f) writer = of_writer f writer
writer_status (strict.Undone refused idle) writer = absurd writer

not_writer : (f : StrictFault) → OneOrFour (status_of_strict_fault f) → IsStrictlyOfWriter f → ⊥
not_writer f (inl one) writer = omega (arith, one, writer_status f writer)
not_writer f (inr four) writer = omega (arith, four, writer_status f writer)

-- what the engine says of the ends with a fault is what the fault's status says of them
pub strict_between : {R W : Type 0} (r : BookRun) (made : Product)
    (first_left last_left old_held new_held : Option (List ℕ)) (f : StrictFault) (status : ℕ)
    (held : W → Option (List ℕ)) (first last : Source R) (old new : Sink W)
    → status ≡ status_of_strict_fault f
    → IsStrictFault made r.origin r.slots r.sessions.number first_left last_left old_held new_held f
    → IsStreamBetween strictly_unread IsStrictlyOfWriter (Err f) held first last old new
    → IsRunBetween (task.Strict r made) status held last old new
strict_between r made first_left last_left old_held new_held f status held first last old new is why ends =
    by_kind (strict_kind made r.origin r.slots r.sessions.number first_left last_left old_held new_held f why)
  where
    failing : status ≡ 3 → OneHasFailed last new → IsRunBetween (task.Strict r made) status held last old new
    failing three failed = record {
      statuses = omega (arith, three);
      understood = λ two. omega (arith, three, two);
      nothing_written = λ no. absurd (no (inr three));
      untouched = λ no. absurd (no (inr three));
      device = λ _. failed;
      failed = λ _ _. three;
    }

    quiet : OneOrFour (status_of_strict_fault f) → IsRunBetween (task.Strict r made) status held last old new
    quiet other = record {
      statuses = bound other;
      understood = two other;
      nothing_written = λ no. ends.nothing_written (not_writer f other);
      untouched = λ no. ends.untouched (not_writer f other);
      device = λ three. absurd (apart other (sym is ∙ three));
      failed = λ sink failed. absurd (none sink failed);
    }
      where
        bound : OneOrFour (status_of_strict_fault f) → status ≤ 4
        bound (inl one) = omega (arith, one, is)
        bound (inr four) = omega (arith, four, is)

        two : OneOrFour (status_of_strict_fault f) → status ≢ 2
        two (inl one) so = omega (arith, one, is, so)
        two (inr four) so = omega (arith, four, is, so)

        apart : OneOrFour (status_of_strict_fault f) → status_of_strict_fault f ≡ 3 → ⊥
        apart (inl one) three = omega (arith, one, three)
        apart (inr four) three = omega (arith, four, three)

        none : sink_failed old ≡ false → OneHasFailed last new → ⊥
        none sink (inl failed) = apart other (ap status_in (ends.read.1 failed))
        none sink (inr failed) =
            let same = ends.untouched (not_writer f other) in
            let sound : sink_failed new ≡ false = ap sink_failed same ∙ sink in
            search (rules, sound, failed)

    by_kind : Kind f → IsRunBetween (task.Strict r made) status held last old new
    by_kind (inl same) = failing (is ∙ ap status_of_strict_fault same)
        (inl (ends.read.0 (ap (λ (g : StrictFault). Err g) same)))
    by_kind (inr (inl writer)) = failing (is ∙ writer_status f writer) (inr (ends.write writer))
    by_kind (inr (inr other)) = quiet other

-- with 1 and 4 nothing was written
pub strict_keeps : {R W : Type 0} (f : StrictFault) (status : ℕ) (held : W → Option (List ℕ))
    (first last : Source R) (old new : Sink W)
    → status ≡ status_of_strict_fault f
    → IsStreamBetween strictly_unread IsStrictlyOfWriter (Err f) held first last old new
    → (status ≡ 1) ⊎ (status ≡ 4)
    → Writes held Keeps old new
strict_keeps f status held first last old new is ends other =
    ends.nothing_written (not_writer f (moved other))
  where
    moved : (status ≡ 1) ⊎ (status ≡ 4) → OneOrFour (status_of_strict_fault f)
    moved (inl one) = inl (sym is ∙ one)
    moved (inr four) = inr (sym is ∙ four)
