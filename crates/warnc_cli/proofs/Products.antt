-- What the engine of all commands over a book writes, and what its statuses say of the ends.
use Rattle.std.proofs.Common.{◌≡◌, ◌≢◌, ◌⊎◌, ◌∙◌, ℕ, ◌+◌, ◌/◌, ◌<◌, ◌≤◌, Bool, List, [], ◌∷◌, length}
use Rattle.std.proofs.Common.{Err, Ok, Result, ap, arith, false, inl, inr, refl, rules, subst, sym, true}
use Rattle.std.proofs.Common.{None, Option, Some}
use Rattle.std.proofs.Math.Nat.{le-max_left}
use Rattle.std.proofs.lemmas.List.{length-append}
use Rattle.std.specs.Prelude.{◌==◌}
use Rattle.std.specs.Io.KnownBytes.{Keeps}
use Rattle.alert_book.specs.declared.network.Origin.{Origin}
use Rattle.alert_book.specs.declared.network.Origin.TheVariants as origin
use Rattle.alert_book.specs.Network.{groups_of}
use Rattle.alert_book.specs.Book.{unread}
use Rattle.bsc_table.specs.Record.{Record}
use Rattle.cell_loads.specs.LoadsText.{loads_text}
use Rattle.chart.proofs.SomeChart.{some_chart, some_part}
use Rattle.chart.specs.declared.view.View.{View}
use Rattle.device_ends.specs.Moves.{WritesOutput}
use Rattle.device_ends.specs.Sink.{sink_failed, writer_of}
use Rattle.device_ends.specs.Stream.{Writes}
use Rattle.device_ends.specs.declared.reading.Source.{Source}
use Rattle.device_ends.specs.declared.writing.Sink.{Sink}
use Rattle.parallel_compile.specs.declared.fault.CompileFault.TheVariants as compile
use Rattle.record_link.proofs.SomeLink.{some_link}
use Rattle.report.specs.ReportText.{text_by, text_with}
use Rattle.report.specs.declared.row.Columns.{Columns}
use Rattle.report.specs.declared.row.Columns.TheVariants as columns
use Rattle.report.specs.declared.row.Layout.{Layout}
use Rattle.report.specs.declared.row.Row.{Row}
use Rattle.slot_times.specs.declared.start.Start.{Start}
use Rattle.warnc_run.specs.Engine.{IsEngineAtEnds, IsMadeBy, IsOfWriter, IsOutputFault, IsProductOf}
use Rattle.warnc_run.specs.Engine.{MayBeWritten}
use Rattle.warnc_run.specs.Faults.{IsWriteFault}
use Rattle.warnc_run.specs.Made.{Makes}
use Rattle.warnc_run.specs.Network.{joined_parts, octets_of_group, AreFirstParts, ArePartsFrom, HasNoPart}
use Rattle.alert_book.specs.declared.book.order.Order.{Order}
use Rattle.asked_orders.specs.Asked.{orders_of_run}
use Rattle.report.specs.Sources.{Orders}
use Rattle.warnc_run.specs.Products.{own_rows, tables_text}
use Rattle.warnc_run.specs.declared.fault.RunFault.{RunFault}
use Rattle.warnc_run.specs.declared.fault.RunFault.TheVariants as run
use Rattle.warnc_run.specs.declared.run.Books.{Books}
use Rattle.warnc_run.specs.declared.run.Books.TheVariants as books
use Rattle.warnc_run.specs.declared.product.Product.{Product}
use Rattle.warnc_run.specs.declared.product.Product.TheVariants as product
use Rattle.warnc_run.specs.declared.product.ProductFault.{ProductFault}
use Rattle.warnc_run.specs.declared.product.ProductFault.TheVariants as fault
use Rattle.warnc_run.specs.declared.run.Run.{Run}
use Rattle.warnc_verify.proofs.Inputs.{whole}
use Rattle.warnc_cli.specs.Run.{OneHasFailed, WritesSome}
use Rattle.warnc_cli.specs.RunSteps.{IsRunBetween, MayHaveWritten}
use Rattle.warnc_cli.specs.Status.{status_of_product_fault, status_of_run_fault}
use Rattle.warnc_cli.specs.Tasks.{AlwaysWrites, IsHeaded, WritesFirstGroups}
use Rattle.warnc_cli.specs.declared.command.Task.TheVariants as task
use Rattle.warnc_cli.proofs.Statuses.{desk_status, run_kind, settle_status, OneOrFour}

-- a network has a group
some_groups : (cells : ℕ) → 0 < groups_of cells
some_groups cells = le-max_left 1 ((cells + 63) / 64)

-- what a reader had left was read whole, and what it means was written
pub written_of : (Means : (input output : List ℕ) → Type 0) (first last old new : Option (List ℕ))
    → Makes Means first last old new
    → WritesOutput Means first old new
written_of Means None last old new makes =
    record { of_input = tt; of_some = (makes.input, makes.output, makes.meant, makes.appended) }
written_of Means (Some book) last old new makes = record {
  of_input = (
    makes.output,
    subst (λ (octets : List ℕ). Means octets makes.output) (whole book makes.input last makes.read makes.ended)
        makes.meant,
    makes.appended,
  );
  of_some = (makes.input, makes.output, makes.meant, makes.appended);
}

-- the line of names over a report
some_text : (c : Columns) (start : Option Start) (orders : Orders) (rows : List Row)
    → 0 < length (text_by c start true orders rows)
some_text columns.Plain None orders rows = omega arith
some_text columns.Full None orders rows = omega arith
some_text columns.Plain (Some start) orders rows = omega arith
some_text columns.Full (Some start) orders rows = omega arith

some_report : (layout : Layout) (orders : Orders) (rows : List Row) → 0 < length (text_with layout true orders rows)
some_report layout orders rows = some_text layout.columns layout.start orders rows

-- the line of names over loads
some_loads : (start : Option Start) (records : List Record) → 0 < length (loads_text start true records)
some_loads None records = omega arith
some_loads (Some start) records = omega arith

-- the name in front of a report
some_tables : (slots : ℕ) (view : View) (headed : Bool) (orders : Orders) (records : List Record)
    → 0 < length (tables_text slots view headed orders records)
some_tables slots view headed orders records = omega arith

-- what is made of a book, or the part of a first group, has octets, but tapes and an orders file
some_of_group : (r : Run) (made : Product) (slots groups : ℕ) (orders : List Order) (records : List Record)
    → AlwaysWrites (task.Make r made)
    → 0 < length (octets_of_group made slots groups 0 orders records)
some_of_group r product.Tapes slots groups orders records always = absurd always
some_of_group r (product.Report layout) slots groups orders records always =
    some_report layout (orders_of_run orders records) (own_rows records)
some_of_group r (product.Chart wanted) slots groups orders records always =
    some_part slots _ wanted (orders_of_run orders records) records _
some_of_group r (product.Orders cell) slots groups orders records always = absurd always
some_of_group r (product.Link start) slots groups orders records always = some_link start records
some_of_group r (product.Loads start) slots groups orders records always = some_loads start records
some_of_group r (product.Tables view) slots groups orders records always =
    some_tables slots view true (orders_of_run orders records) records

-- and so has what is made of any books
pub some_of_book : (b : Books) (made : Product) (slots parts : ℕ) (input output : List ℕ)
    → IsProductOf made b slots parts input output
    → (r : Run) → r.books ≡ b
    → AlwaysWrites (task.Make r made)
    → 0 < length output
some_of_book (books.One origin.Book) product.Tapes slots parts input output is r same always = absurd always
some_of_book (books.One origin.Book) (product.Report layout) slots parts input output is r same always =
    subst (λ (octets : List ℕ). 0 < length octets) (sym is.written)
    (some_report layout (orders_of_run is.run.book.orders is.records) (own_rows is.records))
some_of_book (books.One origin.Book) (product.Chart wanted) slots parts input output is r same always =
    subst (λ (octets : List ℕ). 0 < length octets) (sym is.written)
    (some_chart slots wanted (orders_of_run is.run.book.orders is.records) is.records _)
some_of_book (books.One (origin.Group group)) product.Tapes slots parts input output is r same always = absurd always
some_of_book (books.One (origin.Group group)) (product.Report layout) slots parts input output is r same always =
    absurd (subst IsHeaded same always)
some_of_book (books.One (origin.Group group)) (product.Chart wanted) slots parts input output is r same always =
    subst (λ (octets : List ℕ). 0 < length octets) (sym is.written)
    (some_chart slots wanted (orders_of_run is.run.book.orders is.records) is.records _)
some_of_book (books.One origin.Book) (product.Orders cell) slots parts input output is r same always = absurd always
some_of_book (books.One (origin.Group group)) (product.Orders cell) slots parts input output is r same always =
    absurd always
some_of_book (books.One origin.Book) (product.Link start) slots parts input output is r same always =
    subst (λ (octets : List ℕ). 0 < length octets) (sym is.written) (some_link start is.records)
some_of_book (books.One (origin.Group group)) (product.Link start) slots parts input output is r same always =
    subst (λ (octets : List ℕ). 0 < length octets) (sym is.written) (some_link start is.records)
some_of_book (books.One origin.Book) (product.Loads start) slots parts input output is r same always =
    subst (λ (octets : List ℕ). 0 < length octets) (sym is.written) (some_loads start is.records)
some_of_book (books.One (origin.Group group)) (product.Loads start) slots parts input output is r same always =
    absurd (subst IsHeaded same always)
some_of_book (books.One origin.Book) (product.Tables view) slots parts input output is r same always =
    subst (λ (octets : List ℕ). 0 < length octets) (sym is.written)
    (some_tables slots view true (orders_of_run is.run.book.orders is.records) is.records)
some_of_book (books.One (origin.Group group)) (product.Tables view) slots parts input output is r same always =
    subst (λ (octets : List ℕ). 0 < length octets) (sym is.written)
    (some_tables slots view (group == 0) (orders_of_run is.run.book.orders is.records) is.records)
some_of_book books.EachGroup made slots sessions input output is r same always =
    subst (λ (octets : List ℕ). 0 < length octets) (sym is.written) (by_parts is.parts is.as_many is.each)
  where
    by_parts : (parts : List (List ℕ)) → length parts ≡ is.groups
        → ArePartsFrom (record { made = made; slots = slots; parts = sessions; groups = is.groups }) input 0 parts
        → 0 < length (joined_parts parts)
    by_parts [] many each =
        absurd (omega (arith, many, is.counted.count, some_groups (length is.counted.rows.cells)))
    by_parts (part ∷ parts) many each =
        let here : 0 < length part = subst (λ (octets : List ℕ). 0 < length octets) (sym each.0.written)
        (some_of_group r made slots is.groups each.0.run.book.orders each.0.records always) in
        let both = length-append part (joined_parts parts) in
        omega (arith, here, both)

-- what was written is something
pub some_product : (r : Run) (made : Product) (first last old new : Option (List ℕ))
    → Makes (IsMadeBy r made) first last old new
    → AlwaysWrites (task.Make r made)
    → WritesSome old new
some_product r made first last old new makes always = (
  makes.output,
  some_of_book r.books made r.slots r.sessions.number makes.input makes.output makes.meant r refl always,
  makes.appended,
)

-- the status that a result's fault has
abbrev status_in : Result (Unit {0}) ProductFault → ℕ
status_in (Ok done) = 0
status_in (Err f) = status_of_product_fault f

-- a fault is that of a book that wasn't read, or the writer's, or has a status of 1 or 4
abbrev Kind : ProductFault → Type 0
Kind f = (f ≡ fault.Run (run.Book unread)) ⊎ (IsOfWriter f ⊎ OneOrFour (status_of_product_fault f))

product_kind : (b : Books) (slots parts : ℕ) (made : Product) (first last old new : Option (List ℕ)) (f : ProductFault)
    → IsOutputFault made b slots parts first last old new f
    → Kind f
product_kind b slots parts made first last old new (fault.Run f) why = by_kind (run_kind f)
  where
    by_kind : (f ≡ run.Book unread) ⊎ (IsWriteFault f ⊎ OneOrFour (status_of_run_fault f)) → Kind (fault.Run f)
    by_kind (inl same) = inl (ap (λ (g : RunFault). fault.Run g) same)
    by_kind (inr other) = inr other
product_kind (books.One from) slots parts made first last old new (fault.Group group f) why = absurd why
product_kind books.EachGroup slots parts made first last old new (fault.Group group f) why =
    inr (inr (of_group f why.2))
  where
    of_group : (f : RunFault) → HasNoPart slots parts group why.0.input f → OneOrFour (status_of_run_fault f)
    of_group (run.Book f) none = absurd none.2
    of_group (run.NoGroup groups) none = absurd none.2
    of_group (run.Desk f) none = desk_status f
    of_group (run.Settle f) none = settle_status f
    of_group (run.Compile compile.Refused) none = inr refl
    of_group (run.Compile compile.Workers) none = inl refl
    of_group (run.Compile (compile.Piece index)) none = inl refl
    of_group (run.Write failed) none = absurd none.2
    of_group run.Refused none = inr refl
product_kind b slots parts made first last old new fault.WriteFailed why = inr (inl tt)

-- a fault of the writer has status 3
pub of_writer : (f : ProductFault) → IsOfWriter f → status_of_product_fault f ≡ 3
of_writer (fault.Run (run.Write failed)) is = refl
of_writer (fault.Run (run.Book f)) is = absurd is
of_writer (fault.Run (run.NoGroup groups)) is = absurd is
of_writer (fault.Run (run.Desk f)) is = absurd is
of_writer (fault.Run (run.Settle f)) is = absurd is
of_writer (fault.Run (run.Compile f)) is = absurd is
of_writer (fault.Run run.Refused) is = absurd is
of_writer (fault.Group group f) is = absurd is
of_writer fault.WriteFailed is = refl

-- a fault with which something may be written is the writer's, or a group's
may_have : (r : Run) (made : Product) (first last old new : Option (List ℕ)) (f : ProductFault)
    → IsOutputFault made r.books r.slots r.sessions.number first last old new f
    → OneOrFour (status_of_product_fault f)
    → MayBeWritten f
    → r.books ≡ books.EachGroup
may_have r made first last old new (fault.Run f) why status may =
    absurd (apart (of_writer (fault.Run f) may) status)
  where
    apart : status_of_run_fault f ≡ 3 → OneOrFour (status_of_run_fault f) → ⊥
    apart three (inl one) = omega (arith, three, one)
    apart three (inr four) = omega (arith, three, four)
may_have r made first last old new (fault.Group group f) why status may = by_books r.books why
  where
    by_books : (b : Books)
        → IsOutputFault made b r.slots r.sessions.number first last old new (fault.Group group f)
        → b ≡ books.EachGroup
    by_books (books.One from) why = absurd why
    by_books books.EachGroup why = refl
may_have r made first last old new fault.WriteFailed why (inl one) may = absurd (omega (arith, one))
may_have r made first last old new fault.WriteFailed why (inr four) may = absurd (omega (arith, four))

-- what the engine says of the ends with a fault is what the fault's status says of them
pub fault_between : {R W : Type 0} (r : Run) (made : Product) (first_left last_left old_held new_held : Option (List ℕ))
    (f : ProductFault) (status : ℕ) (held : W → Option (List ℕ)) (first last : Source R) (old new : Sink W)
    → status ≡ status_of_product_fault f
    → IsOutputFault made r.books r.slots r.sessions.number first_left last_left old_held new_held f
    → IsEngineAtEnds (Err f) held first last old new
    → IsRunBetween (task.Make r made) status held last old new
fault_between r made first_left last_left old_held new_held f status held first last old new is why ends =
    by_kind (product_kind r.books r.slots r.sessions.number made first_left last_left old_held new_held f why)
  where
    failing : status ≡ 3 → OneHasFailed last new → IsRunBetween (task.Make r made) status held last old new
    failing three failed = record {
      statuses = omega (arith, three);
      understood = λ two. omega (arith, three, two);
      nothing_written = λ no. absurd (no (inr (inl three)));
      untouched = λ no. absurd (no (inr (inl three)));
      device = λ _. failed;
      failed = λ _ _. three;
    }

    writer_or_not : (f : ProductFault) → OneOrFour (status_of_product_fault f) → IsOfWriter f → ⊥
    writer_or_not f (inl one) writer = omega (arith, one, of_writer f writer)
    writer_or_not f (inr four) writer = omega (arith, four, of_writer f writer)

    quiet : OneOrFour (status_of_product_fault f) → IsRunBetween (task.Make r made) status held last old new
    quiet other = record {
      statuses = bound other;
      understood = two other;
      nothing_written = λ no. ends.nothing_written (λ may. no (inr (inr (moved other, each may))));
      untouched = λ no. ends.untouched (λ may. no (inr (inr (moved other, each may))));
      device = λ three. absurd (apart other (sym is ∙ three));
      failed = λ sink failed. absurd (none sink failed);
    }
      where
        each : MayBeWritten f → r.books ≡ books.EachGroup
        each may = may_have r made first_left last_left old_held new_held f why other may

        moved : OneOrFour (status_of_product_fault f) → (status ≡ 1) ⊎ (status ≡ 4)
        moved (inl one) = inl (is ∙ one)
        moved (inr four) = inr (is ∙ four)

        bound : OneOrFour (status_of_product_fault f) → status ≤ 4
        bound (inl one) = omega (arith, one, is)
        bound (inr four) = omega (arith, four, is)

        two : OneOrFour (status_of_product_fault f) → status ≢ 2
        two (inl one) so = omega (arith, one, is, so)
        two (inr four) so = omega (arith, four, is, so)

        apart : OneOrFour (status_of_product_fault f) → status_of_product_fault f ≡ 3 → ⊥
        apart (inl one) three = omega (arith, one, three)
        apart (inr four) three = omega (arith, four, three)

        none : sink_failed old ≡ false → OneHasFailed last new → ⊥
        none sink (inl failed) = apart other (ap status_in (ends.read.1 failed))
        none sink (inr failed) =
            let same = ends.others (writer_or_not f other) in
            search (rules, sink, failed, same)

    by_kind : Kind f → IsRunBetween (task.Make r made) status held last old new
    by_kind (inl same) = failing (is ∙ ap status_of_product_fault same)
        (inl (ends.read.0 (ap (λ (g : ProductFault). Err g) same)))
    by_kind (inr (inl writer)) = failing (is ∙ of_writer f writer) (inr (ends.write writer))
    by_kind (inr (inr other)) = quiet other

-- with 1 and 4 nothing was written, or the first groups of a network
pub front_written : {R W : Type 0} (r : Run) (made : Product) (first_left last_left : Option (List ℕ))
    (f : ProductFault) (status : ℕ) (held : W → Option (List ℕ)) (last : Source R) (old new : Sink W)
    → status ≡ status_of_product_fault f
    → IsOutputFault made r.books r.slots r.sessions.number first_left last_left (held (writer_of old))
    (held (writer_of new)) f
    → IsRunBetween (task.Make r made) status held last old new
    → (status ≡ 1) ⊎ (status ≡ 4)
    → Writes held Keeps old new ⊎ WritesFirstGroups (task.Make r made) None first_left (held (writer_of old))
    (held (writer_of new))
front_written r made first_left last_left f status held last old new is why ends other =
    by_books r.books refl why
  where
    not_three : (status ≡ 1) ⊎ (status ≡ 4) → status ≡ 3 → ⊥
    not_three (inl one) three = omega (arith, one, three)
    not_three (inr four) three = omega (arith, four, three)

    not_zero : (status ≡ 1) ⊎ (status ≡ 4) → status ≡ 0 → ⊥
    not_zero (inl one) zero = omega (arith, one, zero)
    not_zero (inr four) zero = omega (arith, four, zero)

    alone : (from : Origin) → r.books ≡ books.One from → MayHaveWritten (task.Make r made) status → ⊥
    alone from one (inl zero) = not_zero other zero
    alone from one (inr (inl three)) = not_three other three
    alone from one (inr (inr each)) = apart (sym one ∙ each.1)
      where
        apart : books.One from ≡ books.EachGroup → ⊥
        apart h = search (rules, h)

    by_fault : (f : ProductFault) → status_of_product_fault f ≢ 3
        → IsOutputFault made books.EachGroup r.slots r.sessions.number first_left last_left (held (writer_of old))
        (held (writer_of new)) f
        → Writes held Keeps old new ⊎ WritesFirstGroups (task.Make r made) None first_left (held (writer_of old))
        (held (writer_of new))
    by_fault (fault.Run (run.Book f)) not why = inl why.1
    by_fault (fault.Run f) not why = absurd why
    by_fault (fault.Group group f) not why = inr (
      group,
      written_of (AreFirstParts made r.slots r.sessions.number group) first_left last_left (held (writer_of old))
          (held (writer_of new)) why.0,
    )
    by_fault fault.WriteFailed not why = absurd (not refl)

    by_books : (b : Books) → r.books ≡ b
        → IsOutputFault made b r.slots r.sessions.number first_left last_left (held (writer_of old))
        (held (writer_of new)) f
        → Writes held Keeps old new ⊎ WritesFirstGroups (task.Make r made) None first_left (held (writer_of old))
        (held (writer_of new))
    by_books (books.One from) one why = inl (ends.nothing_written (alone from one))
    by_books books.EachGroup each why = by_fault f (λ three. not_three other (is ∙ three)) why
