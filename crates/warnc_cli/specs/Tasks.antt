-- What a command writes and refuses: by the task that the words ask for. Own.
use Rattle.std.specs.Prelude.{◌≡◌, ◌≢◌, ⊤, ℕ, ◌<◌, ◌≤◌, ◌⊎◌, Bool, true, List, length, Option, IfSome}
use Rattle.std.specs.Io.KnownBytes.{Appends, Keeps}
use Rattle.alert_book.specs.declared.fault.BookFault.{BookFault}
use Rattle.alert_book.specs.declared.judging.bounds.Extent.{Extent}
use Rattle.alert_book.specs.declared.network.Origin.{Origin}
use Rattle.alert_book.specs.declared.network.Origin.TheVariants as origin
use Rattle.alert_book.specs.Book.{Contents, IsWrong, max_book}
use Rattle.alert_book.specs.Extent.{bounds_of, most_octets, IsRowFaultFor, LacksGroupOf}
use Rattle.alert_book.specs.Network.{HasGroups, IsGroupBook, IsWrongNetwork, max_network}
use Rattle.alert_book.specs.Origin.{IsBookFrom}
use Rattle.asked_orders.specs.Lacks.{lacks_of, no_lacks}
use Rattle.bsc_table.specs.Record.{Record}
use Rattle.book_check.specs.Checked.{HasFaultsBy, IsCleanFor, LacksGroup}
use Rattle.book_remarks.specs.Remarked.{HasRemarks, IsRemarkedFor, IsStopped}
use Rattle.book_texts.specs.TextsOutput.{IsTextsOutput}
use Rattle.cell_orders.specs.declared.row.OrderRow.{OrderRow}
use Rattle.cbsp_wire.specs.declared.message.Cell.{Cell}
use Rattle.device_ends.specs.Moves.{WritesOutput}
use Rattle.gsmtap.specs.Capture.{IsCapture}
use Rattle.gsmtap.specs.Heard.{IsHeardFault}
use Rattle.gsmtap.specs.TapeOfCapture.{IsAirFault, IsTapeOfCapture}
use Rattle.gsmtap.specs.declared.fault.AirFault.{AirFault}
use Rattle.gsmtap.specs.declared.tape.Wanted.{Wanted}
use Rattle.handset.specs.Tape.{IsShort, IsLong}
use Rattle.link_orders.specs.declared.orders.OrdersWanted.{OrdersWanted}
use Rattle.orders_file.specs.File.{IsOrdersFile, IsOrdersFileFault, max_orders_file}
use Rattle.orders_file.specs.declared.fault.OrdersFileFault.{OrdersFileFault}
use Rattle.plan.specs.PlanOutput.{IsPlanOutput, IsPlanRowFault, IsTooLong}
use Rattle.plan.specs.declared.fault.PlanRowFault.{PlanRowFault}
use Rattle.short_pages.specs.declared.pages.Pages.{Pages}
use Rattle.slot_times.specs.declared.start.Start.{Start}
use Rattle.gsmtap.specs.TapesOfCapture.{AreTapesOfCapture, IsTapesFault}
use Rattle.gsmtap.specs.declared.tapes.TapesFault.{TapesFault}
use Rattle.warnc_air.specs.AllTapes.{all_wanted}
use Rattle.warnc_air.specs.CellTable.{IsCellTable, IsTableFault, max_table}
use Rattle.warnc_air.specs.OrdersOutput.{IsOrdersFault, IsOrdersOutput}
use Rattle.warnc_air.specs.TapeOutput.{IsCellsOutput, max_capture}
use Rattle.warnc_air.specs.declared.all.AllWanted.{AllWanted}
use Rattle.warnc_air.specs.declared.cell_table.CellRow.{CellRow}
use Rattle.warnc_air.specs.declared.cell_table.TableFault.{TableFault}
use Rattle.warnc_air.specs.declared.orders.OrdersCommandFault.{OrdersCommandFault}
use Rattle.warnc_air.specs.declared.orders.PassedOver.{PassedOver}
use Rattle.warnc_inspect.specs.PageOutput.{IsPageFault, IsPageOutput}
use Rattle.warnc_inspect.specs.ReadOutput.{IsReadOutput}
use Rattle.warnc_inspect.specs.SlotsOutput.{IsSlotsOutput}
use Rattle.warnc_inspect.specs.WholeOutput.{IsWholeOutput}
use Rattle.warnc_inspect.specs.declared.page.PageFault.{PageFault}
use Rattle.warnc_run.specs.declared.fault.RunFault.{RunFault}
use Rattle.warnc_run.specs.declared.run.Books.{Books}
use Rattle.warnc_run.specs.declared.run.Books.TheVariants as books
use Rattle.warnc_run.specs.declared.product.Product.TheVariants as product
use Rattle.warnc_run.specs.Engine.{IsMadeBy}
use Rattle.warnc_run.specs.Faults.{StopsRun}
use Rattle.warnc_run.specs.Groups.{IsGroupCount}
use Rattle.warnc_run.specs.Network.{AreFirstParts}
use Rattle.warnc_run.specs.Products.{RunOf}
use Rattle.warnc_run.specs.Strict.{IsStrictlyMadeBy}
use Rattle.warnc_verdict.specs.OrdersVerified.{AreOrdersBroken, AreOrdersKept, HasOrderDifferences}
use Rattle.warnc_verdict.specs.declared.terms.VerdictTerms.{VerdictTerms}
use Rattle.warnc_verify.specs.Verified.{Differs, HasDifferences, HasRun, IsVerified}
use Rattle.warnc_cli.specs.CommandLine.{AsksForCells, AsksForOrders, AsksForTapes}
use Rattle.warnc_cli.specs.CommandLine.{AsksForGroups, AsksForPage, AsksForPcap, AsksForRead, AsksForRun, AsksForTape}
use Rattle.warnc_cli.specs.CommandLine.{AsksForReadSlots}
use Rattle.warnc_cli.specs.CommandLine.{AsksForCheck, AsksForPlan, AsksForRemarks, AsksForTexts, AsksForVerify}
use Rattle.warnc_cli.specs.CommandLine.{AsksForStrictRun, AsksForVerifyOrders, AsksForWhole}
use Rattle.warnc_cli.specs.Status.{status_of_book_fault, status_of_page_fault}
use Rattle.warnc_cli.specs.declared.command.Task.{Task}
use Rattle.warnc_cli.specs.declared.command.Task.TheVariants as task

-- the words ask for this task
abbrev pub IsTaskOf : (words : List (List ℕ)) → Task → Type 0
IsTaskOf words (task.Page language id serial form) = AsksForPage words language.now id serial form
IsTaskOf words (task.Read wanted) = AsksForRead words wanted
IsTaskOf words (task.ReadSlots wanted) = AsksForReadSlots words wanted
IsTaskOf words task.Whole = AsksForWhole words
IsTaskOf words (task.Pcap settings) = AsksForPcap words settings
IsTaskOf words task.Cells = AsksForCells words
IsTaskOf words (task.Tape wanted) = AsksForTape words wanted
IsTaskOf words (task.Tapes wanted file) = AsksForTapes words wanted file.now
IsTaskOf words (task.Orders wanted packets) = AsksForOrders words wanted packets
IsTaskOf words task.Groups = AsksForGroups words
IsTaskOf words (task.Check what) = AsksForCheck words what
IsTaskOf words (task.Remark what slots start strict) = AsksForRemarks words what slots start strict
IsTaskOf words task.Plan = AsksForPlan words
IsTaskOf words (task.Texts what pages) = AsksForTexts words what pages
IsTaskOf words (task.Make run made) = AsksForRun words run made
IsTaskOf words (task.Strict run made) = AsksForStrictRun words run made
IsTaskOf words (task.Verify from slots pages layout file workers) =
    AsksForVerify words from slots pages layout file.now workers.number
IsTaskOf words (task.VerifyOrders cell terms file) = AsksForVerifyOrders words cell terms file.now

-- What is written with status 0.

-- what a command of one input makes of it
abbrev pub Means : Task → (input output : List ℕ) → Type 0
Means (task.Page language id serial form) = IsPageOutput form language.now id serial
Means (task.Read wanted) = IsReadOutput wanted
Means (task.ReadSlots wanted) = IsSlotsOutput wanted
Means task.Whole = IsWholeOutput
Means (task.Pcap settings) = IsCapture settings
Means task.Cells = IsCellsOutput
Means (task.Tape wanted) = IsTapeOfCapture wanted
Means (task.Tapes wanted file) = λ input output. ⊥
Means (task.Orders wanted packets) =
    λ input output. (passed : PassedOver) × IsOrdersOutput wanted packets passed input output
Means task.Groups = IsGroupCount
Means (task.Check what) = IsCleanFor what
Means (task.Remark what slots start strict) = IsRemarkedFor what slots start strict
Means task.Plan = IsPlanOutput
Means (task.Texts what pages) = IsTextsOutput what pages
Means (task.Make run made) = IsMadeBy run made
Means (task.Strict run made) = IsStrictlyMadeBy run made
Means (task.Verify from slots pages layout file workers) = λ input output. ⊥
Means (task.VerifyOrders cell terms file) = λ input output. ⊥

-- the octets are a table of cells and a capture, and the tapes of the cells
abbrev pub AreAllTapes : AllWanted → (table capture output : List ℕ) → Type 0
AreAllTapes wanted table capture output = (rows : List CellRow) × IsCellTable table rows
    × AreTapesOfCapture (all_wanted wanted rows) capture output

-- a writer was given the output of a book or of orders and of tapes, or of a table and of a capture: of those that the
-- readers had left, if they are known, and else of some
pub record WritesOutputOfBoth (IsOutput : (book tapes output : List ℕ) → Type 0)
    (book tapes old new : Option (List ℕ)) : Type 0 where
  pub book_octets : List ℕ
  pub tapes_octets : List ℕ
  pub output : List ℕ
  pub of_book : IfSome book (λ input. input ≡ book_octets)
  pub of_tapes : IfSome tapes (λ input. input ≡ tapes_octets)
  pub is_output : IsOutput book_octets tapes_octets output
  pub appended : Appends old new output

-- what a task writes: `book` and `input` are what the readers had left, if that is known, and `old` and `new` are what
-- the writer held before and after
abbrev pub WritesAll : Task → (book input old new : Option (List ℕ)) → Type 0
WritesAll (task.Verify from slots pages layout file workers) book input old new =
    WritesOutputOfBoth (IsVerified from slots pages layout) book input old new
WritesAll (task.VerifyOrders cell terms file) book input old new =
    WritesOutputOfBoth (AreOrdersKept cell terms) book input old new
WritesAll (task.Tapes wanted file) book input old new = WritesOutputOfBoth (AreAllTapes wanted) book input old new
WritesAll other book input old new = WritesOutput (Means other) input old new

-- the line of the columns' names stands over a report, and over loads
abbrev pub IsHeaded : Books → Type 0
IsHeaded (books.One (origin.Group group)) = ⊥
IsHeaded other = ⊤

-- it writes something: tapes are none of a book without cells, nor whole tapes of no tapes, a plan of no row comes to
-- none, a cell may have got no orders, and the report and the loads of a later group have no line of the columns' names
abbrev pub AlwaysWrites : Task → Type 0
AlwaysWrites (task.Make run product.Tapes) = ⊥
AlwaysWrites (task.Make run (product.Report layout)) = IsHeaded run.books
AlwaysWrites (task.Make run (product.Orders cell)) = ⊥
AlwaysWrites (task.Make run (product.Loads start)) = IsHeaded run.books
AlwaysWrites (task.Strict run product.Tapes) = ⊥
AlwaysWrites (task.Strict run (product.Report layout)) = IsHeaded (books.One run.origin)
AlwaysWrites (task.Strict run (product.Orders cell)) = ⊥
AlwaysWrites (task.Strict run (product.Loads start)) = IsHeaded (books.One run.origin)
AlwaysWrites task.Whole = ⊥
AlwaysWrites task.Plan = ⊥
AlwaysWrites (task.Orders wanted packets) = ⊥
AlwaysWrites other = ⊤

-- What is refused with status 1.

-- the input is refused: a text of this language has a fault of status 1
abbrev pub IsRefused : (language input : List ℕ) → Type 0
IsRefused language input = (fault : PageFault) × IsPageFault language input fault × (status_of_page_fault fault ≡ 1)

-- the input is refused: it is no whole tapes
abbrev pub IsNoTapes : (input : List ℕ) → Type 0
IsNoTapes input = IsShort input ⊎ IsLong input

-- the input is refused: it is too long for a capture, or no capture file that has a tape
abbrev pub IsNoAir : Wanted → (input : List ℕ) → Type 0
IsNoAir wanted input = (max_capture < length input) ⊎ ((why : AirFault) × IsAirFault wanted input why)

-- the input is refused: it is too long for a capture, or no capture file that has a table of the orders
abbrev pub IsNoOrders : OrdersWanted → (input : List ℕ) → Type 0
IsNoOrders wanted input = (max_capture < length input) ⊎ ((why : OrdersCommandFault) × IsOrdersFault wanted input why)

-- the input is refused: it is too long for a capture, or no capture file
abbrev pub IsNoHeard : (input : List ℕ) → Type 0
IsNoHeard input = (max_capture < length input) ⊎ ((why : AirFault) × IsHeardFault input why)

-- the input is refused: it has more octets than a book may have, or a row or a text of it has a fault of status 1
abbrev pub IsNoBook : (input : List ℕ) → Type 0
IsNoBook input = (max_book < length input)
    ⊎ ((f : BookFault) × IsWrong input f × (status_of_book_fault f ≡ 1))

-- nothing can be said of the input: it is too long, or the network has no such group
abbrev pub IsUnchecked : Extent → (input : List ℕ) → Type 0
IsUnchecked what input =
    (most_octets (bounds_of what) < length input) ⊎ ((groups : ℕ) × LacksGroup what groups input)

-- or it has a row with a fault
abbrev pub IsNotCleanFor : Extent → (input : List ℕ) → Type 0
IsNotCleanFor what input =
    IsUnchecked what input ⊎ ((count : ℕ) × (output : List ℕ) × HasFaultsBy (bounds_of what) count input output)

-- the input is refused: it isn't clean; or a run of it ends early; or it is strict, and there is a remark
abbrev pub IsRemarkable : Extent → (slots : ℕ) (start : Option Start) (strict : Bool) (input : List ℕ) → Type 0
IsRemarkable what slots start strict input = IsNotCleanFor what input ⊎ (((f : RunFault) × IsStopped what slots input f)
    ⊎ ((strict ≡ true) × ((count : ℕ) × (output : List ℕ) × HasRemarks what slots start count input output)))

-- the input is refused: it has more octets than it may have, or a row with a fault, or the network has no such group
abbrev pub IsNoRows : Extent → (input : List ℕ) → Type 0
IsNoRows what input = (most_octets (bounds_of what) < length input) ⊎ (((f : BookFault) × IsRowFaultFor what input f)
    ⊎ ((groups : ℕ) × LacksGroupOf what input groups))

-- the input is refused: it or what it comes to has more octets than a book may have, or a row comes to none of a book
abbrev pub IsNoPlan : (input : List ℕ) → Type 0
IsNoPlan input = IsTooLong input ⊎ ((f : PlanRowFault) × IsPlanRowFault input f)

-- the input is refused as a network book, of which a group is asked for
abbrev pub IsNoNetwork : (group : ℕ) (input : List ℕ) → Type 0
IsNoNetwork group input = (max_network < length input)
    ⊎ ((f : BookFault) × IsWrongNetwork group input f × (status_of_book_fault f ≡ 1))

-- the input has no such book: it is none; or it is no network book, or one of too few groups
abbrev pub IsNoBookFrom : Origin → (input : List ℕ) → Type 0
IsNoBookFrom origin.Book input = IsNoBook input
IsNoBookFrom (origin.Group group) input = IsNoNetwork group input
    ⊎ ((groups : ℕ) × (groups ≤ group) × HasGroups group input groups)

-- or the input has the book, whose run, of this many slots and with this many sessions, ends early: the desk finds the
-- book of another cell in a lock, or isn't settled, or a tape isn't its record's. What a lock of the desk holds, and
-- what a worker sends, is known by its type alone, so no contract excludes it
abbrev pub IsNoRun : (from : Origin) (slots parts : ℕ) (input : List ℕ) → Type 0
IsNoRun from slots parts input = IsNoBookFrom from input
    ⊎ ((book : Contents) × IsBookFrom from input book × ((fault : RunFault) × StopsRun book slots parts fault))

-- the input is no network book, or the run of the book of one of its groups ends early
abbrev pub IsNoNetworkRun : (slots parts : ℕ) (input : List ℕ) → Type 0
IsNoNetworkRun slots parts input = IsNoNetwork 0 input ⊎ ((group : ℕ) × (book : Contents) × IsGroupBook group input book
    × ((fault : RunFault) × StopsRun book slots parts fault))

abbrev pub IsNoRunOf : Books → (slots parts : ℕ) (input : List ℕ) → Type 0
IsNoRunOf (books.One from) = IsNoRun from
IsNoRunOf books.EachGroup = IsNoNetworkRun

-- or in a run of it some orders, and at least one, weren't done
abbrev pub HasUndoneOrders : (from : Origin) (slots parts : ℕ) (input : List ℕ) → Type 0
HasUndoneOrders from slots parts input = (records : List Record) × (run : RunOf from slots parts input records)
    × (lacks_of run.book.orders records ≢ no_lacks)

abbrev pub IsNotAllDone : (from : Origin) (slots parts : ℕ) (input : List ℕ) → Type 0
IsNotAllDone from slots parts input = IsNoRun from slots parts input ⊎ HasUndoneOrders from slots parts input

-- nothing can be said of these tapes and this book: it is none or has no run; or it has one, and the tapes are no whole
-- ones
abbrev pub IsUnverified : (from : Origin) (slots : ℕ) (book tapes : List ℕ) → Type 0
IsUnverified from slots book tapes = IsNoRun from slots 1 book ⊎ (HasRun from slots book × IsNoTapes tapes)

-- these tapes don't keep this book: it is none or has no run; or it has one, and the tapes are no whole ones; or there
-- is a difference
abbrev pub IsNotVerified : (from : Origin) (slots : ℕ) (pages : Pages) (book tapes : List ℕ) → Type 0
IsNotVerified from slots pages book tapes = IsNoRun from slots 1 book
    ⊎ ((HasRun from slots book × IsNoTapes tapes) ⊎ Differs from slots pages book tapes)

-- the octets have more than an orders file may have, or are none
abbrev pub IsNoOrdersFile : (orders : List ℕ) → Type 0
IsNoOrdersFile orders = (max_orders_file < length orders) ⊎ ((f : OrdersFileFault) × IsOrdersFileFault orders f)

-- the octets are an orders file
abbrev pub HasOrderRows : (orders : List ℕ) → Type 0
HasOrderRows orders = (rows : List OrderRow) × IsOrdersFile orders rows

-- nothing can be said of these tapes and these orders: they are none; or they are, and the tapes are no whole ones
abbrev pub AreUnjudged : (orders tapes : List ℕ) → Type 0
AreUnjudged orders tapes = IsNoOrdersFile orders ⊎ (HasOrderRows orders × IsNoTapes tapes)

-- these tapes don't keep these orders: they are none; or they are, and the tapes are no whole ones; or there is a
-- difference
abbrev pub AreOrdersNotKept : (cell : Cell) (terms : VerdictTerms) (orders tapes : List ℕ) → Type 0
AreOrdersNotKept cell terms orders tapes = IsNoOrdersFile orders
    ⊎ ((HasOrderRows orders × IsNoTapes tapes) ⊎ AreOrdersBroken cell terms orders tapes)

-- the octets have more than a table of cells may have, or are none
abbrev pub IsNoTable : (table : List ℕ) → Type 0
IsNoTable table = (max_table < length table) ⊎ ((f : TableFault) × IsTableFault table f)

-- the input is too long for a capture, or no capture file that has the tapes of these cells
abbrev pub IsNoAirOf : AllWanted → List CellRow → (capture : List ℕ) → Type 0
IsNoAirOf wanted rows capture = (max_capture < length capture)
    ⊎ ((why : TapesFault) × IsTapesFault (all_wanted wanted rows) capture why)

-- the octets of a table of cells and a capture have no tapes: the table is none; or it is one, and the capture hasn't
-- the tapes of its cells
abbrev pub HasNoTapes : AllWanted → (table capture : List ℕ) → Type 0
HasNoTapes wanted table capture =
    IsNoTable table ⊎ ((rows : List CellRow) × IsCellTable table rows × IsNoAirOf wanted rows capture)

-- the input that a command of one input refuses
abbrev pub RefusesOne : Task → (input : List ℕ) → Type 0
RefusesOne (task.Page language id serial form) = IsRefused language.now
RefusesOne (task.Read wanted) = IsNoTapes
RefusesOne (task.ReadSlots wanted) = IsNoTapes
RefusesOne task.Whole = IsNoTapes
RefusesOne (task.Pcap settings) = IsNoTapes
RefusesOne task.Cells = IsNoHeard
RefusesOne (task.Tape wanted) = IsNoAir wanted
RefusesOne (task.Tapes wanted file) = λ input. ⊥
RefusesOne (task.Orders wanted packets) = IsNoOrders wanted
RefusesOne task.Groups = IsNoNetwork 0
RefusesOne (task.Check what) = IsNotCleanFor what
RefusesOne (task.Remark what slots start strict) = IsRemarkable what slots start strict
RefusesOne task.Plan = IsNoPlan
RefusesOne (task.Texts what pages) = IsNoRows what
RefusesOne (task.Make run made) = IsNoRunOf run.books run.slots run.sessions.number
RefusesOne (task.Strict run made) = IsNotAllDone run.origin run.slots run.sessions.number
RefusesOne (task.Verify from slots pages layout file workers) = λ input. ⊥
RefusesOne (task.VerifyOrders cell terms file) = λ input. ⊥

-- what a task refuses, of readers whose octets are known
abbrev pub Refuses : Task → (book input : Option (List ℕ)) → Type 0
Refuses (task.Verify from slots pages layout file workers) book input =
    IfSome book (λ octets. IfSome input (IsNotVerified from slots pages octets))
Refuses (task.VerifyOrders cell terms file) book input =
    IfSome book (λ octets. IfSome input (AreOrdersNotKept cell terms octets))
Refuses (task.Tapes wanted file) book input = IfSome book (λ table. IfSome input (HasNoTapes wanted table))
Refuses other book input = IfSome input (RefusesOne other)

-- What may be written with status 1 and 4.

-- nothing can be said of what is to be run: it is too long, or the network has no such group, or a run of it ends early
abbrev pub IsUnremarked : Extent → (slots : ℕ) (input : List ℕ) → Type 0
IsUnremarked what slots input = IsUnchecked what input ⊎ ((f : RunFault) × IsStopped what slots input f)

-- a task refuses what it reads and has no table to write of it: `verify` has no run, no orders or no tapes, and a book
-- is too long for `check`, or has no run with `--slots`, or a network has no such group. Other commands never write a
-- table with status 1
abbrev pub RefusesUnseen : Task → (book input : Option (List ℕ)) → Type 0
RefusesUnseen (task.Verify from slots pages layout file workers) book input =
    IfSome book (λ octets. IfSome input (IsUnverified from slots octets))
RefusesUnseen (task.VerifyOrders cell terms file) book input = IfSome book (λ octets. IfSome input (AreUnjudged octets))
RefusesUnseen (task.Check what) book input = IfSome input (IsUnchecked what)
RefusesUnseen (task.Remark what slots start strict) book input = IfSome input (IsUnremarked what slots)
RefusesUnseen other book input = ⊤

-- so nothing was written
abbrev pub KeepsUnseen : Task → (book input old new : Option (List ℕ)) → Type 0
KeepsUnseen task book input old new = RefusesUnseen task book input × Keeps old new

-- the parts of some first groups of a network were written
abbrev pub WritesFirstGroups : Task → (book input old new : Option (List ℕ)) → Type 0
WritesFirstGroups (task.Make run made) book input old new =
    (count : ℕ) × WritesOutput (AreFirstParts made run.slots run.sessions.number count) input old new
WritesFirstGroups other book input old new = ⊥

-- the table of the differences was written, of which there is one at least, or that of the rows with a fault, or that
-- of the remarks
abbrev pub WritesDifferences : Task → (book input old new : Option (List ℕ)) → Type 0
WritesDifferences (task.Verify from slots pages layout file workers) book input old new =
    WritesOutputOfBoth (HasDifferences from slots pages layout) book input old new
WritesDifferences (task.VerifyOrders cell terms file) book input old new =
    WritesOutputOfBoth (HasOrderDifferences cell terms) book input old new
WritesDifferences (task.Check what) book input old new =
    (count : ℕ) × WritesOutput (HasFaultsBy (bounds_of what) count) input old new
WritesDifferences (task.Remark what slots start strict) book input old new =
    ((count : ℕ) × WritesOutput (HasFaultsBy (bounds_of what) count) input old new)
    ⊎ ((count : ℕ) × WritesOutput (HasRemarks what slots start count) input old new)
WritesDifferences other book input old new = ⊥
