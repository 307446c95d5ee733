-- What the words say of the task that they ask for.
use Rattle.std.proofs.Common.{◌≡◌, ◌≢◌, ℕ, List, Some, codes, false, inl, inr, rules, subst}
use Rattle.std.specs.Prelude.{slice_get}
use Rattle.alert_book.specs.declared.network.Origin.TheVariants as origin
use Rattle.warnc_run.specs.declared.run.Books.{Books}
use Rattle.warnc_run.specs.declared.run.Books.TheVariants as books
use Rattle.warnc_run.specs.declared.product.Product.TheVariants as product
use Rattle.warnc_cli.specs.CommandLine.{is_given, GivesBooks, GivesProduct}
use Rattle.warnc_cli.specs.Run.{IsOfOneFile, MayWrite}
use Rattle.warnc_cli.specs.RunSteps.{IsOfOneInput, MayHaveWritten}
use Rattle.warnc_cli.specs.Tasks.{AlwaysWrites, IsHeaded, IsTaskOf}
use Rattle.warnc_cli.specs.declared.command.Task.{Task}
use Rattle.warnc_cli.specs.declared.command.Task.TheVariants as task

-- no other command than `verify` reads a book beside its input, and none but `tape` of all cells a table
pub of_one_input : (words : List (List ℕ)) (t : Task) → IsTaskOf words t → IsOfOneFile words → IsOfOneInput t
of_one_input words (task.Verify from slots pages layout file workers) asked other = absurd (other.0 asked.command)
of_one_input words (task.VerifyOrders cell terms file) asked other = absurd (other.0 asked.command)
of_one_input words (task.Tapes wanted file) asked other = absurd (apart (other.1 asked.command))
  where
    apart : is_given words (codes "--cells") ≡ false → ⊥
    apart none = search (rules, asked.given, none)
of_one_input words (task.Page language id serial form) asked other = tt
of_one_input words (task.Read wanted) asked other = tt
of_one_input words (task.ReadSlots wanted) asked other = tt
of_one_input words task.Whole asked other = tt
of_one_input words task.Plan asked other = tt
of_one_input words (task.Pcap settings) asked other = tt
of_one_input words task.Cells asked other = tt
of_one_input words (task.Tape wanted) asked other = tt
of_one_input words (task.Orders wanted packets) asked other = tt
of_one_input words task.Groups asked other = tt
of_one_input words (task.Check what) asked other = tt
of_one_input words (task.Remark what slots start strict) asked other = tt
of_one_input words (task.Texts what pages) asked other = tt
of_one_input words (task.Make run made) asked other = tt
of_one_input words (task.Strict run made) asked other = tt

-- what a task may have written, its words say that it may
pub may_write : (words : List (List ℕ)) (t : Task) (status : ℕ) → IsTaskOf words t → MayHaveWritten t status
    → MayWrite words status
may_write words (task.Make run made) status asked (inl done) = inl done
may_write words (task.Make run made) status asked (inr (inl device)) = inr (inl device)
may_write words (task.Make run made) status asked (inr (inr early)) =
    inr (inr (inr (early.0, subst (GivesBooks words) early.1 asked.books_given)))
may_write words (task.Strict run made) status asked (inl done) = inl done
may_write words (task.Strict run made) status asked (inr device) = inr (inl device)
may_write words (task.Verify from slots pages layout file workers) status asked (inl done) = inl done
may_write words (task.Verify from slots pages layout file workers) status asked (inr (inl device)) = inr (inl device)
may_write words (task.Verify from slots pages layout file workers) status asked (inr (inr differ)) =
    inr (inr (inl (differ, inl asked.command)))
may_write words (task.VerifyOrders cell terms file) status asked (inl done) = inl done
may_write words (task.VerifyOrders cell terms file) status asked (inr (inl device)) = inr (inl device)
may_write words (task.VerifyOrders cell terms file) status asked (inr (inr differ)) =
    inr (inr (inl (differ, inl asked.command)))
may_write words (task.Check what) status asked (inl done) = inl done
may_write words (task.Check what) status asked (inr (inl device)) = inr (inl device)
may_write words (task.Check what) status asked (inr (inr faults)) = inr (inr (inl (faults, inr asked.command)))
may_write words (task.Remark what slots start strict) status asked (inl done) = inl done
may_write words (task.Remark what slots start strict) status asked (inr (inl device)) = inr (inl device)
may_write words (task.Remark what slots start strict) status asked (inr (inr faults)) =
    inr (inr (inl (faults, inr asked.command)))
may_write words (task.Page language id serial form) status asked (inl done) = inl done
may_write words (task.Page language id serial form) status asked (inr device) = inr (inl device)
may_write words (task.Read wanted) status asked (inl done) = inl done
may_write words (task.Read wanted) status asked (inr device) = inr (inl device)
may_write words (task.ReadSlots wanted) status asked (inl done) = inl done
may_write words (task.ReadSlots wanted) status asked (inr device) = inr (inl device)
may_write words task.Whole status asked (inl done) = inl done
may_write words task.Plan status asked (inl done) = inl done
may_write words task.Whole status asked (inr device) = inr (inl device)
may_write words task.Plan status asked (inr device) = inr (inl device)
may_write words (task.Pcap settings) status asked (inl done) = inl done
may_write words (task.Pcap settings) status asked (inr device) = inr (inl device)
may_write words task.Cells status asked (inl done) = inl done
may_write words task.Cells status asked (inr device) = inr (inl device)
may_write words (task.Tape wanted) status asked (inl done) = inl done
may_write words (task.Orders wanted packets) status asked (inl done) = inl done
may_write words (task.Tapes wanted file) status asked (inl done) = inl done
may_write words (task.Tape wanted) status asked (inr device) = inr (inl device)
may_write words (task.Orders wanted packets) status asked (inr device) = inr (inl device)
may_write words (task.Tapes wanted file) status asked (inr device) = inr (inl device)
may_write words task.Groups status asked (inl done) = inl done
may_write words task.Groups status asked (inr device) = inr (inl device)
may_write words (task.Texts what pages) status asked (inl done) = inl done
may_write words (task.Texts what pages) status asked (inr device) = inr (inl device)

-- a book's report is headed, and so is a network's
headed : (words : List (List ℕ)) (b : Books) → GivesBooks words b → is_given words (codes "--group") ≡ false
    → IsHeaded b
headed words (books.One origin.Book) given alone = tt
headed words (books.One (origin.Group group)) given alone = absurd (apart (given.1.book alone))
  where
    apart : origin.Group group ≡ origin.Book → ⊥
    apart h = search (rules, h)
headed words books.EachGroup given alone = tt

-- tapes are made by two commands
of_tapes : (words : List (List ℕ)) (sessions : ℕ) → GivesProduct words product.Tapes sessions
    → slice_get words 1 ≢ Some (codes "compile")
    → slice_get words 1 ≢ Some (codes "live")
    → ⊥
of_tapes words sessions (inl compile) other more = other compile.0
of_tapes words sessions (inr live) other more = more live.0

-- all others write something
pub writes_some : (words : List (List ℕ)) (t : Task) → IsTaskOf words t
    → slice_get words 1 ≢ Some (codes "compile")
    → slice_get words 1 ≢ Some (codes "live")
    → slice_get words 1 ≢ Some (codes "whole")
    → slice_get words 1 ≢ Some (codes "plan")
    → slice_get words 1 ≢ Some (codes "orders")
    → (slice_get words 1 ≡ Some (codes "report") → is_given words (codes "--group") ≡ false)
    → (slice_get words 1 ≡ Some (codes "load") → is_given words (codes "--group") ≡ false)
    → AlwaysWrites t
writes_some words (task.Make run product.Tapes) asked compile live whole plan orders report load =
    absurd (of_tapes words run.sessions.number asked.made_given compile live)
writes_some words (task.Make run (product.Report layout)) asked compile live whole plan orders report load =
    headed words run.books asked.books_given (report asked.made_given.0)
writes_some words (task.Make run (product.Chart wanted)) asked compile live whole plan orders report load = tt
writes_some words (task.Make run (product.Orders cell)) asked compile live whole plan orders report load =
    absurd (orders asked.made_given.0)
writes_some words (task.Make run (product.Link start)) asked compile live whole plan orders report load = tt
writes_some words (task.Make run (product.Loads start)) asked compile live whole plan orders report load =
    headed words run.books asked.books_given (load asked.made_given.0)
writes_some words (task.Make run (product.Tables view)) asked compile live whole plan orders report load = tt
writes_some words (task.Strict run product.Tapes) asked compile live whole plan orders report load =
    absurd (of_tapes words run.sessions.number asked.made_given compile live)
writes_some words (task.Strict run (product.Report layout)) asked compile live whole plan orders report load =
    headed words (books.One run.origin) asked.book_given (report asked.made_given.0)
writes_some words (task.Strict run (product.Chart wanted)) asked compile live whole plan orders report load = tt
writes_some words (task.Strict run (product.Orders cell)) asked compile live whole plan orders report load =
    absurd (orders asked.made_given.0)
writes_some words (task.Strict run (product.Link start)) asked compile live whole plan orders report load = tt
writes_some words (task.Strict run (product.Loads start)) asked compile live whole plan orders report load =
    headed words (books.One run.origin) asked.book_given (load asked.made_given.0)
writes_some words (task.Strict run (product.Tables view)) asked compile live whole plan orders report load = tt
writes_some words (task.Verify from slots pages layout file workers) asked compile live whole plan orders report load =
    tt
writes_some words (task.VerifyOrders cell terms file) asked compile live whole plan orders report load = tt
writes_some words (task.Page language id serial form) asked compile live whole plan orders report load = tt
writes_some words (task.Read wanted) asked compile live whole plan orders report load = tt
writes_some words (task.ReadSlots wanted) asked compile live whole plan orders report load = tt
writes_some words task.Whole asked compile live whole plan orders report load = absurd (whole asked)
writes_some words task.Plan asked compile live whole plan orders report load = absurd (plan asked)
writes_some words (task.Pcap settings) asked compile live whole plan orders report load = tt
writes_some words task.Cells asked compile live whole plan orders report load = tt
writes_some words (task.Tape wanted) asked compile live whole plan orders report load = tt
writes_some words (task.Orders wanted packets) asked compile live whole plan orders report load =
    absurd (orders asked.command)
writes_some words (task.Tapes wanted file) asked compile live whole plan orders report load = tt
writes_some words task.Groups asked compile live whole plan orders report load = tt
writes_some words (task.Check what) asked compile live whole plan orders report load = tt
writes_some words (task.Remark what slots start strict) asked compile live whole plan orders report load = tt
writes_some words (task.Texts what pages) asked compile live whole plan orders report load = tt
