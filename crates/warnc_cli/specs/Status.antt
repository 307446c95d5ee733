-- The program's statuses: which fault has which, and what a status says of a run. Own.
use Rattle.std.specs.Prelude.{ℕ, ◌==◌, if◌then◌else◌}
use Rattle.alert_book.specs.declared.fault.BookFault.{BookFault}
use Rattle.alert_book.specs.declared.fault.BookFaultKind.{BookFaultKind}
use Rattle.alert_book.specs.declared.fault.BookFaultKind.TheVariants as kinds
use Rattle.book_check.specs.declared.fault.CheckFault.{CheckFault}
use Rattle.book_check.specs.declared.fault.CheckFault.TheVariants as check
use Rattle.book_remarks.specs.declared.fault.RemarkFault.{RemarkFault}
use Rattle.book_remarks.specs.declared.fault.RemarkFault.TheVariants as remark
use Rattle.book_texts.specs.declared.texts.TextsFault.{TextsFault}
use Rattle.book_texts.specs.declared.texts.TextsFault.TheVariants as texts
use Rattle.cbs_page.specs.declared.paging.TextFault.TheVariants as text
use Rattle.handset.specs.declared.tape.TapeFault.{TapeFault}
use Rattle.handset.specs.declared.tape.TapeFault.TheVariants as tapes
use Rattle.order_desk.specs.declared.fault.DeskFault.{DeskFault}
use Rattle.order_desk.specs.declared.fault.DeskFault.TheVariants as desk
use Rattle.order_desk.specs.declared.settle.SettleFault.{SettleFault}
use Rattle.order_desk.specs.declared.settle.SettleFault.TheVariants as settle
use Rattle.parallel_compile.specs.declared.fault.CompileFault.{CompileFault}
use Rattle.parallel_compile.specs.declared.fault.CompileFault.TheVariants as compile
use Rattle.plan.specs.declared.fault.PlanFault.{PlanFault}
use Rattle.plan.specs.declared.fault.PlanFault.TheVariants as plan
use Rattle.warnc_air.specs.declared.all.AllTapesFault.{AllTapesFault}
use Rattle.warnc_air.specs.declared.all.AllTapesFault.TheVariants as all
use Rattle.warnc_air.specs.declared.orders.OrdersCommandFault.{OrdersCommandFault}
use Rattle.warnc_air.specs.declared.orders.OrdersCommandFault.TheVariants as orders
use Rattle.warnc_air.specs.declared.pcap.PcapFault.{PcapFault}
use Rattle.warnc_air.specs.declared.pcap.PcapFault.TheVariants as pcap
use Rattle.warnc_air.specs.declared.tape.TapeCommandFault.{TapeCommandFault}
use Rattle.warnc_air.specs.declared.tape.TapeCommandFault.TheVariants as tape
use Rattle.warnc_inspect.specs.declared.page.PageFault.{PageFault}
use Rattle.warnc_inspect.specs.declared.page.PageFault.TheVariants as page
use Rattle.warnc_inspect.specs.declared.read.ReadCommandFault.{ReadCommandFault}
use Rattle.warnc_inspect.specs.declared.read.ReadCommandFault.TheVariants as table
use Rattle.warnc_run.specs.declared.fault.RunFault.{RunFault}
use Rattle.warnc_run.specs.declared.fault.RunFault.TheVariants as run
use Rattle.warnc_run.specs.declared.product.ProductFault.{ProductFault}
use Rattle.warnc_run.specs.declared.product.ProductFault.TheVariants as product
use Rattle.warnc_run.specs.declared.strict.StrictFault.{StrictFault}
use Rattle.warnc_run.specs.declared.strict.StrictFault.TheVariants as strict
use Rattle.warnc_verify.specs.declared.fault.VerifyFault.{VerifyFault}
use Rattle.warnc_verify.specs.declared.fault.VerifyFault.TheVariants as verify
use Rattle.warnc_verdict.specs.declared.fault.VerifyOrdersFault.{VerifyOrdersFault}
use Rattle.warnc_verdict.specs.declared.fault.VerifyOrdersFault.TheVariants as judge

-- the status of a fault: 1 if the input is refused, 3 if a device failed, 4 if out of memory
abbrev pub status_of_page_fault : PageFault → ℕ
status_of_page_fault page.ReadFailed = 3
status_of_page_fault page.TooLong = 1
status_of_page_fault page.NotUtf8 = 1
status_of_page_fault (page.Text text.Refused) = 4
status_of_page_fault (page.Text _) = 1
status_of_page_fault page.Refused = 4
status_of_page_fault page.WriteFailed = 3

-- a book's reader failed if the fault names no row
abbrev pub status_of_book_kind : (row : ℕ) → BookFaultKind → ℕ
status_of_book_kind row kinds.ReadFailed = if row == 0 then 3 else 1
status_of_book_kind row kinds.Refused = 4
status_of_book_kind row (kinds.Text text.Refused) = 4
status_of_book_kind row other = 1

abbrev pub status_of_book_fault : BookFault → ℕ
status_of_book_fault f = status_of_book_kind f.row f.kind

abbrev pub status_of_read_fault : ReadCommandFault → ℕ
status_of_read_fault table.Short = 1
status_of_read_fault table.Long = 1
status_of_read_fault table.ReadFailed = 3
status_of_read_fault table.Refused = 4
status_of_read_fault table.WriteFailed = 3

abbrev pub status_of_pcap_fault : PcapFault → ℕ
status_of_pcap_fault pcap.Short = 1
status_of_pcap_fault pcap.Long = 1
status_of_pcap_fault pcap.ReadFailed = 3
status_of_pcap_fault pcap.Refused = 4
status_of_pcap_fault pcap.WriteFailed = 3

abbrev pub status_of_tape_fault : TapeCommandFault → ℕ
status_of_tape_fault tape.ReadFailed = 3
status_of_tape_fault tape.TooLong = 1
status_of_tape_fault (tape.Air why) = 1
status_of_tape_fault tape.Refused = 4
status_of_tape_fault tape.WriteFailed = 3

abbrev pub status_of_orders_fault : OrdersCommandFault → ℕ
status_of_orders_fault orders.ReadFailed = 3
status_of_orders_fault orders.TooLong = 1
status_of_orders_fault (orders.Air why) = 1
status_of_orders_fault (orders.NoTime packet) = 1
status_of_orders_fault (orders.Early packet first_slot) = 1
status_of_orders_fault orders.Refused = 4
status_of_orders_fault orders.WriteFailed = 3

-- that of `tape` of all cells
abbrev pub status_of_tapes_of_all : AllTapesFault → ℕ
status_of_tapes_of_all all.TableReadFailed = 3
status_of_tapes_of_all all.TableTooLong = 1
status_of_tapes_of_all (all.Table f) = 1
status_of_tapes_of_all all.ReadFailed = 3
status_of_tapes_of_all all.TooLong = 1
status_of_tapes_of_all (all.Air why) = 1
status_of_tapes_of_all (all.NoBlock row) = 1
status_of_tapes_of_all all.Refused = 4
status_of_tapes_of_all all.WriteFailed = 3

-- that of `check`, 1 if there are faults
abbrev pub status_of_check_fault : CheckFault → ℕ
status_of_check_fault (check.Faults count) = 1
status_of_check_fault (check.NoGroup groups) = 1
status_of_check_fault check.TooLong = 1
status_of_check_fault check.ReadFailed = 3
status_of_check_fault check.Refused = 4
status_of_check_fault check.WriteFailed = 3

-- that of `check --slots`, 1 if there are faults, or remarks where there are to be none
abbrev pub status_of_remark_fault : RemarkFault → ℕ
status_of_remark_fault (remark.Faults count) = 1
status_of_remark_fault (remark.NoGroup groups) = 1
status_of_remark_fault remark.TooLong = 1
status_of_remark_fault remark.ReadFailed = 3
status_of_remark_fault (remark.Run f) = 1
status_of_remark_fault (remark.Remarks count) = 1
status_of_remark_fault remark.Refused = 4
status_of_remark_fault remark.WriteFailed = 3

abbrev pub status_of_texts_fault : TextsFault → ℕ
status_of_texts_fault texts.ReadFailed = 3
status_of_texts_fault texts.TooLong = 1
status_of_texts_fault (texts.Row f) = 1
status_of_texts_fault (texts.NoGroup groups) = 1
status_of_texts_fault texts.Refused = 4
status_of_texts_fault texts.WriteFailed = 3

abbrev pub status_of_plan_fault : PlanFault → ℕ
status_of_plan_fault plan.ReadFailed = 3
status_of_plan_fault plan.TooLong = 1
status_of_plan_fault (plan.Row f) = 1
status_of_plan_fault plan.Refused = 4
status_of_plan_fault plan.WriteFailed = 3

abbrev pub status_of_desk_fault : DeskFault → ℕ
status_of_desk_fault (desk.Memory done) = 4
status_of_desk_fault other = 1

abbrev pub status_of_settle_fault : SettleFault → ℕ
status_of_settle_fault settle.Refused = 4
status_of_settle_fault other = 1

abbrev pub status_of_compile_fault : CompileFault → ℕ
status_of_compile_fault compile.Refused = 4
status_of_compile_fault other = 1

abbrev pub status_of_run_fault : RunFault → ℕ
status_of_run_fault (run.Book f) = status_of_book_fault f
status_of_run_fault (run.NoGroup groups) = 1
status_of_run_fault (run.Desk f) = status_of_desk_fault f
status_of_run_fault (run.Settle f) = status_of_settle_fault f
status_of_run_fault (run.Compile f) = status_of_compile_fault f
status_of_run_fault (run.Write failed) = 3
status_of_run_fault run.Refused = 4

abbrev pub status_of_product_fault : ProductFault → ℕ
status_of_product_fault (product.Run f) = status_of_run_fault f
status_of_product_fault (product.Group group f) = status_of_run_fault f
status_of_product_fault product.WriteFailed = 3

-- that of a run whose orders are all to be done, 1 if one wasn't
abbrev pub status_of_strict_fault : StrictFault → ℕ
status_of_strict_fault (strict.Product f) = status_of_product_fault f
status_of_strict_fault (strict.Undone refused idle) = 1

abbrev pub status_of_tapes_fault : TapeFault → ℕ
status_of_tapes_fault tapes.Short = 1
status_of_tapes_fault tapes.Long = 1
status_of_tapes_fault tapes.ReadFailed = 3
status_of_tapes_fault tapes.Refused = 4

-- that of `verify`, 1 if there are differences
abbrev pub status_of_verify_fault : VerifyFault → ℕ
status_of_verify_fault (verify.Run f) = status_of_run_fault f
status_of_verify_fault (verify.Tapes f) = status_of_tapes_fault f
status_of_verify_fault (verify.Differences count) = 1
status_of_verify_fault verify.Refused = 4
status_of_verify_fault verify.WriteFailed = 3

-- that of `verify` of orders, 1 if there are differences
abbrev pub status_of_verify_orders_fault : VerifyOrdersFault → ℕ
status_of_verify_orders_fault judge.Unread = 3
status_of_verify_orders_fault judge.TooLong = 1
status_of_verify_orders_fault (judge.Orders f) = 1
status_of_verify_orders_fault (judge.Tapes f) = status_of_tapes_fault f
status_of_verify_orders_fault (judge.Differences count) = 1
status_of_verify_orders_fault judge.Refused = 4
status_of_verify_orders_fault judge.WriteFailed = 3
