-- What the engines refuse: a fault of status 1 is one of the input.
use Rattle.std.proofs.Common.{◌≡◌, ◌≢◌, ◌⊎◌, ℕ, ◌+◌, ◌<◌, List, Option, None, Some, IfSome, length}
use Rattle.std.proofs.Common.{refl, rules, sym, ap, ◌∙◌, subst, arith, inl, inr}
use Rattle.std.proofs.lemmas.List.{length-append}
use Rattle.std.specs.Io.KnownBytes.{Consumes, IsAtEnd}
use Rattle.alert_book.specs.declared.fault.BookFault.{BookFault}
use Rattle.alert_book.specs.declared.network.Origin.{Origin}
use Rattle.alert_book.specs.declared.network.Origin.TheVariants as origin
use Rattle.alert_book.specs.Book.{IsWrong, max_book, refused, too_long, unread}
use Rattle.alert_book.specs.Network.{HasGroups, IsWrongNetwork, max_network}
use Rattle.alert_book.specs.Origin.{IsBookFrom, LacksGroup, RefusesFrom}
use Rattle.order_desk.specs.declared.fault.DeskFault.{DeskFault}
use Rattle.order_desk.specs.declared.fault.DeskFault.TheVariants as desk
use Rattle.order_desk.specs.declared.settle.SettleFault.TheVariants as settle
use Rattle.parallel_compile.specs.declared.fault.CompileFault.TheVariants as compile
use Rattle.alert_book.specs.Network.{IsGroupBook}
use Rattle.report.specs.declared.row.Columns.TheVariants as columns
use Rattle.warnc_run.specs.Engine.{IsOutputFault}
use Rattle.warnc_run.specs.Faults.{HasReadFrom, IsDeskFault, IsOfProduct, IsRunFault}
use Rattle.warnc_run.specs.Groups.{IsGroupsFault}
use Rattle.warnc_run.specs.Network.{HasNoPart}
use Rattle.warnc_run.specs.Products.{IsOutput, untimed}
use Rattle.warnc_run.specs.Records.{IsRecordsFault}
use Rattle.warnc_run.specs.declared.fault.RunFault.{RunFault}
use Rattle.warnc_run.specs.declared.fault.RunFault.TheVariants as run
use Rattle.warnc_run.specs.declared.run.Books.{Books}
use Rattle.warnc_run.specs.declared.run.Books.TheVariants as books
use Rattle.warnc_run.specs.declared.product.Product.{Product}
use Rattle.warnc_run.specs.declared.product.Product.TheVariants as product
use Rattle.warnc_run.specs.declared.product.ProductFault.{ProductFault}
use Rattle.warnc_run.specs.declared.product.ProductFault.TheVariants as fault
use Rattle.warnc_verify.proofs.Inputs.{whole}
use Rattle.warnc_cli.specs.Status.{status_of_book_fault, status_of_product_fault, status_of_run_fault}
use Rattle.warnc_cli.specs.Status.{status_of_settle_fault}
use Rattle.warnc_cli.specs.Tasks.{IsNoBook, IsNoBookFrom, IsNoNetwork, IsNoNetworkRun, IsNoRun, IsNoRunOf}

-- octets that were read of an input are no more than it has
no_longer : (most : ℕ) (book input : List ℕ) (last : Option (List ℕ)) → Consumes (Some book) last input
    → length input ≡ most + 1
    → most < length book
no_longer most book input None read long = absurd read
no_longer most book input (Some rest) read long =
    let all = ap length read in
    let both = length-append input rest in
    omega (arith, all, both, long)

no_book : (book input : List ℕ) (last : Option (List ℕ)) (f : BookFault) → Consumes (Some book) last input
    → (f ≡ refused) ⊎ ((f ≡ unread) ⊎ (((f ≡ too_long) × (length input ≡ max_book + 1))
    ⊎ (IsAtEnd last × IsWrong input f)))
    → status_of_book_fault f ≡ 1
    → IsNoBook book
no_book book input last f read (inl same) is = absurd (omega (arith, sym (ap status_of_book_fault same) ∙ is))
no_book book input last f read (inr (inl same)) is = absurd (omega (arith, sym (ap status_of_book_fault same) ∙ is))
no_book book input last f read (inr (inr (inl long))) is = inl (no_longer max_book book input last read long.1)
no_book book input last f read (inr (inr (inr wrong))) is =
    inr (f, subst (λ (octets : List ℕ). IsWrong octets f) (whole book input last read wrong.0) wrong.1, is)

-- octets that are refused as a network book are none
pub no_network : (group : ℕ) (book input : List ℕ) (last : Option (List ℕ)) (f : BookFault)
    → Consumes (Some book) last input
    → (f ≡ refused) ⊎ ((f ≡ unread) ⊎ (((f ≡ too_long) × (length input ≡ max_network + 1))
    ⊎ (IsAtEnd last × IsWrongNetwork group input f)))
    → status_of_book_fault f ≡ 1
    → IsNoNetwork group book
no_network group book input last f read (inl same) is =
    absurd (omega (arith, sym (ap status_of_book_fault same) ∙ is))
no_network group book input last f read (inr (inl same)) is =
    absurd (omega (arith, sym (ap status_of_book_fault same) ∙ is))
no_network group book input last f read (inr (inr (inl long))) is =
    inl (no_longer max_network book input last read long.1)
no_network group book input last f read (inr (inr (inr wrong))) is =
    inr (f, subst (λ (octets : List ℕ). IsWrongNetwork group octets f) (whole book input last read wrong.0) wrong.1, is)

-- the input has no such book
no_book_from : (from : Origin) (book : List ℕ) (last : Option (List ℕ)) (f : BookFault)
    → RefusesFrom from (Some book) last f
    → status_of_book_fault f ≡ 1
    → IsNoBookFrom from book
no_book_from origin.Book book last f why is = no_book book why.input last f why.consumed why.why is
no_book_from (origin.Group group) book last f why is =
    inl (no_network group book why.input last f why.consumed why.why is)

no_group : (from : Origin) (book : List ℕ) (last : Option (List ℕ)) (groups : ℕ)
    → LacksGroup from (Some book) last groups
    → IsNoBookFrom from book
no_group origin.Book book last groups why = absurd why
no_group (origin.Group group) book last groups why =
    inr (
      groups,
      why.0,
      subst (λ (octets : List ℕ). HasGroups group octets groups)
          (whole book why.1.input last why.1.consumed why.1.ended) why.1.meant,
    )

-- a book that was read, and whose run ended early
book_read : (from : Origin) (book : List ℕ) (last : Option (List ℕ)) (read : HasReadFrom from (Some book) last)
    → IsBookFrom from book read.book
book_read from book last read =
    subst (λ (octets : List ℕ). IsBookFrom from octets read.book) (whole book read.input last read.read read.ended)
    read.is_book

stopped_desk : (from : Origin) (slots parts : ℕ) (book : List ℕ) (last : Option (List ℕ)) (f : DeskFault)
    → IsDeskFault f
    → HasReadFrom from (Some book) last
    → status_of_run_fault (run.Desk f) ≡ 1
    → IsNoRun from slots parts book
stopped_desk from slots parts book last (desk.Memory done) why read is = absurd (omega (arith, is))
stopped_desk from slots parts book last desk.Unknown why read is =
    inr (read.book, book_read from book last read, (run.Desk desk.Unknown, refl))
stopped_desk from slots parts book last other why read is = absurd why

-- a fault of a run with status 1 says that the book is none, or has no run
pub no_run_here : (from : Origin) (slots parts : ℕ) (Means : (input output : List ℕ) → Type 0) (book : List ℕ)
    (last old new : Option (List ℕ)) (made : Product) (f : RunFault)
    → IsOfProduct f made
    → IsRunFault from slots parts Means (Some book) last old new f
    → status_of_run_fault f ≡ 1
    → IsNoRun from slots parts book
no_run_here from slots parts Means book last old new made (run.Book f) of why is =
    inl (no_book_from from book last f why.0 is)
no_run_here from slots parts Means book last old new made (run.NoGroup groups) of why is =
    inl (no_group from book last groups why.0)
no_run_here from slots parts Means book last old new made (run.Desk f) of why is =
    stopped_desk from slots parts book last f why.0 why.1 is
no_run_here from slots parts Means book last old new made (run.Settle f) of why is =
    let read = why.0 in
    let other : f ≢ settle.Refused =
    λ same. omega (arith, sym (ap status_of_settle_fault same) ∙ is) in
    inr (read.book, book_read from book last read, (run.Settle f, (other, why.1)))
no_run_here from slots parts Means book last old new made (run.Compile compile.Workers) of why is = absurd of
no_run_here from slots parts Means book last old new made (run.Compile compile.Refused) of why is =
    absurd (omega (arith, is))
no_run_here from slots parts Means book last old new made (run.Compile (compile.Piece index)) of why is =
    inr (why.0.book, book_read from book last why.0, (run.Compile (compile.Piece index), tt))
no_run_here from slots parts Means book last old new made (run.Write failed) of why is = absurd (omega (arith, is))
no_run_here from slots parts Means book last old new made run.Refused of why is = absurd (omega (arith, is))

-- the records of a book
pub no_records : (from : Origin) (slots : ℕ) (book : List ℕ) (last : Option (List ℕ)) (f : RunFault)
    → IsRecordsFault from slots (Some book) last f
    → status_of_run_fault f ≡ 1
    → IsNoRun from slots 1 book
no_records from slots book last f why is =
    no_run_here from slots 1 (λ input output. ⊥) book last None None (product.Report (untimed columns.Plain)) f why.0
    why.1 is

-- a group that has no part, for another reason than memory, has a book whose run ended early
stopped_group : (slots parts group : ℕ) (book input : List ℕ) (f : RunFault)
    → input ≡ book
    → HasNoPart slots parts group input f
    → status_of_run_fault f ≡ 1
    → IsNoNetworkRun slots parts book
stopped_group slots parts group book input (run.Book f) same none is = absurd none.2
stopped_group slots parts group book input (run.NoGroup groups) same none is = absurd none.2
stopped_group slots parts group book input (run.Desk (desk.Memory done)) same none is = absurd (omega (arith, is))
stopped_group slots parts group book input (run.Desk desk.Unknown) same none is =
    inr (
      group,
      none.0,
      subst (λ (octets : List ℕ). IsGroupBook group octets none.0) same none.1,
      (run.Desk desk.Unknown, refl),
    )
stopped_group slots parts group book input (run.Desk other) same none is = absurd none.2
stopped_group slots parts group book input (run.Settle f) same none is =
    let other : f ≢ settle.Refused = λ out. omega (arith, sym (ap status_of_settle_fault out) ∙ is) in
    inr (
      group,
      none.0,
      subst (λ (octets : List ℕ). IsGroupBook group octets none.0) same none.1,
      (run.Settle f, (other, none.2)),
    )
stopped_group slots parts group book input (run.Compile compile.Workers) same none is = absurd (apart none.2)
  where
    apart : compile.Workers ≡ compile.Refused → ⊥
    apart h = search (rules, h)
stopped_group slots parts group book input (run.Compile compile.Refused) same none is = absurd (omega (arith, is))
stopped_group slots parts group book input (run.Compile (compile.Piece index)) same none is = absurd (apart none.2)
  where
    apart : compile.Piece index ≡ compile.Refused → ⊥
    apart h = search (rules, h)
stopped_group slots parts group book input (run.Write failed) same none is = absurd none.2
stopped_group slots parts group book input run.Refused same none is = absurd (omega (arith, is))

-- what the engine refuses with status 1
no_product : (b : Books) (slots parts : ℕ) (made : Product) (book : List ℕ) (last old new : Option (List ℕ))
    (f : ProductFault)
    → IsOutputFault made b slots parts (Some book) last old new f
    → status_of_product_fault f ≡ 1
    → IsNoRunOf b slots parts book
no_product (books.One from) slots parts made book last old new (fault.Run f) why is =
    no_run_here from slots parts (IsOutput made from slots parts) book last old new made f why.0 why.1 is
no_product (books.One from) slots parts made book last old new (fault.Group group f) why is = absurd why
no_product (books.One from) slots parts made book last old new fault.WriteFailed why is = absurd (omega (arith, is))
no_product books.EachGroup slots parts made book last old new (fault.Run (run.Book f)) why is =
    inl (no_network 0 book why.0.input last f why.0.consumed why.0.why is)
no_product books.EachGroup slots parts made book last old new (fault.Run other) why is = absurd why
no_product books.EachGroup slots parts made book last old new (fault.Group group f) why is =
    stopped_group slots parts group book why.0.input f (whole book why.0.input last why.0.read why.0.ended) why.2 is
no_product books.EachGroup slots parts made book last old new fault.WriteFailed why is = absurd (omega (arith, is))

-- and says so of the octets that the reader had left, if they are known
pub refused_product : (b : Books) (slots parts : ℕ) (made : Product) (first last old new : Option (List ℕ))
    (f : ProductFault)
    → IsOutputFault made b slots parts first last old new f
    → status_of_product_fault f ≡ 1
    → IfSome first (IsNoRunOf b slots parts)
refused_product b slots parts made None last old new f why is = tt
refused_product b slots parts made (Some book) last old new f why is =
    no_product b slots parts made book last old new f why is

-- a fault of `groups` with status 1 says that the input is no network book
pub no_groups : (first last old new : Option (List ℕ)) (f : ProductFault) → IsGroupsFault first last old new f
    → status_of_product_fault f ≡ 1
    → IfSome first (IsNoNetwork 0)
no_groups None last old new f why is = tt
no_groups (Some book) last old new (fault.Run (run.Book f)) why is =
    no_network 0 book why.0.input last f why.0.consumed why.0.why is
no_groups (Some book) last old new (fault.Run run.Refused) why is = absurd (omega (arith, is))
no_groups (Some book) last old new (fault.Run other) why is = absurd why
no_groups (Some book) last old new (fault.Group group f) why is = absurd why
no_groups (Some book) last old new fault.WriteFailed why is = absurd (omega (arith, is))
