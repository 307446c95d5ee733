-- The run of a book that is read from memory, and of the group of a network that was.
use Rattle.std.proofs.Common.{◌≡◌, ℕ, ◌++◌, List, Option, None, Some, ap, append-nil, refl, rules, subst, sym, ◌∙◌}
use Rattle.std.specs.Io.KnownBytes.{Consumes, IsAtEnd}
use Rattle.alert_book.specs.declared.judging.bounds.Extent.TheVariants as extent
use Rattle.alert_book.specs.declared.network.Origin.{Origin}
use Rattle.alert_book.specs.declared.network.Origin.TheVariants as origin
use Rattle.alert_book.specs.Book.{Contents}
use Rattle.alert_book.specs.Network.{HasGroups, MeansNetwork, NetworkRows}
use Rattle.alert_book.specs.Origin.{IsBookFrom, LacksGroup}
use Rattle.bsc_table.specs.Record.{Record}
use Rattle.order_desk.specs.declared.fault.DeskFault.TheVariants as desk
use Rattle.order_desk.specs.declared.settle.SettleFault.TheVariants as settle
use Rattle.warnc_run.specs.Faults.{HasReadFrom, StopsRun}
use Rattle.warnc_run.specs.Records.{HasNoRunOfGroup, HasRunWith, IsRecordsFault, IsRunWith}
use Rattle.warnc_run.specs.declared.fault.RunFault.{RunFault}
use Rattle.warnc_run.specs.declared.fault.RunFault.TheVariants as run
use Rattle.book_remarks.specs.Remarked.{IsStopped}
use Rattle.book_remarks.specs.RemarkedSteps.{IsStop, extent_of, stop_of}

-- what was read of octets to their end is these octets
whole : (octets input : List ℕ) (last : Option (List ℕ)) → Consumes (Some octets) last input → IsAtEnd last
    → input ≡ octets
whole octets input None read ended = absurd read
whole octets input (Some rest) read ended =
    sym (read ∙ ap (λ (r : List ℕ). input ++ r) ended ∙ append-nil input)

-- the records are those of the octets' run
pub of_memory : (from : Origin) (slots : ℕ) (octets : List ℕ) (first last : Option (List ℕ)) (book : Contents)
    (records : List Record)
    → HasRunWith from slots first last book records
    → first ≡ Some octets
    → IsRunWith from slots octets book records
of_memory from slots octets first last book records has is =
    subst (λ (xs : List ℕ). IsRunWith from slots xs book records)
    (whole octets has.input last (subst (λ (f : Option (List ℕ)). Consumes f last has.input) is has.read) has.ended)
    has.made

book_read : (from : Origin) (octets : List ℕ) (last : Option (List ℕ)) (read : HasReadFrom from (Some octets) last)
    → IsBookFrom from octets read.book
book_read from octets last read =
    subst (λ (xs : List ℕ). IsBookFrom from xs read.book) (whole octets read.input last read.read read.ended)
    read.is_book

-- a run that ends early is one of what is looked at
stopped_run : (from : Origin) (slots : ℕ) (octets : List ℕ) (last : Option (List ℕ)) (f : RunFault)
    (read : HasReadFrom from (Some octets) last)
    → StopsRun read.book slots 1 f
    → IsStopped (extent_of from) slots octets f
stopped_run origin.Book slots octets last f read stops = (read.book, book_read origin.Book octets last read, stops)
stopped_run (origin.Group group) slots octets last f read stops =
    (read.book, book_read (origin.Group group) octets last read, stops)

-- a network that was read lacks the group
lacking : (from : Origin) (slots : ℕ) (octets : List ℕ) (last : Option (List ℕ)) (groups : ℕ)
    → LacksGroup from (Some octets) last groups
    → IsStop (extent_of from) slots octets (stop_of (run.NoGroup groups))
lacking origin.Book slots octets last groups lacks = absurd lacks
lacking (origin.Group group) slots octets last groups lacks =
    let counts = lacks.1 in (
      subst (λ (xs : List ℕ). HasGroups group xs groups) (whole octets counts.input last counts.consumed counts.ended)
          counts.meant,
      lacks.0,
    )

-- why there are none
stops_at : (from : Origin) (slots : ℕ) (octets : List ℕ) (last : Option (List ℕ)) (f : RunFault)
    → IsRecordsFault from slots (Some octets) last f
    → IsStop (extent_of from) slots octets (stop_of f)
stops_at from slots octets last (run.Book f) why = tt
stops_at from slots octets last (run.NoGroup groups) why = lacking from slots octets last groups why.1.0
stops_at from slots octets last (run.Desk (desk.Wire f)) why = tt
stops_at from slots octets last (run.Desk (desk.Cause cause)) why = tt
stops_at from slots octets last (run.Desk desk.Unknown) why =
    stopped_run from slots octets last (run.Desk desk.Unknown) why.1.1 refl
stops_at from slots octets last (run.Desk desk.Full) why = tt
stops_at from slots octets last (run.Desk (desk.Memory done)) why = tt
stops_at from slots octets last (run.Settle (settle.Strange cell number)) why =
    stopped_run from slots octets last (run.Settle (settle.Strange cell number)) why.1.0
    ((λ same. search (rules, same)), why.1.1)
stops_at from slots octets last (run.Settle (settle.Overlap cell slot)) why =
    stopped_run from slots octets last (run.Settle (settle.Overlap cell slot)) why.1.0
    ((λ same. search (rules, same)), why.1.1)
stops_at from slots octets last (run.Settle (settle.Session part)) why =
    stopped_run from slots octets last (run.Settle (settle.Session part)) why.1.0
    ((λ same. search (rules, same)), why.1.1)
stops_at from slots octets last (run.Settle settle.Refused) why = tt
stops_at from slots octets last (run.Compile f) why = tt
stops_at from slots octets last (run.Write failed) why = tt
stops_at from slots octets last run.Refused why = tt

-- the same of a reader that has these octets
pub stopped : (from : Origin) (slots : ℕ) (octets : List ℕ) (first last : Option (List ℕ)) (f : RunFault)
    → IsRecordsFault from slots first last f
    → first ≡ Some octets
    → IsStop (extent_of from) slots octets (stop_of f)
stopped from slots octets first last f why is =
    stops_at from slots octets last f (subst (λ (left : Option (List ℕ)). IsRecordsFault from slots left last f) is why)

-- why a group of a network has none
pub stopped_group : (network : NetworkRows) (group slots : ℕ) (octets : List ℕ) (f : RunFault)
    → HasNoRunOfGroup network group slots f
    → MeansNetwork octets network
    → IsStop extent.Network slots octets (stop_of f)
stopped_group network group slots octets (run.Book f) why means = tt
stopped_group network group slots octets (run.NoGroup groups) why means = absurd (why octets means).2
stopped_group network group slots octets (run.Desk (desk.Wire f)) why means = tt
stopped_group network group slots octets (run.Desk (desk.Cause cause)) why means = tt
stopped_group network group slots octets (run.Desk desk.Unknown) why means =
    let own = why octets means in (group, (own.0, own.1, refl))
stopped_group network group slots octets (run.Desk desk.Full) why means = tt
stopped_group network group slots octets (run.Desk (desk.Memory done)) why means = tt
stopped_group network group slots octets (run.Settle (settle.Strange cell number)) why means =
    let own = why octets means in (group, (own.0, own.1, ((λ same. search (rules, same)), own.2)))
stopped_group network group slots octets (run.Settle (settle.Overlap cell slot)) why means =
    let own = why octets means in (group, (own.0, own.1, ((λ same. search (rules, same)), own.2)))
stopped_group network group slots octets (run.Settle (settle.Session part)) why means =
    let own = why octets means in (group, (own.0, own.1, ((λ same. search (rules, same)), own.2)))
stopped_group network group slots octets (run.Settle settle.Refused) why means = tt
stopped_group network group slots octets (run.Compile f) why means = tt
stopped_group network group slots octets (run.Write failed) why means = tt
stopped_group network group slots octets run.Refused why means = tt
