-- Why nothing is made of octets in one thread. Own.
use Rattle.std.specs.Prelude.{ℕ, List}
use Rattle.alert_book.specs.Book.{Contents, IsBook, RefusesOctets}
use Rattle.warnc_run.specs.declared.fault.RunFault.{RunFault}
use Rattle.warnc_run.specs.declared.fault.RunFault.TheVariants as fault

-- why nothing is made of octets in runs with one session: they are no book, or they are one and memory ran out. No run
-- ends for another reason
abbrev pub IsUnmadeOf : (input : List ℕ) → RunFault → Type 0
IsUnmadeOf input (fault.Book f) = RefusesOctets input f
IsUnmadeOf input fault.Refused = (book : Contents) × IsBook input book
IsUnmadeOf input other = ⊥
