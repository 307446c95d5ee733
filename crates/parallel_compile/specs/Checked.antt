-- Tapes that are compared with those of records (own).
use Rattle.std.specs.Prelude.{◌≡◌, ◌≢◌, ℕ, ◌<◌, Option, Some, None, List}
use Rattle.std.specs.List.{slice_get}
use Rattle.parallel_compile.specs.declared.fault.CompileFault.{CompileFault}
use Rattle.parallel_compile.specs.declared.fault.CompileFault.TheVariants as fault

-- the least place at which two lists of tapes differ, if they do: one of them may end there
abbrev pub IsFirstOther : (tapes wanted : List (List ℕ)) → Option ℕ → Type 0
IsFirstOther tapes wanted None = tapes ≡ wanted
IsFirstOther tapes wanted (Some place) =
    (slice_get tapes place ≢ slice_get wanted place)
    × ((lesser : ℕ) → lesser < place → slice_get tapes lesser ≡ slice_get wanted lesser)

-- the fault that names it
abbrev pub IsFirstOtherFault : (tapes wanted : List (List ℕ)) → CompileFault → Type 0
IsFirstOtherFault tapes wanted fault.Workers = ⊥
IsFirstOtherFault tapes wanted fault.Refused = ⊥
IsFirstOtherFault tapes wanted (fault.Piece index) = IsFirstOther tapes wanted (Some index)
