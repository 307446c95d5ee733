-- The entries of a log that were accepted, and what the others do (own): nothing.
use Rattle.std.specs.Prelude.{◌≡◌, ℕ, Bool, true, false, is_some, ◌||◌, List, [], ◌∷◌, ◌++◌, map, filter}
use Rattle.std.specs.List.{slice_get}
use Rattle.std.specs.Option.{option_map}
use Rattle.scheduler.specs.Renumbered.{KeepsOrder, renumbered}
use Rattle.bsc_table.specs.declared.entry.Entry.{Entry}
use Rattle.bsc_table.specs.Record.{Accepted, start_of, accepted_in}
use Rattle.bsc_table.specs.declared.entry.Answer.{Answer}
use Rattle.bsc_table.specs.declared.entry.Answer.TheVariants as answers

-- an answer that kills
abbrev pub is_kill_answer : Answer → Bool
is_kill_answer (answers.Stopped completed) = true
is_kill_answer other = false

-- an answer that accepts a write or a kill
abbrev pub is_accepting : Answer → Bool
is_accepting answer = is_some (start_of answer) || is_kill_answer answer

-- an entry that was accepted: a write that starts a message, or a kill that stops one
abbrev pub is_accepted : Entry → Bool
is_accepted e = is_accepting e.answer

-- the accepted entries of a log, in order
abbrev pub accepted_entries : List Entry → List Entry
accepted_entries log = filter is_accepted log

-- an entry that was not accepted leaves each accepted message as it was: its number, its start, its stop and so its
-- reservation
abbrev pub RefusalsChangeNothing : Type 0
RefusalsChangeNothing = (log : List Entry) (e : Entry) → is_accepted e ≡ false
    → accepted_in (log ++ e ∷ []) ≡ accepted_in log

-- an accepted message under another number, where the one behind which it waits has another, too
abbrev pub accepted_renumbered : (ℕ → ℕ) → Accepted → Accepted
accepted_renumbered f a = record a { message = renumbered f a.message; behind = option_map f a.behind }

-- `place` gives each accepted entry's place in the log by its place among the accepted ones, in order; and the
-- accepted messages of the log are those of the accepted entries alone, numbered by these places
pub record AreThePlaces (log : List Entry) (place : ℕ → ℕ) : Type 0 where
  pub order : KeepsOrder place
  pub there : (n : ℕ) → slice_get log (place n) ≡ slice_get (accepted_entries log) n
  pub same_messages : accepted_in log ≡ map (accepted_renumbered place) (accepted_in (accepted_entries log))

-- so the accepted entries of a log alone determine its accepted messages, but for their numbers, of which the order
-- is kept
abbrev pub AcceptedEntriesAreAll : Type 0
AcceptedEntriesAreAll = (log : List Entry) → (place : ℕ → ℕ) × AreThePlaces log place
