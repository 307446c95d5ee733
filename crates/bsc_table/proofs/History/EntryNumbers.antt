-- The numbers of the accepted messages: their places in the log.
use Rattle.std.proofs.Common.{◌≡◌, ℕ, ◌+◌, ◌<◌, Option, Some, None, List, [], ◌∷◌, ◌++◌, length, map, get_or, sym}
use Rattle.std.proofs.Common.{subst, arith}
use Rattle.std.specs.List.{All, AllPairs}
use Rattle.std.proofs.lemmas.List.{append-nil, get_or-map, length-map}
use Rattle.std.proofs.lemmas.List.Elements.{All-map, All-push, All-weaker, All-nil}
use Rattle.std.proofs.lemmas.List.Quantifiers.{all_pairs_push}
use Rattle.bsc_table.specs.declared.command.Command.{Command}
use Rattle.bsc_table.specs.declared.command.Command.TheVariants as commands
use Rattle.bsc_table.specs.declared.entry.Entry.{Entry}
use Rattle.bsc_table.specs.Record.{Accepted, start_of, rank_of, stopped_by, replaced_in, predecessor_of, written_behind}
use Rattle.bsc_table.specs.Record.{added_by, accepted_after, accepted_from, accepted_in}
use Rattle.bsc_table.proofs.History.Pairs.{BelowIt}

abbrev IsBelow : ℕ → Accepted → Type 0
IsBelow place a = a.message.entry < place

record AreNumbered (all : List Accepted) (place : ℕ) : Type 0 where
  pub rising : AllPairs BelowIt all
  pub below : All (IsBelow place) all

-- what holds of all pairs still does after a function that keeps it
pub AllPairs-map : (R : Accepted → Accepted → Type 0) (f : Accepted → Accepted)
    → ((a b : Accepted) → R a b → R (f a) (f b)) → (all : List Accepted) → AllPairs R all → AllPairs R (map f all)
AllPairs-map R f kept all pairs = λ i j d before within.
    let long = length-map all f in
    let first = get_or-map f all i d d (omega arith) in
    let second = get_or-map f all j d d (omega arith) in
    let First : Accepted → Type 0 = λ v. R v (get_or (map f all) j d) in
    let Second : Accepted → Type 0 = λ w. R (f (get_or all i d)) w in
    subst First (sym first) (subst Second (sym second) (kept (get_or all i d) (get_or all j d)
    (pairs i j d before (omega arith))))

numbered_later : (all : List Accepted) (place : ℕ) → AreNumbered all place → AreNumbered (all ++ []) (place + 1)
numbered_later all place numbered =
    let P : List Accepted → Type 0 = λ l. AreNumbered l (place + 1) in
    subst P (sym (append-nil all)) (record {
      rising = numbered.rising;
      below = All-weaker (IsBelow place)
          (IsBelow (place + 1)) (λ a h. omega arith) all numbered.below;
    })

numbered_with : (all before : List Accepted) (place slot : ℕ) (start : Option ℕ) (command : Command)
    → AreNumbered before place → AreNumbered (before ++ added_by all place slot start command) (place + 1)
numbered_with all before place slot None command numbered = numbered_later before place numbered
numbered_with all before place slot (Some start) (commands.Kill id serial) numbered = numbered_later before place
    numbered
numbered_with all before place slot (Some start) (commands.Status id serial) numbered = numbered_later before place
    numbered
numbered_with all before place slot (Some start) (commands.Write id serial replaces category dcs period broadcasts
    contents) numbered =
    let new : Accepted = written_behind all place slot start (predecessor_of slot start (replaced_in all id replaces))
    id
    serial (length contents) period broadcasts (rank_of category) in
    record {
      rising = all_pairs_push BelowIt before new numbered.rising (λ k d h. numbered.below k d h);
      below = All-push (IsBelow (place + 1)) before new (All-weaker (IsBelow place) (IsBelow (place + 1))
          (λ a h. omega arith) before numbered.below) (omega arith);
    }

numbered_after : (all : List Accepted) (place : ℕ) (e : Entry) → AreNumbered all place
    → AreNumbered (accepted_after all place e) (place + 1)
numbered_after all place e numbered =
    numbered_with all (map (stopped_by e) all) place e.slot (start_of e.answer) e.command (record {
      rising = AllPairs-map BelowIt (stopped_by e) (λ a b h. h) all numbered.rising;
      below = All-map (IsBelow place) (stopped_by e) all numbered.below;
    })

numbered_from : (all : List Accepted) (place : ℕ) (log : List Entry) → AreNumbered all place
    → AreNumbered (accepted_from all place log) (place + length log)
numbered_from all place [] numbered =
    let same : place ≡ place + 0 = omega arith in
    subst (AreNumbered all) same numbered
numbered_from all place (e ∷ log) numbered =
    let same : place + 1 + length log ≡ place + length (e ∷ log) = omega arith in
    subst (AreNumbered (accepted_from (accepted_after all place e) (place + 1) log)) same
    (numbered_from (accepted_after all place e) (place + 1) log (numbered_after all place e numbered))

-- numbers rise, and are below the length of the log
pub numbers_rise : (log : List Entry) → AllPairs BelowIt (accepted_in log)
numbers_rise log =
    (numbered_from [] 0 log (record { rising = λ i j d b w. absurd (omega arith); below = All-nil (IsBelow 0) })).rising

-- an accepted message's entry is one of the log
pub numbers_below : (log : List Entry) → All (λ a. a.message.entry < length log) (accepted_in log)
numbers_below log = λ k d h.
    let by = (numbered_from [] 0 log (record {
      rising = λ i j d b w. absurd (omega arith);
      below = All-nil (IsBelow 0);
    })).below k d h in
    omega arith
