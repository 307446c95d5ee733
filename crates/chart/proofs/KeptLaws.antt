-- Messages that are kept, after one more entry.
use Rattle.std.proofs.Common.{◌≡◌, ◌<◌, ◌++◌, ◌∙◌, ℕ, [], ◌∷◌, List, Option, Some, None, map, ap, ap₂, refl}
use Rattle.std.proofs.Common.{sym, subst, false}
use Rattle.std.proofs.lemmas.List.{map-append}
use Rattle.std.specs.Option.{option_map, option_to_list}
use Rattle.std.proofs.lemmas.List.Elements.{All-append, All-cons, All-map, All-nil}
use Rattle.bsc_table.specs.Record.{Accepted, accepted_after, added_by, is_stop_by, start_of, stop_after}
use Rattle.bsc_table.specs.Record.{stopped_by}
use Rattle.bsc_table.specs.declared.command.Command.{Command}
use Rattle.bsc_table.specs.declared.command.Command.TheVariants as commands
use Rattle.bsc_table.specs.declared.entry.Answer.{Answer}
use Rattle.bsc_table.specs.declared.entry.Answer.TheVariants as answers
use Rattle.bsc_table.specs.declared.entry.Entry.{Entry}
use Rattle.chart.specs.declared.kept.KeptMessage.{KeptMessage}
use Rattle.chart.specs.Kept.{accepted_kept, all_kept, kept_stopped, stops, HavePeriods}

-- they are the accepted messages, stopped where the entry stops them
pub all_stopped : (e : Entry) (kept : List KeptMessage)
    → all_kept (map (kept_stopped e) kept) ≡ map (stopped_by e) (all_kept kept)
all_stopped e [] = refl
all_stopped e (k ∷ rest) =
    ap (λ (after : List Accepted). stopped_by e (accepted_kept k) ∷ after) (all_stopped e rest)

-- and they keep their periods
pub periods_stopped : (e : Entry) (kept : List KeptMessage) → HavePeriods kept → HavePeriods (map (kept_stopped e) kept)
periods_stopped e kept periods = All-map (λ (k : KeptMessage). 0 < k.period) (kept_stopped e) kept periods

-- one more entry stops them, and adds what it adds
pub added_after : (place : ℕ) (e : Entry) (old stopped new : List KeptMessage) (added : Option KeptMessage)
    → stopped ≡ map (kept_stopped e) old
    → new ≡ stopped ++ option_to_list added
    → option_to_list (option_map accepted_kept added)
    ≡ added_by (all_kept old) place e.slot (start_of e.answer) e.command
    → all_kept new ≡ accepted_after (all_kept old) place e
added_after place e old stopped new added are is adds =
    ap all_kept is
    ∙ map-append accepted_kept stopped (option_to_list added)
    ∙ ap₂ (λ (xs ys : List Accepted). xs ++ ys) (ap all_kept are ∙ all_stopped e old) (of_option added ∙ adds)
  where
    of_option : (one : Option KeptMessage)
        → all_kept (option_to_list one) ≡ option_to_list (option_map accepted_kept one)
    of_option None = refl
    of_option (Some k) = refl

-- and one more has a period too
pub periods_added : (e : Entry) (old stopped new : List KeptMessage) (added : KeptMessage)
    → stopped ≡ map (kept_stopped e) old
    → new ≡ stopped ++ added ∷ []
    → HavePeriods old
    → 0 < added.period
    → HavePeriods new
periods_added e old stopped new added are is periods period =
    subst HavePeriods (sym is)
    (All-append (λ (k : KeptMessage). 0 < k.period) stopped (added ∷ [])
    (subst HavePeriods (sym are) (periods_stopped e old periods))
    (All-cons (λ (k : KeptMessage). 0 < k.period) added [] period (All-nil (λ (k : KeptMessage). 0 < k.period))))

-- an entry whose answer doesn't say that a message was stopped stops none
kills_none : (id serial of_id of_serial : ℕ) (answer : Answer) → stops answer ≡ false
    → is_stop_by id serial (commands.Kill of_id of_serial) answer ≡ false
kills_none id serial of_id of_serial (answers.Started slot) none = refl
kills_none id serial of_id of_serial (answers.Replaced slot completed) none = absurd cc
kills_none id serial of_id of_serial (answers.Stopped completed) none = absurd cc
kills_none id serial of_id of_serial (answers.Told completed state) none = refl
kills_none id serial of_id of_serial answers.Unknown none = refl
kills_none id serial of_id of_serial (answers.Cause cause) none = refl
kills_none id serial of_id of_serial answers.Refused none = refl

stops_none : (id serial : ℕ) (command : Command) (answer : Answer) → stops answer ≡ false
    → is_stop_by id serial command answer ≡ false
stops_none id serial (commands.Kill of_id of_serial) answer none = kills_none id serial of_id of_serial answer none
stops_none id serial (commands.Status of_id of_serial) answer none = refl
stops_none id serial (commands.Write of_id new None category dcs period broadcasts contents) answer none = refl
stops_none id serial (commands.Write of_id new (Some of_serial) category dcs period broadcasts contents) answer none =
    by_answer answer none
  where
    by_answer : (a : Answer) → stops a ≡ false
        → is_stop_by id serial (commands.Write of_id new (Some of_serial) category dcs period broadcasts contents) a
        ≡ false
    by_answer (answers.Started slot) kept = refl
    by_answer (answers.Replaced slot completed) kept = absurd cc
    by_answer (answers.Stopped completed) kept = absurd cc
    by_answer (answers.Told completed state) kept = refl
    by_answer answers.Unknown kept = refl
    by_answer (answers.Cause cause) kept = refl
    by_answer answers.Refused kept = refl

-- and each message stays as it is
stop_stays : (stop : Option ℕ) (slot : ℕ) → stop_after stop false slot ≡ stop
stop_stays None slot = refl
stop_stays (Some at) slot = refl

message_stays : (e : Entry) (k : KeptMessage) → stops e.answer ≡ false → kept_stopped e k ≡ k
message_stays e k none =
    ap (λ (stop : Option ℕ). record k { stop = stop })
    (rw (stops_none k.id k.serial e.command e.answer none) (stop_stays k.stop e.slot))

-- so an entry that stops none leaves all as they are
pub messages_stay : (e : Entry) (kept : List KeptMessage) → stops e.answer ≡ false
    → map (kept_stopped e) kept ≡ kept
messages_stay e [] none = refl
messages_stay e (k ∷ rest) none =
    ap₂ (λ (one : KeptMessage) (others : List KeptMessage). one ∷ others) (message_stays e k none)
    (messages_stay e rest none)
