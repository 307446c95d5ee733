-- The accepted messages of a log are those of its accepted entries alone, but for their numbers.
use Rattle.std.proofs.Common.{◌≡◌, ℕ, zero, suc, ◌+◌, ◌==◌, Bool, true, false, cond, Option, Some, None, is_some, List}
use Rattle.std.proofs.Common.{[], ◌∷◌, ◌++◌, length, map, get_or, refl, sym, ap, ◌∙◌, inl, inr, arith}
use Rattle.std.specs.Prelude.{◌||◌, nat_le}
use Rattle.std.specs.List.{slice_get, find}
use Rattle.std.specs.Option.{option_map}
use Rattle.std.proofs.lemmas.Bool.{cases_Bool, cases_order, eq-eqb, ne_eqb, false≢true, true≢false}
use Rattle.std.proofs.lemmas.List.{append-nil, map-append, map-id}
use Rattle.std.proofs.lemmas.Simd.{map-map}
use Rattle.admission.specs.Load.{load_of}
use Rattle.scheduler.specs.declared.plan.Rank.{Rank}
use Rattle.scheduler.specs.Renumbered.{KeepsOrder}
use Rattle.bsc_table.specs.declared.command.Command.{Command}
use Rattle.bsc_table.specs.declared.command.Command.TheVariants as commands
use Rattle.bsc_table.specs.declared.entry.Answer.{Answer}
use Rattle.bsc_table.specs.declared.entry.Answer.TheVariants as answers
use Rattle.bsc_table.specs.declared.entry.Entry.{Entry}
use Rattle.bsc_table.specs.Claim.{Claim, reserves}
use Rattle.bsc_table.specs.Handover.{ahead_of, numbered}
use Rattle.bsc_table.specs.Record.{Accepted, claim_of, claims_of, start_of, rank_of, is_stop_by, is_stop_of, is_of_pair}
use Rattle.bsc_table.specs.Record.{stopped_by, replaced_in, predecessor_of, excess_beyond, write_message}
use Rattle.bsc_table.specs.Record.{written_behind}
use Rattle.bsc_table.specs.Record.{added_by, accepted_after, accepted_from, accepted_in}
use Rattle.bsc_table.specs.Refusals.{is_kill_answer, is_accepted, accepted_entries, accepted_renumbered}
use Rattle.bsc_table.specs.Refusals.{AcceptedEntriesAreAll}
use Rattle.bsc_table.proofs.History.Pairs.{map_agree, stopped_once-false}

-- the place in the log of the entry that stands at a place among the accepted ones; past these, past the log
abbrev step : Bool → ℕ → (ℕ → ℕ) → ℕ
step true zero rest = 0
step true (suc n) rest = suc (rest n)
step false n rest = suc (rest n)

abbrev place_in : List Entry → ℕ → ℕ
place_in [] n = n
place_in (e ∷ log) n = step (is_accepted e) n (place_in log)

keeps_by : (says : Bool) (rest : ℕ → ℕ) → KeepsOrder rest → KeepsOrder (λ n. step says n rest)
keeps_by true rest keeps zero zero before = absurd (omega (arith, before))
keeps_by true rest keeps zero (suc b) before = omega arith
keeps_by true rest keeps (suc a) zero before = absurd (omega (arith, before))
keeps_by true rest keeps (suc a) (suc b) before = let h = keeps a b (omega (arith, before)) in omega (arith, h)
keeps_by false rest keeps a b before = let h = keeps a b before in omega (arith, h)

keeps_order : (log : List Entry) → KeepsOrder (place_in log)
keeps_order [] a b before = before
keeps_order (e ∷ log) a b before = keeps_by (is_accepted e) (place_in log) (keeps_order log) a b before

-- there stands that entry
found_by : (says : Bool) (e : Entry) (log front : List Entry) (n : ℕ)
    → ((m : ℕ) → slice_get log (place_in log m) ≡ slice_get front m)
    → slice_get (e ∷ log) (step says n (place_in log)) ≡ slice_get (cond says (e ∷ front) front) n
found_by true e log front zero rest = refl
found_by true e log front (suc n) rest = rest n
found_by false e log front n rest = rest n

found : (log : List Entry) (n : ℕ) → slice_get log (place_in log n) ≡ slice_get (accepted_entries log) n
found [] n = refl
found (e ∷ log) n = found_by (is_accepted e) e log (accepted_entries log) n (λ m. found log m)

-- a stop is an accepted entry
stops_by : (id serial : ℕ) (command : Command) (answer : Answer)
    → is_stop_by id serial command answer ≡ true
    → (is_some (start_of answer) || is_kill_answer answer) ≡ true
stops_by id serial (commands.Kill of_id of_serial) (answers.Stopped completed) h = refl
stops_by id serial (commands.Kill of_id of_serial) (answers.Started slot) h = refl
stops_by id serial (commands.Kill of_id of_serial) (answers.Replaced slot completed) h = refl
stops_by id serial (commands.Kill of_id of_serial) (answers.Told completed state) h = absurd (false≢true h)
stops_by id serial (commands.Kill of_id of_serial) answers.Unknown h = absurd (false≢true h)
stops_by id serial (commands.Kill of_id of_serial) (answers.Cause cause) h = absurd (false≢true h)
stops_by id serial (commands.Kill of_id of_serial) answers.Refused h = absurd (false≢true h)
stops_by id serial (commands.Write of_id new (Some of_serial) category dcs period broadcasts contents)
    (answers.Replaced slot completed) h = refl
stops_by id serial (commands.Write of_id new (Some of_serial) category dcs period broadcasts contents)
    (answers.Started slot) h = refl
stops_by id serial (commands.Write of_id new (Some of_serial) category dcs period broadcasts contents)
    (answers.Stopped completed) h = refl
stops_by id serial (commands.Write of_id new (Some of_serial) category dcs period broadcasts contents)
    (answers.Told completed state) h = absurd (false≢true h)
stops_by id serial (commands.Write of_id new (Some of_serial) category dcs period broadcasts contents) answers.Unknown
    h = absurd (false≢true h)
stops_by id serial (commands.Write of_id new (Some of_serial) category dcs period broadcasts contents)
    (answers.Cause cause) h = absurd (false≢true h)
stops_by id serial (commands.Write of_id new (Some of_serial) category dcs period broadcasts contents) answers.Refused
    h = absurd (false≢true h)
stops_by id serial (commands.Write of_id new None category dcs period broadcasts contents) answer h = absurd
    (false≢true h)
stops_by id serial (commands.Status of_id of_serial) answer h = absurd (false≢true h)

stops_none : (id serial : ℕ) (e : Entry) → is_accepted e ≡ false → is_stop_of id serial e ≡ false
stops_none id serial e refused =
    elim (cases_Bool (is_stop_of id serial e)) [
      | inl stops ↦ absurd (false≢true (sym refused ∙ stops_by id serial e.command e.answer stops))
      | inr none ↦ none
    ]

adds_none : (all : List Accepted) (place slot : ℕ) (start : Option ℕ) (command : Command)
    → is_some start ≡ false
    → added_by all place slot start command ≡ []
adds_none all place slot None command none = refl
adds_none all place slot (Some start) command none = absurd (false≢true (sym none))

neither : (a b : Bool) → (a || b) ≡ false → (a ≡ false) × (b ≡ false)
neither true b h = absurd (true≢false h)
neither false b h = (refl, h)

-- so an entry that was not accepted leaves the messages before it as they are
pub unmoved : (all : List Accepted) (place : ℕ) (e : Entry) → is_accepted e ≡ false → accepted_after all place e ≡ all
unmoved all place e refused =
    let stopped = map_agree (stopped_by e) (λ a. a) all (λ k d h.
    let a : Accepted = get_or all k d in
    stopped_once-false (is_stop_of a.id a.serial e) e.slot a (stops_none a.id a.serial e refused)) ∙ map-id all in
    ap (λ (l : List Accepted). map (stopped_by e) all ++ l) (adds_none all place e.slot (start_of e.answer) e.command
    (neither (is_some (start_of e.answer)) (is_kill_answer e.answer) refused).0)
    ∙ append-nil (map (stopped_by e) all)
    ∙ stopped

-- the message that a write replaces is the same one under another number
found_alike : (f : ℕ → ℕ) (id serial : ℕ) (front : List Accepted)
    → find (is_of_pair id serial) (map (accepted_renumbered f) front) ≡ option_map (accepted_renumbered f)
    (find (is_of_pair id serial) front)
found_alike f id serial [] = refl
found_alike f id serial (a ∷ front) = one (is_of_pair id serial a) (found_alike f id serial front)
  where
    one : (says : Bool) → find (is_of_pair id serial) (map (accepted_renumbered f) front) ≡ option_map
        (accepted_renumbered f) (find (is_of_pair id serial) front)
        → cond says (Some (accepted_renumbered f a)) (find (is_of_pair id serial) (map (accepted_renumbered f) front))
        ≡ option_map (accepted_renumbered f) (cond says (Some a) (find (is_of_pair id serial) front))
    one true rest = refl
    one false rest = rest

replaced_alike : (f : ℕ → ℕ) (id : ℕ) (replaces : Option ℕ) (front : List Accepted)
    → replaced_in (map (accepted_renumbered f) front) id replaces ≡ option_map (accepted_renumbered f)
    (replaced_in front id replaces)
replaced_alike f id None front = refl
replaced_alike f id (Some serial) front = found_alike f id serial front

-- so is the one behind which it waits
ahead_alike : (f : ℕ → ℕ) (says : Bool) (entry : ℕ) (behind : Option ℕ)
    → cond says (Some (f entry)) (option_map f behind) ≡ option_map f (cond says (Some entry) behind)
ahead_alike f true entry behind = refl
ahead_alike f false entry behind = refl

waits_alike : (f : ℕ → ℕ) (says : Bool) (ahead under : Option ℕ)
    → under ≡ option_map f ahead
    → cond says None under ≡ option_map f (cond says None ahead)
waits_alike f true ahead under same = refl
waits_alike f false ahead under same = same

behind_alike : (f : ℕ → ℕ) (slot start : ℕ) (found : Option Accepted)
    → predecessor_of slot start (option_map (accepted_renumbered f) found) ≡ option_map f
    (predecessor_of slot start found)
behind_alike f slot start None = refl
behind_alike f slot start (Some old) =
    waits_alike f (start == slot) (ahead_of slot (claim_of old)) (ahead_of slot (claim_of (accepted_renumbered f old)))
    (ahead_alike f (nat_le old.message.start slot) old.message.entry old.behind)

-- of which the load is the same
same_number : (f : ℕ → ℕ) → KeepsOrder f → (a b : ℕ) → (f a == f b) ≡ (a == b)
same_number f keeps a b =
    elim (cases_order a b) [
      | inl same ↦ eq-eqb (f a) (f b) (ap f same) ∙ sym (eq-eqb a b same)
      | inr other ↦ elim other [
        | inl less ↦ let h = keeps a b less in ne_eqb (f a) (f b) (λ same. omega (arith, h, same))
            ∙ sym (ne_eqb a b (λ same. omega (arith, less, same)))
        | inr more ↦ let h = keeps b a more in ne_eqb (f a) (f b) (λ same. omega (arith, h, same))
            ∙ sym (ne_eqb a b (λ same. omega (arith, more, same)))
      ]
    ]

excess_alike : (f : ℕ → ℕ)
    → KeepsOrder f
    → (load : ℕ) (behind : Option ℕ) (front : List Accepted)
    → excess_beyond load (numbered (option_map f behind) (claims_of (map (accepted_renumbered f) front))) ≡
    excess_beyond
    load (numbered behind (claims_of front))
excess_alike f keeps load None front = refl
excess_alike f keeps load (Some entry) [] = refl
excess_alike f keeps load (Some entry) (a ∷ front) =
    let all = claims_of (map (accepted_renumbered f) front) in
    let renamed : Claim = claim_of (accepted_renumbered f a) in
    let rest = excess_alike f keeps load (Some entry) front in
    let here = ap (λ (b : Bool). excess_beyond load (cond b (Some renamed) (numbered (Some (f entry)) all)))
    (same_number f keeps a.message.entry entry) ∙ one (a.message.entry == entry) rest in
    claimed (reserves (claim_of a)) here rest
  where
    claimed : (says : Bool)
        → excess_beyond load (numbered (Some (f entry)) (claim_of (accepted_renumbered f a) ∷ claims_of
        (map (accepted_renumbered f) front))) ≡ excess_beyond load
        (numbered (Some entry) (claim_of a ∷ claims_of front))
        → excess_beyond load (numbered (Some (f entry)) (claims_of (map (accepted_renumbered f) front))) ≡ excess_beyond
        load (numbered (Some entry) (claims_of front))
        → excess_beyond load (numbered (Some (f entry)) (cond says
        (claim_of (accepted_renumbered f a) ∷ claims_of (map (accepted_renumbered f) front))
        (claims_of (map (accepted_renumbered f) front)))) ≡ excess_beyond load
        (numbered (Some entry) (cond says (claim_of a ∷ claims_of front) (claims_of front)))
    claimed true here rest = here
    claimed false here rest = rest

    one : (says : Bool) → excess_beyond load (numbered (Some (f entry)) (claims_of (map (accepted_renumbered f) front)))
        ≡ excess_beyond load (numbered (Some entry) (claims_of front))
        → excess_beyond load (cond says (Some (claim_of (accepted_renumbered f a)))
        (numbered (Some (f entry)) (claims_of (map (accepted_renumbered f) front)))) ≡ excess_beyond load
        (cond says (Some (claim_of a)) (numbered (Some entry) (claims_of front)))
    one true rest = refl
    one false rest = rest

-- so an entry does the same to messages under other numbers
written_alike : (f : ℕ → ℕ)
    → KeepsOrder f
    → (front : List Accepted) (place among slot start : ℕ) (id serial : ℕ) (replaces : Option ℕ)
    (pages period broadcasts : ℕ) (rank : Rank)
    → f among ≡ place
    → written_behind (map (accepted_renumbered f) front) place slot start
    (predecessor_of slot start (replaced_in (map (accepted_renumbered f) front) id replaces)) id serial pages period
    broadcasts rank ≡ accepted_renumbered f (written_behind front among slot start
    (predecessor_of slot start (replaced_in front id replaces)) id serial pages period broadcasts rank)
written_alike f keeps front place among slot start id serial replaces pages period broadcasts rank at =
    let all = map (accepted_renumbered f) front in
    let load = load_of pages period in
    let behind = predecessor_of slot start (replaced_in front id replaces) in
    let waits : predecessor_of slot start (replaced_in all id replaces) ≡ option_map f behind =
    ap (predecessor_of slot start) (replaced_alike f id replaces front)
    ∙ behind_alike f slot start (replaced_in front id replaces) in
    ap (λ (o : Option ℕ). written_behind all place slot start o id serial pages period broadcasts rank) waits
    ∙ ap (λ (excess : ℕ). write_message place slot start (option_map f behind) excess id serial pages period broadcasts
    rank) (excess_alike f keeps load behind front)
    ∙ ap (λ (n : ℕ). write_message n slot start (option_map f behind)
    (excess_beyond load (numbered behind (claims_of front))) id serial pages period broadcasts rank) (sym at)

added_alike : (f : ℕ → ℕ)
    → KeepsOrder f
    → (front : List Accepted) (place among slot : ℕ) (start : Option ℕ) (command : Command)
    → f among ≡ place
    → added_by (map (accepted_renumbered f) front) place slot start command ≡ map (accepted_renumbered f)
    (added_by front among slot start command)
added_alike f keeps front place among slot (Some start) (commands.Write id serial replaces category dcs period
    broadcasts contents) at =
    ap (λ (a : Accepted). a ∷ []) (written_alike f keeps front place among slot start id serial replaces
    (length contents) period broadcasts (rank_of category) at)
added_alike f keeps front place among slot None (commands.Write id serial replaces category dcs period broadcasts
    contents) at = refl
added_alike f keeps front place among slot (Some start) (commands.Kill id serial) at = refl
added_alike f keeps front place among slot None (commands.Kill id serial) at = refl
added_alike f keeps front place among slot (Some start) (commands.Status id serial) at = refl
added_alike f keeps front place among slot None (commands.Status id serial) at = refl

after_alike : (f : ℕ → ℕ)
    → KeepsOrder f
    → (all front : List Accepted) (place among : ℕ) (e : Entry)
    → all ≡ map (accepted_renumbered f) front
    → f among ≡ place
    → accepted_after all place e ≡ map (accepted_renumbered f) (accepted_after front among e)
after_alike f keeps all front place among e same at =
    let under = map (accepted_renumbered f) front in
    let added = added_by front among e.slot (start_of e.answer) e.command in
    ap (λ (l : List Accepted). accepted_after l place e) same
    ∙ ap (λ (l : List Accepted). l ++ added_by under place e.slot (start_of e.answer) e.command)
    (map-map (stopped_by e) (accepted_renumbered f) front
    ∙ sym (map-map (accepted_renumbered f) (stopped_by e) front))
    ∙ ap (λ (l : List Accepted). map (accepted_renumbered f) (map (stopped_by e) front) ++ l)
    (added_alike f keeps front place among e.slot (start_of e.answer) e.command at)
    ∙ sym (map-append (accepted_renumbered f) (map (stopped_by e) front) added)

-- f gives the places of the accepted ones of the later entries, of which the first stands at `place`, and is the
-- `among`th if accepted
abbrev AreLater : (ℕ → ℕ) → ℕ → ℕ → List Entry → Type 0
AreLater f place among later = (i : ℕ) → f (among + i) ≡ place + place_in later i

abbrev SameFrom : (ℕ → ℕ) → List Entry → Type 0
SameFrom f later = (all front : List Accepted) (place among : ℕ) → all ≡ map (accepted_renumbered f) front
    → AreLater f place among later → accepted_from all place later ≡ map (accepted_renumbered f)
    (accepted_from front among (accepted_entries later))

same_by : (f : ℕ → ℕ)
    → KeepsOrder f
    → (e : Entry) (later : List Entry)
    → SameFrom f later
    → (all front : List Accepted) (place among : ℕ)
    → all ≡ map (accepted_renumbered f) front
    → (says : Bool)
    → is_accepted e ≡ says
    → ((i : ℕ) → f (among + i) ≡ place + step says i (place_in later))
    → accepted_from (accepted_after all place e) (place + 1) later ≡ map (accepted_renumbered f)
    (accepted_from front among (cond says (e ∷ accepted_entries later) (accepted_entries later)))
same_by f keeps e later rest all front place among same true accepted at =
    let here : among + 0 ≡ among = omega arith in
    let zeroth = at 0 in
    let first : f among ≡ place = ap f (sym here) ∙ (let h : f (among + 0) ≡ place = omega (arith, zeroth) in h) in
    rest (accepted_after all place e) (accepted_after front among e) (place + 1) (among + 1)
    (after_alike f keeps all front place among e same first) (λ i.
    let next : among + 1 + i ≡ among + suc i = omega arith in
    let there = at (suc i) in
    ap f next ∙ (let h : f (among + suc i) ≡ place + 1 + place_in later i = omega (arith, there) in h))
same_by f keeps e later rest all front place among same false refused at =
    ap (λ (l : List Accepted). accepted_from l (place + 1) later) (unmoved all place e refused)
    ∙ rest all front (place + 1) among same (λ i. let there = at i in omega (arith, there))

same_from : (f : ℕ → ℕ) → KeepsOrder f → (later : List Entry) → SameFrom f later
same_from f keeps [] all front place among same places = same
same_from f keeps (e ∷ later) all front place among same places =
    same_by f keeps e later (same_from f keeps later) all front place among same (is_accepted e) refl places

same_messages : (log : List Entry)
    → accepted_in log ≡ map (accepted_renumbered (place_in log)) (accepted_in (accepted_entries log))
same_messages log =
    same_from (place_in log) (keeps_order log) log [] [] 0 0 refl (λ i.
    let same : 0 + i ≡ i = omega arith in
    ap (place_in log) same ∙ (let h : place_in log i ≡ 0 + place_in log i = omega arith in h))

-- the accepted entries determine the accepted messages, but for their numbers
pub accepted_entries_are_all : AcceptedEntriesAreAll
accepted_entries_are_all log = (
  place_in log,
  record {
    order = keeps_order log;
    there = found log;
    same_messages = same_messages log;
  },
)
