-- The messages that were asked are those that the cell accepted, one for one.
use Rattle.std.proofs.Common.{◌≡◌, ℕ, zero, suc, ◌+◌, ◌<◌, Bool, true, false, cond, Option, Some, None, List, [], ◌∷◌}
use Rattle.std.proofs.Common.{◌++◌}
use Rattle.std.proofs.Common.{length, map, find, get_or, refl, sym, ap, subst, ◌∙◌, arith, append-nil, append_assoc}
use Rattle.std.specs.Prelude.{⊤, ◌||◌}
use Rattle.std.specs.Option.{option_map}
use Rattle.std.specs.List.{AllByRecursion, Contains, list_any, slice_get}
use Rattle.std.proofs.lemmas.List.{length_push}
use Rattle.scheduler.specs.Air.{layer, layer_of}
use Rattle.bsc_table.specs.declared.command.Category.{Category}
use Rattle.bsc_table.specs.declared.command.Category.TheVariants.{High, Normal, Background}
use Rattle.bsc_table.specs.declared.command.Command.{Command}
use Rattle.bsc_table.specs.declared.command.Command.TheVariants as commands
use Rattle.bsc_table.specs.declared.entry.Entry.{Entry}
use Rattle.bsc_table.specs.Record.{Accepted, accepted_after, accepted_from, accepted_in, added_by}
use Rattle.bsc_table.specs.Record.{is_background_category, is_stop_of, rank_of, start_of, stop_after, stopped_by}
use Rattle.cbch_blocks.specs.RecordBlocks.{pages_from, pages_of_command, pages_of_entry}
use Rattle.verification.specs.Asked.{AskedMessage, asked_of_entry, asked_from, asked_of_log, stop_among}

-- the stop of a message after later entries
abbrev pub stop_later : List Entry → ℕ → ℕ → Option ℕ → Option ℕ
stop_later [] id serial stop = stop
stop_later (e ∷ later) id serial stop =
    stop_later later id serial (stop_after stop (is_stop_of id serial e) e.slot)

-- a message that was asked and one that was accepted are the same, with the entries that come later
pub record IsComing (log later : List Entry) (a : AskedMessage) (b : Accepted) : Type 0 where
  pub id_is : a.id ≡ b.id
  pub serial_is : a.serial ≡ b.serial
  pub start_is : a.start ≡ b.message.start
  pub period_is : a.period ≡ b.message.period
  pub broadcasts_is : a.broadcasts ≡ b.message.broadcasts
  pub stop_is : a.stop ≡ stop_later later b.id b.serial b.message.stop
  pub layer_is : a.background ≡ false → layer b.message ≡ 0
  pub long : b.message.pages ≡ length a.contents
  pub pages_are : pages_of_entry (slice_get log b.message.entry)
      ≡ pages_from a.id a.serial a.dcs (length a.contents) 1 a.contents

-- the first stop stays
stays : (later : List Entry) (id serial slot : ℕ) → stop_later later id serial (Some slot) ≡ Some slot
stays [] id serial slot = refl
stays (e ∷ later) id serial slot = stays later id serial slot

first-stop : (later : List Entry) (id serial : ℕ) → stop_later later id serial None ≡ stop_among later id serial
first-stop [] id serial = refl
first-stop (e ∷ later) id serial = by_test later id serial e (is_stop_of id serial e) (first-stop later id serial)
  where
    by_test : (later : List Entry) (id serial : ℕ) (e : Entry) (here : Bool) →
        stop_later later id serial None ≡ stop_among later id serial →
        stop_later later id serial (stop_after None here e.slot)
        ≡ option_map (λ (x : Entry). x.slot) (cond here (Some e) (find (is_stop_of id serial) later))
    by_test later id serial e true rest = stays later id serial e.slot
    by_test later id serial e false rest = rest

-- lists of them, one for one
abbrev pub AreComing : (log later : List Entry) → List AskedMessage → List Accepted → Type 0
AreComing log later [] [] = ⊤
AreComing log later [] (b ∷ bs) = ⊥
AreComing log later (a ∷ xs) [] = ⊥
AreComing log later (a ∷ xs) (b ∷ bs) = IsComing log later a b × AreComing log later xs bs

-- one more entry stops what it stops
stopped : (log later : List Entry) (e : Entry) (xs : List AskedMessage) (bs : List Accepted) →
    AreComing log (e ∷ later) xs bs → AreComing log later xs (map (stopped_by e) bs)
stopped log later e [] [] all = tt
stopped log later e [] (b ∷ bs) all = absurd all
stopped log later e (a ∷ xs) [] all = absurd all
stopped log later e (a ∷ xs) (b ∷ bs) all = (
  record {
    id_is = all.0.id_is;
    serial_is = all.0.serial_is;
    start_is = all.0.start_is;
    period_is = all.0.period_is;
    broadcasts_is = all.0.broadcasts_is;
    stop_is = all.0.stop_is;
    layer_is = all.0.layer_is;
    long = all.0.long;
    pages_are = all.0.pages_are;
  },
  stopped log later e xs bs all.1,
)

joined : (log later : List Entry) (xs more : List AskedMessage) (bs others : List Accepted) →
    AreComing log later xs bs → AreComing log later more others → AreComing log later (xs ++ more) (bs ++ others)
joined log later [] more [] others all also = also
joined log later [] more (b ∷ bs) others all also = absurd all
joined log later (a ∷ xs) more [] others all also = absurd all
joined log later (a ∷ xs) more (b ∷ bs) others all also = (all.0, joined log later xs more bs others all.1 also)

-- and adds what it adds
foreground : (category : Category) → is_background_category category ≡ false →
    layer_of (rank_of category) ≡ 0
foreground High is = refl
foreground Normal is = refl
foreground Background is = cc

added : (log later : List Entry) (all : List Accepted) (place slot : ℕ) (start : Option ℕ) (command : Command)
    (e : Entry)
    → slice_get log place ≡ Some e → e.command ≡ command →
    AreComing log later (asked_from start command later) (added_by all place slot start command)
added log later all place slot None (commands.Write id serial replaces category dcs period broadcasts contents) e there
    is = tt
added log later all place slot None (commands.Kill id serial) e there is = tt
added log later all place slot None (commands.Status id serial) e there is = tt
added log later all place slot (Some start) (commands.Kill id serial) e there is = tt
added log later all place slot (Some start) (commands.Status id serial) e there is = tt
added log later all place slot (Some start)
    (commands.Write id serial replaces category dcs period broadcasts contents) e there is = (
      record {
        id_is = refl;
        serial_is = refl;
        start_is = refl;
        period_is = refl;
        broadcasts_is = refl;
        stop_is = sym (first-stop later id serial);
        layer_is = foreground category;
        long = refl;
        pages_are = ap pages_of_entry there ∙ ap pages_of_command is;
      },
      tt,
    )

entry-here : (before : List Entry) (e : Entry) (later : List Entry) →
    slice_get (before ++ e ∷ later) (length before) ≡ Some e
entry-here [] e later = refl
entry-here (x ∷ before) e later = entry-here before e later

coming : (log before later : List Entry) (xs : List AskedMessage) (bs : List Accepted) → log ≡ before ++ later →
    AreComing log later xs bs → AreComing log [] (xs ++ asked_of_log later) (accepted_from bs (length before) later)
coming log before [] xs bs is all = subst (λ ms. AreComing log [] ms bs) (sym (append-nil xs)) all
coming log before (e ∷ later) xs bs is all =
    let there : slice_get log (length before) ≡ Some e =
    ap (λ all. slice_get all (length before)) is ∙ entry-here before e later in
    let after : List Accepted = accepted_after bs (length before) e in
    let next : AreComing log later (xs ++ asked_of_entry e later) (accepted_after bs (length before) e) =
    joined log later xs (asked_of_entry e later) (map (stopped_by e) bs)
    (added_by bs (length before) e.slot (start_of e.answer) e.command) (stopped log later e xs bs all)
    (added log later bs (length before) e.slot (start_of e.answer) e.command e there refl) in
    let longer : length (before ++ e ∷ []) ≡ length before + 1 = length_push before e in
    subst (λ ms. AreComing log [] ms (accepted_from (accepted_after bs (length before) e) (length before + 1) later))
    (append_assoc xs (asked_of_entry e later) (asked_of_log later))
    (subst (λ n. AreComing log [] ((xs ++ asked_of_entry e later) ++ asked_of_log later)
    (accepted_from (accepted_after bs (length before) e) n later)) longer
    (coming log (before ++ e ∷ []) later (xs ++ asked_of_entry e later) (accepted_after bs (length before) e)
    (is ∙ sym (append_assoc before (e ∷ []) later)) next))

-- what a cell was asked is what it accepted, in the same order
pub asked_are_accepted : (log : List Entry) → AreComing log [] (asked_of_log log) (accepted_in log)
asked_are_accepted log = coming log [] log [] [] refl tt

-- so each that was asked was accepted, and each that was accepted was asked
pub record IsAsked (log : List Entry) (bs : List Accepted) (a : AskedMessage) : Type 0 where
  pub accepted : Accepted
  pub there : Contains bs accepted
  pub same : IsComing log [] a accepted

in-more : (b c : Accepted) (bs : List Accepted) → Contains bs c → Contains (b ∷ bs) c
in-more b c bs there = (suc there.0, omega (arith, there.1), there.2)

asked-more : (log : List Entry) (b : Accepted) (bs : List Accepted) (xs : List AskedMessage) →
    AllByRecursion (IsAsked log bs) xs → AllByRecursion (IsAsked log (b ∷ bs)) xs
asked-more log b bs [] all = tt
asked-more log b bs (a ∷ xs) all = (
  record {
    accepted = all.0.accepted;
    there = in-more b all.0.accepted bs all.0.there;
    same = all.0.same;
  },
  asked-more log b bs xs all.1,
)

-- what all accepted messages are, what was asked is
pub all_asked : (log : List Entry) (xs : List AskedMessage) (bs : List Accepted) → AreComing log [] xs bs →
    AllByRecursion (IsAsked log bs) xs
all_asked log [] [] all = tt
all_asked log [] (b ∷ bs) all = absurd all
all_asked log (a ∷ xs) [] all = absurd all
all_asked log (a ∷ xs) (b ∷ bs) all = (
  record { accepted = b; there = (0, omega arith, refl); same = all.0 },
  asked-more log b bs xs (all_asked log xs bs all.1),
)

-- what an accepted message passes, a message that was asked passes
pub some_asked : (log : List Entry) (test : AskedMessage → Bool) (xs : List AskedMessage) (bs : List Accepted)
    (b : Accepted) → AreComing log [] xs bs → Contains bs b →
    ((a : AskedMessage) → IsComing log [] a b → test a ≡ true) → list_any test xs ≡ true
some_asked log test xs bs b all there passes = at xs bs there.0 all there.1 there.2
  where
    here : (x y : Bool) → x ≡ true → (x || y) ≡ true
    here x y is = ap (λ z. z || y) is

    after : (x y : Bool) → y ≡ true → (x || y) ≡ true
    after true y is = refl
    after false y is = is

    at : (xs : List AskedMessage) (bs : List Accepted) (k : ℕ) → AreComing log [] xs bs → k < length bs →
        get_or bs k b ≡ b → list_any test xs ≡ true
    at [] [] k all within is = absurd (let less : ⊥ = omega arith in less)
    at [] (c ∷ bs) k all within is = absurd all
    at (a ∷ xs) [] k all within is = absurd all
    at (a ∷ xs) (c ∷ bs) zero all within is =
        here (test a) (list_any test xs) (passes a (subst (IsComing log [] a) is all.0))
    at (a ∷ xs) (c ∷ bs) (suc k) all within is =
        after (test a) (list_any test xs) (at xs bs k all.1 (omega arith) is)
