-- Of blocks without a difference no message is shown that the cell didn't accept.
use Rattle.std.proofs.Common.{◌≡◌, ℕ, ◌+◌, Bool, true, false, cond, not, List, [], ◌∷◌}
use Rattle.std.proofs.Common.{◌++◌, map, filter, find, get_or, is_some, refl, sym, ap, ◌∙◌, arith}
use Rattle.std.proofs.Common.{inl, inr}
use Rattle.std.specs.Prelude.{◌&&◌, ◌||◌, ◌==◌}
use Rattle.std.specs.List.{AllByRecursion, flat_map, list_all, list_any, range_with_len}
use Rattle.std.specs.List.Sorted.{IsPermutation}
use Rattle.std.proofs.lemmas.Bool.{and_parts, cases_Bool, eqb-true}
use Rattle.std.proofs.lemmas.List.{map-append}
use Rattle.std.proofs.lemmas.List.Concat.{flat_map-cons}
use Rattle.std.proofs.lemmas.List.Folds.{Any-from_list_any}
use Rattle.std.proofs.lemmas.List.Sorted.{length_permutation}
use Rattle.cbs_page.specs.declared.octets.PageView.{PageView}
use Rattle.cbs_page.specs.Page.{is_readable}
use Rattle.bsc_table.specs.declared.entry.Entry.{Entry}
use Rattle.bsc_table.specs.Record.{Record, Accepted, accepted_in}
use Rattle.handset.specs.Reception.{Name, agreeing, is_complete, is_of, page_in_front, pages_read}
use Rattle.handset.specs.Reception.{readable_pages, shown_in, total_in}
use Rattle.handset.specs.Laws.{ShownAreTheComplete}
use Rattle.handset.specs.Showing.{name_shown}
use Rattle.verification.specs.declared.difference.Difference.{Difference}
use Rattle.verification.specs.declared.difference.Kind.TheVariants as kinds
use Rattle.verification.specs.declared.sent.SentPage.{SentPage}
use Rattle.verification.specs.Asked.{AskedMessage, asked_of_log, is_page_of_any}
use Rattle.verification.specs.Difference.{AreDifferences, all_differences, is_named_as, message_differences}
use Rattle.verification.specs.Difference.{not_ordered, not_ordered_after}
use Rattle.verification.specs.Judged.{judged_in}
use Rattle.verification.specs.Sent.{sent_at, sent_from, sent_in}
use Rattle.verification_laws.specs.Shown.{NoOthersAreShown}
use Rattle.verification_laws.proofs.AskedOf.{AreComing, asked_are_accepted}

-- nothing stays where nothing is
none-before : {X : Type 0} (xs : List X) → IsPermutation xs [] → xs ≡ []
none-before [] moved = refl
none-before (x ∷ xs) moved =
    absurd (let long = length_permutation (x ∷ xs) [] moved in let less : ⊥ = omega (arith, long) in less)

-- lists whose whole is empty are empty
pub none-joined : {X : Type 0} (xs ys : List X) → xs ++ ys ≡ [] → (xs ≡ []) × (ys ≡ [])
none-joined [] ys is = (refl, is)
none-joined (x ∷ xs) ys is = cc

-- if all items make nothing, each does
pub each-none : {X Y : Type 0} (f : X → List Y) (xs : List X) → flat_map f xs ≡ [] →
    AllByRecursion (λ x. f x ≡ []) xs
each-none f [] is = tt
each-none f (x ∷ xs) is =
    let both = none-joined (f x) (flat_map f xs) (sym (flat_map-cons f x xs) ∙ is) in
    (both.0, each-none f xs both.1)

-- no message has a difference, and no page is of another
pub record AreNone (r : Record) (blocks : List (List ℕ)) : Type 0 where
  pub messages : AllByRecursion (λ a. message_differences r.slots a (judged_in a (sent_in blocks)) ≡ []) (asked_of_log
      r.log)
  pub others : not_ordered_after (asked_of_log r.log) [] (sent_in blocks) ≡ []

-- a tape without a difference has none of any kind
pub are-none : (r : Record) (blocks : List (List ℕ)) → AreDifferences r blocks [] → AreNone r blocks
are-none r blocks are =
    let of_message : AskedMessage → List Difference =
    λ a. message_differences r.slots a (judged_in a (sent_in blocks)) in
    let both = none-joined (flat_map of_message (asked_of_log r.log))
    (not_ordered_after (asked_of_log r.log) [] (sent_in
    blocks))
    (none-before (all_differences r.slots (asked_of_log r.log) (sent_in blocks)) are.all) in
    record {
      messages = each-none of_message (asked_of_log r.log) both.0;
      others = both.1;
    }

-- each page is of a message that was asked
asked-alike : (asked : List AskedMessage) (page other : PageView) → is_page_of_any asked other ≡ true →
    page.id ≡ other.id → page.serial ≡ other.serial → is_page_of_any asked page ≡ true
asked-alike asked page other is id serial =
    ap (λ n. list_any (λ (a : AskedMessage). (n == a.id) && (page.serial == a.serial)) asked) id
    ∙ ap (λ n. list_any (λ (a : AskedMessage). (other.id == a.id) && (n == a.serial)) asked) serial ∙ is

named-asked : (asked : List AskedMessage) (page : PageView) (before : List SentPage) →
    list_any (is_named_as page) before ≡ true → AllByRecursion (λ s. is_page_of_any asked s.page ≡ true) before →
    is_page_of_any asked page ≡ true
named-asked asked page [] some all = cc
named-asked asked page (s ∷ before) some all =
    elim (cases_Bool (is_named_as page s)) [
      | inl same ↦
          let parts = and_parts (page.id == s.page.id) (page.serial == s.page.serial) same in
          asked-alike asked page s.page all.0 (eqb-true page.id s.page.id parts.0)
          (eqb-true page.serial s.page.serial parts.1)
      | inr other ↦
          named-asked asked page before
          (ap (λ (x : Bool). x || list_any (is_named_as page) before) (sym other) ∙ some) all.1
    ]

pushed : {X : Type 0} (P : X → Type 0) (xs : List X) (x : X) → AllByRecursion P xs → P x
    → AllByRecursion P (xs ++ x ∷ [])
pushed P [] x all is = (is, tt)
pushed P (y ∷ xs) x all is = (all.0, pushed P xs x all.1 is)

known-by : (known : Bool) (d : Difference) → cond known [] (d ∷ []) ≡ [] → known ≡ true
known-by true d is = refl
known-by false d is = cc

or-known : (a b : Bool) → (a || b) ≡ true → (b ≡ true → a ≡ true) → a ≡ true
or-known true b is later = refl
or-known false b is later = later is

all-asked-after : (asked : List AskedMessage) (before sent : List SentPage) →
    AllByRecursion (λ s. is_page_of_any asked s.page ≡ true) before → not_ordered_after asked before sent ≡ [] →
    AllByRecursion (λ s. is_page_of_any asked s.page ≡ true) sent
all-asked-after asked before [] all is = tt
all-asked-after asked before (s ∷ sent) all is =
    let both = none-joined (not_ordered asked before s) (not_ordered_after asked (before ++ s ∷ []) sent) is in
    let here : is_page_of_any asked s.page ≡ true =
    or-known (is_page_of_any asked s.page) (list_any (is_named_as s.page) before)
    (known-by (is_page_of_any asked s.page || list_any (is_named_as s.page) before)
    (record { slot = s.slot; id = s.page.id; serial = s.page.serial; kind = kinds.NotOrdered }) both.0)
    (λ some. named-asked asked s.page before some all) in (
      here,
      all-asked-after asked (before ++ s ∷ []) sent
          (pushed (λ (x : SentPage). is_page_of_any asked x.page ≡ true) before s all here) both.1,
    )

-- the pages that are sent are those that stand in the blocks
pages-at : (place : ℕ) (pages : List PageView) → map (λ (s : SentPage). s.page) (map (sent_at place) pages) ≡ pages
pages-at place [] = refl
pages-at place (page ∷ pages) = ap (λ ps. page ∷ ps) (pages-at place pages)

read-from : (place : ℕ) (blocks : List (List ℕ)) →
    map (λ (s : SentPage). s.page) (sent_from place blocks) ≡ pages_read blocks
read-from place [] = refl
read-from place (block ∷ rest) =
    map-append (λ (s : SentPage). s.page) (map (sent_at place) (page_in_front (block ∷ rest)))
    (sent_from (place + 1) rest)
    ∙ ap (λ ps. ps ++ map (λ (s : SentPage). s.page) (sent_from (place + 1) rest))
    (pages-at place (page_in_front (block ∷ rest)))
    ∙ ap (λ ps. page_in_front (block ∷ rest) ++ ps) (read-from (place + 1) rest)

-- the pages that were sent, as a list, and those of them that a handset shows
pub sent-are-read : (blocks : List (List ℕ)) → map (λ (s : SentPage). s.page) (sent_in blocks) ≡ pages_read blocks
sent-are-read blocks = read-from 0 blocks

-- what is found among those that pass another test is found among all
any-kept : {X : Type 0} (p q : X → Bool) (xs : List X) → list_any q (filter p xs) ≡ true → list_any q xs ≡ true
any-kept p q [] some = some
any-kept p q (x ∷ xs) some = here (p x) (q x) refl some (λ found. any-kept p q xs found)
  where
    here : (passes is : Bool) → q x ≡ is → list_any q (cond passes (x ∷ filter p xs) (filter p xs)) ≡ true →
        (list_any q (filter p xs) ≡ true → list_any q xs ≡ true) → (is || list_any q xs) ≡ true
    here passes true same found rest = refl
    here true false same found rest =
        rest (sym (ap (λ (b : Bool). b || list_any q (filter p xs)) same) ∙ found)
    here false false same found rest = rest found

-- a message that is shown has a page
filter-without : {X : Type 0} (test : X → Bool) (xs : List X) → list_any test xs ≡ false → filter test xs ≡ []
filter-without test [] none = refl
filter-without test (x ∷ xs) none =
    let both = parts (test x) (list_any test xs) none in
    ap (λ here. cond here (x ∷ filter test xs) (filter test xs)) both.0 ∙ filter-without test xs both.1
  where
    parts : (a b : Bool) → (a || b) ≡ false → (a ≡ false) × (b ≡ false)
    parts true b is = cc
    parts false b is = (refl, is)

complete-by : List PageView → Bool
complete-by named =
    not (total_in (agreeing named) == 0)
    && list_all (λ number. is_some (find (λ (page : PageView). page.number == number) (agreeing named)))
    (range_with_len 1 (total_in (agreeing named)))

has-page : (name : Name) (pages : List PageView) → is_complete name pages ≡ true → list_any (is_of name) pages ≡ true
unfolding complete-by
has-page name pages complete =
    elim (cases_Bool (list_any (is_of name) pages)) [
      | inl some ↦ some
      | inr none ↦
          let no : is_complete name pages ≡ false = ap complete-by (filter-without (is_of name) pages none) in
          absurd (let t : true ≡ false = sym complete ∙ no in cc)
    ]

-- a search among images
pub any-map : {X Y : Type 0} (test : Y → Bool) (f : X → Y) (xs : List X) →
    list_any test (map f xs) ≡ list_any (λ x. test (f x)) xs
any-map test f [] = refl
any-map test f (x ∷ xs) = ap (λ rest. test (f x) || rest) (any-map test f xs)

asked-page : (asked : List AskedMessage) (name : Name) (sent : List SentPage) →
    list_any (λ s. is_of name s.page) sent ≡ true → AllByRecursion (λ s. is_page_of_any asked s.page ≡ true) sent →
    list_any (λ (a : AskedMessage). (name.id == a.id) && (name.serial == a.serial)) asked ≡ true
asked-page asked name [] some all = cc
asked-page asked name (s ∷ sent) some all =
    elim (cases_Bool (is_of name s.page)) [
      | inl same ↦
          let parts = and_parts (s.page.id == name.id) (s.page.serial == name.serial) same in
          ap (λ n. list_any (λ (a : AskedMessage). (n == a.id) && (name.serial == a.serial)) asked)
          (sym (eqb-true s.page.id name.id parts.0))
          ∙ ap (λ n. list_any (λ (a : AskedMessage). (s.page.id == a.id) && (n == a.serial)) asked)
          (sym (eqb-true s.page.serial name.serial parts.1))
          ∙ all.0
      | inr other ↦
          asked-page asked name sent
          (ap (λ (x : Bool). x || list_any (λ s. is_of name s.page) sent) (sym other) ∙ some) all.1
    ]

-- and what was asked was accepted
accepted-alike : (log : List Entry) (name : Name) (xs : List AskedMessage) (bs : List Accepted) →
    AreComing log [] xs bs →
    list_any (λ (a : AskedMessage). (name.id == a.id) && (name.serial == a.serial)) xs
    ≡ list_any (λ (b : Accepted). (name.id == b.id) && (name.serial == b.serial)) bs
accepted-alike log name [] [] all = refl
accepted-alike log name [] (b ∷ bs) all = absurd all
accepted-alike log name (a ∷ xs) [] all = absurd all
accepted-alike log name (a ∷ xs) (b ∷ bs) all =
    ap (λ n. ((name.id == n) && (name.serial == a.serial))
    || list_any (λ (x : AskedMessage). (name.id == x.id) && (name.serial == x.serial)) xs) all.0.id_is
    ∙ ap (λ n. ((name.id == b.id) && (name.serial == n))
    || list_any (λ (x : AskedMessage). (name.id == x.id) && (name.serial == x.serial)) xs) all.0.serial_is
    ∙ ap (λ rest. ((name.id == b.id) && (name.serial == b.serial)) || rest) (accepted-alike log name xs bs all.1)

-- a message that is complete was asked, where no page is of another
pub complete-asked : (r : Record) (blocks : List (List ℕ)) (name : Name) →
    not_ordered_after (asked_of_log r.log) [] (sent_in blocks) ≡ [] →
    is_complete name (readable_pages blocks) ≡ true →
    list_any (λ (a : AskedMessage). (name.id == a.id) && (name.serial == a.serial)) (asked_of_log r.log) ≡ true
complete-asked r blocks name others complete =
    let read : list_any (is_of name) (pages_read blocks) ≡ true =
    any-kept is_readable (is_of name) (pages_read blocks) (has-page name (readable_pages blocks) complete) in
    let sent : list_any (λ s. is_of name s.page) (sent_in blocks) ≡ true =
    sym (any-map (is_of name) (λ (s : SentPage). s.page) (sent_in blocks))
    ∙ ap (list_any (is_of name)) (sent-are-read blocks) ∙ read in
    asked-page (asked_of_log r.log) name (sent_in blocks) sent
    (all-asked-after (asked_of_log r.log) [] (sent_in blocks) tt others)

-- where nothing differs nothing but what was asked is shown
pub no-others : ShownAreTheComplete → NoOthersAreShown
no-others complete r blocks are = λ k d within.
    let shown = complete blocks in
    let name : Name = name_shown (get_or (shown_in blocks) k d) in
    let asked : list_any (λ (a : AskedMessage). (name.id == a.id) && (name.serial == a.serial)) (asked_of_log r.log) ≡
    true =
    complete-asked r blocks name (are-none r blocks are).others (shown.complete k d within) in
    let accepted = Any-from_list_any (λ (b : Accepted). (name.id == b.id) && (name.serial == b.serial))
    (accepted_in r.log)
    (sym (accepted-alike r.log name (asked_of_log r.log) (accepted_in r.log) (asked_are_accepted r.log)) ∙ asked) in
    let parts = and_parts (name.id == accepted.1.id) (name.serial == accepted.1.serial) accepted.4 in (
      accepted.0,
      accepted.1,
      accepted.2,
      accepted.3,
      (sym (eqb-true name.id accepted.1.id parts.0), sym (eqb-true name.serial accepted.1.serial parts.1)),
    )
