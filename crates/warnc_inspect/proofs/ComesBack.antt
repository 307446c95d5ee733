-- A handset shows the blocks of a message once, with its text, when its last page comes.
use Rattle.std.proofs.Common.{◌≡◌, ◌≢◌, ℕ, ◌+◌, ◌<◌, ◌≤◌, Bool, true, false, not, ◌&&◌, Option, Some, None, List, []}
use Rattle.std.proofs.Common.{◌∷◌, ◌++◌, length, filter, refl, sym, ap, ◌∙◌, append_assoc, append-nil, arith, subst}
use Rattle.std.proofs.Common.{zero, suc, inl, inr}
use Rattle.std.specs.Prelude.{◌==◌, find, is_some, encode_utf8_all}
use Rattle.std.specs.Option.{option_or, option_map_or}
use Rattle.std.specs.List.{flat_map, list_all, range_with_len, AllByRecursion}
use Rattle.std.proofs.lemmas.Bool.{eq-eqb, ne_eqb, cases_eq}
use Rattle.std.proofs.lemmas.List.Folds.{find-append}
use Rattle.cbs_page.specs.declared.content.Content.{Content}
use Rattle.cbs_page.specs.declared.octets.PageView.{PageView}
use Rattle.cbs_page.specs.Coding.{alphabet_of}
use Rattle.cbs_page.specs.Text.{text_in, text_of_page}
use Rattle.handset.specs.Reception.{Name, is_of, agrees_with, agreeing, pages_of, total_in, is_complete, text_of}
use Rattle.handset.specs.Reception.{shown_message, completed_by, completed_after}
use Rattle.warnc_inspect.proofs.BlockLaws.{view, views_from}

filter_all : (p : PageView → Bool) (pages : List PageView) → AllByRecursion (λ page. p page ≡ true) pages
    → filter p pages ≡ pages
filter_all p [] all = refl
filter_all p (page ∷ pages) all = rw all.0 (ap (λ xs. page ∷ xs) (filter_all p pages all.1))

-- the page is one of this message: it has its name, its total and its data coding
abbrev IsPageOf : (id serial dcs total : ℕ) → PageView → Type 0
IsPageOf id serial dcs total page = (page.id ≡ id) × (page.serial ≡ serial) × (page.dcs.0 ≡ dcs) × (page.total ≡ total)

abbrev name : ℕ → ℕ → Name
name id serial = record { id = id; serial = serial }

each_is_of : (id serial dcs total : ℕ) (pages : List PageView) → AllByRecursion (IsPageOf id serial dcs total) pages →
    AllByRecursion (λ page. is_of (name id serial) page ≡ true) pages
each_is_of id serial dcs total [] all = tt
each_is_of id serial dcs total (page ∷ pages) all = (
  rw (all.0.0, all.0.1, eq-eqb id id refl, eq-eqb serial serial refl) refl,
  each_is_of id serial dcs total pages
      all.1,
)

each_agrees : (id serial dcs total : ℕ) (first : PageView) → IsPageOf id serial dcs total first
    → (pages : List PageView) →
    AllByRecursion (IsPageOf id serial dcs total) pages → AllByRecursion (λ page. agrees_with first page ≡ true) pages
each_agrees id serial dcs total first is [] all = tt
each_agrees id serial dcs total first is (page ∷ pages) all = (
  rw (all.0.2, all.0.3, is.2, is.3, eq-eqb dcs dcs refl, eq-eqb total total refl) refl,
  each_agrees id serial dcs
      total first is pages all.1,
)

all_agree : (id serial dcs total : ℕ) (pages : List PageView) → AllByRecursion (IsPageOf id serial dcs total) pages
    → agreeing pages ≡ pages
all_agree id serial dcs total [] all = refl
all_agree id serial dcs total (first ∷ rest) all =
    filter_all (agrees_with first) (first ∷ rest) (each_agrees id serial dcs total first all.0 (first ∷ rest) all)

-- pages of one message are all its pages
pages_of_one : (id serial dcs total : ℕ) (pages : List PageView) → AllByRecursion (IsPageOf id serial dcs total) pages →
    pages_of (name id serial) pages ≡ pages
pages_of_one id serial dcs total pages all =
    ap agreeing (filter_all (is_of (name id serial)) pages (each_is_of id serial dcs total pages all))
    ∙ all_agree id serial dcs total pages all

and_false : (b : Bool) → (b && false) ≡ false
and_false true = refl
and_false false = refl

one_missing : (test : ℕ → Bool) (from count n : ℕ) → from ≤ n → n < from + count → test n ≡ false
    → list_all test (range_with_len from count) ≡ false
one_missing test from zero n low high missing = absurd (omega arith)
one_missing test from (suc count) n low high missing =
    elim (cases_eq from n) [
      | inl here ↦ rw (here, missing) refl
      | inr past ↦
          rw (one_missing test (from + 1) count n (omega arith) (omega arith) missing) (and_false (test from))
    ]

none_missing : (test : ℕ → Bool) (from count : ℕ) → ((n : ℕ) → from ≤ n → n < from + count → test n ≡ true) →
    list_all test (range_with_len from count) ≡ true
none_missing test from zero found = refl
none_missing test from (suc count) found =
    rw (found from (omega arith) (omega arith))
    (none_missing test (from + 1) count (λ n low high. found n (omega arith) (omega arith)))

-- pages of a message with the numbers from 1 up to, and without, this one
pub record Begun (id serial dcs total next : ℕ) (pages : List PageView) : Type 0 where
  pub each : AllByRecursion (IsPageOf id serial dcs total) pages
  pub below : AllByRecursion (λ page. page.number < next) pages
  pub found : (n : ℕ) → 1 ≤ n → n < next → is_some (find (λ page. page.number == n) pages) ≡ true

not_below : (next n : ℕ) (pages : List PageView) → AllByRecursion (λ page. page.number < next) pages → next ≤ n →
    find (λ page. page.number == n) pages ≡ None
not_below next n [] below past = refl
not_below next n (page ∷ pages) below past =
    let other : page.number ≢ n = λ e. let here : page.number < next = below.0 in omega arith in
    rw (ne_eqb page.number n other) (not_below next n pages below.1 past)

each_push : (P : PageView → Type 0) (pages : List PageView) (page : PageView) → AllByRecursion P pages → P page
    → AllByRecursion P (pages ++ page ∷ [])
each_push P [] page all here = (here, tt)
each_push P (first ∷ pages) page all here = (all.0, each_push P pages page all.1 here)

each_weaker : (P Q : PageView → Type 0) → ((page : PageView) → P page → Q page) → (pages : List PageView)
    → AllByRecursion P pages → AllByRecursion Q pages
each_weaker P Q f [] all = tt
each_weaker P Q f (page ∷ pages) all = (f page all.0, each_weaker P Q f pages all.1)

found_or : (first second : Option PageView) → is_some first ≡ true → is_some (option_or first second) ≡ true
found_or None second is = cc
found_or (Some page) second is = refl

Begun-push : (id serial dcs total next : ℕ) (pages : List PageView) (content : List ℕ)
    → Begun id serial dcs total next pages →
    Begun id serial dcs total (next + 1) (pages ++ view id serial dcs total next content ∷ [])
Begun-push id serial dcs total next pages content begun = record {
  each = each_push (IsPageOf id serial dcs total) pages (view id serial dcs total next content) begun.each
      (refl, refl, refl, refl);
  below = each_push (λ page. page.number < next + 1) pages (view id serial dcs total next content)
      (each_weaker (λ page. page.number < next) (λ page. page.number < next + 1) (λ page h. omega (arith, h)) pages
      begun.below) (omega arith);
  found = λ n low high.
      rw (find-append (λ page. page.number == n) pages (view id serial dcs total next content ∷ []))
      (elim (cases_eq n next) [
        | inl here ↦ rw (not_below next n pages begun.below (omega arith), eq-eqb next n (sym here)) refl
        | inr before ↦
            found_or (find (λ page. page.number == n) pages) (find (λ page. page.number == n)
            (view id serial dcs total next content ∷ []))
            (begun.found n low (omega arith))
      ]);
}

-- the test of completeness, and the text, of a message that has these pages
abbrev complete_in : List PageView → Bool
complete_in pages =
    not (total_in pages == 0) && list_all (λ n. is_some (find (λ page. page.number == n) pages))
    (range_with_len 1 (total_in pages))

abbrev text_in_pages : List PageView → List ℕ
text_in_pages pages =
    flat_map (λ n. option_map_or text_of_page (find (λ page. page.number == n) pages) [])
    (range_with_len 1 (total_in pages))

complete_of_one : (id serial dcs total : ℕ) (pages : List PageView)
    → AllByRecursion (IsPageOf id serial dcs total) pages →
    is_complete (name id serial) pages ≡ complete_in pages
complete_of_one id serial dcs total pages each = ap complete_in (pages_of_one id serial dcs total pages each)

incomplete : (id serial dcs total next : ℕ) (pages : List PageView) → Begun id serial dcs total next pages → 1 ≤ next
    → next ≤ total →
    is_complete (name id serial) pages ≡ false
incomplete id serial dcs total next [] begun first within = refl
incomplete id serial dcs total next (page ∷ pages) begun first within =
    let test : ℕ → Bool = λ n. is_some (find (λ p. p.number == n) (page ∷ pages)) in
    let missing : test next ≡ false = ap is_some (not_below next next (page ∷ pages) begun.below (omega arith)) in
    let some : list_all test (range_with_len 1 total) ≡ false = one_missing test 1 total next first (omega arith)
    missing in
    complete_of_one id serial dcs total (page ∷ pages) begun.each
    ∙ ap (λ t. not (t == 0) && list_all test (range_with_len 1 t)) begun.each.0.3
    ∙ ap (λ b. not (total == 0) && b) some ∙ and_false (not (total == 0))

complete : (id serial dcs total : ℕ) (pages : List PageView) → Begun id serial dcs total (total + 1) pages → 1 ≤ total →
    total_in pages ≡ total → is_complete (name id serial) pages ≡ true
complete id serial dcs total pages begun some same =
    let test : ℕ → Bool = λ n. is_some (find (λ p. p.number == n) pages) in
    let every : list_all test (range_with_len 1 total) ≡ true =
    none_missing test 1 total (λ n low high. begun.found n low (omega arith)) in
    complete_of_one id serial dcs total pages begun.each
    ∙ ap (λ t. not (t == 0) && list_all test (range_with_len 1 t)) same
    ∙ rw (every, ne_eqb total 0 (λ e. omega arith)) refl

total_of_pages : (id serial dcs total : ℕ) (pages : List PageView) (page : PageView)
    → AllByRecursion (IsPageOf id serial dcs total) pages →
    IsPageOf id serial dcs total page → total_in (pages ++ page ∷ []) ≡ total
total_of_pages id serial dcs total [] page each here = here.3
total_of_pages id serial dcs total (first ∷ pages) page each here = each.0.3

-- a page that isn't the last completes nothing
completes_nothing : (id serial dcs total next : ℕ) (pages : List PageView) (content : List ℕ)
    → Begun id serial dcs total next pages →
    1 ≤ next → next < total → completed_by pages (view id serial dcs total next content) ≡ []
completes_nothing id serial dcs total next pages content begun first within =
    let later : is_complete (name id serial) (pages ++ view id serial dcs total next content ∷ []) ≡ false =
    incomplete id serial dcs total (next + 1) (pages ++ view id serial dcs total next content ∷ [])
    (Begun-push id serial dcs total next pages content begun) (omega arith) (omega arith) in
    rw (later, and_false (not (is_complete (name id serial) pages))) refl

-- the last one completes the message
completes : (id serial dcs total next : ℕ) (pages : List PageView) (content : List ℕ)
    → Begun id serial dcs total next pages → 1 ≤ next →
    next ≡ total →
    completed_by pages (view id serial dcs total next content)
    ≡ shown_message (name id serial) (pages ++ view id serial dcs total next content ∷ []) ∷ []
completes id serial dcs total next pages content begun some last =
    let whole : List PageView = pages ++ view id serial dcs total next content ∷ [] in
    let before : is_complete (name id serial) pages ≡ false = incomplete id serial dcs total next pages begun some
    (omega arith) in
    let ended : Begun id serial dcs total (total + 1) whole =
    subst (λ (n : ℕ). Begun id serial dcs total (n + 1) whole) last
    (Begun-push id serial dcs total next pages content begun) in
    let after : is_complete (name id serial) whole ≡ true =
    complete id serial dcs total whole ended (omega arith)
    (total_of_pages id serial dcs total pages (view id serial dcs total next content) begun.each
    (refl, refl, refl, refl)) in
    rw (before, after) refl

completed_in_order : (id serial dcs total next : ℕ) (pages : List PageView) (content : Content) (rest : List Content) →
    Begun id serial dcs total next pages → 1 ≤ next → next + length rest ≡ total →
    completed_after pages (views_from id serial dcs total next (content ∷ rest))
    ≡ shown_message (name id serial) (pages ++ views_from id serial dcs total next (content ∷ rest)) ∷ []
completed_in_order id serial dcs total next pages content [] begun first ends =
    append-nil (completed_by pages (view id serial dcs total next content.octets))
    ∙ completes id serial dcs total next pages content.octets begun first (omega (arith, ends))
completed_in_order id serial dcs total next pages content (second ∷ rest) begun first ends =
    let after : List PageView = pages ++ view id serial dcs total next content.octets ∷ [] in
    let nothing : completed_by pages (view id serial dcs total next content.octets) ≡ [] =
    completes_nothing id serial dcs total next pages content.octets begun first (omega (arith, ends)) in
    let later : completed_after after (views_from id serial dcs total (next + 1) (second ∷ rest))
    ≡ shown_message (name id serial) (after ++ views_from id serial dcs total (next + 1) (second ∷ rest)) ∷ [] =
    completed_in_order id serial dcs total (next + 1) after second rest
    (Begun-push id serial dcs total next pages content.octets begun)
    (omega arith) (omega (arith, ends)) in
    ap (λ ms. ms ++ completed_after after (views_from id serial dcs total (next + 1) (second ∷ rest))) nothing
    ∙ later
    ∙ ap (λ ps. shown_message (name id serial) ps ∷ [])
    (append_assoc pages (view id serial dcs total next content.octets ∷ [])
    (views_from id serial dcs total (next + 1) (second ∷ rest)))

-- the pages from a number on show their contents, in order
shows_in_order : (id serial dcs total next : ℕ) (before : List PageView) (contents : List Content)
    (pages : List PageView) →
    AllByRecursion (λ page. page.number < next) before → pages ≡ before ++ views_from id serial dcs total next contents
    →
    flat_map (λ n. option_map_or text_of_page (find (λ page. page.number == n) pages) [])
    (range_with_len next (length contents))
    ≡ flat_map (λ content. text_in (alphabet_of dcs) content.octets) contents
shows_in_order id serial dcs total next before [] pages below is = refl
shows_in_order id serial dcs total next before (content ∷ rest) pages below is =
    let here : PageView = view id serial dcs total next content.octets in
    let found : find (λ page. page.number == next) pages ≡ Some here =
    ap (find (λ page. page.number == next)) is
    ∙ find-append (λ page. page.number == next) before (here ∷ views_from id serial dcs total (next + 1) rest)
    ∙ rw (not_below next next before below (omega arith), eq-eqb next next refl) refl in
    let moved : pages ≡ (before ++ here ∷ []) ++ views_from id serial dcs total (next + 1) rest =
    is ∙ sym (append_assoc before (here ∷ []) (views_from id serial dcs total (next + 1) rest)) in
    let further : AllByRecursion (λ page. page.number < next + 1) (before ++ here ∷ []) =
    each_push (λ page. page.number < next + 1) before here
    (each_weaker (λ page. page.number < next) (λ page. page.number < next + 1) (λ page h. omega (arith, h)) before
    below) (omega arith) in
    rw found
    (ap (λ text. text_in (alphabet_of dcs) content.octets ++ text)
    (shows_in_order id serial dcs total (next + 1) (before ++ here ∷ []) rest pages further moved))

views_are_pages : (id serial dcs total next : ℕ) (contents : List Content) →
    AllByRecursion (IsPageOf id serial dcs total) (views_from id serial dcs total next contents)
views_are_pages id serial dcs total next [] = tt
views_are_pages id serial dcs total next (content ∷ rest) = (
  (refl, refl, refl, refl),
  views_are_pages id serial dcs
      total (next + 1) rest,
)

-- The pages of a message, in order, show it once, with its contents' texts joined.
pub message_in_order : (id serial dcs : ℕ) (contents : List Content) → 1 ≤ length contents →
    completed_after [] (views_from id serial dcs (length contents) 1 contents)
    ≡ record {
      id = id;
      serial = serial;
      text = encode_utf8_all
          (flat_map (λ content. text_in (alphabet_of dcs) content.octets) contents);
    } ∷ []
message_in_order id serial dcs [] some = absurd (omega arith)
message_in_order id serial dcs (content ∷ rest) some =
    let contents : List Content = content ∷ rest in
    let total : ℕ = length contents in
    let pages : List PageView = views_from id serial dcs total 1 contents in
    let nothing : Begun id serial dcs total 1 [] = record {
      each = tt;
      below = tt;
      found = λ n low high. absurd
          (omega arith);
    } in
    let text : text_of (name id serial) pages ≡ flat_map (λ c. text_in (alphabet_of dcs) c.octets) contents =
    ap text_in_pages (pages_of_one id serial dcs total pages (views_are_pages id serial dcs total 1 contents))
    ∙ shows_in_order id serial dcs total 1 [] contents pages tt refl in
    completed_in_order id serial dcs total 1 [] content rest nothing (omega arith) (omega arith)
    ∙ ap (λ t. record { id = id; serial = serial; text = encode_utf8_all t } ∷ []) text
