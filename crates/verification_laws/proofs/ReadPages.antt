-- The pages that a handset reads of blocks without a difference, and the text that they show.
use Rattle.std.proofs.Common.{◌≡◌, ℕ, zero, suc, ◌+◌, ◌-◌, ◌<◌, ◌≤◌, Bool, true, false, cond, not, Option, Some}
use Rattle.std.proofs.Common.{None}
use Rattle.std.proofs.Common.{List, [], ◌∷◌, ◌++◌, length, map, filter, find, get_or, is_some, refl, sym, ap, subst}
use Rattle.std.proofs.Common.{◌∙◌}
use Rattle.std.proofs.Common.{arith}
use Rattle.std.specs.Prelude.{◌&&◌, ◌||◌, ◌==◌, encode_utf8_all}
use Rattle.std.specs.Option.{option_map, option_map_or, option_to_list}
use Rattle.std.specs.List.{AllByRecursion, flat_map, list_all, list_any, range_with_len, slice_get}
use Rattle.std.specs.Str.{bytes_eq}
use Rattle.std.proofs.lemmas.Bool.{and_parts, eq-eqb, eqb-true, ne_eqb}
use Rattle.std.proofs.lemmas.List.Concat.{flat_map-cons}
use Rattle.std.proofs.lemmas.List.Elements.{All-from_recursion}
use Rattle.std.proofs.lemmas.Option.{same_Some, slice_get_within}
use Rattle.std.proofs.lemmas.Str.{encodes-append}
use Rattle.cbs_page.specs.declared.content.Content.{Content}
use Rattle.cbs_page.specs.declared.octets.PageView.{PageView}
use Rattle.cbs_page.specs.Coding.{alphabet_of}
use Rattle.cbs_page.specs.Page.{is_readable}
use Rattle.cbs_page.specs.Text.{text_in, text_of_page}
use Rattle.bsc_table.proofs.History.Pairs.{find_passes}
use Rattle.handset.specs.Reception.{Name, agreeing, agrees_with, is_complete, is_of}
use Rattle.handset.specs.Reception.{pages_named, pages_of, readable_pages, text_of, total_in, total_of}
use Rattle.verification.specs.declared.difference.Difference.{Difference}
use Rattle.verification.specs.declared.difference.Kind.TheVariants as kinds
use Rattle.verification.specs.declared.judged.JudgedPage.{JudgedPage}
use Rattle.verification.specs.declared.sent.SentPage.{SentPage}
use Rattle.verification.specs.Asked.{AskedMessage, is_page_of}
use Rattle.verification.specs.Difference.{difference_of, differs}
use Rattle.verification.specs.Difference.{first_difference}
use Rattle.verification.specs.Difference.{has_page, is_in_time}
use Rattle.verification.specs.Difference.{page_differences}
use Rattle.verification.specs.Difference.{page_numbers}
use Rattle.verification.specs.Judged.{is_right, judged, judged_in, reads_as}
use Rattle.verification.specs.Sent.{sent_in}
use Rattle.verification_laws.proofs.Lists.{all-range, any-seen}
use Rattle.verification_laws.proofs.NoOthers.{any-map, each-none, none-joined, sent-are-read}
use Rattle.verification_laws.proofs.PageNumbers.{IsNumbered, all-numbered, readable-number}

-- what ranges and searches say
pub in-range : (P : ℕ → Type 0) (a n k : ℕ) → AllByRecursion P (range_with_len a n) → a ≤ k → k < a + n → P k
in-range P a zero k all low high = absurd (let less : ⊥ = omega arith in less)
in-range P a (suc n) k all low high =
    by_test (k == a) refl (λ e. subst P (sym e) all.0)
    (λ other. in-range P (a + 1) n k all.1 (omega arith) (omega arith))
  where
    by_test : (here : Bool) → (k == a) ≡ here → (k ≡ a → P k) → ((k ≡ a → ⊥) → P k) → P k
    by_test true is yes_here no_here = yes_here (eqb-true k a is)
    by_test false is yes_here no_here = no_here (λ e. let t : true ≡ false = sym (eq-eqb k a e) ∙ is in cc)

-- what all numbers of a range pass
pub all-in-range : (test : ℕ → Bool) (a n : ℕ) → list_all test (range_with_len a n) ≡ true →
    AllByRecursion (λ k. test k ≡ true) (range_with_len a n)
all-in-range test a zero is = tt
all-in-range test a (suc n) is =
    let both = and_parts (test a) (list_all test (range_with_len (a + 1) n)) is in
    (both.0, all-in-range test (a + 1) n both.1)

none-found : {X : Type 0} (test : X → Bool) (xs : List X) → find test xs ≡ None
    → AllByRecursion (λ x. test x ≡ false) xs
none-found test [] none = tt
none-found test (x ∷ xs) none = here (test x) refl none (λ found. none-found test xs found)
  where
    here : (passes : Bool) → test x ≡ passes → cond passes (Some x) (find test xs) ≡ None →
        (find test xs ≡ None → AllByRecursion (λ y. test y ≡ false) xs) →
        AllByRecursion (λ y. test y ≡ false) (x ∷ xs)
    here true is found rest = cc
    here false is found rest = (is, rest found)

-- so each page of a message is right
no-first : {Y : Type 0} (f : ℕ → Y) (found : Option JudgedPage) →
    map f (option_to_list (option_map (λ (page : JudgedPage). page.slot) found)) ≡ [] → found ≡ None
no-first f None is = refl
no-first f (Some page) is = cc

not-false : (b : Bool) → not b ≡ false → b ≡ true
not-false true is = refl
not-false false is = cc

and-first : (a b : Bool) → a ≡ true → (a && b) ≡ false → b ≡ false
and-first true b is none = none
and-first false b is none = cc

right-judged : (a : AskedMessage) (pages : List JudgedPage) → page_differences a pages ≡ [] → (p : JudgedPage) →
    (k : ℕ) → k < length pages → get_or pages k p ≡ p → 1 ≤ p.number → p.number ≤ 15 → p.right ≡ true
right-judged a pages none p k within at low high =
    let of_number : ℕ → List Difference = λ number. first_difference a pages (kinds.Otherwise number) in
    let numbers = none-joined (flat_map of_number page_numbers) (first_difference a pages kinds.BeforeStart)
    (none-joined (flat_map of_number page_numbers ++ first_difference a pages kinds.BeforeStart)
    (first_difference a pages kinds.AfterStop)
    (none-joined ((flat_map of_number page_numbers ++ first_difference a pages kinds.BeforeStart)
    ++ first_difference a pages kinds.AfterStop) (first_difference a pages kinds.AfterLast) none).0).0 in
    let here : first_difference a pages (kinds.Otherwise p.number) ≡ [] =
    in-range (λ number. first_difference a pages (kinds.Otherwise number) ≡ []) 1 15 p.number
    (each-none of_number page_numbers numbers.0) low (omega arith) in
    let found = no-first (difference_of a (kinds.Otherwise p.number)) (find (differs a (kinds.Otherwise p.number))
    pages)
    here in
    let all = All-from_recursion (λ (q : JudgedPage). differs a (kinds.Otherwise p.number) q ≡ false) pages
    (none-found (differs a (kinds.Otherwise p.number)) pages found) in
    let one : differs a (kinds.Otherwise p.number) p ≡ false =
    subst (λ (q : JudgedPage). differs a (kinds.Otherwise p.number) q ≡ false) at (all k p within) in
    not-false p.right (and-first (p.number == p.number) (not p.right) (eq-eqb p.number p.number refl) one)

-- all pages that can be shown, from the judged ones
abbrev RightIf : AskedMessage → SentPage → Type 0
RightIf a s = is_page_of a s.page ≡ true → is_readable s.page ≡ true → is_right a s.page ≡ true

right-all : (a : AskedMessage) (sent : List SentPage) →
    ((p : JudgedPage) (k : ℕ) → k < length (judged_in a sent) → get_or (judged_in a sent) k p ≡ p → 1 ≤ p.number →
    p.number ≤ 15 → p.right ≡ true) →
    AllByRecursion (λ (s : SentPage). IsNumbered s.page) sent → AllByRecursion (RightIf a) sent
right-all a [] right numbered = tt
right-all a (s ∷ sent) right numbered =
    by_test (is_page_of a s.page) refl right (λ says. right-all a sent says numbered.1)
  where
    by_test : (own : Bool) → is_page_of a s.page ≡ own →
        ((p : JudgedPage) (k : ℕ) →
        k < length (map (judged a) (cond own (s ∷ filter (λ x. is_page_of a x.page) sent)
        (filter (λ x. is_page_of a x.page) sent))) →
        get_or (map (judged a) (cond own (s ∷ filter (λ x. is_page_of a x.page) sent)
        (filter (λ x. is_page_of a x.page) sent))) k p ≡ p → 1 ≤ p.number → p.number ≤ 15 → p.right ≡ true) →
        (((p : JudgedPage) (k : ℕ) → k < length (judged_in a sent) → get_or (judged_in a sent) k p ≡ p →
        1 ≤ p.number → p.number ≤ 15 → p.right ≡ true) → AllByRecursion (RightIf a) sent) →
        AllByRecursion (RightIf a) (s ∷ sent)
    by_test true is says rest = (
      (λ own readable. says (judged a s) 0 (omega arith) refl numbered.0.0
          (readable-number s.page numbered.0 readable)),
      rest (λ p k within at low high. says p (suc k) (omega arith) at low high),
    )
    by_test false is says rest = ((λ own readable. let t : true ≡ false = sym own ∙ is in cc), rest says)

-- the name of a message that was asked
abbrev pub name_asked : AskedMessage → Name
name_asked a = record { id = a.id; serial = a.serial }

-- the pages that a handset shows
abbrev readable_in : List SentPage → List PageView
readable_in sent = filter is_readable (map (λ (s : SentPage). s.page) sent)

right-named : (a : AskedMessage) (sent : List SentPage) → AllByRecursion (RightIf a) sent →
    AllByRecursion (λ page. is_right a page ≡ true) (pages_named (name_asked a) (readable_in sent))
right-named a [] all = tt
right-named a (s ∷ sent) all =
    here (is_readable s.page) (is_of (name_asked a) s.page) refl refl (right-named a sent all.1)
  where
    here : (shown own : Bool) → is_readable s.page ≡ shown → is_of (name_asked a) s.page ≡ own →
        AllByRecursion (λ page. is_right a page ≡ true) (pages_named (name_asked a) (readable_in sent)) →
        AllByRecursion (λ page. is_right a page ≡ true)
        (pages_named (name_asked a) (cond shown (s.page ∷ readable_in sent) (readable_in sent)))
    here true true readable is rest =
        subst (λ (own : Bool). AllByRecursion (λ page. is_right a page ≡ true)
        (cond own (s.page ∷ pages_named (name_asked a) (readable_in sent))
        (pages_named (name_asked a) (readable_in sent)))) (sym is) (all.0 is readable, rest)
    here true false readable is rest =
        subst (λ (own : Bool). AllByRecursion (λ page. is_right a page ≡ true)
        (cond own (s.page ∷ pages_named (name_asked a) (readable_in sent))
        (pages_named (name_asked a) (readable_in sent)))) (sym is) rest
    here false own readable is rest = rest

-- so those are right of which nothing differs
pub right-read : (a : AskedMessage) (blocks : List (List ℕ)) →
    page_differences a (judged_in a (sent_in blocks)) ≡ [] →
    AllByRecursion (λ page. is_right a page ≡ true) (pages_named (name_asked a) (readable_pages blocks))
right-read a blocks none =
    subst (λ (pages : List PageView). AllByRecursion (λ page. is_right a page ≡ true)
    (pages_named (name_asked a) (filter is_readable pages))) (sent-are-read blocks)
    (right-named a (sent_in blocks)
    (right-all a (sent_in blocks)
    (λ p k within at low high. right-judged a (judged_in a (sent_in blocks)) none p k within at low high)
    (all-numbered 0 blocks)))

-- each number is among them
any-weaker : {X : Type 0} (p q : X → Bool) (xs : List X) → ((x : X) → p x ≡ true → q x ≡ true) →
    list_any p xs ≡ true → list_any q xs ≡ true
any-weaker p q [] weaker some = some
any-weaker p q (x ∷ xs) weaker some = here (p x) refl some (λ found. any-weaker p q xs weaker found)
  where
    or-left : (y z : Bool) → y ≡ true → (y || z) ≡ true
    or-left y z is = ap (λ w. w || z) is

    or-right : (y z : Bool) → z ≡ true → (y || z) ≡ true
    or-right true z is = refl
    or-right false z is = is

    here : (passes : Bool) → p x ≡ passes → (passes || list_any p xs) ≡ true →
        (list_any p xs ≡ true → list_any q xs ≡ true) → (q x || list_any q xs) ≡ true
    here true is found rest = or-left (q x) (list_any q xs) (weaker x is)
    here false is found rest = or-right (q x) (list_any q xs) (rest found)

any-passing : {X : Type 0} (p q : X → Bool) (xs : List X) →
    list_any q (filter p xs) ≡ list_any (λ x. p x && q x) xs
any-passing p q [] = refl
any-passing p q (x ∷ xs) = here (p x) (any-passing p q xs)
  where
    here : (passes : Bool) → list_any q (filter p xs) ≡ list_any (λ y. p y && q y) xs →
        list_any q (cond passes (x ∷ filter p xs) (filter p xs))
        ≡ ((passes && q x) || list_any (λ y. p y && q y) xs)
    here true rest = ap (λ (y : Bool). q x || y) rest
    here false rest = rest

any-named : (name : Name) (test : PageView → Bool) (sent : List SentPage) →
    list_any test (pages_named name (readable_in sent))
    ≡ list_any (λ (s : SentPage). is_readable s.page && (is_of name s.page && test s.page)) sent
any-named name test sent =
    any-passing (is_of name) test (readable_in sent)
    ∙ any-passing is_readable (λ page. is_of name page && test page) (map (λ (s : SentPage). s.page) sent)
    ∙ any-map (λ page. is_readable page && (is_of name page && test page)) (λ (s : SentPage). s.page) sent

has-number : (a : AskedMessage) (sent : List SentPage) (j number : ℕ) → has_page a (judged_in a sent) j number ≡ true →
    list_any (λ (page : PageView). page.number == number) (pages_named (name_asked a) (readable_in sent)) ≡ true
has-number a sent j number has =
    any-named (name_asked a) (λ (page : PageView). page.number == number) sent
    ∙ any-weaker
    (λ (s : SentPage). is_page_of a s.page
    && (is_in_time a j (judged a s) && (((judged a s).number == number) && (judged a s).right)))
    (λ (s : SentPage). is_readable s.page && (is_page_of a s.page && (s.page.number == number))) sent
    (λ s passes.
    let one = and_parts (is_page_of a s.page)
    (is_in_time a j (judged a s) && (((judged a s).number == number) && (judged a s).right)) passes in
    let two = and_parts (is_in_time a j (judged a s)) (((judged a s).number == number) && (judged a s).right) one.1 in
    let three = and_parts (s.page.number == number) ((judged a s).right) two.1 in
    let shown = and_parts (is_readable s.page) ((s.page.total == length a.contents)
    && ((s.page.dcs.0 == a.dcs) && reads_as s.page (slice_get a.contents (s.page.number - 1)))) three.1 in
    ap (λ x. x && (is_page_of a s.page && (s.page.number == number))) shown.0
    ∙ ap (λ x. x && (s.page.number == number)) one.0 ∙ three.0)
    (sym (any-seen (λ (s : SentPage). is_page_of a s.page)
    (λ (page : JudgedPage). is_in_time a j page && ((page.number == number) && page.right)) (judged a) sent) ∙ has)

-- the numbers that are sent in time are among those
pub number-read : (a : AskedMessage) (blocks : List (List ℕ)) (j number : ℕ) →
    has_page a (judged_in a (sent_in blocks)) j number ≡ true →
    list_any (λ (page : PageView). page.number == number) (pages_named (name_asked a) (readable_pages blocks)) ≡ true
number-read a blocks j number has =
    subst (λ (pages : List PageView). list_any (λ (page : PageView). page.number == number)
    (pages_named (name_asked a) (filter is_readable pages)) ≡ true) (sent-are-read blocks)
    (has-number a (sent_in blocks) j number has)

-- pages that agree are all kept
filter-whole : {X : Type 0} (test : X → Bool) (xs : List X) → AllByRecursion (λ x. test x ≡ true) xs →
    filter test xs ≡ xs
filter-whole test [] all = refl
filter-whole test (x ∷ xs) all =
    ap (λ here. cond here (x ∷ filter test xs) (filter test xs)) all.0
    ∙ ap (λ ys. x ∷ ys) (filter-whole test xs all.1)

record IsOfMessage (a : AskedMessage) (page : PageView) : Type 0 where
  total_is : page.total ≡ length a.contents
  dcs_is : page.dcs.0 ≡ a.dcs
  reads_is : reads_as page (slice_get a.contents (page.number - 1)) ≡ true

of-message : (a : AskedMessage) (page : PageView) → is_right a page ≡ true → IsOfMessage a page
of-message a page right =
    let shown = and_parts (is_readable page) ((page.total == length a.contents)
    && ((page.dcs.0 == a.dcs) && reads_as page (slice_get a.contents (page.number - 1)))) right in
    let one = and_parts (page.total == length a.contents)
    ((page.dcs.0 == a.dcs) && reads_as page (slice_get a.contents (page.number - 1))) shown.1 in
    let two = and_parts (page.dcs.0 == a.dcs) (reads_as page (slice_get a.contents (page.number - 1))) one.1 in
    record {
      total_is = eqb-true page.total (length a.contents) one.0;
      dcs_is = eqb-true page.dcs.0 a.dcs two.0;
      reads_is = two.1;
    }

all-agree : (a : AskedMessage) (first : PageView) (pages : List PageView) → is_right a first ≡ true →
    AllByRecursion (λ page. is_right a page ≡ true) pages → AllByRecursion (λ page. agrees_with first page ≡ true) pages
all-agree a first [] right all = tt
all-agree a first (page ∷ pages) right all =
    let one = of-message a first right in
    let other = of-message a page all.0 in (
      ap (λ x. x && (page.dcs.0 == first.dcs.0)) (eq-eqb page.total first.total (other.total_is ∙ sym one.total_is))
          ∙ eq-eqb page.dcs.0 first.dcs.0 (other.dcs_is ∙ sym one.dcs_is),
      all-agree a first pages right all.1,
    )

agreeing-whole : (a : AskedMessage) (pages : List PageView) → AllByRecursion (λ page. is_right a page ≡ true) pages →
    agreeing pages ≡ pages
agreeing-whole a [] all = refl
agreeing-whole a (first ∷ rest) all =
    filter-whole (agrees_with first) (first ∷ rest) (all-agree a first (first ∷ rest) all.0 all)

total-is : (a : AskedMessage) (pages : List PageView) (test : PageView → Bool) → list_any test pages ≡ true →
    AllByRecursion (λ page. is_right a page ≡ true) pages → total_in pages ≡ length a.contents
total-is a [] test some all = cc
total-is a (first ∷ rest) test some all = (of-message a first all.0).total_is

some-found : {X : Type 0} (test : X → Bool) (xs : List X) → is_some (find test xs) ≡ list_any test xs
some-found test [] = refl
some-found test (x ∷ xs) = here (test x) (some-found test xs)
  where
    here : (passes : Bool) → is_some (find test xs) ≡ list_any test xs →
        is_some (cond passes (Some x) (find test xs)) ≡ (passes || list_any test xs)
    here true rest = refl
    here false rest = rest

-- so the message is complete
complete-by : List PageView → ℕ → Bool
complete-by pages total =
    not (total == 0)
    && list_all (λ number. is_some (find (λ (page : PageView). page.number == number) pages)) (range_with_len 1 total)

-- the pages of a message that was read, one for each number
pub record IsRead (a : AskedMessage) (pages : List PageView) : Type 0 where
  pub right : AllByRecursion (λ page. is_right a page ≡ true) pages
  pub numbers : (number : ℕ) → 1 ≤ number → number ≤ length a.contents →
      list_any (λ (page : PageView). page.number == number) pages ≡ true
  pub some : 1 ≤ length a.contents

kept-pages : (a : AskedMessage) (read : List PageView) → IsRead a (pages_named (name_asked a) read) →
    pages_of (name_asked a) read ≡ pages_named (name_asked a) read
kept-pages a read is = agreeing-whole a (pages_named (name_asked a) read) is.right

kept-total : (a : AskedMessage) (read : List PageView) → IsRead a (pages_named (name_asked a) read) →
    total_of (name_asked a) read ≡ length a.contents
kept-total a read is =
    ap total_in (kept-pages a read is)
    ∙ total-is a (pages_named (name_asked a) read) (λ page. page.number == 1) (is.numbers 1 (omega arith) is.some)
    is.right

-- a message of which each page was read right is complete
pub complete : (a : AskedMessage) (read : List PageView) → IsRead a (pages_named (name_asked a) read) →
    is_complete (name_asked a) read ≡ true
unfolding complete-by
complete a read is =
    let named : List PageView = pages_named (name_asked a) read in
    let same : is_complete (name_asked a) read ≡ complete-by (pages_named (name_asked a) read) (length a.contents) =
    ap (λ pages. complete-by pages (total_of (name_asked a) read)) (kept-pages a read is)
    ∙ ap (complete-by (pages_named (name_asked a) read)) (kept-total a read is) in
    let some : (length a.contents == 0) ≡ false =
    ne_eqb (length a.contents) 0 (λ e. let s = is.some in let less : ⊥ = omega (arith, s, e) in less) in
    same
    ∙ ap (λ x. not x
    && list_all (λ number. is_some (find (λ (page : PageView). page.number == number) (pages_named (name_asked a)
    read)))
    (range_with_len 1 (length a.contents))) some
    ∙ all-range (λ number. is_some (find (λ (page : PageView). page.number == number) (pages_named (name_asked a)
    read))) 1
    (length a.contents)
    (λ number low high. some-found (λ (page : PageView). page.number == number) (pages_named (name_asked a) read)
    ∙ is.numbers number low (omega arith))

-- and a complete message whose pages are right has one for each number
some-total : (total : ℕ) → not (total == 0) ≡ true → 1 ≤ total
some-total zero is = cc
some-total (suc total) is = omega arith

read-by : (a : AskedMessage) (pages : List PageView) → AllByRecursion (λ page. is_right a page ≡ true) pages →
    complete-by pages (total_in pages) ≡ true → IsRead a pages
unfolding complete-by
read-by a [] right whole = cc
read-by a (first ∷ rest) right whole =
    let total : first.total ≡ length a.contents = (of-message a first right.0).total_is in
    let both = and_parts (not (first.total == 0))
    (list_all (λ number. is_some (find (λ (page : PageView). page.number == number) (first ∷ rest)))
    (range_with_len 1 first.total)) whole in
    let some : 1 ≤ first.total = some-total first.total both.0 in
    record {
      right = right;
      numbers = λ number low high.
          sym (some-found (λ (page : PageView). page.number == number) (first ∷ rest))
          ∙ in-range (λ n. is_some (find (λ (page : PageView). page.number == n) (first ∷ rest)) ≡ true) 1 first.total
          number
          (all-in-range (λ n. is_some (find (λ (page : PageView). page.number == n) (first ∷ rest))) 1 first.total
          both.1)
          low (omega (arith, total, high));
      some = omega (arith, total, some);
    }

-- a message of which all pages that were read are right was read, if it is complete
pub read-if : (a : AskedMessage) (read : List PageView) →
    AllByRecursion (λ page. is_right a page ≡ true) (pages_named (name_asked a) read) →
    is_complete (name_asked a) read ≡ true → IsRead a (pages_named (name_asked a) read)
unfolding complete-by
read-if a read right whole =
    read-by a (pages_named (name_asked a) read) right
    (sym (ap (λ (pages : List PageView). complete-by pages (total_in pages))
    (agreeing-whole a (pages_named (name_asked a) read) right)) ∙ whole)

-- and its text is that of its pages
same-octets : (xs ys : List ℕ) → bytes_eq xs ys ≡ true → xs ≡ ys
same-octets [] [] is = refl
same-octets [] (y ∷ ys) is = cc
same-octets (x ∷ xs) [] is = cc
same-octets (x ∷ xs) (y ∷ ys) is =
    let both = and_parts (x == y) (bytes_eq xs ys) is in
    ap (λ n. n ∷ xs) (eqb-true x y both.0) ∙ ap (λ zs. y ∷ zs) (same-octets xs ys both.1)

found-right : (a : AskedMessage) (test : PageView → Bool) (pages : List PageView) (page : PageView) →
    AllByRecursion (λ p. is_right a p ≡ true) pages → find test pages ≡ Some page → is_right a page ≡ true
found-right a test [] page all found = cc
found-right a test (p ∷ pages) page all found =
    here (test p) found (λ later. found-right a test pages page all.1 later)
  where
    here : (passes : Bool) → cond passes (Some p) (find test pages) ≡ Some page →
        (find test pages ≡ Some page → is_right a page ≡ true) → is_right a page ≡ true
    here true is rest = subst (λ x. is_right a x ≡ true) (same_Some p page is) all.0
    here false is rest = rest is

text-of-number : AskedMessage → List PageView → ℕ → List ℕ
text-of-number a pages number =
    option_map_or text_of_page (find (λ (page : PageView). page.number == number) pages) []

one-text : (a : AskedMessage) (pages : List PageView) → IsRead a pages → (k : ℕ) (content : Content) →
    slice_get a.contents k ≡ Some content → k < length a.contents →
    encode_utf8_all (text-of-number a pages (1 + k))
    ≡ encode_utf8_all (text_in (alphabet_of a.dcs) content.octets)
unfolding text-of-number
one-text a pages is k content there within =
    by_found (find (λ (page : PageView). page.number == 1 + k) pages) refl
    (some-found (λ (page : PageView). page.number == 1 + k) pages ∙ is.numbers (1 + k) (omega arith) (omega arith))
  where
    by_found : (found : Option PageView) → find (λ (page : PageView). page.number == 1 + k) pages ≡ found →
        is_some (find (λ (page : PageView). page.number == 1 + k) pages) ≡ true →
        encode_utf8_all (option_map_or text_of_page (find (λ (page : PageView). page.number == 1 + k) pages) [])
        ≡ encode_utf8_all (text_in (alphabet_of a.dcs) content.octets)
    by_found None none some = let t : false ≡ true = ap is_some (sym none) ∙ some in cc
    by_found (Some page) found some =
        let right = found-right a (λ (p : PageView). p.number == 1 + k) pages page is.right found in
        let of = of-message a page right in
        let number : page.number ≡ 1 + k =
        eqb-true page.number (1 + k) (find_passes (λ (p : PageView). p.number == 1 + k) pages page found) in
        let place : page.number - 1 ≡ k = omega (arith, number) in
        let reads : reads_as page (Some content) ≡ true =
        subst (λ o. reads_as page o ≡ true) (ap (slice_get a.contents) place ∙ there) of.reads_is in
        ap (λ o. encode_utf8_all (option_map_or text_of_page o [])) found
        ∙ same-octets (encode_utf8_all (text_of_page page))
        (encode_utf8_all (text_in (alphabet_of page.dcs.0) content.octets)) reads
        ∙ ap (λ n. encode_utf8_all (text_in (alphabet_of n) content.octets)) of.dcs_is

texts-are : (T : ℕ → List ℕ) (G : Content → List ℕ) (n : ℕ) (rest : List Content) →
    ((k : ℕ) (c : Content) → slice_get rest k ≡ Some c → encode_utf8_all (T (n + k)) ≡ encode_utf8_all (G c)) →
    encode_utf8_all (flat_map T (range_with_len n (length rest))) ≡ encode_utf8_all (flat_map G rest)
texts-are T G n [] one = refl
texts-are T G n (c ∷ rest) one =
    let e : n + 0 ≡ n = omega arith in
    let first : encode_utf8_all (T n) ≡ encode_utf8_all (G c) = ap (λ k. encode_utf8_all (T k)) (sym e)
    ∙ one 0 c refl in
    let later : encode_utf8_all (flat_map T (range_with_len (n + 1) (length rest))) ≡ encode_utf8_all (flat_map G
    rest) =
    texts-are T G (n + 1) rest
    (λ k d there. let more : n + 1 + k ≡ n + suc k = omega arith in
    ap (λ m. encode_utf8_all (T m)) more ∙ one (suc k) d there) in
    ap encode_utf8_all (flat_map-cons T n (range_with_len (n + 1) (length rest)))
    ∙ encodes-append (T n) (flat_map T (range_with_len (n + 1) (length rest)))
    ∙ ap (λ xs. xs ++ encode_utf8_all (flat_map T (range_with_len (n + 1) (length rest)))) first
    ∙ ap (λ xs. encode_utf8_all (G c) ++ xs) later
    ∙ sym (encodes-append (G c) (flat_map G rest))
    ∙ ap encode_utf8_all (sym (flat_map-cons G c rest))

text-by : (a : AskedMessage) (read : List PageView) → IsRead a (pages_named (name_asked a) read) →
    text_of (name_asked a) read
    ≡ flat_map (text-of-number a (pages_named (name_asked a) read)) (range_with_len 1 (length a.contents))
unfolding text-of-number
text-by a read is =
    ap (λ (pages : List PageView). flat_map
    (λ number. option_map_or text_of_page (find (λ (page : PageView). page.number == number) pages) [])
    (range_with_len 1 (total_of (name_asked a) read))) (kept-pages a read is)
    ∙ ap (λ total. flat_map
    (λ number. option_map_or text_of_page
    (find (λ (page : PageView). page.number == number) (pages_named (name_asked a) read)) [])
    (range_with_len 1 total)) (kept-total a read is)

-- so the text that is shown is that of the message
pub text-is : (a : AskedMessage) (read : List PageView) → IsRead a (pages_named (name_asked a) read) →
    encode_utf8_all (text_of (name_asked a) read)
    ≡ encode_utf8_all (flat_map (λ (c : Content). text_in (alphabet_of a.dcs) c.octets) a.contents)
text-is a read is =
    ap encode_utf8_all (text-by a read is)
    ∙ texts-are (text-of-number a (pages_named (name_asked a) read))
    (λ (c : Content). text_in (alphabet_of a.dcs) c.octets) 1 a.contents
    (λ k c there. one-text a (pages_named (name_asked a) read) is k c there (slice_get_within a.contents k c there))
