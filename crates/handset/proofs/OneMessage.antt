-- What is read of a message if all pages of its name are pages of one message that was sent.
use Rattle.std.proofs.Common.{◌≡◌, ◌⊎◌, ℕ, zero, suc, ◌+◌, ◌-◌, ◌≤◌, ◌<◌, Bool, true, false, cond, eqb, leb, min}
use Rattle.std.proofs.Common.{Option, Some, is_some, List, [], ◌∷◌, ◌++◌, find, filter, length, get_or, map}
use Rattle.std.proofs.Common.{count_by, refl, sym, ◌∙◌, ap, subst, arith, inl, inr}
use Rattle.std.specs.Prelude.{◌&&◌, not}
use Rattle.std.specs.Option.{option_map_or}
use Rattle.std.specs.List.{flat_map, list_all, range_with_len, All, Contains}
use Rattle.std.proofs.lemmas.Bool.{cases_Bool, cases_lt, and_parts, eqb-true, eq-eqb, ne_eqb, false≢true, le-leb}
use Rattle.std.proofs.lemmas.Bool.{lt-leb}
use Rattle.std.proofs.lemmas.List.{length-map, get_or-map}
use Rattle.std.proofs.lemmas.List.Elements.{All-filter, filter_passes, All-head, All-tail}
use Rattle.std.proofs.lemmas.List.Sums.{sum_by-cons}
use Rattle.std.proofs.lemmas.List.FromFn.{length-range_with_len, get_or-range_with_len}
use Rattle.cbs_page.specs.declared.octets.PageView.{PageView}
use Rattle.cbs_page.specs.Text.{text_of_page}
use Rattle.handset.specs.Reception.{Name, is_of, pages_named, agrees_with, agreeing, pages_of, total_in}
use Rattle.handset.specs.Counting.{least, least_with}
use Rattle.handset.specs.Laws.{CompleteIsWhole, WholeIsTheLeastCount, TextIsTheMessages}
use Rattle.handset.specs.OneMessage.{IsPageAt, IsMessage, AreFrom, count_of}
use Rattle.handset.proofs.Showing.{of_number, all_there, texts, complete_by, text_by}

-- 1 if a test holds, else 0
abbrev one_where : Bool → ℕ
one_where b = cond b 1 0

-- something is found exactly if the count of what passes is 1 at least
found_is_counted : {X : Type 0} (p : X → Bool) (xs : List X) → is_some (find p xs) ≡ leb 1 (count_by p xs)
found_is_counted p [] = refl
found_is_counted p (x ∷ xs) = by_test (found_is_counted p xs) (p x) refl
  where
    one : (b : Bool) → p x ≡ b → count_by p (x ∷ xs) ≡ one_where b + count_by p xs
    one b is = sum_by-cons (λ y. cond (p y) 1 0) x xs ∙ ap (λ c. one_where c + count_by p xs) is

    by_test : is_some (find p xs) ≡ leb 1 (count_by p xs) → (b : Bool) → p x ≡ b →
        is_some (cond (p x) (Some x) (find p xs)) ≡ leb 1 (count_by p (x ∷ xs))
    by_test rest true is =
        let more = one true is in
        ap (λ c. is_some (cond c (Some x) (find p xs))) is ∙ sym (le-leb 1 (count_by p (x ∷ xs)) (omega (arith, more)))
    by_test rest false is =
        let same : count_by p (x ∷ xs) ≡ count_by p xs = let more = one false is in omega (arith, more) in
        ap (λ c. is_some (cond c (Some x) (find p xs))) is ∙ rest ∙ ap (leb 1) (sym same)

-- the lesser of two numbers is 1 at least exactly if both are
leb-min : (a b : ℕ) → leb 1 (min a b) ≡ (leb 1 a && leb 1 b)
leb-min a b =
    elim (cases_lt 0 a) [
      | inr none ↦
          lt-leb 1 (min a b) (omega (arith, none)) ∙ ap (λ c. c && leb 1 b) (sym (lt-leb 1 a (omega (arith, none))))
      | inl one ↦ same (cases_lt 0 b) one ∙ ap (λ c. c && leb 1 b) (sym (le-leb 1 a (omega (arith, one))))
    ]
  where
    same : (0 < b) ⊎ (b ≤ 0) → 0 < a → leb 1 (min a b) ≡ leb 1 b
    same (inl two) one = le-leb 1 (min a b) (omega (arith, one, two)) ∙ sym (le-leb 1 b (omega (arith, two)))
    same (inr none) one = lt-leb 1 (min a b) (omega (arith, none)) ∙ sym (lt-leb 1 b (omega (arith, none)))

-- how often a number occurs among pages, and the least of these counts
abbrev counts_in : List PageView → ℕ → ℕ
counts_in ps n = count_by (λ page. eqb page.number n) ps

abbrev whole_by : List PageView → ℕ
whole_by ps = least (map (counts_in ps) (range_with_len 1 (total_in ps)))

-- pages of some numbers are all there exactly if the least of their counts is 1 at least
there_with : (ps : List PageView) (n : ℕ) (ns : List ℕ) →
    all_there (of_number ps) (n ∷ ns) ≡ leb 1 (least_with (counts_in ps n) (map (counts_in ps) ns))
there_with ps n [] = and-true (is_some (of_number ps n)) ∙ found_is_counted (λ (page : PageView). eqb page.number n) ps
  where
    and-true : (b : Bool) → (b && true) ≡ b
    and-true true = refl
    and-true false = refl
there_with ps n (m ∷ ns) =
    ap (λ b. b && all_there (of_number ps) (m ∷ ns)) (found_is_counted (λ (page : PageView). eqb page.number n) ps)
    ∙ ap (λ b. leb 1 (counts_in ps n) && b) (there_with ps m ns)
    ∙ sym (leb-min (counts_in ps n) (least_with (counts_in ps m) (map (counts_in ps) ns)))

-- so a message is complete exactly if its whole broadcasts are 1 at least
complete_is_whole_by : (ps : List PageView) (total : ℕ) →
    (not (eqb total 0) && all_there (of_number ps) (range_with_len 1 total)) ≡ leb 1
    (least (map (counts_in ps) (range_with_len 1 total)))
complete_is_whole_by ps zero = refl
complete_is_whole_by ps (suc total) =
    ap (λ b. not b && all_there (of_number ps) (range_with_len 1 (suc total)))
    (ne_eqb (suc total) 0 (λ e. omega (arith, e)))
    ∙ there_with ps 1 (range_with_len 2 total)

-- a message is complete exactly if a whole broadcast of it was read
pub complete_is_whole : CompleteIsWhole
complete_is_whole name pages = complete_is_whole_by (pages_of name pages) (total_in (pages_of name pages))

-- a filter by a test that all pass changes nothing
filter_all : {X : Type 0} (p : X → Bool) (xs : List X) → All (λ x. p x ≡ true) xs → filter p xs ≡ xs
filter_all p [] all = refl
filter_all p (x ∷ xs) all =
    let head = All-head (λ y. p y ≡ true) x xs all in
    rw head (ap (λ ys. x ∷ ys) (filter_all p xs (All-tail (λ y. p y ≡ true) x xs all)))

-- a page has this total and this data coding
abbrev Agrees : ℕ → ℕ → PageView → Type 0
Agrees total dcs page = (page.total ≡ total) × (page.dcs.0 ≡ dcs)

-- pages that all agree are all among those that agree with the first
agreeing_all : (total dcs : ℕ) (ps : List PageView) → All (Agrees total dcs) ps → agreeing ps ≡ ps
agreeing_all total dcs [] all = refl
agreeing_all total dcs (first ∷ rest) all =
    let mine = All-head (Agrees total dcs) first rest all in
    filter_all (agrees_with first) (first ∷ rest) (λ k d within.
    let its = all k d within in
    let page : PageView = get_or (first ∷ rest) k d in
    let one : eqb page.total first.total ≡ true = eq-eqb page.total first.total (its.0 ∙ sym mine.0) in
    let two : eqb page.dcs.0 first.dcs.0 ≡ true = eq-eqb page.dcs.0 first.dcs.0 (its.1 ∙ sym mine.1) in
    ap (λ b. b && eqb page.dcs.0 first.dcs.0) one ∙ two)

-- a page is the one that was sent with its number
record IsSent (sent : List PageView) (total dcs : ℕ) (page : PageView) : Type 0 where
  total_is : page.total ≡ total
  coded : page.dcs.0 ≡ dcs
  place : ℕ
  within : place < length sent
  numbered : page.number ≡ place + 1
  same : (d : PageView) → get_or sent place d ≡ page

-- what is in a list doesn't depend on what is asked for past its end
get_or_any : (xs : List PageView) (k : ℕ) (d e : PageView) → k < length xs → get_or xs k d ≡ get_or xs k e
get_or_any [] k d e within = absurd (omega (arith, within))
get_or_any (x ∷ xs) zero d e within = refl
get_or_any (x ∷ xs) (suc k) d e within = get_or_any xs k d e (omega (arith, within))

-- a page that is among those of a message is the one of its number
sent_of : (name : Name) (sent : List PageView) (page : PageView) → (is : IsMessage name sent) → Contains sent page →
    IsSent sent (length sent) is.dcs page
sent_of name sent page is there =
    let at : IsPageAt name is.dcs (length sent) there.0 page =
    subst (IsPageAt name is.dcs (length sent) there.0) there.2 (is.each there.0 page there.1) in
    record {
      total_is = at.total_is;
      coded = at.coded;
      place = there.0;
      within = there.1;
      numbered = at.numbered;
      same = λ d. get_or_any sent there.0 d page there.1 ∙ there.2;
    }

-- if all pages of a name are from a message, each is the one of its number
named_are_sent : (name : Name) (sent pages : List PageView) → (is : IsMessage name sent) → AreFrom name sent pages →
    All (IsSent sent (length sent) is.dcs) (pages_named name pages)
named_are_sent name sent pages is from = λ k d within.
    let page : PageView = get_or (pages_named name pages) k d in
    sent_of name sent page is
    (All-filter (is_of name) (λ p. is_of name p ≡ true → Contains sent p) pages from k d within
    (filter_passes (is_of name) pages k d within))

-- so all pages of the name agree
pages_are_named : (name : Name) (sent pages : List PageView) → IsMessage name sent → AreFrom name sent pages →
    pages_of name pages ≡ pages_named name pages
pages_are_named name sent pages is from =
    let all = named_are_sent name sent pages is from in
    agreeing_all (length sent) is.dcs (pages_named name pages)
    (λ k d within. ((all k d within).total_is, (all k d within).coded))

-- what passes a second test among what passes a first passes both
count-filter : {X : Type 0} (p q : X → Bool) (xs : List X) → count_by q (filter p xs) ≡ count_by (λ x. p x && q x) xs
count-filter p q [] = refl
count-filter p q (x ∷ xs) = by_test (count-filter p q xs) (p x) refl
  where
    whole : count_by (λ y. p y && q y) (x ∷ xs) ≡ one_where (p x && q x) + count_by (λ y. p y && q y) xs
    whole = sum_by-cons (λ y. cond (p y && q y) 1 0) x xs

    by_test : count_by q (filter p xs) ≡ count_by (λ y. p y && q y) xs → (b : Bool) → p x ≡ b →
        count_by q (cond (p x) (x ∷ filter p xs) (filter p xs)) ≡ count_by (λ y. p y && q y) (x ∷ xs)
    by_test rest true is =
        ap (λ c. count_by q (cond c (x ∷ filter p xs) (filter p xs))) is
        ∙ sum_by-cons (λ y. cond (q y) 1 0) x (filter p xs)
        ∙ ap (λ n. one_where (q x) + n) rest
        ∙ sym (whole ∙ ap (λ c. one_where (c && q x) + count_by (λ y. p y && q y) xs) is)
    by_test rest false is =
        let counted = whole ∙ ap (λ c. one_where (c && q x) + count_by (λ y. p y && q y) xs) is in
        let same : count_by (λ y. p y && q y) (x ∷ xs) ≡ count_by (λ y. p y && q y) xs = omega (arith, counted) in
        ap (λ c. count_by q (cond c (x ∷ filter p xs) (filter p xs))) is ∙ rest ∙ sym same

-- a number that is in a list and below none of it is its least
least_reaches : (xs : List ℕ) (n k : ℕ) → (i : ℕ) → i < suc (length xs) → get_or (n ∷ xs) i 0 ≡ k →
    ((j : ℕ) → j < suc (length xs) → k ≤ get_or (n ∷ xs) j 0) → least_with n xs ≡ k
least_reaches [] n k zero within here below = here
least_reaches [] n k (suc i) within here below = absurd (omega (arith, within))
least_reaches (m ∷ xs) n k zero within here below =
    let rest = least_above xs m k (λ j h. below (suc j) (omega (arith, h))) in
    omega (arith, here, rest)
  where
    least_above : (xs : List ℕ) (m k : ℕ) → ((j : ℕ) → j < suc (length xs) → k ≤ get_or (m ∷ xs) j 0) →
        k ≤ least_with m xs
    least_above [] m k below = below 0 (omega arith)
    least_above (x ∷ xs) m k below =
        let first = below 0 (omega arith) in
        let rest = least_above xs x k (λ j h. below (suc j) (omega (arith, h))) in
        omega (arith, first, rest)
least_reaches (m ∷ xs) n k (suc i) within here below =
    let first = below 0 (omega arith) in
    let rest = least_reaches xs m k i (omega (arith, within)) here (λ j h. below (suc j) (omega (arith, h))) in
    omega (arith, first, rest)

least_is : (xs : List ℕ) (k i : ℕ) → i < length xs → get_or xs i 0 ≡ k → ((j : ℕ) → j < length xs → k ≤ get_or xs j 0) →
    least xs ≡ k
least_is [] k i within here below = absurd (omega (arith, within))
least_is (n ∷ xs) k i within here below = least_reaches xs n k i within here below

-- the counts of a list of numbers, by their places
counts_at : (ps : List PageView) (total place : ℕ) → place < total →
    get_or (map (counts_in ps) (range_with_len 1 total)) place 0 ≡ counts_in ps (1 + place)
counts_at ps total place within =
    get_or-map (counts_in ps) (range_with_len 1 total) place 0 0 (omega (arith, length-range_with_len 1 total, within))
    ∙ ap (counts_in ps) (get_or-range_with_len 1 total place 0 within)

-- as many counts as numbers
counts_long : (ps : List PageView) (total : ℕ) → length (map (counts_in ps) (range_with_len 1 total)) ≡ total
counts_long ps total = length-map (range_with_len 1 total) (counts_in ps) ∙ length-range_with_len 1 total

-- the least count, if all pages have one total
whole_of : (total least number : ℕ) (ps : List PageView) → All (λ p. p.total ≡ total) ps → 1 ≤ number → number ≤ total →
    counts_in ps number ≡ least → ((n : ℕ) → 1 ≤ n → n ≤ total → least ≤ counts_in ps n) → whole_by ps ≡ least
whole_of total k number [] all low high reached below = reached
whole_of total k number (first ∷ rest) all low high reached below =
    let told : first.total ≡ total = All-head (λ (p : PageView). p.total ≡ total) first rest all in
    let ps : List PageView = first ∷ rest in
    let long = counts_long (first ∷ rest) total in
    let at : 1 + (number - 1) ≡ number = omega (arith, low) in
    ap (λ t. least (map (counts_in (first ∷ rest)) (range_with_len 1 t))) told
    ∙ least_is (map (counts_in (first ∷ rest)) (range_with_len 1 total)) k (number - 1) (omega (arith, long, low, high))
    (counts_at (first ∷ rest) total (number - 1) (omega (arith, low, high)) ∙ ap (counts_in (first ∷ rest)) at
    ∙ reached)
    (λ j h.
    let here = counts_at (first ∷ rest) total j (omega (arith, long, h)) in
    let least = below (1 + j) (omega arith) (omega (arith, long, h)) in
    omega (arith, here, least))

-- the whole broadcasts of a message that was sent are the least count of its pages
pub whole_is_the_least_count : WholeIsTheLeastCount
whole_is_the_least_count name sent pages k is from counted =
    let all = named_are_sent name sent pages is from in
    let same : (n : ℕ) → counts_in (pages_named name pages) n ≡ count_of name pages n =
    λ n. count-filter (is_of name) (λ p. eqb p.number n) pages in
    ap whole_by (pages_are_named name sent pages is from)
    ∙ whole_of (length sent) k counted.number (pages_named name pages)
    (λ i d within. (all i d within).total_is) counted.low counted.high
    (same counted.number ∙ counted.reached)
    (λ n low high. let here = same n in let least = counted.below n low high in omega (arith, here, least))

-- the texts of pages by their numbers, if each number has the page that was sent with it
texts_are : (numbered : ℕ → Option PageView) (sent : List PageView) (from : ℕ) →
    ((i : ℕ) (d : PageView) → i < length sent → numbered (from + i) ≡ Some (get_or sent i d)) →
    texts numbered (range_with_len from (length sent)) ≡ flat_map text_of_page sent
texts_are numbered [] from there = refl
texts_are numbered (page ∷ sent) from there =
    let at : from + 0 ≡ from = omega arith in
    let here : numbered from ≡ Some page = ap numbered (sym at) ∙ there 0 page (omega arith) in
    let rest = texts_are numbered sent (from + 1) (λ i d within.
    let next : from + 1 + i ≡ from + suc i = omega arith in
    ap numbered next ∙ there (suc i) d (omega (arith, within))) in
    ap (λ o. option_map_or text_of_page o [] ++ texts numbered (range_with_len (from + 1) (length sent))) here
    ∙ ap (λ ts. text_of_page page ++ ts) rest

-- what is found passes the test, and what is so of all is so of it
found_is : (P : PageView → Type 0) (test : PageView → Bool) (ps : List PageView) → All P ps →
    is_some (find test ps) ≡ true → (page : PageView) × (find test ps ≡ Some page) × (test page ≡ true) × P page
found_is P test [] all some = absurd (false≢true some)
found_is P test (p ∷ ps) all some =
    elim (cases_Bool (test p)) [
      | inl here ↦ (p, rw here refl, here, All-head P p ps all)
      | inr gone ↦
          let rest = found_is P test ps (All-tail P p ps all) (rw gone at some) in
          (rest.0, rw gone rest.1, rest.2, rest.3)
    ]

-- a test that holds of all numbers up to a total holds at each place
there_at : (test : ℕ → Bool) (total place : ℕ) → place < total → list_all test (range_with_len 1 total) ≡ true →
    test (1 + place) ≡ true
there_at test total place within all = from_any 1 total place within all
  where
    from_any : (a n i : ℕ) → i < n → list_all test (range_with_len a n) ≡ true → test (a + i) ≡ true
    from_any a zero i within all = absurd (omega (arith, within))
    from_any a (suc n) zero within all =
        let at : a ≡ a + 0 = omega arith in
        ap test (sym at) ∙ (and_parts (test a) (list_all test (range_with_len (a + 1) n)) all).0
    from_any a (suc n) (suc i) within all =
        let at : a + 1 + i ≡ a + suc i = omega arith in
        ap test (sym at) ∙ from_any (a + 1) n i (omega (arith, within))
        (and_parts (test a) (list_all test (range_with_len (a + 1) n)) all).1

-- the text of a complete message, if each of its pages is the one that was sent with its number
text_of_sent : (sent : List PageView) (dcs : ℕ) (ps : List PageView) → All (IsSent sent (length sent) dcs) ps →
    complete_by ps ≡ true → text_by ps ≡ flat_map text_of_page sent
text_of_sent sent dcs [] all whole = absurd (false≢true whole)
text_of_sent sent dcs (first ∷ rest) all whole =
    let told : first.total ≡ length sent = (All-head (IsSent sent (length sent) dcs) first rest all).total_is in
    let parts =
    and_parts (not (eqb first.total 0)) (all_there (of_number (first ∷ rest)) (range_with_len 1 first.total)) whole in
    let there : all_there (of_number (first ∷ rest)) (range_with_len 1 (length sent)) ≡ true =
    ap (λ t. all_there (of_number (first ∷ rest)) (range_with_len 1 t)) (sym told) ∙ parts.1 in
    ap (λ t. texts (of_number (first ∷ rest)) (range_with_len 1 t)) told
    ∙ texts_are (of_number (first ∷ rest)) sent 1 (λ i d within.
    let some = there_at (λ n. is_some (of_number (first ∷ rest) n)) (length sent) i within there in
    let found = found_is (IsSent sent (length sent) dcs) (λ p. eqb p.number (1 + i)) (first ∷ rest) all some in
    let is : IsSent sent (length sent) dcs found.0 = found.3 in
    let number : found.0.number ≡ 1 + i = eqb-true found.0.number (1 + i) found.2 in
    let place : is.place ≡ i = omega (arith, number, is.numbered) in
    found.1 ∙ ap (λ p. Some p) (sym (is.same d) ∙ ap (λ k. get_or sent k d) place))

-- the text of a complete message joins the texts of the pages that were sent
pub text_is_the_messages : TextIsTheMessages
text_is_the_messages name sent pages is from whole =
    let same = pages_are_named name sent pages is from in
    ap text_by same
    ∙ text_of_sent sent is.dcs (pages_named name pages) (named_are_sent name sent pages is from)
    (ap complete_by (sym same) ∙ whole)
