-- The pages that a handset keeps stand for all that it read: what one more page does to both.
use Rattle.std.proofs.Common.{◌≡◌, ℕ, ◌+◌, ◌-◌, ◌<◌, ◌≤◌, Bool, true, false, cond, eqb, Option, Some, None, is_some}
use Rattle.std.proofs.Common.{List, [], ◌∷◌, ◌++◌, find, filter, get_or, refl, sym, ◌∙◌, ap, subst, arith, inl, inr}
use Rattle.std.proofs.Common.{append-nil, encode_utf8_all}
use Rattle.std.specs.Prelude.{◌&&◌, not}
use Rattle.std.specs.Option.{option_or, option_map_or}
use Rattle.std.specs.List.{flat_map, list_all, range_with_len}
use Rattle.std.proofs.Math.Path.{fun_ext}
use Rattle.std.proofs.lemmas.Bool.{cases_Bool, cases_eq, eqb-true, eq-eqb, ne_eqb, and_parts, and_cases, and_right}
use Rattle.std.proofs.lemmas.Bool.{not-true, not-false, false≢true}
use Rattle.std.proofs.lemmas.List.Elements.{filter-append}
use Rattle.std.proofs.lemmas.List.Folds.{find-append, list_all_at}
use Rattle.std.proofs.lemmas.List.FromFn.{length-range_with_len, get_or-range_with_len}
use Rattle.cbs_page.specs.declared.octets.PageView.{PageView}
use Rattle.cbs_page.specs.Text.{text_of_page}
use Rattle.handset.specs.Reception.{Name, name_of, is_of, pages_named, agrees_with, agreeing, pages_of, page_numbered}
use Rattle.handset.specs.Reception.{total_in, total_of, is_complete, text_of, ShownMessage, shown_message, completed_by}
use Rattle.handset.specs.Keeping.{is_numbered, AreKept}
use Rattle.handset.specs.KeepingSteps.{agrees_with_first, counts, pages_with, total_kept, is_kept_whole, text_kept}
use Rattle.handset.specs.KeepingSteps.{message_kept, message_whole, message_ended}
use Rattle.handset.proofs.Lists.{first_in, first_in-filter, found_by_first, option_or-some, option_or-none}

-- a page agrees with itself
agrees-itself : (page : PageView) → agrees_with page page ≡ true
agrees-itself page = rw (eq-eqb page.total page.total refl, eq-eqb page.dcs.0 page.dcs.0 refl) refl

-- the first of the pages that agree with the first is the first
first_in-agreeing : (pages : List PageView) → first_in (agreeing pages) ≡ first_in pages
first_in-agreeing [] = refl
first_in-agreeing (first ∷ rest) = rw (agrees-itself first) refl

-- one more page agrees with the first, or is left out
agreeing-more : (pages : List PageView) (page : PageView) →
    agreeing (pages ++ page ∷ []) ≡ agreeing pages ++ (cond (agrees_with_first (first_in pages) page) (page ∷ []) [])
agreeing-more [] page = rw (agrees-itself page) refl
agreeing-more (first ∷ rest) page = filter-append (agrees_with first) (first ∷ rest) (page ∷ [])

-- the pages of a message, with one more page of another one, and with one more of its own
pub pages_of-other : (name : Name) (pages : List PageView) (page : PageView) → is_of name page ≡ false →
    pages_of name (pages ++ page ∷ []) ≡ pages_of name pages
pages_of-other name pages page other =
    let left_out : filter (is_of name) (page ∷ []) ≡ [] = rw other refl in
    ap agreeing
    (filter-append (is_of name) pages (page ∷ []) ∙ ap (λ more. filter (is_of name) pages ++ more) left_out
    ∙ append-nil (filter (is_of name) pages))

pages_of-more : (name : Name) (pages : List PageView) (page : PageView) → is_of name page ≡ true →
    pages_of name (pages ++ page ∷ []) ≡ pages_of name pages ++ (cond (agrees_with_first (find (is_of name) pages) page)
    (page ∷ []) [])
pages_of-more name pages page own =
    let kept : filter (is_of name) (page ∷ []) ≡ page ∷ [] = rw own refl in
    ap agreeing (filter-append (is_of name) pages (page ∷ []) ∙ ap (λ more. filter (is_of name) pages ++ more) kept)
    ∙ agreeing-more (filter (is_of name) pages) page
    ∙ ap (λ first. pages_of name pages ++ (cond (agrees_with_first first page) (page ∷ []) []))
    (first_in-filter (is_of name) pages)

-- the name of a page that is of a message
pub name_is : (name : Name) (page : PageView) → is_of name page ≡ true → name ≡ name_of page
name_is name page own =
    let parts = and_parts (eqb page.id name.id) (eqb page.serial name.serial) own in
    let id : name.id ≡ page.id = sym (eqb-true page.id name.id parts.0) in
    let serial : name.serial ≡ page.serial = sym (eqb-true page.serial name.serial parts.1) in
    ap (λ i. let n : Name = record { id = i; serial = name.serial } in n) id
    ∙ ap (λ s. let n : Name = record { id = page.id; serial = s } in n) serial

-- a page is of the message of its name
pub is_of-own : (page : PageView) → is_of (name_of page) page ≡ true
is_of-own page = rw (eq-eqb page.id page.id refl, eq-eqb page.serial page.serial refl) refl

-- what is found among the pages with one more
find-more : (test : PageView → Bool) (pages : List PageView) (page : PageView) →
    find test (pages ++ page ∷ []) ≡ option_or (find test pages) (cond (test page) (Some page) None)
find-more test pages page = find-append test pages (page ∷ [])

find-other : (test : PageView → Bool) (pages : List PageView) (page : PageView) → test page ≡ false →
    find test (pages ++ page ∷ []) ≡ find test pages
find-other test pages page other = find-more test pages page ∙ rw other (option_or-none (find test pages))

-- the page of a number, with one more page of the message
numbered-other : (name : Name) (pages : List PageView) (page : PageView) (number : ℕ) → is_of name page ≡ false →
    page_numbered name (pages ++ page ∷ []) number ≡ page_numbered name pages number
numbered-other name pages page number other =
    ap (find (λ p. eqb p.number number)) (pages_of-other name pages page other)

numbered-agrees : (name : Name) (pages : List PageView) (page : PageView) (number : ℕ) → is_of name page ≡ true →
    agrees_with_first (find (is_of name) pages) page ≡ true →
    page_numbered name (pages ++ page ∷ []) number ≡ option_or (page_numbered name pages number)
    (cond (eqb page.number number) (Some page) None)
numbered-agrees name pages page number own agrees =
    let more : cond (agrees_with_first (find (is_of name) pages) page) (page ∷ []) [] ≡ page ∷ [] = rw agrees refl in
    ap (find (λ p. eqb p.number number)) (pages_of-more name pages page own ∙ ap (λ ps. pages_of name pages ++ ps) more)
    ∙ find-more (λ p. eqb p.number number) (pages_of name pages) page

numbered-differs : (name : Name) (pages : List PageView) (page : PageView) (number : ℕ) → is_of name page ≡ true →
    agrees_with_first (find (is_of name) pages) page ≡ false →
    page_numbered name (pages ++ page ∷ []) number ≡ page_numbered name pages number
numbered-differs name pages page number own differs =
    let more : cond (agrees_with_first (find (is_of name) pages) page) (page ∷ []) [] ≡ [] = rw differs refl in
    ap (find (λ p. eqb p.number number))
    (pages_of-more name pages page own ∙ ap (λ ps. pages_of name pages ++ ps) more ∙ append-nil (pages_of name pages))

-- a page of another message: the kept pages stand for all with it too
kept-other : (name : Name) (kept pages : List PageView) (page : PageView) → AreKept name kept pages →
    is_of name page ≡ false → AreKept name kept (pages ++ page ∷ [])
kept-other name kept pages page are other =
    record {
      first = are.first ∙ sym (find-other (is_of name) pages page other);
      numbered = λ number. are.numbered number ∙ sym (numbered-other name pages page number other);
    }

-- a page that is kept: the kept pages stand for all with it
kept-grows : (name : Name) (kept pages : List PageView) (page : PageView) → AreKept name kept pages →
    is_of name page ≡ true → counts kept page ≡ true → AreKept name (kept ++ page ∷ []) (pages ++ page ∷ [])
kept-grows name kept pages page are own counted =
    let agrees : agrees_with_first (find (is_of (name_of page)) kept) page ≡ true =
    (and_parts (not (is_some (find (is_numbered (name_of page) page.number) kept)))
    (agrees_with_first (find (is_of (name_of page)) kept) page) counted).1 in
    let same : name ≡ name_of page = name_is name page own in
    let agrees_all : agrees_with_first (find (is_of name) pages) page ≡ true =
    ap (λ o. agrees_with_first o page) (sym are.first)
    ∙ ap (λ n. agrees_with_first (find (is_of n) kept) page) same ∙ agrees in
    record {
      first =
          find-more (is_of name) kept page
          ∙ ap (λ o. option_or o (cond (is_of name page) (Some page) None)) are.first
          ∙ sym (find-more (is_of name) pages page);
      numbered =
          λ number.
          let tests : is_numbered name number page ≡ eqb page.number number = rw own refl in
          find-more (is_numbered name number) kept page
          ∙ ap (λ b. option_or (find (is_numbered name number) kept) (cond b (Some page) None)) tests
          ∙ ap (λ o. option_or o (cond (eqb page.number number) (Some page) None)) (are.numbered number)
          ∙ sym (numbered-agrees name pages page number own agrees_all);
    }

-- a page that is left out is of a message that has a page
left_out-known : (kept : List PageView) (page : PageView) → counts kept page ≡ false →
    is_some (find (is_of (name_of page)) kept) ≡ true
left_out-known kept page left_out =
    elim (and_cases (not (is_some (find (is_numbered (name_of page) page.number) kept)))
    (agrees_with_first (find (is_of (name_of page)) kept) page) left_out) [
      | inl repeat ↦
          found_by_first (is_of (name_of page)) (λ p. eqb p.number page.number) kept
          (not-false (is_some (find (is_numbered (name_of page) page.number) kept)) repeat)
      | inr differs ↦ known (find (is_of (name_of page)) kept) differs
    ]
  where
    known : (first : Option PageView) → agrees_with_first first page ≡ false → is_some first ≡ true
    known None differs = cc
    known (Some first) differs = refl

-- a page that is left out changes no number of its message: it differs from the first, or its number came before
left_out-numbered : (name : Name) (kept pages : List PageView) (page : PageView) → AreKept name kept pages →
    is_of name page ≡ true → counts kept page ≡ false →
    (number : ℕ) → page_numbered name (pages ++ page ∷ []) number ≡ page_numbered name pages number
left_out-numbered name kept pages page are own left_out number =
    elim (cases_Bool (agrees_with_first (find (is_of name) pages) page)) [
      | inr differs ↦ numbered-differs name pages page number own differs
      | inl agrees ↦ numbered-agrees name pages page number own agrees ∙ elim (cases_eq page.number number) [
        | inr another ↦
            let none : cond (eqb page.number number) (Some page) None ≡ None =
            rw (ne_eqb page.number number another) refl in
            ap (λ o. option_or (page_numbered name pages number) o) none
            ∙ option_or-none (page_numbered name pages number)
        | inl is ↦
            option_or-some (page_numbered name pages number) (cond (eqb page.number number) (Some page) None)
            (came agrees is)
      ]
    ]
  where
    agrees_kept : agrees_with_first (find (is_of name) pages) page ≡ true →
        agrees_with_first (find (is_of (name_of page)) kept) page ≡ true
    agrees_kept agrees =
        ap (λ n. agrees_with_first (find (is_of n) kept) page) (sym (name_is name page own))
        ∙ ap (λ o. agrees_with_first o page) are.first ∙ agrees

    repeat : agrees_with_first (find (is_of name) pages) page ≡ true →
        is_some (find (is_numbered (name_of page) page.number) kept) ≡ true
    repeat agrees =
        elim (and_cases (not (is_some (find (is_numbered (name_of page) page.number) kept)))
        (agrees_with_first (find (is_of (name_of page)) kept) page) left_out) [
          | inl came ↦ not-false (is_some (find (is_numbered (name_of page) page.number) kept)) came
          | inr differs ↦ absurd (false≢true (sym differs ∙ agrees_kept agrees))
        ]

    came : agrees_with_first (find (is_of name) pages) page ≡ true → page.number ≡ number →
        is_some (page_numbered name pages number) ≡ true
    came agrees is =
        ap is_some (sym (are.numbered number))
        ∙ ap (λ n. is_some (find (is_numbered n number) kept)) (name_is name page own)
        ∙ ap (λ k. is_some (find (is_numbered (name_of page) k) kept)) (sym is) ∙ repeat agrees

-- a page that is left out: the kept pages stand for all with it too
kept-stays : (name : Name) (kept pages : List PageView) (page : PageView) → AreKept name kept pages →
    is_of name page ≡ true → counts kept page ≡ false → AreKept name kept (pages ++ page ∷ [])
kept-stays name kept pages page are own left_out =
    let known : is_some (find (is_of name) pages) ≡ true =
    ap is_some (sym are.first) ∙ ap (λ n. is_some (find (is_of n) kept)) (name_is name page own)
    ∙ left_out-known kept page left_out in
    record {
      first =
          are.first ∙ sym (option_or-some (find (is_of name) pages) (cond (is_of name page) (Some page) None) known)
          ∙ sym (find-more (is_of name) pages page);
      numbered = λ number. are.numbered number ∙ sym (left_out-numbered name kept pages page are own left_out number);
    }

-- what the kept pages say of a message is so of all
total_in-first : (pages : List PageView) → total_in pages ≡ option_map_or (λ page. page.total) (first_in pages) 0
total_in-first [] = refl
total_in-first (first ∷ rest) = refl

total_is : (name : Name) (kept pages : List PageView) → AreKept name kept pages →
    total_of name pages ≡ total_kept name kept
total_is name kept pages are =
    total_in-first (pages_of name pages)
    ∙ ap (λ first. option_map_or (λ page. page.total) first 0)
    (first_in-agreeing (pages_named name pages) ∙ first_in-filter (is_of name) pages ∙ sym are.first)

abbrev whole_by : ℕ → (ℕ → Option PageView) → Bool
whole_by total numbered = not (eqb total 0) && list_all (λ number. is_some (numbered number)) (range_with_len 1 total)

abbrev text_by : ℕ → (ℕ → Option PageView) → List ℕ
text_by total numbered = flat_map (λ number. option_map_or text_of_page (numbered number) []) (range_with_len 1 total)

numbered_is : (name : Name) (kept pages : List PageView) → AreKept name kept pages →
    page_numbered name pages ≡ (λ number. find (is_numbered name number) kept)
numbered_is name kept pages are = fun_ext (λ number. sym (are.numbered number))

whole_is : (name : Name) (kept pages : List PageView) → AreKept name kept pages →
    is_complete name pages ≡ is_kept_whole name kept
whole_is name kept pages are =
    ap (λ total. whole_by total (page_numbered name pages)) (total_is name kept pages are)
    ∙ ap (whole_by (total_kept name kept)) (numbered_is name kept pages are)

text_is : (name : Name) (kept pages : List PageView) → AreKept name kept pages →
    text_of name pages ≡ text_kept name kept
text_is name kept pages are =
    ap (λ total. text_by total (page_numbered name pages)) (total_is name kept pages are)
    ∙ ap (text_by (total_kept name kept)) (numbered_is name kept pages are)

message_is : (name : Name) (kept pages : List PageView) → AreKept name kept pages →
    shown_message name pages ≡ message_kept name kept
message_is name kept pages are =
    ap (λ text. let m : ShownMessage = record { id = name.id; serial = name.serial; text = encode_utf8_all text } in m)
    (text_is name kept pages are)

-- a message whose page of some number up to its total is missing isn't whole
not_whole-missing : (total : ℕ) (numbered : ℕ → Option PageView) (number : ℕ) → 1 ≤ number → number ≤ total →
    is_some (numbered number) ≡ false → whole_by total numbered ≡ false
not_whole-missing total numbered number low high missing =
    let place : number - 1 < total = omega arith in
    let there : get_or (range_with_len 1 total) (number - 1) 0 ≡ number =
    get_or-range_with_len 1 total (number - 1) 0 place ∙ (let e : 1 + (number - 1) ≡ number = omega arith in e) in
    let fails : is_some (numbered (get_or (range_with_len 1 total) (number - 1) 0)) ≡ false =
    ap (λ n. is_some (numbered n)) there ∙ missing in
    and_right (not (eqb total 0)) (list_all (λ n. is_some (numbered n)) (range_with_len 1 total))
    (list_all_at (λ n. is_some (numbered n)) (range_with_len 1 total) (number - 1) 0
    (omega (arith, length-range_with_len 1 total)) fails)

-- before a page that counts its message isn't whole
not_whole-before : (kept : List PageView) (page : PageView) → counts kept page ≡ true → 1 ≤ page.number →
    page.number ≤ page.total →
    is_kept_whole (name_of page) kept ≡ false
not_whole-before kept page counted low high =
    by_first (find (is_of (name_of page)) kept) parts.1
  where
    parts : (not (is_some (find (is_numbered (name_of page) page.number) kept)) ≡ true)
        × (agrees_with_first (find (is_of (name_of page)) kept) page ≡ true)
    parts = and_parts (not (is_some (find (is_numbered (name_of page) page.number) kept)))
        (agrees_with_first (find (is_of (name_of page)) kept) page) counted

    by_first : (first : Option PageView) → agrees_with_first first page ≡ true →
        whole_by (option_map_or (λ p. p.total) first 0)
        (λ number. find (is_numbered (name_of page) number) kept) ≡ false
    by_first None agrees = refl
    by_first (Some first) agrees =
        let same = and_parts (eqb page.total first.total) (eqb page.dcs.0 first.dcs.0) agrees in
        let total : page.total ≡ first.total = eqb-true page.total first.total same.0 in
        not_whole-missing first.total (λ number. find (is_numbered (name_of page) number) kept) page.number low
        (omega arith)
        (not-true (is_some (find (is_numbered (name_of page) page.number) kept)) parts.0)

-- what is shown where a message wasn't whole before, and is now
abbrev shown_by : Bool → Bool → ShownMessage → List ShownMessage
shown_by before now message = cond (not before && now) (message ∷ []) []

not_twice : (whole : Bool) (message : ShownMessage) → shown_by whole whole message ≡ []
not_twice true message = refl
not_twice false message = refl

completed-counted : (kept pages : List PageView) (page : PageView) → AreKept (name_of page) kept pages →
    counts kept page ≡ true → 1 ≤ page.number → page.number ≤ page.total →
    completed_by pages page ≡ message_whole (kept ++ page ∷ []) page
completed-counted kept pages page are counted low high =
    let after : AreKept (name_of page) (kept ++ page ∷ []) (pages ++ page ∷ []) =
    kept-grows (name_of page) kept pages page are (is_of-own page) counted in
    let before : is_complete (name_of page) pages ≡ false =
    whole_is (name_of page) kept pages are ∙ not_whole-before kept page counted low high in
    ap (λ b. shown_by b (is_complete (name_of page) (pages ++ page ∷ []))
    (shown_message (name_of page) (pages ++ page ∷ [])))
    before
    ∙ ap (λ b. shown_by false b (shown_message (name_of page) (pages ++ page ∷ [])))
    (whole_is (name_of page) (kept ++ page ∷ []) (pages ++ page ∷ []) after)
    ∙ ap (shown_by false (is_kept_whole (name_of page) (kept ++ page ∷ [])))
    (message_is (name_of page) (kept ++ page ∷ []) (pages ++ page ∷ []) after)

completed-left_out : (kept pages : List PageView) (page : PageView) → AreKept (name_of page) kept pages →
    counts kept page ≡ false → completed_by pages page ≡ []
completed-left_out kept pages page are left_out =
    let after : AreKept (name_of page) kept (pages ++ page ∷ []) =
    kept-stays (name_of page) kept pages page are (is_of-own page) left_out in
    let stays : is_complete (name_of page) (pages ++ page ∷ []) ≡ is_complete (name_of page) pages =
    whole_is (name_of page) kept (pages ++ page ∷ []) after ∙ sym (whole_is (name_of page) kept pages are) in
    ap (λ b. shown_by (is_complete (name_of page) pages) b (shown_message (name_of page) (pages ++ page ∷ []))) stays
    ∙ not_twice (is_complete (name_of page) pages) (shown_message (name_of page) (pages ++ page ∷ []))

-- one more page that can be shown, whether it is kept or left out
pub kept-more : (kept : Name → List PageView) (pages : List PageView) (page : PageView) →
    ((name : Name) → AreKept name (kept name) pages) →
    (name : Name) → AreKept name (pages_with kept page name) (pages ++ page ∷ [])
kept-more kept pages page are name =
    elim (cases_Bool (is_of name page)) [
      | inl own ↦
          let same : counts (kept name) page ≡ counts (kept (name_of page)) page =
          ap (λ n. counts (kept n) page) (name_is name page own) in
          elim (cases_Bool (counts (kept (name_of page)) page)) [
            | inl counted ↦
                rw (counted, own) (kept-grows name (kept name) pages page (are name) own (same ∙ counted))
            | inr left_out ↦ rw left_out (kept-stays name (kept name) pages page (are name) own (same ∙ left_out))
          ]
      | inr other ↦
          let stays : pages_with kept page name ≡ kept name =
          elim (cases_Bool (counts (kept (name_of page)) page)) [
            | inl counted ↦ rw (counted, other) refl
            | inr left_out ↦ rw left_out refl
          ] in
          subst (λ ps. AreKept name ps (pages ++ page ∷ [])) (sym stays)
          (kept-other name (kept name) pages page (are name) other)
    ]

-- and the message that it completes
pub completed-more : (kept pages : List PageView) (page : PageView) → AreKept (name_of page) kept pages →
    1 ≤ page.number → page.number ≤ page.total → completed_by pages page ≡ message_ended kept page
completed-more kept pages page are low high =
    elim (cases_Bool (counts kept page)) [
      | inl counted ↦
          completed-counted kept pages page are counted low high
          ∙ (let e : message_whole (kept ++ page ∷ []) page ≡ message_ended kept page = rw counted refl in e)
      | inr left_out ↦
          completed-left_out kept pages page are left_out
          ∙ (let e : [] ≡ message_ended kept page = rw left_out refl in e)
    ]

-- the page of a number among pages and one more of its message
pub numbered-with : (pages : List PageView) (page : PageView) (number : ℕ) →
    find (is_numbered (name_of page) number) (pages ++ page ∷ [])
    ≡ option_or (find (is_numbered (name_of page) number) pages) (cond (eqb page.number number) (Some page) None)
numbered-with pages page number =
    let tests : is_numbered (name_of page) number page ≡ eqb page.number number = rw (is_of-own page) refl in
    find-more (is_numbered (name_of page) number) pages page
    ∙ ap (λ b. option_or (find (is_numbered (name_of page) number) pages) (cond b (Some page) None)) tests

-- the first page of the message of the last
pub first-with : (pages : List PageView) (page : PageView) →
    find (is_of (name_of page)) (pages ++ page ∷ []) ≡ option_or (find (is_of (name_of page)) pages) (Some page)
first-with pages page =
    find-more (is_of (name_of page)) pages page
    ∙ ap (λ b. option_or (find (is_of (name_of page)) pages) (cond b (Some page) None)) (is_of-own page)

-- a page that is found among some pages is found with one more
pub found-with : (pages : List PageView) (last : PageView) (number : ℕ) (page : PageView) →
    Some page ≡ find (is_numbered (name_of last) number) pages →
    Some page ≡ find (is_numbered (name_of last) number) (pages ++ last ∷ [])
found-with pages last number page found =
    sym (numbered-with pages last number
    ∙ ap (λ o. option_or o (cond (eqb last.number number) (Some last) None)) (sym found))

-- the one more is found if none was, and if it has the number
pub last-with : (pages : List PageView) (last : PageView) (number : ℕ) (o : Option PageView) →
    None ≡ find (is_numbered (name_of last) number) pages → cond (eqb last.number number) (Some last) None ≡ o →
    o ≡ find (is_numbered (name_of last) number) (pages ++ last ∷ [])
last-with pages last number o none is =
    sym (numbered-with pages last number
    ∙ ap (λ f. option_or f (cond (eqb last.number number) (Some last) None)) (sym none) ∙ is)
