-- A list of blocks shows each message that its pages make complete, once, and no other.
use Rattle.std.proofs.Common.{◌≡◌, ◌≢◌, ℕ, suc, Bool, true, false, eqb, Option, Some, None, is_some}
use Rattle.std.proofs.Common.{List, [], ◌∷◌, ◌++◌, find, filter, refl, sym, ◌∙◌, ap, subst, arith, inl}
use Rattle.std.proofs.Common.{inr, append-nil, append_assoc, encode_utf8_all}
use Rattle.std.specs.Prelude.{◌&&◌, not}
use Rattle.std.specs.Option.{option_map_or, option_to_list}
use Rattle.std.specs.List.{flat_map, list_all, range_with_len, All, AllPairs, Contains}
use Rattle.std.proofs.lemmas.Bool.{cases_Bool, and_parts, not-true, false≢true}
use Rattle.std.proofs.lemmas.List.Elements.{filter-append, All-nil, All-cons, All-weaker}
use Rattle.std.proofs.lemmas.List.Kept.{AllPairs-cons}
use Rattle.std.proofs.lemmas.List.Folds.{find-append}
use Rattle.cbs_page.specs.declared.octets.PageView.{PageView}
use Rattle.cbs_page.specs.Text.{text_of_page}
use Rattle.handset.specs.Reception.{Name, name_of, is_of, pages_named, agrees_with, agreeing, pages_of, total_in}
use Rattle.handset.specs.Reception.{is_complete, ShownMessage, shown_message, completed_by, completed_after}
use Rattle.handset.specs.Reception.{readable_pages, shown_in}
use Rattle.handset.specs.Laws.{ShownAreTheComplete, OnePageShowsOne}
use Rattle.handset.specs.Showing.{name_shown}
use Rattle.handset.proofs.ReadingLaws.{completed_after-append}
use Rattle.handset.proofs.Lists.{option_or-some}
use Rattle.handset.proofs.PageLaws.{pages_of-other, name_is}

-- more pages leave those of a message in front
agreeing-append : (ps more : List PageView) → (rest : List PageView) × (agreeing (ps ++ more) ≡ agreeing ps ++ rest)
agreeing-append [] more = (agreeing more, refl)
agreeing-append (first ∷ rest) more =
    (filter (agrees_with first) more, filter-append (agrees_with first) (first ∷ rest) more)

pages_of-append : (name : Name) (pages more : List PageView) →
    (rest : List PageView) × (pages_of name (pages ++ more) ≡ pages_of name pages ++ rest)
pages_of-append name pages more =
    let grown = agreeing-append (pages_named name pages) (pages_named name more) in
    (grown.0, ap agreeing (filter-append (is_of name) pages more) ∙ grown.1)

-- the page of a number among the pages of a message
abbrev pub of_number : List PageView → ℕ → Option PageView
of_number ps number = find (λ page. eqb page.number number) ps

-- a page of each of these numbers was found
abbrev pub all_there : (ℕ → Option PageView) → List ℕ → Bool
all_there numbered numbers = list_all (λ number. is_some (numbered number)) numbers

-- the texts of the pages of these numbers, in their order
abbrev pub texts : (ℕ → Option PageView) → List ℕ → List ℕ
texts numbered numbers = flat_map (λ number. option_map_or text_of_page (numbered number) []) numbers

-- whether the pages of a message are complete
abbrev pub complete_by : List PageView → Bool
complete_by ps = not (eqb (total_in ps) 0) && all_there (of_number ps) (range_with_len 1 (total_in ps))

-- the text of a message, by its pages
abbrev pub text_by : List PageView → List ℕ
text_by ps = texts (of_number ps) (range_with_len 1 (total_in ps))

-- what was found for each of these numbers is found with more pages too
stays_there : (old new : ℕ → Option PageView) (numbers : List ℕ) → ((n : ℕ) → is_some (old n) ≡ true → new n ≡ old n) →
    all_there old numbers ≡ true → (all_there new numbers ≡ true) × (texts new numbers ≡ texts old numbers)
stays_there old new [] same there = (refl, refl)
stays_there old new (n ∷ numbers) same there =
    let parts = and_parts (is_some (old n)) (all_there old numbers) there in
    let rest = stays_there old new numbers same parts.1 in
    let here = same n parts.0 in (
      ap (λ o. is_some o && all_there new numbers) here ∙ ap (λ b. b && all_there new numbers) parts.0 ∙ rest.0,
      ap (λ o. option_map_or text_of_page o [] ++ texts new numbers) here
          ∙ ap (λ ts. option_map_or text_of_page (old n) [] ++ ts) rest.1,
    )

-- a message that is complete stays so, with its text
stays_by : (ps more : List PageView) → complete_by ps ≡ true →
    (complete_by (ps ++ more) ≡ true) × (text_by (ps ++ more) ≡ text_by ps)
stays_by [] more whole = absurd (false≢true whole)
stays_by (first ∷ rest) more whole =
    let ps : List PageView = first ∷ rest in
    let numbers = range_with_len 1 first.total in
    let parts =
    and_parts (not (eqb first.total 0)) (all_there (of_number (first ∷ rest)) (range_with_len 1 first.total)) whole in
    let kept =
    stays_there (of_number (first ∷ rest)) (of_number ((first ∷ rest) ++ more)) (range_with_len 1 first.total)
    (λ n some.
    find-append (λ (page : PageView). eqb page.number n) (first ∷ rest) more
    ∙ option_or-some (of_number (first ∷ rest) n) (of_number more n) some) parts.1 in (
      ap (λ b. b && all_there (of_number ((first ∷ rest) ++ more)) (range_with_len 1 first.total)) parts.0
          ∙ kept.0,
      kept.1,
    )

-- a message of this name with this text
abbrev message_with : Name → List ℕ → ShownMessage
message_with name text = record { id = name.id; serial = name.serial; text = encode_utf8_all text }

-- the same of any pages
pub complete_stays : (name : Name) (pages more : List PageView) → is_complete name pages ≡ true →
    (is_complete name (pages ++ more) ≡ true) × (shown_message name (pages ++ more) ≡ shown_message name pages)
complete_stays name pages more whole =
    let grown = pages_of-append name pages more in
    let stays = stays_by (pages_of name pages) grown.0 whole in
    (ap complete_by grown.1 ∙ stays.0, ap (message_with name) (ap text_by grown.1 ∙ stays.1))

-- what was not complete with more pages was not so before
not_complete_before : (name : Name) (pages more : List PageView) → is_complete name (pages ++ more) ≡ false →
    is_complete name pages ≡ false
not_complete_before name pages more lacks =
    elim (cases_Bool (is_complete name pages)) [
      | inr lacked ↦ lacked
      | inl whole ↦ absurd (false≢true (sym lacks ∙ (complete_stays name pages more whole).0))
    ]

-- a page completes no message but its own
completes_its_own : (name : Name) (before : List PageView) (page : PageView) → is_complete name before ≡ false →
    is_complete name (before ++ page ∷ []) ≡ true → name ≡ name_of page
completes_its_own name before page lacked whole =
    elim (cases_Bool (is_of name page)) [
      | inl own ↦ name_is name page own
      | inr other ↦
          absurd (false≢true (sym lacked ∙ (sym (ap complete_by (pages_of-other name before page other)) ∙ whole)))
    ]

-- the messages that are complete with all pages, and were not with those before
record AreNew (before pages : List PageView) (shown : List ShownMessage) : Type 0 where
  fresh : All (λ m. is_complete (name_shown m) before ≡ false) shown
  complete : All (λ m. is_complete (name_shown m) pages ≡ true) shown
  meant : All (λ m. m ≡ shown_message (name_shown m) pages) shown
  all : (name : Name) → is_complete name before ≡ false → is_complete name pages ≡ true →
      Contains shown (shown_message name pages)
  once : AllPairs (λ a b. name_shown a ≢ name_shown b) shown

-- what a list contains it contains with one more in front
Contains-later : (m : ShownMessage) (shown : List ShownMessage) (x : ShownMessage) → Contains shown x
    → Contains (m ∷ shown) x
Contains-later m shown x there = (suc there.0, omega (arith, there.1), there.2)

-- with no page more no message is new
new_none : (before : List PageView) → AreNew before before []
new_none before = record {
  fresh = All-nil (λ m. is_complete (name_shown m) before ≡ false);
  complete = All-nil (λ m. is_complete (name_shown m) before ≡ true);
  meant = All-nil (λ m. m ≡ shown_message (name_shown m) before);
  all = λ name lacked whole. absurd (false≢true (sym lacked ∙ whole));
  once = λ i j d before within. absurd (omega (arith, within));
}

-- with one page more, the message that it completes is new, if it completes one
new_more : (before rest pages : List PageView) (page : PageView) (tail : List ShownMessage) →
    (before ++ page ∷ []) ++ rest ≡ pages → AreNew (before ++ page ∷ []) pages tail →
    AreNew before pages (completed_by before page ++ tail)
new_more before rest pages page tail joined new =
    let with_it : List PageView = before ++ page ∷ [] in
    let name : Name = name_of page in
    let fresh : All (λ m. is_complete (name_shown m) before ≡ false) tail =
    All-weaker (λ m. is_complete (name_shown m) (before ++ page ∷ []) ≡ false)
    (λ m. is_complete (name_shown m) before ≡ false)
    (λ m lacks. not_complete_before (name_shown m) before (page ∷ []) lacks) tail new.fresh in
    elim (cases_Bool (not (is_complete (name_of page) before) && is_complete (name_of page) (before ++ page ∷ []))) [
      | inl completes ↦
          let parts =
          and_parts (not (is_complete (name_of page) before))
          (is_complete (name_of page) (before ++ page ∷ [])) completes in
          let m : ShownMessage = shown_message (name_of page) (before ++ page ∷ []) in
          let stays = complete_stays (name_of page) (before ++ page ∷ []) rest parts.1 in
          let whole : is_complete (name_of page) pages ≡ true =
          ap (is_complete (name_of page)) (sym joined) ∙ stays.0 in
          let same : shown_message (name_of page) pages ≡ shown_message (name_of page) (before ++ page ∷ []) =
          ap (shown_message (name_of page)) (sym joined) ∙ stays.1 in
          let shown : completed_by before page ++ tail ≡ m ∷ tail = rw completes refl in
          subst (AreNew before pages) (sym shown) (record {
            fresh = All-cons (λ x. is_complete (name_shown x) before ≡ false) m tail
                (not-true (is_complete (name_of page) before) parts.0) fresh;
            complete = All-cons (λ x. is_complete (name_shown x) pages ≡ true) m tail whole new.complete;
            meant = All-cons (λ x. x ≡ shown_message (name_shown x) pages) m tail (sym same) new.meant;
            all = λ n lacked all.
                elim (cases_Bool (is_complete n (before ++ page ∷ []))) [
                  | inr lacks ↦ Contains-later m tail (shown_message n pages) (new.all n lacks all)
                  | inl now ↦
                      let own : n ≡ name_of page = completes_its_own n before page lacked now in
                      (0, omega arith, sym same ∙ ap (λ x. shown_message x pages) (sym own))
                ];
            once = AllPairs-cons (λ a b. name_shown a ≢ name_shown b) m tail
                (All-weaker (λ x. is_complete (name_shown x) (before ++ page ∷ []) ≡ false)
                (λ x. name_shown m ≢ name_shown x)
                (λ x lacks same_name. false≢true
                (sym lacks ∙ (ap (λ n. is_complete n (before ++ page ∷ [])) (sym same_name) ∙ parts.1))) tail new.fresh)
                new.once;
          })
      | inr none ↦
          let shown : completed_by before page ++ tail ≡ tail = rw none refl in
          subst (AreNew before pages) (sym shown) (record {
            fresh = fresh;
            complete = new.complete;
            meant = new.meant;
            all = λ n lacked all.
                elim (cases_Bool (is_complete n (before ++ page ∷ []))) [
                  | inr lacks ↦ new.all n lacks all
                  | inl now ↦
                      let own : n ≡ name_of page = completes_its_own n before page lacked now in
                      let was : is_complete (name_of page) before ≡ false =
                      ap (λ x. is_complete x before) (sym own) ∙ lacked in
                      let is : is_complete (name_of page) (before ++ page ∷ []) ≡ true =
                      ap (λ x. is_complete x (before ++ page ∷ [])) (sym own) ∙ now in
                      let both : (not (is_complete (name_of page) before) && is_complete (name_of page)
                      (before ++ page ∷ [])) ≡ true = rw (was, is) refl in
                      absurd (false≢true (sym none ∙ both))
                ];
            once = new.once;
          })
    ]

-- with any more pages, the messages that they complete in turn are new
new_after : (before rest : List PageView) → AreNew before (before ++ rest) (completed_after before rest)
new_after before [] = subst (λ ps. AreNew before ps []) (sym (append-nil before)) (new_none before)
new_after before (page ∷ rest) =
    let joined = append_assoc before (page ∷ []) rest in
    new_more before rest (before ++ page ∷ rest) page (completed_after (before ++ page ∷ []) rest) joined
    (subst (λ ps. AreNew (before ++ page ∷ []) ps (completed_after (before ++ page ∷ []) rest)) joined
    (new_after (before ++ page ∷ []) rest))

-- any list of blocks shows the messages that its pages make complete
pub shown_are_the_complete : ShownAreTheComplete
shown_are_the_complete blocks =
    let new = new_after [] (readable_pages blocks) in
    record { complete = new.complete; meant = new.meant; all = λ name whole. new.all name refl whole; once = new.once }

-- one page completes one message at most
one_shown : (before : List PageView) (page : Option PageView) →
    (more : Option ShownMessage) × (completed_after before (option_to_list page) ≡ option_to_list more)
one_shown before None = (None, refl)
one_shown before (Some page) =
    elim (cases_Bool (not (is_complete (name_of page) before) && is_complete (name_of page) (before ++ page ∷ []))) [
      | inl completes ↦ (Some (shown_message (name_of page) (before ++ page ∷ [])), rw completes refl)
      | inr none ↦ (None, rw none refl)
    ]

-- blocks with at most one page more show at most one message more
pub one_page_shows_one : OnePageShowsOne
one_page_shows_one blocks more page grown =
    let one = one_shown (readable_pages blocks) page in (
      one.0,
      ap (completed_after []) grown ∙ completed_after-append [] (readable_pages blocks) (option_to_list page)
          ∙ ap (λ ms. shown_in blocks ++ ms) one.1,
    )
