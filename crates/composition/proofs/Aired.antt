-- What the slots of a legal history send: pages of accepted messages, each of the one message of its pair.
use Rattle.std.proofs.Common.{◌≡◌, ℕ, ◌+◌, ◌-◌, ◌≤◌, ◌<◌, inl, inr, Bool, true, cond, eqb, Option, Some, None, List, []}
use Rattle.std.proofs.Common.{◌∷◌, ◌++◌, length, map, get_or, count_by, refl, sym, ap, subst, ◌∙◌, arith}
use Rattle.std.specs.Prelude.{⊤, ◌&&◌}
use Rattle.std.specs.Option.{option_to_list}
use Rattle.std.specs.List.{All, AllPairs, Contains, AllByRecursion, flat_map, slice_get}
use Rattle.std.proofs.lemmas.Bool.{cases_Bool, cases_lt, cases_eq, eq-eqb, ne_eqb, eqb-true, and_parts, false≢true}
use Rattle.std.proofs.lemmas.Option.{slice_get-get_or}
use Rattle.std.proofs.lemmas.List.{get_or_default, length-map, get_or-map}
use Rattle.std.proofs.lemmas.List.Sums.{sum_by-cons}
use Rattle.std.proofs.lemmas.List.Elements.{All-nil, All-cons}
use Rattle.cbs_page.specs.declared.octets.PageView.{PageView}
use Rattle.scheduler.specs.Message.{ScheduledMessage}
use Rattle.scheduler.specs.Air.{Air, IsChosen}
use Rattle.scheduler.specs.Pages.{airs_page}
use Rattle.handset.specs.Reception.{is_of}
use Rattle.handset.specs.Keeping.{is_numbered}
use Rattle.handset.specs.OneMessage.{AreFrom, count_of}
use Rattle.bsc_table.specs.declared.entry.Entry.{Entry}
use Rattle.bsc_table.specs.Record.{Record, Accepted, accepted_in, messages_in, is_of_pair}
use Rattle.bsc_table.specs.Legal.{IsLegal}
use Rattle.composition.proofs.Laws.{OfAnotherPair, BelowIt}
use Rattle.cbch_blocks.specs.RecordBlocks.{page_aired, pages_of_entry}
use Rattle.composition.specs.Composition.{name_accepted}
use Rattle.composition.proofs.Blocks.{IsSendable, CanSend}
use Rattle.composition.proofs.Sent.{IsPageOf, IsSentMessage, sent_by, can_send}

-- what is needed of a log: each accepted message has its pages, no pair comes twice, and numbers rise
pub record AreSound (log : List Entry) : Type 0 where
  pub sent : All (λ a. IsSentMessage a (sent_by log a)) (accepted_in log)
  pub once : AllPairs OfAnotherPair (accepted_in log)
  pub rising : AllPairs BelowIt (accepted_in log)

-- elements of a list that a relation does not part are one
same_by : (R : Accepted → Accepted → Type 0) (all : List Accepted) (a b : Accepted) → AllPairs R all → Contains all a
    → Contains all b → (R a b → ⊥) → (R b a → ⊥) → a ≡ b
same_by R all a b pairs mine other no_ab no_ba =
    elim (cases_lt mine.0 other.0) [
      | inl before ↦
          let related = pairs mine.0 other.0 a before other.1 in
          let right : get_or all other.0 a ≡ b = get_or_default all other.0 a b other.1 ∙ other.2 in
          absurd (no_ab (subst (λ y. R a y) right (subst (λ x. R x (get_or all other.0 a)) mine.2 related)))
      | inr after ↦ elim (cases_eq mine.0 other.0) [
        | inl same ↦ sym mine.2 ∙ ap (λ k. get_or all k a) same ∙ get_or_default all other.0 a b other.1 ∙ other.2
        | inr apart ↦
            let related = pairs other.0 mine.0 b (omega (arith, after, apart)) mine.1 in
            let right : get_or all mine.0 b ≡ a = get_or_default all mine.0 b a mine.1 ∙ mine.2 in
            absurd (no_ba (subst (λ y. R b y) right (subst (λ x. R x (get_or all mine.0 b)) other.2 related)))
      ]
    ]

-- two accepted messages of one identifier and serial number are one
pub same_pair : (log : List Entry) (a b : Accepted) → AreSound log → Contains (accepted_in log) a
    → Contains (accepted_in log) b → b.id ≡ a.id → b.serial ≡ a.serial → a ≡ b
same_pair log a b sound mine other id serial =
    same_by OfAnotherPair (accepted_in log) a b sound.once mine other
    (λ apart. false≢true (sym apart ∙ pair_of a b id serial))
    (λ apart. false≢true (sym apart ∙ pair_of b a (sym id) (sym serial)))
  where
    pair_of : (x y : Accepted) → y.id ≡ x.id → y.serial ≡ x.serial → is_of_pair x.id x.serial y ≡ true
    pair_of x y i s = ap (λ b. b && eqb y.serial x.serial) (eq-eqb y.id x.id i) ∙ eq-eqb y.serial x.serial s

same_number : (log : List Entry) (a b : Accepted) → AreSound log → Contains (accepted_in log) a
    → Contains (accepted_in log) b → b.message.entry ≡ a.message.entry → a ≡ b
same_number log a b sound mine other number =
    same_by BelowIt (accepted_in log) a b sound.rising mine other (λ below. omega (arith, below, number))
    (λ below. omega (arith, below, number))

-- the slot airs a page of an accepted message
pub record IsAiredAs (log : List Entry) (used : ℕ × ℕ) : Type 0 where
  pub of : Accepted
  pub there : Contains (accepted_in log) of
  pub number_is : of.message.entry ≡ used.0
  pub page : PageView
  pub aired : page_aired log (Some used) ≡ Some page
  pub id_is : page.id ≡ of.id
  pub serial_is : page.serial ≡ of.serial
  pub numbered : page.number ≡ used.1
  pub sendable : IsSendable page
  pub sent : Contains (sent_by log of) page

-- a slot airs a page of an accepted message, or none
abbrev pub IsAired : List Entry → Option (ℕ × ℕ) → Type 0
IsAired log None = ⊤
IsAired log (Some used) = IsAiredAs log used

no_page : PageView
no_page = record { serial = 0; id = 0; dcs = record { 0 = 0 }; number = 0; total = 0; content = [] }

aired_as : (log : List Entry) (used : ℕ × ℕ) (a : Accepted) → Contains (accepted_in log) a
    → IsSentMessage a (sent_by log a) → a.message.entry ≡ used.0 → 1 ≤ used.1 → used.1 ≤ a.message.pages
    → IsAiredAs log used
aired_as log used a there sent number some few =
    let place : ℕ = used.1 - 1 in
    let within : used.1 - 1 < length (sent_by log a) = let long = sent.long in omega (arith, long, some, few) in
    let page : PageView = get_or (sent_by log a) (used.1 - 1) no_page in
    let at : IsPageOf a.id a.serial sent.coding (length (sent_by log a)) (1 + (used.1 - 1)) page = sent.at (used.1 - 1)
    no_page within in
    let one = at.numbered in
    record {
      of = a;
      there = there;
      number_is = number;
      page = page;
      aired = ap (λ n. slice_get (pages_of_entry (slice_get log n)) (used.1 - 1)) (sym number)
          ∙ slice_get-get_or (sent_by log a) (used.1 - 1) no_page within;
      id_is = at.id_is;
      serial_is = at.serial_is;
      numbered = omega (arith, one, some);
      sendable = can_send a (sent_by log a) sent (used.1 - 1) no_page within;
      sent = (used.1 - 1, within, get_or_default (sent_by log a) (used.1 - 1) page no_page within);
    }

aired_by_rule : (r : Record) (slot : ℕ) (used : Option (ℕ × ℕ)) → AreSound r.log
    → IsChosen (messages_in r.log) r.air slot used → IsAired r.log used
aired_by_rule r slot None sound chosen = tt
aired_by_rule r slot (Some used) sound chosen =
    let m : ScheduledMessage = chosen.1 in
    let all = accepted_in r.log in
    let message : Accepted → ScheduledMessage = λ a. a.message in
    let default : Accepted = record { id = 0; serial = 0; accepted = 0; behind = None; excess = 0; message = m } in
    let long = length-map (accepted_in r.log) message in
    let within : chosen.0 < length (accepted_in r.log) = let h = chosen.2 in omega (arith, long, h) in
    let a : Accepted = get_or all chosen.0 default in
    let here : a.message ≡ m = sym (get_or-map message all chosen.0 default m within) ∙ chosen.3 in
    let of_it : used.0 ≡ a.message.entry = ap (λ (u : ℕ × ℕ). u.0) chosen.4.2
    ∙ sym (ap (λ (o : ScheduledMessage). o.entry) here) in
    let counted = ap (λ (u : ℕ × ℕ). u.1) chosen.4.2 in
    let pages = ap (λ (o : ScheduledMessage). o.pages) here in
    let unfinished = chosen.4.1.pending.unfinished in
    aired_as r.log used a (chosen.0, within, get_or_default all chosen.0 a default within)
    (sound.sent chosen.0 default within) (sym of_it) (omega (arith, counted))
    (omega (arith, counted, pages, unfinished))

-- so does each slot of a legal record
pub all_aired : (r : Record) → AreSound r.log → IsLegal r → All (IsAired r.log) r.air
all_aired r sound legal = λ k d within.
    let same = get_or_default r.air k None d within in
    let played = legal.played in
    subst (IsAired r.log) same (aired_by_rule r k (get_or r.air k None) sound (legal.aired k within))

-- so each can be sent
pub can_send_aired : (log : List Entry) (uses : Air) → AllByRecursion (IsAired log) uses
    → AllByRecursion CanSend (map (page_aired log) uses)
can_send_aired log [] all = tt
can_send_aired log (None ∷ uses) all = (tt, can_send_aired log uses all.1)
can_send_aired log (Some used ∷ uses) all =
    let h : IsAiredAs log used = all.0 in
    (subst CanSend (sym h.aired) h.sendable, can_send_aired log uses all.1)

-- all pages of an accepted message's pair are its own
abbrev pub pages_aired_in : List Entry → Air → List PageView
pages_aired_in log uses = flat_map option_to_list (map (page_aired log) uses)

parts_of : (a : Accepted) (page : PageView) → is_of (name_accepted a) page ≡ true → (page.id ≡ a.id)
    × (page.serial ≡ a.serial)
parts_of a page own =
    let parts = and_parts (eqb page.id a.id) (eqb page.serial a.serial) own in
    (eqb-true page.id a.id parts.0, eqb-true page.serial a.serial parts.1)

own_message : (log : List Entry) (a : Accepted) (used : ℕ × ℕ) (h : IsAiredAs log used) → AreSound log
    → Contains (accepted_in log) a → is_of (name_accepted a) h.page ≡ true → a ≡ h.of
own_message log a used h sound there own =
    let parts = parts_of a h.page own in
    same_pair log a h.of sound there h.there (sym h.id_is ∙ parts.0) (sym h.serial_is ∙ parts.1)

-- the pages aired that have a message's name are its own
pub are_from : (log : List Entry) (a : Accepted) (uses : Air) → AreSound log → Contains (accepted_in log) a
    → AllByRecursion (IsAired log) uses → AreFrom (name_accepted a) (sent_by log a) (pages_aired_in log uses)
are_from log a [] sound there all = All-nil (λ page. is_of (name_accepted a) page ≡ true
    → Contains (sent_by log a) page)
are_from log a (None ∷ uses) sound there all = are_from log a uses sound there all.1
are_from log a (Some used ∷ uses) sound there all =
    let h : IsAiredAs log used = all.0 in
    let Own : PageView → Type 0 = λ page. is_of (name_accepted a) page ≡ true → Contains (sent_by log a) page in
    let rest = are_from log a uses sound there all.1 in
    subst (λ o. All Own (option_to_list o ++ pages_aired_in log uses)) (sym h.aired)
    (All-cons Own h.page (pages_aired_in log uses) (λ own. subst (λ x. Contains (sent_by log x) h.page)
    (sym (own_message log a used h sound there own)) h.sent) rest)

-- and its page of a number is read as often as it is aired
abbrev one_where : Bool → ℕ
one_where b = cond b 1 0

test_is : (log : List Entry) (a : Accepted) (number : ℕ) (used : ℕ × ℕ) (h : IsAiredAs log used) → AreSound log
    → Contains (accepted_in log) a → is_numbered (name_accepted a) number h.page ≡ airs_page a.message.entry number
    (Some used)
test_is log a number used h sound there =
    ap (λ n. is_of (name_accepted a) h.page && eqb n number) h.numbered ∙ ap (λ b. b && eqb used.1 number) same
  where
    owned : a ≡ h.of → is_of (name_accepted a) h.page ≡ true
    owned is =
        let id : h.page.id ≡ a.id = h.id_is ∙ sym (ap (λ (x : Accepted). x.id) is) in
        let serial : h.page.serial ≡ a.serial = h.serial_is ∙ sym (ap (λ (x : Accepted). x.serial) is) in
        ap (λ b. b && eqb h.page.serial a.serial) (eq-eqb h.page.id a.id id) ∙ eq-eqb h.page.serial a.serial serial

    same : is_of (name_accepted a) h.page ≡ eqb used.0 a.message.entry
    same =
        elim (cases_eq used.0 a.message.entry) [
          | inl is ↦ owned (same_number log a h.of sound there h.there (h.number_is ∙ is))
              ∙ sym (eq-eqb used.0 a.message.entry is)
          | inr apart ↦ elim (cases_Bool (is_of (name_accepted a) h.page)) [
            | inr other ↦ other ∙ sym (ne_eqb used.0 a.message.entry apart)
            | inl own ↦ absurd (apart (sym h.number_is ∙ sym (ap (λ (x : Accepted). x.message.entry)
                (own_message log a used h sound there own))))
          ]
        ]

-- a page is aired as often as its slots use it
pub counted : (log : List Entry) (a : Accepted) (number : ℕ) (uses : Air) → AreSound log → Contains (accepted_in log) a
    → AllByRecursion (IsAired log) uses → count_of (name_accepted a) (pages_aired_in log uses) number ≡ count_by
    (airs_page a.message.entry number) uses
counted log a number [] sound there all = refl
counted log a number (None ∷ uses) sound there all =
    let rest = counted log a number uses sound there all.1 in
    let one = sum_by-cons (λ u. cond (airs_page a.message.entry number u) 1 0) None uses in
    rest ∙ (let e : count_by (airs_page a.message.entry number) uses ≡ count_by (airs_page a.message.entry number)
    (None ∷ uses) = omega (arith, one) in e)
counted log a number (Some used ∷ uses) sound there all =
    let h : IsAiredAs log used = all.0 in
    let q : PageView → Bool = is_numbered (name_accepted a) number in
    let rest = counted log a number uses sound there all.1 in
    ap (λ o. count_by (is_numbered (name_accepted a) number) (option_to_list o ++ pages_aired_in log uses)) h.aired
    ∙ sum_by-cons (λ p. cond (is_numbered (name_accepted a) number p) 1 0) h.page (pages_aired_in log uses)
    ∙ ap (λ b. one_where b + count_by (is_numbered (name_accepted a) number) (pages_aired_in log uses))
    (test_is log a number used h sound there)
    ∙ ap (λ n. one_where (airs_page a.message.entry number (Some used)) + n) rest
    ∙ sym (sum_by-cons (λ u. cond (airs_page a.message.entry number u) 1 0) (Some used) uses)
