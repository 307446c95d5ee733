-- The pages on the air of a history's own blocks are those that the slots air, and those of a message are as `verify`
-- judges them by a book: all right.
use Rattle.std.proofs.Common.{◌≡◌, ℕ, zero, suc, ◌+◌, ◌-◌, ◌*◌, ◌/◌, ◌<◌, ◌≤◌, Bool, true, false, cond, Option, Some}
use Rattle.std.proofs.Common.{None}
use Rattle.std.proofs.Common.{List, [], ◌∷◌, ◌++◌, length, map, filter, take, get_or, refl, sym, ap, subst, ◌∙◌, arith}
use Rattle.std.specs.Prelude.{⊤, ◌&&◌, ◌==◌, nat_le}
use Rattle.std.specs.Option.{option_to_list}
use Rattle.std.specs.List.{AllByRecursion, Contains, flat_map, slice_get}
use Rattle.std.specs.Simd.{first_chunks}
use Rattle.std.specs.Str.{bytes_eq}
use Rattle.std.proofs.Math.Bool.{and-true}
use Rattle.std.proofs.Math.Seq.{take-length}
use Rattle.std.proofs.lemmas.Bool.{eq-eqb, le-leb}
use Rattle.std.proofs.lemmas.Cmp.{nat_list_eq_equiv}
use Rattle.std.proofs.lemmas.List.Elements.{All-head, All-tail}
use Rattle.cbs_page.specs.declared.content.Content.{Content}
use Rattle.cbs_page.specs.declared.octets.PageView.{PageView}
use Rattle.cbs_page.specs.Page.{view_of}
use Rattle.handset.specs.Reception.{page_octets}
use Rattle.cbch_blocks.specs.Blocks.{blocks_of_page}
use Rattle.cbch_blocks.specs.RecordBlocks.{blocks_of_slot, octets_of_view, pages_from}
use Rattle.composition.proofs.Blocks.{IsSendable, pages_of_slots}
use Rattle.verification.specs.declared.judged.JudgedPage.{JudgedPage}
use Rattle.verification.specs.Asked.{AskedMessage, is_page_of}
use Rattle.verification.specs.Judged as wanted
use Rattle.verification_laws.proofs.Slots.{in_slot, in_slots}
use Rattle.order_verdict.specs.Air as air
use Rattle.order_verdict.specs.Air.{AirOctets, four_by_four, page_in, pages_on_air}
use Rattle.order_verdict.specs.Judged.{is_as_named, is_before, is_content, judged_page}
use Rattle.order_verdict.specs.Judged.{own_pages_in}
use Rattle.order_verdict.specs.Ordered.{OrderedMessage}
use Rattle.verdict_laws.proofs.Ordered.{AreWhole, unstopped}

-- what comes of a page that is sent
abbrev pub sent_octets : PageView → List ℕ
sent_octets page = page_octets (blocks_of_page (octets_of_view page))

-- it says the page
pub says-page : (page : PageView) → IsSendable page → view_of (sent_octets page) ≡ page
says-page page is = ap (λ views. get_or views 0 page) (pages_of_slots (Some page ∷ []) (is, tt))

-- the pages of slots, from this one on
abbrev pub octets_in : ℕ → List (Option PageView) → List AirOctets
octets_in n [] = []
octets_in n (slot ∷ slots) =
    map (λ page. page_in n (sent_octets page)) (option_to_list slot) ++ octets_in (n + 1) slots

-- four blocks a slot
blocks-long : (slots : List (Option PageView)) → length (flat_map blocks_of_slot slots) ≡ 4 * length slots
blocks-long [] = refl
blocks-long (None ∷ slots) = let rest = blocks-long slots in omega (arith, rest)
blocks-long (Some page ∷ slots) = let rest = blocks-long slots in omega (arith, rest)

chunks-are : (slots : List (Option PageView)) →
    first_chunks 4 (length slots) (flat_map blocks_of_slot slots) ≡ map blocks_of_slot slots
chunks-are [] = refl
chunks-are (None ∷ slots) = ap (λ rest. blocks_of_slot None ∷ rest) (chunks-are slots)
chunks-are (Some page ∷ slots) = ap (λ rest. blocks_of_slot (Some page) ∷ rest) (chunks-are slots)

slots-are : (slots : List (Option PageView)) → four_by_four (flat_map blocks_of_slot slots) ≡ map blocks_of_slot slots
slots-are slots =
    let long = blocks-long slots in
    let many : length (flat_map blocks_of_slot slots) / 4 ≡ length slots = omega (arith, long) in
    ap (λ n. first_chunks 4 n (flat_map blocks_of_slot slots)) many ∙ chunks-are slots

pages-are : (n : ℕ) (slots : List (Option PageView)) → air.pages_from n (map blocks_of_slot slots) ≡ octets_in n slots
pages-are n [] = refl
pages-are n (None ∷ slots) = pages-are (n + 1) slots
pages-are n (Some page ∷ slots) = ap (λ rest. page_in n (sent_octets page) ∷ rest) (pages-are (n + 1) slots)

-- the pages on the air of slots' blocks are those of the slots
pub on-air : (slots : List (Option PageView)) → pages_on_air (flat_map blocks_of_slot slots) ≡ octets_in 0 slots
on-air slots = ap (air.pages_from 0) (slots-are slots) ∙ pages-are 0 slots

-- what an orders file has of a message is enough to know its pages
both : (a b : Bool) → a ≡ true → b ≡ true → (a && b) ≡ true
both a b one two = ap (λ x. x && b) one ∙ two

own-content : (content : Content) → content.used ≤ 82 → length content.octets ≡ 82 →
    is_content (Some content) content.octets ≡ true
own-content content used full =
    both (nat_le content.used (length content.octets)) (bytes_eq content.octets
    (take (length content.octets) content.octets))
    (le-leb content.used (length content.octets) (omega (arith, used, full)))
    (ap (bytes_eq content.octets) (take-length content.octets) ∙ nat_list_eq_equiv.refl content.octets)

-- a page is right by an orders file
abbrev right_by : AskedMessage → PageView → Bool
right_by a page =
    (page.dcs.0 == a.dcs)
    && ((page.total == length a.contents)
    && is_content (slice_get a.contents (page.number - 1)) page.content)

record IsAt (dcs total place number : ℕ) (contents : List Content) (page : PageView) : Type 0 where
  dcs_is : page.dcs.0 ≡ dcs
  total_is : page.total ≡ total
  number_is : page.number ≡ number
  content_is : is_content (slice_get contents place) page.content ≡ true

is-at : (id serial dcs total number : ℕ) (contents : List Content) → AreWhole contents → (k : ℕ) (d : PageView) →
    k < length (pages_from id serial dcs total number contents) →
    IsAt dcs total k (number + k) contents (get_or (pages_from id serial dcs total number contents) k d)
is-at id serial dcs total number [] whole k d within = absurd (let less : ⊥ = omega arith in less)
is-at id serial dcs total number (content ∷ rest) whole zero d within = record {
  dcs_is = refl;
  total_is = refl;
  number_is = omega arith;
  content_is = own-content content (All-head (λ (c : Content). c.used ≤ 82) content rest whole.used)
      (All-head (λ (c : Content). length c.octets ≡ 82) content rest whole.full);
}
is-at id serial dcs total number (content ∷ rest) whole (suc k) d within =
    let h = is-at id serial dcs total (number + 1) rest (record {
      used = All-tail (λ (c : Content). c.used ≤ 82) content rest whole.used;
      full = All-tail (λ (c : Content). length c.octets ≡ 82) content rest whole.full;
    }) k d (omega arith) in
    record {
      dcs_is = h.dcs_is;
      total_is = h.total_is;
      number_is = h.number_is ∙ omega arith;
      content_is = h.content_is;
    }

right-at : (a : AskedMessage) (k : ℕ) (page : PageView) →
    IsAt a.dcs (length a.contents) k (1 + k) a.contents page → right_by a page ≡ true
right-at a k page at =
    let number = at.number_is in
    let place : page.number - 1 ≡ k = omega (arith, number) in
    both (page.dcs.0 == a.dcs) ((page.total == length a.contents)
    && is_content (slice_get a.contents (page.number - 1)) page.content) (eq-eqb page.dcs.0 a.dcs at.dcs_is)
    (both (page.total == length a.contents) (is_content (slice_get a.contents (page.number - 1)) page.content)
    (eq-eqb page.total (length a.contents) at.total_is)
    (ap (λ n. is_content (slice_get a.contents n) page.content) place ∙ at.content_is))

-- a page of the message itself is right by an orders file, too
pub right-by : (a : AskedMessage) (page : PageView) → AreWhole a.contents →
    Contains (pages_from a.id a.serial a.dcs (length a.contents) 1 a.contents) page → right_by a page ≡ true
right-by a page whole there =
    right-at a there.0 page
    (subst (IsAt a.dcs (length a.contents) there.0 (1 + there.0) a.contents) there.2
    (is-at a.id a.serial a.dcs (length a.contents) 1 a.contents whole there.0 page there.1))

-- what is known of the page in a slot: that it can be sent, and is right if it is the message's
pub record IsOwnPage (a : AskedMessage) (page : PageView) : Type 0 where
  pub sendable : IsSendable page
  pub by_book : is_page_of a page ≡ true → wanted.is_right a page ≡ true
  pub by_orders : is_page_of a page ≡ true → right_by a page ≡ true

-- of a slot, which may have no page
abbrev pub IsOwnSlot : AskedMessage → Option PageView → Type 0
IsOwnSlot a None = ⊤
IsOwnSlot a (Some page) = IsOwnPage a page

-- the name that a page has on the air is its own
pub named-is : (a : AskedMessage) (page : PageView) → IsSendable page →
    is_as_named a (sent_octets page) ≡ is_page_of a page
named-is a page is =
    ap (λ (view : PageView). (view.id == a.id) && (view.serial == a.serial)) (says-page page is)

-- whether a page on the air is that of a message
abbrev own_by : AskedMessage → (since : ℕ) → (until : Option ℕ) → AirOctets → Bool
own_by a since until page = is_as_named a page.octets && (nat_le since page.slot && is_before until page.slot)

abbrev owned : AskedMessage → (since : ℕ) → (until : Option ℕ) → List AirOctets → List JudgedPage
owned a since until pages = map (judged_page a) (filter (own_by a since until) pages)

page-is : (a : AskedMessage) (n : ℕ) (page : PageView) → IsOwnPage a page → is_page_of a page ≡ true →
    judged_page (unstopped a) (page_in n (sent_octets page)) ≡ wanted.judged a (in_slot n page)
page-is a n page own named =
    let says = says-page page own.sendable in
    ap (λ (view : PageView). record { slot = n; number = view.number; right = right_by a view }) says
    ∙ ap (λ right. record { slot = n; number = page.number; right = right })
    (own.by_orders named ∙ sym (own.by_book named))

owned-are : (a : AskedMessage) (n : ℕ) (slots : List (Option PageView)) → AllByRecursion (IsOwnSlot a) slots →
    owned (unstopped a) 0 None (octets_in n slots) ≡ wanted.judged_in a (in_slots n slots)
owned-are a n [] all = refl
owned-are a n (None ∷ slots) all = owned-are a (n + 1) slots all.1
owned-are a n (Some page ∷ slots) all =
    by_name (is_page_of a page) refl
    (ap (λ since. is_as_named a (sent_octets page) && (since && true)) (le-leb 0 n (omega arith))
    ∙ and-true (is_as_named a (sent_octets page)) ∙ named-is a page all.0.sendable)
    (owned-are a (n + 1) slots all.1)
  where
    rest : List AirOctets
    rest = octets_in (n + 1) slots

    by_name : (own : Bool) → is_page_of a page ≡ own →
        own_by (unstopped a) 0 None (page_in n (sent_octets page)) ≡ is_page_of a page →
        owned (unstopped a) 0 None (octets_in (n + 1) slots) ≡ wanted.judged_in a (in_slots (n + 1) slots) →
        owned (unstopped a) 0 None (octets_in n (Some page ∷ slots))
        ≡ wanted.judged_in a (in_slots n (Some page ∷ slots))
    by_name true is same later =
        ap (λ here. map (judged_page (unstopped a)) (cond here
        (page_in n (sent_octets page) ∷ filter (own_by (unstopped a) 0 None) (octets_in (n + 1) slots))
        (filter (own_by (unstopped a) 0 None) (octets_in (n + 1) slots)))) (same ∙ is)
        ∙ ap (λ p. p ∷ owned (unstopped a) 0 None (octets_in (n + 1) slots)) (page-is a n page all.0 is)
        ∙ ap (λ ps. wanted.judged a (in_slot n page) ∷ ps) later
        ∙ sym (ap (λ here. map (wanted.judged a) (cond here
        (in_slot n page ∷ filter (λ s. is_page_of a s.page) (in_slots (n + 1) slots))
        (filter (λ s. is_page_of a s.page) (in_slots (n + 1) slots)))) is)
    by_name false is same later =
        ap (λ here. map (judged_page (unstopped a)) (cond here
        (page_in n (sent_octets page) ∷ filter (own_by (unstopped a) 0 None) (octets_in (n + 1) slots))
        (filter (own_by (unstopped a) 0 None) (octets_in (n + 1) slots)))) (same ∙ is)
        ∙ later
        ∙ sym (ap (λ here. map (wanted.judged a) (cond here
        (in_slot n page ∷ filter (λ s. is_page_of a s.page) (in_slots (n + 1) slots))
        (filter (λ s. is_page_of a s.page) (in_slots (n + 1) slots)))) is)

-- a message's pages are judged as by a book
pub own-pages : (m : OrderedMessage) (a : AskedMessage) (slots : List (Option PageView)) → m.early ≡ unstopped a →
    m.since ≡ 0 → m.until ≡ None → AllByRecursion (IsOwnSlot a) slots →
    own_pages_in m (octets_in 0 slots) ≡ wanted.judged_in a (in_slots 0 slots)
own-pages m a slots early since until all =
    ap (λ e. owned e m.since m.until (octets_in 0 slots)) early
    ∙ ap (λ s. owned (unstopped a) s m.until (octets_in 0 slots)) since
    ∙ ap (λ u. owned (unstopped a) 0 u (octets_in 0 slots)) until
    ∙ owned-are a 0 slots all
