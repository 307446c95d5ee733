-- The pages of a message that the cell aired are right, and come in its time.
use Rattle.std.proofs.Common.{◌≡◌, ℕ, zero, suc, ◌+◌, ◌-◌, ◌*◌, ◌<◌, ◌≤◌, Bool, true, false, cond, Option, Some, None}
use Rattle.std.proofs.Common.{List}
use Rattle.std.proofs.Common.{[], ◌∷◌, ◌++◌, length, map, filter, find, get_or, refl, sym, ap, subst, ◌∙◌, arith, inl}
use Rattle.std.proofs.Common.{inr}
use Rattle.std.specs.Prelude.{◌&&◌, ◌==◌, ◌⊎◌, not, nat_le, nat_lt, encode_utf8_all}
use Rattle.std.specs.Option.{option_map, option_to_list}
use Rattle.std.specs.List.{AllByRecursion, Contains, flat_map, slice_get}
use Rattle.std.specs.Str.{bytes_eq}
use Rattle.std.proofs.Math.Nat.{mul-le-mul_right}
use Rattle.std.proofs.lemmas.Bool.{eq-eqb}
use Rattle.std.proofs.lemmas.Bool.Decides.{nat_tests}
use Rattle.std.proofs.lemmas.Cmp.{nat_list_eq_equiv}
use Rattle.std.proofs.lemmas.List.Concat.{flat_map-cons}
use Rattle.cbs_page.specs.declared.content.Content.{Content}
use Rattle.cbs_page.specs.declared.octets.PageView.{PageView}
use Rattle.cbs_page.specs.Coding.{alphabet_of}
use Rattle.cbs_page.specs.Page.{is_readable}
use Rattle.cbs_page.specs.Text.{text_in, text_of_page}
use Rattle.scheduler.specs.Message.{IsBeforeStop}
use Rattle.scheduler.specs.Air.{Air, IsPending}
use Rattle.bsc_table.specs.declared.entry.Entry.{Entry}
use Rattle.bsc_table.specs.Record.{Accepted}
use Rattle.cbch_blocks.specs.RecordBlocks.{pages_from}
use Rattle.verification.specs.declared.difference.Kind.{Kind}
use Rattle.verification.specs.declared.difference.Kind.TheVariants as kinds
use Rattle.verification.specs.declared.judged.JudgedPage.{JudgedPage}
use Rattle.verification.specs.declared.sent.SentPage.{SentPage}
use Rattle.verification.specs.Asked.{AskedMessage, is_page_of}
use Rattle.verification.specs.Difference.{difference_of, differs, first_difference, is_over, is_past_stop}
use Rattle.verification.specs.Difference.{page_differences}
use Rattle.verification.specs.Difference.{page_numbers}
use Rattle.verification.specs.Judged.{is_right, judged, judged_in, reads_as}
use Rattle.verification_laws.proofs.AskedOf.{IsComing}

-- a page of a write, at its place
pub record IsFrom (dcs total : ℕ) (contents : List Content) (place number : ℕ) (page : PageView) : Type 0 where
  pub total_is : page.total ≡ total
  pub dcs_is : page.dcs.0 ≡ dcs
  pub number_is : page.number ≡ number
  pub content : Content
  pub there : slice_get contents place ≡ Some content
  pub octets_are : page.content ≡ content.octets

from-at : (id serial dcs total number : ℕ) (contents : List Content) (k : ℕ) (d : PageView) →
    k < length (pages_from id serial dcs total number contents) →
    IsFrom dcs total contents k (number + k) (get_or (pages_from id serial dcs total number contents) k d)
from-at id serial dcs total number [] k d within = absurd (let less : ⊥ = omega arith in less)
from-at id serial dcs total number (content ∷ rest) zero d within = record {
  total_is = refl;
  dcs_is = refl;
  number_is = omega arith;
  content = content;
  there = refl;
  octets_are = refl;
}
from-at id serial dcs total number (content ∷ rest) (suc k) d within =
    let h = from-at id serial dcs total (number + 1) rest k d (omega arith) in
    record {
      total_is = h.total_is;
      dcs_is = h.dcs_is;
      number_is = h.number_is ∙ omega arith;
      content = h.content;
      there = h.there;
      octets_are = h.octets_are;
    }

-- so it is right
both : (a b : Bool) → a ≡ true → b ≡ true → (a && b) ≡ true
both a b first second = ap (λ x. x && b) first ∙ second

reads : (page : PageView) (content : Content) → page.content ≡ content.octets → reads_as page (Some content) ≡ true
reads page content same =
    ap (λ octets. bytes_eq (encode_utf8_all (text_of_page page))
    (encode_utf8_all (text_in (alphabet_of page.dcs.0) octets))) (sym same)
    ∙ nat_list_eq_equiv.refl (encode_utf8_all (text_of_page page))

right-from : (a : AskedMessage) (k : ℕ) (page : PageView) → is_readable page ≡ true →
    IsFrom a.dcs (length a.contents) a.contents k (1 + k) page → is_right a page ≡ true
right-from a k page readable from =
    let number = from.number_is in
    let place : page.number - 1 ≡ k = omega (arith, number) in
    both (is_readable page) ((page.total == length a.contents)
    && ((page.dcs.0 == a.dcs) && reads_as page (slice_get a.contents (page.number - 1)))) readable
    (both (page.total == length a.contents)
    ((page.dcs.0 == a.dcs) && reads_as page (slice_get a.contents (page.number - 1)))
    (eq-eqb page.total (length a.contents) from.total_is)
    (both (page.dcs.0 == a.dcs) (reads_as page (slice_get a.contents (page.number - 1)))
    (eq-eqb page.dcs.0 a.dcs from.dcs_is)
    (ap (λ at. reads_as page (slice_get a.contents at)) place ∙ ap (reads_as page) from.there
    ∙ reads page from.content from.octets_are)))

-- a page of the message itself that can be shown is right
pub right-page : (a : AskedMessage) (page : PageView) → is_readable page ≡ true →
    Contains (pages_from a.id a.serial a.dcs (length a.contents) 1 a.contents) page → is_right a page ≡ true
right-page a page readable there =
    right-from a there.0 page readable
    (subst (IsFrom a.dcs (length a.contents) a.contents there.0 (1 + there.0)) there.2
    (from-at a.id a.serial a.dcs (length a.contents) 1 a.contents there.0 page there.1))

-- a page of a pending broadcast comes in the message's time
pub record IsKept (a : AskedMessage) (p : JudgedPage) : Type 0 where
  pub right : p.right ≡ true
  pub begun : nat_lt p.slot a.start ≡ false
  pub standing : is_past_stop a.stop p.slot ≡ false
  pub going : is_over a p.slot ≡ false

not-begun : (start slot least : ℕ) → start ≤ least → least ≤ slot → nat_lt slot start ≡ false
not-begun start slot least low up = grind (arith, nat_tests)

standing-at : (slot : ℕ) (stop : Option ℕ) → IsBeforeStop slot stop → is_past_stop stop slot ≡ false
standing-at slot None before = refl
standing-at slot (Some stop) before = grind (arith, nat_tests)

going-without : (n start period slot : ℕ) → n ≡ 0 →
    (not (n == 0) && nat_le (start + n * period) slot) ≡ false
going-without n start period slot none = ap (λ (x : Bool). not x && nat_le (start + n * period) slot) (eq-eqb n 0 none)

and-none : (a b : Bool) → b ≡ false → (a && b) ≡ false
and-none true b none = none
and-none false b none = refl

going-with : (j n start period slot : ℕ) → j < n → slot < start + (j + 1) * period →
    (not (n == 0) && nat_le (start + n * period) slot) ≡ false
going-with j n start period slot less early =
    let more : (j + 1) * period ≤ n * period = mul-le-mul_right period (omega arith) in
    let late : slot < start + n * period = omega arith in
    and-none (not (n == 0)) (nat_le (start + n * period) slot) (le-none (start + n * period) slot late)
  where
    le-none : (end at : ℕ) → at < end → nat_le end at ≡ false
    le-none end at lower = grind (arith, nat_tests)

going-at : (a : AskedMessage) (j slot : ℕ) → (a.broadcasts ≡ 0) ⊎ (j < a.broadcasts) →
    slot < a.start + (j + 1) * a.period → is_over a slot ≡ false
going-at a j slot requested early =
    elim requested [
      | inl none ↦ going-without a.broadcasts a.start a.period slot none
      | inr less ↦ going-with j a.broadcasts a.start a.period slot less early
    ]

-- a page that a pending broadcast airs comes in time
pub kept-in-time : (log : List Entry) (air : Air) (a : AskedMessage) (b : Accepted) (j slot number : ℕ) →
    IsComing log [] a b → IsPending b.message j air slot →
    IsKept a (record { slot = slot; number = number; right = true })
kept-in-time log air a b j slot number same pending = record {
  right = refl;
  begun = not-begun a.start slot (b.message.start + j * b.message.period)
      (let start = same.start_is in omega (arith, start)) pending.released;
  standing = standing-at slot a.stop (subst (IsBeforeStop slot) (sym same.stop_is) pending.standing);
  going = going-at a j slot
      (subst (λ n. (n ≡ 0) ⊎ (j < n)) (sym same.broadcasts_is) pending.requested)
      (subst (λ start. slot < start + (j + 1) * a.period) (sym same.start_is)
      (subst (λ period. slot < b.message.start + (j + 1) * period) (sym same.period_is) pending.not_due));
}

-- such pages show no difference
differs-nowhere : (a : AskedMessage) (p : JudgedPage) → IsKept a p → (kind : Kind) → differs a kind p ≡ false
differs-nowhere a p kept (kinds.Otherwise number) =
    and-none (p.number == number) (not p.right) (ap not kept.right)
differs-nowhere a p kept kinds.BeforeStart = kept.begun
differs-nowhere a p kept kinds.AfterStop = kept.standing
differs-nowhere a p kept kinds.AfterLast =
    ap (λ (x : Bool). x && not (is_past_stop a.stop p.slot)) kept.going
differs-nowhere a p kept (kinds.NotWhole broadcast) = refl
differs-nowhere a p kept kinds.NotOrdered = refl
differs-nowhere a p kept (kinds.Again broadcast) = refl

none-found : (a : AskedMessage) (kind : Kind) (pages : List JudgedPage) → AllByRecursion (IsKept a) pages →
    find (differs a kind) pages ≡ None
none-found a kind [] all = refl
none-found a kind (p ∷ pages) all =
    ap (λ (here : Bool). cond here (Some p) (find (differs a kind) pages)) (differs-nowhere a p all.0 kind)
    ∙ none-found a kind pages all.1

none-first : (a : AskedMessage) (pages : List JudgedPage) (kind : Kind) → AllByRecursion (IsKept a) pages →
    first_difference a pages kind ≡ []
none-first a pages kind all =
    ap (λ (found : Option JudgedPage). map (difference_of a kind)
    (option_to_list (option_map (λ (page : JudgedPage). page.slot) found))) (none-found a kind pages all)

-- what each item makes nothing of, all make nothing of
pub flat_map-none : {X Y : Type 0} (f : X → List Y) (xs : List X) → ((x : X) → f x ≡ []) → flat_map f xs ≡ []
flat_map-none f [] none = refl
flat_map-none f (x ∷ xs) none =
    flat_map-cons f x xs ∙ ap (λ ys. ys ++ flat_map f xs) (none x) ∙ flat_map-none f xs none

four-none : {Y : Type 0} (a b c d : List Y) → a ≡ [] → b ≡ [] → c ≡ [] → d ≡ [] → ((a ++ b) ++ c) ++ d ≡ []
four-none a b c d one two three four =
    ap (λ xs. ((xs ++ b) ++ c) ++ d) one ∙ ap (λ xs. (xs ++ c) ++ d) two ∙ ap (λ xs. xs ++ d) three ∙ four

-- pages that are right and in time have no difference
pub pages-keep : (a : AskedMessage) (pages : List JudgedPage) → AllByRecursion (IsKept a) pages →
    page_differences a pages ≡ []
pages-keep a pages all =
    four-none (flat_map (λ number. first_difference a pages (kinds.Otherwise number)) page_numbers)
    (first_difference a pages kinds.BeforeStart) (first_difference a pages kinds.AfterStop)
    (first_difference a pages kinds.AfterLast)
    (flat_map-none (λ number. first_difference a pages (kinds.Otherwise number)) page_numbers
    (λ number. none-first a pages (kinds.Otherwise number) all))
    (none-first a pages kinds.BeforeStart all) (none-first a pages kinds.AfterStop all)
    (none-first a pages kinds.AfterLast all)

-- the judged pages of a message
pub all-judged : (a : AskedMessage) (P : SentPage → Type 0) (sent : List SentPage) →
    ((s : SentPage) → P s → is_page_of a s.page ≡ true → IsKept a (judged a s)) → AllByRecursion P sent →
    AllByRecursion (IsKept a) (judged_in a sent)
all-judged a P [] keeps all = tt
all-judged a P (s ∷ sent) keeps all =
    here (is_page_of a s.page) (keeps s all.0) (all-judged a P sent keeps all.1)
  where
    here : (own : Bool) → (own ≡ true → IsKept a (judged a s)) → AllByRecursion (IsKept a) (judged_in a sent) →
        AllByRecursion (IsKept a) (map (judged a) (cond own (s ∷ filter (λ x. is_page_of a x.page) sent)
        (filter (λ x. is_page_of a x.page) sent)))
    here true kept rest = (kept refl, rest)
    here false kept rest = rest
