-- The identifiers and serial numbers that are known, with one more.
use Rattle.std.proofs.Common.{◌≡◌, ℕ, ◌+◌, ◌<◌, Bool, true, false, cond, List, [], ◌∷◌, ◌++◌, length, take, drop}
use Rattle.std.proofs.Common.{get_or}
use Rattle.std.proofs.Common.{refl, sym, ◌∙◌, ap, eqb, eqb-true}
use Rattle.std.specs.Prelude.{◌&&◌, ◌||◌, ◌==◌}
use Rattle.std.specs.List.{list_any}
use Rattle.std.specs.Cmp.{nat_eq_equiv}
use Rattle.std.proofs.lemmas.List.{take_more}
use Rattle.std.proofs.lemmas.List.Folds.{list_any-append}
use Rattle.cbs_page.specs.declared.octets.PageView.{PageView}
use Rattle.verification.specs.declared.difference.Kind.TheVariants as kinds
use Rattle.verification.specs.declared.sent.SentPage.{SentPage}
use Rattle.verification.specs.Asked.{AskedMessage, is_page_of_any}
use Rattle.verification.specs.Difference.{is_named_as, not_ordered, not_ordered_after}
use Rattle.verification.specs.Names.{AreNames, Pair, names_page, is_pair}
use Rattle.verification.proofs.ListLaws.{dropped}

-- pairs are compared either way
pub pair-symm : (a b : Pair) → is_pair a b ≡ is_pair b a
pair-symm a b =
    ap (λ (x : Bool). x && eqb a.1 b.1) (nat_eq_equiv.symm a.0 b.0)
    ∙ ap (λ (x : Bool). eqb b.0 a.0 && x) (nat_eq_equiv.symm a.1 b.1)

-- a condition whose first answer is true is an or
pub either : (here there : Bool) → cond here true there ≡ (there || here)
either true true = refl
either true false = refl
either false true = refl
either false false = refl

-- the pages of one name are known or not together
same-known : (pairs : List Pair) (page other : PageView) (id serial : Bool) → (page.id == other.id) ≡ id →
    (page.serial == other.serial) ≡ serial → (id && serial) ≡ true → names_page pairs page ≡ names_page pairs other
same-known pairs page other true true id serial holds =
    ap (λ n. list_any (is_pair (n, page.serial)) pairs) (eqb-true page.id other.id id)
    ∙ ap (λ n. list_any (is_pair (other.id, n)) pairs) (eqb-true page.serial other.serial serial)
same-known pairs page other true false id serial holds = cc
same-known pairs page other false serial_is id serial holds = cc

-- one more page among those that came before
one-more : (page : PageView) (before : List SentPage) (s : SentPage) →
    list_any (is_named_as page) (before ++ s ∷ []) ≡ (list_any (is_named_as page) before || is_named_as page s)
one-more page before s =
    list_any-append (is_named_as page) before (s ∷ [])
    ∙ ap (λ x. list_any (is_named_as page) before || x) (or-false (is_named_as page s))
  where
    or-false : (x : Bool) → (x || false) ≡ x
    or-false true = refl
    or-false false = refl

-- a page whose name is known changes nothing
pub known-stays : (asked : List AskedMessage) (before : List SentPage) (s : SentPage) (pairs : List Pair) →
    AreNames asked before pairs → names_page pairs s.page ≡ true → AreNames asked (before ++ s ∷ []) pairs
known-stays asked before s pairs are known page =
    by_test (is_named_as page s) refl
    ∙ ap (λ x. is_page_of_any asked page || x) (sym (one-more page before s))
  where
    absorbed : (a b here : Bool) → (a || b) ≡ true → true ≡ (a || (b || here))
    absorbed true b here holds = refl
    absorbed false true here holds = refl
    absorbed false false here holds = cc

    or-none : (a b : Bool) → (a || b) ≡ (a || (b || false))
    or-none true b = refl
    or-none false true = refl
    or-none false false = refl

    by_test : (here : Bool) → is_named_as page s ≡ here →
        names_page pairs page ≡ (is_page_of_any asked page ||
        (list_any (is_named_as page) before || is_named_as page s))
    by_test true is =
        let same : names_page pairs page ≡ true =
        same-known pairs page s.page (page.id == s.page.id) (page.serial == s.page.serial) refl refl is ∙ known in
        same
        ∙ absorbed (is_page_of_any asked page) (list_any (is_named_as page) before) (is_named_as page s)
        (sym (are page) ∙ same)
    by_test false is =
        are page ∙ or-none (is_page_of_any asked page) (list_any (is_named_as page) before)
        ∙ ap (λ x. is_page_of_any asked page || (list_any (is_named_as page) before || x)) (sym is)

-- and one whose name isn't is added
pub known-more : (asked : List AskedMessage) (before : List SentPage) (s : SentPage) (old new : List Pair) →
    AreNames asked before old →
    ((page : PageView) → names_page new page
    ≡ (names_page old page || is_pair (page.id, page.serial) (s.page.id, s.page.serial))) →
    AreNames asked (before ++ s ∷ []) new
known-more asked before s old new are added page =
    added page ∙ ap (λ x. x || is_named_as page s) (are page)
    ∙ or-assoc (is_page_of_any asked page) (list_any (is_named_as page) before) (is_named_as page s)
    ∙ ap (λ x. is_page_of_any asked page || x) (sym (one-more page before s))
  where
    or-assoc : (a b c : Bool) → ((a || b) || c) ≡ (a || (b || c))
    or-assoc true b c = refl
    or-assoc false b c = refl

-- what is left of the pages, from the one at a place on
pub left : (asked : List AskedMessage) (sent : List SentPage) (i : ℕ) (s : SentPage) → i < length sent →
    s ≡ get_or sent i s →
    not_ordered_after asked (take i sent) (drop i sent)
    ≡ not_ordered asked (take i sent) s ++ not_ordered_after asked (take (i + 1) sent) (drop (i + 1) sent)
left asked sent i s within is =
    ap (not_ordered_after asked (take i sent)) (dropped sent i s within is)
    ∙ ap (λ before. not_ordered asked (take i sent) s ++ not_ordered_after asked before (drop (i + 1) sent))
    (sym (front-more sent i s within is))
  where
    front-more : (sent : List SentPage) (i : ℕ) (s : SentPage) → i < length sent → s ≡ get_or sent i s →
        take (i + 1) sent ≡ take i sent ++ s ∷ []
    front-more sent i s within is = take_more sent i s within ∙ ap (λ x. take i sent ++ x ∷ []) (sym is)

-- the front of a list with its next item is the next front
pub fronted : (sent : List SentPage) (i : ℕ) (s : SentPage) → i < length sent → s ≡ get_or sent i s →
    take i sent ++ s ∷ [] ≡ take (i + 1) sent
fronted sent i s within is = sym (take_more sent i s within ∙ ap (λ x. take i sent ++ x ∷ []) (sym is))

-- the difference of a page, by whether its name is known
pub by-known : (asked : List AskedMessage) (before : List SentPage) (s : SentPage) (known : Bool) →
    (is_page_of_any asked s.page || list_any (is_named_as s.page) before) ≡ known →
    not_ordered asked before s
    ≡ cond known []
    (record { slot = s.slot; id = s.page.id; serial = s.page.serial; kind = kinds.NotOrdered } ∷ [])
by-known asked before s known is =
    ap (λ (x : Bool). cond x []
    (record { slot = s.slot; id = s.page.id; serial = s.page.serial; kind = kinds.NotOrdered } ∷ [])) is
