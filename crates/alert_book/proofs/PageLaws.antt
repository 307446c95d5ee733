-- The pages of orders, one after the other.
use Rattle.std.proofs.Common.{◌≡◌, ◌≢◌, ◌⊎◌, ◌<◌, ◌+◌, ◌∙◌, ap, sym, ℕ, List, [], ◌∷◌, ◌++◌, Option, Result, Ok, Err}
use Rattle.std.proofs.Common.{length, map, get_or, take, drop, inl, inr, suc, refl, append_assoc}
use Rattle.std.proofs.lemmas.List.{take-append-drop, take_more, map-id}
use Rattle.std.specs.List.{AllZip}
use Rattle.cbs_page.specs.declared.paging.Paged.{Paged}
use Rattle.alert_book.specs.declared.book.order.Order.{Order}
use Rattle.alert_book.specs.declared.fault.BookFault.{BookFault}
use Rattle.alert_book.specs.Book.{HavePages, HasWrongText, refused, unread}
use Rattle.alert_book.specs.PackingSteps.{HasBadText, IsFirstFault, IsOrderPacked}

-- where each order has pages, these are the pages of the orders
pub pages_have : (orders : List Order) (pages : List (Option Paged)) → AllZip IsOrderPacked orders (map Ok pages) →
    HavePages orders pages
pages_have [] [] all = tt
pages_have [] (paged ∷ pages) all = absurd all
pages_have (order ∷ orders) [] all = absurd all
pages_have (order ∷ orders) (paged ∷ pages) all = (all.0, pages_have orders pages all.1)

-- a list about one of its elements
split_at : {X : Type 0} (xs : List X) (i : ℕ) (x : X) → i < length xs → x ≡ get_or xs i x →
    xs ≡ take i xs ++ x ∷ drop (i + 1) xs
split_at xs i x h is =
    sym (take-append-drop (i + 1) xs)
    ∙ ap (λ (front : List _). front ++ drop (i + 1) xs) (take_more xs i x h)
    ∙ append_assoc (take i xs) (get_or xs i x ∷ []) (drop (i + 1) xs)
    ∙ ap (λ (y : _). take i xs ++ y ∷ drop (i + 1) xs) (sym is)

-- the first fault of what came of orders is after the pages of those before
pub first_fault : (packed front : List (Result (Option Paged) BookFault)) (pages : List (Option Paged))
    (item : Result (Option Paged) BookFault) (f : BookFault) →
    item ≡ Err f → length front < length packed → item ≡ get_or packed (length front) item →
    map (λ (x : Result (Option Paged) BookFault). x) front ≡ take (length front) packed → front ≡ map Ok pages →
    IsFirstFault packed f
first_fault packed front pages item f is at stands so_far were = record {
  before = pages;
  after = drop (length front + 1) packed;
  split = split_at packed (length front) item at stands
      ∙ rw (is, ← so_far, map-id front, were) refl;
}

-- the first order has a text that can't be sent, or has pages and one of the others is such
wrong_here : (order : Order) (orders : List Order) (f : BookFault) → HasBadText order f →
    HasWrongText (order ∷ orders) f
wrong_here order orders f bad = record {
  before = [];
  order = order;
  after = orders;
  split = refl;
  pages = [];
  paged = tt;
  sending = bad.sending;
  sent = bad.sent;
  why = bad.why;
  wrong = bad.wrong;
  told = bad.told;
  named = bad.named;
}

-- a text that can't be sent, after an order that has pages
pub wrong_later : (order : Order) (orders : List Order) (paged : Option Paged) (f : BookFault) →
    IsOrderPacked order (Ok paged) → HasWrongText orders f → HasWrongText (order ∷ orders) f
wrong_later order orders paged f here later = record {
  before = order ∷ later.before;
  order = later.order;
  after = later.after;
  split = ap (λ (os : List Order). order ∷ os) later.split;
  pages = paged ∷ later.pages;
  paged = (here, later.paged);
  sending = later.sending;
  sent = later.sent;
  why = later.why;
  wrong = later.wrong;
  told = later.told;
  named = later.named;
}

-- so the first fault of orders is that of the first whose text can't be sent
wrong_after : (orders : List Order) (before : List (Option Paged)) (after : List (Result (Option Paged) BookFault))
    (f : BookFault) →
    AllZip IsOrderPacked orders (map Ok before ++ Err f ∷ after) → (f ≡ refused) ⊎ HasWrongText orders f
wrong_after [] [] after f all = absurd all
wrong_after [] (paged ∷ before) after f all = absurd all
wrong_after (order ∷ orders) [] after f all = elim all.0 [
  | inl none ↦ inl none
  | inr bad ↦ inr (wrong_here order orders f bad)
]
wrong_after (order ∷ orders) (paged ∷ before) after f all = elim (wrong_after orders before after f all.1) [
  | inl none ↦ inl none
  | inr wrong ↦ inr (wrong_later order orders paged f all.0 wrong)
]

-- the first fault of the texts is that of the first order whose text is wrong
pub wrong_first : (orders : List Order) (packed : List (Result (Option Paged) BookFault)) (f : BookFault) →
    AllZip IsOrderPacked orders packed → (f ≡ refused) ⊎ IsFirstFault packed f → (f ≡ refused) ⊎ HasWrongText orders f
wrong_first orders packed f all (inl none) = inl none
wrong_first orders packed f all (inr first) =
    wrong_after orders first.before first.after f (rw first.split at all)

-- which is never that the reader failed
pub wrong_is_read : (orders : List Order) (f : BookFault) → (f ≡ refused) ⊎ HasWrongText orders f → f ≢ unread
wrong_is_read orders f (inl none) failed =
    let e = ap (λ (b : BookFault). b.kind) (sym none ∙ failed) in cc
wrong_is_read orders f (inr wrong) failed =
    let e = ap (λ (b : BookFault). b.kind) (sym wrong.named ∙ failed) in cc

-- there are as many pages as orders
pub pages_length : (orders : List Order) (pages : List (Option Paged)) → HavePages orders pages →
    length pages ≡ length orders
pages_length [] [] have = refl
pages_length [] (paged ∷ pages) have = absurd have
pages_length (order ∷ orders) [] have = absurd have
pages_length (order ∷ orders) (paged ∷ pages) have = ap suc (pages_length orders pages have.1)
