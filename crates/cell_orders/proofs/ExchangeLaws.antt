-- Each message that concerns the cell has one exchange, and an answer answers its order.
use Rattle.std.proofs.Common.{◌≡◌, ◌++◌, ◌∷◌, ◌∙◌, [], Bool, true, false, cond, List, Option, None, Some, All, ap}
use Rattle.std.proofs.Common.{append-nil, append_assoc, inl, inr, refl, subst, sym}
use Rattle.std.specs.Prelude.{find, fold, is_none, ◌&&◌, IsPermutation}
use Rattle.std.proofs.lemmas.Bool.{cases_Bool, true≢false}
use Rattle.std.proofs.lemmas.List.{map-append}
use Rattle.std.proofs.lemmas.Option.{none-some}
use Rattle.std.proofs.lemmas.List.Elements.{All-cons, All-head, All-nil, All-push, All-tail}
use Rattle.std.proofs.lemmas.List.Sorted.{IsPermutation-append_left, IsPermutation-cons, IsPermutation-middle}
use Rattle.std.proofs.lemmas.List.Sorted.{IsPermutation-refl, IsPermutation-to_front, IsPermutation-trans}
use Rattle.cbsp_wire.specs.declared.message.Cell.{Cell}
use Rattle.cell_orders.specs.declared.exchange.Awaited.{Awaited}
use Rattle.cell_orders.specs.declared.heard.Heard.{Heard}
use Rattle.cell_orders.specs.Exchange.{LinkExchange, after_heard, answered, answers, awaited_by, exchange_begun}
use Rattle.cell_orders.specs.Exchange.{concerns}
use Rattle.cell_orders.specs.Exchange.{moved, waits_for, without_first}
use Rattle.cell_orders.specs.Laws.{concerning, begun_by, HasOwnAnswer, EachHasOne, AllHaveTheirs}

-- the first that passes a test, and the others
some_is : (x e : LinkExchange) → Some x ≡ Some e → x ≡ e
some_is x e same = ap (λ (o : Option LinkExchange). unwrapped x o) same
  where
    unwrapped : LinkExchange → Option LinkExchange → LinkExchange
    unwrapped d None = d
    unwrapped d (Some y) = y

out_by : (test : LinkExchange → Bool) (x : LinkExchange) (es : List LinkExchange) (e : LinkExchange) (b : Bool)
    → test x ≡ b
    → (find test es ≡ Some e → IsPermutation (e.order ∷ begun_by (without_first test es)) (begun_by es))
    → cond b (Some x) (find test es) ≡ Some e
    → IsPermutation (e.order ∷ begun_by (without_first test (x ∷ es))) (begun_by (x ∷ es))
out_by test x es e true is later found =
    rw is (subst (λ y. IsPermutation (y.order ∷ begun_by es) (x.order ∷ begun_by es)) (some_is x e found)
    (IsPermutation-refl (x.order ∷ begun_by es)))
out_by test x es e false is later found =
    rw is (IsPermutation-trans _ _ _
    (IsPermutation-middle (e.order ∷ []) x.order (begun_by (without_first test es)))
    (IsPermutation-cons x.order _ _ (later found)))

first_out : (test : LinkExchange → Bool) (es : List LinkExchange) (e : LinkExchange) → find test es ≡ Some e
    → IsPermutation (e.order ∷ begun_by (without_first test es)) (begun_by es)
first_out test [] e found = absurd (none-some e found)
first_out test (x ∷ es) e found = out_by test x es e (test x) refl (first_out test es e) found

-- what is answered is moved
moved_by : (cell : Cell) (h : Heard) (es : List LinkExchange) (o : Option LinkExchange) → find (waits_for cell h) es ≡ o
    → IsPermutation (begun_by (moved cell h es o)) (begun_by es)
moved_by cell h es None found = IsPermutation-refl (begun_by es)
moved_by cell h es (Some e) found =
    let rest : List LinkExchange = without_first (waits_for cell h) es in
    subst (λ hs. IsPermutation hs (begun_by es)) (sym (map-append (λ (x : LinkExchange). x.order) rest
    (answered h e ∷ [])))
    (IsPermutation-trans _ _ _ (IsPermutation-to_front (begun_by rest) e.order)
    (first_out (waits_for cell h) es e found))

-- one message more
one_more : (cell : Cell) (h : Heard) (es : List LinkExchange) (heard : List Heard)
    → IsPermutation (begun_by (after_heard cell es h) ++ concerning cell heard)
    (begun_by es ++ concerning cell (h ∷ heard))
one_more cell h es heard = elim (cases_Bool (concerns cell h.message)) [
  | inl concerned ↦
      let more : begun_by (es ++ exchange_begun h ∷ []) ++ concerning cell heard
      ≡ begun_by es ++ h ∷ concerning cell heard =
      ap (λ hs. hs ++ concerning cell heard) (map-append (λ (x : LinkExchange). x.order) es (exchange_begun h ∷ []))
      ∙ append_assoc (begun_by es) (h ∷ []) (concerning cell heard) in
      rw concerned (subst (λ hs. IsPermutation (begun_by (es ++ exchange_begun h ∷ []) ++ concerning cell heard) hs)
      more
      (IsPermutation-refl _))
  | inr other ↦ rw other (IsPermutation-append_left (concerning cell heard) _ _
      (moved_by cell h es (find (waits_for cell h) es) refl))
]

each_by : (cell : Cell) (es : List LinkExchange) (heard : List Heard)
    → IsPermutation (begun_by (fold (after_heard cell) es heard)) (begun_by es ++ concerning cell heard)
each_by cell es [] =
    subst (λ hs. IsPermutation (begun_by es) hs) (sym (append-nil (begun_by es))) (IsPermutation-refl (begun_by es))
each_by cell es (h ∷ heard) =
    IsPermutation-trans _ _ _ (each_by cell (after_heard cell es h) heard) (one_more cell h es heard)

-- each message that concerns the cell has one
pub each_has_one : EachHasOne
each_has_one cell heard = each_by cell [] heard

-- ---- answers

passes_by : (test : LinkExchange → Bool) (x : LinkExchange) (es : List LinkExchange) (e : LinkExchange) (b : Bool)
    → test x ≡ b
    → (find test es ≡ Some e → test e ≡ true) → cond b (Some x) (find test es) ≡ Some e → test e ≡ true
passes_by test x es e true is later found = ap test (sym (some_is x e found)) ∙ is
passes_by test x es e false is later found = later found

found_passes : (test : LinkExchange → Bool) (es : List LinkExchange) (e : LinkExchange) → find test es ≡ Some e
    → test e ≡ true
found_passes test [] e found = absurd (none-some e found)
found_passes test (x ∷ es) e found = passes_by test x es e (test x) refl (found_passes test es e) found

all_without : (P : LinkExchange → Type 0) (test : LinkExchange → Bool) (es : List LinkExchange) → All P es
    → All P (without_first test es)
all_without P test [] all = all
all_without P test (x ∷ es) all = elim (cases_Bool (test x)) [
  | inl passes ↦ rw passes (All-tail P x es all)
  | inr other ↦ rw other (All-cons P x (without_first test es) (All-head P x es all)
      (all_without P test es (All-tail P x es all)))
]

second : (a b : Bool) → (a && b) ≡ true → b ≡ true
second true b both = both
second false b both = absurd (true≢false (sym both))

has_own : (cell : Cell) (h : Heard) (o : Option Awaited) → awaited_by h.message ≡ o
    → HasOwnAnswer cell (exchange_begun h)
has_own cell h None is = rw is (inl (refl, refl))
has_own cell h (Some awaited) is = rw is tt

moved_fits : (cell : Cell) (h : Heard) (es : List LinkExchange) (o : Option LinkExchange)
    → find (waits_for cell h) es ≡ o
    → All (HasOwnAnswer cell) es → All (HasOwnAnswer cell) (moved cell h es o)
moved_fits cell h es None found all = all
moved_fits cell h es (Some e) found all =
    All-push (HasOwnAnswer cell) (without_first (waits_for cell h) es) (answered h e)
    (all_without (HasOwnAnswer cell) (waits_for cell h) es all)
    (inr (second (is_none e.answer) (answers cell h e.order) (found_passes (waits_for cell h) es e found)))

all_after : (cell : Cell) (h : Heard) (es : List LinkExchange) → All (HasOwnAnswer cell) es
    → All (HasOwnAnswer cell) (after_heard cell es h)
all_after cell h es all = elim (cases_Bool (concerns cell h.message)) [
  | inl concerned ↦ rw concerned (All-push (HasOwnAnswer cell) es (exchange_begun h) all
      (has_own cell h (awaited_by h.message) refl))
  | inr other ↦ rw other (moved_fits cell h es (find (waits_for cell h) es) refl all)
]

all_by : (cell : Cell) (es : List LinkExchange) (heard : List Heard) → All (HasOwnAnswer cell) es
    → All (HasOwnAnswer cell) (fold (after_heard cell) es heard)
all_by cell es [] all = all
all_by cell es (h ∷ heard) all = all_by cell (after_heard cell es h) heard (all_after cell h es all)

-- each has its own answer
pub all_have_theirs : AllHaveTheirs
all_have_theirs cell heard = all_by cell [] heard (All-nil (HasOwnAnswer cell))
