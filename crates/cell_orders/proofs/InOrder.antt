-- Exchanges stand in the order of their last messages.
use Rattle.std.proofs.Common.{◌≡◌, ◌++◌, ◌∷◌, ◌∙◌, [], Bool, List, Option, None, Some, ap}
use Rattle.std.proofs.Common.{append-nil, append_assoc, inl, inr, map, refl, subst, sym}
use Rattle.std.specs.Prelude.{find, fold, is_none}
use Rattle.std.proofs.lemmas.Bool.{cases_Bool}
use Rattle.std.proofs.lemmas.List.{map-append}
use Rattle.cbsp_wire.specs.declared.message.Cell.{Cell}
use Rattle.cell_orders.specs.declared.heard.Heard.{Heard}
use Rattle.cell_orders.specs.Exchange.{LinkExchange, after_heard, answered, awaited_by, concerns}
use Rattle.cell_orders.specs.Exchange.{moved, exchange_begun, waits_for, without_first}
use Rattle.cell_orders.specs.Laws.{last_heard, AreByLast, IsSelection}

-- both lists have one more at the end
selection_push : (xs ys : List Heard) (h : Heard) → IsSelection xs ys → IsSelection (xs ++ h ∷ []) (ys ++ h ∷ [])
selection_push [] [] h is = inl (refl, tt)
selection_push [] (y ∷ ys) h is = inr (selection_push [] ys h tt)
selection_push (x ∷ xs) [] h is = absurd is
selection_push (x ∷ xs) (y ∷ ys) h is = elim is [
  | inl here ↦ inl (here.0, selection_push xs ys h here.1)
  | inr later ↦ inr (selection_push (x ∷ xs) ys h later)
]

-- the whole has one more at the end
selection_skip : (xs ys : List Heard) (h : Heard) → IsSelection xs ys → IsSelection xs (ys ++ h ∷ [])
selection_skip [] ys h is = tt
selection_skip (x ∷ xs) [] h is = absurd is
selection_skip (x ∷ xs) (y ∷ ys) h is = elim is [
  | inl here ↦ inl (here.0, selection_skip xs ys h here.1)
  | inr later ↦ inr (selection_skip (x ∷ xs) ys h later)
]

-- or one more at the front
selection_more : (xs ys : List Heard) (y : Heard) → IsSelection xs ys → IsSelection xs (y ∷ ys)
selection_more [] ys y is = tt
selection_more (x ∷ xs) ys y is = inr is

-- the selection lacks its first
selection_less : (x : Heard) (xs ys : List Heard) → IsSelection (x ∷ xs) ys → IsSelection xs ys
selection_less x xs [] is = absurd is
selection_less x xs (y ∷ ys) is = elim is [
  | inl here ↦ selection_more xs ys y here.1
  | inr later ↦ selection_more xs ys y (selection_less x xs ys later)
]

-- or lacks some of the others
selection_tail : (x : Heard) (xs zs ys : List Heard) → ((us : List Heard) → IsSelection xs us → IsSelection zs us)
    → IsSelection (x ∷ xs) ys → IsSelection (x ∷ zs) ys
selection_tail x xs zs [] fewer is = absurd is
selection_tail x xs zs (y ∷ ys) fewer is = elim is [
  | inl here ↦ inl (here.0, fewer ys here.1)
  | inr later ↦ inr (selection_tail x xs zs ys fewer later)
]

selection_without : (test : LinkExchange → Bool) (es : List LinkExchange) (ys : List Heard)
    → IsSelection (map last_heard es) ys → IsSelection (map last_heard (without_first test es)) ys
selection_without test [] ys is = is
selection_without test (e ∷ es) ys is = elim (cases_Bool (test e)) [
  | inl passes ↦ rw passes (selection_less (last_heard e) (map last_heard es) ys is)
  | inr other ↦ rw other (selection_tail (last_heard e) (map last_heard es) (map last_heard (without_first test es)) ys
      (selection_without test es) is)
]

-- what begins is the last message of its exchange
last_begun : (h : Heard) → last_heard (exchange_begun h) ≡ h
last_begun h = elim (cases_Bool (is_none (awaited_by h.message))) [
  | inl own ↦ rw own refl
  | inr waits ↦ rw waits refl
]

moved_in_order : (cell : Cell) (h : Heard) (es : List LinkExchange) (o : Option LinkExchange) (done : List Heard)
    → IsSelection (map last_heard es) done → IsSelection (map last_heard (moved cell h es o)) (done ++ h ∷ [])
moved_in_order cell h es None done is = selection_skip (map last_heard es) done h is
moved_in_order cell h es (Some e) done is =
    let rest : List LinkExchange = without_first (waits_for cell h) es in
    subst (λ hs. IsSelection hs (done ++ h ∷ [])) (sym (map-append last_heard rest (answered h e ∷ [])))
    (selection_push (map last_heard rest) done h (selection_without (waits_for cell h) es done is))

step_in_order : (cell : Cell) (h : Heard) (es : List LinkExchange) (done : List Heard)
    → IsSelection (map last_heard es) done → IsSelection (map last_heard (after_heard cell es h)) (done ++ h ∷ [])
step_in_order cell h es done is = elim (cases_Bool (concerns cell h.message)) [
  | inl concerned ↦
      let more : map last_heard (es ++ exchange_begun h ∷ []) ≡ map last_heard es ++ h ∷ [] =
      map-append last_heard es (exchange_begun h ∷ []) ∙ ap (λ l. map last_heard es ++ l ∷ []) (last_begun h) in
      rw concerned (subst (λ hs. IsSelection hs (done ++ h ∷ [])) (sym more)
      (selection_push (map last_heard es) done h is))
  | inr other ↦ rw other (moved_in_order cell h es (find (waits_for cell h) es) done is)
]

all_in_order : (cell : Cell) (es : List LinkExchange) (done heard : List Heard) → IsSelection (map last_heard es) done
    → IsSelection (map last_heard (fold (after_heard cell) es heard)) (done ++ heard)
all_in_order cell es done [] is =
    subst (λ hs. IsSelection (map last_heard es) hs) (sym (append-nil done)) is
all_in_order cell es done (h ∷ heard) is =
    subst (λ hs. IsSelection (map last_heard (fold (after_heard cell) es (h ∷ heard))) hs)
    (append_assoc done (h ∷ []) heard)
    (all_in_order cell (after_heard cell es h) (done ++ h ∷ []) heard (step_in_order cell h es done is))

-- exchanges stand in the order of their last messages
pub are_in_order : AreByLast
are_in_order cell heard = all_in_order cell [] [] heard tt
