-- An order that is answered leaves its place, and stands at the end with its answer.
use Rattle.std.proofs.Common.{◌≡◌, ◌<◌, ◌++◌, ◌∷◌, ◌∙◌, [], ℕ, List, None, Option, Some, ap, length, set, sym}
use Rattle.std.proofs.Common.{arith}
use Rattle.std.specs.Prelude.{option_map, remove}
use Rattle.std.proofs.lemmas.List.{length-map, map-set}
use Rattle.cbsp_wire.specs.declared.message.Cell.{Cell}
use Rattle.cell_orders.specs.declared.exchange.HeldExchange.{HeldExchange}
use Rattle.cell_orders.specs.declared.exchange.Waiting.{Waiting}
use Rattle.cell_orders.specs.declared.heard.Heard.{Heard}
use Rattle.cell_orders.specs.Exchange.{moved, after_answer}
use Rattle.cell_orders.specs.Steps.{exchange_of, places_of, standing, wait_of, waits, waits_kept}
use Rattle.cell_orders.proofs.Places.{answered_more, places_more, remove_seen, standing_more}
use Rattle.cell_orders.proofs.Search.{with_answer, Taken}

-- the place is one of those that are held
pub place_held : (cell : Cell) (h : Heard) (held : List (Option HeldExchange)) (number : ℕ) (one : Waiting)
    → Taken cell h 0 (places_of held) number (wait_of one) → one.place < length held
place_held cell h held number one t =
    omega (arith, t.place, t.within, length-map held (option_map exchange_of))

-- the places after it
emptied : (cell : Cell) (h : Heard) (held : List (Option HeldExchange)) (number : ℕ) (one : Waiting)
    → (t : Taken cell h 0 (places_of held) number (wait_of one))
    → places_of (set held one.place None) ≡ set (places_of held) t.k None
emptied cell h held number one t =
    let at : one.place ≡ t.k = omega (arith, t.place) in
    map-set (option_map exchange_of) held one.place None ∙ ap (λ k. set (places_of held) k None) at

now_held : (cell : Cell) (h : Heard) (held new : List (Option HeldExchange)) (x : HeldExchange) (number : ℕ)
    (one : Waiting)
    → (t : Taken cell h 0 (places_of held) number (wait_of one)) → new ≡ set held one.place None ++ Some x ∷ []
    → places_of new ≡ set (places_of held) t.k None ++ Some (exchange_of x) ∷ []
now_held cell h held new x number one t is =
    places_more (set held one.place None) new x is
    ∙ ap (λ places. places ++ Some (exchange_of x) ∷ []) (emptied cell h held number one t)

-- what waits is what has no answer
pub still_consistent : (cell : Cell) (h : Heard) (held new : List (Option HeldExchange)) (x : HeldExchange)
    (waiting left : List Waiting)
    (number : ℕ) (one : Waiting) → Taken cell h 0 (places_of held) number (wait_of one)
    → new ≡ set held one.place None ++ Some x ∷ [] → exchange_of x ≡ with_answer one.order.now (Some h)
    → left ≡ remove waiting number → waits_kept waiting ≡ waits 0 (places_of held)
    → waits_kept left ≡ waits 0 (places_of new)
still_consistent cell h held new x waiting left number one t is seen removed same =
    answered_more (waits_kept left) (set (places_of held) t.k None) (places_of new) one.order.now h
    (now_held cell h held new x number one t is
    ∙ ap (λ e. set (places_of held) t.k None ++ Some e ∷ []) seen)
    (ap waits_kept removed ∙ remove_seen wait_of waiting number ∙ ap (λ ws. remove ws number) same ∙ sym t.rest)

-- what stands in the places
pub now_standing : (cell : Cell) (h : Heard) (held new : List (Option HeldExchange)) (x : HeldExchange) (number : ℕ)
    (one : Waiting)
    → Taken cell h 0 (places_of held) number (wait_of one)
    → new ≡ set held one.place None ++ Some x ∷ [] → exchange_of x ≡ with_answer one.order.now (Some h)
    → standing (places_of new) ≡ after_answer cell h (standing (places_of held))
now_standing cell h held new x number one t is seen =
    standing_more (set (places_of held) t.k None) (places_of new) (exchange_of x)
    (now_held cell h held new x number one t is)
    ∙ ap (λ e. standing (set (places_of held) t.k None) ++ e ∷ []) seen
    ∙ ap (λ es. es ++ with_answer one.order.now (Some h) ∷ []) t.without
    ∙ sym (ap (moved cell h (standing (places_of held))) t.found)
