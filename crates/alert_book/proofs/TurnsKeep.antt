-- What holds of the requests of each order holds of the requests of a session.
use Rattle.std.proofs.Common.{◌≡◌, ℕ, Option, Some, None, List, [], ◌∷◌, All, subst}
use Rattle.std.proofs.lemmas.List.Elements.{All-cons, All-filter, All-head, All-nil, All-tail}
use Rattle.cbs_page.specs.declared.paging.Paged.{Paged}
use Rattle.cbsp_wire.specs.declared.message.Cell.{Cell}
use Rattle.cbsp_wire.specs.declared.message.Message.{Message}
use Rattle.alert_book.specs.declared.book.order.Order.{Order}
use Rattle.alert_book.specs.declared.session.request.Request.{Request}
use Rattle.alert_book.specs.Book.{Contents}
use Rattle.alert_book.specs.Session.{advanced, after_reply, due_requests, next_requests, found_first}
use Rattle.alert_book.specs.Session.{is_of_part, orders_with, outcome_in, replies_with, requests_of, session_of}
use Rattle.alert_book.specs.Session.{version_in, Replied, Standing}
use Rattle.alert_book.specs.Turns.{begun, GoesTo, Turn}

-- the requests of an order of which L holds are such that P holds of them, whatever is believed live
abbrev pub Gives : (P : Request → Type 0) (L : Order × Option Paged → Type 0) → Type 0
Gives P L = (live : ℕ → Cell → Option ℕ) (next : Order × Option Paged) → L next → All P (requests_of live next.0 next.1)

-- P holds of requests and L of the orders after them; and so of a standing
record AreKept (P : Request → Type 0) (L : Order × Option Paged → Type 0)
    (requests : List Request × List (Order × Option Paged)) : Type 0 where
  pub due : All P requests.0
  pub left : All L requests.1

record IsKept (P : Request → Type 0) (L : Order × Option Paged → Type 0) (s : Standing) : Type 0 where
  pub sent : (request : Request) → s.sent ≡ Some request → P request
  pub due : All P s.due
  pub left : All L s.left

-- of the first row that gives a request, or a later one; of the row under way too; and after the next is sent
found_kept : (P : Request → Type 0) (L : Order × Option Paged → Type 0) (found : List Request)
    (left : List (Order × Option Paged)) (later : List Request × List (Order × Option Paged)) → All P found →
    All L left → AreKept P L later → AreKept P L (found_first found left later)
found_kept P L [] left later here rest after = after
found_kept P L (request ∷ due) left later here rest after = record { due = here; left = rest }

first_kept : (P : Request → Type 0) (L : Order × Option Paged → Type 0) → Gives P L →
    (live : ℕ → Cell → Option ℕ) (left : List (Order × Option Paged)) → All L left →
    AreKept P L (next_requests live left)
first_kept P L gives live [] kept = record { due = All-nil P; left = kept }
first_kept P L gives live (next ∷ left) kept =
    let rest = All-tail L next left kept in
    found_kept P L (requests_of live next.0 next.1) left (next_requests live left)
    (gives live next (All-head L next left kept)) rest (first_kept P L gives live left rest)

due_kept : (P : Request → Type 0) (L : Order × Option Paged → Type 0) → Gives P L →
    (live : ℕ → Cell → Option ℕ) (due : List Request) (left : List (Order × Option Paged)) → All P due → All L left →
    AreKept P L (due_requests live due left)
due_kept P L gives live [] left here kept = first_kept P L gives live left kept
due_kept P L gives live (request ∷ due) left here kept = record { due = here; left = kept }

some_same : (a b : Request) → Some a ≡ Some b → a ≡ b
some_same a b same = cc

advanced_kept : (P : Request → Type 0) (L : Order × Option Paged → Type 0) (replies : List Replied) (row : ℕ)
    (due : List Request) (left : List (Order × Option Paged)) → All P due → All L left →
    IsKept P L (advanced replies row (due, left))
advanced_kept P L replies row [] left here kept =
    record { sent = λ request is. absurd (cc is); due = here; left = kept }
advanced_kept P L replies row (first ∷ due) left here kept = record {
  sent = λ request is. subst P (some_same first request is) (All-head P first due here);
  due = All-tail P first due here;
  left = kept;
}

-- a reply leaves all of it so
after_kept : (P : Request → Type 0) (L : Order × Option Paged → Type 0) → Gives P L → (reply : Option Message)
    (s : Standing) → IsKept P L s → IsKept P L (after_reply reply s)
after_kept P L gives reply s kept =
    let replies = replies_with s.sent (outcome_in s.sent reply) s.replies in
    let next = due_requests (version_in replies) s.due s.left in
    let so = due_kept P L gives (version_in replies) s.due s.left kept.due kept.left in
    advanced_kept P L replies s.row next.0 next.1 so.due so.left

turns_kept : (P : Request → Type 0) (L : Order × Option Paged → Type 0) → Gives P L → (turns : List Turn)
    (from to : Standing) → IsKept P L from → GoesTo from turns to → All (λ turn. P turn.request) turns
turns_kept P L gives [] from to kept goes = All-nil (λ (turn : Turn). P turn.request)
turns_kept P L gives (turn ∷ later) from to kept goes =
    All-cons (λ (turn : Turn). P turn.request) turn later (kept.sent turn.request goes.0)
    (turns_kept P L gives later (after_reply (Some turn.reply) from) to
    (after_kept P L gives (Some turn.reply) from kept) goes.1)

-- so P holds of each request of a session of a book of whose orders L holds
pub requests_kept : (P : Request → Type 0) (L : Order × Option Paged → Type 0) → Gives P L → (book : Contents)
    (part parts : ℕ) (turns : List Turn) (reached : Standing) → All L (orders_with book.orders book.pages) →
    GoesTo (begun book part parts) turns reached → All (λ turn. P turn.request) turns
requests_kept P L gives book part parts turns reached all goes =
    turns_kept P L gives turns (begun book part parts) reached
    (after_kept P L gives None (session_of book part parts) (record {
      sent = λ request is. absurd (cc is);
      due = All-nil P;
      left = All-filter (is_of_part part parts) L (orders_with book.orders book.pages) all;
    })) goes
