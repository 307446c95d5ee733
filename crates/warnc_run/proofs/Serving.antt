-- That a session ends: each request leaves fewer that can follow it.
use Rattle.std.proofs.Common.{◌≡◌, ◌≢◌, ℕ, ◌+◌, ◌*◌, ◌<◌, length, Option, Some, None, refl, sym, subst, ap, ◌∙◌}
use Rattle.std.proofs.Common.{suc, List, [], ◌∷◌, ◌++◌, Vec, rules}
use native.Mathlib.Omega.{arith}
use Rattle.std.specs.Global.{Global}
use Rattle.cbsp_wire.specs.declared.message.Message.{Message}
use Rattle.cbsp_wire.specs.Laws.{MeantIsFaultless, OneMeaning}
use Rattle.cbsp_wire.specs.Meaning.{IsMessage}
use Rattle.alert_book.specs.declared.session.request.Request.{Request}
use Rattle.alert_book.specs.Book.{Contents}
use Rattle.alert_book.specs.Session.{after_reply, session_of, GivesRequest, IsGiven, IsReply, Standing}
use Rattle.alert_book.specs.Stands.{left_in, Advances, SessionState, StandsFor}
use Rattle.alert_book.specs.TurnLaws.{SessionsEnd}
use Rattle.alert_book.specs.Turns.{begun, GoesTo, Turn}
use Rattle.book_runs.proofs.Requests.{gone_on}

-- how much is left: nothing where there is no request
abbrev pub left_to_serve : {X : Type 0} → Option X → ℕ → ℕ
left_to_serve None n = 0
left_to_serve (Some x) n = suc n

-- the request to which a given message belongs
pub sent_is : (sent : Option Request) (given : ℕ × Vec ℕ Global) → IsGiven sent (Some given)
    → (request : Request) × (sent ≡ Some request) × GivesRequest request given.0 given.1.items
sent_is None given is = absurd is
sent_is (Some request) given is = (request, refl, is)

-- a session of a part of a book is being served: by these turns it stands somewhere, and its next request is given
pub record IsServing (book : Contents) (part parts : ℕ) (session : SessionState) (next : Option (ℕ × Vec ℕ Global))
    : Type 0 where
  pub reached : Standing
  pub turns : List Turn
  pub gone : GoesTo (begun book part parts) turns reached
  pub stands : StandsFor session reached
  pub given : IsGiven reached.sent next

-- it begins with its first request
no_reply : (reply : Option Message) → IsReply None reply → reply ≡ None
no_reply None is = refl
no_reply (Some message) is = absurd is

-- a session that has begun serves: what it has next is its request
pub serving_begun : (book : Contents) (part parts : ℕ) (before session : SessionState) (reply : Option Message)
    (next : Option (ℕ × Vec ℕ Global))
    → StandsFor before (session_of book part parts)
    → IsReply None reply
    → Advances reply before session
    → IsGiven session.sent next
    → IsServing book part parts session next
serving_begun book part parts before session reply next stands is advances given =
    let there : StandsFor session (begun book part parts) =
    subst (λ (r : Option Message). StandsFor session (after_reply r (session_of book part parts))) (no_reply reply is)
    (advances (session_of book part parts) stands) in record {
      reached = begun book part parts;
      turns = [];
      gone = refl;
      stands = there;
      given = subst (λ (s : Option Request). IsGiven s next) there.sent given;
    }

-- what the reply that is handed to a session means
reply_is : OneMeaning → MeantIsFaultless → (octets : List ℕ) (message : Message) (reply : Option Message)
    → IsMessage octets message
    → IsReply (Some octets) reply
    → reply ≡ Some message
reply_is one faultless octets message None meant is = absurd (is (faultless octets message meant))
reply_is one faultless octets message (Some other) meant is = ap Some (one octets other message is meant)

-- and goes on with the reply to it
pub served_on : OneMeaning → MeantIsFaultless → (book : Contents) (part parts : ℕ) (before session : SessionState)
    (given : ℕ × Vec ℕ Global) (octets : List ℕ) (message : Message) (reply : Option Message)
    (next : Option (ℕ × Vec ℕ Global))
    → IsServing book part parts before (Some given)
    → IsMessage octets message
    → IsReply (Some octets) reply
    → Advances reply before session
    → IsGiven session.sent next
    → IsServing book part parts session next
served_on one faultless book part parts before session given octets message reply next serving meant is advances
    given_next =
    let reached = after_reply (Some message) serving.reached in
    let sent = sent_is serving.reached.sent given serving.given in
    let there : StandsFor session reached =
    subst (λ (r : Option Message). StandsFor session (after_reply r serving.reached))
    (reply_is one faultless octets message reply meant is) (advances serving.reached serving.stands) in record {
      reached = reached;
      turns = serving.turns ++ record { request = sent.0; reply = message } ∷ [];
      gone = gone_on serving.turns (begun book part parts) serving.reached sent.0 message serving.gone sent.1;
      stands = there;
      given = subst (λ (s : Option Request). IsGiven s next) there.sent given_next;
    }

-- and less is left to serve
pub turn_lessens : SessionsEnd → (before session : SessionState) (reached : Standing) (reply : Option Message)
    (given : ℕ × Vec ℕ Global) (next : Option (ℕ × Vec ℕ Global))
    → StandsFor before reached
    → Advances reply before session
    → IsGiven session.sent next
    → left_to_serve next (length session.due + 17 * length (left_in session))
    < left_to_serve (Some given) (length before.due + 17 * length (left_in before))
turn_lessens end before session reached reply given None stands advances is = omega arith
turn_lessens end before session reached reply given (Some next) stands advances is =
    let there = advances reached stands in
    let sent = sent_is session.sent next is in
    let some : (after_reply reply reached).sent ≢ None =
    λ none. some_request sent.0 (sym sent.1 ∙ there.sent ∙ none) in
    less (length session.due) (length (left_in session)) (length before.due) (length (left_in before))
    (length (after_reply reply reached).due) (length (after_reply reply reached).left) (length reached.due)
    (length reached.left) (ap length there.due) (ap length there.left) (ap length stands.due) (ap length stands.left)
    (end reply reached some)
  where
    some_request : (request : Request) → Some request ≡ None → ⊥
    some_request request h = search (rules, h)

    less : (due left b_due b_left n_due n_left r_due r_left : ℕ) → due ≡ n_due → left ≡ n_left → b_due ≡ r_due
        → b_left ≡ r_left
        → n_due + 17 * n_left < r_due + 17 * r_left
        → suc (due + 17 * left) < suc (b_due + 17 * b_left)
    less due left b_due b_left n_due n_left r_due r_left a b c e fewer = omega arith
