-- How a session is served again: what is kept from turn to turn, and that it ends.
use Rattle.std.proofs.Common.{◌≡◌, ◌≢◌, ℕ, ◌+◌, ◌*◌, ◌<◌, List, length}
use Rattle.std.proofs.Common.{Option, Some, None, refl, sym, subst, ap, ◌∙◌, suc}
use native.Mathlib.Omega.{arith}
use Rattle.cbsp_wire.specs.declared.message.Message.{Message}
use Rattle.reply_outcome.specs.declared.outcome.Outcome.{Outcome}
use Rattle.alert_book.specs.declared.session.request.Request.{Request}
use Rattle.alert_book.specs.Book.{Contents}
use Rattle.alert_book.specs.Session.{after_reply, outcome_in, session_of, Standing}
use Rattle.alert_book.specs.Stands.{left_in, Advances, SessionState, StandsFor}
use Rattle.alert_book.specs.TurnLaws.{SessionsEnd}
use Rattle.alert_book.specs.Turns.{begun}
use Rattle.bsc_table.specs.Record.{Record}
use Rattle.order_desk.specs.declared.note.Note.{Note}
use Rattle.order_desk.specs.Reply.{reply_message}
use Rattle.session_check.specs.NotedSteps.{AreStanding, commands_in}
use Rattle.session_check.specs.ReplaySteps.{GoesOnBy, IsTurnNoted}
use Rattle.session_check.proofs.Exchanged.{goes_after, goes_before}
use Rattle.session_check.proofs.Noted.{some_none}
use Rattle.session_check.proofs.Standing.{all_left_stand}

-- how much is left: nothing where there is no request
abbrev pub left_to_serve : {X : Type 0} → Option X → ℕ → ℕ
left_to_serve None n = 0
left_to_serve (Some x) n = suc n

-- a session is being served again: it goes on by the notes that are left exactly where it goes from its beginning by
-- those of its pass
pub record IsReplaying (book : Contents) (part parts : ℕ) (records : List Record) (pass : List Note)
    (session : SessionState) (left : List Note) : Type 0 where
  pub reached : Standing
  pub stands : StandsFor session reached
  pub standing : AreStanding records (commands_in left)
  pub to_whole : GoesOnBy records reached (commands_in left)
      → GoesOnBy records (begun book part parts) (commands_in pass)
  pub from_whole : GoesOnBy records (begun book part parts) (commands_in pass)
      → GoesOnBy records reached (commands_in left)

-- what a session goes on by: what a reply says to its request
abbrev pub GoesOnAfter : Option Outcome → (old new : SessionState) → Type 0
GoesOnAfter said old new =
    (reply : Option Message) → said ≡ outcome_in old.sent reply → Advances reply old new

-- a session with its first request
pub replaying_begun : (book : Contents) (part parts : ℕ) (records : List Record) (pass : List Note)
    (before session : SessionState)
    → AreStanding records (commands_in pass)
    → StandsFor before (session_of book part parts)
    → GoesOnAfter None before session
    → IsReplaying book part parts records pass session pass
replaying_begun book part parts records pass before session standing stands goes = record {
  reached = begun book part parts;
  stands = goes None (ap (λ (s : Option Request). outcome_in s None) (sym stands.sent)) (session_of book part parts)
      stands;
  standing = standing;
  to_whole = λ by. by;
  from_whole = λ by. by;
}

-- one more turn
pub replaying_more : (book : Contents) (part parts : ℕ) (records : List Record) (pass : List Note)
    (before session : SessionState) (request : Request) (said : Outcome) (notes left : List Note)
    → before.sent ≡ Some request
    → IsReplaying book part parts records pass before notes
    → IsTurnNoted records request said (commands_in notes) (commands_in left)
    → GoesOnAfter (Some said) before session
    → IsReplaying book part parts records pass session left
replaying_more book part parts records pass before session request said notes left sent replaying turn goes =
    let reply = reply_message turn.command turn.answers in
    let asked = sym replaying.stands.sent ∙ sent in record {
      reached = after_reply (Some reply) replaying.reached;
      stands = goes (Some reply) (turn.told ∙ ap (λ (s : Option Request). outcome_in s (Some reply)) (sym sent))
          replaying.reached replaying.stands;
      standing = all_left_stand records request.at turn.command turn.answers (commands_in notes) (commands_in left)
          turn.noted replaying.standing;
      to_whole = λ by. replaying.to_whole (goes_before records replaying.reached request said (commands_in notes)
          (commands_in left) asked turn by);
      from_whole = λ by. goes_after records replaying.reached request said (commands_in notes) (commands_in left)
          asked turn (replaying.from_whole by);
    }

-- and less is left to serve
abbrev pub left_of : SessionState → ℕ
left_of session = left_to_serve session.sent (length session.due + 17 * length (left_in session))

-- one that has a request leaves less to serve than before it
pub lessens : SessionsEnd → (before session : SessionState) (reached : Standing) (reply : Option Message)
    (request : Request) (next : Option Request)
    → StandsFor before reached
    → Advances reply before session
    → session.sent ≡ next
    → left_to_serve next (length session.due + 17 * length (left_in session))
    < left_to_serve (Some request) (length before.due + 17 * length (left_in before))
lessens end before session reached reply request None stands advances sent = omega arith
lessens end before session reached reply request (Some next) stands advances sent =
    let there = advances reached stands in
    let some : (after_reply reply reached).sent ≢ None =
    λ none. some_none next (sym sent ∙ there.sent ∙ none) in
    less (length session.due) (length (left_in session)) (length before.due) (length (left_in before))
    (length (after_reply reply reached).due) (length (after_reply reply reached).left) (length reached.due)
    (length reached.left) (ap length there.due) (ap length there.left) (ap length stands.due) (ap length stands.left)
    (end reply reached some)
  where
    less : (due left b_due b_left n_due n_left r_due r_left : ℕ) → due ≡ n_due → left ≡ n_left → b_due ≡ r_due
        → b_left ≡ r_left → n_due + 17 * n_left < r_due + 17 * r_left
        → suc (due + 17 * left) < suc (b_due + 17 * b_left)
    less due left b_due b_left n_due n_left r_due r_left a b c d e = omega arith

-- each turn of a replayed session leaves less to serve
pub turn_lessens : SessionsEnd → (book : Contents) (part parts : ℕ) (records : List Record) (pass : List Note)
    (before session : SessionState) (request : Request) (said : Outcome) (notes left : List Note)
    → before.sent ≡ Some request
    → IsReplaying book part parts records pass before notes
    → IsTurnNoted records request said (commands_in notes) (commands_in left)
    → GoesOnAfter (Some said) before session
    → left_of session < left_of before
turn_lessens end book part parts records pass before session request said notes left sent replaying turn goes =
    let reply = reply_message turn.command turn.answers in
    let advances : Advances (Some reply) before session =
    goes (Some reply) (turn.told ∙ ap (λ (s : Option Request). outcome_in s (Some reply)) (sym sent)) in
    subst (λ (s : Option Request). left_of session
    < left_to_serve s (length before.due + 17 * length (left_in before))) (sym sent)
    (lessens end before session replaying.reached (Some reply) request session.sent replaying.stands advances refl)
