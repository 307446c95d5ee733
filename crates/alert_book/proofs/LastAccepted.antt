-- What a session believes live in a cell is what the cell accepted last, by the replies of its turns.
use Rattle.std.proofs.Common.{◌≡◌, ◌⊎◌, ◌&&◌, ℕ, Bool, true, false, cond, eqb, Option, Some, None, List, [], ◌∷◌, ◌++◌}
use Rattle.std.proofs.Common.{All, refl, ap, sym, subst, ◌∙◌, inl, inr}
use Rattle.std.specs.List.{find, list_any}
use Rattle.std.proofs.lemmas.Bool.{and_from, and_parts, both_ways, eq-eqb, eqb-true}
use Rattle.std.proofs.lemmas.List.{append_assoc}
use Rattle.std.proofs.lemmas.List.Elements.{All-nil, All-push}
use Rattle.cbsp_wire.specs.declared.cause.TheConstants.{MESSAGE_REFERENCE_NOT_IDENTIFIED}
use Rattle.cbsp_wire.specs.declared.message.Cell.{Cell}
use Rattle.cbsp_wire.specs.declared.message.Failure.{Failure}
use Rattle.cbsp_wire.specs.Range.{is_cell}
use Rattle.reply_outcome.specs.declared.outcome.Outcome.{Outcome}
use Rattle.alert_book.specs.LastAccepted.{HasAccepted, HasNone, IsAskedOf}
use Rattle.alert_book.specs.Session.{replies_with, version_in, Replied}
use Rattle.reply_outcome.specs.Replies.{outcome_of, refuses, version_by}
use Rattle.alert_book.specs.Turns.{is_asked, Turn}

-- of the turns that asked a cell something of an alert, and whose reply says that it accepted or has no such message,
-- the last one asked for this version, and the cell accepted it
pub record AcceptedVersion (turns : List Turn) (number : ℕ) (cell : Cell) (version : ℕ) : Type 0 where
  pub before : List Turn
  pub turn : Turn
  pub later : List Turn
  pub split : turns ≡ before ++ turn ∷ later
  pub asked : IsAskedOf number cell turn
  pub given : turn.request.version ≡ Some version
  pub accepted : HasAccepted cell turn
  pub last : All (λ t. IsAskedOf number cell t → HasAccepted cell t ⊎ HasNone cell t → ⊥) later

-- what is believed live, by some replies, is what was accepted last
abbrev pub AreOfTurns : List Turn → List Replied → Type 0
AreOfTurns turns replies =
    (number : ℕ) (cell : Cell) (version : ℕ) → version_in replies number cell ≡ Some version
    → AcceptedVersion turns number cell version

-- one more turn that says nothing of the cell
says_nothing : (turns : List Turn) (turn : Turn) (number : ℕ) (cell : Cell) (version : ℕ)
    → (IsAskedOf number cell turn → HasAccepted cell turn ⊎ HasNone cell turn → ⊥)
    → AcceptedVersion turns number cell version → AcceptedVersion (turns ++ turn ∷ []) number cell version
says_nothing turns turn number cell version nothing was = record {
  before = was.before;
  turn = was.turn;
  later = was.later ++ turn ∷ [];
  split = ap (λ (l : List Turn). l ++ turn ∷ []) was.split ∙ append_assoc was.before (was.turn ∷ was.later) (turn ∷ []);
  asked = was.asked;
  given = was.given;
  accepted = was.accepted;
  last = All-push (λ (t : Turn). IsAskedOf number cell t → HasAccepted cell t ⊎ HasNone cell t → ⊥) was.later turn
      was.last nothing;
}

one_outcome : (told : Option Outcome) (a b : Outcome) → told ≡ Some a → told ≡ Some b → a ≡ b
one_outcome told a b one two = cc

none_some : (told : Option Outcome) (a : Outcome) → told ≡ None → told ≡ Some a → ⊥
none_some told a none some = absurd (cc)

-- of a turn whose reply says this, a cell accepted or has no such message only as that says
accepts_by : (turn : Turn) (cell : Cell) (outcome : Outcome)
    → outcome_of turn.request.message turn.reply ≡ Some outcome → HasAccepted cell turn
    → (list_any (is_cell cell) outcome.accepted ≡ true) × (find (refuses cell) outcome.refused ≡ None)
accepts_by turn cell outcome told has =
    let same = one_outcome (outcome_of turn.request.message turn.reply) has.outcome outcome has.replied told in (
      subst (λ (o : Outcome). list_any (is_cell cell) o.accepted ≡ true) same has.listed,
      subst (λ (o : Outcome). find (refuses cell) o.refused ≡ None) same has.unrefused,
    )

none_by : (turn : Turn) (cell : Cell) (outcome : Outcome)
    → outcome_of turn.request.message turn.reply ≡ Some outcome → HasNone cell turn
    → (failure : Failure) × (find (refuses cell) outcome.refused ≡ Some failure)
    × (failure.cause ≡ MESSAGE_REFERENCE_NOT_IDENTIFIED)
none_by turn cell outcome told has =
    let same = one_outcome (outcome_of turn.request.message turn.reply) has.outcome outcome has.replied told in (
      has.failure,
      subst (λ (o : Outcome). find (refuses cell) o.refused ≡ Some has.failure) same has.refused,
      has.cause,
    )

one_failure : (found : Option Failure) (a b : Failure) → found ≡ Some a → found ≡ Some b → a ≡ b
one_failure found a b one two = cc

not_both : (found : Option Failure) (a : Failure) → found ≡ None → found ≡ Some a → ⊥
not_both found a none some = absurd (cc)

-- the version that a cell has after a turn that asked it, by what the reply says
said_version : (turns : List Turn) (turn : Turn) (outcome : Outcome) (number : ℕ) (cell : Cell) (was : Option ℕ)
    (version : ℕ) → outcome_of turn.request.message turn.reply ≡ Some outcome → IsAskedOf number cell turn
    → (was ≡ Some version → AcceptedVersion turns number cell version)
    → version_by (find (refuses cell) outcome.refused) (list_any (is_cell cell) outcome.accepted) turn.request.version
    was ≡ Some version
    → AcceptedVersion (turns ++ turn ∷ []) number cell version
said_version turns turn outcome number cell was version told asked so is =
    by_failure (find (refuses cell) outcome.refused) refl is
  where
    by_cause : (failure : Failure) → find (refuses cell) outcome.refused ≡ Some failure → (live : Bool)
        → eqb failure.cause MESSAGE_REFERENCE_NOT_IDENTIFIED ≡ live → cond live None was ≡ Some version
        → AcceptedVersion (turns ++ turn ∷ []) number cell version
    by_cause failure found true known said = absurd (cc said)
    by_cause failure found false other said =
        says_nothing turns turn number cell version (λ of says. elim says [
          | inl accepts ↦
              not_both (find (refuses cell) outcome.refused) failure (accepts_by turn cell outcome told accepts).1 found
          | inr none ↦
              let has = none_by turn cell outcome told none in
              let same = one_failure (find (refuses cell) outcome.refused) has.0 failure has.1 found in
              both_ways (eqb failure.cause MESSAGE_REFERENCE_NOT_IDENTIFIED) other
              (eq-eqb failure.cause MESSAGE_REFERENCE_NOT_IDENTIFIED
              (ap (λ (f : Failure). f.cause) (sym same) ∙ has.2))
        ]) (so said)

    by_listed : find (refuses cell) outcome.refused ≡ None → (accepted : Bool)
        → list_any (is_cell cell) outcome.accepted ≡ accepted → cond accepted turn.request.version was ≡ Some version
        → AcceptedVersion (turns ++ turn ∷ []) number cell version
    by_listed found true listed said = record {
      before = turns;
      turn = turn;
      later = [];
      split = refl;
      asked = asked;
      given = said;
      accepted = record { outcome = outcome; replied = told; listed = listed; unrefused = found };
      last = All-nil (λ (t : Turn). IsAskedOf number cell t → HasAccepted cell t ⊎ HasNone cell t → ⊥);
    }
    by_listed found false unlisted said =
        says_nothing turns turn number cell version (λ of says. elim says [
          | inl accepts ↦
              both_ways (list_any (is_cell cell) outcome.accepted) unlisted
              (accepts_by turn cell outcome told accepts).0
          | inr none ↦
              let has = none_by turn cell outcome told none in
              not_both (find (refuses cell) outcome.refused) has.0 found has.1
        ]) (so said)

    by_failure : (found : Option Failure) → find (refuses cell) outcome.refused ≡ found
        → version_by found (list_any (is_cell cell) outcome.accepted) turn.request.version was ≡ Some version
        → AcceptedVersion (turns ++ turn ∷ []) number cell version
    by_failure None found said = by_listed found (list_any (is_cell cell) outcome.accepted) refl said
    by_failure (Some failure) found said =
        by_cause failure found (eqb failure.cause MESSAGE_REFERENCE_NOT_IDENTIFIED) refl said

-- so it stays with the turn's reply
pub of_turns_more : (turns : List Turn) (turn : Turn) (replies : List Replied) → AreOfTurns turns replies
    → AreOfTurns (turns ++ turn ∷ [])
    (replies_with (Some turn.request) (outcome_of turn.request.message turn.reply) replies)
of_turns_more turns turn replies so number cell version is =
    by_outcome (outcome_of turn.request.message turn.reply) refl is
  where
    by_asked : (outcome : Outcome) → outcome_of turn.request.message turn.reply ≡ Some outcome → (asked : Bool)
        → (eqb turn.request.number number && is_asked cell turn) ≡ asked
        → cond asked (version_by (find (refuses cell) outcome.refused) (list_any (is_cell cell) outcome.accepted)
        turn.request.version (version_in replies number cell)) (version_in replies number cell) ≡ Some version
        → AcceptedVersion (turns ++ turn ∷ []) number cell version
    by_asked outcome told true asked said =
        said_version turns turn outcome number cell (version_in replies number cell) version told (asked_of asked)
        (so number cell version) said
      where
        asked_of : (eqb turn.request.number number && is_asked cell turn) ≡ true → IsAskedOf number cell turn
        asked_of both =
            let parts = and_parts (eqb turn.request.number number) (is_asked cell turn) both in
            (eqb-true turn.request.number number parts.0, parts.1)
    by_asked outcome told false other said =
        says_nothing turns turn number cell version (λ of says.
        both_ways (eqb turn.request.number number && is_asked cell turn) other
        (and_from (eqb turn.request.number number) (is_asked cell turn) (eq-eqb turn.request.number number of.0) of.1))
        (so number cell version said)

    by_outcome : (told : Option Outcome) → outcome_of turn.request.message turn.reply ≡ told
        → version_in (replies_with (Some turn.request) told replies) number cell ≡ Some version
        → AcceptedVersion (turns ++ turn ∷ []) number cell version
    by_outcome None told said =
        says_nothing turns turn number cell version (λ of says. elim says [
          | inl accepts ↦ unsaid accepts.outcome accepts.replied
          | inr none ↦ unsaid none.outcome none.replied
        ]) (so number cell version said)
      where
        unsaid : (outcome : Outcome) → outcome_of turn.request.message turn.reply ≡ Some outcome → ⊥
        unsaid outcome some = none_some (outcome_of turn.request.message turn.reply) outcome told some
    by_outcome (Some outcome) told said =
        by_asked outcome told (eqb turn.request.number number && is_asked cell turn) refl said
