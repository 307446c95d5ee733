-- What a session keeps goes on standing for what its definition says.
use Rattle.std.specs.Option.{option_to_list}
use Rattle.std.proofs.Common.{◌≡◌, ℕ, Option, Some, None, List, [], ◌∷◌, ◌++◌, refl, sym, ap, subst, ◌∙◌}
use Rattle.cbs_page.specs.declared.paging.Paged.{Paged}
use Rattle.cbsp_wire.specs.declared.message.Cell.{Cell}
use Rattle.cbsp_wire.specs.declared.message.Message.{Message}
use Rattle.alert_book.specs.declared.session.NextRequests.{NextRequests}
use Rattle.alert_book.specs.AdvancingSteps.{due_with, first_in, rest_of, row_after, HasAdvanced}
use Rattle.alert_book.specs.declared.book.order.Order.{Order}
use Rattle.reply_outcome.specs.declared.outcome.Outcome.{Outcome}
use Rattle.alert_book.specs.declared.session.request.Request.{Request}
use Rattle.alert_book.specs.Session.{after_reply, advanced, due_requests, outcome_in, replies_with}
use Rattle.reply_outcome.specs.Replies.{cells_asked}
use Rattle.alert_book.specs.Session.{sent_first, version_after, version_in, Replied}
use Rattle.alert_book.specs.SessionSteps.{live_with}
use Rattle.alert_book.specs.Stands.{left_in, Advances, AreBelieved, HavePlaces, SessionState, StandsFor}
use Rattle.alert_book.specs.VersionSteps.{has_place, kept_version, KeepsVersions}
use Rattle.alert_book.proofs.VersionLaws.{Entries}

-- places stay
pub places_stay : (old new : Entries) (request : Option Request) →
    ((n : ℕ) (c : Cell) → has_place new n c ≡ has_place old n c) → HavePlaces old request → HavePlaces new request
places_stay old new None same places = tt
places_stay old new (Some request) same places = λ k d within. same request.number _ ∙ places k d within

-- the versions believed with a reply are those of the replies with that one
believed_with : (entries : Entries) (replies : List Replied) (sent : Option Request) (outcome : Option Outcome) →
    AreBelieved entries replies → (n : ℕ) (c : Cell) →
    live_with entries sent outcome n c ≡ version_in (replies_with sent outcome replies) n c
believed_with entries replies None outcome believed n c = believed n c
believed_with entries replies (Some request) None believed n c = believed n c
believed_with entries replies (Some request) (Some outcome) believed n c =
    ap (λ before. version_after request outcome (cells_asked request.message) n c before) (believed n c)

-- versions that are kept are believed as before
live_same : (old new : Entries) (sent : Option Request) (outcome : Option Outcome) →
    ((n : ℕ) (c : Cell) → kept_version new n c ≡ kept_version old n c) → (n : ℕ) (c : Cell) →
    live_with new sent outcome n c ≡ live_with old sent outcome n c
live_same old new None outcome same n c = same n c
live_same old new (Some request) None same n c = same n c
live_same old new (Some request) (Some outcome) same n c =
    ap (λ before. version_after request outcome (cells_asked request.message) n c before) (same n c)

-- of requests the first is sent
sent_is : (replies : List Replied) (row : ℕ) (due : List Request) (left : List (Order × Option Paged)) →
    ((sent_first replies row due left).sent ≡ first_in due)
    × ((sent_first replies row due left).row ≡ row_after (first_in due) row)
    × ((sent_first replies row due left).due ≡ rest_of due)
    × ((sent_first replies row due left).left ≡ left)
    × ((sent_first replies row due left).replies ≡ replies)
sent_is replies row [] left = (refl, refl, refl, refl, refl)
sent_is replies row (request ∷ due) left = (refl, refl, refl, refl, refl)

-- a session that was prepared and then advanced has advanced as its definition does
pub has_advanced : (old prepared new : SessionState) (reply : Option Message)
    (requests : List Request × List (Order × Option Paged)) →
    KeepsVersions old.versions prepared.versions → prepared.sent ≡ old.sent → prepared.row ≡ old.row →
    due_requests (live_with old.versions old.sent (outcome_in old.sent reply)) old.due (left_in old) ≡ requests →
    HasAdvanced prepared new (outcome_in old.sent reply) requests → Advances reply old new
has_advanced old prepared new reply requests keeps sent row due has standing stands =
    let outcome = outcome_in old.sent reply in
    let replies = replies_with old.sent outcome standing.replies in
    let live = live_with old.versions old.sent outcome in
    let same : version_in replies ≡ live =
    λ i n c. (sym (believed_with old.versions standing.replies old.sent outcome stands.believed n c)) i in
    let goes : after_reply reply standing ≡ sent_first replies old.row requests.0 requests.1 =
    ap (λ (x : Option Request). advanced (replies_with x (outcome_in x reply) standing.replies) standing.row
    (due_requests (version_in (replies_with x (outcome_in x reply) standing.replies)) standing.due standing.left))
    (sym stands.sent)
    ∙ ap (λ n. advanced replies n (due_requests (version_in replies) standing.due standing.left)) (sym stands.row)
    ∙ ap (λ (x : List Request). advanced replies old.row (due_requests (version_in replies) x standing.left))
    (sym stands.due)
    ∙ ap (λ (x : List (Order × Option Paged)). advanced replies old.row (due_requests (version_in replies) old.due x))
    (sym stands.left)
    ∙ ap (λ (f : ℕ → Cell → Option ℕ). advanced replies old.row (due_requests f old.due (left_in old))) same
    ∙ ap (advanced replies old.row) due in
    let parts = sent_is replies old.row requests.0 requests.1 in
    subst (StandsFor new) (sym goes) (record {
      believed = λ n c.
          has.believed n c
          ∙ live_same old.versions prepared.versions prepared.sent outcome keeps.same n c
          ∙ ap (λ (x : Option Request). live_with old.versions x outcome n c) sent
          ∙ believed_with old.versions standing.replies old.sent outcome stands.believed n c
          ∙ ap (λ (x : List Replied). version_in x n c) (sym parts.4);
      sent = has.sent ∙ sym parts.0;
      row = has.row ∙ ap (row_after (first_in requests.0)) row ∙ sym parts.1;
      due = has.due ∙ sym parts.2;
      left = has.left ∙ sym parts.3;
    })

-- what is due doesn't depend on the versions
pub due_same : (old : SessionState) (versions : Entries) (found : Option NextRequests) →
    due_with (record old { versions = versions }) found ≡ due_with old found
due_same old versions None = refl
due_same old versions (Some found) = refl

-- the request that is taken from those due has places where the first of them has
pub popped : (versions : Entries) (due rest : List Request) (taken : Option Request) →
    due ≡ option_to_list taken ++ rest → HavePlaces versions (first_in due) → HavePlaces versions taken
popped versions due rest None is places = tt
popped versions due rest (Some request) is places = subst (λ (x : List Request). HavePlaces versions (first_in x)) is
    places
