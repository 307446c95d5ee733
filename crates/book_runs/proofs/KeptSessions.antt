-- The session of some of a book's cells goes by the shares of the whole session's turns.
use Rattle.std.proofs.Common.{◌≡◌, ℕ, Bool, true, false, cond, Option, Some, None, Result, Ok, List, []}
use Rattle.std.proofs.Common.{◌∷◌, get_or, map, filter, refl, ap, sym, subst, ◌∙◌, inl, inr}
use Rattle.std.specs.List.{All}
use Rattle.std.proofs.lemmas.Bool.{cases_Bool}
use Rattle.std.proofs.lemmas.List.Elements.{All-filter, All-head, All-tail, filter_passes}
use Rattle.cbsp_wire.specs.declared.message.Cell.{Cell}
use Rattle.cbsp_wire.specs.declared.message.Message.{Message}
use Rattle.reply_outcome.specs.declared.outcome.Outcome.{Outcome}
use Rattle.alert_book.specs.declared.session.request.Request.{Request}
use Rattle.alert_book.specs.Book.{Contents}
use Rattle.alert_book.specs.Session.{Replied, Standing, advanced, after_reply, due_requests, is_of_part}
use Rattle.alert_book.specs.Session.{orders_from, orders_with, outcome_in, replies_with}
use Rattle.reply_outcome.specs.Replies.{cells_asked, outcome_of}
use Rattle.alert_book.specs.Session.{standing_with, version_after, version_in}
use Rattle.alert_book.specs.Turns.{AreTurnsOf, GoesTo, Turn, begun}
use Rattle.bsc_table.specs.declared.command.Command.{Command}
use Rattle.bsc_table.specs.declared.entry.Answer.{Answer}
use Rattle.bsc_table.specs.declared.entry.Answer.TheVariants as answers
use Rattle.cbsp_wire.specs.declared.cause.TheConstants.{CELL_IDENTITY_NOT_VALID}
use Rattle.order_desk.specs.Reply.{cells_answered}
use Rattle.book_runs.specs.CellParts.{asks_some, kept_answers, kept_exchange}
use Rattle.alert_book.specs.Restricted.{Keep, PagedOrder, is_for_some}
use Rattle.book_runs.specs.CellParts.{kept_exchanges, kept_request, kept_requests}
use Rattle.alert_book.specs.Restricted.{kept_orders, kept_paged}
use Rattle.alert_book.specs.Restricted.{restricted}
use Rattle.book_runs.specs.Run.{Exchange, IsExchange, is_among}
use Rattle.book_runs.proofs.CellLists.{filter_mapped, filter_swap}
use Rattle.book_runs.proofs.KeptReplies.{contains_kept, kept_means, kept_version, reply_says, said, same_version}
use Rattle.book_runs.proofs.KeptRequests.{AgreeOn, none_due, nothing, share_due}

-- the request whose reply is to come, and those that are due after it
abbrev pub pending : Option Request → List Request → List Request
pending None due = due
pending (Some request) due = request ∷ due

-- a session of some cells stands where that of the whole book does: it believes the same of these cells, and is due the
-- shares of what that is due
pub record IsShareOf (keep : Keep) (s t : Standing) : Type 0 where
  pub believed : AgreeOn keep (version_in s.replies) (version_in t.replies)
  pub row : ℕ
  pub stands : t ≡ advanced t.replies row (due_requests (version_in t.replies)
      (kept_requests keep (pending s.sent s.due)) (kept_orders keep s.left))
  pub ended : s.sent ≡ None → (s.due ≡ []) × (s.left ≡ [])

-- the next standings of both
share_made : (keep : Keep) (replies more : List Replied) (row at : ℕ) (due share : List Request)
    (left rest : List PagedOrder) → AgreeOn keep (version_in replies) (version_in more)
    → (let found : List Request × List PagedOrder = (share, rest) in found)
    ≡ due_requests (version_in more) (kept_requests keep due) (kept_orders keep left)
    → (due ≡ [] → left ≡ [])
    → IsShareOf keep (advanced replies row (due, left)) (advanced more at (share, rest))
share_made keep replies more row at [] [] left rest agree is ended = record {
  believed = agree;
  row = at;
  stands = ap (λ (found : List Request × List PagedOrder). advanced more at found) is;
  ended = λ none. (refl, ended refl);
}
share_made keep replies more row at [] (r ∷ share) left rest agree is ended = record {
  believed = agree;
  row = at;
  stands = ap (λ (found : List Request × List PagedOrder). advanced more at found) is;
  ended = λ none. (refl, ended refl);
}
share_made keep replies more row at (q ∷ due) [] left rest agree is ended = record {
  believed = agree;
  row = at;
  stands = ap (λ (found : List Request × List PagedOrder). advanced more at found) is;
  ended = λ none. absurd (cc);
}
share_made keep replies more row at (q ∷ due) (r ∷ share) left rest agree is ended = record {
  believed = agree;
  row = at;
  stands = ap (λ (found : List Request × List PagedOrder). advanced more at found) is;
  ended = λ none. absurd (cc);
}

-- where they believe the same, both go on to such standings
goes_on : (keep : Keep) (replies more : List Replied) (row at : ℕ) (due : List Request) (left : List PagedOrder)
    → AgreeOn keep (version_in replies) (version_in more)
    → IsShareOf keep (advanced replies row (due_requests (version_in replies) due left))
    (advanced more at (due_requests (version_in more) (kept_requests keep due) (kept_orders keep left)))
goes_on keep replies more row at due left agree =
    let found : List Request × List PagedOrder = due_requests (version_in replies) due left in
    let share : List Request × List PagedOrder =
    due_requests (version_in more) (kept_requests keep due) (kept_orders keep left) in
    share_made keep replies more row at found.0 share.0 found.1 share.1 agree
    (sym (share_due keep (version_in replies) (version_in more) agree due left))
    (none_due (version_in replies) due left)

-- the session of the whole book, where it waits for the reply to a request
abbrev waiting : List Replied → Request → (row : ℕ) → List Request → List PagedOrder → Standing
waiting replies request row due left = standing_with replies (Some request) row due left

abbrev replied_with : Request → Outcome → Replied
replied_with request outcome = record { request = request; outcome = outcome }

-- after the reply it stands so
pub after_said : (x : Exchange) (cells : List Cell) → IsExchange cells x → (s : Standing)
    → s.sent ≡ Some x.turn.request
    → after_reply (Some x.turn.reply) s
    ≡ advanced (replied_with x.turn.request (said x.command x.answers) ∷ s.replies) s.row
    (due_requests (version_in (replied_with x.turn.request (said x.command x.answers) ∷ s.replies)) s.due s.left)
after_said x cells is s sent =
    let by : Option Request → Option Outcome → Standing = λ request outcome.
    advanced (replies_with request outcome s.replies) s.row
    (due_requests (version_in (replies_with request outcome s.replies)) s.due s.left) in
    ap (λ (r : Option Request). by r (outcome_in r (Some x.turn.reply))) sent
    ∙ ap (λ (reply : Message). by (Some x.turn.request) (outcome_of x.turn.request.message reply)) is.replied
    ∙ ap (by (Some x.turn.request))
    (reply_says x.turn.request.message (cells_answered x.answers) x.command x.answers is.asked)

-- a turn that asks none of these cells: their session stays
pub share_stays : (keep : Keep) (cells : List Cell) (x : Exchange) (s t : Standing) → IsExchange cells x
    → s.sent ≡ Some x.turn.request → asks_some (kept_request keep x.turn.request) ≡ false → IsShareOf keep s t
    → IsShareOf keep (after_reply (Some x.turn.reply) s) t
share_stays keep cells x s t is sent none share =
    let last : Replied = replied_with x.turn.request (said x.command x.answers) in
    let agree : AgreeOn keep (version_in (last ∷ s.replies)) (version_in t.replies) = λ number cell own.
    share.believed number cell own
    ∙ sym (same_version keep x.turn.request x.command x.answers number cell (version_in s.replies number cell) own
    is.asked (nothing (cells_asked (kept_request keep x.turn.request).message) none)) in
    let due : kept_requests keep (pending s.sent s.due) ≡ kept_requests keep s.due =
    ap (λ (r : Option Request). kept_requests keep (pending r s.due)) sent
    ∙ ap (λ (b : Bool). cond b (kept_request keep x.turn.request ∷ kept_requests keep s.due)
    (kept_requests keep s.due)) none in
    let stands : t ≡ advanced t.replies share.row (due_requests (version_in t.replies) (kept_requests keep s.due)
    (kept_orders keep s.left)) =
    share.stands ∙ ap (λ (l : List Request). advanced t.replies share.row (due_requests (version_in t.replies) l
    (kept_orders keep s.left))) due in
    subst (λ (u : Standing). IsShareOf keep u t) (sym (after_said x cells is s sent))
    (subst (IsShareOf keep (advanced (last ∷ s.replies) s.row
    (due_requests (version_in (last ∷ s.replies)) s.due s.left))) (sym stands)
    (goes_on keep (last ∷ s.replies) t.replies s.row share.row s.due s.left agree))

-- a cell that isn't of the run is not identified
abbrev pub IsForeign : List Cell → Cell × Answer → Type 0
IsForeign cells a = is_among cells a.0 ≡ false → a.1 ≡ answers.Cause CELL_IDENTITY_NOT_VALID

-- what came of a turn in these cells, is what comes of their own session's turn
pub is_kept_exchange : (keep : Keep) (cells : List Cell) (x : Exchange) → IsExchange cells x
    → IsExchange (filter keep cells) (kept_exchange keep x)
is_kept_exchange keep cells x is = record {
  asked =
      kept_means keep x.turn.request.message (cells_answered x.answers) x.command is.asked
      ∙ ap (λ (l : List Cell). let found : Result (List Cell × Command) ℕ = Ok (l, x.command) in found)
      (filter_mapped keep (λ (a : Cell × Answer). a.0) x.answers);
  replied = refl;
  foreign = λ k d within absent.
      let own : Cell = (get_or (kept_answers keep x.answers) k d).0 in
      All-filter (λ a. keep a.0) (IsForeign cells) x.answers is.foreign k d within
      (sym (contains_kept keep own (filter_passes (λ a. keep a.0) x.answers k d within) cells) ∙ absent);
}

-- and one that asks some: their session sends its share, and goes on
pub share_sent : (keep : Keep) (request : Request) (s t : Standing)
    → s.sent ≡ Some request → asks_some (kept_request keep request) ≡ true → IsShareOf keep s t
    → t ≡ standing_with t.replies (Some (kept_request keep request)) request.row
    (kept_requests keep s.due) (kept_orders keep s.left)
share_sent keep request s t sent some share =
    let due : kept_requests keep (pending s.sent s.due) ≡ kept_request keep request ∷ kept_requests keep s.due =
    ap (λ (r : Option Request). kept_requests keep (pending r s.due)) sent
    ∙ ap (λ (b : Bool). cond b (kept_request keep request ∷ kept_requests keep s.due)
    (kept_requests keep s.due)) some in
    share.stands ∙ ap (λ (l : List Request). advanced t.replies share.row (due_requests (version_in t.replies) l
    (kept_orders keep s.left))) due

-- after a reply to a request that asks some of these cells, their session has its share again
pub share_goes : (keep : Keep) (cells : List Cell) (x : Exchange) (s t : Standing) → IsExchange cells x
    → s.sent ≡ Some x.turn.request → asks_some (kept_request keep x.turn.request) ≡ true → IsShareOf keep s t
    → IsShareOf keep (after_reply (Some x.turn.reply) s) (after_reply (Some (kept_exchange keep x).turn.reply) t)
share_goes keep cells x s t is sent some share =
    let last : Replied = replied_with x.turn.request (said x.command x.answers) in
    let also : Replied =
    replied_with (kept_request keep x.turn.request) (said x.command (kept_answers keep x.answers)) in
    let agree : AgreeOn keep (version_in (last ∷ s.replies)) (version_in (also ∷ t.replies)) = λ number cell own.
    ap (λ (v : Option ℕ). version_after also.request also.outcome (cells_asked also.request.message) number cell v)
    (share.believed number cell own)
    ∙ kept_version keep x.turn.request x.command x.answers number cell (version_in s.replies number cell) own
    is.asked in
    let stands = share_sent keep x.turn.request s t sent some share in
    let after : after_reply (Some (kept_exchange keep x).turn.reply) t
    ≡ advanced (also ∷ t.replies) t.row (due_requests (version_in (also ∷ t.replies)) t.due t.left) =
    after_said (kept_exchange keep x) (filter keep cells) (is_kept_exchange keep cells x is) t
    (ap (λ (u : Standing). u.sent) stands) in
    let due : t.due ≡ kept_requests keep s.due = ap (λ (u : Standing). u.due) stands in
    let left : t.left ≡ kept_orders keep s.left = ap (λ (u : Standing). u.left) stands in
    let next : after_reply (Some (kept_exchange keep x).turn.reply) t
    ≡ advanced (also ∷ t.replies) t.row
    (due_requests (version_in (also ∷ t.replies)) (kept_requests keep s.due) (kept_orders keep s.left)) =
    after
    ∙ ap (λ (l : List Request). advanced (also ∷ t.replies) t.row
    (due_requests (version_in (also ∷ t.replies)) l t.left)) due
    ∙ ap (λ (l : List PagedOrder). advanced (also ∷ t.replies) t.row
    (due_requests (version_in (also ∷ t.replies)) (kept_requests keep s.due) l)) left in
    subst (λ (u : Standing). IsShareOf keep u (after_reply (Some (kept_exchange keep x).turn.reply) t))
    (sym (after_said x cells is s sent))
    (subst (IsShareOf keep (advanced (last ∷ s.replies) s.row
    (due_requests (version_in (last ∷ s.replies)) s.due s.left))) (sym next)
    (goes_on keep (last ∷ s.replies) (also ∷ t.replies) s.row t.row s.due s.left agree))

-- the turns of exchanges
abbrev pub turns_in : List Exchange → List Turn
turns_in exchanges = map (λ (x : Exchange). x.turn) exchanges

-- the session of these cells goes by the turns of these, to its end
pub record GoesToEnd (t : Standing) (turns : List Turn) : Type 0 where
  pub reached : Standing
  pub gone : GoesTo t turns reached
  pub over : reached.sent ≡ None

-- where the whole session is over, so is theirs
pub over_both : (keep : Keep) (s t : Standing) → IsShareOf keep s t → s.sent ≡ None → t.sent ≡ None
over_both keep s t share none =
    let ended = share.ended none in
    ap (λ (u : Standing). u.sent) (share.stands
    ∙ ap (λ (r : Option Request). advanced t.replies share.row (due_requests (version_in t.replies)
    (kept_requests keep (pending r s.due)) (kept_orders keep s.left))) none
    ∙ ap (λ (l : List Request). advanced t.replies share.row (due_requests (version_in t.replies)
    (kept_requests keep l) (kept_orders keep s.left))) ended.0
    ∙ ap (λ (l : List PagedOrder). advanced t.replies share.row (due_requests (version_in t.replies) []
    (kept_orders keep l))) ended.1)

-- the turns that ask these cells lead their session to its end
pub shared_turns : (keep : Keep) (cells : List Cell) (exchanges : List Exchange) (s t to : Standing)
    → IsShareOf keep s t → GoesTo s (turns_in exchanges) to → to.sent ≡ None → All (IsExchange cells) exchanges
    → GoesToEnd t (turns_in (kept_exchanges keep exchanges))
shared_turns keep cells [] s t to share goes over each = record {
  reached = t;
  gone = refl;
  over = over_both keep s t share (ap (λ (u : Standing). u.sent) (sym goes) ∙ over);
}
shared_turns keep cells (x ∷ exchanges) s t to share goes over each =
    let is = All-head (IsExchange cells) x exchanges each in
    let rest = All-tail (IsExchange cells) x exchanges each in
    let next : Standing = after_reply (Some x.turn.reply) s in
    elim (cases_Bool (asks_some (kept_request keep x.turn.request))) [
      | inl some ↦
          sends some (shared_turns keep cells exchanges next
          (after_reply (Some (kept_exchange keep x).turn.reply) t) to
          (share_goes keep cells x s t is goes.0 some share) goes.1 over rest)
      | inr none ↦
          stays none (shared_turns keep cells exchanges next t to
          (share_stays keep cells x s t is goes.0 none share) goes.1 over rest)
    ]
  where
    sends : asks_some (kept_request keep x.turn.request) ≡ true
        → GoesToEnd (after_reply (Some (kept_exchange keep x).turn.reply) t)
        (turns_in (kept_exchanges keep exchanges))
        → GoesToEnd t (turns_in (kept_exchanges keep (x ∷ exchanges)))
    sends some later = rw some record {
      reached = later.reached;
      gone = (ap (λ (u : Standing). u.sent) (share_sent keep x.turn.request s t goes.0 some share), later.gone);
      over = later.over;
    }

    stays : asks_some (kept_request keep x.turn.request) ≡ false
        → GoesToEnd t (turns_in (kept_exchanges keep exchanges))
        → GoesToEnd t (turns_in (kept_exchanges keep (x ∷ exchanges)))
    stays none later = rw none later

-- the orders of a book of some cells
pub joined_orders : (orders : List PagedOrder) → orders_with (map (λ o. o.0) orders) (map (λ o. o.1) orders) ≡ orders
joined_orders [] = refl
joined_orders (o ∷ orders) = ap (λ (l : List PagedOrder). o ∷ l) (joined_orders orders)

part_kept : (keep : Keep) (part parts : ℕ) (orders : List PagedOrder)
    → filter (is_of_part part parts) (kept_orders keep orders)
    ≡ kept_orders keep (filter (is_of_part part parts) orders)
part_kept keep part parts orders =
    filter_swap (is_of_part part parts) is_for_some (map (kept_paged keep) orders)
    ∙ ap (filter is_for_some) (filter_mapped (is_of_part part parts) (kept_paged keep) orders)

-- the orders of a part of these cells' book are those of the whole book's part, for these cells
pub restricted_orders : (keep : Keep) (book : Contents) (part parts : ℕ)
    → orders_from (restricted keep book) part parts 0 ≡ kept_orders keep (orders_from book part parts 0)
restricted_orders keep book part parts =
    ap (filter (is_of_part part parts)) (joined_orders (kept_orders keep (orders_with book.orders book.pages)))
    ∙ part_kept keep part parts (orders_with book.orders book.pages)

-- so the turns of the session of a part of the whole book, in these cells, are those of the part's session of their
-- book
pub begun_share : (keep : Keep) (book : Contents) (part parts : ℕ)
    → IsShareOf keep (begun book part parts) (begun (restricted keep book) part parts)
begun_share keep book part parts =
    subst (λ (left : List PagedOrder). IsShareOf keep (begun book part parts)
    (advanced [] 0 (due_requests (version_in []) [] left))) (sym (restricted_orders keep book part parts))
    (goes_on keep [] [] 0 0 [] (orders_from book part parts 0) (λ number cell own. refl))

-- the turns of a book's session that ask these cells are those of the session of their book
pub turns_kept : (keep : Keep) (cells : List Cell) (book : Contents) (part parts : ℕ) (exchanges : List Exchange)
    → All (IsExchange cells) exchanges → AreTurnsOf book part parts (turns_in exchanges)
    → AreTurnsOf (restricted keep book) part parts (turns_in (kept_exchanges keep exchanges))
turns_kept keep cells book part parts exchanges each are =
    let to = shared_turns keep cells exchanges (begun book part parts) (begun (restricted keep book) part parts)
    are.reached (begun_share keep book part parts) are.gone are.over each in record {
      reached = to.reached;
      gone = to.gone;
      over = to.over;
    }
