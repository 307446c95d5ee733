-- The sessions of the book of some cells and of the book of the others are, together, one of the whole book.
use Rattle.std.proofs.Common.{◌≡◌, ℕ, zero, suc, ◌+◌, ◌≤◌, ◌<◌, Bool, true, false, cond, not, Option, Some, None}
use Rattle.std.proofs.Common.{Result, Ok, Err, List, [], ◌∷◌, length, get_or, filter, refl, ap, sym, subst, ◌∙◌}
use Rattle.std.proofs.Common.{inl, inr, arith}
use Rattle.std.specs.List.{All, list_any}
use Rattle.std.proofs.lemmas.Bool.{cases_Bool, or_parts}
use Rattle.std.proofs.lemmas.List.Elements.{All-cons, All-head, All-nil, All-tail}
use Rattle.cbsp_wire.specs.declared.message.Cell.{Cell}
use Rattle.cbsp_wire.specs.declared.message.Message.{Message}
use Rattle.cbsp_wire.specs.declared.message.Message.TheVariants as messages
use Rattle.cbsp_wire.specs.Range.{is_cell, is_nothing}
use Rattle.alert_book.specs.declared.session.request.Request.{Request}
use Rattle.alert_book.specs.Session.{Standing, after_reply}
use Rattle.reply_outcome.specs.Replies.{cells_asked}
use Rattle.bsc_table.specs.declared.command.Category.{Category}
use Rattle.bsc_table.specs.declared.command.Command.{Command}
use Rattle.bsc_table.specs.declared.command.Command.TheVariants as commands
use Rattle.bsc_table.specs.declared.entry.Answer.{Answer}
use Rattle.bsc_table.specs.Orders.{category_of, if_basic_channel, if_category_known, is_basic, order_of}
use Rattle.order_desk.specs.Reply.{cells_answered, reply_message}
use Rattle.book_runs.specs.CellParts.{asks_some, kept_answers, kept_exchange, kept_exchanges, kept_message}
use Rattle.alert_book.specs.Restricted.{Keep}
use Rattle.book_runs.specs.CellParts.{kept_request, leave, merged}
use Rattle.book_runs.specs.Run.{Exchange, IsExchange}
use Rattle.book_runs.proofs.Asking.{order_asks}
use Rattle.book_runs.proofs.Asks.{Asks, asks_after, asks_first, asks_later}
use Rattle.book_runs.proofs.KeptReplies.{kept_means}
use Rattle.book_runs.proofs.KeptRequests.{nothing}
use Rattle.book_runs.proofs.KeptSessions.{GoesToEnd, IsForeign, IsShareOf, over_both, share_goes, share_sent}
use Rattle.book_runs.proofs.KeptSessions.{share_stays}
use Rattle.book_runs.proofs.KeptSessions.{turns_in}
use Rattle.book_runs.proofs.Merged.{IsMerge, all_merged, is_merge}

-- what a message asks of some of its cells
asks_kept : (keep : Keep) (m : Message) → cells_asked (kept_message keep m) ≡ filter keep (cells_asked m)
asks_kept keep (messages.Write id new old named channel category period broadcasts dcs contents) = refl
asks_kept keep (messages.Kill id old named channel) = refl
asks_kept keep (messages.WriteDone a b c d e f) = refl
asks_kept keep (messages.WriteFailed a b c d e f g) = refl
asks_kept keep (messages.KillDone a b c d e) = refl
asks_kept keep (messages.KillFailed a b c d e f) = refl

-- a message means what it means to some of its cells
abbrev means_with : List Cell → Command → Result (List Cell × Command) ℕ
means_with cells command = Ok (cells, command)

channel_whole : (channel : Option ℕ) (some all cells : List Cell) (asks command : Command)
    → if_basic_channel channel some asks ≡ Ok (cells, command)
    → if_basic_channel channel all asks ≡ Ok (all, command)
channel_whole channel some all cells asks command is = by_channel (is_basic channel) is
  where
    by_channel : (test : Bool)
        → (let made : Result (List Cell × Command) ℕ = cond test (Ok (some, asks)) (Err 0x0C) in made)
        ≡ Ok (cells, command)
        → (let made : Result (List Cell × Command) ℕ = cond test (Ok (all, asks)) (Err 0x0C) in made)
        ≡ Ok (all, command)
    by_channel true is =
        let same : (let pair : List Cell × Command = (some, asks) in pair) ≡ (cells, command) = cc in
        ap (λ (pair : List Cell × Command). means_with all pair.1) same
    by_channel false is = absurd (cc)

category_whole : (category : Option Category) (asks : Category → Command) (channel : Option ℕ)
    (some all cells : List Cell) (command : Command)
    → if_category_known category (λ known. if_basic_channel channel some (asks known)) ≡ Ok (cells, command)
    → if_category_known category (λ known. if_basic_channel channel all (asks known)) ≡ Ok (all, command)
category_whole None asks channel some all cells command order = absurd (cc)
category_whole (Some known) asks channel some all cells command order =
    channel_whole channel some all cells (asks known) command order

whole_means : (keep : Keep) (m : Message) (cells : List Cell) (command : Command)
    → order_of (kept_message keep m) ≡ Ok (cells, command) → order_of m ≡ Ok (cells_asked m, command)
whole_means keep (messages.Write id new old named channel category period broadcasts dcs contents) cells command order =
    category_whole (category_of category) (λ known. commands.Write id new old known dcs period broadcasts contents)
    channel (filter keep named) named cells command order
whole_means keep (messages.Kill id old named channel) cells command order =
    channel_whole channel (filter keep named) named cells (commands.Kill id old) command order
whole_means keep (messages.WriteDone a b c d e f) cells command order = absurd (cc)
whole_means keep (messages.WriteFailed a b c d e f g) cells command order = absurd (cc)
whole_means keep (messages.KillDone a b c d e) cells command order = absurd (cc)
whole_means keep (messages.KillFailed a b c d e f) cells command order = absurd (cc)

-- a command that a message means
record Means (m : Message) : Type 0 where
  pub command : Command
  pub is : order_of m ≡ Ok (cells_asked m, command)

one_order : (order : Result (List Cell × Command) ℕ) (p q : List Cell × Command) → order ≡ Ok p → order ≡ Ok q → p ≡ q
one_order order p q one two = cc

one_command : (m : Message) (cells others : List Cell) (command other : Command) → order_of m ≡ Ok (cells, command)
    → order_of m ≡ Ok (others, other) → command ≡ other
one_command m cells others command other one two =
    ap (λ (p : List Cell × Command). p.1) (one_order (order_of m) (cells, command) (others, other) one two)

-- a turn of the whole session, by its parts
abbrev exchange_with : Request → Message → Command → List (Cell × Answer) → Exchange
exchange_with request reply command given =
    record { turn = record { request = request; reply = reply }; command = command; answers = given }

-- what comes of a turn of the whole session in a part's
record Next (keep : Keep) (s : Standing) (z : Exchange) (rest xs : List Exchange) : Type 0 where
  pub at : Standing
  pub share : IsShareOf keep (after_reply (Some z.turn.reply) s) at
  pub goes : GoesToEnd at (turns_in rest)
  pub kept : (later : List Exchange) → kept_exchanges keep later ≡ rest → kept_exchanges keep (z ∷ later) ≡ xs

-- what a part's session has answered of a request of the whole session
record Takes (keep : Keep) (cells : List Cell) (s : Standing) (request : Request) (xs : List Exchange) : Type 0 where
  pub given : List (Cell × Answer)
  pub named : cells_answered given ≡ filter keep (cells_asked request.message)
  pub foreign : All (IsForeign (filter keep cells)) given
  pub rest : List Exchange
  pub fewer : length rest ≤ length xs
  pub exchanged : All (IsExchange (filter keep cells)) rest
  pub next : (z : Exchange) → z.turn.request ≡ request → IsExchange cells z → kept_answers keep z.answers ≡ given
      → Next keep s z rest xs
  pub means : asks_some (kept_request keep request) ≡ true → Means request.message
  pub less : asks_some (kept_request keep request) ≡ true → length rest < length xs

-- none, where it isn't asked
takes_none : (keep : Keep) (cells : List Cell) (s t : Standing) (request : Request) (xs : List Exchange)
    → s.sent ≡ Some request → IsShareOf keep s t → GoesToEnd t (turns_in xs)
    → All (IsExchange (filter keep cells)) xs → asks_some (kept_request keep request) ≡ false
    → Takes keep cells s request xs
takes_none keep cells s t request xs sent share goes each none = record {
  given = [];
  named = sym (sym (asks_kept keep request.message) ∙ nothing (cells_asked (kept_message keep request.message)) none);
  foreign = All-nil (IsForeign (filter keep cells));
  rest = xs;
  fewer = omega arith;
  exchanged = each;
  next = λ z of is given.
      let left : asks_some (kept_request keep z.turn.request) ≡ false =
      ap (λ (r : Request). asks_some (kept_request keep r)) of ∙ none in record {
        at = t;
        share = share_stays keep cells z s t is (sent ∙ ap (λ (r : Request). let o : Option Request = Some r in o)
            (sym of)) left share;
        goes = goes;
        kept = λ later rest. rw left rest;
      };
  means = λ some. absurd (both (asks_some (kept_request keep request)) some none);
  less = λ some. absurd (both (asks_some (kept_request keep request)) some none);
}
  where
    both : (b : Bool) → b ≡ true → b ≡ false → ⊥
    both b one two = absurd (cc)

same_request : (sent : Option Request) (a b : Request) → sent ≡ Some a → sent ≡ Some b → a ≡ b
same_request sent a b one two = cc

none_sent : (sent : Option Request) (a : Request) → sent ≡ None → sent ≡ Some a → ⊥
none_sent sent a one two = absurd (cc)

-- its share, where it is
takes_some : (keep : Keep) (cells : List Cell) (s t : Standing) (request : Request) (xs : List Exchange)
    → s.sent ≡ Some request → IsShareOf keep s t → GoesToEnd t (turns_in xs)
    → All (IsExchange (filter keep cells)) xs → asks_some (kept_request keep request) ≡ true
    → Takes keep cells s request xs
takes_some keep cells s t request [] sent share goes each some =
    absurd (none_sent t.sent (kept_request keep request)
    (ap (λ (u : Standing). u.sent) (sym goes.gone) ∙ goes.over)
    (ap (λ (u : Standing). u.sent) (share_sent keep request s t sent some share)))
takes_some keep cells s t request (x ∷ xs) sent share goes each some =
    let asks : kept_request keep request ≡ x.turn.request =
    same_request t.sent (kept_request keep request) x.turn.request
    (ap (λ (u : Standing). u.sent) (share_sent keep request s t sent some share)) goes.gone.0 in
    let is = All-head (IsExchange (filter keep cells)) x xs each in
    let order : order_of (kept_message keep request.message) ≡ Ok (cells_answered x.answers, x.command) =
    ap (λ (r : Request). order_of r.message) asks ∙ is.asked in record {
      given = x.answers;
      named = order_asks (kept_message keep request.message) (cells_answered x.answers) x.command order
          ∙ asks_kept keep request.message;
      foreign = is.foreign;
      rest = xs;
      fewer = omega arith;
      exchanged = All-tail (IsExchange (filter keep cells)) x xs each;
      next = λ z of has given. onward asks is order z of has given;
      means = λ yes. record {
        command = x.command;
        is = whole_means keep request.message (cells_answered x.answers) x.command order;
      };
      less = λ yes. omega arith;
    }
  where
    onward : kept_request keep request ≡ x.turn.request → IsExchange (filter keep cells) x
        → order_of (kept_message keep request.message) ≡ Ok (cells_answered x.answers, x.command)
        → (z : Exchange) → z.turn.request ≡ request → IsExchange cells z → kept_answers keep z.answers ≡ x.answers
        → Next keep s z xs (x ∷ xs)
    onward asks is order z of has given =
        let own : asks_some (kept_request keep z.turn.request) ≡ true =
        ap (λ (r : Request). asks_some (kept_request keep r)) of ∙ some in
        let command : z.command ≡ x.command = one_command (kept_message keep request.message)
        (filter keep (cells_answered z.answers)) (cells_answered x.answers) z.command x.command
        (ap (λ (r : Request). order_of (kept_message keep r.message)) (sym of)
        ∙ kept_means keep z.turn.request.message (cells_answered z.answers) z.command has.asked) order in
        let same : kept_exchange keep z ≡ x =
        ap (λ (r : Request). exchange_with r (reply_message z.command (kept_answers keep z.answers)) z.command
        (kept_answers keep z.answers)) (ap (kept_request keep) of ∙ asks)
        ∙ ap (λ (k : Command). exchange_with x.turn.request (reply_message k (kept_answers keep z.answers)) k
        (kept_answers keep z.answers)) command
        ∙ ap (λ (l : List (Cell × Answer)). exchange_with x.turn.request (reply_message x.command l) x.command l) given
        ∙ ap (λ (m : Message). exchange_with x.turn.request m x.command x.answers) (sym is.replied) in record {
          at = after_reply (Some x.turn.reply) t;
          share = subst (λ (y : Exchange). IsShareOf keep (after_reply (Some z.turn.reply) s)
              (after_reply (Some y.turn.reply) t)) same
              (share_goes keep cells z s t has
              (sent ∙ ap (λ (r : Request). let o : Option Request = Some r in o) (sym of)) own share);
          goes = record { reached = goes.reached; gone = goes.gone.1; over = goes.over };
          kept = λ later rest. rw own (ap (λ (y : Exchange). y ∷ kept_exchanges keep later) same
              ∙ ap (λ (l : List Exchange). x ∷ l) rest);
        }

takes : (keep : Keep) (cells : List Cell) (s t : Standing) (request : Request) (xs : List Exchange)
    → s.sent ≡ Some request → IsShareOf keep s t → GoesToEnd t (turns_in xs)
    → All (IsExchange (filter keep cells)) xs → Takes keep cells s request xs
takes keep cells s t request xs sent share goes each =
    elim (cases_Bool (asks_some (kept_request keep request))) [
      | inl some ↦ takes_some keep cells s t request xs sent share goes each some
      | inr none ↦ takes_none keep cells s t request xs sent share goes each none
    ]

-- the turns of the whole session that have these shares
pub record Joined (keep : Keep) (cells : List Cell) (s : Standing) (xs ys : List Exchange) : Type 0 where
  pub all : List Exchange
  pub goes : GoesToEnd s (turns_in all)
  pub exchanged : All (IsExchange cells) all
  pub one : kept_exchanges keep all ≡ xs
  pub two : kept_exchanges (leave keep) all ≡ ys

-- the cells of a message are some of these, or some of the others
some_of_both : (keep : Keep) (cells : List Cell) → not (is_nothing cells) ≡ true
    → not (is_nothing (filter keep cells)) ≡ false → not (is_nothing (filter (leave keep) cells)) ≡ true
some_of_both keep [] some none = absurd (cc)
some_of_both keep (c ∷ cells) some none = by_keep (keep c) none
  where
    by_keep : (here : Bool) → not (is_nothing (cond here (c ∷ filter keep cells) (filter keep cells))) ≡ false
        → not (is_nothing (cond (not here) (c ∷ filter (leave keep) cells) (filter (leave keep) cells))) ≡ true
    by_keep true none = absurd (cc)
    by_keep false none = refl

one_of_both : (keep : Keep) (request : Request) → asks_some request ≡ true
    → asks_some (kept_request keep request) ≡ false → asks_some (kept_request (leave keep) request) ≡ true
one_of_both keep request some none =
    ap (λ (l : List Cell). not (is_nothing l)) (asks_kept (leave keep) request.message)
    ∙ some_of_both keep (cells_asked request.message) some
    (ap (λ (l : List Cell). not (is_nothing l)) (sym (asks_kept keep request.message)) ∙ none)

-- a cell that isn't of the run is none of these either
absent_kept : (keep : Keep) (cell : Cell) (cells : List Cell) → list_any (is_cell cell) cells ≡ false
    → list_any (is_cell cell) (filter keep cells) ≡ false
absent_kept keep cell [] absent = refl
absent_kept keep cell (c ∷ cells) absent =
    let parts = or_parts (is_cell cell c) (list_any (is_cell cell) cells) absent in
    by_keep (keep c) parts.0 (absent_kept keep cell cells parts.1)
  where
    by_keep : (here : Bool) → is_cell cell c ≡ false → list_any (is_cell cell) (filter keep cells) ≡ false
        → list_any (is_cell cell) (cond here (c ∷ filter keep cells) (filter keep cells)) ≡ false
    by_keep true first rest = rw (first, rest) refl
    by_keep false first rest = rest

foreign_whole : (keep : Keep) (cells : List Cell) (given : List (Cell × Answer))
    → All (IsForeign (filter keep cells)) given → All (IsForeign cells) given
foreign_whole keep cells given each = λ k d within absent.
    each k d within (absent_kept keep (get_or given k d).0 cells absent)

-- what is joined after fewer turns
abbrev JoinsFewer : Keep → List Cell → List Exchange → List Exchange → Type 0
JoinsFewer keep cells xs ys = (s t u : Standing) (l m : List Exchange) → length l + length m < length xs + length ys
    → IsShareOf keep s t → IsShareOf (leave keep) s u → GoesToEnd t (turns_in l) → GoesToEnd u (turns_in m)
    → All (IsExchange (filter keep cells)) l → All (IsExchange (filter (leave keep) cells)) m → Asks s
    → Joined keep cells s l m

-- one turn of the whole session
step : (keep : Keep) (cells : List Cell) (s : Standing) (request : Request) (xs ys : List Exchange)
    → s.sent ≡ Some request → Asks s → Takes keep cells s request xs → Takes (leave keep) cells s request ys
    → JoinsFewer keep cells xs ys → Joined keep cells s xs ys
step keep cells s request xs ys sent asks one two joins =
    let some : asks_some request ≡ true = asks_first s request sent asks in
    let merge : IsMerge (λ (a : Cell × Answer). a.0) keep (cells_asked request.message) one.given two.given =
    is_merge (λ (a : Cell × Answer). a.0) keep (cells_asked request.message) one.given two.given one.named two.named in
    let given : List (Cell × Answer) = merged keep (cells_asked request.message) one.given two.given in
    let means : Means request.message = elim (cases_Bool (asks_some (kept_request keep request))) [
      | inl mine ↦ one.means mine
      | inr none ↦ two.means (one_of_both keep request some none)
    ] in
    let less : length one.rest + length two.rest < length xs + length ys =
    elim (cases_Bool (asks_some (kept_request keep request))) [
      | inl mine ↦ omega (arith, one.less mine, two.fewer)
      | inr none ↦ omega (arith, two.less (one_of_both keep request some none), one.fewer)
    ] in
    let z : Exchange = exchange_with request (reply_message means.command given) means.command given in
    let is : IsExchange cells z = record {
      asked = means.is ∙ ap (λ (l : List Cell). means_with l means.command) (sym merge.all);
      replied = refl;
      foreign = all_merged (IsForeign cells) keep (cells_asked request.message) one.given two.given
          (foreign_whole keep cells one.given one.foreign)
          (foreign_whole (leave keep) cells two.given two.foreign);
    } in
    let mine : Next keep s z one.rest xs = one.next z refl is merge.one in
    let theirs : Next (leave keep) s z two.rest ys = two.next z refl is merge.two in
    let later = joins (after_reply (Some z.turn.reply) s) mine.at theirs.at one.rest two.rest less mine.share
    theirs.share mine.goes theirs.goes one.exchanged two.exchanged
    (asks_after (Some z.turn.reply) s (asks_later s request sent asks)) in record {
      all = z ∷ later.all;
      goes = record {
        reached = later.goes.reached;
        gone = (sent, later.goes.gone);
        over = later.goes.over;
      };
      exchanged = All-cons (IsExchange cells) z later.all is later.exchanged;
      one = mine.kept later.all later.one;
      two = theirs.kept later.all later.two;
    }

-- a session that is over has no turns
no_turns : (t : Standing) (xs : List Exchange) → t.sent ≡ None → GoesToEnd t (turns_in xs) → xs ≡ []
no_turns t [] none goes = refl
no_turns t (x ∷ xs) none goes = absurd (none_sent t.sent x.turn.request none goes.gone.0)

joined_end : (keep : Keep) (cells : List Cell) (s t u : Standing) (xs ys : List Exchange) → s.sent ≡ None
    → IsShareOf keep s t → IsShareOf (leave keep) s u → GoesToEnd t (turns_in xs) → GoesToEnd u (turns_in ys)
    → Joined keep cells s xs ys
joined_end keep cells s t u xs ys none one two goes also = record {
  all = [];
  goes = record { reached = s; gone = refl; over = none };
  exchanged = All-nil (IsExchange cells);
  one = sym (no_turns t xs (over_both keep s t one none) goes);
  two = sym (no_turns u ys (over_both (leave keep) s u two none) also);
}

by_sent : (keep : Keep) (cells : List Cell) (s t u : Standing) (xs ys : List Exchange) (sent : Option Request)
    → s.sent ≡ sent
    → IsShareOf keep s t → IsShareOf (leave keep) s u → GoesToEnd t (turns_in xs) → GoesToEnd u (turns_in ys)
    → All (IsExchange (filter keep cells)) xs → All (IsExchange (filter (leave keep) cells)) ys → Asks s
    → JoinsFewer keep cells xs ys → Joined keep cells s xs ys
by_sent keep cells s t u xs ys None sent one two goes also each other asks joins =
    joined_end keep cells s t u xs ys sent one two goes also
by_sent keep cells s t u xs ys (Some request) sent one two goes also each other asks joins =
    step keep cells s request xs ys sent asks (takes keep cells s t request xs sent one goes each)
    (takes (leave keep) cells s u request ys sent two also other) joins

-- so both sessions' turns are those of a whole one
pub joined : (n : ℕ) (keep : Keep) (cells : List Cell) (s t u : Standing) (xs ys : List Exchange)
    → length xs + length ys ≤ n
    → IsShareOf keep s t → IsShareOf (leave keep) s u → GoesToEnd t (turns_in xs) → GoesToEnd u (turns_in ys)
    → All (IsExchange (filter keep cells)) xs → All (IsExchange (filter (leave keep) cells)) ys → Asks s
    → Joined keep cells s xs ys
joined zero keep cells s t u xs ys few one two goes also each other asks =
    by_sent keep cells s t u xs ys s.sent refl one two goes also each other asks
    (λ s t u l m less. absurd (omega (arith, few, less)))
joined (suc n) keep cells s t u xs ys few one two goes also each other asks =
    by_sent keep cells s t u xs ys s.sent refl one two goes also each other asks
    (λ s t u l m less. joined n keep cells s t u l m (omega (arith, few, less)))
