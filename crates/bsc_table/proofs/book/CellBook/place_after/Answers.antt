use Rattle.std.proofs.Common.{◌≡◌, ◌<◌, ℕ, Bool, Some, None, subst, sym, ap, ◌∙◌}
use Rattle.std.specs.List.{find}
use Rattle.std.specs.Option.{option_map}
use Rattle.bsc_table.specs.declared.accepted.AcceptedMessage.{AcceptedMessage}
use Rattle.bsc_table.specs.Record.{Record, Accepted, accepted_in, claim_of, place_after}
use Rattle.bsc_table.specs.Handover.{ahead_of, place_before}
use Rattle.bsc_table.specs.Accepted.{accepted_of}
use Rattle.bsc_table.specs.Book.{record_of}
use Rattle.bsc_table.specs.BookSteps.{stopped_end, place_found, left_by, IsLiveIn}
use Rattle.bsc_table.proofs.Cell.Places.{is_reserved_as, none_ahead, found_lasts, place_ahead, place_in_front}
use Rattle.bsc_table.proofs.History.Ranks.{in_front}
use Rattle.bsc_table.proofs.book.CellBook.place_after.Goals as goal

pub returns-in_err-ahead-clause-place : goal.returns-in_err-ahead-clause-place
returns-in_err-ahead-clause-place c =
    let r : Record = record_of c.self.inside in
    let old : Accepted = accepted_of c.args.old.now.message in
    let entry : ℕ = c.in_ok-entry.entry in
    let p : Accepted → Bool = is_reserved_as entry in
    let ahead : ahead_of r.clock (claim_of old) ≡ Some entry = sym c.ahead_at.ensures ∙ c.in_ok-entry.was in
    let table = ap (find p) c.self.invariant.kept in
    let found : find p (accepted_in r.log) ≡ None = sym table ∙ sym c.reserved.ensures
    ∙ ap (option_map accepted_of) c.in_err-ahead.was in
    let Over : Record → Type 0 = λ x. None ≡ place_after (left_by x old) x.clock old c.args.load in
    let front = in_front c.args.old.now.message.category (sym c.is_background.ensures ∙ c.if-is_background.false) in
    ap (option_map place_found) c.from_residual-in_err-ahead.ensures
    ∙ subst Over c.self.view_is (sym (place_in_front (left_by r old) r.clock c.args.load old front
    ∙ none_ahead r old entry c.args.load ahead found))

pub place_behind-requires : goal.place_behind-requires
place_behind-requires c =
    let r : Record = record_of c.self.inside in
    let entry : ℕ = c.in_ok-entry.entry in
    let p : Accepted → Bool = is_reserved_as entry in
    let table = ap (find p) c.self.invariant.kept in
    let found : find p (accepted_in r.log) ≡ Some (accepted_of c.in_ok-ahead.ahead) = sym table
    ∙ sym c.reserved.ensures ∙ ap (option_map accepted_of) c.in_ok-ahead.was in
    let lasts = found_lasts r entry (accepted_of c.in_ok-ahead.ahead) c.self.invariant.legal found in
    subst (λ (k : AcceptedMessage). 0 < k.period) (sym c.stopped_if-stopped.ensures) lasts

pub returns-clause-place : goal.returns-clause-place
returns-clause-place c =
    let r : Record = record_of c.self.inside in
    let old : Accepted = accepted_of c.args.old.now.message in
    let k : AcceptedMessage = c.in_ok-ahead.ahead in
    let entry : ℕ = c.in_ok-entry.entry in
    let p : Accepted → Bool = is_reserved_as entry in
    let ahead : ahead_of r.clock (claim_of old) ≡ Some entry = sym c.ahead_at.ensures ∙ c.in_ok-entry.was in
    let table = ap (find p) c.self.invariant.kept in
    let found : find p (accepted_in r.log) ≡ Some (accepted_of k) = sym table ∙ sym c.reserved.ensures
    ∙ ap (option_map accepted_of) c.in_ok-ahead.was in
    let live = subst (λ x. IsLiveIn x old) (sym c.self.view_is) c.requires in
    let Over : Record → Type 0 = λ x. option_map place_found c.place_behind.result ≡ place_after (left_by x old) x.clock
    old c.args.load in
    let front = in_front c.args.old.now.message.category (sym c.is_background.ensures ∙ c.if-is_background.false) in
    let same = ap (λ (s : AcceptedMessage). place_before r.clock c.args.load (claim_of (accepted_of s)) (stopped_end s))
    c.stopped_if-stopped.ensures in
    subst Over c.self.view_is (c.place_behind.ensures.place ∙ same
    ∙ place_ahead r old entry c.args.load k c.self.invariant.legal live front ahead found
    ∙ sym (place_in_front (left_by r old) r.clock c.args.load old front))
