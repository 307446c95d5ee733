-- What one more entry of a log does to the accepted messages.
use Rattle.std.proofs.Common.{◌≡◌, ℕ, ◌+◌, List, [], ◌∷◌, ◌++◌, length, ap, ◌∙◌, arith}
use Rattle.bsc_table.specs.declared.entry.Entry.{Entry}
use Rattle.bsc_table.specs.Record.{Accepted, accepted_after, accepted_from, accepted_in}

accepted_from-push : (all : List Accepted) (place : ℕ) (log : List Entry) (e : Entry)
    → accepted_from all place (log ++ e ∷ []) ≡ accepted_after (accepted_from all place log) (place + length log) e
accepted_from-push all place [] e =
    let same : place ≡ place + 0 = omega arith in
    ap (λ (n : ℕ). accepted_after all n e) same
accepted_from-push all place (x ∷ log) e =
    let same : place + 1 + length log ≡ place + length (x ∷ log) = omega arith in
    accepted_from-push (accepted_after all place x) (place + 1) log e
    ∙ ap (λ (n : ℕ). accepted_after (accepted_from (accepted_after all place x) (place + 1) log) n e) same

-- the messages of a log that is one entry longer: those before it, stopped where the entry stops them, and the one that
-- it accepts, if it does
pub accepted_in-push : (log : List Entry) (e : Entry) → accepted_in (log ++ e ∷ []) ≡ accepted_after (accepted_in log)
    (length log) e
accepted_in-push log e =
    let same : 0 + length log ≡ length log = omega arith in
    accepted_from-push [] 0 log e ∙ ap (λ (n : ℕ). accepted_after (accepted_in log) n e) same
