use Rattle.std.proofs.Common.{◌≡◌, ◌∙◌, ap, map, sym, Bool, List, None, Some, true, false}
use Rattle.verification.specs.declared.sent.SentPage.{SentPage}
use Rattle.verification.specs.Asked.{AskedMessage}
use Rattle.verification.specs.Kept.{asked_kept}
use Rattle.verification.specs.Sent.{sent_in}
use Rattle.verification.specs.Shift.{are_shifted, likely_shift, shift_if, shift_in}
use Rattle.verification.proofs.ShiftLaws.{likely}
use Rattle.verification.proofs.shift.shift_of.Goals as goal

-- which shift is likely
pub returns-in_default : goal.returns-in_default
returns-in_default c =
    let asked : List AskedMessage = map asked_kept c.args.messages.now in
    let sent : List SentPage = sent_in c.args.blocks.now in
    let is : None ≡ likely_shift asked sent =
    sym c.in_default.is ∙ c.likely_shift.ensures ∙ likely sent c.args.came.now c.requires.pages
    ∙ ap (λ (messages : List AskedMessage). likely_shift messages sent) c.requires.same in
    ap (shift_in c.args.slots asked sent) is

pub returns-then-branch : goal.returns-then-branch
returns-then-branch c =
    let asked : List AskedMessage = map asked_kept c.args.messages.now in
    let sent : List SentPage = sent_in c.args.blocks.now in
    let is : Some c.in-Some.shift ≡ likely_shift asked sent =
    sym c.in-Some.is ∙ c.likely_shift.ensures ∙ likely sent c.args.came.now c.requires.pages
    ∙ ap (λ (messages : List AskedMessage). likely_shift messages sent) c.requires.same in
    let are : true ≡ are_shifted c.args.slots asked sent c.in-Some.shift =
    sym c.if-branch.true ∙ c.in_ok-are_shifted.ensures
    ∙ ap (λ (pages : List SentPage). are_shifted c.args.slots asked pages c.in-Some.shift)
    (c.deref.ensures.value ∙ c.in_ok-sent.ensures.pages) in
    ap (λ (b : Bool). shift_if b c.in-Some.shift) are ∙ ap (shift_in c.args.slots asked sent) is

pub returns : goal.returns
returns c =
    let asked : List AskedMessage = map asked_kept c.args.messages.now in
    let sent : List SentPage = sent_in c.args.blocks.now in
    let is : Some c.in-Some.shift ≡ likely_shift asked sent =
    sym c.in-Some.is ∙ c.likely_shift.ensures ∙ likely sent c.args.came.now c.requires.pages
    ∙ ap (λ (messages : List AskedMessage). likely_shift messages sent) c.requires.same in
    let are : false ≡ are_shifted c.args.slots asked sent c.in-Some.shift =
    sym c.if-branch.false ∙ c.in_ok-are_shifted.ensures
    ∙ ap (λ (pages : List SentPage). are_shifted c.args.slots asked pages c.in-Some.shift)
    (c.deref.ensures.value ∙ c.in_ok-sent.ensures.pages) in
    ap (λ (b : Bool). shift_if b c.in-Some.shift) are ∙ ap (shift_in c.args.slots asked sent) is
