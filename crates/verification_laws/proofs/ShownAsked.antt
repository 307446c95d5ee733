-- Of blocks without a difference a handset shows only messages that were asked, with their texts.
use Rattle.std.proofs.Common.{◌≡◌, ℕ, ◌<◌, ◌++◌, true, List, [], map, get_or, sym, ap, subst, ◌∙◌}
use Rattle.std.specs.Prelude.{◌&&◌, ◌==◌}
use Rattle.std.specs.List.{Contains}
use Rattle.std.proofs.lemmas.Bool.{and_parts, eqb-true}
use Rattle.std.proofs.lemmas.List.{get_or-map, length-map}
use Rattle.std.proofs.lemmas.List.Elements.{All-contains, All-from_recursion}
use Rattle.std.proofs.lemmas.List.Folds.{Any-from_list_any}
use Rattle.bsc_table.specs.Record.{Record}
use Rattle.handset.specs.Laws.{ShownAreTheComplete}
use Rattle.handset.specs.Reception.{Name, ShownMessage, is_complete, readable_pages, shown_in, shown_message}
use Rattle.handset.specs.Showing.{name_shown}
use Rattle.verification.specs.Asked.{AskedMessage, asked_of_log}
use Rattle.verification.specs.Difference.{again_differences, broadcast_differences, message_differences}
use Rattle.verification.specs.Difference.{page_differences}
use Rattle.verification.specs.Judged.{judged_in}
use Rattle.verification.specs.Sent.{sent_in}
use Rattle.verification_laws.specs.Shown.{AllShownAreAsked, message_asked}
use Rattle.verification_laws.proofs.NoOthers.{are-none, complete-asked, none-joined}
use Rattle.verification_laws.proofs.ReadPages.{name_asked, read-if, right-read, text-is}

-- a message of which nothing differs, and that is complete, is shown as it was asked
shown-as-asked : (r : Record) (blocks : List (List ℕ)) (a : AskedMessage) →
    message_differences r.slots a (judged_in a (sent_in blocks)) ≡ [] →
    is_complete (name_asked a) (readable_pages blocks) ≡ true →
    shown_message (name_asked a) (readable_pages blocks) ≡ message_asked a
shown-as-asked r blocks a none whole =
    let all = none-joined (page_differences a (judged_in a (sent_in blocks))
    ++ broadcast_differences r.slots a (judged_in a (sent_in blocks)))
    (again_differences r.slots a (judged_in a (sent_in blocks))) none in
    let pages = none-joined (page_differences a (judged_in a (sent_in blocks)))
    (broadcast_differences r.slots a (judged_in a (sent_in blocks))) all.0 in
    ap (λ (text : List ℕ). record { id = a.id; serial = a.serial; text = text })
    (text-is a (readable_pages blocks)
    (read-if a (readable_pages blocks) (right-read a blocks pages.0) whole))

Contains-map : {X Y : Type 0} (f : X → Y) (xs : List X) (x : X) (y : Y) → Contains xs x → f x ≡ y →
    Contains (map f xs) y
Contains-map f xs x y there is = (
  there.0,
  subst (λ n. there.0 < n) (sym (length-map xs f)) there.1,
  get_or-map f xs there.0 x y there.1 ∙ ap f there.2 ∙ is,
)

-- where nothing differs all that is shown was asked
pub shown-asked : ShownAreTheComplete → AllShownAreAsked
shown-asked complete r blocks are = λ k d within.
    let shown = complete blocks in
    let m : ShownMessage = get_or (shown_in blocks) k d in
    let name : Name = name_shown m in
    let none = are-none r blocks are in
    let whole : is_complete name (readable_pages blocks) ≡ true = shown.complete k d within in
    let found = Any-from_list_any (λ (a : AskedMessage). (name.id == a.id) && (name.serial == a.serial))
    (asked_of_log r.log) (complete-asked r blocks name none.others whole) in
    let a : AskedMessage = found.1 in
    let there : Contains (asked_of_log r.log) a = (found.0, found.2, found.3) in
    let parts = and_parts (name.id == a.id) (name.serial == a.serial) found.4 in
    let is : name ≡ name_asked a =
    ap (λ (n : ℕ). record { id = n; serial = name.serial }) (eqb-true name.id a.id parts.0)
    ∙ ap (λ (n : ℕ). record { id = a.id; serial = n }) (eqb-true name.serial a.serial parts.1) in
    let nothing : message_differences r.slots a (judged_in a (sent_in blocks)) ≡ [] =
    All-contains (λ (x : AskedMessage). message_differences r.slots x (judged_in x (sent_in blocks)) ≡ [])
    (asked_of_log r.log) a
    (All-from_recursion (λ (x : AskedMessage). message_differences r.slots x (judged_in x (sent_in blocks)) ≡ [])
    (asked_of_log r.log) none.messages) there in
    Contains-map message_asked (asked_of_log r.log) a m there
    (sym (shown.meant k d within
    ∙ ap (λ (n : Name). shown_message n (readable_pages blocks)) is
    ∙ shown-as-asked r blocks a nothing
    (subst (λ (n : Name). is_complete n (readable_pages blocks) ≡ true) is whole)))
