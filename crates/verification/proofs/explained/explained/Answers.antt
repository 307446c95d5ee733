use Rattle.std.proofs.Common.{◌≡◌, ◌∙◌, ℕ, IfOk, List, Option, Some, ap, find, map, subst, sym}
use Rattle.std.specs.Option.{option_copied, option_map, option_to_list}
use Rattle.verification.specs.declared.came.Came.{Came}
use Rattle.verification.specs.declared.judged.JudgedPage.{JudgedPage}
use Rattle.verification.specs.Asked.{AskedMessage}
use Rattle.verification.specs.Came.{came_asked}
use Rattle.verification.specs.Explained.{Explanation, explained_kind, explained_of, is_message_of, octets_sent}
use Rattle.verification.proofs.CameLaws.{found-pages, found-rising}
use Rattle.verification.proofs.explained.explained.Goals as goal

-- the message that is found has its pages, whose slots never fall
pub explained_kind-requires : goal.explained_kind-requires
explained_kind-requires c =
    found-rising c.args.blocks.now (λ (k : Came). is_message_of c.args.difference.now (came_asked k)) c.args.came.now
    c.in-Some.message.now (sym c.message_of.ensures.found ∙ ap option_copied c.in-Some.is) c.requires

pub returns-in-Some : goal.returns-in-Some
returns-in-Some c =
    let k : Came = c.in-Some.message.now in
    let a : AskedMessage = came_asked k in
    let found : find (is_message_of c.args.difference.now) (map came_asked c.args.came.now) ≡ Some a =
    sym c.message_of.ensures.asked
    ∙ ap (λ (o : Option Came). option_map came_asked o) (ap option_copied c.in-Some.is) in
    subst (λ (o : Option AskedMessage). IfOk c.explained_kind.result (λ (told : Option Explanation).
    option_to_list told ≡ explained_of c.args.slots o c.args.blocks.now c.args.difference.now)) (sym found)
    (subst (λ (pages : List JudgedPage). IfOk c.explained_kind.result (λ (told : Option Explanation).
    option_to_list told ≡ explained_kind c.args.slots a pages (octets_sent c.args.blocks.now c.args.difference.now)
    c.args.difference.now.kind))
    (found-pages c.args.blocks.now (λ (x : Came). is_message_of c.args.difference.now (came_asked x)) c.args.came.now k
    (sym c.message_of.ensures.found ∙ ap option_copied c.in-Some.is) c.requires)
    (subst (λ (page : Option (List ℕ)). IfOk c.explained_kind.result (λ (told : Option Explanation).
    option_to_list told ≡ explained_kind c.args.slots a k.pages.items page
    c.args.difference.now.kind)) c.octets_sent-page.ensures
    c.explained_kind.ensures))
