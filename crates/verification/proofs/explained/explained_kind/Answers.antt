use Rattle.std.proofs.Common.{◌≡◌, IfOk, List, Option, subst, sym}
use Rattle.std.specs.Option.{option_to_list}
use Rattle.verification.specs.declared.difference.Kind.{Kind}
use Rattle.verification.specs.declared.judged.JudgedPage.{JudgedPage}
use Rattle.verification.specs.Came.{came_asked}
use Rattle.verification.specs.Explained.{Explanation, explained_broadcasts, explained_kind}
use Rattle.verification.proofs.explained.explained_kind.Goals as goal

pub returns-in-NotWhole : goal.returns-in-NotWhole
returns-in-NotWhole c =
    subst (λ (kind : Kind). IfOk c.explained_broadcasts.result (λ (told : Option Explanation).
    option_to_list told ≡ explained_kind c.args.slots (came_asked c.args.message.now) c.args.message.now.pages.items
    c.args.page.now kind)) (sym c.in-NotWhole.is)
    (subst (λ (pages : List JudgedPage). IfOk c.explained_broadcasts.result (λ (told : Option Explanation).
    option_to_list told ≡ explained_broadcasts c.args.slots (came_asked c.args.message.now) pages
    c.in-NotWhole.broadcast))
    c.deref.ensures.value
    c.explained_broadcasts.ensures)
