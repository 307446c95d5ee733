-- Pieces that came one after the other.
use Rattle.std.proofs.Common.{◌≡◌, ◌<◌, ◌+◌, ℕ, List, [], ◌∷◌, ◌++◌, ap, get_or, length, refl, subst, take, ◌∙◌}
use Rattle.std.proofs.Math.Numerals.{suc-eq-add-one}
use Rattle.std.proofs.Math.Seq.{take-suc}
use Rattle.order_desk.specs.Desk.{DeskState}
use Rattle.parallel_compile.specs.declared.board.Board.{Board}
use Rattle.parallel_compile.specs.declared.board.Numbered.{Numbered}
use Rattle.parallel_compile.specs.StreamSteps.{HasCome, HaveCome}

-- pieces came, and then others: all of them came
pub more_came : (desk : DeskState) (pieces more : List Numbered) (first before after : Board)
    → HaveCome desk pieces first before → HaveCome desk more before after → HaveCome desk (pieces ++ more) first after
more_came desk [] more first before after same came = subst (λ b. HaveCome desk more b after) same came
more_came desk (p ∷ rest) more first before after have came =
    (have.0, have.1, more_came desk rest more have.0 before after have.2 came)

-- pieces came, and then one more
pub one_more_came : (desk : DeskState) (pieces : List Numbered) (n : Numbered) (first before after : Board)
    → HaveCome desk pieces first before → HasCome desk n before after → HaveCome desk (pieces ++ n ∷ []) first after
one_more_came desk pieces n first before after have come =
    more_came desk pieces (n ∷ []) first before after have (after, come, refl)

-- the pieces up to and with one are those before it, and it
pub taken_one : (pieces : List Numbered) (place : ℕ) (n : Numbered) → place < length pieces → get_or pieces place n ≡ n
    → take (place + 1) pieces ≡ take place pieces ++ n ∷ []
taken_one pieces place n within is =
    subst (λ k. take k pieces ≡ take place pieces ++ n ∷ []) (suc-eq-add-one place)
    (take-suc pieces place n within ∙ ap (λ (x : Numbered). take place pieces ++ x ∷ []) is)
