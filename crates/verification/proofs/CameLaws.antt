-- Messages with their pages.
use Rattle.std.proofs.Common.{◌≡◌, ◌≤◌, ℕ, Bool, true, false, cond, Option, Some, List, [], ◌∷◌, find, sym}
use Rattle.std.proofs.Common.{subst}
use Rattle.std.specs.List.{AllByRecursion, AllPairs}
use Rattle.std.proofs.lemmas.List.Elements.{recursion_from_All}
use Rattle.verification.specs.declared.came.Came.{Came}
use Rattle.verification.specs.declared.judged.JudgedPage.{JudgedPage}
use Rattle.verification.specs.Came.{HasPages, AllHavePages, came_asked}
use Rattle.verification.specs.Sent.{sent_in}
use Rattle.verification.proofs.TimeLaws.{judged-rising, sent-rising}

-- what is found has what all have
found-here : {X : Type 0} (P : X → Type 0) (here : Bool) (y x : X) (later : Option X) →
    cond here (Some y) later ≡ Some x → P y → (later ≡ Some x → P x) → P x
found-here P true y x later is of_y rest = let same : y ≡ x = cc in subst P same of_y
found-here P false y x later is of_y rest = rest is

found-of : {X : Type 0} (P : X → Type 0) (test : X → Bool) (xs : List X) (x : X) → find test xs ≡ Some x →
    AllByRecursion P xs → P x
found-of P test [] x is all = cc
found-of P test (y ∷ xs) x is all =
    found-here P (test y) y x (find test xs) is all.0 (λ later. found-of P test xs x later all.1)

-- so a message that is found has its pages
pub found-pages : (blocks : List (List ℕ)) (test : Came → Bool) (came : List Came) (k : Came) →
    find test came ≡ Some k → AllHavePages (sent_in blocks) came → HasPages (sent_in blocks) k
found-pages blocks test came k is all =
    found-of (HasPages (sent_in blocks)) test came k is
    (recursion_from_All (HasPages (sent_in blocks)) came all)

-- and their slots never fall
pub found-rising : (blocks : List (List ℕ)) (test : Came → Bool) (came : List Came) (k : Came) →
    find test came ≡ Some k → AllHavePages (sent_in blocks) came → AllPairs (λ a b. a.slot ≤ b.slot) k.pages.items
found-rising blocks test came k is all =
    subst (AllPairs (λ (a b : JudgedPage). a.slot ≤ b.slot)) (sym (found-pages blocks test came k is all))
    (judged-rising (came_asked k) (sent_in blocks) (sent-rising 0 blocks))
