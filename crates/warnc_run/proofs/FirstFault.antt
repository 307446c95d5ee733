-- The first thread that ended with a fault.
use Rattle.std.proofs.Common.{◌≡◌, ℕ, ◌+◌, ◌<◌, ◌∙◌, suc, List, [], ◌∷◌, ◌++◌, get_or, length, map, take, drop, All}
use Rattle.std.proofs.Common.{Result}
use Rattle.std.proofs.Common.{Err, IsOk, ap, subst, sym}
use Rattle.std.specs.Prelude.{⊤}
use Rattle.std.proofs.lemmas.List.{map-append, take-append-drop, take_more}
use Rattle.std.proofs.lemmas.List.Elements.{All-map, All-push}
use Rattle.std.proofs.Math.Seq.{drop-cons}
use Rattle.warnc_run.specs.declared.fault.RunFault.{RunFault}
use Rattle.warnc_run.specs.declared.sessions.UserEnd.{UserEnd}
use Rattle.warnc_run.specs.RunSteps.{IsFirstUserFault}

-- one more thread had none
pub none_more : (all : List UserEnd) (n : ℕ) (e : UserEnd)
    → n < length all
    → e ≡ get_or all n e
    → IsOk e.done
    → All (λ (x : UserEnd). IsOk x.done) (take n all)
    → All (λ (x : UserEnd). IsOk x.done) (take (n + 1) all)
none_more all n e within is fine none =
    subst (All (λ (x : UserEnd). IsOk x.done))
    (sym (take_more all n e within ∙ ap (λ (x : UserEnd). take n all ++ x ∷ []) (sym is)))
    (All-push (λ (x : UserEnd). IsOk x.done) (take n all) e none fine)

-- the next one has this
pub first_fault : (all : List UserEnd) (n : ℕ) (e : UserEnd) (fault : RunFault)
    → n < length all
    → e ≡ get_or all n e
    → e.done ≡ Err fault
    → All (λ (x : UserEnd). IsOk x.done) (take n all)
    → IsFirstUserFault (map (λ (x : UserEnd). x.done) all) fault
first_fault all n e fault within is ended none =
    let later = drop (suc n) all in
    let split : all ≡ take n all ++ e ∷ later =
    sym (take-append-drop n all) ∙ ap (λ (rest : List UserEnd). take n all ++ rest) (drop-cons all n e within
    ∙ ap (λ (x : UserEnd). x ∷ later) (sym is)) in
    record {
      before = map (λ (x : UserEnd). x.done) (take n all);
      after = map (λ (x : UserEnd). x.done) later;
      split = ap (map (λ (x : UserEnd). x.done)) split
          ∙ map-append (λ (x : UserEnd). x.done) (take n all) (e ∷ later)
          ∙ ap (λ (done : Result ⊤ RunFault). map (λ (x : UserEnd). x.done) (take n all)
          ++ done ∷ map (λ (x : UserEnd). x.done) later) ended;
      none = All-map IsOk (λ (x : UserEnd). x.done) (take n all) none;
    }
