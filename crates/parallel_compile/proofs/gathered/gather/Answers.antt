use Rattle.std.proofs.Common.{◌∙◌, ℕ, List, Option, sym, ap, subst, length, None}
use Rattle.std.proofs.lemmas.List.{length-replicate}
use Rattle.order_desk.specs.SettleSteps.{IsLeastFailing}
use Rattle.parallel_compile.specs.Places.{ArePut}
use Rattle.parallel_compile.proofs.Gathering.{IsTaken, least_bad, gathered, if_ok}
use Rattle.parallel_compile.proofs.gathered.gather.Goals as goal

-- src/gathered.rt:19:1
pub returns-in-Some-clause-err : goal.returns-in-Some-clause-err
returns-in-Some-clause-err c =
    let long = ap length c.in_ok-places.ensures.ok ∙ length-replicate c.args.n None in
    let put = subst (λ n. ArePut n c.args.pieces.items c.put_all-spoilt.new.places.items c.put_all-spoilt.result) long
    c.put_all-spoilt.ensures in
    let free = subst (λ (l : List (Option (List ℕ))). IsLeastFailing (IsTaken l) c.first_free-missing.result)
    c.as_slice.ensures.value
    c.first_free-missing.ensures in
    least_bad c.args.n c.args.pieces.items c.put_all-spoilt.new.places.items c.put_all-spoilt.result
    c.first_free-missing.result c.in-Some.index put free (sym c.lesser.ensures ∙ c.in-Some.is)

-- src/gathered.rt:19:1
pub returns-in-None-clause-ok : goal.returns-in-None-clause-ok
returns-in-None-clause-ok c =
    let long = ap length c.in_ok-places.ensures.ok ∙ length-replicate c.args.n None in
    let put = subst (λ n. ArePut n c.args.pieces.items c.put_all-spoilt.new.places.items c.put_all-spoilt.result) long
    c.put_all-spoilt.ensures in
    let free = subst (λ (l : List (Option (List ℕ))). IsLeastFailing (IsTaken l) c.first_free-missing.result)
    c.as_slice.ensures.value
    c.first_free-missing.ensures in
    if_ok _ _ c.unwrap_all.result
    (λ tapes made. gathered c.args.n c.args.pieces.items c.put_all-spoilt.new.places.items c.put_all-spoilt.result
    c.first_free-missing.result tapes.items put free
    (sym c.lesser.ensures ∙ c.in-None.is) made) c.unwrap_all.ensures.ok
