-- The pages that are sent from a block on.
use Rattle.std.proofs.Common.{◌≡◌, ℕ, ◌+◌, ◌<◌, List, [], ◌∷◌, ◌++◌, length, drop, drop-cons, get_or, map, sym, ◌∙◌}
use Rattle.std.proofs.Common.{ap, arith, suc}
use Rattle.handset.specs.Reception.{page_in_front}
use Rattle.verification.specs.Sent.{sent_at, sent_from}

-- the page at a place, and those of the blocks after it
pub sent-next : (blocks : List (List ℕ)) (place : ℕ) → place < length blocks →
    sent_from place (drop place blocks)
    ≡ map (sent_at place) (page_in_front (drop place blocks))
    ++ sent_from (place + 1) (drop (place + 1) blocks)
sent-next blocks place within =
    let block : List ℕ = get_or blocks place [] in
    let more : suc place ≡ place + 1 = omega arith in
    let here : drop place blocks ≡ block ∷ drop (place + 1) blocks =
    drop-cons blocks place [] within ∙ ap (λ at. block ∷ drop at blocks) more in
    ap (sent_from place) here
    ∙ ap (λ front. map (sent_at place) (page_in_front front)
    ++ sent_from (place + 1) (drop (place + 1) blocks)) (sym here)
