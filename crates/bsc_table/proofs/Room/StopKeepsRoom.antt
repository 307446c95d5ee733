-- Claims stay in order where a live message is stopped.
use Rattle.std.proofs.Common.{◌≡◌, ◌≢◌, ℕ, ◌≤◌, ◌<◌, true, Option, is_some, List, length, map, get_or, sym, ap, subst}
use Rattle.std.proofs.Common.{◌∙◌, arith}
use Rattle.std.specs.List.{All, AllPairs, Any}
use Rattle.std.proofs.lemmas.Bool.{false≢true}
use Rattle.std.proofs.lemmas.List.{get_or-map, length-map}
use Rattle.std.proofs.lemmas.List.Elements.{All-map}
use Rattle.bsc_table.specs.Claim.{Claim, IsWaiting, stop_claim, stop_claims}
use Rattle.bsc_table.specs.Record.{is_live}
use Rattle.bsc_table.specs.Room.{HandsOverTo, AreInOrder, StopKeepsRoom}
use Rattle.bsc_table.proofs.Room.StoppedClaims.{standing_of, waits_on, stop_claim-other, ClaimsFit-stop}

-- a relation between what a map gives
pub pairs_map : (R : Claim → Claim → Type 0) (f : Claim → Claim) (claims : List Claim)
    → ((i j : ℕ) (d : Claim) → i < j → j < length claims → R (f (get_or claims i d)) (f (get_or claims j d)))
    → AllPairs R (map f claims)
pairs_map R f claims each = λ i j d before within.
    let long = length-map claims f in
    let first = get_or-map f claims i d d (omega arith) in
    let second = get_or-map f claims j d d (omega arith) in
    let First : Claim → Type 0 = λ v. R v (get_or (map f claims) j d) in
    let Second : Claim → Type 0 = λ w. R (f (get_or claims i d)) w in
    subst First (sym first) (subst Second (sym second) (each i j d before (omega arith)))

-- one that hands over is stopped, so that it isn't live
pub not_live : (claims : List Claim) (entry now k : ℕ) (p w : Claim)
    → All (λ c. c.message.entry ≡ entry → is_live now c.message ≡ true) claims → k < length claims
    → get_or claims k p ≡ p → HandsOverTo p w → p.message.entry ≢ entry
not_live claims entry now k p w live within there over =
    λ same.
    let Named : Claim → Type 0 = λ c. c.message.entry ≡ entry → is_live now c.message ≡ true in
    let its = subst Named there (live k p within) same in
    let standing = standing_of now p.message its in
    false≢true (sym (ap (λ (o : Option ℕ). is_some o) standing) ∙ over.stopped)

handed_on : (claims : List Claim) (entry now : ℕ) (w : Claim)
    → All (λ c. c.message.entry ≡ entry → is_live now c.message ≡ true) claims → 0 < w.message.period
    → (IsWaiting now w → Any (λ p. HandsOverTo p w) claims) → IsWaiting now (stop_claim entry now w)
    → Any (λ p. HandsOverTo p (stop_claim entry now w)) (map (stop_claim entry now) claims)
handed_on claims entry now w live some handed waiting =
    let f = stop_claim entry now in
    let others = waits_on now entry w some waiting in
    let found = handed others.1 in
    let p : Claim = found.1 in
    let over : HandsOverTo p w = found.4 in
    let stays = stop_claim-other entry now p (not_live claims entry now found.0 p w live found.2 found.3 over) in
    let there : get_or (map f claims) found.0 p ≡ p = get_or-map f claims found.0 p p found.2 ∙ ap f found.3 ∙ stays in
    let Over : Claim → Type 0 = λ x. HandsOverTo p x in (
      found.0,
      p,
      omega (arith, found.2, length-map claims f),
      there,
      subst Over
          (sym (stop_claim-other entry now w others.0)) over,
    )

-- claims stay in order if a live message is stopped
pub in_order-stop : (claims : List Claim) (entry now : ℕ) → AreInOrder claims now
    → All (λ c. c.message.entry ≡ entry → is_live now c.message ≡ true) claims
    → AreInOrder (stop_claims entry now claims) now
in_order-stop claims entry now order live =
    let f = stop_claim entry now in
    record {
      rising = pairs_map (λ a b. a.message.entry < b.message.entry) f claims (λ i j d b w. order.rising i j d b w);
      accepted = All-map (λ (c : Claim). c.accepted ≤ now) f claims order.accepted;
      forward = All-map (λ (c : Claim). c.accepted ≤ c.message.start) f claims order.forward;
      periods = All-map (λ (c : Claim). 0 < c.message.period) f claims order.periods;
      handed = All-map (λ (w : Claim). IsWaiting now w → Any (λ p. HandsOverTo p w) (map f claims)) f claims
          (λ k d within. λ waiting. handed_on claims entry now (get_or claims k d) live (order.periods k d within)
          (order.handed k d within) waiting);
      alone = pairs_map (λ v w. IsWaiting now v → IsWaiting now w → v.behind ≢ w.behind) f claims
          (λ i j d b w. λ first second. order.alone i j d b w
          (waits_on now entry (get_or claims i d) (order.periods i d (omega arith)) first).1
          (waits_on now entry (get_or claims j d) (order.periods j d w) second).1);
    }

-- and they keep the room
pub stop_keeps_room : StopKeepsRoom
stop_keeps_room claims entry now order live fit =
    (in_order-stop claims entry now order live, ClaimsFit-stop claims entry now order.periods live fit)
