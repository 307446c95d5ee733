-- Tapes as packets come.
use Rattle.std.proofs.Common.{◌≡◌, ℕ, ◌*◌, ◌<◌, ◌^◌, ◌∙◌, List, [], length, sym, ap, arith, subst, Result, Ok}
use Rattle.std.proofs.lemmas.List.{length-map}
use Rattle.gsmtap.specs.File.{Packet}
use Rattle.gsmtap.specs.Taken.{ComesTo, taken}
use Rattle.gsmtap.specs.Taker.{HasTakenAll}
use Rattle.gsmtap.specs.TapeSteps.{known_of}
use Rattle.gsmtap.specs.TapesOfCapture.{after_each, for_tapes, none_known}
use Rattle.gsmtap.specs.TapesSteps.{AreLong, AreNear, known_of_each}
use Rattle.gsmtap.specs.TapesTaken.{HaveTaken}
use Rattle.gsmtap.specs.Track.{Known}
use Rattle.gsmtap.specs.declared.fault.AirFault.{AirFault}
use Rattle.gsmtap.specs.declared.fault.AirFaultKind.{AirFaultKind}
use Rattle.gsmtap.specs.declared.tape.Wanted.{Wanted}
use Rattle.gsmtap.specs.declared.tapes.Tapes.{Tapes}
use Rattle.gsmtap.specs.declared.track.Air.{Air}
use Rattle.gsmtap.proofs.TapesLaws.{long_many, long_packets, near_below, near_packets}
use Rattle.gsmtap.proofs.Walks.{comes_to}

-- before the first packet
pub new_tapes : (wanted given : List Wanted) (tapes : Tapes) → tapes.wanted.items ≡ wanted → given ≡ wanted →
    known_of_each tapes.airs.items ≡ none_known given → HaveTaken wanted [] tapes
unfolding taken
new_tapes wanted given tapes wanted_are same none = record {
  wanted_are = wanted_are;
  comes = ap Ok (sym (none ∙ ap none_known same));
}

-- packets that can be counted leave no tape far ahead
pub near_tapes : (wanted : List Wanted) (packets : List Packet) (tapes : Tapes) (number : ℕ) →
    HaveTaken wanted packets tapes → length packets ≡ number → number < 2 ^ 45 →
    AreNear (2 ^ 59) (known_of_each tapes.airs.items)
near_tapes wanted packets tapes number have many few =
    near_below (known_of_each tapes.airs.items) (3328 * length packets) (2 ^ 59) (omega (arith, many, few))
    (near_packets wanted packets (known_of_each tapes.airs.items) have.comes)

-- there are as many tapes as are wanted
pub many_tapes : (wanted : List Wanted) (packets : List Packet) (tapes : Tapes) → HaveTaken wanted packets tapes →
    length tapes.airs.items ≡ length wanted
many_tapes wanted packets tapes have =
    sym (length-map tapes.airs.items known_of)
    ∙ long_many wanted (known_of_each tapes.airs.items)
    (long_packets wanted packets (known_of_each tapes.airs.items) have.comes)

one_state : (known other : List Known) → ◌≡◌ {A = Result (List Known) AirFault} (Ok known) (Ok other) → known ≡ other
one_state known other is = cc

-- what a packet more comes to for tapes, it comes to for those that are wanted
pub step_is : (wanted same : List Wanted) (packets : List Packet) (packet : Packet) (known : List Known) (tapes : Tapes)
    (result : Result (List Known) AirFaultKind) → same ≡ tapes.wanted.items → HaveTaken wanted packets tapes →
    taken (for_tapes wanted) packets ≡ Ok known → after_each same (known_of_each tapes.airs.items) packet ≡ result →
    after_each wanted known packet ≡ result
step_is wanted same packets packet known tapes result same_is have comes is =
    ap (λ (it : List Known). after_each wanted it packet)
    (one_state known (known_of_each tapes.airs.items) (sym comes ∙ have.comes))
    ∙ ap (λ (it : List Wanted). after_each it (known_of_each tapes.airs.items) packet)
    (sym (same_is ∙ have.wanted_are))
    ∙ is

-- a file of which tapes have all packets comes to what is known of them
pub tapes_come : (wanted : List Wanted) (input : List ℕ) (tapes : Tapes) →
    HasTakenAll (for_tapes wanted) (HaveTaken wanted) input tapes →
    ComesTo (for_tapes wanted) input (known_of_each tapes.airs.items)
tapes_come wanted input tapes all =
    comes_to (for_tapes wanted) (HaveTaken wanted) (for_tapes wanted) input tapes (known_of_each tapes.airs.items) all
    all.has.comes

-- each tape has four places for each of its slots
pub long_tapes : (given wanted : List Wanted) (packets : List Packet) (airs : List Air) (tapes : Tapes) →
    given ≡ tapes.wanted.items → airs ≡ tapes.airs.items → HaveTaken wanted packets tapes →
    AreLong given (known_of_each airs)
long_tapes given wanted packets airs tapes same here have =
    subst (λ (it : List Wanted). AreLong it (known_of_each airs)) (sym (same ∙ have.wanted_are))
    (subst (λ (it : List Air). AreLong wanted (known_of_each it)) (sym here)
    (long_packets wanted packets (known_of_each tapes.airs.items) have.comes))

-- what is made of tapes is made of those that are wanted
pub made_for : (IsSo : List Wanted → List ℕ → Type 0) (given wanted : List Wanted) (airs : List Air) (tapes : Tapes)
    (input : List ℕ) → given ≡ tapes.wanted.items → airs ≡ tapes.airs.items →
    ((it : List ℕ) → ComesTo (for_tapes given) it (known_of_each airs) → IsSo given it) →
    HasTakenAll (for_tapes wanted) (HaveTaken wanted) input tapes → IsSo wanted input
made_for IsSo given wanted airs tapes input same here made all =
    let wanted_is : given ≡ wanted = same ∙ all.has.wanted_are in
    subst (λ (it : List Wanted). IsSo it input) wanted_is
    (made input
    (subst (λ (it : List Wanted). ComesTo (for_tapes it) input (known_of_each airs)) (sym wanted_is)
    (subst (λ (it : List Air). ComesTo (for_tapes wanted) input (known_of_each it)) (sym here)
    (tapes_come wanted input tapes all))))
