use Rattle.std.proofs.Common.{◌≡◌, ◌+◌, ◌-◌, ◌∙◌, ◌++◌, ◌∷◌, [], ap, rules, sym}
use Rattle.link_streams.specs.Stream.{most_octets, octets_from}
use Rattle.link_streams.proofs.Octets.{octets_end, octets_full, octets_more}
use Rattle.link_streams.proofs.waiting.octets_from.Goals as goal

pub returns-in_default : goal.returns-in_default
returns-in_default c =
    octets_end (most_octets - c.loop.counter) c.args.waiting.now c.loop.here c.loop.octets.items
    (octets_from most_octets c.args.waiting.now c.args.place) (sym c.first_octet_at.ensures ∙ c.in_default.is)
    c.loop.invariant

pub loop-preserved : goal.loop-preserved
loop-preserved c =
    let pushed : c.push.new.self.items ≡ c.loop.octets.items ++ c.in-Some.octet ∷ [] = search rules in
    ap (λ octets. octets ++ octets_from (most_octets - (c.loop.counter + 1)) c.args.waiting.now
    c.sequence_after-here.result) pushed
    ∙ ap (λ here. (c.loop.octets.items ++ c.in-Some.octet ∷ [])
    ++ octets_from (most_octets - (c.loop.counter + 1)) c.args.waiting.now here) c.sequence_after-here.ensures
    ∙ octets_more most_octets c.loop.counter c.args.waiting.now c.loop.here c.in-Some.octet c.loop.octets.items
    (octets_from most_octets c.args.waiting.now c.args.place) c.loop-test.true
    (sym c.first_octet_at.ensures ∙ c.in-Some.is) c.loop.invariant

pub returns : goal.returns
returns c =
    octets_full most_octets c.loop.counter c.args.waiting.now c.loop.here c.loop.octets.items
    (octets_from most_octets c.args.waiting.now c.args.place) c.loop-test.false c.loop.invariant
