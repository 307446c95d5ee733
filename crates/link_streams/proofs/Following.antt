-- Packets that are followed one by one.
use Rattle.std.proofs.Common.{◌≡◌, ℕ, ◌+◌, ◌<◌, ◌∙◌, List, [], ◌∷◌, ◌++◌, length, set, get_or, ap, inl, inr, refl}
use Rattle.std.proofs.Common.{subst, sym, Option, Some, None, Result, Ok, Err}
use Rattle.std.proofs.lemmas.List.{get_or_default, length_push}
use Rattle.gsmtap.specs.File.{Packet, link_numbered}
use Rattle.gsmtap.specs.Taken.{taken}
use Rattle.gsmtap.specs.Taker.{IsPacketFault}
use Rattle.gsmtap.specs.declared.fault.AirFault.{AirFault}
use Rattle.gsmtap.specs.declared.fault.AirFaultKind.TheVariants as kind
use Rattle.gsmtap.specs.declared.file.Link.{Link}
use Rattle.gsmtap.proofs.PacketSteps.{taken_next}
use Rattle.gsmtap.proofs.Walks.{comes_to}
use Rattle.link_streams.specs.Carrying.{segment_in}
use Rattle.link_streams.specs.Directions.{begun_by, with_segment}
use Rattle.link_streams.specs.Segment.{Segment}
use Rattle.link_streams.specs.Stream.{carried_of}
use Rattle.link_streams.specs.Streams.{AreMessagesIn, Followed, after_carrying, after_link, after_old, after_segment_at}
use Rattle.link_streams.specs.Streams.{follow, for_messages}
use Rattle.link_streams.specs.StreamsSteps.{HaveFollowed, HaveFollowedAll, IsUnfollowed, followed_by}
use Rattle.link_streams.specs.declared.direction.Direction.{Direction}
use Rattle.link_streams.specs.declared.message.LinkPacket.{LinkPacket}
use Rattle.link_streams.specs.declared.messages.Heading.{Heading}
use Rattle.link_streams.specs.declared.streams.LinkStreams.{LinkStreams}

-- A packet

-- of a link type that isn't known
pub not_linked : (known : Followed) (packet : Packet) → link_numbered packet.link ≡ None →
    follow known packet ≡ Err (kind.OtherLink packet.link)
unfolding follow
not_linked known packet none = ap (after_link known packet) none

-- of one that is known
pub follows : (known : Followed) (packet : Packet) (link : Link) (segment : Option Segment) →
    link_numbered packet.link ≡ Some link → segment_in link packet.octets ≡ segment →
    follow known packet ≡ Ok (after_carrying packet.time known segment)
unfolding follow
follows known packet link segment linked carries =
    ap (after_link known packet) linked ∙ ap (λ it. Ok (after_carrying packet.time known it)) carries

-- a segment of a direction that is known
pub segment_at : (packets place : ℕ) (heading : Heading) (segment : Segment) (directions : List Direction)
    (before after : List LinkPacket) (old new : Direction) → place < length directions →
    old ≡ get_or directions place old → carried_of new after ≡ with_segment heading segment old before →
    ◌≡◌ {A = Followed} (record { packets = packets; directions = set directions place new; messages = after })
    (after_segment_at heading (record { packets = packets; directions = directions; messages = before }) segment
    (Some place))
segment_at packets place heading segment directions before after old new inside here is =
    let known : Followed = record { packets = packets; directions = directions; messages = before } in
    ap (after_old known place) is
    ∙ ap (λ (it : Direction). after_old known place (with_segment heading segment it before))
    (here ∙ get_or_default directions place old (begun_by segment) inside)

-- Packets that a taker has

one_state : (known other : Followed) → ◌≡◌ {A = Result Followed AirFault} (Ok known) (Ok other) → known ≡ other
one_state known other is = cc

known_is : (packets : List Packet) (known : Followed) (before : ℕ) (streams : LinkStreams) →
    HaveFollowed packets streams → length packets ≡ before → taken for_messages packets ≡ Ok known →
    known ≡ followed_by before streams
known_is packets known before streams has many comes =
    one_state known (followed_by (length packets) streams) (sym comes ∙ has)
    ∙ ap (λ n. followed_by n streams) many

-- before the first packet
pub none_followed : (directions : List Direction) (messages : List LinkPacket) → directions ≡ [] → messages ≡ [] →
    taken for_messages [] ≡ Ok (record { packets = 0; directions = directions; messages = messages })
unfolding taken
none_followed directions messages no_directions no_messages =
    ap Ok
    (ap (λ (it : List Direction). let known : Followed =
    record { packets = 0; directions = it; messages = [] } in known)
    (sym no_directions)
    ∙ ap (λ (it : List LinkPacket). let known : Followed =
    record { packets = 0; directions = directions; messages = it } in known)
    (sym no_messages))

-- one packet more
pub has_next : (packets : List Packet) (packet : Packet) (known : Followed) (before : ℕ) (old new : LinkStreams) →
    HaveFollowed packets old → length packets ≡ before → taken for_messages packets ≡ Ok known →
    follow (followed_by before old) packet ≡ Ok (followed_by (before + 1) new) →
    (next : Followed) × (follow known packet ≡ Ok next) × HaveFollowed (packets ++ packet ∷ []) new
has_next packets packet known before old new has many comes is =
    let next : Followed = followed_by (before + 1) new in
    let step : follow known packet ≡ Ok next =
    ap (λ (it : Followed). follow it packet) (known_is packets known before old has many comes) ∙ is in
    let longer : length (packets ++ packet ∷ []) ≡ before + 1 = length_push packets packet ∙ ap (λ n. n + 1) many in (
      next,
      step,
      subst (λ n. taken for_messages (packets ++ packet ∷ []) ≡ Ok (followed_by n new)) (sym longer)
          (taken_next for_messages packets packet known next comes step),
    )

-- a packet that isn't followed
pub has_fault : (before : ℕ) (old : LinkStreams) (packet : Packet) (fault : AirFault) →
    IsUnfollowed before old packet fault →
    IsPacketFault {G = Unit {0}} (λ given. for_messages) (λ given. HaveFollowed) old before packet fault
has_fault before old packet fault (inl refused) = inl refused
has_fault before old packet fault (inr wrong) = inr (record {
  numbered = wrong.0;
  of_packet = wrong.2;
  comes = λ given packets known after.
      ap (λ (it : Followed). follow it packet) (known_is packets known before old after.has after.many after.comes)
      ∙ wrong.1;
})

-- all packets of a file
pub messages_in : (input : List ℕ) (streams : LinkStreams) → HaveFollowedAll input streams →
    AreMessagesIn input streams.messages.items
messages_in input streams all = record {
  known = followed_by (length all.packets) streams;
  file =
      comes_to for_messages HaveFollowed for_messages input streams (followed_by (length all.packets) streams) all
      all.has;
  all = refl;
}
