-- Packets that are taken one by one for the link and the air.
use Rattle.std.proofs.Common.{◌≡◌, ℕ, ◌+◌, ◌*◌, ◌<◌, ◌≤◌, ◌^◌, ◌∙◌, List, [], ◌∷◌, ◌++◌, length, ap, arith, inl, inr}
use Rattle.std.proofs.Common.{refl, subst, sym, Result, Ok, Err, None}
use Rattle.std.proofs.lemmas.List.{length_push}
use Rattle.gsmtap.specs.File.{Packet}
use Rattle.gsmtap.specs.Taken.{ComesTo, taken}
use Rattle.gsmtap.specs.Taker.{IsAfter, IsPacketFault}
use Rattle.gsmtap.specs.TapeSteps.{IsPacketKind, last_slot}
use Rattle.gsmtap.specs.declared.fault.AirFault.{AirFault}
use Rattle.gsmtap.specs.declared.fault.AirFaultKind.{AirFaultKind}
use Rattle.gsmtap.specs.declared.fault.AirFaultKind.TheVariants as kind
use Rattle.gsmtap.specs.declared.tape.Sender.{Sender}
use Rattle.gsmtap.proofs.PacketSteps.{taken_next}
use Rattle.gsmtap.proofs.Walks.{comes_to}
use Rattle.link_streams.specs.Streams.{Followed, follow, for_messages}
use Rattle.link_streams.specs.StreamsSteps.{IsUnfollowed, followed_by}
use Rattle.link_streams.specs.declared.streams.LinkStreams.{LinkStreams}
use Rattle.link_orders.specs.Clock.{Clocked, clock_packet, not_clocked}
use Rattle.link_orders.specs.Overhearing.{Overhearing, for_overhearing, overhear, with_clock, with_link}
use Rattle.link_orders.specs.Orders.{AreNoOrders, AreNoOrdersIn, AreOrders, AreOrdersIn}
use Rattle.link_orders.specs.Steps.{HaveOverheard, HaveOverheardAll, IsUnclocked, begins_in, clocked_of, fault_of}
use Rattle.link_orders.specs.Steps.{link_messages_in, overheard_by}
use Rattle.link_orders.specs.declared.clock.SlotClock.{SlotClock}
use Rattle.link_orders.specs.declared.orders.LinkOrders.{LinkOrders}
use Rattle.link_orders.specs.declared.orders.OrdersFault.{OrdersFault}
use Rattle.link_orders.specs.declared.orders.OrdersWanted.{OrdersWanted}
use Rattle.link_orders.specs.declared.overheard.Overheard.{Overheard}

-- A packet

-- that is at fault for the link
pub link_is_wrong : (from : Sender) (known : Overhearing) (packet : Packet) (why : AirFaultKind) →
    follow known.followed packet ≡ Err why → overhear from known packet ≡ Err why
unfolding overhear
link_is_wrong from known packet why is = ap (with_link from known.clocked packet) is

-- that is none for the link
pub then_clock : (from : Sender) (known : Overhearing) (packet : Packet) (followed : Followed) →
    follow known.followed packet ≡ Ok followed →
    overhear from known packet ≡ with_clock followed (clock_packet from known.clocked packet)
unfolding overhear
then_clock from known packet followed is = ap (with_link from known.clocked packet) is

-- before the first
no_followed : (streams : LinkStreams) → taken for_messages [] ≡ Ok (followed_by 0 streams) →
    ◌≡◌ {A = Result Followed AirFault} (Ok for_messages.start) (Ok (followed_by 0 streams))
unfolding taken
no_followed streams is = is

one_followed : (a b : Followed) → ◌≡◌ {A = Result Followed AirFault} (Ok a) (Ok b) → a ≡ b
one_followed a b is = cc

first_comes : (from : Sender) (it : Overheard) → for_messages.start ≡ followed_by 0 it.streams →
    not_clocked ≡ clocked_of it.clock → taken (for_overhearing from) [] ≡ Ok (overheard_by 0 it)
unfolding taken
first_comes from it link air =
    ap Ok
    (ap (λ (one : Followed). let known : Overhearing = record { followed = one; clocked = not_clocked } in known) link
    ∙ ap (λ (one : Clocked). let known : Overhearing =
    record { followed = followed_by 0 it.streams; clocked = one } in known) air)

no_track : (clock : SlotClock) → clocked_of clock ≡ not_clocked → last_slot clock.track ≡ 0
no_track clock is = ap (λ (one : Clocked). last_slot one.track) is

-- so a new taker has no packet
pub none_overheard : (from : Sender) (it : Overheard) → it.from ≡ from →
    taken for_messages [] ≡ Ok (followed_by 0 it.streams) → clocked_of it.clock ≡ not_clocked →
    HaveOverheard from [] it
none_overheard from it from_is link air = record {
  from_is = from_is;
  comes =
      first_comes from it
      (one_followed for_messages.start (followed_by 0 it.streams) (no_followed it.streams link))
      (sym air);
  near = omega (arith, no_track it.clock air);
}

-- Packets that a taker has

one_state : (known other : Overhearing) → ◌≡◌ {A = Result Overhearing AirFault} (Ok known) (Ok other) → known ≡ other
one_state known other is = cc

known_is : (from : Sender) (packets : List Packet) (known : Overhearing) (before : ℕ) (it : Overheard) →
    IsAfter (for_overhearing from) (HaveOverheard from) packets known before it → known ≡ overheard_by before it
known_is from packets known before it after =
    one_state known (overheard_by (length packets) it) (sym after.comes ∙ after.has.comes)
    ∙ ap (λ n. overheard_by n it) after.many

-- a track on which another packet can be placed
pub near_enough : (from : Sender) (packets : List Packet) (known : Overhearing) (before : ℕ) (it : Overheard) →
    IsAfter (for_overhearing from) (HaveOverheard from) packets known before it → before < 2 ^ 45 →
    last_slot it.clock.track < 2 ^ 60
near_enough from packets known before it after few = omega (arith, after.has.near, after.many, few)

-- one packet more
step_more : (from : Sender) (packets : List Packet) (packet : Packet) (known : Overhearing) (before : ℕ)
    (old new : Overheard) → IsAfter (for_overhearing from) (HaveOverheard from) packets known before old →
    follow (followed_by before old.streams) packet ≡ Ok (followed_by (before + 1) new.streams) →
    clock_packet old.from (clocked_of old.clock) packet ≡ Ok (clocked_of new.clock) →
    overhear from known packet ≡ Ok (overheard_by (before + 1) new)
step_more from packets packet known before old new after link air =
    ap (λ (it : Overhearing). overhear from it packet) (known_is from packets known before old after)
    ∙ then_clock from (overheard_by before old) packet (followed_by (before + 1) new.streams) link
    ∙ ap (with_clock (followed_by (before + 1) new.streams))
    (ap (λ (it : Sender). clock_packet it (clocked_of old.clock) packet) (sym after.has.from_is) ∙ air)

-- which the taker has then
pub has_next : (from : Sender) (packets : List Packet) (packet : Packet) (known : Overhearing) (before : ℕ)
    (old new : Overheard) → IsAfter (for_overhearing from) (HaveOverheard from) packets known before old →
    new.from ≡ old.from → follow (followed_by before old.streams) packet ≡ Ok (followed_by (before + 1) new.streams) →
    clock_packet old.from (clocked_of old.clock) packet ≡ Ok (clocked_of new.clock) →
    last_slot new.clock.track ≤ last_slot old.clock.track + 3328 →
    (next : Overhearing) × (overhear from known packet ≡ Ok next) × HaveOverheard from (packets ++ packet ∷ []) new
has_next from packets packet known before old new after same link air bound =
    let next : Overhearing = overheard_by (before + 1) new in
    let step : overhear from known packet ≡ Ok next =
    step_more from packets packet known before old new after link air in
    let longer : length (packets ++ packet ∷ []) ≡ before + 1 =
    length_push packets packet ∙ ap (λ n. n + 1) after.many in (
      next,
      step,
      record {
        from_is = same ∙ after.has.from_is;
        comes =
            subst (λ n. taken (for_overhearing from) (packets ++ packet ∷ []) ≡ Ok (overheard_by n new)) (sym longer)
            (taken_next (for_overhearing from) packets packet known next after.comes step);
        near = omega (arith, bound, after.has.near, after.many, longer);
      },
    )

-- a packet that isn't taken for the link
pub has_link_fault : (before : ℕ) (old : Overheard) (packet : Packet) (fault : AirFault) →
    IsUnfollowed before old.streams packet fault →
    IsPacketFault for_overhearing HaveOverheard old before packet fault
has_link_fault before old packet fault (inl refused) = inl refused
has_link_fault before old packet fault (inr wrong) = inr (record {
  numbered = wrong.0;
  of_packet = wrong.2;
  comes = λ from packets known after.
      ap (λ (it : Overhearing). overhear from it packet) (known_is from packets known before old after)
      ∙ link_is_wrong from (overheard_by before old) packet fault.kind wrong.1;
})

-- nor for the air
named : (number : ℕ) (why : AirFaultKind) → IsPacketKind why →
    fault_of number why ≡ record { packet = number; kind = why }
named number kind.NoCapture is = refl
named number (kind.OtherLink link) is = refl
named number kind.Short is = refl
named number kind.WrongBlock is = refl
named number kind.Differs is = refl
named number kind.StepsBack is = refl
named number kind.NoBlock is = refl
named number kind.Refused is = absurd is

-- so it is at fault
pub has_air_fault : (before : ℕ) (old : Overheard) (packet : Packet) (followed : Followed) (why : AirFaultKind) →
    follow (followed_by before old.streams) packet ≡ Ok followed →
    IsUnclocked old.from (clocked_of old.clock) packet why →
    IsPacketFault for_overhearing HaveOverheard old before packet (fault_of (before + 1) why)
has_air_fault before old packet followed why link (inl refused) =
    subst (λ (it : AirFaultKind). IsPacketFault for_overhearing HaveOverheard old before packet
    (fault_of (before + 1) it)) (sym refused) (inl refl)
has_air_fault before old packet followed why link (inr (wrong, of_packet)) =
    subst (λ (it : AirFault). IsPacketFault for_overhearing HaveOverheard old before packet it)
    (sym (named (before + 1) why of_packet))
    (inr (record {
      numbered = refl;
      of_packet = of_packet;
      comes = λ from packets known after.
          ap (λ (it : Overhearing). overhear from it packet) (known_is from packets known before old after)
          ∙ then_clock from (overheard_by before old) packet followed link
          ∙ ap (with_clock followed)
          (ap (λ (it : Sender). clock_packet it (clocked_of old.clock) packet) (sym after.has.from_is) ∙ wrong);
    }))

-- all packets of a file
pub overheard_in : (from : Sender) (input : List ℕ) (it : Overheard) (all : HaveOverheardAll from input it) →
    ComesTo (for_overhearing from) input (overheard_by (length all.packets) it)
overheard_in from input it all =
    comes_to (for_overhearing from) (HaveOverheard from) (for_overhearing from) input it
    (overheard_by (length all.packets) it) all all.has.comes

-- whose messages and blocks come to orders
pub orders_in : (wanted : OrdersWanted) (input : List ℕ) (it : Overheard) (orders : LinkOrders) →
    HaveOverheardAll wanted.from input it → AreOrders wanted (link_messages_in it) (begins_in it) orders →
    AreOrdersIn wanted input orders
orders_in wanted input it orders all are = record {
  known = overheard_by (length all.packets) it;
  file = overheard_in wanted.from input it all;
  are = are;
}

-- or to none
pub no_orders_in : (wanted : OrdersWanted) (input : List ℕ) (it : Overheard) (fault : OrdersFault) →
    HaveOverheardAll wanted.from input it → AreNoOrders wanted (link_messages_in it) (begins_in it) fault →
    AreNoOrdersIn wanted input fault
no_orders_in wanted input it fault all are = record {
  known = overheard_by (length all.packets) it;
  file = overheard_in wanted.from input it all;
  are = are;
}
