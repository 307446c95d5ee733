-- The stream of a direction is what came first, up to the first gap.
use Rattle.std.proofs.Common.{◌≡◌, ℕ, ◌+◌, ◌-◌, ◌<◌, ◌≤◌, ◌∙◌, Bool, true, false, cond, List, [], ◌∷◌, ◌++◌, ap}
use Rattle.std.proofs.Common.{refl, sym, subst, arith, inl, inr, length, append-nil, append_assoc, length-append}
use Rattle.std.specs.Prelude.{◌||◌, nat_lt}
use Rattle.std.specs.List.{AllByRecursion, filter, flat_map}
use Rattle.std.proofs.lemmas.Bool.{cases_Bool, cases_lt, lt-ltb}
use Rattle.std.proofs.lemmas.List.Concat.{flat_map-append}
use Rattle.std.proofs.lemmas.List.Elements.{filter-append}
use Rattle.link_streams.specs.Directions.{begun_by, first_place}
use Rattle.link_streams.specs.Laws.{Came, IsNear, StreamIsWhatCameFirst, after_all, parts_of, stream_of}
use Rattle.link_streams.specs.Stream.{Carried, Cut, carried_of, cut_of, distance, is_message, is_new_part, is_past}
use Rattle.link_streams.specs.Stream.{joined, message_in, most_octets, octets_from, sequence_after, with_data}
use Rattle.link_streams.specs.Stream.{with_octet, with_octets}
use Rattle.link_streams.specs.declared.direction.Direction.{Direction}
use Rattle.link_streams.specs.declared.message.LinkPacket.{LinkPacket}
use Rattle.link_streams.specs.declared.messages.Heading.{Heading}
use Rattle.link_streams.specs.declared.waiting.Waiting.{Waiting}
use Rattle.link_streams.proofs.Joining.{enough, few_octets, few_waiting, from_gap, near_both, same_from, waiting_later}
use Rattle.link_streams.proofs.Joining.{with_waiting, without}
use Rattle.link_streams.proofs.Octets.{none_there}
use Rattle.link_streams.proofs.Places.{at, at_later, end_of, not_past, past}

-- Messages have all octets

octets_of_cut : Cut → List ℕ
octets_of_cut cut = flat_map (λ (message : LinkPacket). message.octets) cut.messages ++ cut.begun

one_octet : (heading : Heading) (cut : Cut) (octet : ℕ) →
    octets_of_cut (with_octet heading cut octet) ≡ octets_of_cut cut ++ octet ∷ []
unfolding octets_of_cut
one_octet heading cut octet =
    let octets : LinkPacket → List ℕ = λ message. message.octets in
    let longer : List ℕ = cut.begun ++ octet ∷ [] in
    elim (cases_Bool (is_message longer)) [
      | inl is ↦
          rw is
          (append-nil (flat_map octets (cut.messages ++ message_in heading longer ∷ []))
          ∙ flat_map-append octets cut.messages (message_in heading longer ∷ [])
          ∙ ap (λ it. flat_map octets cut.messages ++ it) (append-nil longer)
          ∙ sym (append_assoc (flat_map octets cut.messages) cut.begun (octet ∷ [])))
      | inr isnt ↦ rw isnt (sym (append_assoc (flat_map octets cut.messages) cut.begun (octet ∷ [])))
    ]

all_octets : (heading : Heading) (cut : Cut) (octets : List ℕ) →
    octets_of_cut (with_octets heading cut octets) ≡ octets_of_cut cut ++ octets
all_octets heading cut [] = sym (append-nil (octets_of_cut cut))
all_octets heading cut (octet ∷ rest) =
    all_octets heading (with_octet heading cut octet) rest
    ∙ ap (λ it. it ++ rest) (one_octet heading cut octet)
    ∙ append_assoc (octets_of_cut cut) (octet ∷ []) rest

-- A direction after some parts

-- after these parts, the stream has these octets, so many
record IsAt (first : ℕ) (parts : List Waiting) (offset : ℕ) (stream : List ℕ) (known : Carried) : Type 0 where
  next : known.direction.next ≡ at first offset
  waiting : known.direction.waiting ≡ filter (is_past (at first offset)) parts
  stream_is : stream_of known ≡ stream
  octets : octets_from most_octets parts (at first 0) ≡ stream
  many : length stream ≡ offset

-- it goes on with one part more, which is kept
goes_on : (first : ℕ) (parts : List Waiting) (part : Waiting) (offset : ℕ) (stream : List ℕ) → first < 4294967296 →
    AllByRecursion (IsNear first) parts → IsNear first part → octets_from most_octets parts (at first 0) ≡ stream →
    length stream ≡ offset →
    octets_from most_octets (parts ++ part ∷ []) (at first 0)
    ≡ stream ++ octets_from most_octets (filter (is_past (at first offset)) parts ++ part ∷ []) (at first offset)
goes_on first parts part offset stream f near one is many =
    let all : List Waiting = parts ++ part ∷ [] in
    let few : length (octets_from most_octets parts (at first 0)) ≤ 33554432 =
    few_octets most_octets parts (at first 0) in
    let within : offset ≤ 33554432 = omega (arith, ap length is, many, few) in
    let none_before : 0 + offset ≡ offset = omega arith in
    let waits : octets_from most_octets (filter (is_past (at first offset)) parts ++ part ∷ []) (at first offset)
    ≡ octets_from most_octets all (at first offset) =
    same_from first most_octets offset (filter (is_past (at first offset)) parts ++ part ∷ []) all
    (λ far after less. with_waiting first offset far parts part f near after less) (omega (arith, within)) in
    let fuel : octets_from (33554432 - offset) all (at first offset) ≡ octets_from most_octets all (at first offset) =
    enough first (33554432 - offset) most_octets offset all f (near_both first parts (part ∷ []) near (one, tt))
    (omega (arith, within)) (omega arith) (omega (arith, within)) in
    from_gap first most_octets 0 parts (part ∷ [])
    ∙ ap (λ it. it ++ octets_from (33554432 - length it) all (at first (0 + length it))) is
    ∙ ap (λ n. stream ++ octets_from (33554432 - n) all (at first (0 + n))) many
    ∙ ap (λ n. stream ++ octets_from (33554432 - offset) all (at first n)) none_before
    ∙ ap (λ it. stream ++ it) (fuel ∙ sym waits)

-- it stays where it is with a part more that ends before it
stays : (first : ℕ) (parts : List Waiting) (part : Waiting) (offset : ℕ) (stream : List ℕ) → first < 4294967296 →
    IsNear first part → octets_from most_octets parts (at first 0) ≡ stream → length stream ≡ offset →
    end_of first part ≤ offset → octets_from most_octets (parts ++ part ∷ []) (at first 0) ≡ stream
stays first parts part offset stream f one is many back =
    let all : List Waiting = parts ++ part ∷ [] in
    let few : length (octets_from most_octets parts (at first 0)) ≤ 33554432 =
    few_octets most_octets parts (at first 0) in
    let within : offset ≤ 33554432 = omega (arith, ap length is, many, few) in
    let none_before : 0 + offset ≡ offset = omega arith in
    let same : octets_from (33554432 - offset) all (at first offset)
    ≡ octets_from (33554432 - offset) parts (at first offset) =
    same_from first (33554432 - offset) offset all parts
    (λ far after less. without first far parts part f one (omega (arith, back, after)) less) (omega (arith, within)) in
    from_gap first most_octets 0 parts (part ∷ [])
    ∙ ap (λ it. it ++ octets_from (33554432 - length it) all (at first (0 + length it))) is
    ∙ ap (λ n. stream ++ octets_from (33554432 - n) all (at first (0 + n))) many
    ∙ ap (λ n. stream ++ octets_from (33554432 - offset) all (at first n)) none_before
    ∙ ap (λ it. stream ++ it) same
    ∙ sym
    (ap (λ it. octets_from most_octets it (at first 0)) (sym (append-nil parts))
    ∙ from_gap first most_octets 0 parts []
    ∙ ap (λ it. it ++ octets_from (33554432 - length it) (parts ++ []) (at first (0 + length it))) is
    ∙ ap (λ n. stream ++ octets_from (33554432 - n) (parts ++ []) (at first (0 + n))) many
    ∙ ap (λ n. stream ++ octets_from (33554432 - offset) (parts ++ []) (at first n)) none_before
    ∙ ap (λ it. stream ++ octets_from (33554432 - offset) it (at first offset)) (append-nil parts))
    ∙ is

-- so many parts may wait
has_room : (direction : Direction) (offset first : ℕ) (parts : List Waiting) →
    direction.waiting ≡ filter (is_past (at first offset)) parts → length parts < 256 →
    nat_lt (length direction.waiting) 256 ≡ true
has_room direction offset first parts is few =
    lt-ltb (length direction.waiting) 256
    (omega (arith, ap length is, few_waiting (is_past (at first offset)) parts, few))

any_or : (a b : Bool) → b ≡ true → (a || b) ≡ true
any_or true b is = refl
any_or false b is = is

kept : (direction : Direction) (part : Waiting) → 0 < length part.octets → is_past direction.next part ≡ true →
    nat_lt (length direction.waiting) 256 ≡ true → is_new_part direction part ≡ true
kept direction part some ahead room =
    rw (lt-ltb 0 (length part.octets) some, ahead)
    (any_or (nat_lt (distance part.first direction.next) (length part.octets))
    (nat_lt (length direction.waiting) 256) room)

dropped : (direction : Direction) (part : Waiting) → 0 < length part.octets → is_past direction.next part ≡ false →
    is_new_part direction part ≡ false
dropped direction part some back = rw (lt-ltb 0 (length part.octets) some, back) refl

-- the octets by which it goes on
grown : (first offset : ℕ) (parts : List Waiting) (part : Waiting) → List ℕ
grown first offset parts part =
    octets_from most_octets (filter (is_past (at first offset)) parts ++ part ∷ []) (at first offset)

after_kept : (first : ℕ) (parts : List Waiting) (part : Waiting) (offset : ℕ) (stream : List ℕ) (heading : Heading)
    (known : Carried) → first < 4294967296 → AllByRecursion (IsNear first) parts → IsNear first part →
    IsAt first parts offset stream known →
    IsAt first (parts ++ part ∷ []) (offset + length (grown first offset parts part))
    (stream ++ grown first offset parts part)
    (joined heading (record known.direction { waiting = known.direction.waiting ++ part ∷ [] }) known.messages)
unfolding grown joined octets_of_cut
after_kept first parts part offset stream heading known f near one is =
    let direction : Direction = known.direction in
    let new : List ℕ =
    octets_from most_octets (filter (is_past (at first offset)) parts ++ part ∷ []) (at first offset) in
    let later : ℕ = offset + length new in
    let octets : octets_from most_octets (direction.waiting ++ part ∷ []) direction.next ≡ new =
    ap (λ (it : List Waiting). octets_from most_octets (it ++ part ∷ []) direction.next) is.waiting
    ∙ ap (octets_from most_octets (filter (is_past (at first offset)) parts ++ part ∷ [])) is.next in
    let next : sequence_after direction.next
    (length (octets_from most_octets (direction.waiting ++ part ∷ []) direction.next)) ≡ at first later =
    ap (λ (it : List ℕ). sequence_after direction.next (length it)) octets
    ∙ ap (λ n. sequence_after n (length new)) is.next ∙ at_later first offset (length new) in
    let whole : octets_from most_octets (parts ++ part ∷ []) (at first 0) ≡ stream ++ new =
    goes_on first parts part offset stream f near one is.octets is.many in
    let many : length (stream ++ new) ≡ later =
    length-append stream new ∙ ap (λ n. n + length new) is.many in
    let few : length (octets_from most_octets (parts ++ part ∷ []) (at first 0)) ≤ 33554432 =
    few_octets most_octets (parts ++ part ∷ []) (at first 0) in
    record {
      next = next;
      waiting =
          ap (λ n. filter (is_past n) (direction.waiting ++ part ∷ [])) next
          ∙ ap (λ (it : List Waiting). filter (is_past (at first later)) (it ++ part ∷ [])) is.waiting
          ∙ filter-append (is_past (at first later)) (filter (is_past (at first offset)) parts) (part ∷ [])
          ∙ ap (λ (it : List Waiting). it ++ filter (is_past (at first later)) (part ∷ []))
          (waiting_later first offset later parts f near (omega arith) (omega (arith, ap length whole, many, few)))
          ∙ sym (filter-append (is_past (at first later)) parts (part ∷ []));
      stream_is =
          all_octets heading (cut_of direction.begun known.messages)
          (octets_from most_octets (direction.waiting ++ part ∷ []) direction.next)
          ∙ ap (λ (it : List ℕ). stream_of known ++ it) octets
          ∙ ap (λ (it : List ℕ). it ++ new) is.stream_is;
      octets = whole;
      many = many;
    }

after_dropped : (first : ℕ) (parts : List Waiting) (part : Waiting) (offset : ℕ) (stream : List ℕ) (known : Carried) →
    first < 4294967296 → IsNear first part → end_of first part ≤ offset → IsAt first parts offset stream known →
    IsAt first (parts ++ part ∷ []) offset stream (carried_of known.direction known.messages)
after_dropped first parts part offset stream known f one back is =
    let few : length (octets_from most_octets parts (at first 0)) ≤ 33554432 =
    few_octets most_octets parts (at first 0) in
    let within : offset < 67108864 = omega (arith, ap length is.octets, is.many, few) in
    record {
      next = is.next;
      waiting =
          is.waiting
          ∙ sym
          (filter-append (is_past (at first offset)) parts (part ∷ [])
          ∙ ap (λ b. filter (is_past (at first offset)) parts ++ cond b (part ∷ []) [])
          (not_past first offset part f one back within)
          ∙ append-nil (filter (is_past (at first offset)) parts));
      stream_is = is.stream_is;
      octets = stays first parts part offset stream f one is.octets is.many back;
      many = is.many;
    }

-- after one more, whichever
after_one : (first : ℕ) (parts : List Waiting) (part : Waiting) (offset : ℕ) (stream : List ℕ) (heading : Heading)
    (known : Carried) → first < 4294967296 → AllByRecursion (IsNear first) parts → IsNear first part →
    length parts < 256 → IsAt first parts offset stream known →
    (later : ℕ) × (longer : List ℕ)
    × IsAt first (parts ++ part ∷ []) later longer (with_data heading known.direction known.messages part)
unfolding with_data
after_one first parts part offset stream heading known f near one few is =
    let direction : Direction = known.direction in
    elim (cases_lt offset (end_of first part)) [
      | inl ahead ↦
          let test : is_new_part direction part ≡ true =
          kept direction part one.some
          (ap (λ n. is_past n part) is.next ∙ past first offset part f one ahead)
          (has_room direction offset first parts is.waiting few) in (
            offset + length (grown first offset parts part),
            stream ++ grown first offset parts part,
            subst (λ b. IsAt first (parts ++ part ∷ []) (offset + length (grown first offset parts part))
                (stream ++ grown first offset parts part)
                (cond b (joined heading (record direction { waiting = direction.waiting ++ part ∷ [] }) known.messages)
                (carried_of direction known.messages)))
                (sym test) (after_kept first parts part offset stream heading known f near one is),
          )
      | inr back ↦
          let few_now : length (octets_from most_octets parts (at first 0)) ≤ 33554432 =
          few_octets most_octets parts (at first 0) in
          let test : is_new_part direction part ≡ false =
          dropped direction part one.some
          (ap (λ n. is_past n part) is.next
          ∙ not_past first offset part f one back (omega (arith, ap length is.octets, is.many, few_now))) in (
            offset,
            stream,
            subst (λ b. IsAt first (parts ++ part ∷ []) offset stream
                (cond b (joined heading (record direction { waiting = direction.waiting ++ part ∷ [] }) known.messages)
                (carried_of direction known.messages)))
                (sym test) (after_dropped first parts part offset stream known f one back is),
          )
    ]

after_each_one : (came : List Came) (first : ℕ) (parts : List Waiting) (offset : ℕ) (stream : List ℕ)
    (known : Carried) → first < 4294967296 → AllByRecursion (IsNear first) parts →
    AllByRecursion (IsNear first) (parts_of came) → length parts + length came ≤ 256 →
    IsAt first parts offset stream known →
    stream_of (after_all known came) ≡ octets_from most_octets (parts ++ parts_of came) (at first 0)
after_each_one [] first parts offset stream known f near all few is =
    is.stream_is ∙ sym is.octets
    ∙ ap (λ (it : List Waiting). octets_from most_octets it (at first 0)) (sym (append-nil parts))
after_each_one (one ∷ rest) first parts offset stream known f near all few is =
    let next = after_one first parts one.part offset stream one.heading known f near all.0 (omega (arith, few)) is in
    let longer : length (parts ++ one.part ∷ []) ≡ length parts + 1 = length-append parts (one.part ∷ []) in
    after_each_one rest first (parts ++ one.part ∷ []) next.0 next.1
    (with_data one.heading known.direction known.messages one.part) f
    (near_both first parts (one.part ∷ []) near (all.0, tt)) all.1 (omega (arith, few, longer)) next.2
    ∙ ap (λ (it : List Waiting). octets_from most_octets it (at first 0))
    (append_assoc parts (one.part ∷ []) (parts_of rest))

-- whatever order they came in, and however they were cut
pub stream_is_what_came_first : StreamIsWhatCameFirst
stream_is_what_came_first segment came few near =
    let first : ℕ = first_place segment in
    let f : first < 4294967296 = omega arith in
    let same : at first 0 ≡ first = omega (arith, f) in
    after_each_one came first [] 0 [] (carried_of (begun_by segment) []) f tt near (omega (arith, few)) (record {
      next = sym same;
      waiting = refl;
      stream_is = refl;
      octets = none_there most_octets [] (at first 0) refl;
      many = refl;
    })
    ∙ ap (octets_from most_octets (parts_of came)) same
