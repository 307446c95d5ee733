-- Who sends in packets: what is counted from packet to packet is what the definition says of all of them.
use Rattle.std.proofs.Common.{◌≡◌, ℕ, ◌+◌, ◌-◌, ◌≤◌, ◌<◌, ◌^◌, Bool, true, false, eqb, eq-eqb, cond, List, [], ◌∷◌}
use Rattle.std.proofs.Common.{◌++◌}
use Rattle.std.proofs.Common.{length, map, suc, refl, sym, ap, ◌∙◌, subst, inl, inr, arith, Some, None, append-nil}
use Rattle.std.specs.Prelude.{◌||◌, ◌&&◌, not, min, Option, is_some}
use Rattle.std.specs.Prelude.{unwrap_or}
use Rattle.std.specs.List.{filter, list_any, position_from, prefix_len, suffix_len}
use Rattle.std.specs.Option.{option_map}
use Rattle.std.proofs.lemmas.Bool.{cases_Bool, eqb-true}
use Rattle.std.proofs.lemmas.Iterator.Adapters.{position_from-zero}
use Rattle.std.proofs.lemmas.List.{length-append, length_push, map-append, reverse-append}
use Rattle.std.proofs.lemmas.List.Elements.{filter-append}
use Rattle.std.proofs.lemmas.List.Sums.{count_by-le-length, length-filter}
use Rattle.std.proofs.lemmas.Map.Views.{any-filter_same}
use Rattle.cbsp_wire.proofs.Tests.{and_parts, and_both}
use Rattle.gsmtap.specs.Heard.{heard_in, heard_of, is_sent_by, is_station, mark_number, senders}
use Rattle.gsmtap.specs.HeardSteps.{heard_again, heard_at, newly_heard, place_of, with_sender, with_station}
use Rattle.gsmtap.specs.declared.heard.Heard.{Heard}
use Rattle.gsmtap.specs.declared.tap.Station.{Station}
use Rattle.gsmtap.specs.declared.tape.ChannelType.{ChannelType}
use Rattle.gsmtap.specs.declared.tape.ChannelType.TheVariants.{Cbch, Sdcch}

-- Two senders of whom the test says that they are one are equal, and the other way round

same_mark : (a b : ChannelType) → eqb (mark_number a) (mark_number b) ≡ true → a ≡ b
same_mark Cbch Cbch is = refl
same_mark Sdcch Sdcch is = refl
same_mark Cbch Sdcch is = absurd cc
same_mark Sdcch Cbch is = absurd cc

-- senders of whom the test says that they are one are one
pub same_station : (a b : Station) → is_station a b ≡ true → a ≡ b
same_station a b is =
    let front = and_parts (eqb a.address b.address && eqb a.arfcn b.arfcn)
    (eqb (mark_number a.channel) (mark_number b.channel)) is in
    let both = and_parts (eqb a.address b.address) (eqb a.arfcn b.arfcn) front.0 in
    ap (λ (it : ℕ). let s : Station = record { address = it; arfcn = a.arfcn; channel = a.channel } in s)
    (eqb-true _ _ both.0)
    ∙ ap (λ (it : ℕ). let s : Station = record { address = b.address; arfcn = it; channel = a.channel } in s)
    (eqb-true _ _ both.1)
    ∙ ap (λ (it : ChannelType). let s : Station = record { address = b.address; arfcn = b.arfcn; channel = it } in s)
    (same_mark a.channel b.channel front.1)

is_itself : (a : Station) → is_station a a ≡ true
is_itself a =
    and_both _ _ (and_both _ _ (eq-eqb a.address a.address refl) (eq-eqb a.arfcn a.arfcn refl))
    (eq-eqb (mark_number a.channel) (mark_number a.channel) refl)

is_too : (a b : Station) → is_station a b ≡ true → is_station b a ≡ true
is_too a b is = subst (λ (it : Station). is_station b it ≡ true) (sym (same_station a b is)) (is_itself b)

-- two that aren't one aren't so the other way round either
pub isnt_either : (a b : Station) → is_station a b ≡ false → is_station b a ≡ false
isnt_either a b isnt = elim (cases_Bool (is_station b a)) [
  | inl is ↦
      let both : is_station a b ≡ true = is_too b a is in
      absurd cc
  | inr other ↦ other
]

or_parts : (a b : Bool) → (a || b) ≡ false → (a ≡ false) × (b ≡ false)
or_parts true b h = absurd cc
or_parts false b h = (refl, h)

-- those of a list that aren't this one

abbrev others : Station → List Station → List Station
others station list = filter (λ one. not (is_station station one)) list

none_of_itself : (a s : Station) → is_station a s ≡ true → (list : List Station) →
    list_any (is_station a) (others s list) ≡ false
none_of_itself a s is list =
    any-filter_same (is_station a) (λ one. not (is_station s one)) false
    (λ one is_a.
    let same : is_station s one ≡ true = subst (λ (it : Station). is_station it one ≡ true) (same_station a s is) is_a
    in
    rw same refl)
    list

all_of_another : (a s : Station) → is_station a s ≡ false → (list : List Station) →
    list_any (is_station a) (others s list) ≡ list_any (is_station a) list
all_of_another a s isnt list =
    any-filter_same (is_station a) (λ one. not (is_station s one)) true
    (λ one is_a.
    let isnt_s : is_station s one ≡ false =
    subst (λ (it : Station). is_station s it ≡ false) (same_station a one is_a) (isnt_either a s isnt) in
    rw isnt_s refl)
    list

-- a packet more: of nobody, of a sender that is known, and of a new one

nobody_more : (packets : List (Option Station)) → senders (packets ++ None ∷ []) ≡ senders packets
nobody_more [] = refl
nobody_more (None ∷ rest) = nobody_more rest
nobody_more (Some s ∷ rest) = ap (λ list. s ∷ others s list) (nobody_more rest)

others_push_same : (a s : Station) → is_station s a ≡ true → (list : List Station) →
    others s (list ++ a ∷ []) ≡ others s list
others_push_same a s is list =
    filter-append (λ one. not (is_station s one)) list (a ∷ [])
    ∙ rw is (append-nil (others s list))

others_push_new : (a s : Station) → is_station s a ≡ false → (list : List Station) →
    others s (list ++ a ∷ []) ≡ others s list ++ a ∷ []
others_push_new a s isnt list =
    filter-append (λ one. not (is_station s one)) list (a ∷ [])
    ∙ rw isnt refl

new_more : (packets : List (Option Station)) (a : Station) → list_any (is_station a) (senders packets) ≡ false →
    senders (packets ++ Some a ∷ []) ≡ senders packets ++ a ∷ []
new_more [] a none = refl
new_more (None ∷ rest) a none = new_more rest a none
new_more (Some s ∷ rest) a none =
    let both = or_parts (is_station a s) (list_any (is_station a) (others s (senders rest))) none in
    let inner : list_any (is_station a) (senders rest) ≡ false =
    sym (all_of_another a s both.0 (senders rest)) ∙ both.1 in
    ap (λ list. s ∷ others s list) (new_more rest a inner)
    ∙ ap (λ list. s ∷ list) (others_push_new a s (isnt_either a s both.0) (senders rest))

known_more : (packets : List (Option Station)) (a : Station) → list_any (is_station a) (senders packets) ≡ true →
    senders (packets ++ Some a ∷ []) ≡ senders packets
known_more [] a known = absurd cc
known_more (None ∷ rest) a known = known_more rest a known
known_more (Some s ∷ rest) a known = elim (cases_Bool (list_any (is_station a) (senders rest))) [
  | inl inner ↦ ap (λ list. s ∷ others s list) (known_more rest a inner)
  | inr none ↦ elim (cases_Bool (is_station a s)) [
    | inl is ↦
        ap (λ list. s ∷ others s list) (new_more rest a none)
        ∙ ap (λ list. s ∷ list) (others_push_same a s (is_too a s is) (senders rest))
    | inr isnt ↦
        let no : list_any (is_station a) (others s (senders rest)) ≡ false =
        all_of_another a s isnt (senders rest) ∙ none in
        absurd (cc (rw (isnt, no) at known))
  ]
]

-- a sender is known if a packet is of it
pub is_known : (a : Station) (packets : List (Option Station)) →
    list_any (is_sent_by a) packets ≡ list_any (is_station a) (senders packets)
is_known a [] = refl
is_known a (None ∷ rest) = is_known a rest
is_known a (Some s ∷ rest) = elim (cases_Bool (is_station a s)) [
  | inl is ↦ rw is refl
  | inr isnt ↦ rw isnt (is_known a rest ∙ sym (all_of_another a s isnt (senders rest)))
]

-- no sender comes twice
unfoldable pub Apart : List Station → Type 0
Apart [] = Unit {0}
Apart (s ∷ rest) = (list_any (is_station s) rest ≡ false) × Apart rest

fewer_any : (p q : Station → Bool) (list : List Station) → list_any p list ≡ false → list_any p (filter q list) ≡ false
fewer_any p q [] none = refl
fewer_any p q (s ∷ rest) none =
    let both = or_parts (p s) (list_any p rest) none in
    elim (cases_Bool (q s)) [
      | inl is ↦ rw (is, both.0) (fewer_any p q rest both.1)
      | inr isnt ↦ rw isnt (fewer_any p q rest both.1)
    ]

fewer_apart : (q : Station → Bool) (list : List Station) → Apart list → Apart (filter q list)
unfolding Apart
fewer_apart q [] apart = apart
fewer_apart q (s ∷ rest) apart = elim (cases_Bool (q s)) [
  | inl is ↦ rw is (fewer_any (is_station s) q rest apart.0, fewer_apart q rest apart.1)
  | inr isnt ↦ rw isnt (fewer_apart q rest apart.1)
]

-- the senders of packets are apart
pub apart_senders : (packets : List (Option Station)) → Apart (senders packets)
unfolding Apart
apart_senders [] = tt
apart_senders (None ∷ rest) = apart_senders rest
apart_senders (Some s ∷ rest) = (
  none_of_itself s s (is_itself s) (senders rest),
  fewer_apart (λ one. not (is_station s one)) (senders rest) (apart_senders rest),
)

-- where a list has what passes a test, and how much of it, after one element more

found_stays : {X : Type 0} (p : X → Bool) (from : ℕ) (list : List X) (more : X) → list_any p list ≡ true →
    position_from p from (list ++ more ∷ []) ≡ position_from p from list
found_stays p from [] more any = absurd cc
found_stays p from (x ∷ rest) more any = elim (cases_Bool (p x)) [
  | inl is ↦ rw is refl
  | inr isnt ↦ rw isnt (found_stays p (from + 1) rest more (rw isnt at any))
]

found_last : {X : Type 0} (p : X → Bool) (from : ℕ) (list : List X) (more : X) → list_any p list ≡ false →
    p more ≡ true → position_from p from (list ++ more ∷ []) ≡ Some (from + length list)
found_last p from [] more none is = rw is (let e : from ≡ from + 0 = omega arith in ap Some e)
found_last p from (x ∷ rest) more none is =
    let both = or_parts (p x) (list_any p rest) none in
    let e : from + 1 + length rest ≡ from + length (x ∷ rest) = omega arith in
    rw (both.0) (found_last p (from + 1) rest more both.1 is ∙ ap Some e)

passed_over : {X : Type 0} (p : X → Bool) (from : ℕ) (list : List X) (more : X) → p more ≡ false →
    position_from p from (list ++ more ∷ []) ≡ position_from p from list
passed_over p from [] more isnt = rw isnt refl
passed_over p from (x ∷ rest) more isnt = elim (cases_Bool (p x)) [
  | inl is ↦ rw is refl
  | inr other ↦ rw other (passed_over p (from + 1) rest more isnt)
]

none_found : {X : Type 0} (p : X → Bool) (from : ℕ) (list : List X) → list_any p list ≡ false →
    position_from p from list ≡ None
none_found p from [] none = refl
none_found p from (x ∷ rest) none =
    let both = or_parts (p x) (list_any p rest) none in
    rw (both.0) (none_found p (from + 1) rest both.1)

-- what passes is found
pub some_found : {X : Type 0} (p : X → Bool) (from : ℕ) (list : List X) → list_any p list ≡ true →
    is_some (position_from p from list) ≡ true
some_found p from [] any = absurd cc
some_found p from (x ∷ rest) any = elim (cases_Bool (p x)) [
  | inl is ↦ rw is refl
  | inr isnt ↦ rw isnt (some_found p (from + 1) rest (rw isnt at any))
]

-- it is found one place later after one element more
pub found_after : {X : Type 0} (p : X → Bool) (from next : ℕ) → next ≡ suc from → (list : List X) →
    position_from p next list ≡ option_map suc (position_from p from list)
found_after p from next is [] = refl
found_after p from next is (x ∷ rest) = elim (cases_Bool (p x)) [
  | inl passes ↦ rw passes (ap Some is)
  | inr isnt ↦
      let e : next + 1 ≡ suc (from + 1) = omega (arith, is) in
      rw isnt (found_after p (from + 1) (next + 1) e rest)
]

none_passes : {X : Type 0} (p : X → Bool) (list : List X) → list_any p list ≡ false → filter p list ≡ []
none_passes p [] none = refl
none_passes p (x ∷ rest) none =
    let both = or_parts (p x) (list_any p rest) none in
    rw (both.0) (none_passes p rest both.1)

suffix_more : {X : Type 0} (p : X → Bool) (list : List X) (more : X) →
    suffix_len p (list ++ more ∷ []) ≡ cond (p more) (1 + suffix_len p list) 0
suffix_more p list more = ap (prefix_len p) (reverse-append list (more ∷ []))

-- a sender after one packet more

row : Station → (blocks first last : ℕ) → Heard
row station blocks first last = record { station = station; blocks = blocks; first = first; last = last }

row_same : (station : Station) (a b c x y z : ℕ) → a ≡ x → b ≡ y → c ≡ z → row station a b c ≡ row station x y z
row_same station a b c x y z one two three =
    ap (λ it. row station it b c) one ∙ ap (λ it. row station x it c) two ∙ ap (λ it. row station x y it) three

blocks_more : (packets : List (Option Station)) (sent : Option Station) (s : Station) →
    length (filter (is_sent_by s) (packets ++ sent ∷ []))
    ≡ length (filter (is_sent_by s) packets) + length (filter (is_sent_by s) (sent ∷ []))
blocks_more packets sent s =
    ap length (filter-append (is_sent_by s) packets (sent ∷ []))
    ∙ length-append (filter (is_sent_by s) packets) (filter (is_sent_by s) (sent ∷ []))

unheard : (packets : List (Option Station)) (sent : Option Station) (s : Station) → is_sent_by s sent ≡ false →
    heard_of (packets ++ sent ∷ []) s ≡ heard_of packets s
unfolding row
unheard packets sent s isnt =
    let one : length (filter (is_sent_by s) (sent ∷ [])) ≡ 0 = rw isnt refl in
    let longer : length (packets ++ sent ∷ []) ≡ length packets + 1 = length_push packets sent in
    let after : suffix_len (λ it. not (is_sent_by s it)) (packets ++ sent ∷ [])
    ≡ 1 + suffix_len (λ it. not (is_sent_by s it)) packets =
    suffix_more (λ it. not (is_sent_by s it)) packets sent ∙ rw isnt refl in
    let blocks : length (filter (is_sent_by s) (packets ++ sent ∷ [])) ≡ length (filter (is_sent_by s) packets) =
    omega (arith, blocks_more packets sent s, one) in
    let last : length (packets ++ sent ∷ []) - suffix_len (λ it. not (is_sent_by s it)) (packets ++ sent ∷ [])
    ≡ length packets - suffix_len (λ it. not (is_sent_by s it)) packets = omega (arith, longer, after) in
    row_same s _ _ _ _ _ _ blocks
    (ap (λ it. unwrap_or it 0) (passed_over (is_sent_by s) 1 packets sent isnt)) last

last_now : (packets : List (Option Station)) (a : Station) →
    length (packets ++ Some a ∷ []) - suffix_len (λ it. not (is_sent_by a it)) (packets ++ Some a ∷ [])
    ≡ length packets + 1
last_now packets a =
    let longer : length (packets ++ Some a ∷ []) ≡ length packets + 1 = length_push packets (Some a) in
    let after : suffix_len (λ it. not (is_sent_by a it)) (packets ++ Some a ∷ []) ≡ 0 =
    suffix_more (λ it. not (is_sent_by a it)) packets (Some a) ∙ rw (is_itself a) refl in
    omega (arith, longer, after)

heard_twice : (packets : List (Option Station)) (a : Station) → list_any (is_sent_by a) packets ≡ true →
    length packets < 2 ^ 63 →
    heard_of (packets ++ Some a ∷ []) a ≡ heard_again (length packets + 1) (heard_of packets a)
unfolding row
heard_twice packets a known few =
    let one : length (filter (is_sent_by a) (Some a ∷ [])) ≡ 1 = rw (is_itself a) refl in
    let most : length (filter (is_sent_by a) packets) ≤ length packets =
    subst (λ n. n ≤ length packets) (sym (length-filter (is_sent_by a) packets))
    (count_by-le-length (is_sent_by a) packets) in
    let blocks : length (filter (is_sent_by a) (packets ++ Some a ∷ []))
    ≡ min (length (filter (is_sent_by a) packets) + 1) 18446744073709551615 =
    omega (arith, blocks_more packets (Some a) a, one, most, few) in
    row_same a _ _ _ _ _ _ blocks
    (ap (λ it. unwrap_or it 0) (found_stays (is_sent_by a) 1 packets (Some a) known)) (last_now packets a)

heard_first : (packets : List (Option Station)) (a : Station) → list_any (is_sent_by a) packets ≡ false →
    heard_of (packets ++ Some a ∷ []) a ≡ newly_heard (length packets + 1) a
unfolding row
heard_first packets a unknown =
    let one : length (filter (is_sent_by a) (Some a ∷ [])) ≡ 1 = rw (is_itself a) refl in
    let before : length (filter (is_sent_by a) packets) ≡ 0 = ap length (none_passes (is_sent_by a) packets unknown) in
    let blocks : length (filter (is_sent_by a) (packets ++ Some a ∷ [])) ≡ 1 =
    omega (arith, blocks_more packets (Some a) a, one, before) in
    let e : 1 + length packets ≡ length packets + 1 = omega arith in
    row_same a _ _ _ _ _ _ blocks
    (ap (λ it. unwrap_or it 0) (found_last (is_sent_by a) 1 packets (Some a) unknown (is_itself a)) ∙ e)
    (last_now packets a)

-- all senders after one packet more

map_every : (f g : Station → Heard) → ((s : Station) → f s ≡ g s) → (list : List Station) → map f list ≡ map g list
map_every f g same [] = refl
map_every f g same (s ∷ rest) =
    ap (λ it. it ∷ map f rest) (same s) ∙ ap (λ it. g s ∷ it) (map_every f g same rest)

map_apart : (f g : Station → Heard) (a : Station) → ((s : Station) → is_station a s ≡ false → f s ≡ g s) →
    (list : List Station) → list_any (is_station a) list ≡ false → map f list ≡ map g list
map_apart f g a same [] none = refl
map_apart f g a same (s ∷ rest) none =
    let both = or_parts (is_station a s) (list_any (is_station a) rest) none in
    ap (λ it. it ∷ map f rest) (same s both.0) ∙ ap (λ it. g s ∷ it) (map_apart f g a same rest both.1)

any_row : (packets : List (Option Station)) (a : Station) (list : List Station) →
    list_any (λ (one : Heard). is_station a one.station) (map (heard_of packets) list)
    ≡ list_any (is_station a) list
any_row packets a [] = refl
any_row packets a (s ∷ rest) = ap (λ it. is_station a s || it) (any_row packets a rest)

one_later : (one : Heard) (heard : List Heard) (number : ℕ) (a : Station) (place : Option ℕ) →
    is_some place ≡ true →
    heard_at number (one ∷ heard) a (option_map suc place) ≡ one ∷ heard_at number heard a place
one_later one heard number a (Some place) some = refl
one_later one heard number a None some = absurd cc

placed : (packets : List (Option Station)) (a : Station) (number : ℕ) →
    heard_of (packets ++ Some a ∷ []) a ≡ heard_again number (heard_of packets a) →
    (list : List Station) → list_any (is_station a) list ≡ true → Apart list →
    map (heard_of (packets ++ Some a ∷ [])) list
    ≡ heard_at number (map (heard_of packets) list) a
    (position_from (λ (one : Heard). is_station a one.station) 0 (map (heard_of packets) list))
unfolding Apart
placed packets a number again [] any apart = absurd cc
placed packets a number again (s ∷ rest) any apart = elim (cases_Bool (is_station a s)) [
  | inl is ↦
      let head : heard_of (packets ++ Some a ∷ []) s ≡ heard_again number (heard_of packets s) =
      subst (λ (it : Station). heard_of (packets ++ Some a ∷ []) it ≡ heard_again number (heard_of packets it))
      (same_station a s is) again in
      let tail : map (heard_of (packets ++ Some a ∷ [])) rest ≡ map (heard_of packets) rest =
      map_apart (heard_of (packets ++ Some a ∷ [])) (heard_of packets) s
      (λ it isnt.
      unheard packets (Some a) it
      (isnt_either a it (subst (λ (one : Station). is_station one it ≡ false) (sym (same_station a s is)) isnt)))
      rest apart.0 in
      rw is
      (ap (λ it. it ∷ map (heard_of (packets ++ Some a ∷ [])) rest) head
      ∙ ap (λ it. heard_again number (heard_of packets s) ∷ it) tail)
  | inr isnt ↦
      let inner : list_any (is_station a) rest ≡ true = rw isnt at any in
      let test : Heard → Bool = λ one. is_station a one.station in
      let rows : List Heard = map (heard_of packets) rest in
      let found : is_some (position_from test 0 rows) ≡ true =
      some_found test 0 rows (any_row packets a rest ∙ inner) in
      rw isnt
      (ap (λ it. it ∷ map (heard_of (packets ++ Some a ∷ [])) rest)
      (unheard packets (Some a) s (isnt_either a s isnt))
      ∙ ap (λ it. heard_of packets s ∷ it) (placed packets a number again rest inner apart.1)
      ∙ sym (one_later (heard_of packets s) rows number a (position_from test 0 rows) found)
      ∙ ap (heard_at number (heard_of packets s ∷ rows) a) (sym (found_after test 0 1 refl rows)))
]

one_counted : (packets : List (Option Station)) (a : Station) → length packets < 2 ^ 63 →
    with_station (length packets + 1) (heard_in packets) a ≡ heard_in (packets ++ Some a ∷ [])
one_counted packets a few =
    let test : Heard → Bool = λ one. is_station a one.station in
    let place : place_of a (heard_in packets) ≡ position_from test 0 (heard_in packets) =
    position_from-zero test (heard_in packets) in
    elim (cases_Bool (list_any (is_station a) (senders packets))) [
      | inl known ↦
          sym
          (ap (map (heard_of (packets ++ Some a ∷ []))) (known_more packets a known)
          ∙ placed packets a (length packets + 1) (heard_twice packets a (is_known a packets ∙ known) few)
          (senders packets) known (apart_senders packets)
          ∙ ap (heard_at (length packets + 1) (heard_in packets) a) (sym place))
      | inr unknown ↦
          let none : place_of a (heard_in packets) ≡ None =
          place ∙ none_found test 0 (heard_in packets) (any_row packets a (senders packets) ∙ unknown) in
          ap (heard_at (length packets + 1) (heard_in packets) a) none
          ∙ sym
          (ap (map (heard_of (packets ++ Some a ∷ []))) (new_more packets a unknown)
          ∙ map-append (heard_of (packets ++ Some a ∷ [])) (senders packets) (a ∷ [])
          ∙ ap (λ it. it ++ heard_of (packets ++ Some a ∷ []) a ∷ [])
          (map_apart (heard_of (packets ++ Some a ∷ [])) (heard_of packets) a
          (λ it isnt. unheard packets (Some a) it (isnt_either a it isnt)) (senders packets) unknown)
          ∙ ap (λ it. heard_in packets ++ it ∷ []) (heard_first packets a (is_known a packets ∙ unknown)))
    ]

-- the table after one packet more is that of the packets with it
pub packet_counted : (packets : List (Option Station)) (sent : Option Station) → length packets < 2 ^ 63 →
    with_sender (length packets + 1) (heard_in packets) sent ≡ heard_in (packets ++ sent ∷ [])
packet_counted packets None few =
    sym
    (ap (map (heard_of (packets ++ None ∷ []))) (nobody_more packets)
    ∙ map_every (heard_of (packets ++ None ∷ [])) (heard_of packets) (λ s. unheard packets None s refl)
    (senders packets))
packet_counted packets (Some a) few = one_counted packets a few
