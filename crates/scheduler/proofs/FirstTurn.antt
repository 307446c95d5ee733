-- The message of the first turn is the one that is ready first.
use Rattle.std.proofs.Common.{◌≡◌, ◌≢◌, ◌⊎◌, ◌==◌, ◌<◌, ℕ, Bool, cond, if◌then◌else◌, ◌+◌, ◌%◌, ◌≤◌, true, false, List}
use Rattle.std.proofs.Common.{arith, length, get_or}
use Rattle.std.proofs.Common.{Some, None, inl, inr, sym, ap, subst, ◌∙◌, refl}
use Rattle.std.specs.List.{All, AllPairs}
use Rattle.std.proofs.lemmas.List.Elements.{All-map}
use Rattle.std.proofs.lemmas.Bool.{cases_lt, cases_Bool, eqb-true, eq-eqb, false≢true}
use Rattle.std.proofs.lemmas.Option.{none-some, same_Some}
use Rattle.std.proofs.lemmas.List.{get_or-map, length-map}
use Rattle.scheduler.specs.declared.tournament.Node.{Node}
use Rattle.scheduler.specs.declared.progress.Progress.{Progress}
use Rattle.scheduler.specs.declared.scheduled.Scheduled.{Scheduled}
use Rattle.scheduler.specs.declared.turn.First.{First}
use Rattle.scheduler.specs.declared.plan.Rank.{Rank}
use Rattle.scheduler.specs.declared.plan.Rank.TheVariants.{High, Normal, Background}
use Rattle.scheduler.specs.Message.{due, broadcast_at}
use Rattle.scheduler.specs.Air.{layer_of, class_of}
use Rattle.scheduler.specs.Follows.{message_of}
use Rattle.scheduler.specs.PlanSteps.{IsChoice, IsServedFirst, is_ready}
use Rattle.scheduler.specs.QueueSteps.{kept_in, seen_in, seen, own, IsRight, IsTree, AreKeptInOrder, AreRising}
use Rattle.scheduler.specs.QueueSteps.{IsPlaceOf}
use Rattle.scheduler.specs.QueueSteps.{HasTurn, ahead_at, turn_of, turn_number, ready_turn, no_turn, nothing_ahead}
use Rattle.scheduler.specs.QueueSteps.{HasThatTurn, IsLeastTurn}
use Rattle.scheduler.proofs.Turns.{no_later, is_turn}
use Rattle.scheduler.proofs.Tree.{ahead_of_all, first_is_one, first_most, own_at-is}
use Rattle.scheduler.proofs.Places.{kept_at, right_at, place_is}
use Rattle.scheduler.proofs.Windows.{seen_is}
use Rattle.scheduler.proofs.Counts.{is_ready-parts, is_ready-started}
use Rattle.scheduler.proofs.Air.{broadcast_at-released}

-- what is read past the end
abbrev pub blank : Node
blank = record {
  kept = record {
    scheduled = record {
      item = record { entry = 0; start = 0; pages = 0; period = 0; broadcasts = 0; rank = High };
      stop = None;
      pages_aired = 0;
      completed = 0;
    };
    until = 0;
    is_open = false;
  };
  ahead = record { first = 0; wake = 0 };
}

-- none is to be looked at again
pub all_awake : (slot : ℕ) (nodes : List Node) (k : ℕ) (d : Node) → IsTree nodes → slot < (ahead_at nodes 0).wake
    → k < length nodes → slot < (get_or nodes k d).kept.until
all_awake slot nodes k d tree awake h =
    let first = ahead_of_all nodes tree k in
    let mine = ap (λ (a : First). a.wake) (own_at-is nodes k d h) in
    omega (arith, first.wake, mine, awake)

-- a message as it is seen, by its place
pub seen_at : (slot : ℕ) (nodes : List Node) (k : ℕ) (d : Node) (t : Scheduled) → k < length nodes
    → get_or (seen_in slot nodes) k t ≡ seen slot (get_or nodes k d).kept
seen_at slot nodes k d t h =
    get_or-map (seen slot) (kept_in nodes) k d.kept t (omega (arith, length-map nodes (λ (n : Node). n.kept)))
    ∙ ap (seen slot) (kept_at nodes k d h)

-- a layer is 0 or 1
pub layer_few : (rank : Rank) → layer_of rank ≤ 1
layer_few High = omega arith
layer_few Normal = omega arith
layer_few Background = omega arith

-- and so is a class
pub class_few : (rank : Rank) → class_of rank ≤ 1
class_few High = omega arith
class_few Normal = omega arith
class_few Background = omega arith

-- an open message has a turn
open_turn : (k : Progress) → k.is_open ≡ true → (own k).first ≡ turn_of k
open_turn k is = rw is refl

-- its number is at the end of its turn
pub turn_entry : (k : Progress) → HasTurn k → turn_of k % 65536 ≡ k.scheduled.item.entry
turn_entry k has = omega (arith, has.number)

-- a turn is that of an open message
turn_open : (k : Progress) (t : ℕ) → (own k).first ≡ t → t < no_turn → (k.is_open ≡ true) × (turn_of k ≡ t)
turn_open k t is less = elim (cases_Bool k.is_open) [
  | inl opened ↦ (opened, sym (open_turn k opened) ∙ is)
  | inr shut ↦ absurd (let none : (own k).first ≡ no_turn = rw shut refl in omega (arith, none, is, less))
]

-- an open message is due when it is looked at again
open_due : (slot : ℕ) (k : Progress) → IsRight slot k → slot < k.until → k.is_open ≡ true
    → k.until ≡ due (message_of k.scheduled) (broadcast_at (message_of k.scheduled) slot)
open_due slot k right awake opened = elim (right.timed slot (omega arith) awake) [
  | inl window ↦ window.1
  | inr none ↦ absurd (false≢true (sym none.1 ∙ opened))
]

-- an open message has the turn that it is to have by what is seen of it
pub own_ready : (slot : ℕ) (k : Progress) → IsRight slot k → slot < k.until
    → (own k).first ≡ ready_turn slot k.scheduled
own_ready slot k right awake =
    let Turn : ℕ → ℕ = λ due_slot. turn_number (layer_of k.scheduled.item.rank) due_slot
    (class_of k.scheduled.item.rank) k.scheduled.item.entry in
    elim (cases_Bool k.is_open) [
      | inl opened ↦
          let ready : is_ready k.scheduled slot ≡ true = right.ready slot (omega arith) awake ∙ opened in
          rw (ready, opened) (ap Turn (open_due slot k right awake opened))
      | inr shut ↦
          let not : is_ready k.scheduled slot ≡ false = right.ready slot (omega arith) awake ∙ shut in
          rw (not, shut) refl
    ]

-- a message has a period, and its number and its period are small
pub record HasRoom (t : Scheduled) : Type 0 where
  pub number : t.item.entry < 65536
  pub some_period : 0 < t.item.period
  pub period : t.item.period < 65536

-- each message that is kept has
pub all_room : (slot : ℕ) (nodes : List Node) → All (IsRight slot) (kept_in nodes) → All HasTurn (kept_in nodes)
    → All HasRoom (seen_in slot nodes)
all_room slot nodes right turns =
    All-map HasRoom (seen slot) (kept_in nodes)
    (λ k d h. let has = turns k d h in record {
      number = has.number;
      some_period = (right k d h).fit.some_period;
      period = has.period;
    })

-- the broadcast in whose time a slot lies is due soon
due_few : (t : Scheduled) (slot : ℕ) → HasRoom t → slot < 65536 → t.item.start ≤ slot
    → due (message_of t) (broadcast_at (message_of t) slot) < 4294967296
due_few t slot room few started =
    let released = broadcast_at-released (message_of t) slot room.some_period started in
    omega (arith, released, room.period, few)

-- a message that is ready has a turn
pub ready_turned : (slot : ℕ) (t : Scheduled) → is_ready t slot ≡ true → ready_turn slot t ≡ turn_number
    (layer_of t.item.rank) (due (message_of t) (broadcast_at (message_of t) slot)) (class_of t.item.rank) t.item.entry
ready_turned slot t ready = rw ready refl

-- of two messages that are ready, the one whose turn comes no later is served no later
served_first : (slot : ℕ) (a b : Scheduled) → slot < 65536 → HasRoom a → HasRoom b → is_ready a slot ≡ true
    → is_ready b slot ≡ true → ready_turn slot a ≤ ready_turn slot b → IsServedFirst slot a b
served_first slot a b few has also mine other turns =
    no_later (layer_of a.item.rank) (due (message_of a) (broadcast_at (message_of a) slot)) (class_of a.item.rank)
    a.item.entry (layer_of b.item.rank) (due (message_of b) (broadcast_at (message_of b) slot)) (class_of b.item.rank)
    b.item.entry (due_few a slot has few (is_ready-started a slot mine)) (class_few a.item.rank) has.number
    (due_few b slot also few (is_ready-started b slot other)) (class_few b.item.rank) also.number
    (omega (arith, turns, ready_turned slot a mine, ready_turned slot b other))

-- a message without a turn is not ready
no_turn_no_ready : (slot : ℕ) (t : Scheduled) → slot < 65536 → HasRoom t → no_turn ≤ ready_turn slot t
    → is_ready t slot ≡ false
no_turn_no_ready slot t few room none = elim (cases_Bool (is_ready t slot)) [
  | inr not ↦ not
  | inl ready ↦ absurd (
      let less = is_turn (layer_of t.item.rank) (due (message_of t) (broadcast_at (message_of t) slot))
      (class_of t.item.rank) t.item.entry (layer_few t.item.rank) (due_few t slot room few
      (is_ready-started t slot ready)) (class_few t.item.rank) room.number in
      omega (arith, less, none, ready_turned slot t ready)
      )
]

-- what is kept of the message at a place has a turn
pub turn_at : (nodes : List Node) (k : ℕ) (d : Node) → k < length nodes → All HasTurn (kept_in nodes)
    → HasTurn (get_or nodes k d).kept
turn_at nodes k d h turns =
    rw (← kept_at nodes k d h) (turns k d.kept (omega (arith, h, length-map nodes (λ (n : Node). n.kept))))

-- what is known of the message that has a turn
pub record IsTurnOf (slot : ℕ) (nodes : List Node) (t place : ℕ) (d : Node) : Type 0 where
  pub within : place < length nodes
  pub awake : slot < (get_or nodes place d).kept.until
  pub is_open : (get_or nodes place d).kept.is_open ≡ true
  pub turn : turn_of (get_or nodes place d).kept ≡ t
  pub ready : is_ready (get_or nodes place d).kept.scheduled slot ≡ true

-- it stands at the place of its number
pub turn_stands : (slot : ℕ) (nodes : List Node) (t place : ℕ) (d : Node) → All (IsRight slot) (kept_in nodes)
    → All HasTurn (kept_in nodes) → AreRising nodes → HasThatTurn slot nodes t → t < no_turn
    → IsPlaceOf (t % 65536) nodes place → IsTurnOf slot nodes t place d
turn_stands slot nodes t place d right turns rising has less found =
    let k = (get_or nodes has.place d).kept in
    let open_one = turn_open k t (has.turned d) less in
    let named = sym (turn_entry k (turn_at nodes has.place d has.within turns)) ∙ ap (λ n. n % 65536) open_one.1 in
    let here = place_is nodes (t % 65536) place has.place d rising found has.within named in
    let Turned : ℕ → Type 0 = λ i. IsTurnOf slot nodes t i d in
    subst Turned (sym here) (record {
      within = has.within;
      awake = has.awake d;
      is_open = open_one.0;
      turn = open_one.1;
      ready = (right_at slot nodes has.place d has.within right).ready slot (omega arith) (has.awake d) ∙ open_one.0;
    })

-- where its turn is the least, what is aired of it is the choice of the slot
pub choice_of_least : (slot : ℕ) (nodes : List Node) (t place : ℕ) (d : Node) → slot < 65536
    → All (IsRight slot) (kept_in nodes) → All HasTurn (kept_in nodes)
    → All (λ x. t ≤ ready_turn slot x) (seen_in slot nodes) → IsTurnOf slot nodes t place d
    → IsChoice (seen_in slot nodes) slot (Some (t % 65536, (get_or nodes place d).kept.scheduled.pages_aired + 1))
choice_of_least slot nodes t place d few right turns least first =
    let mine = (get_or nodes place d).kept in
    let as_kept = seen_is mine slot first.awake in
    let long = length-map (kept_in nodes) (seen slot) in
    let longer = length-map nodes (λ (n : Node). n.kept) in
    let has = turn_at nodes place d first.within turns in
    let named = sym (turn_entry mine has) ∙ ap (λ n. n % 65536) first.turn in
    let inside : place < length (seen_in slot nodes) = omega (arith, long, longer, first.within) in
    let there = seen_at slot nodes place d mine.scheduled first.within ∙ as_kept in
    let room = all_room slot nodes right turns in
    let is : ready_turn slot mine.scheduled ≡ t = sym (own_ready slot mine (right_at slot nodes place d first.within
    right) first.awake) ∙ open_turn mine first.is_open ∙ first.turn in (
      place,
      mine.scheduled,
      inside,
      there,
      (
        record {
          ready = first.ready;
          first = λ k e within. λ ready.
              let other = get_or (seen_in slot nodes) k e in
              served_first slot mine.scheduled other few (subst HasRoom there (room place mine.scheduled inside))
              (room k e within) first.ready ready (omega (arith, is, least k e within));
        },
        ap (λ n. (n, mine.scheduled.pages_aired + 1)) (sym named),
      ),
    )

-- and where none has a turn, nothing is
pub choice_of_none : (slot : ℕ) (nodes : List Node) → slot < 65536 → All (IsRight slot) (kept_in nodes)
    → All HasTurn (kept_in nodes) → All (λ x. no_turn ≤ ready_turn slot x) (seen_in slot nodes)
    → IsChoice (seen_in slot nodes) slot None
choice_of_none slot nodes few right turns none = λ k e within.
    no_turn_no_ready slot (get_or (seen_in slot nodes) k e) few (all_room slot nodes right turns k e within)
    (none k e within)

-- what is ahead of a tree in which none is to be looked at again by the slot is its least turn
pub tree_least : (slot : ℕ) (nodes : List Node) → AreKeptInOrder slot nodes → slot < (ahead_at nodes 0).wake
    → IsLeastTurn slot nodes (ahead_at nodes 0).first
tree_least slot nodes kept awake =
    let t = (ahead_at nodes 0).first in
    record {
      least = λ k e within.
          let d : Node = record {
            kept = record { scheduled = e; until = 0; is_open = false };
            ahead = nothing_ahead;
          } in
          let long = length-map (kept_in nodes) (seen slot) in
          let longer = length-map nodes (λ (n : Node). n.kept) in
          let inside : k < length nodes = omega (arith, long, longer, within) in
          let till = all_awake slot nodes k d kept.tree awake inside in
          let its = (get_or nodes k d).kept in
          let other = seen_at slot nodes k d e inside ∙ seen_is its slot till in
          let ahead = (ahead_of_all nodes kept.tree k).first in
          let mine = ap (λ (a : First). a.first) (own_at-is nodes k d inside)
          ∙ own_ready slot its (right_at slot nodes k d inside kept.right) till in
          let Least : Scheduled → Type 0 = λ x. t ≤ ready_turn slot x in
          subst Least (sym other) (omega (arith, ahead, mine));
      found = elim (cases_lt t no_turn) [
        | inr none ↦ inl (omega (arith, none, first_most nodes 0 (kept.tree 0)))
        | inl less ↦
            let one = first_is_one nodes kept.tree t (length nodes) 0 (omega arith) refl less in
            inr (record {
              place = one.0;
              within = one.1.0;
              awake = λ d. all_awake slot nodes one.0 d kept.tree awake one.1.0;
              turned = λ d. ap (λ (a : First). a.first) (sym (own_at-is nodes one.0 d one.1.0)) ∙ one.1.1;
            })
      ];
    }

-- the message of the first turn has a page left
pub first_has_more : (slot : ℕ) (nodes : List Node) (t place : ℕ) (d : Node) → IsTurnOf slot nodes t place d
    → (get_or nodes place d).kept.scheduled.pages_aired < (get_or nodes place d).kept.scheduled.item.pages
first_has_more slot nodes t place d first =
    (is_ready-parts (get_or nodes place d).kept.scheduled slot first.ready).2

-- the numbers rise where those of the messages as they are seen do
pub rising_of_seen : (slot : ℕ) (nodes : List Node)
    → AllPairs (λ a b. a.item.entry < b.item.entry) (seen_in slot nodes) → AreRising nodes
rising_of_seen slot nodes rising = λ i j d before within.
    let long = length-map (kept_in nodes) (seen slot) in
    let longer = length-map nodes (λ (n : Node). n.kept) in
    let first = ap (λ (t : Scheduled). t.item.entry) (seen_at slot nodes i d d.kept.scheduled (omega (
      arith,
      before,
      within,
    ))) in
    let second = ap (λ (t : Scheduled). t.item.entry) (seen_at slot nodes j d d.kept.scheduled within) in
    let less = rising i j d.kept.scheduled before (omega (arith, within, long, longer)) in
    omega (arith, first, second, less)

-- where a turn has no number, it is none
pub first_entry_none : (t : ℕ) (b : Bool) → (t == no_turn) ≡ b → cond b None (Some (t % 65536)) ≡ None → t ≡ no_turn
first_entry_none t true is none = eqb-true t no_turn is
first_entry_none t false is none = absurd (none-some (t % 65536) (sym none))

-- and where it has one, it is one
pub first_entry_some : (t entry : ℕ) (b : Bool) → (t == no_turn) ≡ b → cond b None (Some (t % 65536)) ≡ Some entry
    → (t ≢ no_turn) × (t % 65536 ≡ entry)
first_entry_some t entry true is one = absurd (none-some entry one)
first_entry_some t entry false is one =
    (λ same. false≢true (sym is ∙ eq-eqb t no_turn same), same_Some (t % 65536) entry one)

-- what is known of the message that has a turn and a number
pub record IsNamedTurn (slot : ℕ) (nodes : List Node) (t entry place : ℕ) : Type 0 where
  pub turn : IsTurnOf slot nodes t place blank
  pub named : t % 65536 ≡ entry
  pub number : (get_or nodes place blank).kept.scheduled.item.entry ≡ entry

-- a turn that has a number is that of the message at its place
pub found_turn : (slot : ℕ) (nodes : List Node) (t entry place : ℕ) → t ≤ no_turn → All (IsRight slot) (kept_in nodes)
    → All HasTurn (kept_in nodes) → AreRising nodes → (t ≡ no_turn) ⊎ HasThatTurn slot nodes t
    → (if t == no_turn then None else Some (t % 65536)) ≡ Some entry → IsPlaceOf entry nodes place
    → IsNamedTurn slot nodes t entry place
found_turn slot nodes t entry place most right turns rising found one there =
    let says = first_entry_some t entry _ refl one in
    let less : t < no_turn = omega (arith, most, says.0) in
    let At : ℕ → Type 0 = λ e. IsPlaceOf e nodes place in
    let has : HasThatTurn slot nodes t = elim found [ inl none ↦ absurd (says.0 none) | inr has ↦ has ] in
    let turn = turn_stands slot nodes t place blank right turns rising has less (subst At (sym says.1) there) in
    record {
      turn = turn;
      named = says.1;
      number = sym (turn_entry (get_or nodes place blank).kept (turn_at nodes place blank turn.within turns))
          ∙ ap (λ n. n % 65536) turn.turn ∙ says.1;
    }

-- and its next page is aired, where its turn is the least
pub choice_found : (slot : ℕ) (nodes : List Node) (t entry place page : ℕ) → slot < 65536
    → All (IsRight slot) (kept_in nodes) → All HasTurn (kept_in nodes)
    → All (λ x. t ≤ ready_turn slot x) (seen_in slot nodes) → IsNamedTurn slot nodes t entry place
    → page ≡ (get_or nodes place blank).kept.scheduled.pages_aired + 1
    → IsChoice (seen_in slot nodes) slot (Some (entry, page))
choice_found slot nodes t entry place page few right turns least first next =
    let Chosen : ℕ → ℕ → Type 0 = λ e p. IsChoice (seen_in slot nodes) slot (Some (e, p)) in
    subst (λ p. Chosen entry p) (sym next) (subst (λ e. Chosen e ((get_or nodes place blank).kept.scheduled.pages_aired
    + 1)) first.named (choice_of_least slot nodes t place blank few right turns least first.turn))
