-- Lemmas on the list of the places that are due.
use Rattle.std.proofs.Common.{◌≡◌, ◌≢◌, ℕ, zero, suc, ◌+◌, ◌-◌, ◌*◌, ◌/◌, ◌%◌, ◌≤◌, ◌<◌, List, length, get_or, set}
use Rattle.std.proofs.Common.{Bool, true, false, cond, leb, inl, inr, refl, sym, ap, subst, ◌∙◌, arith}
use Rattle.std.specs.List.{All}
use Rattle.std.proofs.lemmas.List.{get_or-set_other, get_or-set_same, length-set}
use Rattle.std.proofs.lemmas.Bool.{cases_lt, cases_eq, leb-true, leb-false}
use Rattle.scheduler.specs.declared.turn.First.{First}
use Rattle.scheduler.specs.declared.tournament.Node.{Node}
use Rattle.scheduler.specs.QueueSteps.{ahead_at, own_at, seen_in, kept_in, IsRight, HasTurn, AreKeptInOrder}
use Rattle.scheduler.specs.QueueSteps.{IsNode, IsTree, KeepsNodesBut, IsDue, AreListed, AreDue}
use Rattle.scheduler.proofs.Tree.{ahead_at-past, below_one, below_awake, node_awake, first_is_ahead}

-- what is due stands at a place
pub due_within : (slot : ℕ) (nodes : List Node) (k : ℕ) → slot < 4294967295 → IsDue slot nodes k → k < length nodes
due_within slot nodes k few due = elim (cases_lt k (length nodes)) [
  | inl within ↦ within
  | inr past ↦ absurd (omega (arith, few, due, ap (λ (a : First). a.wake) (ahead_at-past nodes k past)))
]

-- the place above one that is due is due
pub above_due : (slot : ℕ) (nodes : List Node) (k i : ℕ) → IsTree nodes → i < 8 → IsDue slot nodes (k * 8 + 1 + i)
    → IsDue slot nodes k
above_due slot nodes k i tree h due = omega (arith, due, (below_one nodes k i h (tree k)).wake)

-- places that aren't due may be left out
pub listed_past : (slot : ℕ) (nodes : List Node) (listed : List ℕ) (count bound further : ℕ)
    → AreListed slot nodes listed count bound → bound ≤ further
    → ((k : ℕ) → bound ≤ k → k < further → slot < (ahead_at nodes k).wake) → AreListed slot nodes listed count further
listed_past slot nodes listed count bound further are more awake = record {
  few = omega (arith, are.few, more);
  room = are.room;
  due = are.due;
  before = λ i h. omega (arith, are.before i h, more);
  rising = are.rising;
  all = λ k h due. elim (cases_lt k bound) [
    | inl before ↦ are.all k before due
    | inr not ↦ absurd (omega (arith, due, awake k not h))
  ];
}

-- so may those past the end
pub listed_end : (slot : ℕ) (nodes : List Node) (listed : List ℕ) (count bound further : ℕ) → slot < 4294967295
    → AreListed slot nodes listed count bound → bound ≤ further → length nodes ≤ bound
    → AreListed slot nodes listed count further
listed_end slot nodes listed count bound further few are more past =
    listed_past slot nodes listed count bound further are more (λ k h g.
    omega (arith, few, ap (λ (a : First). a.wake) (ahead_at-past nodes k (omega (arith, past, h)))))

-- what is written behind the listed places changes none of these
pub listed_other : (listed : List ℕ) (count place i : ℕ) → i < count
    → get_or (set listed count place) i 0 ≡ get_or listed i 0
listed_other listed count place i h =
    get_or-set_other listed count i place 0 (λ same. omega (arith, h, same))

listed_written : (slot : ℕ) (nodes : List Node) (listed : List ℕ) (count bound place : ℕ)
    → AreListed slot nodes listed count bound → AreListed slot nodes (set listed count place) count bound
listed_written slot nodes listed count bound place are = record {
  few = are.few;
  room = are.room;
  due = λ i h.
      let Due : ℕ → Type 0 = λ k. IsDue slot nodes k in
      subst Due (sym (listed_other listed count place i h)) (are.due i h);
  before = λ i h. omega (arith, are.before i h, listed_other listed count place i h);
  rising = λ i j less h. omega (
    arith,
    are.rising i j less h,
    listed_other listed count place i (omega (arith, less, h)),
    listed_other listed count place j h,
  );
  all = λ k h due.
      let one = are.all k h due in
      (one.0, (one.1.0, listed_other listed count place one.0 one.1.0 ∙ one.1.1));
}

-- one more that is due is listed
pub listed_more : (slot : ℕ) (nodes : List Node) (listed : List ℕ) (count bound : ℕ)
    → AreListed slot nodes listed count bound → count < length listed → get_or listed count 0 ≡ bound
    → bound < length nodes → IsDue slot nodes bound → AreListed slot nodes listed (count + 1) (bound + 1)
listed_more slot nodes listed count bound are room here within due = record {
  few = omega (arith, are.few);
  room = omega (arith, are.few, within);
  due = λ i h. elim (cases_lt i count) [
    | inl before ↦ are.due i before
    | inr not ↦
        let last : count ≡ i = omega (arith, h, not) in
        let Due : ℕ → Type 0 = λ k. IsDue slot nodes k in
        subst Due (sym here ∙ ap (λ n. get_or listed n 0) last) due
  ];
  before = λ i h. elim (cases_lt i count) [
    | inl before ↦ omega (arith, are.before i before)
    | inr not ↦
        let last : count ≡ i = omega (arith, h, not) in
        omega (arith, here, ap (λ n. get_or listed n 0) last)
  ];
  rising = λ i j less h. elim (cases_lt j count) [
    | inl before ↦ are.rising i j less before
    | inr not ↦
        let last : count ≡ j = omega (arith, h, not) in
        omega (arith, here, ap (λ n. get_or listed n 0) last, are.before i (omega (arith, less, h)))
  ];
  all = λ k h is. elim (cases_lt k bound) [
    | inl before ↦ let one = are.all k before is in (one.0, (omega (arith, one.1.0), one.1.1))
    | inr not ↦ (count, (omega arith, here ∙ omega (arith, h, not)))
  ];
}

-- a place that is written behind the listed ones, and counted if it is due
pub listed_place : (slot : ℕ) (nodes : List Node) (listed : List ℕ) (count place : ℕ) (is_due : Bool)
    → AreListed slot nodes listed count place → count < length listed → place < length nodes
    → is_due ≡ leb (ahead_at nodes place).wake slot
    → AreListed slot nodes (set listed count place) (count + cond is_due 1 0) (place + 1)
listed_place slot nodes listed count place true are room within is =
    listed_more slot nodes (set listed count place) count place (listed_written slot nodes listed count place place are)
    (omega (arith, room, length-set listed count place)) (get_or-set_same listed count place 0 room) within
    (leb-true (ahead_at nodes place).wake slot (sym is))
listed_place slot nodes listed count place false are room within is =
    let none : count ≡ count + 0 = omega arith in
    let Listed : ℕ → Type 0 = λ n. AreListed slot nodes (set listed count place) n (place + 1) in
    let awake : (k : ℕ) → place ≤ k → k < place + 1 → slot < (ahead_at nodes k).wake = λ k from till.
    let here : k ≡ place = omega (arith, from, till) in
    omega (arith, ap (λ j. (ahead_at nodes j).wake) here, leb-false (ahead_at nodes place).wake slot (sym is)) in
    subst Listed none (listed_past slot nodes (set listed count place) count place (place + 1)
    (listed_written slot nodes listed count place place are) (omega arith) awake)

-- no place is due between the places below one that was looked at and those below the next one
pub none_between : (slot : ℕ) (nodes : List Node) (listed : List ℕ) (count bound looked further : ℕ) → IsTree nodes
    → AreListed slot nodes listed count bound → 1 ≤ bound
    → ((i : ℕ) → i < looked → get_or listed i 0 * 8 + 9 ≤ bound)
    → ((i : ℕ) → looked ≤ i → i < count → further ≤ get_or listed i 0 * 8 + 1)
    → (n k : ℕ) → k ≤ n → bound ≤ k → k < further → slot < (ahead_at nodes k).wake
none_between slot nodes listed count bound looked further tree are some done next zero k h from till =
    absurd (omega (arith, h, some, from))
none_between slot nodes listed count bound looked further tree are some done next (suc n) k h from till =
    elim (cases_lt slot (ahead_at nodes k).wake) [
      | inl awake ↦ awake
      | inr due ↦
          let up = (k - 1) / 8 in
          let is : k ≡ up * 8 + 1 + (k - 1) % 8 = omega (arith, some, from) in
          let Due : ℕ → Type 0 = λ j. IsDue slot nodes j in
          let above = above_due slot nodes up ((k - 1) % 8) tree (omega arith) (subst Due is due) in
          elim (cases_lt up bound) [
            | inl before ↦
                let one = are.all up before above in
                elim (cases_lt one.0 looked) [
                  | inl was ↦ absurd (omega (arith, done one.0 was, one.1.1, is, from))
                  | inr not ↦ absurd (omega (arith, next one.0 not one.1.0, one.1.1, is, till))
                ]
            | inr past ↦ absurd (
                let awake = none_between slot nodes listed count bound looked further tree are some done next n up
                (omega (arith, h, is)) past (omega (arith, is, till)) in
                omega (arith, above, awake)
                )
          ]
    ]

-- where all that were listed were looked at, these are all that are due
pub all_listed : (slot : ℕ) (nodes : List Node) (listed : List ℕ) (count bound : ℕ) → IsTree nodes
    → AreListed slot nodes listed count bound → 1 ≤ bound
    → ((i : ℕ) → i < count → get_or listed i 0 * 8 + 9 ≤ bound) → AreDue slot nodes listed count
all_listed slot nodes listed count bound tree are some done = record {
  room = are.room;
  due = are.due;
  rising = are.rising;
  all = λ k due. elim (cases_lt k bound) [
    | inl before ↦ are.all k before due
    | inr not ↦ absurd (
        let awake = none_between slot nodes listed count bound count (k + 1) tree are some done
        (λ i past h. absurd (omega (arith, past, h))) k k (omega arith) not (omega arith) in
        omega (arith, due, awake)
        )
  ];
}

-- the places that are listed, some of them looked at with those below them
pub record AreLooked (slot : ℕ) (nodes : List Node) (listed : List ℕ) (count looked bound : ℕ) : Type 0 where
  pub are : AreListed slot nodes listed count bound
  pub some : 1 ≤ bound
  pub within : looked ≤ count
  pub done : (i : ℕ) → i < looked → get_or listed i 0 * 8 + 9 ≤ bound
  pub next : (i : ℕ) → looked ≤ i → i < count → bound ≤ get_or listed i 0 * 8 + 1

-- place 0 alone
pub looked_first : (slot : ℕ) (nodes : List Node) (listed : List ℕ) → 0 < length listed → get_or listed 0 0 ≡ 0
    → 0 < length nodes → IsDue slot nodes 0 → AreLooked slot nodes listed 1 0 1
looked_first slot nodes listed long here within due =
    let none : AreListed slot nodes listed 0 0 = record {
      few = omega arith;
      room = omega arith;
      due = λ i h. absurd (omega (arith, h));
      before = λ i h. absurd (omega (arith, h));
      rising = λ i j less h. absurd (omega (arith, h));
      all = λ k h is. absurd (omega (arith, h));
    } in
    record {
      are = listed_more slot nodes listed 0 0 none long here within due;
      some = omega arith;
      within = omega arith;
      done = λ i h. absurd (omega (arith, h));
      next = λ i h less. omega arith;
    }

-- before the next is looked at, no place between is due
pub listed_to_next : (slot : ℕ) (nodes : List Node) (listed : List ℕ) (count looked bound : ℕ) → IsTree nodes
    → AreLooked slot nodes listed count looked bound → looked < count
    → AreListed slot nodes listed count (get_or listed looked 0 * 8 + 1)
listed_to_next slot nodes listed count looked bound tree was more =
    let further = get_or listed looked 0 * 8 + 1 in
    let next : (i : ℕ) → looked ≤ i → i < count → further ≤ get_or listed i 0 * 8 + 1 = λ i past h.
    elim (cases_lt looked i) [
      | inl after ↦ omega (arith, was.are.rising looked i after h)
      | inr not ↦
          let here : looked ≡ i = omega (arith, past, not) in
          omega (arith, ap (λ n. get_or listed n 0) here)
    ] in
    listed_past slot nodes listed count bound further was.are (was.next looked (omega arith) more) (λ k from till.
    none_between slot nodes listed count bound looked further tree was.are was.some was.done next k k (omega arith) from
    till)

-- and after it one more was
pub looked_more : (slot : ℕ) (nodes : List Node) (old new : List ℕ) (count longer looked bound : ℕ)
    → AreLooked slot nodes old count looked bound → looked < count
    → ((i : ℕ) → i < count → get_or new i 0 ≡ get_or old i 0) → count ≤ longer
    → AreListed slot nodes new longer (get_or old looked 0 * 8 + 9)
    → AreLooked slot nodes new longer (looked + 1) (get_or old looked 0 * 8 + 9)
looked_more slot nodes old new count longer looked bound was more same longer_is are = record {
  are = are;
  some = omega arith;
  within = omega (arith, more, longer_is);
  done = λ i h. elim (cases_lt i looked) [
    | inl before ↦ omega (
      arith,
      was.done i before,
      was.next looked (omega arith) more,
      same i (omega (arith, before, more)),
    )
    | inr not ↦
        let here : looked ≡ i = omega (arith, h, not) in
        omega (arith, same i (omega (arith, h, more)), ap (λ n. get_or old n 0) here)
  ];
  next = λ i past h. omega (arith, are.rising looked i (omega (arith, past)) h, same looked more);
}

-- so many listed places still to be looked at, the others and those that aren't due are right
pub record AreRenewed (slot : ℕ) (listed : List ℕ) (left : ℕ) (old new : List Node) : Type 0 where
  pub long : length new ≡ length old
  pub seen : seen_in slot new ≡ seen_in slot old
  pub right : All (IsRight slot) (kept_in new)
  pub turns : All HasTurn (kept_in new)
  pub nodes : (k : ℕ) → ((i : ℕ) → i < left → get_or listed i 0 ≢ k) → IsNode new k
  pub awake : (k : ℕ) → ((i : ℕ) → i < left → get_or listed i 0 ≢ k) → slot < (ahead_at new k).wake

-- at first
pub renewed_none : (slot : ℕ) (nodes : List Node) (listed : List ℕ) (count : ℕ) → AreDue slot nodes listed count
    → AreKeptInOrder slot nodes → AreRenewed slot listed count nodes nodes
renewed_none slot nodes listed count due kept = record {
  long = refl;
  seen = refl;
  right = kept.right;
  turns = kept.turns;
  nodes = λ k apart. kept.tree k;
  awake = λ k apart. elim (cases_lt slot (ahead_at nodes k).wake) [
    | inl awake ↦ awake
    | inr is ↦ let one = due.all k is in absurd (apart one.0 one.1.0 one.1.1)
  ];
}

-- one more of them was looked at
pub renewed_more : (slot : ℕ) (listed : List ℕ) (count left : ℕ) (old mid new : List Node) → slot < 4294967295
    → IsTree old → AreDue slot old listed count → left < count → AreRenewed slot listed (left + 1) old mid
    → length new ≡ length mid → seen_in slot new ≡ seen_in slot mid
    → All (IsRight slot) (kept_in new) → All HasTurn (kept_in new)
    → ((k : ℕ) → k ≢ get_or listed left 0 → ahead_at new k ≡ ahead_at mid k)
    → slot < (own_at new (get_or listed left 0)).wake → IsNode new (get_or listed left 0)
    → KeepsNodesBut mid new (get_or listed left 0) → AreRenewed slot listed left old new
renewed_more slot listed count left old mid new few tree due within was long seen right turns others mine node keeps =
    let place = get_or listed left 0 in
    let wake : (k : ℕ) → k ≢ place → (ahead_at new k).wake ≡ (ahead_at mid k).wake = λ k apart.
    ap (λ (a : First). a.wake) (others k apart) in
    let more : (k : ℕ) → k ≢ place → ((i : ℕ) → i < left → get_or listed i 0 ≢ k) → (i : ℕ) → i < left + 1
    → get_or listed i 0 ≢ k = λ k apart but i h same.
    elim (cases_lt i left) [
      | inl before ↦ but i before same
      | inr not ↦
          let here : i ≡ left = omega (arith, h, not) in
          apart (sym same ∙ ap (λ n. get_or listed n 0) here)
    ] in
    let below : (i : ℕ) → i < 8 → slot < (ahead_at new (place * 8 + 1 + i)).wake = λ i h.
    let child = place * 8 + 1 + i in
    let behind : (j : ℕ) → j < left + 1 → get_or listed j 0 ≢ child = λ j less same.
    elim (cases_lt j left) [
      | inl before ↦ omega (arith, due.rising j left before within, same)
      | inr not ↦
          let here : j ≡ left = omega (arith, less, not) in
          omega (arith, ap (λ n. get_or listed n 0) here, same)
    ] in
    omega (arith, wake child (λ same. omega (arith, same)), was.awake child behind) in
    record {
      long = long ∙ was.long;
      seen = seen ∙ was.seen;
      right = right;
      turns = turns;
      nodes = λ k but. elim (cases_eq k place) [
        | inl same ↦ rw same node
        | inr apart ↦
            keeps k (λ i h same.
            let Due : ℕ → Type 0 = λ j. IsDue slot old j in
            let one = due.all k (above_due slot old k i tree h (subst Due (sym same) (due.due left within))) in
            elim (cases_lt one.0 left) [
              | inl before ↦ but one.0 before one.1.1
              | inr not ↦ elim (cases_lt left one.0) [
                | inl after ↦ omega (arith, due.rising left one.0 after one.1.0, one.1.1, same)
                | inr nor ↦
                    let here : one.0 ≡ left = omega (arith, not, nor) in
                    apart (sym one.1.1 ∙ ap (λ n. get_or listed n 0) here)
              ]
            ]) (was.nodes k (more k apart but))
      ];
      awake = λ k but. elim (cases_eq k place) [
        | inl same ↦
            rw same (node_awake new place slot node mine (below_awake new place slot few below))
        | inr apart ↦ omega (arith, wake k apart, was.awake k (more k apart but))
      ];
    }

-- where place 0 isn't due, none is
pub none_due : (slot : ℕ) (nodes : List Node) (listed : List ℕ) → IsTree nodes → slot < (ahead_at nodes 0).wake
    → AreDue slot nodes listed 0
none_due slot nodes listed tree awake = record {
  room = omega arith;
  due = λ i h. absurd (omega (arith, h));
  rising = λ i j less h. absurd (omega (arith, h));
  all = λ k due. absurd (omega (arith, awake, due, (first_is_ahead nodes tree k k (omega arith)).wake));
}
