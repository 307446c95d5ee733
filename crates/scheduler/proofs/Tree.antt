-- Lemmas on what is ahead of the places of a plan.
use Rattle.std.proofs.Common.{◌≡◌, ◌≢◌, ℕ, zero, suc, ◌+◌, ◌-◌, ◌*◌, ◌/◌, ◌%◌, ◌≤◌, ◌<◌, List, [], ◌∷◌, ◌++◌, length}
use Rattle.std.proofs.Common.{get_or}
use Rattle.std.proofs.Common.{true, map, min, set, inl, inr, refl, sym, ap, subst, ◌∙◌, arith}
use Rattle.std.specs.List.{All}
use Rattle.std.proofs.lemmas.List.{length-map, get_or-map, map-set, get_or-set_same, get_or-set_other}
use Rattle.std.proofs.Math.Seq.{get_or-append_seam}
use Rattle.std.proofs.lemmas.List.{get_or_past, set-get_or, length-append}
use Rattle.std.proofs.lemmas.Bool.{cases_lt, cases_eq}
use Rattle.scheduler.specs.declared.turn.First.{First}
use Rattle.scheduler.specs.declared.progress.Progress.{Progress}
use Rattle.scheduler.specs.declared.tournament.Node.{Node}
use Rattle.scheduler.specs.QueueSteps.{aired, joined, nothing_ahead, no_turn, own, kept_in, ahead_at, own_at, node_with}
use Rattle.scheduler.specs.QueueSteps.{ahead_among, ahead_below, seen_in, IsRight, HasTurn}
use Rattle.scheduler.specs.QueueSteps.{IsNode, IsTree, IsTreeBut, IsTreeWithout, KeepsNodesBut, with_below}
use Rattle.scheduler.proofs.Turns.{IsAhead, IsAhead-same, IsAhead-trans, joined-left, joined-right, joined-one}

-- past the end nothing is ahead
pub ahead_at-past : (nodes : List Node) (k : ℕ) → length nodes ≤ k → ahead_at nodes k ≡ nothing_ahead
ahead_at-past nodes k h =
    get_or_past (map (λ (n : Node). n.ahead) nodes) k nothing_ahead
    (omega (arith, length-map nodes (λ (n : Node). n.ahead)))

-- nor of any message there
pub own_at-past : (nodes : List Node) (k : ℕ) → length nodes ≤ k → own_at nodes k ≡ nothing_ahead
own_at-past nodes k h =
    get_or_past (map own (kept_in nodes)) k nothing_ahead
    (omega (arith, length-map (kept_in nodes) own, length-map nodes (λ (n : Node). n.kept)))

-- nor of places that are all past the end
pub among-past : (nodes : List Node) (from n : ℕ) → length nodes ≤ from → ahead_among nodes from n ≡ nothing_ahead
among-past nodes from zero h = refl
among-past nodes from (suc n) h =
    rw (among-past nodes from n h, ahead_at-past nodes (from + n) (omega (arith, h))) refl

-- what is ahead of the places below one
pub below_is : (nodes : List Node) (place : ℕ) → ahead_below nodes place ≡ ahead_among nodes (place * 8 + 1) 8
unfolding ahead_below
below_is nodes place = refl

-- what is kept of a place is right where it is so of the same
pub node_is : (old new : List Node) (place : ℕ) → ahead_at new place ≡ ahead_at old place
    → own_at new place ≡ own_at old place → ahead_below new place ≡ ahead_below old place
    → IsNode old place → IsNode new place
node_is old new place first second third node =
    first ∙ node ∙ ap (λ a. joined a (ahead_below old place)) (sym second)
    ∙ ap (λ a. joined (own_at new place) a) (sym third)

-- so what is kept of it there is right
pub IsNode-past : (nodes : List Node) (k : ℕ) → length nodes ≤ k → IsNode nodes k
IsNode-past nodes k h =
    let below : ahead_below nodes k ≡ nothing_ahead = below_is nodes k
    ∙ among-past nodes (k * 8 + 1) 8 (omega (arith, h)) in
    ahead_at-past nodes k h ∙ ap (λ a. joined a nothing_ahead) (sym (own_at-past nodes k h))
    ∙ ap (λ a. joined (own_at nodes k) a) (sym below)

-- what is ahead of a message alone, by its place
pub own_at-is : (nodes : List Node) (k : ℕ) (d : Node) → k < length nodes → own_at nodes k ≡ own (get_or nodes k d).kept
own_at-is nodes k d h =
    get_or-map own (kept_in nodes) k d.kept nothing_ahead (omega (arith, length-map nodes (λ (n : Node). n.kept)))
    ∙ ap own (get_or-map (λ (n : Node). n.kept) nodes k d d.kept h)

-- what is ahead of some places is ahead of each of them
among_ahead : (nodes : List Node) (from n i : ℕ) → i < n
    → IsAhead (ahead_among nodes from n) (ahead_at nodes (from + i))
among_ahead nodes from zero i h = absurd (omega (arith, h))
among_ahead nodes from (suc n) i h = elim (cases_lt i n) [
  | inl before ↦ IsAhead-trans (ahead_among nodes from (suc n)) (ahead_among nodes from n) (ahead_at nodes (from + i))
      (joined-left (ahead_among nodes from n) (ahead_at nodes (from + n))) (among_ahead nodes from n i before)
  | inr not ↦
      let Goal : ℕ → Type 0 = λ k. IsAhead (ahead_among nodes from (suc n)) (ahead_at nodes (from + k)) in
      let here : n ≡ i = omega (arith, h, not) in
      subst Goal here (joined-right (ahead_among nodes from n) (ahead_at nodes (from + n)))
]

-- and its first turn is that of one of them
among_one : (nodes : List Node) (from n t : ℕ) → (ahead_among nodes from n).first ≡ t → t < no_turn
    → (i : ℕ) × ((i < n) × ((ahead_at nodes (from + i)).first ≡ t))
among_one nodes from zero t is less = absurd (omega (arith, is, less))
among_one nodes from (suc n) t is less =
    elim (joined-one (ahead_among nodes from n) (ahead_at nodes (from + n))) [
      | inl before ↦
          let one = among_one nodes from n t (sym before ∙ is) less in
          (one.0, (omega (arith, one.1.0), one.1.1))
      | inr here ↦ (n, (omega arith, sym here ∙ is))
    ]

-- it hangs on these places alone
pub among_same : (old new : List Node) (from n : ℕ)
    → ((i : ℕ) → i < n → ahead_at new (from + i) ≡ ahead_at old (from + i))
    → ahead_among new from n ≡ ahead_among old from n
among_same old new from zero same = refl
among_same old new from (suc n) same =
    rw (among_same old new from n (λ i h. same i (omega (arith, h))), same n (omega arith)) refl

-- and is looked at no sooner than each of them
pub among_awake : (nodes : List Node) (from n slot : ℕ) → slot < 4294967295
    → ((i : ℕ) → i < n → slot < (ahead_at nodes (from + i)).wake) → slot < (ahead_among nodes from n).wake
among_awake nodes from zero slot few awake = few
among_awake nodes from (suc n) slot few awake =
    let before = among_awake nodes from n slot few (λ i h. awake i (omega (arith, h))) in
    omega (arith, before, awake n (omega arith))

-- the same of the places below one
pub below_same : (old new : List Node) (place : ℕ)
    → ((i : ℕ) → i < 8 → ahead_at new (place * 8 + 1 + i) ≡ ahead_at old (place * 8 + 1 + i))
    → ahead_below new place ≡ ahead_below old place
below_same old new place same =
    below_is new place ∙ among_same old new (place * 8 + 1) 8 same ∙ sym (below_is old place)

-- a node sleeps no longer than the eight below it
pub below_awake : (nodes : List Node) (place slot : ℕ) → slot < 4294967295
    → ((i : ℕ) → i < 8 → slot < (ahead_at nodes (place * 8 + 1 + i)).wake) → slot < (ahead_below nodes place).wake
below_awake nodes place slot few awake =
    let is = ap (λ (a : First). a.wake) (below_is nodes place) in
    omega (arith, is, among_awake nodes (place * 8 + 1) 8 slot few awake)

-- the place above
abbrev above : ℕ → ℕ
above k = (k - 1) / 8

-- what is ahead of a place is ahead of each place below it
pub below_one : (nodes : List Node) (k i : ℕ) → i < 8 → IsNode nodes k
    → IsAhead (ahead_at nodes k) (ahead_at nodes (k * 8 + 1 + i))
below_one nodes k i h node =
    let mine = own_at nodes k in
    let below = ahead_below nodes k in
    let Goal : First → Type 0 = λ a. IsAhead a (ahead_at nodes (k * 8 + 1 + i)) in
    let Below : First → Type 0 = λ a. IsAhead a (ahead_at nodes (k * 8 + 1 + i)) in
    subst Goal (sym node) (IsAhead-trans (joined mine below) below (ahead_at nodes (k * 8 + 1 + i))
    (joined-right mine below) (subst Below (sym (below_is nodes k)) (among_ahead nodes (k * 8 + 1) 8 i h)))

-- what is ahead of place 0 is ahead of each
pub first_is_ahead : (nodes : List Node) → IsTree nodes → (n k : ℕ) → k ≤ n
    → IsAhead (ahead_at nodes 0) (ahead_at nodes k)
first_is_ahead nodes tree n zero h = IsAhead-same (ahead_at nodes 0)
first_is_ahead nodes tree zero (suc k) h = absurd (omega arith)
first_is_ahead nodes tree (suc n) (suc k) h =
    let up = above (suc k) in
    let before = first_is_ahead nodes tree n up (omega arith) in
    let Goal : ℕ → Type 0 = λ i. IsAhead (ahead_at nodes 0) (ahead_at nodes i) in
    let is : up * 8 + 1 + k % 8 ≡ suc k = omega arith in
    subst Goal is (IsAhead-trans _ _ _ before (below_one nodes up (k % 8) (omega arith) (tree up)))

-- and so of each message
pub ahead_of_all : (nodes : List Node) → IsTree nodes → (k : ℕ) → IsAhead (ahead_at nodes 0) (own_at nodes k)
ahead_of_all nodes tree k =
    let down = rw (tree k) at (first_is_ahead nodes tree k k (omega arith)) in
    IsAhead-trans _ _ _ down (joined-left (own_at nodes k) _)

-- the first turn is that of one of the messages
pub first_is_one : (nodes : List Node) → IsTree nodes → (t n k : ℕ) → length nodes ≤ k + n
    → (ahead_at nodes k).first ≡ t → t < no_turn → (i : ℕ) × ((i < length nodes) × ((own_at nodes i).first ≡ t))
first_is_one nodes tree t zero k h is less =
    absurd (omega (arith, ap (λ (a : First). a.first) (ahead_at-past nodes k (omega (arith, h))), is, less))
first_is_one nodes tree t (suc n) k h is less =
    let node = ap (λ (a : First). a.first) (tree k) in
    elim (cases_lt k (length nodes)) [
      | inr past ↦
          absurd (omega (arith, ap (λ (a : First). a.first) (ahead_at-past nodes k past), is, less))
      | inl within ↦ elim (joined-one (own_at nodes k) (ahead_below nodes k)) [
        | inl here ↦ (k, (within, sym here ∙ (sym node ∙ is)))
        | inr below ↦
            let first = ap (λ (a : First). a.first) (below_is nodes k) in
            let one = among_one nodes (k * 8 + 1) 8 t (sym first ∙ (sym below ∙ (sym node ∙ is))) less in
            first_is_one nodes tree t n (k * 8 + 1 + one.0) (omega (arith, h)) one.1.1 less
      ]
    ]

-- the places after a write
abbrev pub put_in : List Node → ℕ → Progress → List Node
put_in nodes place k = set nodes place (node_with nodes place k)

-- the messages are then the old ones but for that one
pub put_kept : (nodes : List Node) (place : ℕ) (k : Progress) → kept_in (put_in nodes place k) ≡ set
    (kept_in nodes) place k
put_kept nodes place k = map-set (λ (n : Node). n.kept) nodes place (node_with nodes place k)

-- and what is ahead of another place is as it was
pub put_others : (nodes : List Node) (place : ℕ) (k : Progress) (other : ℕ) → other ≢ place
    → ahead_at (put_in nodes place k) other ≡ ahead_at nodes other
put_others nodes place k other apart =
    ap (λ xs. get_or xs other nothing_ahead) (map-set (λ (n : Node). n.ahead) nodes place (node_with nodes place k))
    ∙ get_or-set_other (map (λ (n : Node). n.ahead) nodes) place other (node_with nodes place k).ahead nothing_ahead
    apart

put_own : (nodes : List Node) (place : ℕ) (k : Progress) (other : ℕ) → other ≢ place
    → own_at (put_in nodes place k) other ≡ own_at nodes other
put_own nodes place k other apart =
    ap (λ ks. get_or (map own ks) other nothing_ahead) (put_kept nodes place k)
    ∙ (ap (λ xs. get_or xs other nothing_ahead) (map-set own (kept_in nodes) place k)
    ∙ get_or-set_other (map own (kept_in nodes)) place other (own k) nothing_ahead apart)

-- what is ahead of the message at the place alone is then that of the new one
pub put_own_here : (nodes : List Node) (place : ℕ) (k : Progress) → place < length nodes
    → own_at (put_in nodes place k) place ≡ own k
put_own_here nodes place k h =
    ap (λ ks. get_or (map own ks) place nothing_ahead) (put_kept nodes place k)
    ∙ (ap (λ xs. get_or xs place nothing_ahead) (map-set own (kept_in nodes) place k)
    ∙ get_or-set_same (map own (kept_in nodes)) place (own k) nothing_ahead
    (omega (arith, length-map (kept_in nodes) own, length-map nodes (λ (n : Node). n.kept))))

-- the place that is written is right
pub put_node : (nodes : List Node) (place : ℕ) (k : Progress) → place < length nodes → IsNode
    (put_in nodes place k) place
put_node nodes place k h =
    let here = ap (λ xs. get_or xs place nothing_ahead) (map-set (λ (n : Node). n.ahead) nodes place
    (node_with nodes place k)) ∙ get_or-set_same (map (λ (n : Node). n.ahead) nodes) place
    (node_with nodes place k).ahead nothing_ahead (omega (arith, length-map nodes (λ (n : Node). n.ahead))) in
    let below = below_same nodes (put_in nodes place k) place (λ i g. put_others nodes place k (place * 8 + 1 + i)
    (λ e. omega (arith, e))) in
    here ∙ ap (λ a. joined a (ahead_below nodes place)) (sym (put_own_here nodes place k h))
    ∙ ap (λ a. joined (own_at (put_in nodes place k) place) a) (sym below)

-- and the others stay right, but perhaps the one above it
pub put_nodes : (nodes : List Node) (place : ℕ) (k : Progress) → place < length nodes
    → KeepsNodesBut nodes (put_in nodes place k) place
put_nodes nodes place k h = λ other below node.
    elim (cases_eq other place) [
      | inl same ↦ rw same (put_node nodes place k h)
      | inr apart ↦ node_is nodes (put_in nodes place k) other (put_others nodes place k other apart)
          (put_own nodes place k other apart) (below_same nodes (put_in nodes place k) other
          (λ i g. put_others nodes place k (other * 8 + 1 + i) (below i g))) node
    ]

-- and elsewhere all is right but perhaps the place above
pub put_above : (nodes : List Node) (place : ℕ) (k : Progress) → place < length nodes → 0 < place →
    IsTreeBut nodes place
    → IsTreeBut (put_in nodes place k) ((place - 1) / 8)
put_above nodes place k h below others = λ other not_above.
    elim (cases_eq other place) [
      | inl same ↦ rw same (put_node nodes place k h)
      | inr apart ↦ put_nodes nodes place k h other (λ i g e. not_above (omega (arith, g, e))) (others other apart)
    ]

-- a message written over by itself changes nothing
pub kept_same : (nodes : List Node) (place : ℕ) (d : Node) → place < length nodes
    → set (kept_in nodes) place (get_or nodes place d).kept ≡ kept_in nodes
kept_same nodes place d h =
    ap (λ k. set (kept_in nodes) place k) (sym (get_or-map (λ (n : Node). n.kept) nodes place d d.kept h))
    ∙ set-get_or (kept_in nodes) place d.kept

-- a place is looked at again no sooner than its message and the places below it
pub node_awake : (nodes : List Node) (place slot : ℕ) → IsNode nodes place → slot < (own_at nodes place).wake
    → slot < (ahead_below nodes place).wake → slot < (ahead_at nodes place).wake
node_awake nodes place slot node mine below =
    let is = ap (λ (a : First). a.wake) node in
    omega (arith, is, mine, below)

-- a message alone written over leaves what is ahead of the places as it was
abbrev pub kept_as : List Node → ℕ → Node → Progress → List Node
kept_as nodes place d k = set nodes place (record (get_or nodes place d) { kept = k })

-- to keep the progress of one message leaves those of the others
pub kept_as-kept : (nodes : List Node) (place : ℕ) (d : Node) (k : Progress)
    → kept_in (kept_as nodes place d k) ≡ set (kept_in nodes) place k
kept_as-kept nodes place d k = map-set (λ (n : Node). n.kept) nodes place (record (get_or nodes place d) { kept = k })

kept_as-ahead : (nodes : List Node) (place : ℕ) (d : Node) (k : Progress) (other : ℕ) → place < length nodes
    → ahead_at (kept_as nodes place d k) other ≡ ahead_at nodes other
kept_as-ahead nodes place d k other h =
    ap (λ xs. get_or xs other nothing_ahead) (map-set (λ (n : Node). n.ahead) nodes place
    (record (get_or nodes place d) { kept = k }) ∙ (ap (λ a. set (map (λ (n : Node). n.ahead) nodes) place a)
    (sym (get_or-map (λ (n : Node). n.ahead) nodes place d d.ahead h)) ∙ set-get_or (map (λ (n : Node). n.ahead) nodes)
    place d.ahead))

kept_as-own : (nodes : List Node) (place : ℕ) (d : Node) (k : Progress) (other : ℕ) → other ≢ place
    → own_at (kept_as nodes place d k) other ≡ own_at nodes other
kept_as-own nodes place d k other apart =
    ap (λ ks. get_or (map own ks) other nothing_ahead) (kept_as-kept nodes place d k)
    ∙ (ap (λ xs. get_or xs other nothing_ahead) (map-set own (kept_in nodes) place k)
    ∙ get_or-set_other (map own (kept_in nodes)) place other (own k) nothing_ahead apart)

-- so the others stay right
pub kept_as-others : (nodes : List Node) (place : ℕ) (d : Node) (k : Progress) → place < length nodes
    → IsTreeBut nodes place → IsTreeBut (kept_as nodes place d k) place
kept_as-others nodes place d k h others = λ other apart.
    node_is nodes (kept_as nodes place d k) other (kept_as-ahead nodes place d k other h)
    (kept_as-own nodes place d k other apart) (below_same nodes (kept_as nodes place d k) other
    (λ i g. kept_as-ahead nodes place d k (other * 8 + 1 + i) h)) (others other apart)

-- the turn of a message stays where a page is left of its broadcast
pub own_aired : (k : Progress) → k.is_open ≡ true → (aired k).is_open ≡ true → own k ≡ own (aired k)
own_aired k was is = rw (was, is) refl

-- what is ahead of the message at the place alone is then that of the new one
kept_as-own_here : (nodes : List Node) (place : ℕ) (d : Node) (k : Progress) → place < length nodes
    → own_at (kept_as nodes place d k) place ≡ own k
kept_as-own_here nodes place d k h =
    ap (λ ks. get_or (map own ks) place nothing_ahead) (kept_as-kept nodes place d k)
    ∙ (ap (λ xs. get_or xs place nothing_ahead) (map-set own (kept_in nodes) place k)
    ∙ get_or-set_same (map own (kept_in nodes)) place (own k) nothing_ahead
    (omega (arith, length-map (kept_in nodes) own, length-map nodes (λ (n : Node). n.kept))))

-- and where that is the same, all stays right
pub kept_as-tree : (nodes : List Node) (place : ℕ) (d : Node) (k : Progress) → place < length nodes
    → own_at nodes place ≡ own k → IsTree nodes → IsTree (kept_as nodes place d k)
kept_as-tree nodes place d k h turn tree = λ other.
    node_is nodes (kept_as nodes place d k) other (kept_as-ahead nodes place d k other h)
    (elim (cases_eq other place) [
      | inl here ↦ rw here (kept_as-own_here nodes place d k h ∙ sym turn)
      | inr apart ↦ kept_as-own nodes place d k other apart
    ])
    (below_same nodes (kept_as nodes place d k) other
    (λ i g. kept_as-ahead nodes place d k (other * 8 + 1 + i) h)) (tree other)

-- where what is ahead of the place is right, all is
pub all_right : (nodes : List Node) (place : ℕ) → IsNode nodes place → IsTreeBut nodes place → IsTree nodes
all_right nodes place node others = λ other. elim (cases_eq other place) [
  | inl same ↦ rw same node
  | inr apart ↦ others other apart
]

-- what is kept as ahead of a place, by its place
pub ahead_at-is : (nodes : List Node) (k : ℕ) (d : Node) → k < length nodes
    → ahead_at nodes k ≡ (get_or nodes k d).ahead
ahead_at-is nodes k d h = get_or-map (λ (n : Node). n.ahead) nodes k d nothing_ahead h

-- a write at a place that none is above leaves all right
pub put_top : (nodes : List Node) (place : ℕ) (k : Progress) → place < length nodes → place ≡ 0 → IsTreeBut nodes place
    → IsTree (put_in nodes place k)
put_top nodes place k h top others = λ other.
    elim (cases_eq other place) [
      | inl same ↦ rw same (put_node nodes place k h)
      | inr apart ↦ put_nodes nodes place k h other (λ i g e. omega (arith, top, e)) (others other apart)
    ]

-- the first turn is one, or none
among_most : (nodes : List Node) (from n : ℕ) → (ahead_among nodes from n).first ≤ no_turn
among_most nodes from zero = omega arith
among_most nodes from (suc n) = omega (arith, among_most nodes from n)

-- a node names a turn or none
pub first_most : (nodes : List Node) (place : ℕ) → IsNode nodes place → (ahead_at nodes place).first ≤ no_turn
first_most nodes place node =
    let is = ap (λ (a : First). a.first) node in
    let below = ap (λ (a : First). a.first) (below_is nodes place) in
    omega (arith, is, below, among_most nodes (place * 8 + 1) 8)

-- the places below one after so many of them were looked at again: what is seen is as before, what is kept is right,
-- what is ahead of the places before them is as it was, these are awake, and no place but the one is less right than
-- before
pub record AreRenewedTo (slot place n : ℕ) (old new : List Node) : Type 0 where
  pub long : length new ≡ length old
  pub seen : seen_in slot new ≡ seen_in slot old
  pub right : All (IsRight slot) (kept_in new)
  pub turns : All HasTurn (kept_in new)
  pub before : (k : ℕ) → k < place * 8 + 1 → ahead_at new k ≡ ahead_at old k
  pub awake : (i : ℕ) → i < n → slot < (ahead_at new (place * 8 + 1 + i)).wake
  pub nodes : (k : ℕ) → k ≢ place → IsNode old k → IsNode new k

-- one more of them was looked at again, with those below it
pub renewed_child : (slot place n : ℕ) (old mid new : List Node) → AreRenewedTo slot place n old mid
    → length new ≡ length mid → seen_in slot new ≡ seen_in slot mid → All (IsRight slot) (kept_in new)
    → All HasTurn (kept_in new) → ((k : ℕ) → k < place * 8 + 1 + n → ahead_at new k ≡ ahead_at mid k)
    → slot < (ahead_at new (place * 8 + 1 + n)).wake → KeepsNodesBut mid new (place * 8 + 1 + n) → n < 8
    → AreRenewedTo slot place (n + 1) old new
renewed_child slot place n old mid new was long seen right turns before awake nodes few = record {
  long = long ∙ was.long;
  seen = seen ∙ was.seen;
  right = right;
  turns = turns;
  before = λ k h. before k (omega (arith, h)) ∙ was.before k h;
  awake = λ i h. elim (cases_lt i n) [
    | inl less ↦
        let same = ap (λ (a : First). a.wake) (before (place * 8 + 1 + i) (omega (arith, less))) in
        omega (arith, same, was.awake i less)
    | inr not ↦
        let Awake : ℕ → Type 0 = λ j. slot < (ahead_at new (place * 8 + 1 + j)).wake in
        let here : n ≡ i = omega (arith, h, not) in
        subst Awake here awake
  ];
  nodes = λ k apart node. nodes k (λ i h e. apart (omega (arith, h, e, few))) (was.nodes k apart node);
}

-- what is ahead of some places and of the next one
pub among_more : (nodes : List Node) (from n : ℕ)
    → ahead_among nodes from (n + 1) ≡ joined (ahead_among nodes from n) (ahead_at nodes (from + n))
among_more nodes from n =
    let next : n + 1 ≡ suc n = omega arith in
    ap (ahead_among nodes from) next

-- what is ahead of some messages and of others and of further ones
joined-assoc : (a b c : First) → joined a (joined b c) ≡ joined (joined a b) c
joined-assoc a b c =
    let first : min a.first (min b.first c.first) ≡ min (min a.first b.first) c.first = omega arith in
    let wake : min a.wake (min b.wake c.wake) ≡ min (min a.wake b.wake) c.wake = omega arith in
    rw (first, wake) refl

joined-none : (a : First) → IsAhead a nothing_ahead → joined a nothing_ahead ≡ a
joined-none a most =
    let first : min a.first no_turn ≡ a.first = omega (arith, most.first) in
    let wake : min a.wake 4294967295 ≡ a.wake = omega (arith, most.wake) in
    rw (first, wake) refl

among-some : (nodes : List Node) (from n : ℕ) → IsAhead (ahead_among nodes from n) nothing_ahead
among-some nodes from zero = IsAhead-same nothing_ahead
among-some nodes from (suc n) =
    IsAhead-trans (ahead_among nodes from (suc n)) (ahead_among nodes from n) nothing_ahead
    (joined-left (ahead_among nodes from n) (ahead_at nodes (from + n))) (among-some nodes from n)

-- what is ahead of some places and of those after them is ahead of all of these
pub among_both : (nodes : List Node) (from n more : ℕ)
    → joined (ahead_among nodes from n) (ahead_among nodes (from + n) more) ≡ ahead_among nodes from (n + more)
among_both nodes from n zero =
    let same : n ≡ n + 0 = omega arith in
    joined-none (ahead_among nodes from n) (among-some nodes from n) ∙ ap (ahead_among nodes from) same
among_both nodes from n (suc more) =
    let one : n + more + 1 ≡ n + suc more = omega arith in
    let at : from + n + more ≡ from + (n + more) = omega arith in
    joined-assoc (ahead_among nodes from n) (ahead_among nodes (from + n) more) (ahead_at nodes (from + n + more))
    ∙ (ap (λ a. joined a (ahead_at nodes (from + n + more))) (among_both nodes from n more)
    ∙ (ap (λ k. joined (ahead_among nodes from (n + more)) (ahead_at nodes k)) at
    ∙ (sym (among_more nodes from (n + more)) ∙ ap (ahead_among nodes from) one)))

-- what is ahead of some places is ahead of as many more, where these are past the end
pub among_short : (nodes : List Node) (from n more : ℕ) → length nodes ≤ from + n
    → ahead_among nodes from n ≡ ahead_among nodes from (n + more)
among_short nodes from n more past =
    sym (joined-none (ahead_among nodes from n) (among-some nodes from n))
    ∙ ap (joined (ahead_among nodes from n)) (sym (among-past nodes (from + n) more past))
    ∙ among_both nodes from n more

-- what is ahead of the place that is written
pub put_here : (nodes : List Node) (place : ℕ) (k : Progress) → place < length nodes
    → ahead_at (put_in nodes place k) place ≡ with_below nodes place (own k)
put_here nodes place k h =
    ap (λ xs. get_or xs place nothing_ahead) (map-set (λ (n : Node). n.ahead) nodes place (node_with nodes place k))
    ∙ get_or-set_same (map (λ (n : Node). n.ahead) nodes) place (node_with nodes place k).ahead nothing_ahead
    (omega (arith, length-map nodes (λ (n : Node). n.ahead)))

-- what is ahead of some messages and of others is ahead of these and of those
pub joined-both : (a b : First) → joined a b ≡ joined b a
joined-both a b =
    let first : min a.first b.first ≡ min b.first a.first = omega arith in
    let wake : min a.wake b.wake ≡ min b.wake a.wake = omega arith in
    rw (first, wake) refl

joined-swap : (a b c : First) → joined (joined a b) c ≡ joined (joined a c) b
joined-swap a b c =
    let first : min (min a.first b.first) c.first ≡ min (min a.first c.first) b.first = omega arith in
    let wake : min (min a.wake b.wake) c.wake ≡ min (min a.wake c.wake) b.wake = omega arith in
    rw (first, wake) refl

-- what more is ahead of one of some places is ahead of all of these
among_raised : (old new : List Node) (from n i : ℕ) (more : First) → i < n
    → ahead_at new (from + i) ≡ joined (ahead_at old (from + i)) more
    → ((k : ℕ) → k < n → k ≢ i → ahead_at new (from + k) ≡ ahead_at old (from + k))
    → ahead_among new from n ≡ joined (ahead_among old from n) more
among_raised old new from zero i more h here others = absurd (omega (arith, h))
among_raised old new from (suc n) i more h here others =
    let mine = ahead_among old from n in
    let last = ahead_at old (from + n) in
    elim (cases_lt i n) [
      | inl before ↦
          let less = among_raised old new from n i more before here (λ k g apart. others k (omega (arith, g)) apart) in
          let same = others n (omega arith) (λ e. omega (arith, e, before)) in
          ap (λ a. joined a (ahead_at new (from + n))) less ∙ ap (joined (joined mine more)) same
          ∙ joined-swap mine more last
      | inr not ↦
          let at : i ≡ n = omega (arith, h, not) in
          let Raised : ℕ → Type 0 = λ k. ahead_at new (from + k) ≡ joined (ahead_at old (from + k)) more in
          let less = among_same old new from n (λ k g. others k (omega (arith, g)) (λ e. omega (arith, e, g, at))) in
          ap (λ a. joined a (ahead_at new (from + n))) less ∙ ap (joined mine) (subst Raised at here)
          ∙ joined-assoc mine last more
    ]

-- so the place above lacks the same
pub raised_above : (nodes : List Node) (place : ℕ) (k : Progress) (more : First) → place < length nodes → 0 < place
    → own_at nodes place ≡ own k → IsTreeWithout nodes place more
    → IsTreeWithout (put_in nodes place k) ((place - 1) / 8) more
raised_above nodes place k more h some mine was =
    let up = (place - 1) / 8 in
    let i = (place - 1) % 8 in
    let new = put_in nodes place k in
    let is : place ≡ up * 8 + 1 + i = omega (arith, some) in
    let apart : up ≢ place = λ e. omega (arith, e, some) in
    let here : ahead_at new place ≡ joined (ahead_at nodes place) more =
    put_here nodes place k h ∙ ap (with_below nodes place) (sym mine) ∙ sym was.here in
    let Raised : ℕ → Type 0 = λ j. ahead_at new j ≡ joined (ahead_at nodes j) more in
    let below : ahead_below new up ≡ joined (ahead_below nodes up) more =
    below_is new up ∙ among_raised nodes new (up * 8 + 1) 8 i more (omega arith) (subst Raised is here)
    (λ j g other. put_others nodes place k (up * 8 + 1 + j) (λ e. other (omega (arith, e, is))))
    ∙ ap (λ a. joined a more) (sym (below_is nodes up)) in
    let node = was.others up apart in
    let own_same = put_own nodes place k up apart in
    record {
      others = put_above nodes place k h some was.others;
      here = ap (λ a. joined a more) (put_others nodes place k up apart ∙ node)
          ∙ sym (joined-assoc (own_at nodes up) (ahead_below nodes up) more)
          ∙ ap (joined (own_at nodes up)) (sym below)
          ∙ ap (λ a. joined a (ahead_below new up)) (sym own_same);
    }

-- nothing more is ahead of some places and of none
among_nothing : (nodes : List Node) (from n : ℕ)
    → joined nothing_ahead (ahead_among nodes from n) ≡ ahead_among nodes from n
among_nothing nodes from zero = refl
among_nothing nodes from (suc n) =
    joined-assoc nothing_ahead (ahead_among nodes from n) (ahead_at nodes (from + n))
    ∙ ap (λ a. joined a (ahead_at nodes (from + n))) (among_nothing nodes from n)

-- where nothing was ahead of the message at a place, what is ahead of the new one alone is missing there
pub kept_as-without : (nodes : List Node) (place : ℕ) (d : Node) (k : Progress) → place < length nodes
    → own_at nodes place ≡ nothing_ahead → IsTree nodes → IsTreeWithout (kept_as nodes place d k) place (own k)
kept_as-without nodes place d k h none tree =
    let new = kept_as nodes place d k in
    let below : ahead_below new place ≡ ahead_below nodes place = below_same nodes new place
    (λ i g. kept_as-ahead nodes place d k (place * 8 + 1 + i) h) in
    let empty : joined nothing_ahead (ahead_below nodes place) ≡ ahead_below nodes place =
    ap (joined nothing_ahead) (below_is nodes place) ∙ among_nothing nodes (place * 8 + 1) 8
    ∙ sym (below_is nodes place) in
    let was : ahead_at new place ≡ ahead_below nodes place = kept_as-ahead nodes place d k place h ∙ tree place
    ∙ ap (λ a. joined a (ahead_below nodes place)) none ∙ empty in
    record {
      others = kept_as-others nodes place d k h (λ other apart. tree other);
      here = ap (λ a. joined a (own k)) was ∙ joined-both (ahead_below nodes place) (own k)
          ∙ ap (joined (own k)) (sym below)
          ∙ ap (λ a. joined a (ahead_below new place)) (sym (kept_as-own_here nodes place d k h));
    }

-- one place more, of a message that nothing is ahead of, leaves all right
pub pushed_tree : (nodes : List Node) (n : Node) → n.ahead ≡ nothing_ahead → own n.kept ≡ nothing_ahead
    → IsTreeBut (nodes ++ n ∷ []) (length nodes) → IsTree (nodes ++ n ∷ [])
pushed_tree nodes n none mine others =
    let all = nodes ++ n ∷ [] in
    let place = length nodes in
    let within : place < length all = omega (arith, length-append nodes (n ∷ [])) in
    let last : get_or all place n ≡ n = get_or-append_seam nodes n [] n in
    let ahead : ahead_at all place ≡ nothing_ahead = ahead_at-is all place n within
    ∙ ap (λ (m : Node). m.ahead) last ∙ none in
    let alone : own_at all place ≡ nothing_ahead = own_at-is all place n within
    ∙ ap (λ (m : Node). own m.kept) last ∙ mine in
    let below : ahead_below all place ≡ nothing_ahead = below_is all place
    ∙ among-past all (place * 8 + 1) 8 (omega (arith, length-append nodes (n ∷ []))) in
    all_right all place (ahead ∙ ap (λ a. joined a nothing_ahead) (sym alone)
    ∙ ap (joined (own_at all place)) (sym below)) others
