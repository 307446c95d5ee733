-- Lemmas on the messages of a plan in their trees, one behind the other.
use Rattle.std.proofs.Common.{◌≡◌, ℕ, zero, suc, ◌+◌, ◌-◌, ◌≤◌, ◌<◌, ◌⊎◌, List, [], ◌∷◌, ◌++◌, length, get_or, set}
use Rattle.std.proofs.Common.{false, take, drop, min, inl, inr, refl, sym, ap, subst, ◌∙◌, arith}
use Rattle.std.specs.List.{All}
use Rattle.std.proofs.Math.Seq.{take-append_seam, drop-append_seam, take-set-lt}
use Rattle.std.proofs.lemmas.List.{take-set-le, drop-set-lt, drop-set-add, get_or-take, get_or-drop, length-take}
use Rattle.std.proofs.lemmas.List.{length-drop}
use Rattle.std.proofs.lemmas.Bool.{cases_lt, cases_Bool}
use Rattle.std.proofs.lemmas.List.{append-nil, length-append, length-map, take_all, drop_all, take-append-le}
use Rattle.std.proofs.lemmas.List.{drop-append-le, nil_from_length, set-append_left, set-append_right}
use Rattle.std.proofs.lemmas.List.{get_or_append_left, get_or-append-add, get_or_default, map_push, set_at}
use Rattle.std.proofs.lemmas.List.Elements.{All-append, All-push}
use Rattle.scheduler.specs.declared.tournament.Node.{Node}
use Rattle.scheduler.specs.declared.turn.First.{First}
use Rattle.scheduler.specs.declared.progress.Progress.{Progress}
use Rattle.scheduler.specs.declared.scheduled.Scheduled.{Scheduled}
use Rattle.scheduler.specs.QueueSteps.{kept_in, seen_in, seen, own, nothing_ahead, tree_size, IsTree, IsForest}
use Rattle.scheduler.specs.QueueSteps.{IsRight, HasTurn, AreKeptInOrder, AreInTrees, AreRising, AreBehind, IsNotBehind}
use Rattle.scheduler.specs.QueueSteps.{no_turn}
use Rattle.scheduler.specs.QueueSteps.{turn_number, ready_turn, HasThatTurn, IsLeastTurn}
use Rattle.scheduler.specs.declared.plan.Rank.{Rank}
use Rattle.scheduler.specs.Air.{layer_of, class_of}
use Rattle.scheduler.specs.Follows.{message_of}
use Rattle.scheduler.specs.PlanSteps.{is_ready}
use Rattle.scheduler.proofs.Air.{broadcast_at-not_due}
use Rattle.scheduler.proofs.Counts.{is_ready-started}
use Rattle.scheduler.proofs.FirstTurn.{blank, turn_at, seen_at, ready_turned, layer_few, class_few}
use Rattle.scheduler.proofs.Places.{right_at}
use Rattle.scheduler.proofs.Ended.{kept_both, seen_both, rising_before, rising_behind}
use Rattle.scheduler.proofs.Found.{push_others}
use Rattle.scheduler.proofs.Tree.{IsNode-past, pushed_tree, kept_as-tree, own_at-is}

-- what is true of all elements of two lists is true of those of the first
pub All-before : {X : Type 0} (P : X → Type 0) (xs ys : List X) → All P (xs ++ ys) → All P xs
All-before P xs ys all = λ k d h.
    subst P (get_or_append_left xs ys d k h) (all k d (omega (arith, length-append xs ys, h)))

-- and of those of the second
pub All-behind : {X : Type 0} (P : X → Type 0) (xs ys : List X) → All P (xs ++ ys) → All P ys
All-behind P xs ys all = λ k d h.
    subst P (get_or-append-add xs ys k d) (all (length xs + k) d (omega (arith, length-append xs ys, h)))

-- no message stands in no tree
pub forest_none : (later : ℕ) → IsForest later []
forest_none zero = λ place. IsNode-past [] place (omega arith)
forest_none (suc later) = (
  subst IsTree (sym (take_all (tree_size (suc later)) [] (omega arith))) (λ place. IsNode-past [] place (omega arith)),
  subst (IsForest later) (sym (drop_all (tree_size (suc later)) [] (omega arith))) (forest_none later),
)

-- the messages of the first tree, and those behind it
pub record IsCut (later : ℕ) (near far : List Node) : Type 0 where
  pub few : length near ≤ tree_size later
  pub whole : (length near ≡ tree_size later) ⊎ (far ≡ [])

-- they are cut so at the size of the tree
pub cut_at : (later cut : ℕ) (nodes near far : List Node) → cut ≡ min (tree_size later) (length nodes)
    → nodes ≡ near ++ far → length near ≡ cut → IsCut later near far
cut_at later cut nodes near far is both long =
    let sum : length nodes ≡ length near + length far = omega (arith, ap length both, length-append near far) in
    record {
      few = omega (arith, is, long);
      whole = elim (cases_lt (length nodes) (tree_size later)) [
        | inl short ↦ inr (nil_from_length far (omega (arith, short, is, long, sum)))
        | inr enough ↦ inl (omega (arith, enough, is, long))
      ];
    }

-- and stay so where each is written over
pub cut_same : (later : ℕ) (near far near' far' : List Node) → length near' ≡ length near → length far' ≡ length far
    → IsCut later near far → IsCut later near' far'
cut_same later near far near' far' first second cut = record {
  few = omega (arith, cut.few, first);
  whole = elim cut.whole [
    | inl long ↦ inl (omega (arith, long, first))
    | inr none ↦ inr (nil_from_length far' (omega (arith, second, ap length none)))
  ];
}

-- a tree and those behind it are all trees
pub forest_of : (later : ℕ) (near far : List Node) → 0 < later → IsCut later near far → IsTree near
    → IsForest (later - 1) far → IsForest later (near ++ far)
forest_of zero near far some cut tree forest = absurd (omega (arith, some))
forest_of (suc later) near far some cut tree behind =
    let size = tree_size (suc later) in
    let less : suc later - 1 ≡ later = omega arith in
    let Far : ℕ → Type 0 = λ n. IsForest n far in
    let forest : IsForest later far = subst Far less behind in
    elim cut.whole [
      | inl long ↦ (
        subst IsTree (sym (ap (λ n. take n (near ++ far)) (sym long) ∙ take-append_seam near far)) tree,
        subst (IsForest later) (sym (ap (λ n. drop n (near ++ far)) (sym long) ∙ drop-append_seam near far)) forest,
      )
      | inr none ↦
          let all : near ++ far ≡ near = ap (λ xs. near ++ xs) none ∙ append-nil near in (
            subst IsTree (sym (ap (take size) all ∙ take_all size near cut.few)) tree,
            subst (IsForest later) (sym (ap (drop size) all ∙ drop_all size near cut.few)) (forest_none later),
          )
    ]

-- and so all trees are one and those behind it
pub forest_parts : (later : ℕ) (near far : List Node) → 0 < later → IsCut later near far → IsForest later (near ++ far)
    → IsTree near × IsForest (later - 1) far
forest_parts zero near far some cut forest = absurd (omega (arith, some))
forest_parts (suc later) near far some cut forest =
    let size = tree_size (suc later) in
    let less : later ≡ suc later - 1 = omega arith in
    let Far : ℕ → Type 0 = λ n. IsForest n far in
    elim cut.whole [
      | inl long ↦ (
        subst IsTree (ap (λ n. take n (near ++ far)) (sym long) ∙ take-append_seam near far) forest.0,
        subst Far less (subst (IsForest later) (ap (λ n. drop n (near ++ far)) (sym long) ∙ drop-append_seam near far)
            forest.1),
      )
      | inr none ↦
          let all : near ++ far ≡ near = ap (λ xs. near ++ xs) none ∙ append-nil near in (
            subst IsTree (ap (take size) all ∙ take_all size near cut.few) forest.0,
            subst Far less (subst (IsForest later) (sym none) (forest_none later)),
          )
    ]

-- one place more, of a message that nothing is ahead of, leaves all trees right
pub forest_pushed : (later : ℕ) (nodes : List Node) (k : Progress) → own k ≡ nothing_ahead → IsForest later nodes
    → IsForest later (nodes ++ record { kept = k; ahead = nothing_ahead } ∷ [])
forest_pushed zero nodes k mine tree =
    pushed_tree nodes (record { kept = k; ahead = nothing_ahead }) refl mine (push_others nodes k tree)
forest_pushed (suc later) nodes k mine forest =
    let n : Node = record { kept = k; ahead = nothing_ahead } in
    let size = tree_size (suc later) in
    elim (cases_lt (length nodes) size) [
      | inl room ↦
          let tree : IsTree nodes = subst IsTree (take_all size nodes (omega (arith, room))) forest.0 in
          let whole = length-append nodes (n ∷ []) in (
            subst IsTree (sym (take_all size (nodes ++ n ∷ []) (omega (arith, room, whole))))
                (pushed_tree nodes n refl mine (push_others nodes k tree)),
            subst (IsForest later) (sym (drop_all size (nodes ++ n ∷ []) (omega (arith, room, whole))))
                (forest_none later),
          )
      | inr full ↦ (
        subst IsTree (sym (take-append-le size nodes (n ∷ []) full)) forest.0,
        subst (IsForest later) (sym (drop-append-le size nodes (n ∷ []) full)) (forest_pushed later (drop size nodes) k
            mine forest.1),
      )
    ]

-- what is kept where a message of the first tree is written over
pub kept_near : (near far changed : List Node) (place : ℕ) (k : Progress) → place < length near
    → kept_in changed ≡ set (kept_in near) place k → kept_in (changed ++ far) ≡ set (kept_in (near ++ far)) place k
kept_near near far changed place k within is =
    let long = length-map near (λ (n : Node). n.kept) in
    kept_both changed far ∙ (ap (λ ks. ks ++ kept_in far) is
    ∙ (sym (set-append_left (kept_in near) (kept_in far) place k (omega (arith, long, within)))
    ∙ ap (λ ks. set ks place k) (sym (kept_both near far))))

-- and where one of a later tree is
pub kept_far : (near far changed : List Node) (place : ℕ) (k : Progress) → length near ≤ place
    → kept_in changed ≡ set (kept_in far) (place - length near) k
    → kept_in (near ++ changed) ≡ set (kept_in (near ++ far)) place k
kept_far near far changed place k behind is =
    let long = length-map near (λ (n : Node). n.kept) in
    kept_both near changed ∙ (ap (λ ks. kept_in near ++ ks) is
    ∙ (sym (set-append_right (kept_in near) (kept_in far) (length near) place k long behind)
    ∙ ap (λ ks. set ks place k) (sym (kept_both near far))))

-- what is true of the first tree
pub order_near : (slot later : ℕ) (near far : List Node) → 0 < later → IsCut later near far
    → AreInTrees slot later (near ++ far) → AreKeptInOrder slot near
order_near slot later near far some cut kept =
    let AllRight : List Progress → Type 0 = λ ks. All (IsRight slot) ks in
    let AllTurns : List Progress → Type 0 = λ ks. All HasTurn ks in
    record {
      right = All-before (IsRight slot) (kept_in near) (kept_in far) (subst AllRight (kept_both near far) kept.right);
      turns = All-before HasTurn (kept_in near) (kept_in far) (subst AllTurns (kept_both near far) kept.turns);
      tree = (forest_parts later near far some cut kept.trees).0;
    }

-- and of the later ones
pub trees_far : (slot later : ℕ) (near far : List Node) → 0 < later → IsCut later near far
    → AreInTrees slot later (near ++ far) → AreInTrees slot (later - 1) far
trees_far slot later near far some cut kept =
    let AllRight : List Progress → Type 0 = λ ks. All (IsRight slot) ks in
    let AllTurns : List Progress → Type 0 = λ ks. All HasTurn ks in
    record {
      right = All-behind (IsRight slot) (kept_in near) (kept_in far) (subst AllRight (kept_both near far) kept.right);
      turns = All-behind HasTurn (kept_in near) (kept_in far) (subst AllTurns (kept_both near far) kept.turns);
      trees = (forest_parts later near far some cut kept.trees).1;
    }

-- is true of both
pub trees_both : (slot later : ℕ) (near far : List Node) → 0 < later → IsCut later near far → AreKeptInOrder slot near
    → AreInTrees slot (later - 1) far → AreInTrees slot later (near ++ far)
trees_both slot later near far some cut kept behind =
    let AllRight : List Progress → Type 0 = λ ks. All (IsRight slot) ks in
    let AllTurns : List Progress → Type 0 = λ ks. All HasTurn ks in
    record {
      right = subst AllRight (sym (kept_both near far)) (All-append (IsRight slot) (kept_in near) (kept_in far)
          kept.right behind.right);
      turns = subst AllTurns (sym (kept_both near far)) (All-append HasTurn (kept_in near) (kept_in far) kept.turns
          behind.turns);
      trees = forest_of later near far some cut kept.tree behind.trees;
    }

-- the numbers of the first tree's messages rise, and those of the later ones
pub rising_parts : (near far : List Node) → AreRising (near ++ far) → AreRising near × AreRising far
rising_parts near far rising = (
  rising_before (λ (n : Node). n.kept.scheduled.item.entry) near far rising,
  rising_behind (λ (n : Node). n.kept.scheduled.item.entry) near far rising,
)

-- a turn of the first tree is one of all
turn_near : (slot : ℕ) (near far : List Node) (t : ℕ) → HasThatTurn slot near t → HasThatTurn slot (near ++ far) t
turn_near slot near far t has =
    let Awake : Node → Type 0 = λ n. slot < n.kept.until in
    record {
      place = has.place;
      within = omega (arith, has.within, length-append near far);
      awake = λ d. subst Awake (sym (get_or_append_left near far d has.place has.within)) (has.awake d);
      turned = λ d. ap (λ (n : Node). (own n.kept).first) (get_or_append_left near far d has.place has.within)
          ∙ has.turned d;
    }

-- and so is one of a later tree
turn_far : (slot : ℕ) (near far : List Node) (t : ℕ) → HasThatTurn slot far t → HasThatTurn slot (near ++ far) t
turn_far slot near far t has =
    let Awake : Node → Type 0 = λ n. slot < n.kept.until in
    record {
      place = length near + has.place;
      within = omega (arith, has.within, length-append near far);
      awake = λ d. subst Awake (sym (get_or-append-add near far has.place d)) (has.awake d);
      turned = λ d. ap (λ (n : Node). (own n.kept).first) (get_or-append-add near far has.place d) ∙ has.turned d;
    }

-- the least turn of the first tree is that of all where none behind it has one before it
pub least_near : (slot : ℕ) (near far : List Node) (t : ℕ) → IsLeastTurn slot near t
    → All (λ x. t ≤ ready_turn slot x) (seen_in slot far) → IsLeastTurn slot (near ++ far) t
least_near slot near far t first behind =
    let Least : List Scheduled → Type 0 = λ ts. All (λ x. t ≤ ready_turn slot x) ts in
    record {
      least = subst Least (sym (seen_both slot near far)) (All-append (λ x. t ≤ ready_turn slot x) (seen_in slot near)
          (seen_in slot far) first.least behind);
      found = elim first.found [ inl none ↦ inl none | inr has ↦ inr (turn_near slot near far t has) ];
    }

-- and else it is the lesser one of both
pub least_both : (slot : ℕ) (near far : List Node) (t u : ℕ) → IsLeastTurn slot near t → IsLeastTurn slot far u
    → IsLeastTurn slot (near ++ far) (min t u)
least_both slot near far t u first second =
    let Least : List Scheduled → Type 0 = λ ts. All (λ x. min t u ≤ ready_turn slot x) ts in
    let Found : ℕ → Type 0 = λ x. (x ≡ no_turn) ⊎ HasThatTurn slot (near ++ far) x in
    record {
      least = subst Least (sym (seen_both slot near far)) (All-append (λ x. min t u ≤ ready_turn slot x)
          (seen_in slot near) (seen_in slot far) (λ k d h. omega (arith, first.least k d h))
          (λ k d h. omega (arith, second.least k d h)));
      found = elim (cases_lt t u) [
        | inl less ↦ subst Found (omega (arith, less)) (elim first.found [
          | inl none ↦ inl none
          | inr has ↦ inr (turn_near slot near far t has)
        ])
        | inr not ↦ subst Found (omega (arith, not)) (elim second.found [
          | inl none ↦ inl none
          | inr has ↦ inr (turn_far slot near far u has)
        ])
      ];
    }

-- no message has a turn before one of the foremost rank that is due at the next slot, with the number of the first
pub none_before : (slot turn : ℕ) (foremost : Rank) (nodes : List Node) → slot < 65535
    → All (IsRight slot) (kept_in nodes) → All HasTurn (kept_in nodes) → AreRising nodes
    → AreBehind foremost (seen_in slot nodes)
    → turn ≤ turn_number (layer_of foremost) (slot + 1) (class_of foremost)
    (get_or nodes 0 blank).kept.scheduled.item.entry
    → All (λ t. turn ≤ ready_turn slot t) (seen_in slot nodes)
none_before slot turn foremost nodes within right turns rising behind first = λ k e inside.
    let entry = (get_or nodes 0 blank).kept.scheduled.item.entry in
    let d : Node = record { kept = record { scheduled = e; until = 0; is_open = false }; ahead = nothing_ahead } in
    let t = get_or (seen_in slot nodes) k e in
    let long = length-map (kept_in nodes) (seen slot) in
    let longer = length-map nodes (λ (n : Node). n.kept) in
    let h : k < length nodes = omega (arith, long, longer, inside) in
    let there = seen_at slot nodes k d e h in
    let kept = right_at slot nodes k d h right in
    let some : 0 < length nodes = omega (arith, h) in
    let here = ap (λ (n : Node). n.kept.scheduled.item.entry) (get_or_default nodes 0 blank d some) in
    let small = (turn_at nodes 0 blank some turns).number in
    let number : entry ≤ (get_or nodes k d).kept.scheduled.item.entry = elim (cases_lt 0 k) [
      | inl after ↦ omega (arith, rising 0 k d after h, here)
      | inr same ↦
          let at : k ≡ 0 = omega (arith, same) in
          omega (arith, here, ap (λ i. (get_or nodes i d).kept.scheduled.item.entry) at)
    ] in
    let named = ap (λ (x : Scheduled). x.item.entry) there in
    let periods = ap (λ (x : Scheduled). x.item.period) there in
    let rank = behind k e inside in
    elim (cases_Bool (is_ready t slot)) [
      | inl ready ↦
          let not_due = broadcast_at-not_due (message_of t) slot (omega (arith, kept.fit.some_period, periods))
          (is_ready-started t slot ready) in
          omega (arith, first, ready_turned slot t ready, not_due, rank.by_layer, rank.by_class, number, named)
      | inr not ↦
          let none : ready_turn slot t ≡ no_turn = rw not refl in
          omega (arith, first, none, layer_few foremost, class_few foremost, small, within)
    ]

-- a message behind the others, written over by another
pub kept_pushed : (nodes : List Node) (n : Node) (k : Progress)
    → set (kept_in (nodes ++ n ∷ [])) (length nodes) k ≡ kept_in nodes ++ k ∷ []
kept_pushed nodes n k =
    ap (λ ks. set ks (length nodes) k) (map_push (λ (x : Node). x.kept) nodes n)
    ∙ set_at (kept_in nodes) n.kept [] k (length nodes) (length-map nodes (λ (x : Node). x.kept))

-- what no message comes before, none comes before another rank that does
pub ranks_before : (a b : Rank) (ts : List Scheduled) → IsNotBehind b a → AreBehind a ts → AreBehind b ts
ranks_before a b ts first ranks = λ k d h.
    let its = ranks k d h in
    record {
      by_layer = omega (arith, first.by_layer, its.by_layer);
      by_class = omega (arith, first.by_class, its.by_class);
    }

-- nor does one more that does not
pub ranks_pushed : (a b : Rank) (ts : List Scheduled) (t : Scheduled) → IsNotBehind b a → IsNotBehind b t.item.rank
    → AreBehind a ts → AreBehind b (ts ++ t ∷ [])
ranks_pushed a b ts t first last ranks =
    All-push (λ x. IsNotBehind b x.item.rank) ts t (ranks_before a b ts first ranks) last

-- a message that is written over by one with the same ahead of it leaves its tree right
tree_set : (nodes : List Node) (place : ℕ) (n : Node) → place < length nodes
    → n.ahead ≡ (get_or nodes place blank).ahead → own n.kept ≡ own (get_or nodes place blank).kept
    → IsTree nodes → IsTree (set nodes place n)
tree_set nodes place n h ahead mine tree =
    let Is : First → Type 0 = λ a. IsTree (set nodes place (record { kept = n.kept; ahead = a })) in
    subst Is (sym ahead) (kept_as-tree nodes place blank n.kept h (own_at-is nodes place blank h ∙ sym mine) tree)

-- and so it leaves all trees
pub forest_set : (later : ℕ) (nodes : List Node) (place : ℕ) (n : Node) → place < length nodes
    → n.ahead ≡ (get_or nodes place blank).ahead → own n.kept ≡ own (get_or nodes place blank).kept
    → IsForest later nodes → IsForest later (set nodes place n)
forest_set zero nodes place n h ahead mine tree = tree_set nodes place n h ahead mine tree
forest_set (suc later) nodes place n h ahead mine forest =
    let size = tree_size (suc later) in
    elim (cases_lt place size) [
      | inl before ↦
          let same = sym (get_or-take size nodes place blank before) in
          let within : place < length (take size nodes) = omega (arith, length-take size nodes, h, before) in (
            subst IsTree (sym (take-set-lt size nodes place n before)) (tree_set (take size nodes) place n within
                (ahead ∙ ap (λ (m : Node). m.ahead) same) (mine ∙ ap (λ (m : Node). own m.kept) same) forest.0),
            subst (IsForest later) (sym (drop-set-lt size nodes place n before)) forest.1,
          )
      | inr behind ↦
          let i = place - size in
          let is : place ≡ size + i = omega (arith, behind) in
          let same : get_or nodes place blank ≡ get_or (drop size nodes) i blank =
          ap (λ j. get_or nodes j blank) is ∙ sym (get_or-drop size nodes i blank) in
          let within : i < length (drop size nodes) = omega (arith, length-drop size nodes, h, behind) in (
            subst IsTree (sym (take-set-le size nodes place n behind)) forest.0,
            subst (IsForest later) (sym (ap (λ j. drop size (set nodes j n)) is ∙ drop-set-add size nodes i n))
                (forest_set later (drop size nodes) i n within (ahead ∙ ap (λ (m : Node). m.ahead) same)
                (mine ∙ ap (λ (m : Node). own m.kept) same) forest.1),
          )
    ]
