-- Lemmas on the message of a number, where there is one.
use Rattle.std.proofs.Common.{◌≡◌, ◌≢◌, ◌<◌, ◌==◌, ℕ, zero, suc, ◌+◌, ◌*◌, ◌≤◌, List, [], ◌∷◌, ◌++◌, arith, length}
use Rattle.std.proofs.Common.{set, get_or, map, Some, None, sym, ap, ◌∙◌, refl}
use Rattle.std.specs.List.{All, Any}
use Rattle.std.proofs.lemmas.Bool.{eq-eqb, ne_eqb}
use Rattle.std.proofs.lemmas.Option.{none-some}
use Rattle.std.proofs.lemmas.List.{get_or_default, length-map, map_push}
use Rattle.std.proofs.lemmas.List.Elements.{All-set}
use Rattle.scheduler.specs.declared.tournament.Node.{Node}
use Rattle.scheduler.specs.declared.progress.Progress.{Progress}
use Rattle.scheduler.specs.declared.turn.First.{First}
use Rattle.scheduler.specs.declared.scheduled.Scheduled.{Scheduled}
use Rattle.scheduler.specs.PlanSteps.{scheduled_stopped}
use Rattle.scheduler.specs.QueueSteps.{kept_in, seen_in, IsRight, IsTree, IsTreeBut, AreRising, IsPlaceOf, IsFoundTurn}
use Rattle.scheduler.specs.QueueSteps.{seen, aired, stopped, nothing_ahead, ahead_at, own_at, own, HasTurn}
use Rattle.scheduler.proofs.Places.{kept_at, right_at, place_is, same_place}
use Rattle.scheduler.proofs.FirstTurn.{seen_at, turn_at, blank}
use Rattle.scheduler.proofs.Tree.{node_is, below_same}
use Rattle.scheduler.proofs.Passed.{map_but_one, map_same, map_twice}
use Rattle.scheduler.proofs.Windows.{IsRight-stopped}

-- the message of a number is at its place, or nowhere
pub not_there : (entry : ℕ) (nodes : List Node) (place : ℕ) (d : Node) → AreRising nodes → IsPlaceOf entry nodes place
    → (place < length nodes → (get_or nodes place d).kept.scheduled.item.entry ≢ entry) → IsFoundTurn entry nodes None
not_there entry nodes place d rising found other = λ k e within named.
    let at = place_is nodes entry place k e rising found within named in
    let inside : place < length nodes = omega (arith, at, within) in
    let here = ap (λ i. (get_or nodes i e).kept.scheduled.item.entry) at in
    let same = ap (λ (n : Node). n.kept.scheduled.item.entry) (get_or_default nodes place d e inside) in
    other inside (same ∙ (here ∙ named))

-- what is seen of the message at a place
pub seen_entry : (slot : ℕ) (nodes : List Node) (k : ℕ) (t : Scheduled) → k < length (seen_in slot nodes)
    → (k < length nodes) × (get_or (seen_in slot nodes) k t ≡ seen slot (get_or nodes k blank).kept)
seen_entry slot nodes k t within =
    let inside : k < length nodes = omega (
      arith,
      within,
      length-map (kept_in nodes) (seen slot),
      length-map nodes (λ (n : Node). n.kept),
    ) in
    (inside, seen_at slot nodes k blank t inside)

-- the same for one that is known
seen_there : (slot : ℕ) (nodes : List Node) (k : ℕ) → k < length nodes → k < length (seen_in slot nodes)
seen_there slot nodes k h =
    omega (arith, h, length-map (kept_in nodes) (seen slot), length-map nodes (λ (n : Node). n.kept))

-- where none has that number
pub none_named : (entry slot : ℕ) (nodes : List Node) → IsFoundTurn entry nodes None
    → All (λ t. t.item.entry ≢ entry) (seen_in slot nodes)
none_named entry slot nodes none = λ k t within named.
    let at = seen_entry slot nodes k t within in
    none k blank at.0 (sym (ap (λ (x : Scheduled). x.item.entry) at.1) ∙ named)

-- where one has it
pub one_named : (entry slot : ℕ) (nodes : List Node) (place : ℕ) → IsFoundTurn entry nodes (Some place)
    → Any (λ t. t.item.entry ≡ entry) (seen_in slot nodes)
one_named entry slot nodes place found =
    let t = seen slot (get_or nodes place blank).kept in
    (place, t, seen_there slot nodes place found.0, seen_at slot nodes place blank t found.0, found.1 blank)

-- and where it wasn't stopped, one stands
pub one_standing : (entry slot : ℕ) (nodes : List Node) (place : ℕ) → IsFoundTurn entry nodes (Some place)
    → (get_or nodes place blank).kept.scheduled.stop ≡ None
    → Any (λ t. (t.item.entry ≡ entry) × (t.stop ≡ None)) (seen_in slot nodes)
one_standing entry slot nodes place found standing =
    let t = seen slot (get_or nodes place blank).kept in (
      place,
      t,
      seen_there slot nodes place found.0,
      seen_at slot nodes place blank t found.0,
      (found.1 blank, standing),
    )

-- it is the only one
pub only_named : (entry slot : ℕ) (nodes : List Node) (place : ℕ) → AreRising nodes
    → IsFoundTurn entry nodes (Some place)
    → All (λ t. t.item.entry ≡ entry → t ≡ seen slot (get_or nodes place blank).kept) (seen_in slot nodes)
only_named entry slot nodes place rising found = λ k t within. λ named.
    let at = seen_entry slot nodes k t within in
    let same = same_place nodes k place blank rising at.0 found.0
    (sym (ap (λ (x : Scheduled). x.item.entry) at.1) ∙ (named ∙ sym (found.1 blank))) in
    at.1 ∙ ap (λ i. seen slot (get_or nodes i blank).kept) same

-- and where it was stopped, none of that number stands
pub one_stopped : (entry slot stop : ℕ) (nodes : List Node) (place : ℕ) → AreRising nodes
    → IsFoundTurn entry nodes (Some place) → (get_or nodes place blank).kept.scheduled.stop ≡ Some stop
    → All (λ t. t.item.entry ≡ entry → t.stop ≢ None) (seen_in slot nodes)
one_stopped entry slot stop nodes place rising found is = λ k t within. λ named none.
    let same = ap (λ (x : Scheduled). x.stop) (only_named entry slot nodes place rising found k t within named) in
    none-some stop (sym none ∙ (same ∙ is))

-- the numbers before the end are below
pub all_below : (entry slot : ℕ) (nodes : List Node) (place : ℕ) → IsPlaceOf entry nodes place → place ≡ length nodes
    → All (λ t. t.item.entry < entry) (seen_in slot nodes)
all_below entry slot nodes place found at_end = λ k t within.
    let at = seen_entry slot nodes k t within in
    let less = found.before k blank (omega (arith, at.0, at_end)) in
    let same = ap (λ (x : Scheduled). x.item.entry) at.1 in
    omega (arith, less, same)

-- and where there is a message behind, one isn't
pub any_behind : (entry slot : ℕ) (nodes : List Node) (place : ℕ) → IsPlaceOf entry nodes place → place ≢ length nodes
    → Any (λ t. entry ≤ t.item.entry) (seen_in slot nodes)
any_behind entry slot nodes place found not_end =
    let within : place < length nodes = omega (arith, found.within, not_end) in
    let t = seen slot (get_or nodes place blank).kept in (
      place,
      t,
      seen_there slot nodes place within,
      seen_at slot nodes place blank t within,
      found.behind place blank (omega arith) within,
    )

-- a stop of a number that none has
pub stopped_none : (entry slot : ℕ) (nodes : List Node) → IsFoundTurn entry nodes None
    → seen_in slot nodes ≡ map (λ (t : Scheduled). scheduled_stopped (t.item.entry == entry) slot t)
    (seen_in slot nodes)
stopped_none entry slot nodes none =
    map_same (seen slot) (λ k. scheduled_stopped (k.scheduled.item.entry == entry) slot (seen slot k)) (kept_in nodes)
    (λ k d h.
    let e : Node = record { kept = d; ahead = nothing_ahead } in
    let inside : k < length nodes = omega (arith, length-map nodes (λ (n : Node). n.kept), h) in
    let at = kept_at nodes k e inside in
    let other = ne_eqb _ entry (λ same. none k e inside (sym (ap (λ (x : Progress). x.scheduled.item.entry) at)
    ∙ same)) in
    rw other refl)
    ∙ map_twice (λ (t : Scheduled). scheduled_stopped (t.item.entry == entry) slot t) (seen slot) (kept_in nodes)

-- and of one that has it
pub stopped_one : (entry slot : ℕ) (nodes : List Node) (place : ℕ) → AreRising nodes
    → IsFoundTurn entry nodes (Some place)
    → map (seen slot) (set (kept_in nodes) place (stopped slot (get_or nodes place blank).kept)) ≡ map
    (λ (t : Scheduled). scheduled_stopped (t.item.entry == entry) slot t) (seen_in slot nodes)
stopped_one entry slot nodes place rising found =
    map_but_one (seen slot) (λ k. scheduled_stopped (k.scheduled.item.entry == entry) slot (seen slot k))
    (kept_in nodes)
    place (stopped slot (get_or nodes place blank).kept)
    (λ k d h apart.
    let e : Node = record { kept = d; ahead = nothing_ahead } in
    let inside : k < length nodes = omega (arith, length-map nodes (λ (n : Node). n.kept), h) in
    let at = kept_at nodes k e inside in
    let other = ne_eqb _ entry (λ same. apart (same_place nodes k place e rising inside found.0
    (sym (ap (λ (x : Progress). x.scheduled.item.entry) at) ∙ (same ∙ sym (found.1 e))))) in
    rw other refl)
    (λ d h.
    let at = sym (kept_at nodes place blank found.0) ∙ get_or_default (kept_in nodes) place blank.kept d h in
    let same = eq-eqb _ entry (found.1 blank) in
    rw (← at, same) refl)
    ∙ map_twice (λ (t : Scheduled). scheduled_stopped (t.item.entry == entry) slot t) (seen slot) (kept_in nodes)

-- what is kept stays right
pub right_stopped : (slot : ℕ) (nodes : List Node) (place : ℕ) → place < length nodes
    → All (IsRight slot) (kept_in nodes)
    → All (IsRight slot) (set (kept_in nodes) place (stopped slot (get_or nodes place blank).kept))
right_stopped slot nodes place within right =
    All-set (IsRight slot) (kept_in nodes) place _ (IsRight-stopped _ slot (right_at slot nodes place blank within
    right)) right

-- and has a turn, as one that was aired does
pub turns_stopped : (slot : ℕ) (nodes : List Node) (place : ℕ) → place < length nodes → All HasTurn (kept_in nodes)
    → All HasTurn (set (kept_in nodes) place (stopped slot (get_or nodes place blank).kept))
turns_stopped slot nodes place within turns =
    let has = turn_at nodes place blank within turns in
    All-set HasTurn (kept_in nodes) place _ (record { slot = has.slot; number = has.number; period = has.period }) turns

-- to air a page of one message leaves the turns of all in range
pub turns_aired : (nodes : List Node) (place : ℕ) → place < length nodes → All HasTurn (kept_in nodes)
    → All HasTurn (set (kept_in nodes) place (aired (get_or nodes place blank).kept))
turns_aired nodes place within turns =
    let has = turn_at nodes place blank within turns in
    All-set HasTurn (kept_in nodes) place _ (record { slot = has.slot; number = has.number; period = has.period }) turns

-- a place more, with nothing ahead, leaves the others right
pub push_others : (nodes : List Node) (k : Progress) → IsTree nodes
    → IsTreeBut (nodes ++ record { kept = k; ahead = nothing_ahead } ∷ []) (length nodes)
push_others nodes k tree = λ place apart.
    node_is nodes (nodes ++ new ∷ []) place (ahead_same place) (own_same place apart)
    (below_same nodes (nodes ++ new ∷ []) place (λ i h. ahead_same (place * 8 + 1 + i))) (tree place)
  where
    new : Node
    new = record { kept = k; ahead = nothing_ahead }

    past_or_there : (xs : List First) (i : ℕ) → get_or (xs ++ nothing_ahead ∷ []) i nothing_ahead ≡ get_or xs i
        nothing_ahead
    past_or_there [] zero = refl
    past_or_there [] (suc i) = refl
    past_or_there (x ∷ xs) zero = refl
    past_or_there (x ∷ xs) (suc i) = past_or_there xs i

    ahead_same : (i : ℕ) → ahead_at (nodes ++ new ∷ []) i ≡ ahead_at nodes i
    ahead_same i =
        let long = length-map nodes (λ (n : Node). n.ahead) in
        ap (λ xs. get_or xs i nothing_ahead) (map_push (λ (n : Node). n.ahead) nodes new)
        ∙ past_or_there (map (λ (n : Node). n.ahead) nodes) i

    but_last : (xs : List First) (x : First) (i : ℕ) → i ≢ length xs → get_or (xs ++ x ∷ []) i nothing_ahead ≡ get_or
        xs i nothing_ahead
    but_last [] x zero apart = absurd (apart refl)
    but_last [] x (suc i) apart = refl
    but_last (y ∷ xs) x zero apart = refl
    but_last (y ∷ xs) x (suc i) apart = but_last xs x i (λ e. apart (omega (arith, e)))

    own_same : (i : ℕ) → i ≢ length nodes → own_at (nodes ++ new ∷ []) i ≡ own_at nodes i
    own_same i apart =
        let long = length-map (kept_in nodes) own in
        let longer = length-map nodes (λ (n : Node). n.kept) in
        ap (λ ks. get_or (map own ks) i nothing_ahead) (map_push (λ (n : Node). n.kept) nodes new)
        ∙ (ap (λ xs. get_or xs i nothing_ahead) (map_push own (kept_in nodes) k)
        ∙ but_last (map own (kept_in nodes)) (own k) i (λ e. apart (omega (arith, e, long, longer))))
