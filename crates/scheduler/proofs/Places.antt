-- Lemmas on the messages of a plan, one changed and the others as they were.
use Rattle.std.proofs.Common.{◌≡◌, ◌<◌, ℕ, ◌+◌, ◌≤◌, List, arith, length, set, get_or, map, sym, ap}
use Rattle.std.proofs.Common.{◌∙◌, inl, inr}
use Rattle.std.specs.List.{All}
use Rattle.std.proofs.lemmas.Bool.{cases_lt}
use Rattle.std.proofs.lemmas.List.{get_or_default, map-set, set-get_or, get_or-map, length-map}
use Rattle.std.proofs.lemmas.List.Elements.{All-set}
use Rattle.scheduler.specs.declared.tournament.Node.{Node}
use Rattle.scheduler.specs.declared.progress.Progress.{Progress}
use Rattle.scheduler.specs.QueueSteps.{kept_in, seen_in, IsRight, refreshed, seen, AreRising, IsPlaceOf}
use Rattle.scheduler.proofs.Lists.{rising-same}
use Rattle.scheduler.proofs.Tree.{put_in, put_kept}
use Rattle.scheduler.proofs.Windows.{seen_renewed}

-- the message at a place
pub kept_at : (nodes : List Node) (place : ℕ) (d : Node) → place < length nodes
    → get_or (kept_in nodes) place d.kept ≡ (get_or nodes place d).kept
kept_at nodes place d h = get_or-map (λ (n : Node). n.kept) nodes place d d.kept h

-- each message is right
pub right_at : (slot : ℕ) (nodes : List Node) (place : ℕ) (d : Node) → place < length nodes
    → All (IsRight slot) (kept_in nodes) → IsRight slot (get_or nodes place d).kept
right_at slot nodes place d h right =
    rw (← kept_at nodes place d h) (right place d.kept (omega (arith, length-map nodes (λ (n : Node). n.kept))))

-- and stays so where one is written that is right
pub right_put : (slot : ℕ) (nodes : List Node) (place : ℕ) (k : Progress) → IsRight slot k
    → All (IsRight slot) (kept_in nodes) → All (IsRight slot) (kept_in (put_in nodes place k))
right_put slot nodes place k here right =
    rw (put_kept nodes place k) (All-set (IsRight slot) (kept_in nodes) place k here right)

-- a message that is looked at again is seen as before
pub seen_put_renewed : (slot : ℕ) (nodes : List Node) (place : ℕ) (d : Node) → place < length nodes
    → map (seen slot) (set (kept_in nodes) place (refreshed slot (get_or nodes place d).kept)) ≡ seen_in slot nodes
seen_put_renewed slot nodes place d h =
    let here = seen_renewed (get_or nodes place d).kept slot ∙ (ap (seen slot) (sym (kept_at nodes place d h))
    ∙ sym (get_or-map (seen slot) (kept_in nodes) place d.kept (seen slot d.kept)
    (omega (arith, length-map nodes (λ (n : Node). n.kept))))) in
    map-set (seen slot) (kept_in nodes) place (refreshed slot (get_or nodes place d).kept)
    ∙ (ap (λ t. set (seen_in slot nodes) place t) here ∙ set-get_or (seen_in slot nodes) place (seen slot d.kept))

-- where the numbers rise, each message before one of a lesser number has a lesser one
pub lesser_before : (nodes : List Node) (middle entry : ℕ) (d : Node) → AreRising nodes → middle < length nodes
    → (get_or nodes middle d).kept.scheduled.item.entry < entry
    → (k : ℕ) (e : Node) → k < middle + 1 → (get_or nodes k e).kept.scheduled.item.entry < entry
lesser_before nodes middle entry d rising within lesser k e h =
    let same = ap (λ (n : Node). n.kept.scheduled.item.entry) (get_or_default nodes middle d e within) in
    elim (cases_lt k middle) [
      | inl before ↦ let less = rising k middle e before within in omega (arith, less, same, lesser)
      | inr not ↦
          let here : k ≡ middle = omega (arith, h, not) in
          let at = ap (λ i. (get_or nodes i e).kept.scheduled.item.entry) here in
          omega (arith, at, same, lesser)
    ]

-- and each behind one of a number that isn't lesser has no lesser one
pub no_lesser_behind : (nodes : List Node) (middle entry : ℕ) (d : Node) → AreRising nodes → middle < length nodes
    → entry ≤ (get_or nodes middle d).kept.scheduled.item.entry
    → (k : ℕ) (e : Node) → middle ≤ k → k < length nodes → entry ≤ (get_or nodes k e).kept.scheduled.item.entry
no_lesser_behind nodes middle entry d rising within greater k e h inside =
    let same = ap (λ (n : Node). n.kept.scheduled.item.entry) (get_or_default nodes middle d e within) in
    elim (cases_lt middle k) [
      | inl before ↦ let less = rising middle k e before inside in omega (arith, less, same, greater)
      | inr not ↦
          let here : k ≡ middle = omega (arith, h, not) in
          let at = ap (λ i. (get_or nodes i e).kept.scheduled.item.entry) here in
          omega (arith, at, same, greater)
    ]

-- a message is found at the place of its number
pub place_is : (nodes : List Node) (entry place i : ℕ) (d : Node) → AreRising nodes → IsPlaceOf entry nodes place
    → i < length nodes → (get_or nodes i d).kept.scheduled.item.entry ≡ entry → place ≡ i
place_is nodes entry place i d rising found within named =
    elim (cases_lt place i) [
      | inl before ↦ absurd (
          let no_lesser = found.behind place d (omega arith) (omega (arith, within)) in
          let less = rising place i d before within in
          omega (arith, no_lesser, less, named)
          )
      | inr not ↦ elim (cases_lt i place) [
        | inl behind ↦ absurd (let less = found.before i d behind in omega (arith, less, named))
        | inr same ↦ omega arith
      ]
    ]

-- messages of one number stand at one place
pub same_place : (nodes : List Node) (i j : ℕ) (d : Node) → AreRising nodes → i < length nodes → j < length nodes
    → (get_or nodes i d).kept.scheduled.item.entry ≡ (get_or nodes j d).kept.scheduled.item.entry → i ≡ j
same_place nodes i j d rising first second named =
    rising-same (λ (n : Node). n.kept.scheduled.item.entry) nodes rising i j d first second named

-- where the numbers rise, the place of a message is that of its number
pub place_where_it_stands : (nodes : List Node) (place entry : ℕ) → AreRising nodes → place < length nodes
    → ((d : Node) → (get_or nodes place d).kept.scheduled.item.entry ≡ entry)
    → IsPlaceOf entry nodes place
place_where_it_stands nodes place entry rising within stands = record {
  within = omega (arith, within);
  before = λ k d before. omega (arith, rising k place d before within, stands d);
  behind = λ k d behind inside. no_lesser_behind nodes place entry d rising within (omega (arith, stands d)) k d
      behind inside;
}
