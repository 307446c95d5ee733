-- What is kept after a slot and its use.
use Rattle.std.proofs.Common.{◌≡◌, ◌≢◌, ◌<◌, ℕ, zero, suc, ◌+◌, List, [], ◌∷◌, arith, length, set}
use Rattle.std.proofs.Common.{get_or, map, Some, None, sym, ap, ◌∙◌, refl}
use Rattle.std.specs.List.{All}
use Rattle.std.proofs.lemmas.Bool.{eq-eqb, ne_eqb}
use Rattle.std.proofs.lemmas.List.{get_or_default, length-map}
use Rattle.std.proofs.lemmas.List.Elements.{All-set}
use Rattle.scheduler.specs.declared.tournament.Node.{Node}
use Rattle.scheduler.specs.declared.progress.Progress.{Progress}
use Rattle.scheduler.specs.PlanSteps.{after_slot}
use Rattle.scheduler.specs.QueueSteps.{kept_in, seen_in, IsRight, AreRising, seen, aired}
use Rattle.scheduler.proofs.Places.{kept_at, right_at, same_place}
use Rattle.scheduler.proofs.FirstTurn.{IsTurnOf}
use Rattle.scheduler.proofs.Windows.{seen_after_unaired, seen_after_aired, IsRight-later, IsRight-aired}

-- two functions that agree on each element give the same list
pub map_same : {X Y : Type 0} (f g : X → Y) (xs : List X)
    → ((k : ℕ) (d : X) → k < length xs → f (get_or xs k d) ≡ g (get_or xs k d)) → map f xs ≡ map g xs
map_same f g [] same = refl
map_same f g (x ∷ xs) same =
    let first : f x ≡ g x = same 0 x (omega arith) in
    ap (λ y. y ∷ map f xs) first ∙ ap (λ ys. g x ∷ ys) (map_same f g xs (λ k d h. same (suc k) d (omega arith)))

-- also where one element was written
pub map_but_one : {X Y : Type 0} (f g : X → Y) (xs : List X) (i : ℕ) (y : X)
    → ((k : ℕ) (d : X) → k < length xs → k ≢ i → f (get_or xs k d) ≡ g (get_or xs k d))
    → ((d : X) → i < length xs → f y ≡ g (get_or xs i d)) → map f (set xs i y) ≡ map g xs
map_but_one f g [] i y same here = refl
map_but_one f g (x ∷ xs) zero y same here =
    let first : f y ≡ g x = here x (omega arith) in
    ap (λ z. z ∷ map f xs) first ∙ ap (λ ys. g x ∷ ys) (map_same f g xs (λ k d h. same (suc k) d (omega arith)
    (λ e. omega (arith, e))))
map_but_one f g (x ∷ xs) (suc i) y same here =
    let first : f x ≡ g x = same 0 x (omega arith) (λ e. omega (arith, e)) in
    ap (λ z. z ∷ map f (set xs i y)) first ∙ ap (λ ys. g x ∷ ys) (map_but_one f g xs i y
    (λ k d h apart. same (suc k) d (omega arith) (λ e. apart (omega (arith, e)))) (λ d h. here d (omega arith)))

-- one function after another over a list
pub map_twice : {X Y Z : Type 0} (f : Y → Z) (g : X → Y) (xs : List X) → map (λ x. f (g x)) xs ≡ map f (map g xs)
map_twice f g [] = refl
map_twice f g (x ∷ xs) = ap (λ ys. f (g x) ∷ ys) (map_twice f g xs)

-- after a slot that airs nothing
pub seen_after_none : (slot : ℕ) (nodes : List Node) → All (IsRight slot) (kept_in nodes)
    → seen_in (slot + 1) nodes ≡ map (after_slot slot None) (seen_in slot nodes)
seen_after_none slot nodes right =
    map_same (seen (slot + 1)) (λ k. after_slot slot None (seen slot k)) (kept_in nodes)
    (λ k d h. seen_after_unaired (get_or (kept_in nodes) k d) slot None (right k d h) refl)
    ∙ map_twice (after_slot slot None) (seen slot) (kept_in nodes)

-- what is kept of each message is right at the next slot
pub right_later : (slot : ℕ) (nodes : List Node) → All (IsRight slot) (kept_in nodes)
    → All (IsRight (slot + 1)) (kept_in nodes)
right_later slot nodes right = λ k d h. IsRight-later (get_or (kept_in nodes) k d) slot (right k d h)

-- after a slot that airs the message at a place
pub seen_after_used : (slot : ℕ) (nodes : List Node) (used : ℕ × ℕ) (t place : ℕ) (d : Node)
    → All (IsRight slot) (kept_in nodes) → AreRising nodes → IsTurnOf slot nodes t place d
    → (get_or nodes place d).kept.scheduled.item.entry ≡ used.0
    → map (seen (slot + 1)) (set (kept_in nodes) place (aired (get_or nodes place d).kept))
    ≡ map (after_slot slot (Some used)) (seen_in slot nodes)
seen_after_used slot nodes used t place d right rising here named =
    map_but_one (seen (slot + 1)) (λ k. after_slot slot (Some used) (seen slot k)) (kept_in nodes) place
    (aired (get_or nodes place d).kept)
    (λ k e h apart. seen_after_unaired (get_or (kept_in nodes) k e) slot (Some used) (right k e h)
    (ne_eqb used.0 _ (λ same. apart (other_place k e h (sym same)))))
    (λ e h.
    seen_after_aired (get_or nodes place d).kept slot (Some used) (right_at slot nodes place d here.within right)
    here.awake here.ready (eq-eqb used.0 _ (sym named))
    ∙ ap (λ x. after_slot slot (Some used) (seen slot x)) (sym (kept_at nodes place d here.within)
    ∙ get_or_default (kept_in nodes) place d.kept e h))
    ∙ map_twice (after_slot slot (Some used)) (seen slot) (kept_in nodes)
  where
    other_place : (k : ℕ) (e : Progress) → k < length (kept_in nodes)
        → (get_or (kept_in nodes) k e).scheduled.item.entry ≡ used.0 → k ≡ place
    other_place k e h is_named =
        let inside : k < length nodes = omega (arith, length-map nodes (λ (n : Node). n.kept), h) in
        let is = ap (λ (x : Progress). x.scheduled.item.entry) (sym (kept_at nodes k d inside)
        ∙ get_or_default (kept_in nodes) k d.kept e h) in
        same_place nodes k place d rising inside here.within (is ∙ (is_named ∙ sym named))

-- and what is kept is right
pub right_after_used : (slot : ℕ) (nodes : List Node) (t place : ℕ) (d : Node) → All (IsRight slot) (kept_in nodes)
    → IsTurnOf slot nodes t place d
    → All (IsRight (slot + 1)) (set (kept_in nodes) place (aired (get_or nodes place d).kept))
right_after_used slot nodes t place d right here =
    All-set (IsRight (slot + 1)) (kept_in nodes) place (aired (get_or nodes place d).kept)
    (IsRight-aired (get_or nodes place d).kept slot (right_at slot nodes place d here.within right) here.awake
    here.ready) (right_later slot nodes right)
