use Rattle.std.proofs.Common.{◌≡◌, ◌+◌, ◌-◌, ◌∙◌, ◌++◌, [], ◌∷◌, true, false, cond, sym, ap, arith, append-nil, List}
use Rattle.std.proofs.Common.{Bool, refl}
use Rattle.std.proofs.Common.{ℕ}
use Rattle.std.specs.Prelude.{not, ◌&&◌, if◌then◌else◌}
use Rattle.std.specs.List.{flat_map, range_with_len}
use Rattle.verification.specs.declared.difference.Difference.{Difference}
use Rattle.verification.specs.declared.difference.Kind.TheVariants as kinds
use Rattle.verification.specs.declared.judged.JudgedPage.{JudgedPage}
use Rattle.verification.specs.Asked.{AskedMessage}
use Rattle.verification.specs.Difference.{broadcast_difference, broadcast_differences, difference_of, due_slot, is_owed}
use Rattle.verification.specs.Difference.{is_whole}
use Rattle.verification.specs.Kept.{asked_kept}
use Rattle.verification.proofs.ListLaws.{flat_map-range, rest-more, rest-none}
use Rattle.verification.proofs.OwedLaws.{owed-none}
use Rattle.verification.proofs.broadcasts.push_broadcast_differences.Goals as goal
use Rattle.verification.proofs.broadcasts.push_broadcast_differences.Goals.{then-not-is_whole+in_ok-push}
use Rattle.verification.proofs.broadcasts.push_broadcast_differences.Goals.{else-not-is_whole}

-- a message that isn't background has the differences of all its broadcasts
foreground : (slots : ℕ) (a : AskedMessage) (pages : List JudgedPage) → a.background ≡ false →
    flat_map (broadcast_difference slots a pages) (range_with_len 0 slots) ≡ broadcast_differences slots a pages
foreground slots a pages is =
    ap (λ (x : Bool). if x then [] else flat_map (broadcast_difference slots a pages) (range_with_len 0 slots)) (sym is)

pub returns-then-not-is_owed : goal.returns-then-not-is_owed
returns-then-not-is_owed c =
    let a : AskedMessage = asked_kept c.args.asked.now in
    let owed : is_owed c.args.slots a c.loop-broadcast.broadcast ≡ false = cc in
    rest-none c.loop-broadcast.found.items
    (flat_map (broadcast_difference c.args.slots a c.args.pages.now)
    (range_with_len c.loop-broadcast.broadcast (c.args.slots - c.loop-broadcast.broadcast)))
    (c.args.found.now.items
    ++ flat_map (broadcast_difference c.args.slots a c.args.pages.now) (range_with_len 0 c.args.slots))
    c.loop-broadcast.invariant
    (owed-none c.args.slots a c.args.pages.now c.loop-broadcast.broadcast
    (c.args.slots - c.loop-broadcast.broadcast) owed)
    ∙ ap (λ ds. c.args.found.now.items ++ ds) (foreground c.args.slots a c.args.pages.now c.if-asked.false)

-- the difference of a broadcast that is owed, if it isn't whole
one : (slots : ℕ) (a : AskedMessage) (pages : List JudgedPage) (j : ℕ) (whole : Bool) → is_owed slots a j ≡ true →
    is_whole a pages j ≡ whole →
    broadcast_difference slots a pages j ≡ cond whole [] (difference_of a (kinds.NotWhole j) (due_slot a j) ∷ [])
one slots a pages j whole owed is =
    ap (λ (x : Bool). if x && not (is_whole a pages j) then difference_of a (kinds.NotWhole j) (due_slot a j) ∷ [] else
    [])
    owed
    ∙ by_test (is_whole a pages j) whole is
  where
    by_test : (x y : Bool) → x ≡ y →
        (if true && not x then difference_of a (kinds.NotWhole j) (due_slot a j) ∷ [] else [])
        ≡ cond y [] (difference_of a (kinds.NotWhole j) (due_slot a j) ∷ [])
    by_test true true same = refl
    by_test true false same = cc
    by_test false true same = cc
    by_test false false same = refl

step : (c : goal.Joined-not-is_whole) (whole : Bool) (new : List Difference) →
    is_whole (asked_kept c.args.asked.now) c.args.pages.now c.loop-broadcast.broadcast ≡ whole →
    new ≡ c.loop-broadcast.found.items
    ++ cond whole [] (difference_of (asked_kept c.args.asked.now) (kinds.NotWhole c.loop-broadcast.broadcast)
    (due_slot (asked_kept c.args.asked.now) c.loop-broadcast.broadcast) ∷ []) →
    new ++ flat_map (broadcast_difference c.args.slots (asked_kept c.args.asked.now) c.args.pages.now)
    (range_with_len (c.loop-broadcast.broadcast + 1) (c.args.slots - (c.loop-broadcast.broadcast + 1)))
    ≡ c.args.found.now.items
    ++ flat_map (broadcast_difference c.args.slots (asked_kept c.args.asked.now) c.args.pages.now)
    (range_with_len 0 c.args.slots)
step c whole new is added =
    let a : AskedMessage = asked_kept c.args.asked.now in
    let j : ℕ = c.loop-broadcast.broadcast in
    let owed : is_owed c.args.slots a c.loop-broadcast.broadcast ≡ true = cc in
    let of_broadcast : ℕ → List Difference = broadcast_difference c.args.slots a c.args.pages.now in
    let here = one c.args.slots a c.args.pages.now c.loop-broadcast.broadcast whole owed is in
    rest-more c.loop-broadcast.found.items new
    (cond whole [] (difference_of a (kinds.NotWhole j) (due_slot a j) ∷ []))
    (flat_map of_broadcast (range_with_len j (c.args.slots - j)))
    (flat_map of_broadcast (range_with_len (j + 1) (c.args.slots - (j + 1))))
    (c.args.found.now.items ++ flat_map of_broadcast (range_with_len 0 c.args.slots))
    c.loop-broadcast.invariant
    (flat_map-range of_broadcast c.loop-broadcast.broadcast (c.args.slots - c.loop-broadcast.broadcast)
    (c.args.slots - (c.loop-broadcast.broadcast + 1)) (omega arith)
    ∙ ap (λ ds. ds ++ flat_map of_broadcast (range_with_len (j + 1) (c.args.slots - (j + 1)))) here)
    added

pub loop-broadcast-preserved : goal.loop-broadcast-preserved
loop-broadcast-preserved c = elim c.if-not-is_whole.branch [
  | then-not-is_whole+in_ok-push w ↦ step c false c.if-not-is_whole.found.items (cc)
      (ap (λ found. found.items) w.found-is ∙ w.in_ok-push.ensures.items
      ∙ ap (λ (d : Difference). c.loop-broadcast.found.items ++ d ∷ []) (w.difference.ensures
      ∙ ap (difference_of (asked_kept c.args.asked.now) (kinds.NotWhole c.loop-broadcast.broadcast)) w.due-due.ensures))
  | else-not-is_whole w ↦ step c true c.if-not-is_whole.found.items (cc)
      (ap (λ found. found.items) w.found-is ∙ sym (append-nil c.loop-broadcast.found.items))
]
