-- Lemmas on the messages of a plan, of which those at the front have ended.
use Rattle.std.proofs.Common.{◌≡◌, ℕ, ◌+◌, ◌-◌, ◌≤◌, ◌<◌, Bool, false, true, leb, Option, Some, None, List, []}
use Rattle.std.proofs.Common.{◌∷◌, ◌++◌, append_assoc, length, get_or, map, set, take, drop, inl, inr, refl, sym, ap}
use Rattle.std.proofs.Common.{subst, ◌∙◌, arith}
use Rattle.std.specs.Bool.{MatchBool}
use Rattle.std.specs.List.{All, AllPairs}
use Rattle.std.proofs.Math.Seq.{take-append_seam, drop-append_seam}
use Rattle.std.proofs.lemmas.Bool.{cases_eq, ne_eqb, false≢true, leb-true, leb-false}
use Rattle.std.proofs.lemmas.List.{length-append, length-map, length-take-le, map-append, drop-map}
use Rattle.std.proofs.lemmas.List.{get_or-map, get_or_default, get_or_append_left, get_or-append-add, get_or-take}
use Rattle.std.proofs.lemmas.List.{drop-append-le}
use Rattle.std.proofs.lemmas.List.Elements.{All-append, All-map, All-drop, All-push, All-set}
use Rattle.scheduler.specs.declared.tournament.Node.{Node}
use Rattle.scheduler.specs.declared.progress.Progress.{Progress}
use Rattle.scheduler.specs.declared.scheduled.Scheduled.{Scheduled}
use Rattle.scheduler.specs.Air.{airs}
use Rattle.scheduler.specs.PlanSteps.{IsChoice, IsServedFirst, NoneReady, is_ready, after_slot}
use Rattle.scheduler.specs.QueueSteps.{kept_in, seen_in, seen, stopped, IsRight, HasTurn, IsNode}
use Rattle.scheduler.specs.QueueSteps.{AreInTrees, IsForest, HasNoMore, HasEnded, AreSettled, AreRising}
use Rattle.scheduler.specs.QueueSteps.{HasReached, IsFoundTurn}
use Rattle.scheduler.proofs.FirstTurn.{blank}
use Rattle.scheduler.proofs.Passed.{map_same, map_twice}
use Rattle.scheduler.proofs.Places.{kept_at, right_at, lesser_before}
use Rattle.scheduler.proofs.Tree.{put_in, put_kept, put_node, put_nodes, kept_same}
use Rattle.scheduler.proofs.Windows.{seen_is, seen_after_unaired, IsRight-later, IsRight-stopped}

-- what is kept of some messages and of later ones
pub kept_both : (front later : List Node) → kept_in (front ++ later) ≡ kept_in front ++ kept_in later
kept_both front later = map-append (λ (n : Node). n.kept) front later

-- and how they are seen
pub seen_both : (slot : ℕ) (front later : List Node)
    → seen_in slot (front ++ later) ≡ seen_in slot front ++ seen_in slot later
seen_both slot front later =
    ap (map (seen slot)) (kept_both front later) ∙ map-append (seen slot) (kept_in front) (kept_in later)

-- a change of each of them is one of all
pub seen_changed : (old new : ℕ) (f : Scheduled → Scheduled) (front later changed others : List Node)
    → seen_in new changed ≡ map f (seen_in old front) → seen_in new others ≡ map f (seen_in old later)
    → seen_in new (changed ++ others) ≡ map f (seen_in old (front ++ later))
seen_changed old new f front later changed others first second =
    seen_both new changed others ∙ (ap (λ ts. ts ++ seen_in new others) first
    ∙ (ap (λ ts. map f (seen_in old front) ++ ts) second
    ∙ (sym (map-append f (seen_in old front) (seen_in old later)) ∙ ap (map f) (sym (seen_both old front later)))))

-- messages that have ended and later ones in their trees
pub settled_of : (slot past : ℕ) (front later : List Node) → length front ≡ past → All (HasEnded slot) (kept_in front)
    → AreInTrees slot 2 later → AreSettled slot past (front ++ later)
settled_of slot past front later long ended kept =
    let At : ℕ → Type 0 = λ n. AreSettled slot n (front ++ later) in
    let Ended : List Node → Type 0 = λ ns. All (HasEnded slot) (kept_in ns) in
    subst At long (record {
      within = omega (arith, length-append front later);
      ended = subst Ended (sym (take-append_seam front later)) ended;
      later = subst (AreInTrees slot 2) (sym (drop-append_seam front later)) kept;
    })

-- numbers that rise do so in the later part of a list
pub rising_behind : {X : Type 0} (f : X → ℕ) (xs ys : List X) → AllPairs (λ a b. f a < f b) (xs ++ ys)
    → AllPairs (λ a b. f a < f b) ys
rising_behind f xs ys rising = λ i j d before within.
    let less = rising (length xs + i) (length xs + j) d (omega arith) (omega (arith, length-append xs ys, within)) in
    let first = ap f (get_or-append-add xs ys i d) in
    let second = ap f (get_or-append-add xs ys j d) in
    omega (arith, less, first, second)

-- and in the first part
pub rising_before : {X : Type 0} (f : X → ℕ) (xs ys : List X) → AllPairs (λ a b. f a < f b) (xs ++ ys)
    → AllPairs (λ a b. f a < f b) xs
rising_before f xs ys rising = λ i j d before within.
    let less = rising i j d before (omega (arith, length-append xs ys, within)) in
    let first = ap f (get_or_append_left xs ys d i (omega (arith, before, within))) in
    let second = ap f (get_or_append_left xs ys d j within) in
    omega (arith, less, first, second)

-- and from the first part to the later one
pub rising_across : {X : Type 0} (f : X → ℕ) (xs ys : List X) → AllPairs (λ a b. f a < f b) (xs ++ ys)
    → (i j : ℕ) (d e : X) → i < length xs → j < length ys → f (get_or xs i d) < f (get_or ys j e)
rising_across f xs ys rising i j d e there within =
    let less = rising i (length xs + j) d (omega (arith, there)) (omega (arith, length-append xs ys, within)) in
    let first = ap f (get_or_append_left xs ys d i there) in
    let second = ap f (get_or-append-add xs ys j d ∙ get_or_default ys j d e within) in
    omega (arith, less, first, second)

-- a message that has ended is not looked at again
pub ended_awake : (slot : ℕ) (k : Progress) → slot < 65536 → HasEnded slot k → slot < k.until
ended_awake slot k few ended = omega (arith, few, ended.no_more.never)

-- and has ended at the next slot
pub ended_later : (slot : ℕ) (ks : List Progress) → slot < 65536 → All (HasEnded slot) ks
    → All (HasEnded (slot + 1)) ks
ended_later slot ks few ended = λ i d h.
    let its = ended i d h in
    let k = get_or ks i d in
    record { right = IsRight-later k slot its.right; no_more = its.no_more }

-- it is not ready
pub ended_not_ready : (slot : ℕ) (front : List Node) → slot < 65536 → All (HasEnded slot) (kept_in front)
    → NoneReady (seen_in slot front) slot
ended_not_ready slot front few ended =
    All-map (λ t. is_ready t slot ≡ false) (seen slot) (kept_in front) (λ i d h.
    let its = ended i d h in
    let k = get_or (kept_in front) i d in
    let awake = ended_awake slot k few its in
    ap (λ t. is_ready t slot) (seen_is k slot awake) ∙ (its.right.ready slot (omega arith) awake
    ∙ its.no_more.closed))

-- what is chosen of some messages is chosen of all, where none of the others is ready
pub choice_behind : (slot : ℕ) (xs ys : List Scheduled) (used : Option (ℕ × ℕ)) → NoneReady xs slot
    → IsChoice ys slot used → IsChoice (xs ++ ys) slot used
choice_behind slot xs ys None none choice = All-append (λ t. is_ready t slot ≡ false) xs ys none choice
choice_behind slot xs ys (Some used) none choice =
    let t = choice.1 in (
      length xs + choice.0,
      t,
      omega (arith, length-append xs ys, choice.2),
      get_or-append-add xs ys choice.0 t ∙ choice.3,
      (
        record {
          ready = choice.4.0.ready;
          first = All-append (λ other. is_ready other slot ≡ true → IsServedFirst slot t other) xs ys
              (λ k d h. λ ready. absurd (false≢true (sym (none k d h) ∙ ready))) choice.4.0.first;
        },
        choice.4.1,
      ),
    )

-- and it is none of the others, where the numbers rise
pub used_behind : (slot : ℕ) (xs ys : List Scheduled) (used : Option (ℕ × ℕ))
    → AllPairs (λ a b. a.item.entry < b.item.entry) (xs ++ ys) → IsChoice ys slot used
    → All (λ t. airs t.item.entry used ≡ false) xs
used_behind slot xs ys None rising choice = λ k d within. refl
used_behind slot xs ys (Some used) rising choice = λ k d within.
    let less = rising_across (λ (t : Scheduled). t.item.entry) xs ys rising k choice.0 d choice.1 within choice.2 in
    let named = ap (λ (t : Scheduled). t.item.entry) choice.3 in
    let is : used.0 ≡ choice.1.item.entry = ap (λ (u : ℕ × ℕ). u.0) choice.4.1 in
    ne_eqb used.0 _ (λ same. omega (arith, less, named, is, same))

-- a slot that airs none of the messages that have ended leaves them as they are
pub ended_after : (slot : ℕ) (front : List Node) (used : Option (ℕ × ℕ)) → slot < 65536
    → All (HasEnded slot) (kept_in front) → All (λ t. airs t.item.entry used ≡ false) (seen_in slot front)
    → seen_in (slot + 1) front ≡ map (after_slot slot used) (seen_in slot front)
ended_after slot front used few ended others =
    map_same (seen (slot + 1)) (λ k. after_slot slot used (seen slot k)) (kept_in front)
    (λ i d h.
    let its = ended i d h in
    let k = get_or (kept_in front) i d in
    let there = get_or-map (seen slot) (kept_in front) i d (seen slot d) h in
    let other = ap (λ (t : Scheduled). airs t.item.entry used) (sym there)
    ∙ others i (seen slot d) (omega (arith, h, length-map (kept_in front) (seen slot))) in
    seen_after_unaired k slot used its.right other)
    ∙ map_twice (after_slot slot used) (seen slot) (kept_in front)

-- what is chosen of the messages that have not ended is chosen of all
pub chosen_settled : (slot : ℕ) (front later : List Node) (used : Option (ℕ × ℕ)) → slot < 65536
    → All (HasEnded slot) (kept_in front) → IsChoice (seen_in slot later) slot used
    → IsChoice (seen_in slot (front ++ later)) slot used
chosen_settled slot front later used few ended choice =
    let Chosen : List Scheduled → Type 0 = λ ts. IsChoice ts slot used in
    subst Chosen (sym (seen_both slot front later)) (choice_behind slot (seen_in slot front) (seen_in slot later) used
    (ended_not_ready slot front few ended) choice)

-- and what is kept of all after the slot is what is kept of these
pub after_settled : (slot : ℕ) (front later new : List Node) (used : Option (ℕ × ℕ)) → slot < 65536
    → All (HasEnded slot) (kept_in front)
    → AllPairs (λ a b. a.item.entry < b.item.entry) (seen_in slot (front ++ later))
    → IsChoice (seen_in slot later) slot used
    → seen_in (slot + 1) new ≡ map (after_slot slot used) (seen_in slot later)
    → seen_in (slot + 1) (front ++ new) ≡ map (after_slot slot used) (seen_in slot (front ++ later))
after_settled slot front later new used few ended rising choice seen =
    let Rising : List Scheduled → Type 0 = λ ts. AllPairs (λ (a b : Scheduled). a.item.entry < b.item.entry) ts in
    let others = used_behind slot (seen_in slot front) (seen_in slot later) used
    (subst Rising (seen_both slot front later) rising) choice in
    seen_changed slot (slot + 1) (after_slot slot used) front later front new (ended_after slot front used few ended
    others) seen

-- more messages have ended, and the trees of the others were made anew
pub settled_more : (slot past count : ℕ) (nodes new : List Node) → count ≤ length (drop past nodes)
    → ((k : ℕ) (d : Node) → k < count → HasNoMore (get_or (drop past nodes) k d).kept)
    → kept_in new ≡ kept_in (drop count (drop past nodes)) → IsForest 2 new → AreSettled slot past nodes
    → AreSettled slot (past + count) (take past nodes ++ (take count (drop past nodes) ++ new))
settled_more slot past count nodes new few no_more same trees settled =
    let later = drop past nodes in
    let front = take past nodes in
    let more = take count later in
    let Ended : Node → Type 0 = λ n. HasEnded slot n.kept in
    let part : All Ended more = λ k d h.
    let inside : k < count = omega (arith, h, length-take-le count later few) in
    subst Ended (sym (get_or-take count later k d inside)) (record {
      right = right_at slot later k d (omega (arith, inside, few)) settled.later.right;
      no_more = no_more k d inside;
    }) in
    let both = All-append (HasEnded slot) (kept_in front) (kept_in more) settled.ended
    (All-map (HasEnded slot) (λ (n : Node). n.kept) more part) in
    let AllEnded : List Progress → Type 0 = λ ks. All (HasEnded slot) ks in
    let AllRight : List Progress → Type 0 = λ ks. All (IsRight slot) ks in
    let AllTurns : List Progress → Type 0 = λ ks. All HasTurn ks in
    let left = drop-map (λ (n : Node). n.kept) count later ∙ sym same in
    let long : length (front ++ more) ≡ past + count = omega (
      arith,
      length-append front more,
      length-take-le past nodes settled.within,
      length-take-le count later few,
    ) in
    subst (AreSettled slot (past + count)) (append_assoc front more new) (settled_of slot (past + count)
    (front ++ more) new long (subst AllEnded (sym (kept_both front more)) both) (record {
      right = subst AllRight left (All-drop (IsRight slot) count (kept_in later) settled.later.right);
      turns = subst AllTurns left (All-drop HasTurn count (kept_in later) settled.later.turns);
      trees = trees;
    }))

-- one more message behind the others
pub settled_pushed : (slot past : ℕ) (old new : List Node) (k : Progress) → kept_in new ≡ kept_in old ++ k ∷ []
    → take past new ≡ take past old → IsForest 2 (drop past new) → IsRight slot k → HasTurn k → AreSettled slot past old
    → AreSettled slot past new
settled_pushed slot past old new k is same trees right turn settled =
    let kept = λ (n : Node). n.kept in
    let Ended : List Node → Type 0 = λ ns. All (HasEnded slot) (kept_in ns) in
    let AllRight : List Progress → Type 0 = λ ks. All (IsRight slot) ks in
    let AllTurns : List Progress → Type 0 = λ ks. All HasTurn ks in
    let within : past ≤ length (kept_in old) = omega (arith, settled.within, length-map old kept) in
    let later : kept_in (drop past new) ≡ kept_in (drop past old) ++ k ∷ [] =
    sym (drop-map kept past new) ∙ (ap (drop past) is ∙ (drop-append-le past (kept_in old) (k ∷ []) within
    ∙ ap (λ ks. ks ++ k ∷ []) (drop-map kept past old))) in
    let long = ap length is in
    record {
      within = omega (
        arith,
        settled.within,
        long,
        length-append (kept_in old) (k ∷ []),
        length-map old kept,
        length-map new kept,
      );
      ended = subst Ended (sym same) settled.ended;
      later = record {
        right = subst AllRight (sym later) (All-push (IsRight slot) (kept_in (drop past old)) k settled.later.right
            right);
        turns = subst AllTurns (sym later) (All-push HasTurn (kept_in (drop past old)) k settled.later.turns turn);
        trees = trees;
      };
    }

-- of a tree that is made from its last place down to its first, one more place is made
pub built_node : (nodes : List Node) (place : ℕ) → place < length nodes → ((k : ℕ) → place + 1 ≤ k → IsNode nodes k)
    → (k : ℕ) → place ≤ k → IsNode (put_in nodes place (get_or nodes place blank).kept) k
built_node nodes place within was k from =
    let kept = (get_or nodes place blank).kept in
    elim (cases_eq k place) [
      | inl same ↦ rw same (put_node nodes place kept within)
      | inr apart ↦
          put_nodes nodes place kept within k (λ n h e. omega (arith, from, e)) (was k (omega (arith, from, apart)))
    ]

-- and what is kept stays
pub built_kept : (nodes : List Node) (place : ℕ) → place < length nodes
    → kept_in (put_in nodes place (get_or nodes place blank).kept) ≡ kept_in nodes
built_kept nodes place within =
    put_kept nodes place (get_or nodes place blank).kept ∙ kept_same nodes place blank within

-- a message that has ended and is stopped has ended
pub ended_stopped : (slot : ℕ) (nodes : List Node) (place : ℕ) → place < length nodes
    → All (HasEnded slot) (kept_in nodes)
    → All (HasEnded slot) (set (kept_in nodes) place (stopped slot (get_or nodes place blank).kept))
ended_stopped slot nodes place within ended =
    let k = (get_or nodes place blank).kept in
    let its : HasEnded slot k = subst (HasEnded slot) (kept_at nodes place blank within) (ended place blank.kept
    (omega (arith, within, length-map nodes (λ (n : Node). n.kept)))) in
    All-set (HasEnded slot) (kept_in nodes) place (stopped slot k) (record {
      right = IsRight-stopped k slot its.right;
      no_more = record { never = its.no_more.never; closed = refl };
    }) ended

-- a message of a number that those in front reach is none of the later ones
pub not_later : (entry : ℕ) (front later : List Node) → AreRising (front ++ later) → HasReached entry front
    → IsFoundTurn entry later None
not_later entry front later rising reached = λ k d within named.
    let less = rising_across (λ (n : Node). n.kept.scheduled.item.entry) front later rising reached.place k d d
    reached.within within in
    omega (arith, less, named, reached.no_less d)

-- the last message shows whether that number is reached: where it has a lesser one, so has each
pub reached_by_last : (entry : ℕ) (nodes : List Node) (says : Bool) → AreRising nodes → 0 < length nodes
    → says ≡ leb entry (get_or nodes (length nodes - 1) blank).kept.scheduled.item.entry
    → MatchBool says (HasReached entry nodes) (IsFoundTurn entry nodes None)
reached_by_last entry nodes true rising some is =
    let within : length nodes - 1 < length nodes = omega (arith, some) in
    let no_less = leb-true entry (get_or nodes (length nodes - 1) blank).kept.scheduled.item.entry (sym is) in
    record {
      place = length nodes - 1;
      within = within;
      no_less = λ d. omega (
        arith,
        no_less,
        ap (λ (n : Node). n.kept.scheduled.item.entry) (get_or_default nodes (length nodes - 1) blank d within),
      );
    }
reached_by_last entry nodes false rising some is = λ k d within named.
    let less = leb-false entry (get_or nodes (length nodes - 1) blank).kept.scheduled.item.entry (sym is) in
    let before = lesser_before nodes (length nodes - 1) entry blank rising (omega (arith, some)) less k d
    (omega (arith, within)) in
    omega (arith, before, named)
