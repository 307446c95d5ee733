-- What a plan holds once its messages were written.
use Rattle.std.proofs.Common.{Vec, ◌≡◌, ℕ, ◌<◌, ◌≤◌, Result, Ok, Err, List, [], ◌∷◌, ◌++◌, length, map, take, drop}
use Rattle.std.proofs.Common.{Bool, true, false, cond, ◌+◌, sym, ap, subst, ◌∙◌, arith}
use Rattle.std.specs.List.{All}
use Rattle.std.specs.Result.{OnOk, OnErr, is_ok, is_err}
use Rattle.std.specs.Vec.{with_items}
use Rattle.std.proofs.lemmas.Bool.{false≢true}
use Rattle.std.proofs.lemmas.List.{length-map, length_push, with_items_is, map_push}
use Rattle.scheduler.specs.declared.scheduled.Scheduled.{Scheduled}
use Rattle.scheduler.specs.declared.plan.Item.{Item}
use Rattle.scheduler.specs.declared.tournament.Node.{Node}
use Rattle.scheduler.specs.PlanSteps.{IsSound}
use Rattle.scheduler.specs.Follows.{messages_of}
use Rattle.scheduler.specs.QueueSteps.{HasTurn, kept_in, seen_in, seen, kept_new, AreRising, IsForest, IsPlan}
use Rattle.scheduler.specs.QueueSteps.{AreSettled}
use Rattle.scheduler.proofs.Ended.{settled_pushed}
use Rattle.scheduler.proofs.Windows.{seen_new, IsRight-new}
use Rattle.scheduler.proofs.Followed.{scheduled_new, IsSound-add}
use Rattle.scheduler.proofs.FirstTurn.{rising_of_seen}

-- the messages are as many as are seen
seen_length : (slot : ℕ) (nodes : List Node) → length (seen_in slot nodes) ≡ length nodes
seen_length slot nodes = length-map (kept_in nodes) (seen slot) ∙ length-map nodes (λ (n : Node). n.kept)

-- what a `Vec` holds once its elements were written over
pub written_all : {Z : Type 0} (v : Vec Node Z) (read written : List Node) (slot old : ℕ) (f : Scheduled → Scheduled)
    → read ≡ v.items
    → seen_in slot written ≡ map f (seen_in old read) → (with_items v written).items ≡ written
written_all v read written slot old f same is =
    let long = ap length is ∙ (length-map (seen_in old read) f ∙ seen_length old read) in
    let more = seen_length slot written in
    let whole = ap length same in
    with_items_is v written (omega (arith, long, more, whole, v.ok.0))

-- and how they are seen
pub seen_written : {Z : Type 0} (v : Vec Node Z) (read written : List Node) (slot old : ℕ) (f : Scheduled → Scheduled)
    → read ≡ v.items → seen_in slot written ≡ map f (seen_in old read)
    → seen_in slot (with_items v written).items ≡ map f (seen_in old v.items)
seen_written v read written slot old f same is =
    ap (seen_in slot) (written_all v read written slot old f same is) ∙ (is ∙ ap (λ ns. map f (seen_in old ns)) same)

-- the numbers of a plan's messages rise
pub plan_rising : (slot past : ℕ) (nodes : List Node) → IsPlan slot past nodes → AreRising nodes
plan_rising slot past nodes plan = rising_of_seen slot nodes plan.sound.rising

-- with one more message
pub seen_pushed : (slot : ℕ) (old new : List Node) (item : Item) → kept_in new ≡ kept_in old ++ kept_new item ∷ []
    → seen_in slot new ≡ seen_in slot old ++ scheduled_new item ∷ []
seen_pushed slot old new item is =
    ap (map (seen slot)) is ∙ (map_push (seen slot) (kept_in old) (kept_new item)
    ∙ ap (λ t. seen_in slot old ++ t ∷ []) (seen_new item slot))

-- and so a plan with one more message is one
pub IsPlan-add : (slot past : ℕ) (old new : List Node) (item : Item)
    → All (λ m. m.entry < item.entry) (messages_of (record { slot = slot; scheduled = seen_in slot old }))
    → slot ≤ item.start → 0 < item.pages → 0 < item.period → HasTurn (kept_new item) → IsPlan slot past old
    → kept_in new ≡ kept_in old ++ kept_new item ∷ [] → take past new ≡ take past old → IsForest 2 (drop past new)
    → IsPlan slot past new
IsPlan-add slot past old new item above start pages period turn plan is same trees =
    let P : List Scheduled → Type 0 = λ ts. IsSound (record { slot = slot; scheduled = ts }) in
    record {
      sound = subst P (sym (seen_pushed slot old new item is)) (IsSound-add (record {
        slot = slot;
        scheduled = seen_in slot old;
      }) item above start pages period plan.sound);
      kept = settled_pushed slot past old new (kept_new item) is same trees (IsRight-new item slot start pages period)
          turn plan.kept;
    }

-- where the same is kept of the messages, they are seen as before
pub seen_settled : {Z : Type 0} (slot : ℕ) (v : Vec Node Z) (read written : List Node) → read ≡ v.items
    → kept_in written ≡ kept_in read → seen_in slot (with_items v written).items ≡ seen_in slot v.items
seen_settled slot v read written same kept =
    let whole = ap (map (seen slot)) kept in
    let long = ap length whole in
    let read_long = ap length same in
    ap (seen_in slot) (with_items_is v written (omega (
      arith,
      long,
      read_long,
      seen_length slot read,
      seen_length slot written,
      v.ok.0,
    ))) ∙ (whole ∙ ap (seen_in slot) same)

-- and a plan that was settled is one
pub IsPlan-settled : {Z : Type 0} (slot past now : ℕ) (v : Vec Node Z) (read written : List Node) → read ≡ v.items
    → kept_in written ≡ kept_in read → ((s : ℕ) → AreSettled s past read → AreSettled s now written)
    → IsPlan slot past v.items → IsPlan slot now (with_items v written).items
IsPlan-settled slot past now v read written same kept settled plan =
    let P : List Scheduled → Type 0 = λ ts. IsSound (record { slot = slot; scheduled = ts }) in
    let whole = ap length kept in
    let read_long = ap length same in
    let is = with_items_is v written (omega (
      arith,
      whole,
      read_long,
      length-map read (λ (n : Node). n.kept),
      length-map written (λ (n : Node). n.kept),
      v.ok.0,
    )) in
    record {
      sound = subst P (sym (seen_settled slot v read written same kept)) plan.sound;
      kept = subst (AreSettled slot now) (sym is) (settled slot (subst (AreSettled slot past) (sym same) plan.kept));
    }

-- a written `Vec` is as long as it was
pub as_long : {X Z : Type 0} (v : Vec X Z) (written : List X) → length (with_items v written).items ≡ length v.items
as_long v written = omega (arith, v.ok.0, (with_items v written).ok.0)

-- with one more element, or as before, a list is no shorter
pub no_shorter : (old new : List ℕ) (b : Bool) → new ≡ cond b (old ++ 0 ∷ []) old → length old ≤ length new
no_shorter old new true is = omega (arith, ap length is, length_push old 0)
no_shorter old new false is = omega (arith, ap length is)

-- and longer by one where there was room
pub longer : {X E : Type 0} (r : Result X E) (old new : List ℕ) → is_err r ≡ false
    → new ≡ cond (is_ok r) (old ++ 0 ∷ []) old → length new ≡ length old + 1
longer (Ok x) old new took is = omega (arith, ap length is, length_push old 0)
longer (Err e) old new took is = absurd (false≢true (sym took))

-- what follows from what an answer says
pub on_ok : {X E : Type 0} (r : Result X E) (P Q : Type 0) → (P → Q) → OnOk r P → OnOk r Q
on_ok (Ok x) P Q f h = f h
on_ok (Err e) P Q f h = h

-- the same of a refusal
pub on_err : {X E : Type 0} (r : Result X E) (P Q : Type 0) → (P → Q) → OnErr r P → OnErr r Q
on_err (Ok x) P Q f h = h
on_err (Err e) P Q f h = f h

-- and of either
pub on_either : {X E : Type 0} (r : Result X E) (P Q R : Type 0) → (P → R) → (Q → R) → OnOk r P → OnErr r Q → R
on_either (Ok x) P Q R f g h k = f h
on_either (Err e) P Q R f g h k = g k
