use Rattle.std.proofs.Common.{◌≡◌, ◌-◌, ◌≤◌, ◌∷◌, ◌++◌, [], arith, length, drop, set, ap, subst, sym, ◌∙◌}
use Rattle.std.proofs.Common.{refl}
use Rattle.std.proofs.Math.Seq.{drop-append_seam}
use Rattle.std.proofs.lemmas.List.{with_items_is, length-append, drop-append-le}
use Rattle.scheduler.specs.declared.turn.First.{First}
use Rattle.scheduler.specs.declared.progress.Progress.{Progress}
use Rattle.scheduler.specs.declared.tournament.Node.{Node}
use Rattle.scheduler.specs.QueueSteps.{kept_in, kept_idle, nothing_ahead, IsForest}
use Rattle.scheduler.proofs.Forest.{forest_pushed, kept_far, kept_pushed}
use Rattle.scheduler.proofs.settled.push.Goals as goal

pub change_in-requires-clause-trees : goal.change_in-requires-clause-trees
change_in-requires-clause-trees c =
    let old = c.args.nodes.now.items in
    let past = c.args.past in
    let idle : Node = record { kept = kept_idle c.args.item; ahead = nothing_ahead } in
    let items : c.as_mut_slice.result.now ≡ old ++ idle ∷ [] = c.as_mut_slice.ensures.value
    ∙ (c.in-Ok.ensures.items
    ∙ (ap (λ (a : First). old ++ record { kept = c.idle-kept.result; ahead = a } ∷ []) c.nothing-ahead.ensures
    ∙ ap (λ (k : Progress). old ++ record { kept = k; ahead = nothing_ahead } ∷ []) c.idle-kept.ensures)) in
    subst (IsForest 2) (sym (c.split_at_mut-later.ensures.back ∙ (ap (drop past) items
    ∙ drop-append-le past old (idle ∷ []) c.requires.within))) (forest_pushed 2 (drop past old)
    (kept_idle c.args.item) refl c.requires.trees)

pub returns-in-Ok-clause-kept : goal.returns-in-Ok-clause-kept
returns-in-Ok-clause-kept c =
    let old = c.args.nodes.now.items in
    let idle : Node = record { kept = c.idle-kept.result; ahead = c.nothing-ahead.result } in
    let cut = c.split_at_mut-later in
    let front = cut.result.0.now in
    let changed = c.change_in.new.nodes in
    let items : c.as_mut_slice.result.now ≡ old ++ idle ∷ [] = c.as_mut_slice.ensures.value ∙ c.in-Ok.ensures.items in
    let whole : front ++ cut.result.1.now ≡ old ++ idle ∷ [] = sym cut.ensures.value ∙ items in
    let place : c.len-place.result ≡ length old = omega (arith, c.len-place.ensures, c.args.nodes.now.ok.0) in
    let from : c.len-place.result - c.args.past ≡ c.len-place.result - length front =
    ap (λ n. c.len-place.result - n) (sym cut.ensures.front_len) in
    let its : kept_in changed ≡ set (kept_in cut.result.1.now) (c.len-place.result - length front) c.new.result =
    c.change_in.ensures.kept ∙ ap (λ n. set (kept_in cut.result.1.now) n c.new.result) from in
    let behind : length front ≤ c.len-place.result = omega (arith, cut.ensures.front_len, place, c.requires.within) in
    let kept : kept_in (front ++ changed) ≡ kept_in old ++ c.new.result ∷ [] =
    kept_far front cut.result.1.now changed c.len-place.result c.new.result behind its
    ∙ (ap (λ ns. set (kept_in ns) c.len-place.result c.new.result) whole
    ∙ (ap (λ n. set (kept_in (old ++ idle ∷ [])) n c.new.result) place ∙ kept_pushed old idle c.new.result)) in
    let pushed = ap length (c.in-Ok.ensures.items) in
    let long = ap length whole in
    ap kept_in (with_items_is c.push.new.self (front ++ changed) (omega (
      arith,
      pushed,
      long,
      length-append front changed,
      length-append front cut.result.1.now,
      c.change_in.auto.nodes,
      c.push.new.self.ok.0,
    ))) ∙ (kept ∙ ap (λ (k : Progress). kept_in old ++ k ∷ []) c.new.ensures)

pub returns-in-Ok-clause-trees : goal.returns-in-Ok-clause-trees
returns-in-Ok-clause-trees c =
    let old = c.args.nodes.now.items in
    let idle : Node = record { kept = c.idle-kept.result; ahead = c.nothing-ahead.result } in
    let cut = c.split_at_mut-later in
    let front = cut.result.0.now in
    let changed = c.change_in.new.nodes in
    let items : c.as_mut_slice.result.now ≡ old ++ idle ∷ [] = c.as_mut_slice.ensures.value ∙ c.in-Ok.ensures.items in
    let whole : front ++ cut.result.1.now ≡ old ++ idle ∷ [] = sym cut.ensures.value ∙ items in
    let pushed = ap length (c.in-Ok.ensures.items) in
    let long = ap length whole in
    let written = with_items_is c.push.new.self (front ++ changed) (omega (
      arith,
      pushed,
      long,
      length-append front changed,
      length-append front cut.result.1.now,
      c.change_in.auto.nodes,
      c.push.new.self.ok.0,
    )) in
    subst (IsForest 2) (sym (ap (drop c.args.past) written ∙ (ap (λ n. drop n (front ++ changed))
    (sym cut.ensures.front_len) ∙ drop-append_seam front changed))) c.change_in.ensures.trees

pub returns-in-Err-clause-trees : goal.returns-in-Err-clause-trees
returns-in-Err-clause-trees c =
    subst (IsForest 2) (ap (drop c.args.past) (sym c.in-Err.ensures.items)) c.requires.trees
