use Rattle.std.proofs.Common.{◌≡◌, ◌∙◌, ◌+◌, ◌<◌, ◌++◌, [], ◌∷◌, true, false, map, length, sym, ap, arith, append-nil}
use Rattle.std.proofs.Common.{subst}
use Rattle.std.proofs.Common.{List, take, drop, cond, Bool}
use Rattle.std.specs.Prelude.{◌||◌}
use Rattle.verification.specs.declared.difference.Difference.{Difference}
use Rattle.verification.specs.declared.difference.Kind.TheVariants as kinds
use Rattle.verification.specs.declared.sent.SentPage.{SentPage}
use Rattle.verification.specs.Asked.{AskedMessage}
use Rattle.verification.specs.Difference.{not_ordered_after}
use Rattle.verification.specs.Kept.{asked_kept}
use Rattle.verification.specs.Names.{AreNames, Pair, names_page, is_pair}
use Rattle.verification.proofs.ListLaws.{rest-more}
use Rattle.verification.proofs.NameLaws.{by-known, fronted, known-more, known-stays, left}
use Rattle.verification.proofs.not_ordered.push_not_ordered.Goals as goal

-- what is left after a page, by whether its name is known
step : (asked : List AskedMessage) (sent : List SentPage) (i : _) (s : SentPage) (pairs : List Pair)
    (done new whole : List Difference) (known : Bool) → i < length sent → s ≡ Rattle.std.proofs.Common.get_or sent i s →
    AreNames asked (take i sent) pairs → names_page pairs s.page ≡ known →
    done ++ not_ordered_after asked (take i sent) (drop i sent) ≡ whole →
    new ≡ done ++ cond known []
    (record { slot = s.slot; id = s.page.id; serial = s.page.serial; kind = kinds.NotOrdered } ∷ []) →
    new ++ not_ordered_after asked (take (i + 1) sent) (drop (i + 1) sent) ≡ whole
step asked sent i s pairs done new whole known within is names here before added =
    let row : List Difference =
    cond known []
    (record { slot = s.slot; id = s.page.id; serial = s.page.serial; kind = kinds.NotOrdered } ∷ []) in
    rest-more done new row (not_ordered_after asked (take i sent) (drop i sent))
    (not_ordered_after asked (take (i + 1) sent) (drop (i + 1) sent)) whole before
    (left asked sent i s within is
    ∙ ap (λ ds. ds ++ not_ordered_after asked (take (i + 1) sent) (drop (i + 1) sent))
    (by-known asked (take i sent) s known (sym (names s.page) ∙ here)))
    added

pub loop-sent_page-preserved-then-has : goal.loop-sent_page-preserved-then-has
loop-sent_page-preserved-then-has c =
    let known : names_page c.loop-sent_page.known c.sent_page-item.result.page ≡ true = cc in
    record {
      names = subst (λ before. AreNames (map asked_kept c.args.messages.now) before c.loop-sent_page.known)
          (fronted c.args.sent.now c.loop-sent_page.sent_page-index c.sent_page-item.result (omega arith)
          c.sent_page-item.is)
          (known-stays (map asked_kept c.args.messages.now) (take c.loop-sent_page.sent_page-index c.args.sent.now)
          c.sent_page-item.result c.loop-sent_page.known c.loop-sent_page.invariant.names known);
      found = step (map asked_kept c.args.messages.now) c.args.sent.now c.loop-sent_page.sent_page-index
          c.sent_page-item.result c.loop-sent_page.known c.loop-sent_page.found.items c.loop-sent_page.found.items
          (c.args.found.now.items ++ not_ordered_after (map asked_kept c.args.messages.now) [] c.args.sent.now) true
          (omega arith) c.sent_page-item.is c.loop-sent_page.invariant.names known c.loop-sent_page.invariant.found
          (sym (append-nil c.loop-sent_page.found.items));
    }

pub loop-sent_page-preserved : goal.loop-sent_page-preserved
loop-sent_page-preserved c =
    let known : names_page c.loop-sent_page.known c.sent_page-item.result.page ≡ false = cc in
    record {
      names = subst (λ before. AreNames (map asked_kept c.args.messages.now) before c.add.new.self)
          (fronted c.args.sent.now c.loop-sent_page.sent_page-index c.sent_page-item.result (omega arith)
          c.sent_page-item.is)
          (known-more (map asked_kept c.args.messages.now) (take c.loop-sent_page.sent_page-index c.args.sent.now)
          c.sent_page-item.result c.loop-sent_page.known c.add.new.self c.loop-sent_page.invariant.names
          (λ page. c.in_ok-add.ensures page
          ∙ ap (λ n. names_page c.loop-sent_page.known page
          || is_pair (page.id, page.serial) (c.sent_page-item.result.page.id, n)) c.number.ensures));
      found = step (map asked_kept c.args.messages.now) c.args.sent.now c.loop-sent_page.sent_page-index
          c.sent_page-item.result c.loop-sent_page.known c.loop-sent_page.found.items c.push.new.self.items
          (c.args.found.now.items ++ not_ordered_after (map asked_kept c.args.messages.now) [] c.args.sent.now) false
          (omega arith) c.sent_page-item.is c.loop-sent_page.invariant.names known c.loop-sent_page.invariant.found
          c.in_ok-push.ensures.items;
    }
