use Rattle.std.proofs.Common.{◌≡◌, ◌≤◌, ◌∙◌, ◌+◌, ◌++◌, [], ◌∷◌, List, Option, ap, sym, subst, arith, drop}
use Rattle.std.proofs.Common.{map, append-nil, refl, Some, None, All, ◌<◌, ◌*◌, length, get_or}
use Rattle.std.specs.List.{AllPairs}
use Rattle.std.specs.Option.{option_to_list}
use Rattle.std.proofs.lemmas.List.{drop_all, take_rest}
use Rattle.cbs_page.specs.declared.octets.PageView.{PageView}
use Rattle.handset.specs.Reception.{page_in_front}
use Rattle.verification.specs.declared.sent.SentPage.{SentPage}
use Rattle.verification.specs.Sent.{sent_at, sent_from, sent_in}
use Rattle.verification.proofs.ListLaws.{rest-more, rest-none}
use Rattle.verification.proofs.SentLaws.{sent-next}
use Rattle.verification.proofs.ShiftLaws.{sent-below}
use Rattle.verification.proofs.TimeLaws.{sent-rising}
use Rattle.verification.proofs.sent.sent_pages.Goals as goal
use Rattle.verification.proofs.sent.sent_pages.Goals.{in-Some+in_ok-push, in_default}

-- the page in front, as it was looked for
front : (c : goal.Joined-page_in_front) → option_to_list c.page_in_front.result
    ≡ page_in_front (drop c.loop-place.place c.args.blocks.now)
front c = c.page_in_front.ensures ∙ ap page_in_front (take_rest c.args.blocks.now c.loop-place.place)

step : (c : goal.Joined-page_in_front) (new more : List SentPage) (found : Option PageView)
    → new ≡ c.loop-place.sent.items ++ more →
    c.page_in_front.result ≡ found → map (sent_at c.loop-place.place) (option_to_list found) ≡ more →
    new ++ sent_from (c.loop-place.place + 1) (drop (c.loop-place.place + 1) c.args.blocks.now)
    ≡ sent_in c.args.blocks.now
step c new more found added is here =
    rest-more c.loop-place.sent.items new more (sent_from c.loop-place.place
    (drop c.loop-place.place c.args.blocks.now))
    (sent_from (c.loop-place.place + 1) (drop (c.loop-place.place + 1) c.args.blocks.now)) (sent_in c.args.blocks.now)
    c.loop-place.invariant
    (sent-next c.args.blocks.now c.loop-place.place (omega arith)
    ∙ ap (λ (pages : List PageView). map (sent_at c.loop-place.place) pages
    ++ sent_from (c.loop-place.place + 1) (drop (c.loop-place.place + 1) c.args.blocks.now))
    (sym (ap (λ (page : Option PageView). option_to_list page) (sym is) ∙ front c))
    ∙ ap (λ (pages : List SentPage). pages
    ++ sent_from (c.loop-place.place + 1) (drop (c.loop-place.place + 1) c.args.blocks.now)) here)
    added

pub loop-place-preserved : goal.loop-place-preserved
loop-place-preserved c = elim c.match-page_in_front.branch [
  | in-Some+in_ok-push w ↦ step c c.match-page_in_front.sent.items
      (sent_at c.loop-place.place w.in-Some.page ∷ []) (Some w.in-Some.page)
      (ap (λ sent. sent.items) w.sent-is ∙ w.in_ok-push.ensures.items)
      w.in-Some.is refl
  | in_default w ↦ step c c.match-page_in_front.sent.items [] None
      (ap (λ sent. sent.items) w.sent-is ∙ sym (append-nil c.loop-place.sent.items))
      w.in_default.is refl
]

-- the pages when all blocks were looked at
whole : (c : goal.After-loop-place) → c.loop-place.sent.items ≡ sent_in c.args.blocks.now
whole c =
    rest-none c.loop-place.sent.items (sent_from c.loop-place.place (drop c.loop-place.place c.args.blocks.now))
    (sent_in c.args.blocks.now) c.loop-place.invariant
    (ap (sent_from c.loop-place.place) (drop_all c.loop-place.place c.args.blocks.now (omega arith)))

pub returns-clause-rising : goal.returns-clause-rising
returns-clause-rising c =
    subst (AllPairs (λ (a b : SentPage). a.slot ≤ b.slot)) (sym (whole c)) (sent-rising 0 c.args.blocks.now)

pub returns-clause-few : goal.returns-clause-few
returns-clause-few c =
    subst (All (λ (s : SentPage). s.slot < 4611686018427387904)) (sym (whole c))
    (λ k d within.
    let below : 4 * (get_or (sent_in c.args.blocks.now) k d).slot < 0 + length c.args.blocks.now =
    sent-below 0 c.args.blocks.now k d within in
    omega (arith, c.told-blocks))
