use Rattle.std.proofs.Common.{◌≡◌, ◌+◌, ◌-◌, ◌*◌, ◌∙◌, Some, ap, arith, inr, refl, subst, sym}
use Rattle.gsmtap.specs.Listening.{IsKept, settled}
use Rattle.gsmtap.specs.Track.{followed, latest, put, slot_of_frame}
use Rattle.gsmtap.proofs.Listeners.{differs, heard_more, heard_none, is_below, isnt_below, kept_there, slot_near}
use Rattle.gsmtap.proofs.Listeners.{steps_back}
use Rattle.gsmtap.proofs.listener.Listener.hear.Goals as goal

pub returns-then-place-ge4-clause-heard : goal.returns-then-place-ge4-clause-heard
returns-then-place-ge4-clause-heard c known is = (
  known,
  heard_none known c.args.sent.now
      (isnt_below _ (omega (arith, c.if-place-ge4.true, c.place_in-place.ensures))),
  is,
)

pub returns-in_default-clause-fault : goal.returns-in_default-clause-fault
returns-in_default-clause-fault c = inr (
  tt,
  λ known is.
      steps_back known c.args.sent.now (is_below _ (omega (arith, c.if-place-ge4.false, c.place_in-place.ensures)))
      (ap (λ it. followed it (slot_of_frame c.args.sent.now.frame)) (sym is.track)
      ∙ ap (followed c.args.self.now.track) (sym c.slot_in.ensures.slot) ∙ sym c.followed.ensures.followed
      ∙ c.in_default.is),
)

pub put-requires-clause-from : goal.put-requires-clause-from
put-requires-clause-from c =
    let near = slot_near c.args.self.now.track c.slot_in.result c.in-Some.there
    (sym c.followed.ensures.followed ∙ c.in-Some.is) in
    let slot : c.settled-slot.result ≡ settled (Some (latest c.args.self.now.track c.in-Some.there)) =
    c.settled-slot.ensures ∙ ap (λ it. settled (Some it)) c.latest-track.ensures in
    omega (arith, near.from, slot)

pub returns-then-put-clause-heard : goal.returns-then-put-clause-heard
returns-then-put-clause-heard c known is =
    let there = c.in-Some.there in
    let near = slot_near c.args.self.now.track c.slot_in.result there
    (sym c.followed.ensures.followed ∙ c.in-Some.is) in
    let slot : c.settled-slot.result ≡ settled (Some (latest c.args.self.now.track there)) =
    c.settled-slot.ensures ∙ ap (λ it. settled (Some it)) c.latest-track.ensures in
    let found = c.if-put.ensures.put known.blocks is.long
    (kept_there known c.args.self.now c.settle.new.self _ there c.settled-slot.result _ is near slot
    (ap (λ n. c.settled-slot.result - n) c.settled.ensures) c.in-Ok.ensures.kept refl refl refl) in
    heard_more known c.args.sent.now there found.0 c.put.new.self
    (is_below _ (omega (arith, c.if-place-ge4.false, c.place_in-place.ensures)))
    (ap (λ it. followed it (slot_of_frame c.args.sent.now.frame)) (sym is.track)
    ∙ ap (followed c.args.self.now.track) (sym c.slot_in.ensures.slot) ∙ sym c.followed.ensures.followed
    ∙ c.in-Some.is)
    (ap (λ n. put known.blocks (4 * there.slot + n) c.args.sent.now.block)
    (sym (c.from.ensures ∙ c.place_in-place.ensures)) ∙ found.1)
    is.long
    (c.if-put.ensures.track ∙ ap Some (c.latest-track.ensures ∙ ap (λ it. latest it there) is.track))
    (subst (λ n. IsKept found.0 n c.put.new.self) (slot ∙ ap (λ it. settled (Some (latest it there))) is.track)
    found.2)

pub returns-else-put-clause-fault : goal.returns-else-put-clause-fault
returns-else-put-clause-fault c =
    let there = c.in-Some.there in
    let near = slot_near c.args.self.now.track c.slot_in.result there
    (sym c.followed.ensures.followed ∙ c.in-Some.is) in
    let slot : c.settled-slot.result ≡ settled (Some (latest c.args.self.now.track there)) =
    c.settled-slot.ensures ∙ ap (λ it. settled (Some it)) c.latest-track.ensures in
    inr (
      tt,
      λ known is.
          differs known c.args.sent.now there
          (is_below _ (omega (arith, c.if-place-ge4.false, c.place_in-place.ensures)))
          (ap (λ it. followed it (slot_of_frame c.args.sent.now.frame)) (sym is.track)
          ∙ ap (followed c.args.self.now.track) (sym c.slot_in.ensures.slot) ∙ sym c.followed.ensures.followed
          ∙ c.in-Some.is)
          (ap (λ n. put known.blocks (4 * there.slot + n) c.args.sent.now.block)
          (sym (c.from.ensures ∙ c.place_in-place.ensures))
          ∙ c.if-put.ensures.put known.blocks is.long
          (kept_there known c.args.self.now c.settle.new.self _ there c.settled-slot.result _ is near slot
          (ap (λ n. c.settled-slot.result - n) c.settled.ensures) c.in-Ok.ensures.kept refl refl refl)),
    )
