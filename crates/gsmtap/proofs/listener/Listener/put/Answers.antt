use Rattle.std.proofs.Common.{◌≡◌, ◌+◌, ◌-◌, ◌*◌, ◌<◌, ◌∙◌, ℕ, None, Some, length, ap, arith, refl, sym}
use Rattle.std.specs.Prelude.{slice_set}
use Rattle.gsmtap.specs.Listening.{block_at}
use Rattle.gsmtap.proofs.Listeners.{kept_put, put_again, put_none, put_past}
use Rattle.gsmtap.proofs.listener.Listener.put.Goals as goal

pub returns-then-place-ge-PLACES-clause-put : goal.returns-then-place-ge-PLACES-clause-put
returns-then-place-ge-PLACES-clause-put c blocks long is =
    (blocks, put_past blocks c.args.place c.args.block.now (omega (arith, long, c.if-place-ge-PLACES.true)), is)

pub returns-in-None-clause-put : goal.returns-in-None-clause-put
returns-in-None-clause-put c blocks long is =
    let index : ℕ = c.args.place - 4 * c.args.slot in
    let there : c.args.place ≡ 4 * c.args.slot + index = omega (arith, c.requires.from) in
    let few : index < 8 = omega (arith, c.requires.from, c.requires.to) in
    let inside : c.args.place < length blocks = omega (arith, long, c.if-place-ge-PLACES.false) in
    let none : block_at blocks c.args.place ≡ None =
    ap (block_at blocks) there ∙ sym (is.recent index few) ∙ c.in-None.is in (
      slice_set blocks c.args.place (Some c.args.block.now),
      put_none blocks c.args.place c.args.block.now inside none,
      kept_put blocks c.args.slot index c.args.place c.args.block.now c.args.self.now _ is there few inside refl refl
          c.max-self.ensures,
    )

pub returns-in-Some-clause-put : goal.returns-in-Some-clause-put
returns-in-Some-clause-put c blocks long is =
    let index : ℕ = c.args.place - 4 * c.args.slot in
    let there : c.args.place ≡ 4 * c.args.slot + index = omega (arith, c.requires.from) in
    let few : index < 8 = omega (arith, c.requires.from, c.requires.to) in
    let inside : c.args.place < length blocks = omega (arith, long, c.if-place-ge-PLACES.false) in
    let some : block_at blocks c.args.place ≡ Some c.in-Some.known =
    ap (block_at blocks) there ∙ sym (is.recent index few) ∙ c.in-Some.is in
    put_again c.eq.result blocks c.args.slot c.args.place c.args.block.now c.in-Some.known c.args.self.now c.eq.ensures
    inside some is
