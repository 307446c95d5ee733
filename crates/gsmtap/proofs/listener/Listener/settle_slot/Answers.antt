use Rattle.std.proofs.Common.{◌*◌, ◌++◌, ◌∷◌, [], ℕ, List, arith, refl, unwrap_or, None}
use Rattle.std.specs.Prelude.{slice_index_or}
use Rattle.std.proofs.lemmas.List.{length_push}
use Rattle.cbch_blocks.specs.Blocks.{idle_block}
use Rattle.gsmtap.specs.Listening.{front_of}
use Rattle.gsmtap.proofs.Listeners.{front_long, kept_next}
use Rattle.gsmtap.proofs.listener.Listener.settle_slot.Goals as goal

pub push_place-requires : goal.push_place-requires
push_place-requires c =
    let front : List (List ℕ) = front_of c.requires.0 (4 * c.requires.1) in
    (front, c.requires.2.counted, omega (arith, front_long c.requires.0 (4 * c.requires.1), c.requires.3))

pub push_place-requires-2 : goal.push_place-requires-2
push_place-requires-2 c =
    let front : List (List ℕ) = front_of c.requires.0 (4 * c.requires.1) in
    let first : List ℕ = unwrap_or (slice_index_or c.args.self.now.recent 0 None) idle_block in (
      front ++ first ∷ [],
      c.in_ok-push_place.ensures front c.requires.2.counted,
      omega (arith, length_push front first, front_long c.requires.0 (4 * c.requires.1), c.requires.3),
    )

pub push_place-requires-3 : goal.push_place-requires-3
push_place-requires-3 c =
    let front : List (List ℕ) = front_of c.requires.0 (4 * c.requires.1) in
    let first : List ℕ = unwrap_or (slice_index_or c.args.self.now.recent 0 None) idle_block in
    let second : List ℕ = unwrap_or (slice_index_or c.args.self.now.recent 1 None) idle_block in (
      (front ++ first ∷ []) ++ second ∷ [],
      c.in_ok-push_place-2.ensures (front ++ first ∷ [])
          (c.in_ok-push_place.ensures front c.requires.2.counted),
      omega (
        arith,
        length_push (front ++ first ∷ []) second,
        length_push front first,
        front_long c.requires.0 (4 * c.requires.1),
        c.requires.3,
      ),
    )

pub push_place-requires-4 : goal.push_place-requires-4
push_place-requires-4 c =
    let front : List (List ℕ) = front_of c.requires.0 (4 * c.requires.1) in
    let first : List ℕ = unwrap_or (slice_index_or c.args.self.now.recent 0 None) idle_block in
    let second : List ℕ = unwrap_or (slice_index_or c.args.self.now.recent 1 None) idle_block in
    let third : List ℕ = unwrap_or (slice_index_or c.args.self.now.recent 2 None) idle_block in (
      ((front ++ first ∷ []) ++ second ∷ []) ++ third ∷ [],
      c.in_ok-push_place-3.ensures ((front ++ first ∷ []) ++ second ∷ [])
          (c.in_ok-push_place-2.ensures (front ++ first ∷ [])
          (c.in_ok-push_place.ensures front c.requires.2.counted)),
      omega (
        arith,
        length_push ((front ++ first ∷ []) ++ second ∷ []) third,
        length_push (front ++ first ∷ []) second,
        length_push front first,
        front_long c.requires.0 (4 * c.requires.1),
        c.requires.3,
      ),
    )

pub returns-clause-kept : goal.returns-clause-kept
returns-clause-kept c blocks slot is =
    kept_next blocks slot c.args.self.now _ is refl refl
    (c.in_ok-push_place-4.ensures _
    (c.in_ok-push_place-3.ensures _
    (c.in_ok-push_place-2.ensures _ (c.in_ok-push_place.ensures (front_of blocks (4 * slot)) is.counted))))
