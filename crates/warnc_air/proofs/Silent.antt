-- The place of a tape without a block.
use Rattle.std.proofs.Common.{◌≡◌, ℕ, ◌<◌, List, length, subst, Some, None, inl, inr, nat_lt}
use Rattle.std.specs.Prelude.{not, position}
use Rattle.std.specs.List.{prefix_len}
use Rattle.std.proofs.lemmas.Bool.{cases_Bool, ltb-true}
use Rattle.gsmtap.specs.TapesOfCapture.{is_silent}
use Rattle.gsmtap.specs.Track.{Known}

-- a tape that is found is there
pub found_within : (known : List Known) (place : ℕ) → position is_silent known ≡ Some place → place < length known
found_within known place is =
    let first : ℕ = prefix_len (λ (one : Known). not (is_silent one)) known in
    elim (cases_Bool (nat_lt first (length known))) [
      | inl there ↦
          let found : Some first ≡ Some place = rw there at is in
          let same : first ≡ place = cc in
          subst (λ n. n < length known) same (ltb-true first (length known) there)
      | inr none ↦ let found : None ≡ Some place = rw none at is in cc
    ]
