-- The search from the end found the last block that is known, or none.
use Rattle.std.proofs.Common.{rules, ◌≡◌, ℕ, ◌+◌, ◌-◌, ◌<◌, ◌≤◌, List, Option, None, refl, true, false}
use Rattle.std.proofs.Common.{length, get_or, arith}
use Rattle.std.specs.Prelude.{is_none, is_some}
use Rattle.std.specs.List.{suffix_len}
use Rattle.std.proofs.lemmas.List.Sums.{suffix_len_is}
use Rattle.gsmtap.proofs.tape.slots_filled.Goals as goal

pub returns-in-Some : goal.returns-in-Some
returns-in-Some c =
    let blocks : List (Option (List ℕ)) = c.args.blocks.now in
    let last : ℕ = c.in-Some.last in
    let within : last < length blocks = search rules in
    let searched : (k : ℕ) → last + 1 ≤ k → k < length blocks → is_some (get_or blocks k None) ≡ false = search rules in
    let found : is_some (get_or blocks last None) ≡ true = search rules in
    let back : last + 1 - 1 ≡ last = omega arith in
    let idle : suffix_len is_none blocks ≡ length blocks - (last + 1) =
    suffix_len_is is_none blocks (last + 1) None (omega (arith, within))
    (λ k past inside. rw (searched k past inside) refl)
    (λ some. rw back (rw found refl)) in
    omega (arith, idle, within)

pub returns-in-None : goal.returns-in-None
returns-in-None c =
    let blocks : List (Option (List ℕ)) = c.args.blocks.now in
    let searched : (k : ℕ) → k < length blocks → is_some (get_or blocks k None) ≡ false = search rules in
    let idle : suffix_len is_none blocks ≡ length blocks - 0 =
    suffix_len_is is_none blocks 0 None (omega arith) (λ k past inside. rw (searched k inside) refl)
    (λ some. absurd (omega (arith, some))) in
    omega (arith, idle)
