-- Look-up in a table: where a septet or a character stands in no entry.
use Rattle.std.proofs.Common.{◌≡◌, ◌≢◌, ℕ, false, eqb, None, List, [], ◌∷◌, refl, arith}
use Rattle.std.proofs.lemmas.Bool.Decides.{nat_tests}
use Rattle.gsm_alphabet.specs.Alphabet.{look_up}

-- no entry of the table has the key
abbrev pub Lacks : (key : ℕ × ℕ → ℕ) → List (ℕ × ℕ) → ℕ → Type 0
Lacks key [] wanted = Unit {0}
Lacks key (entry ∷ table) wanted = (wanted ≢ key entry) × Lacks key table wanted

eqb_other : (a b : ℕ) → b ≢ a → eqb a b ≡ false
eqb_other a b h = grind (arith, nat_tests)

-- nothing is found in a table that lacks the key
pub look_up-lacks : (key value : ℕ × ℕ → ℕ) (table : List (ℕ × ℕ)) (wanted : ℕ) → Lacks key table wanted
    → look_up key value table wanted ≡ None
look_up-lacks key value [] wanted lacks = refl
look_up-lacks key value (entry ∷ table) wanted lacks =
    rw (eqb_other (key entry) wanted lacks.0) (look_up-lacks key value table wanted lacks.1)
