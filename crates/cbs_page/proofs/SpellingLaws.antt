-- A walk over a text that takes its characters' codes, at the character at place n.
use Rattle.std.proofs.Common.{◌≡◌, ◌∙◌, ℕ, ◌+◌, ◌<◌, ◌≤◌, Bool, true, List, [], ◌∷◌, ◌++◌, length, drop, get_or}
use Rattle.std.proofs.Common.{refl, sym, ap, append_assoc, append-nil, arith, length-append}
use Rattle.std.specs.List.{flat_map, list_all}
use Rattle.std.proofs.lemmas.List.{at_drop_all}
use Rattle.std.proofs.lemmas.Bool.{and_parts}
use Rattle.cbs_page.proofs.CuttingLaws.{at_place}

-- So many characters of a text pass a test, and these are their codes.
pub record HasSpelled (test : ℕ → Bool) (codes : ℕ → List ℕ) (text : List ℕ) (n : ℕ) (taken : List ℕ) : Type 0 where
  pub spelled : taken ++ flat_map codes (drop n text) ≡ flat_map codes text
  pub passed : list_all test (drop n text) ≡ list_all test text

-- none do yet
pub spelled-none : (test : ℕ → Bool) (codes : ℕ → List ℕ) (text : List ℕ) → HasSpelled test codes text 0 []
spelled-none test codes text = record { spelled = refl; passed = refl }

-- one more character passes
pub spelled-more : (test : ℕ → Bool) (codes : ℕ → List ℕ) (text : List ℕ) (n : ℕ) (taken : List ℕ) (c : ℕ)
    → HasSpelled test codes text n taken → n < length text → c ≡ get_or text n c → test c ≡ true
    → HasSpelled test codes text (n + 1) (taken ++ codes c)
spelled-more test codes text n taken c had within is passes =
    let rest = drop (n + 1) text in
    let first : list_all test (c ∷ rest) ≡ list_all test rest = rw passes refl in
    record {
      spelled = append_assoc taken (codes c) (flat_map codes rest)
          ∙ ap (λ xs. taken ++ xs) (sym (at_place (flat_map codes) text n c within is)) ∙ had.spelled;
      passed = sym first ∙ sym (at_place (list_all test) text n c within is) ∙ had.passed;
    }

-- at the end these are the codes of the text, and all of it passes
pub spelled-end : (test : ℕ → Bool) (codes : ℕ → List ℕ) (text : List ℕ) (n : ℕ) (taken : List ℕ)
    → HasSpelled test codes text n taken → n ≡ length text
    → (flat_map codes text ≡ taken) × (list_all test text ≡ true)
spelled-end test codes text n taken had all = (
  sym had.spelled ∙ at_drop_all (λ xs. taken ++ flat_map codes xs) text n (omega (arith, all)) ∙ append-nil taken,
  sym had.passed ∙ at_drop_all (list_all test) text n (omega (arith, all)),
)

-- if all of a text passes, so does the next character, and the text has its codes besides those taken
pub spelled-next : (test : ℕ → Bool) (codes : ℕ → List ℕ) (text : List ℕ) (n : ℕ) (taken : List ℕ) (c : ℕ)
    → HasSpelled test codes text n taken → n < length text → c ≡ get_or text n c → list_all test text ≡ true
    → (test c ≡ true) × (length taken + length (codes c) ≤ length (flat_map codes text))
spelled-next test codes text n taken c had within is all =
    let rest = drop (n + 1) text in
    let here : list_all test (c ∷ rest) ≡ true =
    sym (at_place (list_all test) text n c within is) ∙ had.passed ∙ all in
    let whole : taken ++ (codes c ++ flat_map codes rest) ≡ flat_map codes text =
    ap (λ xs. taken ++ xs) (sym (at_place (flat_map codes) text n c within is)) ∙ had.spelled in (
      (and_parts (test c) (list_all test rest) here).0,
      omega (
        arith,
        ap length whole,
        length-append taken (codes c ++ flat_map codes rest),
        length-append (codes c) (flat_map codes rest),
      ),
    )

-- characters taken one by one are the text
pub one_by_one : (text : List ℕ) → flat_map (λ c. c ∷ []) text ≡ text
one_by_one [] = refl
one_by_one (c ∷ text) = ap (λ xs. c ∷ xs) (one_by_one text)
