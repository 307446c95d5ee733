-- The walk over the elements of a message, one element at a time.
use Rattle.std.proofs.Common.{◌≡◌, ℕ, ◌-◌, ◌≤◌, true, false, eqb, eq-eqb, List, [], ◌∷◌, ◌++◌, length}
use Rattle.std.proofs.Common.{take, drop, get_or, Some, None, Ok, Err, refl, sym, ap, ◌∙◌, append_assoc}
use Rattle.std.proofs.Common.{arith}
use Rattle.std.proofs.lemmas.Bool.{ne_eqb}
use Rattle.std.proofs.lemmas.List.{take_all}
use Rattle.cbs_page.specs.declared.content.Content.{Content}
use Rattle.cbsp_wire.specs.Element.{Element}
use Rattle.cbsp_wire.specs.Value.{content_of}
use Rattle.cbsp_link.specs.declared.fault.LinkFault.{LinkFault}
use Rattle.cbsp_link.specs.Element.{element_at, elements_in, fault_in, first_body}
use Rattle.cbsp_link.specs.Run.{Run, run_of, run_within}
use Rattle.cbsp_link.specs.Value.{pages_in}
use Rattle.cbsp_link.proofs.Fronts.{element_takes}
use Rattle.cbsp_link.proofs.Runs.{before, run_of-taken, run_of-stopped}

-- octets, as the first of them and the others
pub split_first : (o : List ℕ) → 1 ≤ length o → o ≡ get_or o 0 0 ∷ take (length o - 1) (drop 1 o)
split_first [] h = absurd (omega arith)
split_first (a ∷ o) h = ap (λ (r : List ℕ). a ∷ r) (sym (take_all (length (a ∷ o) - 1) o (omega arith)))

abbrev element : ℕ → List ℕ → Element
element n body = record { number = n; body = body }

walked : (left : List ℕ) (n : ℕ) (octets body rest : List ℕ) → left ≡ n ∷ octets
    → element_at n octets ≡ Ok (element n body, rest)
    → run_of element_at left ≡ before (element n body) (run_of element_at rest)
walked left n octets body rest is h =
    ap (λ (o : List ℕ). run_of element_at o) is
    ∙ run_of-taken element_at element_takes n octets (element n body) rest h

ended : (left : List ℕ) (n : ℕ) (octets : List ℕ) (f : LinkFault) → left ≡ n ∷ octets
    → element_at n octets ≡ Err f
    → run_of element_at left ≡ (let r : Run Element = record { items = []; stop = Some f } in r)
ended left n octets f is h =
    ap (λ (o : List ℕ). run_of element_at o) is ∙ run_of-stopped element_at n octets f h

none : (left : List ℕ) → length left ≤ 0
    → run_of element_at left ≡ (let r : Run Element = record { items = []; stop = None } in r)
unfolding run_of run_within
none [] h = refl
none (a ∷ left) h = absurd (omega arith)

-- the fault of the elements
pub fault-taken : (left : List ℕ) (n : ℕ) (octets body rest : List ℕ) → left ≡ n ∷ octets
    → element_at n octets ≡ Ok (element n body, rest) → fault_in left ≡ fault_in rest
fault-taken left n octets body rest is h = ap (λ (r : Run Element). r.stop) (walked left n octets body rest is h)

-- the fault of the element at the front
pub fault-met : (left : List ℕ) (n : ℕ) (octets : List ℕ) (f : LinkFault) → left ≡ n ∷ octets
    → element_at n octets ≡ Err f → fault_in left ≡ Some f
fault-met left n octets f is h = ap (λ (r : Run Element). r.stop) (ended left n octets f is h)

-- no octets have no fault
pub fault-none : (left : List ℕ) → length left ≤ 0 → fault_in left ≡ None
fault-none left h = ap (λ (r : Run Element). r.stop) (none left h)

-- the first element of a number
pub first-found : (left : List ℕ) (wanted n : ℕ) (octets body rest : List ℕ) → left ≡ n ∷ octets
    → element_at n octets ≡ Ok (element n body, rest) → n ≡ wanted
    → first_body wanted (elements_in left) ≡ Some body
first-found left wanted n octets body rest is h same =
    let test : eqb n wanted ≡ true = eq-eqb n wanted same in
    ap (λ (r : Run Element). first_body wanted r.items) (walked left n octets body rest is h) ∙ rw test refl

-- an element of another number is passed over
pub first-passed : (left : List ℕ) (wanted n : ℕ) (octets body rest : List ℕ) → left ≡ n ∷ octets
    → element_at n octets ≡ Ok (element n body, rest) → (n ≡ wanted → ⊥)
    → first_body wanted (elements_in left) ≡ first_body wanted (elements_in rest)
first-passed left wanted n octets body rest is h other =
    let test : eqb n wanted ≡ false = ne_eqb n wanted other in
    ap (λ (r : Run Element). first_body wanted r.items) (walked left n octets body rest is h) ∙ rw test refl

-- past a fault there is no element
pub first-ended : (left : List ℕ) (wanted n : ℕ) (octets : List ℕ) (f : LinkFault) → left ≡ n ∷ octets
    → element_at n octets ≡ Err f → first_body wanted (elements_in left) ≡ None
first-ended left wanted n octets f is h =
    ap (λ (r : Run Element). first_body wanted r.items) (ended left n octets f is h)

-- no octets have no element
pub first-none : (left : List ℕ) (wanted : ℕ) → length left ≤ 0 → first_body wanted (elements_in left) ≡ None
first-none left wanted h = ap (λ (r : Run Element). first_body wanted r.items) (none left h)

-- the pages
pub page-taken : (left : List ℕ) (n : ℕ) (octets body rest : List ℕ) → left ≡ n ∷ octets
    → element_at n octets ≡ Ok (element n body, rest) → n ≡ 1
    → pages_in (elements_in left) ≡ content_of body ∷ pages_in (elements_in rest)
page-taken left n octets body rest is h same =
    let test : eqb n 1 ≡ true = eq-eqb n 1 same in
    ap (λ (r : Run Element). pages_in r.items) (walked left n octets body rest is h) ∙ rw test refl

-- an element that is no page is passed over
pub page-passed : (left : List ℕ) (n : ℕ) (octets body rest : List ℕ) → left ≡ n ∷ octets
    → element_at n octets ≡ Ok (element n body, rest) → (n ≡ 1 → ⊥)
    → pages_in (elements_in left) ≡ pages_in (elements_in rest)
page-passed left n octets body rest is h other =
    let test : eqb n 1 ≡ false = ne_eqb n 1 other in
    ap (λ (r : Run Element). pages_in r.items) (walked left n octets body rest is h) ∙ rw test refl

-- past a fault there is no page
pub pages-ended : (left : List ℕ) (n : ℕ) (octets : List ℕ) (f : LinkFault) → left ≡ n ∷ octets
    → element_at n octets ≡ Err f → pages_in (elements_in left) ≡ []
pages-ended left n octets f is h = ap (λ (r : Run Element). pages_in r.items) (ended left n octets f is h)

-- no octets have no page
pub pages-none : (left : List ℕ) → length left ≤ 0 → pages_in (elements_in left) ≡ []
pages-none left h = ap (λ (r : Run Element). pages_in r.items) (none left h)

-- contents that were taken before, and one more
pub one_more : (xs : List Content) (x : Content) (ys total zs : List Content) → zs ≡ x ∷ ys → xs ++ zs ≡ total
    → (xs ++ x ∷ []) ++ ys ≡ total
one_more xs x ys total zs is so_far =
    append_assoc xs (x ∷ []) ys ∙ ap (λ (w : List Content). xs ++ w) (sym is) ∙ so_far
