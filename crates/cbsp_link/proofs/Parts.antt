-- The elements that octets are, part by part.
use Rattle.std.proofs.Common.{◌≡◌, ℕ, ◌+◌, ◌*◌, ◌/◌, ◌%◌, ◌<◌, true, false, cond, ltb, eqb, List, [], ◌∷◌}
use Rattle.std.proofs.Common.{◌++◌}
use Rattle.std.proofs.Common.{length, Option, Some, None, Ok, refl, sym, ap, subst, ◌∙◌, append_assoc}
use Rattle.std.proofs.Common.{arith}
use Rattle.std.specs.Prelude.{Bool}
use Rattle.std.specs.Prelude.{map}
use Rattle.std.specs.List.{flat_map, list_all}
use Rattle.std.proofs.lemmas.Bool.{le-ltb, eqb-true}
use Rattle.std.proofs.lemmas.List.{append-nil, take_at, drop_at, length-append}
use Rattle.cbs_page.specs.declared.content.Content.{Content}
use Rattle.cbsp_wire.specs.Element.{Element, bodies_of}
use Rattle.cbsp_wire.specs.Range.{is_full}
use Rattle.cbsp_wire.proofs.Tests.{and_parts}
use Rattle.cbsp_link.specs.Element.{size_of, element_of_size, element_at, first_body}
use Rattle.cbsp_link.specs.Run.{Run, run_of, run_within}
use Rattle.cbsp_link.specs.Written.{two_octets, pair_element, pair_if, octet_element, octet_if, list_element}
use Rattle.cbsp_link.specs.Written.{short_length, page_element}
use Rattle.cbsp_link.proofs.Fronts.{element_takes}
use Rattle.cbsp_link.proofs.Runs.{after_these, run_of-taken}

-- an element of a number with a body
abbrev pub element : ℕ → List ℕ → Element
element n body = record { number = n; body = body }

-- an element whose body has its size, whatever follows it
abbrev pub Sized : ℕ → List ℕ → Type 0
Sized n body = (rest : List ℕ) → size_of n (body ++ rest) ≡ Some (length body)

-- octets that are these elements
pub record IsPart (octets : List ℕ) (es : List Element) : Type 0 where
  pub taken : (rest : List ℕ) → run_of element_at (octets ++ rest) ≡ after_these es (run_of element_at rest)

sized_at : (n : ℕ) (body rest : List ℕ) → Sized n body → element_at n (body ++ rest) ≡ Ok (element n body, rest)
unfolding element_at
sized_at n body rest sized =
    let long : ltb (length (body ++ rest)) (length body) ≡ false =
    le-ltb _ _ (omega (arith, length-append body rest)) in
    ap (λ (o : Option ℕ). element_of_size n o (body ++ rest)) (sized rest)
    ∙ rw (long, take_at body rest (length body) refl, drop_at body rest (length body) refl) refl

-- an element whose body has its size is a part
pub one_part : (n : ℕ) (body : List ℕ) → Sized n body → IsPart (n ∷ body) (element n body ∷ [])
one_part n body sized = record {
  taken = λ rest.
      run_of-taken element_at element_takes n (body ++ rest) (element n body) rest (sized_at n body rest sized);
}

-- no octets are no elements
pub no_part : IsPart [] []
no_part = record { taken = λ rest. refl }

-- parts side by side are a part
pub parts : (a b : List ℕ) (es fs : List Element) → IsPart a es → IsPart b fs → IsPart (a ++ b) (es ++ fs)
parts a b es fs first second = record {
  taken = λ rest.
      ap (λ (o : List ℕ). run_of element_at o) (append_assoc a b rest) ∙ first.taken (b ++ rest)
      ∙ ap (λ (r : Run Element). after_these es r) (second.taken rest)
      ∙ ap (λ (gs : List Element).
      let r : Run Element = record { items = gs; stop = (run_of element_at rest).stop } in r)
      (sym (append_assoc es fs (run_of element_at rest).items));
}

ended : run_of element_at [] ≡ (let r : Run Element = record { items = []; stop = None } in r)
unfolding run_of run_within
ended = refl

-- octets that are elements, and nothing else
pub whole : (octets : List ℕ) (es : List Element) → IsPart octets es
    → run_of element_at octets ≡ (let r : Run Element = record { items = es; stop = None } in r)
whole octets es part =
    ap (λ (o : List ℕ). run_of element_at o) (sym (append-nil octets)) ∙ part.taken []
    ∙ ap (λ (r : Run Element). after_these es r) ended
    ∙ ap (λ (gs : List Element). let r : Run Element = record { items = gs; stop = None } in r) (append-nil es)

-- ---- elements with one number, side by side

-- the elements of one number with these bodies
abbrev pub group : ℕ → List (List ℕ) → List Element
group n bodies = map (element n) bodies

-- the body of an element of two octets, if it is there
abbrev pub pair_bodies : Option ℕ → List (List ℕ)
pair_bodies None = []
pair_bodies (Some n) = two_octets n ∷ []

-- the body of an element of one octet, if it is there
abbrev pub octet_bodies : Option ℕ → List (List ℕ)
octet_bodies None = []
octet_bodies (Some n) = (n ∷ []) ∷ []

-- elements by their numbers
abbrev pub grouped : List (ℕ × List (List ℕ)) → List Element
grouped [] = []
grouped (g ∷ gs) = group g.0 g.1 ++ grouped gs

-- the first body, or what there is else
abbrev pub or_first : List (List ℕ) → Option (List ℕ) → Option (List ℕ)
or_first [] o = o
or_first (body ∷ bodies) o = Some body

-- the first body of a number
abbrev pub look : ℕ → List (ℕ × List (List ℕ)) → Option (List ℕ)
look n [] = None
look n (g ∷ gs) = cond (eqb g.0 n) (or_first g.1 (look n gs)) (look n gs)

look_here : (n : ℕ) (bodies : List (List ℕ)) (es : List Element) (k : ℕ) → eqb k n ≡ true
    → first_body n (group k bodies ++ es) ≡ or_first bodies (first_body n es)
look_here n [] es k same = refl
look_here n (body ∷ bodies) es k same = rw same refl

look_past : (n : ℕ) (bodies : List (List ℕ)) (es : List Element) (k : ℕ) → eqb k n ≡ false
    → first_body n (group k bodies ++ es) ≡ first_body n es
look_past n [] es k other = refl
look_past n (body ∷ bodies) es k other = rw other (look_past n bodies es k other)

-- looking a number up among groups
pub looked : (n : ℕ) (gs : List (ℕ × List (List ℕ))) → first_body n (grouped gs) ≡ look n gs
looked n [] = refl
looked n (g ∷ gs) = by_test (looked n gs) (eqb g.0 n) refl where
  by_test : first_body n (grouped gs) ≡ look n gs → (b : Bool) → eqb g.0 n ≡ b
      → first_body n (group g.0 g.1 ++ grouped gs) ≡ cond b (or_first g.1 (look n gs)) (look n gs)
  by_test others true is = look_here n g.1 (grouped gs) g.0 is ∙ ap (or_first g.1) others
  by_test others false is = look_past n g.1 (grouped gs) g.0 is ∙ others

-- all bodies of a number
abbrev pub all_bodies : ℕ → List (ℕ × List (List ℕ)) → List (List ℕ)
all_bodies n [] = []
all_bodies n (g ∷ gs) = cond (eqb g.0 n) (g.1 ++ all_bodies n gs) (all_bodies n gs)

bodies_here : (n : ℕ) (bodies : List (List ℕ)) (es : List Element) (k : ℕ) → eqb k n ≡ true
    → bodies_of n (group k bodies ++ es) ≡ bodies ++ bodies_of n es
bodies_here n [] es k same = refl
bodies_here n (body ∷ bodies) es k same =
    rw same (ap (λ (bs : List (List ℕ)). body ∷ bs) (bodies_here n bodies es k same))

bodies_past : (n : ℕ) (bodies : List (List ℕ)) (es : List Element) (k : ℕ) → eqb k n ≡ false
    → bodies_of n (group k bodies ++ es) ≡ bodies_of n es
bodies_past n [] es k other = refl
bodies_past n (body ∷ bodies) es k other = rw other (bodies_past n bodies es k other)

-- all bodies of a number among groups
pub all_looked : (n : ℕ) (gs : List (ℕ × List (List ℕ))) → bodies_of n (grouped gs) ≡ all_bodies n gs
all_looked n [] = refl
all_looked n (g ∷ gs) = by_test (all_looked n gs) (eqb g.0 n) refl where
  by_test : bodies_of n (grouped gs) ≡ all_bodies n gs → (b : Bool) → eqb g.0 n ≡ b
      → bodies_of n (group g.0 g.1 ++ grouped gs) ≡ cond b (g.1 ++ all_bodies n gs) (all_bodies n gs)
  by_test others true is =
      bodies_here n g.1 (grouped gs) g.0 is ∙ ap (λ (bs : List (List ℕ)). g.1 ++ bs) others
  by_test others false is = bodies_past n g.1 (grouped gs) g.0 is ∙ others

-- one group more
grouped-append : (gs : List (ℕ × List (List ℕ))) (n : ℕ) (bodies : List (List ℕ))
    → grouped gs ++ group n bodies ≡ grouped (gs ++ (n, bodies) ∷ [])
grouped-append [] n bodies = sym (append-nil (group n bodies))
grouped-append (g ∷ gs) n bodies =
    append_assoc (group g.0 g.1) (grouped gs) (group n bodies)
    ∙ ap (λ (es : List Element). group g.0 g.1 ++ es) (grouped-append gs n bodies)

-- a part that is one group
pub first_part : (n : ℕ) (bodies : List (List ℕ)) (a : List ℕ) → IsPart a (group n bodies)
    → IsPart a (grouped ((n, bodies) ∷ []))
first_part n bodies a part = subst (λ (es : List Element). IsPart a es) (sym (append-nil (group n bodies))) part

-- a part with one group more
pub then_part : (gs : List (ℕ × List (List ℕ))) (n : ℕ) (bodies : List (List ℕ)) (a b : List ℕ)
    → IsPart a (grouped gs) → IsPart b (group n bodies) → IsPart (a ++ b) (grouped (gs ++ (n, bodies) ∷ []))
then_part gs n bodies a b first second =
    subst (λ (es : List Element). IsPart (a ++ b) es) (grouped-append gs n bodies)
    (parts a b (grouped gs) (group n bodies) first second)

-- a group of a number that elements of this size have
pub pair_part : (n v : ℕ) → ((octets : List ℕ) → size_of n octets ≡ Some 2)
    → IsPart (pair_element n v) (group n (two_octets v ∷ []))
pair_part n v size = one_part n (two_octets v) (λ rest. size (two_octets v ++ rest))

-- the same where the element may be left out
pub pair_if_part : (n : ℕ) (o : Option ℕ) → ((octets : List ℕ) → size_of n octets ≡ Some 2)
    → IsPart (pair_if n o) (group n (pair_bodies o))
pair_if_part n None size = no_part
pair_if_part n (Some v) size = pair_part n v size

-- an element of one octet
pub octet_part : (n v : ℕ) → ((octets : List ℕ) → size_of n octets ≡ Some 1)
    → IsPart (octet_element n v) (group n ((v ∷ []) ∷ []))
octet_part n v size = one_part n (v ∷ []) (λ rest. size (v ∷ rest))

-- the same where the element may be left out
pub octet_if_part : (n : ℕ) (o : Option ℕ) → ((octets : List ℕ) → size_of n octets ≡ Some 1)
    → IsPart (octet_if n o) (group n (octet_bodies o))
octet_if_part n None size = no_part
octet_if_part n (Some v) size = octet_part n v size

-- a length below 65,536 is that of its two octets
pub length_again : (n : ℕ) → n < 65536 → n / 256 % 256 * 256 + n % 256 ≡ n
length_again n fits = omega (arith, fits)

-- a number is that of its two octets
pub pair_again : (n : ℕ) → n / 256 * 256 + n % 256 ≡ n
pair_again n = omega arith

-- an element with a length
pub list_part : (n : ℕ) (octets : List ℕ)
    → ((a b : ℕ) (more : List ℕ) → size_of n (a ∷ b ∷ more) ≡ Some (2 + (a * 256 + b)))
    → length octets < 65536
    → IsPart (list_element n octets) (group n ((short_length (length octets) ++ octets) ∷ []))
list_part n octets size fits =
    let k = length octets in
    one_part n (short_length k ++ octets)
    (λ rest. size (k / 256 % 256) (k % 256) (octets ++ rest)
    ∙ ap (λ (j : ℕ). Some j) (let e : 2 + (k / 256 % 256 * 256 + k % 256) ≡ length (short_length k ++ octets) =
    omega (arith, length_again k fits) in e))

-- pages
abbrev pub page_bodies : List Content → List (List ℕ)
page_bodies cs = map (λ (c : Content). c.used ∷ c.octets) cs

-- elements with a page each
pub pages_part : (cs : List Content) → ((octets : List ℕ) → size_of 1 octets ≡ Some 83)
    → list_all is_full cs ≡ true → IsPart (flat_map page_element cs) (group 1 (page_bodies cs))
pages_part [] size full = no_part
pages_part (c ∷ cs) size full =
    let both = and_parts (is_full c) (list_all is_full cs) full in
    let sized : Sized 1 (c.used ∷ c.octets) = λ rest.
    size (c.used ∷ (c.octets ++ rest)) ∙ ap (λ (j : ℕ). Some j)
    (let e : 83 ≡ length (c.used ∷ c.octets) = omega (arith, eqb-true (length c.octets) 82 both.0) in e) in
    parts (page_element c) (flat_map page_element cs) (group 1 ((c.used ∷ c.octets) ∷ [])) (group 1 (page_bodies cs))
    (one_part 1 (c.used ∷ c.octets) sized) (pages_part cs size both.1)
