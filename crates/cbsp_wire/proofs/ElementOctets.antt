-- The octets of elements, one number after the other.
use Rattle.std.proofs.Common.{◌≡◌, ℕ, ◌+◌, ◌*◌, false, eqb, ◌-◌, List, [], ◌∷◌, ◌++◌, length, map, set, refl, sym, ap}
use Rattle.std.proofs.Common.{◌∙◌, arith, append_assoc, length-append}
use Rattle.std.specs.List.{flat_map}
use Rattle.std.proofs.lemmas.List.{append-nil, set-append_right}
use Rattle.std.proofs.lemmas.List.Concat.{flat_map-cons}
use Rattle.cbsp_wire.specs.declared.lists.item.Discriminator.{Discriminator}
use Rattle.cbsp_wire.specs.Element.{Element, octets_of_elements}
use Rattle.cbsp_wire.specs.Value.{Fields}
use Rattle.cbsp_wire.specs.Written.{bodies_in, list_head, list_bodies, element, elements_among}
use Rattle.cbsp_wire.specs.WritingSteps.{element_octets, field_octets}
use Rattle.cbsp_wire.proofs.WrittenItems.{length-items}

octets-append : (xs ys : List Element) → octets_of_elements (xs ++ ys) ≡ octets_of_elements xs ++ octets_of_elements ys
octets-append [] ys = refl
octets-append (x ∷ xs) ys =
    ap (λ (o : List ℕ). x.number ∷ (x.body ++ o)) (octets-append xs ys)
    ∙ ap (λ (o : List ℕ). x.number ∷ o) (sym (append_assoc x.body (octets_of_elements xs) (octets_of_elements ys)))

-- the octets of elements are those of each number in turn
pub octets-among : (f : Fields) (ns : List ℕ) → octets_of_elements (elements_among f ns) ≡ flat_map (field_octets f) ns
octets-among f [] = refl
octets-among f (n ∷ ns) =
    octets-append (map (element n) (bodies_in f n)) (elements_among f ns)
    ∙ ap (λ (o : List ℕ). field_octets f n ++ o) (octets-among f ns)
    ∙ sym (flat_map-cons (field_octets f) n ns)

-- a list with its head and its items
pub list_octets : {X : Type 0} (discriminator : Discriminator) (octets : X → List ℕ) (size : ℕ)
    → ((x : X) → length (octets x) ≡ size)
    → (old : List ℕ) (n : ℕ) (xs : List X) → eqb (length xs) 0 ≡ false
    → (old ++ n ∷ list_head discriminator (length xs * size)) ++ flat_map octets xs
    ≡ old ++ element_octets n (list_bodies discriminator octets xs)
list_octets discriminator octets size len old n [] some = absurd cc
list_octets discriminator octets size len old n (x ∷ xs) some =
    let items = flat_map octets (x ∷ xs) in
    let k : length items ≡ length (x ∷ xs) * size = length-items octets size len (x ∷ xs) in
    append_assoc old (n ∷ list_head discriminator (length (x ∷ xs) * size)) items
    ∙ ap (λ (m : ℕ). old ++ (n ∷ (list_head discriminator m ++ items))) (sym k)
    ∙ ap (λ (i : List ℕ). old ++ (n ∷ i)) (sym (append-nil (list_head discriminator (length items) ++ items)))

-- how long they are
pub list_octets-len : {X : Type 0} (discriminator : Discriminator) (octets : X → List ℕ) (size : ℕ)
    → ((x : X) → length (octets x) ≡ size)
    → (n : ℕ) (xs : List X) → eqb (length xs) 0 ≡ false
    → length (element_octets n (list_bodies discriminator octets xs))
    ≡ 1 + length (list_head discriminator (length xs * size)) + length (flat_map octets xs)
list_octets-len discriminator octets size len n xs some =
    let whole = list_octets discriminator octets size len [] n xs some in
    omega (arith, ap length whole, length-append (list_head discriminator (length xs * size)) (flat_map octets xs))

-- a length that is written into its place
pub patched : (old body : List ℕ) (k a b c : ℕ) (n : ℕ) → length old ≡ n
    → set (set (set (old ++ (k ∷ 0 ∷ 0 ∷ 0 ∷ body)) (n + 1) a) (n + 2) b) (n + 3) c ≡ old ++ (k ∷ a ∷ b ∷ c ∷ body)
patched old body k a b c n len =
    let e1 : n + 1 - n ≡ 1 = omega arith in
    let e2 : n + 2 - n ≡ 2 = omega arith in
    let e3 : n + 3 - n ≡ 3 = omega arith in
    let s1 : set (old ++ (k ∷ 0 ∷ 0 ∷ 0 ∷ body)) (n + 1) a ≡ old ++ (k ∷ a ∷ 0 ∷ 0 ∷ body) =
    set-append_right old (k ∷ 0 ∷ 0 ∷ 0 ∷ body) n (n + 1) a len (omega arith)
    ∙ ap (λ (i : ℕ). old ++ set (k ∷ 0 ∷ 0 ∷ 0 ∷ body) i a) e1 in
    let s2 : set (old ++ (k ∷ a ∷ 0 ∷ 0 ∷ body)) (n + 2) b ≡ old ++ (k ∷ a ∷ b ∷ 0 ∷ body) =
    set-append_right old (k ∷ a ∷ 0 ∷ 0 ∷ body) n (n + 2) b len (omega arith)
    ∙ ap (λ (i : ℕ). old ++ set (k ∷ a ∷ 0 ∷ 0 ∷ body) i b) e2 in
    let s3 : set (old ++ (k ∷ a ∷ b ∷ 0 ∷ body)) (n + 3) c ≡ old ++ (k ∷ a ∷ b ∷ c ∷ body) =
    set-append_right old (k ∷ a ∷ b ∷ 0 ∷ body) n (n + 3) c len (omega arith)
    ∙ ap (λ (i : ℕ). old ++ set (k ∷ a ∷ b ∷ 0 ∷ body) i c) e3 in
    ap (λ (o : List ℕ). set (set o (n + 2) b) (n + 3) c) s1 ∙ ap (λ (o : List ℕ). set o (n + 3) c) s2 ∙ s3
