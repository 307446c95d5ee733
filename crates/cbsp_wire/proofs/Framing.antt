-- A message as its head and its elements.
use Rattle.std.proofs.Common.{◌≡◌, ℕ, ◌+◌, ◌-◌, ◌/◌, ◌%◌, ◌≤◌, true, List, [], ◌∷◌, ◌++◌, length, set, sym, ap, subst}
use Rattle.std.proofs.Common.{◌∙◌, arith, append_assoc, length-append, Fits, w8}
use Rattle.std.specs.List.{flat_map}
use Rattle.cbsp_wire.specs.declared.message.Message.{Message}
use Rattle.cbsp_wire.specs.Element.{octets_of_elements}
use Rattle.cbsp_wire.specs.Table.{octet_of_type}
use Rattle.cbsp_wire.specs.Value.{Fields, fields_of, type_of}
use Rattle.cbsp_wire.specs.Range.{numbers, is_writable}
use Rattle.cbsp_wire.specs.Written.{elements_of, framed, octets_of_message}
use Rattle.cbsp_wire.specs.WritingSteps.{field_octets, AreShort}
use Rattle.cbsp_wire.proofs.Lengths.{AreShort-written, length-written}
use Rattle.cbsp_wire.proofs.ElementOctets.{octets-among, patched}
use Rattle.cbsp_wire.proofs.WrittenLaws.{IsWritten-from}

-- the octets of fields' elements
abbrev pub elements_octets : Fields → List ℕ
elements_octets f = flat_map (field_octets f) numbers

-- the lists of a message that is written are short
pub fields_short : (m : Message) (f : Fields) → f ≡ fields_of m → is_writable m ≡ true → AreShort f
fields_short m f is_f h = subst AreShort (sym is_f) (AreShort-written m (IsWritten-from m h))

-- its elements take at most 1,543 octets
pub fields_fit : (m : Message) (f : Fields) → f ≡ fields_of m → is_writable m ≡ true → length (elements_octets f) ≤ 1543
fields_fit m f is_f h =
    subst (λ (g : Fields). length (elements_octets g) ≤ 1543) (sym is_f) (length-written m (IsWritten-from m h))

-- the head and the elements, with the length put in its place, are the message's octets
pub head_written : (m : Message) (f : Fields) (old e : List ℕ) (k n len : ℕ) → f ≡ fields_of m
    → k ≡ octet_of_type (type_of m) → length old ≡ n
    → e ≡ (old ++ k ∷ 0 ∷ 0 ∷ 0 ∷ []) ++ elements_octets f → len ≡ length (elements_octets f)
    → set (set (set e (n + 1) (len / 65536)) (n + 2) (len / 256 % 256)) (n + 3) (len % 256) ≡ old ++ octets_of_message m
unfolding octets_of_message
head_written m f old e k n len is_f is_k is_n is_e is_len =
    let body = elements_octets f in
    let is_body : body ≡ octets_of_elements (elements_of m) =
    ap elements_octets is_f ∙ sym (octets-among (fields_of m) numbers) in
    let joined : e ≡ old ++ (k ∷ 0 ∷ 0 ∷ 0 ∷ body) = is_e ∙ append_assoc old (k ∷ 0 ∷ 0 ∷ 0 ∷ []) body in
    ap (λ (x : List ℕ). set (set (set x (n + 1) (len / 65536)) (n + 2) (len / 256 % 256)) (n + 3) (len % 256)) joined
    ∙ patched old body k (len / 65536) (len / 256 % 256) (len % 256) n is_n
    ∙ ap (λ (l : ℕ). old ++ (k ∷ l / 65536 ∷ l / 256 % 256 ∷ l % 256 ∷ body)) is_len
    ∙ ap (λ (j : ℕ). old ++ framed j body) is_k
    ∙ ap (λ (r : List ℕ). old ++ framed (octet_of_type (type_of m)) r) is_body

-- the length of what stands behind the head
pub elements_len : (old put e body : List ℕ) (k n l : ℕ) → n ≡ length old → l ≡ length e
    → put ≡ old ++ k ∷ 0 ∷ 0 ∷ 0 ∷ [] → e ≡ put ++ body → l - n - 4 ≡ length body
elements_len old put e body k n l is_n is_l is_put is_e =
    let one : length put ≡ length old + 4 = ap length is_put ∙ length-append old (k ∷ 0 ∷ 0 ∷ 0 ∷ []) in
    let two : length e ≡ length put + length body = ap length is_e ∙ length-append put body in
    omega (arith, one, two)

-- the high octet of that length is an octet
pub cast_fits : (n : ℕ) (body : List ℕ) → n ≡ length body → length body ≤ 1543 → Fits w8 (n / 65536)
cast_fits n body is_n fits = omega arith
