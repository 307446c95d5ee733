-- Octets without a fault have exactly one value.
use Rattle.std.proofs.Common.{◌≡◌, ℕ, Bool, true, false, cond, ltb, eqb, List, [], ◌∷◌, length, Option, Some, None}
use Rattle.std.proofs.Common.{refl, sym, ap, subst, ◌∙◌, arith}
use Rattle.std.specs.Prelude.{not}
use Rattle.std.specs.List.{AllByRecursion}
use Rattle.std.proofs.lemmas.Bool.{ltb-false, le-ltb, eqb-true}
use Rattle.cbsp_wire.specs.declared.message.message_type.MessageType.{MessageType}
use Rattle.cbsp_wire.specs.declared.message.message_type.MessageType.TheVariants as types
use Rattle.cbsp_wire.specs.declared.reading.elements.WalkEnd.{WalkEnd}
use Rattle.cbsp_wire.specs.declared.reading.elements.WalkEnd.TheVariants.{Complete, UnexpectedElement, CutOff}
use Rattle.cbsp_wire.specs.declared.fault.WireFault.{WireFault}
use Rattle.cbsp_wire.specs.declared.fault.WireFault.TheVariants.{Truncated, TrailingBytes, Cause, Refused}
use Rattle.cbsp_wire.specs.declared.message.Message.{Message}
use Rattle.cbsp_wire.specs.Element.{Element}
use Rattle.cbsp_wire.specs.Table.{octet_of_type, type_from_octet}
use Rattle.cbsp_wire.specs.Walk.{Walk, walk_of}
use Rattle.cbsp_wire.specs.Value.{message_of, type_of}
use Rattle.cbsp_wire.specs.Range.{has_mandatory, elements_are_valid}
use Rattle.cbsp_wire.specs.Refusals.{fault_of_walk, fault_of_type, length_field, first_fault, reported_fault}
use Rattle.cbsp_wire.specs.ReadingSteps.{HasHeader}
use Rattle.cbsp_wire.specs.Valid.{HasMandatory}
use Rattle.cbsp_wire.specs.Meaning.{IsOf, AreElementsOf, IsMessage}
use Rattle.cbsp_wire.proofs.ElementFacts.{mandatory_from, mandatory_pass, elements_from, elements_pass}
use Rattle.cbsp_wire.proofs.WalkLaws.{walk_of-elements, walk_of-whole}

-- the type's octet says the type, and no other octet does
pub type_from_octet-octet_of_type : (message_type : MessageType)
    → type_from_octet (octet_of_type message_type) ≡ Some message_type
type_from_octet-octet_of_type types.Write = refl
type_from_octet-octet_of_type types.WriteDone = refl
type_from_octet-octet_of_type types.WriteFailed = refl
type_from_octet-octet_of_type types.Kill = refl
type_from_octet-octet_of_type types.KillDone = refl
type_from_octet-octet_of_type types.KillFailed = refl

one_of : (octet n : ℕ) (k message_type : MessageType) (others : Option MessageType) → octet_of_type k ≡ n
    → cond (eqb octet n) (Some k) others ≡ Some message_type →
    (others ≡ Some message_type → octet ≡ octet_of_type message_type)
    → octet ≡ octet_of_type message_type
one_of octet n k message_type others is_n h rest = by_test (eqb octet n) refl h where
  by_test : (b : Bool) → eqb octet n ≡ b → cond b (Some k) others ≡ Some message_type
      → octet ≡ octet_of_type message_type
  by_test true test g = let same : k ≡ message_type = cc in eqb-true _ _ test ∙ sym is_n ∙ ap octet_of_type same
  by_test false test g = rest g

-- an octet that names a type is that type's
pub octet_of_type-from : (octet : ℕ) (message_type : MessageType) → type_from_octet octet ≡ Some message_type
    → octet ≡ octet_of_type message_type
octet_of_type-from octet message_type h =
    one_of octet 1 types.Write message_type _ refl h λ h2.
    one_of octet 2 types.WriteDone message_type _ refl h2 λ h3.
    one_of octet 3 types.WriteFailed message_type _ refl h3 λ h4.
    one_of octet 4 types.Kill message_type _ refl h4 λ h5.
    one_of octet 5 types.KillDone message_type _ refl h5 λ h6.
    one_of octet 6 types.KillFailed message_type _ refl h6 λ h7. absurd cc

-- the message that elements say is of the type for which they were read
pub type_of-message_of : (message_type : MessageType) (es : List Element)
    → type_of (message_of message_type es) ≡ message_type
unfolding message_of
type_of-message_of types.Write es = refl
type_of-message_of types.WriteDone es = refl
type_of-message_of types.WriteFailed es = refl
type_of-message_of types.Kill es = refl
type_of-message_of types.KillDone es = refl
type_of-message_of types.KillFailed es = refl

-- elements without a fault
record HasNoFault (message_type : MessageType) (es : List Element) (stop : WalkEnd) : Type 0 where
  ends : stop ≡ Complete
  mandatory : has_mandatory message_type es ≡ true
  in_range : elements_are_valid es ≡ true

no_fault_whole : (m r : Bool) → cond (not m) (Some (Cause 5)) (cond (not r) (Some (Cause 1)) None) ≡ None
    → (m ≡ true) × (r ≡ true)
no_fault_whole true true h = (refl, refl)
no_fault_whole true false h = absurd cc
no_fault_whole false r h = absurd cc

no_fault_strange : (m : Bool) → cond (not m) (Some (Cause 5)) (Some (Cause 0)) ≡ None → ⊥
no_fault_strange true h = cc
no_fault_strange false h = cc

no_fault : (message_type : MessageType) (es : List Element) (stop : WalkEnd) → fault_of_walk message_type es stop ≡ None
    → HasNoFault message_type es stop
no_fault message_type es CutOff h = absurd cc
no_fault message_type es UnexpectedElement h = absurd (no_fault_strange (has_mandatory message_type es) h)
no_fault message_type es Complete h =
    let both = no_fault_whole (has_mandatory message_type es) (elements_are_valid es) h in
    record { ends = refl; mandatory = both.0; in_range = both.1 }

framed : (n t : ℕ) (others : Option WireFault)
    → cond (ltb n t) (Some Truncated) (cond (ltb t n) (Some TrailingBytes) others) ≡ None → (t ≡ n) × (others ≡ None)
framed n t others h = by_tests (ltb n t) refl (ltb t n) refl h where
  by_tests : (a : Bool) → ltb n t ≡ a → (b : Bool) → ltb t n ≡ b
      → cond a (Some Truncated) (cond b (Some TrailingBytes) others) ≡ None → (t ≡ n) × (others ≡ None)
  by_tests true ta b tb g = absurd cc
  by_tests false ta true tb g = absurd cc
  by_tests false ta false tb g = (omega (arith, ltb-false n t ta, ltb-false t n tb), g)

are_elements : (message_type : MessageType) (es : List Element) → AllByRecursion (IsOf message_type) es
    → has_mandatory message_type es ≡ true
    → elements_are_valid es ≡ true → AreElementsOf (message_of message_type es) es
are_elements message_type es of_type mandatory valid =
    let same = type_of-message_of message_type es in
    record {
      of_type = subst (λ (k : MessageType). AllByRecursion (IsOf k) es) (sym same) of_type;
      mandatory = subst (λ (k : MessageType). HasMandatory k es) (sym same) (mandatory_from message_type es mandatory);
      valid = elements_from es valid;
      value = ap (λ (k : MessageType). message_of k es) (sym same);
    }

-- octets without a fault mean what their elements say
pub first_fault-none : (octets : List ℕ) (message_type : MessageType) (elements : List ℕ) → first_fault octets ≡ None
    → HasHeader octets message_type elements → IsMessage octets
    (message_of message_type (walk_of message_type elements).elements)
unfolding first_fault IsMessage
first_fault-none [] message_type elements h parts = absurd parts
first_fault-none (o ∷ []) message_type elements h parts = absurd parts
first_fault-none (o ∷ a ∷ []) message_type elements h parts = absurd parts
first_fault-none (o ∷ a ∷ b ∷ []) message_type elements h parts = absurd parts
first_fault-none (o ∷ a ∷ b ∷ c ∷ rest) message_type elements h parts =
    let frame = framed (length rest) (length_field a b c) (fault_of_type (type_from_octet o) rest) h in
    let by_type : fault_of_type (Some message_type) rest ≡ None =
    ap (λ (k : Option MessageType). fault_of_type k rest) (sym parts.0) ∙ frame.1 in
    let clean = no_fault message_type (walk_of message_type rest).elements (walk_of message_type rest).stop by_type in
    let whole = walk_of-whole message_type rest clean.ends in
    let octet : o ≡ octet_of_type (type_of (message_of message_type (walk_of message_type rest).elements)) =
    octet_of_type-from o message_type parts.0 ∙ ap octet_of_type
    (sym (type_of-message_of message_type (walk_of message_type rest).elements)) in
    let are = are_elements message_type (walk_of message_type rest).elements whole.of_type clean.mandatory
    clean.in_range in
    let meant : IsMessage (o ∷ a ∷ b ∷ c ∷ rest) (message_of message_type (walk_of message_type rest).elements) =
    (octet, frame.0, ((walk_of message_type rest).elements, whole.parts, are)) in
    subst (λ (e : List ℕ). IsMessage (o ∷ a ∷ b ∷ c ∷ rest) (message_of message_type (walk_of message_type e).elements))
    (sym parts.1) meant

-- octets that mean m have no fault, and m is what their elements say
pub record IsRead (octets : List ℕ) (m : Message) : Type 0 where
  pub faultless : first_fault octets ≡ None
  pub value : (message_type : MessageType) (elements : List ℕ) → HasHeader octets message_type elements
      → m ≡ message_of message_type (walk_of message_type elements).elements

meant_whole : (message_type : MessageType) (es : List Element) (m r : Bool) → m ≡ true → r ≡ true
    → cond (not m) (Some (Cause 5)) (cond (not r) (Some (Cause 1)) None) ≡ None
meant_whole message_type es m r hm hr = rw (hm, hr) refl

-- octets that mean a message have no fault, and reading them gives it
pub IsMessage-read : (octets : List ℕ) (m : Message) → IsMessage octets m → IsRead octets m
unfolding first_fault IsMessage
IsMessage-read [] m h = absurd h
IsMessage-read (o ∷ []) m h = absurd h
IsMessage-read (o ∷ a ∷ []) m h = absurd h
IsMessage-read (o ∷ a ∷ b ∷ []) m h = absurd h
IsMessage-read (o ∷ a ∷ b ∷ c ∷ rest) m h =
    let message_type = type_of m in
    let es = h.2.0 in
    let is_type : type_from_octet o ≡ Some message_type = ap type_from_octet h.0
    ∙ type_from_octet-octet_of_type message_type in
    let walked : walk_of message_type rest ≡ (let w : Walk = record { elements = es; stop = Complete } in w) =
    ap (walk_of message_type) h.2.1 ∙ walk_of-elements message_type es h.2.2.of_type in
    let clean : fault_of_type (Some message_type) rest ≡ None =
    ap (λ (w : Walk). fault_of_walk message_type w.elements w.stop) walked
    ∙ meant_whole message_type es (has_mandatory message_type es) (elements_are_valid es)
    (mandatory_pass message_type es h.2.2.mandatory) (elements_pass es h.2.2.valid) in
    let long : ltb (length rest) (length_field a b c) ≡ false = le-ltb _ _ (omega (arith, h.1)) in
    let short : ltb (length_field a b c) (length rest) ≡ false = le-ltb _ _ (omega (arith, h.1)) in
    record {
      faultless = rw (long, short, is_type) clean;
      value = λ k elements parts.
          let same : message_type ≡ k = let both : Some message_type ≡ Some k = sym is_type ∙ parts.0 in cc in
          h.2.2.value ∙ ap (λ (w : Walk). message_of message_type w.elements) (sym walked)
          ∙ ap (λ (j : MessageType). message_of j (walk_of j rest).elements) same
          ∙ ap (λ (e : List ℕ). message_of k (walk_of k e).elements) (sym parts.1);
    }

-- the parts of octets that mean something
HasHeader-meant : (octets : List ℕ) (m : Message) → IsMessage octets m
    → (elements : List ℕ) × HasHeader octets (type_of m) elements
unfolding IsMessage
HasHeader-meant [] m h = absurd h
HasHeader-meant (o ∷ []) m h = absurd h
HasHeader-meant (o ∷ a ∷ []) m h = absurd h
HasHeader-meant (o ∷ a ∷ b ∷ []) m h = absurd h
HasHeader-meant (o ∷ a ∷ b ∷ c ∷ rest) m h =
    (rest, (ap type_from_octet h.0 ∙ type_from_octet-octet_of_type (type_of m), refl))

-- octets have at most one value
pub IsMessage-unique : (octets : List ℕ) (m n : Message) → IsMessage octets m → IsMessage octets n → m ≡ n
IsMessage-unique octets m n hm hn =
    let parts = HasHeader-meant octets m hm in
    (IsMessage-read octets m hm).value (type_of m) parts.0 parts.1
    ∙ sym ((IsMessage-read octets n hn).value (type_of m) parts.0 parts.1)

-- octets with a fault mean nothing
pub IsMessage-faulty : (octets : List ℕ) (m : Message) (fault : WireFault) → first_fault octets ≡ Some fault
    → IsMessage octets m → ⊥
IsMessage-faulty octets m fault h meant =
    let none : first_fault octets ≡ None = (IsMessage-read octets m meant).faultless in cc

-- a fault that is reported isn't that memory ran out
pub reported_fault-refused : (fault : WireFault) → reported_fault fault ≡ Some fault → fault ≡ Refused → ⊥
reported_fault-refused fault h same =
    let none : reported_fault fault ≡ None = ap reported_fault same in
    cc

-- octets without a fault have a type
HasHeader-faultless : (octets : List ℕ) → first_fault octets ≡ None
    → (message_type : MessageType) × ((elements : List ℕ) × HasHeader octets message_type elements)
unfolding first_fault
HasHeader-faultless [] h = absurd cc
HasHeader-faultless (o ∷ []) h = absurd cc
HasHeader-faultless (o ∷ a ∷ []) h = absurd cc
HasHeader-faultless (o ∷ a ∷ b ∷ []) h = absurd cc
HasHeader-faultless (o ∷ a ∷ b ∷ c ∷ rest) h =
    by_type (type_from_octet o) refl
    (framed (length rest) (length_field a b c) (fault_of_type (type_from_octet o) rest) h).1 where
      by_type : (k : Option MessageType) → type_from_octet o ≡ k → fault_of_type k rest ≡ None
          → (message_type : MessageType) × ((elements : List ℕ)
          × HasHeader (o ∷ a ∷ b ∷ c ∷ rest) message_type elements)
      by_type None is_k g = absurd cc
      by_type (Some message_type) is_k g = (message_type, (rest, (is_k, refl)))

-- octets without a fault mean something
pub first_fault-some : (octets : List ℕ) → first_fault octets ≡ None → (m : Message) × IsMessage octets m
first_fault-some octets h =
    let p = HasHeader-faultless octets h in
    (message_of p.0 (walk_of p.0 p.1.0).elements, first_fault-none octets p.0 p.1.0 h p.1.1)
