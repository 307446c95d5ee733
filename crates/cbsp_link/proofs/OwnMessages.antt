-- Octets that mean a message to cbsp_wire are read as that message.
use Rattle.std.proofs.Common.{◌≡◌, ◌≢◌, ℕ, ◌≤◌, Bool, true, false, cond, eqb, eq-eqb, List, [], ◌∷◌, length, map}
use Rattle.std.proofs.Common.{Option, Some, None, Ok, refl, sym, ap, subst, ◌∙◌, arith}
use Rattle.std.specs.Prelude.{nat_le, IfSome}
use Rattle.std.proofs.lemmas.Bool.{le-leb}
use Rattle.cbsp_wire.specs.declared.message.Message.{Message}
use Rattle.cbsp_wire.specs.declared.message.message_type.MessageType.{MessageType}
use Rattle.cbsp_wire.specs.declared.message.message_type.MessageType.TheVariants as types
use Rattle.cbsp_wire.specs.Element.{Element, bodies_of}
use Rattle.cbsp_wire.specs.Meaning.{IsMessage}
use Rattle.cbsp_wire.specs.Table.{table, presence_of, octet_of_type}
use Rattle.cbsp_wire.specs.Valid.{HasMandatory, AreValidElements, IsPageCount}
use Rattle.cbsp_wire.specs.Value as own
use Rattle.cbsp_wire.specs.Value.{message_of, type_of}
use Rattle.cbsp_link.specs.declared.reading.Kind.{Kind}
use Rattle.cbsp_link.specs.declared.reading.Kind.TheVariants as kinds
use Rattle.cbsp_link.specs.Outcome.{◌>>=◌, needed}
use Rattle.cbsp_link.specs.Element.{first_body}
use Rattle.cbsp_link.specs.Item.{cells_of_body, counts_of_body, failures_of_body}
use Rattle.cbsp_link.specs.Laws.{cell_of_own, count_of_own, failure_of_own, link_of_own, OwnIsRead}
use Rattle.cbsp_link.specs.Meaning as link
use Rattle.cbsp_link.specs.Meaning.{link_message, kind_of, write, emergency}
use Rattle.cbsp_link.specs.Value.{as_pair, as_octet, pair_in, octet_in, listed, cells_in, counts_in, needed_cells}
use Rattle.cbsp_link.specs.Value.{needed_failures, pages_in, pages_from, needed_pages}
use Rattle.cbsp_link.proofs.ItemsOfOwn.{first_of, cells_listed, counts_listed, cells_needed, failures_needed}
use Rattle.cbsp_link.proofs.SizesOfOwn.{elements_part}
use Rattle.cbsp_link.proofs.RoundTrip.{says_by, kill_says, broadcast_says, write_done_says, kill_done_says, period_seen}
use Rattle.cbsp_link.proofs.Parts.{IsPart}
use Rattle.cbsp_link.proofs.RoundTrip.{write_failed_says, kill_failed_says, emergency_says}

first_is : (n : ℕ) (es : List Element) → first_body n es ≡ first_of (bodies_of n es)
first_is n [] = refl
first_is n (e ∷ es) = by_test (first_is n es) (eqb e.number n) where
  by_test : first_body n es ≡ first_of (bodies_of n es) → (b : Bool)
      → cond b (Some e.body) (first_body n es) ≡ first_of (cond b (e.body ∷ bodies_of n es) (bodies_of n es))
  by_test others true = refl
  by_test others false = others

-- numbers
pair_of : (bodies : List (List ℕ)) → as_pair (first_of bodies) ≡ own.first_body_u16 bodies
pair_of [] = refl
pair_of (body ∷ bodies) = refl

octet_of : (bodies : List (List ℕ)) → as_octet (first_of bodies) ≡ own.first_body_octet bodies
octet_of [] = refl
octet_of (body ∷ bodies) = refl

pair_is : (n : ℕ) (es : List Element) → pair_in n es ≡ own.u16_value n es
pair_is n es = ap as_pair (first_is n es) ∙ pair_of (bodies_of n es)

octet_is : (n : ℕ) (es : List Element) → octet_in n es ≡ own.u8_value n es
octet_is n es = ap as_octet (first_is n es) ∙ octet_of (bodies_of n es)

pair_some : (bodies : List (List ℕ)) → bodies ≢ []
    → own.first_body_u16 bodies ≡ Some (own.or_0 (own.first_body_u16 bodies))
pair_some [] some = absurd (some refl)
pair_some (body ∷ bodies) some = refl

octet_some : (bodies : List (List ℕ)) → bodies ≢ []
    → own.first_body_octet bodies ≡ Some (own.or_0 (own.first_body_octet bodies))
octet_some [] some = absurd (some refl)
octet_some (body ∷ bodies) some = refl

pair_there : (n : ℕ) (es : List Element) → bodies_of n es ≢ [] → pair_in n es ≡ Some (own.or_0 (own.u16_value n es))
pair_there n es some = pair_is n es ∙ pair_some (bodies_of n es) some

octet_there : (n : ℕ) (es : List Element) → bodies_of n es ≢ []
    → octet_in n es ≡ Some (own.or_0 (own.u8_value n es))
octet_there n es some = octet_is n es ∙ octet_some (bodies_of n es) some

-- lists
cells_are : (es : List Element) → AreValidElements es → cells_in es ≡ Ok (map cell_of_own (own.cells_of es))
cells_are es valid = ap (listed cells_of_body) (first_is 4 es) ∙ cells_listed es (bodies_of 4 es) refl valid.lists

counts_are : (es : List Element) → AreValidElements es → counts_in es ≡ Ok (map count_of_own (own.counts_of es))
counts_are es valid = ap (listed counts_of_body) (first_is 8 es) ∙ counts_listed es (bodies_of 8 es) refl valid.lists

cells_there : (es : List Element) → AreValidElements es → bodies_of 4 es ≢ []
    → needed_cells es ≡ Ok (map cell_of_own (own.cells_of es))
unfolding needed_cells
cells_there es valid some =
    ap (λ (o : Option (List ℕ)). needed 4 o >>= cells_of_body) (first_is 4 es)
    ∙ cells_needed es (bodies_of 4 es) refl valid.lists some

failures_there : (es : List Element) → AreValidElements es → bodies_of 9 es ≢ []
    → needed_failures es ≡ Ok (map failure_of_own (own.failures_of es))
unfolding needed_failures
failures_there es valid some =
    ap (λ (o : Option (List ℕ)). needed 9 o >>= failures_of_body) (first_is 9 es)
    ∙ failures_needed es (bodies_of 9 es) refl valid.lists some

-- the period and the pages
period_fits : (o : Option ℕ) → IfSome o (λ n. (1 ≤ n) × (n ≤ 1024)) → nat_le (own.or_0 o) 4095 ≡ true
period_fits None h = refl
period_fits (Some n) h = le-leb n 4095 (omega (arith, h.1))

pages_fit : (o : Option ℕ) (k : ℕ) → IfSome o (λ n. IsPageCount n k) → (n : ℕ) → o ≡ Some n → IsPageCount n k
pages_fit None k h n is = absurd cc
pages_fit (Some m) k h n is = let same : m ≡ n = cc in subst (λ (j : ℕ). IsPageCount j k) same h

pages_there : (es : List Element) → AreValidElements es → bodies_of 19 es ≢ []
    → needed_pages es ≡ Ok (own.contents_of es)
unfolding needed_pages
pages_there es valid some =
    let n = own.or_0 (own.u8_value 19 es) in
    let fit = pages_fit (own.u8_value 19 es) (length (own.contents_of es)) valid.values.pages n
    (octet_some (bodies_of 19 es) some) in
    let one : nat_le 1 n ≡ true = le-leb 1 n fit.some in
    let few : nat_le n 15 ≡ true = le-leb n 15 fit.few in
    let same : eqb n (length (pages_in es)) ≡ true = eq-eqb _ _ fit.counted in
    ap (λ (o : Option ℕ). needed 19 o >>= pages_from (pages_in es)) (octet_there 19 es some)
    ∙ rw (one, few, same) refl

-- each type of message
abbrev kind_for : MessageType → Kind
kind_for types.Write = kinds.Write
kind_for types.WriteDone = kinds.WriteDone
kind_for types.WriteFailed = kinds.WriteFailed
kind_for types.Kill = kinds.Kill
kind_for types.KillDone = kinds.KillDone
kind_for types.KillFailed = kinds.KillFailed

kind_again : (t : MessageType) → kind_of (octet_of_type t) ≡ Some (kind_for t)
kind_again types.Write = refl
kind_again types.WriteDone = refl
kind_again types.WriteFailed = refl
kind_again types.Kill = refl
kind_again types.KillDone = refl
kind_again types.KillFailed = refl

write_says : (es : List Element) → HasMandatory types.Write es → AreValidElements es → (o : Option ℕ)
    → octet_in 18 es ≡ o
    → link.message_of kinds.Write es ≡ Ok (link_of_own (own.message_with types.Write (record (own.fields_in es) {
      channel = o;
    })))
unfolding presence_of table
write_says es m v None is =
    emergency_says es _ _ _ _ (pair_there 14 es (m.0 refl)) (pair_there 3 es (m.1.0 refl)) is
    (cells_there es v (m.1.1.1.1.1.0 refl)) (pair_is 2 es)
write_says es m v (Some channel) is =
    broadcast_says es _ _ _ _ channel _ _ _ _ _ (pair_there 14 es (m.0 refl)) (pair_there 3 es (m.1.0 refl))
    (pair_is 2 es) is (cells_there es v (m.1.1.1.1.1.0 refl))
    (period_seen es _ (pair_there 6 es (m.1.1.1.1.1.1.1.1.0 refl))
    (period_fits (own.u16_value 6 es) v.values.period))
    (pair_there 7 es (m.1.1.1.1.1.1.1.1.1.0 refl)) (octet_there 12 es (m.1.1.1.1.1.1.1.1.1.1.1.0 refl))
    (pages_there es v (m.1.1.1.1.1.1.1.1.1.1.0 refl)) (octet_is 5 es)

by_type : (t : MessageType) (es : List Element) → HasMandatory t es → AreValidElements es
    → link.message_of (kind_for t) es ≡ Ok (link_of_own (message_of t es))
unfolding presence_of table message_of
by_type types.Write es m v = write_says es m v (own.u8_value 18 es) (octet_is 18 es)
by_type types.WriteDone es m v =
    write_done_says es _ _ _ _ _ _ (pair_there 3 es (m.1.0 refl)) (pair_is 2 es) (pair_there 14 es (m.0 refl))
    (counts_are es v) (cells_are es v) (octet_is 18 es)
by_type types.WriteFailed es m v =
    write_failed_says es _ _ _ _ _ _ _ (pair_there 3 es (m.1.0 refl)) (pair_is 2 es) (pair_there 14 es (m.0 refl))
    (failures_there es v (m.1.1.1.0 refl)) (counts_are es v) (cells_are es v) (octet_is 18 es)
by_type types.Kill es m v =
    kill_says es _ _ _ _ (pair_there 14 es (m.0 refl)) (pair_there 2 es (m.1.1.0 refl))
    (cells_there es v (m.1.1.1.1.1.0 refl)) (octet_is 18 es)
by_type types.KillDone es m v =
    kill_done_says es _ _ _ _ _ (pair_there 2 es (m.1.1.0 refl)) (pair_there 14 es (m.0 refl))
    (counts_are es v) (cells_are es v) (octet_is 18 es)
by_type types.KillFailed es m v =
    kill_failed_says es _ _ _ _ _ _ (pair_there 2 es (m.1.1.0 refl)) (pair_there 14 es (m.0 refl))
    (failures_there es v (m.1.1.1.0 refl)) (counts_are es v) (cells_are es v) (octet_is 18 es)

-- octets that mean a message to cbsp_wire are read as that message, whatever follows them
pub own_read : OwnIsRead
unfolding IsMessage
own_read [] rest m h = absurd h
own_read (o ∷ []) rest m h = absurd h
own_read (o ∷ a ∷ []) rest m h = absurd h
own_read (o ∷ a ∷ b ∷ []) rest m h = absurd h
own_read (o ∷ a ∷ b ∷ c ∷ body) rest m h =
    let t = type_of m in
    let es = h.2.0 in
    let meant : link.message_of (kind_for t) es ≡ Ok (link_of_own m) =
    by_type t es h.2.2.mandatory h.2.2.valid ∙ ap (λ (n : Message). Ok (link_of_own n)) (sym h.2.2.value) in
    let part = subst (λ octets. IsPart octets es) (sym h.2.1) (elements_part t es h.2.2.of_type) in
    let kind : kind_of o ≡ Some (kind_for t) = ap kind_of h.0 ∙ kind_again t in
    says_by o a b c (kind_for t) body rest es (link_of_own m) kind h.1 part meant
