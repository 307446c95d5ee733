-- The elements of a message are what its fields say.
use Rattle.std.proofs.Common.{◌≡◌, ℕ, ◌+◌, Bool, true, false, cond, eqb, List, [], ◌∷◌, ◌++◌, length, map, Option, Some}
use Rattle.std.proofs.Common.{None, refl, sym, ap, ◌∙◌, arith}
use Rattle.std.specs.Prelude.{nat_le}
use Rattle.std.specs.List.{AllByRecursion, list_all, flat_map}
use Rattle.std.proofs.lemmas.List.{append-nil}
use Rattle.std.proofs.lemmas.Bool.{eqb-true}
use Rattle.cbs_page.specs.declared.content.Content.{Content}
use Rattle.cbsp_wire.specs.declared.lists.item.Discriminator.{Discriminator}
use Rattle.cbsp_wire.specs.declared.lists.item.Discriminator.TheVariants as discriminators
use Rattle.cbsp_wire.specs.declared.message.message_type.MessageType.{MessageType}
use Rattle.cbsp_wire.specs.declared.message.message_type.Presence.{Presence}
use Rattle.cbsp_wire.specs.declared.message.message_type.Presence.TheVariants as presences
use Rattle.cbsp_wire.specs.Element.{Element, bodies_of, u16_from_be}
use Rattle.cbsp_wire.specs.Table.{table, presence_of, size_of}
use Rattle.cbsp_wire.specs.Value.{Fields, fields_in, cells_in, counts_in, failures_in}
use Rattle.cbsp_wire.specs.Range.{numbers, is_nothing, is_there_if, has_mandatory, comes_once, has_none_twice, is_full}
use Rattle.cbsp_wire.specs.Meaning.{IsOf}
use Rattle.cbsp_wire.specs.Written.{bodies_in, number_octets, cell_octets, count_octets, failure_octets, number_bodies}
use Rattle.cbsp_wire.specs.Written.{octet_bodies, list_body, list_bodies, content_body, element, elements_among}
use Rattle.cbsp_wire.proofs.Tests.{and_both, list_all-every, list_all-parts}
use Rattle.cbsp_wire.proofs.WrittenItems.{first_body_u16-bodies, first_body_octet-bodies, cells_in-octets}
use Rattle.cbsp_wire.proofs.WrittenItems.{counts_in-octets}
use Rattle.cbsp_wire.proofs.WrittenItems.{failures_in-octets, first_items-bodies, contents-bodies}

bodies_of-append : (n : ℕ) (xs ys : List Element) → bodies_of n (xs ++ ys) ≡ bodies_of n xs ++ bodies_of n ys
bodies_of-append n [] ys = refl
bodies_of-append n (x ∷ xs) ys = by_test (eqb x.number n) (bodies_of-append n xs ys) where
  by_test : (b : Bool) → bodies_of n (xs ++ ys) ≡ bodies_of n xs ++ bodies_of n ys
      → cond b (x.body ∷ bodies_of n (xs ++ ys)) (bodies_of n (xs ++ ys))
      ≡ cond b (x.body ∷ bodies_of n xs) (bodies_of n xs) ++ bodies_of n ys
  by_test true h = ap (λ (bs : List (List ℕ)). x.body ∷ bs) h
  by_test false h = h

bodies_of-made : (n k : ℕ) (bodies : List (List ℕ)) → bodies_of n (map (element k) bodies) ≡ cond (eqb k n) bodies []
bodies_of-made n k bodies = by_test (eqb k n) refl bodies where
  by_test : (b : Bool) → eqb k n ≡ b → (bodies : List (List ℕ))
      → bodies_of n (map (element k) bodies) ≡ cond b bodies []
  by_test true h [] = refl
  by_test true h (body ∷ bodies) = rw h (ap (λ (bs : List (List ℕ)). body ∷ bs) (by_test true h bodies))
  by_test false h [] = refl
  by_test false h (body ∷ bodies) = rw h (by_test false h bodies)

-- the bodies with a number, among elements with these numbers
abbrev among : Fields → ℕ → List ℕ → List (List ℕ)
among f n [] = []
among f n (k ∷ ks) = cond (eqb k n) (bodies_in f k) [] ++ among f n ks

bodies_of-among : (f : Fields) (n : ℕ) (ks : List ℕ) → bodies_of n (elements_among f ks) ≡ among f n ks
bodies_of-among f n [] = refl
bodies_of-among f n (k ∷ ks) =
    bodies_of-append n (map (element k) (bodies_in f k)) (elements_among f ks)
    ∙ rw (bodies_of-made n k (bodies_in f k), bodies_of-among f n ks) refl

found : (f : Fields) (n : ℕ) → among f n numbers ≡ bodies_in f n ++ []
    → bodies_of n (elements_among f numbers) ≡ bodies_in f n
found f n h = bodies_of-among f n numbers ∙ h ∙ append-nil (bodies_in f n)

-- elements whose bodies are those of fields
abbrev pub HasBodies : Fields → List Element → Type 0
HasBodies f es = AllByRecursion (λ n. bodies_of n es ≡ bodies_in f n) numbers

-- the elements made of fields have the bodies of these fields
pub HasBodies-among : (f : Fields) → HasBodies f (elements_among f numbers)
HasBodies-among f = (
  found f 0x0E refl,
  (
    found f 0x03 refl,
    (
      found f 0x02 refl,
      (
        found f 0x09 refl,
        (
          found f 0x08 refl,
          (
            found f 0x04 refl,
            (
              found f 0x12 refl,
              (
                found f 0x05 refl,
                (
                  found f 0x06 refl,
                  (found f 0x07 refl, (found f 0x13 refl, (found f 0x0C refl, (found f 0x01 refl, tt)))),
                ),
              ),
            ),
          ),
        ),
      ),
    ),
  ),
)

-- what is looked up among a message's elements are its fields
pub fields_in-bodies : (f : Fields) (es : List Element) → HasBodies f es → fields_in es ≡ f
unfolding bodies_in
fields_in-bodies f es h =
    let id = h.0 in
    let new_serial = h.1.0 in
    let old_serial = h.1.1.0 in
    let failures = h.1.1.1.0 in
    let completed = h.1.1.1.1.0 in
    let cells = h.1.1.1.1.1.0 in
    let channel = h.1.1.1.1.1.1.0 in
    let category = h.1.1.1.1.1.1.1.0 in
    let period = h.1.1.1.1.1.1.1.1.0 in
    let broadcasts = h.1.1.1.1.1.1.1.1.1.0 in
    let pages = h.1.1.1.1.1.1.1.1.1.1.0 in
    let dcs = h.1.1.1.1.1.1.1.1.1.1.1.0 in
    let contents = h.1.1.1.1.1.1.1.1.1.1.1.1.0 in
    rw (
      id,
      new_serial,
      old_serial,
      failures,
      completed,
      cells,
      channel,
      category,
      period,
      broadcasts,
      pages,
      dcs,
      contents,
      first_body_u16-bodies f.id,
      first_body_u16-bodies f.new_serial,
      first_body_u16-bodies f.old_serial,
      first_items-bodies discriminators.Each failure_octets failures_in f.failures (failures_in-octets f.failures),
      first_items-bodies discriminators.Once count_octets counts_in f.completed (counts_in-octets f.completed),
      first_items-bodies discriminators.Once cell_octets cells_in f.cells (cells_in-octets f.cells),
      first_body_octet-bodies f.channel,
      first_body_octet-bodies f.category,
      first_body_u16-bodies f.period,
      first_body_u16-bodies f.broadcasts,
      first_body_octet-bodies f.pages,
      first_body_octet-bodies f.dcs,
      contents-bodies f.contents,
    ) refl

-- each mandatory element is there where each mandatory field is
pub has_mandatory-bodies : (message_type : MessageType) (f : Fields) (es : List Element) → HasBodies f es
    → list_all (λ n. is_there_if (presence_of message_type n) (bodies_in f n)) numbers ≡ true
    → has_mandatory message_type es ≡ true
has_mandatory-bodies message_type f es h there = along numbers h there where
  along : (ns : List ℕ) → AllByRecursion (λ n. bodies_of n es ≡ bodies_in f n) ns
      → list_all (λ n. is_there_if (presence_of message_type n) (bodies_in f n)) ns ≡ true
      → list_all (λ n. is_there_if (presence_of message_type n) (bodies_of n es)) ns ≡ true
  along [] g t = refl
  along (n ∷ ns) g t =
      let both = list_all-parts (λ k. is_there_if (presence_of message_type k) (bodies_in f k)) n ns t in
      and_both (is_there_if (presence_of message_type n) (bodies_of n es))
      (list_all (λ k. is_there_if (presence_of message_type k) (bodies_of k es)) ns)
      (ap (λ (bs : List (List ℕ)). is_there_if (presence_of message_type n) bs) g.0 ∙ both.0) (along ns g.1 both.1)

-- no field is written twice
number_once : (o : Option ℕ) → nat_le (length (number_bodies o)) 1 ≡ true
number_once None = refl
number_once (Some n) = refl

octet_once : (o : Option ℕ) → nat_le (length (octet_bodies o)) 1 ≡ true
octet_once None = refl
octet_once (Some n) = refl

list_once : {X : Type 0} (discriminator : Discriminator) (octets : X → List ℕ) (xs : List X)
    → nat_le (length (list_bodies discriminator octets xs)) 1 ≡ true
list_once discriminator octets [] = refl
list_once discriminator octets (x ∷ xs) = refl

-- elements with the bodies of fields have none twice but 01
pub has_none_twice-bodies : (f : Fields) (es : List Element) → HasBodies f es → has_none_twice es ≡ true
unfolding bodies_in
has_none_twice-bodies f es h =
    let once =
    λ (n : ℕ) (bodies : List (List ℕ)) (e : bodies_of n es ≡ bodies) (le : nat_le (length bodies) 1 ≡ true).
    (let r : nat_le (length (bodies_of n es)) 1 ≡ true = ap (λ (b : List (List ℕ)). nat_le (length b) 1) e ∙ le in r) in
    list_all-every (λ n. comes_once n es) numbers (
      once _ _ h.0 (number_once f.id),
      (
        once _ _ h.1.0 (number_once f.new_serial),
        (
          once _ _ h.1.1.0 (number_once f.old_serial),
          (
            once _ _ h.1.1.1.0 (list_once discriminators.Each failure_octets f.failures),
            (
              once _ _ h.1.1.1.1.0 (list_once discriminators.Once count_octets f.completed),
              (
                once _ _ h.1.1.1.1.1.0 (list_once discriminators.Once cell_octets f.cells),
                (
                  once _ _ h.1.1.1.1.1.1.0 (octet_once f.channel),
                  (
                    once _ _ h.1.1.1.1.1.1.1.0 (octet_once f.category),
                    (
                      once _ _ h.1.1.1.1.1.1.1.1.0 (number_once f.period),
                      (
                        once _ _ h.1.1.1.1.1.1.1.1.1.0 (number_once f.broadcasts),
                        (
                          once _ _ h.1.1.1.1.1.1.1.1.1.1.0 (octet_once f.pages),
                          (
                            once _ _ h.1.1.1.1.1.1.1.1.1.1.1.0 (octet_once f.dcs),
                            (
                              refl,
                              tt,
                            ),
                          ),
                        ),
                      ),
                    ),
                  ),
                ),
              ),
            ),
          ),
        ),
      ),
    )

-- the bodies that are written have the sizes of their elements
abbrev AreSized : Fields → ℕ → Type 0
AreSized f n = AllByRecursion (λ body. length body ≡ size_of n body) (bodies_in f n)

two_sized : (n : ℕ) → ((body : List ℕ) → size_of n body ≡ 2) → (o : Option ℕ)
    → AllByRecursion (λ body. length body ≡ size_of n body) (number_bodies o)
two_sized n two None = tt
two_sized n two (Some k) = (sym (two (number_octets k)), tt)

one_sized : (n : ℕ) → ((body : List ℕ) → size_of n body ≡ 1) → (o : Option ℕ)
    → AllByRecursion (λ body. length body ≡ size_of n body) (octet_bodies o)
one_sized n one None = tt
one_sized n one (Some k) = (sym (one (k ∷ [])), tt)

listed : (discriminator : Discriminator) (items : List ℕ) → length (list_body discriminator items) ≡ 2 + u16_from_be
    (list_body discriminator items)
listed discriminators.Once items = omega arith
listed discriminators.Each items = omega arith

list_sized : {X : Type 0} (n : ℕ) → ((body : List ℕ) → size_of n body ≡ 2 + u16_from_be body)
    → (discriminator : Discriminator) (octets : X → List ℕ) (xs : List X)
    → AllByRecursion (λ body. length body ≡ size_of n body) (list_bodies discriminator octets xs)
list_sized n size discriminator octets [] = tt
list_sized n size discriminator octets (x ∷ xs) = (
  listed discriminator (flat_map octets (x ∷ xs)) ∙ sym (size (list_body discriminator (flat_map octets (x ∷ xs)))),
  tt,
)

contents_sized : (cs : List Content) → list_all is_full cs ≡ true
    → AllByRecursion (λ body. length body ≡ size_of 1 body) (map content_body cs)
unfolding size_of table
contents_sized [] h = tt
contents_sized (c ∷ cs) h =
    let both = list_all-parts is_full c cs h in
    let len : length c.octets ≡ 82 = eqb-true _ _ both.0 in
    (omega arith, contents_sized cs both.1)

-- each body that is written has the size of its element
pub are_sized : (f : Fields) → list_all is_full f.contents ≡ true → AllByRecursion (AreSized f) numbers
unfolding bodies_in size_of table
are_sized f full = (
  two_sized 0x0E (λ b. refl) f.id,
  (
    two_sized 0x03 (λ b. refl) f.new_serial,
    (
      two_sized 0x02 (λ b. refl) f.old_serial,
      (
        list_sized 0x09 (λ b. refl) discriminators.Each failure_octets f.failures,
        (
          list_sized 0x08 (λ b. refl) discriminators.Once count_octets f.completed,
          (
            list_sized 0x04 (λ b. refl) discriminators.Once cell_octets f.cells,
            (
              one_sized 0x12 (λ b. refl) f.channel,
              (
                one_sized 0x05 (λ b. refl) f.category,
                (
                  two_sized 0x06 (λ b. refl) f.period,
                  (
                    two_sized 0x07 (λ b. refl) f.broadcasts,
                    (
                      one_sized 0x13 (λ b. refl) f.pages,
                      (one_sized 0x0C (λ b. refl) f.dcs, (contents_sized f.contents full, tt)),
                    ),
                  ),
                ),
              ),
            ),
          ),
        ),
      ),
    ),
  ),
)

-- fields that a type of message may have
abbrev pub is_known_if : Presence → List (List ℕ) → Bool
is_known_if presences.Absent bodies = is_nothing bodies
is_known_if presences.Mandatory bodies = true
is_known_if presences.Optional bodies = true

known_element : (message_type : MessageType) (n : ℕ) (presence : Presence) (body : List ℕ) (bodies : List (List ℕ))
    → presence_of message_type n ≡ presence
    → is_known_if presence (body ∷ bodies) ≡ true → presence_of message_type n ≡ presences.Absent → ⊥
known_element message_type n presences.Absent body bodies is_presence h foreign = cc
known_element message_type n presences.Mandatory body bodies is_presence h foreign = cc
known_element message_type n presences.Optional body bodies is_presence h foreign = cc

are_of_one : (message_type : MessageType) (n : ℕ) (bodies : List (List ℕ))
    → (presence_of message_type n ≡ presences.Absent → ⊥)
    → AllByRecursion (λ body. length body ≡ size_of n body) bodies
    → AllByRecursion (IsOf message_type) (map (element n) bodies)
are_of_one message_type n [] known sized = tt
are_of_one message_type n (body ∷ bodies) known sized =
    (record { known = known; sized = sized.0 }, are_of_one message_type n bodies known sized.1)

are_of_number : (message_type : MessageType) (n : ℕ) (bodies : List (List ℕ))
    → is_known_if (presence_of message_type n) bodies ≡ true
    → AllByRecursion (λ body. length body ≡ size_of n body) bodies
    → AllByRecursion (IsOf message_type) (map (element n) bodies)
are_of_number message_type n [] h sized = tt
are_of_number message_type n (body ∷ bodies) h sized =
    are_of_one message_type n (body ∷ bodies) (known_element message_type n (presence_of message_type n) body bodies
    refl h) sized

of_append : (message_type : MessageType) (xs ys : List Element) → AllByRecursion (IsOf message_type) xs
    → AllByRecursion (IsOf message_type) ys
    → AllByRecursion (IsOf message_type) (xs ++ ys)
of_append message_type [] ys hx hy = hy
of_append message_type (x ∷ xs) ys hx hy = (hx.0, of_append message_type xs ys hx.1 hy)

-- the elements that are written are of the message's type
pub are_of_type : (message_type : MessageType) (f : Fields) (ns : List ℕ)
    → list_all (λ n. is_known_if (presence_of message_type n) (bodies_in f n)) ns ≡ true
    → AllByRecursion (AreSized f) ns
    → AllByRecursion (IsOf message_type) (elements_among f ns)
are_of_type message_type f [] known sized = tt
are_of_type message_type f (n ∷ ns) known sized =
    let both = list_all-parts (λ k. is_known_if (presence_of message_type k) (bodies_in f k)) n ns known in
    of_append message_type (map (element n) (bodies_in f n)) (elements_among f ns)
    (are_of_number message_type n (bodies_in f n) both.0 sized.0) (are_of_type message_type f ns both.1 sized.1)
