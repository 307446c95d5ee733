-- What is written of a message is read as that message.
use Rattle.std.proofs.Common.{◌≡◌, ℕ, ◌+◌, ◌*◌, ◌/◌, ◌%◌, ◌<◌, ◌≤◌, Bool, true, false, cond, ltb, eqb, eq-eqb}
use Rattle.std.proofs.Common.{List}
use Rattle.std.proofs.Common.{[], ◌∷◌, ◌++◌, length, take, drop, map, Option, Some, None, Result, Ok, Err, refl, sym}
use Rattle.std.proofs.Common.{ap}
use Rattle.std.proofs.Common.{subst, ◌∙◌, append_assoc, arith}
use Rattle.std.specs.Prelude.{◌&&◌, nat_le}
use Rattle.std.specs.List.{flat_map, list_all}
use Rattle.std.proofs.lemmas.Bool.{le-ltb, leb-true, eqb-true}
use Rattle.std.proofs.lemmas.List.{append-nil, take_at, drop_at, length-append}
use Rattle.cbs_page.specs.declared.content.Content.{Content}
use Rattle.cbsp_wire.specs.Element.{Element}
use Rattle.cbsp_wire.specs.Range.{is_full}
use Rattle.cbsp_wire.specs.Refusals.{length_field}
use Rattle.cbsp_wire.specs.Value.{content_of}
use Rattle.cbsp_wire.proofs.Tests.{and_parts}
use Rattle.cbsp_link.specs.declared.fault.LinkFault.{LinkFault}
use Rattle.cbsp_link.specs.declared.fault.LinkFault.TheVariants.{CutMessage}
use Rattle.cbsp_link.specs.declared.message.Answered.TheVariants as orders
use Rattle.cbsp_link.specs.declared.message.LinkCell.{LinkCell}
use Rattle.cbsp_link.specs.declared.message.LinkCount.{LinkCount}
use Rattle.cbsp_link.specs.declared.message.LinkFailure.{LinkFailure}
use Rattle.cbsp_link.specs.declared.message.LinkMessage.{LinkMessage}
use Rattle.cbsp_link.specs.declared.message.LinkMessage.TheVariants as messages
use Rattle.cbsp_link.specs.declared.reading.Kind.{Kind}
use Rattle.cbsp_link.specs.declared.reading.Kind.TheVariants as kinds
use Rattle.cbsp_link.specs.Outcome.{◌>>=◌, faultless, needed}
use Rattle.cbsp_link.specs.Element.{table, size_of}
use Rattle.cbsp_link.specs.Item.{cells_of_body, counts_of_body, failures_of_body}
use Rattle.cbsp_link.specs.Laws.{HasWholePages, LinkIsReadBack}
use Rattle.cbsp_link.specs.Meaning.{Front, front_of, kind_of, message_of, message_by, link_message, kill, reset_failed}
use Rattle.cbsp_link.specs.Meaning.{write_answered, kill_answered, done, failed, restart, failure, broadcast, emergency}
use Rattle.cbsp_link.specs.Meaning.{write}
use Rattle.cbsp_link.specs.Run.{Run}
use Rattle.cbsp_link.specs.Value.{as_pair, as_octet, pair_in, octet_in, listed, cells_in, counts_in, needed_cells}
use Rattle.cbsp_link.specs.Value.{needed_failures, period_from, needed_period, pages_in, pages_from, needed_pages}
use Rattle.cbsp_link.specs.Written.{two_octets, short_length, long_length, cells_element, counts_element}
use Rattle.cbsp_link.specs.Written.{failures_element}
use Rattle.cbsp_link.specs.Written.{name_octets, counted_octets, failed_octets, page_element, discriminator_of}
use Rattle.cbsp_link.specs.Written.{cells_fit}
use Rattle.cbsp_link.specs.Written.{counts_fit, failures_fit, has_some, stands_alone, are_alike, counts_are_alike}
use Rattle.cbsp_link.specs.Written.{or_else}
use Rattle.cbsp_link.specs.Written.{body_of, octets_of_link, wrong_of, at_most}
use Rattle.cbsp_link.specs.Written.{pair_element, pair_if, octet_element, octet_if}
use Rattle.cbsp_link.proofs.Again.{cells_again, counts_again, failures_again, name_most, count_most, failure_most, most}
use Rattle.cbsp_link.proofs.Parts.{IsPart, group, grouped, look, looked, or_first, pair_bodies, octet_bodies}
use Rattle.cbsp_link.proofs.Parts.{page_bodies}
use Rattle.cbsp_link.proofs.Parts.{all_bodies, all_looked, first_part, then_part, pair_part, pair_if_part, octet_part}
use Rattle.cbsp_link.proofs.Parts.{octet_if_part, list_part, pages_part, pair_again, whole, no_part, parts}

-- ---- how long elements are

size14 : (octets : List ℕ) → size_of 14 octets ≡ Some 2
unfolding size_of table
size14 octets = refl

size3 : (octets : List ℕ) → size_of 3 octets ≡ Some 2
unfolding size_of table
size3 octets = refl

size2 : (octets : List ℕ) → size_of 2 octets ≡ Some 2
unfolding size_of table
size2 octets = refl

size6 : (octets : List ℕ) → size_of 6 octets ≡ Some 2
unfolding size_of table
size6 octets = refl

size7 : (octets : List ℕ) → size_of 7 octets ≡ Some 2
unfolding size_of table
size7 octets = refl

size18 : (octets : List ℕ) → size_of 18 octets ≡ Some 1
unfolding size_of table
size18 octets = refl

size5 : (octets : List ℕ) → size_of 5 octets ≡ Some 1
unfolding size_of table
size5 octets = refl

size19 : (octets : List ℕ) → size_of 19 octets ≡ Some 1
unfolding size_of table
size19 octets = refl

size12 : (octets : List ℕ) → size_of 12 octets ≡ Some 1
unfolding size_of table
size12 octets = refl

size22 : (octets : List ℕ) → size_of 22 octets ≡ Some 1
unfolding size_of table
size22 octets = refl

size13 : (octets : List ℕ) → size_of 13 octets ≡ Some 1
unfolding size_of table
size13 octets = refl

size1 : (octets : List ℕ) → size_of 1 octets ≡ Some 83
unfolding size_of table
size1 octets = refl

size4 : (a b : ℕ) (more : List ℕ) → size_of 4 (a ∷ b ∷ more) ≡ Some (2 + (a * 256 + b))
unfolding size_of table
size4 a b more = refl

size8 : (a b : ℕ) (more : List ℕ) → size_of 8 (a ∷ b ∷ more) ≡ Some (2 + (a * 256 + b))
unfolding size_of table
size8 a b more = refl

size9 : (a b : ℕ) (more : List ℕ) → size_of 9 (a ∷ b ∷ more) ≡ Some (2 + (a * 256 + b))
unfolding size_of table
size9 a b more = refl

-- ---- lists

abbrev cells_bodies : List LinkCell → List (List ℕ)
cells_bodies [] = []
cells_bodies (c ∷ cs) =
    let octets = discriminator_of c ∷ flat_map name_octets (c ∷ cs) in
    (short_length (length octets) ++ octets) ∷ []

abbrev counts_bodies : List LinkCount → List (List ℕ)
counts_bodies [] = []
counts_bodies (c ∷ cs) =
    let octets = discriminator_of c.cell ∷ flat_map counted_octets (c ∷ cs) in
    (short_length (length octets) ++ octets) ∷ []

abbrev failures_bodies : List LinkFailure → List (List ℕ)
failures_bodies [] = []
failures_bodies (f ∷ fs) =
    let octets = flat_map failed_octets (f ∷ fs) in
    (short_length (length octets) ++ octets) ∷ []

name_most10 : (c : LinkCell) → length (name_octets c) ≤ 10
name_most10 c = omega (arith, name_most c)

cells_few : (cs : List LinkCell) → cells_fit cs ≡ true → length cs ≤ 5000
cells_few cs fit =
    leb-true (length cs) 5000 (and_parts (nat_le (length cs) 5000) (stands_alone cs) (and_parts
    (nat_le (length cs) 5000 && stands_alone cs) (are_alike cs) fit).0).0

cells_alone : (cs : List LinkCell) → cells_fit cs ≡ true → stands_alone cs ≡ true
cells_alone cs fit =
    (and_parts (nat_le (length cs) 5000) (stands_alone cs) (and_parts
    (nat_le (length cs) 5000 && stands_alone cs) (are_alike cs) fit).0).1

cells_alike : (cs : List LinkCell) → cells_fit cs ≡ true → are_alike cs ≡ true
cells_alike cs fit = (and_parts (nat_le (length cs) 5000 && stands_alone cs) (are_alike cs) fit).1

cells_part : (cs : List LinkCell) → cells_fit cs ≡ true → IsPart (cells_element cs) (group 4 (cells_bodies cs))
cells_part [] fit = no_part
cells_part (c ∷ cs) fit =
    list_part 4 (discriminator_of c ∷ flat_map name_octets (c ∷ cs)) size4
    (omega (arith, most name_octets name_most10 (c ∷ cs), cells_few (c ∷ cs) fit))

counts_part : (cs : List LinkCount) → counts_fit cs ≡ true → IsPart (counts_element cs) (group 8 (counts_bodies cs))
counts_part [] fit = no_part
counts_part (c ∷ cs) fit =
    let few = leb-true (length (c ∷ cs)) 5000
    (and_parts (nat_le (length (c ∷ cs)) 5000) (counts_are_alike (c ∷ cs)) fit).0 in
    list_part 8 (discriminator_of c.cell ∷ flat_map counted_octets (c ∷ cs)) size8
    (omega (arith, most counted_octets count_most (c ∷ cs), few))

failures_part : (fs : List LinkFailure) → failures_fit fs ≡ true
    → IsPart (failures_element fs) (group 9 (failures_bodies fs))
failures_part [] fit = no_part
failures_part (f ∷ fs) fit =
    list_part 9 (flat_map failed_octets (f ∷ fs)) size9
    (omega (arith, most failed_octets failure_most (f ∷ fs), leb-true (length (f ∷ fs)) 5000 fit))

cells_listed : (cs : List LinkCell) → cells_fit cs ≡ true
    → listed cells_of_body (or_first (cells_bodies cs) None) ≡ Ok cs
cells_listed [] fit = refl
cells_listed (c ∷ cs) fit = cells_again c cs _ _ (cells_alone (c ∷ cs) fit) (cells_alike (c ∷ cs) fit)

counts_listed : (cs : List LinkCount) → counts_fit cs ≡ true
    → listed counts_of_body (or_first (counts_bodies cs) None) ≡ Ok cs
counts_listed [] fit = refl
counts_listed (c ∷ cs) fit =
    counts_again c cs _ _ (and_parts (nat_le (length (c ∷ cs)) 5000) (counts_are_alike (c ∷ cs)) fit).1

cells_found : (cs : List LinkCell) → has_some cs ≡ true → cells_fit cs ≡ true
    → (needed 4 (or_first (cells_bodies cs) None) >>= cells_of_body) ≡ Ok cs
cells_found [] some fit = absurd cc
cells_found (c ∷ cs) some fit = cells_again c cs _ _ (cells_alone (c ∷ cs) fit) (cells_alike (c ∷ cs) fit)

failures_found : (fs : List LinkFailure) → has_some fs ≡ true
    → (needed 9 (or_first (failures_bodies fs) None) >>= failures_of_body) ≡ Ok fs
failures_found [] some = absurd cc
failures_found (f ∷ fs) some = failures_again (f ∷ fs) _ _

-- ---- what is seen of elements by their numbers

abbrev Groups : Type 0
Groups = List (ℕ × List (List ℕ))

pair_seen : (n : ℕ) (gs : Groups) (v : ℕ) → look n gs ≡ Some (two_octets v) → pair_in n (grouped gs) ≡ Some v
pair_seen n gs v h = ap as_pair (looked n gs ∙ h) ∙ ap (λ (k : ℕ). Some k) (pair_again v)

pair_if_seen : (n : ℕ) (gs : Groups) (o : Option ℕ) → look n gs ≡ or_first (pair_bodies o) None
    → pair_in n (grouped gs) ≡ o
pair_if_seen n gs None h = ap as_pair (looked n gs ∙ h)
pair_if_seen n gs (Some v) h = pair_seen n gs v h

octet_seen : (n : ℕ) (gs : Groups) (v : ℕ) → look n gs ≡ Some (v ∷ []) → octet_in n (grouped gs) ≡ Some v
octet_seen n gs v h = ap as_octet (looked n gs ∙ h)

octet_if_seen : (n : ℕ) (gs : Groups) (o : Option ℕ) → look n gs ≡ or_first (octet_bodies o) None
    → octet_in n (grouped gs) ≡ o
octet_if_seen n gs None h = ap as_octet (looked n gs ∙ h)
octet_if_seen n gs (Some v) h = octet_seen n gs v h

cells_seen : (gs : Groups) (cs : List LinkCell) → look 4 gs ≡ or_first (cells_bodies cs) None → cells_fit cs ≡ true
    → cells_in (grouped gs) ≡ Ok cs
cells_seen gs cs h fit = ap (listed cells_of_body) (looked 4 gs ∙ h) ∙ cells_listed cs fit

counts_seen : (gs : Groups) (cs : List LinkCount) → look 8 gs ≡ or_first (counts_bodies cs) None
    → counts_fit cs ≡ true → counts_in (grouped gs) ≡ Ok cs
counts_seen gs cs h fit = ap (listed counts_of_body) (looked 8 gs ∙ h) ∙ counts_listed cs fit

needed_cells_seen : (gs : Groups) (cs : List LinkCell) → look 4 gs ≡ or_first (cells_bodies cs) None
    → (has_some cs && cells_fit cs) ≡ true → needed_cells (grouped gs) ≡ Ok cs
unfolding needed_cells
needed_cells_seen gs cs h fit =
    let both = and_parts (has_some cs) (cells_fit cs) fit in
    ap (λ (o : Option (List ℕ)). needed 4 o >>= cells_of_body) (looked 4 gs ∙ h) ∙ cells_found cs both.0 both.1

needed_failures_seen : (gs : Groups) (fs : List LinkFailure) → look 9 gs ≡ or_first (failures_bodies fs) None
    → (has_some fs && failures_fit fs) ≡ true → needed_failures (grouped gs) ≡ Ok fs
unfolding needed_failures
needed_failures_seen gs fs h fit =
    let both = and_parts (has_some fs) (failures_fit fs) fit in
    ap (λ (o : Option (List ℕ)). needed 9 o >>= failures_of_body) (looked 9 gs ∙ h) ∙ failures_found fs both.0

-- the period of elements that have one
pub period_seen : (es : List Element) (v : ℕ) → pair_in 6 es ≡ Some v → nat_le v 4095 ≡ true
    → needed_period es ≡ Ok v
unfolding needed_period
period_seen es v h fit = ap (λ (o : Option ℕ). needed 6 o >>= period_from) h ∙ rw fit refl

pages_back : (cs : List Content) → map content_of (page_bodies cs) ≡ cs
pages_back [] = refl
pages_back (c ∷ cs) = ap (λ (ds : List Content). c ∷ ds) (pages_back cs)

pages_seen : (gs : Groups) (cs : List Content) → look 19 gs ≡ Some (length cs % 256 ∷ [])
    → all_bodies 1 gs ≡ page_bodies cs ++ [] → (nat_le 1 (length cs) && nat_le (length cs) 15) ≡ true
    → needed_pages (grouped gs) ≡ Ok cs
unfolding needed_pages
pages_seen gs cs h all fit =
    let few = leb-true (length cs) 15 (and_parts (nat_le 1 (length cs)) (nat_le (length cs) 15) fit).1 in
    let count : length cs % 256 ≡ length cs = omega (arith, few) in
    let pages : pages_in (grouped gs) ≡ cs =
    ap (map content_of) (all_looked 1 gs ∙ all ∙ append-nil (page_bodies cs)) ∙ pages_back cs in
    let number : octet_in 19 (grouped gs) ≡ Some (length cs) =
    octet_seen 19 gs (length cs % 256) h ∙ ap (λ (k : ℕ). Some k) count in
    let same : eqb (length cs) (length cs) ≡ true = eq-eqb _ _ refl in
    ap (λ (o : Option ℕ). needed 19 o >>= pages_from (pages_in (grouped gs))) number
    ∙ ap (λ (ds : List Content). pages_from ds (length cs)) pages
    ∙ rw (fit, same) refl

-- ---- messages

-- an order to stop, by the values of its elements
pub kill_says : (es : List Element) (id old : ℕ) (cs : List LinkCell) (channel : Option ℕ) → pair_in 14 es ≡ Some id
    → pair_in 2 es ≡ Some old → needed_cells es ≡ Ok cs → octet_in 18 es ≡ channel
    → message_of kinds.Kill es ≡ Ok (messages.Kill id old cs channel)
unfolding message_of kill
kill_says es id old cs channel h1 h2 h3 h4 = rw (h1, h2, h3, h4) refl

-- a write for the cell broadcast channel, by the values of its elements
pub broadcast_says : (es : List Element) (id new : ℕ) (old : Option ℕ) (cs : List LinkCell) (channel : ℕ)
    (category : Option ℕ) (period broadcasts dcs : ℕ) (contents : List Content) → pair_in 14 es ≡ Some id
    → pair_in 3 es ≡ Some new → pair_in 2 es ≡ old → octet_in 18 es ≡ Some channel → needed_cells es ≡ Ok cs
    → needed_period es ≡ Ok period → pair_in 7 es ≡ Some broadcasts → octet_in 12 es ≡ Some dcs
    → needed_pages es ≡ Ok contents → octet_in 5 es ≡ category
    → message_of kinds.Write es
    ≡ Ok (messages.Write id new old cs channel category period broadcasts (record { 0 = dcs }) contents)
unfolding message_of write broadcast
broadcast_says es id new old cs channel category period broadcasts dcs contents h1 h2 h3 h4 h5 h6 h7 h8 h9 h10 =
    rw (h1, h2, h4, h5, h6, h7, h8, h9, h3, h10) refl

-- an emergency message, by the values of its elements
pub emergency_says : (es : List Element) (id new : ℕ) (old : Option ℕ) (cs : List LinkCell) → pair_in 14 es ≡ Some id
    → pair_in 3 es ≡ Some new → octet_in 18 es ≡ None → needed_cells es ≡ Ok cs → pair_in 2 es ≡ old
    → message_of kinds.Write es ≡ Ok (messages.Emergency id new old cs)
unfolding message_of write emergency
emergency_says es id new old cs h1 h2 h3 h4 h5 = rw (h1, h2, h3, h4, h5) refl

-- a WRITE-REPLACE COMPLETE, by the values of its elements
pub write_done_says : (es : List Element) (id new : ℕ) (old : Option ℕ) (counts : List LinkCount) (cs : List LinkCell)
    (channel : Option ℕ) → pair_in 3 es ≡ Some new → pair_in 2 es ≡ old → pair_in 14 es ≡ Some id
    → counts_in es ≡ Ok counts → cells_in es ≡ Ok cs → octet_in 18 es ≡ channel
    → message_of kinds.WriteDone es ≡ Ok (messages.Done id (orders.Write new old) counts cs channel)
unfolding message_of write_answered done
write_done_says es id new old counts cs channel h1 h2 h3 h4 h5 h6 = rw (h1, h2, h3, h4, h5, h6) refl

-- a KILL COMPLETE, by the values of its elements
pub kill_done_says : (es : List Element) (id old : ℕ) (counts : List LinkCount) (cs : List LinkCell)
    (channel : Option ℕ) → pair_in 2 es ≡ Some old → pair_in 14 es ≡ Some id
    → counts_in es ≡ Ok counts → cells_in es ≡ Ok cs → octet_in 18 es ≡ channel
    → message_of kinds.KillDone es ≡ Ok (messages.Done id (orders.Kill old) counts cs channel)
unfolding message_of kill_answered done
kill_done_says es id old counts cs channel h1 h2 h3 h4 h5 = rw (h1, h2, h3, h4, h5) refl

-- a WRITE-REPLACE FAILURE, by the values of its elements
pub write_failed_says : (es : List Element) (id new : ℕ) (old : Option ℕ) (fs : List LinkFailure)
    (counts : List LinkCount) (cs : List LinkCell) (channel : Option ℕ) → pair_in 3 es ≡ Some new
    → pair_in 2 es ≡ old → pair_in 14 es ≡ Some id → needed_failures es ≡ Ok fs
    → counts_in es ≡ Ok counts → cells_in es ≡ Ok cs → octet_in 18 es ≡ channel
    → message_of kinds.WriteFailed es ≡ Ok (messages.Failed id (orders.Write new old) fs counts cs channel)
unfolding message_of write_answered failed
write_failed_says es id new old fs counts cs channel h1 h2 h3 h4 h5 h6 h7 = rw (h1, h2, h3, h4, h5, h6, h7) refl

-- a KILL FAILURE, by the values of its elements
pub kill_failed_says : (es : List Element) (id old : ℕ) (fs : List LinkFailure) (counts : List LinkCount)
    (cs : List LinkCell) (channel : Option ℕ) → pair_in 2 es ≡ Some old → pair_in 14 es ≡ Some id
    → needed_failures es ≡ Ok fs → counts_in es ≡ Ok counts → cells_in es ≡ Ok cs → octet_in 18 es ≡ channel
    → message_of kinds.KillFailed es ≡ Ok (messages.Failed id (orders.Kill old) fs counts cs channel)
unfolding message_of kill_answered failed
kill_failed_says es id old fs counts cs channel h1 h2 h3 h4 h5 h6 = rw (h1, h2, h3, h4, h5, h6) refl

reset_says : (es : List Element) (cs : List LinkCell) → needed_cells es ≡ Ok cs
    → message_of kinds.Reset es ≡ Ok (messages.Reset cs)
unfolding message_of
reset_says es cs h = rw h refl

reset_done_says : (es : List Element) (cs : List LinkCell) → needed_cells es ≡ Ok cs
    → message_of kinds.ResetDone es ≡ Ok (messages.ResetDone cs)
unfolding message_of
reset_done_says es cs h = rw h refl

reset_failed_says : (es : List Element) (fs : List LinkFailure) (cs : List LinkCell) → needed_failures es ≡ Ok fs
    → cells_in es ≡ Ok cs → message_of kinds.ResetFailed es ≡ Ok (messages.ResetFailed fs cs)
unfolding message_of reset_failed
reset_failed_says es fs cs h1 h2 = rw (h1, h2) refl

restart_says : (es : List Element) (cs : List LinkCell) (kind recovery : ℕ) → needed_cells es ≡ Ok cs
    → octet_in 22 es ≡ Some kind → octet_in 13 es ≡ Some recovery
    → message_of kinds.Restart es ≡ Ok (messages.Restart cs kind recovery)
unfolding message_of restart
restart_says es cs kind recovery h1 h2 h3 = rw (h1, h2, h3) refl

failure_says : (es : List Element) (fs : List LinkFailure) (kind : ℕ) → needed_failures es ≡ Ok fs
    → octet_in 22 es ≡ Some kind → message_of kinds.Failure es ≡ Ok (messages.Failure fs kind)
unfolding message_of failure
failure_says es fs kind h1 h2 = rw (h1, h2) refl

-- ---- the frame

field : (n : ℕ) → n < 16777216 → length_field (n / 65536 % 256) (n / 256 % 256) (n % 256) ≡ n
field n fits = omega (arith, fits)

-- the message at the front, by a length field that is that of its body
pub framed_by : (t a b c : ℕ) (body rest : List ℕ) → length_field a b c ≡ length body
    → front_of (t ∷ a ∷ b ∷ c ∷ (body ++ rest)) ≡ Ok (record { message_type = t; body = body; rest = rest })
unfolding front_of
framed_by t a b c body rest is =
    let n = length body in
    let long : ltb (length (body ++ rest)) n ≡ false = le-ltb _ _ (omega (arith, length-append body rest)) in
    let front = λ (size : ℕ). cond (ltb (length (body ++ rest)) size) (Err CutMessage)
    (let r : Result Front LinkFault = Ok (record {
      message_type = t;
      body = take size (body ++ rest);
      rest = drop size (body ++ rest);
    }) in r) in
    ap front is
    ∙ rw (long, take_at body rest n refl, drop_at body rest n refl) refl

-- octets are read as the message that the elements of their body say
pub says_by : (t a b c : ℕ) (kind : Kind) (body rest : List ℕ) (es : List Element) (m : LinkMessage)
    → kind_of t ≡ Some kind → length_field a b c ≡ length body → IsPart body es → message_of kind es ≡ Ok m
    → link_message (t ∷ a ∷ b ∷ c ∷ (body ++ rest)) ≡ Ok (m, rest)
unfolding link_message
says_by t a b c kind body rest es m is_kind is part meant =
    let inner : message_by t (kind_of t) body ≡ Ok m =
    ap (λ (o : Option Kind). message_by t o body) is_kind
    ∙ ap (λ (r : Run Element). faultless r.items r.stop >>= message_of kind) (whole body es part)
    ∙ meant in
    rw (framed_by t a b c body rest is, inner) refl

says : (t : ℕ) (kind : Kind) (body rest : List ℕ) (es : List Element) (m : LinkMessage) → kind_of t ≡ Some kind
    → length body < 16777216 → IsPart body es → message_of kind es ≡ Ok m
    → link_message ((t ∷ (long_length (length body) ++ body)) ++ rest) ≡ Ok (m, rest)
says t kind body rest es m is_kind fits part meant =
    let n = length body in
    says_by t (n / 65536 % 256) (n / 256 % 256) (n % 256) kind body rest es m is_kind (field n fits) part meant

-- ---- what is known of a message that is written

passed : (n : ℕ) (b : Bool) (o : Option LinkFault) → or_else n b o ≡ None → (b ≡ true) × (o ≡ None)
passed n true o h = (refl, h)
passed n false o h = absurd cc

not_wrong : (octets : List ℕ) (o : Option LinkFault) (said : List ℕ) → faultless octets o ≡ Ok said
    → (o ≡ None) × (octets ≡ said)
not_wrong octets None said h = (refl, cc)
not_wrong octets (Some f) said h = absurd cc

-- ---- the octets after the header, as groups, each of which is short

record IsBody (octets : List ℕ) (gs : Groups) : Type 0 where
  part : IsPart octets (grouped gs)
  few : length octets ≤ 100000 * length gs

begin : (n : ℕ) (bodies : List (List ℕ)) (a : List ℕ) → IsPart a (group n bodies) → length a ≤ 100000
    → IsBody a ((n, bodies) ∷ [])
begin n bodies a part short = record { part = first_part n bodies a part; few = omega (arith, short) }

go : (gs : Groups) (n : ℕ) (bodies : List (List ℕ)) (a b : List ℕ) → IsBody a gs → IsPart b (group n bodies)
    → length b ≤ 100000 → IsBody (a ++ b) (gs ++ (n, bodies) ∷ [])
go gs n bodies a b first part short = record {
  part = then_part gs n bodies a b first.part part;
  few = omega (arith, first.few, short, length-append a b, length-append gs ((n, bodies) ∷ []));
}

pair_short : (n v : ℕ) → length (pair_element n v) ≤ 100000
pair_short n v = omega arith

pair_if_short : (n : ℕ) (o : Option ℕ) → length (pair_if n o) ≤ 100000
pair_if_short n None = omega arith
pair_if_short n (Some v) = omega arith

octet_short : (n v : ℕ) → length (octet_element n v) ≤ 100000
octet_short n v = omega arith

octet_if_short : (n : ℕ) (o : Option ℕ) → length (octet_if n o) ≤ 100000
octet_if_short n None = omega arith
octet_if_short n (Some v) = omega arith

cells_short : (cs : List LinkCell) → cells_fit cs ≡ true → length (cells_element cs) ≤ 100000
cells_short [] fit = omega arith
cells_short (c ∷ cs) fit = omega (arith, most name_octets name_most10 (c ∷ cs), cells_few (c ∷ cs) fit)

counts_short : (cs : List LinkCount) → counts_fit cs ≡ true → length (counts_element cs) ≤ 100000
counts_short [] fit = omega arith
counts_short (c ∷ cs) fit =
    omega (
      arith,
      most counted_octets count_most (c ∷ cs),
      leb-true (length (c ∷ cs)) 5000 (and_parts (nat_le (length (c ∷ cs)) 5000) (counts_are_alike (c ∷ cs)) fit).0,
    )

failures_short : (fs : List LinkFailure) → failures_fit fs ≡ true → length (failures_element fs) ≤ 100000
failures_short [] fit = omega arith
failures_short (f ∷ fs) fit =
    omega (arith, most failed_octets failure_most (f ∷ fs), leb-true (length (f ∷ fs)) 5000 fit)

pages_size : (cs : List Content) → list_all is_full cs ≡ true → length (flat_map page_element cs) ≡ 84 * length cs
pages_size [] full = refl
pages_size (c ∷ cs) full =
    let both = and_parts (is_full c) (list_all is_full cs) full in
    omega (
      arith,
      eqb-true (length c.octets) 82 both.0,
      pages_size cs both.1,
      length-append (page_element c) (flat_map page_element cs),
    )

-- ---- each kind of message

abbrev IsBack : LinkMessage → List ℕ → Type 0
IsBack m rest = link_message (octets_of_link m ++ rest) ≡ Ok (m, rest)

kill_back : (id old : ℕ) (cs : List LinkCell) (channel : Option ℕ) (rest : List ℕ)
    → wrong_of (messages.Kill id old cs channel) ≡ None → IsBack (messages.Kill id old cs channel) rest
unfolding octets_of_link body_of wrong_of
kill_back id old cs channel rest none =
    let cells = (passed 4 (has_some cs && cells_fit cs) _ none).0 in
    let fit = (and_parts (has_some cs) (cells_fit cs) cells).1 in
    let gs : Groups = (14, two_octets id ∷ []) ∷ (2, two_octets old ∷ []) ∷ (4, cells_bodies cs)
    ∷ (18, octet_bodies channel) ∷ [] in
    let body = go _ 18 (octet_bodies channel) _ _ (go _ 4 (cells_bodies cs) _ _ (go _ 2 (two_octets old ∷ []) _ _
    (begin 14 (two_octets id ∷ []) _ (pair_part 14 id size14) (pair_short 14 id))
    (pair_part 2 old size2) (pair_short 2 old)) (cells_part cs fit) (cells_short cs fit))
    (octet_if_part 18 channel size18) (octet_if_short 18 channel) in
    says 4 kinds.Kill _ rest (grouped gs) (messages.Kill id old cs channel) refl (omega (arith, body.few)) body.part
    (kill_says (grouped gs) id old cs channel (pair_seen 14 gs id refl) (pair_seen 2 gs old refl)
    (needed_cells_seen gs cs refl cells) (octet_if_seen 18 gs channel refl))

grouped-join : (gs hs : Groups) → grouped gs ++ grouped hs ≡ grouped (gs ++ hs)
grouped-join [] hs = refl
grouped-join (g ∷ gs) hs =
    append_assoc (group g.0 g.1) (grouped gs) (grouped hs)
    ∙ ap (λ (es : List Element). group g.0 g.1 ++ es) (grouped-join gs hs)

go_all : (gs hs : Groups) (a b : List ℕ) → IsBody a gs → IsBody b hs → IsBody (a ++ b) (gs ++ hs)
go_all gs hs a b first second = record {
  part = subst (λ (es : List Element). IsPart (a ++ b) es) (grouped-join gs hs)
      (parts a b (grouped gs) (grouped hs) first.part second.part);
  few = omega (arith, first.few, second.few, length-append a b, length-append gs hs);
}

broadcast_back : (id new : ℕ) (old : Option ℕ) (cs : List LinkCell) (channel : ℕ) (category : Option ℕ)
    (period broadcasts dcs : ℕ) (contents : List Content) (rest : List ℕ)
    → list_all is_full contents ≡ true
    → wrong_of (messages.Write id new old cs channel category period broadcasts (record { 0 = dcs }) contents) ≡ None
    → IsBack (messages.Write id new old cs channel category period broadcasts (record { 0 = dcs }) contents) rest
unfolding octets_of_link body_of wrong_of
broadcast_back id new old cs channel category period broadcasts dcs contents rest full none =
    let p4 = passed 4 (has_some cs && cells_fit cs) _ none in
    let cells = p4.0 in
    let fit = (and_parts (has_some cs) (cells_fit cs) cells).1 in
    let p18 = passed 18 (nat_le channel 1) _ p4.1 in
    let p5 = passed 5 (at_most 2 category) _ p18.1 in
    let p6 = passed 6 (nat_le period 4095) _ p5.1 in
    let p19 = passed 19 (nat_le 1 (length contents) && nat_le (length contents) 15) _ p6.1 in
    let few = leb-true (length contents) 15 (and_parts (nat_le 1 (length contents)) (nat_le (length contents) 15)
    p19.0).1 in
    let gs : Groups = (14, two_octets id ∷ [])
    ∷ (3, two_octets new ∷ [])
    ∷ (2, pair_bodies old)
    ∷ (4, cells_bodies cs)
    ∷ (18, (channel ∷ []) ∷ [])
    ∷ (5, octet_bodies category)
    ∷ (6, two_octets period ∷ [])
    ∷ (7, two_octets broadcasts ∷ [])
    ∷ (19, (length contents % 256 ∷ []) ∷ [])
    ∷ (12, (dcs ∷ []) ∷ [])
    ∷ (1, page_bodies contents) ∷ [] in
    let body = go _ 1 (page_bodies contents) _ _
    (go _ 12 ((dcs ∷ []) ∷ []) _ _
    (go _ 19 ((length contents % 256 ∷ []) ∷ []) _ _
    (go _ 7 (two_octets broadcasts ∷ []) _ _
    (go _ 6 (two_octets period ∷ []) _ _
    (go _ 5 (octet_bodies category) _ _
    (go _ 18 ((channel ∷ []) ∷ []) _ _
    (go _ 4 (cells_bodies cs) _ _
    (go _ 2 (pair_bodies old) _ _
    (go _ 3 (two_octets new ∷ []) _ _
    (begin 14 (two_octets id ∷ []) _ (pair_part 14 id size14) (pair_short 14 id))
    (pair_part 3 new size3) (pair_short 3 new))
    (pair_if_part 2 old size2) (pair_if_short 2 old))
    (cells_part cs fit) (cells_short cs fit))
    (octet_part 18 channel size18) (octet_short 18 channel))
    (octet_if_part 5 category size5) (octet_if_short 5 category))
    (pair_part 6 period size6) (pair_short 6 period))
    (pair_part 7 broadcasts size7) (pair_short 7 broadcasts))
    (octet_part 19 (length contents % 256) size19) (octet_short 19 (length contents % 256)))
    (octet_part 12 dcs size12) (octet_short 12 dcs))
    (pages_part contents size1 full) (omega (arith, pages_size contents full, few)) in
    says 1 kinds.Write _ rest (grouped gs) (messages.Write id new old cs channel category period broadcasts
    (record { 0 = dcs }) contents) refl (omega (arith, body.few)) body.part
    (broadcast_says (grouped gs) id new old cs channel category period broadcasts dcs contents
    (pair_seen 14 gs id refl)
    (pair_seen 3 gs new refl)
    (pair_if_seen 2 gs old refl)
    (octet_seen 18 gs channel refl)
    (needed_cells_seen gs cs refl cells)
    (period_seen (grouped gs) period (pair_seen 6 gs period refl) p6.0)
    (pair_seen 7 gs broadcasts refl)
    (octet_seen 12 gs dcs refl)
    (pages_seen gs contents refl refl p19.0)
    (octet_if_seen 5 gs category refl))

write_done_back : (id new : ℕ) (old : Option ℕ) (counts : List LinkCount) (cs : List LinkCell)
    (channel : Option ℕ) (rest : List ℕ)
    → wrong_of (messages.Done id (orders.Write new old) counts cs channel) ≡ None
    → IsBack (messages.Done id (orders.Write new old) counts cs channel) rest
unfolding octets_of_link body_of wrong_of
write_done_back id new old counts cs channel rest none =
    let p8 = passed 8 (counts_fit counts) _ none in
    let counted = p8.0 in
    let fit = (passed 4 (cells_fit cs) _ p8.1).0 in
    let gs : Groups = (14, two_octets id ∷ [])
    ∷ (3, two_octets new ∷ [])
    ∷ (2, pair_bodies old)
    ∷ (8, counts_bodies counts)
    ∷ (4, cells_bodies cs)
    ∷ (18, octet_bodies channel) ∷ [] in
    let body = go _ 18 (octet_bodies channel) _ _
    (go _ 4 (cells_bodies cs) _ _
    (go _ 8 (counts_bodies counts) _ _
    (go_all _ _ _ _
    (begin 14 (two_octets id ∷ []) _ (pair_part 14 id size14) (pair_short 14 id))
    (go _ 2 (pair_bodies old) _ _ (begin 3 (two_octets new ∷ []) _ (pair_part 3 new size3) (pair_short 3 new))
    (pair_if_part 2 old size2) (pair_if_short 2 old)))
    (counts_part counts counted) (counts_short counts counted))
    (cells_part cs fit) (cells_short cs fit))
    (octet_if_part 18 channel size18) (octet_if_short 18 channel) in
    says 2 kinds.WriteDone _ rest (grouped gs) (messages.Done id (orders.Write new old) counts cs channel) refl
    (omega (arith, body.few)) body.part
    (write_done_says (grouped gs) id new old counts cs channel
    (pair_seen 3 gs new refl)
    (pair_if_seen 2 gs old refl)
    (pair_seen 14 gs id refl)
    (counts_seen gs counts refl counted)
    (cells_seen gs cs refl fit)
    (octet_if_seen 18 gs channel refl))

kill_done_back : (id old : ℕ) (counts : List LinkCount) (cs : List LinkCell) (channel : Option ℕ) (rest : List ℕ)
    → wrong_of (messages.Done id (orders.Kill old) counts cs channel) ≡ None
    → IsBack (messages.Done id (orders.Kill old) counts cs channel) rest
unfolding octets_of_link body_of wrong_of
kill_done_back id old counts cs channel rest none =
    let p8 = passed 8 (counts_fit counts) _ none in
    let counted = p8.0 in
    let fit = (passed 4 (cells_fit cs) _ p8.1).0 in
    let gs : Groups = (14, two_octets id ∷ [])
    ∷ (2, two_octets old ∷ [])
    ∷ (8, counts_bodies counts)
    ∷ (4, cells_bodies cs)
    ∷ (18, octet_bodies channel) ∷ [] in
    let body = go _ 18 (octet_bodies channel) _ _
    (go _ 4 (cells_bodies cs) _ _
    (go _ 8 (counts_bodies counts) _ _
    (go _ 2 (two_octets old ∷ []) _ _
    (begin 14 (two_octets id ∷ []) _ (pair_part 14 id size14) (pair_short 14 id))
    (pair_part 2 old size2) (pair_short 2 old))
    (counts_part counts counted) (counts_short counts counted))
    (cells_part cs fit) (cells_short cs fit))
    (octet_if_part 18 channel size18) (octet_if_short 18 channel) in
    says 5 kinds.KillDone _ rest (grouped gs) (messages.Done id (orders.Kill old) counts cs channel) refl
    (omega (arith, body.few)) body.part
    (kill_done_says (grouped gs) id old counts cs channel
    (pair_seen 2 gs old refl)
    (pair_seen 14 gs id refl)
    (counts_seen gs counts refl counted)
    (cells_seen gs cs refl fit)
    (octet_if_seen 18 gs channel refl))

write_failed_back : (id new : ℕ) (old : Option ℕ) (fs : List LinkFailure) (counts : List LinkCount)
    (cs : List LinkCell) (channel : Option ℕ) (rest : List ℕ)
    → wrong_of (messages.Failed id (orders.Write new old) fs counts cs channel) ≡ None
    → IsBack (messages.Failed id (orders.Write new old) fs counts cs channel) rest
unfolding octets_of_link body_of wrong_of
write_failed_back id new old fs counts cs channel rest none =
    let p9 = passed 9 (has_some fs && failures_fit fs) _ none in
    let failed9 = p9.0 in
    let fit9 = (and_parts (has_some fs) (failures_fit fs) failed9).1 in
    let p8 = passed 8 (counts_fit counts) _ p9.1 in
    let counted = p8.0 in
    let fit = (passed 4 (cells_fit cs) _ p8.1).0 in
    let gs : Groups = (14, two_octets id ∷ [])
    ∷ (3, two_octets new ∷ [])
    ∷ (2, pair_bodies old)
    ∷ (9, failures_bodies fs)
    ∷ (8, counts_bodies counts)
    ∷ (4, cells_bodies cs)
    ∷ (18, octet_bodies channel) ∷ [] in
    let body = go _ 18 (octet_bodies channel) _ _
    (go _ 4 (cells_bodies cs) _ _
    (go _ 8 (counts_bodies counts) _ _
    (go _ 9 (failures_bodies fs) _ _
    (go_all _ _ _ _
    (begin 14 (two_octets id ∷ []) _ (pair_part 14 id size14) (pair_short 14 id))
    (go _ 2 (pair_bodies old) _ _ (begin 3 (two_octets new ∷ []) _ (pair_part 3 new size3) (pair_short 3 new))
    (pair_if_part 2 old size2) (pair_if_short 2 old)))
    (failures_part fs fit9) (failures_short fs fit9))
    (counts_part counts counted) (counts_short counts counted))
    (cells_part cs fit) (cells_short cs fit))
    (octet_if_part 18 channel size18) (octet_if_short 18 channel) in
    says 3 kinds.WriteFailed _ rest (grouped gs) (messages.Failed id (orders.Write new old) fs counts cs channel) refl
    (omega (arith, body.few)) body.part
    (write_failed_says (grouped gs) id new old fs counts cs channel
    (pair_seen 3 gs new refl)
    (pair_if_seen 2 gs old refl)
    (pair_seen 14 gs id refl)
    (needed_failures_seen gs fs refl failed9)
    (counts_seen gs counts refl counted)
    (cells_seen gs cs refl fit)
    (octet_if_seen 18 gs channel refl))

kill_failed_back : (id old : ℕ) (fs : List LinkFailure) (counts : List LinkCount) (cs : List LinkCell)
    (channel : Option ℕ) (rest : List ℕ)
    → wrong_of (messages.Failed id (orders.Kill old) fs counts cs channel) ≡ None
    → IsBack (messages.Failed id (orders.Kill old) fs counts cs channel) rest
unfolding octets_of_link body_of wrong_of
kill_failed_back id old fs counts cs channel rest none =
    let p9 = passed 9 (has_some fs && failures_fit fs) _ none in
    let failed9 = p9.0 in
    let fit9 = (and_parts (has_some fs) (failures_fit fs) failed9).1 in
    let p8 = passed 8 (counts_fit counts) _ p9.1 in
    let counted = p8.0 in
    let fit = (passed 4 (cells_fit cs) _ p8.1).0 in
    let gs : Groups = (14, two_octets id ∷ [])
    ∷ (2, two_octets old ∷ [])
    ∷ (9, failures_bodies fs)
    ∷ (8, counts_bodies counts)
    ∷ (4, cells_bodies cs)
    ∷ (18, octet_bodies channel) ∷ [] in
    let body = go _ 18 (octet_bodies channel) _ _
    (go _ 4 (cells_bodies cs) _ _
    (go _ 8 (counts_bodies counts) _ _
    (go _ 9 (failures_bodies fs) _ _
    (go _ 2 (two_octets old ∷ []) _ _
    (begin 14 (two_octets id ∷ []) _ (pair_part 14 id size14) (pair_short 14 id))
    (pair_part 2 old size2) (pair_short 2 old))
    (failures_part fs fit9) (failures_short fs fit9))
    (counts_part counts counted) (counts_short counts counted))
    (cells_part cs fit) (cells_short cs fit))
    (octet_if_part 18 channel size18) (octet_if_short 18 channel) in
    says 6 kinds.KillFailed _ rest (grouped gs) (messages.Failed id (orders.Kill old) fs counts cs channel) refl
    (omega (arith, body.few)) body.part
    (kill_failed_says (grouped gs) id old fs counts cs channel
    (pair_seen 2 gs old refl)
    (pair_seen 14 gs id refl)
    (needed_failures_seen gs fs refl failed9)
    (counts_seen gs counts refl counted)
    (cells_seen gs cs refl fit)
    (octet_if_seen 18 gs channel refl))

reset_back : (cs : List LinkCell) (rest : List ℕ)
    → wrong_of (messages.Reset cs) ≡ None → IsBack (messages.Reset cs) rest
unfolding octets_of_link body_of wrong_of
reset_back cs rest none =
    let cells = (passed 4 (has_some cs && cells_fit cs) _ none).0 in
    let fit = (and_parts (has_some cs) (cells_fit cs) cells).1 in
    let gs : Groups = (4, cells_bodies cs) ∷ [] in
    let body = begin 4 (cells_bodies cs) _ (cells_part cs fit) (cells_short cs fit) in
    says 16 kinds.Reset _ rest (grouped gs) (messages.Reset cs) refl (omega (arith, body.few)) body.part
    (reset_says (grouped gs) cs
    (needed_cells_seen gs cs refl cells))

reset_done_back : (cs : List LinkCell) (rest : List ℕ)
    → wrong_of (messages.ResetDone cs) ≡ None → IsBack (messages.ResetDone cs) rest
unfolding octets_of_link body_of wrong_of
reset_done_back cs rest none =
    let cells = (passed 4 (has_some cs && cells_fit cs) _ none).0 in
    let fit = (and_parts (has_some cs) (cells_fit cs) cells).1 in
    let gs : Groups = (4, cells_bodies cs) ∷ [] in
    let body = begin 4 (cells_bodies cs) _ (cells_part cs fit) (cells_short cs fit) in
    says 17 kinds.ResetDone _ rest (grouped gs) (messages.ResetDone cs) refl (omega (arith, body.few)) body.part
    (reset_done_says (grouped gs) cs
    (needed_cells_seen gs cs refl cells))

reset_failed_back : (fs : List LinkFailure) (cs : List LinkCell) (rest : List ℕ)
    → wrong_of (messages.ResetFailed fs cs) ≡ None → IsBack (messages.ResetFailed fs cs) rest
unfolding octets_of_link body_of wrong_of
reset_failed_back fs cs rest none =
    let p9 = passed 9 (has_some fs && failures_fit fs) _ none in
    let failed9 = p9.0 in
    let fit9 = (and_parts (has_some fs) (failures_fit fs) failed9).1 in
    let fit = (passed 4 (cells_fit cs) _ p9.1).0 in
    let gs : Groups = (9, failures_bodies fs)
    ∷ (4, cells_bodies cs) ∷ [] in
    let body = go _ 4 (cells_bodies cs) _ _
    (begin 9 (failures_bodies fs) _ (failures_part fs fit9) (failures_short fs fit9))
    (cells_part cs fit) (cells_short cs fit) in
    says 18 kinds.ResetFailed _ rest (grouped gs) (messages.ResetFailed fs cs) refl (omega (arith, body.few)) body.part
    (reset_failed_says (grouped gs) fs cs
    (needed_failures_seen gs fs refl failed9)
    (cells_seen gs cs refl fit))

restart_back : (cs : List LinkCell) (kind recovery : ℕ) (rest : List ℕ)
    → wrong_of (messages.Restart cs kind recovery) ≡ None → IsBack (messages.Restart cs kind recovery) rest
unfolding octets_of_link body_of wrong_of
restart_back cs kind recovery rest none =
    let cells = (passed 4 (has_some cs && cells_fit cs) _ none).0 in
    let fit = (and_parts (has_some cs) (cells_fit cs) cells).1 in
    let gs : Groups = (4, cells_bodies cs)
    ∷ (22, (kind ∷ []) ∷ [])
    ∷ (13, (recovery ∷ []) ∷ []) ∷ [] in
    let body = go _ 13 ((recovery ∷ []) ∷ []) _ _
    (go _ 22 ((kind ∷ []) ∷ []) _ _
    (begin 4 (cells_bodies cs) _ (cells_part cs fit) (cells_short cs fit))
    (octet_part 22 kind size22) (octet_short 22 kind))
    (octet_part 13 recovery size13) (octet_short 13 recovery) in
    says 19 kinds.Restart _ rest (grouped gs) (messages.Restart cs kind recovery) refl (omega (arith, body.few))
    body.part
    (restart_says (grouped gs) cs kind recovery
    (needed_cells_seen gs cs refl cells)
    (octet_seen 22 gs kind refl)
    (octet_seen 13 gs recovery refl))

failure_back : (fs : List LinkFailure) (kind : ℕ) (rest : List ℕ)
    → wrong_of (messages.Failure fs kind) ≡ None → IsBack (messages.Failure fs kind) rest
unfolding octets_of_link body_of wrong_of
failure_back fs kind rest none =
    let failed9 = (passed 9 (has_some fs && failures_fit fs) _ none).0 in
    let fit9 = (and_parts (has_some fs) (failures_fit fs) failed9).1 in
    let gs : Groups = (9, failures_bodies fs)
    ∷ (22, (kind ∷ []) ∷ []) ∷ [] in
    let body = go _ 22 ((kind ∷ []) ∷ []) _ _
    (begin 9 (failures_bodies fs) _ (failures_part fs fit9) (failures_short fs fit9))
    (octet_part 22 kind size22) (octet_short 22 kind) in
    says 20 kinds.Failure _ rest (grouped gs) (messages.Failure fs kind) refl (omega (arith, body.few)) body.part
    (failure_says (grouped gs) fs kind
    (needed_failures_seen gs fs refl failed9)
    (octet_seen 22 gs kind refl))

by_kind : (m : LinkMessage) (rest : List ℕ) → HasWholePages m → wrong_of m ≡ None → IsBack m rest
unfolding wrong_of
by_kind (messages.Write id new old cs channel category period broadcasts dcs contents) rest full none =
    broadcast_back id new old cs channel category period broadcasts dcs.0 contents rest full none
by_kind (messages.Emergency id new old cs) rest full none = absurd cc
by_kind (messages.Kill id old cs channel) rest full none = kill_back id old cs channel rest none
by_kind (messages.Done id (orders.Write new old) counts cs channel) rest full none =
    write_done_back id new old counts cs channel rest none
by_kind (messages.Done id (orders.Kill old) counts cs channel) rest full none =
    kill_done_back id old counts cs channel rest none
by_kind (messages.Failed id (orders.Write new old) fs counts cs channel) rest full none =
    write_failed_back id new old fs counts cs channel rest none
by_kind (messages.Failed id (orders.Kill old) fs counts cs channel) rest full none =
    kill_failed_back id old fs counts cs channel rest none
by_kind (messages.Reset cs) rest full none = reset_back cs rest none
by_kind (messages.ResetDone cs) rest full none = reset_done_back cs rest none
by_kind (messages.ResetFailed fs cs) rest full none = reset_failed_back fs cs rest none
by_kind (messages.Restart cs kind recovery) rest full none = restart_back cs kind recovery rest none
by_kind (messages.Failure fs kind) rest full none = failure_back fs kind rest none
by_kind (messages.Other message_type) rest full none = absurd cc

-- what is written of a message is read as that message, whatever follows it
pub read_back : LinkIsReadBack
read_back m octets rest full is =
    let both = not_wrong (octets_of_link m) (wrong_of m) octets is in
    ap (λ (o : List ℕ). link_message (o ++ rest)) (sym both.1) ∙ by_kind m rest full both.0
