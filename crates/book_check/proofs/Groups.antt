-- What a check writes, and the groups of a network without a fault.
use Rattle.std.proofs.Common.{◌≡◌, ◌≤◌, ◌∙◌, ℕ, Bool, true, false, cond, List, Option, Some, None, IfSome, length}
use Rattle.std.proofs.Common.{nat_le}
use Rattle.std.proofs.Common.{ap, refl, sym, subst, eqb, eqb-true, ◌&&◌}
use Rattle.std.proofs.lemmas.Bool.{leb-false, leb-true}
use Rattle.std.specs.Io.KnownBytes.{Appends}
use Rattle.cbsp_wire.specs.declared.message.Cell.{Cell}
use Rattle.device_ends.specs.Moves.{WritesOutput}
use Rattle.alert_book.specs.Extent.{bounds_of}
use Rattle.alert_book.specs.Network.{groups_of, HasGroups}
use Rattle.alert_book.specs.declared.judging.bounds.Bounds.{Bounds}
use Rattle.alert_book.specs.declared.judging.bounds.Bounds.TheVariants as bounds
use Rattle.alert_book.specs.declared.judging.bounds.Extent.{Extent}
use Rattle.alert_book.specs.declared.judging.bounds.Extent.TheVariants as extent
use Rattle.book_check.specs.Checked.{IsCleanFor, IsThere, LacksGroup}
use Rattle.book_check.specs.CheckSteps.{missing, IsCheckedWith}
use Rattle.book_check.proofs.BookLaws.{clean_is_network}

-- it has as many as were counted
has_groups : (group : ℕ) (input output : List ℕ) (groups : ℕ) → IsCheckedWith bounds.Network input 0 output groups
    → HasGroups group input groups
has_groups group input output groups checked =
    let is = clean_is_network group input output checked.is in
    record {
      rows = is.0;
      network = is.1;
      count = checked.many ∙ ap (λ (cells : List Cell). groups_of (length cells)) (sym is.2);
    }

by_room : (groups group : ℕ) (few : Bool) → nat_le groups group ≡ few → cond few (Some groups) None ≡ None
    → nat_le groups group ≡ false
by_room groups group true is none = absurd (cc none)
by_room groups group false is none = is

-- so the group that is asked for is there
is_there : (what : Extent) (input output : List ℕ) (groups : ℕ)
    → IsCheckedWith (bounds_of what) input 0 output groups → missing what 0 groups ≡ None → IsThere what input
is_there extent.Book input output groups checked none = tt
is_there extent.Network input output groups checked none = tt
is_there (extent.Group group) input output groups checked none =
    let room = by_room groups group (nat_le groups group) refl none in
    (groups, has_groups group input output groups checked, leb-false groups group room)

-- and what was checked is clean
pub clean_for : (what : Extent) (input output : List ℕ) (count groups : ℕ) → count ≡ 0
    → IsCheckedWith (bounds_of what) input count output groups → missing what count groups ≡ None
    → IsCleanFor what input output
clean_for what input output count groups none checked there =
    let clean = subst (λ (n : ℕ). IsCheckedWith (bounds_of what) input n output groups) none checked in
    (clean.is, is_there what input output groups clean (subst (λ (n : ℕ). missing what n groups ≡ None) none there))

same_some : (none few : Bool) (groups lacks : ℕ) → cond (none && few) (Some groups) None ≡ Some lacks
    → (none ≡ true) × (few ≡ true) × (groups ≡ lacks)
same_some true true groups lacks is = (refl, refl, some_is is)
  where
    some_is : Some groups ≡ Some lacks → groups ≡ lacks
    some_is e = cc
same_some true false groups lacks is = absurd (cc is)
same_some false few groups lacks is = absurd (cc is)

-- or it isn't
pub lacks_group : (what : Extent) (input output : List ℕ) (count groups lacks : ℕ)
    → IsCheckedWith (bounds_of what) input count output groups → missing what count groups ≡ Some lacks
    → LacksGroup what lacks input
lacks_group extent.Book input output count groups lacks checked some = absurd (cc some)
lacks_group extent.Network input output count groups lacks checked some = absurd (cc some)
lacks_group (extent.Group group) input output count groups lacks checked some =
    let parts = same_some (eqb count 0) (nat_le groups group) groups lacks some in
    let clean = subst (λ (n : ℕ). IsCheckedWith bounds.Network input n output groups) (eqb-true count 0 parts.0)
    checked in
    let has = has_groups group input output groups clean in
    subst (λ (n : ℕ). HasGroups group input n × (n ≤ group)) parts.2 (has, leb-true groups group parts.1)

-- an output of what the reader had left was written
pub wrote : (IsOutput : List ℕ → List ℕ → Type 0) (left old new : Option (List ℕ)) (octets output : List ℕ)
    → IfSome left (λ input. input ≡ octets)
    → IsOutput octets output
    → Appends old new output
    → WritesOutput IsOutput left old new
wrote IsOutput None old new octets output same is out = record {
  of_input = tt;
  of_some = (octets, output, is, out);
}
wrote IsOutput (Some input) old new octets output same is out = record {
  of_input = (output, subst (λ (xs : List ℕ). IsOutput xs output) (sym same) is, out);
  of_some = (octets, output, is, out);
}

-- what holds of the octets holds of what the reader had left
pub of_left : (P : List ℕ → Type 0) (left : Option (List ℕ)) (octets : List ℕ) → IfSome left (λ input. input ≡ octets)
    → P octets
    → IfSome left P
of_left P None octets same is = tt
of_left P (Some input) octets same is = subst P (sym same) is

-- a table by other names of the bounds and of the octets
pub checked_as : (bound other : Bounds) (octets input output : List ℕ) (count groups : ℕ) → bound ≡ other
    → octets ≡ input
    → IsCheckedWith bound octets count output groups
    → IsCheckedWith other input count output groups
checked_as bound other octets input output count groups bounds same checked =
    subst (λ (b : Bounds). IsCheckedWith b input count output groups) bounds
    (subst (λ (xs : List ℕ). IsCheckedWith bound xs count output groups) same checked)
