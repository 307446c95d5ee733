-- A walk takes one part of a capture after another.
use Rattle.std.proofs.Common.{◌≡◌, ℕ, ◌+◌, ◌-◌, ◌<◌, ◌≤◌, List, ◌++◌, length, arith, subst, append_assoc, length-append}
use Rattle.std.proofs.Common.{Option, Result, Ok, Err, OnErr}
use Rattle.std.proofs.KnownBytes.{Consumes-trans}
use Rattle.std.specs.Io.KnownBytes.{Consumes}
use Rattle.device_ends.specs.Moves.{ConsumesSome}
use Rattle.gsmtap.specs.declared.walk.Walk.{Walk}
use Rattle.warnc_air.specs.TapeOutput.{max_capture}
use Rattle.warnc_air.specs.WalkSteps.{HasWalked, WalksUpTo}

-- octets, and then others
pub taken_more : {G T : Type 0} (IsOf : G → List ℕ → Walk T → Type 0) (first mid last : Walk T)
    (octets others : List ℕ) → HasWalked IsOf first octets mid → HasWalked IsOf mid others last →
    HasWalked IsOf first (octets ++ others) last
taken_more IsOf first mid last octets others before after given input is =
    subst (λ all. IsOf given all last) (append_assoc input octets others)
    (after given (input ++ octets) (before given input is))

-- the last part, which is shorter than the room for it
pub last_part : {G T : Type 0} (IsOf : G → List ℕ → Walk T → Type 0) (first mid last : Walk T)
    (old now then : Option (List ℕ)) (octets : List ℕ) (read count room : ℕ) → Consumes old now octets →
    length octets ≡ read → HasWalked IsOf first octets mid → WalksUpTo IsOf mid last count (room - 1) now then →
    count < room → read + room ≤ max_capture + 1 → WalksUpTo IsOf first last (read + count) max_capture old then
last_part IsOf first mid last old now then octets read count room consumed many taken walks fewer fits =
    let whole : length (octets ++ walks.octets) ≡ length octets + length walks.octets =
    length-append octets walks.octets in
    record {
      octets = octets ++ walks.octets;
      reads = record {
        consumed = Consumes-trans old now then octets walks.octets consumed walks.reads.consumed;
        ended = λ few. walks.reads.ended (omega (arith, walks.many, fewer));
        bounded = omega (arith, whole, many, walks.many, fewer, fits);
      };
      many = omega (arith, whole, many, walks.many);
      taken = taken_more IsOf first mid last octets walks.octets taken walks.taken;
    }

-- a part that can't be read
pub failed_part : (old now then : Option (List ℕ)) (octets : List ℕ) (read room : ℕ) → Consumes old now octets →
    length octets ≡ read → ConsumesSome now then room → read + room ≤ max_capture + 1 →
    ConsumesSome old then 1073741825
failed_part old now then octets read room consumed many some fits = (
  octets ++ some.0,
  Consumes-trans old now then octets some.0 consumed some.1,
  omega (arith, length-append octets some.0, many, some.2, fits),
)

-- what is so is so after an error
pub on_err : {T E Q : Type 0} (result : Result T E) → Q → OnErr result Q
on_err (Ok value) is = tt
on_err (Err fault) is = is
