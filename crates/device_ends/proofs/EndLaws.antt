-- How reads and writes of known octets join.
use Rattle.std.proofs.Common.{◌≡◌, ℕ, ◌+◌, ◌-◌, ◌<◌, ◌≤◌, List, [], ◌∷◌, ◌++◌, Option, None, Some, IfSome, length, take}
use Rattle.std.proofs.Common.{drop, sym, ap, subst, ◌∙◌, inl, inr, arith, append_assoc, append-nil, length-append}
use Rattle.std.proofs.Common.{length-drop, take_all}
use Rattle.std.proofs.Math.Seq.{take-add, take-append-add}
use Rattle.std.proofs.lemmas.Bool.{cases_lt}
use Rattle.std.proofs.lemmas.List.{take-append-le}
use Rattle.std.specs.Io.KnownBytes.{Appends}
use Rattle.std.proofs.KnownBytes.{Appends-trans, Consumes-trans}
use Rattle.device_ends.specs.Moves.{AppendsFront, ReadsUpTo}
use Rattle.device_ends.specs.TransferSteps.{Moved}

-- a front of the octets went out, and then a front of the rest
pub Appends-more : (a b c : Option (List ℕ)) (octets : List ℕ) (out count : ℕ) → Appends a b (take out octets)
    → Appends b c (take count (take (length octets - out) (drop out octets))) → Appends a c (take (out + count) octets)
Appends-more a b c octets out count first second =
    let rest : take (length octets - out) (drop out octets) ≡ drop out octets =
    take_all (length octets - out) (drop out octets) (omega (arith, length-drop out octets)) in
    rw (take-add out count octets)
    (Appends-trans a b c (take out octets) (take count (drop out octets)) first (rw rest at second))

-- a piece was read, and then another
pub Moved-trans : (a b c : Option (List ℕ)) (before mid after : List ℕ) → Moved a b before mid → Moved b c mid after
    → Moved a c before after
Moved-trans a b c before mid after first second = record {
  octets = first.octets ++ second.octets;
  consumed = Consumes-trans a b c first.octets second.octets first.consumed second.consumed;
  appended = second.appended ∙ ap (λ l. l ++ second.octets) first.appended
      ∙ append_assoc before first.octets second.octets;
}

-- what was read up to a limit is all that was left, or its first octets one above the limit
pub ReadsUpTo-take : (old new : Option (List ℕ)) (octets : List ℕ) (limit : ℕ) → ReadsUpTo old new octets limit
    → IfSome old (λ left. octets ≡ take (limit + 1) left)
ReadsUpTo-take None new octets limit reads = tt
ReadsUpTo-take (Some left) None octets limit reads = absurd reads.consumed
ReadsUpTo-take (Some left) (Some rest) octets limit reads =
    let reach : length octets ≤ limit + 1 = reads.bounded in
    elim (cases_lt limit (length octets)) [
      | inl above ↦
          let front : take (limit + 1) left ≡ take (limit + 1) octets =
          ap (take (limit + 1)) reads.consumed ∙ take-append-le (limit + 1) octets rest (omega arith) in
          sym (front ∙ take_all (limit + 1) octets reach)
      | inr short ↦
          let all : left ≡ octets = reads.consumed ∙ ap (λ l. octets ++ l) (reads.ended short) ∙ append-nil octets in
          sym (ap (take (limit + 1)) all ∙ take_all (limit + 1) octets reach)
    ]

-- an input of at most `limit` octets is read whole
pub ReadsUpTo-whole : (left : List ℕ) (new : Option (List ℕ)) (octets : List ℕ) (limit : ℕ)
    → ReadsUpTo (Some left) new octets limit → length octets ≤ limit → octets ≡ left
ReadsUpTo-whole left None octets limit reads short = absurd reads.consumed
ReadsUpTo-whole left (Some rest) octets limit reads short =
    sym (reads.consumed ∙ ap (λ l. octets ++ l) (reads.ended short) ∙ append-nil octets)

-- whole octets went out, and then a front of others, of which there were some
pub AppendsFront-after : (a b c : Option (List ℕ)) (octets others : List ℕ) → 0 < length others → Appends a b octets
    → AppendsFront b c others → AppendsFront a c (octets ++ others)
AppendsFront-after a b c octets others some whole front = (
  length octets + front.0,
  λ _. omega (arith, length-append octets others, front.1 some),
  rw (take-append-add octets others front.0) (Appends-trans a b c octets (take front.0 others) whole front.2),
)

-- a front of octets is a front of longer ones
pub AppendsFront-longer : (a b : Option (List ℕ)) (octets others : List ℕ) → AppendsFront a b octets
    → AppendsFront a b (octets ++ others)
AppendsFront-longer a b [] others front = (
  0,
  λ some. some,
  subst (Appends a b) (take_all front.0 [] (omega arith))
      front.2,
)
AppendsFront-longer a b (octet ∷ octets) others front =
    let all : List ℕ = octet ∷ octets in
    let within : front.0 < length all = front.1 (omega arith) in (
      front.0,
      λ _. omega (arith, length-append all others, within),
      rw (take-append-le front.0 all others (omega (arith, within))) front.2,
    )
