-- The tapes of a network's groups are of one run.
use Rattle.std.proofs.Common.{◌≡◌, ℕ, ◌+◌, ◌<◌, zero, suc, List, [], ◌∷◌, ◌++◌, length, get_or, refl, ap, sym, subst}
use Rattle.std.proofs.Common.{◌∙◌, arith}
use Rattle.std.specs.List.{flat_map}
use Rattle.std.proofs.lemmas.Grind.{flat_map-append}
use Rattle.alert_book.specs.declared.network.Origin.TheVariants as origin
use Rattle.alert_book.specs.Book.{Contents}
use Rattle.alert_book.specs.Network.{groups_of}
use Rattle.alert_book.specs.NetworkLaws.{CountsAreOne}
use Rattle.cbch_blocks.specs.RecordBlocks.{tape_of_record}
use Rattle.book_runs.specs.CellParts.{PartRun}
use Rattle.book_runs.specs.LiveLaws.{OneSessionIsARun}
use Rattle.book_runs.specs.WholeNetwork.{GroupsAreOfNetworks, IsGroupRun, IsWholeNetwork, NetworksHaveOneRun}
use Rattle.book_runs.specs.WholeNetwork.{WholeNetworksAreCounted}
use Rattle.warnc_run.proofs.OneOutput.{run_of_one}
use Rattle.warnc_run.specs.Network.{joined_parts, ArePartsFrom, GroupRuns, IsPartOf}
use Rattle.warnc_run.specs.Whole.{NetworkTapesAreOfOneRun}
use Rattle.warnc_run.specs.declared.product.Product.TheVariants as product

abbrev tapes_of : (slots groups : ℕ) → GroupRuns
tapes_of slots groups = record { made = product.Tapes; slots = slots; parts = 1; groups = groups }

-- the run of which the part of a group is the tapes
record IsRunOfPart (slots group : ℕ) (input part : List ℕ) : Type 0 where
  pub run : PartRun
  pub of_group : IsGroupRun group input slots run
  pub written : part ≡ flat_map tape_of_record run.records

run_of_part : OneSessionIsARun → (slots groups group : ℕ) (input part : List ℕ)
    → IsPartOf (tapes_of slots groups) group input part
    → IsRunOfPart slots group input part
run_of_part law slots groups group input part made =
    let one = run_of_one law (origin.Group group) slots input made.records made.run in record {
      run = record { cells = []; exchanges = one.0; records = made.records };
      of_group = record { book = made.run.book; is_book = made.run.is_book; run = one.1 };
      written = made.written;
    }

-- the runs of which the parts of a network's groups are the tapes
record AreRunsOf (slots : ℕ) (input : List ℕ) (from : ℕ) (parts : List (List ℕ)) : Type 0 where
  pub runs : List PartRun
  pub long : length runs ≡ length parts
  pub each : (group at : ℕ) (d : PartRun) → group < length runs → at ≡ from + group
      → IsGroupRun at input slots (get_or runs group d)
  pub written : joined_parts parts ≡ flat_map tape_of_record (flat_map (λ part. part.records) runs)

runs_of : OneSessionIsARun → (slots groups : ℕ) (input : List ℕ) (from : ℕ) (parts : List (List ℕ))
    → ArePartsFrom (tapes_of slots groups) input from parts
    → AreRunsOf slots input from parts
runs_of law slots groups input from [] each = record {
  runs = [];
  long = refl;
  each = λ group at d within is. absurd (omega (arith, within));
  written = refl;
}
runs_of law slots groups input from (part ∷ parts) each =
    let first = run_of_part law slots groups from input part each.0 in
    let rest = runs_of law slots groups input (from + 1) parts each.1 in record {
      runs = first.run ∷ rest.runs;
      long = omega (arith, rest.long);
      each = λ group at d within is. by_group first rest group at d within is;
      written =
          ap (λ (l : List ℕ). l ++ joined_parts parts) first.written
          ∙ ap (λ (l : List ℕ). flat_map tape_of_record first.run.records ++ l) rest.written
          ∙ sym (flat_map-append tape_of_record first.run.records (flat_map (λ p. p.records) rest.runs));
    }
  where
    by_group : (first : IsRunOfPart slots from input part) → (rest : AreRunsOf slots input (from + 1) parts)
        → (group at : ℕ) (d : PartRun)
        → group < length (first.run ∷ rest.runs)
        → at ≡ from + group
        → IsGroupRun at input slots (get_or (first.run ∷ rest.runs) group d)
    by_group first rest zero at d within is =
        subst (λ (n : ℕ). IsGroupRun n input slots first.run) (let same : from ≡ at = omega (arith, is) in same)
        first.of_group
    by_group first rest (suc group) at d within is =
        rest.each group at d (omega (arith, within)) (omega (arith, is))

-- a network has a group
one_there : (n : ℕ) → 0 < groups_of n
one_there n = omega arith

whole_of : GroupsAreOfNetworks → (slots groups : ℕ) (input : List ℕ) (parts : List (List ℕ))
    → ArePartsFrom (tapes_of slots groups) input 0 parts
    → 0 < length parts
    → (whole : Contents) × IsWholeNetwork input whole
whole_of of_networks slots groups input [] each some = absurd (omega (arith, some))
whole_of of_networks slots groups input (part ∷ parts) each some =
    of_networks 0 input each.0.run.book each.0.run.is_book

-- the tapes of a network's groups are those of one run of the whole
pub network_tapes : OneSessionIsARun → GroupsAreOfNetworks → WholeNetworksAreCounted → CountsAreOne
    → NetworksHaveOneRun
    → NetworkTapesAreOfOneRun
network_tapes law of_networks counted counts networks slots input output made =
    let runs = runs_of law slots made.groups input 0 made.parts made.each in
    let there = one_there (length made.counted.rows.cells) in
    let found = whole_of of_networks slots made.groups input made.parts made.each
    (omega (arith, there, made.counted.count, made.as_many)) in
    let same = counts 0 0 input made.groups (groups_of (length found.0.cells)) made.counted
    (counted 0 input found.0 found.1) in
    let all = networks input found.0 slots runs.runs found.1 (runs.long ∙ made.as_many ∙ same)
    (λ group d within. runs.each group group d within (omega arith)) in record {
      whole = found.0;
      is_whole = found.1;
      exchanges = all.0;
      records = flat_map (λ part. part.records) runs.runs;
      run = all.1;
      written = made.written ∙ runs.written;
    }
