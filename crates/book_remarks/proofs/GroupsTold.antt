-- The groups of a network, told one after the other.
use Rattle.std.proofs.Common.{◌≡◌, ℕ, ◌+◌, ◌++◌, ◌∙◌, List, [], ◌∷◌, Option, append-nil, append_assoc, ap, arith}
use Rattle.std.proofs.Common.{length}
use Rattle.std.proofs.Common.{refl, subst, sym}
use Rattle.std.proofs.lemmas.List.{length-append}
use Rattle.alert_book.specs.declared.network.Origin.TheVariants as origin
use Rattle.alert_book.specs.Book.{Contents}
use Rattle.alert_book.specs.Network.{MeansNetwork, NetworkRows, groups_of}
use Rattle.bsc_table.specs.Record.{Record}
use Rattle.warnc_run.proofs.GroupParts.{groups_counted}
use Rattle.warnc_run.specs.Records.{IsRunOfGroup}
use Rattle.book_remarks.specs.Remarked.{AreRemarkedGroups, IsRemarkedNetwork, IsRemarkedRun, remarks_count}
use Rattle.book_remarks.specs.RemarkedSteps.{AreToldBefore}
use Rattle.book_remarks.specs.Remarks.{remarks_in}
use Rattle.book_remarks.specs.RemarksText.{RemarkedGroup, checked_network_text, group_lines, lines_of_groups}
use Rattle.book_remarks.specs.RemarksText.{network_header, remarked_group}
use Rattle.book_remarks.specs.TableSteps.{IsTable}
use Rattle.book_remarks.specs.declared.remarks.Remark.{Remark}
use Rattle.book_remarks.specs.declared.table.Table.{Table}
use Rattle.slot_times.specs.declared.start.Start.{Start}

-- the remarks of one group more
count_after : (each : List RemarkedGroup) (one : RemarkedGroup)
    → remarks_count (each ++ one ∷ []) ≡ remarks_count each + length one.remarks
count_after [] one = omega arith
count_after (own ∷ each) one = let rest = count_after each one in omega (arith, rest)

-- its lines
lines_after : (start : Option Start) (group place : ℕ) (each : List RemarkedGroup) (one : RemarkedGroup)
    → place ≡ group + length each
    → lines_of_groups start group (each ++ one ∷ []) ≡ lines_of_groups start group each ++ group_lines start place one
lines_after start group place [] one is =
    append-nil (group_lines start group one)
    ∙ ap (λ (g : ℕ). group_lines start g one) (sym same)
  where
    same : place ≡ group
    same = omega (arith, is)
lines_after start group place (own ∷ each) one is =
    let rest = lines_after start (group + 1) place each one (omega (arith, is)) in
    ap (λ (xs : List ℕ). group_lines start group own ++ xs) rest
    ∙ sym (append_assoc (group_lines start group own) (lines_of_groups start (group + 1) each)
    (group_lines start place one))

-- and its run
remarked_after : (slots : ℕ) (input : List ℕ) (group place : ℕ) (each : List RemarkedGroup) (one : RemarkedGroup)
    → place ≡ group + length each
    → AreRemarkedGroups slots input group each
    → IsRemarkedRun (origin.Group place) slots input one.remarks one.records
    → AreRemarkedGroups slots input group (each ++ one ∷ [])
remarked_after slots input group place [] one is are more =
    (subst (λ (g : ℕ). IsRemarkedRun (origin.Group g) slots input one.remarks one.records) same more, tt)
  where
    same : place ≡ group
    same = omega (arith, is)
remarked_after slots input group place (own ∷ each) one is are more =
    (are.0, remarked_after slots input (group + 1) place each one (omega (arith, is)) are.1 more)

-- before the first group there is the line of the columns' names
pub none_told : (network : NetworkRows) (slots : ℕ) (start : Option Start) (table : Table)
    → IsTable table (network_header start)
    → AreToldBefore network slots start 0 0 table
none_told network slots start table is = record {
  each = [];
  as_many = refl;
  remarked = λ input means. tt;
  counted = refl;
  told = subst (IsTable table) (sym (append-nil (network_header start))) is;
}

-- a group more was told
pub one_told : (network : NetworkRows) (slots : ℕ) (start : Option Start) (group count more : ℕ) (book : Contents)
    (remarks : List Remark) (records : List Record) (old new : Table)
    → IsRunOfGroup network group slots book records
    → remarks ≡ remarks_in book.orders records
    → more ≡ length remarks
    → ((octets : List ℕ) → IsTable old octets
    → IsTable new (octets ++ group_lines start group (remarked_group remarks records)))
    → AreToldBefore network slots start group count old
    → AreToldBefore network slots start (group + 1) (count + more) new
one_told network slots start group count more book remarks records old new is are many pushed before =
    let one = remarked_group remarks records in
    let place : group ≡ 0 + length before.each = omega (arith, before.as_many) in
    record {
      each = before.each ++ one ∷ [];
      as_many = longer one;
      remarked = λ input means.
          let run = is input means in
          remarked_after slots input 0 group before.each one place (before.remarked input means)
          (record {
            run = run.run;
            remarked = are ∙ ap (λ (b : Contents). remarks_in b.orders records)
                (sym run.of_book);
          });
      counted = counted one refl;
      told = subst (IsTable new)
          (append_assoc (network_header start) (lines_of_groups start 0 before.each) (group_lines start group one)
          ∙ ap (λ (xs : List ℕ). network_header start ++ xs) (sym (lines_after start 0 group before.each one place)))
          (pushed (checked_network_text start before.each) before.told);
    }
  where
    longer : (one : RemarkedGroup) → length (before.each ++ one ∷ []) ≡ group + 1
    longer one =
        let both = length-append before.each (one ∷ []) in
        omega (arith, both, before.as_many)

    counted : (one : RemarkedGroup) → one.remarks ≡ remarks → remarks_count (before.each ++ one ∷ []) ≡ count + more
    counted one same =
        let all = count_after before.each one in
        let own : length one.remarks ≡ length remarks = ap length same in
        omega (arith, all, own, many, before.counted)

-- all were
pub all_told : (network : NetworkRows) (slots : ℕ) (start : Option Start) (count : ℕ) (table : Table)
    (input output : List ℕ)
    → MeansNetwork input network
    → (before : AreToldBefore network slots start (groups_of (length network.cells)) count table)
    → output ≡ checked_network_text start before.each
    → IsRemarkedNetwork slots start input count output
all_told network slots start count table input output means before written = record {
  each = before.each;
  groups = groups_counted network (length before.each) input before.as_many means;
  remarked = before.remarked input means;
  counted = before.counted;
  written = written;
}
