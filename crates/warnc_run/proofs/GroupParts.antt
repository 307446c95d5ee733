-- The parts of a network's groups, one after the other.
use Rattle.std.proofs.Common.{◌≡◌, ℕ, suc, ◌+◌, ◌<◌, ◌≤◌, ◌∙◌, List, [], ◌∷◌, ◌++◌, length, take, drop}
use Rattle.std.proofs.Common.{OnOk, false, true}
use Rattle.std.proofs.Common.{append-nil, ap, get_or, inl, inr, refl, subst, sym, IfErr, IfOk, Option, Result, Ok, Err}
use native.Mathlib.Omega.{arith}
use Rattle.std.proofs.KnownBytes.{Appends-nil, Appends-trans}
use Rattle.std.proofs.Math.Seq.{drop-cons, take-append-add}
use Rattle.std.proofs.lemmas.Grind.{flat_map-append}
use Rattle.std.proofs.lemmas.List.{length-append, take-append-drop, take-append-le}
use Rattle.std.specs.Io.KnownBytes.{Appends, Consumes, IsAtEnd}
use Rattle.device_ends.specs.Moves.{ReadsUpTo}
use Rattle.device_ends.specs.Sink.{sink_failed}
use Rattle.device_ends.specs.Source.{source_failed}
use Rattle.device_ends.specs.declared.reading.Source.{Source}
use Rattle.device_ends.specs.declared.writing.Sink.{Sink}
use Rattle.alert_book.specs.declared.fault.BookFault.{BookFault}
use Rattle.alert_book.specs.declared.network.Origin.TheVariants as origin
use Rattle.alert_book.specs.Book.{Contents}
use Rattle.alert_book.specs.Network.{HasGroups, IsGroupBook, IsNoNetworkBook, MeansNetwork, NetworkRows, read_in}
use Rattle.alert_book.specs.Network.{RefusesNetwork}
use Rattle.warnc_run.specs.declared.fault.RunFault.{RunFault}
use Rattle.warnc_run.specs.declared.fault.RunFault.TheVariants as run
use Rattle.warnc_run.specs.Faults.{IsOfBook}
use Rattle.warnc_run.specs.declared.product.ProductFault.{ProductFault}
use Rattle.warnc_run.specs.declared.product.ProductFault.TheVariants as fault
use Rattle.warnc_run.specs.declared.parts.Part.{Part}
use Rattle.warnc_run.specs.Engine.{IsEngineAtEnds}
use Rattle.warnc_run.specs.Made.{Makes}
use Rattle.warnc_run.specs.Network.{joined_parts, ArePartsFrom, GroupRuns, HasNoPart, IsNetworkFault, IsOfNetwork}
use Rattle.warnc_run.specs.Network.{IsPartOf}
use Rattle.warnc_run.specs.NetworkSteps.{is_of_writer, octets_of_part, AreGroupsOf, AreMadeFor, HasNoEmptyTape}
use Rattle.warnc_run.specs.NetworkSteps.{IsMadeOf, IsWritten, StopsAt, StopsParts, StopsPartsOf, WritesFrontOf}
use Rattle.warnc_run.specs.NetworkSteps.{WritesParts, WritesPartsFront, WritesPartsOf}
use Rattle.warnc_run.specs.RunSteps.{IsSomeBook, TakesFront}

-- what a writer took of tapes before it failed is a front of them, and not all
pub front_of_tapes : (tapes : List (List ℕ)) (written : ℕ) (old new : Option (List ℕ))
    → 0 < length tapes
    → TakesFront tapes written old new
    → WritesFrontOf (joined_parts tapes) old new
front_of_tapes tapes written old new some taken =
    (length front + written, less, subst (Appends old new) (sym same) taken.appended)
  where
    within : taken.place < length tapes
    within = taken.within some

    front : List ℕ
    front = joined_parts (take taken.place tapes)

    tape : List ℕ
    tape = get_or tapes taken.place []

    rest : List ℕ
    rest = joined_parts (drop (suc taken.place) tapes)

    whole : joined_parts tapes ≡ front ++ (tape ++ rest)
    whole =
        ap joined_parts (sym (take-append-drop taken.place tapes))
        ∙ flat_map-append (λ (part : List ℕ). part) (take taken.place tapes) (drop taken.place tapes)
        ∙ ap (λ (left : List (List ℕ)). front ++ joined_parts left) (drop-cons tapes taken.place [] within)

    less : length front + written < length (joined_parts tapes)
    less =
        let all = ap length whole in
        let both = length-append front (tape ++ rest) in
        let own = length-append tape rest in
        let part = taken.less within in
        omega (arith, all, both, own, part)

    same : take (length front + written) (joined_parts tapes) ≡ front ++ take written tape
    same =
        let less = taken.less within in
        ap (take (length front + written)) whole
        ∙ take-append-add front (tape ++ rest) written
        ∙ ap (λ (octets : List ℕ). front ++ octets) (take-append-le written tape rest (omega (arith, less)))

-- parts of some groups, and of those after them
parts_join : (runs : GroupRuns) (input : List ℕ) (group : ℕ) (front back : List (List ℕ))
    → ArePartsFrom runs input group front
    → ArePartsFrom runs input (group + length front) back
    → ArePartsFrom runs input group (front ++ back)
parts_join runs input group [] back each more =
    let same : group + 0 ≡ group = omega arith in
    subst (λ (g : ℕ). ArePartsFrom runs input g back) same more
parts_join runs input group (part ∷ front) back each more =
    let same : group + length (part ∷ front) ≡ group + 1 + length front = omega arith in (
      each.0,
      parts_join runs input (group + 1) front back each.1
          (subst (λ (g : ℕ). ArePartsFrom runs input g back) same more),
    )

-- parts that were written, and those written after them
pub parts_after : (runs : GroupRuns) (group n m from : ℕ) (input : List ℕ) (a b c : Option (List ℕ))
    → from ≡ group + n
    → WritesParts runs group n input a b
    → WritesParts runs from m input b c
    → WritesParts runs group (n + m) input a c
parts_after runs group n m from input a b c at before after =
    let same : from ≡ group + length before.parts = omega (arith, at, before.count_is) in record {
      parts = before.parts ++ after.parts;
      count_is = let both = length-append before.parts after.parts in
          omega (arith, both, before.count_is, after.count_is);
      each = parts_join runs input group before.parts after.parts before.each
          (subst (λ (g : ℕ). ArePartsFrom runs input g after.parts) same after.each);
      appended = subst (Appends a c)
          (sym (flat_map-append (λ (part : List ℕ). part) before.parts after.parts))
          (Appends-trans a b c (joined_parts before.parts) (joined_parts after.parts) before.appended after.appended);
    }

-- at first none is
pub no_parts : (runs : GroupRuns) (group : ℕ) (input : List ℕ) (a : Option (List ℕ))
    → WritesParts runs group 0 input a a
no_parts runs group input a = record { parts = []; count_is = refl; each = tt; appended = Appends-nil a }

-- one part
one_part : (runs : GroupRuns) (group : ℕ) (input octets : List ℕ) (a b : Option (List ℕ))
    → IsPartOf runs group input octets
    → Appends a b octets
    → WritesParts runs group 1 input a b
one_part runs group input octets a b is wrote = record {
  parts = octets ∷ [];
  count_is = refl;
  each = (is, tt);
  appended = subst (Appends a b) (sym (append-nil octets)) wrote;
}

-- and one more
pub part_after : (runs : GroupRuns) (group i : ℕ) (input : List ℕ) (part : Part) (a b c : Option (List ℕ))
    → WritesParts runs group i input a b
    → IsPartOf runs (group + i) input (octets_of_part part)
    → Appends b c (octets_of_part part)
    → WritesParts runs group (i + 1) input a c
part_after runs group i input part a b c before is wrote =
    parts_after runs group i 1 (group + i) input a b c refl before
    (one_part runs (group + i) input (octets_of_part part) b c is wrote)

-- whole parts, and then a front of some
front_after : (runs : GroupRuns) (group n m most from : ℕ) (input : List ℕ) (a b c : Option (List ℕ))
    → from ≡ group + n
    → WritesParts runs group n input a b
    → WritesPartsFront runs from m input b c
    → n + m ≤ most
    → WritesPartsFront runs group most input a c
front_after runs group n m most from input a b c at before after fits =
    let same : from ≡ group + length before.parts = omega (arith, at, before.count_is) in
    let whole = joined_parts before.parts in
    let both = length-append before.parts after.parts in
    let all : joined_parts (before.parts ++ after.parts) ≡ whole ++ joined_parts after.parts =
    flat_map-append (λ (part : List ℕ). part) before.parts after.parts in
    let long = ap length all in
    let sum = length-append whole (joined_parts after.parts) in
    let octets : take (length whole + after.front.0) (joined_parts (before.parts ++ after.parts))
    ≡ whole ++ take after.front.0 (joined_parts after.parts) =
    ap (take (length whole + after.front.0)) all
    ∙ take-append-add whole (joined_parts after.parts) after.front.0 in record {
      parts = before.parts ++ after.parts;
      few = omega (arith, both, before.count_is, after.few, fits);
      each = parts_join runs input group before.parts after.parts before.each
          (subst (λ (g : ℕ). ArePartsFrom runs input g after.parts) same after.each);
      front = (
        length whole + after.front.0,
        omega (arith, long, sum, after.front.1),
        subst (Appends a c) (sym octets)
            (Appends-trans a b c whole (take after.front.0 (joined_parts after.parts)) before.appended after.front.2),
      );
    }

-- a stop after whole parts
pub stop_after : (runs : GroupRuns) (group n m most from : ℕ) (input : List ℕ) (a b c : Option (List ℕ))
    (f : ProductFault)
    → from ≡ group + n
    → WritesParts runs group n input a b
    → StopsParts runs from m input b c f
    → n + m ≤ most
    → StopsParts runs group most input a c f
stop_after runs group n m most from input a b c (fault.Run f) at before stops fits = absurd stops
stop_after runs group n m most from input a b c (fault.Group g f) at before (done, is, less, wrote, none) fits = (
  n + done,
  omega (arith, is, at),
  omega (arith, less, fits),
  parts_after runs group n done from input a b c at before wrote,
  none,
)
stop_after runs group n m most from input a b c fault.WriteFailed at before stops fits =
    front_after runs group n m most from input a b c at before stops fits

-- a group that has no part, or whose part a writer didn't take, stops the parts
pub stop_at : (runs : GroupRuns) (group i number count : ℕ) (input : List ℕ) (came : Result Part RunFault)
    (a b c : Option (List ℕ)) (f : ProductFault)
    → i < count
    → number ≡ group + i
    → WritesParts runs group i input a b
    → IsMadeOf runs (group + i) input came
    → StopsAt came number b c f
    → StopsParts runs group count input a c f
stop_at runs group i number count input came a b c (fault.Run f) less at before of stops = absurd stops
stop_at runs group i number count input came a b c (fault.Group g f) less at before of (is, none, kept) = (
  i,
  is ∙ at,
  less,
  subst (WritesParts runs group i input a) kept before,
  subst (λ (n : ℕ). HasNoPart runs.slots runs.parts n input f) (sym (is ∙ at))
      (subst (IsMadeOf runs (group + i) input) none of),
)
stop_at runs group i number count input came a b c fault.WriteFailed less at before of (part, is, front) =
    front_after runs group i 1 count (group + i) input a b c refl before
    (record {
      parts = octets_of_part part ∷ [];
      few = omega arith;
      each = ((subst (IsMadeOf runs (group + i) input) is of).0, tt);
      front = subst (λ (octets : List ℕ). WritesFrontOf octets b c) (sym (append-nil (octets_of_part part))) front;
    }) (omega (arith, less))

-- the parts of all groups are the network's
pub of_network : (runs : GroupRuns) (input : List ℕ) (first last old new : Option (List ℕ))
    → Consumes first last input
    → IsAtEnd last
    → HasGroups 0 input runs.groups
    → WritesParts runs 0 runs.groups input old new
    → Makes (IsOfNetwork runs.made runs.slots runs.parts) first last old new
of_network runs input first last old new read ended counted wrote = record {
  input = input;
  output = joined_parts wrote.parts;
  read = read;
  ended = ended;
  meant = record {
    groups = runs.groups;
    counted = counted;
    parts = wrote.parts;
    as_many = wrote.count_is;
    each = wrote.each;
    written = refl;
  };
  appended = wrote.appended;
}

-- and a stop is a fault of it
pub fault_of_parts : (runs : GroupRuns) (input : List ℕ) (first last old new : Option (List ℕ)) (f : ProductFault)
    → Consumes first last input
    → IsAtEnd last
    → HasGroups 0 input runs.groups
    → StopsParts runs 0 runs.groups input old new f
    → IsNetworkFault runs.made runs.slots runs.parts first last old new f
fault_of_parts runs input first last old new (fault.Run f) read ended counted stops = absurd stops
fault_of_parts runs input first last old new (fault.Group g f) read ended counted (done, is, less, wrote, none) = (
  record {
    input = input;
    output = joined_parts wrote.parts;
    read = read;
    ended = ended;
    meant = record {
      groups = runs.groups;
      counted = counted;
      few = omega (arith, is, less);
      parts = wrote.parts;
      as_many = omega (arith, is, wrote.count_is);
      each = wrote.each;
      written = refl;
    };
    appended = wrote.appended;
  },
  omega (arith, is, less),
  none,
)
fault_of_parts runs input first last old new fault.WriteFailed read ended counted stops = (
  length stops.parts,
  record {
    input = input;
    output = joined_parts stops.parts;
    read = read;
    ended = ended;
    meant = record {
      groups = runs.groups;
      counted = counted;
      few = stops.few;
      parts = stops.parts;
      as_many = refl;
      each = stops.each;
      written = refl;
    };
    front = (stops.front.0, λ some. stops.front.1, stops.front.2);
  },
)

-- why the octets that were read are no network book
pub refused_network : (first last : Option (List ℕ)) (input : List ℕ) (f : BookFault)
    → ReadsUpTo first last input 67108864
    → IsNoNetworkBook 0 input f
    → RefusesNetwork first last 0 f
refused_network first last input f read (inl out) =
    record { input = input; consumed = read.consumed; bounded = read.bounded; why = inl out }
refused_network first last input f read (inr (inl long)) = record {
  input = input;
  consumed = read.consumed;
  bounded = read.bounded;
  why = inr (inr (inl (long.0, omega (arith, long.1, read.bounded))));
}
refused_network first last input f read (inr (inr wrong)) = record {
  input = input;
  consumed = read.consumed;
  bounded = read.bounded;
  why = inr (inr (inr (read.ended wrong.0, wrong)));
}

-- a group's book is some book
pub a_book : (group : ℕ) (input : List ℕ) (book : Contents) → IsGroupBook group input book → IsSomeBook book
a_book group input book is = (origin.Group group, input, is)

-- a run of it that ended early made no part
pub no_part : (slots parts group : ℕ) (input : List ℕ) (book : Contents) (f : RunFault) → IsGroupBook group input book
    → IsOfBook book slots parts f
    → HasNoPart slots parts group input f
no_part slots parts group input book (run.Book f) is of = (book, is, of)
no_part slots parts group input book (run.NoGroup groups) is of = (book, is, of)
no_part slots parts group input book (run.Desk f) is of = (book, is, of)
no_part slots parts group input book (run.Settle f) is of = (book, is, of)
no_part slots parts group input book (run.Compile f) is of = (book, is, of)
no_part slots parts group input book (run.Write failed) is of = (book, is, of)
no_part slots parts group input book run.Refused is of = tt

-- no tape of a part is empty
pub no_empty_tape : (runs : GroupRuns) (group : ℕ) (input : List ℕ) (came : Result Part RunFault)
    → IsMadeOf runs group input came
    → IfOk came HasNoEmptyTape
no_empty_tape runs group input (Ok part) of = of.1
no_empty_tape runs group input (Err f) of = tt

-- a part that was written is one more
pub written_after : (runs : GroupRuns) (group i : ℕ) (input : List ℕ) (came : Result Part RunFault)
    (a b c : Option (List ℕ))
    → WritesParts runs group i input a b
    → IsMadeOf runs (group + i) input came
    → IsWritten came b c
    → WritesParts runs group (i + 1) input a c
written_after runs group i input (Ok part) a b c before of wrote =
    part_after runs group i input part a b c before of.0 wrote
written_after runs group i input (Err f) a b c before of wrote = absurd wrote

-- what came of the group at a place
pub made_at : (runs : GroupRuns) (group : ℕ) (network : NetworkRows) (input : List ℕ)
    (all shown : List (Result Part RunFault)) (i : ℕ) (came : Result Part RunFault)
    → AreMadeFor runs group network all
    → MeansNetwork input network
    → shown ≡ all
    → i < length shown
    → came ≡ get_or shown i came
    → IsMadeOf runs (group + i) input came
made_at runs group network input all shown i came each means same within is =
    let at : came ≡ get_or all i came =
    subst (λ (rs : List (Result Part RunFault)). came ≡ get_or rs i came) same is in
    subst (IsMadeOf runs (group + i) input) (sym at)
    ((each i came (subst (λ (rs : List (Result Part RunFault)). i < length rs) same within)).made input means)

-- octets that mean a network have its groups
pub groups_counted : (network : NetworkRows) (groups : ℕ) (input : List ℕ) → AreGroupsOf network groups
    → MeansNetwork input network → HasGroups 0 input groups
groups_counted network groups input count means =
    record { rows = read_in 0 network; network = means 0; count = count }

-- the faults of a run of the groups whose octets were read
pub faults_of_parts : (runs : GroupRuns) (network : NetworkRows) (octets judged : List ℕ)
    (first last old new : Option (List ℕ)) (r : Result (Unit {0}) ProductFault)
    → ReadsUpTo first last octets 67108864
    → judged ≡ octets
    → MeansNetwork judged network
    → AreGroupsOf network runs.groups
    → IfErr r (StopsPartsOf runs 0 runs.groups network old new)
    → IfErr r (IsNetworkFault runs.made runs.slots runs.parts first last old new)
faults_of_parts runs network octets judged first last old new (Ok done) read is means count stops = tt
faults_of_parts runs network octets judged first last old new (Err f) read is means count stops =
    let own = subst (λ (i : List ℕ). MeansNetwork i network) is means in
    fault_of_parts runs octets first last old new f read.consumed (read.ended (own 0).bounded)
    (groups_counted network runs.groups octets count own) (stops octets own)

-- and the parts of all
pub network_made : (runs : GroupRuns) (network : NetworkRows) (octets judged : List ℕ)
    (first last old new : Option (List ℕ)) (r : Result (Unit {0}) ProductFault)
    → ReadsUpTo first last octets 67108864
    → judged ≡ octets
    → MeansNetwork judged network
    → AreGroupsOf network runs.groups
    → OnOk r (WritesPartsOf runs 0 runs.groups network old new)
    → OnOk r (Makes (IsOfNetwork runs.made runs.slots runs.parts) first last old new)
network_made runs network octets judged first last old new (Err f) read is means count wrote = tt
network_made runs network octets judged first last old new (Ok done) read is means count wrote =
    let own = subst (λ (i : List ℕ). MeansNetwork i network) is means in
    of_network runs octets first last old new read.consumed (read.ended (own 0).bounded)
    (groups_counted network runs.groups octets count own) (wrote octets own)

-- a writer that had failed before takes nothing
pub nothing_taken : (runs : GroupRuns) (network : NetworkRows) (octets judged : List ℕ)
    (first last old : Option (List ℕ))
    → ReadsUpTo first last octets 67108864
    → judged ≡ octets
    → MeansNetwork judged network
    → AreGroupsOf network runs.groups
    → IsNetworkFault runs.made runs.slots runs.parts first last old old fault.WriteFailed
nothing_taken runs network octets judged first last old read is means count =
    let own = subst (λ (i : List ℕ). MeansNetwork i network) is means in (
      0,
      record {
        input = octets;
        output = [];
        read = read.consumed;
        ended = read.ended (own 0).bounded;
        meant = record {
          groups = runs.groups;
          counted = groups_counted network runs.groups octets count own;
          few = omega arith;
          parts = [];
          as_many = refl;
          each = tt;
          written = refl;
        };
        front = (0, λ some. some, Appends-nil old);
      },
    )

-- and at any reader and any writer
pub ends_of : {R W : Type 0} (runs : GroupRuns) (network : NetworkRows) (octets : List ℕ)
    (a b : Option (List ℕ)) (result : Result (Unit {0}) ProductFault) (held : W → Option (List ℕ))
    (first last : Source R) (old new : Sink W)
    → MeansNetwork octets network
    → source_failed last ≡ false
    → (source_failed first ≡ true → last ≡ first)
    → sink_failed old ≡ false
    → OnOk result (sink_failed new ≡ false)
    → IfErr result (λ f. sink_failed new ≡ is_of_writer f)
    → IfErr result (StopsPartsOf runs 0 runs.groups network a b)
    → IsEngineAtEnds result held first last old new
ends_of runs network octets a b (Ok done) held first last old new means read stays good well failed stops = record {
  not_failed = well;
  nothing_written = tt;
  untouched = tt;
  read = (λ is. absurd (cc is), λ is. absurd (cc (read, is)));
  write = tt;
  others = tt;
  source_stays = stays;
  sink_stays = λ is. absurd (cc (good, is));
}
ends_of runs network octets a b (Err (fault.Run f)) held first last old new means read stays good well failed stops =
    absurd (stops octets means)
ends_of runs network octets a b (Err (fault.Group g f)) held first last old new means read stays good well failed stops
    =
    record {
      not_failed = tt;
      nothing_written = λ no. absurd (no tt);
      untouched = λ no. absurd (no tt);
      read = (λ is. absurd (cc is), λ is. absurd (cc (read, is)));
      write = λ is. absurd is;
      others = λ other. failed ∙ sym good;
      source_stays = stays;
      sink_stays = λ is. absurd (cc (good, is));
    }
ends_of runs network octets a b (Err fault.WriteFailed) held first last old new means read stays good well failed stops
    =
    record {
      not_failed = tt;
      nothing_written = λ no. absurd (no tt);
      untouched = λ no. absurd (no tt);
      read = (λ is. absurd (cc is), λ is. absurd (cc (read, is)));
      write = λ is. failed;
      others = λ other. absurd (other tt);
      source_stays = stays;
      sink_stays = λ is. absurd (cc (good, is));
    }
