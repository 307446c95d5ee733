-- The definitions on worked values.
use Rattle.std.proofs.Common.{◌≡◌, refl, Some, None, [], ◌∷◌, sum_by}
use Rattle.admission.specs.declared.budget.Held.{Held}
use Rattle.admission.specs.declared.measure.TheConstants.{SCALE}
use Rattle.admission.specs.Load.{load_of}
use Rattle.admission.specs.Reservation.{loads_at, end_of_reservation}
use Rattle.admission.specs.Table.{excess_over, passed}
use Rattle.admission.specs.Waiting.{held_now, held_at}

-- one page in each slot takes all, and one in every third slot takes a third
load_whole : load_of 1 1 ≡ 232792560
load_whole = refl

load_third : load_of 1 3 ≡ 77597520
load_third = refl

load_rounded : load_of 1 23 ≡ 10121416
load_rounded = refl

load_long : load_of 15 1024 ≡ 3410048
load_long = refl

-- two broadcasts of period 3 from slot 0 on run out at slot 6
end_run_out : end_of_reservation 0 3 2 None ≡ Some 6
end_run_out = refl

end_never : end_of_reservation 0 3 0 None ≡ None
end_never = refl

-- with period 4, a stop at slot 3 frees the load at slot 4, and one at slot 4 frees it at once
end_stopped : end_of_reservation 0 4 0 (Some 3) ≡ Some 4
end_stopped = refl

end_on_boundary : end_of_reservation 0 4 5 (Some 4) ≡ Some 4
end_on_boundary = refl

end_at_start : end_of_reservation 7 4 5 (Some 7) ≡ Some 7
end_at_start = refl

-- a reservation that ends at slot 6 is counted at slot 5 and not at slot 6
counted : loads_at (record { entry = 0; load = 5; start = 2; end = Some 6 } ∷ record
    { entry = 1; load = 7; start = 6; end = None } ∷ []) 5 ≡ 5
counted = refl

freed : loads_at (record { entry = 0; load = 5; start = 2; end = Some 6 } ∷ record
    { entry = 1; load = 7; start = 6; end = None } ∷ []) 6 ≡ 7
freed = refl

not_begun : loads_at (record { entry = 0; load = 5; start = 2; end = Some 6 } ∷ []) 1 ≡ 0
not_begun = refl

-- a quarter of the slots that ends at slot 4, a half, and a half that waits behind the quarter: until then it holds a
-- quarter
abbrev quarter : Held
quarter = record { entry = 0; load = 58198140; end = Some 4; waits = None }

abbrev half : Held
half = record { entry = 1; load = 116396280; end = None; waits = None }

abbrev waiting : Held
waiting = record {
  entry = 2;
  load = 116396280;
  end = None;
  waits = Some
      (record { behind = 0; start = 4; excess = 58198140 });
}

excess_of_a_half : excess_over 0 (load_of 1 2) (quarter ∷ half ∷ []) ≡ 58198140
excess_of_a_half = refl

full_while_it_waits : sum_by held_now (quarter ∷ half ∷ waiting ∷ []) ≡ SCALE
full_while_it_waits = refl

full_before_its_start : sum_by (held_at 3) (quarter ∷ half ∷ waiting ∷ []) ≡ SCALE
full_before_its_start = refl

full_from_its_start : sum_by (held_at 4) (quarter ∷ half ∷ waiting ∷ []) ≡ SCALE
full_from_its_start = refl

passed_its_start : passed 4 (quarter ∷ half ∷ waiting ∷ []) ≡ half ∷ record
    { entry = 2; load = 116396280; end = None; waits = None } ∷ []
passed_its_start = refl
