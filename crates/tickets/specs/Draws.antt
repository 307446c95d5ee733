-- The numbers that seats draw, and what a call makes of a seat.
use Rattle.std.specs.Prelude.{◌≡◌, ℕ, zero, suc, ◌+◌, ◌-◌, ◌≤◌, ◌==◌, if◌then◌else◌, List, [], ◌∷◌, ◌++◌, Bool, true}
use Rattle.std.specs.Prelude.{false, ◌||◌}
use Rattle.atomic_table.specs.Seated.{TableId}

-- how often x stands in a list
abbrev pub times : ℕ → List ℕ → ℕ
times x [] = 0
times x (y ∷ ys) = (if x == y then 1 else 0) + times x ys

-- the same numbers, each as often, in whatever order
abbrev pub AreSame : List ℕ → List ℕ → Type 0
AreSame xs ys = (x : ℕ) → times x xs ≡ times x ys

-- each number stands in the one list at most as often as in the other
abbrev pub IsNoMoreThan : List ℕ → List ℕ → Type 0
IsNoMoreThan xs ys = (x : ℕ) → times x xs ≤ times x ys

-- 0, 1, and so on, each once, without n
abbrev pub numbers_below : ℕ → List ℕ
numbers_below zero = []
numbers_below (suc n) = numbers_below n ++ n ∷ []

-- a counter: which it is, and how many numbers it has
pub record CounterState : Type 0 where
  pub table : TableId
  pub limit : ℕ

-- A seat: its counter and the counter's limit; how many of the counter's 65 parts it has; how often it may be split;
-- what it has drawn, the first first; and whether it, or a seat that it took in, was answered None.
pub record SeatState : Type 0 where
  pub table : TableId
  pub limit : ℕ
  pub parts : ℕ
  pub spare : ℕ
  pub drawn : List ℕ
  pub over : Bool

abbrev pub IsSeatOf : CounterState → SeatState → Type 0
IsSeatOf counter seat = (seat.table ≡ counter.table) × (seat.limit ≡ counter.limit)

-- how many parts of a counter its seats share, and how often seats can be split
abbrev pub all_parts : ℕ
all_parts = 65

abbrev pub all_splits : ℕ
all_splits = 64

-- the seat that a new counter comes with
abbrev pub first_seat : CounterState → SeatState
first_seat counter =
    record {
      table = counter.table;
      limit = counter.limit;
      parts = all_parts;
      spare = all_splits;
      drawn = [];
      over = false;
    }

-- after a draw that gave n
abbrev pub with_number : SeatState → ℕ → SeatState
with_number seat n = record {
  table = seat.table;
  limit = seat.limit;
  parts = seat.parts;
  spare = seat.spare;
  drawn = seat.drawn ++ n ∷ [];
  over = false;
}

-- after a draw that gave None
abbrev pub without_number : SeatState → SeatState
without_number seat = record {
  table = seat.table;
  limit = seat.limit;
  parts = seat.parts;
  spare = seat.spare;
  drawn = seat.drawn;
  over = true;
}

-- a split seat gives one part away
abbrev pub kept_seat : SeatState → SeatState
kept_seat seat = record {
  table = seat.table;
  limit = seat.limit;
  parts = seat.parts - 1;
  spare = seat.spare - 1;
  drawn = seat.drawn;
  over = seat.over;
}

-- the seat that a split makes: it has drawn nothing, and can't be split
abbrev pub new_seat : SeatState → SeatState
new_seat seat =
    record { table = seat.table; limit = seat.limit; parts = 1; spare = 0; drawn = []; over = false }

-- a seat that took in another
abbrev pub joined_seat : SeatState → SeatState → SeatState
joined_seat seat other = record {
  table = seat.table;
  limit = seat.limit;
  parts = seat.parts + other.parts;
  spare = seat.spare + other.spare;
  drawn = seat.drawn ++ other.drawn;
  over = seat.over || other.over;
}
