-- The load of a message (own): how much of a cell's slots its pages take, in parts of SCALE.
use Rattle.std.specs.Prelude.{ℕ, ◌*◌}
use Rattle.std.specs.Int.{div_ceil}
use Rattle.admission.specs.declared.measure.TheConstants.{SCALE}

-- SCALE for each page, over the slots of the period, rounded up
abbrev pub load_of : ℕ → ℕ → ℕ
load_of pages period = div_ceil (SCALE * pages) period
