-- How many calls a device over memory has left before it fails (own).
use Rattle.std.specs.Prelude.{ℕ, ◌-◌, Option, None, Some}

-- one call fewer, and none once there is none; at `None` the calls are not counted
abbrev pub after_one_call : Option ℕ → Option ℕ
after_one_call None = None
after_one_call (Some calls) = Some (calls - 1)
