use native.Mathlib.Omega.{arith}
use Rattle.warnc_run.proofs.network.fn.NetworkRun.parts_from.for_each_mut.Goals as goal

pub overflow_cast-place : goal.overflow_cast-place
overflow_cast-place g c = omega (arith, c.requires.there, c.captures.runs.few_groups)

pub overflow_add-first : goal.overflow_add-first
overflow_add-first g c = omega (arith, c.requires.there, c.captures.runs.few_groups)
