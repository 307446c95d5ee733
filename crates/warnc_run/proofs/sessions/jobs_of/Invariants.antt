use Rattle.std.proofs.Common.{◌≡◌, ◌<◌, ◌≤◌, All, vec_len}
use Rattle.warnc_run.proofs.sessions.jobs_of.Given as goal

abbrev pub invariant-loop-part : goal.invariant-loop-part
invariant-loop-part g l = All (λ job. job.part < l.parts) l.jobs.items × (vec_len l.jobs ≡ l.part) × (l.part ≤ l.parts)
