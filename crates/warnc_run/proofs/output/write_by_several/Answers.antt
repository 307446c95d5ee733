use Rattle.std.proofs.Common.{◌<◌, List, ℕ, length, All, sym, subst}
use Rattle.warnc_run.proofs.Written.{tapes_have_octets}
use Rattle.warnc_run.proofs.output.write_by_several.Goals as goal

pub write_tapes-requires : goal.write_tapes-requires
write_tapes-requires g c =
    let are = c.in_ok-tapes.ensures.ok in
    subst (λ (tapes : List (List ℕ)). All (λ tape. 0 < length tape) tapes) (sym c.deref.ensures.value)
    (tapes_have_octets c.in_ok-tapes.tapes.items are.records are.made)
