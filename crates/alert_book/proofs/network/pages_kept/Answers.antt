use Rattle.std.proofs.Common.{◌∙◌, length-append, sym, refl, arith}
use Rattle.alert_book.proofs.KeptLaws.{pages_more, pages_none}
use Rattle.alert_book.proofs.network.pages_kept.Goals as goal

pub loop-paged-init : goal.loop-paged-init
loop-paged-init c = (refl, c.new-kept.ensures.items ∙ sym (pages_none c.args.orders.now))

pub loop-paged-preserved : goal.loop-paged-preserved
loop-paged-preserved c = (
  simp length-append (omega (arith, c.loop-paged.invariant.0)),
  c.in_ok-push_if.ensures
      ∙ rw (c.is_kept_at.ensures, c.loop-paged.invariant.0, c.loop-paged.invariant.1)
      (sym (pages_more c.args.orders.now c.loop-paged.yielded c.in-Some.paged)),
)
