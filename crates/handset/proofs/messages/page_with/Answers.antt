use Rattle.std.proofs.Common.{refl}
use Rattle.std.proofs.lemmas.Bool.{eq-eqb, ne_eqb}
use Rattle.handset.proofs.PageLaws.{found-with, last-with}
use Rattle.handset.proofs.messages.page_with.Goals as goal

pub returns-in-Some : goal.returns-in-Some
returns-in-Some c = found-with c.args.pages.now c.args.last.now c.args.number c.in-Some.page.now c.in-Some.ensures

pub returns-in-None : goal.returns-in-None
returns-in-None c =
    last-with c.args.pages.now c.args.last.now c.args.number _ c.in-None.ensures
    (rw (eq-eqb c.args.last.now.number c.args.number c.if-last-number.true) refl)

pub returns-in-None-2 : goal.returns-in-None-2
returns-in-None-2 c =
    last-with c.args.pages.now c.args.last.now c.args.number _ c.in-None.ensures
    (rw (ne_eqb c.args.last.now.number c.args.number c.if-last-number.false) refl)
