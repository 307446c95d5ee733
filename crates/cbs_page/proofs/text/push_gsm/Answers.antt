-- Plain septets are the octets of their text.
use Rattle.std.proofs.Common.{◌∙◌, sym}
use Rattle.cbs_page.proofs.PlainLaws.{plain_text}
use Rattle.cbs_page.proofs.PutLaws.{pushed_whole, pushed_none}
use Rattle.cbs_page.proofs.text.push_gsm.Goals as goal

pub returns-in-Ok-clause-pushed : goal.returns-in-Ok-clause-pushed
returns-in-Ok-clause-pushed c =
    pushed_whole c.push_str.result _ _ _ _ c.push_str.ensures.bytes
    (c.in-Ok.ensures.cases.0 ∙ sym (plain_text c.args.septets.now (sym c.if-are_plain.ensures)))

pub returns-in-Ok-clause-refused : goal.returns-in-Ok-clause-refused
returns-in-Ok-clause-refused c = pushed_none c.push_str.result _ _ _ _ c.push_str.ensures.bytes
