-- What is left, septet by septet, is the text of those after it.
use Rattle.std.proofs.Common.{◌∙◌, sym, ap, append-nil, string_bytes}
use Rattle.std.proofs.lemmas.Bool.{eq-eqb, ne_eqb}
use Rattle.cbs_page.proofs.PutLaws.{put_more, put_front, shows_extension, shows_nothing, shows_main}
use Rattle.cbs_page.proofs.text.push_decoded.Goals as goal
use Rattle.cbs_page.proofs.text.push_decoded.Goals.{then-escaped+in_ok-push, else-escaped+then-septet-eq-ESCAPE}
use Rattle.cbs_page.proofs.text.push_decoded.Goals.{else-escaped+else-septet-eq-ESCAPE+in_ok-push-2}

pub returns-in_err-push-clause-refused : goal.returns-in_err-push-clause-refused
returns-in_err-push-clause-refused c =
    put_front c.from_residual.result _ _ _ _ _ c.loop-septet.invariant c.in_err-push.ensures.bytes

pub returns-in_err-push-2-clause-refused : goal.returns-in_err-push-2-clause-refused
returns-in_err-push-2-clause-refused c =
    put_front c.from_residual-in_err-push-2.result _ _ _ _ _ c.loop-septet.invariant c.in_err-push-2.ensures.bytes

pub loop-septet-preserved : goal.loop-septet-preserved
loop-septet-preserved c =
    elim c.if-escaped.branch [
      | then-escaped+in_ok-push w ↦
          put_more _ _ _ _ _ _ _ c.loop-septet.invariant (ap string_bytes w.text-is ∙ w.in_ok-push.ensures.bytes)
          (shows_extension c.loop-septet.escaped c.if-escaped.escaped c.args.septets.now c.loop-septet.septet-index
          w.decode_ext.result c.loop-septet-test.true w.if-escaped.true w.escaped-is w.decode_ext.ensures)
      | else-escaped+then-septet-eq-ESCAPE w ↦
          put_more _ _ _ _ _ _ _ c.loop-septet.invariant
          (ap string_bytes w.text-is ∙ sym (append-nil (string_bytes c.loop-septet.text)))
          (shows_nothing c.loop-septet.escaped c.if-escaped.escaped c.args.septets.now c.loop-septet.septet-index
          c.loop-septet-test.true w.if-escaped.false w.escaped-is
          (eq-eqb _ 27 w.if-septet-eq-ESCAPE.true))
      | else-escaped+else-septet-eq-ESCAPE+in_ok-push-2 w ↦
          put_more _ _ _ _ _ _ _ c.loop-septet.invariant (ap string_bytes w.text-is ∙ w.in_ok-push-2.ensures.bytes)
          (shows_main c.loop-septet.escaped c.if-escaped.escaped c.args.septets.now c.loop-septet.septet-index
          w.decode_one.result c.loop-septet-test.true w.if-escaped.false (w.escaped-is ∙ w.if-escaped.false)
          (ne_eqb _ 27 w.if-septet-eq-ESCAPE.false) w.decode_one.ensures)
    ]
