use Rattle.std.proofs.Common.{◌≡◌, ◌++◌, Some, replicate, take, inl, inr}
use Rattle.std.proofs.lemmas.Bool.{cases_lt}
use Rattle.std.proofs.lemmas.Bool.Decides.{Decides-eqb}
use Rattle.std.proofs.lemmas.Slice.Eq.{strip_suffix_is}
use Rattle.cbs_page.proofs.TrailingLaws.{filled-after, length-front}
use Rattle.cbs_page.proofs.text.filled_from.Goals as goal

pub loop-front-preserved : goal.loop-front-preserved
loop-front-preserved c =
    let septets = c.args.septets.now in
    let front = c.in-Some.front.now in
    let whole : take c.loop-front.end septets ≡ front ++ replicate 8 13 =
    strip_suffix_is Decides-eqb (take c.loop-front.end septets) (replicate 8 13) (Some c.in-Some.front)
    c.in-Some.ensures.cases in (
      length-front septets front (replicate 8 13) c.loop-front.end whole,
      λ place past within.
          elim (cases_lt place c.loop-front.end) [
            | inl below ↦ filled-after septets front c.loop-front.end 8 place whole past below
            | inr above ↦ c.loop-front.invariant.1 place above within
          ],
    )
