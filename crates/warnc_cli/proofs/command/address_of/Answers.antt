use Rattle.std.proofs.Common.{List, ℕ, ap, ◌∙◌, ◌++◌, ◌∷◌, arith}
use Rattle.warnc_cli.proofs.command.address_of.Goals as goal

pub returns : goal.returns
returns c = record {
  first = c.in_ok-first.first.now;
  second = c.in_ok-second.second.now;
  third = c.in_ok-third.third.now;
  fourth = c.in_ok-third.fourth.now;
  joined =
      c.in_ok-first.ensures
      ∙ ap (λ (rest : List ℕ). c.in_ok-first.first.now ++ 46 ∷ rest)
      (c.in_ok-second.ensures ∙ ap (λ (rest : List ℕ). c.in_ok-second.second.now ++ 46 ∷ rest) c.in_ok-third.ensures);
  a = c.in_ok-a.a;
  b = c.in_ok-b.b;
  c = c.in_ok-c.c;
  d = c.in_ok-d.d;
  first_is = c.in_ok-a.ensures.number;
  second_is = c.in_ok-b.ensures.number;
  third_is = c.in_ok-c.ensures.number;
  fourth_is = c.in_ok-d.ensures.number;
  small = (c.in_ok-a.ensures.bound, c.in_ok-b.ensures.bound, c.in_ok-c.ensures.bound, c.in_ok-d.ensures.bound);
  value = c.from_be_bytes.ensures ∙ omega arith;
}
