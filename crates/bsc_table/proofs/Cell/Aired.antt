-- What a plan airs from slot to slot.
use Rattle.std.proofs.Common.{◌≡◌, ℕ, ◌+◌, length, Option, List, [], ◌∷◌, ◌++◌, refl, ap, subst, sym, ◌∙◌, arith}
use Rattle.std.proofs.lemmas.List.{append-nil, append_assoc}
use Rattle.scheduler.specs.Message.{ScheduledMessage}
use Rattle.scheduler.specs.Air.{Air, IsChosen}
use Rattle.scheduler.specs.Follows.{PlanState, Follows, next_slot}
use Rattle.scheduler.proofs.Rule.{IsAirOf-next}
use Rattle.bsc_table.specs.Record.{Record, messages_in}
use Rattle.bsc_table.specs.Legal.{IsLegal}
use Rattle.bsc_table.specs.Transitions.{IsPlayedUpTo}
use Rattle.bsc_table.specs.BookSteps.{AreAired}

-- before its next slot a plan has aired nothing more
pub AreAired-none : (plan : PlanState) (slot : ℕ) (air : Air) → slot ≡ next_slot plan → AreAired slot plan plan air air
AreAired-none plan slot air at = record {
  more_air = ([], sym (append-nil air));
  asked = sym at;
  follows = λ messages follows. follows;
  by_rule = λ messages follows rule. rule;
}

-- and with a slot that airs what is chosen there it has aired one more
pub AreAired-next : (slot : ℕ) (before plan after : PlanState) (air aired : Air) (used : Option (ℕ × ℕ))
    → AreAired slot before plan air aired
    → next_slot after ≡ slot + 1
    → ((messages : List ScheduledMessage) (so_far : Air) → Follows plan messages so_far
    → IsChosen messages so_far slot used)
    → ((messages : List ScheduledMessage) (so_far : Air) → Follows plan messages so_far
    → Follows after messages (so_far ++ used ∷ []))
    → AreAired (slot + 1) before after air (aired ++ used ∷ [])
AreAired-next slot before plan after air aired used so_far asked chosen follows = record {
  more_air = (
    so_far.more_air.0 ++ used ∷ [],
    ap (λ (l : Air). l ++ used ∷ []) so_far.more_air.1
        ∙ append_assoc air so_far.more_air.0 (used ∷ []),
  );
  asked = asked;
  follows = λ messages from. follows messages aired (so_far.follows messages from);
  by_rule = λ messages from rule.
      let followed = so_far.follows messages from in
      let At : ℕ → Type 0 = λ n. IsChosen messages aired n used in
      let at : slot ≡ length aired = sym so_far.asked ∙ followed.asked in
      IsAirOf-next messages aired used (so_far.by_rule messages from rule)
      (subst At at (chosen messages aired followed));
}

-- so a record whose air list grows by what a plan airs that follows it is played up to there
pub IsPlayedUpTo-aired : (slot : ℕ) (r : Record) (plan planned : PlanState) (aired : Air)
    → IsLegal r
    → Follows plan (messages_in r.log) r.air
    → AreAired slot plan planned r.air aired
    → IsPlayedUpTo slot r (record r { clock = slot; air = aired })
IsPlayedUpTo-aired slot r plan planned aired legal follows more =
    let long : length aired ≡ slot = sym (more.follows (messages_in r.log) follows).asked ∙ more.asked in
    record {
      same_cell = refl;
      same_slots = refl;
      same_log = refl;
      clock_at = refl;
      more_air = more.more_air;
      places = long;
      by_rule = λ at from upto. more.by_rule (messages_in r.log) follows legal.aired at (omega (arith, long, upto));
    }
