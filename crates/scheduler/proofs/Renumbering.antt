-- Under other numbers in the same order, an air list by the rule stays one.
use Rattle.std.proofs.Common.{◌≡◌, ℕ, ◌+◌, ◌-◌, ◌≤◌, ◌<◌, ◌⊎◌, Bool, cond, eqb, List, [], ◌∷◌, take, drop, map, get_or}
use Rattle.std.proofs.Common.{count_by, Option, Some, None, inl, inr, refl, sym, ap, subst, ◌∙◌, arith}
use Rattle.std.proofs.lemmas.Bool.{cases_order}
use Rattle.std.proofs.lemmas.Bool.Decides.{eqb_tells}
use Rattle.std.proofs.lemmas.List.{get_or-map, length-map, take-map, drop-map}
use Rattle.std.proofs.lemmas.List.Elements.{All-map}
use Rattle.std.proofs.lemmas.List.Sums.{sum_by-cons}
use Rattle.scheduler.specs.Message.{ScheduledMessage, release}
use Rattle.scheduler.specs.Air.{Air, airs, pages_aired, class, IsPending, IsNoLater, IsServedBy, IsChosen, IsAirOf}
use Rattle.scheduler.specs.Renumbered.{KeepsOrder, renumbered, use_renumbered}

-- such a numbering takes different numbers to different ones
same_test : (f : ℕ → ℕ) → KeepsOrder f → (a b : ℕ) → eqb (f a) (f b) ≡ eqb a b
same_test f keeps a b =
    elim (eqb_tells a b) [
      | inl same ↦ elim (eqb_tells (f a) (f b)) [
        | inl told ↦ told.0 ∙ sym same.0
        | inr apart ↦ absurd (apart.1 (ap f same.1))
      ]
      | inr differ ↦ elim (eqb_tells (f a) (f b)) [
        | inl told ↦ elim (cases_order a b) [
          | inl equal ↦ absurd (differ.1 equal)
          | inr apart ↦ elim apart [
            | inl below ↦ absurd (omega (arith, keeps a b below, told.1))
            | inr above ↦ absurd (omega (arith, keeps b a above, told.1))
          ]
        ]
        | inr apart ↦ apart.0 ∙ sym differ.0
      ]
    ]

keeps_no_later : (f : ℕ → ℕ) → KeepsOrder f → (a b : ℕ) → a ≤ b → f a ≤ f b
keeps_no_later f keeps a b h =
    elim (cases_order a b) [
      | inl same ↦ omega (arith, ap f same)
      | inr apart ↦ elim apart [ inl below ↦ omega (arith, keeps a b below) | inr above ↦ absurd (omega arith) ]
    ]

says_no_later : (f : ℕ → ℕ) → KeepsOrder f → (a b : ℕ) → f a ≤ f b → a ≤ b
says_no_later f keeps a b h =
    elim (cases_order a b) [
      | inl same ↦ omega arith
      | inr apart ↦ elim apart [ inl below ↦ omega arith | inr above ↦ absurd (omega (arith, keeps b a above)) ]
    ]

same_airs : (f : ℕ → ℕ) → KeepsOrder f → (n : ℕ) (used : Option (ℕ × ℕ))
    → airs (f n) (use_renumbered f used) ≡ airs n used
same_airs f keeps n None = refl
same_airs f keeps n (Some used) = same_test f keeps used.0 n

same_count : (f : ℕ → ℕ) → KeepsOrder f → (n : ℕ) (air : Air)
    → count_by (airs (f n)) (map (use_renumbered f) air) ≡ count_by (airs n) air
same_count f keeps n [] = refl
same_count f keeps n (used ∷ air) =
    let one : Bool → ℕ = λ b. cond b 1 0 in
    let Uses : Option (ℕ × ℕ) → ℕ = λ x. one (airs (f n) x) in
    let Mine : Option (ℕ × ℕ) → ℕ = λ x. one (airs n x) in
    let mine : count_by (airs (f n)) (map (use_renumbered f) (used ∷ air)) ≡ one (airs (f n) (use_renumbered f used)) +
    count_by (airs (f n)) (map (use_renumbered f) air) = sum_by-cons Uses (use_renumbered f used)
    (map (use_renumbered f) air) in
    let theirs : one (airs n used) + count_by (airs n) air ≡ count_by (airs n) (used ∷ air) = sym
    (sum_by-cons Mine used air) in
    mine ∙ (ap (λ b. one b + count_by (airs (f n)) (map (use_renumbered f) air)) (same_airs f keeps n used)
    ∙ (ap (λ k. one (airs n used) + k) (same_count f keeps n air) ∙ theirs))

same_pages : (f : ℕ → ℕ) → KeepsOrder f → (n : ℕ) (air : Air) (from to : ℕ)
    → pages_aired (f n) (map (use_renumbered f) air) from to ≡ pages_aired n air from to
same_pages f keeps n air from to =
    let cut = ap (take (to - from)) (drop-map (use_renumbered f) from air)
    ∙ take-map (use_renumbered f) (to - from) (drop from air) in
    ap (count_by (airs (f n))) cut ∙ same_count f keeps n (take (to - from) (drop from air))

pending_renumbered : (f : ℕ → ℕ) → KeepsOrder f → (m : ScheduledMessage) (j : ℕ) (air : Air) (slot : ℕ)
    → IsPending m j air slot
    → IsPending (renumbered f m) j (map (use_renumbered f) air) slot
pending_renumbered f keeps m j air slot p = record {
  requested = p.requested;
  released = p.released;
  not_due = p.not_due;
  standing = p.standing;
  unfinished = omega (arith, p.unfinished, same_pages f keeps m.entry air (release m j) slot);
}

pending_as_before : (f : ℕ → ℕ) → KeepsOrder f → (m : ScheduledMessage) (j : ℕ) (air : Air) (slot : ℕ)
    → IsPending (renumbered f m) j (map (use_renumbered f) air) slot → IsPending m j air slot
pending_as_before f keeps m j air slot p = record {
  requested = p.requested;
  released = p.released;
  not_due = p.not_due;
  standing = p.standing;
  unfinished = omega (arith, p.unfinished, same_pages f keeps m.entry air (release m j) slot);
}

no_later_renumbered : (f : ℕ → ℕ) → KeepsOrder f → (a b : ScheduledMessage) (i j : ℕ) → IsNoLater a i b j
    → IsNoLater (renumbered f a) i (renumbered f b) j
no_later_renumbered f keeps a b i j h =
    elim h [ inl sooner ↦ inl sooner | inr tied ↦ inr (tied.0, in_class tied.1) ]
  where
    in_class : ((class a < class b) ⊎ ((class a ≡ class b) × (a.entry ≤ b.entry)))
        → (class a < class b) ⊎ ((class a ≡ class b) × (f a.entry ≤ f b.entry))
    in_class x = elim x [
      | inl above ↦ inl above
      | inr same ↦ inr
          (same.0, keeps_no_later f keeps a.entry b.entry same.1)
    ]

served_renumbered : (f : ℕ → ℕ)
    → KeepsOrder f
    → (a b : ScheduledMessage) (i j : ℕ)
    → IsServedBy a i b j
    → IsServedBy (renumbered f a) i (renumbered f b) j
served_renumbered f keeps a b i j h =
    elim h [ inl above ↦ inl above | inr same ↦ inr (same.0, no_later_renumbered f keeps a b i j same.1) ]

chosen_renumbered : (f : ℕ → ℕ) → KeepsOrder f → (messages : List ScheduledMessage) (air : Air) (slot : ℕ)
    (used : Option (ℕ × ℕ)) → IsChosen messages air slot used
    → IsChosen (map (renumbered f) messages) (map (use_renumbered f) air) slot (use_renumbered f used)
chosen_renumbered f keeps messages air slot None x =
    All-map (λ o. (j : ℕ) → ¬ IsPending o j (map (use_renumbered f) air) slot) (renumbered f) messages
    (λ k d within. λ j p. x k d within j (pending_as_before f keeps (get_or messages k d) j air slot p))
chosen_renumbered f keeps messages air slot (Some used) x =
    let m = x.1 in (
      x.0,
      renumbered f m,
      omega (arith, length-map messages (renumbered f), x.2),
      get_or-map (renumbered f) messages x.0 m (renumbered f m) x.2 ∙ ap (renumbered f) x.3,
      (
        x.4.0,
        record {
          pending = pending_renumbered f keeps m x.4.0 air slot x.4.1.pending;
          first = All-map (λ o. (k : ℕ) → IsPending o k (map (use_renumbered f) air) slot
              → IsServedBy (renumbered f m) x.4.0 o k) (renumbered f) messages
              (λ k d within. λ i p. served_renumbered f keeps m (get_or messages k d) x.4.0 i
              (x.4.1.first k d within i (pending_as_before f keeps (get_or messages k d) i air slot p)));
        },
        ap (λ (u : ℕ × ℕ). (f u.0, u.1)) x.4.2 ∙ ap (λ n. (f m.entry, n + 1))
            (sym (same_pages f keeps m.entry air (release m x.4.0) slot)),
      ),
    )

-- with other numbers in the same order messages have the same air
pub IsAirOf-renumbered : (messages : List ScheduledMessage) (air : Air) (f : ℕ → ℕ) → KeepsOrder f
    → IsAirOf messages air
    → IsAirOf (map (renumbered f) messages) (map (use_renumbered f) air)
IsAirOf-renumbered messages air f keeps rule = λ slot within.
    let long = length-map air (use_renumbered f) in
    let Chosen : Option (ℕ × ℕ) → Type 0 = λ u. IsChosen (map (renumbered f) messages) (map (use_renumbered f) air)
    slot u in
    subst Chosen (sym (get_or-map (use_renumbered f) air slot None None (omega (arith, long, within))))
    (chosen_renumbered f keeps messages air slot (get_or air slot None) (rule slot (omega (arith, long, within))))
